-- Each form of an expression, place or statement as plain data.
use Rattle.std.proofs.Common.{◌≡◌, ℕ, ℤ, Bool, Option, ap, ◌∙◌, rules, Box, Global}
use Rattle.nm_base.specs.declared.int_type.IntType.{IntType}
use Rattle.nm_base.specs.declared.pos.Pos.{Pos}
use Rattle.nesc_core.specs.declared.tree.UnOp.{UnOp}
use Rattle.nesc_core.specs.declared.tree.BinOp.{BinOp}
use Rattle.nesc_core.specs.declared.tree.CoreType.{CoreType}
use Rattle.nesc_core.specs.declared.tree.CoreExpr.{CoreExpr}
use Rattle.nesc_core.specs.declared.tree.CoreExpr as expr
use Rattle.nesc_core.specs.declared.tree.Place as tree_place
use Rattle.nesc_core.specs.declared.tree.CoreStmt.{CoreStmt}
use Rattle.nesc_core.specs.declared.tree.CoreStmt as stmt
use Rattle.nesc_core.specs.Plain as p
use Rattle.nesc_core.specs.View.{type_of, expr_of, place_of, maybe_expr_of, stmt_of}

-- ---- expressions

pub expr_is-Const : (whole : CoreExpr) (t : IntType) (x : ℤ) → whole ≡ expr.Const t x → expr_of whole ≡ p.const t x
expr_is-Const whole t x is = ap expr_of is ∙ search (rules, expr.the_lemmas)

pub expr_is-Null : (whole : CoreExpr) → whole ≡ expr.Null → expr_of whole ≡ p.null
expr_is-Null whole is = ap expr_of is ∙ search (rules, expr.the_lemmas)

pub expr_is-Read : (whole : CoreExpr) (place : tree_place.Place) (at : Pos) → whole ≡ expr.Read place at → expr_of whole ≡ p.read (place_of place) at
expr_is-Read whole place at is = ap expr_of is ∙ search (rules, expr.the_lemmas)

pub expr_is-Addr : (whole : CoreExpr) (place : tree_place.Place) → whole ≡ expr.Addr place → expr_of whole ≡ p.addr (place_of place)
expr_is-Addr whole place is = ap expr_of is ∙ search (rules, expr.the_lemmas)

pub expr_is-Un : (whole : CoreExpr) (op : UnOp) (t : IntType) (a : Box CoreExpr Global) → whole ≡ expr.Un op t a → expr_of whole ≡ p.un op t (expr_of a.value)
expr_is-Un whole op t a is = ap expr_of is ∙ search (rules, expr.the_lemmas)

pub expr_is-Bin : (whole : CoreExpr) (op : BinOp) (t : IntType) (a b : Box CoreExpr Global) → whole ≡ expr.Bin op t a b → expr_of whole ≡ p.bin op t (expr_of a.value) (expr_of b.value)
expr_is-Bin whole op t a b is = ap expr_of is ∙ search (rules, expr.the_lemmas)

pub expr_is-Convert : (whole : CoreExpr) (t : IntType) (a : Box CoreExpr Global) → whole ≡ expr.Convert t a → expr_of whole ≡ p.convert t (expr_of a.value)
expr_is-Convert whole t a is = ap expr_of is ∙ search (rules, expr.the_lemmas)

pub expr_is-Offset : (whole : CoreExpr) (a b : Box CoreExpr Global) (n : ℕ) → whole ≡ expr.Offset a b n → expr_of whole ≡ p.offset (expr_of a.value) (expr_of b.value) n
expr_is-Offset whole a b n is = ap expr_of is ∙ search (rules, expr.the_lemmas)

pub expr_is-Distance : (whole : CoreExpr) (a b : Box CoreExpr Global) (n : ℕ) → whole ≡ expr.Distance a b n → expr_of whole ≡ p.distance (expr_of a.value) (expr_of b.value) n
expr_is-Distance whole a b n is = ap expr_of is ∙ search (rules, expr.the_lemmas)

pub expr_is-And : (whole : CoreExpr) (a b : Box CoreExpr Global) → whole ≡ expr.And a b → expr_of whole ≡ p.both (expr_of a.value) (expr_of b.value)
expr_is-And whole a b is = ap expr_of is ∙ search (rules, expr.the_lemmas)

pub expr_is-Or : (whole : CoreExpr) (a b : Box CoreExpr Global) → whole ≡ expr.Or a b → expr_of whole ≡ p.either (expr_of a.value) (expr_of b.value)
expr_is-Or whole a b is = ap expr_of is ∙ search (rules, expr.the_lemmas)

pub expr_is-Cond : (whole : CoreExpr) (a b c : Box CoreExpr Global) → whole ≡ expr.Cond a b c → expr_of whole ≡ p.choice (expr_of a.value) (expr_of b.value) (expr_of c.value)
expr_is-Cond whole a b c is = ap expr_of is ∙ search (rules, expr.the_lemmas)

pub expr_is-Assign : (whole : CoreExpr) (place : tree_place.Place) (a : Box CoreExpr Global) (at : Pos) → whole ≡ expr.Assign place a at → expr_of whole ≡ p.assign (place_of place) (expr_of a.value) at
expr_is-Assign whole place a at is = ap expr_of is ∙ search (rules, expr.the_lemmas)

pub expr_is-Update : (whole : CoreExpr) (place : tree_place.Place) (op : BinOp) (t : IntType) (a : Box CoreExpr Global) (old : Bool) (at : Pos) → whole ≡ expr.Update place op t a old at → expr_of whole ≡ p.update (place_of place) op t (expr_of a.value) old at
expr_is-Update whole place op t a old at is = ap expr_of is ∙ search (rules, expr.the_lemmas)

pub expr_is-Post : (whole : CoreExpr) (k : ℕ) → whole ≡ expr.Post k → expr_of whole ≡ p.post k
expr_is-Post whole k is = ap expr_of is ∙ search (rules, expr.the_lemmas)

pub expr_is-In : (whole : CoreExpr) (port : ℕ) → whole ≡ expr.In port → expr_of whole ≡ p.port_in port
expr_is-In whole port is = ap expr_of is ∙ search (rules, expr.the_lemmas)

pub expr_is-Out : (whole : CoreExpr) (port : ℕ) (a : Box CoreExpr Global) → whole ≡ expr.Out port a → expr_of whole ≡ p.port_out port (expr_of a.value)
expr_is-Out whole port a is = ap expr_of is ∙ search (rules, expr.the_lemmas)

pub expr_is-Comma : (whole : CoreExpr) (a b : Box CoreExpr Global) → whole ≡ expr.Comma a b → expr_of whole ≡ p.comma (expr_of a.value) (expr_of b.value)
expr_is-Comma whole a b is = ap expr_of is ∙ search (rules, expr.the_lemmas)

-- ---- places

pub place_is-Object : (whole : tree_place.Place) (k : ℕ) → whole ≡ tree_place.Object k → place_of whole ≡ p.object k
place_is-Object whole k is = ap place_of is ∙ search (rules, tree_place.the_lemmas)

pub place_is-Local : (whole : tree_place.Place) (k : ℕ) → whole ≡ tree_place.Local k → place_of whole ≡ p.local k
place_is-Local whole k is = ap place_of is ∙ search (rules, tree_place.the_lemmas)

pub place_is-Deref : (whole : tree_place.Place) (a : Box CoreExpr Global) (t : CoreType) → whole ≡ tree_place.Deref a t → place_of whole ≡ p.deref (expr_of a.value) (type_of t)
place_is-Deref whole a t is = ap place_of is ∙ search (rules, tree_place.the_lemmas)

pub place_is-Index : (whole : tree_place.Place) (base : Box tree_place.Place Global) (a : Box CoreExpr Global) → whole ≡ tree_place.Index base a → place_of whole ≡ p.index (place_of base.value) (expr_of a.value)
place_is-Index whole base a is = ap place_of is ∙ search (rules, tree_place.the_lemmas)

pub place_is-Field : (whole : tree_place.Place) (base : Box tree_place.Place Global) (k : ℕ) → whole ≡ tree_place.Field base k → place_of whole ≡ p.field (place_of base.value) k
place_is-Field whole base k is = ap place_of is ∙ search (rules, tree_place.the_lemmas)

-- ---- statements

pub stmt_is-Eval : (whole : CoreStmt) (e : CoreExpr) → whole ≡ stmt.Eval e → stmt_of whole ≡ p.eval (expr_of e)
stmt_is-Eval whole e is = ap stmt_of is ∙ search (rules, stmt.the_lemmas)

pub stmt_is-If : (whole : CoreStmt) (e : CoreExpr) (a b : Box CoreStmt Global) → whole ≡ stmt.If e a b → stmt_of whole ≡ p.branch (expr_of e) (stmt_of a.value) (stmt_of b.value)
stmt_is-If whole e a b is = ap stmt_of is ∙ search (rules, stmt.the_lemmas)

pub stmt_is-Loop : (whole : CoreStmt) (first : Bool) (test : CoreExpr) (step : Option CoreExpr) (body : Box CoreStmt Global) → whole ≡ stmt.Loop first test step body → stmt_of whole ≡ p.loop first (expr_of test) (maybe_expr_of step) (stmt_of body.value)
stmt_is-Loop whole first test step body is = ap stmt_of is ∙ search (rules, stmt.the_lemmas)

pub stmt_is-Break : (whole : CoreStmt) → whole ≡ stmt.Break → stmt_of whole ≡ p.break
stmt_is-Break whole is = ap stmt_of is ∙ search (rules, stmt.the_lemmas)

pub stmt_is-Continue : (whole : CoreStmt) → whole ≡ stmt.Continue → stmt_of whole ≡ p.continue
stmt_is-Continue whole is = ap stmt_of is ∙ search (rules, stmt.the_lemmas)

pub stmt_is-Return : (whole : CoreStmt) (e : Option CoreExpr) → whole ≡ stmt.Return e → stmt_of whole ≡ p.return (maybe_expr_of e)
stmt_is-Return whole e is = ap stmt_of is ∙ search (rules, stmt.the_lemmas)

pub stmt_is-Atomic : (whole : CoreStmt) (s : Box CoreStmt Global) → whole ≡ stmt.Atomic s → stmt_of whole ≡ p.atomic (stmt_of s.value)
stmt_is-Atomic whole s is = ap stmt_of is ∙ search (rules, stmt.the_lemmas)

pub stmt_is-Clear : (whole : CoreStmt) (k : ℕ) → whole ≡ stmt.Clear k → stmt_of whole ≡ p.clear k
stmt_is-Clear whole k is = ap stmt_of is ∙ search (rules, stmt.the_lemmas)
