-- Each form of a tree as plain data, and what it does whatever its place.
use Rattle.std.proofs.Common.{◌≡◌, ℕ, Bool, true, false, List, Option, Some, None, map, Result, Ok, ap, sym, subst, ◌∙◌, refl, rules}
use Rattle.std.specs.declared.alloc.Global.{Global}
use Rattle.std.specs.declared.vec.Vec.{Vec}
use Rattle.nm_base.specs.declared.fault.Fault.{Fault}
use Rattle.nm_base.specs.declared.int_type.IntType.{IntType}
use Rattle.nesc_core.specs.declared.tree.CoreExpr as rust_expr
use Rattle.nesc_core.specs.Plain.{Exprs}
use Rattle.nesc_core.specs.View.{exprs_of as core_exprs_of}
use Rattle.nesc_types.specs.Rule.{Rule}
use Rattle.elab_meaning.specs.Answers.{Follows, Gives}
use Rattle.elab_meaning.specs.declared.scope.Item as rust_item
use Rattle.elab_meaning.specs.Wired.{parameter}
use Rattle.nm_base.specs.declared.pos.Pos.{Pos}
use Rattle.nesc_tree.specs.declared.tree.InOp.{InOp}
use Rattle.nesc_tree.specs.declared.tree.Expr as tree
use Rattle.nesc_tree.specs.declared.tree.TypeSpec as tree_type
use Rattle.nesc_tree.specs.Plain as s
use Rattle.nesc_tree.specs.View.{expr_of, exprs_of, spec_of}
use Rattle.elab_meaning.specs.declared.work.Work.{Work}
use Rattle.elab_meaning.specs.Elab.{State, after, by}
use Rattle.elab_meaning.specs.Operators.{item_named}
use Rattle.elab_meaning.specs.Scope as scope
use Rattle.elab_meaning.specs.View.{env_of, item_of, state_of}
use Rattle.elab_forms.specs.declared.forms.Told.{Told}
use Rattle.elab_forms.specs.Parts.{item_call, parameter_missing}
use Rattle.elab_forms.specs.Trees.{maybe_of, nowhere}
use Rattle.elab_exprs.specs.Walk.{AreExprs, constant_at, found_at, item_call_at, parameter_at}
use Rattle.elab_exprs.proofs.Faults.{by_follows}

pub assign_is : (whole : tree.Expr) (o : Option InOp) (a b x y : tree.Expr) (at : Pos) → whole ≡ tree.Assign o a b at → x ≡ a → y ≡ b
    → expr_of whole ≡ s.assign o (expr_of x) (expr_of y) at
assign_is whole o a b x y at is p q = ap expr_of is ∙ expr_is ∙ ap (λ z. s.assign o (expr_of z) (expr_of b) at) (sym p) ∙ ap (λ z. s.assign o (expr_of x) (expr_of z) at) (sym q) where
  expr_is : expr_of (tree.Assign o a b at) ≡ s.assign o (expr_of a) (expr_of b) at
  expr_is = search (rules, tree.the_lemmas)

pub binary_is : (whole : tree.Expr) (o : InOp) (a b x y : tree.Expr) (at : Pos) → whole ≡ tree.Binary o a b at → x ≡ a → y ≡ b
    → expr_of whole ≡ s.binary o (expr_of x) (expr_of y) at
binary_is whole o a b x y at is p q = ap expr_of is ∙ expr_is ∙ ap (λ z. s.binary o (expr_of z) (expr_of b) at) (sym p) ∙ ap (λ z. s.binary o (expr_of x) (expr_of z) at) (sym q) where
  expr_is : expr_of (tree.Binary o a b at) ≡ s.binary o (expr_of a) (expr_of b) at
  expr_is = search (rules, tree.the_lemmas)

pub index_is : (whole : tree.Expr) (a b x y : tree.Expr) (at : Pos) → whole ≡ tree.Index a b at → x ≡ a → y ≡ b
    → expr_of whole ≡ s.index (expr_of x) (expr_of y) at
index_is whole a b x y at is p q = ap expr_of is ∙ expr_is ∙ ap (λ z. s.index (expr_of z) (expr_of b) at) (sym p) ∙ ap (λ z. s.index (expr_of x) (expr_of z) at) (sym q) where
  expr_is : expr_of (tree.Index a b at) ≡ s.index (expr_of a) (expr_of b) at
  expr_is = search (rules, tree.the_lemmas)

pub comma_is : (whole : tree.Expr) (a b x y : tree.Expr) (at : Pos) → whole ≡ tree.Comma a b at → x ≡ a → y ≡ b
    → expr_of whole ≡ s.comma (expr_of x) (expr_of y) at
comma_is whole a b x y at is p q = ap expr_of is ∙ expr_is ∙ ap (λ z. s.comma (expr_of z) (expr_of b) at) (sym p) ∙ ap (λ z. s.comma (expr_of x) (expr_of z) at) (sym q) where
  expr_is : expr_of (tree.Comma a b at) ≡ s.comma (expr_of a) (expr_of b) at
  expr_is = search (rules, tree.the_lemmas)

pub port_write_is : (whole : tree.Expr) (a b x y : tree.Expr) (at : Pos) → whole ≡ tree.PortWrite a b at → x ≡ a → y ≡ b
    → expr_of whole ≡ s.port_write (expr_of x) (expr_of y) at
port_write_is whole a b x y at is p q = ap expr_of is ∙ expr_is ∙ ap (λ z. s.port_write (expr_of z) (expr_of b) at) (sym p) ∙ ap (λ z. s.port_write (expr_of x) (expr_of z) at) (sym q) where
  expr_is : expr_of (tree.PortWrite a b at) ≡ s.port_write (expr_of a) (expr_of b) at
  expr_is = search (rules, tree.the_lemmas)

pub choice_is : (whole : tree.Expr) (a b d x y z : tree.Expr) (at : Pos) → whole ≡ tree.Cond a b d at → x ≡ a → y ≡ b → z ≡ d
    → expr_of whole ≡ s.choice (expr_of x) (expr_of y) (expr_of z) at
choice_is whole a b d x y z at is p q r =
    ap expr_of is ∙ expr_is ∙ ap (λ u. s.choice (expr_of u) (expr_of b) (expr_of d) at) (sym p) ∙ ap (λ u. s.choice (expr_of x) (expr_of u) (expr_of d) at) (sym q)
    ∙ ap (λ u. s.choice (expr_of x) (expr_of y) (expr_of u) at) (sym r) where
      expr_is : expr_of (tree.Cond a b d at) ≡ s.choice (expr_of a) (expr_of b) (expr_of d) at
      expr_is = search (rules, tree.the_lemmas)

pub cast_is : (whole : tree.Expr) (t : tree_type.TypeSpec) (a x : tree.Expr) (at : Pos) → whole ≡ tree.Cast t a at → x ≡ a
    → expr_of whole ≡ s.cast (spec_of t) (expr_of x) at
cast_is whole t a x at is p = ap expr_of is ∙ expr_is ∙ ap (λ z. s.cast (spec_of t) (expr_of z) at) (sym p) where
  expr_is : expr_of (tree.Cast t a at) ≡ s.cast (spec_of t) (expr_of a) at
  expr_is = search (rules, tree.the_lemmas)

pub call_fn_is : (whole f x : tree.Expr) (args : List tree.Expr) (at : Pos) → whole ≡ tree.CallFn f args at → x ≡ f
    → expr_of whole ≡ s.call_fn (expr_of x) (exprs_of args) at
call_fn_is whole f x args at is p = ap expr_of is ∙ expr_is ∙ ap (λ z. s.call_fn (expr_of z) (exprs_of args) at) (sym p) where
  expr_is : expr_of (tree.CallFn f args at) ≡ s.call_fn (expr_of f) (exprs_of args) at
  expr_is = search (rules, tree.the_lemmas)

pub call_item_is : (whole : tree.Expr) (signal : Bool) (element item : List ℕ) (param : Option tree.Expr) (args : List tree.Expr) (at : Pos)
    → whole ≡ tree.CallItem signal element item param args at
    → expr_of whole ≡ s.call_item signal element item (maybe_of param) (exprs_of args) at
call_item_is whole signal element item param args at is = ap expr_of is ∙ search (rules, tree.the_lemmas)

pub maybe_is : (param : Option tree.Expr) (a x : tree.Expr) → param ≡ Some a → x ≡ a → maybe_of param ≡ s.some_expr (expr_of x)
maybe_is param a x is p = ap maybe_of is ∙ ap (λ z. s.some_expr (expr_of z)) (sym p)

-- ---- some forms look at no place of their own

pub binary_anywhere : (t : Told) (whole : Pos) (o : InOp) (a b : s.Expr) (at : Pos) (evaluated : Bool) (w : Work)
    → constant_at t whole (s.binary o a b at) evaluated w ≡ constant_at t whole (s.binary o a b nowhere) evaluated w
unfolding constant_at
binary_anywhere t whole o a b at evaluated w = refl

pub choice_anywhere : (t : Told) (whole : Pos) (a b d : s.Expr) (at : Pos) (evaluated : Bool) (w : Work)
    → constant_at t whole (s.choice a b d at) evaluated w ≡ constant_at t whole (s.choice a b d nowhere) evaluated w
unfolding constant_at
choice_anywhere t whole a b d at evaluated w = refl

pub comma_anywhere : (t : Told) (whole : Pos) (a b : s.Expr) (at : Pos) (evaluated : Bool) (w : Work)
    → constant_at t whole (s.comma a b at) evaluated w ≡ constant_at t whole (s.comma a b nowhere) evaluated w
unfolding constant_at
comma_anywhere t whole a b at true w = refl
comma_anywhere t whole a b at false w = refl

pub port_write_anywhere : (t : Told) (a b : s.Expr) (at : Pos) (w : Work) → found_at t (s.port_write a b at) w ≡ found_at t (s.port_write a b nowhere) w
unfolding found_at
port_write_anywhere t a b at w = refl

-- an item that is called, once it is named
pub call_item_found : (t : Told) (signal : Bool) (element item : List ℕ) (param : s.MaybeExpr) (args : s.Exprs) (at : Pos) (i : ℕ × scope.Item) (items : List rust_item.Item) (w : Work)
    → items ≡ t.env.items → item_named at signal (scope.item_from 0 (map item_of items) element item) ≡ Ok i
    → found_at t (s.call_item signal element item param args at) w ≡ item_call_at t at i param args w
unfolding found_at item_call_at
call_item_found t signal element item param args at i items w same is =
    ap (λ xs. after (by (item_named at signal (scope.item_from 0 (map item_of xs) element item)) (state_of w)) (λ j. item_call (env_of t.env) t.values at j param args)) (sym same)
    ∙ ap (λ r. after (by r (state_of w)) (λ j. item_call (env_of t.env) t.values at j param args)) is

-- no argument for an element's parameter
missing : (t : Told) (at : Pos) (ty : Option IntType) (st : State) → parameter (env_of t.env) t.values at ty s.no_expr st ≡ by (parameter_missing at ty) st
missing t at None st = refl
missing t at (Some x) st = refl

pub parameter_none : (t : Told) (at : Pos) (ty : Option IntType) (p : Option tree.Expr) (w : Work) (r : Result (Vec rust_expr.CoreExpr Global) Fault)
    → p ≡ None → Follows (λ v. core_exprs_of v.items) r (parameter_missing at ty) → AreExprs r w (parameter_at t at ty (maybe_of p) w)
unfolding AreExprs parameter_at
parameter_none t at ty p w r e f =
    subst (λ (q : s.MaybeExpr). Gives (λ v. core_exprs_of v.items) r (state_of w) (parameter (env_of t.env) t.values at ty q (state_of w))) (sym (ap maybe_of e))
    (subst (λ (q : Rule (Exprs × State)). Gives (λ v. core_exprs_of v.items) r (state_of w) q) (sym (missing t at ty (state_of w))) (by_follows (λ v. core_exprs_of v.items) r (parameter_missing at ty) (state_of w) f))
