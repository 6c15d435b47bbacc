-- How large statements are: what a walk over them calls itself with is smaller.
use Rattle.std.proofs.Common.{◌≡◌, ℕ, ◌+◌, ◌<◌, List, drop, length, map, get_or, Option, Some, None, ap, sym, ◌∙◌, refl}
use Rattle.nesc_tree.specs.Plain as s
use Rattle.nesc_tree.specs.declared.declarations.Stmt as rust_stmt
use Rattle.body_meaning.specs.Tree.{Stmt, Stmts, MaybeStmt, no_stmts, more_stmts, no_stmt, some_stmt}
use Rattle.body_meaning.specs.Tree as tree
use Rattle.body_meaning.specs.View.{stmt_of, stmts}
use Rattle.elab_forms.proofs.Lists.{next_of}
use Rattle.elab_pieces.specs.Flow.{Label, block_in, label_in}
use Rattle.elab_pieces.specs.Flow as flow

abbrev mutual
  pub size : Stmt → ℕ
  size (tree.block xs at) = 1 + sizes xs
  size (tree.empty at) = 1
  size (tree.eval e at) = 1
  size (tree.atomic x at) = 1 + size x
  size (tree.branch e x other at) = 1 + size x + maybe_size other
  size (tree.while e x at) = 1 + size x
  size (tree.do_while x e at) = 1 + size x
  size (tree.for start test step x at) = 1 + size x
  size (tree.switch e x at) = 1 + size x
  size (tree.case e x at) = 1 + size x
  size (tree.default x at) = 1 + size x
  size (tree.break at) = 1
  size (tree.continue at) = 1
  size (tree.return e at) = 1
  size (tree.local d at) = 1

  pub sizes : Stmts → ℕ
  sizes no_stmts = 0
  sizes (more_stmts x xs) = size x + sizes xs

  pub maybe_size : MaybeStmt → ℕ
  maybe_size no_stmt = 0
  maybe_size (some_stmt x) = size x

pub sizes_next : (xs : List rust_stmt.Stmt) (k : ℕ) (x : rust_stmt.Stmt) → k < length xs → x ≡ get_or xs k x
    → sizes (stmts (map stmt_of (drop k xs))) ≡ size (stmt_of x) + sizes (stmts (map stmt_of (drop (k + 1) xs)))
sizes_next xs k x below is = ap (λ (ys : List rust_stmt.Stmt). sizes (stmts (map stmt_of ys))) (next_of xs k x below is)

-- by what stands in a statement

abbrev pub label_size : Label → Stmt → ℕ
label_size (flow.case e x) whole = 1 + size x
label_size (flow.default x) whole = 1 + size x
label_size flow.nothing whole = size whole

pub by_label : (x : Stmt) → size x ≡ label_size (label_in x) x
by_label (tree.block xs at) = refl
by_label (tree.empty at) = refl
by_label (tree.eval e at) = refl
by_label (tree.atomic x at) = refl
by_label (tree.branch e x other at) = refl
by_label (tree.while e x at) = refl
by_label (tree.do_while x e at) = refl
by_label (tree.for start test step x at) = refl
by_label (tree.switch e x at) = refl
by_label (tree.case e x at) = refl
by_label (tree.default x at) = refl
by_label (tree.break at) = refl
by_label (tree.continue at) = refl
by_label (tree.return e at) = refl
by_label (tree.local d at) = refl

abbrev pub block_size : Option Stmts → Stmt → ℕ
block_size (Some xs) whole = 1 + sizes xs
block_size None whole = size whole

pub by_block : (x : Stmt) → size x ≡ block_size (block_in x) x
by_block (tree.block xs at) = refl
by_block (tree.empty at) = refl
by_block (tree.eval e at) = refl
by_block (tree.atomic x at) = refl
by_block (tree.branch e x other at) = refl
by_block (tree.while e x at) = refl
by_block (tree.do_while x e at) = refl
by_block (tree.for start test step x at) = refl
by_block (tree.switch e x at) = refl
by_block (tree.case e x at) = refl
by_block (tree.default x at) = refl
by_block (tree.break at) = refl
by_block (tree.continue at) = refl
by_block (tree.return e at) = refl
by_block (tree.local d at) = refl

pub case_size : (x y : Stmt) (e : s.Expr) → label_in x ≡ flow.case e y → size x ≡ 1 + size y
case_size x y e is = by_label x ∙ ap (λ (l : Label). label_size l x) is

pub default_size : (x y : Stmt) → label_in x ≡ flow.default y → size x ≡ 1 + size y
default_size x y is = by_label x ∙ ap (λ (l : Label). label_size l x) is

pub block_in_size : (x : Stmt) (xs : Stmts) → block_in x ≡ Some xs → size x ≡ 1 + sizes xs
block_in_size x xs is = by_block x ∙ ap (λ (o : Option Stmts). block_size o x) is

pub ruleset labels = (case_size, default_size)

pub ruleset blocks = (block_in_size)
