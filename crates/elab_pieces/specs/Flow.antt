-- Scopes, the labels of a switch, and what stands in a statement (own).
use Rattle.std.specs.Prelude.{ℕ, ℤ, [], ◌∷◌, ◌++◌, length, map, take, Option, Some, None}
use Rattle.nesc_core.specs.View.{case_of, stmt_of as core_stmt_of}
use Rattle.nesc_tree.specs.Plain as s
use Rattle.nesc_tree.specs.View.{expr_of}
use Rattle.elab_meaning.specs.Elab.{State}
use Rattle.body_meaning.specs.Tree.{Stmt, Stmts}
use Rattle.body_meaning.specs.Tree as tree
use Rattle.body_meaning.specs.View.{stmt_of}
use Rattle.body_meaning.specs.Stmts.{Labelled, empty}
use Rattle.elab_pieces.specs.declared.labels.Labelled as rust_labelled
use Rattle.elab_pieces.specs.declared.scopes.Outer as rust_outer
use Rattle.elab_pieces.specs.declared.shapes.Label as rust_label
use Rattle.elab_pieces.specs.declared.shapes.Label.TheVariants as L

-- ---- scopes

-- how many names and tags are in force outside of a scope, and where the scope around it begins
pub record Outer : Type 0 where
  pub names : ℕ
  pub tags : ℕ
  pub first_name : ℕ
  pub first_tag : ℕ

abbrev pub outer_of : rust_outer.Outer → Outer
outer_of o = record { names = o.names; tags = o.tags; first_name = o.first_name; first_tag = o.first_tag }

abbrev pub outer : State → Outer
outer s = record { names = length s.names; tags = length s.tags; first_name = s.first_name; first_tag = s.first_tag }

abbrev pub entered : State → State
entered s = record s { first_name = length s.names; first_tag = length s.tags }

abbrev pub left : Outer → State → State
left o s = record s { names = take o.names s.names; tags = take o.tags s.tags; first_name = o.first_name; first_tag = o.first_tag }

-- ---- labels

abbrev pub labelled_of : rust_labelled.Labelled → Labelled
labelled_of l = record { cases = map case_of l.cases.items; code = map core_stmt_of l.code.items }

-- one label more, behind what is there
abbrev pub added : Option ℤ → Labelled → Labelled
added value l = record { cases = l.cases ++ (record { value = value; start = length l.code } ∷ []); code = l.code ++ (empty ∷ []) }

-- a statement behind its label, or one that has none
pub data Label : Type 0 where
  case : s.Expr → Stmt → Label
  default : Stmt → Label
  nothing : Label

abbrev pub label_in : Stmt → Label
label_in (tree.case e x at) = case e x
label_in (tree.default x at) = default x
label_in _ = nothing

abbrev pub label_of : rust_label.Label → Label
label_of (L.Case e x) = case (expr_of e.now) (stmt_of x.now)
label_of (L.Default x) = default (stmt_of x.now)
label_of L.Nothing = nothing

abbrev pub block_in : Stmt → Option Stmts
block_in (tree.block xs at) = Some xs
block_in _ = None
