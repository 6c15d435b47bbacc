-- Worked rows of `unique` and `uniqueCount`.
use Rattle.std.specs.Prelude.{◌≡◌, ℕ, true, false, map, List, [], ◌∷◌, codes, Some, None, Result, Ok, Err}
use Rattle.nm_base.specs.declared.pos.Pos.{Pos}
use Rattle.nesc_tree.specs.declared.tree.TypeSpec.{TypeSpec}
use Rattle.nesc_tree.specs.declared.tree.Expr as tree
use Rattle.nesc_tree.specs.declared.tree.InOp.TheVariants as op
use Rattle.nesc_tree.specs.declared.components.ConfLine.TheVariants as conf
use Rattle.nesc_tree.specs.View.{expr_of}
use Rattle.nesc_tree.specs.Plain as p
use Rattle.wire_instances.specs.declared.plan.Made.{Made}
use Rattle.wire_instances.specs.declared.naming.Stop.{Stop}
use Rattle.wire_units.specs.declared.loaded.Loaded.{Loaded}
use Rattle.wire_units.specs.Plans.{created_of}
use Rattle.wire_units.specs.Rows.{pos, configuration, generic_configuration, module_of, named, new_as, end, main, boot, init}
use Rattle.wire_uniques.specs.declared.used.Use.{Use}
use Rattle.wire_uniques.specs.Expressions.{Uses, in_expr}
use Rattle.wire_uniques.specs.Numbers.{numbered, count_of, starts_of}
use Rattle.wire_uniques.specs.Parts.{in_link, uses_of}

abbrev pub is_unique : tree.Expr → List ℕ → Pos → Type 0
is_unique e text at = expr_of e ≡ p.unique text at

abbrev pub column : ℕ → Pos
column col = record { file = 0; line = 3; col = col }

abbrev pub used : List ℕ → ℕ → Use
used text col = record { text = text; at = column col; is_count = false }

abbrev pub counted : List ℕ → ℕ → Use
counted text col = record { text = text; at = column col; is_count = true }

-- unique("a") + uniqueCount("b")
abbrev pub sum : p.Expr
sum = p.binary op.Add (p.unique (codes "a") (column 5)) (p.unique_count (codes "b") (column 19)) (column 5)

-- uniqueCount("a"), unique("a"), uniqueCount("b"), unique("a"), uniqueCount("a")
abbrev pub mixed : Uses
mixed = counted (codes "a") 1 ∷ used (codes "a") 2 ∷ counted (codes "b") 3 ∷ used (codes "a") 4 ∷ counted (codes "a") 5 ∷ []

abbrev pub texts : List (List ℕ) → Uses
texts ts = map (λ (t : List ℕ). used t 1) ts

abbrev pub numbers : List Loaded → Result (List Made) Stop → List ℕ
numbers units (Ok made) = numbered [] (uses_of units made)
numbers units (Err e) = []

abbrev pub starts : List Loaded → Result (List Made) Stop → List ℕ
starts units (Ok made) = starts_of units made
starts units (Err e) = []

module _ (t : TypeSpec) (e : tree.Expr) where
  -- an application with three timers, each an instance of a generic configuration that uses the expression in a bracket
  abbrev pub timers : List Loaded
  timers =
      configuration (codes "A") [] (
      new_as t (codes "T") (codes "Timer0") (pos 0 4) ∷ new_as t (codes "T") (codes "Timer1") (pos 0 5) ∷ new_as t (codes "T") (codes "Timer2") (pos 0 6) ∷ [])
      ∷ main t ∷ boot t ∷ init t
      ∷ generic_configuration (codes "T") [] [] (
      named t (codes "P") (pos 4 4)
      ∷ conf.Equate (end t (codes "Timer")) (record { first = codes "P"; second = Some (codes "Timer"); param = Some e }) (pos 4 5) ∷ [])
      ∷ module_of (codes "P") []
      ∷ []

-- the three instances of `T` have the constants 0, 1 and 2
pub record WorkedRows (t : TypeSpec) : Type 0 where
  pub three : (e : tree.Expr) → is_unique e (codes "T") (pos 4 5) → numbers (timers t e) (created_of (timers t e) 0 (pos 0 9) 1) ≡ 0 ∷ 1 ∷ 2 ∷ []
  -- the application, T, P, T, T and MainC
  pub places : (e : tree.Expr) → is_unique e (codes "T") (pos 4 5) → starts (timers t e) (created_of (timers t e) 0 (pos 0 9) 1) ≡ 0 ∷ 0 ∷ 1 ∷ 1 ∷ 2 ∷ 3 ∷ []
  pub by_text : numbered [] (texts (codes "a" ∷ codes "b" ∷ codes "a" ∷ codes "ab" ∷ codes "a" ∷ codes "b" ∷ [])) ≡ 0 ∷ 0 ∷ 1 ∷ 0 ∷ 2 ∷ 1 ∷ []
  pub counts : count_of (texts (codes "a" ∷ codes "b" ∷ codes "a" ∷ [])) (codes "a") ≡ 2
  pub unused : count_of (texts (codes "a" ∷ [])) (codes "c") ≡ 0
  -- what asks for a count stands among the uses and is none
  pub asked : in_expr sum ≡ used (codes "a") 5 ∷ counted (codes "b") 19 ∷ []
  pub asked_only : count_of (counted (codes "t") 1 ∷ counted (codes "t") 2 ∷ []) (codes "t") ≡ 0
  pub asked_and_used : count_of mixed (codes "a") ≡ 2
  pub asked_beside : count_of mixed (codes "b") ≡ 0
  pub numbered_beside : numbered [] (used (codes "a") 1 ∷ counted (codes "a") 2 ∷ used (codes "a") 3 ∷ []) ≡ 0 ∷ 1 ∷ 1 ∷ []
  -- `B[unique("b")] <- A[unique("a")]` begins with the end that it leads to
  pub from_the_right : (a b : tree.Expr) → is_unique a (codes "a") (record { file = 0; line = 3; col = 20 }) → is_unique b (codes "b") (record { file = 0; line = 3; col = 5 })
      → in_link (record { first = codes "A"; second = None; param = Some a }) (record { first = codes "B"; second = None; param = Some b }) ≡ used (codes "b") 5 ∷ used (codes "a") 20 ∷ []
  pub from_the_left : (a b : tree.Expr) → is_unique a (codes "a") (record { file = 0; line = 3; col = 5 }) → is_unique b (codes "b") (record { file = 0; line = 3; col = 20 })
      → in_link (record { first = codes "A"; second = None; param = Some a }) (record { first = codes "B"; second = None; param = Some b }) ≡ used (codes "a") 5 ∷ used (codes "b") 20 ∷ []
