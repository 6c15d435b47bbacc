-- Worked rows: the limits of the whole, by modules with so many tasks or so large variables (own).
use Rattle.std.specs.Prelude.{◌≡◌, ℕ, ◌+◌, false, List, [], ◌∷◌, ◌++◌, codes, map, Option, Some, None, Ok, Err}
use Rattle.std.specs.List.{range_with_len}
use Rattle.nm_base.specs.declared.fault.Fault.{Fault}
use Rattle.nm_base.specs.declared.fault.Fault.TheVariants.{Limit}
use Rattle.nm_base.specs.declared.limit.Which.TheVariants as which
use Rattle.nm_base.specs.declared.int_type.IntType.TheVariants.{U8}
use Rattle.nesc_core.specs.Plain.{Program}
use Rattle.nesc_tree.specs.Plain as s
use Rattle.nesc_tree.specs.declared.declarations.FuncKind.TheVariants as kind
use Rattle.nesc_types.specs.Rule.{Rule}
use Rattle.body_meaning.specs.Tree as tree
use Rattle.body_meaning.specs.Tree.{Decl, some_stmt}
use Rattle.program_meaning.specs.Parts.{Application}
use Rattle.program_meaning.specs.RowForms.{plain, head, block, var, tree_exprs}
use Rattle.program_meaning.specs.PlainRows.{application, at}
use Rattle.program_meaning.specs.Program.{wired}

-- task void t() { }, where the name ends with the number k
abbrev pub task : (k : ℕ) → Decl
task k = tree.function (head kind.Task (codes "t" ++ (k ∷ [])) None None false false (plain s.void) [] [] (at (3 + k) 13)) (some_stmt (block [] (at (3 + k) 18)))

abbrev pub tasks : (count : ℕ) → Application
tasks count = application (codes "M") (map task (range_with_len 0 count))

abbrev pub array : (name length : List ℕ) → (col : ℕ) → tree.Variable
array name length col = var 0 name (tree_exprs (s.number length (at 3 (col + 2)) ∷ [])) None (at 3 col)

-- uint8_t a[n], b[m];
abbrev pub bytes : (n m : List ℕ) → Application
bytes n m = application (codes "M") (tree.variables (plain (s.int U8)) false (array (codes "a") n 11 ∷ array (codes "b") m 21 ∷ []) ∷ [])

-- what is refused, where something is
abbrev pub fault_of : Rule Program → Option Fault
fault_of (Ok p) = None
fault_of (Err e) = Some e

pub record LimitRows : Type 0 where
  pub most_tasks : fault_of (wired (tasks 254)) ≡ None
  pub too_many_tasks : fault_of (wired (tasks 255)) ≡ Some (Limit (record { which = which.Tasks; have = 255 }))
  pub most_bytes : fault_of (wired (bytes (codes "29999") (codes "30000"))) ≡ None
  pub too_many_bytes : fault_of (wired (bytes (codes "30001") (codes "30001"))) ≡ Some (Limit (record { which = which.Objects; have = 60001 }))
