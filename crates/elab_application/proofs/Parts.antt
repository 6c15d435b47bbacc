-- An element by numbers and facts that were found.
use Rattle.std.proofs.Common.{◌≡◌, ℕ, List, Option, subst}
use Rattle.nesc_tree.specs.declared.components.Elem as tree
use Rattle.wire_instances.specs.declared.plan.Made.{Made}
use Rattle.wire_pairs.specs.declared.ends.Pair.{Pair}
use Rattle.wire_units.specs.declared.loaded.Loaded.{Loaded}
use Rattle.program_meaning.specs.Parts.{Elem}
use Rattle.elab_application.specs.Ends.{IsElement}

pub element_as : (units : List Loaded) (made : List Made) (pairs : List Pair) (i j k : ℕ) (g h : Option ℕ) (e : tree.Elem) (x : Elem) → j ≡ k → g ≡ h
    → IsElement units made pairs i j g e x → IsElement units made pairs i k h e x
element_as units made pairs i j k g h e x p q is =
    subst (λ (f : Option ℕ). IsElement units made pairs i k f e x) q (subst (λ (n : ℕ). IsElement units made pairs i n g e x) p is)
