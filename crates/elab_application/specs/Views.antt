-- What is given, cut where the code is cut (own).
use Rattle.std.specs.Prelude.{◌≡◌, ℕ, Bool, List, ◌∷◌, Option, Some, None, cond}
use Rattle.std.specs.List.{cons_option}
use Rattle.wire_paths.specs.Paths.{end}
use Rattle.wire_targets.specs.declared.end.End.{End}
use Rattle.wire_targets.specs.declared.end.Wire.{Wire}
use Rattle.wire_targets.specs.Targets.{AreTargets}
use Rattle.program_meaning.specs.Parts.{Wired}
use Rattle.elab_application.specs.Ends.{AreNamed, leads_elsewhere, values_within}

abbrev pub wired : ℕ → List End → Wired
wired value ends = record { value = value; ends = ends }

-- one that leads elsewhere
abbrev pub kept : (others : List End) → Wired → Option Wired
kept others w = cond (leads_elsewhere others w) (Some w) None

-- what is found of one value of a parameter
pub record IsFound (wires : List Wire) (sinks : List (List Bool)) (i j v : ℕ) (others : List End) (o : Option Wired) : Type 0 where
  pub ends : List End
  pub ends_are : AreTargets wires sinks (end i j (Some v)) ends
  pub kept_is : o ≡ kept others (wired v ends)

-- what is found of one value, where the parameter has a greatest: what is named of other values, behind it, is named of it and them
pub record IsWithin (wires : List Wire) (sinks : List (List Bool)) (i j greatest v : ℕ) (others : List End) (o : Option Wired) : Type 0 where
  pub goes_on : (vs : List ℕ) (more : List Wired) → AreNamed wires sinks i j (values_within (Some greatest) vs) others more
      → AreNamed wires sinks i j (values_within (Some greatest) (v ∷ vs)) others (cons_option o more)
