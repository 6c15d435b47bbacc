-- Worked rows: calls with two targets, whose results are of a type that names a function, and prototypes without a body (nesC 1.3 Reference,
-- 5.3 and 10.3), worked out by hand.
use Rattle.std.specs.Prelude.{◌≡◌, true, false, List, [], ◌∷◌, ◌++◌, codes, map, Ok, Err}
use Rattle.nm_base.specs.declared.pos.Pos.{Pos}
use Rattle.nm_base.specs.declared.refusal.Refusal.TheVariants.{BadType}
use Rattle.nesc_core.specs.Plain.{Program, Warning}
use Rattle.nesc_types.specs.Rule.{Rule, refuse}
use Rattle.wire_targets.specs.declared.end.End.{End}
use Rattle.body_meaning.specs.Tree.{Decl}
use Rattle.program_meaning.specs.Parts.{Application}
use Rattle.program_meaning.specs.RowForms.{place, elem, end, instance}
use Rattle.program_meaning.specs.BuiltIn as built_in
use Rattle.program_meaning.specs.CombineTrees as trees
use Rattle.program_meaning.specs.WiredRows.{application, uses_boot}
use Rattle.program_meaning.specs.Program.{wired}

-- CallC.Res is wired to these ends
abbrev pub calling : List Decl → List End → Application
calling header ends = record (application
    (instance (codes "CallC") (uses_boot ∷ elem false (codes "Res") trees.res ends (place 5 1 51) ∷ []) trees.caller
    ∷ instance (codes "ResC") (elem true (codes "Res") trees.res [] (place 6 1 34) ∷ []) trees.giver
    ∷ [])) { headers = built_in.prelude ++ header }

abbrev pub once : List Decl → Application
once header = calling header (end 3 0 ∷ [])

abbrev pub twice : List Decl → Application
twice header = calling header (end 3 0 ∷ end 3 0 ∷ [])

-- what a program warns of
abbrev pub warnings_of : Rule Program → Rule (List Warning)
warnings_of (Ok p) = Ok p.warnings
warnings_of (Err e) = Err e

abbrev pub call : Pos
call = place 5 3 30

pub record CombineRows : Type 0 where
  pub refused : map (λ h. warnings_of (wired (twice h))) (trees.missing ∷ trees.of_one ∷ trees.of_int ∷ trees.without_body ∷ [])
      ≡ refuse (BadType call) ∷ refuse (BadType call) ∷ refuse (BadType call) ∷ refuse (BadType call) ∷ []
  -- one result is combined with none
  pub not_needed : map (λ h. warnings_of (wired (once h))) (trees.missing ∷ trees.of_one ∷ trees.without_body ∷ []) ≡ Ok [] ∷ Ok [] ∷ Ok [] ∷ []
  pub found : warnings_of (wired (twice trees.behind)) ≡ Ok []
  -- the type that is named directly counts alone
  pub lost : warnings_of (wired (twice trees.of_another)) ≡ Ok (record { pos = call; name = codes "wire CallC.Res.get" } ∷ [])
