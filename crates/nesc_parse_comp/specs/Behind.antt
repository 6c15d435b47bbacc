-- Why a token behind a whole unit is refused (own).
use Rattle.std.specs.Prelude.{◌≡◌, List, Some, None}
use Rattle.nm_base.specs.declared.token.Token.{Token}
use Rattle.nm_base.specs.declared.fault.Fault.{Fault}
use Rattle.nm_base.specs.declared.fault.Fault.TheVariants as f
use Rattle.nm_base.specs.declared.refusal.Refusal.TheVariants as r
use Rattle.nesc_tree.specs.Sorts.{Names}
use Rattle.nesc_left_out.specs.Probes.{TellsForm}
use Rattle.nesc_parse_comp.specs.declared.kinds.UnitKind.{UnitKind}
use Rattle.nesc_parse_comp.specs.Units.{phrase_of}

module _ (k : UnitKind) (names : Names) (before : List Token) (token : Token) where
  -- the form that it begins, where it begins one that is left out
  abbrev pub IsBehind : Fault → Type 0
  IsBehind (f.Refused (r.Syntax pos)) = (pos ≡ token.pos) × TellsForm (phrase_of k) names before token None
  IsBehind (f.Refused (r.LeftOut pos word)) = (pos ≡ token.pos) × TellsForm (phrase_of k) names before token (Some word)
  IsBehind f.NoMemory = Unit {0}
  IsBehind _ = ⊥
