-- Places in the tokens of a file (own).
use Rattle.std.specs.Prelude.{ℕ, Bool, ◌||◌, cond, List, [], ◌∷◌, codes, Option, Some, None, unwrap_or}
use Rattle.std.specs.List.{position_from}
use Rattle.nm_base.specs.declared.pos.Pos.{Pos}
use Rattle.nm_base.specs.declared.token.Token.{Token}
use Rattle.nesc_preproc.specs.Sources.{Known}
use Rattle.wire_names.specs.Texts.{same_text}
use Rattle.wire_reading.specs.Order.{Name}

-- the word before the name of a component or an interface; no declaration has it
abbrev pub begins_unit : Token → Bool
begins_unit t = same_text t.text (codes "interface") || (same_text t.text (codes "module") || same_text t.text (codes "configuration"))

abbrev pub first_place : List Token → Pos
first_place [] = record { file = 0; line = 1; col = 1 }
first_place (t ∷ ts) = t.pos

-- the place of the name of a component or an interface
abbrev pub name_place : List Token → Pos
name_place [] = first_place []
name_place (t ∷ ts) = cond (begins_unit t) (first_place ts) (name_place ts)

abbrev pub names_in : Option Known → List Name
names_in None = []
names_in (Some known) = known.names

abbrev pub number_of : List Name → Name → ℕ
number_of names file = unwrap_or (position_from (same_text file) 0 names) 0

-- the file in which tokens are refused that end too early: a text without tokens has no other than its own
abbrev pub file_told : List Token → Option Known → Name → ℕ
file_told [] known file = number_of (names_in known) file
file_told (t ∷ ts) known file = t.pos.file
