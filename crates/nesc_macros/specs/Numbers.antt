-- Hide sets by the numbers of macros, as the code keeps them, and the names that they stand for (own).
use Rattle.std.specs.Prelude.{ℕ, Bool, not, List, [], ◌++◌, nat_eq, filter, map, Option}
use Rattle.std.specs.List.{filter_map, list_any}
use Rattle.nm_base.specs.declared.token.Token.{Token}
use Rattle.nesc_macros.specs.declared.definition.Macro.{Macro}
use Rattle.nesc_macros.specs.declared.definition.NumberedToken.{NumberedToken}
use Rattle.nesc_macros.specs.declared.table.Table.{Table}
use Rattle.nesc_macros.specs.declared.hide_sets.HideSet.{HideSet}
use Rattle.nesc_macros.specs.declared.hide_sets.HideSets.{HideSets}
use Rattle.nesc_macros.specs.declared.hide_sets.Link.{Link}
use Rattle.nesc_macros.specs.Sets.{Extends, numbers_in}
use Rattle.nesc_macros.specs.Invocation.{Name, PreprocessingToken}
use Rattle.nesc_macros.specs.Tables.{Defined, defined_in, macros_of, name_in}

-- what numbers stand for
pub record Scope : Type 0 where
  pub macros : Defined
  pub links : List Link

abbrev pub no_scope : Scope
no_scope = record { macros = record { definitions = []; numbers = [] }; links = [] }

abbrev pub scope_of : Table → List Link → Scope
scope_of table links = record { macros = defined_in table; links = links }

-- the sets that the table has by now are those of the scope
abbrev pub IsIn : HideSets → Scope → Type 0
IsIn sets scope = Extends sets.links.items scope.links

abbrev pub macros_at : Scope → List Macro
macros_at scope = macros_of scope.macros

abbrev pub name_at : Scope → ℕ → Option Name
name_at scope = name_in scope.macros

-- the names of numbers, and of a set
abbrev pub named : Scope → List ℕ → List Name
named scope = filter_map (name_at scope)

abbrev pub names_of : Scope → HideSet → List Name
names_of scope set = named scope (numbers_in scope.links set)

abbrev pub shown : Scope → NumberedToken → PreprocessingToken
shown scope t = record { token = t.token; hide_set = names_of scope t.hide_set }

abbrev pub all_shown : Scope → List NumberedToken → List PreprocessingToken
all_shown scope = map (shown scope)

abbrev pub tokens_in : List NumberedToken → List Token
tokens_in = map (λ (t : NumberedToken). t.token)

-- ---- sets of numbers

abbrev pub has : List ℕ → ℕ → Bool
has numbers number = list_any (λ n. nat_eq n number) numbers

abbrev pub common : List ℕ → List ℕ → List ℕ
common xs ys = filter (has ys) xs

abbrev pub joined : List ℕ → List ℕ → List ℕ
joined xs ys = xs ++ filter (λ y. not (has xs y)) ys
