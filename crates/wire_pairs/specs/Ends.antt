-- What the ends of a wire name (nesC 1.3 Reference, section 9): an element of a component, an element of the configuration's own
-- specification, or a component whose element is left out. The name of a component hides that of an own element.
use Rattle.std.specs.Prelude.{ℕ, Bool, true, false, Option, Some, None, Result, Ok, Err}
use Rattle.nm_base.specs.declared.pos.Pos.{Pos}
use Rattle.nesc_tree.specs.declared.components.WireEnd.{WireEnd}
use Rattle.wire_units.specs.Units.{Name}
use Rattle.wire_pairs.specs.declared.facts.Unlinked.{Unlinked}
use Rattle.wire_pairs.specs.declared.facts.Unlinked.TheVariants as unlinked
use Rattle.wire_pairs.specs.declared.ends.Spot.{Spot}
use Rattle.wire_pairs.specs.declared.ends.NamedEnd.{NamedEnd}
use Rattle.wire_pairs.specs.declared.ends.NamedEnd.TheVariants as end
use Rattle.wire_pairs.specs.Application.{Application, Scope, elems_of, element_in}

abbrev pub Linked : Type 0 → Type 0
Linked A = Result A Unlinked

infixl 1 ◌>>=◌
abbrev pub ◌>>=◌ : {A B : Type 0} → Linked A → (A → Linked B) → Linked B
Ok x >>= f = f x
Err e >>= f = Err e

abbrev pub spot : (instance element : ℕ) → (own : Bool) → Spot
spot instance element own = record { instance = instance; element = element; own = own }

abbrev pub found : (instance : ℕ) → (own : Bool) → Pos → Option ℕ → Linked NamedEnd
found instance own pos None = Err (unlinked.UnknownName pos)
found instance own pos (Some element) = Ok (end.Element (spot instance element own))

-- behind the name of a component
abbrev pub of_member : Application → (member : ℕ) → Pos → Option Name → Linked NamedEnd
of_member app member pos None = Ok (end.Whole member)
of_member app member pos (Some name) = found member false pos (element_in (elems_of app member) name)

abbrev pub of_own : Application → (instance : ℕ) → Pos → (first : Name) → Option Name → Linked NamedEnd
of_own app instance pos first None = found instance true pos (element_in (elems_of app instance) first)
of_own app instance pos first (Some name) = Err (unlinked.UnknownName pos)

abbrev pub of_named : Application → (instance : ℕ) → Pos → WireEnd → Option ℕ → Linked NamedEnd
of_named app instance pos w (Some member) = of_member app member pos w.second
of_named app instance pos w None = of_own app instance pos w.first w.second

abbrev pub named : Application → (instance : ℕ) → Scope → Pos → WireEnd → Linked NamedEnd
named app instance scope pos w = of_named app instance pos w (scope w.first)
