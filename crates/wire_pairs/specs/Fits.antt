-- Which ends a wire joins (nesC 1.3 Reference, section 9; own: a name that is left out stands for the one element that fits). Inside
-- a configuration calls come out of what its components use and of what it provides, and go to what they provide and what it uses.
use Rattle.std.specs.Prelude.{ℕ, ◌+◌, Bool, true, false, cond, not, ◌&&◌, ◌||◌, nat_eq, List, [], ◌∷◌, Option, Some, None, Ok, Err, slice_get}
use Rattle.std.specs.Cmp.Lexicographic.{pointwise}
use Rattle.nm_base.specs.declared.pos.Pos.{Pos}
use Rattle.nesc_tree.specs.declared.components.Elem.{Elem}
use Rattle.wire_names.specs.Texts.{same_text}
use Rattle.wire_pairs.specs.declared.facts.Unlinked.TheVariants as unlinked
use Rattle.wire_pairs.specs.declared.ends.Spot.{Spot}
use Rattle.wire_pairs.specs.declared.ends.NamedEnd.{NamedEnd}
use Rattle.wire_pairs.specs.declared.ends.NamedEnd.TheVariants as end
use Rattle.wire_pairs.specs.declared.ends.Sign.{Sign}
use Rattle.wire_pairs.specs.declared.ends.Sign.TheVariants as sign
use Rattle.wire_pairs.specs.Application.{Application, elems_of, element_facts, args_in}
use Rattle.wire_pairs.specs.Ends.{Linked, spot}

-- calls come out of this element
abbrev pub leaves : (own provides : Bool) → Bool
leaves own provides = cond own provides (not provides)

-- `->` goes from where calls come out to where they go, between components; `=` has an own element at one end or at both
abbrev pub directed : Sign → (x y : Spot) → (x_leaves y_leaves : Bool) → Bool
directed sign.Arrow x y x_leaves y_leaves = not x.own && not y.own && x_leaves && not y_leaves
directed sign.Equals x y x_leaves y_leaves = (x.own || y.own) && cond x_leaves (not y_leaves) y_leaves

abbrev pub same_args : List ℕ → List ℕ → Bool
same_args = pointwise nat_eq

abbrev pub elem_at : Application → Spot → Option Elem
elem_at app x = slice_get (elems_of app x.instance) x.element

abbrev pub args_at : Application → Spot → List ℕ
args_at app x = args_in (element_facts app x.instance x.element)

abbrev pub elems_fit : Application → Sign → (x y : Spot) → Elem → Elem → Bool
elems_fit app s x y e f = directed s x y (leaves x.own e.provides) (leaves y.own f.provides) && same_text e.iface f.iface && same_args (args_at app x) (args_at app y)

abbrev pub fits_both : Application → Sign → (x y : Spot) → Option Elem → Option Elem → Bool
fits_both app s x y (Some e) (Some f) = elems_fit app s x y e f
fits_both app s x y (Some e) None = false
fits_both app s x y None f = false

-- the direction, the interface and its type arguments
abbrev pub fits : Application → Sign → (x y : Spot) → Bool
fits app s x y = fits_both app s x y (elem_at app x) (elem_at app y)

-- the places of elements, from k on, that pass a test
abbrev pub places : (ℕ → Bool) → (k : ℕ) → List Elem → List ℕ
places test k [] = []
places test k (e ∷ es) = cond (test k) (k ∷ places test (k + 1) es) (places test (k + 1) es)

-- the one of a list of one
abbrev pub only : List ℕ → Option ℕ
only [] = None
only (k ∷ []) = Some k
only (k ∷ (j ∷ ks)) = None

abbrev pub member_spot : (member element : ℕ) → Spot
member_spot member element = spot member element false

-- an element of a component fits an end that stands before or behind it
abbrev pub member_fits : Application → Sign → (other : Spot) → (other_first : Bool) → (member element : ℕ) → Bool
member_fits app s other other_first member element =
    cond other_first (fits app s other (member_spot member element)) (fits app s (member_spot member element) other)

abbrev pub only_place : Application → Sign → (other : Spot) → (other_first : Bool) → (member : ℕ) → Option ℕ
only_place app s other other_first member = only (places (member_fits app s other other_first member) 0 (elems_of app member))

-- ends that are joined, in the order of the wire
abbrev pub Joined : Type 0
Joined = Spot × Spot

abbrev pub joined_if : Bool → Pos → Joined → Linked Joined
joined_if fit pos j = cond fit (Ok j) (Err (unlinked.WireMismatch pos))

abbrev pub joined_by : Option ℕ → Pos → (ℕ → Joined) → Linked Joined
joined_by None pos make = Err (unlinked.WireMismatch pos)
joined_by (Some element) pos make = Ok (make element)

abbrev pub joined : Application → Sign → Pos → NamedEnd → NamedEnd → Linked Joined
joined app s pos (end.Element x) (end.Element y) = joined_if (fits app s x y) pos (x, y)
joined app s pos (end.Element x) (end.Whole m) = joined_by (only_place app s x true m) pos (λ k. (x, member_spot m k))
joined app s pos (end.Whole m) (end.Element y) = joined_by (only_place app s y false m) pos (λ k. (member_spot m k, y))
joined app s pos (end.Whole m) (end.Whole n) = Err (unlinked.WireMismatch pos)
