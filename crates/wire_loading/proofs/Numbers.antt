-- The numbers of files by name.
use Rattle.std.proofs.Common.{◌≡◌, ℕ, suc, ◌+◌, ◌<◌, ◌≤◌, List, [], ◌∷◌, drop, length, get_or, sym, ap, ◌∙◌, cond, Option, Some, None, arith, refl, zero}
use Rattle.std.specs.Prelude.{slice_get}
use Rattle.std.specs.List.{position_from}
use Rattle.std.proofs.Math.ListN.{drop_of_length-le}
use Rattle.std.proofs.lemmas.Option.{slice_get_within, get_or_from_slice_get, slice_get_cases, none-some}
use Rattle.nesc_preproc.specs.Sources.{Known}
use Rattle.nesc_preproc.specs.Kept.{name_at}
use Rattle.wire_names.specs.Texts.{same_text}
use Rattle.wire_reading.specs.Order.{Name}
use Rattle.wire_loading.specs.Places.{names_in}
use Rattle.wire_loading.proofs.Lists.{next_of}

is_in : (r : Option Known) (k : ℕ) (x : Name) → name_at r k ≡ Some x → slice_get (names_in r) k ≡ Some x
is_in None k x is = absurd (none-some x is)
is_in (Some known) k x is = is

pub number_below : (r : Option Known) (k : ℕ) (x : Name) → name_at r k ≡ Some x → k < length (names_in r)
number_below r k x is = slice_get_within (names_in r) k x (is_in r k x is)

-- the search goes on behind a name
pub number_next : (r : Option Known) (file : Name) (k : ℕ) (x : Name) → name_at r k ≡ Some x
    → position_from (same_text file) k (drop k (names_in r)) ≡ cond (same_text file x) (Some k) (position_from (same_text file) (k + 1) (drop (k + 1) (names_in r)))
number_next r file k x is =
    let inside = is_in r k x is in
    ap (position_from (same_text file) k) (next_of (names_in r) k x (number_below r k x is) (sym (get_or_from_slice_get (names_in r) k x x inside)))

past : (xs : List Name) (k : ℕ) → slice_get xs k ≡ None → length xs ≤ k
past [] k is = omega arith
past (x ∷ xs) zero is = absurd (none-some x (sym is))
past (x ∷ xs) (suc k) is = let below = past xs k is in omega arith

at_end : (r : Option Known) (k : ℕ) → name_at r k ≡ None → slice_get (names_in r) k ≡ None
at_end None k is = refl
at_end (Some known) k is = is

-- and ends where there is none
pub number_ended : (r : Option Known) (file : Name) (k : ℕ) → name_at r k ≡ None
    → position_from (same_text file) k (drop k (names_in r)) ≡ None
number_ended r file k is = ap (position_from (same_text file) k) (drop_of_length-le (names_in r) (past (names_in r) k (at_end r k is)))

pub ruleset numbers = (number_below, number_next, number_ended)
