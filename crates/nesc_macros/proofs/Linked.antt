-- A table of hide sets: the numbers of a set, link by link.
use Rattle.std.proofs.Common.{◌≡◌, ℕ, zero, suc, ◌+◌, ◌<◌, ◌≤◌, Bool, true, false, ◌&&◌, ◌||◌, List, [], ◌∷◌, ◌++◌, length, min, max, Option, Some, None, refl, sym, ap, ◌∙◌, arith, append_assoc, append-nil, cond}
use Rattle.std.specs.Prelude.{nat_eq, nat_le, slice_get}
use Rattle.std.proofs.lemmas.Bool.{and_from, and_parts, eq-eqb, eqb-true, le-leb, leb-true}
use Rattle.nesc_macros.specs.declared.hide_sets.HideSet.{HideSet}
use Rattle.nesc_macros.specs.declared.hide_sets.Link.{Link}
use Rattle.nesc_macros.specs.Numbers.{has}
use Rattle.nesc_macros.specs.Sets.{Extends, is_link_of, numbers_by, numbers_in}

-- ---- links that stay

pub extends_self : (links : List Link) → Extends links links
extends_self links i l at = at

pub extends_on : (a b c : List Link) → Extends a b → Extends b c → Extends a c
extends_on a b c first later i l at = later i l (first i l at)

at_front : (front : List Link) (more : List Link) (i : ℕ) (l : Link) → slice_get front i ≡ Some l → slice_get (front ++ more) i ≡ Some l
at_front [] more i l at = absurd cc
at_front (x ∷ front) more zero l at = at
at_front (x ∷ front) more (suc i) l at = at_front front more i l at

pub extends_pushed : (links : List Link) (l : Link) → Extends links (links ++ l ∷ [])
extends_pushed links l i k at = at_front links (l ∷ []) i k at

pub at_end : (links : List Link) (l : Link) → slice_get (links ++ l ∷ []) (length links) ≡ Some l
at_end [] l = refl
at_end (x ∷ links) l = at_end links l

-- ---- the newest number

abbrev by_test : ℕ → List Link → Link → Bool → List ℕ
by_test n links l b = elim b [ true ↦ l.number ∷ numbers_by n links l.rest | false ↦ [] ]

abbrev by_place : ℕ → List Link → HideSet → Option Link → List ℕ
by_place n links s o = elim o [ None ↦ [] | Some l ↦ by_test n links l (is_link_of s l) ]

linked_by : (n : ℕ) (links : List Link) (s : HideSet) (l : Link) → slice_get links s.place ≡ Some l → is_link_of s l ≡ true → numbers_by (suc n) links s ≡ l.number ∷ numbers_by n links l.rest
linked_by n links s l at is = ap (by_place n links s) at ∙ ap (by_test n links l) is

one_more : (s : HideSet) (l : Link) → is_link_of s l ≡ true → s.len ≡ suc l.rest.len
one_more s l is =
    let behind = (and_parts (nat_le s.least l.number && nat_le l.number s.greatest) _ is).1 in
    let later = (and_parts (nat_le s.least l.rest.least) _ behind).1 in
    let len = eqb-true s.len (l.rest.len + 1) (and_parts (nat_le l.rest.greatest s.greatest) _ later).1 in
    omega (arith, len)

pub linked : (links : List Link) (s : HideSet) (l : Link) → slice_get links s.place ≡ Some l → is_link_of s l ≡ true → numbers_in links s ≡ l.number ∷ numbers_in links l.rest
unfolding numbers_in
linked links s l at is = ap (λ (n : ℕ). numbers_by n links s) (one_more s l is) ∙ linked_by l.rest.len links s l at is

pub shorter : (s : HideSet) (l : Link) → is_link_of s l ≡ true → l.rest.len < s.len
shorter s l is = omega (arith, one_more s l is)

unlinked_by : (n : ℕ) (links : List Link) (s : HideSet) (l : Link) → slice_get links s.place ≡ Some l → is_link_of s l ≡ false → numbers_by n links s ≡ []
unlinked_by zero links s l at is = refl
unlinked_by (suc n) links s l at is = ap (by_place n links s) at ∙ ap (by_test n links l) is

pub unlinked : (links : List Link) (s : HideSet) (l : Link) → slice_get links s.place ≡ Some l → is_link_of s l ≡ false → numbers_in links s ≡ []
unfolding numbers_in
unlinked links s l at is = unlinked_by s.len links s l at is

pub none_in : (links : List Link) (s : HideSet) → s.len ≡ 0 → numbers_in links s ≡ []
unfolding numbers_in
none_in links s none = ap (λ (n : ℕ). numbers_by n links s) none

-- ---- bounds

abbrev pub may_have : HideSet → ℕ → Bool
may_have s number = nat_le s.least number && nat_le number s.greatest

or_false : (a b : Bool) → a ≡ false → b ≡ false → (a || b) ≡ false
or_false true b p q = p
or_false false b p q = q

not_true : (b : Bool) → (b ≡ true → ⊥) → b ≡ false
not_true true no_true = absurd (no_true refl)
not_true false no_true = refl

contradicts : (b : Bool) → b ≡ true → b ≡ false → ⊥
contradicts true p q = absurd cc
contradicts false p q = absurd cc

not_newest : (s : HideSet) (l : Link) (number : ℕ) → is_link_of s l ≡ true → may_have s number ≡ false → nat_eq l.number number ≡ false
not_newest s l number is past = not_true _ (λ same. contradicts _ (ap (may_have s) (sym (eqb-true l.number number same)) ∙ (and_parts (may_have s l.number) _ is).0) past)

past_rest : (s : HideSet) (l : Link) (number : ℕ) → is_link_of s l ≡ true → may_have s number ≡ false → may_have l.rest number ≡ false
past_rest s l number is past =
    let behind = (and_parts (may_have s l.number) _ is).1 in
    let low : s.least ≤ l.rest.least = leb-true _ _ (and_parts (nat_le s.least l.rest.least) _ behind).0 in
    let later = (and_parts (nat_le s.least l.rest.least) _ behind).1 in
    let high : l.rest.greatest ≤ s.greatest = leb-true _ _ (and_parts (nat_le l.rest.greatest s.greatest) _ later).0 in
    not_true _ (λ may.
    let parts = and_parts (nat_le l.rest.least number) _ may in
    let from : l.rest.least ≤ number = leb-true _ _ parts.0 in
    let to : number ≤ l.rest.greatest = leb-true _ _ parts.1 in
    contradicts _ (and_from _ _ (le-leb s.least number (omega (arith, low, from))) (le-leb number s.greatest (omega (arith, high, to)))) past)

linked_or : (n : ℕ) (links : List Link) (s : HideSet) (number : ℕ) (l : Link) (b : Bool) → may_have s number ≡ false → (may_have l.rest number ≡ false → has (numbers_by n links l.rest) number ≡ false) → is_link_of s l ≡ b → has (by_test n links l b) number ≡ false
linked_or n links s number l true past rest is = or_false _ _ (not_newest s l number is past) (rest (past_rest s l number is past))
linked_or n links s number l false past rest is = refl

placed_or : (n : ℕ) (links : List Link) (s : HideSet) (number : ℕ) (o : Option Link) → may_have s number ≡ false → ((l : Link) → may_have l.rest number ≡ false → has (numbers_by n links l.rest) number ≡ false) → has (by_place n links s o) number ≡ false
placed_or n links s number None past rest = refl
placed_or n links s number (Some l) past rest = linked_or n links s number l (is_link_of s l) past (rest l) refl

past_by : (n : ℕ) (links : List Link) (s : HideSet) (number : ℕ) → may_have s number ≡ false → has (numbers_by n links s) number ≡ false
past_by zero links s number past = refl
past_by (suc n) links s number past = placed_or n links s number (slice_get links s.place) past (λ l rest. past_by n links l.rest number rest)

pub past_bounds : (links : List Link) (s : HideSet) (number : ℕ) → may_have s number ≡ false → has (numbers_in links s) number ≡ false
unfolding numbers_in
past_bounds links s number past = past_by s.len links s number past

-- ---- one more number

pub added_is_linked : (s : HideSet) (place number len : ℕ) → len ≡ s.len + 1 → is_link_of (record { len = len; place = place; least = min s.least number; greatest = max s.greatest number }) (record { number = number; rest = s }) ≡ true
added_is_linked s place number len is =
    and_from _ _ (and_from _ _ (le-leb (min s.least number) number (omega arith)) (le-leb number (max s.greatest number) (omega arith)))
    (and_from _ _ (le-leb (min s.least number) s.least (omega arith)) (and_from _ _ (le-leb s.greatest (max s.greatest number) (omega arith)) (eq-eqb len (s.len + 1) is)))

pub added : (links : List Link) (s : HideSet) (place number len : ℕ) → len ≡ s.len + 1 → slice_get links place ≡ Some (record { number = number; rest = s })
    → numbers_in links (record { len = len; place = place; least = min s.least number; greatest = max s.greatest number }) ≡ number ∷ numbers_in links s
added links s place number len is at = linked links _ _ at (added_is_linked s place number len is)

pub empty_in : (links : List Link) (place least greatest : ℕ) → numbers_in links (record { len = 0; place = place; least = least; greatest = greatest }) ≡ []
unfolding numbers_in
empty_in links place least greatest = refl

pub pushed_if : (b : Bool) (n : ℕ) (done rest : List ℕ) → (done ++ cond b (n ∷ []) []) ++ rest ≡ done ++ cond b (n ∷ rest) rest
pushed_if true n done rest = append_assoc done (n ∷ []) rest
pushed_if false n done rest = ap (λ (l : List ℕ). l ++ rest) (append-nil done)
