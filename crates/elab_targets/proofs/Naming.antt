-- Numbers of names in a list that grows at its end.
use Rattle.std.proofs.Common.{◌≡◌, ℕ, ◌+◌, ◌<◌, ◌≤◌, Bool, true, false, not, cond, ◌||◌, nat_lt, List, [], ◌∷◌, ◌++◌, length, position, Option, Some, None, refl, sym, ap, subst, ◌∙◌, arith, bytes_eq, lt-ltb, ltb-true, length-append}
use Rattle.std.specs.List.{list_any, position_from, position_or_len}
use Rattle.std.specs.Option.{option_or}
use Rattle.std.proofs.lemmas.Iterator.Adapters.{position_from-zero}
use Rattle.std.proofs.lemmas.Slice.Eq.{bytes_eq-Decides}
use Rattle.wire_names.specs.Texts.{same_text}
use Rattle.elab_targets.specs.Tables.{when}

-- ---- equal names

pub itself : (a : List ℕ) → bytes_eq a a ≡ true
itself a = (bytes_eq-Decides a a).1 refl

pub turned : (a b : List ℕ) → bytes_eq a b ≡ bytes_eq b a
turned a b = by (bytes_eq a b) (bytes_eq b a) refl refl where
  by : (s t : Bool) → bytes_eq a b ≡ s → bytes_eq b a ≡ t → s ≡ t
  by true true p q = refl
  by false false p q = refl
  by true false p q = sym ((bytes_eq-Decides b a).1 (sym ((bytes_eq-Decides a b).0 p))) ∙ q
  by false true p q = sym p ∙ (bytes_eq-Decides a b).1 (sym ((bytes_eq-Decides b a).0 q))

-- ---- the first place in a list with one more

pub one_more : {A : Type 0} (p : A → Bool) (k : ℕ) (xs : List A) (a : A)
    → position_from p k (xs ++ a ∷ []) ≡ option_or (position_from p k xs) (when (p a) (k + length xs))
one_more p k [] a = by (p a) where
  by : (b : Bool) → cond b (Some k) None ≡ when b (k + 0)
  by true = let e : k ≡ k + 0 = omega arith in ap Some e
  by false = refl
one_more {A} p k (x ∷ xs) a = by (p x) (one_more p (k + 1) xs a) where
  by : (b : Bool) → position_from p (k + 1) (xs ++ a ∷ []) ≡ option_or (position_from p (k + 1) xs) (when (p a) (k + 1 + length xs))
      → cond b (Some k) (position_from p (k + 1) (xs ++ a ∷ [])) ≡ option_or (cond b (Some k) (position_from p (k + 1) xs)) (when (p a) (k + length (x ∷ xs)))
  by true h = refl
  by false h = let e : k + 1 + length xs ≡ k + length (x ∷ xs) = omega arith in h ∙ ap (λ n. option_or (position_from p (k + 1) xs) (when (p a) n)) e

pub at_least : {A : Type 0} (p : A → Bool) (i k : ℕ) (xs : List A) → position_from p i xs ≡ Some k → i ≤ k
at_least p i k [] e = absurd (cc)
at_least {A} p i k (x ∷ xs) e = by (p x) e (at_least p (i + 1) k xs) where
  by : (b : Bool) → cond b (Some i) (position_from p (i + 1) xs) ≡ Some k → (position_from p (i + 1) xs ≡ Some k → i + 1 ≤ k) → i ≤ k
  by true same rest = let e : i ≡ k = cc in omega (arith, e)
  by false same rest = let l = rest same in omega (arith, l)

-- two names with one number are the same
pub same_from : (x y : List ℕ) (i k : ℕ) (zs : List (List ℕ)) → position_from (bytes_eq x) i zs ≡ Some k → position_from (bytes_eq y) i zs ≡ Some k → x ≡ y
same_from x y i k [] p q = absurd (cc)
same_from x y i k (z ∷ zs) p q = by (bytes_eq x z) (bytes_eq y z) refl refl p q (at_least (bytes_eq x) (i + 1) k zs) (at_least (bytes_eq y) (i + 1) k zs) (same_from x y (i + 1) k zs) where
  by : (s t : Bool) → bytes_eq x z ≡ s → bytes_eq y z ≡ t → cond s (Some i) (position_from (bytes_eq x) (i + 1) zs) ≡ Some k → cond t (Some i) (position_from (bytes_eq y) (i + 1) zs) ≡ Some k
      → (position_from (bytes_eq x) (i + 1) zs ≡ Some k → i + 1 ≤ k) → (position_from (bytes_eq y) (i + 1) zs ≡ Some k → i + 1 ≤ k)
      → (position_from (bytes_eq x) (i + 1) zs ≡ Some k → position_from (bytes_eq y) (i + 1) zs ≡ Some k → x ≡ y) → x ≡ y
  by true true a b p q l m rest = (bytes_eq-Decides x z).0 a ∙ sym ((bytes_eq-Decides y z).0 b)
  by true false a b p q l m rest = let e : i ≡ k = cc in let below = m q in absurd (omega (arith, e, below))
  by false true a b p q l m rest = let e : i ≡ k = cc in let below = l p in absurd (omega (arith, e, below))
  by false false a b p q l m rest = rest p q

-- ---- names that are added where they are new

abbrev pub added : List ℕ → List (List ℕ) → List (List ℕ)
added a ns = cond (list_any (same_text a) ns) ns (ns ++ a ∷ [])

pub from_zero : (x : List ℕ) (ns : List (List ℕ)) → position (same_text x) ns ≡ position_from (bytes_eq x) 0 ns
from_zero x ns = position_from-zero (bytes_eq x) ns

below : {A : Type 0} (p : A → Bool) (xs : List A) → list_any p xs ≡ true → position_or_len p xs < length xs
below p [] h = absurd (cc)
below {A} p (x ∷ xs) h = by (p x) h (below p xs) where
  by : (b : Bool) → (b || list_any p xs) ≡ true → (list_any p xs ≡ true → position_or_len p xs < length xs) → cond (not b) (1 + position_or_len p xs) 0 < length (x ∷ xs)
  by true h rest = omega arith
  by false h rest = let l = rest h in omega (arith, l)

ends : {A : Type 0} (p : A → Bool) (xs : List A) → list_any p xs ≡ false → position_or_len p xs ≡ length xs
ends p [] h = refl
ends {A} p (x ∷ xs) h = by (p x) h (ends p xs) where
  by : (b : Bool) → (b || list_any p xs) ≡ false → (list_any p xs ≡ false → position_or_len p xs ≡ length xs) → cond (not b) (1 + position_or_len p xs) 0 ≡ length (x ∷ xs)
  by true h rest = absurd (cc)
  by false h rest = let l = rest h in omega (arith, l)

at_number : {A : Type 0} (p : A → Bool) (xs : List A) (n : ℕ) → n < length xs → cond (nat_lt n (length xs)) (Some n) None ≡ Some n
at_number p xs n l = ap (λ b. cond b (Some n) None) (lt-ltb n (length xs) l)

pub found : {A : Type 0} (p : A → Bool) (xs : List A) → list_any p xs ≡ true → position p xs ≡ Some (position_or_len p xs)
found p xs h = at_number p xs (position_or_len p xs) (below p xs h)

absent : {A : Type 0} (p : A → Bool) (k : ℕ) (xs : List A) → list_any p xs ≡ false → position_from p k xs ≡ None
absent p k [] h = refl
absent {A} p k (x ∷ xs) h = by (p x) h (absent p (k + 1) xs) where
  by : (b : Bool) → (b || list_any p xs) ≡ false → (list_any p xs ≡ false → position_from p (k + 1) xs ≡ None) → cond b (Some k) (position_from p (k + 1) xs) ≡ None
  by true h rest = absurd (cc)
  by false h rest = rest h

-- a number stays, or it is new and no number was as large
pub data Grown (least : ℕ) (old new : Option ℕ) : Type 0 where
  stays : new ≡ old → Grown least old new
  comes : (k : ℕ) → old ≡ None → least ≤ k → new ≡ Some k → Grown least old new

behind : (x a : List ℕ) (ns : List (List ℕ)) → position (same_text x) (ns ++ a ∷ []) ≡ option_or (position (same_text x) ns) (when (bytes_eq x a) (length ns))
behind x a ns = from_zero x (ns ++ a ∷ []) ∙ one_more (bytes_eq x) 0 ns a
    ∙ ap (λ o. option_or o (when (bytes_eq x a) (0 + length ns))) (sym (from_zero x ns))
    ∙ (let e : 0 + length ns ≡ length ns = omega arith in ap (λ n. option_or (position (same_text x) ns) (when (bytes_eq x a) n)) e)

grown_by : (least : ℕ) (old : Option ℕ) (b : Bool) → Grown least old (option_or old (when b least))
grown_by least (Some k) b = stays refl
grown_by least None true = comes least refl (omega arith) refl
grown_by least None false = stays refl

pub grown : (a x : List ℕ) (ns : List (List ℕ)) → Grown (length ns) (position (same_text x) ns) (position (same_text x) (added a ns))
grown a x ns = by (list_any (same_text a) ns) where
  by : (t : Bool) → Grown (length ns) (position (same_text x) ns) (position (same_text x) (cond t ns (ns ++ a ∷ [])))
  by true = stays refl
  by false = subst (Grown (length ns) (position (same_text x) ns)) (sym (behind x a ns)) (grown_by (length ns) (position (same_text x) ns) (bytes_eq x a))

pub numbered : (a : List ℕ) (ns : List (List ℕ)) → position (same_text a) (added a ns) ≡ Some (position_or_len (same_text a) ns)
numbered a ns = by (list_any (same_text a) ns) refl where
  last : list_any (same_text a) ns ≡ false → option_or (position (same_text a) ns) (when (bytes_eq a a) (length ns)) ≡ Some (position_or_len (same_text a) ns)
  last h = ap (λ o. option_or o (when (bytes_eq a a) (length ns))) (from_zero a ns ∙ absent (bytes_eq a) 0 ns h)
      ∙ ap (λ b. when b (length ns)) (itself a) ∙ ap Some (sym (ends (same_text a) ns h))

  by : (t : Bool) → list_any (same_text a) ns ≡ t → position (same_text a) (cond t ns (ns ++ a ∷ [])) ≡ Some (position_or_len (same_text a) ns)
  by true h = found (same_text a) ns h
  by false h = behind a a ns ∙ last h

pub longer : (a : List ℕ) (ns : List (List ℕ)) → length ns ≤ length (added a ns)
longer a ns = by (list_any (same_text a) ns) where
  by : (t : Bool) → length ns ≤ length (cond t ns (ns ++ a ∷ []))
  by true = omega arith
  by false = let e = length-append ns (a ∷ []) in omega (arith, e)

pub within : (x : List ℕ) (k : ℕ) (ns : List (List ℕ)) → position (same_text x) ns ≡ Some k → k < length ns
within x k ns h = by (nat_lt n (length ns)) refl h where
  n : ℕ
  n = position_or_len (same_text x) ns

  by : (t : Bool) → nat_lt n (length ns) ≡ t → cond t (Some n) None ≡ Some k → k < length ns
  by true lt same = let e : n ≡ k = cc in let l = ltb-true n (length ns) lt in omega (arith, e, l)
  by false lt same = absurd (cc)

pub one_name : (x y : List ℕ) (k : ℕ) (ns : List (List ℕ)) → position (same_text x) ns ≡ Some k → position (same_text y) ns ≡ Some k → x ≡ y
one_name x y k ns p q = same_from x y 0 k ns (sym (from_zero x ns) ∙ p) (sym (from_zero y ns) ∙ q)
