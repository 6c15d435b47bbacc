-- Tests on a list of keys, and on the list of their texts.
use Rattle.std.proofs.Common.{◌≡◌, ◌+◌, Bool, true, false, cond, List, [], ◌∷◌, ◌++◌, map, ◌||◌, refl, sym, ap, position}
use Rattle.std.proofs.lemmas.List.{length-map, map-append}
use Rattle.std.specs.List.{list_any, position_or_len}
use Rattle.std.proofs.lemmas.List.Recursion.{is_position_or_len}

module _ {A B : Type 0} (f : A → B) (p : B → Bool) where
  pub list_any-map : (xs : List A) → list_any (λ x. p (f x)) xs ≡ list_any p (map f xs)
  list_any-map [] = refl
  list_any-map (x ∷ xs) = ap (λ b. p (f x) || b) (list_any-map xs)

  recurs : (q : B → Bool) (y : B) (ys : List B) → position_or_len q (y ∷ ys) ≡ cond (q y) 0 (1 + position_or_len q ys)
  recurs q y ys = by (q y) refl
    where
      by : (t : Bool) → q y ≡ t → position_or_len q (y ∷ ys) ≡ cond t 0 (1 + position_or_len q ys)
      by true e = rw e refl
      by false e = rw e refl

  pub position_or_len-map : (xs : List A) → position_or_len (λ x. p (f x)) xs ≡ position_or_len p (map f xs)
  position_or_len-map xs = sym (is_position_or_len (λ zs. position_or_len p (map f zs)) (λ x. p (f x)) refl (λ x zs. recurs p (f x) (map f zs)) xs)

  pub position-map : (xs : List A) → position (λ x. p (f x)) xs ≡ position p (map f xs)
  position-map xs = rw (position_or_len-map xs, length-map xs f) refl

-- the texts behind one more key
pub map-added : {A B : Type 0} (f : A → B) (t : Bool) (xs : List A) (x : A) → map f (cond t xs (xs ++ x ∷ [])) ≡ cond t (map f xs) (map f xs ++ f x ∷ [])
map-added f true xs x = refl
map-added f false xs x = map-append f xs (x ∷ [])
