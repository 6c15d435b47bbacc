-- Lists that only grow, and what is so of each of their items.
use Rattle.std.proofs.Common.{◌⊎◌, inl, inr, ◌≡◌, ℕ, zero, suc, ◌+◌, ◌<◌, ◌≤◌, Bool, true, false, List, [], ◌∷◌, ◌++◌, length, map, Some, ap, sym, subst, ◌∙◌, refl, arith, append_assoc}
use Rattle.std.specs.Prelude.{slice_get, slice_index_or, if◌then◌else◌}
use Rattle.elab_meaning.specs.Scope.{Entry}
use Rattle.elab_laws.specs.Known.{AddsConstants, Each, IsConstantMeaning, IsPrefix}

-- ---- prefixes

nothing_behind : {A : Type 0} (xs : List A) → xs ≡ xs ++ []
nothing_behind [] = refl
nothing_behind (x ∷ xs) = ap (λ ys. x ∷ ys) (nothing_behind xs)

pub whole_prefix : {A : Type 0} (xs : List A) → IsPrefix xs xs
whole_prefix xs = record { more = []; is = nothing_behind xs }

pub same_prefix : {A : Type 0} (xs ys : List A) → ys ≡ xs → IsPrefix xs ys
same_prefix xs ys e = subst (λ zs. IsPrefix xs zs) (sym e) (whole_prefix xs)

pub behind_prefix : {A : Type 0} (xs ys : List A) → IsPrefix xs (xs ++ ys)
behind_prefix xs ys = record { more = ys; is = refl }

pub longer_prefix : {A : Type 0} (xs ys zs : List A) → IsPrefix xs ys → IsPrefix ys zs → IsPrefix xs zs
longer_prefix xs ys zs h k = record {
  more = h.more ++ k.more;
  is = k.is ∙ ap (λ l. l ++ k.more) h.is ∙ append_assoc xs h.more k.more;
}

pub map_prefix : {A B : Type 0} (f : A → B) (xs ys : List A) → IsPrefix xs ys → IsPrefix (map f xs) (map f ys)
map_prefix f xs ys h = record { more = map f h.more; is = ap (map f) h.is ∙ joined f xs h.more }
  where
    joined : {A B : Type 0} (f : A → B) (xs ys : List A) → map f (xs ++ ys) ≡ map f xs ++ map f ys
    joined f [] ys = refl
    joined f (x ∷ xs) ys = ap (λ l. f x ∷ l) (joined f xs ys)

pub length_joined : {A : Type 0} (xs ys : List A) → length (xs ++ ys) ≡ length xs + length ys
length_joined [] ys = omega arith
length_joined (x ∷ xs) ys = let h = length_joined xs ys in omega (arith, h)

pub prefix_length : {A : Type 0} (xs ys : List A) → IsPrefix xs ys → length xs ≤ length ys
prefix_length xs ys h = let k = length_joined xs h.more in let e = ap length h.is in omega (arith, k, e)

-- ---- names

pub no_names : (xs : List Entry) → AddsConstants xs xs
no_names xs = record { more = []; is = nothing_behind xs; constants = tt }

pub same_names : (xs ys : List Entry) → ys ≡ xs → AddsConstants xs ys
same_names xs ys e = subst (λ zs. AddsConstants xs zs) (sym e) (no_names xs)

-- ---- items by their numbers

pub get_joined : {A : Type 0} (xs ys : List A) (k : ℕ) (x : A) → slice_get xs k ≡ Some x → slice_get (xs ++ ys) k ≡ Some x
get_joined [] ys k x e = absurd cc
get_joined (y ∷ xs) ys zero x e = e
get_joined (y ∷ xs) ys (suc k) x e = get_joined xs ys k x e

pub get_later : {A : Type 0} (xs ys : List A) (k : ℕ) (x : A) → IsPrefix xs ys → slice_get xs k ≡ Some x → slice_get ys k ≡ Some x
get_later xs ys k x h e = subst (λ l. slice_get l k ≡ Some x) (sym h.is) (get_joined xs h.more k x e)

pub get_below : {A : Type 0} (xs : List A) (k : ℕ) (x : A) → slice_get xs k ≡ Some x → k < length xs
get_below [] k x e = absurd cc
get_below (y ∷ xs) zero x e = omega arith
get_below (y ∷ xs) (suc k) x e = let h = get_below xs k x e in omega (arith, h)

pub get_there : {A : Type 0} (xs : List A) (k : ℕ) → k < length xs → (x : A) × (slice_get xs k ≡ Some x)
get_there [] k lt = absurd (omega (arith, lt))
get_there (y ∷ xs) zero lt = (y, refl)
get_there (y ∷ xs) (suc k) lt = get_there xs k (omega (arith, lt))

-- an item of a longer list is one of the shorter, or the new one
pub get_last : {A : Type 0} (xs : List A) (y : A) (k : ℕ) (x : A) → slice_get (xs ++ y ∷ []) k ≡ Some x
    → (slice_get xs k ≡ Some x) ⊎ ((k ≡ length xs) × (y ≡ x))
get_last [] y zero x e = inr (refl, cc)
get_last [] y (suc k) x e = absurd cc
get_last (z ∷ xs) y zero x e = inl e
get_last (z ∷ xs) y (suc k) x e = later (get_last xs y k x e)
  where
    later : (slice_get xs k ≡ Some x) ⊎ ((k ≡ length xs) × (y ≡ x)) → (slice_get xs k ≡ Some x) ⊎ ((suc k ≡ suc (length xs)) × (y ≡ x))
    later (inl h) = inl h
    later (inr h) = inr (ap suc h.0, h.1)

pub get_mapped : {A B : Type 0} (f : A → B) (xs : List A) (k : ℕ) (x : A) → slice_get xs k ≡ Some x → slice_get (map f xs) k ≡ Some (f x)
get_mapped f [] k x e = absurd cc
get_mapped f (y ∷ xs) zero x e = let h : y ≡ x = cc in ap (λ z. Some (f z)) h
get_mapped f (y ∷ xs) (suc k) x e = get_mapped f xs k x e

pub index_is : {A : Type 0} (xs : List A) (k : ℕ) (d x : A) → slice_get xs k ≡ Some x → slice_index_or xs k d ≡ x
index_is [] k d x e = absurd cc
index_is (y ∷ xs) zero d x e = cc
index_is (y ∷ xs) (suc k) d x e = index_is xs k d x e

-- ---- what is so of each item

pub each_joined : {A : Type 0} (P : A → Type 0) (xs ys : List A) → Each P xs → Each P ys → Each P (xs ++ ys)
each_joined P [] ys h k = k
each_joined P (x ∷ xs) ys h k = (h.0, each_joined P xs ys h.1 k)

pub each_first : {A : Type 0} (P : A → Type 0) (xs ys : List A) → Each P (xs ++ ys) → Each P xs
each_first P [] ys h = tt
each_first P (x ∷ xs) ys h = (h.0, each_first P xs ys h.1)

pub each_before : {A : Type 0} (P : A → Type 0) (xs ys : List A) → IsPrefix xs ys → Each P ys → Each P xs
each_before P xs ys h k = each_first P xs h.more (subst (Each P) h.is k)

pub each_kept : {A : Type 0} (P Q : A → Type 0) → ((x : A) → P x → Q x) → (xs : List A) → Each P xs → Each Q xs
each_kept P Q f [] h = tt
each_kept P Q f (x ∷ xs) h = (f x h.0, each_kept P Q f xs h.1)

pub each_at : {A : Type 0} (P : A → Type 0) (xs : List A) (k : ℕ) (x : A) → Each P xs → slice_get xs k ≡ Some x → P x
each_at P [] k x h e = absurd cc
each_at P (y ∷ xs) zero x h e = let s : y ≡ x = cc in subst P s h.0
each_at P (y ∷ xs) (suc k) x h e = each_at P xs k x h.1 e

pub more_names : (xs ys zs : List Entry) → AddsConstants xs ys → AddsConstants ys zs → AddsConstants xs zs
more_names xs ys zs h k = record {
  more = h.more ++ k.more;
  is = k.is ∙ ap (λ l. l ++ k.more) h.is ∙ append_assoc xs h.more k.more;
  constants = each_joined (λ (e : Entry). IsConstantMeaning e.meaning) h.more k.more h.constants k.constants;
}

pub names_prefix : (xs ys : List Entry) → AddsConstants xs ys → IsPrefix xs ys
names_prefix xs ys h = record { more = h.more; is = h.is }

-- ---- a value that hangs on a test

pub by_test : {A : Type 0} (P : A → Type 0) (b : Bool) (x y : A) → (b ≡ true → P x) → (b ≡ false → P y) → P (if b then x else y)
by_test P true x y f g = f refl
by_test P false x y f g = g refl
