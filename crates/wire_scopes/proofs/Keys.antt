-- A type's key tells the type, so the place of its key among those of the types that were met is its number.
use Rattle.std.proofs.Common.{◌≡◌, ℕ, ◌+◌, Bool, true, false, List, [], ◌∷◌, ◌++◌, length, map, Option, Some, None, refl, sym, subst, ap, arith, ◌∙◌}
use Rattle.std.specs.Prelude.{◌&&◌, cond, nat_eq}
use Rattle.std.specs.List.{list_any, position_or_len}
use Rattle.std.proofs.lemmas.Bool.{eq-eqb, eqb-true}
use Rattle.std.proofs.lemmas.Bool.Decides.{Decides-eqb, same_from_decides}
use Rattle.std.proofs.lemmas.List.{length-map, map-append}
use Rattle.nm_base.specs.declared.int_type.IntType.{IntType}
use Rattle.nm_base.specs.declared.int_type.IntType.TheVariants.{I8, U8, I16, U16, I32, U32}
use Rattle.nesc_core.specs.Plain.{Ty, void, int, pointer, array, struct}
use Rattle.nesc_core.specs.Parts.{same_int, same_type}
use Rattle.wire_names.specs.Texts.{same_text}
use Rattle.wire_facts.specs.Seen.{numbered, place_of}
use Rattle.wire_scopes.specs.Keys.{AreKeys, int_numbered, key_of, number_of, typed, types_in}

and-true : (b : Bool) → (b && true) ≡ b
and-true true = refl
and-true false = refl

eq-turned : (m n : ℕ) → nat_eq m n ≡ nat_eq n m
eq-turned m n = same_from_decides (nat_eq m n) (nat_eq n m) (λ s. sym (eqb-true m n s), λ s. eq-eqb m n (sym s)) (Decides-eqb n m)

number-tells : (s t : IntType) → nat_eq (number_of s) (number_of t) ≡ same_int t s
number-tells I8 I8 = refl
number-tells I8 U8 = refl
number-tells I8 I16 = refl
number-tells I8 U16 = refl
number-tells I8 I32 = refl
number-tells I8 U32 = refl
number-tells U8 I8 = refl
number-tells U8 U8 = refl
number-tells U8 I16 = refl
number-tells U8 U16 = refl
number-tells U8 I32 = refl
number-tells U8 U32 = refl
number-tells I16 I8 = refl
number-tells I16 U8 = refl
number-tells I16 I16 = refl
number-tells I16 U16 = refl
number-tells I16 I32 = refl
number-tells I16 U32 = refl
number-tells U16 I8 = refl
number-tells U16 U8 = refl
number-tells U16 I16 = refl
number-tells U16 U16 = refl
number-tells U16 I32 = refl
number-tells U16 U32 = refl
number-tells I32 I8 = refl
number-tells I32 U8 = refl
number-tells I32 I16 = refl
number-tells I32 U16 = refl
number-tells I32 I32 = refl
number-tells I32 U32 = refl
number-tells U32 I8 = refl
number-tells U32 U8 = refl
number-tells U32 I16 = refl
number-tells U32 U16 = refl
number-tells U32 I32 = refl
number-tells U32 U32 = refl

key-tells : (t u : Ty) → same_text (key_of t) (key_of u) ≡ same_type u t
key-tells void void = refl
key-tells void (int u) = refl
key-tells void (pointer u) = refl
key-tells void (array u n) = refl
key-tells void (struct k) = refl
key-tells (int t) void = refl
key-tells (int t) (int u) = and-true (nat_eq (number_of t) (number_of u)) ∙ number-tells t u
key-tells (int t) (pointer u) = refl
key-tells (int t) (array u n) = refl
key-tells (int t) (struct k) = refl
key-tells (pointer t) void = refl
key-tells (pointer t) (int u) = refl
key-tells (pointer t) (pointer u) = key-tells t u
key-tells (pointer t) (array u n) = refl
key-tells (pointer t) (struct k) = refl
key-tells (array t m) void = refl
key-tells (array t m) (int u) = refl
key-tells (array t m) (pointer u) = refl
key-tells (array t m) (array u n) = ap (λ b. b && same_text (key_of t) (key_of u)) (eq-turned m n) ∙ ap (λ b. nat_eq n m && b) (key-tells t u)
key-tells (array t m) (struct k) = refl
key-tells (struct j) void = refl
key-tells (struct j) (int u) = refl
key-tells (struct j) (pointer u) = refl
key-tells (struct j) (array u n) = refl
key-tells (struct j) (struct k) = and-true (nat_eq j k) ∙ eq-turned j k

-- ---- keys that are decoded

int-typed : (t : IntType) → int_numbered (number_of t) ≡ t
int-typed I8 = refl
int-typed U8 = refl
int-typed I16 = refl
int-typed U16 = refl
int-typed I32 = refl
int-typed U32 = refl

key-typed : (t : Ty) → typed (key_of t) ≡ t
key-typed void = refl
key-typed (int t) = ap int (int-typed t)
key-typed (pointer t) = ap pointer (key-typed t)
key-typed (array t n) = ap (λ u. array u n) (key-typed t)
key-typed (struct k) = refl

pub keys-typed : (ts : List Ty) → types_in (map key_of ts) ≡ ts
keys-typed [] = refl
keys-typed (t ∷ ts) = ap (λ u. u ∷ types_in (map key_of ts)) (key-typed t) ∙ ap (λ us. t ∷ us) (keys-typed ts)

-- ---- places of keys

recurs : (q : List ℕ → Bool) (y : List ℕ) (ys : List (List ℕ)) → position_or_len q (y ∷ ys) ≡ cond (q y) 0 (1 + position_or_len q ys)
recurs q y ys = by (q y) refl
  where
    by : (t : Bool) → q y ≡ t → position_or_len q (y ∷ ys) ≡ cond t 0 (1 + position_or_len q ys)
    by true e = rw e refl
    by false e = rw e refl

module _ (t : Ty) where
  abbrev q : List ℕ → Bool
  q = same_text (key_of t)

  abbrev keys : List Ty → List (List ℕ)
  keys xs = map key_of xs

  abbrev found : ℕ → List Ty → Option ℕ
  found k xs = cond (list_any q (keys xs)) (Some (k + position_or_len q (keys xs))) None

  place-is : (k : ℕ) (xs : List Ty) → place_of k xs t ≡ found k xs
  place-is k [] = refl
  place-is k (u ∷ us) = by (same_type u t) refl (place-is (k + 1) us)
    where
      by : (b : Bool) → same_type u t ≡ b → place_of (k + 1) us t ≡ found (k + 1) us → place_of k (u ∷ us) t ≡ found k (u ∷ us)
      by true e later = rw (e, recurs q (key_of u) (keys us), key-tells t u ∙ e) (ap Some (omega arith))
      by false e later = rw (e, recurs q (key_of u) (keys us), key-tells t u ∙ e) (later ∙ ap (λ n. cond (list_any q (keys us)) (Some n) None) (omega arith))

  none-len : (ys : List (List ℕ)) → list_any q ys ≡ false → position_or_len q ys ≡ length ys
  none-len [] h = refl
  none-len (y ∷ ys) h = by (q y) refl (none-len ys)
    where
      by : (b : Bool) → q y ≡ b → (list_any q ys ≡ false → position_or_len q ys ≡ length ys) → position_or_len q (y ∷ ys) ≡ length (y ∷ ys)
      by true e later = absurd (let z = rw e at h in cc)
      by false e later = rw (recurs q y ys, e) (ap (λ n. 1 + n) (later (rw e at h)) ∙ omega arith)

  module _ (types : List Ty) where
    number-by : (b : Bool) → list_any q (keys types) ≡ b → position_or_len q (keys types) ≡ (numbered types t).0
    number-by true e = rw (place-is 0 types, e) (omega arith)
    number-by false e = rw (place-is 0 types, e) (none-len (keys types) e ∙ length-map types key_of)

    pub number-is : position_or_len (same_text (key_of t)) (map key_of types) ≡ (numbered types t).0
    number-is = number-by (list_any q (keys types)) refl

    types-by : (b : Bool) → list_any q (keys types) ≡ b → cond (list_any q (keys types)) (keys types) (keys types ++ key_of t ∷ []) ≡ map key_of (numbered types t).1
    types-by true e = rw (place-is 0 types, e) refl
    types-by false e = rw (place-is 0 types, e) (sym (map-append key_of types (t ∷ [])))

    pub types-are : cond (list_any (same_text (key_of t)) (map key_of types)) (map key_of types) (map key_of types ++ key_of t ∷ []) ≡ map key_of (numbered types t).1
    types-are = types-by (list_any q (keys types)) refl

-- ---- tables of keys

-- a table behind one more type, or none, is that of the types with this one
with-number : (t : Ty) (before after : List (List ℕ)) → AreKeys before
    → after ≡ cond (list_any (same_text (key_of t)) before) before (before ++ key_of t ∷ [])
    → after ≡ map key_of (numbered (types_in before) t).1
with-number t before after are is =
    is ∙ (ap (λ ks. cond (list_any (same_text (key_of t)) ks) ks (ks ++ key_of t ∷ [])) are ∙ types-are t (types_in before))

pub number-in : (t : Ty) (before : List (List ℕ)) (k : ℕ) → AreKeys before
    → k ≡ position_or_len (same_text (key_of t)) before → k ≡ (numbered (types_in before) t).0
number-in t before k are is = is ∙ (ap (position_or_len (same_text (key_of t))) are ∙ number-is t (types_in before))

pub types-in : (t : Ty) (before after : List (List ℕ)) → AreKeys before
    → after ≡ cond (list_any (same_text (key_of t)) before) before (before ++ key_of t ∷ [])
    → types_in after ≡ (numbered (types_in before) t).1
types-in t before after are is = ap types_in (with-number t before after are is) ∙ keys-typed (numbered (types_in before) t).1

pub are-keys : (t : Ty) (before after : List (List ℕ)) → AreKeys before
    → after ≡ cond (list_any (same_text (key_of t)) before) before (before ++ key_of t ∷ [])
    → AreKeys after
are-keys t before after are is =
    with-number t before after are is ∙ ap (map key_of) (sym (types-in t before after are is))

-- ones that stay
pub stay-keys : (before after : List (List ℕ)) → AreKeys before → after ≡ before → AreKeys after
stay-keys before after are is = subst AreKeys (sym is) are

pub ruleset keyed = (number-in, types-in, are-keys, stay-keys)
