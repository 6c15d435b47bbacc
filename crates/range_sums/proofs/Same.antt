-- The test of two types for being the same.
use Rattle.std.proofs.Common.{◌≡◌, Bool, true, false, refl, ap, ◌∙◌}
use Rattle.std.specs.Prelude.{◌==◌, ◌&&◌}
use Rattle.std.proofs.lemmas.Bool.{eq-eqb, eqb-true}
use Rattle.nm_base.specs.declared.int_type.IntType.{IntType}
use Rattle.nm_base.specs.declared.int_type.IntType.TheVariants.{I8, U8, I16, U16, I32, U32}
use Rattle.nesc_core.specs.Plain.{Ty, void, int, pointer, array, struct}
use Rattle.nesc_core.specs.Parts.{same_int, same_type}

both_true : (a b : Bool) → (a && b) ≡ true → (a ≡ true) × (b ≡ true)
both_true true b e = (refl, e)
both_true false b e = absurd (cc)

same_int_is : (s t : IntType) → same_int s t ≡ true → s ≡ t
same_int_is I8 I8 e = refl
same_int_is U8 U8 e = refl
same_int_is I16 I16 e = refl
same_int_is U16 U16 e = refl
same_int_is I32 I32 e = refl
same_int_is U32 U32 e = refl
same_int_is s t e = absurd (cc)

pub same_type_is : (s t : Ty) → same_type s t ≡ true → s ≡ t
same_type_is void void e = refl
same_type_is (int s) (int t) e = ap int (same_int_is s t e)
same_type_is (pointer s) (pointer t) e = ap pointer (same_type_is s t e)
same_type_is (array s m) (array t n) e = let h = both_true (m == n) (same_type s t) e in ap (λ k. array s k) (eqb-true m n h.0) ∙ ap (λ u. array u n) (same_type_is s t h.1)
same_type_is (struct j) (struct k) e = ap struct (eqb-true j k e)
same_type_is s t e = absurd (cc)

same_int_itself : (t : IntType) → same_int t t ≡ true
same_int_itself I8 = refl
same_int_itself U8 = refl
same_int_itself I16 = refl
same_int_itself U16 = refl
same_int_itself I32 = refl
same_int_itself U32 = refl

pub same_type_itself : (t : Ty) → same_type t t ≡ true
same_type_itself void = refl
same_type_itself (int t) = same_int_itself t
same_type_itself (pointer t) = same_type_itself t
same_type_itself (array t n) = ap (λ b. b && same_type t t) (eq-eqb n n refl) ∙ same_type_itself t
same_type_itself (struct k) = eq-eqb k k refl
