-- Each type that a body dereferences is among the checks of its program.
use Rattle.std.proofs.Common.{◌≡◌, ℕ, zero, suc, ◌<◌, Bool, true, false, List, [], ◌∷◌, ◌++◌, All, length, Some, refl, sym, ap, ◌∙◌, subst, arith}
use Rattle.std.specs.Prelude.{slice_get, ◌&&◌, ◌||◌, if◌then◌else◌}
use Rattle.std.specs.List.{flat_map, list_any}
use Rattle.std.proofs.lemmas.Bool.Decides.{Decides-eqb}
use Rattle.std.proofs.lemmas.List.Elements.{All-cons, All-nil}
use Rattle.nm_base.specs.declared.int_type.IntType.{IntType}
use Rattle.nm_base.specs.declared.int_type.IntType.TheVariants.{I8, U8, I16, U16, I32, U32}
use Rattle.nesc_core.specs.Plain.{Ty, void, int, pointer, array, struct, Body, Program}
use Rattle.nesc_core.specs.Parts.{same_int, same_type}
use Rattle.nesc_core.specs.Derefs.{stmt_derefs}
use Rattle.lower_expr.specs.Code.{check_of}
use Rattle.lower_stmt.specs.Bodies.{checks_of, in_order}
use Rattle.lower_stmt.proofs.Common.{both_of}

int_itself : (t : IntType) → same_int t t ≡ true
int_itself I8 = refl
int_itself U8 = refl
int_itself I16 = refl
int_itself U16 = refl
int_itself I32 = refl
int_itself U32 = refl

itself : (t : Ty) → same_type t t ≡ true
itself void = refl
itself (int t) = int_itself t
itself (pointer t) = itself t
itself (array t n) = ap (λ b. b && same_type t t) ((Decides-eqb n n).1 refl) ∙ itself t
itself (struct k) = (Decides-eqb k k).1 refl

abbrev IsIn : List Ty → Ty → Type 0
IsIn seen t = check_of seen t < length seen

in_more : (b : Bool) (u t : Ty) (us : List Ty) → same_type u t ≡ b → IsIn us t → IsIn (u ∷ us) t
in_more true u t us e h = let z : check_of (u ∷ us) t ≡ 0 = ap (λ (b : Bool). if b then 0 else suc (check_of us t)) e in omega (arith, z)
in_more false u t us e h = let z : check_of (u ∷ us) t ≡ suc (check_of us t) = ap (λ (b : Bool). if b then 0 else suc (check_of us t)) e in omega (arith, z, h)

in_first : (u t : Ty) (us : List Ty) → same_type u t ≡ true → IsIn (u ∷ us) t
in_first u t us e = let z : check_of (u ∷ us) t ≡ 0 = ap (λ (b : Bool). if b then 0 else suc (check_of us t)) e in omega (arith, z)

-- what is in is so where there are more
in_tail : (b : Bool) (u t : Ty) (us : List Ty) → same_type u t ≡ b → IsIn (u ∷ us) t → b ≡ false → IsIn us t
in_tail b u t us e h f = let z : check_of (u ∷ us) t ≡ suc (check_of us t) = ap (λ (b : Bool). if b then 0 else suc (check_of us t)) (e ∙ f) in omega (arith, z, h)

in_both : (us vs : List Ty) (t : Ty) → IsIn us t → IsIn (us ++ vs) t
in_both [] vs t h = absurd (omega (arith, h))
in_both (u ∷ us) vs t h = by (same_type u t) refl (in_both us vs t)
  where
    by : (b : Bool) → same_type u t ≡ b → (IsIn us t → IsIn (us ++ vs) t) → IsIn (u ∷ us ++ vs) t
    by true e more = in_first u t (us ++ vs) e
    by false e more = in_more false u t (us ++ vs) e (more (in_tail false u t us e h refl))

in_last : (us : List Ty) (t : Ty) → IsIn (us ++ t ∷ []) t
in_last [] t = in_first t t [] (itself t)
in_last (u ∷ us) t = in_more (same_type u t) u t (us ++ t ∷ []) refl (in_last us t)

any_in : (us : List Ty) (t : Ty) → list_any (λ u. same_type u t) us ≡ true → IsIn us t
any_in [] t h = absurd (cc)
any_in (u ∷ us) t h = by (same_type u t) refl (any_in us t)
  where
    by : (b : Bool) → same_type u t ≡ b → (list_any (λ u. same_type u t) us ≡ true → IsIn us t) → IsIn (u ∷ us) t
    by true e more = in_first u t us e
    by false e more = in_more false u t us e (more (sym (ap (λ b. b || list_any (λ u. same_type u t) us) e) ∙ h))

-- ---- in order

abbrev with_type : List Ty → Ty → List Ty
with_type seen t = if list_any (λ u. same_type u t) seen then seen else seen ++ t ∷ []

kept_by : (b : Bool) (seen : List Ty) (t u : Ty) → IsIn seen u → IsIn (if b then seen else seen ++ t ∷ []) u
kept_by true seen t u h = h
kept_by false seen t u h = in_both seen (t ∷ []) u h

added : (seen : List Ty) (t : Ty) → IsIn (with_type seen t) t
added seen t = by (list_any (λ u. same_type u t) seen) refl
  where
    by : (b : Bool) → list_any (λ u. same_type u t) seen ≡ b → IsIn (if b then seen else seen ++ t ∷ []) t
    by true e = any_in seen t e
    by false e = in_last seen t

kept : (ts seen : List Ty) (u : Ty) → IsIn seen u → IsIn (in_order seen ts) u
kept [] seen u h = h
kept (t ∷ ts) seen u h = kept ts (with_type seen t) u (kept_by (list_any (λ x. same_type x t) seen) seen t u h)

all_in : (ts seen : List Ty) → All (IsIn (in_order seen ts)) ts
all_in [] seen = All-nil (IsIn seen)
all_in (t ∷ ts) seen = All-cons (IsIn (in_order (with_type seen t) ts)) t ts (kept ts (with_type seen t) t (added seen t)) (all_in ts (with_type seen t))

-- ---- of a body

of_body : (P : Ty → Type 0) (bodies : List Body) (f : ℕ) (b : Body) → slice_get bodies f ≡ Some b → All P (flat_map (λ x. stmt_derefs x.code) bodies) → All P (stmt_derefs b.code)
of_body P [] f b is h = absurd (cc)
of_body P (x ∷ bodies) zero b is h =
    let e : x ≡ b = cc in
    subst (λ y. All P (stmt_derefs y.code)) e (both_of P (stmt_derefs x.code) (flat_map (λ y. stmt_derefs y.code) bodies) h).0
of_body P (x ∷ bodies) (suc f) b is h = of_body P bodies f b is (both_of P (stmt_derefs x.code) (flat_map (λ y. stmt_derefs y.code) bodies) h).1

pub checks_there : (p : Program) (f : ℕ) (b : Body) → slice_get p.bodies f ≡ Some b → All (λ t. check_of (checks_of p) t < length (checks_of p)) (stmt_derefs b.code)
checks_there p f b is = of_body (IsIn (checks_of p)) p.bodies f b is (all_in (flat_map (λ x. stmt_derefs x.code) p.bodies) [])
