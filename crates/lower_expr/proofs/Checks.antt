-- The check of a type holds of the addresses of its parts.
use Rattle.std.proofs.Common.{◌≡◌, ℕ, suc, ◌+◌, ◌-◌, ◌/◌, ◌%◌, ◌<◌, Bool, true, false, List, [], ◌∷◌, length, map, Some, None, refl, ap, ◌∙◌, arith}
use Rattle.std.specs.Prelude.{nat_le, nat_lt, not, slice_get, ◌==◌, ◌&&◌, ◌||◌, if◌then◌else◌}
use Rattle.std.specs.List.{list_any}
use Rattle.std.specs.Option.{option_map}
use Rattle.std.proofs.lemmas.Option.{slice_get-map}
use Rattle.std.proofs.lemmas.Bool.{eqb-true}
use Rattle.std.proofs.lemmas.Bool.Decides.{nat_tests}
use Rattle.nm_base.specs.declared.int_type.IntType.{IntType}
use Rattle.nm_base.specs.declared.int_type.IntType.TheVariants.{I8, U8, I16, U16, I32, U32}
use Rattle.nesc_core.specs.Plain.{Ty, void, int, pointer, array, struct, Program}
use Rattle.nesc_core.specs.Parts.{Run, run_has, runs, parts, runs_of, same_int, same_type}
use Rattle.nesc_core.specs.Parts as core
use Rattle.nesc_core.proofs.FieldLemmas.{runs_have}
use Rattle.core_meaning.specs.Layout.{size_of}
use Rattle.mid_code.specs.declared.code.MidCode.{MidCode}
use Rattle.mid_code.specs.Help.{computed, first_check, helped, is_in_run, is_part, operation_at, type_at}
use Rattle.lower_expr.specs.Code.{check_for, check_of}
use Rattle.lower_expr.proofs.Numbers.{not_below}

-- ---- types that are tested to be the same are the same

both_true : (a b : Bool) → (a && b) ≡ true → (a ≡ true) × (b ≡ true)
both_true true b e = (refl, e)
both_true false b e = absurd (cc)

same_int_is : (s t : IntType) → same_int s t ≡ true → s ≡ t
same_int_is I8 I8 e = refl
same_int_is I8 U8 e = absurd (cc)
same_int_is I8 I16 e = absurd (cc)
same_int_is I8 U16 e = absurd (cc)
same_int_is I8 I32 e = absurd (cc)
same_int_is I8 U32 e = absurd (cc)
same_int_is U8 I8 e = absurd (cc)
same_int_is U8 U8 e = refl
same_int_is U8 I16 e = absurd (cc)
same_int_is U8 U16 e = absurd (cc)
same_int_is U8 I32 e = absurd (cc)
same_int_is U8 U32 e = absurd (cc)
same_int_is I16 I8 e = absurd (cc)
same_int_is I16 U8 e = absurd (cc)
same_int_is I16 I16 e = refl
same_int_is I16 U16 e = absurd (cc)
same_int_is I16 I32 e = absurd (cc)
same_int_is I16 U32 e = absurd (cc)
same_int_is U16 I8 e = absurd (cc)
same_int_is U16 U8 e = absurd (cc)
same_int_is U16 I16 e = absurd (cc)
same_int_is U16 U16 e = refl
same_int_is U16 I32 e = absurd (cc)
same_int_is U16 U32 e = absurd (cc)
same_int_is I32 I8 e = absurd (cc)
same_int_is I32 U8 e = absurd (cc)
same_int_is I32 I16 e = absurd (cc)
same_int_is I32 U16 e = absurd (cc)
same_int_is I32 I32 e = refl
same_int_is I32 U32 e = absurd (cc)
same_int_is U32 I8 e = absurd (cc)
same_int_is U32 U8 e = absurd (cc)
same_int_is U32 I16 e = absurd (cc)
same_int_is U32 U16 e = absurd (cc)
same_int_is U32 I32 e = absurd (cc)
same_int_is U32 U32 e = refl

same_type_is : (s t : Ty) → same_type s t ≡ true → s ≡ t
same_type_is void void e = refl
same_type_is void (int t) e = absurd (cc)
same_type_is void (pointer t) e = absurd (cc)
same_type_is void (array t n) e = absurd (cc)
same_type_is void (struct k) e = absurd (cc)
same_type_is (int s) void e = absurd (cc)
same_type_is (int s) (int t) e = ap int (same_int_is s t e)
same_type_is (int s) (pointer t) e = absurd (cc)
same_type_is (int s) (array t n) e = absurd (cc)
same_type_is (int s) (struct k) e = absurd (cc)
same_type_is (pointer s) void e = absurd (cc)
same_type_is (pointer s) (int t) e = absurd (cc)
same_type_is (pointer s) (pointer t) e = ap pointer (same_type_is s t e)
same_type_is (pointer s) (array t n) e = absurd (cc)
same_type_is (pointer s) (struct k) e = absurd (cc)
same_type_is (array s m) void e = absurd (cc)
same_type_is (array s m) (int t) e = absurd (cc)
same_type_is (array s m) (pointer t) e = absurd (cc)
same_type_is (array s m) (array t n) e = let h = both_true (m == n) (same_type s t) e in ap (λ k. array s k) (eqb-true m n h.0) ∙ ap (λ u. array u n) (same_type_is s t h.1)
same_type_is (array s m) (struct k) e = absurd (cc)
same_type_is (struct j) void e = absurd (cc)
same_type_is (struct j) (int t) e = absurd (cc)
same_type_is (struct j) (pointer t) e = absurd (cc)
same_type_is (struct j) (array t n) e = absurd (cc)
same_type_is (struct j) (struct k) e = ap struct (eqb-true j k e)

-- ---- the check of a type is found

at_check_by : (b : Bool) (u : Ty) (us : List Ty) (t : Ty) → same_type u t ≡ b → (check_of us t < length us → slice_get us (check_of us t) ≡ Some t) →
    (if b then 0 else suc (check_of us t)) < suc (length us) → slice_get (u ∷ us) (if b then 0 else suc (check_of us t)) ≡ Some t
at_check_by true u us t e later lt = ap Some (same_type_is u t e)
at_check_by false u us t e later lt = later (omega (arith, lt))

at_check : (us : List Ty) (t : Ty) → check_of us t < length us → slice_get us (check_of us t) ≡ Some t
at_check [] t lt = absurd (omega arith)
at_check (u ∷ us) t lt = at_check_by (same_type u t) u us t refl (at_check us t) lt

-- ---- and has the parts

all_three : (a b c : Bool) → (a && (b && c)) ≡ (a && b && c)
all_three true b c = refl
all_three false b c = refl

any_mapped : (size a : ℕ) (rs : List Run) → list_any (is_in_run size a) (map (λ r. (r.first, r.count)) rs) ≡ list_any (run_has size a) rs
any_mapped size a [] = refl
any_mapped size a (r ∷ rs) =
    ap (λ b. b || list_any (is_in_run size a) (map (λ (q : Run). (q.first, q.count)) rs)) (all_three (nat_le r.first a) ((a - r.first) % size == 0) (nat_lt ((a - r.first) / size) r.count))
    ∙ ap (λ b. run_has size a r || b) (any_mapped size a rs)

some_size : (size : ℕ) → 0 < size → (size == 0) ≡ false
some_size size lt = grind (arith, nat_tests)

part_is : (p : Program) (t : Ty) (a : ℕ) → 0 < size_of p t → is_part (Some (check_for p t)) a ≡ core.is_part p t a
part_is p t a some =
    ap (λ b. not b && list_any (is_in_run (size_of p t) a) (map (λ r. (r.first, r.count)) (runs_of p t))) (some_size (size_of p t) some)
    ∙ any_mapped (size_of p t) a (runs_of p t) ∙ runs_have (size_of p t) some (parts p t) a

pub check_given : (codes : MidCode) (p : Program) (checks : List Ty) (t : Ty) (a : ℕ) → codes.checks ≡ map (check_for p) checks → check_of checks t < length checks → 0 < size_of p t →
    helped codes (first_check + check_of checks t) (a ∷ []) ≡ (if core.is_part p t a then Some [] else None)
check_given codes p checks t a are lt some =
    let k : ℕ = check_of checks t in
    let place : first_check + k - first_check ≡ k = omega arith in
    let found : slice_get codes.checks (first_check + k - first_check) ≡ Some (check_for p t) =
    ap (slice_get codes.checks) place ∙ ap (λ l. slice_get l k) are ∙ slice_get-map (check_for p) checks k ∙ ap (option_map (check_for p)) (at_check checks t lt) in
    ap (λ (b : Bool). if b then Some (computed (type_at ((first_check + k) / 8)) (operation_at ((first_check + k) % 8)) (a ∷ [])) else (if is_part (slice_get codes.checks (first_check + k - first_check)) a then Some [] else None)) (not_below (first_check + k) first_check (omega arith))
    ∙ ap (λ (b : Bool). if b then Some [] else None) (ap (λ o. is_part o a) found ∙ part_is p t a some)
