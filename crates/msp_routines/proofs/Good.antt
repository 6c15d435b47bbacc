-- Routines can be laid out.
use Rattle.std.proofs.Common.{◌≡◌, ◌⊎◌, Option, Some, None, ℕ, ◌+◌, ◌-◌, ◌*◌, ◌/◌, ◌%◌, ◌^◌, ◌<◌, ◌≤◌, ◌==◌, ◌&&◌, Bool, true, false, cond, List, [], ◌∷◌, length, get_or, refl, sym, ap, ◌∙◌, subst, arith, length-append}
use mathlib.Core.Logic.{inl, inr}
use Rattle.std.specs.Prelude.{nat_lt, slice_index_or}
use Rattle.std.proofs.lemmas.Bool.{cases_lt}
use Rattle.std.proofs.lemmas.Bool.Decides.{nat_tests}
use Rattle.nm_base.specs.declared.int_type.IntType.{IntType}
use Rattle.nm_base.specs.declared.int_type.IntType.TheVariants.{I8, U8, I16, U16, I32, U32}
use Rattle.msp_isa.specs.declared.code.CodeFn.{CodeFn}
use Rattle.msp_isa.specs.declared.code.Item.{Item}
use Rattle.msp_isa.specs.declared.code.Item.TheVariants as item
use Rattle.msp_isa.specs.declared.instr.Cond.TheVariants.{Jeq}
use Rattle.msp_isa.specs.declared.instr.Op2.TheVariants.{Cmp}
use Rattle.msp_isa.specs.Stands.{no_code}
use Rattle.mid_code.specs.declared.code.Check.{Check}
use Rattle.mid_code.specs.declared.help.HelpOp.{HelpOp}
use Rattle.mid_code.specs.declared.help.HelpOp.TheVariants.{Mul, Div, Rem, Shl, Shr}
use Rattle.mid_code.specs.Help.{operation_at, type_at}
use Rattle.msp_layout.specs.Depth.{Names}
use Rattle.msp_layout.specs.Laid.{IsGoodFn, IsGoodItem}
use Rattle.open_law.specs.Homes.{literal}
use Rattle.msp_runtime.specs.Code.{Code, Nothing, is_formed, items_from, labels, operation_item, return, routine_items}
use Rattle.msp_runtime.specs.Emitted.{code_fn}
use Rattle.msp_runtime.specs.Routines.{code_at, code_for, code_of}
use Rattle.msp_runtime.proofs.Running.{both}
use Rattle.msp_checks.specs.Checks.{IsOfWords, check_code, check_fn, check_items, found, last_of, match_code, raise, run_code, runs_code, runs_of}
use Rattle.msp_checks.specs.Written.{HasFewRuns}
use Rattle.msp_checks.proofs.Laid.{fewer, formed}
use Rattle.msp_routines.specs.Laws.{RoutinesCallNothing, RoutinesCanBeLaidOut}
use Rattle.msp_routines.specs.Routines.{routine_fns}
use Rattle.msp_routines.proofs.Labels.{AllLead, code_counts, code_leads, counted, counted-append, inside_last, inside_one, lead-append, leads_at, stands_once}
use Rattle.msp_routines.proofs.Places.{all_long, check_among, no_check, operation_among}
use Rattle.msp_routines.proofs.Made.{AllGood, all_have_words, code_good, good-append, good_at, literal_has_words}

no_callee : (fns g : ℕ) → Names [] g → g < fns
no_callee fns g name = absurd (let l = name.1 in omega (arith, l))

-- items whose jumps lead to labels below a number, each of which stands once
good_fn : (fns high : ℕ) (items : List Item) → length items < 2 ^ 28 → AllGood fns items → AllLead 0 high items → ((l : ℕ) → l < high → counted l items ≡ 1) → IsGoodFn fns items []
good_fn fns high items few good leads once = record {
  few = few;
  each = λ k lt. good_at fns items k good;
  labels = λ k l c e. stands_once items l (once l (leads_at 0 high items k l c leads e).1);
  callees = no_callee fns;
}

-- ---- code with a RET

return_good : (fns : ℕ) → IsGoodItem fns return
return_good fns = (((omega arith, λ z. absurd (omega (arith, z)), λ z. absurd (omega (arith, z))), λ z. absurd (omega (arith, z))), omega arith)

abbrev is_layable : Code → Bool
is_layable c = is_formed c && (all_have_words c && nat_lt (length (items_from c 0)) 1000)

code_layable : (fns : ℕ) (c : Code) → is_layable c ≡ true → IsGoodFn fns (routine_items c) []
code_layable fns c e =
    let t = both (is_formed c) _ e in let u = both (all_have_words c) _ t.1 in
    let short : length (items_from c 0) < 1000 = (let z = u.1 in grind (arith, nat_tests)) in
    good_fn fns (labels c) (routine_items c)
    (let l = length-append (items_from c 0) (return ∷ []) in omega (arith, l, short))
    (good-append fns (items_from c 0) (return ∷ []) (code_good fns c 0 t.0 u.0) (return_good fns, tt))
    (lead-append 0 (labels c) (items_from c 0) (return ∷ []) (code_leads 0 (labels c) c 0 (omega arith) (omega arith)) (tt, tt))
    (λ l lt. let a = counted-append l (items_from c 0) (return ∷ []) in let b = code_counts c 0 l in let d = inside_one l 0 (labels c) (omega arith) (omega (arith, lt)) in omega (arith, a, b, d))

-- ---- operations

byte_signed : (o : HelpOp) → is_layable (code_for I8 o) ≡ true
byte_signed Mul = refl
byte_signed Div = refl
byte_signed Rem = refl
byte_signed Shl = refl
byte_signed Shr = refl

byte_unsigned : (o : HelpOp) → is_layable (code_for U8 o) ≡ true
byte_unsigned Mul = refl
byte_unsigned Div = refl
byte_unsigned Rem = refl
byte_unsigned Shl = refl
byte_unsigned Shr = refl

word_signed : (o : HelpOp) → is_layable (code_for I16 o) ≡ true
word_signed Mul = refl
word_signed Div = refl
word_signed Rem = refl
word_signed Shl = refl
word_signed Shr = refl

word_unsigned : (o : HelpOp) → is_layable (code_for U16 o) ≡ true
word_unsigned Mul = refl
word_unsigned Div = refl
word_unsigned Rem = refl
word_unsigned Shl = refl
word_unsigned Shr = refl

wide_signed : (o : HelpOp) → is_layable (code_for I32 o) ≡ true
wide_signed Mul = refl
wide_signed Div = refl
wide_signed Rem = refl
wide_signed Shl = refl
wide_signed Shr = refl

wide_unsigned : (o : HelpOp) → is_layable (code_for U32 o) ≡ true
wide_unsigned Mul = refl
wide_unsigned Div = refl
wide_unsigned Rem = refl
wide_unsigned Shl = refl
wide_unsigned Shr = refl

each : (t : IntType) (o : HelpOp) → is_layable (code_for t o) ≡ true
each I8 o = byte_signed o
each U8 o = byte_unsigned o
each I16 o = word_signed o
each U16 o = word_unsigned o
each I32 o = wide_signed o
each U32 o = wide_unsigned o

any : (t : Option IntType) (o : Option HelpOp) → is_layable (code_of t o) ≡ true
any (Some t) (Some o) = each t o
any None o = refl
any (Some t) None = refl

operation_good : (fns h : ℕ) → IsGoodFn fns (routine_items (code_at h)) []
operation_good fns h = code_layable fns (code_at h) (any (type_at (h / 8)) (operation_at (h % 8)))

-- ---- checks

and_both : (a b : Bool) → a ≡ true → b ≡ true → (a && b) ≡ true
and_both a b e f = rw (e, f) refl

run_words : (size : ℕ) (run : ℕ × ℕ) → all_have_words (run_code size run) ≡ true
run_words size run = by (run.1 == 0)
  where
    a : all_have_words (match_code size run) ≡ true
    a =
        let o1 = literal_has_words run.0 in let o2 = literal_has_words (last_of size run) in let o3 = literal_has_words (run.0 % size) in
        rw (o1, o2, o3) refl

    by : (b : Bool) → all_have_words (cond b Nothing (match_code size run)) ≡ true
    by true = refl
    by false = a

runs_words : (size : ℕ) (runs : List (ℕ × ℕ)) → all_have_words (runs_code size runs) ≡ true
runs_words size [] = refl
runs_words size (run ∷ runs) = and_both _ _ (run_words size run) (runs_words size runs)

check_words : (check : Check) → all_have_words (check_code check) ≡ true
check_words check = let o = literal_has_words check.size in let r = runs_words check.size (runs_of check) in rw (o, r) refl

run_short : (size : ℕ) (run : ℕ × ℕ) (l : ℕ) → length (items_from (run_code size run) l) ≤ 11
run_short size run l = by (run.1 == 0)
  where
    by : (b : Bool) → length (items_from (cond b Nothing (match_code size run)) l) ≤ 11
    by true = omega arith
    by false = omega arith

runs_short : (size : ℕ) (runs : List (ℕ × ℕ)) (l : ℕ) → length (items_from (runs_code size runs) l) ≤ 11 * length runs
runs_short size [] l = omega arith
runs_short size (run ∷ runs) l =
    let a = length-append (items_from (run_code size run) l) (items_from (runs_code size runs) (l + labels (run_code size run))) in
    let b = run_short size run l in let c = runs_short size runs (l + labels (run_code size run)) in
    omega (arith, a, b, c)

check_short : (check : Check) → HasFewRuns check → length (items_from (check_code check) 0) ≤ 1000 + 11 * 0x1000000
check_short check few =
    let a = runs_short check.size (runs_of check) 5 in
    let b = fewer check in
    let c = length-append (items_from (runs_code check.size (runs_of check)) 5) (operation_item Cmp (literal found) 14 ∷ []) in
    omega (arith, a, b, c, few)

raise_good : (fns : ℕ) → IsGoodItem fns (item.Is raise)
raise_good fns = (tt, tt)

check_good : (fns : ℕ) (check : Check) → IsOfWords check → HasFewRuns check → IsGoodFn fns (check_items check) []
check_good fns check ok few =
    good_fn fns (l + 1) (check_items check)
    (let a = length-append (items_from c 0) behind in let b = check_short check few in omega (arith, a, b))
    (good-append fns (items_from c 0) behind (code_good fns c 0 (formed check ok) (check_words check)) (tt, (raise_good fns, (tt, (return_good fns, tt)))))
    (lead-append 0 (l + 1) (items_from c 0) behind (code_leads 0 (l + 1) c 0 (omega arith) (omega arith)) ((omega arith, omega arith), (tt, (tt, (tt, tt)))))
    (λ k lt.
    let a = counted-append k (items_from c 0) behind in let b = code_counts c 0 k in
    let d = inside_one k 0 (l + 1) (omega arith) (omega (arith, lt)) in
    let e = inside_last k l in omega (arith, a, b, d, e))
  where
    c : Code
    c = check_code check

    l : ℕ
    l = labels c

    behind : List Item
    behind = item.Jump Jeq l ∷ item.Is raise ∷ item.Label l ∷ return ∷ []

-- ---- all

pub many_routines : (checks : List Check) → length (routine_fns checks) ≡ 48 + length checks
many_routines checks = all_long (λ h. code_fn (code_at h)) checks check_fn

-- what holds of each routine of an operation and of a check holds of each routine
module _ (P : CodeFn → Type 0) (checks : List Check) (f : ℕ) (lt : f < length (routine_fns checks)) (operation : (h : ℕ) → P (code_fn (code_at h))) (of_check : (k : ℕ) → k < length checks → P (check_fn (get_or checks k no_check))) where
  routine_has : P (slice_index_or (routine_fns checks) f no_code)
  routine_has = by (cases_lt f 48)
    where
      by : (f < 48) ⊎ (48 ≤ f) → P (slice_index_or (routine_fns checks) f no_code)
      by (inl l) = subst P (sym (operation_among (λ h. code_fn (code_at h)) checks check_fn f l)) (operation f)
      by (inr l) =
          let many = many_routines checks in
          let k = f - 48 in
          let back : 48 + k ≡ f = omega (arith, l) in
          let below : k < length checks = omega (arith, many, lt, back) in
          subst P (sym (ap (λ n. slice_index_or (routine_fns checks) n no_code) (sym back) ∙ check_among (λ h. code_fn (code_at h)) checks check_fn k no_check below)) (of_check k below)

pub routines_can_be_laid_out : RoutinesCanBeLaidOut
routines_can_be_laid_out checks fns f few ok lt =
    routine_has (λ (x : CodeFn). IsGoodFn fns x.items x.calls) checks f lt (operation_good fns) (λ k below. check_good fns (get_or checks k no_check) (ok k no_check below) (few k no_check below))

pub routines_call_nothing : RoutinesCallNothing
routines_call_nothing checks f lt = routine_has (λ (x : CodeFn). x.calls ≡ []) checks f lt (λ h. refl) (λ k below. refl)
