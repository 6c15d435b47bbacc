-- A check's code, laid out in an image, is the routine of its number there.
use Rattle.std.proofs.Common.{Some, ◌≡◌, ℕ, suc, ◌+◌, ◌-◌, ◌*◌, ◌%◌, ◌<◌, ◌≤◌, ◌==◌, ◌&&◌, not, Bool, true, false, cond, List, [], ◌∷◌, ◌++◌, length, refl, sym, ap, ◌∙◌, subst, arith}
use Rattle.std.specs.Prelude.{nat_lt, slice_get, slice_index}
use Rattle.std.proofs.lemmas.Bool.Decides.{nat_tests}
use Rattle.std.proofs.Math.Nat.{mod-le}
use Rattle.std.specs.List.{All}
use Rattle.nm_base.specs.declared.action.Action.{Action}
use Rattle.msp_isa.specs.declared.code.CodeFn.{CodeFn}
use Rattle.msp_isa.specs.declared.code.Item.{Item}
use Rattle.msp_isa.specs.declared.code.Item.TheVariants as item
use Rattle.msp_isa.specs.declared.instr.Cond.TheVariants.{Jeq}
use Rattle.msp_isa.specs.declared.instr.Instr.TheVariants.{Two}
use Rattle.msp_isa.specs.declared.instr.Op2.TheVariants.{Mov}
use Rattle.msp_isa.specs.declared.instr.Operand.TheVariants.{Reg, Increment}
use Rattle.msp_isa.specs.Stands.{IsLaid, items_of}
use Rattle.msp430_cpu.specs.Cpu.{even, reg}
use Rattle.mid_code.specs.declared.code.Check.{Check}
use Rattle.mid_code.specs.declared.code.MidCode.{MidCode}
use Rattle.mid_code.specs.Form.{KindFits}
use Rattle.mid_code.specs.Help.{first_check, helped, is_part}
use Rattle.open_law.specs.Body.{code_below}
use Rattle.open_law.specs.Homes.{is_made, Made, Number, literal}
use Rattle.open_law.specs.Open.{open_start}
use Rattle.open_law.specs.Stands.{IsMarked}
use Rattle.open_law.proofs.Quiet.{reg_plain}
use Rattle.msp_select.specs.Routine.{Ends, Hold, IsGoing, IsPassed, Turns}
use Rattle.msp_runtime.specs.Code.{Code, Nothing, Registers, depth, is_formed, is_operand, items_from, labels, leaves, leaves_others, return, weight}
use Rattle.msp_runtime.proofs.Running.{Jumps, Stand}
use Rattle.msp_runtime.proofs.Standing.{Holds, IsPlaced, all_hold, first_holds, jumps_at, label_at, rest_holds, single, stand_at}
use Rattle.msp_checks.specs.Checks.{IsOfWords, IsWordRun, check_code, checked_items, last_of, match_code, raise, run_code, runs_code, runs_of}
use Rattle.msp_checks.specs.Laws.{ChecksAreRoutines, ChecksAreShort}
use Rattle.msp_checks.proofs.Ending.{given_where, turns}
use Rattle.msp_checks.proofs.Matching.{check_tells}

-- ---- what is so of a check's code

operand : (n : ℕ) → n < 0x10000 → is_operand (literal n) ≡ true
operand n lt = by (is_made n)
  where
    by : (b : Bool) → is_operand (cond b (Made n) (Number n)) ≡ true
    by true = grind (arith, nat_tests)
    by false = grind (arith, nat_tests)

-- formed, without stack, and R4 to R11 are left
pub record IsPlain (c : Code) : Type 0 where
  pub formed : is_formed c ≡ true
  pub depth : depth c ≡ 0
  pub leaves : (r : ℕ) → r < 12 → leaves r c ≡ true

and_both : (a b : Bool) → a ≡ true → b ≡ true → (a && b) ≡ true
and_both a b e f = rw (e, f) refl

not_same : (r q : ℕ) → r < q → not (r == q) ≡ true
not_same r q lt = let z : (r == q) ≡ false = grind (arith, nat_tests) in ap not z

match_plain : (size start count : ℕ) → start < 0x10000 → IsPlain (match_code size (start, count))
match_plain size start count lt =
    let last = last_of size (start, count) in let t = start % size in
    let o1 = operand start lt in
    let o2 = operand last (omega arith) in
    let o3 = operand t (small start size lt) in
    record {
      formed = rw (o1, o2, o3) refl;
      depth = refl;
      leaves = λ r l. let e14 = not_same r 14 (omega (arith, l)) in let e15 = not_same r 15 (omega (arith, l)) in let e12 = not_same r 12 l in rw (e12, e14, e15) refl;
    }
  where
    small : (n d : ℕ) → n < 0x10000 → n % d < 0x10000
    small n d lt = let e = mod-le n d in omega (arith, e, lt)

run_plain : (size : ℕ) (run : ℕ × ℕ) → run.0 < 0x10000 → IsPlain (run_code size run)
run_plain size (start, count) lt = by (count == 0)
  where
    by : (b : Bool) → IsPlain (cond b Nothing (match_code size (start, count)))
    by true = record { formed = refl; depth = refl; leaves = λ r l. refl }
    by false = match_plain size start count lt

runs_plain : (size : ℕ) (runs : List (ℕ × ℕ)) → All IsWordRun runs → IsPlain (runs_code size runs)
runs_plain size [] ok = record { formed = refl; depth = refl; leaves = λ r l. refl }
runs_plain size (run ∷ runs) ok =
    let a = run_plain size run (ok 0 run (omega arith)) in
    let b = runs_plain size runs (λ i d lt. ok (suc i) d (omega (arith, lt))) in
    record {
      formed = and_both _ _ a.formed b.formed;
      depth = let x = a.depth in let y = b.depth in omega (arith, x, y);
      leaves = λ r l. and_both _ _ (a.leaves r l) (b.leaves r l);
    }

module _ (check : Check) (ok : IsOfWords check) where
  plain : IsPlain (runs_code check.size (runs_of check))
  plain = runs_plain check.size (runs_of check) ok.runs

  pub formed : is_formed (check_code check) ≡ true
  formed = let o = operand check.size ok.size in let p = plain.formed in rw (o, p) refl

  deep : depth (check_code check) ≡ 2
  deep = let d = plain.depth in rw d refl

  left : (r : ℕ) → r < 12 → leaves r (runs_code check.size (runs_of check)) ≡ true
  left r lt = plain.leaves r lt

  others : leaves_others (check_code check) ≡ true
  others =
      let l4 = left 4 (omega arith) in let l5 = left 5 (omega arith) in let l6 = left 6 (omega arith) in let l7 = left 7 (omega arith) in
      let l8 = left 8 (omega arith) in let l9 = left 9 (omega arith) in let l10 = left 10 (omega arith) in let l11 = left 11 (omega arith) in
      rw (l4, l5, l6, l7, l8, l9, l10, l11) refl

-- ---- instructions of all runs

run_light : (size : ℕ) (run : ℕ × ℕ) → weight (run_code size run) ≤ 8
run_light size run = by (run.1 == 0)
  where
    by : (b : Bool) → weight (cond b Nothing (match_code size run)) ≤ 8
    by true = omega arith
    by false = omega arith

runs_light : (size : ℕ) (runs : List (ℕ × ℕ)) → weight (runs_code size runs) ≤ 8 * length runs
runs_light size [] = omega arith
runs_light size (run ∷ runs) = let a = run_light size run in let b = runs_light size runs in omega (arith, a, b)

pub fewer : (check : Check) → length (runs_of check) ≤ length check.runs
fewer check = by (check.size == 0)
  where
    by : (b : Bool) → length (cond b [] check.runs) ≤ length check.runs
    by true = omega arith
    by false = omega arith

pub runs_deep : (size : ℕ) (runs : List (ℕ × ℕ)) → depth (runs_code size runs) ≡ 0
runs_deep size [] = refl
runs_deep size (run ∷ runs) = let a = one size run in let b = runs_deep size runs in omega (arith, a, b)
  where
    one : (size : ℕ) (run : ℕ × ℕ) → depth (run_code size run) ≡ 0
    one size run = by (run.1 == 0)
      where
        by : (b : Bool) → depth (cond b Nothing (match_code size run)) ≡ 0
        by true = refl
        by false = refl

pub checks_are_short : ChecksAreShort
checks_are_short check =
    let a = runs_light check.size (runs_of check) in let b = fewer check in
    let d = runs_deep check.size (runs_of check) in
    (omega (arith, a, b), (rw d (omega arith)))

-- ---- where it is laid out

module _ (c : Code) (formed : is_formed c ≡ true) (image : ℕ → ℕ) (data_end : ℕ) (marks : ℕ → List Action) (entries : ℕ → ℕ) (out : List CodeFn) (laid : IsLaid image out entries) (f : ℕ) (inside : f < length out) (written : items_of out f ≡ checked_items c)
    (unmarked : (k a : ℕ) → k < length (items_of out f) → laid.places f k ≤ a → a < laid.places f (k + 1) → marks a ≡ []) (is_even : even (entries f) ≡ entries f) (small : entries f < 0x10000) where
  abbrev items : List Item
  items = items_of out f

  abbrev place : ℕ → ℕ
  place = laid.places f

  abbrev l : ℕ
  l = labels c

  abbrev n : ℕ
  n = 0 + length (items_from c 0)

  abbrev behind : List Item
  behind = item.Jump Jeq l ∷ item.Is raise ∷ item.Label l ∷ return ∷ []

  holds : Holds items 0 (items_from c 0 ++ behind)
  holds = subst (λ xs. Holds items 0 xs) written (all_hold items)

  body : Holds items 0 (items_from c 0)
  body = first_holds items 0 (items_from c 0) behind holds

  tail : Holds items n behind
  tail = rest_holds items 0 (items_from c 0) behind holds

  placed : IsPlaced image data_end marks 0 entries out laid f inside 0
  placed = let e = laid.entry f inside in record { is_even = subst (λ n. even n ≡ n) (sym e) is_even; small = subst (λ n. n < 0x10000) (sym e) small }

  raised : IsMarked image marks (place (suc n)) [] raise
  raised = (single image data_end marks 0 entries out laid f inside unmarked (suc n) raise tail.2.0 tail.2.1).0

  returned : IsMarked image marks (place (suc (suc (suc n)))) [] (Two Mov false (Increment 1) (Reg 0))
  returned = (single image data_end marks 0 entries out laid f inside unmarked (suc (suc (suc n))) (Two Mov false (Increment 1) (Reg 0)) tail.2.2.2.0 tail.2.2.2.1).0

  -- a label takes no room
  label : place (suc (suc n)) ≡ place (suc (suc (suc n)))
  label = label_at image data_end marks 0 entries out laid f inside unmarked (suc (suc n)) l tail.2.2.0 tail.2.2.1

  target : (sp0 : ℕ) → IsPlaced image data_end marks sp0 entries out laid f inside (suc (suc n))
  target sp0 = let e = label in let r = returned.at.even in let h = returned.at.high in record { is_even = omega (arith, e, r); small = omega (arith, e, h) }

  jumps : (sp0 : ℕ) → Jumps image data_end marks sp0 (place n) (place (suc (suc n))) (place (suc n)) Jeq
  jumps sp0 = jumps_at image data_end marks sp0 entries out laid f inside unmarked n (suc (suc n)) Jeq l refl tail.0 (target sp0) tail.1 tail.2.2.1

  stands : (sp0 : ℕ) → Stand image data_end marks sp0 c (entries f) (place n)
  stands sp0 =
      subst (λ m. Stand image data_end marks sp0 c m (place n)) (laid.entry f inside)
      (stand_at image data_end marks sp0 entries out laid f inside unmarked c 0 0 formed body (record { is_even = placed.is_even; small = placed.small }))

-- ---- the law

-- one value, and none back
passed_one : (c : MidCode) (k : ℕ) (values : List ℕ) → IsPassed c (first_check + k) values → length values ≡ 1
passed_one c k values p =
    let t : nat_lt (first_check + k) first_check ≡ false = grind (arith, nat_tests) in
    let fits : KindFits false (length c.checks) (first_check + k) (length values) p.0 = subst (λ b. KindFits b (length c.checks) (first_check + k) (length values) p.0) t p.1 in
    fits.1

helped_by : (c : MidCode) (k : ℕ) (check : Check) (x : ℕ) → slice_get c.checks k ≡ Some check → helped c (first_check + k) (x ∷ []) ≡ given_where (is_part (Some check) x)
helped_by c k check x e =
    let t : nat_lt (first_check + k) first_check ≡ false = grind (arith, nat_tests) in
    let m : first_check + k - first_check ≡ k = omega arith in
    rw (t, m, e) refl

single_value : (values : List ℕ) → length values ≡ 1 → (x : ℕ) × (values ≡ x ∷ [])
single_value [] e = absurd (omega (arith, e))
single_value (x ∷ []) e = (x, refl)
single_value (x ∷ y ∷ more) e = absurd (omega (arith, e))

pub checks_are_routines : ChecksAreRoutines
checks_are_routines c k check image data_end marks entries out laid f at ok objects inside written unmarked is_even small = record {
  even_entry = is_even;
  small_entry = small;
  runs = λ values top start ram takes pc words awake level held bytes room within high.
      let two : top - 2 + 2 ≡ top = omega (arith, within) in
      let one = single_value values (passed_one c k values takes) in
      let x = one.0 in
      let holds12 : Hold 12 (x ∷ []) (reg start) = subst (λ vs. Hold 12 vs (reg start)) one.1 held in
      let st : Registers = record { regs = λ r. slice_index start.others (r - 4); sr = start.sr; sp = start.sp } in
      let g = check_tells check ok x holds12.1 st (sym (reg_plain start 12 (omega arith)) ∙ holds12.0) in
      let c0 = check_code check in let is_formed0 = formed check ok in let d = deep check ok in
      let n0 = 0 + length (items_from c0 0) in
      let l0 = label c0 is_formed0 image data_end marks entries out laid f inside written unmarked is_even small in
      subst (λ t. (n : ℕ) × (n < weight c0 + 4) × Turns (code_below image data_end marks t) (IsGoing (code_below image data_end marks t) start ram) (Ends (code_below image data_end marks t) start ram (helped c (first_check + k) values)) n (open_start start ram)) two
      (subst (λ o. (n : ℕ) × (n < weight c0 + 4) × Turns (code_below image data_end marks (top - 2 + 2)) (IsGoing (code_below image data_end marks (top - 2 + 2)) start ram) (Ends (code_below image data_end marks (top - 2 + 2)) start ram o) n (open_start start ram))
      (sym (ap (helped c (first_check + k)) one.1 ∙ helped_by c k check x at))
      (turns image data_end marks (top - 2) start ram objects room (omega (arith, within)) (omega (arith, within, high)) words awake level bytes (is_part (Some check) x) c0 (laid.places f n0) (laid.places f (suc (suc n0))) (laid.places f (suc n0)) is_formed0 (omega (arith, d)) (others check ok)
      (subst (λ p. Stand image data_end marks (top - 2) c0 p (laid.places f n0)) (sym pc) (stands c0 is_formed0 image data_end marks entries out laid f inside written unmarked is_even small (top - 2)))
      (jumps c0 is_formed0 image data_end marks entries out laid f inside written unmarked is_even small (top - 2))
      (raised c0 is_formed0 image data_end marks entries out laid f inside written unmarked is_even small)
      (subst (λ p. IsMarked image marks p [] (Two Mov false (Increment 1) (Reg 0))) (sym l0) (returned c0 is_formed0 image data_end marks entries out laid f inside written unmarked is_even small))
      g.bounded g.after));
}
