-- What the code of a check means: behind it, Z tells whether the pointer is the address of a part.
use Rattle.std.proofs.Common.{Some, ◌≡◌, ◌≢◌, ◌⊎◌, ℕ, zero, suc, ◌+◌, ◌-◌, ◌/◌, ◌%◌, ◌<◌, ◌≤◌, ◌==◌, ◌&&◌, ◌||◌, not, Bool, true, false, cond, nat_le, nat_lt, List, [], ◌∷◌, refl, sym, ap, ◌∙◌, subst, arith}
use mathlib.Core.Logic.{inl, inr}
use Rattle.std.specs.List.{All, list_any}
use Rattle.std.proofs.lemmas.Bool.Decides.{nat_tests}
use Rattle.std.proofs.lemmas.Nat.{mod_below}
use Rattle.std.proofs.Math.Dec.{eqb-suc-zero}
use Rattle.msp_isa.specs.declared.instr.Cond.TheVariants.{Jne, Jeq, Jnc}
use Rattle.msp_isa.specs.declared.instr.Op2.TheVariants as op2
use Rattle.msp430_cpu.specs.Operate.{is_taken, operate}
use Rattle.open_law.specs.Homes.{Made, Number, is_made, literal}
use Rattle.open_law.proofs.Homes.{flags_zero}
use Rattle.mid_code.specs.declared.code.Check.{Check}
use Rattle.mid_code.specs.Help.{is_in_run, is_part}
use Rattle.msp_runtime.specs.Code.{Code, Nothing, Do, Then, Skip, Registers, done, meaning, value_of}
use Rattle.msp_runtime.specs.Routines.{all, compare, register, set}
use Rattle.msp_runtime.proofs.Divide.{divide_does}
use Rattle.msp_runtime.proofs.Running.{straight_bounded}
use Rattle.msp_runtime.proofs.Steps.{Ends, at_least, does, keeps, least_taken, nothing, skips, then}
use Rattle.msp_checks.specs.Checks.{IsOfWords, IsWordRun, check_code, found, last_of, match_code, run_code, runs_code, runs_of}
use Rattle.msp_checks.proofs.Numbers.{is_part_of, not_before, not_behind, not_between}

pub literal_value : (n : ℕ) (regs : ℕ → ℕ) → value_of (literal n) regs ≡ n
literal_value n regs = by (is_made n)
  where
    by : (b : Bool) → value_of (cond b (Made n) (Number n)) regs ≡ n
    by true = refl
    by false = refl

after : {c : Code} {st : Registers} {P Q : Registers → Type 0} → Ends c st P → ((s : Registers) → P s → Q s) → Ends c st Q
after {c} {st} e more = record { bounded = e.bounded; after = more _ e.after }

-- Z behind CMP
pub same_taken : (sr s d : ℕ) → s < 0x10000 → d < 0x10000 → is_taken Jeq (operate op2.Cmp false sr s d).sr ≡ (d == s)
same_taken sr s d ls ld = flags_zero sr _ _ _ _ ∙ (let z : ((d + (0x10000 - 1 - s) + 1) % 0x10000 == 0) ≡ (d == s) = grind (arith, nat_tests) in z)

-- so far, some run had x or none
pub record Searching (x size : ℕ) (b : Bool) (s : Registers) : Type 0 where
  pub pointer : s.regs 12 ≡ x
  pub remainder : s.regs 14 ≡ cond b found (x % size)

or_false : (b : Bool) → (b || false) ≡ b
or_false true = refl
or_false false = refl

or_true : (b : Bool) → (b || true) ≡ true
or_true true = refl
or_true false = refl

module _ (x size start count : ℕ) (b : Bool) (small : x < 0x10000) (some : 0 < size) (small_size : size < 0x10000) (small_start : start < 0x10000) (parts : 0 < count) where
  abbrev After : Registers → Type 0
  After = Searching x size (b || is_in_run size x (start, count))

  stays : (s : Registers) → Searching x size b s → is_in_run size x (start, count) ≡ false → After s
  stays s g e = subst (λ t. Searching x size t s) (sym (ap (λ t. b || t) e ∙ or_false b)) g

  small_remainder : x % size < 0xFFFF
  small_remainder = let m = mod_below x size some in omega (arith, m, small_size)

  remainder_word : (t : Bool) → cond t found (x % size) < 0x10000
  remainder_word true = omega arith
  remainder_word false = let m = small_remainder in omega (arith, m)

  found_now : (s : Registers) → s.regs 12 ≡ x → s.regs 14 ≡ found → b ≡ true ⊎ is_in_run size x (start, count) ≡ true → After s
  found_now s e f (inl t) = record { pointer = e; remainder = f ∙ (let z : found ≡ cond (b || is_in_run size x (start, count)) found (x % size) = rw t refl in z) }
  found_now s e f (inr t) = record { pointer = e; remainder = f ∙ ap (λ u. cond u found (x % size)) (sym (ap (λ u. b || u) t ∙ or_true b)) }

  abbrev remainder_code : Code
  remainder_code = all (Do op2.Cmp (literal (start % size)) 14 ∷ Skip Jne (set found 14) ∷ [])

  -- inside the run, the remainder tells
  remainder_does : (s : Registers) → Searching x size b s → start ≤ x → x ≤ last_of size (start, count) → Ends remainder_code s After
  remainder_does s g le in_run = then (does (then (skips tt (not (s.regs 14 == t)) taken over into)))
    where
      t : ℕ
      t = start % size

      small_t : t < 0x10000
      small_t = let m = mod_below start size some in omega (arith, m, small_size)

      small_14 : s.regs 14 < 0x10000
      small_14 = subst (λ n. n < 0x10000) (sym g.remainder) (remainder_word b)

      taken : is_taken Jne (done op2.Cmp (literal t) 14 s).sr ≡ not (s.regs 14 == t)
      taken = ap not (ap (λ m. is_taken Jeq (operate op2.Cmp false s.sr m (s.regs 14)).sr) (literal_value t s.regs) ∙ same_taken s.sr t (s.regs 14) small_t small_14)

      -- another remainder
      differs : (c : Bool) → b ≡ c → s.regs 14 ≢ t → After (done op2.Cmp (literal t) 14 s)
      differs true e n = found_now (done op2.Cmp (literal t) 14 s) g.pointer (g.remainder ∙ (let z : cond b found (x % size) ≡ found = rw e refl in z)) (inl e)
      differs false e n =
          let same : s.regs 14 ≡ x % size = g.remainder ∙ (let z : cond b found (x % size) ≡ x % size = rw e refl in z) in
          stays (done op2.Cmp (literal t) 14 s) (record { pointer = g.pointer; remainder = g.remainder }) (not_between size x start count some small parts le (λ u. n (same ∙ u)))

      agrees : (c : Bool) → b ≡ c → s.regs 14 ≡ t → After (meaning (set found 14) (done op2.Cmp (literal t) 14 s))
      agrees true e n = found_now (meaning (set found 14) (done op2.Cmp (literal t) 14 s)) g.pointer refl (inl e)
      agrees false e n =
          let same : s.regs 14 ≡ x % size = g.remainder ∙ (let z : cond b found (x % size) ≡ x % size = rw e refl in z) in
          found_now (meaning (set found 14) (done op2.Cmp (literal t) 14 s)) g.pointer refl (inr (is_part_of size x start count some small parts le in_run (sym same ∙ n)))

      over : not (s.regs 14 == t) ≡ true → Ends Nothing (done op2.Cmp (literal t) 14 s) After
      over n = nothing (differs b refl (grind (arith, nat_tests)))

      into : not (s.regs 14 == t) ≡ false → Ends Nothing (meaning (set found 14) (done op2.Cmp (literal t) 14 s)) After
      into n = nothing (agrees b refl (grind (arith, nat_tests)))

  abbrev end_code : Code
  end_code = all (set (last_of size (start, count)) 15 ∷ compare 12 15 ∷ Skip Jnc remainder_code ∷ [])

  -- behind its first address, its last one tells
  end_does : (s : Registers) → Searching x size b s → start ≤ x → Ends end_code s After
  end_does s g le = then (does (then (does (then (skips (straight_bounded remainder_code refl s2) (not (nat_le x last)) taken over into)))))
    where
      last : ℕ
      last = last_of size (start, count)

      s1 : Registers
      s1 = done op2.Mov (literal last) 15 s

      s2 : Registers
      s2 = done op2.Cmp (register 12) 15 s1

      searching : Searching x size b s2
      searching = record { pointer = g.pointer; remainder = g.remainder }

      taken : is_taken Jnc s2.sr ≡ not (nat_le x last)
      taken =
          ap (λ m. is_taken Jnc (operate op2.Cmp false s1.sr m (s1.regs 15)).sr) g.pointer
          ∙ least_taken s1.sr x (s1.regs 15) small
          ∙ ap (λ m. not (nat_le x m)) (literal_value last s.regs)

      over : not (nat_le x last) ≡ true → Ends Nothing s2 After
      over n = nothing (stays s2 searching (not_behind size x start count some small parts le (grind (arith, nat_tests))))

      into : not (nat_le x last) ≡ false → Ends Nothing (meaning remainder_code s2) After
      into n = nothing (remainder_does s2 searching le (grind (arith, nat_tests))).after

  pub match_does : (s : Registers) → Searching x size b s → Ends (match_code size (start, count)) s After
  match_does s g = at_least start x (literal_value start s.regs) small_start g.pointer (straight_bounded end_code refl (done op2.Cmp (literal start) 12 s))
      (λ le. (end_does (done op2.Cmp (literal start) 12 s) (record { pointer = g.pointer; remainder = g.remainder }) le).after)
      (λ lt. stays (done op2.Cmp (literal start) 12 s) (record { pointer = g.pointer; remainder = g.remainder }) (not_before size x start count some small parts lt))

module _ (x size : ℕ) (small : x < 0x10000) (some : 0 < size) (small_size : size < 0x10000) where
  no_parts : (t u : Bool) → (t && (u && false)) ≡ false
  no_parts true true = refl
  no_parts true false = refl
  no_parts false u = refl

  run_does : (run : ℕ × ℕ) (b : Bool) (s : Registers) → run.0 < 0x10000 → Searching x size b s → Ends (run_code size run) s (Searching x size (b || is_in_run size x run))
  run_does (start, zero) b s lt g =
      let z : nat_lt ((x - start) / size) 0 ≡ false = grind (arith, nat_tests) in
      let none : is_in_run size x (start, 0) ≡ false = rw z (no_parts (nat_le start x) ((x - start) % size == 0)) in
      nothing (subst (λ t. Searching x size t s) (sym (ap (λ t. b || t) none ∙ or_false b)) g)
  run_does (start, suc n) b s lt g = let z : (suc n == 0) ≡ false = eqb-suc-zero n in rw z (match_does x size start (suc n) b small some small_size lt (omega arith) s g)

  or_assoc : (a b c : Bool) → ((a || b) || c) ≡ (a || (b || c))
  or_assoc true b c = refl
  or_assoc false b c = refl

  runs_do : (runs : List (ℕ × ℕ)) (b : Bool) (s : Registers) → All IsWordRun runs → Searching x size b s → Ends (runs_code size runs) s (Searching x size (b || list_any (is_in_run size x) runs))
  runs_do [] b s ok g = nothing (subst (λ t. Searching x size t s) (sym (or_false b)) g)
  runs_do (run ∷ runs) b s ok g =
      then (after (run_does run b s (ok 0 run (omega arith)) g)
      (λ s1 g1. after (runs_do runs (b || is_in_run size x run) s1 (λ i d lt. ok (suc i) d (omega (arith, lt))) g1)
      (λ s2 g2. subst (λ t. Searching x size t s2) (or_assoc b (is_in_run size x run) (list_any (is_in_run size x) runs)) g2)))

-- Z tells
abbrev pub Tells : Bool → Registers → Type 0
Tells b s = is_taken Jeq s.sr ≡ b

tells_found : (x size : ℕ) (b : Bool) → 0 < size → size < 0x10000 → (s : Registers) → Searching x size b s → Ends (all (Do op2.Cmp (literal found) 14 ∷ [])) s (Tells b)
tells_found x size b some small s g = then (does (nothing (same_taken s.sr found (s.regs 14) (omega arith) (subst (λ n. n < 0x10000) (sym g.remainder) (word b)) ∙ ap (λ n. n == found) g.remainder ∙ by b)))
  where
    lt : x % size < 0xFFFF
    lt = let m = mod_below x size some in omega (arith, m, small)

    word : (b : Bool) → cond b found (x % size) < 0x10000
    word true = omega arith
    word false = let l = lt in omega (arith, l)

    by : (b : Bool) → (cond b found (x % size) == found) ≡ b
    by true = refl
    by false = let l = lt in grind (arith, nat_tests)

module _ (check : Check) (ok : IsOfWords check) (x : ℕ) (small : x < 0x10000) where
  abbrev told : Code
  told = all (Do op2.Cmp (literal found) 14 ∷ [])

  -- a size of 0 leaves the remainder 0, and no runs
  sizeless : (check.size == 0) ≡ true → (s : Registers) → s.regs 14 ≡ 0 → Ends (Then (runs_code check.size (runs_of check)) told) s (Tells (is_part (Some check) x))
  sizeless e s r =
      let none : runs_of check ≡ [] = rw e refl in
      let part : is_part (Some check) x ≡ false = rw e refl in
      subst (λ rs. Ends (Then (runs_code check.size rs) told) s (Tells (is_part (Some check) x))) (sym none)
      (then (nothing (then (does (nothing (same_taken s.sr found (s.regs 14) (omega arith) (omega (arith, r)) ∙ ap (λ n. n == found) r ∙ sym part))))))

  sized : (check.size == 0) ≡ false → (s : Registers) → s.regs 12 ≡ x → s.regs 14 ≡ x % check.size → Ends (Then (runs_code check.size (runs_of check)) told) s (Tells (is_part (Some check) x))
  sized e s p r =
      let some : 0 < check.size = grind (arith, nat_tests) in
      let all_runs : runs_of check ≡ check.runs = rw e refl in
      let part : is_part (Some check) x ≡ list_any (is_in_run check.size x) check.runs = rw e refl in
      subst (λ rs. Ends (Then (runs_code check.size rs) told) s (Tells (is_part (Some check) x))) (sym all_runs)
      (then (after (runs_do x check.size small some ok.size check.runs false s (subst (λ rs. All IsWordRun rs) all_runs ok.runs) (record { pointer = p; remainder = r }))
      (λ s1 g. subst (λ b. Ends told s1 (Tells b)) (sym part) (tells_found x check.size (list_any (is_in_run check.size x) check.runs) some ok.size s1 g))))

  searched : (s : Registers) → s.regs 12 ≡ x → s.regs 14 ≡ cond (check.size == 0) 0 (x % check.size) → Ends (Then (runs_code check.size (runs_of check)) told) s (Tells (is_part (Some check) x))
  searched s p r = by (check.size == 0) refl
    where
      by : (t : Bool) → (check.size == 0) ≡ t → Ends (Then (runs_code check.size (runs_of check)) told) s (Tells (is_part (Some check) x))
      by true e = sizeless e s (r ∙ ap (λ t. cond t 0 (x % check.size)) e)
      by false e = sized e s p (r ∙ ap (λ t. cond t 0 (x % check.size)) e)

  pub check_tells : (st : Registers) → st.regs 12 ≡ x → Ends (check_code check) st (Tells (is_part (Some check) x))
  check_tells st ex =
      then (does (then (keeps (after (divide_does _ x check.size ex small (literal_value check.size st.regs) ok.size)
      (λ s d. searched _ ex d.1)))))
