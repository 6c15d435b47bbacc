-- A relation that is kept from one piece of code to the next gives the open law.
use Rattle.std.proofs.Common.{None, ◌≡◌, ◌≢◌, ◌⊎◌, ⊎_elim, ℕ, zero, suc, ◌+◌, ◌-◌, ◌*◌, ◌<◌, ◌≤◌, Bool, true, false, cond, nat_le, nat_lt, List, [], ◌∷◌, ◌++◌, length, length-append, refl, sym, ap, ◌∙◌, subst, arith}
use Rattle.std.specs.Prelude.{is_some, count_by, slice_index}
use Rattle.std.specs.List.{AllByRecursion}
use mathlib.Core.Logic.{inl, inr}
use Rattle.std.proofs.lemmas.Bool.Decides.{nat_tests}
use Rattle.std.proofs.lemmas.Nat.{mul-le}
use Rattle.nm_base.specs.Lists.{bit, IsPrefixOf}
use Rattle.nm_base.specs.declared.action.Action.{Action}
use Rattle.msp430_cpu.specs.Cpu.{Cpu, gie, cpuoff, even, reg}
use Rattle.nm_base.specs.Behaviour.{Performed, Trace, Returned, is_begin, is_end, is_returned}
use Rattle.open_law.specs.Open.{Done, actions_of, answers_of, fault_of, silent, Moment, IsMoment, Open, Code, AreNext, AreMarks, HoldsWords, IsBetween, IsFair, IsOpenCode, IsGated, IsShut, is_over, went, open_step, open_all, open_start}
use Rattle.msp_isa.specs.Stands.{word_in}
use Rattle.open_law.specs.Body.{acts, code_below, given_in, HasGiven, IsBodyLaw, IsFunctionLaw, StartsOpen, StartsShut}
use Rattle.open_law.specs.Laws.{FunctionsAreBodies}
use Rattle.open_law.proofs.View.{View, IsLog, Shows, cpu_of}
use Rattle.open_law.proofs.Log.{actions_on, actions_silent, next_on}
use Rattle.open_law.proofs.Chain.{Goes, Chain}

or_true : (b : Bool) → cond b true true ≡ true
or_true true = refl
or_true false = refl

clash : (b : Bool) → b ≡ false → b ≡ true → ⊥
clash b f t = cc

abbrev pub is_inside : List Action → Bool
is_inside actions = nat_lt (count_by is_end actions) (count_by is_begin actions)

-- a body's code is called
pub record IsStart (data_end entry frame : ℕ) (c : Cpu) (ram : ℕ → ℕ) : Type 0 where
  pub pc : c.pc ≡ entry
  pub room : data_end + frame ≤ c.sp
  pub high : c.sp + 2 ≤ 0x3900
  pub awake : cpuoff c ≡ false
  pub words : HoldsWords c
  pub level : c.gate ≡ gie c
  pub bytes : (a : ℕ) → ram a < 0x100

-- the call is over
pub record IsBack (gives : ℕ) (act : List ℕ → ℕ → Trace) (c : Cpu) (ram : ℕ → ℕ) (v : View) : Type 0 where
  pub sp : v.sp ≡ c.sp + 2
  pub pc : v.pc ≡ even (word_in ram c.sp)
  pub gate : v.gate ≡ c.gate
  pub gie : bit v.sr 3 ≡ bit c.sr 3
  pub outside : is_inside v.made ≡ false
  pub no_fault : v.faulted ≡ None
  pub value : ℕ
  pub turns : ℕ
  pub ended : act v.answers turns ≡ record { actions = v.made; why = Returned value }
  pub result : given_in gives v.regs ≡ value

-- what is so of a view between two instructions
pub record Follows (gives : ℕ) (act : List ℕ → ℕ → Trace) (frame : ℕ) (marks : ℕ → List Action) (c : Cpu) (ram : ℕ → ℕ) (v : View) : Type 0 where
  pub low : c.sp ≤ v.sp + frame
  pub high : v.sp ≤ c.sp + 2
  pub even_sp : even v.sp ≡ v.sp
  pub word : v.sr < 0x10000
  pub awake : bit v.sr 4 ≡ false
  pub closed : gie c ≡ false → (bit v.sr 3 ≡ false) × (v.gate ≡ false)
  pub inside : is_inside v.made ≡ true → v.gate ≡ false
  pub outside : gie c ≡ true → is_inside v.made ≡ false → bit v.sr 3 ≡ false → (v.gate ≡ true) × (is_inside (v.made ++ marks v.pc) ≡ true)
  pub back : c.sp < v.sp → IsBack gives act c ram v

-- after k instructions
abbrev pub open_after : Code → (ℕ → Moment) → Open → ℕ → Open
open_after code out o zero = o
open_after code out o (suc k) = open_step code (out k) (open_after code out o k)

log_of : (top : ℕ) (v : View) (o : Open) → Shows top v o → IsLog v.made v.answers v.faulted o.done
log_of top v o s = subst (λ (x : Open). IsLog v.made v.answers v.faulted x.done) (sym s.same) s.log

-- nothing is lost of what was done
longer_by : (code : Code) (now : Moment) (o : Open) (b : Bool) → length o.done ≤ length (cond b o (went code now o)).done
longer_by code now o true = omega arith
longer_by code now o false = let z : length (went code now o).done ≡ length o.done + _ = length-append o.done _ in omega (arith, z)

longer : (code : Code) (now : Moment) (o : Open) → length o.done ≤ length (open_step code now o).done
longer code now o = longer_by code now o (is_over code.top o)

longer_on : (code : Code) (out : ℕ → Moment) (o : Open) (k d : ℕ) → length (open_after code out o k).done ≤ length (open_after code out o (k + d)).done
longer_on code out o k zero = let e : k + 0 ≡ k = omega arith in subst (λ n. length (open_after code out o k).done ≤ length (open_after code out o n).done) (sym e) (omega arith)
longer_on code out o k (suc d) =
    let e : suc (k + d) ≡ k + suc d = omega arith in
    let a = longer_on code out o k d in
    let b = longer code (out (k + d)) (open_after code out o (k + d)) in
    subst (λ n. length (open_after code out o k).done ≤ length (open_after code out o n).done) e (omega (arith, a, b))

abbrev quiet_moment : Moment
quiet_moment = record { bytes = λ a. 0; answer = λ done p. 0; interrupted = false }

is_quiet : IsMoment quiet_moment
is_quiet = record { bytes = λ a. omega arith; answer = λ done p outs. omega arith }

-- the moments of a list, and quiet ones behind it
abbrev at : List Moment → ℕ → Moment
at [] i = quiet_moment
at (now ∷ more) zero = now
at (now ∷ more) (suc i) = at more i

moments_at : (l : List Moment) → AllByRecursion IsMoment l → (i : ℕ) → IsMoment (at l i)
moments_at [] h i = is_quiet
moments_at (now ∷ more) h zero = h.0
moments_at (now ∷ more) h (suc i) = moments_at more h.1 i

all_on : (l more : List Moment) → AllByRecursion IsMoment l → AllByRecursion IsMoment more → AllByRecursion IsMoment (l ++ more)
all_on [] more h k = k
all_on (now ∷ l) more h k = (h.0, all_on l more h.1 k)

run_first : (code : Code) (out : ℕ → Moment) (o : Open) (k : ℕ) → open_after code out o (suc k) ≡ open_after code (λ i. out (suc i)) (open_step code (out 0) o) k
run_first code out o zero = refl
run_first code out o (suc k) = ap (open_step code (out (suc k))) (run_first code out o k)

run_front : (code : Code) (l more : List Moment) (o : Open) → open_after code (at (l ++ more)) o (length l) ≡ open_all code l o
run_front code [] more o = refl
run_front code (now ∷ l) more o = run_first code (at (now ∷ (l ++ more))) o (length l) ∙ run_front code l more (open_step code now o)

run_whole : (code : Code) (l : List Moment) (o : Open) → open_after code (at l) o (length l) ≡ open_all code l o
run_whole code [] o = refl
run_whole code (now ∷ l) o = run_first code (at (now ∷ l)) o (length l) ∙ run_whole code l (open_step code now o)

as_many : (ds : List Done) → length (actions_of ds) ≡ length ds
as_many [] = refl
as_many (d ∷ ds) = ap suc (as_many ds)

next_none : (act : List ℕ → ℕ → Performed) (ds : List Done) → ds ≡ [] → AreNext act ds
next_none act ds e front d back s = absurd (none front (sym e ∙ s))
  where
    none : (front : List Done) → [] ≡ front ++ (d ∷ back) → ⊥
    none [] h = cc
    none (x ∷ front) h = cc

-- nothing stands behind a list's end
outside : (xs : List ℕ) (i : ℕ) → length xs ≤ i → slice_index xs i < 0x10000
outside [] i h = omega arith
outside (x ∷ xs) zero h = absurd (omega (arith, h))
outside (x ∷ xs) (suc i) h = outside xs i (omega (arith, h))

module _ (gives : ℕ) (act : List ℕ → ℕ → Trace) (image : ℕ → ℕ) (data_end frame : ℕ) (marks : ℕ → List Action) (c : Cpu) (ram : ℕ → ℕ) where
  abbrev pub Obeys : View → Type 0
  Obeys v = Follows gives act frame marks c ram v

  abbrev pub code : Code
  code = code_below image data_end marks (c.sp + 2)

  -- what is done comes next in the body
  abbrev pub NextOf : View → View → Type 0
  NextOf v w = (n : ℕ) × IsPrefixOf w.made (act v.answers n).actions

  -- and the code goes on
  abbrev pub Good : View → Type 0
  Good v = Obeys v × (v.faulted ≡ None) × (v.sp ≤ c.sp)

  -- or is back, or has faulted
  abbrev pub Over : View → Type 0
  Over v = Obeys v × ((is_some v.faulted ≡ true) ⊎ (c.sp < v.sp)) × (even v.pc ≡ v.pc) × (v.pc < 0x10000)

  -- behind a piece of code that began with m pieces left before an action, and these actions made
  abbrev pub Post : (most : ℕ) → (ℕ → View → Type 0) → ℕ → List Action → View → Type 0
  Post most Rel m made w = Over w ⊎ ((m' : ℕ) × (m' ≤ most) × Rel m' w × ((m' < m) ⊎ (length w.made ≢ length made)))

  -- a relation that pieces of at most `long` instructions keep
  pub record Keeps (most long : ℕ) (Rel : ℕ → View → Type 0) : Type 0 where
    pub first : (m : ℕ) × (v : View) × (m ≤ most) × Rel m v × Shows (c.sp + 2) v (open_start c ram)
    pub next : (m : ℕ) (v : View) → m ≤ most → Rel m v → (n : ℕ) × (n < long) × Chain image data_end marks c.sp Good NextOf (Post most Rel m v.made) (suc n) v

  module _ (most long : ℕ) (Rel : ℕ → View → Type 0) (keeps : Keeps most long Rel) (out : ℕ → Moment) (moments : (i : ℕ) → IsMoment (out i)) where
    abbrev state : ℕ → Open
    state k = open_after code out (open_start c ram) k

    -- within a piece of code
    pub record Amid (k : ℕ) : Type 0 where
      pub left : ℕ
      pub most_left : left < long
      pub m : ℕ
      pub few : m ≤ most
      pub made : List Action
      pub view : View
      pub shows : Shows (c.sp + 2) view (state k)
      pub next : AreNext (acts act) (state k).done
      pub chain : Chain image data_end marks c.sp Good NextOf (Post most Rel m made) (suc left) view

    pub record Ended (k : ℕ) : Type 0 where
      pub view : View
      pub shows : Shows (c.sp + 2) view (state k)
      pub next : AreNext (acts act) (state k).done
      pub over : Over view

    not_over : (v : View) (k : ℕ) → Shows (c.sp + 2) v (state k) → Good v → is_over (c.sp + 2) (state k) ≡ false
    not_over v k s good =
        let l = good.2 in
        let e : nat_le (c.sp + 2) v.sp ≡ false = grind (arith, nat_tests) in
        ap (is_over (c.sp + 2)) s.same ∙ ap (λ b. cond b true (is_some (fault_of s.done))) e ∙ ap is_some (s.log.fault ∙ good.1)

    -- one step from a good state
    steps : (v : View) (k : ℕ) → Shows (c.sp + 2) v (state k) → Good v → state (suc k) ≡ went code (out k) (state k)
    steps v k s good = ap (λ b. cond b (state k) (went code (out k) (state k))) (not_over v k s good)

    is_ended : (v : View) (k : ℕ) → Shows (c.sp + 2) v (state k) → Over v → is_over (c.sp + 2) (state k) ≡ true
    is_ended v k s over = ap (is_over (c.sp + 2)) s.same ∙ ap (λ x. cond (nat_le (c.sp + 2) v.sp) true (is_some x)) s.log.fault ∙ by over.1
      where
        by : (is_some v.faulted ≡ true) ⊎ (c.sp < v.sp) → cond (nat_le (c.sp + 2) v.sp) true (is_some v.faulted) ≡ true
        by (inl f) = ap (λ x. cond (nat_le (c.sp + 2) v.sp) true x) f ∙ or_true (nat_le (c.sp + 2) v.sp)
        by (inr l) = let sp = (over.0.back l).sp in let e : nat_le (c.sp + 2) v.sp ≡ true = grind (arith, nat_tests) in ap (λ b. cond b true (is_some v.faulted)) e

    -- an ended state stays
    stays : (v : View) (k : ℕ) → Shows (c.sp + 2) v (state k) → Over v → state (suc k) ≡ state k
    stays v k s over = ap (λ b. cond b (state k) (went code (out k) (state k))) (is_ended v k s over)

    -- what was done comes next
    next_after : (k : ℕ) (v w : View) → Shows (c.sp + 2) v (state k) → Good v → (g : Goes image data_end marks c.sp (out k) v w (state k)) → NextOf v w → AreNext (acts act) (state k).done → AreNext (acts act) (state (suc k)).done
    next_after k v w s good g x old =
        let o = state k in
        let a = log_of (c.sp + 2) v o s in
        let b = log_of (c.sp + 2) w (went code (out k) o) g.shows in
        let p = subst (λ l. IsPrefixOf w.made (act l x.0).actions) (sym a.answers) x.1 in
        let q = subst (λ l. IsPrefixOf l (act (answers_of o.done) x.0).actions) (sym b.made) p in
        let r = subst (λ l. IsPrefixOf (actions_of l) (act (answers_of o.done) x.0).actions) g.grown q in
        let there = subst (AreNext (acts act)) (sym g.grown) (next_on (acts act) o.done (marks v.pc) g.noted x.0 old g.few r) in
        subst (λ (y : Open). AreNext (acts act) y.done) (sym (steps v k s good)) there

    amid_or_ended : (k m : ℕ) (made : List Action) (w : View) → Shows (c.sp + 2) w (state k) → AreNext (acts act) (state k).done → Post most Rel m made w → Amid k ⊎ Ended k
    amid_or_ended k m made w s x (inl over) = inr (record { view = w; shows = s; next = x; over = over })
    amid_or_ended k m made w s x (inr r) =
        let n = keeps.next r.0 w r.1 r.2 in
        inl (record { left = n.0; most_left = n.1; m = r.0; few = r.1; made = w.made; view = w; shows = s; next = x; chain = n.2 })

    -- what an instruction amid a piece comes to
    gone : (k : ℕ) (v w : View) → Shows (c.sp + 2) v (state k) → Good v → Goes image data_end marks c.sp (out k) v w (state k) → Shows (c.sp + 2) w (state (suc k))
    gone k v w s good g = subst (λ x. Shows (c.sp + 2) w x) (sym (steps v k s good)) g.shows

    on_from : (k left m : ℕ) (made : List Action) (w : View) → left < long → m ≤ most → Shows (c.sp + 2) w (state k) → AreNext (acts act) (state k).done → Chain image data_end marks c.sp Good NextOf (Post most Rel m made) left w → Amid k ⊎ Ended k
    on_from k zero m made w lt few s x chain = amid_or_ended k m made w s x chain
    on_from k (suc left) m made w lt few s x chain = inl (record { left = left; most_left = omega arith; m = m; few = few; made = made; view = w; shows = s; next = x; chain = chain })

    after_amid : (k : ℕ) → Amid k → Amid (suc k) ⊎ Ended (suc k)
    after_amid k a =
        let r = a.chain.1 (out k) (state k) (moments k) a.shows in
        on_from (suc k) a.left a.m a.made r.0 a.most_left a.few (gone k a.view r.0 a.shows a.chain.0 r.2) (next_after k a.view r.0 a.shows a.chain.0 r.2 r.3 a.next) r.1

    after_ended : (k : ℕ) → Ended k → Amid (suc k) ⊎ Ended (suc k)
    after_ended k e = inr (record { view = e.view; shows = subst (λ x. Shows (c.sp + 2) e.view x) (sym (stays e.view k e.shows e.over)) e.shows; next = subst (λ (y : Open). AreNext (acts act) y.done) (sym (stays e.view k e.shows e.over)) e.next; over = e.over })

    pub reached : (k : ℕ) → Amid k ⊎ Ended k
    reached zero = let f = keeps.first in let n = keeps.next f.0 f.1 f.2 f.3 in inl (record { left = n.0; most_left = n.1; m = f.0; few = f.2; made = f.1.made; view = f.1; shows = f.4; next = next_none (acts act) [] refl; chain = n.2 })
    reached (suc k) = ⊎_elim (after_amid k) (after_ended k) (reached k)

    fair : (k : ℕ) (now : Moment) → IsMoment now → is_over (c.sp + 2) (state k) ≡ false → IsFair code now (state k)
    fair k now moment on = ⊎_elim (λ a. (a.chain.1 now (state k) moment a.shows).2.fair) (λ e. absurd (clash (is_over (c.sp + 2) (state k)) on (is_ended e.view k e.shows e.over))) (reached k)

    module _ (Gate : Open → Type 0) (gates : (v : View) (o : Open) → Shows (c.sp + 2) v o → Follows gives act frame marks c ram v → Gate o) where
      between_of : (v : View) (k : ℕ) → Shows (c.sp + 2) v (state k) → Follows gives act frame marks c ram v → AreNext (acts act) (state k).done → even v.pc ≡ v.pc → v.pc < 0x10000 → (is_over (c.sp + 2) (state k) ≡ false → AreMarks (marks v.pc)) →
          IsBetween (acts act) code (c.sp - frame) Gate (HasGiven gives act c ram) (state k)
      between_of v k s f next even_pc small_pc calm =
          let cpu = ap (λ (o : Open). o.cpu) s.same in
          let log = log_of (c.sp + 2) v (state k) s in
          let lo = f.low in let hi = f.high in
          record {
            next = next;
            low = subst (λ (o : Open). c.sp - frame ≤ o.cpu.sp) (sym s.same) (omega (arith, lo));
            high = subst (λ (o : Open). o.cpu.sp ≤ c.sp + 2) (sym s.same) hi;
            words = subst HoldsWords (sym cpu) (record { pc = small_pc; even_pc = even_pc; even_sp = f.even_sp; sr = f.word; twelve = s.fits.long; others = words s.others s.fits.long (λ r l h. subst (λ n. n < 0x10000) (sym (s.fits.regs r l h)) (s.fits.words r l h)) });
            bytes = subst (λ (o : Open). (a : ℕ) → o.ram a < 0x100) (sym s.same) s.bytes;
            marks = λ on. subst (λ (x : Cpu). AreMarks (marks x.pc)) (sym cpu) (calm on);
            gate = λ on. gates v (state k) s f;
            awake = λ on. ap cpuoff cpu ∙ f.awake;
            back = λ there.
                let above : nat_le (c.sp + 2) v.sp ≡ true = ap (λ (o : Open). nat_le (c.sp + 2) o.cpu.sp) (sym s.same) ∙ there in
                let b = f.back (beyond v.sp above) in
                record {
                  returned = record {
                    sp = ap (λ (x : Cpu). x.sp) cpu ∙ b.sp;
                    pc = ap (λ (x : Cpu). x.pc) cpu ∙ b.pc;
                    awake = ap cpuoff cpu ∙ f.awake;
                    gate = ap (λ (x : Cpu). x.gate) cpu ∙ b.gate;
                    gie = ap gie cpu ∙ b.gie;
                    outside = ap is_inside log.made ∙ b.outside;
                    no_fault = log.fault ∙ b.no_fault;
                    all = record {
                      turns = b.turns;
                      all = ap (λ l. (act l b.turns).actions) log.answers ∙ ap (λ (t : Trace). t.actions) b.ended ∙ sym log.made;
                      ended = ap (λ l. is_returned (act l b.turns).why) log.answers ∙ ap (λ (t : Trace). is_returned t.why) b.ended;
                    };
                  };
                  value = b.value;
                  turns = b.turns;
                  ended = ap (λ l. act l b.turns) log.answers ∙ b.ended ∙ ap (λ l. record { actions = l; why = Returned b.value }) (sym log.made);
                  result = ap (λ (x : Cpu). given_in gives (reg x)) cpu ∙ given gives s.others (s.fits.regs 12 (omega arith) (omega arith)) (s.fits.regs 13 (omega arith) (omega arith)) ∙ b.result;
                };
          }
        where
          given : (n : ℕ) (others : List ℕ) → slice_index others 8 ≡ v.regs 12 → slice_index others 9 ≡ v.regs 13 → given_in n (reg (cpu_of v others)) ≡ given_in n v.regs
          given zero others low high = refl
          given (suc zero) others low high = low
          given (suc (suc n)) others low high = ap (λ x. x + 65536 * slice_index others 9) low ∙ ap (λ x. v.regs 12 + 65536 * x) high

          beyond : (n : ℕ) → nat_le (c.sp + 2) n ≡ true → c.sp < n
          beyond n t = grind (arith, nat_tests)

          words : (others : List ℕ) → length others ≡ 12 → ((r : ℕ) → 4 ≤ r → r < 16 → slice_index others (r - 4) < 0x10000) → (i : ℕ) → slice_index others i < 0x10000
          words others twelve h i = by_size (nat_lt i 12) refl
            where
              by_size : (t : Bool) → nat_lt i 12 ≡ t → slice_index others i < 0x10000
              by_size true e = let l : i < 12 = grind (arith, nat_tests) in let z : i + 4 - 4 ≡ i = omega arith in subst (λ n. slice_index others n < 0x10000) z (h (i + 4) (omega arith) (omega (arith, l)))
              by_size false e = let l : 12 ≤ i = grind (arith, nat_tests) in outside others i (omega (arith, l, twelve))

      pub between : (k : ℕ) → IsBetween (acts act) code (c.sp - frame) Gate (HasGiven gives act c ram) (state k)
      between k =
          ⊎_elim
          (λ a. let g = (a.chain.1 quiet_moment (state k) is_quiet a.shows).2 in between_of a.view k a.shows a.chain.0.0 a.next g.even_pc g.small_pc (λ on. g.calm))
          (λ e. between_of e.view k e.shows e.over.0 e.next e.over.2 e.over.3 (λ on. absurd (clash (is_over (c.sp + 2) (state k)) on (is_ended e.view k e.shows e.over))))
          (reached k)

    -- a state that is over stays
    over_on : (i d : ℕ) → is_over (c.sp + 2) (state i) ≡ true → is_over (c.sp + 2) (state (i + d)) ≡ true
    over_on i zero over = let e : i + 0 ≡ i = omega arith in rw e over
    over_on i (suc d) over =
        let h = over_on i d over in
        let e : i + suc d ≡ suc (i + d) = omega arith in
        let same : state (suc (i + d)) ≡ state (i + d) = ap (λ b. cond b (state (i + d)) (went code (out (i + d)) (state (i + d)))) h in
        rw e (ap (is_over (c.sp + 2)) same ∙ h)

    over_by : (i k : ℕ) → i ≤ k → is_over (c.sp + 2) (state i) ≡ true → is_over (c.sp + 2) (state k) ≡ true
    over_by i k le over = let e : i + (k - i) ≡ k = omega arith in subst (λ x. is_over (c.sp + 2) (state x) ≡ true) e (over_on i (k - i) over)

    -- to the end of a piece
    pub record Through (i : ℕ) (P : View → Type 0) : Type 0 where
      pub view : View
      pub shows : Shows (c.sp + 2) view (state i)
      pub post : P view

    through : (n i : ℕ) (v : View) (P : View → Type 0) → Shows (c.sp + 2) v (state i) → Chain image data_end marks c.sp Good NextOf P n v → Through (i + n) P
    through zero i v P s chain = let e : i ≡ i + 0 = omega arith in subst (λ x. Through x P) e (record { view = v; shows = s; post = chain })
    through (suc n) i v P s chain =
        let r = chain.1 (out i) (state i) (moments i) s in
        let e : suc i + n ≡ i + suc n = omega arith in
        subst (λ x. Through x P) e (through n (suc i) r.0 P (gone i v r.0 s chain.0 r.2) r.1)

    view_made : (v : View) (k : ℕ) → Shows (c.sp + 2) v (state k) → length v.made ≡ length (state k).done
    view_made v k s = ap length (sym (log_of (c.sp + 2) v (state k) s).made) ∙ as_many (state k).done

    -- from a piece with m before an action
    abbrev EndsSoon : ℕ → Type 0
    EndsSoon fuel = (m i : ℕ) (v : View) → m < fuel → m ≤ most → Rel m v → Shows (c.sp + 2) v (state i) →
        ((d : ℕ) → d ≤ long * suc m → length (state (i + d)).done ≡ length (state i).done) → is_over (c.sp + 2) (state (i + long * suc m)) ≡ true

    ends_soon : (fuel : ℕ) → EndsSoon fuel
    ends_soon zero m i v lt few rel s still = absurd (omega arith)
    ends_soon (suc fuel) m i v lt few rel s still =
        let n = keeps.next m v few rel in
        let t = through (suc n.0) i v (Post most Rel m v.made) s n.2 in
        let short = n.1 in
        let some = mul-le long 1 long (suc m) (omega arith) (omega arith) in
        let room : suc n.0 ≤ long * suc m = omega (arith, short, some) in
        by (ends_soon fuel) n.0 short room t.view t.shows t.post
      where
        by : EndsSoon fuel → (n : ℕ) → n < long → suc n ≤ long * suc m → (w : View) → Shows (c.sp + 2) w (state (i + suc n)) → Post most Rel m v.made w → is_over (c.sp + 2) (state (i + long * suc m)) ≡ true
        by again n short room w sw (inl over) = over_by (i + suc n) (i + long * suc m) (omega arith) (is_ended w (i + suc n) sw over)
        by again n short room w sw (inr r) =
            ⊎_elim
            (λ less.
            let grown = mul-le long (suc (suc r.0)) long (suc m) (omega arith) (omega (arith, less)) in
            let inner : suc n + long * suc r.0 ≤ long * suc m = omega (arith, grown, short) in
            let still' : (d : ℕ) → d ≤ long * suc r.0 → length (state (i + suc n + d)).done ≡ length (state (i + suc n)).done =
            λ d le.
            let e : i + suc n + d ≡ i + (suc n + d) = omega arith in
            subst (λ x. length (state x).done ≡ length (state (i + suc n)).done) (sym e) (still (suc n + d) (omega (arith, inner, le)) ∙ sym (still (suc n) room)) in
            over_by (i + suc n + long * suc r.0) (i + long * suc m) (omega (arith, inner))
            (again r.0 (i + suc n) w (omega (arith, less, lt)) r.1 r.2 sw still'))
            (λ new. absurd (new (view_made w (i + suc n) sw ∙ still (suc n) room ∙ sym (view_made v i s))))
            r.3

    pub soon : (k : ℕ) → ((i : ℕ) → i ≤ long * (most + 2) → length (state (k + i)).done ≡ length (state k).done) → is_over (c.sp + 2) (state (k + long * (most + 2))) ≡ true
    soon k still = ⊎_elim from_amid (λ e. over_by k (k + long * (most + 2)) (omega arith) (is_ended e.view k e.shows e.over)) (reached k)
      where
        from_amid : Amid k → is_over (c.sp + 2) (state (k + long * (most + 2))) ≡ true
        from_amid a =
            let t = through (suc a.left) k a.view (Post most Rel a.m a.made) a.shows a.chain in
            by t.view t.shows t.post
          where
            grown : long * 1 ≤ long * (most + 2)
            grown = mul-le long 1 long (most + 2) (omega arith) (omega arith)

            by : (w : View) → Shows (c.sp + 2) w (state (k + suc a.left)) → Post most Rel a.m a.made w → is_over (c.sp + 2) (state (k + long * (most + 2))) ≡ true
            by w sw (inl over) = let l = a.most_left in over_by (k + suc a.left) (k + long * (most + 2)) (omega (arith, grown, l)) (is_ended w (k + suc a.left) sw over)
            by w sw (inr r) =
                let l = a.most_left in
                let fits = mul-le long (suc (suc r.0)) long (most + 2) (omega arith) (let le = r.1 in omega arith) in
                let inner : suc a.left + long * suc r.0 ≤ long * (most + 2) = omega (arith, fits, l) in
                over_by (k + suc a.left + long * suc r.0) (k + long * (most + 2)) (omega (arith, inner))
                (ends_soon (suc r.0) r.0 (k + suc a.left) w (omega arith) r.1 r.2 sw
                (λ d le.
                let e : k + suc a.left + d ≡ k + (suc a.left + d) = omega arith in
                subst (λ x. length (state x).done ≡ length (state (k + suc a.left)).done) (sym e) (still (suc a.left + d) (omega (arith, inner, le)) ∙ sym (still (suc a.left) (omega (arith, inner))))))

  -- the law of this start
  is_open : (most long : ℕ) (Rel : ℕ → View → Type 0) → Keeps most long Rel → (Gate : Open → Type 0) → ((v : View) (o : Open) → Shows (c.sp + 2) v o → Follows gives act frame marks c ram v → Gate o) →
      IsOpenCode (acts act) code (c.sp - frame) (long * (most + 2)) Gate (HasGiven gives act c ram) c ram
  is_open most long Rel keeps Gate gates = record {
    between = λ l all.
        subst (λ o. IsBetween (acts act) code (c.sp - frame) Gate (HasGiven gives act c ram) o) (run_whole code l (open_start c ram))
        (between most long Rel keeps (at l) (moments_at l all) Gate gates (length l));
    fair = λ l now all moment on.
        let e = run_whole code l (open_start c ram) in
        subst (λ o. IsFair code now o) e (fair most long Rel keeps (at l) (moments_at l all) (length l) now moment (ap (is_over (c.sp + 2)) e ∙ on));
    soon = λ l more all all' many same.
        let out = at (l ++ more) in
        let moments = moments_at (l ++ more) (all_on l more all all') in
        let start = open_start c ram in
        let k = length l in
        let bound = long * (most + 2) in
        let n : length (l ++ more) ≡ k + bound = length-append l more ∙ ap (λ m. k + m) many in
        let here = run_front code l more start in
        let there : open_after code out start (k + bound) ≡ open_all code (l ++ more) start = ap (open_after code out start) (sym n) ∙ run_whole code (l ++ more) start in
        let ends : length (open_after code out start (k + bound)).done ≡ length (open_after code out start k).done =
        ap (λ (o : Open). length o.done) there ∙ same ∙ ap (λ (o : Open). length o.done) (sym here) in
        let still : (i : ℕ) → i ≤ bound → length (open_after code out start (k + i)).done ≡ length (open_after code out start k).done =
        λ i le.
        let a = longer_on code out start k i in
        let b = longer_on code out start (k + i) (bound - i) in
        let e : k + i + (bound - i) ≡ k + bound = omega (arith, le) in
        let b' = subst (λ m. length (open_after code out start (k + i)).done ≤ length (open_after code out start m).done) e b in
        omega (arith, a, b', ends) in
        ap (is_over (c.sp + 2)) (sym there) ∙ soon most long Rel keeps out moments k still;
  }

  gated : gie c ≡ true → (v : View) (o : Open) → Shows (c.sp + 2) v o → Follows gives act frame marks c ram v → IsGated code o
  gated open' v o s f =
      let cpu = ap (λ (x : Open). x.cpu) s.same in
      let log = log_of (c.sp + 2) v o s in
      let pc = ap (λ (x : Cpu). x.pc) cpu in
      let marked : actions_of (o.done ++ silent (marks o.cpu.pc)) ≡ v.made ++ marks v.pc =
      actions_on o.done (silent (marks o.cpu.pc)) ∙ ap (λ x. x ++ actions_of (silent (marks o.cpu.pc))) log.made ∙ ap (λ x. v.made ++ x) (actions_silent (marks o.cpu.pc) ∙ ap marks pc) in
      record {
        shut = λ h. ap (λ (x : Cpu). x.gate) cpu ∙ f.inside (ap is_inside (sym log.made) ∙ h);
        begins = λ h g.
            let r = f.outside open' (ap is_inside (sym log.made) ∙ h) (ap gie (sym cpu) ∙ g) in
            (ap (λ (x : Cpu). x.gate) cpu ∙ r.0, ap is_inside marked ∙ r.1);
      }

  shut : gie c ≡ false → (v : View) (o : Open) → Shows (c.sp + 2) v o → Follows gives act frame marks c ram v → IsShut o
  shut closed v o s f =
      let cpu = ap (λ (x : Open). x.cpu) s.same in
      let r = f.closed closed in
      record { gate = ap (λ (x : Cpu). x.gate) cpu ∙ r.1; gie = ap gie cpu ∙ r.0 }

-- the law, from a relation for each start
pub open_law : (gives : ℕ) (act : List ℕ → ℕ → Trace) (image : ℕ → ℕ) (data_end entry frame most long : ℕ) (marks : ℕ → List Action) (Rel : Cpu → (ℕ → ℕ) → ℕ → View → Type 0) →
    ((c : Cpu) (ram : ℕ → ℕ) → IsStart data_end entry frame c ram → Keeps gives act image data_end frame marks c ram most long (Rel c ram)) →
    IsFunctionLaw image data_end marks IsGated gives act entry frame (long * (most + 2)) StartsOpen × IsFunctionLaw image data_end marks (λ code o. IsShut o) gives act entry frame (long * (most + 2)) StartsShut
open_law gives act image data_end entry frame most long marks Rel keeps = (
  λ c ram pc starts awake words room high bytes.
      is_open gives act image data_end frame marks c ram most long (Rel c ram) (keeps c ram (record { pc = pc; room = room; high = high; awake = awake; words = words; level = starts.0 ∙ sym starts.1; bytes = bytes }))
      (IsGated (code_below image data_end marks (c.sp + 2))) (gated gives act image data_end frame marks c ram starts.1),
  λ c ram pc starts awake words room high bytes.
      is_open gives act image data_end frame marks c ram most long (Rel c ram) (keeps c ram (record { pc = pc; room = room; high = high; awake = awake; words = words; level = starts.0 ∙ sym starts.1; bytes = bytes }))
      (λ o. IsShut o) (shut gives act image data_end frame marks c ram starts.1),
)

-- a function is a body
pub is_body : (image : ℕ → ℕ) (data_end : ℕ) (marks : ℕ → List Action) (Gate : Code → Open → Type 0) (gives : ℕ) (act : List ℕ → ℕ → Trace) (entry depth bound : ℕ) (Starts : Cpu → Type 0) →
    IsFunctionLaw image data_end marks Gate gives act entry depth bound Starts → IsBodyLaw image data_end marks Gate (acts act) entry depth bound Starts
is_body image data_end marks Gate gives act entry depth bound Starts law c ram pc starts awake words room high bytes =
    let f = law c ram pc starts awake words room high bytes in
    record {
      between = λ moments ok.
          let b = f.between moments ok in
          record { next = b.next; low = b.low; high = b.high; words = b.words; bytes = b.bytes; marks = b.marks; gate = b.gate; awake = b.awake; back = λ there. (b.back there).returned };
      fair = f.fair;
      soon = f.soon;
    }

pub functions_are_bodies : FunctionsAreBodies
functions_are_bodies image data_end marks gives act entry depth bound law = (
  is_body image data_end marks IsGated gives act entry depth bound StartsOpen law.0,
  is_body image data_end marks (λ code o. IsShut o) gives act entry depth bound StartsShut law.1,
)
