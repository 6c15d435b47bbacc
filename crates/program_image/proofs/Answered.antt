-- Open code is answered by words.
use Rattle.std.proofs.Common.{◌≡◌, ℕ, ◌+◌, ◌%◌, ◌<◌, ◌≤◌, ◌==◌, Bool, true, false, cond, List, [], ◌∷◌, ◌++◌, length, refl, sym, ap, subst, arith, append_assoc, append-nil, length-append}
use Rattle.std.specs.Prelude.{◌&&◌, nat_le, nat_lt}
use Rattle.std.specs.List.{AllByRecursion}
use Rattle.std.proofs.lemmas.Bool.Decides.{nat_tests}
use Rattle.nm_base.specs.declared.action.Action.{Action}
use Rattle.nm_base.specs.declared.action.Action.TheVariants as action
use Rattle.nm_base.specs.Behaviour.{Performed}
use Rattle.msp430_cpu.specs.Cpu.{Cpu, even, changed_at}
use Rattle.msp430_cpu.specs.Memory.{byte_at, is_code, is_port, is_ram, with_ports, with_ram, with_word_at, word_at}
use Rattle.mid_code.specs.Runs.{AreWords}
use Rattle.open_law.specs.Open.{Code, Done, IsMoment, IsOpenCode, Logged, Moment, Open, address_of, answers_of, disturbed, doing, instruction, is_data, is_over, joined_now, logged_bus, logged_read, logged_write, open_all, open_start, open_step, silent, went}
use Rattle.open_law.proofs.Wider.{open_on}
use Rattle.preempt_bodies.proofs.Alike.{AnswerAlike, same_instruction}
use Rattle.preempt_bodies.proofs.Enter.{small_word}

abbrev pub AreAnswered : List Done → Type 0
AreAnswered ds = AllByRecursion (λ (d : Done). AreWords d.answers) ds

both : (a b : List Done) → AreAnswered a → AreAnswered b → AreAnswered (a ++ b)
both [] b h k = k
both (d ∷ a) b h k = (h.0, both a b h.1 k)

pub front_answered : (a b : List Done) → AreAnswered (a ++ b) → AreAnswered a
front_answered [] b h = tt
front_answered (d ∷ a) b h = (h.0, front_answered a b h.1)

words_both : (a b : List ℕ) → AreWords a → AreWords b → AreWords (a ++ b)
words_both [] b h k = k
words_both (x ∷ a) b h k = (h.0, words_both a b h.1 k)

pub words_of : (ds : List Done) → AreAnswered ds → AreWords (answers_of ds)
words_of [] h = tt
words_of (d ∷ ds) h = words_both d.answers (answers_of ds) h.0 (words_of ds h.1)

of_silent : (marks : List Action) → AreAnswered (silent marks)
of_silent [] = tt
of_silent (a ∷ more) = (tt, of_silent more)

-- ---- one instruction: where it notes one action at most, that is answered by a word

one_more : (ds : List Done) (a : Action) (xs : List ℕ) → (ds ≡ [] → AreWords xs) → length (doing ds a xs) ≤ 1 → AreAnswered (doing ds a xs)
one_more [] a xs h le = (h refl, tt)
one_more (d ∷ ds) a xs h le = let e = length-append ds (record { action = a; answers = xs } ∷ []) in absurd (omega (arith, e, le))

changed_small : (f : ℕ → ℕ) (a v x : ℕ) → ((y : ℕ) → f y < 0x100) → v < 0x100 → changed_at f a v x < 0x100
changed_small f a v x h k = by_test (x == a)
  where
    by_test : (t : Bool) → cond t v (f x) < 0x100
    by_test true = k
    by_test false = h x

not_code : (x : ℕ) → x < 0x4000 → is_code x ≡ false
not_code x lt = grind (arith, nat_tests)

below_end : (end a : ℕ) → is_data end a ≡ true → a < end
below_end end a d = grind (arith, nat_tests)

module _ (end : ℕ) (low_end : end ≤ 0x3900) (answer : List Done → ℕ → ℕ) (first : (p : ℕ) → answer [] p < 0x10000) where
  pub record IsFine (w : Logged) : Type 0 where
    pub bytes : (a : ℕ) → w.ram a < 0x100
    pub words : length w.ports ≤ 1 → AreAnswered w.ports

  pub record AreFine (n : ℕ) (w m : Logged) : Type 0 where
    pub same : w ≡ m
    pub fine : IsFine w

  byte_small : (w : Logged) (x : ℕ) → x < 0x4000 → IsFine w → byte_at w x < 0x100
  byte_small w x lt h = subst (λ c. cond (is_ram x) (w.ram x) (cond c (w.code x) 0) < 0x100) (sym (not_code x lt)) (by_test (is_ram x))
    where
      by_test : (t : Bool) → cond t (w.ram x) 0 < 0x100
      by_test true = h.bytes x
      by_test false = omega arith

  word_small : (w : Logged) (a : ℕ) → a < 0x3900 → IsFine w → word_at w a < 0x10000
  word_small w a lt h =
      let low = byte_small w (even a) (omega (arith, lt)) h in
      let high = byte_small w (even a + 1) (omega (arith, lt)) h in
      omega (arith, low, high)

  -- reads, by where the address lies
  abbrev ports_read : Bool → Bool → Logged → ℕ → ℕ × Logged
  ports_read t wide w a = cond t (cond wide (answer w.ports (even a), with_ports w (doing w.ports (action.In (even a)) (answer w.ports (even a) ∷ []))) (0, w)) (cond wide (word_at w a) (byte_at w a), w)

  abbrev read_by : Bool → Bool → Bool → Logged → ℕ → ℕ × Logged
  read_by d t wide w a = cond d ((ports_read t wide w a).0, with_ports w (doing w.ports (action.Load (address_of a wide) wide) ((ports_read t wide w a).0 ∷ []))) (ports_read t wide w a)

  answered_first : (w : Logged) (p : ℕ) → w.ports ≡ [] → answer w.ports p < 0x10000
  answered_first w p e = subst (λ l. answer l p < 0x10000) (sym e) (first p)

  value_small : (t wide : Bool) (w : Logged) (a : ℕ) → a < end → IsFine w → w.ports ≡ [] → (ports_read t wide w a).0 < 0x10000
  value_small true true w a lt h e = answered_first w (even a) e
  value_small true false w a lt h e = omega arith
  value_small false true w a lt h e = word_small w a (omega (arith, lt, low_end)) h
  value_small false false w a lt h e = let s = byte_small w a (omega (arith, lt, low_end)) h in omega (arith, s)

  reads : (d t wide : Bool) (w : Logged) (a : ℕ) → is_data end a ≡ d → IsFine w → IsFine (read_by d t wide w a).1
  reads true t wide w a d h = record {
    bytes = h.bytes;
    words = one_more w.ports (action.Load (address_of a wide) wide) ((ports_read t wide w a).0 ∷ []) (λ e. (value_small t wide w a (below_end end a d) h e, tt));
  }
  reads false true true w a d h = record {
    bytes = h.bytes;
    words = one_more w.ports (action.In (even a)) (answer w.ports (even a) ∷ []) (λ e. (answered_first w (even a) e, tt));
  }
  reads false true false w a d h = h
  reads false false true w a d h = h
  reads false false false w a d h = h

  -- writes
  abbrev noted_as : ℕ → ℕ → Action
  noted_as p v = cond (p == 0x0104) (action.Fault (v % 256)) (action.Out p v)

  abbrev put_by : Bool → Bool → Bool → Logged → ℕ → ℕ → Logged
  put_by t r wide w a v = cond t (cond wide (with_ports w (doing w.ports (noted_as (even a) v) [])) w) (cond r (with_ram w (cond wide (with_word_at w.ram (even a) v) (changed_at w.ram a (v % 256)))) w)

  abbrev write_by : Bool → Bool → Bool → Bool → Logged → ℕ → ℕ → Logged
  write_by d t r wide w a v = cond d (with_ports (put_by t r wide w a v) (doing w.ports (action.Store (address_of a wide) wide v) [])) (put_by t r wide w a v)

  puts : (t r wide : Bool) (w : Logged) (a v : ℕ) → IsFine w → IsFine (put_by t r wide w a v)
  puts true r true w a v h = record { bytes = h.bytes; words = one_more w.ports (noted_as (even a) v) [] (λ e. tt) }
  puts true r false w a v h = h
  puts false true true w a v h = record { bytes = λ x. small_word w.ram (even a) v h.bytes x; words = h.words }
  puts false true false w a v h = record { bytes = λ x. changed_small w.ram a (v % 256) x h.bytes (omega arith); words = h.words }
  puts false false wide w a v h = h

  writes : (d t r wide : Bool) (w : Logged) (a v : ℕ) → IsFine w → IsFine (write_by d t r wide w a v)
  writes true t r wide w a v h = record { bytes = (puts t r wide w a v h).bytes; words = one_more w.ports (action.Store (address_of a wide) wide v) [] (λ e. tt) }
  writes false t r wide w a v h = puts t r wide w a v h

  alike : AnswerAlike (logged_bus end answer) (logged_bus end answer) AreFine
  alike = record {
    read = λ n few w m a wide h. (ap (λ x. (logged_read end answer x a wide).0) h.same, record { same = ap (λ x. (logged_read end answer x a wide).1) h.same; fine = reads (is_data end a) (is_port a) wide w a refl h.fine });
    write = λ n few w m a wide v h. record { same = ap (λ x. logged_write end answer x a wide v) h.same; fine = writes (is_data end a) (is_port a) (is_ram a) wide w a v h.fine };
    none = λ n few w m h. record { same = h.same; fine = h.fine };
    fetch = λ n w m a h. ap (λ x. word_at x a) h.same;
    stopped = λ n w m h. ap (λ x. (logged_bus end answer).stopped x) h.same;
  }

-- ---- some instructions

module _ (code : Code) (low_end : code.data_end ≤ 0x3900) where
  instruction_fine : (now : Moment) (o : Open) → IsMoment now → ((a : ℕ) → o.ram a < 0x100) → length (instruction code now o).after.bus.ports ≤ 1 → AreAnswered (instruction code now o).after.bus.ports
  instruction_fine now o ok bytes =
      (same_instruction (logged_bus code.data_end now.answer) (logged_bus code.data_end now.answer) (AreFine code.data_end low_end now.answer first) (alike code.data_end low_end now.answer first)
      (joined_now code now o) (joined_now code now o) refl (record { same = refl; fine = record { bytes = begin; words = λ le. tt } })).bus.fine.words
    where
      first : (p : ℕ) → now.answer [] p < 0x10000
      first p = ok.answer [] p tt

      begin : (a : ℕ) → disturbed now.bytes o.cpu.sp code.top o.ram a < 0x100
      begin a = by_test (nat_le o.cpu.sp a && nat_lt a code.top)
        where
          by_test : (t : Bool) → cond t (o.ram a) (now.bytes a) < 0x100
          by_test true = bytes a
          by_test false = ok.bytes a

module _ (act : List ℕ → ℕ → Performed) (code : Code) (low_end : code.data_end ≤ 0x3900) (lowest bound : ℕ) (Gate Back : Open → Type 0) (c : Cpu) (ram : ℕ → ℕ) (law : IsOpenCode act code lowest bound Gate Back c ram) where
  abbrev at : List Moment → Open
  at moments = open_all code moments (open_start c ram)

  one_step : (moments : List Moment) (now : Moment) → AllByRecursion IsMoment moments → IsMoment now → AreAnswered (at moments).done → AreAnswered (open_step code now (at moments)).done
  one_step moments now ok ok_now h = by_test (is_over code.top (at moments)) refl
    where
      by_test : (t : Bool) → is_over code.top (at moments) ≡ t → AreAnswered (cond t (at moments) (went code now (at moments))).done
      by_test true e = h
      by_test false e =
          let fair = law.fair moments now ok ok_now e in
          both (at moments).done (silent (code.marks (at moments).cpu.pc) ++ (instruction code now (at moments)).after.bus.ports) h
          (both (silent (code.marks (at moments).cpu.pc)) (instruction code now (at moments)).after.bus.ports (of_silent (code.marks (at moments).cpu.pc))
          (instruction_fine code low_end now (at moments) ok_now (law.between moments ok).bytes fair.alone))

  all_moments : (a b : List Moment) → AllByRecursion IsMoment a → AllByRecursion IsMoment b → AllByRecursion IsMoment (a ++ b)
  all_moments [] b h k = k
  all_moments (x ∷ a) b h k = (h.0, all_moments a b h.1 k)

  answered_on : (front back : List Moment) → AllByRecursion IsMoment front → AllByRecursion IsMoment back → AreAnswered (at front).done → AreAnswered (at (front ++ back)).done
  answered_on front [] ok ok_back h = subst (λ l. AreAnswered (at l).done) (sym (append-nil front)) h
  answered_on front (now ∷ back) ok ok_back h =
      let there : at (front ++ now ∷ []) ≡ open_step code now (at front) = open_on code front (now ∷ []) (open_start c ram) in
      let next : AreAnswered (at (front ++ now ∷ [])).done = subst (λ (o : Open). AreAnswered o.done) (sym there) (one_step front now ok ok_back.0 h) in
      subst (λ l. AreAnswered (at l).done) (append_assoc front (now ∷ []) back)
      (answered_on (front ++ now ∷ []) back (all_moments front (now ∷ []) ok (ok_back.0, tt)) ok_back.1 next)

  pub all_answered : (moments : List Moment) → AllByRecursion IsMoment moments → AreAnswered (at moments).done
  all_answered moments ok = answered_on [] moments tt ok tt
