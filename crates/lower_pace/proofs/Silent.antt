-- Where an action comes soon: silent steps from there on take few instructions.
use Rattle.std.proofs.Common.{◌≡◌, ℕ, zero, suc, ◌+◌, ◌≤◌, List, Option, sym, ap, ◌∙◌, subst, arith}
use Rattle.mid_code.specs.declared.instr.Mid.{Mid}
use Rattle.mid_code.specs.declared.code.MidCode.{MidCode}
use Rattle.mid_code.specs.Machine.{Activation, Goes, step}
use Rattle.mid_code.specs.Reached.{innermost_instruction}
use Rattle.lower_pace.specs.Silent.{if_silent, silent_size}

module _ (code : MidCode) (size : Option Mid → ℕ) where
  abbrev own : List Activation → ℕ
  own s = size (innermost_instruction code s)

  -- n steps are enough, and so are n instructions
  pub record Soon (n : ℕ) (s : List Activation) : Type 0 where
    pub ends : (k : ℕ) → n ≤ k → silent_size code size k s ≡ silent_size code size n s
    pub few : silent_size code size n s ≤ n

  -- a step that does an action or is the last
  pub acts : (n : ℕ) (s : List Activation) → ((count : List Activation → ℕ) → if_silent (step code s) count ≡ 0) → own s + 1 ≤ n → Soon n s
  acts zero s none le = absurd (omega (arith, le))
  acts (suc n) s none le = record { ends = ends; few = let e = none (silent_size code size n) in omega (arith, e, le) }
    where
      ends : (k : ℕ) → suc n ≤ k → silent_size code size k s ≡ silent_size code size (suc n) s
      ends zero more = absurd (omega (arith, more))
      ends (suc k) more = ap (λ x. own s + x) (none (silent_size code size k) ∙ sym (none (silent_size code size n)))

  stepped : (k : ℕ) (s t : List Activation) → step code s ≡ Goes t → silent_size code size (suc k) s ≡ own s + silent_size code size k t
  stepped k s t e = ap (λ x. own s + if_silent x (silent_size code size k)) e

  -- a silent step
  pub goes : (n m : ℕ) (s t : List Activation) → step code s ≡ Goes t → Soon n t → n + own s + 1 ≤ m → Soon m s
  goes n zero s t e h le = absurd (omega (arith, le))
  goes n (suc m) s t e h le = record {
    ends = ends;
    few = let a = stepped m s t e in let b = h.ends m (omega (arith, le)) in let c = h.few in omega (arith, a, b, c, le);
  }
    where
      ends : (k : ℕ) → suc m ≤ k → silent_size code size k s ≡ silent_size code size (suc m) s
      ends zero more = absurd (omega (arith, more))
      ends (suc k) more =
          stepped k s t e ∙ ap (λ x. own s + x) (h.ends k (omega (arith, more, le)) ∙ sym (h.ends m (omega (arith, le)))) ∙ sym (stepped m s t e)

  -- with a larger number
  pub more : (n m : ℕ) (s : List Activation) → Soon n s → n ≤ m → Soon m s
  more n m s h le = record {
    ends = λ k ge. h.ends k (omega (arith, ge, le)) ∙ sym (h.ends m le);
    few = let a = h.ends m le in let b = h.few in omega (arith, a, b, le);
  }

  -- behind a silent step
  pub behind : (n : ℕ) (s t : List Activation) → step code s ≡ Goes t → Soon n s → Soon n t
  behind n s t e h = record {
    ends = λ k ge.
        let a = stepped k s t e in let b = stepped n s t e in
        let x = h.ends (suc k) (omega (arith, ge)) in let y = h.ends (suc n) (omega arith) in omega (arith, a, b, x, y);
    few = let b = stepped n s t e in let y = h.ends (suc n) (omega arith) in let z = h.few in omega (arith, b, y, z);
  }

  -- what a weight says
  pub falls : (n : ℕ) (s t : List Activation) → step code s ≡ Goes t → Soon n s → silent_size code size n t + own s ≤ silent_size code size n s
  falls n s t e h = let b = stepped n s t e in let y = h.ends (suc n) (omega arith) in omega (arith, b, y)

  pub holds : (n : ℕ) (s : List Activation) → Soon n s → own s ≤ silent_size code size n s
  holds n s h = let y = h.ends (suc n) (omega arith) in at_least y
    where
      at_least : silent_size code size (suc n) s ≡ silent_size code size n s → own s ≤ silent_size code size n s
      at_least y = subst (λ x. own s ≤ x) y (omega arith)
