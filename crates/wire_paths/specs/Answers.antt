-- Work done in order, which stops at the first refusal (own).
use Rattle.std.specs.Prelude.{◌≡◌, ℕ, zero, suc, ◌+◌, Result, Ok, Err}
use Rattle.nm_base.specs.declared.fault.Fault.{Fault}
use Rattle.nm_base.specs.declared.fault.Fault.TheVariants as fault

abbrev pub Answer : Type 0
Answer = Result (Unit {0}) Fault

abbrev pub Goes : (Answer → Type 0) → Answer → Answer → Type 0
Goes Next (Ok u) answer = Next answer
Goes Next (Err e) answer = answer ≡ Err e

-- the one, and where it passes the next
abbrev pub Then : (One Next : Answer → Type 0) → Answer → Type 0
Then One Next answer = (first : Answer) × One first × Goes Next first answer

-- each number, so many of them from one on
abbrev pub Each : (ℕ → Answer → Type 0) → (from count : ℕ) → Answer → Type 0
Each One from zero answer = answer ≡ Ok tt
Each One from (suc count) answer = Then (One from) (Each One (from + 1) count) answer

-- want of memory is no refusal
abbrev pub IsRefusal : Fault → Type 0
IsRefusal e = e ≡ fault.NoMemory → ⊥
