-- A step is a step without its acceptance, and then the acceptance.
use Rattle.std.proofs.Common.{◌≡◌, ℕ, ◌+◌, Bool, true, false, cond, Option, Some, None, refl}
use Rattle.msp_isa.specs.declared.decoder.Decoded.{Decoded}
use Rattle.msp_isa.specs.declared.decoder.Decoded.TheVariants.{Is, Illegal, Short}
use Rattle.msp_isa.specs.Decode.{decode}
use Rattle.msp430_cpu.specs.declared.cpu.Stepped.{Stepped}
use Rattle.msp430_cpu.specs.declared.cpu.Stepped.TheVariants.{Ran, Idle, Entered, Stopped}
use Rattle.msp430_cpu.specs.Cpu.{cpuoff, gie, is_open, wrap16}
use Rattle.msp430_cpu.specs.Bus.{Bus}
use Rattle.msp430_cpu.specs.Exec.{Joined, Step, with_cpu, ran, gated, stepped_of, run_decoded, words_at, entered, run_or_idle, enter_or_run, exec}

module _ {B : Type 0} (ops : Bus B) where
  -- the bus on which an acceptance does nothing
  abbrev pub unaccepting : Bus B
  unaccepting = record { read = ops.read; write = ops.write; fetch = ops.fetch; line = ops.line; accept = λ b v. b; stopped = ops.stopped }

  -- the acceptance, where the step was one
  abbrev pub accepted : Stepped → Joined B → Joined B
  accepted Ran j = j
  accepted Idle j = j
  accepted (Entered v) j = record { cpu = j.cpu; bus = ops.accept j.bus v }
  accepted (Stopped code) j = j

  pub record IsAccepted (s : Step ops) (t : Step unaccepting) : Type 0 where
    pub after : s.after ≡ accepted t.stepped t.after
    pub stepped : s.stepped ≡ t.stepped

  told_plain : (o : Option ℕ) (j : Joined B) → j ≡ accepted (stepped_of unaccepting o) j
  told_plain None j = refl
  told_plain (Some code) j = refl

  decoded : (x : Decoded) (j : Joined B) → IsAccepted (run_decoded ops j x) (run_decoded unaccepting j x)
  decoded (Is i n) j =
      let after = gated ops (gie j.cpu) i (ran ops i (with_cpu j (record j.cpu { pc = wrap16 (j.cpu.pc + 2) }))) in
      record { after = told_plain (ops.stopped after.bus) after; stepped = refl }
  decoded Illegal j = record { after = refl; stepped = refl }
  decoded Short j = record { after = refl; stepped = refl }

  ran_or_idle : (j : Joined B) → IsAccepted (run_or_idle ops j) (run_or_idle unaccepting j)
  ran_or_idle j = by_off (cpuoff j.cpu)
    where
      by_off : (t : Bool) → IsAccepted (cond t (record { after = j; stepped = Idle }) (run_decoded ops j (decode (words_at ops j)))) (cond t (record { after = j; stepped = Idle }) (run_decoded unaccepting j (decode (words_at unaccepting j))))
      by_off true = record { after = refl; stepped = refl }
      by_off false = decoded (decode (words_at ops j)) j

  entered_or_ran : (o : Option ℕ) (j : Joined B) → IsAccepted (enter_or_run ops j o) (enter_or_run unaccepting j o)
  entered_or_ran None j = ran_or_idle j
  entered_or_ran (Some v) j = by_gate (is_open j.cpu)
    where
      by_gate : (t : Bool) → IsAccepted (cond t (entered ops j v) (run_or_idle ops j)) (cond t (entered unaccepting j v) (run_or_idle unaccepting j))
      by_gate true = record { after = refl; stepped = refl }
      by_gate false = ran_or_idle j

  pub accepts_last : (j : Joined B) → IsAccepted (exec ops j) (exec unaccepting j)
  accepts_last j = entered_or_ran (ops.line j.bus) j
