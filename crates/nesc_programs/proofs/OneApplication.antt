-- One program of an application, and no refusal beside it.
use Rattle.std.proofs.Common.{◌≡◌, inl, inr, Option, Ok, Err, subst}
use Rattle.nm_base.specs.declared.fault.Fault.{Fault}
use Rattle.nesc_preproc.specs.Sources.{Known}
use Rattle.nesc_core.specs.Plain.{Program}
use Rattle.nesc_types.specs.Rule.{Rule}
use Rattle.wire_reading.specs.Order.{Name}
use Rattle.wire_reading.specs.Told.{IsOfFiles, Told}
use Rattle.wire_loading.specs.Opened.{stopped}
use Rattle.nesc_wiring.specs.Loads.{Wiring}
use Rattle.application_laws.specs.OneProgram.{OneProgram}
use Rattle.application_laws.specs.OneWiring.{OneWiring}
use Rattle.nesc_programs.specs.Programs.{ElaboratesTo, HasProgram, HasWiring, IsStopped}
use Rattle.nesc_programs.specs.OneApplication.{OneApplication}

ok_of : (p q : Program) → (let r : Rule Program = Ok p in r ≡ Ok q) → p ≡ q
ok_of p q h = cc

err_ok : (e : Fault) (p : Program) → (let r : Rule Program = Err e in r ≡ Ok p) → ⊥
err_ok e p h = cc

module _ (wiring : OneWiring) (program : OneProgram) (told : Told) (app : Name) where
  -- what one wiring is elaborated to, another of the same files is
  one_answer : (w v : Wiring) (a b : Rule Program) → HasWiring told app w → HasWiring told app v → ElaboratesTo w a → ElaboratesTo v b → a ≡ b
  one_answer w v a b hw hv ea eb =
      let same = wiring.one told app w v hw hv in
      program v.wired.units v.wired.made v.wired.pairs a b (subst (λ (x : Wiring). ElaboratesTo x a) same ea) eb

  same_program : (p q : Program) → HasProgram told app p → HasProgram told app q → p ≡ q
  same_program p q hp hq = ok_of p q (one_answer hp.1.wiring hq.1.wiring (Ok p) (Ok q) hp.1.loads hq.1.loads hp.1.elaborates hq.1.elaborates)

  not_stopped : (p : Program) (e : Fault) (known : Option Known) → HasProgram told app p → IsStopped told app e known → IsOfFiles e → ⊥
  not_stopped p e known has (inl fails) answers = wiring.no_fault told app has.1.wiring (stopped e known) has.1.loads fails answers
  not_stopped p e known has (inr h) answers = err_ok e p (one_answer h.wiring has.1.wiring (Err e) (Ok p) h.loads has.1.loads h.refused has.1.elaborates)

pub one_application : OneWiring → OneProgram → OneApplication
one_application wiring program = record { one = same_program wiring program; no_fault = not_stopped wiring program }
