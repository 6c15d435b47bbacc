use Rattle.std.proofs.Common.{◌≡◌, ◌+◌, ◌-◌, ℕ, Some, length, subst, arith}
use Rattle.std.specs.Prelude.{slice_get, slice_index_or}
use Rattle.mid_code.specs.Machine.{fn_of}
use Rattle.mid_code.specs.State.{no_call}
use Rattle.mid_code.proofs.Steps.{not_given_back}
use Rattle.mid_code.proofs.machine.give_back.Goals as goal

pub returns-in_default : goal.returns-in_default
returns-in_default c =
    let t = c.len-top.result - 1 in
    let e : t + 1 ≡ length c.args.calls.now.items = grind arith in
    let at = subst (λ l. slice_get (fn_of c.args.c.now (slice_index_or l t no_call).f).code (slice_index_or l t no_call).at ≡ Some c.next_instruction.result.now) c.as_slice.ensures.value c.next_instruction.ensures.stands in
    record {
      calls = not_given_back c.args.c.now c.requires.form c.args.calls.now.items t e c.next_instruction.result.now c.args.given.now at c.in_default.not-Call;
      state = c.requires.state;
    }
