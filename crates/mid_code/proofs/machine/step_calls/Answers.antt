use Rattle.std.proofs.Common.{◌≡◌, ◌+◌, ◌-◌, ℕ, Some, length, subst, sym, arith}
use Rattle.std.specs.Prelude.{slice_get, slice_index_or}
use Rattle.mid_code.specs.Form.{NamesOwn}
use Rattle.mid_code.specs.Machine.{fn_of}
use Rattle.mid_code.specs.State.{MayTake, no_call}
use Rattle.mid_code.proofs.Steps.{may_take_help}
use Rattle.mid_code.proofs.machine.step_calls.Goals as goal

pub take-requires-clause-onward : goal.take-requires-clause-onward
take-requires-clause-onward c =
    let t = c.len-top.result - 1 in
    let e : t + 1 ≡ length c.args.calls.now.items = grind arith in
    let i = c.next_instruction-instr.result.now in
    let at = subst (λ l. slice_get (fn_of c.args.c.now (slice_index_or l t no_call).f).code (slice_index_or l t no_call).at ≡ Some i) c.as_slice.ensures.value c.next_instruction-instr.ensures.stands in
    let own = subst (λ l. NamesOwn (fn_of c.args.c.now (slice_index_or l t no_call).f) i) c.as_slice.ensures.value c.next_instruction-instr.ensures.names in
    subst (λ outs. MayTake c.args.c.now c.args.calls.now.items t outs) (sym c.as_slice-in-Some.ensures)
    (may_take_help c.args.c.now c.requires.form c.args.calls.now.items t e c.requires.state i c.in-Help.h c.in-Help.ins c.in-Help.outs at own c.in-Help.is)
