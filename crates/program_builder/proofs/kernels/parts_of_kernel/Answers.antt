use Rattle.std.proofs.Common.{subst, ◌∙◌, arith}
use Rattle.nesc_core.specs.View.{program_of}
use Rattle.image_code.specs.Code.{IsCountable}
use Rattle.program_builder.proofs.Numbered.{code_long, places_few}
use Rattle.program_builder.proofs.kernels.parts_of_kernel.Goals as goal

pub reset_place-reset-requires : goal.reset_place-reset-requires
reset_place-reset-requires c =
    let p = program_of c.args.k.now.program in
    let short = c.can_be_lowered.ensures.short c.if-not-can_be_lowered.false in
    let can = c.in_ok-code.ensures.checks in
    let long = code_long p short can c.args.k.now.pop c.deref-2.result.now (c.deref-2.ensures.value ∙ c.in_ok-code.ensures.code) in
    let few = places_few p short can in
    record { some = omega (arith, long); few = omega (arith, long, few) }

pub returns : goal.returns
returns c =
    let p = program_of c.args.k.now.program in
    let short = c.can_be_lowered.ensures.short c.if-not-can_be_lowered.false in
    let can = c.in_ok-code.ensures.checks in
    let long = code_long p short can c.args.k.now.pop c.deref-2.result.now (c.deref-2.ensures.value ∙ c.in_ok-code.ensures.code) in
    let few = places_few p short can in
    let reset = c.reset_place-reset.ensures in
    record {
      well = c.can_be_lowered.ensures.well c.if-not-can_be_lowered.false;
      short = short;
      can = can;
      few = subst IsCountable c.deref.ensures.value (c.are_countable.ensures c.if-not-are_countable.false);
      is_code = c.in_ok-code.ensures.code;
      place = omega (arith, long, reset);
      is_ram = c.in_ok-ram.ensures;
      numbered = omega (arith, long, reset, few);
    }
