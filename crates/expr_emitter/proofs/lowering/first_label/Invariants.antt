use Rattle.std.proofs.Common.{◌≡◌, ◌<◌, ◌^◌, drop, max}
use Rattle.expr_emitter.specs.Results.{first_label}
use Rattle.expr_emitter.proofs.lowering.first_label.Given as goal

abbrev pub invariant-loop-instr : goal.invariant-loop-instr
invariant-loop-instr l = record {
  first : max l.first (first_label (drop l.instr-index l.code)) ≡ first_label l.code;
  room : first_label (drop l.instr-index l.code) < 2 ^ 32;
}
