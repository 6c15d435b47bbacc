-- The functions so far.
use Rattle.std.proofs.Common.{◌≡◌, map, take}
use Rattle.select_emitter.specs.Code.{code_of}
use Rattle.select_emitter.specs.Scoped.{AreFrames}
use Rattle.select_emitter.proofs.selection.select.Given as goal

abbrev pub invariant-loop-f : goal.invariant-loop-f
invariant-loop-f l = (l.code.items ≡ map (code_of l.c) (take l.f l.c.fns)) × AreFrames l.c l.frames.items
