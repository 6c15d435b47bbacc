use Rattle.std.proofs.Common.{◌≡◌, ◌++◌, length, map, take, drop}
use Rattle.nesc_core.specs.View.{body_of}
use Rattle.task_queue.specs.Kernel.{posting_body}
use Rattle.kernel_code.proofs.bodies.posting.Given as goal

abbrev pub invariant-loop-b : goal.invariant-loop-b
invariant-loop-b l = record {
  long : length l.b-items ≡ length l.initial.b-items;
  done : map body_of (take l.b-index l.b-items) ++ map (posting_body l.queue) (map body_of (drop l.b-index l.b-items))
      ≡ map (posting_body l.queue) (map body_of l.initial.b-items);
}
