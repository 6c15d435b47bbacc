-- The two functions of each kernel.
use Rattle.std.proofs.Common.{◌≡◌, ℕ, pos, ◌%◌, ◌<◌, [], ◌∷◌, length, Option, sym, subst, ap, ◌∙◌, arith}
use Rattle.std.proofs.Math.Nat.{mod-eq_of_lt}
use Rattle.nesc_core.specs.Plain.{Body, Program}
use Rattle.core_meaning.specs.Act.{calls_of, enter, run}
use Rattle.core_meaning.specs.Flow.{result}
use Rattle.task_queue.specs.Kernel.{Fits, kernel_program, queue_code}
use Rattle.task_queue.proofs.Bodies.{queue_is, pop_is}
use Rattle.queue_law.specs.Contract.{IsStatement}
use Rattle.queue_law.specs.Bytes.{is_byte_in}
use Rattle.queue_law.specs.Law.{KernelQueues, posting, taking}
use Rattle.queue_law.proofs.Stepping.{few, types, holds}
use Rattle.queue_law.proofs.Queueing as queueing
use Rattle.queue_law.proofs.Popping as popping

-- a task is passed as its byte
passed : (k : ℕ) → k < 256 → k % 256 % 256 ≡ k
passed k small = ap (λ x. x % 256) (mod-eq_of_lt small) ∙ mod-eq_of_lt small

pub kernel_queues : (p : Program) → Fits p → KernelQueues p
kernel_queues p fits = record {
  posts = λ depth n k low after st tasks stands.
      let calls = calls_of (kernel_program p) depth n in
      let room = few p fits calls in
      subst (λ (o : Option Body). IsStatement (is_byte_in p) (enter (kernel_program p) o calls n (pos k ∷ []) after) posting st (queueing.Behind p fits calls n after k low tasks)) (sym (queue_is p))
      (subst (λ x. IsStatement (is_byte_in p) (run (kernel_program p) types calls n (queue_code (length p.objects)) (λ flow locals. after (result flow)) (holds x 0)) posting st (queueing.Behind p fits calls n after k low tasks))
      (sym (passed k (omega (arith, low, room)))) (queueing.queue_in p fits calls n after k low tasks st stands));
  takes = λ depth n after st tasks stands.
      let calls = calls_of (kernel_program p) depth n in
      subst (λ (o : Option Body). IsStatement (is_byte_in p) (enter (kernel_program p) o calls n [] after) taking st (popping.Behind p fits calls n after tasks)) (sym (pop_is p))
      (popping.pop_in p fits calls n after tasks st stands);
}
