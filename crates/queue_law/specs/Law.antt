-- What the kernel's two functions do (TEP 106; the bytes are own).
use Rattle.std.specs.Prelude.{ℕ, pos, suc, ◌<◌, [], ◌∷◌, length}
use Rattle.nesc_core.specs.Plain.{Program}
use Rattle.core_meaning.specs.SourceOf.{put_last}
use Rattle.core_meaning.specs.Act.{calls_of}
use Rattle.task_queue.specs.Kernel.{Fits, kernel}
use Rattle.queue_law.specs.Contract.{Posts, Takes}
use Rattle.queue_law.specs.Bytes.{StandsIn, is_byte_in}

-- how many times each of the two reads or writes a byte, at most
abbrev pub posting : ℕ
posting = 4

abbrev pub taking : ℕ
taking = 5

-- a call of `queue` with a task is a post that puts it last, and a call of `pop` takes the first; however deep calls are, and however many turns loops make
pub record KernelQueues (p : Program) : Type 0 where
  pub posts : (depth n k : ℕ) → k < length p.tasks → Posts (is_byte_in p) (StandsIn p) put_last posting (λ after. calls_of (kernel p).program (suc depth) n (kernel p).queue (pos k ∷ []) after) k
  pub takes : (depth n : ℕ) → Takes (is_byte_in p) (StandsIn p) put_last taking (λ after. calls_of (kernel p).program (suc depth) n (kernel p).pop [] after)

abbrev pub EachKernelQueues : Type 0
EachKernelQueues = (p : Program) → Fits p → KernelQueues p
