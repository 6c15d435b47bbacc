-- A source with one task, and a kernel of it whose queue is one byte: 0 for the empty list, 1 for the task (own: that the contract can be met).
use Rattle.std.specs.Prelude.{ℕ, ◌==◌, ◌&&◌, Bool, false, if◌then◌else◌, List, [], ◌∷◌, ◌++◌, Option, Some, None}
use Rattle.nm_base.specs.declared.action.Action.TheVariants.{Load, Store, Post, Begin, End, Tick}
use Rattle.nm_base.specs.Behaviour.{Behaviour, Returns, Does, Asks}
use Rattle.loop_runs.specs.Bodies.{Bodies}
use Rattle.loop_runs.specs.Kernel.{Queue, IsKernel}

abbrev pub the_byte : ℕ
the_byte = 0x2000

abbrev pub one_task : ℕ → Option ℕ
one_task k = if k == 0 then Some 1 else None

-- body 0: atomic post 0
abbrev pub posting : ℕ → Behaviour
posting body = if body == 0 then Does Begin (Asks (Post 0) (λ x. Does End (Returns 0))) else Returns 0

abbrev pub one_source : Bodies
one_source = record { does = λ body n. posting body; boot = 0; task = one_task; handler = λ line. None; insert = λ tasks k. tasks ++ k ∷ [] }

-- what a post does where the byte is x
abbrev pub queued : ℕ → Behaviour
queued x = if x == 0 then Does (Store the_byte false 1) (Does End (Does Tick (Does End (Returns 0)))) else Does End (Does Tick (Does End (Returns 0)))

-- and pop
abbrev pub taken : ℕ → Behaviour
taken x = if x == 0 then Does End (Returns 255) else Does (Store the_byte false 0) (Does End (Returns 0))

-- body 2 is pop
abbrev pub kernel_body : ℕ → Behaviour
kernel_body body =
    if body == 0 then Does Begin (Does Tick (Does Begin (Asks (Load the_byte false) queued)))
    else (if body == 2 then Does Begin (Asks (Load the_byte false) taken)
    else Returns 0)

abbrev pub one_kernel : Bodies
one_kernel = record one_source { does = λ body n. kernel_body body }

abbrev pub stands_in_byte : ℕ → List ℕ → Bool
stands_in_byte x [] = x == 0
stands_in_byte x (k ∷ []) = (x == 1) && (k == 0)
stands_in_byte x _ = false

abbrev pub one_queue : Queue
one_queue = record { is_byte = λ a. a == the_byte; stands = λ st tasks. stands_in_byte (st the_byte) tasks; posting = 2; taking = 2; insert = λ tasks k. tasks ++ k ∷ [] }

abbrev pub OneKernel : Type 0
OneKernel = IsKernel one_source one_kernel 2 one_queue
