-- The kernel of a program keeps the contract.
use Rattle.std.proofs.Common.{◌≡◌, ◌≢◌, ℕ, zero, suc, ◌+◌, ◌<◌, Bool, true, false, List, [], ◌∷◌, length, Option, Some, None, refl, subst, arith, if◌then◌else◌}
use Rattle.std.specs.Prelude.{◌==◌, slice_get}
use Rattle.std.specs.List.{All}
use Rattle.std.proofs.lemmas.List.Elements.{All-head, All-tail}
use Rattle.std.proofs.lemmas.Option.{none-some, same_Some}
use Rattle.nesc_core.specs.Plain.{Body, Program}
use Rattle.nesc_core.specs.Laws.{EachStructIsItsFields}
use Rattle.nesc_core.specs.WellFormed.{IsRoot}
use Rattle.core_meaning.specs.Growth.{EverySourceGrows}
use Rattle.core_meaning.specs.SourceOf.{handler_in}
use Rattle.task_queue.specs.Kernel.{kernel_program}
use Rattle.queue_law.specs.Law.{EachKernelQueues}
use Rattle.source_laws.specs.Depth.{DepthCutsNothing}
use Rattle.source_laws.specs.Orderly.{BodiesAreOrderly}
use Rattle.source_accesses.proofs.Lists.{all_at}
use Rattle.kernel_contract.specs.Law.{EachKernelKeeps}
use Rattle.kernel_contract.proofs.Bodies.{pops, root_expands}
use Rattle.kernel_contract.proofs.Bytes.{is_queue, listed}

inside : {A : Type 0} (xs : List A) (k : ℕ) (x : A) → slice_get xs k ≡ Some x → k < length xs
inside [] k x is = absurd (none-some _ is)
inside (y ∷ xs) zero x is = omega arith
inside (y ∷ xs) (suc k) x is = let more = inside xs k x is in omega (arith, more)

-- the handler of a line is one of the list
handler_has : (P : ℕ → Type 0) (line body : ℕ) (hs : List (ℕ × ℕ)) → All (λ (g : ℕ × ℕ). P g.1) hs → handler_in hs line ≡ Some body → P body
handler_has P line body [] all is = absurd (none-some _ is)
handler_has P line body (h ∷ hs) all is = by (h.0 == line) (handler_has P line body hs (All-tail (λ (g : ℕ × ℕ). P g.1) h hs all)) is
  where
    by : (t : Bool) → (handler_in hs line ≡ Some body → P body) → (if t then Some h.1 else handler_in hs line) ≡ Some body → P body
    by true others e = subst P (same_Some h.1 body e) (All-head (λ (g : ℕ × ℕ). P g.1) h hs all)
    by false others e = others e

module _ (p : Program) where
  -- a root is a body
  root_is : (f : ℕ) → IsRoot (slice_get p.bodies f) → (b : Body) × (slice_get p.bodies f ≡ Some b)
  root_is f root = by (slice_get p.bodies f) refl root
    where
      by : (o : Option Body) → slice_get p.bodies f ≡ o → IsRoot o → (b : Body) × (slice_get p.bodies f ≡ Some b)
      by None is h = absurd h
      by (Some b) is h = (b, is)

  not_pop : (f : ℕ) → IsRoot (slice_get p.bodies f) → f ≢ length p.bodies + 1
  not_pop f root same = let b = root_is f root in let lt = inside p.bodies f b.0 b.1 in omega (arith, lt, same)

pub kernel_keeps : EachStructIsItsFields → EachKernelQueues → BodiesAreOrderly → DepthCutsNothing → EverySourceGrows → EachKernelKeeps
kernel_keeps structs queues orderly depth grows p formed no_cycle fits = record {
  queue = is_queue p fits;
  insert = refl;
  boot = refl;
  task = refl;
  handler = refl;
  boots = λ n. let b = root_is p p.boot formed.boot in root_expands p structs queues depth formed no_cycle fits n p.boot b.0 b.1;
  tasks = λ k body n is.
      let b = root_is p body (all_at (λ f. IsRoot (slice_get p.bodies f)) p.tasks k body is formed.tasks) in
      root_expands p structs queues depth formed no_cycle fits n body b.0 b.1;
  handlers = λ line body n is.
      let b = root_is p body (handler_has (λ f. IsRoot (slice_get p.bodies f)) line body p.handlers formed.handlers is) in
      root_expands p structs queues depth formed no_cycle fits n body b.0 b.1;
  pops = λ n. pops p structs queues depth formed no_cycle fits n;
  bodies = λ st k tasks stands. listed p st k tasks stands;
  not_boot = not_pop p p.boot formed.boot;
  not_task = λ k is. not_pop p (length p.bodies + 1) (all_at (λ f. IsRoot (slice_get p.bodies f)) p.tasks k (length p.bodies + 1) is formed.tasks) refl;
  orderly = λ body n. orderly p body n;
  kernel_orderly = λ body n. orderly (kernel_program p) body n;
  grows = λ body m n answers le. (grows p).with_turns body answers m n le;
}
