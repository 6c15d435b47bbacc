-- The bodies of the kernel's program: those of the program in order, and two behind them.
use Rattle.std.proofs.Common.{◌≡◌, ℕ, zero, suc, ◌+◌, ◌<◌, List, [], ◌∷◌, ◌++◌, length, Some, refl, sym, ap, ◌∙◌, arith}
use Rattle.std.specs.Prelude.{map, slice_get}
use Rattle.std.proofs.lemmas.Option.{none-some, same_Some}
use Rattle.nesc_core.specs.Plain.{Body, Program}
use Rattle.task_queue.specs.Kernel.{posting_body, kernel_program, queue_body, pop_body}

pub data InKernel (p : Program) (f : ℕ) (b : Body) : Type 0 where
  kept : (c : Body) → slice_get p.bodies f ≡ Some c → f < length p.bodies → b ≡ posting_body (length p.bodies) c → InKernel p f b
  queues : f ≡ length p.bodies → b ≡ queue_body (length p.objects) → InKernel p f b
  pops : f ≡ length p.bodies + 1 → b ≡ pop_body (length p.objects) → InKernel p f b

-- body f of a list with two more behind it
data Among (g : Body → Body) (bs : List Body) (q r : Body) (f : ℕ) (b : Body) : Type 0 where
  first : (c : Body) → slice_get bs f ≡ Some c → f < length bs → b ≡ g c → Among g bs q r f b
  last_but_one : f ≡ length bs → b ≡ q → Among g bs q r f b
  last : f ≡ length bs + 1 → b ≡ r → Among g bs q r f b

among : (g : Body → Body) (bs : List Body) (q r : Body) (f : ℕ) (b : Body) → slice_get (map g bs ++ q ∷ r ∷ []) f ≡ Some b → Among g bs q r f b
among g [] q r zero b is = last_but_one refl (sym (same_Some q b is))
among g [] q r (suc zero) b is = last (omega arith) (sym (same_Some r b is))
among g [] q r (suc (suc f)) b is = absurd (none-some _ is)
among g (c ∷ bs) q r zero b is = first c refl (omega arith) (sym (same_Some _ _ is))
among g (c ∷ bs) q r (suc f) b is = later (among g bs q r f b is)
  where
    later : Among g bs q r f b → Among g (c ∷ bs) q r (suc f) b
    later (first d old lt same) = first d old (omega (arith, lt)) same
    later (last_but_one at same) = last_but_one (ap suc at) same
    later (last at same) = last (omega (arith, at)) same

pub in_kernel : (p : Program) (f : ℕ) (b : Body) → slice_get (kernel_program p).bodies f ≡ Some b → InKernel p f b
in_kernel p f b is = found (among (posting_body (length p.bodies)) p.bodies (queue_body (length p.objects)) (pop_body (length p.objects)) f b is)
  where
    found : Among (posting_body (length p.bodies)) p.bodies (queue_body (length p.objects)) (pop_body (length p.objects)) f b → InKernel p f b
    found (first c old lt same) = kept c old lt same
    found (last_but_one at same) = queues at same
    found (last at same) = pops at same

long_from : (g : Body → Body) (bs : List Body) (q r : Body) → length (map g bs ++ q ∷ r ∷ []) ≡ length bs + 2
long_from g [] q r = omega arith
long_from g (b ∷ bs) q r = let h = long_from g bs q r in omega (arith, h)

pub bodies_length : (p : Program) → length (kernel_program p).bodies ≡ length p.bodies + 2
bodies_length p = long_from (posting_body (length p.bodies)) p.bodies (queue_body (length p.objects)) (pop_body (length p.objects))

-- ---- and back

old_from : (g : Body → Body) (bs : List Body) (q r : Body) (f : ℕ) (c : Body) → slice_get bs f ≡ Some c → slice_get (map g bs ++ q ∷ r ∷ []) f ≡ Some (g c)
old_from g [] q r f c is = absurd (none-some _ is)
old_from g (b ∷ bs) q r zero c is = ap (λ (d : Body). Some (g d)) (same_Some b c is)
old_from g (b ∷ bs) q r (suc f) c is = old_from g bs q r f c is

pub old_body : (p : Program) (f : ℕ) (c : Body) → slice_get p.bodies f ≡ Some c → slice_get (kernel_program p).bodies f ≡ Some (posting_body (length p.bodies) c)
old_body p f c is = old_from (posting_body (length p.bodies)) p.bodies (queue_body (length p.objects)) (pop_body (length p.objects)) f c is

queue_from : (g : Body → Body) (bs : List Body) (q r : Body) → slice_get (map g bs ++ q ∷ r ∷ []) (length bs) ≡ Some q
queue_from g [] q r = refl
queue_from g (b ∷ bs) q r = queue_from g bs q r

pub queue_is : (p : Program) → slice_get (kernel_program p).bodies (length p.bodies) ≡ Some (queue_body (length p.objects))
queue_is p = queue_from (posting_body (length p.bodies)) p.bodies (queue_body (length p.objects)) (pop_body (length p.objects))

pop_from : (g : Body → Body) (bs : List Body) (q r : Body) → slice_get (map g bs ++ q ∷ r ∷ []) (length bs + 1) ≡ Some r
pop_from g [] q r = let one : 0 + 1 ≡ suc zero = omega arith in ap (slice_get (q ∷ r ∷ [])) one
pop_from g (b ∷ bs) q r =
    let next : suc (length bs) + 1 ≡ suc (length bs + 1) = omega arith in
    ap (slice_get (map g (b ∷ bs) ++ q ∷ r ∷ [])) next ∙ pop_from g bs q r

pub pop_is : (p : Program) → slice_get (kernel_program p).bodies (length p.bodies + 1) ≡ Some (pop_body (length p.objects))
pop_is p = pop_from (posting_body (length p.bodies)) p.bodies (queue_body (length p.objects)) (pop_body (length p.objects))
