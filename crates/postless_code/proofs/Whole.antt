-- The functions of a kernel's program have no Post.
use Rattle.std.proofs.Common.{◌≡◌, ℕ, zero, suc, ◌+◌, true, List, [], ◌∷◌, ◌++◌, length, map, Option, Some, None, refl, sym, ap, subst}
use Rattle.std.specs.Prelude.{slice_get, slice_index_or}
use Rattle.std.proofs.lemmas.Option.{none-some}
use Rattle.nesc_core.specs.Plain.{Ty, Body, Program}
use Rattle.mid_code.specs.declared.instr.Mid.TheVariants.{Ret}
use Rattle.mid_code.specs.declared.code.MidFn.{MidFn}
use Rattle.mid_code.specs.Machine.{fn_of, no_fn}
use Rattle.lower_expr.specs.Code.{taken_at}
use Rattle.lower_stmt.specs.Code.{nothing_code, stmt_code}
use Rattle.lower_stmt.specs.Bodies.{base_of, body_code, checks_of, lowered, mid_fn_of, spots_of, ways_of}
use Rattle.task_queue.specs.Kernel.{kernel_program, pop_body, posting_body, queue_body}
use Rattle.task_queue.proofs.Bodies.{InKernel, in_kernel, kept, pops, queues}
use Rattle.postless_code.specs.Laws.{KernelsPostNothing}
use Rattle.postless_code.proofs.Pieces.{IsFree, both, has_none, none_at}
use Rattle.postless_code.proofs.Walk.{nothing_free, stmt_free}

body_free : (p : Program) (checks : List Ty) (queue : ℕ) (b : Body) → IsFree (body_code p checks (posting_body queue b))
body_free p checks queue b =
    let c : Body = posting_body queue b in
    both (stmt_code p c.locals checks (spots_of p c) (base_of c) c.code (ways_of p c) 0) (nothing_code c.result (base_of c + 2) ++ Ret (taken_at c.result (base_of c + 2)) ∷ [])
    (stmt_free p c.locals checks (spots_of p c) (base_of c) queue b.code (ways_of p c) 0)
    (both (nothing_code c.result (base_of c + 2)) (Ret (taken_at c.result (base_of c + 2)) ∷ []) (nothing_free c.result (base_of c + 2)) (record { none = refl }))

-- ---- functions

fn_is : (g : Body → MidFn) (bs : List Body) (f : ℕ) (b : Body) → slice_get bs f ≡ Some b → slice_index_or (map g bs) f no_fn ≡ g b
fn_is g [] f b is = absurd (none-some _ is)
fn_is g (x ∷ bs) zero b is = let e : x ≡ b = cc in ap g e
fn_is g (x ∷ bs) (suc f) b is = fn_is g bs f b is

fn_is_none : (g : Body → MidFn) (bs : List Body) (f : ℕ) → slice_get bs f ≡ None → slice_index_or (map g bs) f no_fn ≡ no_fn
fn_is_none g [] f is = refl
fn_is_none g (x ∷ bs) zero is = absurd (cc)
fn_is_none g (x ∷ bs) (suc f) is = fn_is_none g bs f is

module _ (p : Program) where
  abbrev K : Program
  K = kernel_program p

  -- the kernel's own functions have no posts, so they stay as they are
  of_body : (f : ℕ) (b : Body) → InKernel p f b → IsFree (body_code K (checks_of K) b)
  of_body f b (kept c old lt same) = subst (λ x. IsFree (body_code K (checks_of K) x)) (sym same) (body_free K (checks_of K) (length p.bodies) c)
  of_body f b (queues at same) = subst (λ x. IsFree (body_code K (checks_of K) x)) (sym same) (body_free K (checks_of K) 0 (queue_body (length p.objects)))
  of_body f b (pops at same) = subst (λ x. IsFree (body_code K (checks_of K) x)) (sym same) (body_free K (checks_of K) 0 (pop_body (length p.objects)))

  each_free : (f : ℕ) → has_none (fn_of (lowered K) f).code ≡ true
  each_free f = by (slice_get K.bodies f) refl
    where
      by : (o : Option Body) → slice_get K.bodies f ≡ o → has_none (fn_of (lowered K) f).code ≡ true
      by None is = subst (λ (fn : MidFn). has_none fn.code ≡ true) (sym (fn_is_none (mid_fn_of K (checks_of K)) K.bodies f is)) refl
      by (Some b) is = subst (λ (fn : MidFn). has_none fn.code ≡ true) (sym (fn_is (mid_fn_of K (checks_of K)) K.bodies f b is)) (of_body f b (in_kernel p f b is)).none

pub kernels_post_nothing : KernelsPostNothing
kernels_post_nothing p f at k v is = none_at (fn_of (lowered (kernel_program p)) f).code at k v (each_free p f) is
