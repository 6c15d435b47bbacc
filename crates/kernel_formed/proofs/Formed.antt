-- The kernel of a well-formed program is well formed.
use Rattle.std.proofs.Common.{◌≡◌, ℕ, ◌+◌, ◌%◌, ◌≤◌, List, [], ◌∷◌, ◌++◌, length, fold, get_or, Option, Some, None, refl, sym, subst, ◌∙◌, arith}
use Rattle.std.specs.Prelude.{slice_get}
use Rattle.std.specs.List.{All}
use Rattle.std.proofs.lemmas.List.Elements.{All-append, All-cons, All-nil, All-weaker}
use Rattle.std.proofs.lemmas.Option.{same_Some, slice_get-get_or, slice_get_within}
use Rattle.nm_base.specs.declared.int_type.IntType.TheVariants.{U8}
use Rattle.nesc_core.specs.Plain.{int, Field, Stmt, Object, Body, Program, more_stmts, no_stmts}
use Rattle.nesc_core.specs.Plain as plain
use Rattle.nesc_core.specs.Heres.{IsAlone}
use Rattle.nesc_core.specs.Size.{layout_of}
use Rattle.nesc_core.specs.Typing.{IsScalar, IsType}
use Rattle.nesc_core.specs.Weights.{even, frame_weight, objects_end, objects_start}
use Rattle.nesc_core.specs.WellFormed.{BeginsAtomic, BootsAtomic, IsAtomic, IsBody, IsRoot, IsWellFormed, LieFrom, by_return, greatest_frame}
use Rattle.task_queue.specs.Kernel.{Fits, bytes_object, kernel_program, pop_body, posting_body, queue_body}
use Rattle.task_queue.specs.Posting.{posting_stmt}
use Rattle.task_queue.proofs.Bodies.{InKernel, in_kernel, kept, pop_is, pops, queue_is, queues, old_body}
use Rattle.kernel_laws.proofs.Frames.{frames_grow}
use Rattle.kernel_formed.specs.Laws.{HasFrameRoom}
use Rattle.kernel_formed.proofs.Alone.{alone_kept}
use Rattle.kernel_formed.proofs.Own.{bytes_type_is, pop_code_is, queue_code_is}
use Rattle.kernel_formed.proofs.Typed.{stmt_kept}

-- ---- lists

at : {X : Type 0} (P : X → Type 0) (xs : List X) (k : ℕ) (x : X) → slice_get xs k ≡ Some x → All P xs → P x
at P xs k x is all =
    let lt = slice_get_within xs k x is in
    subst P (same_Some _ _ (sym (slice_get-get_or xs k x lt) ∙ is)) (all k x lt)

all_got : {X : Type 0} (P : X → Type 0) (xs : List X) → ((k : ℕ) (x : X) → slice_get xs k ≡ Some x → P x) → All P xs
all_got P xs got k d lt = got k (get_or xs k d) (slice_get-get_or xs k d lt)

-- one object more, behind the others
lies : (structs : List (List Field)) (last : Object) (os : List Object) (start end : ℕ)
    → end ≡ fold (λ before o. o.addr + (layout_of structs o.ty).size) start os → LieFrom structs start os
    → end ≤ last.addr → last.addr % 2 ≡ 0 → last.addr + (layout_of structs last.ty).size ≤ 65535 → LieFrom structs start (os ++ last ∷ [])
lies structs last [] start end is lie behind parity room = (omega (arith, is, behind), parity, room)
lies structs last (o ∷ os) start end is lie behind parity room =
    (lie.0, lie.1, lies structs last os (o.addr + (layout_of structs o.ty).size) end is lie.2 behind parity room)

even_is : (n : ℕ) → even n % 2 ≡ 0
even_is n = omega arith

-- ---- the first statement

module _ (q : ℕ) where
  atomic_kept : (s : Stmt) → IsAtomic s → IsAtomic (posting_stmt q s)
  atomic_kept (plain.atomic s) h = tt
  atomic_kept (plain.eval e) h = absurd h
  atomic_kept (plain.block list) h = absurd h
  atomic_kept (plain.branch e a b) h = absurd h
  atomic_kept (plain.loop first test step body) h = absurd h
  atomic_kept (plain.switch e cases list) h = absurd h
  atomic_kept plain.break h = absurd h
  atomic_kept plain.continue h = absurd h
  atomic_kept (plain.return e) h = absurd h
  atomic_kept (plain.clear k) h = absurd h
  atomic_kept (plain.here arguments from count body) h = absurd h

  begin_kept : (s : Stmt) → BeginsAtomic s → BeginsAtomic (posting_stmt q s)
  begin_kept (plain.block (more_stmts s rest)) h = atomic_kept s h
  begin_kept (plain.block no_stmts) h = absurd h
  begin_kept (plain.atomic s) h = tt
  begin_kept (plain.eval e) h = absurd h
  begin_kept (plain.branch e a b) h = absurd h
  begin_kept (plain.loop first test step body) h = absurd h
  begin_kept (plain.switch e cases list) h = absurd h
  begin_kept plain.break h = absurd h
  begin_kept plain.continue h = absurd h
  begin_kept (plain.return e) h = absurd h
  begin_kept (plain.clear k) h = absurd h
  begin_kept (plain.here arguments from count body) h = absurd h

module _ (p : Program) (formed : IsWellFormed p) (fits : Fits p) (room : HasFrameRoom p) where
  abbrev K : Program
  K = kernel_program p

  abbrev q : ℕ
  q = length p.bodies

  -- ---- bodies

  kept_formed : (f : ℕ) (b : Body) → slice_get p.bodies f ≡ Some b → IsBody K (posting_body q b)
  kept_formed f b is =
      let old = at (IsBody p) p.bodies f b is formed.bodies in
      let left : frame_weight p b + 4 ≤ greatest_frame = at (λ (c : Body). frame_weight p c + 4 ≤ greatest_frame) p.bodies f b is room in
      let grown = (frames_grow p).bodies f b (posting_body q b) is (old_body p f b is) in
      record {
        params = old.params;
        passed = old.passed;
        locals = old.locals;
        result = old.result;
        given = old.given;
        code = stmt_kept p fits.tasks b.locals b.code (by_return b.result) old.code;
        frame = omega (arith, left, grown);
        heres = alone_kept q b.code old.heres;
      }

  -- ---- the two functions

  byte_is_type : IsType p.structs (int U8)
  byte_is_type = record { sized = record { names = tt; small = tt }; points = tt }

  byte_types : All (IsType p.structs) (int U8 ∷ int U8 ∷ [])
  byte_types = All-cons (IsType p.structs) (int U8) (int U8 ∷ []) byte_is_type (All-cons (IsType p.structs) (int U8) [] byte_is_type (All-nil (IsType p.structs)))

  queue_formed : IsBody K (queue_body (length p.objects))
  queue_formed = record {
    params = omega arith;
    passed = All-cons IsScalar (int U8) [] tt (All-nil IsScalar);
    locals = byte_types;
    result = byte_is_type;
    given = tt;
    code = queue_code_is p;
    frame = omega (arith, (frames_grow p).queue (queue_body (length p.objects)) (queue_is p));
    heres = All-nil (IsAlone (queue_body (length p.objects)).code);
  }

  pop_formed : IsBody K (pop_body (length p.objects))
  pop_formed = record {
    params = omega arith;
    passed = All-nil IsScalar;
    locals = byte_types;
    result = byte_is_type;
    given = tt;
    code = pop_code_is p;
    frame = omega (arith, (frames_grow p).pop (pop_body (length p.objects)) (pop_is p));
    heres = All-nil (IsAlone (pop_body (length p.objects)).code);
  }

  each_formed : (f : ℕ) (b : Body) → InKernel p f b → IsBody K b
  each_formed f b (kept c is lt same) = subst (IsBody K) (sym same) (kept_formed f c is)
  each_formed f b (queues is same) = subst (IsBody K) (sym same) queue_formed
  each_formed f b (pops is same) = subst (IsBody K) (sym same) pop_formed

  -- ---- what begins contexts

  root_kept : (f : ℕ) → IsRoot (slice_get p.bodies f) → IsRoot (slice_get K.bodies f)
  root_kept f root = by_body (slice_get p.bodies f) refl root
    where
      by_body : (o : Option Body) → slice_get p.bodies f ≡ o → IsRoot o → IsRoot (slice_get K.bodies f)
      by_body None is h = absurd h
      by_body (Some b) is h = subst IsRoot (sym (old_body p f b is)) h

  boots : BootsAtomic (slice_get K.bodies p.boot)
  boots = by_body (slice_get p.bodies p.boot) refl formed.boot_atomic
    where
      by_body : (o : Option Body) → slice_get p.bodies p.boot ≡ o → BootsAtomic o → BootsAtomic (slice_get K.bodies p.boot)
      by_body None is h = absurd h
      by_body (Some b) is h = subst BootsAtomic (sym (old_body p p.boot b is)) (begin_kept q b.code h)

  pub kernel_formed : IsWellFormed K
  kernel_formed = record {
    structs = formed.structs;
    fields = formed.fields;
    objects = All-append (λ (o : Object). IsType p.structs o.ty) p.objects (bytes_object p ∷ []) formed.objects
        (All-cons (λ (o : Object). IsType p.structs o.ty) (bytes_object p) [] (bytes_type_is p fits.tasks) (All-nil (λ (o : Object). IsType p.structs o.ty)));
    addresses = lies p.structs (bytes_object p) p.objects objects_start (objects_end p) refl formed.addresses (omega arith) (even_is (objects_end p)) (omega (arith, fits.tasks, fits.room));
    bodies = all_got (IsBody K) K.bodies (λ f b is. each_formed f b (in_kernel p f b is));
    tasks = All-weaker (λ f. IsRoot (slice_get p.bodies f)) (λ f. IsRoot (slice_get K.bodies f)) root_kept p.tasks formed.tasks;
    handlers = All-weaker (λ (h : ℕ × ℕ). IsRoot (slice_get p.bodies h.1)) (λ (h : ℕ × ℕ). IsRoot (slice_get K.bodies h.1)) (λ h. root_kept h.1) p.handlers formed.handlers;
    lines = formed.lines;
    differ = formed.differ;
    boot = root_kept p.boot formed.boot;
    boot_atomic = boots;
  }
