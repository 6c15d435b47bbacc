-- The stack of the loop of tasks and that of a line, beside the program's weights.
use Rattle.std.proofs.Common.{◌≡◌, ℕ, zero, suc, ◌+◌, ◌<◌, ◌≤◌, List, [], ◌∷◌, length, Option, Some, None, refl, sym, ap, subst, ◌∙◌, arith}
use mathlib.Core.Logic.{inl, inr}
use Rattle.std.specs.Prelude.{slice_get, slice_index_or}
use Rattle.std.proofs.lemmas.Option.{slice_get-get_or, slice_get_within}
use Rattle.nesc_core.specs.Plain.{Program}
use Rattle.nesc_core.specs.WellFormed.{BeginsContext, boots, is_task}
use Rattle.core_meaning.specs.SourceOf.{handler_in}
use Rattle.task_queue.specs.Kernel.{kernel}
use Rattle.kernel_laws.specs.Laws.{FramesGrow}
use Rattle.msp_isa.specs.declared.code.CodeFn.{CodeFn}
use Rattle.msp_isa.specs.Stands.{no_code}
use Rattle.lower_stmt.specs.Bodies.{lowered}
use Rattle.code_pieces.specs.Pieces.{handler_of}
use Rattle.msp_layout.specs.Depth.{IsPath, Names, calls_of, frame_of, path_bytes}
use Rattle.msp_routines.specs.Routines.{routine_fns}
use Rattle.program_image.specs.Order.{line_of}
use Rattle.program_image.proofs.Roots.{handler_begins, root_body}
use Rattle.task_pieces.specs.Loop.{loop_of}
use Rattle.image_code.specs.Laws.{CanBeChecked}
use Rattle.image_sizes.specs.StackWeight.{IsBase, IsHandler, IsHeaviest}
use Rattle.image_sizes.proofs.Chains.{handles, no_names, one_name}
use Rattle.task_image.specs.Order.{lone_place, loop_place}
use Rattle.task_code.specs.Code.{code_of}
use Rattle.task_code.specs.Laws.{IsCompilable}
use Rattle.task_code.proofs.Places.{line_stands, lone_stands, loop_stands, pop_there}
use Rattle.task_sizes.proofs.Chains.{are, light_path, new_ends}

module _ (p : Program) (h : IsCompilable p) (can : CanBeChecked (lowered (kernel p).program).checks) (grow : FramesGrow p) where
  abbrev K : Program
  K = (kernel p).program

  abbrev code : List CodeFn
  code = code_of p

  abbrev routines : List CodeFn
  routines = routine_fns (lowered K).checks

  -- ---- what begins contexts

  root_there : (f : ℕ) → BeginsContext p f → f < length p.bodies
  root_there f begins = let r = root_body p h.well f begins in slice_get_within p.bodies f r.body r.is

  base_there : (f : ℕ) → IsBase p f → f < length p.bodies
  base_there f (inl e) = root_there f (boots e)
  base_there f (inr (k, e)) = root_there f (is_task k e)

  -- ---- the loop

  -- the lone RET holds nothing
  lone_ends : (path : List ℕ) → IsPath code (lone_place p) path → path_bytes code (lone_place p) path ≤ 0
  lone_ends [] i = let e : frame_of code (lone_place p) ≡ 0 = ap (λ (x : CodeFn). x.frame) (lone_stands p h routines (are p h can grow)) in omega (arith, e)
  lone_ends (g ∷ rest) i = absurd (no_names g (subst (λ (x : CodeFn). Names x.calls g) (lone_stands p h routines (are p h can grow)) i.0))

  from_root : (base : ℕ) → IsHeaviest p (IsBase p) base → (f : ℕ) (path : List ℕ) → IsBase p f → IsPath code f path → path_bytes code f path ≤ base + 118
  from_root base heaviest f path root is =
      let r = light_path p h can grow f path (base_there f root) is in
      let w = heaviest.bound f r.chain root r.is_chain in
      let l = r.light in
      omega (arith, w, l)

  from_pop : (f : ℕ) (path : List ℕ) → (kernel p).pop ≡ f → IsPath code f path → path_bytes code f path ≤ 136
  from_pop f path e is = let there = pop_there p h routines (are p h can grow) in new_ends p h can grow f path (omega (arith, e)) (omega (arith, e, there)) is

  from_lone : (f : ℕ) (path : List ℕ) → lone_place p ≡ f → IsPath code f path → path_bytes code f path ≤ 0
  from_lone f path e is = subst (λ g. IsPath code g path → path_bytes code g path ≤ 0) e (lone_ends path) is

  callee_light : (base : ℕ) → IsHeaviest p (IsBase p) base → (f : ℕ) (path : List ℕ) → Names (p.boot ∷ (kernel p).pop ∷ lone_place p ∷ p.tasks) f → IsPath code f path → path_bytes code f path ≤ base + 136
  callee_light base heaviest f path (zero, lt, e) is = let l = from_root base heaviest f path (inl (sym e)) is in omega (arith, l)
  callee_light base heaviest f path (suc zero, lt, e) is = let l = from_pop f path e is in omega (arith, l)
  callee_light base heaviest f path (suc (suc zero), lt, e) is = let l = from_lone f path e is in omega (arith, l)
  callee_light base heaviest f path (suc (suc (suc k)), lt, e) is =
      let task : slice_get p.tasks k ≡ Some f = slice_get-get_or p.tasks k 0 (omega (arith, lt)) ∙ ap Some e in
      let l = from_root base heaviest f path (inr (k, task)) is in
      omega (arith, l)

  pub base_light : (base : ℕ) → IsHeaviest p (IsBase p) base → (path : List ℕ) → IsPath code (loop_place p) path → path_bytes code (loop_place p) path ≤ base + 138
  base_light base heaviest path is = by path is
    where
      at : slice_index_or code (loop_place p) no_code ≡ loop_of p.boot (kernel p).pop (lone_place p) p.tasks
      at = loop_stands p h routines (are p h can grow)

      frame : frame_of code (loop_place p) ≡ 0
      frame = ap (λ (x : CodeFn). x.frame) at

      calls : calls_of code (loop_place p) ≡ p.boot ∷ (kernel p).pop ∷ lone_place p ∷ p.tasks
      calls = ap (λ (x : CodeFn). x.calls) at

      by : (path : List ℕ) → IsPath code (loop_place p) path → path_bytes code (loop_place p) path ≤ base + 138
      by [] i = let e = frame in omega (arith, e)
      by (g ∷ rest) i =
          let e = frame in
          let l = callee_light base heaviest g rest (subst (λ l. Names l g) calls i.0) i.1 in
          omega (arith, e, l)

  -- ---- lines

  pub line_light : (handlers : ℕ) → IsHeaviest p (IsHandler p) handlers → (v f : ℕ) → v < 8 → f ≡ loop_place p + (v + 1) → (path : List ℕ) → IsPath code f path → path_bytes code f path ≤ handlers + 148
  line_light handlers heaviest v f lt place path is =
      by (handler_in p.handlers v) refl path is (ap (λ k. slice_index_or code k no_code) place ∙ line_stands p h routines (are p h can grow) v lt)
    where
      by : (o : Option ℕ) → handler_in p.handlers v ≡ o → (path : List ℕ) → IsPath code f path → slice_index_or code f no_code ≡ line_of K v → path_bytes code f path ≤ handlers + 148
      by None e [] i at = let x : frame_of code f ≡ 30 = ap (λ (x : CodeFn). x.frame) (at ∙ ap handler_of e) in omega (arith, x)
      by None e (g ∷ rest) i at = absurd (no_names g (subst (λ (x : CodeFn). Names x.calls g) (at ∙ ap handler_of e) i.0))
      by (Some k) e [] i at = let x : frame_of code f ≡ 28 = ap (λ (x : CodeFn). x.frame) (at ∙ ap handler_of e) in omega (arith, x)
      by (Some k) e (g ∷ rest) i at =
          let x : frame_of code f ≡ 28 = ap (λ (x : CodeFn). x.frame) (at ∙ ap handler_of e) in
          let same : g ≡ k = one_name k g (subst (λ (x : CodeFn). Names x.calls g) (at ∙ ap handler_of e) i.0) in
          let found = e ∙ ap Some (sym same) in
          let r = light_path p h can grow g rest (root_there g (handler_begins p v g found)) i.1 in
          let w = heaviest.bound g r.chain (handles p.handlers v g found) r.is_chain in
          let l = r.light in
          omega (arith, x, w, l)
