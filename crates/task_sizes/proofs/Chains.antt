-- The functions along a path of calls hold less on the stack than the frames of the program's bodies weigh, but for what a post calls.
use Rattle.std.proofs.Common.{◌≡◌, ◌⊎◌, ℕ, ◌+◌, ◌*◌, ◌/◌, ◌%◌, ◌<◌, ◌≤◌, List, [], ◌∷◌, length, Some, sym, ap, subst, ◌∙◌, arith}
use mathlib.Core.Logic.{inl, inr}
use Rattle.std.specs.Prelude.{Contains, slice_get}
use Rattle.std.specs.List.{AllByRecursion}
use Rattle.std.proofs.lemmas.Bool.{cases_lt}
use Rattle.std.proofs.lemmas.List.Elements.{recursion_from_All}
use Rattle.std.proofs.lemmas.List.{length-map}
use Rattle.nesc_core.specs.Plain.{Body, Program}
use Rattle.nesc_core.specs.Calls.{stmt_calls}
use Rattle.nesc_core.specs.Weights.{frame_weight}
use Rattle.task_queue.specs.Kernel.{kernel, posting_body}
use Rattle.task_queue.specs.Posting.{posting_stmt}
use Rattle.task_queue.proofs.Bodies.{InKernel, bodies_length, in_kernel, kept, old_body, pops, queues}
use Rattle.kernel_laws.specs.Laws.{FramesGrow}
use Rattle.msp_isa.specs.declared.code.CodeFn.{CodeFn}
use Rattle.mid_code.specs.declared.code.MidCode.{MidCode}
use Rattle.mid_code.specs.declared.code.MidFn.{MidFn}
use Rattle.mid_code.specs.Form.{FitsProgram}
use Rattle.mid_code.specs.Machine.{fn_of, no_fn}
use Rattle.lower_stmt.specs.Bodies.{checks_of, lowered, mid_fn_of}
use Rattle.lower_stmt.specs.Bounds.{calls_in}
use Rattle.lower_stmt.proofs.OwnCalls.{own_calls}
use Rattle.lower_stmt.proofs.Weighed.{is_within}
use Rattle.lower_pace.proofs.Bodies.{fn_some}
use Rattle.msp_layout.specs.Depth.{IsPath, Names, calls_of, frame_of, path_bytes}
use Rattle.select_emitter.specs.Code.{called, code_of as code_of_fn, fn_items}
use Rattle.select_emitter.proofs.Called.{frames_are_bounded}
use Rattle.msp_routines.specs.Routines.{routine_fns}
use Rattle.program_image.specs.Image.{functions_of}
use Rattle.image_code.specs.Laws.{CanBeChecked}
use Rattle.image_code.proofs.Good.{AreRoutines, lowered_can_be_selected}
use Rattle.image_code.proofs.Labels.{each_named}
use Rattle.image_code.proofs.Selected.{called_are, callees_are}
use Rattle.image_code.proofs.Whole.{are_routines}
use Rattle.image_sizes.specs.StackWeight.{IsChain, called_by, calls_of_body, chain_weight, weight_of, weight_of_body}
use Rattle.image_sizes.proofs.Chains.{no_names, there}
use Rattle.task_image.specs.Order.{lone_place}
use Rattle.task_code.specs.Code.{code_of}
use Rattle.task_code.specs.Laws.{IsCompilable}
use Rattle.task_code.proofs.Places.{Stands, at_line, at_lone, at_loop, long, routine, selected, selected_at, stands}
use Rattle.task_sizes.proofs.Calls.{kept_call}

-- what a path holds, beside a chain of bodies; behind the chain a post may hold 136 bytes
pub record IsLight (p : Program) (f bytes : ℕ) : Type 0 where
  pub chain : List ℕ
  pub is_chain : IsChain p f chain
  pub light : bytes ≤ chain_weight p f chain + 118

module _ (p : Program) (h : IsCompilable p) (can : CanBeChecked (lowered (kernel p).program).checks) (grow : FramesGrow p) where
  abbrev K : Program
  K = (kernel p).program

  abbrev c : MidCode
  c = lowered K

  abbrev code : List CodeFn
  code = code_of p

  -- bodies of the kernel's program, and of the program
  abbrev n : ℕ
  n = functions_of K

  abbrev q : ℕ
  q = length p.bodies

  pub are : AreRoutines c.checks (routine_fns c.checks)
  are = are_routines c.checks can.few can.words

  many : n ≡ q + 2
  many = length-map K.bodies (mid_fn_of K (checks_of K)) ∙ bodies_length p

  body_at : (f : ℕ) → f < n → (b : Body) × (slice_get K.bodies f ≡ Some b)
  body_at f lt = there K.bodies f (let m = length-map K.bodies (mid_fn_of K (checks_of K)) in omega (arith, m, lt))

  -- ---- one function

  frame_held : (f : ℕ) → f < n → (b : Body) → slice_get K.bodies f ≡ Some b → frame_of code f + 24 ≤ frame_weight K b
  frame_held f lt b at =
      let fn : MidFn = mid_fn_of K (checks_of K) b in
      let is : fn_of c f ≡ fn = fn_some (mid_fn_of K (checks_of K)) K.bodies f b no_fn at in
      let bounded = (frames_are_bounded c (lowered_can_be_selected K h.kernel_well h.short) f lt).sum in
      let held = subst (λ (x : MidFn). (code_of_fn c x).frame ≤ 2 * ((x.frame + 2 * x.values + 1) / 2)) is bounded in
      let frame : frame_of code f ≡ (code_of_fn c fn).frame = ap (λ (x : CodeFn). x.frame) (selected_at p h (routine_fns c.checks) are f lt) ∙ ap (λ x. (code_of_fn c x).frame) is in
      let within = is_within K (checks_of K) b in
      let whole = within.is_even in
      let most = within.within in
      small (frame_of code f) (code_of_fn c fn).frame fn.frame fn.values (frame_weight K b) frame held whole most
    where
      small : (x y a v w : ℕ) → x ≡ y → y ≤ 2 * ((a + 2 * v + 1) / 2) → a % 2 ≡ 0 → a + 2 * v + 24 ≤ w → x + 24 ≤ w
      small x y a v w e le whole most = omega (arith, e, le, whole, most)

  -- a body of the program
  old_frame : (f : ℕ) → f < q → frame_of code f + 20 ≤ weight_of p f
  old_frame f low =
      let old = there p.bodies f low in
      let new : slice_get K.bodies f ≡ Some (posting_body q old.0) = old_body p f old.0 old.1 in
      let held = frame_held f (let m = many in omega (arith, m, low)) (posting_body q old.0) new in
      let grows = grow.bodies f old.0 (posting_body q old.0) old.1 new in
      let weight : weight_of p f ≡ frame_weight p old.0 = ap (weight_of_body p) old.1 in
      light (frame_of code f) (frame_weight K (posting_body q old.0)) (frame_weight p old.0) (weight_of p f) held grows weight
    where
      light : (x y z w : ℕ) → x + 24 ≤ y → y ≤ z + 4 → w ≡ z → x + 20 ≤ w
      light x y z w held grows same = omega (arith, held, grows, same)

  -- `queue` or `pop`
  new_frame : (f : ℕ) → q ≤ f → f < n → frame_of code f ≤ 76
  new_frame f high lt = let b = body_at f lt in by b.0 b.1 (in_kernel p f b.0 b.1)
    where
      small : (x w : ℕ) → x + 24 ≤ w → w ≤ 100 → x ≤ 76
      small x w held most = omega (arith, held, most)

      by : (b : Body) → slice_get K.bodies f ≡ Some b → InKernel p f b → frame_of code f ≤ 76
      by b at (kept d old low same) = absurd (omega (arith, high, low))
      by b at (queues place same) = small (frame_of code f) (frame_weight K b) (frame_held f lt b at) (grow.queue b (subst (λ k. slice_get K.bodies k ≡ Some b) place at))
      by b at (pops place same) = small (frame_of code f) (frame_weight K b) (frame_held f lt b at) (grow.pop b (subst (λ k. slice_get K.bodies k ≡ Some b) place at))

  new_calls : (f : ℕ) → q ≤ f → f < n → called_by K f ≡ []
  new_calls f high lt = let b = body_at f lt in by b.0 b.1 (in_kernel p f b.0 b.1)
    where
      by : (b : Body) → slice_get K.bodies f ≡ Some b → InKernel p f b → called_by K f ≡ []
      by b at (kept d old low same) = absurd (omega (arith, high, low))
      by b at (queues place same) = ap calls_of_body at ∙ ap (λ (d : Body). stmt_calls d.code) same
      by b at (pops place same) = ap calls_of_body at ∙ ap (λ (d : Body). stmt_calls d.code) same

  -- a function of a body that is called is one that the body calls; others are routines
  abbrev IsNext : ℕ → ℕ → Type 0
  IsNext f g = (g < n → Contains (called_by K f) g) × (g < lone_place p)

  nexts : (f : ℕ) → f < n → AllByRecursion (IsNext f) (called (fn_items c (fn_of c f)))
  nexts f lt =
      let b = body_at f lt in
      let fn : MidFn = mid_fn_of K (checks_of K) b.0 in
      let is : fn_of c f ≡ fn = fn_some (mid_fn_of K (checks_of K)) K.bodies f b.0 no_fn b.1 in
      let own : AllByRecursion (Contains (stmt_calls b.0.code)) (calls_in fn.code) = recursion_from_All (Contains (stmt_calls b.0.code)) (calls_in fn.code) (own_calls K (checks_of K) b.0) in
      let low : AllByRecursion (λ g. g < length c.fns → IsNext f g) (calls_in (fn_of c f).code) =
      subst (λ (x : MidFn). AllByRecursion (λ g. g < length c.fns → IsNext f g) (calls_in x.code)) (sym is)
      (each (stmt_calls b.0.code) (λ g m few. (λ lower. subst (λ l. Contains l g) (sym (ap calls_of_body b.1)) m, omega (arith, few))) (calls_in fn.code) own) in
      let form = (lowered_can_be_selected K h.kernel_well h.short).form in
      called_are (IsNext f) c (fn_of c f)
      (callees_are (IsNext f) c form.gives f (λ r le few. (λ lower. absurd (omega (arith, le, lower)), omega (arith, few))) (fn_of c f).code
      (recursion_from_All (FitsProgram c form.gives f) (fn_of c f).code (form.fits f)) low)
    where
      each : (calls : List ℕ) → ((g : ℕ) → Contains calls g → g < length c.fns → IsNext f g) → (xs : List ℕ) → AllByRecursion (Contains calls) xs → AllByRecursion (λ g. g < length c.fns → IsNext f g) xs
      each calls step [] all = tt
      each calls step (x ∷ xs) all = (step x all.0, each calls step xs all.1)

  next : (f : ℕ) → f < n → (g : ℕ) → Names (calls_of code f) g → IsNext f g
  next f lt g m =
      each_named (IsNext f) (called (fn_items c (fn_of c f))) (nexts f lt) g
      (subst (λ (x : CodeFn). Names x.calls g) (selected_at p h (routine_fns c.checks) are f lt) m)

  -- a body of the program that is called is one that the program's body calls
  old_call : (f : ℕ) → f < q → (g : ℕ) → g < q → Contains (called_by K f) g → Contains (called_by p f) g
  old_call f lt g low m =
      let old = there p.bodies f lt in
      let inside : Contains (stmt_calls (posting_stmt q old.0.code)) g = subst (λ l. Contains l g) (ap calls_of_body (old_body p f old.0 old.1)) m in
      subst (λ l. Contains l g) (sym (ap calls_of_body old.1)) (kept_call q old.0.code g low inside)

  -- ---- paths

  -- a routine calls nothing
  routine_ends : (f : ℕ) (path : List ℕ) → n ≤ f → f < lone_place p → IsPath code f path → path_bytes code f path ≤ 58
  routine_ends f path low high is = by (stands p h (routine_fns c.checks) are f (let l = many_there in omega (arith, high, l)))
    where
      many_there : length code ≡ n + (48 + (length c.checks + 10))
      many_there = long p h (routine_fns c.checks) are

      ends : (path : List ℕ) → IsPath code f path → frame_of code f ≡ 58 → calls_of code f ≡ [] → path_bytes code f path ≤ 58
      ends [] i e none = omega (arith, e)
      ends (g ∷ rest) i e none = absurd (no_names g (subst (λ l. Names l g) none i.0))

      by : Stands p (routine_fns c.checks) f → path_bytes code f path ≤ 58
      by (selected lt at) = absurd (omega (arith, low, lt))
      by (routine k place lt at) = ends path is (ap (λ (x : CodeFn). x.frame) at ∙ are.frames k lt) (ap (λ (x : CodeFn). x.calls) at ∙ are.none k)
      by (at_lone place at) = absurd (omega (arith, high, place))
      by (at_loop place at) = absurd (omega (arith, high, place))
      by (at_line v lt place at) = absurd (omega (arith, high, place))

  -- `queue` and `pop` call routines alone
  pub new_ends : (f : ℕ) (path : List ℕ) → q ≤ f → f < n → IsPath code f path → path_bytes code f path ≤ 136
  new_ends f [] high lt is = let a = new_frame f high lt in omega (arith, a)
  new_ends f (g ∷ path) high lt is = by (cases_lt g n)
    where
      nothing : Contains [] g → ⊥
      nothing (k, few, e) = omega (arith, few)

      by : (g < n) ⊎ (n ≤ g) → path_bytes code f (g ∷ path) ≤ 136
      by (inl few) = absurd (nothing (subst (λ l. Contains l g) (new_calls f high lt) ((next f lt g is.0).0 few)))
      by (inr more) =
          let a = new_frame f high lt in
          let l = routine_ends g path more (next f lt g is.0).1 is.1 in
          omega (arith, a, l)

  pub light_path : (f : ℕ) (path : List ℕ) → f < q → IsPath code f path → IsLight p f (path_bytes code f path)
  light_path f [] low is = let a = old_frame f low in record { chain = []; is_chain = tt; light = omega (arith, a) }
  light_path f (g ∷ path) low is = by (cases_lt g q) (cases_lt g n) (λ few. light_path g path few is.1)
    where
      lt : f < n
      lt = let m = many in omega (arith, m, low)

      by : (g < q) ⊎ (q ≤ g) → (g < n) ⊎ (n ≤ g) → (g < q → IsLight p g (path_bytes code g path)) → IsLight p f (path_bytes code f (g ∷ path))
      by (inl few) place further =
          let a = old_frame f low in
          let rest = further few in
          let l = rest.light in
          let m = many in
          let call = (next f lt g is.0).0 (omega (arith, m, few)) in
          record { chain = g ∷ rest.chain; is_chain = (old_call f low g few call, rest.is_chain); light = omega (arith, a, l) }
      by (inr high) (inl few) further =
          let a = old_frame f low in
          let l = new_ends g path high few is.1 in
          record { chain = []; is_chain = tt; light = omega (arith, a, l) }
      by (inr high) (inr more) further =
          let a = old_frame f low in
          let l = routine_ends g path more (next f lt g is.0).1 is.1 in
          record { chain = []; is_chain = tt; light = omega (arith, a, l) }
