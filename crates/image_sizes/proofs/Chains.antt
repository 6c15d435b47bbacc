-- The functions along a path of calls hold less on the stack than the frames of their bodies weigh.
use Rattle.std.proofs.Common.{◌≡◌, ◌⊎◌, ℕ, zero, suc, ◌+◌, ◌*◌, ◌/◌, ◌%◌, ◌<◌, ◌≤◌, ◌==◌, Bool, true, false, cond, List, [], ◌∷◌, length, Option, Some, None, refl, sym, ap, subst, ◌∙◌, arith}
use mathlib.Core.Logic.{inl, inr}
use Rattle.std.specs.Prelude.{Contains, slice_get, slice_index_or}
use Rattle.std.specs.List.{AllByRecursion}
use Rattle.std.proofs.lemmas.Bool.{cases_lt}
use Rattle.std.proofs.lemmas.List.Elements.{recursion_from_All}
use Rattle.std.proofs.lemmas.List.{length-map}
use Rattle.nesc_core.specs.Plain.{Body, Program}
use Rattle.nesc_core.specs.Calls.{stmt_calls}
use Rattle.nesc_core.specs.WellFormed.{boots}
use Rattle.core_meaning.specs.SourceOf.{handler_in}
use Rattle.msp_isa.specs.declared.code.CodeFn.{CodeFn}
use Rattle.msp_isa.specs.Stands.{no_code}
use Rattle.mid_code.specs.declared.code.MidCode.{MidCode}
use Rattle.mid_code.specs.declared.code.MidFn.{MidFn}
use Rattle.mid_code.specs.Form.{FitsProgram}
use Rattle.mid_code.specs.Machine.{fn_of, no_fn}
use Rattle.lower_stmt.specs.Bodies.{checks_of, lowered, mid_fn_of}
use Rattle.lower_stmt.specs.Bounds.{calls_in}
use Rattle.lower_stmt.proofs.OwnCalls.{own_calls}
use Rattle.lower_stmt.proofs.Weighed.{is_within}
use Rattle.lower_pace.proofs.Bodies.{fn_some}
use Rattle.code_pieces.specs.Pieces.{handler_of, reset_of}
use Rattle.msp_layout.specs.Depth.{IsPath, Names, calls_of, frame_of, path_bytes}
use Rattle.select_emitter.specs.Code.{called, code_of as code_of_fn, fn_items}
use Rattle.select_emitter.proofs.Called.{frames_are_bounded}
use Rattle.msp_routines.specs.Routines.{routine_fns}
use Rattle.program_image.specs.Image.{functions_of}
use Rattle.program_image.specs.Order.{line_of, reset_place}
use Rattle.program_image.proofs.Roots.{handler_begins, root_body, root_there}
use Rattle.image_code.specs.Code.{code_of}
use Rattle.image_code.specs.Laws.{CanBeChecked, IsCompilable}
use Rattle.image_code.proofs.Good.{AreRoutines, Stands, at_line, at_reset, line_stands, long, lowered_can_be_selected, reset_at, routine, selected, selected_at, stands}
use Rattle.image_code.proofs.Labels.{each_named}
use Rattle.image_code.proofs.Selected.{called_are, callees_are}
use Rattle.image_code.proofs.Whole.{are_routines}
use Rattle.image_sizes.specs.StackWeight.{IsBase, IsChain, IsHandler, IsHeaviest, called_by, calls_of_body, chain_weight, weight_of, weight_of_body}

pub no_names : (g : ℕ) → Names [] g → ⊥
no_names g (i, lt, e) = omega (arith, lt)

pub one_name : (f g : ℕ) → Names (f ∷ []) g → g ≡ f
one_name f g (zero, lt, e) = sym e
one_name f g (suc i, lt, e) = absurd (omega (arith, lt))

-- a body of the list
pub there : (bs : List Body) (k : ℕ) → k < length bs → (b : Body) × (slice_get bs k ≡ Some b)
there [] k lt = absurd (omega (arith, lt))
there (b ∷ bs) zero lt = (b, refl)
there (b ∷ bs) (suc k) lt = there bs k (omega (arith, lt))

-- the handler of a line is a handler
pub handles : (hs : List (ℕ × ℕ)) (v f : ℕ) → handler_in hs v ≡ Some f → (k : ℕ) × (line : ℕ) × (slice_get hs k ≡ Some (line, f))
handles [] v f e = absurd (cc)
handles (h ∷ hs) v f e = by (h.0 == v) (handles hs v f) e
  where
    by : (t : Bool) → (handler_in hs v ≡ Some f → (k : ℕ) × (line : ℕ) × (slice_get hs k ≡ Some (line, f))) → cond t (Some h.1) (handler_in hs v) ≡ Some f → (k : ℕ) × (line : ℕ) × (slice_get (h ∷ hs) k ≡ Some (line, f))
    by true later k = let same : h.1 ≡ f = cc in (0, h.0, ap (λ g. Some (h.0, g)) same)
    by false later k = let r = later k in (suc r.0, r.1, r.2)

-- what a path holds, beside a chain of bodies
pub record IsLight (p : Program) (f bytes : ℕ) : Type 0 where
  pub chain : List ℕ
  pub is_chain : IsChain p f chain
  pub light : bytes ≤ chain_weight p f chain + 60

module _ (p : Program) (h : IsCompilable p) (can : CanBeChecked (lowered p).checks) where
  abbrev c : MidCode
  c = lowered p

  abbrev code : List CodeFn
  code = code_of p

  abbrev n : ℕ
  n = functions_of p

  are : AreRoutines c.checks (routine_fns c.checks)
  are = are_routines c.checks can.few can.words

  body_at : (f : ℕ) → f < n → (b : Body) × (slice_get p.bodies f ≡ Some b)
  body_at f lt = there p.bodies f (let m = length-map p.bodies (mid_fn_of p (checks_of p)) in omega (arith, m, lt))

  -- ---- one function

  frame_light : (f : ℕ) → f < n → frame_of code f + 24 ≤ weight_of p f
  frame_light f lt =
      let b = body_at f lt in
      let fn : MidFn = mid_fn_of p (checks_of p) b.0 in
      let is : fn_of c f ≡ fn = fn_some (mid_fn_of p (checks_of p)) p.bodies f b.0 no_fn b.1 in
      let at = selected_at p h.well h.ranked h.short (routine_fns c.checks) are f lt in
      let bounded = (frames_are_bounded c (lowered_can_be_selected p h.well h.short) f lt).sum in
      let held = subst (λ (x : MidFn). (code_of_fn c x).frame ≤ 2 * ((x.frame + 2 * x.values + 1) / 2)) is bounded in
      let frame : frame_of code f ≡ (code_of_fn c fn).frame = ap (λ (x : CodeFn). x.frame) at ∙ ap (λ x. (code_of_fn c x).frame) is in
      let within = is_within p (checks_of p) b.0 in
      let whole = within.is_even in
      let most = within.within in
      let weight = ap (weight_of_body p) b.1 in
      small (frame_of code f) (code_of_fn c fn).frame fn.frame fn.values _ (weight_of p f) frame held whole most weight
    where
      small : (x y a v w t : ℕ) → x ≡ y → y ≤ 2 * ((a + 2 * v + 1) / 2) → a % 2 ≡ 0 → a + 2 * v + 24 ≤ w → t ≡ w → x + 24 ≤ t
      small x y a v w t e le whole most same = omega (arith, e, le, whole, most, same)

  -- a function of a body that is called is one that the body calls; others are routines
  abbrev IsNext : ℕ → ℕ → Type 0
  IsNext f g = (g < n → Contains (called_by p f) g) × (g < reset_place p)

  nexts : (f : ℕ) → f < n → AllByRecursion (IsNext f) (called (fn_items c (fn_of c f)))
  nexts f lt =
      let b = body_at f lt in
      let fn : MidFn = mid_fn_of p (checks_of p) b.0 in
      let is : fn_of c f ≡ fn = fn_some (mid_fn_of p (checks_of p)) p.bodies f b.0 no_fn b.1 in
      let own : AllByRecursion (Contains (stmt_calls b.0.code)) (calls_in fn.code) = recursion_from_All (Contains (stmt_calls b.0.code)) (calls_in fn.code) (own_calls p (checks_of p) b.0) in
      let low : AllByRecursion (λ g. g < length c.fns → IsNext f g) (calls_in (fn_of c f).code) =
      subst (λ (x : MidFn). AllByRecursion (λ g. g < length c.fns → IsNext f g) (calls_in x.code)) (sym is)
      (each (stmt_calls b.0.code) (λ g m few. (λ lower. subst (λ l. Contains l g) (sym (ap calls_of_body b.1)) m, omega (arith, few))) (calls_in fn.code) own) in
      let form = (lowered_can_be_selected p h.well h.short).form in
      called_are (IsNext f) c (fn_of c f)
      (callees_are (IsNext f) c form.gives f (λ r le few. (λ lower. absurd (omega (arith, le, lower)), omega (arith, few))) (fn_of c f).code
      (recursion_from_All (FitsProgram c form.gives f) (fn_of c f).code (form.fits f)) low)
    where
      each : (calls : List ℕ) → ((g : ℕ) → Contains calls g → g < length c.fns → IsNext f g) → (xs : List ℕ) → AllByRecursion (Contains calls) xs → AllByRecursion (λ g. g < length c.fns → IsNext f g) xs
      each calls step [] all = tt
      each calls step (x ∷ xs) all = (step x all.0, each calls step xs all.1)

  next : (f : ℕ) → f < n → (g : ℕ) → Names (calls_of code f) g → IsNext f g
  next f lt g m =
      each_named (IsNext f) (called (fn_items c (fn_of c f))) (nexts f lt) g
      (subst (λ (x : CodeFn). Names x.calls g) (selected_at p h.well h.ranked h.short (routine_fns c.checks) are f lt) m)

  -- ---- paths

  -- a routine calls nothing
  routine_ends : (f : ℕ) (path : List ℕ) → n ≤ f → f < reset_place p → IsPath code f path → path_bytes code f path ≤ 58
  routine_ends f path low high is =
      by (stands p h.well h.ranked h.short (routine_fns c.checks) are f (let l = many in omega (arith, high, l)))
    where
      many : length code ≡ n + (48 + (length c.checks + 9))
      many = long p h.well h.ranked h.short (routine_fns c.checks) are

      ends : (path : List ℕ) → IsPath code f path → frame_of code f ≡ 58 → calls_of code f ≡ [] → path_bytes code f path ≤ 58
      ends [] i e none = omega (arith, e)
      ends (g ∷ rest) i e none = absurd (no_names g (subst (λ l. Names l g) none i.0))

      by : Stands p (routine_fns c.checks) f → path_bytes code f path ≤ 58
      by (selected lt at) = absurd (omega (arith, low, lt))
      by (routine k place lt at) = ends path is (ap (λ (x : CodeFn). x.frame) at ∙ are.frames k lt) (ap (λ (x : CodeFn). x.calls) at ∙ are.none k)
      by (at_reset place at) = absurd (omega (arith, high, place))
      by (at_line v lt place at) = absurd (omega (arith, high, place))

  light_path : (f : ℕ) (path : List ℕ) → f < n → IsPath code f path → IsLight p f (path_bytes code f path)
  light_path f [] lt is = let a = frame_light f lt in record { chain = []; is_chain = tt; light = omega (arith, a) }
  light_path f (g ∷ path) lt is = by (cases_lt g n) (λ few. light_path g path few is.1)
    where
      by : (g < n) ⊎ (n ≤ g) → (g < n → IsLight p g (path_bytes code g path)) → IsLight p f (path_bytes code f (g ∷ path))
      by (inl few) further =
          let a = frame_light f lt in
          let rest = further few in
          let l = rest.light in
          record { chain = g ∷ rest.chain; is_chain = ((next f lt g is.0).0 few, rest.is_chain); light = omega (arith, a, l) }
      by (inr more) further =
          let a = frame_light f lt in
          let l = routine_ends g path more (next f lt g is.0).1 is.1 in
          record { chain = []; is_chain = tt; light = omega (arith, a, l) }

  boot_there : p.boot < n
  boot_there = root_there p p.boot (root_body p h.well p.boot (boots refl))

  handler_there : (v f : ℕ) → handler_in p.handlers v ≡ Some f → f < n
  handler_there v f e = root_there p f (root_body p h.well f (handler_begins p v f e))

  pub base_light : (base : ℕ) → IsHeaviest p (IsBase p) base → (path : List ℕ) → IsPath code (reset_place p) path → path_bytes code (reset_place p) path ≤ base + 62
  base_light base heaviest path is = by path is
    where
      at : slice_index_or code (reset_place p) no_code ≡ reset_of p.boot
      at = reset_at p h.well h.ranked h.short (routine_fns c.checks) are

      frame : frame_of code (reset_place p) ≡ 0
      frame = ap (λ (x : CodeFn). x.frame) at

      calls : calls_of code (reset_place p) ≡ p.boot ∷ []
      calls = ap (λ (x : CodeFn). x.calls) at

      from_boot : (g : ℕ) (path : List ℕ) → g ≡ p.boot → IsPath code g path → path_bytes code g path ≤ base + 60
      from_boot g path e i =
          let r = light_path g path (let b = boot_there in omega (arith, b, e)) i in
          let w = heaviest.bound g r.chain (inl e) r.is_chain in
          let l = r.light in
          omega (arith, w, l)

      by : (path : List ℕ) → IsPath code (reset_place p) path → path_bytes code (reset_place p) path ≤ base + 62
      by [] i = let e = frame in omega (arith, e)
      by (g ∷ rest) i =
          let e = frame in
          let l = from_boot g rest (one_name p.boot g (subst (λ l. Names l g) calls i.0)) i.1 in
          omega (arith, e, l)

  pub line_light : (handlers : ℕ) → IsHeaviest p (IsHandler p) handlers → (v f : ℕ) → v < 8 → f ≡ reset_place p + (v + 1) → (path : List ℕ) → IsPath code f path → path_bytes code f path ≤ handlers + 90
  line_light handlers heaviest v f lt place path is = by (handler_in p.handlers v) refl path is (ap (λ k. slice_index_or code k no_code) place ∙ line_stands p h.well h.ranked h.short (routine_fns c.checks) are v lt)
    where
      by : (o : Option ℕ) → handler_in p.handlers v ≡ o → (path : List ℕ) → IsPath code f path → slice_index_or code f no_code ≡ line_of p v → path_bytes code f path ≤ handlers + 90
      by None e [] i at = let x : frame_of code f ≡ 30 = ap (λ (x : CodeFn). x.frame) (at ∙ ap handler_of e) in omega (arith, x)
      by None e (g ∷ rest) i at = absurd (no_names g (subst (λ (x : CodeFn). Names x.calls g) (at ∙ ap handler_of e) i.0))
      by (Some k) e [] i at = let x : frame_of code f ≡ 28 = ap (λ (x : CodeFn). x.frame) (at ∙ ap handler_of e) in omega (arith, x)
      by (Some k) e (g ∷ rest) i at =
          let x : frame_of code f ≡ 28 = ap (λ (x : CodeFn). x.frame) (at ∙ ap handler_of e) in
          let same : g ≡ k = one_name k g (subst (λ (x : CodeFn). Names x.calls g) (at ∙ ap handler_of e) i.0) in
          let r = light_path g rest (let b = handler_there v k e in omega (arith, b, same)) i.1 in
          let found = handles p.handlers v g (e ∙ ap Some (sym same)) in
          let w = heaviest.bound g r.chain found r.is_chain in
          let l = r.light in
          omega (arith, x, w, l)
