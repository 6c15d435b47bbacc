-- The functions of a program's bodies without parameters meet selection's premises.
use Rattle.std.proofs.Common.{◌≡◌, ◌⊎◌, ℕ, zero, suc, ◌+◌, ◌-◌, ◌*◌, ◌/◌, ◌%◌, ◌<◌, ◌≤◌, Bool, true, false, cond, nat_lt, List, [], length, Option, Some, None, All, refl, sym, ap, subst, ◌∙◌, arith}
use mathlib.Core.Logic.{inl, inr}
use Rattle.std.specs.Prelude.{slice_get, slice_index_or}
use Rattle.std.proofs.lemmas.Option.{slice_get-get_or}
use Rattle.std.proofs.lemmas.Bool.{cases_lt, ne_eqb}
use Rattle.std.proofs.lemmas.Bool.Decides.{nat_tests}
use Rattle.std.proofs.Math.ListN.{get_or-eq_default}
use Rattle.std.proofs.lemmas.List.Elements.{All-get_or}
use Rattle.nm_base.specs.declared.action.Action.{Action}
use Rattle.nesc_core.specs.Plain.{Body, Program}
use Rattle.msp_isa.specs.declared.code.CodeFn.{CodeFn}
use Rattle.msp_isa.specs.Stands.{items_of}
use Rattle.mid_code.specs.declared.code.Check.{Check}
use Rattle.mid_code.specs.declared.code.MidCode.{MidCode}
use Rattle.mid_code.specs.declared.code.MidFn.{MidFn}
use Rattle.mid_code.specs.declared.instr.Mid.{Mid}
use Rattle.mid_code.specs.declared.instr.Mid.TheVariants.{Set, Help, Post, Fault}
use Rattle.mid_code.specs.Form.{FitsProgram, HelpFits, IsMidCode, IsMidFn, KindFits, OperationFits}
use Rattle.mid_code.specs.Help.{first_check, operation_at, type_at}
use Rattle.mid_code.specs.Machine.{fn_of, no_fn}
use Rattle.lower_expr.specs.Code.{taken_at}
use Rattle.lower_stmt.specs.Bodies.{lowered}
use Rattle.lower_form.specs.Instructions.{IsSound}
use Rattle.lower_form.proofs.Form.{keeps_form}
use Rattle.lower_form.proofs.Sound.{are_sound, is_small}
use Rattle.lower_pace.specs.Pace.{own_of}
use Rattle.lower_pace.proofs.Weighed.{code_is_paced}
use Rattle.open_law.specs.Homes.{Home}
use Rattle.msp_select.specs.Frames.{count_pushed}
use Rattle.msp_select.specs.Laid.{start_of}
use Rattle.msp_select.specs.Routine.{IsRoutine, IsRoutineOf}
use Rattle.msp_select.specs.Select.{routine_of}
use Rattle.msp_select.specs.Sound.{IsSelectable, IsStanding}
use Rattle.msp_select.proofs.Bounds.{frames_are_small}
use Rattle.msp_select.proofs.Frames.{frames_fit}
use Rattle.msp_select.proofs.Laid.{laid_code_stands}
use Rattle.msp_runtime.specs.Code.{routine_items, weight}
use Rattle.msp_runtime.specs.Laws.{IsUnmarked}
use Rattle.msp_runtime.specs.Routines.{code_at}
use Rattle.msp_runtime.proofs.Numbers.{routines_are_routines}
use Rattle.msp_runtime.proofs.Short.{routines_are_short}
use Rattle.msp_checks.specs.Checks.{IsOfWords, check_items, check_most}
use Rattle.msp_checks.proofs.Laid.{checks_are_routines}
use Rattle.program_image.specs.Image.{HasFunctions, functions_of, homes_of, marks_of}
use Rattle.program_image.specs.Runs.{IsLoweredImage, IsSelectedRoot, LoweredCodeIsSelected, routine_bound}
use Rattle.program_image.proofs.Checks.{check_begins, check_fits, check_place}
use Rattle.program_image.proofs.Entries.{entry_is, routine_begins}
use Rattle.program_image.proofs.Kept.{IsKept, KeptLaws, is_kept}
use Rattle.program_image.proofs.Places.{even_function, functions_few, marked, small_function}
use Rattle.program_image.proofs.Roots.{element, fn_gives, fn_params, fn_there}

-- ---- routines

longer : (Takes : List ℕ → Type 0) (gives : List ℕ → Option (List ℕ)) (image : ℕ → ℕ) (data_end : ℕ) (marks : ℕ → List Action) (entry most more : ℕ) → most ≤ more →
    IsRoutineOf Takes gives image data_end marks entry most → IsRoutineOf Takes gives image data_end marks entry more
longer Takes gives image data_end marks entry most more le r = record {
  even_entry = r.even_entry;
  small_entry = r.small_entry;
  runs = λ values top start ram takes pc words awake gate hold bytes low high below.
      let x = r.runs values top start ram takes pc words awake gate hold bytes low high below in
      let lt = x.1 in
      (x.0, omega (arith, lt, le), x.2);
}

no_type : (n : ℕ) → 6 ≤ n → type_at n ≡ None
no_type n le = rw (ne_eqb n 0 (λ e. omega (arith, e, le)), ne_eqb n 1 (λ e. omega (arith, e, le)), ne_eqb n 2 (λ e. omega (arith, e, le)), ne_eqb n 3 (λ e. omega (arith, e, le)), ne_eqb n 4 (λ e. omega (arith, e, le)), ne_eqb n 5 (λ e. omega (arith, e, le))) refl

-- an operation that fits is one of 48
pub operation_there : (h ins outs : ℕ) → OperationFits (type_at (h / 8)) (operation_at (h % 8)) ins outs → h < 48
operation_there h ins outs k = by_size (cases_lt (h / 8) 6)
  where
    none : OperationFits None (operation_at (h % 8)) ins outs → ⊥
    none z = z

    by_size : (h / 8 < 6) ⊎ (6 ≤ h / 8) → h < 48
    by_size (inl l) = omega (arith, l)
    by_size (inr l) = absurd (none (subst (λ t. OperationFits t (operation_at (h % 8)) ins outs) (no_type (h / 8) l) k))

at_least : (h : ℕ) → nat_lt h first_check ≡ false → first_check + (h - first_check) ≡ h
at_least h e = let le : first_check ≤ h = grind (arith, nat_tests) in omega (arith, le)

-- behind all checks
no_check : Check
no_check = record { size = 0; runs = [] }

-- ---- instructions

selectable_one : (frame : ℕ) (i : Mid) → IsSound frame i → ((k v : ℕ) → i ≡ Post k v → ⊥) → IsSelectable i
selectable_one frame (Set v n) s none = s
selectable_one frame (Fault c) s none = s
selectable_one frame (Post k v) s none = none k v refl
selectable_one frame i s none = tt

module _ (p : Program) (deep : ℕ → ℕ) (image : ℕ → ℕ) (data_end : ℕ) (code : List CodeFn) (entries : ℕ → ℕ) (built : IsLoweredImage p deep image data_end code entries) (kept : IsKept p data_end) where
  abbrev c : MidCode
  c = lowered p

  abbrev own : ℕ → ℕ
  own = own_of p

  abbrev homes : ℕ → ℕ → Home
  homes = homes_of p

  abbrev h : HasFunctions p deep data_end code
  h = built.stands

  abbrev at_places : ℕ → ℕ → ℕ
  at_places = built.laid.places

  abbrev marks : ℕ → List Action
  marks = marks_of p at_places

  form : IsMidCode c
  form = keeps_form p built.well built.short

  own_form : (f : ℕ) → f < functions_of p → IsMidFn (fn_of c f)
  own_form f lt = All-get_or IsMidFn c.fns f no_fn lt form.fns

  -- ---- places

  no_marks : (g a : ℕ) → functions_of p ≤ g → g < length code → at_places g 0 ≤ a → marks a ≡ []
  no_marks = (marked p deep image data_end code entries built).1

  standing : IsStanding c homes own deep image marks entries (λ f at. at_places f (start_of c homes own f at))
  standing =
      laid_code_stands c homes own deep image marks entries code built.laid form (functions_few p deep image data_end code entries built) h.functions
      (even_function p deep image data_end code entries built) (small_function p deep image data_end code entries built) (marked p deep image data_end code entries built).0

  -- ---- routines

  rising : (f : ℕ) → f < length code → (k : ℕ) → k ≤ length (items_of code f) → at_places f 0 ≤ at_places f k
  rising f lt zero le = omega arith
  rising f lt (suc k) le = let a = rising f lt k (omega (arith, le)) in let b = built.order.items f k lt (omega (arith, le)) in omega (arith, a, b)

  unmarked : (f : ℕ) → functions_of p ≤ f → f < length code → IsUnmarked marks (at_places f) (length (items_of code f))
  unmarked f behind lt k a few low high = no_marks f a behind lt (let r = rising f lt k (omega (arith, few)) in omega (arith, r, low))

  operation : (n : ℕ) → n < 48 → IsRoutine c image data_end marks n (entries (functions_of p + n)) (routine_bound p)
  operation n few =
      let f : ℕ = functions_of p + n in
      let m = h.many in
      let lt : f < length code = omega (arith, m, few) in
      let is = (routines_are_short n).0 in
      let entry = entry_is image code entries built.laid f (routine_items (code_at n)) lt (h.operations n few) (routine_begins n) in
      longer _ _ image data_end marks (entries f) (weight (code_at n) + 2) (routine_bound p) (omega (arith, is))
      (routines_are_routines c image data_end marks entries code built.laid f n few h.low_end lt (h.operations n few) (unmarked f (omega arith) lt) entry.0 entry.1)

  check : (k : ℕ) → k < length c.checks → IsRoutine c image data_end marks (first_check + k) (entries (routine_of (functions_of p) (first_check + k))) (routine_bound p)
  check k few =
      let own : Check = slice_index_or c.checks k no_check in
      let is : slice_get c.checks k ≡ Some own = slice_get-get_or c.checks k no_check few in
      let f : ℕ = functions_of p + (48 + k) in
      let m = h.many in
      let lt : f < length code = omega (arith, m, few) in
      let entry = entry_is image code entries built.laid f (check_items own) lt (h.checks k own is) (check_begins own) in
      let place : f ≡ routine_of (functions_of p) (first_check + k) = check_place (functions_of p) k in
      subst (λ g. IsRoutine c image data_end marks (first_check + k) (entries g) (routine_bound p)) place
      (longer _ _ image data_end marks (entries f) (check_most own) (routine_bound p) (check_fits p k own is)
      (checks_are_routines c k own image data_end marks entries code built.laid f is (element IsOfWords c.checks k own h.of_words is) h.low_end lt (h.checks k own is) (unmarked f (omega arith) lt) entry.0 entry.1))

  routine : (n ins outs : ℕ) → HelpFits (length c.checks) n ins outs → IsRoutine c image data_end marks n (entries (routine_of (functions_of p) n)) (routine_bound p)
  routine n ins outs fits = by_kind (nat_lt n first_check) refl fits
    where
      by_kind : (t : Bool) → nat_lt n first_check ≡ t → KindFits t (length c.checks) n ins outs → IsRoutine c image data_end marks n (entries (routine_of (functions_of p) n)) (routine_bound p)
      by_kind true e k =
          let same : functions_of p + n ≡ routine_of (functions_of p) n = ap (λ t. cond t (functions_of p + n) (functions_of p + 48 + (n - first_check))) (sym e) in
          subst (λ f. IsRoutine c image data_end marks n (entries f) (routine_bound p)) same (operation n (operation_there n ins outs k))
      by_kind false e k =
          subst (λ m. IsRoutine c image data_end marks m (entries (routine_of (functions_of p) m)) (routine_bound p)) (at_least n e) (check (n - first_check) k.0)

  routines : (f at n : ℕ) (ins outs : List ℕ) → slice_get (fn_of c f).code at ≡ Some (Help n ins outs) → IsRoutine c image data_end marks n (entries (routine_of (length c.fns) n)) (routine_bound p)
  routines f at n ins outs e = routine n (length ins) (length outs) (element (FitsProgram c form.gives f) (fn_of c f).code at (Help n ins outs) (form.fits f) e)

  -- ---- instructions and frames

  inside : (f at : ℕ) (i : Mid) → slice_get (fn_of c f).code at ≡ Some i → f < functions_of p
  inside f at i e = by_size (cases_lt f (functions_of p))
    where
      by_size : (f < functions_of p) ⊎ (functions_of p ≤ f) → f < functions_of p
      by_size (inl lt) = lt
      by_size (inr le) =
          let none : fn_of c f ≡ no_fn = get_or-eq_default c.fns no_fn le in
          let e' : slice_get no_fn.code at ≡ Some i = ap (λ (fn : MidFn). slice_get fn.code at) (sym none) ∙ e in
          absurd (let z : ⊥ = cc in z)

  selectable : (f at : ℕ) (i : Mid) → slice_get (fn_of c f).code at ≡ Some i → IsSelectable i
  selectable f at i e =
      let sound : All (IsSound (fn_of c f).frame) (fn_of c f).code = All-get_or (λ (fn : MidFn). All (IsSound fn.frame) fn.code) c.fns f no_fn (inside f at i e) (are_sound p built.well) in
      selectable_one (fn_of c f).frame i (element (IsSound (fn_of c f).frame) (fn_of c f).code at i sound e) (λ k v same. built.postless f at k v (e ∙ ap Some same))

  little : (f : ℕ) → f < functions_of p → own f + 2 * count_pushed (fn_of c f).params ≤ 10241
  little f lt =
      let sum = frames_are_small (fn_of c f) (own_form f lt).params in
      let small = All-get_or (λ (fn : MidFn). fn.frame + 2 * fn.values ≤ 10240) c.fns f no_fn lt (is_small p built.well built.short).frames in
      omega (arith, sum, small)

  pub is_selected : (root : ℕ) (b : Body) → slice_get p.bodies root ≡ Some b → b.params ≡ 0 → IsSelectedRoot p deep image data_end entries at_places root (length (taken_at b.result 0))
  is_selected root b is none = record {
    selected = record {
      form = form;
      keeps = kept.keeps;
      selectable = selectable;
      framed = λ f lt. frames_fit c deep f;
      depths = h.depths;
      standing = standing;
      most_help = routine_bound p;
      routines = routines;
      objects = kept.objects root b is none;
      paced = code_is_paced p built.well built.measured root;
      is = fn_there p root b is;
      params = fn_params p root b is none;
      given = fn_gives p form root b is;
      low_end = h.low_end;
      entry = λ f lt. let l = little f lt in omega (arith, l);
      call = λ f lt. let l = little f lt in omega (arith, l);
      help = omega arith;
      least = omega arith;
    };
    help = omega arith;
  }

pub kept_of : KeptLaws → (p : Program) (deep : ℕ → ℕ) (image : ℕ → ℕ) (data_end : ℕ) (code : List CodeFn) (entries : ℕ → ℕ) → IsLoweredImage p deep image data_end code entries → IsKept p data_end
kept_of laws p deep image data_end code entries built = is_kept laws p data_end built.well built.ranked built.stands.objects

pub lowered_code_is_selected : KeptLaws → LoweredCodeIsSelected
lowered_code_is_selected laws p deep image data_end code entries built root b is none =
    is_selected p deep image data_end code entries built (kept_of laws p deep image data_end code entries built) root b is none
