-- Where the code of a program is laid out and fits, the mote does what the program does.
use Rattle.std.proofs.Common.{◌≡◌, ◌⊎◌, ℕ, zero, suc, ◌+◌, ◌-◌, ◌*◌, ◌/◌, ◌%◌, ◌<◌, ◌≤◌, Bool, true, false, cond, List, [], ◌∷◌, length, Option, Some, None, All, refl, sym, ap, subst, ◌∙◌, arith}
use Rattle.std.specs.Prelude.{◌==◌, slice_get, slice_index, slice_index_or}
use Rattle.std.proofs.lemmas.Bool.{eqb-true}
use Rattle.std.proofs.lemmas.List.Elements.{All-head, All-tail}
use Rattle.std.specs.List.{range_with_len}
use Rattle.std.proofs.lemmas.List.{get_or-map, length-map}
use Rattle.std.proofs.lemmas.List.FromFn.{get_or-range_with_len, length-range_with_len}
use Rattle.mote_devices.specs.declared.state.BoardState.{BoardState}
use Rattle.mote_devices.specs.WordBoards.{AreWordRows, IsWordBoard, IsWordGiven}
use Rattle.mote_devices.specs.declared.shown.Due.{Due}
use Rattle.nesc_core.specs.Plain.{Program}
use Rattle.nesc_core.specs.Calls.{HasNoCycle}
use Rattle.nesc_core.specs.Weights.{objects_end, pace_of_program}
use Rattle.nesc_core.specs.WellFormed.{IsWellFormed, boots}
use Rattle.core_meaning.specs.SourceOf.{handler_in, source_of}
use Rattle.mote_bus.specs.Mote.{mote}
use Rattle.preempt_core.specs.Allowed.{Allowed}
use Rattle.msp_isa.specs.Image.{image_map}
use Rattle.msp_isa.specs.declared.code.CodeFn.{CodeFn}
use Rattle.msp_isa.specs.Stands.{items_of, no_code}
use Rattle.msp430_cpu.specs.Cpu.{even}
use Rattle.mid_code.specs.declared.code.MidCode.{MidCode}
use Rattle.mid_code.specs.declared.code.MidFn.{MidFn}
use Rattle.mid_code.specs.declared.instr.Mid.{Mid}
use Rattle.mid_code.specs.declared.instr.Mid.TheVariants.{Call, Help}
use Rattle.mid_code.specs.Form.{FitsProgram}
use Rattle.mid_code.specs.Machine.{fn_of, no_fn}
use Rattle.lower_stmt.specs.Bodies.{lowered}
use Rattle.lower_form.specs.Short.{IsShort}
use Rattle.lower_pace.specs.Pace.{own_of}
use Rattle.code_pieces.specs.Pieces.{functions, handler_of, line_frame, reset_of}
use Rattle.msp_select.specs.Frames.{count_pushed, own_bytes, parameter_bytes, rounded}
use Rattle.msp_select.specs.Select.{routine_of}
use Rattle.msp_select.specs.Sound.{IsDeep, IsDeeper}
use Rattle.msp_layout.specs.Deep.{AreDepths, HoldsDepths}
use Rattle.msp_layout.specs.Depth.{Names, calls_of, frame_of}
use Rattle.msp_layout.specs.Laid.{FitsRam, IsGoodCode, IsPlaced}
use Rattle.msp_layout.proofs.ByRank.{stack_holds_depths}
use Rattle.msp_checks.specs.Written.{AreOfWords}
use Rattle.select_emitter.specs.Code.{all_code, called, code_of, fn_items}
use Rattle.select_emitter.specs.Laws.{callees}
use Rattle.select_emitter.proofs.Called.{calls_stay}
use Rattle.program_image.specs.Image.{functions_of, homes_of}
use Rattle.program_image.specs.Order.{IsOrdered, image_code, line_of, lines_of, reset_place}
use Rattle.program_image.specs.Runs.{IsBuiltOf, ProgramImagesRun}
use Rattle.program_image.proofs.Ordered.{ordered_code_stands}
use Rattle.program_image.proofs.Roots.{element, root_body, root_params, root_there}
use Rattle.image_code.specs.Code.{IsCountable, data_bytes}
use Rattle.image_code.specs.Laws.{IsCompilable}
use Rattle.image_code.proofs.Good.{AreRoutines, can, good_code, line_stands, long, reset_at, routine_stands, selected_at}
use Rattle.image_code.proofs.Selected.{call_named, help_named, help_place}

module _ (p : Program) (well : IsWellFormed p) (ranked : HasNoCycle p) (short : IsShort p) (routines : List CodeFn) (are : AreRoutines (lowered p).checks routines) (depth : ℕ → ℕ) (depths : AreDepths (image_code p (all_code (lowered p)) routines) depth) where
  abbrev c : MidCode
  c = lowered p

  abbrev code : List CodeFn
  code = image_code p (all_code c) routines

  abbrev n : ℕ
  n = functions_of p

  -- a function's depth below its return address: what was pushed for it lies above
  abbrev deep : ℕ → ℕ
  deep f = depth f - 2 * count_pushed (fn_of c f).params

  frame_at : (f : ℕ) → f < n → frame_of code f ≡ own_bytes (fn_of c f) + 2 * count_pushed (fn_of c f).params
  frame_at f lt = ap (λ (g : CodeFn). g.frame) (selected_at p well ranked short routines are f lt)

  calls_at : (f : ℕ) → f < n → calls_of code f ≡ callees n (fn_of c f).code
  calls_at f lt = ap (λ (g : CodeFn). g.calls) (selected_at p well ranked short routines are f lt) ∙ calls_stay c (fn_of c f)

  inside : (f : ℕ) → f < n → f < length code
  inside f lt = let l = long p well ranked short routines are in omega (arith, l, lt)

  holds_frame : (f : ℕ) → f < n → own_bytes (fn_of c f) + 2 * count_pushed (fn_of c f).params ≤ depth f
  holds_frame f lt = let e = frame_at f lt in let l = depths.least f in omega (arith, e, l)

  deeper_call : (f g : ℕ) → f < n → g < n → Names (callees n (fn_of c f).code) g → own_of p f + 2 * count_pushed (fn_of c g).params + 2 + deep g ≤ deep f
  deeper_call f g lt few m =
      let e = frame_at f lt in let h = holds_frame g few in
      let d = depths.calls f g (inside f lt) (subst (λ l. Names l g) (sym (calls_at f lt)) m) in
      omega (arith, e, h, d)

  routine_depth : (r : ℕ) → n ≤ r → r < n + (48 + length c.checks) → 58 ≤ depth r
  routine_depth r le lt =
      let m = are.many in
      let h : ℕ = r - n in
      let few : h < length routines = omega (arith, le, lt, m) in
      let place : n + h ≡ r = omega (arith, le) in
      let e : frame_of code r ≡ 58 = ap (frame_of code) (sym place) ∙ ap (λ (g : CodeFn). g.frame) (routine_stands p well ranked short routines are h few) ∙ are.frames h few in
      let l = depths.least r in
      omega (arith, e, l)

  deeper_help : (f r : ℕ) → f < n → n ≤ r → r < n + (48 + length c.checks) → Names (callees n (fn_of c f).code) r → own_of p f + 60 ≤ deep f
  deeper_help f r lt le few m =
      let e = frame_at f lt in let h = routine_depth r le few in
      let d = depths.calls f r (inside f lt) (subst (λ l. Names l r) (sym (calls_at f lt)) m) in
      omega (arith, e, h, d)

  deeper : (f : ℕ) → f < n → (at : ℕ) (o : Option Mid) → slice_get (fn_of c f).code at ≡ o → IsDeeper c (homes_of p) (own_of p) deep f o
  deeper f lt at (Some (Call g ins outs)) e =
      let fits : FitsProgram c (can p well ranked short routines are).form.gives f (Call g ins outs) =
      element (FitsProgram c (can p well ranked short routines are).form.gives f) (fn_of c f).code at (Call g ins outs) ((can p well ranked short routines are).form.fits f) e in
      deeper_call f g lt fits.0 (call_named n (fn_of c f).code at g ins outs e)
  deeper f lt at (Some (Help h ins outs)) e =
      let fits : FitsProgram c (can p well ranked short routines are).form.gives f (Help h ins outs) =
      element (FitsProgram c (can p well ranked short routines are).form.gives f) (fn_of c f).code at (Help h ins outs) ((can p well ranked short routines are).form.fits f) e in
      let r = help_place n (length c.checks) h (length ins) (length outs) fits in
      deeper_help f (routine_of n h) lt r.0 r.1 (help_named n (fn_of c f).code at h ins outs e)
  deeper f lt at o e = tt

  all_deep : (f : ℕ) → f < n → IsDeep c (homes_of p) (own_of p) deep f
  all_deep f lt = record { least = (let h = holds_frame f lt in omega (arith, h)); calls = λ at. deeper f lt at (slice_get (fn_of c f).code at) refl }

  -- ---- the stack

  boot_inside : p.boot < n
  boot_inside = root_there p p.boot (root_body p well p.boot (boots refl))

  reset_depth : deep p.boot + 2 ≤ depth (reset_place p)
  reset_depth =
      let at = reset_at p well ranked short routines are in
      let e : frame_of code (reset_place p) ≡ 0 = ap (λ (g : CodeFn). g.frame) at in
      let calls : calls_of code (reset_place p) ≡ p.boot ∷ [] = ap (λ (g : CodeFn). g.calls) at in
      let l = long p well ranked short routines are in
      let d = depths.calls (reset_place p) p.boot (omega (arith, l)) (subst (λ xs. Names xs p.boot) (sym calls) (0, omega arith, refl)) in
      omega (arith, e, d)

  line_with : (v : ℕ) → v < 8 → (f : ℕ) → handler_in p.handlers v ≡ Some f → 30 + deep f ≤ depth (reset_place p + (v + 1))
  line_with v lt f e =
      let at = line_stands p well ranked short routines are v lt in
      let frame : frame_of code (reset_place p + (v + 1)) ≡ 28 = ap (λ (g : CodeFn). g.frame) at ∙ ap line_frame e in
      let calls : calls_of code (reset_place p + (v + 1)) ≡ f ∷ [] = ap (λ (g : CodeFn). g.calls) at ∙ ap functions e in
      let l = long p well ranked short routines are in
      let d = depths.calls (reset_place p + (v + 1)) f (omega (arith, l, lt)) (subst (λ xs. Names xs f) (sym calls) (0, omega arith, refl)) in
      omega (arith, frame, d)

  line_depth : (v : ℕ) → v < 8 → (o : Option ℕ) → handler_in p.handlers v ≡ o → 30 ≤ depth (reset_place p + (v + 1))
  line_depth v lt None e =
      let at = ap (λ (g : CodeFn). g.frame) (line_stands p well ranked short routines are v lt) ∙ ap line_frame e in
      let l = depths.least (reset_place p + (v + 1)) in
      omega (arith, at, l)
  line_depth v lt (Some f) e = let d = line_with v lt f e in omega (arith, d)

  module _ (stack : ℕ) (holds : (line : ℕ) → Names (lines_of p) line → depth (reset_place p) + depth line ≤ stack) where
    line_named : (v : ℕ) → v < 8 → Names (lines_of p) (reset_place p + (v + 1))
    line_named v lt = (v, (let l = length-range_with_len (reset_place p + 1) 8 in omega (arith, l, lt)), get_or-range_with_len (reset_place p + 1) 8 v 0 lt ∙ (let e : reset_place p + 1 + v ≡ reset_place p + (v + 1) = omega arith in e))

    -- what the stack leaves for the code of the lines
    abbrev pub left : ℕ
    left = stack - (6 + deep p.boot)

    pub left_is : 2 + deep p.boot + 4 + left ≡ stack
    left_is = let h = holds (reset_place p + (0 + 1)) (line_named 0 (omega arith)) in let r = reset_depth in let l = line_depth 0 (omega arith) (handler_in p.handlers 0) refl in omega (arith, h, r, l)

    pub least_left : 26 ≤ left
    least_left = let h = holds (reset_place p + (0 + 1)) (line_named 0 (omega arith)) in let r = reset_depth in let l = line_depth 0 (omega arith) (handler_in p.handlers 0) refl in omega (arith, h, r, l)

    pub handler_left : (v f : ℕ) → v < 8 → handler_in p.handlers v ≡ Some f → 26 + deep f ≤ left
    handler_left v f lt e = let h = holds (reset_place p + (v + 1)) (line_named v lt) in let r = reset_depth in let l = line_with v lt f e in omega (arith, h, r, l)

-- ---- a handler's line is one of eight

pub line_of_handler : (handlers : List (ℕ × ℕ)) (v f : ℕ) → All (λ h. h.0 < 8) handlers → handler_in handlers v ≡ Some f → v < 8
line_of_handler [] v f all e = absurd (cc)
line_of_handler (h ∷ handlers) v f all e = by (h.0 == v) refl e (line_of_handler handlers v f (All-tail (λ (k : ℕ × ℕ). k.0 < 8) h handlers all))
  where
    by : (b : Bool) → (h.0 == v) ≡ b → cond b (Some h.1) (handler_in handlers v) ≡ Some f → (handler_in handlers v ≡ Some f → v < 8) → v < 8
    by true same e later = let is = eqb-true h.0 v same in let lt = All-head (λ (k : ℕ × ℕ). k.0 < 8) h handlers all in omega (arith, is, lt)
    by false same e later = later e

-- ---- data

pub data_end_even : (m : ℕ) → even (0x1100 + rounded m) ≡ 0x1100 + rounded m
data_end_even m = omega arith

pub data_behind : (m : ℕ) → m ≤ 0x1100 + rounded (m - 0x1100)
data_behind m = omega arith

pub fits_memory : (bytes stack other : ℕ) → bytes + stack ≤ 10240 → other ≡ stack → 0x1100 + bytes + other ≤ 0x3900
fits_memory bytes stack other h e = omega (arith, h, e)

-- ---- the image

module _ (p : Program) (h : IsCompilable p) (routines : List CodeFn) (are : AreRoutines (lowered p).checks routines) (words vectors : List ℕ) (stack : ℕ)
    (placed : IsPlaced (image_code p (all_code (lowered p)) routines) (lines_of p) (reset_place p) words vectors) (fits : FitsRam (image_code p (all_code (lowered p)) routines) (lines_of p) (reset_place p) (data_bytes p) stack) (few : IsCountable (image_code p (all_code (lowered p)) routines)) (of_words : AreOfWords (lowered p).checks) where
  abbrev all : List CodeFn
  all = image_code p (all_code (lowered p)) routines

  good : IsGoodCode all (lines_of p) (reset_place p)
  good = good_code p h.well h.ranked h.short routines are few

  held : HoldsDepths all (lines_of p) (reset_place p) stack
  held = stack_holds_depths all (lines_of p) (reset_place p) stack good.no_cycle fits.is_stack

  abbrev own : ℕ → ℕ
  own f = held.deep f - 2 * count_pushed (fn_of (lowered p) f).params

  abbrev rest : ℕ
  rest = left p h.well h.ranked h.short routines are held.deep held.depths stack held.holds

  rest_is : 2 + own p.boot + 4 + rest ≡ stack
  rest_is = left_is p h.well h.ranked h.short routines are held.deep held.depths stack held.holds

  ordered : IsOrdered p own words vectors (0x1100 + data_bytes p) rest (all_code (lowered p)) routines placed.entries
  ordered = record {
    many = length-map (lowered p).fns (code_of (lowered p));
    items = λ f lt. ap (λ (g : CodeFn). g.items) (get_or-map (code_of (lowered p)) (lowered p).fns f no_fn no_code lt);
    many_routines = are.many;
    operations = are.operations;
    checks = are.of_checks;
    of_words = of_words;
    depths = λ f lt. all_deep p h.well h.ranked h.short routines are held.deep held.depths f lt;
    least_depth = least_left p h.well h.ranked h.short routines are held.deep held.depths stack held.holds;
    handlers = λ v f e. handler_left p h.well h.ranked h.short routines are held.deep held.depths stack held.holds v f (line_of_handler p.handlers v f h.well.lines e) e;
    low_end = omega arith;
    objects = data_behind (objects_end p);
    even_end = data_end_even (objects_end p - 0x1100);
    room = fits_memory (data_bytes p) stack (2 + own p.boot + 4 + rest) fits.fits rest_is;
    leads = placed.leads;
  }

  built : IsBuiltOf p own (image_map words vectors) (0x1100 + data_bytes p) rest all placed.entries
  built = record {
    well = h.well;
    ranked = h.ranked;
    short = h.short;
    measured = h.measured;
    no_tasks = h.no_tasks;
    laid = placed.laid;
    order = placed.order;
    stands = ordered_code_stands p own words vectors (0x1100 + data_bytes p) rest (all_code (lowered p)) routines placed.entries ordered;
  }

  pub code_runs : ProgramImagesRun → (b : BoardState) (rows : List Due) (n : ℕ) → IsWordBoard b → AreWordRows IsWordGiven rows →
      Allowed (source_of p) (pace_of_program p) b (mote (image_map words vectors) b rows) n × (0x3900 ≤ (mote (image_map words vectors) b rows n).least + stack)
  code_runs images_run b rows n word word_rows =
      let r = images_run p own (image_map words vectors) (0x1100 + data_bytes p) rest all placed.entries b rows n built word word_rows in
      (r.0, subst (λ s. 0x3900 ≤ (mote (image_map words vectors) b rows n).least + s) rest_is r.1)
