-- Where the code of a program with tasks is laid out and fits, the mote does what the program does.
use Rattle.std.proofs.Common.{◌≡◌, ℕ, zero, suc, ◌+◌, ◌-◌, ◌*◌, ◌<◌, ◌≤◌, List, [], ◌∷◌, length, Option, Some, None, refl, sym, ap, subst, ◌∙◌, arith}
use Rattle.std.specs.Prelude.{slice_get}
use Rattle.std.proofs.lemmas.Option.{same_Some}
use Rattle.std.proofs.lemmas.List.{get_or-map, length-map}
use Rattle.std.proofs.lemmas.List.FromFn.{get_or-range_with_len, length-range_with_len}
use Rattle.mote_devices.specs.declared.state.BoardState.{BoardState}
use Rattle.mote_devices.specs.WordBoards.{AreWordRows, IsWordBoard, IsWordGiven}
use Rattle.mote_devices.specs.declared.shown.Due.{Due}
use Rattle.nesc_core.specs.Plain.{Program}
use Rattle.nesc_core.specs.Weights.{objects_end, pace_of_program}
use Rattle.core_meaning.specs.SourceOf.{handler_in, source_of}
use Rattle.task_queue.specs.Kernel.{kernel}
use Rattle.mote_bus.specs.Mote.{mote}
use Rattle.preempt_core.specs.Allowed.{Allowed}
use Rattle.msp_isa.specs.Image.{image_map}
use Rattle.msp_isa.specs.declared.code.CodeFn.{CodeFn}
use Rattle.msp_isa.specs.Stands.{no_code}
use Rattle.mid_code.specs.declared.code.MidCode.{MidCode}
use Rattle.mid_code.specs.declared.instr.Mid.{Mid}
use Rattle.mid_code.specs.declared.instr.Mid.TheVariants.{Call, Help}
use Rattle.mid_code.specs.Form.{FitsProgram}
use Rattle.mid_code.specs.Machine.{fn_of, no_fn}
use Rattle.lower_stmt.specs.Bodies.{lowered}
use Rattle.lower_pace.specs.Pace.{own_of}
use Rattle.code_pieces.specs.Pieces.{functions, line_frame}
use Rattle.msp_select.specs.Frames.{count_pushed, own_bytes}
use Rattle.msp_select.specs.Select.{routine_of}
use Rattle.msp_select.specs.Sound.{IsDeep, IsDeeper}
use Rattle.msp_layout.specs.Deep.{AreDepths, HoldsDepths}
use Rattle.msp_layout.specs.Depth.{HasNoCycle, Names, calls_of, frame_of}
use Rattle.msp_layout.specs.Laid.{FitsRam, IsPlaced}
use Rattle.msp_layout.proofs.ByRank.{stack_holds_depths}
use Rattle.msp_checks.specs.Written.{AreOfWords}
use Rattle.msp_routines.specs.Routines.{routine_fns}
use Rattle.select_emitter.specs.Code.{all_code, code_of}
use Rattle.select_emitter.specs.Laws.{callees}
use Rattle.select_emitter.proofs.Called.{calls_stay}
use Rattle.program_image.specs.Image.{functions_of, homes_of}
use Rattle.program_image.specs.Order.{AreFunctions}
use Rattle.program_image.proofs.Roots.{element}
use Rattle.image_code.proofs.Good.{AreRoutines}
use Rattle.image_code.proofs.Running.{data_behind, data_end_even, fits_memory, line_of_handler}
use Rattle.image_code.proofs.Selected.{call_named, help_named, help_place}
use Rattle.image_code.proofs.Whole.{are_routines}
use Rattle.task_image.specs.Lean.{IsLeanBuiltOf, LeanImagesRun, limits_of}
use Rattle.task_image.specs.Order.{IsOrdered, TaskCodeStands, lines_of, lone_place, loop_place, task_image_code}
use Rattle.task_code.specs.Code.{data_bytes}
use Rattle.task_code.specs.Laws.{IsCompilable, LaidCodeRuns}
use Rattle.task_code.proofs.Good.{good_code}
use Rattle.task_code.proofs.Places.{can, line_stands, long, loop_stands, routine_stands, selected_at}

-- ---- what a list names

named_behind : (x : ℕ) (xs : List ℕ) (g : ℕ) → Names xs g → Names (x ∷ xs) g
named_behind x xs g (i, lt, e) = (suc i, omega (arith, lt), e)

named_at : (xs : List ℕ) (k g : ℕ) → slice_get xs k ≡ Some g → Names xs g
named_at [] k g e = absurd (cc)
named_at (x ∷ xs) zero g e = (0, omega arith, same_Some x g e)
named_at (x ∷ xs) (suc k) g e = named_behind x xs g (named_at xs k g e)

module _ (p : Program) (h : IsCompilable p) (routines : List CodeFn) (are : AreRoutines (lowered (kernel p).program).checks routines) (depth : ℕ → ℕ) (depths : AreDepths (task_image_code p (all_code (lowered (kernel p).program)) routines) depth) where
  abbrev K : Program
  K = (kernel p).program

  abbrev c : MidCode
  c = lowered K

  abbrev code : List CodeFn
  code = task_image_code p (all_code c) routines

  abbrev n : ℕ
  n = functions_of K

  -- a function's depth below its return address: what was pushed for it lies above
  abbrev deep : ℕ → ℕ
  deep f = depth f - 2 * count_pushed (fn_of c f).params

  frame_at : (f : ℕ) → f < n → frame_of code f ≡ own_bytes (fn_of c f) + 2 * count_pushed (fn_of c f).params
  frame_at f lt = ap (λ (g : CodeFn). g.frame) (selected_at p h routines are f lt)

  calls_at : (f : ℕ) → f < n → calls_of code f ≡ callees n (fn_of c f).code
  calls_at f lt = ap (λ (g : CodeFn). g.calls) (selected_at p h routines are f lt) ∙ calls_stay c (fn_of c f)

  inside : (f : ℕ) → f < n → f < length code
  inside f lt = let l = long p h routines are in omega (arith, l, lt)

  holds_frame : (f : ℕ) → f < n → own_bytes (fn_of c f) + 2 * count_pushed (fn_of c f).params ≤ depth f
  holds_frame f lt = let e = frame_at f lt in let l = depths.least f in omega (arith, e, l)

  deeper_call : (f g : ℕ) → f < n → g < n → Names (callees n (fn_of c f).code) g → own_of K f + 2 * count_pushed (fn_of c g).params + 2 + deep g ≤ deep f
  deeper_call f g lt few m =
      let e = frame_at f lt in let own = holds_frame g few in
      let d = depths.calls f g (inside f lt) (subst (λ l. Names l g) (sym (calls_at f lt)) m) in
      omega (arith, e, own, d)

  routine_depth : (r : ℕ) → n ≤ r → r < n + (48 + length c.checks) → 58 ≤ depth r
  routine_depth r le lt =
      let m = are.many in
      let k : ℕ = r - n in
      let few : k < length routines = omega (arith, le, lt, m) in
      let place : n + k ≡ r = omega (arith, le) in
      let e : frame_of code r ≡ 58 = ap (frame_of code) (sym place) ∙ ap (λ (g : CodeFn). g.frame) (routine_stands p h routines are k few) ∙ are.frames k few in
      let l = depths.least r in
      omega (arith, e, l)

  deeper_help : (f r : ℕ) → f < n → n ≤ r → r < n + (48 + length c.checks) → Names (callees n (fn_of c f).code) r → own_of K f + 60 ≤ deep f
  deeper_help f r lt le few m =
      let e = frame_at f lt in let own = routine_depth r le few in
      let d = depths.calls f r (inside f lt) (subst (λ l. Names l r) (sym (calls_at f lt)) m) in
      omega (arith, e, own, d)

  deeper : (f : ℕ) → f < n → (at : ℕ) (o : Option Mid) → slice_get (fn_of c f).code at ≡ o → IsDeeper c (homes_of K) (own_of K) deep f o
  deeper f lt at (Some (Call g ins outs)) e =
      let fits : FitsProgram c (can p h routines are).form.gives f (Call g ins outs) =
      element (FitsProgram c (can p h routines are).form.gives f) (fn_of c f).code at (Call g ins outs) ((can p h routines are).form.fits f) e in
      deeper_call f g lt fits.0 (call_named n (fn_of c f).code at g ins outs e)
  deeper f lt at (Some (Help r ins outs)) e =
      let fits : FitsProgram c (can p h routines are).form.gives f (Help r ins outs) =
      element (FitsProgram c (can p h routines are).form.gives f) (fn_of c f).code at (Help r ins outs) ((can p h routines are).form.fits f) e in
      let place = help_place n (length c.checks) r (length ins) (length outs) fits in
      deeper_help f (routine_of n r) lt place.0 place.1 (help_named n (fn_of c f).code at r ins outs e)
  deeper f lt at o e = tt

  all_deep : (f : ℕ) → f < n → IsDeep c (homes_of K) (own_of K) deep f
  all_deep f lt = record { least = (let own = holds_frame f lt in omega (arith, own)); calls = λ at. deeper f lt at (slice_get (fn_of c f).code at) refl }

  -- ---- the stack

  loop_calls : (g : ℕ) → Names (p.boot ∷ (kernel p).pop ∷ lone_place p ∷ p.tasks) g → deep g + 2 ≤ depth (loop_place p)
  loop_calls g m =
      let at = loop_stands p h routines are in
      let e : frame_of code (loop_place p) ≡ 0 = ap (λ (x : CodeFn). x.frame) at in
      let calls : calls_of code (loop_place p) ≡ p.boot ∷ (kernel p).pop ∷ lone_place p ∷ p.tasks = ap (λ (x : CodeFn). x.calls) at in
      let l = long p h routines are in
      let d = depths.calls (loop_place p) g (omega (arith, l)) (subst (λ xs. Names xs g) (sym calls) m) in
      omega (arith, e, d)

  boot_below : deep p.boot + 2 ≤ depth (loop_place p)
  boot_below = loop_calls p.boot (0, omega arith, refl)

  pop_below : deep (kernel p).pop + 2 ≤ depth (loop_place p)
  pop_below = loop_calls (kernel p).pop (1, omega arith, refl)

  task_below : (k f : ℕ) → slice_get p.tasks k ≡ Some f → deep f + 2 ≤ depth (loop_place p)
  task_below k f e =
      loop_calls f
      (named_behind p.boot ((kernel p).pop ∷ lone_place p ∷ p.tasks) f (named_behind (kernel p).pop (lone_place p ∷ p.tasks) f (named_behind (lone_place p) p.tasks f (named_at p.tasks k f e))))

  line_with : (v : ℕ) → v < 8 → (f : ℕ) → handler_in p.handlers v ≡ Some f → 30 + deep f ≤ depth (loop_place p + (v + 1))
  line_with v lt f e =
      let at = line_stands p h routines are v lt in
      let frame : frame_of code (loop_place p + (v + 1)) ≡ 28 = ap (λ (g : CodeFn). g.frame) at ∙ ap line_frame e in
      let calls : calls_of code (loop_place p + (v + 1)) ≡ f ∷ [] = ap (λ (g : CodeFn). g.calls) at ∙ ap functions e in
      let l = long p h routines are in
      let d = depths.calls (loop_place p + (v + 1)) f (omega (arith, l, lt)) (subst (λ xs. Names xs f) (sym calls) (0, omega arith, refl)) in
      omega (arith, frame, d)

  line_depth : (v : ℕ) → v < 8 → (o : Option ℕ) → handler_in p.handlers v ≡ o → 30 ≤ depth (loop_place p + (v + 1))
  line_depth v lt None e =
      let at = ap (λ (g : CodeFn). g.frame) (line_stands p h routines are v lt) ∙ ap line_frame e in
      let l = depths.least (loop_place p + (v + 1)) in
      omega (arith, at, l)
  line_depth v lt (Some f) e = let d = line_with v lt f e in omega (arith, d)

  module _ (stack : ℕ) (holds : (line : ℕ) → Names (lines_of p) line → depth (loop_place p) + depth line ≤ stack) where
    line_named : (v : ℕ) → v < 8 → Names (lines_of p) (loop_place p + (v + 1))
    line_named v lt = (v, (let l = length-range_with_len (loop_place p + 1) 8 in omega (arith, l, lt)), get_or-range_with_len (loop_place p + 1) 8 v 0 lt ∙ (let e : loop_place p + 1 + v ≡ loop_place p + (v + 1) = omega arith in e))

    -- what the loop's stack leaves for what it calls, and what the stack leaves for the code of the lines
    abbrev pub base : ℕ
    base = depth (loop_place p) - 2

    abbrev pub left : ℕ
    left = stack - (6 + base)

    -- the first line has a stack of its own
    first_line : depth (loop_place p) + 30 ≤ stack
    first_line = let m = holds (loop_place p + (0 + 1)) (line_named 0 (omega arith)) in let l = line_depth 0 (omega arith) (handler_in p.handlers 0) refl in omega (arith, m, l)

    pub left_is : 2 + base + 4 + left ≡ stack
    left_is = let m = first_line in let r = boot_below in omega (arith, m, r)

    pub least_left : 26 ≤ left
    least_left = let m = first_line in let r = boot_below in omega (arith, m, r)

    pub boot_left : deep p.boot ≤ base
    boot_left = let r = boot_below in omega (arith, r)

    pub pop_left : deep (kernel p).pop ≤ base
    pop_left = let r = pop_below in omega (arith, r)

    pub task_left : (k f : ℕ) → slice_get p.tasks k ≡ Some f → deep f ≤ base
    task_left k f e = let r = task_below k f e in omega (arith, r)

    pub handler_left : (v f : ℕ) → v < 8 → handler_in p.handlers v ≡ Some f → 26 + deep f ≤ left
    handler_left v f lt e = let m = holds (loop_place p + (v + 1)) (line_named v lt) in let r = boot_below in let l = line_with v lt f e in omega (arith, m, r, l)

-- ---- the image

module _ (p : Program) (h : IsCompilable p) (routines : List CodeFn) (are : AreRoutines (lowered (kernel p).program).checks routines) (words vectors : List ℕ) (stack : ℕ)
    (placed : IsPlaced (task_image_code p (all_code (lowered (kernel p).program)) routines) (lines_of p) (loop_place p) words vectors) (fits : FitsRam (task_image_code p (all_code (lowered (kernel p).program)) routines) (lines_of p) (loop_place p) (data_bytes p) stack) (no_cycle : HasNoCycle (task_image_code p (all_code (lowered (kernel p).program)) routines)) (of_words : AreOfWords (lowered (kernel p).program).checks) where
  abbrev all : List CodeFn
  all = task_image_code p (all_code (lowered (kernel p).program)) routines

  held : HoldsDepths all (lines_of p) (loop_place p) stack
  held = stack_holds_depths all (lines_of p) (loop_place p) stack no_cycle fits.is_stack

  abbrev own : ℕ → ℕ
  own f = held.deep f - 2 * count_pushed (fn_of (lowered (kernel p).program) f).params

  abbrev base_depth : ℕ
  base_depth = base p h routines are held.deep held.depths stack held.holds

  abbrev rest : ℕ
  rest = left p h routines are held.deep held.depths stack held.holds

  rest_is : 2 + base_depth + 4 + rest ≡ stack
  rest_is = left_is p h routines are held.deep held.depths stack held.holds

  abbrev data_end : ℕ
  data_end = 0x1100 + data_bytes p

  functions_are : AreFunctions (kernel p).program own data_end (all_code (lowered (kernel p).program)) routines
  functions_are = record {
    many = length-map (lowered (kernel p).program).fns (code_of (lowered (kernel p).program));
    items = λ f lt. ap (λ (g : CodeFn). g.items) (get_or-map (code_of (lowered (kernel p).program)) (lowered (kernel p).program).fns f no_fn no_code lt);
    many_routines = are.many;
    operations = are.operations;
    checks = are.of_checks;
    of_words = of_words;
    depths = λ f lt. all_deep p h routines are held.deep held.depths f lt;
    low_end = omega arith;
    objects = data_behind (objects_end (kernel p).program);
  }

  ordered : IsOrdered p (limits_of p base_depth rest) own words vectors data_end (all_code (lowered (kernel p).program)) routines placed.entries
  ordered = record {
    lowered_code = functions_are;
    boot_depth = boot_left p h routines are held.deep held.depths stack held.holds;
    pop_depth = pop_left p h routines are held.deep held.depths stack held.holds;
    task_depths = λ k f e. task_left p h routines are held.deep held.depths stack held.holds k f e;
    least_depth = least_left p h routines are held.deep held.depths stack held.holds;
    handlers = λ v f e. handler_left p h routines are held.deep held.depths stack held.holds v f (line_of_handler p.handlers v f h.well.lines e) e;
    even_end = data_end_even (objects_end (kernel p).program - 0x1100);
    room = fits_memory (data_bytes p) stack (2 + base_depth + 4 + rest) fits.fits rest_is;
    leads = placed.leads;
  }

  built : TaskCodeStands → IsLeanBuiltOf p base_depth rest own (image_map words vectors) data_end (lone_place p) all placed.entries
  built stand = record {
    well = h.well;
    ranked = h.ranked;
    fits = h.fits;
    lean = h.lean;
    kernel_well = h.kernel_well;
    short = h.short;
    laid = placed.laid;
    order = placed.order;
    stands = stand p (limits_of p base_depth rest) own words vectors data_end (all_code (lowered (kernel p).program)) routines placed.entries ordered;
  }

  pub code_runs : TaskCodeStands → LeanImagesRun → (b : BoardState) (rows : List Due) (n : ℕ) → IsWordBoard b → AreWordRows IsWordGiven rows →
      Allowed (source_of p) (pace_of_program p) b (mote (image_map words vectors) b rows) n × (0x3900 ≤ (mote (image_map words vectors) b rows n).least + stack)
  code_runs stand images_run b rows n word word_rows =
      let r = images_run p base_depth rest own (image_map words vectors) data_end (lone_place p) all placed.entries b rows n (built stand) word word_rows in
      (r.0, subst (λ s. 0x3900 ≤ (mote (image_map words vectors) b rows n).least + s) rest_is r.1)

pub laid_code_runs : TaskCodeStands → LeanImagesRun → LaidCodeRuns
laid_code_runs stand images_run p words vectors stack h few can placed fits = λ b rows n word word_rows.
    let routines : List CodeFn = routine_fns (lowered (kernel p).program).checks in
    let are : AreRoutines (lowered (kernel p).program).checks routines = are_routines (lowered (kernel p).program).checks can.few can.words in
    code_runs p h routines are words vectors stack placed fits (good_code p h routines are few).no_cycle can.words stand images_run b rows n word word_rows
