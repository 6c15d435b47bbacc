-- The code of a program can be laid out: each function, and calls have no cycle.
use Rattle.std.proofs.Common.{◌≡◌, ◌⊎◌, ℕ, zero, suc, ◌+◌, ◌-◌, ◌*◌, ◌^◌, ◌<◌, ◌≤◌, Bool, true, false, cond, nat_lt, List, [], ◌∷◌, ◌++◌, length, map, Option, Some, None, All, refl, sym, ap, subst, ◌∙◌, arith}
use mathlib.Core.Logic.{inl, inr}
use Rattle.std.specs.Prelude.{Contains, slice_get, slice_index, slice_index_or, if◌then◌else◌}
use Rattle.std.specs.List.{AllByRecursion, range_with_len}
use Rattle.std.proofs.lemmas.Bool.{cases_lt}
use Rattle.std.proofs.lemmas.Bool.Decides.{nat_tests}
use Rattle.std.proofs.lemmas.Option.{slice_get-get_or, slice_get_within}
use Rattle.std.proofs.lemmas.List.Elements.{All-contains, All-get_or, recursion_from_All}
use Rattle.std.proofs.lemmas.List.FromFn.{get_or-map-range_with_len, length-map-range_with_len}
use Rattle.std.proofs.lemmas.List.{get_or-map, length-map}
use Rattle.nesc_core.specs.Plain.{Body, Program}
use Rattle.nesc_core.specs.Calls.{HasNoCycle, stmt_calls}
use Rattle.nesc_core.specs.WellFormed.{BeginsContext, IsWellFormed, boots}
use Rattle.core_meaning.specs.SourceOf.{handler_in}
use Rattle.msp_isa.specs.declared.code.CodeFn.{CodeFn}
use Rattle.msp_isa.specs.declared.code.Item.{Item}
use Rattle.msp_isa.specs.Stands.{items_of, no_code}
use Rattle.mid_code.specs.declared.code.Check.{Check}
use Rattle.mid_code.specs.declared.code.MidCode.{MidCode}
use Rattle.mid_code.specs.declared.code.MidFn.{MidFn}
use Rattle.mid_code.specs.Form.{FitsProgram, IsMidCode}
use Rattle.mid_code.specs.Machine.{fn_of, no_fn}
use Rattle.lower_stmt.specs.Bodies.{checks_of, lowered, mid_fn_of}
use Rattle.lower_stmt.specs.Bounds.{calls_in}
use Rattle.lower_stmt.proofs.OwnCalls.{own_calls}
use Rattle.lower_form.specs.Short.{IsShort}
use Rattle.lower_form.proofs.Form.{keeps_form}
use Rattle.lower_form.proofs.Sound.{is_small}
use Rattle.code_pieces.specs.Pieces.{functions, handler_of, reset_of}
use Rattle.lower_pace.proofs.Bodies.{fn_some}
use Rattle.msp_layout.specs.Depth.{HasNoCycle as HasNoCycleOfCode, IsRank, Names, calls_of, frame_of}
use Rattle.msp_layout.specs.Laid.{AreGoodFns, IsGoodCode, IsGoodFn}
use Rattle.msp_runtime.specs.Code.{routine_items}
use Rattle.msp_runtime.specs.Routines.{code_at}
use Rattle.msp_checks.specs.Checks.{check_items}
use Rattle.select_emitter.specs.Code.{CanBeSelected, all_code, called, code_of, fn_items}
use Rattle.program_image.specs.Image.{functions_of}
use Rattle.program_image.specs.Order.{image_code, line_of, lines_of, pieces_of, reset_place}
use Rattle.program_image.proofs.Ordered.{all_long, function_at, line_at, piece_at, routine_at}
use Rattle.program_image.proofs.Roots.{handler_begins, root_body, root_there}
use Rattle.image_code.specs.Code.{IsCountable}
use Rattle.image_code.proofs.Labels.{each_at, each_named}
use Rattle.image_code.proofs.Pieces.{handler_well, reset_well}
use Rattle.image_code.proofs.Selected.{IsLaidWell, called_are, called_there, callees_are, selected_well}

-- the routines of a program: of 48 operations and of its checks, of one frame, and without calls
pub record AreRoutines (checks : List Check) (routines : List CodeFn) : Type 0 where
  pub many : length routines ≡ 48 + length checks
  pub operations : (h : ℕ) → h < 48 → items_of routines h ≡ routine_items (code_at h)
  pub of_checks : (k : ℕ) (check : Check) → slice_get checks k ≡ Some check → items_of routines (48 + k) ≡ check_items check
  pub frames : (h : ℕ) → h < length routines → frame_of routines h ≡ 58
  pub none : (h : ℕ) → calls_of routines h ≡ []
  pub good : (fns h : ℕ) → h < length routines → IsGoodFn fns (items_of routines h) (calls_of routines h)

pub lowered_can_be_selected : (p : Program) → IsWellFormed p → IsShort p → CanBeSelected (lowered p)
lowered_can_be_selected p well short = let s = is_small p well short in record { form = keeps_form p well short; small = s.frames; places = s.places }

-- where a function stands
pub data Stands (p : Program) (routines : List CodeFn) (f : ℕ) : Type 0 where
  selected : f < functions_of p → slice_index_or (image_code p (all_code (lowered p)) routines) f no_code ≡ code_of (lowered p) (fn_of (lowered p) f) → Stands p routines f
  routine : (h : ℕ) → f ≡ functions_of p + h → h < length routines → slice_index_or (image_code p (all_code (lowered p)) routines) f no_code ≡ slice_index_or routines h no_code → Stands p routines f
  at_reset : f ≡ reset_place p → slice_index_or (image_code p (all_code (lowered p)) routines) f no_code ≡ reset_of p.boot → Stands p routines f
  at_line : (v : ℕ) → v < 8 → f ≡ reset_place p + (v + 1) → slice_index_or (image_code p (all_code (lowered p)) routines) f no_code ≡ line_of p v → Stands p routines f

-- what a range names
pub in_range : (s k f : ℕ) → Names (range_with_len s k) f → (v : ℕ) × (v < k) × (f ≡ s + v)
in_range s zero f (i, lt, e) = absurd (omega (arith, lt))
in_range s (suc k) f (zero, lt, e) = (0, omega arith, omega (arith, e))
in_range s (suc k) f (suc i, lt, e) = let r = in_range (s + 1) k f (i, omega (arith, lt), e) in (suc r.0, (let x = r.1 in omega (arith, x)), (let y = r.2 in omega (arith, y)))

module _ (p : Program) (well : IsWellFormed p) (ranked : HasNoCycle p) (short : IsShort p) (routines : List CodeFn) (are : AreRoutines (lowered p).checks routines) where
  abbrev c : MidCode
  c = lowered p

  abbrev code : List CodeFn
  code = image_code p (all_code c) routines

  abbrev n : ℕ
  n = functions_of p

  pub can : CanBeSelected c
  can = lowered_can_be_selected p well short

  many_fns : length (all_code c) ≡ n
  many_fns = length-map c.fns (code_of c)

  pub long : length code ≡ n + (48 + (length c.checks + 9))
  long = let a = all_long p (all_code c) routines in let b = many_fns in let d = are.many in omega (arith, a, b, d)

  pub selected_at : (f : ℕ) → f < n → slice_index_or code f no_code ≡ code_of c (fn_of c f)
  selected_at f lt = function_at p (all_code c) routines f (let b = many_fns in omega (arith, b, lt)) ∙ get_or-map (code_of c) c.fns f no_fn no_code lt

  pub reset_at : slice_index_or code (reset_place p) no_code ≡ reset_of p.boot
  reset_at = ap (λ k. slice_index_or code k no_code) (let b = many_fns in let d = are.many in omega (arith, b, d)) ∙ piece_at p (all_code c) routines 0

  pub line_stands : (v : ℕ) → v < 8 → slice_index_or code (reset_place p + (v + 1)) no_code ≡ line_of p v
  line_stands v lt = ap (λ k. slice_index_or code k no_code) (let b = many_fns in let d = are.many in omega (arith, b, d)) ∙ line_at p (all_code c) routines v lt

  pub routine_stands : (h : ℕ) → h < length routines → slice_index_or code (n + h) no_code ≡ slice_index_or routines h no_code
  routine_stands h lt = ap (λ k. slice_index_or code (k + h) no_code) (sym many_fns) ∙ routine_at p (all_code c) routines h lt

  pub stands : (f : ℕ) → f < length code → Stands p routines f
  stands f lt = by (cases_lt f n) (cases_lt f (reset_place p)) (cases_lt (reset_place p) f)
    where
      by : (f < n) ⊎ (n ≤ f) → (f < reset_place p) ⊎ (reset_place p ≤ f) → (reset_place p < f) ⊎ (f ≤ reset_place p) → Stands p routines f
      by (inl first) b d = selected first (selected_at f first)
      by (inr behind) (inl before) d =
          let m = are.many in
          let at : f ≡ n + (f - n) = omega (arith, behind) in
          let few : f - n < length routines = omega (arith, behind, before, m) in
          routine (f - n) at few (ap (λ k. slice_index_or code k no_code) at ∙ routine_stands (f - n) few)
      by (inr behind) (inr last) (inr le) = let at : f ≡ reset_place p = omega (arith, last, le) in at_reset at (ap (λ k. slice_index_or code k no_code) at ∙ reset_at)
      by (inr behind) (inr last) (inl more) =
          let l = long in
          let at : f ≡ reset_place p + (f - reset_place p - 1 + 1) = omega (arith, more) in
          let few : f - reset_place p - 1 < 8 = omega (arith, more, lt, l) in
          at_line (f - reset_place p - 1) few at (ap (λ k. slice_index_or code k no_code) at ∙ line_stands (f - reset_place p - 1) few)

  -- ---- each function

  boot_there : p.boot < n
  boot_there = root_there p p.boot (root_body p well p.boot (boots refl))

  handler_there : (v f : ℕ) → handler_in p.handlers v ≡ Some f → f < n
  handler_there v f e = root_there p f (root_body p well f (handler_begins p v f e))

  -- a function that stands well, where 32 bits count its bytes
  good_fn : (f : ℕ) → length (items_of code f) < 2 ^ 28 → IsLaidWell (length code) (items_of code f) → ((g : ℕ) → Names (calls_of code f) g → g < length code) → IsGoodFn (length code) (items_of code f) (calls_of code f)
  good_fn f few w calls = record { few = few; each = λ k below. each_at _ (items_of code f) w.each k below; labels = λ k l j at. w.labels k l j at; callees = calls }

  laid_selected : (f : ℕ) → f < n → slice_index_or code f no_code ≡ code_of c (fn_of c f) → IsLaidWell (length code) (items_of code f)
  laid_selected f lt at = let l = long in subst (λ (g : CodeFn). IsLaidWell (length code) g.items) (sym at) (selected_well c can (length code) (omega (arith, l)) f lt)

  laid_reset : (f : ℕ) → slice_index_or code f no_code ≡ reset_of p.boot → IsLaidWell (length code) (items_of code f)
  laid_reset f at =
      let l = long in let b = boot_there in subst (λ (g : CodeFn). IsLaidWell (length code) g.items) (sym at) (reset_well (length code) p.boot (omega (arith, l, b)))

  laid_line : (f v : ℕ) → slice_index_or code f no_code ≡ line_of p v → IsLaidWell (length code) (items_of code f)
  laid_line f v at =
      subst (λ (g : CodeFn). IsLaidWell (length code) g.items) (sym at) (handler_well (length code) (handler_in p.handlers v) (λ g e. let l = long in let b = handler_there v g e in omega (arith, l, b)))

  -- the functions that a function calls are among those of its items
  names_reset : (g : ℕ) → Names (p.boot ∷ []) g → g ≡ p.boot
  names_reset g (zero, lt, e) = sym e
  names_reset g (suc i, lt, e) = absurd (omega (arith, lt))

  names_line : (o : Option ℕ) (g : ℕ) → Names (functions o) g → o ≡ Some g
  names_line None g (i, lt, e) = absurd (omega (arith, lt))
  names_line (Some f) g (zero, lt, e) = ap Some e
  names_line (Some f) g (suc i, lt, e) = absurd (omega (arith, lt))

  names_none : (h g : ℕ) → Names (calls_of routines h) g → ⊥
  names_none h g m = no (subst (λ l. Names l g) (are.none h) m)
    where
      no : Names [] g → ⊥
      no (i, lt, e) = omega (arith, lt)

  callees : (f : ℕ) → Stands p routines f → (g : ℕ) → Names (calls_of code f) g → g < length code
  callees f (selected lt at) g m =
      let w = subst (λ (x : CodeFn). IsLaidWell (length code) x.items) at (laid_selected f lt at) in
      each_named (λ h. h < length code) (called (fn_items c (fn_of c f))) (called_there (length code) (fn_items c (fn_of c f)) w.each) g (subst (λ (x : CodeFn). Names x.calls g) at m)
  callees f (routine h place lt at) g m = absurd (names_none h g (subst (λ (x : CodeFn). Names x.calls g) at m))
  callees f (at_reset place at) g m =
      let e = names_reset g (subst (λ (x : CodeFn). Names x.calls g) at m) in let l = long in let b = boot_there in omega (arith, e, l, b)
  callees f (at_line v lt place at) g m =
      let e = names_line (handler_in p.handlers v) g (subst (λ (x : CodeFn). Names x.calls g) at m) in let l = long in let b = handler_there v g e in omega (arith, l, b)

  good_at : (f : ℕ) → length (items_of code f) < 2 ^ 28 → Stands p routines f → IsGoodFn (length code) (items_of code f) (calls_of code f)
  good_at f few (selected lt at) = good_fn f few (laid_selected f lt at) (callees f (selected lt at))
  good_at f few (routine h place lt at) = subst (λ (g : CodeFn). IsGoodFn (length code) g.items g.calls) (sym at) (are.good (length code) h lt)
  good_at f few (at_reset place at) = good_fn f few (laid_reset f at) (callees f (at_reset place at))
  good_at f few (at_line v lt place at) = good_fn f few (laid_line f v at) (callees f (at_line v lt place at))

  pub good_fns : IsCountable code → AreGoodFns code
  good_fns few f lt = good_at f (few f lt) (stands f lt)

  -- ---- ranks

  -- routines stand below the functions of bodies, and these below the code of reset and of the lines
  abbrev pub rank : ℕ → ℕ
  rank f = if nat_lt f n then suc (ranked.rank f) else (if nat_lt f (reset_place p) then 0 else suc (suc (length p.bodies)))

  rank_of_function : (f : ℕ) → f < n → rank f ≡ suc (ranked.rank f)
  rank_of_function f lt = ap (λ b. cond b (suc (ranked.rank f)) (cond (nat_lt f (reset_place p)) 0 (suc (suc (length p.bodies))))) (let e : nat_lt f n ≡ true = grind (arith, nat_tests) in e)

  rank_of_routine : (f : ℕ) → n ≤ f → f < reset_place p → rank f ≡ 0
  rank_of_routine f le lt =
      ap (λ b. cond b (suc (ranked.rank f)) (cond (nat_lt f (reset_place p)) 0 (suc (suc (length p.bodies))))) (let e : nat_lt f n ≡ false = grind (arith, nat_tests) in e)
      ∙ ap (λ b. cond b 0 (suc (suc (length p.bodies)))) (let e : nat_lt f (reset_place p) ≡ true = grind (arith, nat_tests) in e)

  pub rank_of_piece : (f : ℕ) → reset_place p ≤ f → rank f ≡ suc (suc (length p.bodies))
  rank_of_piece f le =
      ap (λ b. cond b (suc (ranked.rank f)) (cond (nat_lt f (reset_place p)) 0 (suc (suc (length p.bodies))))) (let e : nat_lt f n ≡ false = not_below f n (omega (arith, le)) in e)
      ∙ ap (λ b. cond b 0 (suc (suc (length p.bodies)))) (not_below f (reset_place p) le)
    where
      not_below : (a b : ℕ) → b ≤ a → nat_lt a b ≡ false
      not_below a b h = grind (arith, nat_tests)

  body_there : (f : ℕ) → f < n → (b : Body) × (slice_get p.bodies f ≡ Some b)
  body_there f lt = by (slice_get p.bodies f) refl
    where
      by : (o : Option Body) → slice_get p.bodies f ≡ o → (b : Body) × (slice_get p.bodies f ≡ Some b)
      by (Some b) e = (b, e)
      by None e = absurd (none p.bodies f (let m = length-map p.bodies (mid_fn_of p (checks_of p)) in omega (arith, m, lt)) e)
        where
          none : (bs : List Body) (k : ℕ) → k < length bs → slice_get bs k ≡ None → ⊥
          none [] k h e = omega (arith, h)
          none (b ∷ bs) zero h e = cc
          none (b ∷ bs) (suc k) h e = none bs k (omega (arith, h)) e

  pub below_top : (f : ℕ) → f < n → ranked.rank f < length p.bodies
  below_top f lt = let b = body_there f lt in ranked.low f b.0 b.1

  all_map : {A : Type 0} (P Q : A → Type 0) → ((x : A) → P x → Q x) → (xs : List A) → AllByRecursion P xs → AllByRecursion Q xs
  all_map P Q g [] h = tt
  all_map P Q g (x ∷ xs) h = (g x h.0, all_map P Q g xs h.1)

  calls_fall : (f : ℕ) → f < n → AllByRecursion (λ g. rank g < rank f) (called (fn_items c (fn_of c f)))
  calls_fall f lt =
      let b = body_there f lt in
      let fn : MidFn = mid_fn_of p (checks_of p) b.0 in
      let is : fn_of c f ≡ fn = fn_some (mid_fn_of p (checks_of p)) p.bodies f b.0 no_fn b.1 in
      let here = rank_of_function f lt in
      let falls : AllByRecursion (λ g. ranked.rank g < ranked.rank f) (calls_in fn.code) =
      all_map (Contains (stmt_calls b.0.code)) (λ g. ranked.rank g < ranked.rank f) (λ g m. All-contains (λ h. ranked.rank h < ranked.rank f) (stmt_calls b.0.code) g (ranked.falls f b.0 b.1) m)
      (calls_in fn.code) (recursion_from_All (Contains (stmt_calls b.0.code)) (calls_in fn.code) (own_calls p (checks_of p) b.0)) in
      let low : AllByRecursion (λ g. g < length c.fns → rank g < rank f) (calls_in (fn_of c f).code) =
      subst (λ (x : MidFn). AllByRecursion (λ g. g < length c.fns → rank g < rank f) (calls_in x.code)) (sym is)
      (all_map (λ g. ranked.rank g < ranked.rank f) (λ g. g < length c.fns → rank g < rank f) (λ g m few. let r = rank_of_function g few in omega (arith, r, m, here)) (calls_in fn.code) falls) in
      called_are (λ g. rank g < rank f) c (fn_of c f)
      (callees_are (λ g. rank g < rank f) c can.form.gives f (λ r le few. let e = rank_of_routine r le (omega (arith, few)) in omega (arith, e, here)) (fn_of c f).code
      (recursion_from_All (FitsProgram c can.form.gives f) (fn_of c f).code (can.form.fits f)) low)

  ranks_fall : (f : ℕ) → Stands p routines f → (g : ℕ) → Names (calls_of code f) g → rank g < rank f
  ranks_fall f (selected lt at) g m = each_named (λ h. rank h < rank f) (called (fn_items c (fn_of c f))) (calls_fall f lt) g (subst (λ (x : CodeFn). Names x.calls g) at m)
  ranks_fall f (routine h place lt at) g m = absurd (names_none h g (subst (λ (x : CodeFn). Names x.calls g) at m))
  ranks_fall f (at_reset place at) g m =
      let e = names_reset g (subst (λ (x : CodeFn). Names x.calls g) at m) in
      below_piece f g (omega (arith, place)) (let b = boot_there in omega (arith, e, b))
    where
      below_piece : (f g : ℕ) → reset_place p ≤ f → g < n → rank g < rank f
      below_piece f g le lt = let a = rank_of_function g lt in let b = below_top g lt in let d = rank_of_piece f le in omega (arith, a, b, d)
  ranks_fall f (at_line v lt place at) g m =
      let e = names_line (handler_in p.handlers v) g (subst (λ (x : CodeFn). Names x.calls g) at m) in
      below_piece f g (omega (arith, place)) (handler_there v g e)
    where
      below_piece : (f g : ℕ) → reset_place p ≤ f → g < n → rank g < rank f
      below_piece f g le lt = let a = rank_of_function g lt in let b = below_top g lt in let d = rank_of_piece f le in omega (arith, a, b, d)

  pub ranks : IsRank code rank
  ranks f g lt m = ranks_fall f (stands f lt) g m

  -- ---- all code

  pub line_named : (f : ℕ) → Names (lines_of p) f → (v : ℕ) × (v < 8) × (f ≡ reset_place p + 1 + v)
  line_named f m = in_range (reset_place p + 1) 8 f m

  pub good_code : IsCountable code → IsGoodCode code (lines_of p) (reset_place p)
  good_code few = record {
    fns = good_fns few;
    no_cycle = (rank, ranks);
    line_fns = λ f m. let r = line_named f m in let lt = r.1 in let e = r.2 in let l = long in omega (arith, lt, e, l);
    reset_fn = let l = long in omega (arith, l);
  }
