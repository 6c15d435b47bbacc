-- The code of a program with tasks can be laid out: each function, and calls have no cycle.
use Rattle.std.proofs.Common.{◌≡◌, ◌⊎◌, ℕ, zero, suc, ◌+◌, ◌^◌, ◌<◌, ◌≤◌, true, false, cond, nat_lt, List, [], ◌∷◌, length, Option, Some, None, refl, sym, ap, subst, ◌∙◌, arith}
use mathlib.Core.Logic.{inl, inr}
use Rattle.std.specs.Prelude.{slice_get, slice_index_or, if◌then◌else◌}
use Rattle.std.specs.List.{AllByRecursion}
use Rattle.std.proofs.lemmas.Bool.{cases_lt}
use Rattle.std.proofs.lemmas.Bool.Decides.{nat_tests}
use Rattle.nesc_core.specs.Plain.{Program}
use Rattle.nesc_core.specs.Calls.{HasNoCycle}
use Rattle.core_meaning.specs.SourceOf.{handler_in}
use Rattle.task_queue.specs.Kernel.{kernel}
use Rattle.kernel_laws.proofs.Cycles.{kernel_has_no_cycle}
use Rattle.msp_isa.specs.declared.code.CodeFn.{CodeFn}
use Rattle.msp_isa.specs.Stands.{items_of, no_code}
use Rattle.mid_code.specs.declared.code.MidCode.{MidCode}
use Rattle.mid_code.specs.Machine.{fn_of}
use Rattle.lower_stmt.specs.Bodies.{lowered}
use Rattle.code_pieces.specs.Pieces.{functions}
use Rattle.msp_layout.specs.Depth.{IsRank, Names, calls_of}
use Rattle.msp_layout.specs.Laid.{AreGoodFns, IsGoodCode, IsGoodFn}
use Rattle.msp_routines.specs.Routines.{routine_fns}
use Rattle.select_emitter.specs.Code.{all_code, called, code_of, fn_items}
use Rattle.task_pieces.specs.Loop.{loop_of}
use Rattle.program_image.specs.Image.{functions_of}
use Rattle.program_image.specs.Order.{image_code, line_of, reset_place}
use Rattle.image_code.specs.Code.{IsCountable}
use Rattle.image_code.proofs.Good.{AreRoutines, in_range}
use Rattle.image_code.proofs.Good as plain
use Rattle.image_code.proofs.Labels.{each_at, each_named}
use Rattle.image_code.proofs.Pieces.{handler_well}
use Rattle.image_code.proofs.Selected.{IsLaidWell, called_there, selected_well}
use Rattle.image_code.proofs.Whole.{are_routines}
use Rattle.task_image.specs.Order.{lines_of, lone, lone_place, loop_place, task_image_code}
use Rattle.task_code.specs.Laws.{CodeCanBeLaid, IsCompilable}
use Rattle.task_code.proofs.Pieces.{lone_well, loop_well}
use Rattle.task_code.proofs.Places.{Stands, at_line, at_lone, at_loop, routine, selected}
use Rattle.task_code.proofs.Places as places

-- ---- lists of functions

by_places : (P : ℕ → Type 0) (xs : List ℕ) → ((k x : ℕ) → slice_get xs k ≡ Some x → P x) → AllByRecursion P xs
by_places P [] h = tt
by_places P (x ∷ xs) h = (h zero x refl, by_places P xs (λ k y e. h (suc k) y e))

found : (o : Option ℕ) → AllByRecursion (λ f. o ≡ Some f) (functions o)
found None = tt
found (Some f) = (refl, tt)

names_nothing : (xs : List ℕ) → xs ≡ [] → (x : ℕ) → Names xs x → ⊥
names_nothing xs none x m = each_named (λ (y : ℕ). ⊥) xs (subst (AllByRecursion (λ (y : ℕ). ⊥)) (sym none) tt) x m

-- ---- numbers by place

before : (f end a b : ℕ) → f < end → cond (nat_lt f end) a b ≡ a
before f end a b lt = ap (λ t. cond t a b) (let e : nat_lt f end ≡ true = grind (arith, nat_tests) in e)

behind : (f end a b : ℕ) → end ≤ f → cond (nat_lt f end) a b ≡ b
behind f end a b le = ap (λ t. cond t a b) (let e : nat_lt f end ≡ false = grind (arith, nat_tests) in e)

same_less : (a b x y : ℕ) → x ≡ a → y ≡ b → a < b → x < y
same_less a b x y e d lt = omega (arith, e, d, lt)

below_next : (a top x y : ℕ) → x ≡ a → y ≡ suc top → a ≤ top → x < y
below_next a top x y e d le = omega (arith, e, d, le)

module _ (p : Program) (h : IsCompilable p) (routines : List CodeFn) (are : AreRoutines (lowered (kernel p).program).checks routines) where
  abbrev K : Program
  K = (kernel p).program

  abbrev c : MidCode
  c = lowered K

  abbrev code : List CodeFn
  code = task_image_code p (all_code c) routines

  abbrev n : ℕ
  n = functions_of K

  long : length code ≡ n + (48 + (length c.checks + 10))
  long = places.long p h routines are

  in_code : (g : ℕ) → g < lone_place p + 10 → g < length code
  in_code g lt = let l = long in omega (arith, l, lt)

  -- ---- what functions call

  -- functions of bodies and routines
  selected_calls : (f : ℕ) → f < n → (g : ℕ) → Names (code_of c (fn_of c f)).calls g → g < lone_place p
  selected_calls f lt g m =
      let w = selected_well c (places.can p h routines are) (lone_place p) (omega arith) f lt in
      each_named (λ k. k < lone_place p) (called (fn_items c (fn_of c f))) (called_there (lone_place p) (fn_items c (fn_of c f)) w.each) g m

  -- functions of bodies, and the lone RET
  loop_calls : (P : ℕ → Type 0) → ((g : ℕ) → g < n → P g) → P (lone_place p) → (g : ℕ) → Names (loop_of p.boot (kernel p).pop (lone_place p) p.tasks).calls g → P g
  loop_calls P body of_lone g m =
      each_named P (p.boot ∷ (kernel p).pop ∷ lone_place p ∷ p.tasks) (
        body p.boot (places.boot_there p h routines are),
        (body (kernel p).pop (places.pop_there p h routines are), (of_lone, by_places P p.tasks (λ k f e. body f (places.task_there p h routines are k f e)))),
      )
      g m

  line_calls : (v g : ℕ) → Names (line_of K v).calls g → g < n
  line_calls v g m =
      places.handler_there p h routines are v g
      (each_named (λ f. handler_in p.handlers v ≡ Some f) (functions (handler_in p.handlers v)) (found (handler_in p.handlers v)) g m)

  callees : (f : ℕ) → Stands p routines f → (g : ℕ) → Names (calls_of code f) g → g < length code
  callees f (selected lt at) g m = let few = selected_calls f lt g (subst (λ (x : CodeFn). Names x.calls g) at m) in in_code g (omega (arith, few))
  callees f (routine r place lt at) g m = absurd (names_nothing (calls_of routines r) (are.none r) g (subst (λ (x : CodeFn). Names x.calls g) at m))
  callees f (at_lone place at) g m = absurd (names_nothing [] refl g (subst (λ (x : CodeFn). Names x.calls g) at m))
  callees f (at_loop place at) g m =
      loop_calls (λ k. k < length code) (λ k lt. in_code k (omega (arith, lt))) (in_code (lone_place p) (omega arith)) g (subst (λ (x : CodeFn). Names x.calls g) at m)
  callees f (at_line v lt place at) g m = let few = line_calls v g (subst (λ (x : CodeFn). Names x.calls g) at m) in in_code g (omega (arith, few))

  -- ---- each function

  -- one that stands well, where 32 bits count its bytes
  good_fn : (f : ℕ) (x : CodeFn) → slice_index_or code f no_code ≡ x → length (items_of code f) < 2 ^ 28 → IsLaidWell (length code) x.items → Stands p routines f →
      IsGoodFn (length code) (items_of code f) (calls_of code f)
  good_fn f x at few well stands =
      let w = subst (λ (y : CodeFn). IsLaidWell (length code) y.items) (sym at) well in
      record { few = few; each = λ k below. each_at _ (items_of code f) w.each k below; labels = λ k l j is. w.labels k l j is; callees = callees f stands }

  selected_there : (f : ℕ) → f < n → IsLaidWell (length code) (code_of c (fn_of c f)).items
  selected_there f lt = let l = long in selected_well c (places.can p h routines are) (length code) (omega (arith, l)) f lt

  loop_there : IsLaidWell (length code) (loop_of p.boot (kernel p).pop (lone_place p) p.tasks).items
  loop_there =
      let body : (g : ℕ) → g < n → g < length code = λ g lt. in_code g (omega (arith, lt)) in
      loop_well (length code) p.boot (kernel p).pop (lone_place p) p.tasks (body p.boot (places.boot_there p h routines are)) (body (kernel p).pop (places.pop_there p h routines are))
      (in_code (lone_place p) (omega arith)) (by_places (λ g. g < length code) p.tasks (λ k f e. body f (places.task_there p h routines are k f e)))

  line_there : (v : ℕ) → IsLaidWell (length code) (line_of K v).items
  line_there v = handler_well (length code) (handler_in p.handlers v) (λ g e. let lt = places.handler_there p h routines are v g e in in_code g (omega (arith, lt)))

  good_at : (f : ℕ) → length (items_of code f) < 2 ^ 28 → Stands p routines f → IsGoodFn (length code) (items_of code f) (calls_of code f)
  good_at f few (selected lt at) = good_fn f (code_of c (fn_of c f)) at few (selected_there f lt) (selected lt at)
  good_at f few (routine r place lt at) = subst (λ (x : CodeFn). IsGoodFn (length code) x.items x.calls) (sym at) (are.good (length code) r lt)
  good_at f few (at_lone place at) = good_fn f lone at few (lone_well (length code)) (at_lone place at)
  good_at f few (at_loop place at) = good_fn f (loop_of p.boot (kernel p).pop (lone_place p) p.tasks) at few loop_there (at_loop place at)
  good_at f few (at_line v lt place at) = good_fn f (line_of K v) at few (line_there v) (at_line v lt place at)

  good_fns : IsCountable code → AreGoodFns code
  good_fns few f lt = good_at f (few f lt) (places.stands p h routines are f lt)

  -- ---- ranks

  ranked : HasNoCycle K
  ranked = kernel_has_no_cycle p h.ranked

  -- those of the code of the kernel's program without tasks, where bodies stand below reset
  abbrev plain_rank : ℕ → ℕ
  plain_rank f = plain.rank K h.kernel_well ranked h.short routines are f

  abbrev top : ℕ
  top = suc (suc (length K.bodies))

  -- the loop and the lines stand above bodies, routines and the lone RET
  abbrev rank : ℕ → ℕ
  rank f = if nat_lt f (loop_place p) then plain_rank f else suc top

  below_top : (f : ℕ) → plain_rank f ≤ top
  below_top f = by (cases_lt f n) (cases_lt f (reset_place K))
    where
      by : (f < n) ⊎ (n ≤ f) → (f < reset_place K) ⊎ (reset_place K ≤ f) → plain_rank f ≤ top
      by (inl lt) d =
          let is : plain_rank f ≡ suc (ranked.rank f) = before f n (suc (ranked.rank f)) (cond (nat_lt f (reset_place K)) 0 top) lt in
          let low = plain.below_top K h.kernel_well ranked h.short routines are f lt in
          omega (arith, is, low)
      by (inr le) (inl lt) =
          let is : plain_rank f ≡ 0 = behind f n (suc (ranked.rank f)) (cond (nat_lt f (reset_place K)) 0 top) le ∙ before f (reset_place K) 0 top lt in omega (arith, is)
      by (inr le) (inr last) = let is : plain_rank f ≡ top = plain.rank_of_piece K h.kernel_well ranked h.short routines are f last in omega (arith, is)

  rank_before : (f : ℕ) → f < loop_place p → rank f ≡ plain_rank f
  rank_before f lt = before f (loop_place p) (plain_rank f) (suc top) lt

  rank_behind : (f : ℕ) → loop_place p ≤ f → rank f ≡ suc top
  rank_behind f le = behind f (loop_place p) (plain_rank f) (suc top) le

  body_falls : (f : ℕ) → f < n → slice_index_or code f no_code ≡ code_of c (fn_of c f) → (g : ℕ) → Names (calls_of code f) g → rank g < rank f
  body_falls f lt at g m =
      let same : slice_index_or code f no_code ≡ slice_index_or (image_code K (all_code c) routines) f no_code = at ∙ sym (plain.selected_at K h.kernel_well ranked h.short routines are f lt) in
      let l = plain.long K h.kernel_well ranked h.short routines are in
      let falls : plain_rank g < plain_rank f = plain.ranks K h.kernel_well ranked h.short routines are f g (omega (arith, l, lt)) (subst (λ (x : CodeFn). Names x.calls g) same m) in
      let few = selected_calls f lt g (subst (λ (x : CodeFn). Names x.calls g) at m) in
      same_less (plain_rank g) (plain_rank f) (rank g) (rank f) (rank_before g (omega (arith, few))) (rank_before f (omega (arith, lt))) falls

  piece_falls : (f g : ℕ) → loop_place p ≤ f → g < loop_place p → rank g < rank f
  piece_falls f g le lt = below_next (plain_rank g) top (rank g) (rank f) (rank_before g lt) (rank_behind f le) (below_top g)

  ranks_fall : (f : ℕ) → Stands p routines f → (g : ℕ) → Names (calls_of code f) g → rank g < rank f
  ranks_fall f (selected lt at) g m = body_falls f lt at g m
  ranks_fall f (routine r place lt at) g m = absurd (names_nothing (calls_of routines r) (are.none r) g (subst (λ (x : CodeFn). Names x.calls g) at m))
  ranks_fall f (at_lone place at) g m = absurd (names_nothing [] refl g (subst (λ (x : CodeFn). Names x.calls g) at m))
  ranks_fall f (at_loop place at) g m =
      let le : loop_place p ≤ f = omega (arith, place) in
      loop_calls (λ k. rank k < rank f) (λ k lt. piece_falls f k le (omega (arith, lt))) (piece_falls f (lone_place p) le (omega arith)) g (subst (λ (x : CodeFn). Names x.calls g) at m)
  ranks_fall f (at_line v lt place at) g m =
      let few = line_calls v g (subst (λ (x : CodeFn). Names x.calls g) at m) in
      piece_falls f g (omega (arith, place)) (omega (arith, few))

  ranks : IsRank code rank
  ranks f g lt m = ranks_fall f (places.stands p h routines are f lt) g m

  -- ---- all code

  pub line_named : (f : ℕ) → Names (lines_of p) f → (v : ℕ) × (v < 8) × (f ≡ loop_place p + 1 + v)
  line_named f m = in_range (loop_place p + 1) 8 f m

  pub good_code : IsCountable code → IsGoodCode code (lines_of p) (loop_place p)
  good_code few = record {
    fns = good_fns few;
    no_cycle = (rank, ranks);
    line_fns = λ f m. let r = line_named f m in let lt = r.1 in let e = r.2 in in_code f (omega (arith, lt, e));
    reset_fn = in_code (loop_place p) (omega arith);
  }

pub code_can_be_laid : CodeCanBeLaid
code_can_be_laid p h few can =
    good_code p h (routine_fns (lowered (kernel p).program).checks) (are_routines (lowered (kernel p).program).checks can.few can.words) few
