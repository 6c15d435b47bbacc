-- Silent steps of lowered code are a weight of it, and with what is around them they keep to half of the program's pace.
use Rattle.std.proofs.Common.{◌≡◌, ℕ, ◌+◌, ◌*◌, ◌/◌, ◌≤◌, true, List, Option, Some, None, refl, sym, ap, subst, arith}
use Rattle.std.specs.Prelude.{slice_get}
use Rattle.std.proofs.lemmas.Nat.{mul-le}
use Rattle.std.proofs.Math.Nat.{add-mul, mul_assoc, mul_left_comm}
use Rattle.nm_base.specs.declared.action.Action.{Action}
use Rattle.nesc_core.specs.Plain.{Body, Program}
use Rattle.nesc_core.specs.Nodes.{nodes_of, stmt_nodes_of}
use Rattle.nesc_core.specs.Derefs.{ranges_of}
use Rattle.nesc_core.specs.Weights.{local_bytes, pace_of_program}
use Rattle.nesc_core.specs.WellFormed.{IsBody, IsWellFormed}
use Rattle.mid_code.specs.declared.instr.Mid.{Mid}
use Rattle.mid_code.specs.declared.instr.Mid.TheVariants.{Set, Bin, Poke, Label, Jump, Branch, Call, Help, Tick}
use Rattle.mid_code.specs.declared.code.MidFn.{MidFn}
use Rattle.mid_code.specs.Machine.{Activation, fn_of, no_fn}
use Rattle.mid_code.specs.Reached.{state_at}
use Rattle.mid_code.specs.Runs.{IsLabelled}
use Rattle.lower_stmt.specs.Bodies.{checks_of, lowered, mid_fn_of}
use Rattle.lower_stmt.proofs.Formed.{is_mid_fn}
use Rattle.lower_stmt.proofs.Labels.{are_labelled}
use Rattle.lower_stmt.proofs.Weighed.{is_within}
use Rattle.open_law.specs.Body.{IsOpenFunction}
use Rattle.msp_select.specs.Frames.{count_pushed, frame_home, own_bytes}
use Rattle.msp_select.specs.Sound.{IsPaced, IsSelected, body_of}
use Rattle.msp_select.specs.Weight.{IsWeighed, entry_size}
use Rattle.msp_select.specs.Weight as weight
use Rattle.msp_select.proofs.Bounds.{frames_are_small}
use Rattle.msp_select.proofs.Weighing.{paced}
use Rattle.lower_pace.specs.Pace.{IsMeasured, IsMeasuredStmt, LoweredCodeIsPaced, LoweredCodeIsWeighed, SelectedCodeKeepsPace, between_actions, heaviest_of, help_bound, longest_of, own_of, room}
use Rattle.lower_pace.specs.Silent.{silent_size}
use Rattle.lower_pace.proofs.Silent.{falls, holds}
use Rattle.lower_pace.proofs.Flow.{Flow, HasSizes, flow_more, is_call, is_help, is_light, is_small, nothing}
use Rattle.lower_pace.proofs.Exprs.{costs, costs_are}
use Rattle.lower_pace.proofs.Bodies.{all_at, body_flows, bytes_within, fn_none, fn_some, nodes_within}
use Rattle.lower_pace.proofs.Reached.{Fine, given, reached}

-- ---- what instructions take

light_sizes : (p : Program) (own : ℕ → ℕ) (most_help : ℕ) (i : Mid) → is_light i ≡ true → weight.size_of (lowered p) own most_help (Some i) ≤ 3
light_sizes p own most_help (Set v n) ok = omega arith
light_sizes p own most_help (Bin op v x y) ok = omega arith
light_sizes p own most_help (Poke w v x) ok = omega arith
light_sizes p own most_help (Label l) ok = omega arith
light_sizes p own most_help (Jump l) ok = omega arith
light_sizes p own most_help (Branch test x y l) ok = omega arith
light_sizes p own most_help Tick ok = omega arith
light_sizes p own most_help i ok = absurd (cc)

small_sizes : (p : Program) (own : ℕ → ℕ) (most_help : ℕ) (i : Mid) → is_small i ≡ true → weight.size_of (lowered p) own most_help (Some i) ≤ 8
small_sizes p own most_help (Call g ins outs) ok = absurd (cc)
small_sizes p own most_help (Help h ins outs) ok = absurd (cc)
small_sizes p own most_help i ok = omega arith

help_sizes : (p : Program) (own : ℕ → ℕ) (most_help : ℕ) (i : Mid) → is_help i ≡ true → weight.size_of (lowered p) own most_help (Some i) ≤ most_help + 8
help_sizes p own most_help (Help h ins outs) ok = omega arith
help_sizes p own most_help i ok = absurd (cc)

-- ---- products

costs_within : (big nodes all most : ℕ) → nodes ≤ all → big ≤ most → costs big nodes ≤ all * most
costs_within big nodes all most few less = let e = costs_are big nodes in let le = mul-le nodes big all most few less in omega (arith, e, le)

doubled : (n k x : ℕ) → 2 * k ≤ 96 * x → 2 * (n * k) ≤ 96 * n * x
doubled n k x le =
    let a : n * (2 * k) ≡ 2 * (n * k) = mul_left_comm n 2 k in
    let b : 96 * n * x ≡ 96 * (n * x) = mul_assoc 96 n x in
    let c : n * (96 * x) ≡ 96 * (n * x) = mul_left_comm n 96 x in
    let d = mul-le n (2 * k) n (96 * x) (omega arith) le in
    omega (arith, a, b, c, d)

half_of : (a b : ℕ) → 2 * a ≤ b → a ≤ b / 2
half_of a b le = omega (arith, le)

sums : (k a b ab all around r l : ℕ) → around ≤ 100000 + 140 * r → 2 * k ≤ a → all ≡ ab + 4000 * (300 + 3 * r + 2 * l) → ab ≡ a + b → 2 * (k + 40000 + around + 400000) ≤ all
sums k a b ab all around r l le first e g = omega (arith, le, first, e, g)

-- the numbers of nodes, ranges and bytes
keeps : (n r l around : ℕ) → around ≤ 100000 + 140 * r → 2 * (n * (14000 + 140 * r + 60 * l) + 40000 + around + 400000) ≤ (96 * n + 24 * r + 4000) * (300 + 3 * r + 2 * l)
keeps n r l around le =
    let x : ℕ = 300 + 3 * r + 2 * l in
    let first : 2 * (n * (14000 + 140 * r + 60 * l)) ≤ 96 * n * x = doubled n (14000 + 140 * r + 60 * l) x (omega arith) in
    let e : (96 * n + 24 * r + 4000) * x ≡ (96 * n + 24 * r) * x + 4000 * x = add-mul (96 * n + 24 * r) 4000 x in
    let g : (96 * n + 24 * r) * x ≡ 96 * n * x + 24 * r * x = add-mul (96 * n) (24 * r) x in
    sums (n * (14000 + 140 * r + 60 * l)) (96 * n * x) (24 * r * x) ((96 * n + 24 * r) * x) ((96 * n + 24 * r + 4000) * x) around r l le first e g

module _ (p : Program) (well : IsWellFormed p) (measured : IsMeasured p) where
  -- ---- functions

  of_body : (f : ℕ) (b : Body) → slice_get p.bodies f ≡ Some b → fn_of (lowered p) f ≡ mid_fn_of p (checks_of p) b
  of_body f b is = fn_some (mid_fn_of p (checks_of p)) p.bodies f b no_fn is

  of_none : (f : ℕ) → slice_get p.bodies f ≡ None → fn_of (lowered p) f ≡ no_fn
  of_none f is = fn_none (mid_fn_of p (checks_of p)) p.bodies f no_fn is

  abbrev HoldsLittle : MidFn → Type 0
  HoldsLittle fn = own_bytes fn + 2 * count_pushed fn.params ≤ 10000

  frame_of : (f : ℕ) → HoldsLittle (fn_of (lowered p) f)
  frame_of f = by (slice_get p.bodies f) refl
    where
      by : (o : Option Body) → slice_get p.bodies f ≡ o → HoldsLittle (fn_of (lowered p) f)
      by None is = subst HoldsLittle (sym (of_none f is)) (omega arith)
      by (Some b) is =
          let body : IsBody p b = all_at (IsBody p) p.bodies f b well.bodies is in
          let small = frames_are_small (mid_fn_of p (checks_of p) b) (is_mid_fn p (checks_of p) b body).params in
          let within = (is_within p (checks_of p) b).within in
          let most = body.frame in
          subst HoldsLittle (sym (of_body f b is)) (omega (arith, small, within, most))

  entry_small : (f : ℕ) → entry_size (own_of p) f ≤ 15001
  entry_small f = let h = frame_of f in omega (arith, h)

  module _ (size : Option Mid → ℕ) (help : ℕ) (sizes : HasSizes size help) (less : help + 1200 + 48 * local_bytes p ≤ 14000 + 140 * ranges_of p + 60 * local_bytes p) (call : (i : Mid) → is_call i ≡ true → size (Some i) ≤ 30000) where
    abbrev big : ℕ
    big = help + 1200 + 48 * local_bytes p

    abbrev most : ℕ
    most = nodes_of p * (14000 + 140 * ranges_of p + 60 * local_bytes p) + 60

    labels : (f : ℕ) → IsLabelled (fn_of (lowered p) f).code
    labels f = are_labelled p f

    flows : (f : ℕ) → Flow (given (lowered p) size help sizes labels f) most (fn_of (lowered p) f).code
    flows f = by (slice_get p.bodies f) refl
      where
        by : (o : Option Body) → slice_get p.bodies f ≡ o → Flow (given (lowered p) size help sizes labels f) most (fn_of (lowered p) f).code
        by None is = subst (λ fn. Flow (given (lowered p) size help sizes labels f) most fn.code) (sym (of_none f is)) (nothing (given (lowered p) size help sizes labels f) most (omega arith))
        by (Some b) is =
            let few : IsMeasuredStmt p b.locals b.code = all_at (λ b. IsMeasuredStmt p b.locals b.code) p.bodies f b measured.bodies is in
            let le = costs_within big (stmt_nodes_of b.code) (nodes_of p) (14000 + 140 * ranges_of p + 60 * local_bytes p) (nodes_within p f b is) less in
            flow_more (given (lowered p) size help sizes labels f) (50 + costs big (stmt_nodes_of b.code)) most _ (omega (arith, le))
            (body_flows (given (lowered p) size help sizes labels f) p (checks_of p) b (local_bytes p) big (ap (λ (fn : MidFn). fn.code) (of_body f b is)) (all_at (IsBody p) p.bodies f b well.bodies is) few
            (bytes_within p f b is) (omega arith))

    fine : (root : ℕ) (answers : ℕ → ℕ) (k : ℕ) → Fine (lowered p) size help sizes labels most (heaviest_of p) flows (λ i ok. let le = call i ok in omega (arith, le)) (omega arith) (state_at (lowered p) root answers k)
    fine root answers k = reached (lowered p) size help sizes labels most (heaviest_of p) flows (λ i ok. let le = call i ok in omega (arith, le)) (omega arith) root answers k

  -- ---- a routine of at most so many instructions

  module _ (most_help : ℕ) (le : most_help ≤ help_bound p) where
    sizes_of : HasSizes (weight.size_of (lowered p) (own_of p) most_help) (most_help + 8)
    sizes_of = record {
      light = light_sizes p (own_of p) most_help;
      small = small_sizes p (own_of p) most_help;
      helps = help_sizes p (own_of p) most_help;
      none = omega arith;
    }

    calls_of : (i : Mid) → is_call i ≡ true → weight.size_of (lowered p) (own_of p) most_help (Some i) ≤ 30000
    calls_of (Call g ins outs) ok = let frame = frame_of g in let small = entry_small g in omega (arith, frame, small)
    calls_of i ok = absurd (cc)

    abbrev size : Option Mid → ℕ
    size = weight.size_of (lowered p) (own_of p) most_help

    weighed : (root : ℕ) → IsWeighed (lowered p) (own_of p) most_help root (silent_size (lowered p) size (heaviest_of p)) (heaviest_of p)
    weighed root = record {
      few = λ answers ok n. (fine size (most_help + 8) sizes_of (omega (arith, le)) calls_of root answers n).soon.few;
      holds = λ answers ok n. holds (lowered p) size (heaviest_of p) _ (fine size (most_help + 8) sizes_of (omega (arith, le)) calls_of root answers n).soon;
      falls = λ answers ok n s e. falls (lowered p) size (heaviest_of p) _ s e (fine size (most_help + 8) sizes_of (omega (arith, le)) calls_of root answers n).soon;
    }

  ones : HasSizes (λ i. 1) 1
  ones = record { light = λ i ok. omega arith; small = λ i ok. omega arith; helps = λ i ok. omega arith; none = omega arith }

  steps_fall : (root : ℕ) → IsPaced (lowered p) root (silent_size (lowered p) (λ i. 1) (heaviest_of p)) (heaviest_of p)
  steps_fall root = record {
    few = λ answers ok n. (fine (λ i. 1) 1 ones (omega arith) (λ i ok. omega arith) root answers n).soon.few;
    fewer = λ answers ok n s e.
        let less = falls (lowered p) (λ i. 1) (heaviest_of p) _ s e (fine (λ i. 1) 1 ones (omega arith) (λ i ok. omega arith) root answers n).soon in omega (arith, less);
  }

  keeps_pace : (root : ℕ) → between_actions p root + room ≤ pace_of_program p / 2
  keeps_pace root =
      let small = entry_small root in
      half_of (between_actions p root + room) (pace_of_program p)
      (let h = keeps (nodes_of p) (ranges_of p) (local_bytes p) (entry_size (own_of p) root + longest_of p + 2) (omega (arith, small)) in omega (arith, h))

  open_with : (deep : ℕ → ℕ) (left : List Activation → ℕ) (most long root gives data_end : ℕ) (image : ℕ → ℕ) (marks : ℕ → List Action) (entries : ℕ → ℕ) (places : ℕ → ℕ → ℕ)
      (selected : IsSelected (lowered p) (λ f. frame_home (fn_of (lowered p) f)) (own_of p) deep left most long root gives data_end image marks entries places) → selected.most_help ≤ help_bound p →
      IsOpenFunction image data_end marks gives (body_of (lowered p) root) (entries root) (deep root) (between_actions p root)
  open_with deep left most long root gives data_end image marks entries places selected le =
      let again : IsSelected (lowered p) (λ f. frame_home (fn_of (lowered p) f)) (own_of p) deep left most (longest_of p) root gives data_end image marks entries places = record {
        form = selected.form;
        keeps = selected.keeps;
        selectable = selected.selectable;
        framed = selected.framed;
        depths = selected.depths;
        standing = selected.standing;
        most_help = selected.most_help;
        routines = selected.routines;
        objects = selected.objects;
        paced = selected.paced;
        is = selected.is;
        params = selected.params;
        given = selected.given;
        low_end = selected.low_end;
        entry = λ f lt. let small = entry_small f in omega (arith, small);
        call = λ f lt. let frame = frame_of f in omega (arith, frame);
        help = omega (arith, le);
        least = omega arith;
      } in
      paced (lowered p) (λ f. frame_home (fn_of (lowered p) f)) (own_of p) deep left most (longest_of p) root gives data_end image marks entries places again
      (silent_size (lowered p) (size selected.most_help le) (heaviest_of p)) (heaviest_of p) (weighed selected.most_help le root)

pub code_is_weighed : LoweredCodeIsWeighed
code_is_weighed p well measured root most_help le = weighed p well measured most_help le root

pub code_is_paced : LoweredCodeIsPaced
code_is_paced p well measured root = steps_fall p well measured root

pub code_keeps_pace : SelectedCodeKeepsPace
code_keeps_pace p well measured deep left most long root gives data_end image marks entries places selected le =
    (open_with p well measured deep left most long root gives data_end image marks entries places selected le, keeps_pace p well measured root)
