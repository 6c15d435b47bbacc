-- Silent steps of a lean program's lowered code are a weight of it that one body bounds, and selected code meets the open law with that bound.
use Rattle.std.proofs.Common.{◌≡◌, ℕ, ◌+◌, ◌*◌, ◌/◌, ◌≤◌, true, List, Option, Some, None, refl, sym, ap, subst, arith}
use Rattle.std.specs.Prelude.{slice_get}
use Rattle.nm_base.specs.declared.action.Action.{Action}
use Rattle.nesc_core.specs.Plain.{Body, Program}
use Rattle.nesc_core.specs.Nodes.{body_nodes_of, stmt_nodes_of}
use Rattle.nesc_core.specs.Derefs.{ranges_of}
use Rattle.nesc_core.specs.Weights.{local_bytes}
use Rattle.nesc_core.specs.WellFormed.{IsBody, IsWellFormed}
use Rattle.mid_code.specs.declared.instr.Mid.{Mid}
use Rattle.mid_code.specs.declared.instr.Mid.TheVariants.{Set, Bin, Poke, Label, Jump, Branch, Call, Help, Tick}
use Rattle.mid_code.specs.declared.code.MidFn.{MidFn}
use Rattle.mid_code.specs.Machine.{Activation, fn_of, no_fn}
use Rattle.mid_code.specs.Reached.{state_at}
use Rattle.mid_code.specs.Runs.{IsLabelled}
use Rattle.lower_stmt.specs.Bodies.{checks_of, lowered, mid_fn_of}
use Rattle.lower_stmt.proofs.Formed.{is_mid_fn}
use Rattle.lower_stmt.proofs.Labels.{are_labelled}
use Rattle.lower_stmt.proofs.Weighed.{is_within}
use Rattle.open_law.specs.Body.{IsOpenFunction}
use Rattle.msp_select.specs.Frames.{count_pushed, frame_home, own_bytes}
use Rattle.msp_select.specs.Sound.{IsSelected, body_of}
use Rattle.msp_select.specs.Weight.{IsWeighed, entry_size}
use Rattle.msp_select.specs.Weight as weight
use Rattle.msp_select.proofs.Bounds.{frames_are_small}
use Rattle.msp_select.proofs.Weighing.{paced}
use Rattle.lower_pace.specs.Pace.{own_of}
use Rattle.lower_pace.specs.Silent.{silent_size}
use Rattle.lower_pace.proofs.Silent.{falls, holds}
use Rattle.lower_pace.proofs.Flow.{Flow, HasSizes, flow_more, is_call, is_help, is_light, is_small, nothing}
use Rattle.lower_pace.proofs.Exprs.{costs, costs_are}
use Rattle.lower_pace.proofs.Bodies.{all_at, bytes_within, fn_none, fn_some}
use Rattle.lower_pace.proofs.Reached.{Fine, given, reached}
use Rattle.lean_pace.specs.Lean.{IsLean, IsLeanStmt}
use Rattle.lean_pace.specs.Pace.{LeanCodeIsWeighed, LeanCodeKeepsPace, clears_in, gap_of, help_limit, most_entry, most_nodes, most_of_bodies, most_of_body, most_piece, most_silent}
use Rattle.lean_pace.proofs.Lists.{most_at}
use Rattle.lean_pace.proofs.Frames.{frame_low}
use Rattle.lean_pace.proofs.Bodies.{body_flows}

-- ---- what instructions take

light_sizes : (p : Program) (own : ℕ → ℕ) (help : ℕ) (i : Mid) → is_light i ≡ true → weight.size_of (lowered p) own help (Some i) ≤ 3
light_sizes p own help (Set v n) ok = omega arith
light_sizes p own help (Bin op v x y) ok = omega arith
light_sizes p own help (Poke w v x) ok = omega arith
light_sizes p own help (Label l) ok = omega arith
light_sizes p own help (Jump l) ok = omega arith
light_sizes p own help (Branch test x y l) ok = omega arith
light_sizes p own help Tick ok = omega arith
light_sizes p own help i ok = absurd (cc)

small_sizes : (p : Program) (own : ℕ → ℕ) (help : ℕ) (i : Mid) → is_small i ≡ true → weight.size_of (lowered p) own help (Some i) ≤ 8
small_sizes p own help (Call g ins outs) ok = absurd (cc)
small_sizes p own help (Help h ins outs) ok = absurd (cc)
small_sizes p own help i ok = omega arith

help_sizes : (p : Program) (own : ℕ → ℕ) (help : ℕ) (i : Mid) → is_help i ≡ true → weight.size_of (lowered p) own help (Some i) ≤ help + 8
help_sizes p own help (Help h ins outs) ok = omega arith
help_sizes p own help i ok = absurd (cc)

-- ---- sums

sums : (nodes clears all : ℕ) (a b : ℕ) → a ≡ nodes → b ≡ clears → nodes + clears ≤ all → 50 + (a + b) ≤ all + 50
sums nodes clears all a b e g le = omega (arith, e, g, le)

-- by a frame of so many bytes at most: an entry, and a call with its entry
of_frame : (own pushed l n : ℕ) → own + 2 * pushed ≤ 2 * l + 4 * n + 17 → 3 * (own / 2) + 1 + pushed + 1 ≤ 3 * l + 6 * n + 26
of_frame own pushed l n le = omega (arith, le)

module _ (p : Program) (well : IsWellFormed p) (lean : IsLean p) where
  -- ---- functions

  of_body : (f : ℕ) (b : Body) → slice_get p.bodies f ≡ Some b → fn_of (lowered p) f ≡ mid_fn_of p (checks_of p) b
  of_body f b is = fn_some (mid_fn_of p (checks_of p)) p.bodies f b no_fn is

  of_none : (f : ℕ) → slice_get p.bodies f ≡ None → fn_of (lowered p) f ≡ no_fn
  of_none f is = fn_none (mid_fn_of p (checks_of p)) p.bodies f no_fn is

  abbrev HoldsLittle : MidFn → Type 0
  HoldsLittle fn = own_bytes fn + 2 * count_pushed fn.params ≤ 2 * local_bytes p + 4 * most_nodes p + 17

  frame_of : (f : ℕ) → HoldsLittle (fn_of (lowered p) f)
  frame_of f = by (slice_get p.bodies f) refl
    where
      by : (o : Option Body) → slice_get p.bodies f ≡ o → HoldsLittle (fn_of (lowered p) f)
      by None is = subst HoldsLittle (sym (of_none f is)) (omega arith)
      by (Some b) is =
          let body : IsBody p b = all_at (IsBody p) p.bodies f b well.bodies is in
          let small = frames_are_small (mid_fn_of p (checks_of p) b) (is_mid_fn p (checks_of p) b body).params in
          let within = (is_within p (checks_of p) b).within in
          let low = frame_low p b in
          let bytes = bytes_within p f b is in
          let nodes : body_nodes_of b ≤ most_nodes p = most_at body_nodes_of p.bodies 0 f b is in
          subst HoldsLittle (sym (of_body f b is)) (omega (arith, small, within, low, bytes, nodes))

  call_small : (f : ℕ) → entry_size (own_of p) f + count_pushed (fn_of (lowered p) f).params + 1 ≤ most_entry p
  call_small f = of_frame (own_of p f) (count_pushed (fn_of (lowered p) f).params) (local_bytes p) (most_nodes p) (frame_of f)

  module _ (size : Option Mid → ℕ) (help : ℕ) (sizes : HasSizes size help) (less : help + 600 ≤ 1220 + 8 * ranges_of p) (label_free : (l : ℕ) → size (Some (Label l)) ≤ 0) (jump_short : (l : ℕ) → size (Some (Jump l)) ≤ 1) (call : (i : Mid) → is_call i ≡ true → size (Some i) ≤ most_entry p) where
    abbrev unit : ℕ
    unit = 1220 + 8 * ranges_of p

    abbrev clearing : ℕ
    clearing = 15 * local_bytes p

    abbrev most : ℕ
    most = most_of_bodies p + 50

    labels : (f : ℕ) → IsLabelled (fn_of (lowered p) f).code
    labels f = are_labelled p f

    flows : (f : ℕ) → Flow (given (lowered p) size help sizes labels f) most (fn_of (lowered p) f).code
    flows f = by (slice_get p.bodies f) refl
      where
        by : (o : Option Body) → slice_get p.bodies f ≡ o → Flow (given (lowered p) size help sizes labels f) most (fn_of (lowered p) f).code
        by None is = subst (λ fn. Flow (given (lowered p) size help sizes labels f) most fn.code) (sym (of_none f is)) (nothing (given (lowered p) size help sizes labels f) most (omega arith))
        by (Some b) is =
            let few : IsLeanStmt b.code = all_at (λ b. IsLeanStmt b.code) p.bodies f b lean.bodies is in
            let bytes = bytes_within p f b is in
            let within : most_of_body p b ≤ most_of_bodies p = most_at (most_of_body p) p.bodies 0 f b is in
            flow_more (given (lowered p) size help sizes labels f) (50 + (costs unit (stmt_nodes_of b.code) + costs clearing (clears_in b.code))) most _
            (sums (body_nodes_of b * unit) (clears_in b.code * clearing) (most_of_bodies p) (costs unit (stmt_nodes_of b.code)) (costs clearing (clears_in b.code)) (costs_are unit (stmt_nodes_of b.code)) (costs_are clearing (clears_in b.code)) within)
            (body_flows (given (lowered p) size help sizes labels f) label_free jump_short p (checks_of p) b unit clearing (ap (λ (fn : MidFn). fn.code) (of_body f b is)) (all_at (IsBody p) p.bodies f b well.bodies is) few
            (omega (arith, bytes)) less)

    fine : (root : ℕ) (answers : ℕ → ℕ) (k : ℕ) → Fine (lowered p) size help sizes labels most (most_silent p) flows (λ i ok. let le = call i ok in omega (arith, le)) (omega arith) (state_at (lowered p) root answers k)
    fine root answers k = reached (lowered p) size help sizes labels most (most_silent p) flows (λ i ok. let le = call i ok in omega (arith, le)) (omega arith) root answers k

  -- ---- a routine of at most so many instructions

  module _ (help : ℕ) (le : help ≤ help_limit p) where
    abbrev size : Option Mid → ℕ
    size = weight.size_of (lowered p) (own_of p) help

    sizes_of : HasSizes size (help + 8)
    sizes_of = record {
      light = light_sizes p (own_of p) help;
      small = small_sizes p (own_of p) help;
      helps = help_sizes p (own_of p) help;
      none = omega arith;
    }

    calls_of : (i : Mid) → is_call i ≡ true → size (Some i) ≤ most_entry p
    calls_of (Call g ins outs) ok = let small = call_small g in omega (arith, small)
    calls_of i ok = absurd (cc)

    weighed : (root : ℕ) → IsWeighed (lowered p) (own_of p) help root (silent_size (lowered p) size (most_silent p)) (most_silent p)
    weighed root = record {
      few = λ answers ok n. (fine size (help + 8) sizes_of (omega (arith, le)) (λ l. omega arith) (λ l. omega arith) calls_of root answers n).soon.few;
      holds = λ answers ok n. holds (lowered p) size (most_silent p) _ (fine size (help + 8) sizes_of (omega (arith, le)) (λ l. omega arith) (λ l. omega arith) calls_of root answers n).soon;
      falls = λ answers ok n s e. falls (lowered p) size (most_silent p) _ s e (fine size (help + 8) sizes_of (omega (arith, le)) (λ l. omega arith) (λ l. omega arith) calls_of root answers n).soon;
    }

  open_with : (deep : ℕ → ℕ) (left : List Activation → ℕ) (most long root gives data_end : ℕ) (image : ℕ → ℕ) (marks : ℕ → List Action) (entries : ℕ → ℕ) (places : ℕ → ℕ → ℕ)
      (selected : IsSelected (lowered p) (λ f. frame_home (fn_of (lowered p) f)) (own_of p) deep left most long root gives data_end image marks entries places) → selected.most_help ≤ help_limit p →
      IsOpenFunction image data_end marks gives (body_of (lowered p) root) (entries root) (deep root) (gap_of p root)
  open_with deep left most long root gives data_end image marks entries places selected le =
      let again : IsSelected (lowered p) (λ f. frame_home (fn_of (lowered p) f)) (own_of p) deep left most (most_piece p) root gives data_end image marks entries places = record {
        form = selected.form;
        keeps = selected.keeps;
        selectable = selected.selectable;
        framed = selected.framed;
        depths = selected.depths;
        standing = selected.standing;
        most_help = selected.most_help;
        routines = selected.routines;
        objects = selected.objects;
        paced = selected.paced;
        is = selected.is;
        params = selected.params;
        given = selected.given;
        low_end = selected.low_end;
        entry = λ f lt. let small = call_small f in omega (arith, small);
        call = λ f lt. let small = call_small f in omega (arith, small);
        help = omega (arith, le);
        least = omega arith;
      } in
      paced (lowered p) (λ f. frame_home (fn_of (lowered p) f)) (own_of p) deep left most (most_piece p) root gives data_end image marks entries places again
      (silent_size (lowered p) (size selected.most_help le) (most_silent p)) (most_silent p) (weighed selected.most_help le root)

pub code_is_weighed : LeanCodeIsWeighed
code_is_weighed p well lean root help le = weighed p well lean help le root

pub code_keeps_pace : LeanCodeKeepsPace
code_keeps_pace p well lean deep left most long root gives data_end image marks entries places selected le =
    (open_with p well lean deep left most long root gives data_end image marks entries places selected le, (let small = call_small p well lean root in omega (arith, small)))
