-- One call more.
use Rattle.std.proofs.Common.{◌≡◌, ℕ, ◌+◌, ◌<◌, List, length, get_or, min, max, arith, ap, ◌∙◌}
use Rattle.std.proofs.lemmas.List.{get_or_default}
use Rattle.msp_isa.specs.declared.code.CodeFn.{CodeFn}
use Rattle.msp_isa.specs.Stands.{no_code}
use Rattle.msp_layout.specs.Depth.{frame_of, calls_of}
use Rattle.msp_layout.specs.Laid.{told}
use Rattle.msp_layout.specs.Search.{call_at, visit_at, depth_of}
use Rattle.msp_layout.proofs.Deepest.{one_more_call, behind_calls}
use Rattle.msp_layout.proofs.depth.depth_over.Goals as goal

frame_read : (code : List CodeFn) (f : ℕ) (x : CodeFn) → f < length code → (get_or code f x).frame ≡ frame_of code f
frame_read code f x lt = ap (λ (g : CodeFn). g.frame) (get_or_default code f x no_code lt)

calls_read : (code : List CodeFn) (f : ℕ) (x : CodeFn) → f < length code → (get_or code f x).calls ≡ calls_of code f
calls_read code f x lt = ap (λ (g : CodeFn). g.calls) (get_or_default code f x no_code lt)

pub loop-callee-preserved : goal.loop-callee-preserved
loop-callee-preserved c =
    let calls : c.as_slice-callee-items.result.now ≡ calls_of c.args.code.now c.args.f = c.as_slice-callee-items.ensures ∙ calls_read c.args.code.now c.args.f _ c.requires.within in
    let frame : c.from-frame.result ≡ frame_of c.args.code.now c.args.f = c.from-frame.ensures ∙ frame_read c.args.code.now c.args.f _ c.requires.within in
    let lt : c.loop-callee.callee-index < length (calls_of c.args.code.now c.args.f) = rw (← calls) c.loop-callee-test.true in
    let deep = c.requires.depths (call_at c.args.code.now c.args.f c.loop-callee.callee-index) (c.requires.done c.loop-callee.callee-index lt) in
    let below : c.depth-below.result ≡ told deep.0 = c.depth-below.ensures ∙ ap (λ (xs : List ℕ). depth_of (visit_at c.args.visits.now (get_or xs c.loop-callee.callee-index 0))) calls ∙ deep.2 in
    let inv = c.loop-callee.invariant in
    one_more_call c.args.code.now c.args.f c.loop-callee.callee-index inv.0 inv.1 lt deep.0 deep.1 c.loop-callee.deepest c.depth-below.result c.max-deepest.result inv.2 below
    (c.max-deepest.ensures ∙ ap (λ (n : ℕ). max c.loop-callee.deepest n) (c.saturating_add.ensures ∙ ap (λ (n : ℕ). min (c.depth-below.result + (n + 2)) 4294967295) frame))

pub returns : goal.returns
returns c =
    let calls : c.as_slice-callee-items.result.now ≡ calls_of c.args.code.now c.args.f = c.as_slice-callee-items.ensures ∙ calls_read c.args.code.now c.args.f _ c.requires.within in
    let inv = c.loop-callee.invariant in
    let whole : c.loop-callee.callee-index ≡ length (calls_of c.args.code.now c.args.f) = omega (arith, ap length calls) in
    let so = rw whole at inv.1 in
    behind_calls c.args.code.now c.args.f inv.0 c.loop-callee.deepest so inv.2
