-- The depths of the lines, and of reset.
use Rattle.std.proofs.Common.{◌≡◌, ℕ, ◌<◌, List, length, get_or, arith, refl, ap, ◌∙◌}
use Rattle.std.proofs.lemmas.List.{get_or_default}
use Rattle.msp_isa.specs.declared.code.CodeFn.{CodeFn}
use Rattle.msp_layout.specs.declared.depth.Visit.{Visit}
use Rattle.msp_layout.specs.declared.depth.Visit.TheVariants.{New}
use Rattle.msp_layout.specs.Search.{HasDepth, visit_at, depth_of}
use Rattle.msp_layout.proofs.Handlers.{first_line, next_line, all_lines, whole_stack}
use Rattle.msp_layout.proofs.stack.stack_bytes.Goals as goal

read : (code : List CodeFn) (visits : List Visit) (f : ℕ) (v : Visit) (n : ℕ) → f < length visits → v ≡ get_or visits f v → n ≡ depth_of v → HasDepth code (λ g. g ≡ f) (depth_of (visit_at visits f)) → HasDepth code (λ g. g ≡ f) n
read code visits f v n lt ev en h = (h.0, h.1, en ∙ ap (λ (w : Visit). depth_of w) (ev ∙ get_or_default visits f v New lt) ∙ h.2)

pub index-requires : goal.index-requires
index-requires c = omega (arith, c.requires.lines (get_or c.args.lines.now 0 0) (0, omega arith, refl), c.in_ok-visits.ensures.len)

pub loop-line-init : goal.loop-line-init
loop-line-init c =
    let lt : get_or c.args.lines.now 0 0 < length c.args.code.now = c.requires.lines (get_or c.args.lines.now 0 0) (0, omega arith, refl) in
    first_line c.args.code.now c.args.lines.now c.depth-handlers.result (omega arith)
    (read c.args.code.now c.in_ok-visits.visits.items (get_or c.args.lines.now 0 0) c.index.result.now c.depth-handlers.result (omega (arith, c.in_ok-visits.ensures.len)) c.index.ensures c.depth-handlers.ensures (c.in_ok-visits.ensures.each (get_or c.args.lines.now 0 0) lt))

pub index-requires-in-loop-line : goal.index-requires-in-loop-line
index-requires-in-loop-line c = omega (arith, c.requires.lines (get_or c.args.lines.now c.loop-line.line-index 0) (c.loop-line.line-index, omega arith, refl), c.in_ok-visits.ensures.len)

pub loop-line-preserved : goal.loop-line-preserved
loop-line-preserved c =
    let lt : get_or c.args.lines.now c.loop-line.line-index 0 < length c.args.code.now = c.requires.lines (get_or c.args.lines.now c.loop-line.line-index 0) (c.loop-line.line-index, omega arith, refl) in
    next_line c.args.code.now c.args.lines.now c.loop-line.line-index c.loop-line.handlers c.depth.result c.max-handlers.result c.loop-line.invariant (omega arith)
    (read c.args.code.now c.in_ok-visits.visits.items (get_or c.args.lines.now c.loop-line.line-index 0) c.index-in-loop-line.result.now c.depth.result (omega (arith, c.in_ok-visits.ensures.len)) c.index-in-loop-line.ensures c.depth.ensures (c.in_ok-visits.ensures.each (get_or c.args.lines.now c.loop-line.line-index 0) lt))
    c.max-handlers.ensures

pub returns : goal.returns
returns c =
    whole_stack c.args.code.now c.args.lines.now c.args.reset c.depth-2.result c.loop-line.handlers c.saturating_add.result
    (read c.args.code.now c.in_ok-visits.visits.items c.args.reset c.index-2.result.now c.depth-2.result (omega (arith, c.in_ok-visits.ensures.len, c.requires.reset)) c.index-2.ensures c.depth-2.ensures (c.in_ok-visits.ensures.each c.args.reset c.requires.reset))
    (all_lines c.args.code.now c.args.lines.now c.loop-line.handlers c.loop-line.line-index c.loop-line.invariant (omega arith)) c.saturating_add.ensures
