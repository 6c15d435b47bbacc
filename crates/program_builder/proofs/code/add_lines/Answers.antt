use Rattle.std.proofs.Common.{◌++◌, ◌∷◌, [], List, append-nil, map, ap, sym, ◌∙◌, arith}
use Rattle.std.specs.List.{range_with_len}
use Rattle.std.proofs.lemmas.List.FromFn.{map-range_with_len_more}
use Rattle.nesc_core.specs.View.{program_of}
use Rattle.msp_isa.specs.declared.code.CodeFn.{CodeFn}
use Rattle.core_meaning.specs.SourceOf.{handler_in}
use Rattle.code_pieces.specs.Pieces.{handler_of}
use Rattle.program_image.specs.Order.{line_of}
use Rattle.image_builder.proofs.Lists.{grouped}
use Rattle.program_builder.proofs.code.add_lines.Goals as goal

pub loop-line-init : goal.loop-line-init
loop-line-init c = sym (append-nil c.args.code.now.items)

pub loop-line-preserved : goal.loop-line-preserved
loop-line-preserved c =
    let p = program_of c.args.p.now in
    let line = c.loop-line.line in
    let old = c.args.code.now.items in
    let done = map (line_of p) (range_with_len 0 line) in
    let own = c.in_ok-handler_code.ensures ∙ ap handler_of (c.handler_of.ensures ∙ ap (λ hs. handler_in hs line) c.as_slice.ensures) in
    c.in_ok-push.ensures.items ∙ ap (λ (l : List CodeFn). l ++ c.in_ok-handler_code.field-0 ∷ []) c.loop-line.invariant
    ∙ grouped old done (c.in_ok-handler_code.field-0 ∷ [])
    ∙ ap (λ (x : CodeFn). old ++ (done ++ x ∷ [])) own
    ∙ ap (λ (l : List CodeFn). old ++ l) (sym (map-range_with_len_more (line_of p) 0 line line (omega arith)))
