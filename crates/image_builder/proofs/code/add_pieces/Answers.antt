use Rattle.std.proofs.Common.{◌≡◌, ◌++◌, ◌∷◌, [], map, ap, sym, ◌∙◌, arith}
use Rattle.std.specs.List.{range_with_len}
use Rattle.std.proofs.lemmas.List.FromFn.{map-range_with_len_more}
use Rattle.nesc_core.specs.View.{program_of}
use Rattle.core_meaning.specs.SourceOf.{handler_in}
use Rattle.code_pieces.specs.Pieces.{handler_of, reset_of}
use Rattle.program_image.specs.Order.{line_of}
use Rattle.image_builder.proofs.Lists.{grouped}
use Rattle.image_builder.proofs.code.add_pieces.Goals as goal

-- src/code.rt:69:5
pub loop-line-preserved : goal.loop-line-preserved
loop-line-preserved c =
    let p = program_of c.args.p.now in
    let line = c.loop-line.line in
    let old = c.args.code.now.items in
    let done = map (line_of p) (range_with_len 0 line) in
    let own = c.in_ok-handler_code.ensures ∙ ap handler_of (c.handler_of.ensures ∙ ap (λ hs. handler_in hs line) c.as_slice.ensures) in
    c.in_ok-push-2.ensures.items ∙ ap (λ l. l ++ c.in_ok-handler_code.field-0 ∷ []) c.loop-line.invariant
    ∙ grouped old (reset_of p.boot ∷ done) (c.in_ok-handler_code.field-0 ∷ [])
    ∙ ap (λ x. old ++ reset_of p.boot ∷ (done ++ x ∷ [])) own
    ∙ ap (λ l. old ++ reset_of p.boot ∷ l) (sym (map-range_with_len_more (line_of p) 0 line line (omega arith)))
