use Rattle.std.proofs.Common.{◌++◌, ◌∷◌, [], List, length, map, ap, ◌∙◌}
use Rattle.std.specs.List.{range_with_len}
use Rattle.nesc_core.specs.View.{program_of}
use Rattle.msp_isa.specs.declared.code.CodeFn.{CodeFn}
use Rattle.task_pieces.specs.Loop.{loop_of}
use Rattle.program_image.specs.Order.{line_of}
use Rattle.task_image.specs.Order.{lone}
use Rattle.program_builder.proofs.Numbered.{two_more}
use Rattle.program_builder.proofs.code.add_pieces.Goals as goal

pub returns : goal.returns
returns c =
    let p = program_of c.args.k.now.program in
    let base = c.args.code.now.items in
    let x = c.in_ok-lone.field-0 in
    let y = c.in_ok-loop_code.field-0 in
    let lines = map (line_of p) (range_with_len 0 8) in
    c.in_ok-add_lines.ensures ∙ ap (λ (l : List CodeFn). l ++ lines) (c.in_ok-push-2.ensures.items ∙ ap (λ (l : List CodeFn). l ++ y ∷ []) c.in_ok-push.ensures.items)
    ∙ two_more base x y lines
    ∙ ap (λ (z : CodeFn). base ++ (z ∷ y ∷ lines)) c.in_ok-lone.ensures
    ∙ ap (λ (z : CodeFn). base ++ (lone ∷ z ∷ lines)) (c.in_ok-loop_code.ensures
    ∙ ap (λ n. loop_of p.boot c.args.k.now.pop n c.as_slice.result.now) (c.len-none.ensures ∙ c.args.code.now.ok.0)
    ∙ ap (λ ts. loop_of p.boot c.args.k.now.pop (length base) ts) c.as_slice.ensures)
