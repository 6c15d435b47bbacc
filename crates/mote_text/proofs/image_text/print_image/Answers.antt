use Rattle.std.proofs.Common.{◌++◌, sym, append_assoc, ◌∙◌}
use Rattle.std.specs.Prelude.{codes}
use Rattle.nm_base.proofs.Writing.{fails, goes_on, stops, writes_more}
use Rattle.mote_text.proofs.Writing.{code_section, image_pieces, vector_section}
use Rattle.mote_text.proofs.image_text.print_image.Goals as goal

pub returns-in_err-write_section : goal.returns-in_err-write_section
returns-in_err-write_section g c =
    let code = code_section c.deref.result.now in
    let vectors = vector_section c.args.image.now.vectors in
    fails _ c.from_residual.result _ _ code (vectors ++ codes "q\n") _ c.from_residual.ensures.0
    (sym (image_pieces c.deref.result.now c.args.image.now.code.items c.args.image.now.vectors c.deref.ensures.value)) c.in_err-write_section.ensures

pub returns-in_err-write_section-2 : goal.returns-in_err-write_section-2
returns-in_err-write_section-2 g c =
    let code = code_section c.deref.result.now in
    let vectors = vector_section c.args.image.now.vectors in
    stops (tt {0}) _ c.from_residual-in_err-write_section-2.result _ _ _ code vectors (codes "q\n") _ c.from_residual-in_err-write_section-2.ensures.0
    (sym (append_assoc code vectors (codes "q\n") ∙ image_pieces c.deref.result.now c.args.image.now.code.items c.args.image.now.vectors c.deref.ensures.value))
    c.in_ok-write_section.ensures c.in_err-write_section-2.ensures

pub returns : goal.returns
returns g c =
    let code = code_section c.deref.result.now in
    let vectors = vector_section c.args.image.now.vectors in
    goes_on (tt {0}) _ _ _ _ (code ++ vectors) (codes "q\n") _
    (sym (append_assoc code vectors (codes "q\n") ∙ image_pieces c.deref.result.now c.args.image.now.code.items c.args.image.now.vectors c.deref.ensures.value))
    (writes_more (tt {0}) _ _ _ _ code vectors c.in_ok-write_section.ensures c.in_ok-write_section-2.ensures) c.write_all.ensures
