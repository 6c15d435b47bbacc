use Rattle.std.proofs.Common.{◌≡◌, ◌++◌, ap, sym, subst, ◌∙◌}
use Rattle.nesc_core.specs.View.{program_of}
use Rattle.mid_code.specs.declared.code.MidCode.{MidCode}
use Rattle.msp_routines.specs.Routines.{routine_fns}
use Rattle.select_emitter.specs.Code.{CanBeSelected, all_code}
use Rattle.program_image.specs.Order.{pieces_of}
use Rattle.image_code.proofs.Good.{lowered_can_be_selected}
use Rattle.image_builder.proofs.Lists.{grouped}
use Rattle.image_builder.proofs.code.code_of.Goals as goal

-- src/code.rt:37:20
pub select-requires : goal.select-requires
select-requires c = subst CanBeSelected (sym c.in_ok-middle.ensures.code) (lowered_can_be_selected (program_of c.args.p.now) c.requires.well c.requires.short)

-- src/code.rt:31:1
pub returns-clause-code : goal.returns-clause-code
returns-clause-code c =
    let p = program_of c.args.p.now in
    let m = c.in_ok-middle.middle in
    c.in_ok-add_pieces.ensures
    ∙ ap (λ l. l ++ pieces_of p) (c.in_ok-add_routines.ensures.code ∙ ap (λ l. l ++ routine_fns m.checks) c.in_ok-code.ensures)
    ∙ grouped (all_code m) (routine_fns m.checks) (pieces_of p)
    ∙ ap (λ (k : MidCode). all_code k ++ (routine_fns k.checks ++ pieces_of p)) c.in_ok-middle.ensures.code
