use Rattle.std.proofs.Common.{◌++◌, List, ap, sym, subst, ◌∙◌, arith}
use Rattle.nesc_core.specs.View.{program_of}
use Rattle.msp_isa.specs.declared.code.CodeFn.{CodeFn}
use Rattle.mid_code.specs.declared.code.MidCode.{MidCode}
use Rattle.msp_routines.specs.Routines.{routine_fns}
use Rattle.select_emitter.specs.Code.{CanBeSelected, all_code}
use Rattle.image_code.specs.Laws.{CanBeChecked}
use Rattle.image_code.proofs.Good.{lowered_can_be_selected}
use Rattle.program_builder.proofs.Numbered.{code_is, made_long, places_few}
use Rattle.program_builder.proofs.code.code_of.Goals as goal

pub select-requires : goal.select-requires
select-requires c = subst CanBeSelected (sym c.in_ok-middle.ensures.code) (lowered_can_be_selected (program_of c.args.k.now.program) c.requires.well c.requires.short)

pub add_pieces-requires-clause-few : goal.add_pieces-requires-clause-few
add_pieces-requires-clause-few c =
    let p = program_of c.args.k.now.program in
    let m = c.in_ok-middle.middle in
    let can = subst (λ (m : MidCode). CanBeChecked m.checks) c.in_ok-middle.ensures.code c.in_ok-add_routines.ensures.checks in
    let front =
    c.in_ok-add_routines.ensures.code ∙ ap (λ (l : List CodeFn). l ++ routine_fns m.checks) c.in_ok-code.ensures
    ∙ ap (λ (m : MidCode). all_code m ++ routine_fns m.checks) c.in_ok-middle.ensures.code in
    omega (arith, made_long p c.requires.short can c.args.k.now.pop _ front, places_few p c.requires.short can)

pub returns-clause-code : goal.returns-clause-code
returns-clause-code c =
    let p = program_of c.args.k.now.program in
    let m = c.in_ok-middle.middle in
    let can = subst (λ (m : MidCode). CanBeChecked m.checks) c.in_ok-middle.ensures.code c.in_ok-add_routines.ensures.checks in
    let front =
    c.in_ok-add_routines.ensures.code ∙ ap (λ (l : List CodeFn). l ++ routine_fns m.checks) c.in_ok-code.ensures
    ∙ ap (λ (m : MidCode). all_code m ++ routine_fns m.checks) c.in_ok-middle.ensures.code in
    code_is p c.requires.short can c.args.k.now.pop _ front _ c.in_ok-add_pieces.ensures
