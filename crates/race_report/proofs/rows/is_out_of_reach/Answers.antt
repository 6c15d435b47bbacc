use Rattle.std.proofs.Common.{◌∙◌, ap, sym, arith}
use Rattle.std.proofs.Math.ListN as list
use Rattle.nesc_core.specs.View.{body_of, program_of}
use Rattle.race_report.specs.Parts.{is_marked}
use Rattle.race_report.proofs.PathLemmas.{not_bare}
use Rattle.race_report.proofs.RowLemmas.{not_true}
use Rattle.race_report.proofs.rows.is_out_of_reach.Goals as goal

pub returns : goal.returns
returns c = λ far.
    not_bare (program_of c.args.s.now.p.now) c.args.s.now.g.now c.requires.known.graph c.args.f (omega (arith, c.requires.inside, list.length-map c.args.s.now.p.now.bodies body_of))
    (ap (λ ms. is_marked ms c.args.f) (sym c.deref.ensures.value) ∙ sym c.is_marked.ensures ∙ not_true c.is_marked.result far)
