use Rattle.std.proofs.Common.{◌∙◌, ap, sym}
use Rattle.nesc_core.specs.View.{program_of}
use Rattle.race_report.specs.Firsts.{first_at}
use Rattle.race_report.proofs.FirstLemmas.{marked_first, unmarked_first}
use Rattle.race_report.proofs.paths.first_body.Goals as goal

pub returns-then-is_norace : goal.returns-then-is_norace
returns-then-is_norace c = marked_first (program_of c.args.s.now.p.now) c.args.s.now.handlers.order.items c.args.x (sym c.is_norace.ensures ∙ c.if-is_norace.true)

pub returns : goal.returns
returns c =
    c.first_of.ensures ∙ ap (λ firsts. first_at firsts c.args.x) c.deref.ensures.value
    ∙ unmarked_first (program_of c.args.s.now.p.now) c.args.s.now.handlers.order.items c.args.s.now.firsts.items c.args.x c.requires.firsts (sym c.is_norace.ensures ∙ c.if-is_norace.false)
