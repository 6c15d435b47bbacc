use Rattle.std.proofs.Common.{sym, ap, ◌∙◌}
use Rattle.nesc_parse_comp.specs.Named.{opens, named}
use Rattle.nesc_parse_comp.specs.Units.{differs}
use Rattle.nesc_parse_comp.proofs.Words.{found_at, skipped_at}
use Rattle.nesc_parse_comp.proofs.named.other_name.Goals as goal

pub returns-then-opens : goal.returns-then-opens
returns-then-opens c =
    let opened = sym (c.opens.ensures ∙ ap opens c.sort_of.ensures) ∙ c.if-opens.true in
    c.differs.ensures ∙ ap (differs c.args.name.now) (sym (found_at c.args.names.now c.in-Some.token.now c.in-Some.behind.now opened) ∙ (sym (ap named c.in-Some.ensures.cases.0) ∙ c.loop-token.invariant))

pub loop-token-preserved : goal.loop-token-preserved
loop-token-preserved c =
    let passed = sym (c.opens.ensures ∙ ap opens c.sort_of.ensures) ∙ c.if-opens.false in
    sym (skipped_at c.args.names.now c.in-Some.token.now c.in-Some.behind.now passed) ∙ (sym (ap named c.in-Some.ensures.cases.0) ∙ c.loop-token.invariant)
