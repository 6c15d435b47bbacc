use Rattle.std.proofs.Common.{sym, subst, ◌∙◌}
use Rattle.nesc_parse_types.specs.Gives.{GivesToken}
use Rattle.nesc_parse_list.proofs.Spelled.{end_stands, no_end}
use Rattle.nesc_parse_list.proofs.lists.end_token.Goals as goal

pub returns-then-ends_decls : goal.returns-then-ends_decls
returns-then-ends_decls c = λ levels l.
    subst (GivesToken c.args.names.now c.expect.result) (sym (end_stands levels c.args.names.now c.args.ts.now l c.ahead-first.result c.ahead-first.ensures (sym c.ends_decls.ensures ∙ c.if-ends_decls.true))) c.expect.ensures

pub returns-else-ends_decls : goal.returns-else-ends_decls
returns-else-ends_decls c = λ levels l. no_end levels c.args.names.now c.args.ts.now l c.ahead-first.result c.ahead-first.ensures (sym c.ends_decls.ensures ∙ c.if-ends_decls.false)
