use Rattle.std.proofs.Common.{sym, subst, ◌∙◌}
use Rattle.nesc_tree.specs.declared.sorts.Sort.TheVariants as s
use Rattle.nesc_grammar.specs.Declarations as spec
use Rattle.nesc_parse_types.specs.Gives.{Gives}
use Rattle.nesc_declarations.proofs.Forms.{by_at, no_body_case}
use Rattle.nesc_declarations.proofs.functions.some_body.Goals as goal

pub returns-in-LBrace-clause-gives : goal.returns-in-LBrace-clause-gives
returns-in-LBrace-clause-gives c = subst (Gives c.args.names.now c.body.result) (sym (by_at c.args.spare spec.body_of c.args.names.now c.args.ts.now c.requires.room s.LBrace (sym c.in-LBrace.is ∙ c.ahead.ensures))) c.body.ensures.gives

pub returns-in-Semi-clause-gives : goal.returns-in-Semi-clause-gives
returns-in-Semi-clause-gives c = subst (Gives c.args.names.now c.no_body.result) (sym (by_at c.args.spare spec.body_of c.args.names.now c.args.ts.now c.requires.room s.Semi (sym c.in-Semi.is ∙ c.ahead.ensures))) c.no_body.ensures

pub returns-in_default-clause-gives : goal.returns-in_default-clause-gives
returns-in_default-clause-gives c = by_at c.args.spare spec.body_of c.args.names.now c.args.ts.now c.requires.room c.ahead.result c.ahead.ensures ∙ no_body_case c.args.spare c.args.names.now c.args.ts.now c.ahead.result c.in_default.not-LBrace c.in_default.not-Semi
