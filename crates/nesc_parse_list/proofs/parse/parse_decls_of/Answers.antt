use Rattle.std.proofs.Common.{◌-◌, Ok, length, take, drop, subst}
use Rattle.nesc_grammar.specs.Declarations.{decls_before}
use Rattle.nesc_parse_types.specs.Gives.{form_in, place}
use Rattle.nesc_left_out.proofs.Faults.{seen}
use Rattle.nesc_parse_list.specs.Listed.{Stops, spare}
use Rattle.nesc_parse_list.proofs.Spelled.{inside, lists, fails_by}
use Rattle.nesc_parse_list.proofs.parse.parse_decls_of.Goals as goal

pub overflow_sub-result : goal.overflow_sub-result
overflow_sub-result c =
    inside c.args.site c.args.file c.args.ts.now c.args.at c.args.names.now c.requires c.ended.new.names c.in-Ok.rest.now c.in-Ok.list
    (seen c.args.ts.now c.args.at (λ us. form_in spare (decls_before c.args.site) c.args.names.now us) (Ok (c.in-Ok.list, place c.ended.new.names c.in-Ok.rest.now)) c.in-Ok.ensures.ends.0)

pub returns-in-Ok-clause-parsed : goal.returns-in-Ok-clause-parsed
returns-in-Ok-clause-parsed c =
    lists c.args.site c.args.file c.args.ts.now c.args.at c.args.names.now c.requires c.ended.new.names c.in-Ok.rest.now c.in-Ok.list
    (seen c.args.ts.now c.args.at (λ us. form_in spare (decls_before c.args.site) c.args.names.now us) (Ok (c.in-Ok.list, place c.ended.new.names c.in-Ok.rest.now)) c.in-Ok.ensures.ends.0) c.in-Ok.ensures.ends.1

pub returns-in-Err-Deep-clause-parsed : goal.returns-in-Err-Deep-clause-parsed
returns-in-Err-Deep-clause-parsed c = fails_by c.args.site c.args.file c.args.ts.now c.args.at c.args.names.now c.requires c.ended.new.names c.fault_of.result c.in-Err-Deep.ensures.kept c.fault_of.ensures.told (subst (Stops c.args.site c.args.names.now (take (length c.args.ts.now - c.args.at) (drop c.args.at c.args.ts.now))) c.in-Err-Deep.field-0-is c.in-Err-Deep.ensures.ends.1)

pub returns-in-Err-Syntax-clause-parsed : goal.returns-in-Err-Syntax-clause-parsed
returns-in-Err-Syntax-clause-parsed c = fails_by c.args.site c.args.file c.args.ts.now c.args.at c.args.names.now c.requires c.ended.new.names c.refused.result c.in-Err-Syntax.ensures.kept c.refused.ensures.told (subst (Stops c.args.site c.args.names.now (take (length c.args.ts.now - c.args.at) (drop c.args.at c.args.ts.now))) c.in-Err-Syntax.field-0-is c.in-Err-Syntax.ensures.ends.1)
