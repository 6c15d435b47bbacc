use Rattle.nesc_grammar.specs.Laws.{answer}
use Rattle.nesc_left_out.proofs.Stands.{ended}
use Rattle.nesc_parse_body.specs.Parsed.{body, most}
use Rattle.nesc_parse_body.proofs.parse.reads_statement.Goals as goal

pub returns : goal.returns
returns c = record { told = ended c.args.names.now c.stmt.result (answer most body c.args.names.now c.args.ts.now) c.is_ended.result c.is_ended.ensures c.stmt.ensures.gives; back = c.stmt.ensures.back }
