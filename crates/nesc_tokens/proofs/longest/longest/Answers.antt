use Rattle.std.proofs.Common.{sym}
use Rattle.nesc_tokens.proofs.LexemeKinds.{longest_found, none_alone}
use Rattle.nesc_tokens.proofs.longest.longest.Goals as goal

pub returns-in-Some-clause-found : goal.returns-in-Some-clause-found
returns-in-Some-clause-found c = longest_found _ _ c.args.bytes.now (sym c.kind_at-kind.ensures) c.requires c.in-Some.ensures

pub returns-in-None-clause-none : goal.returns-in-None-clause-none
returns-in-None-clause-none c = none_alone c.kind_at-kind.result c.args.bytes.now (sym c.kind_at-kind.ensures) c.requires c.in-None.ensures
