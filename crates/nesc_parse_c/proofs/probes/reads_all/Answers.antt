use Rattle.std.proofs.Common.{◌≡◌, IfOk, sym, subst}
use Rattle.nesc_tree.specs.Phrase.{Phrase}
use Rattle.nesc_parse_c.specs.declared.probes.Wanted.{Wanted}
use Rattle.nesc_parse_c.specs.Probes.{is_ended, phrase_of, read_of}
use Rattle.nesc_parse_c.proofs.Stands.{ended}
use Rattle.nesc_parse_c.proofs.Refusals.{type_read}
use Rattle.nesc_parse_types.specs.Gives.{Gives}
use Rattle.nesc_parse_c.proofs.probes.reads_all.Goals as goal

pub returns-in-Expr : goal.returns-in-Expr
returns-in-Expr c =
    rw (c.in-Expr.is) (ended c.args.names.now c.expr.result (read_of (Phrase.expr 0) c.args.names.now c.args.ts.now) c.is_ended.result c.is_ended.ensures c.expr.ensures)

pub returns-in-Type : goal.returns-in-Type
returns-in-Type c =
    rw (c.in-Type.is) (ended c.args.names.now c.type_form.result (read_of Phrase.type c.args.names.now c.args.ts.now) c.is_ended-in-Type.result c.is_ended-in-Type.ensures (subst (Gives c.args.names.now c.type_form.result) (type_read c.args.names.now c.args.ts.now) c.type_form.ensures))
