use Rattle.std.proofs.Common.{drop, None, Some, sym, subst, suc}
use Rattle.nesc_grammar.specs.Reach.{BeginsIn}
use Rattle.nesc_left_out.specs.Probes.{TellsForm}
use Rattle.nesc_left_out.proofs.Faults.{rest_fits, starts_before, begins, first_of, at_end, plain, left_out}
use Rattle.nesc_left_out.proofs.refusals.refused.Goals as goal

pub before_rest-before-requires-clause-whole : goal.before_rest-before-requires-clause-whole
before_rest-before-requires-clause-whole g c = rest_fits (g.R.Reader.spare c.args.reader.now) (g.R.Reader.phrase c.args.reader.now) c.requires.fits c.args.file c.args.ts.now c.args.at c.args.names.now c.requires.inside c.args.rest.now c.requires.stops

pub before_rest-before-requires-clause-starts : goal.before_rest-before-requires-clause-starts
before_rest-before-requires-clause-starts g c = starts_before (g.R.Reader.spare c.args.reader.now) (g.R.Reader.phrase c.args.reader.now) c.requires.fits c.args.file c.args.ts.now c.args.at c.args.names.now c.requires.inside c.args.rest.now c.requires.stops

pub left_out-requires-clause-begins : goal.left_out-requires-clause-begins
left_out-requires-clause-begins g c = subst (BeginsIn (suc (g.R.Reader.spare c.args.reader.now)) (g.R.Reader.phrase c.args.reader.now) c.args.names.now) (sym c.before_rest-before.ensures) (begins (g.R.Reader.spare c.args.reader.now) (g.R.Reader.phrase c.args.reader.now) c.requires.fits c.args.file c.args.ts.now c.args.at c.args.names.now c.requires.inside c.args.rest.now c.requires.stops)

pub returns-in-empty-clause-told : goal.returns-in-empty-clause-told
returns-in-empty-clause-told g c = at_end (g.R.Reader.spare c.args.reader.now) (g.R.Reader.phrase c.args.reader.now) c.requires.fits c.args.file c.args.ts.now c.args.at c.args.names.now c.requires.inside c.args.rest.now c.requires.stops c.place_of-pos.result c.place_of-pos.ensures c.in-empty.len_below

pub returns-in-Ok-None-clause-told : goal.returns-in-Ok-None-clause-told
returns-in-Ok-None-clause-told g c =
    let first = first_of c.args.rest.now c.token-item.result c.in-len1-up.len_at_least c.token-item.is in
    plain (g.R.Reader.spare c.args.reader.now) (g.R.Reader.phrase c.args.reader.now) c.requires.fits c.args.file c.args.ts.now c.args.at c.args.names.now c.requires.inside c.args.rest.now c.requires.stops c.place_of-pos.result c.place_of-pos.ensures c.token-item.result (drop 1 c.args.rest.now) first
    (subst (λ us. TellsForm (g.R.Reader.phrase c.args.reader.now) c.args.names.now us c.token-item.result None) c.before_rest-before.ensures (subst (TellsForm (g.R.Reader.phrase c.args.reader.now) c.args.names.now c.before_rest-before.result.now c.token-item.result) c.in-Ok-None.field-0-is c.in-Ok-None.ensures.told))

pub returns-in-Ok-Some-clause-told : goal.returns-in-Ok-Some-clause-told
returns-in-Ok-Some-clause-told g c =
    let first = first_of c.args.rest.now c.token-item.result c.in-len1-up.len_at_least c.token-item.is in
    left_out (g.R.Reader.spare c.args.reader.now) (g.R.Reader.phrase c.args.reader.now) c.requires.fits c.args.file c.args.ts.now c.args.at c.args.names.now c.requires.inside c.args.rest.now c.requires.stops c.place_of-pos.result c.place_of-pos.ensures c.token-item.result (drop 1 c.args.rest.now) first c.in-Ok-Some.word
    (subst (λ us. TellsForm (g.R.Reader.phrase c.args.reader.now) c.args.names.now us c.token-item.result (Some c.in-Ok-Some.word)) c.before_rest-before.ensures (subst (TellsForm (g.R.Reader.phrase c.args.reader.now) c.args.names.now c.before_rest-before.result.now c.token-item.result) c.in-Ok-Some.field-0-is c.in-Ok-Some.ensures.told))
