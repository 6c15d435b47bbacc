use Rattle.std.proofs.Common.{◌∙◌}
use Rattle.nesc_left_out.specs.Left as left
use Rattle.nesc_left_out.proofs.Stands.{stands}
use Rattle.nesc_left_out.proofs.probes.could_stand.Goals as goal

pub returns-clause-told : goal.returns-clause-told
returns-clause-told g c =
    stands (g.R.Reader.spare c.args.reader.now) (g.R.Reader.phrase c.args.reader.now) c.requires.fits c.args.names.now c.args.before.now c.as_slice.result.now c.in_ok-probe.probe (left.token c.args.kind c.args.text.now) c.reads_all.result c.requires.begins (c.as_slice.ensures.value ∙ c.in_ok-longer.ensures) c.in_ok-probe.ensures c.reads_all.ensures.told
