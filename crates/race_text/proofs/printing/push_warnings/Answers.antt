use Rattle.std.proofs.Common.{◌++◌, map}
use Rattle.std.specs.List.{flat_map}
use Rattle.nesc_core.specs.View.{warning_of}
use Rattle.nesc_preproc.specs.Kept.{name_at}
use Rattle.race_text.specs.Text.{warning_text}
use Rattle.race_text.proofs.TextLemmas.{warnings_step}
use Rattle.race_text.proofs.printing.push_warnings.Goals as goal

pub loop-w-preserved : goal.loop-w-preserved
loop-w-preserved c =
    warnings_step (warning_text (name_at c.args.files.now)) c.args.warnings.now c.loop-w.w-index c.w-item.result c.loop-w.text.items c.push_warning.new.text.items
    (c.args.text.now.items ++ flat_map (warning_text (name_at c.args.files.now)) (map warning_of c.args.warnings.now))
    c.loop-w-test.true c.w-item.is c.loop-w.invariant c.in_ok-push_warning.ensures
