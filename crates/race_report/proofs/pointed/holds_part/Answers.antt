use Rattle.std.proofs.Common.{◌∙◌}
use Rattle.nesc_core.specs.View.{object_of, structs_of, type_of}
use Rattle.race_report.specs.Parts.{is_marked}
use Rattle.race_report.proofs.PartLemmas.{any_object}
use Rattle.race_report.proofs.pointed.holds_part.Goals as goal

pub returns : goal.returns
returns c =
    c.has_part.ensures
    ∙ any_object (type_of c.args.t.now) (structs_of c.args.s.now) (object_of c.args.o.now) (is_marked c.args.inside.now) c.requires
