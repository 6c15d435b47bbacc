use Rattle.std.proofs.Common.{refl}
use Rattle.std.specs.Fmt.{digits}
use Rattle.generated_files.specs.Generated.{configuration_text, module_text, interrupt_text}
use Rattle.generated_files.proofs.rows.worked_rows.Goals as goal

pub returns-clause-files : goal.returns-clause-files
unfolding digits configuration_text module_text interrupt_text
returns-clause-files c = record { one = refl; two = refl; last_name = refl; last_task = refl; last_wire = refl }

pub returns-clause-schedule : goal.returns-clause-schedule
returns-clause-schedule c = record { all = refl }
