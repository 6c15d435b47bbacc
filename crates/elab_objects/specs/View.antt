-- Variables and the boot function seen as plain data (own).
use Rattle.nesc_core.specs.View.{type_of}
use Rattle.elab_objects.specs.declared.variables.Boot as boot
use Rattle.elab_objects.specs.declared.variables.Variable as variable
use Rattle.program_meaning.specs.Making.{Boot, Variable}

abbrev pub variable_of : variable.Variable → Variable
variable_of v = record { name = v.name; ty = type_of v.ty; norace = v.norace }

abbrev pub boot_of : boot.Boot → Boot
boot_of b = record { body = b.body; at = b.at }
