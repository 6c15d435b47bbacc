-- One parameter of a generic component (own: a step of `given_names` of the meaning).
use Rattle.elab_meaning.specs.Elab.{Elab, add_name}
use Rattle.program_meaning.specs.Items.{meaning_of}
use Rattle.program_meaning.specs.Parts.{Given}

abbrev pub given_name : Given → Elab (Unit {0})
given_name x = add_name x.name (meaning_of x.argument)
