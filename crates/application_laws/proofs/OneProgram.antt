-- What is given to elaboration is one thing, and so is what it is wired to.
use Rattle.std.proofs.Common.{sym, ap, ◌∙◌}
use Rattle.given_laws.specs.OneGiven.{OneGiven}
use Rattle.program_meaning.specs.Program.{wired}
use Rattle.application_laws.specs.OneProgram.{OneProgram}

pub one_program : OneGiven → OneProgram
one_program given units made pairs a b x y = sym x.2 ∙ (ap wired (given units made pairs x.0 y.0 x.1 y.1) ∙ y.2)
