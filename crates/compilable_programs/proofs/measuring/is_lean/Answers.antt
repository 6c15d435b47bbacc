use Rattle.nesc_core.specs.View.{program_of}
use Rattle.compilable_programs.proofs.Switches.{lean_program, measured_program}
use Rattle.compilable_programs.proofs.measuring.is_lean.Goals as goal

pub returns-clause-lean : goal.returns-clause-lean
returns-clause-lean c = λ e. lean_program (program_of c.args.p.now) (c.are_lean_bodies.ensures e)

pub returns-clause-measured : goal.returns-clause-measured
returns-clause-measured c = λ e. measured_program (program_of c.args.p.now) (c.are_lean_bodies.ensures e)
