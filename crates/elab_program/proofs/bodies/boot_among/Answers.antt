use Rattle.std.proofs.Common.{map}
use Rattle.elab_program.proofs.Boots.{boot_there, if_ok, none_there}
use Rattle.elab_program.proofs.bodies.boot_among.Goals as goal
use Rattle.nesc_core.specs.View.{stmt_of, type_of}

pub returns-in-None : goal.returns-in-None
returns-in-None c =
    none_there (map type_of c.args.locals.now.items) (map stmt_of c.args.initial.now.items) c.args.bodies.now.items c.args.number c.in-None.ensures.item.3

pub returns-in-Some : goal.returns-in-Some
returns-in-Some c =
    if_ok c.boot_body.result
    (boot_there (map type_of c.args.locals.now.items) (map stmt_of c.args.initial.now.items) c.args.bodies.now.items c.args.number c.in-Some.body.now c.boot_body.new.body c.in-Some.body.now c.in-Some.ensures.item.3.0 c.in-Some.ensures.value)
    c.boot_body.ensures
