use Rattle.std.proofs.Common.{◌≡◌, ◌++◌, map, drop}
use Rattle.elab_meaning.specs.View.{struct_of}
use Rattle.program_meaning.specs.Modules.{struct_as}
use Rattle.elab_told.specs.View.{met_of}
use Rattle.elab_told.proofs.structs.push_structs.Given as goal

abbrev pub invariant-loop-x : goal.invariant-loop-x
invariant-loop-x l =
    map struct_of l.all.items ++ map (struct_as (met_of l.met)) (map struct_of (drop l.x-index l.structs))
    ≡ map struct_of l.fn.all.items ++ map (struct_as (met_of l.met)) (map struct_of l.structs)
