-- What is lacking in a module, in the order of the text: the specification comes before the implementation.
use Rattle.std.specs.Prelude.{List, [], ◌++◌, Ok, Err}
use Rattle.nm_base.specs.declared.pos.Pos.{Pos}
use Rattle.nesc_types.specs.Rule.{Rule}
use Rattle.elab_meaning.specs.Scope.{Env}
use Rattle.elab_meaning.specs.Elab.{State}
use Rattle.nesc_unwired.specs.Told.{lacking}
use Rattle.nesc_unwired.specs.Calls.{Module, all_declared}

abbrev pub found : Rule (List Pos × State) → List Pos
found (Ok x) = x.0
found (Err e) = []

-- inside the scope of its parameters and elements
abbrev pub unwired : Env → Module → State → List Pos
unwired env m x = lacking m.decls m.elements ++ found (all_declared env m m.decls x)
