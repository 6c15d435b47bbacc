-- The whole program so far seen as plain data (own).
use Rattle.std.specs.Prelude.{map}
use Rattle.std.specs.Option.{option_map}
use Rattle.nesc_core.specs.View.{body_of, stmt_of, type_of, warning_of}
use Rattle.elab_facts.specs.View.{declared_of}
use Rattle.elab_making.specs.declared.whole.Whole as rust
use Rattle.elab_meaning.specs.View.{state_of}
use Rattle.elab_objects.specs.View.{boot_of, variable_of}
use Rattle.program_meaning.specs.Making.{Whole}

abbrev pub whole_of : rust.Whole → Whole
whole_of w = record {
  work = state_of w.work;
  declared = map declared_of w.declared.items;
  variables = map variable_of w.variables.items;
  initial = map stmt_of w.initial.items;
  boot_locals = map type_of w.boot_locals.items;
  boot = option_map boot_of w.boot;
  bodies = map body_of w.bodies.items;
  handlers = w.handlers.items;
  dispatch = map body_of w.dispatch.items;
  warnings = map warning_of w.warnings.items;
}
