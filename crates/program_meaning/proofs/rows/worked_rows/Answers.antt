use Rattle.std.proofs.Common.{refl}
use Rattle.std.specs.Int.{int_wrap}
use Rattle.std.specs.Fmt.{digits}
use Rattle.elab_meaning.specs.Wired.{valued, argument, measured, size_of}
use Rattle.program_meaning.proofs.rows.worked_rows.Goals as goal

pub returns : goal.returns
unfolding int_wrap digits valued argument measured size_of
returns c = record {
  modules = record { numbers = refl; torn = refl; nested = refl; posts = refl; pointers = refl };
  wires = record { fan_out = refl; parameters_and_defaults = refl };
  instances = record { initial_values = refl; generic_instances = refl; given_values = refl };
  timers = record { blink = refl };
  combined = record { refused = refl; not_needed = refl; found = refl; lost = refl };
  structs = record { given_structs = refl };
  limits = record { most_tasks = refl; too_many_tasks = refl; most_bytes = refl; too_many_bytes = refl };
  refused = record { statements = refl; handlers = refl; prototypes = refl; types = refl; items = refl };
}
