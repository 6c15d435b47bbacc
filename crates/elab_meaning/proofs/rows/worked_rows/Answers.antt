use Rattle.std.proofs.Common.{refl}
use Rattle.std.specs.Int.{int_wrap}
use Rattle.elab_meaning.specs.Wired.{valued, argument, measured, size_of}
use Rattle.elab_meaning.proofs.rows.worked_rows.Goals as goal

pub returns : goal.returns
unfolding int_wrap valued argument measured size_of
returns c = record {
  values = record { literals = refl; sizes = refl; prefixes = refl; arithmetic = refl; shifts = refl; comparisons = refl; exchanged = refl; pointers = refl; choices = refl; casts = refl; calls = refl; items = refl };
  places = record { variables = refl; arrays = refl; addresses = refl; elements = refl; assignments = refl; updates = refl; steps = refl; structs = refl; chains = refl };
  types = record { constants = refl; no_constants = refl; types = refl; bad_types = refl; structs_made = refl; bad_structs = refl; enums = refl; bad_enums = refl };
  numbers = record { numbers = refl; orders = refl };
  refusals = record { not_assignable = refl; of_locals = refl; unknown = refl; counts_and_ports = refl; operands = refl; pointers_and_voids = refl; conversions = refl; calls = refl; first_refusals = refl };
}
