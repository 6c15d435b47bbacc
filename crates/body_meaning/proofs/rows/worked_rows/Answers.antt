use Rattle.std.proofs.Common.{refl}
use Rattle.std.specs.Int.{int_wrap}
use Rattle.elab_meaning.specs.Wired.{valued, argument, measured, size_of}
use Rattle.body_meaning.proofs.rows.worked_rows.Goals as goal

pub returns : goal.returns
unfolding int_wrap valued argument measured size_of
returns c = record {
  wired = record { plain_ones = refl; nothing_returned = refl; branches = refl; loops = refl; declarations = refl; copies = refl; scopes = refl; switches = refl };
  refused = record { bad_types = refl; too_many = refl; of_names = refl; first_of_two = refl };
}
