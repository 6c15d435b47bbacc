use Rattle.wire_reading.specs.Order.{component}
use Rattle.std.proofs.Common.{[], ◌∷◌}
use Rattle.wire_reading.proofs.OneReading.{all_one}
use Rattle.wire_reading.proofs.laws.one_reading.Goals as goal

pub returns : goal.returns
returns g c = λ told one app main s x y a b. all_one (g.O.Opener.Opens told) one (component app ∷ component main ∷ []) [] s x y a b
