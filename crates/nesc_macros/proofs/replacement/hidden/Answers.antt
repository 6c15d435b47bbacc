use Rattle.nesc_macros.specs.Numbers.{names_of}
use Rattle.nesc_macros.proofs.replacement.hidden.Goals as goal

pub returns : goal.returns
returns c scope =
    let same = c.in_ok-clone.ensures.cases in
    λ i. record { token = record { kind = same.0 i; text = same.1.0 i; pos = same.1.1.0 i; first = same.1.1.1 i }; hide_set = names_of scope c.args.hide_set.now }
