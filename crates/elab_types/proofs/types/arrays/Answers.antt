use Rattle.std.proofs.Common.{◌≡◌, ◌∙◌, ◌++◌, ◌∷◌, [], ap, subst, sym, map, rules}
use Rattle.nesc_core.specs.View.{type_of}
use Rattle.nesc_types.specs.Rule.{◌>>=◌}
use Rattle.elab_meaning.specs.Answers.{Follows}
use Rattle.elab_meaning.specs.Operators.{array_of, arrays}
use Rattle.elab_meaning.specs.View.{struct_of}
use Rattle.elab_types.proofs.Lengths.{arrays-last}
use Rattle.elab_types.proofs.types.arrays.Goals as goal

pub returns-in_err-t : goal.returns-in_err-t
returns-in_err-t c =
    let structs = map struct_of c.args.structs.now in
    let at = c.args.at in
    let t = type_of c.lengths.t in
    let rest = c.pop.new.self.items in
    let cut : c.lengths.rest.items ≡ rest ++ (c.in-Some.n ∷ []) = c.in-Some.ensures.items in
    let whole : arrays structs at (type_of c.args.part) c.args.lengths.items ≡ (array_of structs at t c.in-Some.n >>= λ u. arrays structs at u rest) =
    sym c.lengths.invariant ∙ (ap (arrays structs at t) cut ∙ arrays-last structs at t c.in-Some.n rest)
    in
    subst (λ r. Follows type_of c.from_residual.result r) (sym whole) (search rules)
