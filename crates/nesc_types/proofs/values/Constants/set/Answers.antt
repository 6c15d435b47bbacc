use Rattle.std.proofs.Common.{◌∙◌, ap, ℕ, ℤ, List, w64, to_z, of_z}
use Rattle.std.proofs.lemmas.Int.{to_z-of_z}
use Rattle.nesc_types.specs.Values.{Values, Constant, with_value, held}
use Rattle.nesc_types.proofs.Found.{inserted, is_map}
use Rattle.nesc_types.proofs.values.Constants.set.Goals as goal

pub returns-clause-set : goal.returns-clause-set
returns-clause-set c =
    let x : Constant = (c.args.t, to_z w64 (of_z w64 c.args.value)) in
    ap held c.in_ok-insert.ensures.entries
    ∙ (inserted c.in_ok-key.key x c.self.inside.values.entries
    ∙ (ap (λ (text : List ℕ). with_value text x (held c.self.inside.values.entries)) (c.in_ok-key.ensures ∙ c.as_bytes.ensures)
    ∙ (ap (λ (vs : Values). with_value c.args.name.now x vs) c.self.view_is
    ∙ ap (λ (z : ℤ). with_value c.args.name.now (c.args.t, z) c.args.self.now) (to_z-of_z w64 c.args.value c.ranges.value))))

pub returns-clause-found : goal.returns-clause-found
returns-clause-found c = (is_map c.args.name.now (c.args.t, c.args.value) c.args.self.now _ (returns-clause-set c)).0

pub returns-clause-others : goal.returns-clause-others
returns-clause-others c = (is_map c.args.name.now (c.args.t, c.args.value) c.args.self.now _ (returns-clause-set c)).1
