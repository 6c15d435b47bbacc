use Rattle.std.proofs.Common.{◌∙◌, ap, false}
use Rattle.std.specs.Prelude.{unwrap_or}
use Rattle.nesc_tree.specs.Sorts.{is_type}
use Rattle.nesc_tree.proofs.Held.{held}
use Rattle.nesc_tree.proofs.names.TypeNames.has.Goals as goal

pub returns : goal.returns
returns c =
    c.unwrap_or.ensures ∙ (ap (λ o. unwrap_or o false) (c.copied.ensures ∙ c.get.ensures.value) ∙ (held c.as_bytes.result.now c.self.inside.names.entries ∙ (ap (is_type _) c.as_bytes.ensures ∙ ap (λ n. is_type n c.args.name.now) c.self.view_is)))
