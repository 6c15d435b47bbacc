use Rattle.std.proofs.Common.{◌∙◌, ◌++◌, ◌∷◌, [], ap, append_assoc}
use Rattle.std.specs.Prelude.{codes}
use Rattle.race_text.proofs.printing.push_no_combine.Goals as goal

pub returns : goal.returns
returns c =
    c.in_ok-push.ensures.items
    ∙ ap (λ xs. xs ++ 10 ∷ []) (c.in_ok-extend_from_slice-2.ensures.items ∙ ap (λ xs. xs ++ c.args.name.now) c.in_ok-extend_from_slice.ensures.items)
    ∙ append_assoc (c.args.text.now.items ++ codes " no combine for ") c.args.name.now (10 ∷ [])
    ∙ append_assoc c.args.text.now.items (codes " no combine for ") (c.args.name.now ++ 10 ∷ [])
