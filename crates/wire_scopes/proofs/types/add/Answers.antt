use Rattle.std.proofs.Common.{◌∙◌, ◌++◌, ◌∷◌, [], ap, cond, map}
use Rattle.std.specs.List.{list_any}
use Rattle.wire_names.specs.Texts.{same_text, text}
use Rattle.wire_names.proofs.Mapped.{position_or_len-map, list_any-map, map-added}
use Rattle.wire_scopes.proofs.types.add.Goals as goal

pub returns-clause-number : goal.returns-clause-number
returns-clause-number c =
    c.in_ok-number.ensures.index ∙ position_or_len-map text (same_text c.args.key.items) c.args.keys.now.keys

pub returns-clause-keys : goal.returns-clause-keys
returns-clause-keys c =
    let keys = c.args.keys.now.keys in
    ap (map text) c.in_ok-number.ensures.keys ∙ (map-added text (list_any (λ y. same_text c.args.key.items (text y)) keys) keys c.args.key
    ∙ ap (λ t. cond t (map text keys) (map text keys ++ text c.args.key ∷ [])) (list_any-map text (same_text c.args.key.items) keys))
