use Rattle.std.proofs.Common.{◌∙◌, ◌++◌, ◌∷◌, [], ap, cond, map}
use Rattle.std.specs.List.{list_any, position_or_len}
use Rattle.wire_names.specs.Texts.{same_text, text}
use Rattle.wire_names.proofs.Mapped.{position_or_len-map, list_any-map, map-added}
use Rattle.wire_names.proofs.name_table.NameTable.add.Goals as goal

pub returns-clause-number : goal.returns-clause-number
returns-clause-number c =
    let k = c.in_ok-key.ensures ∙ c.as_bytes.ensures in
    rw k at c.in_ok-number.ensures.index ∙ (position_or_len-map text (same_text c.args.name.now) c.self.inside.names.keys ∙ ap (position_or_len (same_text c.args.name.now)) c.self.view_is)

pub returns-clause-names : goal.returns-clause-names
returns-clause-names c =
    let k = c.in_ok-key.ensures ∙ c.as_bytes.ensures in
    let keys = c.self.inside.names.keys in
    ap (map text) c.in_ok-number.ensures.keys ∙ (map-added text (list_any (λ y. same_text c.in_ok-key.key.items (text y)) keys) keys c.in_ok-key.key
    ∙ (ap (λ t. cond t (map text keys) (map text keys ++ text c.in_ok-key.key ∷ [])) (list_any-map text (same_text c.in_ok-key.key.items) keys)
    ∙ (ap (λ n. cond (list_any (same_text n) (map text keys)) (map text keys) (map text keys ++ n ∷ [])) k
    ∙ ap (λ ns. cond (list_any (same_text c.args.name.now) ns) ns (ns ++ c.args.name.now ∷ [])) c.self.view_is)))
