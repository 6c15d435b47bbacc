use Rattle.std.proofs.Common.{◌≡◌, ◌++◌, [], ◌∷◌, codes, decimal, rules, string_bytes}
use Rattle.nm_base.specs.Lists.{number_of}
use Rattle.mote_run.proofs.Fields.{field_of, five_fields}
use Rattle.mote_run.proofs.totals.summary.Goals as goal

pub returns : goal.returns
returns c =
    let t = c.args.totals.now in
    let modules : c.from.result ≡ c.args.modules = search rules in
    let last : c.from-2.result ≡ t.last = search rules in
    five_fields _ _ _ _ _ _ _ (codes "gen " ++ decimal c.args.modules) (codes " outs " ++ decimal t.outs) (codes " enters " ++ decimal t.enters) (codes " last " ++ decimal t.last)
    (codes " off " ++ decimal (number_of c.args.off)) (10 ∷ [])
    c.new-text.ensures.bytes
    (field_of (string_bytes c.new-text.result) _ (codes "gen ") _ _ modules c.in_ok-push_field.ensures)
    c.in_ok-push_field-2.ensures
    c.in_ok-push_field-3.ensures
    (field_of (string_bytes c.push_field-3.new.text) _ (codes " last ") _ _ last c.in_ok-push_field-4.ensures)
    (field_of (string_bytes c.push_field-4.new.text) _ (codes " off ") _ _ c.digit_of.ensures c.in_ok-push_field-5.ensures)
    c.in_ok-push_str.ensures.bytes
