use Rattle.std.proofs.Common.{rules, tests, ◌≡◌, ◌==◌, cond, length, nat_lt, Some, None, ap, ◌∙◌}
use Rattle.std.specs.List.{position_or_len}
use Rattle.std.specs.Option.{unwrap_or}
use Rattle.std.proofs.lemmas.Iterator.{YieldsList-from_slice}
use Rattle.std.proofs.lemmas.Iterator.Search.{position_from_yields_List}
use Rattle.mote_text.proofs.Cutting.{or_len}
use Rattle.mote_text.proofs.lines.len_before.Goals as goal

pub returns : goal.returns
returns c =
    let found : c.position.result ≡ cond (nat_lt (position_or_len (λ b. b == c.args.byte) c.args.text.now) (length c.args.text.now)) (Some (position_or_len (λ b. b == c.args.byte) c.args.text.now)) None =
    position_from_yields_List (λ b. b == c.args.byte) _ _ c.position.result c.position.ensures.ran (YieldsList-from_slice _ c.iter.ensures.rest) (λ x b q k. search (rules, tests)) in
    c.unwrap_or.ensures ∙ ap (λ o. unwrap_or o (length c.args.text.now)) found ∙ or_len (λ b. b == c.args.byte) c.args.text.now
