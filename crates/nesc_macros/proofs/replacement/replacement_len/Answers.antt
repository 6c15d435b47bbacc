use Rattle.std.proofs.Common.{◌≡◌, ◌∙◌, ℕ, ◌+◌, ◌-◌, ◌^◌, ◌≤◌, List, [], ◌∷◌, drop, length, map, min, sym, ap, arith}
use Rattle.nm_base.specs.declared.token.Token.{Token}
use Rattle.std.proofs.lemmas.List.{drop_all, drop_more}
use Rattle.nesc_macros.specs.Expansion.{substituted}
use Rattle.nesc_macros.specs.Numbers.{all_shown}
use Rattle.nesc_macros.proofs.replacement.replacement_len.Goals as goal

at_end : (len rest whole largest : ℕ) → min (len + rest) largest ≡ min whole largest → rest ≡ 0 → len ≤ largest → len ≡ min whole largest
at_end len rest whole largest same none within = omega arith

one_more : (len part more rest left whole largest : ℕ) → min (len + left) largest ≡ min whole largest → left ≡ part + rest → more ≡ min (len + part) largest → min (more + rest) largest ≡ min whole largest
one_more len part more rest left whole largest same is now = omega arith

pub loop-part-preserved : goal.loop-part-preserved
loop-part-preserved c = record {
  within = omega (arith, c.saturating_add-len.ensures);
  rest = λ scope pos hide_set.
      let parts = c.as_slice-part-items.result.now in
      let left : List Token → ℕ = λ ts. length (substituted pos hide_set c.args.parameters.now (map (all_shown scope) c.args.arguments.now) ts) in
      let cut : drop c.loop-part.part-index parts ≡ c.part-item.result ∷ drop (c.loop-part.part-index + 1) parts = drop_more parts c.loop-part.part-index c.part-item.result (omega (arith, c.loop-part-test.true)) ∙ ap (λ (t : Token). t ∷ drop (c.loop-part.part-index + 1) parts) (sym c.part-item.is) in
      one_more c.loop-part.len c.part_len.result c.saturating_add-len.result (left (drop (c.loop-part.part-index + 1) parts)) (left (drop c.loop-part.part-index parts)) (left parts) (2 ^ 64 - 1) (c.loop-part.invariant.rest scope pos hide_set) (ap left cut ∙ c.part_len.ensures scope pos hide_set (drop (c.loop-part.part-index + 1) parts)) c.saturating_add-len.ensures;
}

pub returns : goal.returns
returns c scope pos hide_set =
    let parts = c.as_slice-part-items.result.now in
    let none : drop c.loop-part.part-index parts ≡ [] = drop_all c.loop-part.part-index parts (omega (arith, c.loop-part-test.false)) in
    let left : length (substituted pos hide_set c.args.parameters.now (map (all_shown scope) c.args.arguments.now) (drop c.loop-part.part-index parts)) ≡ 0 =
    ap (λ (ts : List Token). length (substituted pos hide_set c.args.parameters.now (map (all_shown scope) c.args.arguments.now) ts)) none in
    at_end _ _ _ _ (c.loop-part.invariant.rest scope pos hide_set) left c.loop-part.invariant.within
    ∙ ap (λ (ts : List Token). min (length (substituted pos hide_set c.args.parameters.now (map (all_shown scope) c.args.arguments.now) ts)) (2 ^ 64 - 1)) c.as_slice-part-items.ensures
