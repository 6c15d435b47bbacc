use Rattle.std.proofs.Common.{◌≡◌, ℕ, ◌+◌, ◌-◌, ◌<◌, ◌≤◌, cond, List, length, drop, get_or, Some, None, unwrap_or, sym, ap, ◌∙◌, subst, arith, length-set}
use Rattle.std.proofs.lemmas.List.{get_or_default}
use Rattle.indexmap.specs.IndexMap.{get}
use Rattle.wire_targets.specs.declared.end.Wire.{Wire}
use Rattle.wire_targets.specs.Next.{Place, place_of, same_place, next_at}
use Rattle.wire_targets.proofs.NextLemmas.{next_first, found, after_more}
use Rattle.wire_targets.proofs.table.Table.new.Goals as goal

pub loop-at-preserved : goal.loop-at-preserved
loop-at-preserved c =
    let wires : List Wire = c.args.wires.now in
    let i : ℕ = c.loop-at.at - 1 in
    let up : i + 1 ≡ c.loop-at.at = let lt = c.loop-at-test.true in omega (arith, lt) in
    let inside : i < length wires = let lt = c.loop-at-test.true in let w = c.loop-at.invariant.within in omega (arith, lt, w) in
    let z : Wire = record { from = record { instance = 0; element = 0; param = None }; to = record { instance = 0; element = 0; param = None } } in
    let place : Place = place_of (get_or wires i z) in
    let next : (p : Place) → unwrap_or (get same_place c.loop-at.first p) (length wires) ≡ next_at p (i + 1) (drop (i + 1) wires) = λ p. subst (λ (k : ℕ). unwrap_or (get same_place c.loop-at.first p) (length wires) ≡ next_at p k (drop k wires)) (sym up) (c.loop-at.invariant.first p) in
    record {
      within = omega (arith, inside);
      size = length-set c.loop-at.after.items i c.unwrap_or.result ∙ c.loop-at.invariant.size;
      first = λ p.
          let u : get same_place c.insert.new.self p ≡ cond (same_place place p) (Some i) (get same_place c.loop-at.first p) = c.in_ok-insert.ensures.updates.0 p in
          ap (λ o. unwrap_or o (length wires)) u
          ∙ (found (same_place place p) i (length wires) (get same_place c.loop-at.first p)
          ∙ (ap (λ n. cond (same_place place p) i n) (next p) ∙ sym (next_first wires p i z inside)));
      after =
          after_more wires c.loop-at.after.items i c.unwrap_or.result c.loop-at.invariant.size inside
          (λ k d low within. c.loop-at.invariant.after k d (subst (λ (j : ℕ). j ≤ k) up low) within)
          (λ d.
          let found_next : c.unwrap_or.result ≡ unwrap_or (get same_place c.loop-at.first place) (length wires) = c.unwrap_or.ensures ∙ ap (λ o. unwrap_or o (length wires)) c.in_ok-insert.ensures.old in
          found_next ∙ (next place ∙ ap (λ w. next_at (place_of w) (i + 1) (drop (i + 1) wires)) (get_or_default wires i z d inside)));
    }
