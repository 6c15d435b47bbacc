use Rattle.std.proofs.Common.{◌≡◌, ◌∙◌, ◌+◌, ◌-◌, ◌<◌, ℕ, [], Some, ap, subst, length, take, sym, refl, rules, arith, true, false, suc, drop}
use Rattle.std.specs.Prelude.{slice_get}
use Rattle.std.specs.Option.{option_copied}
use Rattle.nesc_macros.specs.Groups.{IsGroup, closes, parts}
use Rattle.nesc_macros.specs.Numbers.{no_scope}
use Rattle.nesc_macros.proofs.Arguments.{slice_get-item}
use Rattle.nesc_macros.proofs.Grouped.{length_dropped, part_at, parts_length, walk_ends, walk_on, walk_over}
use Rattle.nesc_macros.proofs.waiting.argument_end.Goals as goal

pub loop-waiting-preserved-in-0 : goal.loop-waiting-preserved-in-0
loop-waiting-preserved-in-0 c =
    let ws = c.args.tokens.now.items in
    let here : slice_get ws c.loop-waiting.at ≡ Some c.in-Some.waiting.now = sym (slice_get-item ws c.loop-waiting.at c.get.result c.get.ensures.item) ∙ ap option_copied c.in-Some.is in
    let h = rw c.in-Opens.is at c.mark_of.ensures in
    record {
      within = search rules;
      depth = search rules;
      walks = walk_on (parts ws) c.loop-waiting.at c.loop-waiting.depth (c.loop-waiting.depth + 1) (c.loop-waiting.at + 1) c.in-Some.waiting.now.part (part_at ws c.loop-waiting.at c.in-Some.waiting.now here) refl (λ scope now before ts. h scope now before ts) c.loop-waiting.invariant.walks;
    }

pub loop-waiting-preserved-in_default-group_at : goal.loop-waiting-preserved-in_default-group_at
loop-waiting-preserved-in_default-group_at c =
    let ws = c.args.tokens.now.items in
    let here : slice_get ws c.loop-waiting.at ≡ Some c.in-Some.waiting.now = sym (slice_get-item ws c.loop-waiting.at c.get.result c.get.ensures.item) ∙ ap option_copied c.in-Some.is in
    let h = rw c.in-Opens.is at c.mark_of.ensures in
    let some : 0 < c.group_at.result = omega (arith, c.in_default-group_at) in
    let inside = c.group_at.ensures.within some in
    let next : c.loop-waiting.at + 1 ≡ suc c.loop-waiting.at = omega arith in
    let behind : length (drop (suc c.loop-waiting.at) (parts ws)) + suc c.loop-waiting.at ≡ length (parts ws) = length_dropped (suc c.loop-waiting.at) (parts ws) (omega (arith, inside, parts_length ws)) in
    let closed : closes 0 (take c.group_at.result (drop (suc c.loop-waiting.at) (parts ws))) ≡ true =
    subst (λ (n : ℕ). IsGroup c.group_at.result (drop n (parts ws))) next c.group_at.ensures.group some (omega (arith, inside, behind, parts_length ws)) in
    record {
      within = omega (arith, inside);
      depth = omega (arith, c.loop-waiting.invariant.depth);
      walks = walk_over (parts ws) c.loop-waiting.at c.loop-waiting.depth (c.loop-waiting.depth + 1) c.group_at.result (c.loop-waiting.at + (c.group_at.result + 1)) c.in-Some.waiting.now.part (part_at ws c.loop-waiting.at c.in-Some.waiting.now here) refl refl (λ scope now before ts. h scope now before ts) closed c.loop-waiting.invariant.walks;
    }

pub overflow_sub-depth : goal.overflow_sub-depth
overflow_sub-depth c = let h = rw c.in-Closes.is at c.mark_of.ensures in (h no_scope [] [] []).0

pub loop-waiting-preserved-in-Closes : goal.loop-waiting-preserved-in-Closes
loop-waiting-preserved-in-Closes c =
    let ws = c.args.tokens.now.items in
    let here : slice_get ws c.loop-waiting.at ≡ Some c.in-Some.waiting.now = sym (slice_get-item ws c.loop-waiting.at c.get.result c.get.ensures.item) ∙ ap option_copied c.in-Some.is in
    let h = rw c.in-Closes.is at c.mark_of.ensures in
    record {
      within = search rules;
      depth = search rules;
      walks = walk_on (parts ws) c.loop-waiting.at c.loop-waiting.depth (c.loop-waiting.depth - 1) (c.loop-waiting.at + 1) c.in-Some.waiting.now.part (part_at ws c.loop-waiting.at c.in-Some.waiting.now here) refl (λ scope now before ts. (h scope now before ts).1) c.loop-waiting.invariant.walks;
    }

pub returns-in-Ends : goal.returns-in-Ends
returns-in-Ends c =
    let ws = c.args.tokens.now.items in
    let here : slice_get ws c.loop-waiting.at ≡ Some c.in-Some.waiting.now = sym (slice_get-item ws c.loop-waiting.at c.get.result c.get.ensures.item) ∙ ap option_copied c.in-Some.is in
    let h = rw c.in-Ends.is at c.mark_of.ensures in
    walk_ends (parts ws) c.loop-waiting.at c.loop-waiting.depth true c.in-Some.waiting.now.part (part_at ws c.loop-waiting.at c.in-Some.waiting.now here) (λ scope now before ts. h scope now before ts) c.loop-waiting.invariant.walks

pub returns-in-Separates : goal.returns-in-Separates
returns-in-Separates c =
    let ws = c.args.tokens.now.items in
    let here : slice_get ws c.loop-waiting.at ≡ Some c.in-Some.waiting.now = sym (slice_get-item ws c.loop-waiting.at c.get.result c.get.ensures.item) ∙ ap option_copied c.in-Some.is in
    let h = rw c.in-Separates.is at c.mark_of.ensures in
    walk_ends (parts ws) c.loop-waiting.at c.loop-waiting.depth false c.in-Some.waiting.now.part (part_at ws c.loop-waiting.at c.in-Some.waiting.now here) (λ scope now before ts. (h scope now before ts).1) c.loop-waiting.invariant.walks

pub loop-waiting-preserved : goal.loop-waiting-preserved
loop-waiting-preserved c =
    let ws = c.args.tokens.now.items in
    let here : slice_get ws c.loop-waiting.at ≡ Some c.in-Some.waiting.now = sym (slice_get-item ws c.loop-waiting.at c.get.result c.get.ensures.item) ∙ ap option_copied c.in-Some.is in
    let h = rw c.in-Belongs.is at c.mark_of.ensures in
    record {
      within = search rules;
      depth = search rules;
      walks = walk_on (parts ws) c.loop-waiting.at c.loop-waiting.depth c.loop-waiting.depth (c.loop-waiting.at + 1) c.in-Some.waiting.now.part (part_at ws c.loop-waiting.at c.in-Some.waiting.now here) refl (λ scope now before ts. h scope now before ts) c.loop-waiting.invariant.walks;
    }
