use Rattle.std.proofs.Common.{rules, ◌≡◌, ℕ, ◌+◌, ◌<◌, ◌≤◌, None, Some, List, length, drop, get_or, sym, ap, ◌∙◌, subst, arith}
use Rattle.std.proofs.lemmas.List.{get_or_read}
use Rattle.std.proofs.lemmas.Option.{some_pair_parts}
use Rattle.wire_targets.specs.declared.end.Wire.{Wire}
use Rattle.wire_targets.specs.Paths.{along, step}
use Rattle.wire_targets.specs.Next.{place_of}
use Rattle.wire_targets.proofs.NextLemmas.{stands_first, stands_next, stands_past, along_at, next_least}
use Rattle.wire_targets.proofs.table.Table.leading.Goals as goal

no_wire : Wire
no_wire = record { from = record { instance = 0; element = 0; param = None }; to = record { instance = 0; element = 0; param = None } }

pub loop-at-init : goal.loop-at-init
loop-at-init c = λ from is. stands_first c.args.wires.now c.args.end.now from c.args.first is

pub returns-in-Some-clause-some : goal.returns-in-Some-clause-some
unfolding no_wire
returns-in-Some-clause-some c = λ from k to is same.
    let s = c.loop-at.invariant from is in
    let parts = some_pair_parts c.loop-at.at k c.in-Some.to to same in
    let a : c.loop-at.at ≡ k = parts.0 in
    let b : c.in-Some.to ≡ to = parts.1 in
    let f : along (get_or c.args.wires.now c.loop-at.at no_wire) c.args.end.now ≡ Some c.in-Some.to = sym c.along.ensures ∙ c.in-Some.is in
    let on = along_at c.args.wires.now c.args.end.now c.loop-at.at no_wire (Some c.in-Some.to) c.loop-at-test.true f in
    (subst (λ (j : ℕ). from ≤ j) a s.up, subst (λ (j : ℕ). step c.args.wires.now c.args.end.now j ≡ Some to) a (on ∙ ap (λ x. Some x) b), λ j low high. s.none j low (subst (λ (m : ℕ). j < m) (sym a) high))

pub returns-clause-none : goal.returns-clause-none
returns-clause-none c = λ from k is same low.
    stands_past c.args.wires.now c.args.end.now from c.loop-at.at k (c.loop-at.invariant from is) c.loop-at-test.false low

next_is : (xs : List ℕ) (i x : ℕ) → i < length xs → x ≡ get_or xs i x → x ≡ get_or xs i 0
next_is xs i x within e = get_or_read xs i x within e 0

pub loop-at-smaller : goal.loop-at-smaller
loop-at-smaller c =
    let size : length c.args.self.now.after.items ≡ length c.args.wires.now = c.requires.size in
    let test : c.loop-at.at < length c.args.wires.now = c.loop-at-test.true in
    let within : c.loop-at.at < length c.args.self.now.after.items = omega arith in
    let next = next_is c.args.self.now.after.items c.loop-at.at c.index-at.result.now within c.index-at.ensures ∙ c.requires.next c.loop-at.at no_wire test in
    let least = next_least (place_of (get_or c.args.wires.now c.loop-at.at no_wire)) (c.loop-at.at + 1) (drop (c.loop-at.at + 1) c.args.wires.now) in
    omega (arith, next, least)

pub loop-at-preserved : goal.loop-at-preserved
unfolding no_wire
loop-at-preserved c = λ from is.
    let size : length c.args.self.now.after.items ≡ length c.args.wires.now = c.requires.size in
    let test : c.loop-at.at < length c.args.wires.now = c.loop-at-test.true in
    let within : c.loop-at.at < length c.args.self.now.after.items = omega arith in
    let next = next_is c.args.self.now.after.items c.loop-at.at c.index-at.result.now within c.index-at.ensures ∙ c.requires.next c.loop-at.at no_wire test in
    let f : along (get_or c.args.wires.now c.loop-at.at no_wire) c.args.end.now ≡ None = search rules in
    stands_next c.args.wires.now c.args.end.now from c.loop-at.at c.index-at.result.now no_wire (c.loop-at.invariant from is) test (along_at c.args.wires.now c.args.end.now c.loop-at.at no_wire None test f) next
