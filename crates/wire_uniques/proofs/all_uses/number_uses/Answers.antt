use Rattle.std.proofs.Common.{◌≡◌, ◌++◌, [], List, subst, ◌∙◌}
use Rattle.wire_uniques.specs.Expressions.{Uses}
use Rattle.wire_uniques.specs.Numbers.{AreNumbers}
use Rattle.wire_uniques.specs.Parts.{in_headers, in_instances, parts_of}
use Rattle.wire_uniques.proofs.all_uses.number_uses.Goals as goal

pub returns-clause-numbers : goal.returns-clause-numbers
returns-clause-numbers c =
    let units = c.args.units.now in
    let made = c.args.made.now in
    let h : c.as_slice.result.now ≡ in_headers units = c.as_slice.ensures.value ∙ c.in_ok-headers.ensures in
    let p : c.as_slice-2.result.now ≡ parts_of units = c.as_slice-2.ensures.value ∙ c.in_ok-parts.ensures in
    let first = c.in_ok-take_all.ensures.numbered [] c.new-counter.ensures in
    let all = c.in_ok-starts.ensures.numbered ([] ++ c.as_slice.result.now) first in
    let headed : AreNumbers c.count_instances.new.counter.counts c.count_instances.new.counter.numbers.items (in_headers units ++ in_instances c.as_slice-2.result.now made) = subst (λ (ts : Uses). AreNumbers c.count_instances.new.counter.counts c.count_instances.new.counter.numbers.items (ts ++ in_instances c.as_slice-2.result.now made)) h all in
    (subst (λ (ps : List Uses). AreNumbers c.count_instances.new.counter.counts c.count_instances.new.counter.numbers.items (in_headers units ++ in_instances ps made)) p headed).given

pub returns-clause-counts : goal.returns-clause-counts
returns-clause-counts c =
    let units = c.args.units.now in
    let made = c.args.made.now in
    let h : c.as_slice.result.now ≡ in_headers units = c.as_slice.ensures.value ∙ c.in_ok-headers.ensures in
    let p : c.as_slice-2.result.now ≡ parts_of units = c.as_slice-2.ensures.value ∙ c.in_ok-parts.ensures in
    let first = c.in_ok-take_all.ensures.numbered [] c.new-counter.ensures in
    let all = c.in_ok-starts.ensures.numbered ([] ++ c.as_slice.result.now) first in
    let headed : AreNumbers c.count_instances.new.counter.counts c.count_instances.new.counter.numbers.items (in_headers units ++ in_instances c.as_slice-2.result.now made) = subst (λ (ts : Uses). AreNumbers c.count_instances.new.counter.counts c.count_instances.new.counter.numbers.items (ts ++ in_instances c.as_slice-2.result.now made)) h all in
    (subst (λ (ps : List Uses). AreNumbers c.count_instances.new.counter.counts c.count_instances.new.counter.numbers.items (in_headers units ++ in_instances ps made)) p headed).counted
