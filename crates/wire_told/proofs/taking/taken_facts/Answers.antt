use Rattle.std.proofs.Common.{◌<◌, ◌∷◌, [], ◌++◌, length, ap, subst, ◌∙◌}
use Rattle.wire_pairs.specs.declared.facts.InstanceFacts.{InstanceFacts}
use Rattle.wire_facts.specs.Seen as plain
use Rattle.wire_facts.specs.Seen.{facts_in}
use Rattle.wire_scopes.specs.View.{scope_of}
use Rattle.wire_elements.specs.View.{seen_of}
use Rattle.wire_told.proofs.Takes.{taken_next, left_same}
use Rattle.wire_told.proofs.taking.taken_facts.Goals as goal

pub loop-at-preserved : goal.loop-at-preserved
loop-at-preserved c =
    let h : c.loop-at.at < length c.loop-at.seen.items = subst (λ n. c.loop-at.at < n) (c.len.ensures ∙ c.loop-at.seen.ok.0) c.loop-at-test.true in
    record {
      facts = taken_next facts_in seen_of c.loop-at.facts.items c.push.new.self.items c.loop-at.seen.items c.loop-at.at c.index_mut.result.now c.taken.new.one _
          c.loop-at.invariant.facts h c.index_mut.ensures.value
          (c.in_ok-push.ensures.items ∙ ap (λ (f : InstanceFacts). c.loop-at.facts.items ++ f ∷ []) c.taken.ensures.facts);
      scopes = left_same (λ (x : plain.Seen). x.scope) seen_of c.loop-at.seen.items c.loop-at.at c.index_mut.result.now c.taken.new.one _
          c.loop-at.invariant.scopes h c.index_mut.ensures.value (ap scope_of c.taken.ensures.scope);
    }
