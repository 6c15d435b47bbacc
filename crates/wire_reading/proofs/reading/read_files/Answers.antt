use Rattle.std.proofs.Common.{rules, arith, refl, ◌≡◌, Ok, Err, true, false, [], ◌∷◌, ◌++◌, reverse, sym, ap, ◌∙◌, subst, List, cond}
use Rattle.wire_reading.specs.declared.opener.Need.{Need}
use Rattle.wire_reading.specs.Order.{ReadAll, is_known, component, Name}
use Rattle.wire_reading.proofs.Steps.{ended, passed, refused, opened, top}
use Rattle.wire_reading.proofs.reading.read_files.Goals as goal

pub returns-in_err-needs-clause-refused : goal.returns-in_err-needs-clause-refused
returns-in_err-needs-clause-refused g c = λ told tells fault h refusal.
    let o = g.O.Opener in
    let e : c.open.result ≡ Err fault = search rules in
    let new : is_known c.loop-need.known c.in-Some.need.name ≡ false = search rules in
    let t : reverse c.loop-need.waiting.items ≡ c.in-Some.need ∷ reverse c.pop.new.self.items = top c.loop-need.waiting.items c.pop.new.self.items c.in-Some.need c.in-Some.ensures.items in
    let after = o.state c.open.new.self in
    let now = c.loop-need.invariant.same ∙ tells in
    let r = refused (o.Opens told) c.in-Some.need (reverse c.pop.new.self.items) c.loop-need.known (o.state c.loop-need.opener) after fault new (c.open.ensures.refused told now fault e refusal) in
    c.loop-need.invariant.whole told tells (Err (fault, after)) (subst (λ (needs : List Need). ReadAll (o.Opens told) needs c.loop-need.known (o.state c.loop-need.opener) (Err (fault, after))) (sym t) r)

pub loop-need-preserved-then-has : goal.loop-need-preserved-then-has
loop-need-preserved-then-has g c = record {
  same = c.loop-need.invariant.same;
  faults = c.loop-need.invariant.faults;
  misses = c.loop-need.invariant.misses;
  whole = λ told tells answer rest.
      let o = g.O.Opener in
      let old : is_known c.loop-need.known c.in-Some.need.name ≡ true = search rules in
      let t : reverse c.loop-need.waiting.items ≡ c.in-Some.need ∷ reverse c.pop.new.self.items = top c.loop-need.waiting.items c.pop.new.self.items c.in-Some.need c.in-Some.ensures.items in
      let r = passed (o.Opens told) c.in-Some.need (reverse c.pop.new.self.items) c.loop-need.known (o.state c.loop-need.opener) answer old rest in
      c.loop-need.invariant.whole told tells answer (subst (λ (needs : List Need). ReadAll (o.Opens told) needs c.loop-need.known (o.state c.loop-need.opener) answer) (sym t) r);
}

pub loop-need-preserved : goal.loop-need-preserved
loop-need-preserved g c = record {
  same = c.open.ensures.outside.same ∙ c.loop-need.invariant.same;
  faults = omega (arith, c.loop-need.invariant.faults, c.open.ensures.outside.faults_kept);
  misses = λ n. omega (arith, c.loop-need.invariant.misses n, c.open.ensures.outside.misses_kept n);
  whole = λ told tells answer rest.
      let o = g.O.Opener in
      let new : is_known c.loop-need.known c.in-Some.need.name ≡ false = search rules in
      let t : reverse c.loop-need.waiting.items ≡ c.in-Some.need ∷ reverse c.pop.new.self.items = top c.loop-need.waiting.items c.pop.new.self.items c.in-Some.need c.in-Some.ensures.items in
      let names : c.add.new.self ≡ c.loop-need.known ++ c.in-Some.need.name ∷ [] = c.in_ok-add.ensures.names ∙ ap (λ b. cond b c.loop-need.known (c.loop-need.known ++ c.in-Some.need.name ∷ [])) new in
      let after = o.state c.open.new.self in
      let now = c.loop-need.invariant.same ∙ tells in
      let on : ReadAll (o.Opens told) (c.in_ok-needs.needs.items ++ reverse c.pop.new.self.items) c.add.new.self after answer = subst (λ (needs : List Need). ReadAll (o.Opens told) needs c.add.new.self after answer) c.in_ok-push_all.ensures rest in
      let behind : ReadAll (o.Opens told) (c.in_ok-needs.needs.items ++ reverse c.pop.new.self.items) (c.loop-need.known ++ c.in-Some.need.name ∷ []) after answer = subst (λ (known : List Name). ReadAll (o.Opens told) (c.in_ok-needs.needs.items ++ reverse c.pop.new.self.items) known after answer) names on in
      let r = opened (o.Opens told) c.in-Some.need c.in_ok-needs.needs.items (reverse c.pop.new.self.items) c.loop-need.known (o.state c.loop-need.opener) after answer new (c.in_ok-needs.ensures.opened told now) behind in
      c.loop-need.invariant.whole told tells answer (subst (λ (needs : List Need). ReadAll (o.Opens told) needs c.loop-need.known (o.state c.loop-need.opener) answer) (sym t) r);
}

pub returns-clause-read : goal.returns-clause-read
returns-clause-read g c = λ told tells.
    let o = g.O.Opener in
    let none : c.loop-need.waiting.items ≡ [] = search rules in
    let r = ended (o.Opens told) c.loop-need.known (o.state c.loop-need.opener) in
    (c.loop-need.known, c.loop-need.invariant.whole told tells (Ok (c.loop-need.known, o.state c.loop-need.opener)) (subst (λ (needs : List Need). ReadAll (o.Opens told) needs c.loop-need.known (o.state c.loop-need.opener) (Ok (c.loop-need.known, o.state c.loop-need.opener))) (sym (ap reverse none)) r))

pub loop-need-init : goal.loop-need-init
loop-need-init g c = record {
  same = refl;
  faults = omega arith;
  misses = λ n. omega arith;
  whole = λ told tells answer rest.
      let o = g.O.Opener in
      let items : c.push-2.new.self.items ≡ component c.args.main ∷ component c.args.app ∷ [] = search rules in
      let none : c.new-known.result ≡ [] = search rules in
      let new : ReadAll (o.Opens told) (reverse c.push-2.new.self.items) [] (o.state c.args.opener.now) answer = subst (λ (known : List Name). ReadAll (o.Opens told) (reverse c.push-2.new.self.items) known (o.state c.args.opener.now) answer) none rest in
      subst (λ (needs : List Need). ReadAll (o.Opens told) (reverse needs) [] (o.state c.args.opener.now) answer) items new;
}
