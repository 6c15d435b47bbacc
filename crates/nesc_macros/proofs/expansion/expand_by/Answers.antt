use Rattle.std.proofs.Common.{◌≡◌, ◌∙◌, ◌∷◌, ◌++◌, [], List, Err, Ok, map, refl, sym, ap, arith}
use Rattle.std.proofs.lemmas.Result.{err_from_is_err_and}
use Rattle.nesc_macros.specs.Invocation.{PreprocessingToken}
use Rattle.nesc_macros.specs.Expansion.{Answer, unhidden}
use Rattle.nesc_macros.specs.Numbers.{macros_at, scope_of, all_shown, shown}
use Rattle.nesc_macros.specs.Frames.{all_suspended, suspended}
use Rattle.nesc_macros.proofs.Linked.{extends_on, extends_self}
use Rattle.nesc_macros.proofs.Naming.{shown_push_list, tokens_as_shown}
use Rattle.nesc_macros.proofs.Turns.{ends_argument, ends_at_once, ends_elsewhere, expands_to, fails_to, follows_token, none_left, refused_here, unless_weaker}
use Rattle.nesc_macros.proofs.expansion.expand_by.Goals as goal

pub returns-in_err-level-clause-refused : goal.returns-in_err-level-clause-refused
returns-in_err-level-clause-refused c =
    let links = c.expand_token.new.sets.links.items in
    let scope = scope_of c.args.table.now links in
    let macros = macros_at scope in
    let p = err_from_is_err_and c.from_residual-in_err-level.result c.from_residual-in_err-level.ensures.1 in
    rw (p.1, p.2) (refused_here macros c.args.count.now c.loop-token.count c.expand_token.new.count c.args.tokens.items (all_suspended scope c.loop-token.frames.items) (all_shown scope c.loop-token.level.out.items) (all_shown scope c.loop-token.level.pending) (shown scope c.in-Some.token ∷ all_shown scope c.pop_front.new.self) c.in_err-level.field-0.0 (c.loop-token.invariant.follows links c.expand_token.ensures.extends) (ap (all_shown scope) c.in-Some.ensures.items) (unless_weaker c.in_err-level.field-0.0 (λ leads. leads links (extends_self links)) c.in_err-level.ensures.refused))

pub loop-token-preserved-in-Some : goal.loop-token-preserved-in-Some
loop-token-preserved-in-Some c = record {
  within = c.expand_token.ensures.within;
  grows = omega (arith, c.expand_token.ensures.grows, c.loop-token.invariant.grows);
  follows = λ links extends.
      let scope = scope_of c.args.table.now links in
      let macros = macros_at scope in
      follows_token macros c.args.count.now c.loop-token.count c.expand_token.new.count (unhidden c.args.tokens.items) (all_suspended scope c.loop-token.frames.items) (all_suspended scope c.expand_token.new.frames.items) (all_shown scope c.loop-token.level.out.items) (all_shown scope c.in_ok-level.level.out.items) (all_shown scope c.loop-token.level.pending) (shown scope c.in-Some.token ∷ all_shown scope c.pop_front.new.self) (all_shown scope c.in_ok-level.level.pending) (c.loop-token.invariant.follows links (extends_on _ _ _ c.expand_token.ensures.extends extends)) (ap (all_shown scope) c.in-Some.ensures.items) (λ a. c.in_ok-level.ensures.leads links a extends);
}

pub returns-in_err-level-2-clause-refused : goal.returns-in_err-level-2-clause-refused
returns-in_err-level-2-clause-refused c =
    let links = c.resume.new.sets.links.items in
    let scope = scope_of c.args.table.now links in
    let macros = macros_at scope in
    let p = err_from_is_err_and c.from_residual-in_err-level-2.result c.from_residual-in_err-level-2.ensures.1 in
    let level = c.loop-token.level in
    let f = c.in-Some-pop_front.frame in
    let none : level.pending ≡ [] = none_left level.pending c.pop_front.new.self c.in_default.ensures.items c.pop_front.ensures.rest in
    let pushed : map (all_shown scope) c.push.new.self.items ≡ map (all_shown scope) f.expanded.items ++ all_shown scope c.new-in-Some-pop_front.result ∷ [] = ap (map (all_shown scope)) c.in_ok-push.ensures.items ∙ shown_push_list scope f.expanded.items c.new-in-Some-pop_front.result in
    let whole : Answer (List PreprocessingToken) = record { value = Err c.in_err-level-2.field-0.0; count = c.resume.new.count } in
    rw (p.1, p.2) (fails_to macros c.args.count.now c.resume.new.count c.args.tokens.items c.in_err-level-2.field-0.0 (unless_weaker c.in_err-level-2.field-0.0
    (λ leads. c.loop-token.invariant.follows links c.resume.ensures.extends whole (ends_argument macros c.loop-token.count (all_suspended scope c.loop-token.frames.items) (all_suspended scope c.pop_front-in_default.new.self.items) (suspended scope f) (all_shown scope level.out.items) (all_shown scope c.new-in-Some-pop_front.result) (all_shown scope level.pending) (map (all_shown scope) c.push.new.self.items) whole (ap (all_suspended scope) c.in-Some-pop_front.ensures.items) (ap (all_shown scope) none) pushed (ap (all_shown scope) c.new-in-Some-pop_front.ensures) (leads scope)))
    c.in_err-level-2.ensures.refused))

pub loop-token-preserved : goal.loop-token-preserved
loop-token-preserved c = record {
  within = c.resume.ensures.within;
  grows = omega (arith, c.resume.ensures.grows, c.loop-token.invariant.grows);
  follows = λ links extends a ends.
      let scope = scope_of c.args.table.now links in
      let macros = macros_at scope in
      let level = c.loop-token.level in
      let f = c.in-Some-pop_front.frame in
      let none : level.pending ≡ [] = none_left level.pending c.pop_front.new.self c.in_default.ensures.items c.pop_front.ensures.rest in
      let pushed : map (all_shown scope) c.push.new.self.items ≡ map (all_shown scope) f.expanded.items ++ all_shown scope c.new-in-Some-pop_front.result ∷ [] = ap (map (all_shown scope)) c.in_ok-push.ensures.items ∙ shown_push_list scope f.expanded.items c.new-in-Some-pop_front.result in
      c.loop-token.invariant.follows links (extends_on _ _ _ c.resume.ensures.extends extends) a (ends_argument macros c.loop-token.count (all_suspended scope c.loop-token.frames.items) (all_suspended scope c.pop_front-in_default.new.self.items) (suspended scope f) (all_shown scope level.out.items) (all_shown scope c.new-in-Some-pop_front.result) (all_shown scope level.pending) (map (all_shown scope) c.push.new.self.items) a (ap (all_suspended scope) c.in-Some-pop_front.ensures.items) (ap (all_shown scope) none) pushed (ap (all_shown scope) c.new-in-Some-pop_front.ensures) (c.in_ok-level-2.ensures.leads scope a extends ends));
}

pub returns-in_default-pop_front-clause-expanded : goal.returns-in_default-pop_front-clause-expanded
returns-in_default-pop_front-clause-expanded c =
    let links = c.loop-token.sets.links.items in
    let scope = scope_of c.args.table.now links in
    let macros = macros_at scope in
    let out = all_shown scope c.loop-token.level.out.items in
    let pending = all_shown scope c.loop-token.level.pending in
    let whole : Answer (List PreprocessingToken) = record { value = Ok out; count = c.loop-token.count } in
    let none : c.loop-token.level.pending ≡ [] = none_left c.loop-token.level.pending c.pop_front.new.self c.in_default.ensures.items c.pop_front.ensures.rest in
    let frames : c.loop-token.frames.items ≡ [] = none_left c.loop-token.frames.items c.pop_front-in_default.new.self.items c.in_default-pop_front.ensures.items c.pop_front-in_default.ensures.rest in
    expands_to macros c.args.count.now c.loop-token.count c.args.tokens.items out c.in_ok-tokens_in.field-0.items (c.in_ok-tokens_in.ensures ∙ tokens_as_shown scope c.loop-token.level.out.items)
    (c.loop-token.invariant.follows links (extends_self links) whole
    (ends_elsewhere macros c.loop-token.count [] (all_suspended scope c.loop-token.frames.items) out out pending pending whole (sym (ap (all_suspended scope) frames)) refl refl
    (ends_at_once macros c.loop-token.count out pending (ap (all_shown scope) none))))
