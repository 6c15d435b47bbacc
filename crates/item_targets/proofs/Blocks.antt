-- Declarations, statements and functions by their parts.
use Rattle.std.proofs.Common.{◌≡◌, ℕ, ◌+◌, ◌<◌, ◌≤◌, Bool, List, [], ◌∷◌, ◌++◌, drop, length, get_or, map, Option, Some, None, Result, Ok, Err, OnOk, ap, sym, ◌∙◌, refl, rules}
use Rattle.std.specs.Option.{option_map}
use Rattle.std.proofs.Math.ListN.{drop_of_length-le}
use Rattle.nm_base.specs.declared.no_memory.NoMemory.{NoMemory}
use Rattle.nm_base.specs.declared.pos.Pos.{Pos}
use Rattle.nesc_types.specs.Rule.{Rule}
use Rattle.elab_meaning.specs.Elab.{Elab, State, after, give, ◌>>◌}
use Rattle.elab_meaning.specs.Operators.{Based}
use Rattle.elab_pieces.specs.Flow.{Outer, entered, left, outer}
use Rattle.elab_attempts.specs.View.{now}
use Rattle.body_meaning.specs.Scopes.{in_turn, scoped}
use Rattle.item_targets.specs.Search.{Adds, Seen, behind, goes, seen_of}
use Rattle.item_targets.specs.declared.search.Search.{Search}
use Rattle.item_targets.proofs.Turns.{Alike, alike_goes, done, nothing, put, quiet, scope, second_of}

-- ---- work inside a scope

pub inside : (whole work : Elab (List Pos)) (u v : Unit {0}) (s0 s1 s2 s3 : Search) (o : Outer) → Alike whole (scoped work)
    → s1.found.items ≡ s0.found.items → (now s1.scopes) ≡ entered (now s0.scopes) → Adds (Ok u) work s1 s2
    → o ≡ outer (now s0.scopes) → s3.found.items ≡ s2.found.items → (now s3.scopes) ≡ left o (now s2.scopes) → Adds (Ok v) whole s0 s3
unfolding Adds
inside whole work u v s0 s1 s2 s3 o form found1 scopes1 h is found3 scopes3 =
    let begins : goes work (s0.found.items, entered (now s0.scopes)) ≡ put (seen_of s2) =
    ap (λ (f : List Pos). goes work (f, entered (now s0.scopes))) (sym found1) ∙ ap (λ (x : State). goes work (s1.found.items, x)) (sym scopes1) ∙ h in
    alike_goes whole (scoped work) (seen_of s0) form
    ∙ scope work (seen_of s0) (seen_of s2) begins
    ∙ ap (λ (f : List Pos). put (f, left (outer (now s0.scopes)) (now s2.scopes))) (sym found3)
    ∙ ap (λ (p : Outer). put (s3.found.items, left p (now s2.scopes))) (sym is)
    ∙ ap (λ (x : State). put (s3.found.items, x)) (sym scopes3)

-- ---- work behind what finds nothing

pub behind_quiet : (whole b : Elab (List Pos)) (work : Elab (Unit {0})) (r : Result (Unit {0}) NoMemory) (s0 s1 s2 : Search) → Alike whole (work >> b)
    → work (now s0.scopes) ≡ done (now s1.scopes) → s1.found.items ≡ s0.found.items → Adds r b s1 s2 → Adds r whole s0 s2
unfolding Adds
behind_quiet whole b work (Ok u) s0 s1 s2 form is found1 h =
    alike_goes whole (work >> b) (seen_of s0) form ∙ quiet work b (seen_of s0) (now s1.scopes) is ∙ ap (λ (f : List Pos). goes b (f, (now s1.scopes))) (sym found1) ∙ h
behind_quiet whole b work (Err e) s0 s1 s2 form is found1 h = h

pub quiet_alone : (whole : Elab (List Pos)) (work : Elab (Unit {0})) (r : Result (Unit {0}) NoMemory) (s0 s1 : Search) → Alike whole (work >> give [])
    → s1.found.items ≡ s0.found.items → OnOk r (work (now s0.scopes) ≡ done (now s1.scopes)) → Adds r whole s0 s1
unfolding Adds
quiet_alone whole work (Ok u) s0 s1 form found1 is =
    alike_goes whole (work >> give []) (seen_of s0) form ∙ quiet work (give []) (seen_of s0) (now s1.scopes) is
    ∙ nothing (s0.found.items, now s1.scopes) ∙ ap (λ (f : List Pos). put (f, now s1.scopes)) (sym found1)
quiet_alone whole work (Err e) s0 s1 form found1 is = is

grouped : (r : Rule (Unit {0} × State)) (a b : Elab (List Pos)) → after r (λ _. in_turn a b) ≡ after (after r (λ _. a)) (second_of b)
grouped (Ok x) a b = refl
grouped (Err e) a b = refl

pub regrouped : (work : Elab (Unit {0})) (a b : Elab (List Pos)) → Alike (work >> in_turn a b) (in_turn (work >> a) b)
regrouped work a b = λ st. grouped (work st) a b
