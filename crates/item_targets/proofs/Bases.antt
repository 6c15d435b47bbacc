-- Variables behind the type before their stars, and what a module lacks, as the searches give them.
use Rattle.std.proofs.Common.{◌≡◌, Bool, List, [], ◌++◌, Option, Result, Ok, Err, ap, sym, ◌∙◌, refl}
use Rattle.nm_base.specs.declared.no_memory.NoMemory.{NoMemory}
use Rattle.nm_base.specs.declared.pos.Pos.{Pos}
use Rattle.nesc_tree.specs.Plain as s
use Rattle.nesc_types.specs.Rule.{Rule}
use Rattle.elab_meaning.specs.Elab.{Elab, State}
use Rattle.elab_meaning.specs.Operators.{Based}
use Rattle.elab_meaning.specs.Wired as wired
use Rattle.elab_attempts.specs.Attempts.{attempted}
use Rattle.elab_attempts.specs.View.{now}
use Rattle.body_meaning.specs.Tree.{Variable}
use Rattle.nesc_unwired.specs.Told.{Reach}
use Rattle.nesc_unwired.specs.Unwired.{found}
use Rattle.item_targets.specs.Search.{Adds, Seen, behind, goes, seen_of}
use Rattle.item_targets.specs.Walk.{env_in, typed_at, variables_by_at}
use Rattle.item_targets.specs.declared.search.Search.{Search}
use Rattle.item_targets.specs.declared.walk.Walk.{Walk}
use Rattle.item_targets.proofs.StmtForms.{typed_parts}
use Rattle.item_targets.proofs.Turns.{or_else, put}

abbrev base_at : {R : Type 0} → (R → Reach) → Walk R → Pos → s.Base → Search → Option Based × State
base_at reach w at base x = attempted (wired.base_of (env_in reach w) [] at base) (now x.scopes)

pub typed_add : {R : Type 0} (reach : R → Reach) (w : Walk R) (at : Pos) (base : s.Base) (said : Bool) (vs : List Variable) (b : Option Based) (r : Result (Unit {0}) NoMemory) (s0 s1 s2 : Search)
    → b ≡ (base_at reach w at base s0).0 → now s1.scopes ≡ (base_at reach w at base s0).1 → s1.found.items ≡ s0.found.items
    → Adds r (variables_by_at reach w b said vs) s1 s2 → Adds r (typed_at reach w at base said vs) s0 s2
unfolding Adds
typed_add reach w at base said vs b (Ok u) s0 s1 s2 p q found1 h =
    ap (λ (r : Rule Seen). behind s0.found.items r) (typed_parts reach w at base said vs b (now s0.scopes) (now s1.scopes) p q)
    ∙ ap (λ (f : List Pos). behind f (variables_by_at reach w b said vs (now s1.scopes))) (sym found1) ∙ h
typed_add reach w at base said vs b (Err e) s0 s1 s2 p q found1 h = h

-- ---- behind what is lacking, what all declarations add

found_by : (before : List Pos) (r : Rule Seen) (s1 : Seen) → behind before r ≡ put s1 → s1.0 ≡ before ++ found r
found_by before (Ok x) s1 is = ap (λ (r : Rule Seen). (or_else s1 r).0) (sym is)
found_by before (Err e) s1 is = absurd (cc)

pub all_found : (work : Elab (List Pos)) (s0 s1 : Search) → goes work (seen_of s0) ≡ put (seen_of s1) → s1.found.items ≡ s0.found.items ++ found (work (now s0.scopes))
all_found work s0 s1 is = found_by s0.found.items (work (now s0.scopes)) (seen_of s1) is

pub all_lacking : (work : Elab (List Pos)) (u : Unit {0}) (s0 s1 : Search) (before : List Pos) (x : State) → Adds (Ok u) work s0 s1 → s0.found.items ≡ before → now s0.scopes ≡ x
    → s1.found.items ≡ before ++ found (work x)
unfolding Adds
all_lacking work u s0 s1 before x h p q =
    all_found work s0 s1 h ∙ ap (λ (f : List Pos). f ++ found (work (now s0.scopes))) p ∙ ap (λ (y : State). before ++ found (work y)) q
