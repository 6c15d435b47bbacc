-- Work that adds to what was found: parts in turn, in a scope, and behind work that finds nothing.
use Rattle.std.proofs.Common.{◌≡◌, List, [], ◌++◌, Result, Ok, Err, OnOk, ap, sym, ◌∙◌, refl, append_assoc, append-nil}
use Rattle.nm_base.specs.declared.fault.Fault.{Fault}
use Rattle.nm_base.specs.declared.no_memory.NoMemory.{NoMemory}
use Rattle.nm_base.specs.declared.pos.Pos.{Pos}
use Rattle.nesc_types.specs.Rule.{Rule}
use Rattle.elab_meaning.specs.Elab.{Elab, State, after, give, ◌>>◌}
use Rattle.elab_pieces.specs.Flow.{Outer, entered, left, outer}
use Rattle.body_meaning.specs.Scopes.{in_turn, scoped}
use Rattle.item_targets.specs.Search.{Adds, Seen, behind, goes, seen_of}
use Rattle.item_targets.specs.declared.search.Search.{Search}

abbrev pub put : Seen → Rule Seen
put x = Ok x

abbrev pub or_else : Seen → Rule Seen → Seen
or_else d (Ok x) = x
or_else d (Err e) = d

same : (x y : Seen) → put x ≡ put y → x ≡ y
same x y is = ap (λ (r : Rule Seen). or_else x r) is

-- ---- two parts, one behind the other

joined_by : (before xs : List Pos) (r : Rule Seen) → behind before (after r (λ ys. give (xs ++ ys))) ≡ behind (before ++ xs) r
joined_by before xs (Ok y) = ap (λ (zs : List Pos). put (zs, y.1)) (sym (append_assoc before xs y.0))
joined_by before xs (Err e) = refl

abbrev pub second_of : Elab (List Pos) → List Pos → State → Rule Seen
second_of b xs = λ s. after (b s) (λ ys. give (xs ++ ys))

turns_by : (b : Elab (List Pos)) (before : List Pos) (r : Rule Seen) (s1 : Seen) → behind before r ≡ put s1 → behind before (after r (second_of b)) ≡ goes b s1
turns_by b before (Ok x) s1 is = joined_by before x.0 (b x.1) ∙ ap (λ (s : Seen). goes b s) (same (before ++ x.0, x.1) s1 is)
turns_by b before (Err e) s1 is = absurd (cc)

pub turns : (a b : Elab (List Pos)) (s0 s1 : Seen) → goes a s0 ≡ put s1 → goes (in_turn a b) s0 ≡ goes b s1
turns a b s0 s1 is = turns_by b s0.0 (a s0.1) s1 is

-- ---- what finds nothing

pub nothing : (s : Seen) → goes (give []) s ≡ put s
nothing s = ap (λ (zs : List Pos). put (zs, s.1)) (append-nil s.0)

abbrev pub done : State → Rule (Unit {0} × State)
done x = Ok (tt, x)

pub quiet : (work : Elab (Unit {0})) (b : Elab (List Pos)) (s : Seen) (x : State) → work s.1 ≡ done x → goes (work >> b) s ≡ goes b (s.0, x)
quiet work b s x is = ap (λ (r : Rule (Unit {0} × State)). behind s.0 (after r (λ _. b))) is

-- ---- scopes

abbrev closing : Outer → List Pos → State → Rule Seen
closing o xs = λ s. Ok (xs, left o s)

scope_by : (before : List Pos) (o : Outer) (r : Rule Seen) (s1 : Seen) → behind before r ≡ put s1 → behind before (after r (closing o)) ≡ put (s1.0, left o s1.1)
scope_by before o (Ok x) s1 is = ap (λ (s : Seen). put (s.0, left o s.1)) (same (before ++ x.0, x.1) s1 is)
scope_by before o (Err e) s1 is = absurd (cc)

pub scope : (work : Elab (List Pos)) (s0 s1 : Seen) → goes work (s0.0, entered s0.1) ≡ put s1 → goes (scoped work) s0 ≡ put (s1.0, left (outer s0.1) s1.1)
scope work s0 s1 is = scope_by s0.0 (outer s0.1) (work (entered s0.1)) s1 is

-- ---- the same of a search

abbrev pub Alike : (a b : Elab (List Pos)) → Type 0
Alike a b = (s : State) → a s ≡ b s

pub alike_goes : (a b : Elab (List Pos)) (s : Seen) → Alike a b → goes a s ≡ goes b s
alike_goes a b s form = ap (λ (r : Rule Seen). behind s.0 r) (form s.1)

pub alike : (a b : Elab (List Pos)) (r : Result (Unit {0}) NoMemory) (old new : Search) → Alike a b → Adds r b old new → Adds r a old new
unfolding Adds
alike a b (Ok u) old new form h = alike_goes a b (seen_of old) form ∙ h
alike a b (Err e) old new form h = h

pub both : (whole a b : Elab (List Pos)) (r : Result (Unit {0}) NoMemory) (u : Unit {0}) (s0 s1 s2 : Search) → Alike whole (in_turn a b)
    → Adds (Ok u) a s0 s1 → Adds r b s1 s2 → Adds r whole s0 s2
unfolding Adds
both whole a b (Ok v) u s0 s1 s2 form first second = alike_goes whole (in_turn a b) (seen_of s0) form ∙ turns a b (seen_of s0) (seen_of s1) first ∙ second
both whole a b (Err e) u s0 s1 s2 form first second = second

pub three : (whole a b c : Elab (List Pos)) (r : Result (Unit {0}) NoMemory) (u v : Unit {0}) (s0 s1 s2 s3 : Search) → Alike whole (in_turn a (in_turn b c))
    → Adds (Ok u) a s0 s1 → Adds (Ok v) b s1 s2 → Adds r c s2 s3 → Adds r whole s0 s3
three whole a b c r u v s0 s1 s2 s3 form first second third = both whole a (in_turn b c) r u s0 s1 s3 form first (both (in_turn b c) b c r v s1 s2 s3 (λ s. refl) second third)

pub four : (whole a b c d : Elab (List Pos)) (r : Result (Unit {0}) NoMemory) (u v x : Unit {0}) (s0 s1 s2 s3 s4 : Search) → Alike whole (in_turn a (in_turn b (in_turn c d)))
    → Adds (Ok u) a s0 s1 → Adds (Ok v) b s1 s2 → Adds (Ok x) c s2 s3 → Adds r d s3 s4 → Adds r whole s0 s4
four whole a b c d r u v x s0 s1 s2 s3 s4 form first second third fourth =
    both whole a (in_turn b (in_turn c d)) r u s0 s1 s4 form first (three (in_turn b (in_turn c d)) b c d r v x s1 s2 s3 s4 (λ s. refl) second third fourth)

pub none : (whole : Elab (List Pos)) (u : Unit {0}) (s : Search) → Alike whole (give []) → Adds (Ok u) whole s s
unfolding Adds
none whole u s form = alike_goes whole (give []) (seen_of s) form ∙ nothing (seen_of s)

-- ---- lists: what is left of one, from here

pub next_turn : (whole first rest : Elab (List Pos)) (u : Unit {0}) (s0 s1 : Search) → Alike whole (in_turn first rest) → Adds (Ok u) first s0 s1
    → goes whole (seen_of s0) ≡ goes rest (seen_of s1)
unfolding Adds
next_turn whole first rest u s0 s1 form h = alike_goes whole (in_turn first rest) (seen_of s0) form ∙ turns first rest (seen_of s0) (seen_of s1) h

pub ended : (whole rest : Elab (List Pos)) (u : Unit {0}) (s0 s1 : Search) → goes rest (seen_of s1) ≡ goes whole (seen_of s0) → Alike rest (give [])
    → Adds (Ok u) whole s0 s1
unfolding Adds
ended whole rest u s0 s1 inv form = sym inv ∙ alike_goes rest (give []) (seen_of s1) form ∙ nothing (seen_of s1)
