-- The graph from its parts.
use Rattle.std.proofs.Common.{◌≡◌, ℕ, zero, suc, ◌+◌, ◌<◌, ◌≤◌, Bool, false, List, [], ◌∷◌, ◌++◌, length, map, get_or, drop, Option, Some, None, refl, sym, subst, ap, arith, ◌∙◌, append-nil}
use Rattle.std.specs.Prelude.{slice_get, option_map}
use Rattle.std.specs.List.{flat_map}
use Rattle.std.proofs.Math.ListN.{drop_of_length-le}
use Rattle.std.proofs.lemmas.Grind.{flat_map-append}
use Rattle.std.proofs.lemmas.Option.{slice_get-map, slice_get_read}
use Rattle.nesc_core.specs.Plain.{Program}
use Rattle.nesc_core.specs.declared.tree.Body as tree
use Rattle.nesc_core.specs.declared.tree.Program as tree_program
use Rattle.nesc_core.specs.View.{stmt_of, body_of, program_of}
use Rattle.call_graph.specs.declared.edges.Call.{Call}
use Rattle.call_graph.specs.declared.uses.Use as listed
use Rattle.call_graph.specs.Paths.{below}
use Rattle.call_graph.specs.Uses.{stmt_uses, uses, uses_of}
use Rattle.call_graph.specs.View.{use_of}
use Rattle.call_graph.specs.Graph.{AreReached, call_of, calls_from}
use Rattle.call_graph.specs.Refusals.{call_place}
use Rattle.call_graph.proofs.Searching.{below_next}
use Rattle.call_graph.proofs.ViewLists.{next_of}

pub reached_as : (n more : ℕ) (roots others : List ℕ) (steps callees : ℕ → List ℕ) (marks : List Bool) → n ≡ more → roots ≡ others → steps ≡ callees
    → AreReached n roots steps marks → AreReached more others callees marks
reached_as n more roots others steps callees marks size same are reached =
    subst (λ k. AreReached k others callees marks) size (subst (λ rs. AreReached n rs callees marks) same (subst (λ s. AreReached n roots s marks) are reached))

pub calls_next : (p : Program) (n : ℕ) → flat_map (calls_from p) (below (n + 1)) ≡ flat_map (calls_from p) (below n) ++ calls_from p n
calls_next p n =
    ap (flat_map (calls_from p)) (below_next n) ∙ flat_map-append (calls_from p) (below n) (n ∷ [])
    ∙ ap (λ xs. flat_map (calls_from p) (below n) ++ xs) (append-nil (calls_from p n))

-- what is listed for a body is what it uses
pub uses_at : (p : tree_program.Program) (bodies : List tree.Body) (k : ℕ) (b : tree.Body) → bodies ≡ p.bodies → k < length bodies → b ≡ get_or bodies k b
    → uses (program_of p) k ≡ stmt_uses 0 false (stmt_of b.code)
uses_at p bodies k b same inside is =
    ap uses_of (slice_get-map body_of p.bodies k ∙ ap (λ o. option_map body_of o) (subst (λ bs. slice_get bs k ≡ Some b) same (slice_get_read bodies (length bodies) k b refl inside is)))

pub no_uses : (p : tree_program.Program) (bodies : List tree.Body) (k : ℕ) → bodies ≡ p.bodies → length bodies ≤ k → uses (program_of p) k ≡ []
no_uses p bodies k same past = beyond p.bodies k (subst (λ bs. length bs ≤ k) same past)
  where
    beyond : (bs : List tree.Body) (k : ℕ) → length bs ≤ k → uses_of (slice_get (map body_of bs) k) ≡ []
    beyond [] k le = refl
    beyond (b ∷ bs) zero le = absurd (omega (arith, le))
    beyond (b ∷ bs) (suc k) le = beyond bs k (omega (arith, le))

-- the calls of one body more
pub calls_more : (p : tree_program.Program) (bodies : List tree.Body) (k : ℕ) (b : tree.Body) (out more : List Call) (us seen : List listed.Use) → bodies ≡ p.bodies → k < length bodies → b ≡ get_or bodies k b
    → out ≡ flat_map (calls_from (program_of p)) (below k) → seen ≡ us → map use_of us ≡ stmt_uses 0 false (stmt_of b.code)
    → more ≡ out ++ flat_map (call_of k) (map use_of seen) → more ≡ flat_map (calls_from (program_of p)) (below (k + 1))
calls_more p bodies k b out more us seen same inside is out_is seen_is us_is more_is =
    more_is ∙ ap (λ xs. xs ++ flat_map (call_of k) (map use_of seen)) out_is
    ∙ ap (λ xs. flat_map (calls_from (program_of p)) (below k) ++ flat_map (call_of k) xs) (ap (map use_of) seen_is ∙ us_is ∙ sym (uses_at p bodies k b same inside is))
    ∙ sym (calls_next (program_of p) k)

pub pushed_next : (f : ℕ) (xs : List listed.Use) (k : ℕ) (x : listed.Use) → k < length xs → x ≡ get_or xs k x
    → flat_map (call_of f) (map use_of (drop k xs)) ≡ call_of f (use_of x) ++ flat_map (call_of f) (map use_of (drop (k + 1) xs))
pushed_next f xs k x below is = ap (λ ys. flat_map (call_of f) (map use_of ys)) (next_of xs k x below is)

pub place_next : (to : ℕ) (xs : List listed.Use) (k : ℕ) (x : listed.Use) → k < length xs → x ≡ get_or xs k x
    → call_place (map use_of (drop k xs)) to ≡ call_place (use_of x ∷ map use_of (drop (k + 1) xs)) to
place_next to xs k x below is = ap (λ ys. call_place (map use_of ys) to) (next_of xs k x below is)

pub ruleset steps = (pushed_next, place_next, drop_of_length-le)
