-- The parameters of an item, one after the other.
use Rattle.std.proofs.Common.{◌≡◌, ℕ, ◌+◌, List, [], ◌∷◌, ◌++◌, map, refl, sym, ap, ◌∙◌, append_assoc}
use Rattle.std.proofs.lemmas.List.{map-append}
use Rattle.std.proofs.lemmas.List.FromFn.{map-range_with_len_more}
use Rattle.std.specs.List.{range_with_len}
use Rattle.nm_base.specs.declared.pos.Pos.{Pos}
use Rattle.nesc_core.specs.declared.tree.CoreExpr.{CoreExpr}
use Rattle.nesc_core.specs.Plain.{Expr}
use Rattle.nesc_core.specs.View.{expr_of}
use Rattle.program_meaning.specs.Dispatch.{read_local}

-- one more of them
pub other-more : (f : ℕ → Expr) (a n : ℕ) → map f (range_with_len a (n + 1)) ≡ map f (range_with_len a n) ++ (f (a + n) ∷ [])
other-more f a n = map-range_with_len_more f a n (a + n) refl

-- the next one is pushed
pub other-pushed : (at : Pos) (a first k : ℕ) (before : List Expr) (old new : List CoreExpr) (e : CoreExpr)
    → first ≡ a → map expr_of old ≡ before ++ map (read_local at) (range_with_len a k) → new ≡ old ++ (e ∷ []) → expr_of e ≡ read_local at (first + k)
    → map expr_of new ≡ before ++ map (read_local at) (range_with_len a (k + 1))
other-pushed at a first k before old new e low so_far grown is =
    ap (map expr_of) grown
    ∙ (map-append expr_of old (e ∷ [])
    ∙ (ap (λ (es : List Expr). es ++ (expr_of e ∷ [])) so_far
    ∙ (append_assoc before (map (read_local at) (range_with_len a k)) (expr_of e ∷ [])
    ∙ (ap (λ (x : Expr). before ++ (map (read_local at) (range_with_len a k) ++ (x ∷ []))) (is ∙ ap (λ (n : ℕ). read_local at (n + k)) low)
    ∙ ap (λ (es : List Expr). before ++ es) (sym (other-more (read_local at) a k))))))

pub ruleset ranges = (other-more)
