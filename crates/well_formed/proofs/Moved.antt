-- The types of a pointer that is moved.
use Rattle.std.proofs.Common.{◌≡◌, ℕ, Box, Global, ap, sym, subst, ◌∙◌, rules}
use Rattle.nesc_core.specs.declared.tree.CoreExpr.{CoreExpr, Offset, the_lemmas}
use Rattle.nesc_core.specs.Plain.{Expr}
use Rattle.nesc_core.specs.Plain as plain
use Rattle.nesc_core.specs.Typing.{IsNumber}
use Rattle.nesc_core.specs.View.{expr_of}
use Rattle.well_formed.specs.declared.found.Found.{Found}
use Rattle.well_formed.specs.declared.scope.Scope.{Scope}
use Rattle.well_formed.specs.Scopes.{Has, HasFound}

offset_is : (e : CoreExpr) (a b : Box CoreExpr Global) (n : ℕ) → e ≡ Offset a b n → expr_of e ≡ plain.offset (expr_of a.value) (expr_of b.value) n
offset_is e a b n is = ap expr_of is ∙ search (rules, the_lemmas)

pub offset_has : (s : Scope) (e : CoreExpr) (a b : Box CoreExpr Global) (n : ℕ) (f : Found) → e ≡ Offset a b n
    → ((x : Expr) → IsNumber (Has s x) → HasFound s (plain.offset (expr_of a.value) x n) f) → IsNumber (Has s (expr_of b.value)) → HasFound s (expr_of e) f
offset_has s e a b n f is moved number = subst (λ x. HasFound s x f) (sym (offset_is e a b n is)) (moved (expr_of b.value) number)
