-- The type of a logical operator.
use Rattle.std.proofs.Common.{◌≡◌, Box, Global, ap, sym, subst, ◌∙◌, rules}
use Rattle.nm_base.specs.declared.int_type.IntType.TheVariants.{I16}
use Rattle.nesc_core.specs.declared.tree.CoreExpr.{CoreExpr, And, Or, the_lemmas}
use Rattle.nesc_core.specs.Plain.{int}
use Rattle.nesc_core.specs.Plain as plain
use Rattle.nesc_core.specs.View.{expr_of}
use Rattle.well_formed.specs.declared.scope.Scope.{Scope}
use Rattle.well_formed.specs.Scopes.{AreTests, Has}

both_is : (e : CoreExpr) (a b : Box CoreExpr Global) → e ≡ And a b → expr_of e ≡ plain.both (expr_of a.value) (expr_of b.value)
both_is e a b is = ap expr_of is ∙ search (rules, the_lemmas)

either_is : (e : CoreExpr) (a b : Box CoreExpr Global) → e ≡ Or a b → expr_of e ≡ plain.either (expr_of a.value) (expr_of b.value)
either_is e a b is = ap expr_of is ∙ search (rules, the_lemmas)

pub both_has : (s : Scope) (e : CoreExpr) (a b : Box CoreExpr Global) → e ≡ And a b → AreTests s (expr_of a.value) (expr_of b.value) → Has s (expr_of e) (int I16)
both_has s e a b is tests = subst (λ x. Has s x (int I16)) (sym (both_is e a b is)) tests.both

pub either_has : (s : Scope) (e : CoreExpr) (a b : Box CoreExpr Global) → e ≡ Or a b → AreTests s (expr_of a.value) (expr_of b.value) → Has s (expr_of e) (int I16)
either_has s e a b is tests = subst (λ x. Has s x (int I16)) (sym (either_is e a b is)) tests.either
