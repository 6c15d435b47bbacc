-- All but a type name hides names from its end on.
use Rattle.std.proofs.Common.{◌≡◌, ℕ, List, refl}
use Rattle.nm_base.specs.declared.token.Token.{Token}
use Rattle.nesc_tree.specs.declared.sorts.Sort.{Sort}
use Rattle.nesc_tree.specs.declared.sorts.Sort.TheVariants as s
use Rattle.nesc_tree.specs.declared.contexts.Site.{Site}
use Rattle.nesc_tree.specs.Sorts.{Names}
use Rattle.nesc_grammar.specs.Declarations as spec
use Rattle.nesc_parse_types.specs.Gives.{form_in}

pub hiding_is : (d : ℕ) (m : Site) (names : Names) (ts : List Token) (x : Sort) → (x ≡ s.Typedef → ⊥) → form_in d (spec.decl_of m x) names ts ≡ form_in d (spec.hiding (spec.declaring m x)) names ts
hiding_is d m names ts s.Typedef h = absurd (h refl)
hiding_is d m names ts s.End h = refl
hiding_is d m names ts _ h = refl
