-- Places among the functions that have bodies, one declaration after the other.
use Rattle.std.proofs.Common.{◌≡◌, ℕ, ◌+◌, ◌<◌, Bool, true, false, cond, List, ◌∷◌, Option, Some, None, is_some, drop, length, get_or, refl, ap, ◌∙◌, rules}
use Rattle.std.specs.List.{position_from}
use Rattle.std.specs.Option.{option_map}
use Rattle.std.proofs.Math.ListN.{drop_of_length-le}
use Rattle.nesc_tree.specs.declared.declarations.Decl as decl
use Rattle.body_meaning.specs.Tree.{Decl, Head}
use Rattle.body_meaning.specs.View.{decl_of}
use Rattle.program_meaning.specs.Numbers.{bodies_in, definition_in, definitions}
use Rattle.elab_uses.specs.Lists.{decls_of}
use Rattle.elab_uses.proofs.Lists.{next_of}

-- the place of the first that passes, from a place on, among the definitions of these declarations
abbrev pub place_from : (Head → Bool) → ℕ → List Decl → Option ℕ
place_from is p ds = position_from is p (definitions ds)

skipped : (is : Head → Bool) (p : ℕ) (d : Decl) (ds : List Decl) (o : Option Head) → definition_in d ≡ o → option_map is o ≡ None
    → place_from is p (d ∷ ds) ≡ place_from is p ds
skipped is p d ds None is_none none = search (rules, is_none)
skipped is p d ds (Some h) is_some none = absurd (cc)

passed : (is : Head → Bool) (p : ℕ) (d : Decl) (ds : List Decl) (o : Option Head) → definition_in d ≡ o → option_map is o ≡ Some true
    → place_from is p (d ∷ ds) ≡ Some p
passed is p d ds None is_none hit = absurd (cc)
passed is p d ds (Some h) is_some hit = search (rules, is_some, hit)

failed : (is : Head → Bool) (p : ℕ) (d : Decl) (ds : List Decl) (o : Option Head) → definition_in d ≡ o → option_map is o ≡ Some false
    → place_from is p (d ∷ ds) ≡ place_from is (p + 1) ds
failed is p d ds None is_none miss = absurd (cc)
failed is p d ds (Some h) is_some miss = search (rules, is_some, miss)

-- the same of the element at place k of the declarations that are left
module _ (is : Head → Bool) (p : ℕ) (xs : List decl.Decl) (k : ℕ) (x : decl.Decl) (below : k < length xs) (at : x ≡ get_or xs k x) where
  begins : place_from is p (decls_of (drop k xs)) ≡ place_from is p (decl_of x ∷ decls_of (drop (k + 1) xs))
  begins = ap (λ ys. place_from is p (decls_of ys)) (next_of xs k x below at)

  pub skipped_next : option_map is (definition_in (decl_of x)) ≡ None → place_from is p (decls_of (drop k xs)) ≡ place_from is p (decls_of (drop (k + 1) xs))
  skipped_next none = begins ∙ skipped is p (decl_of x) (decls_of (drop (k + 1) xs)) (definition_in (decl_of x)) refl none

  pub passed_next : option_map is (definition_in (decl_of x)) ≡ Some true → place_from is p (decls_of (drop k xs)) ≡ Some p
  passed_next hit = begins ∙ passed is p (decl_of x) (decls_of (drop (k + 1) xs)) (definition_in (decl_of x)) refl hit

  pub failed_next : option_map is (definition_in (decl_of x)) ≡ Some false → place_from is p (decls_of (drop k xs)) ≡ place_from is (p + 1) (decls_of (drop (k + 1) xs))
  failed_next miss = begins ∙ failed is p (decl_of x) (decls_of (drop (k + 1) xs)) (definition_in (decl_of x)) refl miss

-- ---- how many have bodies

counted : (d : Decl) (ds : List Decl) (o : Option Head) → definition_in d ≡ o → is_some o ≡ true → bodies_in (d ∷ ds) ≡ bodies_in ds + 1
counted d ds None is_none hit = absurd (cc)
counted d ds (Some h) is_some_h hit = search (rules, is_some_h)

left_out : (d : Decl) (ds : List Decl) (o : Option Head) → definition_in d ≡ o → is_some o ≡ false → bodies_in (d ∷ ds) ≡ bodies_in ds
left_out d ds None is_none miss = search (rules, is_none)
left_out d ds (Some h) is_some_h miss = absurd (cc)

module _ (xs : List decl.Decl) (k : ℕ) (x : decl.Decl) (below : k < length xs) (at : x ≡ get_or xs k x) where
  first_of : bodies_in (decls_of (drop k xs)) ≡ bodies_in (decl_of x ∷ decls_of (drop (k + 1) xs))
  first_of = ap (λ ys. bodies_in (decls_of ys)) (next_of xs k x below at)

  pub counted_next : is_some (definition_in (decl_of x)) ≡ true → bodies_in (decls_of (drop k xs)) ≡ bodies_in (decls_of (drop (k + 1) xs)) + 1
  counted_next hit = first_of ∙ counted (decl_of x) (decls_of (drop (k + 1) xs)) (definition_in (decl_of x)) refl hit

  pub left_out_next : is_some (definition_in (decl_of x)) ≡ false → bodies_in (decls_of (drop k xs)) ≡ bodies_in (decls_of (drop (k + 1) xs))
  left_out_next miss = first_of ∙ left_out (decl_of x) (decls_of (drop (k + 1) xs)) (definition_in (decl_of x)) refl miss

pub ruleset counts = (counted_next, left_out_next, drop_of_length-le)

pub ruleset places = (skipped_next, passed_next, failed_next, drop_of_length-le)
