-- Names that are called or posted, where one more use stands behind.
use Rattle.std.proofs.Common.{◌≡◌, ℕ, Bool, true, false, not, ◌&&◌, ◌||◌, cond, List, [], ◌∷◌, ◌++◌, refl, sym, ap, ◌∙◌, bytes_eq}
use Rattle.std.specs.List.{list_any}
use Rattle.std.proofs.lemmas.List.Folds.{list_any-append}
use Rattle.std.proofs.lemmas.Slice.Eq.{bytes_eq-Decides}
use Rattle.wire_names.specs.Texts.{same_text}
use Rattle.program_meaning.specs.declared.used.Use.{Use}
use Rattle.program_meaning.specs.Uses.{is_use, is_used, same_way}
use Rattle.elab_targets.specs.declared.used.Used as table
use Rattle.elab_targets.specs.Places.{AreUsed, names_of}
use Rattle.elab_targets.proofs.Naming.{added, turned}

or_false : (b : Bool) → (b || false) ≡ b
or_false true = refl
or_false false = refl

or_true : (b : Bool) → (b || true) ≡ true
or_true true = refl
or_true false = refl

-- of the names with one more
any_added : (a x : List ℕ) (ns : List (List ℕ)) → list_any (same_text x) (added a ns) ≡ (list_any (same_text x) ns || bytes_eq a x)
any_added a x ns = by (list_any (same_text a) ns) refl where
  there : list_any (same_text a) ns ≡ true → (b : Bool) → bytes_eq a x ≡ b → list_any (same_text x) ns ≡ (list_any (same_text x) ns || b)
  there h true e =
      let any : list_any (same_text x) ns ≡ true = ap (λ (y : List ℕ). list_any (same_text y) ns) (sym ((bytes_eq-Decides a x).0 e)) ∙ h in
      any ∙ sym (or_true (list_any (same_text x) ns))
  there h false e = sym (or_false (list_any (same_text x) ns))

  by : (t : Bool) → list_any (same_text a) ns ≡ t → list_any (same_text x) (cond t ns (ns ++ a ∷ [])) ≡ (list_any (same_text x) ns || bytes_eq a x)
  by true h = there h (bytes_eq a x) refl
  by false h = list_any-append (same_text x) ns (a ∷ []) ∙ ap (λ b. list_any (same_text x) ns || b) (or_false (bytes_eq x a) ∙ turned x a)

module _ (us : List Use) (one : Use) (old new : table.Used) (are : AreUsed us old) where
  behind : (posts : Bool) (name : List ℕ) → is_used (us ++ one ∷ []) posts name ≡ (is_used us posts name || is_use posts name one)
  behind posts name = list_any-append (is_use posts name) us (one ∷ []) ∙ ap (λ b. is_used us posts name || b) (or_false (is_use posts name one))

  this_way : (posts : Bool) (name : List ℕ) → names_of posts new ≡ added one.name (names_of posts old) → same_way posts one.posts ≡ true
      → list_any (same_text name) (names_of posts new) ≡ is_used (us ++ one ∷ []) posts name
  this_way posts name is way =
      ap (list_any (same_text name)) is ∙ any_added one.name name (names_of posts old)
      ∙ ap (λ b. b || bytes_eq one.name name) (are.has posts name)
      ∙ ap (λ b. is_used us posts name || (b && bytes_eq one.name name)) (sym way) ∙ sym (behind posts name)

  other_way : (posts : Bool) (name : List ℕ) → names_of posts new ≡ names_of posts old → same_way posts one.posts ≡ false
      → list_any (same_text name) (names_of posts new) ≡ is_used (us ++ one ∷ []) posts name
  other_way posts name is way =
      ap (list_any (same_text name)) is ∙ are.has posts name ∙ sym (or_false (is_used us posts name))
      ∙ ap (λ b. is_used us posts name || (b && bytes_eq one.name name)) (sym way) ∙ sym (behind posts name)

  pub posted : one.posts ≡ true → new.posted ≡ added one.name old.posted → new.called ≡ old.called → AreUsed (us ++ one ∷ []) new
  posted way this other = record { has = by } where
    by : (posts : Bool) (name : List ℕ) → list_any (same_text name) (names_of posts new) ≡ is_used (us ++ one ∷ []) posts name
    by true name = this_way true name this way
    by false name = other_way false name other (ap not way)

  pub called : one.posts ≡ false → new.called ≡ added one.name old.called → new.posted ≡ old.posted → AreUsed (us ++ one ∷ []) new
  called way this other = record { has = by } where
    by : (posts : Bool) (name : List ℕ) → list_any (same_text name) (names_of posts new) ≡ is_used (us ++ one ∷ []) posts name
    by false name = this_way false name this (ap not way)
    by true name = other_way true name other way
