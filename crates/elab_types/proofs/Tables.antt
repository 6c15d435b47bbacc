-- Tables of names, tags and fields, seen through their entries.
use Rattle.std.proofs.Common.{◌≡◌, ℕ, ◌+◌, ◌<◌, zero, suc, List, [], ◌∷◌, ◌++◌, length, map, drop, get_or, None, if◌then◌else◌, true, bytes_eq, ap, ◌∙◌, sym, refl, arith}
use Rattle.std.proofs.lemmas.List.{map_push}
use Rattle.std.proofs.lemmas.List.Sums.{fold-append}
use Rattle.elab_meaning.specs.declared.scope.Entry as rust
use Rattle.elab_meaning.specs.declared.scope.Tag as rust_tag
use Rattle.elab_meaning.specs.Scope.{newer_tag, lookup_tag, declares, declares_tag, has_field}
use Rattle.nesc_core.specs.declared.tree.Field as rust_field
use Rattle.nesc_core.specs.View.{field_of}
use Rattle.elab_meaning.specs.View.{entry_of, tag_of}

-- the last tag counts, where it has the name
pub lookup_tag-last : (name : List ℕ) (older rest : List rust_tag.Tag) (t : rust_tag.Tag) → older ≡ rest ++ (t ∷ [])
    → lookup_tag (map tag_of older) name ≡ newer_tag name (lookup_tag (map tag_of rest) name) (tag_of t)
lookup_tag-last name older rest t is =
    ap (λ (ts : List rust_tag.Tag). lookup_tag (map tag_of ts) name) is
    ∙ ap (λ ts. lookup_tag ts name) (map_push tag_of rest t)
    ∙ fold-append (newer_tag name) None (map tag_of rest) (tag_of t ∷ [])

-- the first of those that are left declares the name, or the others do
pub declares-here : (name : List ℕ) (xs : List rust.Entry) (i : ℕ) (d : rust.Entry) → i < length xs
    → declares (map entry_of (drop i xs)) name
    ≡ (if bytes_eq (entry_of (get_or xs i d)).name name then true else declares (map entry_of (drop (i + 1) xs)) name)
declares-here name [] i d h = absurd (omega arith)
declares-here name (x ∷ xs) zero d h = refl
declares-here name (x ∷ xs) (suc i) d h =
    let e : suc i + 1 ≡ suc (i + 1) = omega arith in
    declares-here name xs i d (omega arith)
    ∙ ap (λ k. if bytes_eq (entry_of (get_or xs i d)).name name then true else declares (map entry_of (drop k (x ∷ xs))) name) (sym e)

pub declares_tag-here : (name : List ℕ) (xs : List rust_tag.Tag) (i : ℕ) (d : rust_tag.Tag) → i < length xs
    → declares_tag (map tag_of (drop i xs)) name
    ≡ (if bytes_eq (tag_of (get_or xs i d)).name name then true else declares_tag (map tag_of (drop (i + 1) xs)) name)
declares_tag-here name [] i d h = absurd (omega arith)
declares_tag-here name (x ∷ xs) zero d h = refl
declares_tag-here name (x ∷ xs) (suc i) d h =
    let e : suc i + 1 ≡ suc (i + 1) = omega arith in
    declares_tag-here name xs i d (omega arith)
    ∙ ap (λ k. if bytes_eq (tag_of (get_or xs i d)).name name then true else declares_tag (map tag_of (drop k (x ∷ xs))) name) (sym e)

-- the first field that is left has the name, or the others do
pub has_field-here : (name : List ℕ) (xs : List rust_field.Field) (i : ℕ) (d : rust_field.Field) → i < length xs
    → has_field (map field_of (drop i xs)) name
    ≡ (if bytes_eq (field_of (get_or xs i d)).name name then true else has_field (map field_of (drop (i + 1) xs)) name)
has_field-here name [] i d h = absurd (omega arith)
has_field-here name (x ∷ xs) zero d h = refl
has_field-here name (x ∷ xs) (suc i) d h =
    let e : suc i + 1 ≡ suc (i + 1) = omega arith in
    has_field-here name xs i d (omega arith)
    ∙ ap (λ k. if bytes_eq (field_of (get_or xs i d)).name name then true else has_field (map field_of (drop k (x ∷ xs))) name) (sym e)

pub ruleset tables = (lookup_tag-last, declares-here, declares_tag-here, has_field-here)
