-- Looking a constant up in the map of constants, and setting one.
use Rattle.std.proofs.Common.{◌≡◌, ℕ, true, false, cond, Bool, List, [], ◌∷◌, Option, Some, refl, sym, ap, ◌∙◌}
use Rattle.std.proofs.lemmas.Slice.Eq.{bytes_eq-Decides}
use Rattle.std.specs.Prelude.{bytes_eq}
use Rattle.std.specs.Map.{lookup}
use Rattle.indexmap.specs.IndexMap.{insert_entry}
use Rattle.std.specs.declared.vec.Vec.{Vec}
use Rattle.std.specs.declared.alloc.Global.{Global}
use Rattle.nesc_types.specs.Values.{Constant, Values, value_of, with_value, held}

pub found : (text : List ℕ) (entries : List (Vec ℕ Global × Constant)) → lookup (λ k. bytes_eq text k.items) entries ≡ value_of (held entries) text
found text [] = refl
found text (x ∷ xs) =
    let by : (b : Bool) → cond b (Some x.1) (lookup (λ k. bytes_eq text k.items) xs) ≡ cond b (Some x.1) (value_of (held xs) text) = elim [ true ↦ refl | false ↦ found text xs ] in
    by (bytes_eq text x.0.items)

pub inserted : (key : Vec ℕ Global) (value : Constant) (entries : List (Vec ℕ Global × Constant)) → held (insert_entry (λ k n. bytes_eq k.items n.items) entries key value) ≡ with_value key.items value (held entries)
inserted key value [] = refl
inserted key value (x ∷ xs) =
    let by : (b : Bool) → held (cond b ((x.0, value) ∷ xs) (x ∷ insert_entry (λ k n. bytes_eq k.items n.items) xs key value)) ≡ cond b ((x.0.items, value) ∷ held xs) ((x.0.items, x.1) ∷ with_value key.items value (held xs)) = elim [
      | true ↦ refl
      | false ↦ ap (λ (vs : Values). (x.0.items, x.1) ∷ vs) (inserted key value xs)
    ] in
    by (bytes_eq key.items x.0.items)

-- ---- what was set, and what it leaves alone

set_is_found : (name : List ℕ) (x : Constant) (vs : Values) → value_of (with_value name x vs) name ≡ Some x
set_is_found name x [] = rw ((bytes_eq-Decides name name).1 refl) refl
set_is_found name x (v ∷ vs) =
    let by : (b : Bool) → bytes_eq name v.0 ≡ b → value_of (cond b ((v.0, x) ∷ vs) (v ∷ with_value name x vs)) name ≡ Some x = elim [
      | true ↦ λ e. rw (e) refl
      | false ↦ λ e. rw (e) (set_is_found name x vs)
    ] in
    by (bytes_eq name v.0) refl

differs : (other name : List ℕ) → ¬ (other ≡ name) → bytes_eq other name ≡ false
differs other name ne =
    let by : (b : Bool) → bytes_eq other name ≡ b → b ≡ false = elim [
      | true ↦ λ e. absurd (ne ((bytes_eq-Decides other name).0 e))
      | false ↦ λ e. refl
    ] in
    by (bytes_eq other name) refl

others_stay : (other name : List ℕ) (x : Constant) (vs : Values) → ¬ (other ≡ name) → value_of (with_value name x vs) other ≡ value_of vs other
others_stay other name x [] ne = rw (differs other name ne) refl
others_stay other name x (v ∷ vs) ne =
    let by : (b : Bool) → bytes_eq name v.0 ≡ b → value_of (cond b ((v.0, x) ∷ vs) (v ∷ with_value name x vs)) other ≡ value_of (v ∷ vs) other = elim [
      | true ↦ λ e. rw (differs other v.0 (λ same. ne (same ∙ sym ((bytes_eq-Decides name v.0).0 e)))) refl
      | false ↦ λ e. ap (λ (o : Option Constant). cond (bytes_eq other v.0) (Some v.1) o) (others_stay other name x vs ne)
    ] in
    by (bytes_eq name v.0) refl

-- the values behind a `set` are a map's
pub is_map : (name : List ℕ) (x : Constant) (before after : Values) → after ≡ with_value name x before
    → (value_of after name ≡ Some x) × ((other : List ℕ) → ¬ (other ≡ name) → value_of after other ≡ value_of before other)
is_map name x before after is =
    (ap (λ (vs : Values). value_of vs name) is ∙ set_is_found name x before, λ other ne. ap (λ (vs : Values). value_of vs other) is ∙ others_stay other name x before ne)
