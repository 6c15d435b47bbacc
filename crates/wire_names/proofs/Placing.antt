-- Looking a place up in a map of places, and setting one.
use Rattle.std.proofs.Common.{◌≡◌, ℕ, true, false, cond, Bool, List, [], ◌∷◌, Option, Some, refl, sym, ap, ◌∙◌}
use Rattle.std.proofs.lemmas.Slice.Eq.{bytes_eq-Decides}
use Rattle.std.specs.Prelude.{bytes_eq}
use Rattle.std.specs.Map.{lookup}
use Rattle.indexmap.specs.IndexMap.{insert_entry}
use Rattle.std.specs.declared.vec.Vec.{Vec}
use Rattle.std.specs.declared.alloc.Global.{Global}
use Rattle.wire_names.specs.Places.{place_of, held}

pub found : (text : List ℕ) (entries : List (Vec ℕ Global × ℕ)) → lookup (λ k. bytes_eq text k.items) entries ≡ place_of (held entries) text
found text [] = refl
found text (x ∷ xs) =
    let by : (b : Bool) → cond b (Some x.1) (lookup (λ k. bytes_eq text k.items) xs) ≡ cond b (Some x.1) (place_of (held xs) text) = elim [ true ↦ refl | false ↦ found text xs ] in
    by (bytes_eq text x.0.items)

-- a text that is equal to one of two equal texts is equal to the other
both : (q n m : List ℕ) → bytes_eq n m ≡ true → bytes_eq q n ≡ bytes_eq q m
both q n m e = ap (bytes_eq q) ((bytes_eq-Decides n m).0 e)

-- of two different texts a third is equal to one at most
apart : (q n m : List ℕ) → bytes_eq n m ≡ false → bytes_eq q m ≡ true → bytes_eq q n ≡ false
apart q n m ne e =
    let by : (b : Bool) → bytes_eq q n ≡ b → b ≡ false = elim [
      | true ↦ λ h. absurd (let same : n ≡ m = sym ((bytes_eq-Decides q n).0 h) ∙ (bytes_eq-Decides q m).0 e in let t : bytes_eq n m ≡ true = (bytes_eq-Decides n m).1 same in let c : true ≡ false = sym t ∙ ne in cc)
      | false ↦ λ h. refl
    ] in
    by (bytes_eq q n) refl

pub inserted : (key : Vec ℕ Global) (place : ℕ) (entries : List (Vec ℕ Global × ℕ)) (q : List ℕ) → place_of (held (insert_entry (λ k n. bytes_eq k.items n.items) entries key place)) q ≡ cond (bytes_eq q key.items) (Some place) (place_of (held entries) q)
inserted key place [] q = refl
inserted key place (x ∷ xs) q = by (bytes_eq key.items x.0.items) refl (inserted key place xs q)
  where
    swapped : (a b : Bool) → (a ≡ true → b ≡ false) → (o : Option ℕ) → cond a (Some x.1) (cond b (Some place) o) ≡ cond b (Some place) (cond a (Some x.1) o)
    swapped true true h o = absurd (let e : true ≡ false = h refl in cc)
    swapped true false h o = refl
    swapped false b h o = refl

    shadowed : (b : Bool) (o : Option ℕ) → cond b (Some place) o ≡ cond b (Some place) (cond b (Some x.1) o)
    shadowed true o = refl
    shadowed false o = refl

    by : (b : Bool) → bytes_eq key.items x.0.items ≡ b → place_of (held (insert_entry (λ k n. bytes_eq k.items n.items) xs key place)) q ≡ cond (bytes_eq q key.items) (Some place) (place_of (held xs) q)
        → place_of (held (cond b ((x.0, place) ∷ xs) (x ∷ insert_entry (λ k n. bytes_eq k.items n.items) xs key place))) q ≡ cond (bytes_eq q key.items) (Some place) (cond (bytes_eq q x.0.items) (Some x.1) (place_of (held xs) q))
    by true e inner = rw (both q key.items x.0.items e) (shadowed (bytes_eq q x.0.items) (place_of (held xs) q))
    by false e inner =
        ap (λ (o : Option ℕ). cond (bytes_eq q x.0.items) (Some x.1) o) inner
        ∙ swapped (bytes_eq q x.0.items) (bytes_eq q key.items) (apart q key.items x.0.items e) (place_of (held xs) q)
