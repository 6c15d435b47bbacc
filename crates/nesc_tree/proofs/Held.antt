-- Looking a name up in the map of declared names, and declaring one.
use Rattle.std.proofs.Common.{◌≡◌, ℕ, Bool, true, false, cond, List, [], ◌∷◌, Some, refl, ap}
use Rattle.std.specs.Prelude.{bytes_eq, unwrap_or}
use Rattle.std.specs.Map.{lookup}
use Rattle.indexmap.specs.IndexMap.{insert_entry}
use Rattle.std.specs.declared.vec.Vec.{Vec}
use Rattle.std.specs.declared.alloc.Global.{Global}
use Rattle.nesc_tree.specs.Sorts.{declared, is_type}
use Rattle.nesc_tree.specs.Bindings.{bindings}

pub held : (text : List ℕ) (entries : List (Vec ℕ Global × Bool)) → unwrap_or (lookup (λ k. bytes_eq text k.items) entries) false ≡ is_type (bindings entries) text
held text [] = refl
held text (x ∷ xs) =
    let by : (b : Bool) → unwrap_or (cond b (Some x.1) (lookup (λ k. bytes_eq text k.items) xs)) false ≡ cond b x.1 (is_type (bindings xs) text) = elim [ true ↦ refl | false ↦ held text xs ] in
    by (bytes_eq text x.0.items)

pub inserted : (key : Vec ℕ Global) (flag : Bool) (entries : List (Vec ℕ Global × Bool)) → bindings (insert_entry (λ k n. bytes_eq k.items n.items) entries key flag) ≡ declared key.items flag (bindings entries)
inserted key flag [] = refl
inserted key flag (x ∷ xs) =
    let by : (b : Bool) → bindings (cond b ((x.0, flag) ∷ xs) (x ∷ insert_entry (λ k n. bytes_eq k.items n.items) xs key flag)) ≡ cond b ((x.0.items, flag) ∷ bindings xs) ((x.0.items, x.1) ∷ declared key.items flag (bindings xs)) = elim [
      | true ↦ refl
      | false ↦ ap (λ (ns : List (List ℕ × Bool)). (x.0.items, x.1) ∷ ns) (inserted key flag xs)
    ] in
    by (bytes_eq key.items x.0.items)
