-- A change that is taken back leaves the names as they were.
use Rattle.std.proofs.Common.{◌≡◌, ◌≤◌, ◌<◌, ◌+◌, ℕ, zero, suc, Bool, true, false, cond, List, [], ◌∷◌, ◌++◌, length, Option, Some, None, refl, ap, ◌∙◌, arith}
use Rattle.std.specs.Prelude.{bytes_eq, not, map, take}
use Rattle.std.specs.Map.{lookup}
use Rattle.std.specs.List.{prefix_len}
use Rattle.indexmap.specs.IndexMap.{set_value_at}
use Rattle.std.specs.declared.vec.Vec.{Vec}
use Rattle.std.specs.declared.alloc.Global.{Global}
use Rattle.nesc_tree.specs.declared.names.Change.{Change}
use Rattle.nesc_tree.specs.Sorts.{Names, declared}
use Rattle.nesc_tree.specs.Bindings.{bindings}
use Rattle.nesc_tree.specs.Changes.{with_flag, taken_by, taken_back, all_taken_back}

one_more : (p : ℕ) (o : Option Bool) (n : List ℕ × Bool) (ns : Names) → taken_by (suc p) o (n ∷ ns) ≡ n ∷ taken_by p o ns
one_more p None n ns = refl
one_more p (Some flag) n ns = refl

step : (p : ℕ) (o : Option Bool) (n : List ℕ × Bool) (ns : Names) → taken_by (1 + p) o (n ∷ ns) ≡ n ∷ taken_by p o ns
step p o n ns = let e : 1 + p ≡ suc p = omega arith in rw e (one_more p o n ns)

abbrev pub place : List ℕ → List (Vec ℕ Global × Bool) → ℕ
place text entries = prefix_len (λ (k : Vec ℕ Global). not (bytes_eq text k.items)) (map (λ (e : Vec ℕ Global × Bool). e.0) entries)

pub taken : (text : List ℕ) (flag : Bool) (entries : List (Vec ℕ Global × Bool)) → taken_by (place text entries) (lookup (λ k. bytes_eq text k.items) entries) (declared text flag (bindings entries)) ≡ bindings entries
taken text flag [] = refl
taken text flag (x ∷ xs) =
    let by : (b : Bool) → taken_by (cond (not b) (1 + place text xs) 0) (cond b (Some x.1) (lookup (λ k. bytes_eq text k.items) xs)) (cond b ((x.0.items, flag) ∷ bindings xs) ((x.0.items, x.1) ∷ declared text flag (bindings xs))) ≡ (x.0.items, x.1) ∷ bindings xs = elim [
      | true ↦ refl
      | false ↦ step (place text xs) (lookup (λ k. bytes_eq text k.items) xs) (x.0.items, x.1) (declared text flag (bindings xs)) ∙ ap (λ (ns : Names). (x.0.items, x.1) ∷ ns) (taken text flag xs)
    ] in
    by (bytes_eq text x.0.items)

pub set_back : (entries : List (Vec ℕ Global × Bool)) (k : ℕ) (flag : Bool) → bindings (set_value_at entries k flag) ≡ with_flag k flag (bindings entries)
set_back [] k flag = refl
set_back (x ∷ xs) zero flag = refl
set_back (x ∷ xs) (suc k) flag = ap (λ (ns : Names). (x.0.items, x.1) ∷ ns) (set_back xs k flag)

pub cut_back : (k : ℕ) (entries : List (Vec ℕ Global × Bool)) → bindings (take k entries) ≡ take k (bindings entries)
cut_back zero xs = refl
cut_back (suc k) [] = refl
cut_back (suc k) (x ∷ xs) = ap (λ (ns : Names). (x.0.items, x.1) ∷ ns) (cut_back k xs)

pub not_within : (n k : ℕ) → (k < n → ⊥) → n ≤ k
not_within zero k h = omega arith
not_within (suc n) zero h = absurd (h (omega arith))
not_within (suc n) (suc k) h = let r = not_within n k (λ l. h (omega arith)) in omega arith

pub no_flag : (k : ℕ) (flag : Bool) (entries : List (Vec ℕ Global × Bool)) → length entries ≤ k → with_flag k flag (bindings entries) ≡ bindings entries
no_flag k flag [] l = refl
no_flag zero flag (x ∷ xs) l = absurd (omega arith)
no_flag (suc k) flag (x ∷ xs) l = ap (λ (ns : Names). (x.0.items, x.1) ∷ ns) (no_flag k flag xs (omega arith))

-- one change more
pub pushed : (cs : List Change) (c : Change) (ns : Names) → all_taken_back (cs ++ (c ∷ [])) ns ≡ all_taken_back cs (taken_back c ns)
pushed [] c ns = refl
pushed (d ∷ cs) c ns = ap (taken_back d) (pushed cs c ns)
