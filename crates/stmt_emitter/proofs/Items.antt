-- What holds of each element's view holds of an element, and what views of runs give back.
use Rattle.std.proofs.Common.{◌≡◌, ℕ, zero, suc, ◌+◌, ◌<◌, List, [], ◌∷◌, ◌++◌, All, map, take, length, get_or, refl, ap, ◌∙◌, sym, subst, arith}
use Rattle.std.proofs.Math.ListN as list
use Rattle.mid_code.specs.declared.code.Check.{Check}
use Rattle.nesc_core.specs.declared.tree.CoreType.{CoreType}
use Rattle.nesc_core.specs.declared.tree.Body as tree_body
use Rattle.nesc_core.specs.Plain.{Ty, Body}
use Rattle.nesc_core.specs.Parts.{run_of}
use Rattle.nesc_core.specs.View.{body_of, type_of}

pub type_item : (P : Ty → Type 0) (ts : List CoreType) (i : ℕ) (t : CoreType) → All P (map type_of ts) → i < length ts → t ≡ get_or ts i t → P (type_of t)
type_item P ts i t all below is =
    let inside : i < length (map type_of ts) = rw list.length-map below in
    subst P (list.get_or-map type_of ts i t ∙ ap type_of (sym is)) (all i (type_of t) inside)

pub body_item : (P : Body → Type 0) (bs : List tree_body.Body) (i : ℕ) (b : tree_body.Body) → All P (map body_of bs) → i < length bs → b ≡ get_or bs i b → P (body_of b)
body_item P bs i b all below is =
    let inside : i < length (map body_of bs) = rw list.length-map below in
    subst P (list.get_or-map body_of bs i b ∙ ap body_of (sym is)) (all i (body_of b) inside)

pub runs_back : (rs : List (ℕ × ℕ)) → map (λ r. (r.first, r.count)) (map run_of rs) ≡ rs
runs_back [] = refl
runs_back (r ∷ rs) = ap (λ more. (r.0, r.1) ∷ more) (runs_back rs)

-- one more of the types
pub take_step : (f : Ty → Check) (ts : List CoreType) (i : ℕ) (t : CoreType) → i < length ts → t ≡ get_or ts i t
    → map f (map type_of (take (i + 1) ts)) ≡ map f (map type_of (take i ts)) ++ f (type_of t) ∷ []
take_step f [] i t lt is = absurd (omega arith)
take_step f (x ∷ ts) zero t lt is = ap (λ y. f (type_of y) ∷ []) (sym is)
take_step f (x ∷ ts) (suc i) t lt is =
    let k : suc i + 1 ≡ suc (i + 1) = omega arith in
    ap (λ m. map f (map type_of (take m (x ∷ ts)))) k ∙ ap (λ more. f (type_of x) ∷ more) (take_step f ts i t (omega arith) is)
