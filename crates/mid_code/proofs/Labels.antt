-- Labels in code: a label that stands once is found where it stands.
use Rattle.std.proofs.Common.{◌≡◌, ◌≢◌, ℕ, zero, suc, ◌+◌, ◌<◌, ◌≤◌, Bool, true, false, List, [], ◌∷◌, ◌++◌, length, Option, Some, None, refl, sym, ap, ◌∙◌, subst, arith, ⊎_elim}
use Rattle.std.specs.Prelude.{slice_get, ◌==◌, if◌then◌else◌}
use Rattle.std.proofs.lemmas.Bool.{eq-eqb}
use Rattle.std.proofs.lemmas.Bool.Decides.{eqb_tells}
use Rattle.mid_code.specs.declared.instr.Mid.{Mid}
use Rattle.mid_code.specs.declared.instr.Mid.TheVariants.{Label}
use Rattle.mid_code.specs.Machine.{is_label, place_of}
use Rattle.mid_code.specs.Form.{one_more, times}

inside_by : (b : Bool) (i : Mid) (is : List Mid) (l : ℕ) → is_label i l ≡ b → 1 ≤ one_more b (times l is) → (1 ≤ times l is → place_of is l < length is) → place_of (i ∷ is) l < length (i ∷ is)
inside_by true i is l e some go = let z : place_of (i ∷ is) l ≡ 0 = ap (λ b. if b then 0 else suc (place_of is l)) e in omega (arith, z)
inside_by false i is l e some go =
    let z : place_of (i ∷ is) l ≡ suc (place_of is l) = ap (λ b. if b then 0 else suc (place_of is l)) e in
    let g = go some in omega (arith, z, g)

-- a label that is in code stands there
pub stands_inside : (code : List Mid) (l : ℕ) → 1 ≤ times l code → place_of code l < length code
stands_inside [] l some = absurd (omega arith)
stands_inside (i ∷ is) l some = inside_by (is_label i l) i is l refl some (stands_inside is l)

is_there : (code : List Mid) (pc l : ℕ) → slice_get code pc ≡ Some (Label l) → 1 ≤ times l code
is_there [] pc l h = absurd (cc)
is_there (i ∷ is) zero l h =
    let e : i ≡ Label l = cc in
    let t : is_label i l ≡ true = ap (λ j. is_label j l) e ∙ eq-eqb l l refl in
    let r : times l (i ∷ is) ≡ suc (times l is) = ap (λ b. one_more b (times l is)) t in
    omega (arith, r)
is_there (i ∷ is) (suc pc) l h =
    let r = is_there is pc l h in
    elim (is_label i l) as (λ b. 1 ≤ one_more b (times l is)) [ true ↦ omega arith | false ↦ r ]

found_by : (b : Bool) (i : Mid) (is : List Mid) (pc l : ℕ) → is_label i l ≡ b → 1 ≤ times l is → one_more b (times l is) ≤ 1 → (times l is ≤ 1 → place_of is l ≡ pc) → place_of (i ∷ is) l ≡ suc pc
found_by true i is pc l e there most go = absurd (omega arith)
found_by false i is pc l e there most go = ap (λ b. if b then 0 else suc (place_of is l)) e ∙ ap suc (go most)

pub found : (code : List Mid) (pc l : ℕ) → slice_get code pc ≡ Some (Label l) → times l code ≤ 1 → place_of code l ≡ pc
found [] pc l h most = absurd (cc)
found (i ∷ is) zero l h most =
    let e : i ≡ Label l = cc in
    ap (λ j. if is_label j l then 0 else suc (place_of is l)) e ∙ ap (λ b. if b then 0 else suc (place_of is l)) (eq-eqb l l refl)
found (i ∷ is) (suc pc) l h most = found_by (is_label i l) i is pc l refl (is_there is pc l h) most (found is pc l h)
