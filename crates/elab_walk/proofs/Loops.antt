-- What is done one after the other: the definition on the rest, from the state now, is that on the whole.
use Rattle.std.proofs.Common.{◌≡◌, ℕ, ◌+◌, ◌-◌, ◌<◌, ◌≤◌, zero, suc, Bool, List, [], ◌∷◌, map, drop, length, get_or, Ok, Err, ap, sym, ◌∙◌, refl, arith}
use Rattle.std.proofs.Math.Seq.{drop-cons}
use Rattle.std.proofs.lemmas.List.{drop-map, length-drop, take_all}
use Rattle.std.specs.List.{slice_range}
use Rattle.nm_base.specs.declared.fault.Fault.{Fault}
use Rattle.nesc_types.specs.Rule.{Rule}
use Rattle.body_meaning.specs.Tree as tree
use Rattle.elab_meaning.specs.Answers.{FaultIs}
use Rattle.elab_meaning.specs.Elab.{Asked}
use Rattle.elab_meaning.specs.Operators.{Based}
use Rattle.elab_making.proofs.Faults.{passes}
use Rattle.elab_walk.proofs.Cuts.{variable_is}
use Rattle.elab_walk.specs.Parts as parts
use Rattle.program_meaning.specs.Making.{Made, Whole, after}
use Rattle.program_meaning.specs.Walk as walk
use Rattle.program_meaning.specs.Walk.{Told}

next_of : {A : Type 0} (xs : List A) (k : ℕ) (x : A) → k < length xs → x ≡ get_or xs k x → drop k xs ≡ x ∷ drop (k + 1) xs
next_of xs k x below is = let more : suc k ≡ k + 1 = omega arith in
    drop-cons xs k x below ∙ ap (λ y. y ∷ drop (suc k) xs) (sym is) ∙ ap (λ j. x ∷ drop j xs) more

drop-past : {A : Type 0} (xs : List A) (i : ℕ) → length xs ≤ i → drop i xs ≡ []
drop-past [] zero h = refl
drop-past [] (suc i) h = refl
drop-past (x ∷ xs) zero h = absurd (omega arith)
drop-past (x ∷ xs) (suc i) h = drop-past xs i (omega arith)

-- an element is found whatever stands for what is not there
pub element : {A : Type 0} (xs : List A) (i : ℕ) (d : A) → i < length xs → get_or xs i d ≡ get_or xs i (get_or xs i d)
element [] i d h = absurd (omega arith)
element (x ∷ xs) zero d h = refl
element (x ∷ xs) (suc i) d h = element xs i d (omega arith)

le-from : (a b : ℕ) → a ≡ b → a ≤ b
le-from a b h = omega arith

-- the view of what stands behind the first of a list
pub behind-view : {A B : Type 0} (f : A → B) (n : ℕ) (xs ys : List A) → ys ≡ slice_range xs n (length xs) → map f ys ≡ drop n (map f xs)
behind-view f n xs ys h =
    ap (map f) (h ∙ take_all (length xs - n) (drop n xs) (le-from (length (drop n xs)) (length xs - n) (length-drop n xs))) ∙ sym (drop-map f n xs)

-- each does the same as this one, and then the rest is done
pub record Goes {Y : Type 0} (one : Y → Made (Unit {0})) (all : List Y → Made (Unit {0})) : Type 0 where
  pub none : (w : Whole) → all [] w ≡ Ok (tt, w)
  pub more : (y : Y) (ys : List Y) (w : Whole) → all (y ∷ ys) w ≡ after (one y w) (λ u. all ys)

module _ {X Y : Type 0} (view : X → Y) (one : Y → Made (Unit {0})) (all : List Y → Made (Unit {0})) (goes : Goes one all) where
  next : (xs : List X) (i : ℕ) (x : X) (w : Whole) (total : Rule (Unit {0} × Whole))
      → total ≡ all (map view (drop i xs)) w → i < length xs → x ≡ get_or xs i x → total ≡ after (one (view x) w) (λ u. all (map view (drop (i + 1) xs)))
  next xs i x w total is h isx =
      is ∙ ap (λ (ys : List X). all (map view ys) w) (next_of xs i x h isx) ∙ goes.more (view x) (map view (drop (i + 1) xs)) w

  pub passed : (xs : List X) (i : ℕ) (x : X) (w w1 : Whole) (total : Rule (Unit {0} × Whole))
      → total ≡ all (map view (drop i xs)) w → i < length xs → x ≡ get_or xs i x → one (view x) w ≡ Ok (tt, w1)
      → total ≡ all (map view (drop (i + 1) xs)) w1
  passed xs i x w w1 total is h isx e =
      next xs i x w total is h isx ∙ ap (λ (r : Rule (Unit {0} × Whole)). after r (λ u. all (map view (drop (i + 1) xs)))) e

  pub failed : (xs : List X) (i : ℕ) (x : X) (w : Whole) (total : Rule (Unit {0} × Whole)) (e : Fault)
      → total ≡ all (map view (drop i xs)) w → i < length xs → x ≡ get_or xs i x → FaultIs e (one (view x) w) → FaultIs e total
  failed xs i x w total e is h isx f = let same = next xs i x w total is h isx in rw same (passes e _ _ f)

  pub ended : (xs : List X) (i : ℕ) (w : Whole) (total : Rule (Unit {0} × Whole)) → total ≡ all (map view (drop i xs)) w → length xs ≤ i → total ≡ Ok (tt, w)
  ended xs i w total is h = is ∙ ap (λ (ys : List X). all (map view ys) w) (drop-past xs i h) ∙ goes.none w

pub asked_goes : (told : Told) → Goes (λ a. parts.one_asked told a) (walk.all_asked told)
asked_goes told = record { none = λ w. refl; more = λ y. λ ys. λ w. refl }

pub variables_go : (told : Told) (b : Based) (said norace : Bool) → Goes (parts.variable told b said norace) (walk.variables told b said norace)
variables_go told b said norace = record {
  none = λ w. refl;
  more = λ y. λ ys. λ w. ap (λ (r : Rule (Unit {0} × Whole)). after r (λ u. walk.variables told b said norace ys)) (variable_is told b said norace y w);
}

pub declarations_go : (told : Told) → Goes (walk.declaration told) (walk.declarations told)
declarations_go told = record { none = λ w. refl; more = λ y. λ ys. λ w. refl }
