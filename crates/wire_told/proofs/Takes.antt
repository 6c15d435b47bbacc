-- Lists of which one element is changed.
use Rattle.std.proofs.Common.{◌≡◌, ℕ, ◌+◌, ◌<◌, ◌≤◌, List, [], ◌∷◌, ◌++◌, map, length, drop, get_or, set, refl, sym, ap, ◌∙◌, arith, append_assoc}
use Rattle.std.proofs.Math.Seq.{map-set_same}
use Rattle.std.proofs.lemmas.List.{drop-set-lt, get_or-map, length-map, map-set, set_past}
use Rattle.std.proofs.lemmas.Option.{unwrap_or-slice_get}
use Rattle.wire_pairs.specs.declared.facts.LineFacts.{LineFacts}
use Rattle.wire_pairs.proofs.Steps.{next_of}
use Rattle.wire_facts.specs.Seen as plain
use Rattle.wire_facts.specs.Seen.{seen_at, unseen, with_lines}

-- element k is changed, and what it was comes to the list that is made of all
pub taken_next : {S A F : Type 0} (g : A → F) (f : S → A) (facts more : List F) (xs : List S) (k : ℕ) (x y : S) (whole : List F)
    → facts ++ map g (map f (drop k xs)) ≡ whole → k < length xs → x ≡ get_or xs k x → more ≡ facts ++ g (f x) ∷ []
    → more ++ map g (map f (drop (k + 1) (set xs k y))) ≡ whole
taken_next g f facts more xs k x y whole is below isx m =
    let up : k < k + 1 = omega arith in
    ap (λ fs. fs ++ map g (map f (drop (k + 1) (set xs k y)))) m
    ∙ append_assoc facts (g (f x) ∷ []) (map g (map f (drop (k + 1) (set xs k y))))
    ∙ ap (λ ys. facts ++ g (f x) ∷ map g (map f ys)) (drop-set-lt (k + 1) xs k y up)
    ∙ ap (λ ys. facts ++ map g (map f ys)) (sym (next_of xs k x below isx))
    ∙ is

both_maps : {S A C : Type 0} (h : A → C) (f : S → A) (xs : List S) → map h (map f xs) ≡ map (λ s. h (f s)) xs
both_maps h f [] = refl
both_maps h f (x ∷ xs) = ap (λ ys. h (f x) ∷ ys) (both_maps h f xs)

-- what is left of it is as it was
pub left_same : {S A C : Type 0} (h : A → C) (f : S → A) (xs : List S) (k : ℕ) (x y : S) (whole : List C)
    → map h (map f xs) ≡ whole → k < length xs → x ≡ get_or xs k x → h (f y) ≡ h (f x) → map h (map f (set xs k y)) ≡ whole
left_same h f xs k x y whole is below isx same =
    both_maps h f (set xs k y) ∙ map-set_same (λ s. h (f s)) xs k y x (same ∙ ap (λ s. h (f s)) isx) ∙ sym (both_maps h f xs) ∙ is

-- an element gets lines
module _ {S : Type 0} (view : S → plain.Seen) (xs : List S) (i : ℕ) where
  there : (x : S) → i < length xs → x ≡ get_or xs i x → seen_at (map view xs) i ≡ view x
  there x below isx = unwrap_or-slice_get (map view xs) i unseen ∙ get_or-map view xs i x unseen below ∙ ap view (sym isx)

  pub lines_put : (x y : S) (ls : List LineFacts) → i < length xs → x ≡ get_or xs i x → view y ≡ record (view x) { lines = ls }
      → map view (set xs i y) ≡ with_lines i ls (map view xs)
  lines_put x y ls below isx isy =
      map-set view xs i y
      ∙ ap (set (map view xs) i) (isy ∙ ap (λ (z : plain.Seen). record z { lines = ls }) (sym (there x below isx)))

  pub lines_past : (ls : List LineFacts) → length xs ≤ i → map view xs ≡ with_lines i ls (map view xs)
  lines_past ls past =
      let h : length (map view xs) ≤ i = omega (arith, length-map xs view, past) in
      sym (set_past (map view xs) i (record (seen_at (map view xs) i) { lines = ls }) h)

  pub put_past : (z : plain.Seen) → length xs ≤ i → map view xs ≡ set (map view xs) i z
  put_past z past =
      let h : length (map view xs) ≤ i = omega (arith, length-map xs view, past) in
      sym (set_past (map view xs) i z h)

pub ruleset puts = (map-set, put_past)

pub ruleset lines = (lines_put, lines_past)
