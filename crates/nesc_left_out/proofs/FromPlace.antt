-- Reading from a place of a list.
use Rattle.std.proofs.Common.{◌≡◌, ℕ, suc, ◌+◌, ◌-◌, ◌<◌, ◌≤◌, true, List, [], ◌∷◌, ◌++◌, length, take, drop, Err, refl, ap, subst, ◌∙◌, arith, length-drop}
use Rattle.std.proofs.lemmas.List.{length-append}
use Rattle.std.proofs.Math.ListN.{get_or}
use Rattle.nm_base.specs.declared.pos.Pos.{Pos}
use Rattle.nm_base.specs.declared.token.Token.{Token}
use Rattle.nesc_tree.specs.Sorts.{Names}
use Rattle.nesc_tree.specs.Phrase.{Phrase, Of, fits_one_level}
use Rattle.nesc_tree.specs.Reading.{Syntax, Deep, Answer}
use Rattle.nesc_grammar.specs.Laws.{answer, left_by, Reached}
use Rattle.nesc_grammar.proofs.Reach.{reach}
use Rattle.nesc_left_out.specs.Refusals as refusals
use Rattle.nesc_left_out.specs.Refusals.{end_of, IsRefused, IsDeep}

-- the last token
last_place : (before : Pos) (all : List Token) (x : Token) → 0 < length all → x ≡ get_or all (length all - 1) x → x.pos ≡ end_of before all
last_place before [] x some q = absurd (omega arith)
last_place before (t ∷ []) x some q = ap (λ (y : Token). y.pos) q
last_place before (t ∷ u ∷ ts) x some q =
    let z : suc (suc (length ts)) - 1 ≡ suc (suc (length ts) - 1) = omega arith in
    let v : x ≡ get_or (u ∷ ts) (suc (length ts) - 1) x = rw z at q in
    last_place t.pos (u ∷ ts) x (omega arith) v

pub ends_at : (file : ℕ) (all rest : List Token) (x : Token) → length rest < 1 → 1 ≤ length all → x ≡ get_or all (length all - 1) x → x.pos ≡ refusals.place file all rest
ends_at file all [] x none some q = last_place (record { file = file; line = 1; col = 1 }) all x some q
ends_at file all (t ∷ rest) x none some q = absurd (omega arith)

take_front : (xs ys : List Token) → take (length xs) (xs ++ ys) ≡ xs
take_front [] ys = refl
take_front (x ∷ xs) ys = ap (λ (us : List Token). x ∷ us) (take_front xs ys)

module _ (d : ℕ) (k : Phrase) (one : fits_one_level k ≡ true) (file : ℕ) (all : List Token) (at : ℕ) (names : Names) where
  abbrev ts : List Token
  ts = drop at all

  pub reached : (before : List Token) × (ts ≡ before ++ left_by (answer (suc d) k names ts)) × Reached (suc d) k names before (answer (suc d) k names ts)
  reached = reach d k one names ts

  pub cut_by : (x : Answer (Of k)) → answer (suc d) k names ts ≡ x → ts ≡ reached.0 ++ left_by x
  cut_by x q = subst (λ (y : Answer (Of k)). ts ≡ reached.0 ++ left_by y) q reached.1

  pub reached_by : (x : Answer (Of k)) → answer (suc d) k names ts ≡ x → Reached (suc d) k names reached.0 x
  reached_by x q = subst (Reached (suc d) k names reached.0) q reached.2

  pub deep : (rest : List Token) → answer (suc d) k names ts ≡ Err (Deep rest) → IsDeep (suc d) k file all at names
  deep rest q = record { before = reached.0; rest = rest; cut = cut_by (Err (Deep rest)) q; deep = reached_by (Err (Deep rest)) q }

  abbrev pub refused : (rest : List Token) → answer (suc d) k names ts ≡ Err (Syntax rest) → (pos : Pos) → pos ≡ refusals.place file all rest → IsRefused (suc d) k file all at names pos
  refused rest q pos e = record {
    before = reached.0;
    rest = rest;
    cut = cut_by (Err (Syntax rest)) q;
    reach = (reached_by (Err (Syntax rest)) q).0;
    begins = (reached_by (Err (Syntax rest)) q).1;
    unspelled = (reached_by (Err (Syntax rest)) q).2;
    stands = e;
  }

  pub cut_length : (before rest : List Token) → ts ≡ before ++ rest → at ≤ length all → at + length before + length rest ≡ length all
  cut_length before rest e l =
      let n : length ts ≡ length (before ++ rest) = ap length e in
      let m = length-append before rest in
      omega (arith, length-drop at all)

  pub inside : (before rest : List Token) → ts ≡ before ++ rest → at ≤ length all → length rest ≤ length all
  inside before rest e l = let n = cut_length before rest e l in omega arith

  -- the tokens from the place to the rest
  pub between : (before rest : List Token) → ts ≡ before ++ rest → at ≤ length all → take (length all - length rest - at) ts ≡ before
  between before rest e l =
      let n = cut_length before rest e l in
      let z : length all - length rest - at ≡ length before = omega arith in
      ap (λ (m : ℕ). take m ts) z ∙ (ap (λ (us : List Token). take (length before) us) e ∙ take_front before rest)
