-- What reading once more with a probe tells.
use Rattle.std.proofs.Common.{◌≡◌, ℕ, suc, Bool, true, List, [], ◌∷◌, ◌++◌, length, Ok, Err, refl, sym, ap, subst, ◌∙◌, arith, append_assoc}
use Rattle.std.proofs.lemmas.List.{length-append}
use Rattle.nm_base.specs.declared.token.Token.{Token}
use Rattle.nesc_tree.specs.Sorts.{Names}
use Rattle.nesc_tree.specs.Phrase.{Phrase, Of, fits_one_level}
use Rattle.nesc_tree.specs.Reading.{Syntax, Deep, Answer}
use Rattle.nesc_grammar.specs.Reach.{SpelledIn, BeginsIn, Begins, IsTooDeep}
use Rattle.nesc_grammar.specs.Laws.{answer, left_by, Reached}
use Rattle.nesc_grammar.proofs.Reach.{reach, probe_tells}
use Rattle.nesc_left_out.specs.Probes.{is_empty, is_ended, Tells}

-- what ends before the last token of a longer list is a beginning of the shorter one
inner : (xs ys : List Token) (p t u : Token) (zs : List Token) → xs ++ (p ∷ []) ≡ ys ++ (t ∷ u ∷ zs) → (ws : List Token) × (xs ≡ ys ++ (t ∷ ws))
inner [] [] p t u zs e = absurd cc
inner (x ∷ xs) [] p t u zs e = let z : x ≡ t = cc in (xs, ap (λ (v : Token). v ∷ xs) z)
inner [] (y ∷ ys) p t u zs e =
    let z : 1 ≡ suc (length (ys ++ (t ∷ u ∷ zs))) = ap length e in
    let n = length-append ys (t ∷ u ∷ zs) in
    absurd (omega arith)
inner (x ∷ xs) (y ∷ ys) p t u zs e =
    let tail : xs ++ (p ∷ []) ≡ ys ++ (t ∷ u ∷ zs) = cc in
    let head : x ≡ y = cc in
    let r = inner xs ys p t u zs tail in
    (r.0, ap (λ (v : Token). v ∷ xs) head ∙ ap (λ (us : List Token). y ∷ us) r.1)

module _ (d : ℕ) (k : Phrase) (one : fits_one_level k ≡ true) (names : Names) (before : List Token) (probe : Token) (b : BeginsIn (suc d) k names before) where
  abbrev all : List Token
  all = before ++ (probe ∷ [])

  shorter : (front ws : List Token) → before ≡ front ++ ws → BeginsIn (suc d) k names front
  shorter front ws e = record {
    more = ws ++ b.more;
    tree = b.tree;
    spelled = subst (SpelledIn (suc d) k names b.tree) (ap (λ (us : List Token). us ++ b.more) e ∙ append_assoc front ws b.more) b.spelled;
  }

  -- no token before the probe is too deep
  deep_there : (front : List Token) (t : Token) (others : List Token) → all ≡ front ++ (t ∷ others) → (BeginsIn (suc d) k names (front ++ (t ∷ [])) → ⊥) → Begins k names (front ++ (t ∷ [])) → Begins k names all
  deep_there front t [] e n g = subst (Begins k names) (sym e) g
  deep_there front t (u ∷ us) e n g =
      let i = inner before front probe t u us e in
      absurd (n (shorter (front ++ (t ∷ [])) i.0 (i.1 ∙ sym (append_assoc front (t ∷ []) i.0))))

  by_deep : (us : List Token) → answer (suc d) k names all ≡ Err (Deep us) → Begins k names all
  by_deep us q =
      let r = reach d k one names all in
      let e : all ≡ r.0 ++ us = subst (λ (x : Answer (Of k)). all ≡ r.0 ++ left_by x) q r.1 in
      let h : IsTooDeep (suc d) k names r.0 us = subst (Reached (suc d) k names r.0) q r.2 in
      deep_there r.0 h.first h.others (e ∙ ap (λ (us : List Token). r.0 ++ us) h.is) h.too_deep h.goes_on

  by_rest : (us : List Token) → left_by (answer (suc d) k names all) ≡ us → ((vs : List Token) → answer (suc d) k names all ≡ Err (Deep vs) → ⊥) → Tells (Begins k names all) (is_empty us)
  by_rest [] e n = (probe_tells probe d k one names before).0 e
  by_rest (t ∷ ts) e n = (probe_tells probe d k one names before).2 t ts e n

  told : (x : Answer (Of k)) → answer (suc d) k names all ≡ x → Tells (Begins k names all) (is_ended x)
  told (Ok x) q = by_rest x.1.rest (ap (λ (y : Answer (Of k)). left_by y) q) (λ vs w. let z = sym q ∙ w in absurd cc)
  told (Err (Syntax us)) q = by_rest us (ap (λ (y : Answer (Of k)). left_by y) q) (λ vs w. let z = sym q ∙ w in absurd cc)
  told (Err (Deep us)) q = by_deep us q

  pub tells : (r : Bool) → r ≡ is_ended (answer (suc d) k names all) → Tells (Begins k names all) r
  tells r e = subst (Tells (Begins k names all)) (sym e) (told (answer (suc d) k names all) refl)
