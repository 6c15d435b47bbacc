-- What the public calls answer, from what reading answers.
use Rattle.std.proofs.Common.{◌≡◌, ℕ, suc, ◌-◌, ◌<◌, ◌≤◌, true, List, [], ◌∷◌, length, take, drop, Some, None, Result, Err, sym, ap, subst, ◌∙◌, arith}
use Rattle.std.proofs.lemmas.List.{take_rest}
use Rattle.std.proofs.Math.ListN.{get_or}
use Rattle.nm_base.specs.declared.pos.Pos.{Pos}
use Rattle.nm_base.specs.declared.token.Token.{Token}
use Rattle.nm_base.specs.declared.fault.Fault.TheVariants as f
use Rattle.nm_base.specs.declared.refusal.Left.{Left}
use Rattle.nm_base.specs.declared.refusal.Refusal.TheVariants as r
use Rattle.nesc_tree.specs.Sorts.{Names}
use Rattle.nesc_tree.specs.Phrase.{Phrase, fits_one_level}
use Rattle.nesc_tree.specs.Reading.{Fault, Syntax}
use Rattle.nesc_grammar.specs.Reach.{BeginsIn}
use Rattle.nesc_parse_types.specs.declared.stop.Stop.{Stop}
use Rattle.nesc_parse_types.specs.Gives.{Fails}
use Rattle.nesc_left_out.specs.Refusals as refusals
use Rattle.nesc_left_out.specs.Left.{IsListed}
use Rattle.nesc_left_out.specs.Probes.{TellsForm}
use Rattle.nesc_grammar.specs.Laws.{answer}
use Rattle.nesc_left_out.proofs.FromPlace.{reached, refused, cut_by, cut_length, reached_by, between, inside}

pub first_of : (rest : List Token) (t : Token) → 1 ≤ length rest → t ≡ get_or rest 0 t → rest ≡ t ∷ drop 1 rest
first_of [] t some e = absurd (omega arith)
first_of (u ∷ us) t some e = ap (λ (v : Token). v ∷ us) (sym e)

-- a slice from the place to the end
module _ (all : List Token) (at : ℕ) where
  pub seen : {X : Type 0} (read : List Token → X) (x : X) → read (take (length all - at) (drop at all)) ≡ x → read (drop at all) ≡ x
  seen read x q = ap read (sym (take_rest all at)) ∙ q

  pub failed : {Y : Type 0} (read : List Token → Result Y Fault) (stop : Stop) → Fails stop (read (take (length all - at) (drop at all))) → Fails stop (read (drop at all))
  failed read stop q = subst (λ (us : List Token). Fails stop (read us)) (take_rest all at) q

module _ (d : ℕ) (k : Phrase) (one : fits_one_level k ≡ true) (file : ℕ) (all : List Token) (at : ℕ) (names : Names) (l : at ≤ length all) where
  abbrev ts : List Token
  ts = drop at all

  module _ (rest : List Token) (q : answer (suc d) k names ts ≡ Err (Syntax rest)) where
    abbrev front : List Token
    front = take (length all - length rest - at) ts

    abbrev before : List Token
    before = (reached d k one file all at names).0

    same_front : front ≡ before
    same_front = between d k one file all at names before rest (cut_by d k one file all at names (Err (Syntax rest)) q) l

    pub rest_fits : length rest ≤ length all
    rest_fits = inside d k one file all at names before rest (cut_by d k one file all at names (Err (Syntax rest)) q) l

    pub starts_before : at ≤ length all - length rest
    starts_before = let n = cut_length d k one file all at names before rest (cut_by d k one file all at names (Err (Syntax rest)) q) l in omega arith

    pub begins : BeginsIn (suc d) k names front
    begins = subst (BeginsIn (suc d) k names) (sym same_front) (reached_by d k one file all at names (Err (Syntax rest)) q).1

    module _ (pos : Pos) (e : pos ≡ refusals.place file all rest) where
      pub at_end : length rest < 1 → refusals.Fails (suc d) k file all at names (f.Refused (r.Syntax pos))
      at_end s = (refused d k one file all at names rest q pos e, λ word x. let n : length rest ≡ suc (length x.others) = ap length x.is in absurd (omega arith))

      first_is : (t : Token) (others us : List Token) (u : Token) → rest ≡ t ∷ others → rest ≡ u ∷ us → u ≡ t
      first_is t others us u a b = let z : u ∷ us ≡ t ∷ others = sym b ∙ a in cc

      -- the token behind the reach begins no form that is left out
      pub plain : (t : Token) (others : List Token) → rest ≡ t ∷ others → TellsForm k names front t None → refusals.Fails (suc d) k file all at names (f.Refused (r.Syntax pos))
      plain t others a tells = (
        refused d k one file all at names rest q pos e,
        λ word x. subst (λ (us : List Token). TellsForm k names us t None) same_front tells word x.at (subst (λ (y : Token). IsListed y word x.at) (first_is t others x.others x.first a x.is) x.listed) x.meant,
      )

      -- it begins one
      pub left_out : (t : Token) (others : List Token) → rest ≡ t ∷ others → (word : Left) → TellsForm k names front t (Some word) → refusals.Fails (suc d) k file all at names (f.Refused (r.LeftOut pos word))
      left_out t others a word tells =
          let h : TellsForm k names before t (Some word) = subst (λ (us : List Token). TellsForm k names us t (Some word)) same_front tells in
          (refused d k one file all at names rest q pos e, record { first = t; others = others; is = a; at = h.0; listed = h.1; meant = h.2 })
