-- The laws of forms, for the phrases of the grammar at every number of levels.
use Rattle.std.proofs.Common.{◌≡◌, ℕ, zero, suc, Bool, true, false, List, Ok, Err, refl, sym, subst, inl, inr}
use Rattle.nm_base.specs.declared.token.Token.{Token}
use Rattle.nesc_tree.specs.declared.sorts.Sort.{Sort}
use Rattle.nesc_tree.specs.declared.sorts.Sort.TheVariants as s
use Rattle.nesc_tree.specs.Sorts.{Names, sort, ahead}
use Rattle.nesc_tree.specs.Phrase.{Phrase, Of, begins, fits_one_level}
use Rattle.nesc_tree.specs.Form.{Form, Place, next, nullable, starts, Spells, SpellsIn}
use Rattle.nesc_tree.specs.Reading.{Fault, Answer, nests, stop, read, phrase, rest_of}
use Rattle.nesc_tree.proofs.Fine.{Fine}
use Rattle.nesc_tree.proofs.Moves.{phrase_moves}
use Rattle.nesc_tree.proofs.Meets.{phrase_begun}
use Rattle.nesc_tree.proofs.Sound.{phrase_sound}
use Rattle.nesc_tree.proofs.Open.{stay, bars, Seed, seed_of, seed, Open, made}
use Rattle.nesc_tree.proofs.Some.{Follow, Text, some, opens_at}
use Rattle.nesc_tree.proofs.Moved.{Keeps, Free, Moved, moved, weaker}
use Rattle.nesc_tree.proofs.Told.{Told, told}

module _ (production : (p : Phrase) → Form (Of p)) (fine : (p : Phrase) → Fine (production p)) (opn : (p : Phrase) → Open (production p)) (full : (p : Phrase) → nullable (production p) ≡ false)
    (table : (p : Phrase) (x : Sort) → begins p x ≡ starts (production p) x) (ends : (p : Phrase) → begins p s.End ≡ false)
    (stays : (p : Phrase) (x : Sort) → stay p x ≡ false → bars (production p) x ≡ false) (shallow : (p : Phrase) → fits_one_level p ≡ true → nests (production p) ≡ false)
    (seeded : (p : Phrase) → fits_one_level p ≡ true → seed false (production p) ≡ Seed.at (seed_of p))
    (shut : (k : Phrase) → fits_one_level k ≡ false → (p : Place) → (e : Fault) × (read 0 (phrase production 0) (production k) p ≡ Err e) × (rest_of e ≡ p.rest))
    (F : (x : Sort) (ns : Names) → made x ≡ true → (t : Token) × (sort ns t ≡ x)) where
  pub phrase_some : (d : ℕ) (k : Phrase) → fits_one_level k ≡ true → (ns : Names) (follow : Follow (Of k)) → ((a : Of k) (ms : Names) → stay k (ahead ms (follow a ms)) ≡ false) → (t : Text (SpellsIn production (suc d) k) ns follow) × (ahead ns t.us ≡ seed_of k)
  unfolding SpellsIn
  phrase_some d k o ns follow c =
      let t = some d (SpellsIn production d) false F (λ z. absurd cc) (production k) (fine k) (opn k) ns follow (λ a ms. stays k _ (c a ms)) (rw (seeded k o) refl) in
      (record { us = t.0.us; value = t.0.value; names = t.0.names; spelled = t.0.spelled }, opens_at (seed_of k) _ ns t.0.names t.0.us _ (seeded k o) t.1)

  keeps_full : {p q : Place} {us fs : List Token} (n : Bool) → n ≡ false → Keeps n p q us fs → Keeps false p q us fs
  keeps_full n h (Keeps.stays e z w) = absurd cc
  keeps_full n h (Keeps.same k) = Keeps.same k

  pub phrase_moved : (d : ℕ) (k : Phrase) (p q : Place) (a : Of k) → SpellsIn production d k p a q → (follow : List Token) → Free (stay k) q follow → Moved (SpellsIn production d k) false p q a follow
  unfolding SpellsIn
  phrase_moved zero k p q a t follow c = absurd t
  phrase_moved (suc d) k p q a t follow c =
      let m = moved d (SpellsIn production d) (phrase_moved d) (production k) (fine k) (opn k) p q a t follow (weaker c (stays k)) in
      record { us = m.us; spelled = m.spelled; cut = m.cut; keeps = keeps_full (nullable (production k)) (full k) m.keeps }

  abbrev rich : ℕ → Bool
  rich zero = false
  rich (suc d) = true

  poor : (d : ℕ) → rich d ≡ false → d ≡ 0
  poor zero h = refl
  poor (suc d) h = absurd cc

  texts : (d : ℕ) → rich d ≡ true → (k : Phrase) → fits_one_level k ≡ true → (ns : Names) (follow : Follow (Of k)) → ((a : Of k) (ms : Names) → stay k (ahead ms (follow a ms)) ≡ false) → (t : Text (SpellsIn production d k) ns follow) × (ahead ns t.us ≡ seed_of k)
  texts zero h k o ns follow c = absurd cc
  texts (suc d) h k o ns follow c = phrase_some d k o ns follow c

  widen : (d : ℕ) (k : Phrase) (p : Place) (x : Answer (Of k)) → Told (Spells d (SpellsIn production d) (production k)) (bars (production k)) p x → Told (SpellsIn production (suc d) k) (stay k) p x
  unfolding SpellsIn
  widen d k p (Ok x) h = tt
  widen d k p (Err e) (inl w) = inl w
  widen d k p (Err e) (inr b) = inr (λ follow c. (let P = b follow (λ a ms. stays k _ (c a ms)) in record { us = P.us; tail = P.tail; value = P.value; names = P.names; cut = P.cut; spelled = P.spelled; same = P.same }))

  stop_told : (d : ℕ) (k : Phrase) (p : Place) (b : Bool) → Told (SpellsIn production d k) (stay k) p (Err (stop b p.rest))
  stop_told d k p true = inl refl
  stop_told d k p false = inl refl

  abbrev Tells : (d : ℕ) (k : Phrase) (p : Place) → Type 0
  Tells d k p = Told (Spells d (SpellsIn production d) (production k)) (bars (production k)) p (read d (phrase production d) (production k) p)

  tells : (d : ℕ) → ((k : Phrase) (p : Place) → Told (SpellsIn production d k) (stay k) p (phrase production d k p)) → (k : Phrase) (p : Place) → (d ≡ 0 → nests (production k) ≡ false) → Tells d k p
  tells d t k p h =
      told d (phrase production d) (SpellsIn production d) (rich d) (poor d) (phrase_moves production fine table d) (phrase_sound production fine table d)
      (phrase_begun production fine full table ends d) F (texts d) (phrase_moved d) t (production k) (fine k) (opn k) p h

  -- where one level is too few for the phrase, nothing is read
  ready : (d : ℕ) → ((k : Phrase) (p : Place) → Told (SpellsIn production d k) (stay k) p (phrase production d k p)) → (k : Phrase) (p : Place) → (b : Bool) → fits_one_level k ≡ b → Tells d k p
  ready zero t k p false h =
      let z = shut k h p in
      subst (Told (Spells 0 (SpellsIn production 0) (production k)) (bars (production k)) p) (sym z.1) (inl z.2)
  ready zero t k p true h = tells zero t k p (λ _. shallow k h)
  ready (suc d) t k p b h = tells (suc d) t k p (λ z. absurd cc)

  pub phrase_told : (d : ℕ) (k : Phrase) (p : Place) → Told (SpellsIn production d k) (stay k) p (phrase production d k p)
  unfolding phrase
  phrase_told zero k p = stop_told zero k p (begins k (next p))
  phrase_told (suc d) k p = widen d k p (read d (phrase production d) (production k) p) (ready d (phrase_told d) k p (fits_one_level k) refl)
