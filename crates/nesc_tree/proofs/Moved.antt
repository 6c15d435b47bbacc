-- A text may stand before something else that does not go on it.
use Rattle.std.proofs.Common.{◌≡◌, ℕ, Bool, true, false, ◌&&◌, List, ◌∷◌, refl, sym, ap, subst, ◌∙◌, ◌⊎◌, inl, inr}
use Rattle.nm_base.specs.declared.token.Token.{Token}
use Rattle.nesc_tree.specs.declared.sorts.Sort.{Sort}
use Rattle.nesc_tree.specs.declared.sorts.Sort.TheVariants as s
use Rattle.nesc_tree.specs.Sorts.{Names, ahead}
use Rattle.nesc_tree.specs.Phrase.{Phrase, Of}
use Rattle.nesc_tree.specs.Form.{Form, Place, next, nullable, starts, goes, chosen, Relation, Chain, Spells}
use Rattle.nesc_tree.proofs.Fine.{Fine}
use Rattle.nesc_tree.proofs.Open.{stay, bars, Open}
use Rattle.nesc_tree.proofs.Some.{left_no, right_no, any_at, with}
use Rattle.nesc_tree.proofs.Across.{across, alike}

-- ts before rest are the tokens of us before tail
pub data Cut : List Token → List Token → List Token → List Token → Type 0 where
  here : {rest tail : List Token} → Cut rest rest tail tail
  there : {t : Token} {ts rest us tail : List Token} → Cut ts rest us tail → Cut (t ∷ ts) rest (t ∷ us) tail

pub joined : {ts mid rest us mid' tail : List Token} → Cut ts mid us mid' → Cut mid rest mid' tail → Cut ts rest us tail
joined Cut.here c = c
joined (Cut.there b) c = Cut.there (joined b c)

-- the text has no token, or the new one begins with the same token
pub data Keeps (none : Bool) (p q : Place) (us follow : List Token) : Type 0 where
  stays : none ≡ true → q ≡ p → us ≡ follow → Keeps none p q us follow
  same : ((ns : Names) → ahead ns us ≡ ahead ns p.rest) → Keeps none p q us follow

-- what follows begins as before, or does not go on the form
pub data Free (some : Sort → Bool) (q : Place) (follow : List Token) : Type 0 where
  same : ahead q.names follow ≡ next q → Free some q follow
  free : some (ahead q.names follow) ≡ false → Free some q follow

pub record Moved {A : Type 0} (R : Place → A → Place → Type 0) (none : Bool) (p q : Place) (a : A) (follow : List Token) : Type 0 where
  pub us : List Token
  pub spelled : R (with p.names us) a (with q.names follow)
  pub cut : Cut p.rest q.rest us follow
  pub keeps : Keeps none p q us follow

pub keeps_seq : (m n : Bool) (p q r : Place) (us ts fs : List Token) → Keeps m p q us ts → Keeps n q r ts fs → Keeps (m && n) p r us fs
keeps_seq m n p q r us ts fs (Keeps.stays e z w) (Keeps.stays k y v) = Keeps.stays (rw (e, k) refl) (y ∙ z) (w ∙ v)
keeps_seq m n p q r us ts fs (Keeps.stays e z w) (Keeps.same k) = Keeps.same (λ ns. rw w (k ns ∙ ap (λ (u : Place). ahead ns u.rest) z))
keeps_seq m n p q r us ts fs (Keeps.same k) h = Keeps.same k

pub weaker : {f g : Sort → Bool} {q : Place} {follow : List Token} → Free f q follow → ((x : Sort) → f x ≡ false → g x ≡ false) → Free g q follow
weaker (Free.same h) k = Free.same h
weaker (Free.free h) k = Free.free (k _ h)

-- whatever names are in force
pub elsewhere : (f : Sort → Bool) → f s.Word ≡ false → f s.TypeName ≡ false → (q r : Place) (follow : List Token) → r.rest ≡ q.rest → Free f r follow → Free f q follow
elsewhere f w v q r follow e (Free.same h) =
    let by : (ahead q.names follow ≡ ahead q.names r.rest) ⊎ (f (ahead q.names follow) ≡ false) → Free f q follow = elim [
      | inl z ↦ Free.same (z ∙ ap (ahead q.names) e)
      | inr z ↦ Free.free z
    ] in
    by (alike f w v r.names q.names follow r.rest h)
elsewhere f w v q r follow e (Free.free h) = Free.free (across f w v r.names q.names follow h)

pub and_left_no : (a b : Bool) → (a && b) ≡ false → a ≡ true → b ≡ false
and_left_no true b h k = h
and_left_no false b h k = absurd cc

-- the first part may stand before the moved second one
pub before_moved : {f : Sort → Bool} {n : Bool} {q r : Place} {us fs : List Token} → Keeps n q r us fs → (n ≡ true → Free f r fs) → Free f q us
before_moved {f = f} {q = q} {r = r} {us = us} {fs = fs} (Keeps.stays e z w) h =
    subst (λ (u : Place). Free f u us) z (subst (λ (xs : List Token). Free f r xs) (sym w) (h e))
before_moved {q = q} (Keeps.same k) h = Free.same (k q.names)

pub full_keeps : {p q : Place} {us fs : List Token} (n : Bool) → n ≡ false → Keeps n p q us fs → (ns : Names) → ahead ns us ≡ ahead ns p.rest
full_keeps n h (Keeps.stays e z w) ns = absurd cc
full_keeps n h (Keeps.same k) ns = k ns

module _ (d : ℕ) (Nested : (p : Phrase) → Relation (Of p))
    (W : (k : Phrase) (p q : Place) (a : Of k) → Nested k p a q → (follow : List Token) → Free (stay k) q follow → Moved (Nested k) false p q a follow) where
  module _ {A : Type 0} (go : A → Sort → Bool) (weight : A → ℕ) (body : Sort → Form (A → A)) (fine : (x : Sort) → nullable (body x) ≡ false) (more : Sort → Bool)
      (ends : (a : A) (x : Sort) → more x ≡ false → go a x ≡ false) (after : (x y : Sort) → more y ≡ false → bars (body x) y ≡ false)
      (T : (x : Sort) (p q : Place) (f : A → A) → Spells d Nested (body x) p f q → (follow : List Token) → Free (bars (body x)) q follow → Moved (Spells d Nested (body x)) (nullable (body x)) p q f follow) where
    abbrev Turns : A → Place → A → Place → Type 0
    Turns a p b r = Chain d go weight (λ x. Spells d Nested (body x)) b r a p

    pub chain_moved : {b : A} {r : Place} {a : A} {p : Place} → Turns a p b r → (follow : List Token) → Free more r follow → Moved (λ u c v. Turns a u c v) true p r b follow
    chain_moved {b = b} {r = r} (Chain.done g) follow c =
        let by : Free more r follow → go b (ahead r.names follow) ≡ false = elim [ Free.same h ↦ rw h g | Free.free h ↦ ends b _ h ] in
        record { us = follow; spelled = Chain.done (by c); cut = Cut.here; keeps = Keeps.stays refl refl refl }
    chain_moved {b = b} {r = r} (Chain.turn {a = a} {p = p} {q = q} {f = f} g w t k) follow c =
        let m = chain_moved k follow c in
        let n = T (next p) p q f t m.us (before_moved m.keeps (λ _. weaker c (after (next p)))) in
        let same : (ns : Names) → ahead ns n.us ≡ ahead ns p.rest = full_keeps (nullable (body (next p))) (fine (next p)) n.keeps in
        record {
          us = n.us;
          spelled = Chain.turn (rw (same p.names) g) w (subst (λ (x : Sort). Spells d Nested (body x) (with p.names n.us) f (with q.names m.us)) (sym (same p.names)) n.spelled) m.spelled;
          cut = joined n.cut m.cut;
          keeps = Keeps.same same;
        }

  pub moved : {A : Type 0} (g : Form A) → Fine g → Open g → (p q : Place) (a : A) → Spells d Nested g p a q → (follow : List Token) → Free (bars g) q follow → Moved (Spells d Nested g) (nullable g) p q a follow
  unfolding Spells
  moved (Form.empty a) fine opn p q b t follow c =
      record { us = follow; spelled = (t.0, ap (λ (u : Place). with u.names follow) t.1); cut = subst (λ (u : Place). Cut p.rest u.rest follow follow) (sym t.1) Cut.here; keeps = Keeps.stays refl t.1 refl }
  moved Form.none fine opn p q b t follow c = absurd t
  moved (Form.token x f) fine opn p q b t follow c =
      record { us = t.0 ∷ follow; spelled = (t.0, ap (λ (u : Place). with u.names (t.0 ∷ follow)) t.1, t.2, t.3); cut = subst (λ (u : Place). Cut u.rest q.rest (t.0 ∷ follow) follow) (sym t.1) (Cut.there Cut.here); keeps = Keeps.same (λ ns. ap (λ (u : Place). ahead ns u.rest) (sym t.1)) }
  moved (Form.seq {A = A} {B = B} {C = C} f g h) fine opn p r e t follow c =
      let q : Place = t.2 in
      let m = moved h fine.1 opn.1 q r t.1 t.4 follow (weaker c (λ y z. left_no (bars h y) _ z)) in
      let n = moved g fine.0 opn.0 p q t.0 t.3 m.us (before_moved m.keeps (λ k. weaker c (λ y z. and_left_no (nullable h) _ (right_no (bars h y) _ z) k))) in
      record { us = n.us; spelled = (t.0, t.1, with q.names m.us, n.spelled, m.spelled, t.5); cut = joined n.cut m.cut; keeps = keeps_seq (nullable g) (nullable h) p q r n.us m.us follow n.keeps m.keeps }
  moved (Form.by f) fine opn p q a t follow c =
      let x : Sort = next p in
      let m = moved (f x) (fine.0 x) (opn x) p q a t follow (weaker c (λ y z. any_at (λ w. bars (f w) y) z x)) in
      let same : (ns : Names) → ahead ns m.us ≡ ahead ns p.rest = full_keeps (nullable (f x)) (fine.1 x) m.keeps in
      record { us = m.us; spelled = subst (λ (w : Sort). Spells d Nested (f w) (with p.names m.us) a (with q.names follow)) (sym (same p.names)) m.spelled; cut = m.cut; keeps = Keeps.same same }
  moved (Form.sub k f) fine opn p q b t follow c =
      let m = W k p q t.0 t.1 follow c in
      record { us = m.us; spelled = (t.0, m.spelled, t.2); cut = m.cut; keeps = Keeps.same (full_keeps false refl m.keeps) }
  moved (Form.maybe {A = A} g a) fine opn p q b t follow c =
      let by : (u : Bool) → starts g (next p) ≡ u → chosen u (Spells d Nested g p b q) ((b ≡ a) × (q ≡ p)) → Moved (Spells d Nested (Form.maybe g a)) true p q b follow = elim [
        | true ↦ λ e v. (
            let m = moved g fine.0 opn p q b v follow (weaker c (λ y z. right_no (starts g y) _ z)) in
            let same : (ns : Names) → ahead ns m.us ≡ ahead ns p.rest = full_keeps (nullable g) fine.1 m.keeps in
            let on : starts g (ahead p.names m.us) ≡ true = rw (same p.names) e in
            record { us = m.us; spelled = rw on m.spelled; cut = m.cut; keeps = Keeps.same same })
        | false ↦ λ e v. (
            let off : Free (bars (Form.maybe g a)) q follow → starts g (ahead p.names follow) ≡ false = elim [
              | Free.same h ↦ ap (λ (u : Place). starts g (ahead u.names follow)) (sym v.1) ∙ (ap (starts g) h ∙ (ap (λ (u : Place). starts g (next u)) v.1 ∙ e))
              | Free.free h ↦ ap (λ (u : Place). starts g (ahead u.names follow)) (sym v.1) ∙ left_no _ _ h
            ] in
            record { us = follow; spelled = rw (off c) (v.0, ap (λ (u : Place). with u.names follow) v.1); cut = subst (λ (u : Place). Cut p.rest u.rest follow follow) (sym v.1) Cut.here; keeps = Keeps.stays refl v.1 refl })
      ] in
      by (starts g (next p)) refl t
  moved (Form.many {A = A} go a body) fine opn p q b t follow c =
      let m = chain_moved (λ _ x. go x) (λ _. 0) body fine.1 (bars (Form.many go a body)) (λ _ x h. left_no _ _ h) (λ x y h. any_at (λ w. bars (body w) y) (right_no (go y) _ h) x)
      (λ x u v f k fs w. moved (body x) (fine.0 x) (opn x) u v f k fs w) t follow c in
      record { us = m.us; spelled = m.spelled; cut = m.cut; keeps = m.keeps }
  moved (Form.loop {A = A} may fits weight g body) fine opn p r b t follow c =
      let q : Place = t.1 in
      let m = chain_moved (goes may fits) weight body fine.3 (bars (Form.loop may fits weight g body)) (λ a x h. rw (left_no (may x) _ h) refl) (λ x y h. any_at (λ w. bars (body w) y) (right_no (bars g y) _ (right_no (may y) _ h)) x)
      (λ x u v f k fs w. moved (body x) (fine.2 x) (opn.1 x) u v f k fs w) t.3 follow c in
      let n = moved g fine.0 opn.0 p q t.0 t.2 m.us (before_moved m.keeps (λ k. weaker c (λ y z. left_no (bars g y) _ (right_no (may y) _ z)))) in
      record { us = n.us; spelled = (t.0, with q.names m.us, n.spelled, m.spelled); cut = joined n.cut m.cut; keeps = Keeps.same (full_keeps (nullable g) fine.1 n.keeps) }
  moved (Form.declare {A = A} f g) fine opn p r b t follow c =
      let q : Place = t.0 in
      let m = moved g fine.0 opn.0 p q b t.1 follow (elsewhere (bars g) opn.1 opn.2 q r follow (ap (λ (u : Place). u.rest) t.2) c) in
      record { us = m.us; spelled = (with q.names follow, m.spelled, ap (λ (u : Place). with u.names follow) t.2); cut = subst (λ (u : Place). Cut p.rest u.rest m.us follow) (sym t.2) m.cut; keeps = Keeps.same (full_keeps (nullable g) fine.1 m.keeps) }
  moved (Form.scope {A = A} g) fine opn p r b t follow c =
      let q : Place = t.0 in
      let m = moved g fine opn.0 p q b t.1 follow (elsewhere (bars g) opn.1 opn.2 q r follow (ap (λ (u : Place). u.rest) t.2) c) in
      let by : Keeps (nullable g) p q m.us follow → Keeps (nullable g) p r m.us follow = elim [
        | Keeps.stays e z w ↦ Keeps.stays e (t.2 ∙ ap (λ (u : Place). with p.names u.rest) z) w
        | Keeps.same k ↦ Keeps.same k
      ] in
      record { us = m.us; spelled = (with q.names follow, m.spelled, ap (λ (u : Place). with u.names follow) t.2); cut = subst (λ (u : Place). Cut p.rest u.rest m.us follow) (sym t.2) m.cut; keeps = by m.keeps }
