-- A shortest text of a form, before whatever follows.
use Rattle.std.proofs.Common.{◌≡◌, ℕ, zero, suc, Bool, true, false, cond, ◌&&◌, List, [], ◌∷◌, refl, sym, ap, subst, ◌∙◌}
use Rattle.nm_base.specs.declared.token.Token.{Token}
use Rattle.nesc_tree.specs.declared.sorts.Sort.{Sort}
use Rattle.nesc_tree.specs.declared.sorts.Sort.TheVariants as s
use Rattle.nesc_tree.specs.Sorts.{Names, sort, ahead, code, sorts}
use Rattle.nesc_tree.specs.Phrase.{Phrase, Of, fits_one_level}
use Rattle.nesc_tree.specs.Form.{Form, Place, nullable, starts, either, Relation, Chain, Spells}
use Rattle.nesc_tree.proofs.Fine.{Fine}
use Rattle.nesc_tree.proofs.Same.{same_is, pick, picked}
use Rattle.nesc_tree.proofs.Across.{across}
use Rattle.nesc_tree.proofs.Open.{any_of, stay, bars, Seed, lives, is_at, seed_then, first_seed, made, seed_of, seed, clash, Open}

abbrev pub Follow : Type 0 → Type 0
Follow A = A → Names → List Token

abbrev pub with : Names → List Token → Place
with ns ts = record { names = ns; rest = ts }

-- a text that ends before what follows its value and its names
pub record Text {A : Type 0} (R : Place → A → Place → Type 0) (ns : Names) (follow : Follow A) : Type 0 where
  pub us : List Token
  pub value : A
  pub names : Names
  pub spelled : R (with ns us) value (with names (follow value names))

pub data Opens (x : Seed) (ns : Names) (us : List Token) (ms : Names) (fs : List Token) : Type 0 where
  quiet : x ≡ Seed.quiet → ms ≡ ns → us ≡ fs → Opens x ns us ms fs
  at : (y : Sort) → x ≡ Seed.at y → ahead ns us ≡ y → Opens x ns us ms fs

pub left_no : (a b : Bool) → either a b ≡ false → a ≡ false
left_no true b h = h
left_no false b h = refl

pub right_no : (a b : Bool) → either a b ≡ false → b ≡ false
right_no true b h = absurd cc
right_no false b h = h

and_first : (a b : Bool) → (a && b) ≡ true → a ≡ true
and_first true b h = refl
and_first false b h = h

and_second : (a b : Bool) → (a && b) ≡ true → b ≡ true
and_second true b h = h
and_second false b h = absurd cc

and_no : (a b : Bool) → (a && b) ≡ false → a ≡ true → b ≡ false
and_no true b h k = h
and_no false b h k = absurd cc

any_pick : (f : Sort → Bool) → f s.End ≡ false → (k : ℕ) (xs : List Sort) → any_of f xs ≡ false → f (pick k xs) ≡ false
any_pick f e k [] h = e
any_pick f e zero (x ∷ xs) h = left_no (f x) (any_of f xs) h
any_pick f e (suc k) (x ∷ xs) h = any_pick f e k xs (right_no (f x) (any_of f xs) h)

pub any_at : (f : Sort → Bool) → any_of f sorts ≡ false → (x : Sort) → f x ≡ false
any_at f h x = subst (λ (y : Sort). f y ≡ false) (picked x) (any_pick f (left_no _ _ h) (code x) sorts h)

seed_left : (a b : Seed) → lives (seed_then a b) ≡ true → lives a ≡ true
seed_left Seed.dead b h = h
seed_left Seed.quiet b h = refl
seed_left (Seed.at x) b h = refl

seed_right : (a b : Seed) → lives (seed_then a b) ≡ true → lives b ≡ true
seed_right Seed.dead b h = absurd cc
seed_right Seed.quiet b h = h
seed_right (Seed.at x) Seed.dead h = h
seed_right (Seed.at x) Seed.quiet h = refl
seed_right (Seed.at x) (Seed.at y) h = refl

seed_first : (x : Sort) (b : Seed) → lives (seed_then (Seed.at x) b) ≡ true → seed_then (Seed.at x) b ≡ Seed.at x
seed_first x Seed.dead h = absurd cc
seed_first x Seed.quiet h = refl
seed_first x (Seed.at y) h = refl

then_quiet : (a b : Seed) → seed_then a b ≡ Seed.quiet → (a ≡ Seed.quiet) × (b ≡ Seed.quiet)
then_quiet Seed.dead b h = absurd cc
then_quiet Seed.quiet b h = (refl, h)
then_quiet (Seed.at x) Seed.dead h = absurd cc
then_quiet (Seed.at x) Seed.quiet h = absurd cc
then_quiet (Seed.at x) (Seed.at y) h = absurd cc

found : (f : Sort → Seed) (xs : List Sort) → lives (first_seed f xs) ≡ true → (x : Sort) × (first_seed f xs ≡ Seed.at x) × (is_at x (f x) ≡ true)
found f [] h = absurd cc
found f (x ∷ xs) h =
    let by : (b : Bool) → is_at x (f x) ≡ b → lives (cond b (Seed.at x) (first_seed f xs)) ≡ true → (y : Sort) × (cond b (Seed.at x) (first_seed f xs) ≡ Seed.at y) × (is_at y (f y) ≡ true) = elim [
      | true ↦ λ e _. (x, refl, e)
      | false ↦ λ e k. found f xs k
    ] in
    by (is_at x (f x)) refl h

at_is : (x : Sort) (a : Seed) → is_at x a ≡ true → a ≡ Seed.at x
at_is x Seed.dead h = absurd cc
at_is x Seed.quiet h = absurd cc
at_is x (Seed.at y) h = ap Seed.at (sym (same_is x y h))

-- what is quiet may be left out
pub quiet_nullable : (r : Bool) {A : Type 0} (g : Form A) → Fine g → seed r g ≡ Seed.quiet → nullable g ≡ true
quiet_nullable r (Form.empty a) fine h = refl
quiet_nullable r Form.none fine h = absurd cc
quiet_nullable r (Form.token x f) fine h =
    let by : (b : Bool) → cond b (Seed.at x) Seed.dead ≡ Seed.quiet → false ≡ true = elim [ true ↦ λ k. absurd cc | false ↦ λ k. absurd cc ] in
    by (made x) h
quiet_nullable r (Form.seq f g k) fine h = let z = then_quiet (seed r g) (seed r k) h in rw (quiet_nullable r g fine.0 z.0, quiet_nullable r k fine.1 z.1) refl
quiet_nullable r (Form.by f) fine h =
    let y = found (λ x. seed r (f x)) sorts (rw h refl) in
    let z = y.1 in absurd cc
quiet_nullable r (Form.sub p f) fine h =
    let by : (b : Bool) → cond b (Seed.at (seed_of p)) Seed.dead ≡ Seed.quiet → false ≡ true = elim [ true ↦ λ k. absurd cc | false ↦ λ k. absurd cc ] in
    by (r && fits_one_level p) h
quiet_nullable r (Form.maybe g a) fine h = refl
quiet_nullable r (Form.many go a body) fine h = refl
quiet_nullable r (Form.loop may fits weight g body) fine h = let z = fine.1 in let y = quiet_nullable r g fine.0 h in absurd cc
quiet_nullable r (Form.declare f g) fine h = quiet_nullable r g fine.0 h
quiet_nullable r (Form.scope g) fine h = quiet_nullable r g fine h

-- where the second form's text begins, the first one ends
pub ends_before : (r : Bool) {A B : Type 0} (g : Form A) (h : Form B) → Fine h → clash (bars g) (seed r h) ≡ false → (ns ms : Names) (us fs : List Token) → Opens (seed r h) ns us ms fs
    → (nullable h ≡ true → bars g (ahead ms fs) ≡ false) → bars g (ahead ns us) ≡ false
ends_before r g h fine c ns ms us fs (Opens.quiet q e w) k = rw (← e, w) (k (quiet_nullable r h fine q))
ends_before r g h fine c ns ms us fs (Opens.at y q e) k = rw e (subst (λ (x : Seed). clash (bars g) x ≡ false) q c)

opens_seq : (a b : Seed) (ns ms os : Names) (us ts fs : List Token) → lives (seed_then a b) ≡ true → Opens a ns us ms ts → Opens b ms ts os fs → Opens (seed_then a b) ns us os fs
opens_seq a b ns ms os us ts fs l (Opens.quiet q e w) (Opens.quiet u v y) = Opens.quiet (rw (q, u) refl) (v ∙ e) (w ∙ y)
opens_seq a b ns ms os us ts fs l (Opens.quiet q e w) (Opens.at x u v) = Opens.at x (rw (q, u) refl) (rw (w, ← e) v)
opens_seq a b ns ms os us ts fs l (Opens.at x q e) h = Opens.at x (rw q (seed_first x b (subst (λ (y : Seed). lives (seed_then y b) ≡ true) q l))) e

pub opens_at : (x : Sort) (a : Seed) (ns ms : Names) (us fs : List Token) → a ≡ Seed.at x → Opens a ns us ms fs → ahead ns us ≡ x
opens_at x a ns ms us fs h (Opens.quiet q e w) = absurd cc
opens_at x a ns ms us fs h (Opens.at y q e) = let z : Seed.at y ≡ Seed.at x = sym q ∙ h in cc

module _ (d : ℕ) (Nested : (p : Phrase) → Relation (Of p)) (r : Bool)
    (F : (x : Sort) (ns : Names) → made x ≡ true → (t : Token) × (sort ns t ≡ x))
    (E : r ≡ true → (k : Phrase) → fits_one_level k ≡ true → (ns : Names) (follow : Follow (Of k)) → ((a : Of k) (ms : Names) → stay k (ahead ms (follow a ms)) ≡ false) → (t : Text (Nested k) ns follow) × (ahead ns t.us ≡ seed_of k)) where
  pub some : {A : Type 0} (g : Form A) → Fine g → Open g → (ns : Names) (follow : Follow A) → ((a : A) (ms : Names) → bars g (ahead ms (follow a ms)) ≡ false) → lives (seed r g) ≡ true
      → (t : Text (Spells d Nested g) ns follow) × Opens (seed r g) ns t.us t.names (follow t.value t.names)
  unfolding Spells
  some (Form.empty a) fine opn ns follow c l = (record { us = follow a ns; value = a; names = ns; spelled = (refl, refl) }, Opens.quiet refl refl refl)
  some Form.none fine opn ns follow c l = absurd cc
  some (Form.token x f) fine opn ns follow c l =
      let by : (b : Bool) → made x ≡ b → lives (cond b (Seed.at x) Seed.dead) ≡ true → (t : Text (Spells d Nested (Form.token x f)) ns follow) × Opens (cond b (Seed.at x) Seed.dead) ns t.us t.names (follow t.value t.names) = elim [
        | true ↦ λ e _. (let u = F x ns e in (record { us = u.0 ∷ follow (f u.0) ns; value = f u.0; names = ns; spelled = (u.0, refl, u.1, refl) }, Opens.at x refl u.1))
        | false ↦ λ e k. absurd cc
      ] in
      by (made x) refl l
  some (Form.seq {A = A} {B = B} {C = C} f g h) fine opn ns follow c l =
      let sh : (a : A) (ms : Names) → (t : Text (Spells d Nested h) ms (λ b. follow (f a b))) × Opens (seed r h) ms t.us t.names (follow (f a t.value) t.names) =
      λ a ms. some h fine.1 opn.1 ms (λ b. follow (f a b)) (λ b os. left_no _ _ (c (f a b) os)) (seed_right (seed r g) _ l) in
      let fg : Follow A = λ a ms. (sh a ms).0.us in
      let cg : (a : A) (ms : Names) → bars g (ahead ms (fg a ms)) ≡ false = λ a ms. (
      let t = sh a ms in
      ends_before r g h fine.1 (opn.4 r) ms t.0.names t.0.us (follow (f a t.0.value) t.0.names) t.1 (λ n. and_no (nullable h) _ (right_no (bars h _) _ (c (f a t.0.value) t.0.names)) n)) in
      let sg : (t : Text (Spells d Nested g) ns fg) × Opens (seed r g) ns t.us t.names (fg t.value t.names) = some g fine.0 opn.0 ns fg cg (seed_left _ (seed r h) l) in
      let t = sh sg.0.value sg.0.names in (
        record { us = sg.0.us; value = f sg.0.value t.0.value; names = t.0.names; spelled = (sg.0.value, t.0.value, with sg.0.names t.0.us, sg.0.spelled, t.0.spelled, refl) },
        opens_seq (seed r g) (seed r h) ns sg.0.names t.0.names sg.0.us t.0.us _ l sg.1 t.1,
      )
  some (Form.by {A = A} f) fine opn ns follow c l =
      let y = found (λ x. seed r (f x)) sorts l in
      let x : Sort = y.0 in
      let e : seed r (f x) ≡ Seed.at x = at_is x (seed r (f x)) y.2 in
      let t : (t : Text (Spells d Nested (f x)) ns follow) × Opens (seed r (f x)) ns t.us t.names (follow t.value t.names) =
      some (f x) (fine.0 x) (opn x) ns follow (λ a ms. any_at (λ z. bars (f z) (ahead ms (follow a ms))) (c a ms) x) (subst (λ (z : Seed). lives z ≡ true) (sym e) refl) in
      let w : ahead ns t.0.us ≡ x = opens_at x (seed r (f x)) ns t.0.names t.0.us _ e t.1 in
      (record { us = t.0.us; value = t.0.value; names = t.0.names; spelled = subst (λ (z : Sort). Spells d Nested (f z) (with ns t.0.us) t.0.value (with t.0.names (follow t.0.value t.0.names))) (sym w) t.0.spelled }, Opens.at x y.1 w)
  some (Form.sub k f) fine opn ns follow c l =
      let by : (b : Bool) → (r && fits_one_level k) ≡ b → lives (cond b (Seed.at (seed_of k)) Seed.dead) ≡ true → (t : Text (Spells d Nested (Form.sub k f)) ns follow) × Opens (cond b (Seed.at (seed_of k)) Seed.dead) ns t.us t.names (follow t.value t.names) = elim [
        | true ↦ λ e _. (
            let t = E (and_first r _ e) k (and_second r _ e) ns (λ a. follow (f a)) (λ a. c (f a)) in
            (record { us = t.0.us; value = f t.0.value; names = t.0.names; spelled = (t.0.value, t.0.spelled, refl) }, Opens.at (seed_of k) refl t.1))
        | false ↦ λ e z. absurd cc
      ] in
      by (r && fits_one_level k) refl l
  some (Form.maybe g a) fine opn ns follow c l =
      let z : starts g (ahead ns (follow a ns)) ≡ false = left_no _ _ (c a ns) in
      (record { us = follow a ns; value = a; names = ns; spelled = rw z (refl, refl) }, Opens.quiet refl refl refl)
  some (Form.many go a body) fine opn ns follow c l = (record { us = follow a ns; value = a; names = ns; spelled = Chain.done (left_no _ _ (c a ns)) }, Opens.quiet refl refl refl)
  some (Form.loop may fits weight g body) fine opn ns follow c l =
      let t = some g fine.0 opn.0 ns follow (λ a ms. left_no _ _ (right_no (may _) _ (c a ms))) l in
      let z : may (ahead t.0.names (follow t.0.value t.0.names)) ≡ false = left_no _ _ (c t.0.value t.0.names) in
      (record { us = t.0.us; value = t.0.value; names = t.0.names; spelled = (t.0.value, with t.0.names (follow t.0.value t.0.names), t.0.spelled, Chain.done (rw z refl)) }, t.1)
  some (Form.declare {A = A} f g) fine opn ns follow c l =
      let fg : Follow A = λ a ms. follow a (f a ms) in
      let t : (t : Text (Spells d Nested g) ns fg) × Opens (seed r g) ns t.us t.names (fg t.value t.names) = some g fine.0 opn.0 ns fg (λ a ms. across (bars g) opn.1 opn.2 (f a ms) ms (follow a (f a ms)) (c a (f a ms))) l in
      let by : Opens (seed r g) ns t.0.us t.0.names (fg t.0.value t.0.names) → Opens (seed r g) ns t.0.us (f t.0.value t.0.names) (fg t.0.value t.0.names) = elim [
        | Opens.quiet q e w ↦ let z = quiet_nullable r g fine.0 q in let y = fine.1 in absurd cc
        | Opens.at x q e ↦ Opens.at x q e
      ] in
      (record { us = t.0.us; value = t.0.value; names = f t.0.value t.0.names; spelled = (with t.0.names (fg t.0.value t.0.names), t.0.spelled, refl) }, by t.1)
  some (Form.scope {A = A} g) fine opn ns follow c l =
      let fg : Follow A = λ a ms. follow a ns in
      let t : (t : Text (Spells d Nested g) ns fg) × Opens (seed r g) ns t.us t.names (fg t.value t.names) = some g fine opn.0 ns fg (λ a ms. across (bars g) opn.1 opn.2 ns ms (follow a ns) (c a ns)) l in
      let by : Opens (seed r g) ns t.0.us t.0.names (fg t.0.value t.0.names) → Opens (seed r g) ns t.0.us ns (fg t.0.value t.0.names) = elim [
        | Opens.quiet q e w ↦ Opens.quiet q refl w
        | Opens.at x q e ↦ Opens.at x q e
      ] in
      (record { us = t.0.us; value = t.0.value; names = ns; spelled = (with t.0.names (fg t.0.value t.0.names), t.0.spelled, refl) }, by t.1)
