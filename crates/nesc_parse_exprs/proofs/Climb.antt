-- Climbing, one operator at a time.
use Rattle.std.proofs.Common.{◌≡◌, ◌<◌, ℕ, zero, suc, Bool, true, false, ◌&&◌, cond, List, length, Ok, Err, refl, sym, ap, subst, ◌∙◌, arith}
use Rattle.std.specs.Prelude.{nat_le}
use Rattle.nm_base.specs.declared.token.Token.{Token}
use Rattle.nesc_tree.specs.declared.operand.Operand.{Operand}
use Rattle.nesc_tree.specs.declared.sorts.Sort.{Sort}
use Rattle.nesc_tree.specs.Sorts.{Names, ahead}
use Rattle.nesc_tree.specs.Phrase.{Phrase}
use Rattle.nesc_tree.specs.Form.{Form, Place, goes, starts, next}
use Rattle.nesc_tree.specs.Reading.{Fault, Syntax, Deep, Answer, read, phrase, guarded, nests, short, ◌>>=◌}
use Rattle.nesc_grammar.specs.Grammar.{applied, map, grown, operation, is_operator, may, fits, binds}
use Rattle.nesc_grammar.specs.Production.{production}
use Rattle.nesc_grammar.proofs.Instance.{all_fine}
use Rattle.nesc_parse_types.specs.declared.stop.Stop.{Stop}
use Rattle.nesc_parse_types.specs.declared.stop.Stop.TheVariants as rust
use Rattle.nesc_parse_types.specs.Gives.{Fails, form_in, place}
use Rattle.nesc_parse_exprs.specs.Turns.{turn_in, climb_in}
use Rattle.nesc_parse_exprs.specs.Climbing.{step_in}
use Rattle.nesc_parse_types.proofs.Many.{falls, left_true}
use Rattle.nesc_parse_exprs.proofs.Turns.{stops}

-- the whole is what climbing from here on gives
pub record IsClimbing (spare least : ℕ) (names : Names) (whole : Answer Operand) (a : Operand) (ts : List Token) : Type 0 where
  pub left : ℕ
  pub enough : length ts < left
  pub same : whole ≡ climb_in spare least left names a ts

-- what goes on an expression is an operator
pub operator_ahead : (least : ℕ) (a : Operand) (x : Sort) → goes (may least) fits a x ≡ true → is_operator x ≡ true
operator_ahead least a x h = left_true (is_operator x) (nat_le least (binds x)) (left_true (may least x) (fits a x) h)

module _ (spare least : ℕ) (names : Names) (a : Operand) (ts : List Token) where
  abbrev body : Form (Operand → Operand)
  body = map grown (operation (ahead names ts))

  abbrev behind : ℕ → Operand × Place → Answer Operand
  behind m y = climb_in spare least m y.1.names y.0 y.1.rest

  joined : (m : ℕ) (x : Answer (Operand → Operand)) → (x >>= λ y. behind m (y.0 a, y.1)) ≡ ((x >>= λ y. Ok (y.0 a, y.1)) >>= λ y. behind m y)
  joined m (Ok y) = refl
  joined m (Err e) = refl

  -- one operator, and what is behind it
  stepped : (m : ℕ) → goes (may least) fits a (ahead names ts) ≡ true → climb_in spare least (suc m) names a ts ≡ (step_in spare a names ts >>= λ y. behind m y)
  stepped m h =
      let G : Answer (Operand → Operand) = guarded spare body (place names ts) (form_in spare body names ts) in
      let by : (b : Bool) → ◌≡◌ {A = Answer Operand} (cond b (G >>= λ y. behind m (y.0 a, y.1)) (Err (Deep ts))) (cond b (G >>= λ y. Ok (y.0 a, y.1)) (Err (Deep ts)) >>= λ y. behind m y) = elim [ true ↦ joined m G | false ↦ refl ] in
      rw h (by (nat_le a.height spare))

  -- ---- an operator that was read

  open_short : (b c : Bool) (k : ℕ) (x : Answer (Operand → Operand)) (u : Operand × Place) → ◌≡◌ {A = Answer Operand} (cond b (short spare c ts k x) x >>= λ y. Ok (y.0 a, y.1)) (Ok u) → ◌≡◌ {A = Answer Operand} (x >>= λ y. Ok (y.0 a, y.1)) (Ok u)
  open_short false c k x u h = h
  open_short true c zero x u h = absurd cc
  open_short true c (suc k) x u h = h

  unguarded : (u : Operand × Place) → step_in spare a names ts ≡ Ok u → form_in spare (applied a body) names ts ≡ Ok u
  unfolding read
  unguarded u h =
      let G : Answer (Operand → Operand) = guarded spare body (place names ts) (form_in spare body names ts) in
      let by : (b : Bool) → ◌≡◌ {A = Answer Operand} (cond b (G >>= λ y. Ok (y.0 a, y.1)) (Err (Deep ts))) (Ok u) → ◌≡◌ {A = Answer Operand} (G >>= λ y. Ok (y.0 a, y.1)) (Ok u) = elim [ true ↦ λ k. k | false ↦ λ k. absurd cc ] in
      open_short (nests body) (starts body (ahead names ts)) spare (form_in spare body names ts) u (by (nat_le a.height spare) h)

  pub shorter : goes (may least) fits a (ahead names ts) ≡ true → (b : Operand) (rest : List Token) → step_in spare a names ts ≡ Ok (b, place names rest) → length rest < length ts
  shorter h b rest e =
      let fine = all_fine (Phrase.expr least) in
      falls spare names (goes (may least) fits) (λ x. map grown (operation x)) (Ok (b, place names rest)) a ts b rest (fine.2 (ahead names ts)) (fine.4 (ahead names ts) (left_true (may least (ahead names ts)) (fits a (ahead names ts)) h)) (unguarded (b, place names rest) e)

  module _ (whole : Answer Operand) where
    pub begins : whole ≡ climb_in spare least (suc (length ts)) names a ts → IsClimbing spare least names whole a ts
    begins e = record { left = suc (length ts); enough = omega arith; same = e }

    ends_at : (n : ℕ) → length ts < n → whole ≡ climb_in spare least n names a ts → goes (may least) fits a (ahead names ts) ≡ false → whole ≡ Ok (a, place names ts)
    ends_at zero l e h = absurd (omega arith)
    ends_at (suc n) l e h = e ∙ stops spare (goes (may least) fits) (λ a. a.height) (λ x. map grown (operation x)) names a ts n h

    pub ends : IsClimbing spare least names whole a ts → goes (may least) fits a (ahead names ts) ≡ false → whole ≡ Ok (a, place names ts)
    ends is h = ends_at is.left is.enough is.same h

    goes_to : (n : ℕ) → length ts < n → whole ≡ climb_in spare least n names a ts → goes (may least) fits a (ahead names ts) ≡ true
        → (b : Operand) (rest : List Token) → step_in spare a names ts ≡ Ok (b, place names rest) → length rest < length ts → IsClimbing spare least names whole b rest
    goes_to zero l e h b rest k f = absurd (omega arith)
    goes_to (suc n) l e h b rest k f = record { left = n; enough = omega arith; same = e ∙ (stepped n h ∙ ap (λ (x : Answer Operand). x >>= λ y. behind n y) k) }

    pub goes_on : IsClimbing spare least names whole a ts → goes (may least) fits a (ahead names ts) ≡ true → (b : Operand) (rest : List Token) → step_in spare a names ts ≡ Ok (b, place names rest) → IsClimbing spare least names whole b rest
    goes_on is h b rest k = goes_to is.left is.enough is.same h b rest k (shorter h b rest k)

    stops_at : (n : ℕ) → length ts < n → whole ≡ climb_in spare least n names a ts → goes (may least) fits a (ahead names ts) ≡ true → (f : Fault) → step_in spare a names ts ≡ Err f → whole ≡ Err f
    stops_at zero l e h f k = absurd (omega arith)
    stops_at (suc n) l e h f k = e ∙ (stepped n h ∙ ap (λ (x : Answer Operand). x >>= λ y. behind n y) k)

    pub fails : IsClimbing spare least names whole a ts → goes (may least) fits a (ahead names ts) ≡ true → (r : Stop) → Fails r (step_in spare a names ts) → Fails r whole
    fails is h rust.Memory k = tt
    fails is h (rust.Syntax us) k = stops_at is.left is.enough is.same h (Syntax us.now) k
    fails is h (rust.Deep us) k = stops_at is.left is.enough is.same h (Deep us.now) k
