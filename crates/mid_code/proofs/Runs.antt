-- That the machine does from a state what a behaviour says, one lemma for each kind of step.
use Rattle.std.proofs.Common.{◌≡◌, ℕ, zero, suc, ◌+◌, ◌^◌, ◌<◌, ◌≤◌, List, [], ◌∷◌, refl, sym, ap, ◌∙◌, subst, arith}
use Rattle.nm_base.specs.declared.action.Action.{Action}
use Rattle.nm_base.specs.Behaviour.{Behaviour, Returns, Does, Asks, Faults, Cut, play, also}
use Rattle.mid_code.specs.declared.code.MidCode.{MidCode}
use Rattle.mid_code.specs.Words.{joined}
use Rattle.mid_code.specs.Machine.{Activation, Next, Goes, Acts, Wants, Ends, Stops, step, steps, follow}
use Rattle.mid_code.specs.Runs.{AreWords, Runs}

module _ (codes : MidCode) where
  pub goes : (n : ℕ) (b : Behaviour) (s s' : List Activation) → step codes s ≡ Goes s' → Runs codes n b s' → Runs codes n b s
  goes n b s s' e h = record {
    by = λ answers ok.
        let r = h.by answers ok in
        (suc r.0, omega (arith, r.1), ap (λ x. play (follow x (steps codes r.0)) answers) e ∙ r.2);
  }

  -- an action counts
  pub acts : (n : ℕ) (a : Action) (b : Behaviour) (s s' : List Activation) → step codes s ≡ Acts a s' → Runs codes n b s' → Runs codes (suc n) (Does a b) s
  acts n a b s s' e h = record {
    by = λ answers ok.
        let r = h.by answers ok in
        (suc r.0, omega (arith, r.1), ap (λ x. play (follow x (steps codes r.0)) answers) e ∙ ap (also a) r.2);
  }

  wants_by : (n : ℕ) (a : Action) (b : ℕ → Behaviour) (s : List Activation) (s' : ℕ → List Activation) → step codes s ≡ Wants a s' →
      ((x : ℕ) → x < 65536 → Runs codes n (b x) (s' x)) → (answers : List ℕ) → AreWords answers → (m : ℕ) × (n ≤ m) × (play (steps codes m s) answers ≡ play (Asks a b) answers)
  wants_by n a b s s' e h [] ok = (suc n, omega arith, ap (λ x. play (follow x (steps codes n)) []) e)
  wants_by n a b s s' e h (x ∷ answers) ok =
      let r = (h x (ok.0)).by answers ok.1 in
      (suc r.0, omega (arith, r.1), ap (λ y. play (follow y (steps codes r.0)) (x ∷ answers)) e ∙ ap (also a) r.2)

  pub wants : (n : ℕ) (a : Action) (b : ℕ → Behaviour) (s : List Activation) (s' : ℕ → List Activation) → step codes s ≡ Wants a s' →
      ((x : ℕ) → x < 65536 → Runs codes n (b x) (s' x)) → Runs codes n (Asks a b) s
  wants n a b s s' e h = record { by = wants_by n a b s s' e h }

  pub ends_with : (n : ℕ) (xs : List ℕ) (s : List Activation) → step codes s ≡ Ends xs → Runs codes n (Returns (joined xs)) s
  ends_with n xs s e = record { by = λ answers ok. (suc n, omega arith, ap (λ x. play (follow x (steps codes n)) answers) e) }

  pub stops : (n code : ℕ) (s : List Activation) → step codes s ≡ Stops code → Runs codes n (Faults code) s
  stops n code s e = record { by = λ answers ok. (suc n, omega arith, ap (λ x. play (follow x (steps codes n)) answers) e) }

  pub cut_off : (s : List Activation) → Runs codes 0 Cut s
  cut_off s = record { by = λ answers ok. (0, omega arith, refl) }

  pub fewer : (m n : ℕ) (b : Behaviour) (s : List Activation) → m ≤ n → Runs codes n b s → Runs codes m b s
  fewer m n b s le h = record { by = λ answers ok. let r = h.by answers ok in (r.0, omega (arith, r.1), r.2) }

  -- an action that need not count
  pub acts_on : (n : ℕ) (a : Action) (b : Behaviour) (s s' : List Activation) → step codes s ≡ Acts a s' → Runs codes n b s' → Runs codes n (Does a b) s
  acts_on n a b s s' e h = fewer n (suc n) (Does a b) s (omega arith) (acts n a b s s' e h)
