-- How the open machine goes on from what it has done.
use Rattle.std.proofs.Common.{◌≡◌, ℕ, zero, suc, ◌+◌, ◌^◌, ◌==◌, ◌<◌, ◌≤◌, Bool, true, false, cond, List, [], ◌∷◌, ◌++◌, refl, sym, ap, ◌∙◌, arith, append-nil, append_assoc}
use Rattle.std.specs.Prelude.{if◌then◌else◌}
use Rattle.std.proofs.lemmas.Bool.{eq-eqb, ne_eqb}
use Rattle.nm_base.specs.Lists.{IsPrefixOf}
use Rattle.nm_base.specs.declared.action.Action.{Action}
use Rattle.nm_base.specs.declared.action.Action.TheVariants as action
use Rattle.nm_base.specs.Behaviour.{Trace, Returned, play, also}
use Rattle.mid_code.specs.declared.code.MidCode.{MidCode}
use Rattle.mid_code.specs.Machine.{Activation, Next, Goes, Acts, Wants, Ends, Stops, started, step, steps, follow, moved}
use Rattle.mid_code.specs.Words.{joined}
use Rattle.mid_code.specs.Reached.{innermost_instruction, opens_at, opens_behind, state_at}
use Rattle.msp_select.specs.Sound.{IsAnswers}

abbrev pub before : List Action → Trace → Trace
before made t = record { actions = made ++ t.actions; why = t.why }

module _ (code : MidCode) (root : ℕ) where
  -- the machine comes to these calls, with these Begins open, when it is answered so
  pub record Reached (calls : List Activation) (opens : List (List ℕ)) (made : List Action) (got : List ℕ) : Type 0 where
    pub taken : ℕ
    pub answers : ℕ → ℕ
    pub words : IsAnswers answers
    pub state : state_at code root answers taken ≡ calls
    pub opened : opens_at code root answers taken ≡ opens
    pub goes_on : (k : ℕ) (more : List ℕ) → play (steps code (taken + k) (started code root)) (got ++ more) ≡ before made (play (steps code k calls) more)

  pub at_start : Reached (started code root) ([] ∷ []) [] []
  at_start = record { taken = 0; answers = λ i. 0; words = λ i. omega arith; state = refl; opened = refl; goes_on = λ k more. let e : 0 + k ≡ k = omega arith in rw e refl }

  -- one answer is another one
  abbrev answered : (ℕ → ℕ) → ℕ → ℕ → ℕ → ℕ
  answered answers t x i = if i == t then x else answers i

  answered_word : (answers : ℕ → ℕ) (t x : ℕ) → IsAnswers answers → x < 2 ^ 16 → IsAnswers (answered answers t x)
  answered_word answers t x words small i = by (i == t)
    where
      by : (b : Bool) → cond b x (answers i) < 2 ^ 16
      by true = small
      by false = words i

  earlier : (answers : ℕ → ℕ) (t x i : ℕ) → i < t → answered answers t x i ≡ answers i
  earlier answers t x i lt = ap (λ b. cond b x (answers i)) (ne_eqb i t (λ e. omega (arith, e, lt)))

  same_state : (answers : ℕ → ℕ) (t x n : ℕ) → n ≤ t → state_at code root (answered answers t x) n ≡ state_at code root answers n
  same_state answers t x zero le = refl
  same_state answers t x (suc n) le =
      ap (λ s. moved (step code s) (answered answers t x n)) (same_state answers t x n (omega arith))
      ∙ ap (λ y. moved (step code (state_at code root answers n)) y) (earlier answers t x n (omega arith))

  same_opens : (answers : ℕ → ℕ) (t x n : ℕ) → n ≤ t → opens_at code root (answered answers t x) n ≡ opens_at code root answers n
  same_opens answers t x zero le = refl
  same_opens answers t x (suc n) le =
      ap (λ s. opens_behind (innermost_instruction code s) (opens_at code root (answered answers t x) n)) (same_state answers t x n (omega arith))
      ∙ ap (λ o. opens_behind (innermost_instruction code (state_at code root answers n)) o) (same_opens answers t x n (omega arith))

  before_on : (made : List Action) (a : Action) (t : Trace) → before made (also a t) ≡ before (made ++ (a ∷ [])) t
  before_on made a t = ap (λ l. record { actions = l; why = t.why }) (sym (append_assoc made (a ∷ []) t.actions))

  module _ (s : List Activation) (opens : List (List ℕ)) (made : List Action) (got : List ℕ) (r : Reached s opens made got) where
    abbrev start : List Activation
    start = started code root

    -- one more step
    one_more : (k : ℕ) (more : List ℕ) (n : Next) → step code s ≡ n → play (steps code (suc r.taken + k) start) (got ++ more) ≡ before made (play (follow n (steps code k)) more)
    one_more k more n e =
        let i : suc r.taken + k ≡ r.taken + suc k = omega arith in
        ap (λ x. play (steps code x start) (got ++ more)) i
        ∙ r.goes_on (suc k) more
        ∙ ap (λ x. before made (play (follow x (steps code k)) more)) e

    next_state : (x : ℕ) (n : Next) → step code s ≡ n → state_at code root (answered r.answers r.taken x) (suc r.taken) ≡ moved n x
    next_state x n e =
        ap (λ y. moved (step code y) (answered r.answers r.taken x r.taken)) (same_state r.answers r.taken x r.taken (omega arith) ∙ r.state)
        ∙ ap (λ b. moved (step code s) (cond b x (r.answers r.taken))) (eq-eqb r.taken r.taken refl)
        ∙ ap (λ y. moved y x) e

    next_opens : (x : ℕ) → opens_at code root (answered r.answers r.taken x) (suc r.taken) ≡ opens_behind (innermost_instruction code s) opens
    next_opens x =
        ap (λ y. opens_behind (innermost_instruction code y) (opens_at code root (answered r.answers r.taken x) r.taken)) (same_state r.answers r.taken x r.taken (omega arith) ∙ r.state)
        ∙ ap (λ o. opens_behind (innermost_instruction code s) o) (same_opens r.answers r.taken x r.taken (omega arith) ∙ r.opened)

    pub goes : (s' : List Activation) (opens' : List (List ℕ)) → step code s ≡ Goes s' → opens_behind (innermost_instruction code s) opens ≡ opens' → Reached s' opens' made got
    goes s' opens' e o = record {
      taken = suc r.taken;
      answers = answered r.answers r.taken 0;
      words = answered_word r.answers r.taken 0 r.words (omega arith);
      state = next_state 0 (Goes s') e;
      opened = next_opens 0 ∙ o;
      goes_on = λ k more. one_more k more (Goes s') e;
    }

    pub acts : (a : Action) (s' : List Activation) (opens' : List (List ℕ)) → step code s ≡ Acts a s' → opens_behind (innermost_instruction code s) opens ≡ opens' → Reached s' opens' (made ++ (a ∷ [])) got
    acts a s' opens' e o = record {
      taken = suc r.taken;
      answers = answered r.answers r.taken 0;
      words = answered_word r.answers r.taken 0 r.words (omega arith);
      state = next_state 0 (Acts a s') e;
      opened = next_opens 0 ∙ o;
      goes_on = λ k more. one_more k more (Acts a s') e ∙ before_on made a (play (steps code k s') more);
    }

    pub wants : (a : Action) (s' : ℕ → List Activation) (opens' : List (List ℕ)) (x : ℕ) → x < 0x10000 → step code s ≡ Wants a s' → opens_behind (innermost_instruction code s) opens ≡ opens' → Reached (s' x) opens' (made ++ (a ∷ [])) (got ++ (x ∷ []))
    wants a s' opens' x small e o = record {
      taken = suc r.taken;
      answers = answered r.answers r.taken x;
      words = answered_word r.answers r.taken x r.words small;
      state = next_state x (Wants a s') e;
      opened = next_opens x ∙ o;
      goes_on = λ k more.
          ap (λ l. play (steps code (suc r.taken + k) start) l) (append_assoc got (x ∷ []) more)
          ∙ one_more k (x ∷ more) (Wants a s') e
          ∙ before_on made a (play (steps code k (s' x)) more);
    }

    -- what a next step says of the trace
    trace_of : (n : Next) → step code s ≡ n → play (steps code (suc r.taken) start) got ≡ before made (play (follow n (steps code 0)) [])
    trace_of n e =
        let i : suc r.taken ≡ suc r.taken + 0 = omega arith in
        ap (λ x. play (steps code x start) got) i
        ∙ ap (λ l. play (steps code (suc r.taken + 0) start) l) (sym (append-nil got))
        ∙ one_more 0 [] n e

    pub told : (n : ℕ) × IsPrefixOf made (play (steps code n start) got).actions
    told =
        let i : r.taken ≡ r.taken + 0 = omega arith in (
          r.taken,
          (
            [],
            append-nil made ∙ sym (ap (λ x. (play (steps code x start) got).actions) i
                ∙ ap (λ l. (play (steps code (r.taken + 0) start) l).actions) (sym (append-nil got))
                ∙ ap (λ t. t.actions) (r.goes_on 0 []) ∙ append-nil made),
          ),
        )

    pub next_act : (a : Action) (s' : List Activation) → step code s ≡ Acts a s' → (n : ℕ) × IsPrefixOf (made ++ (a ∷ [])) (play (steps code n start) got).actions
    next_act a s' e = (suc r.taken, ([], append-nil (made ++ (a ∷ [])) ∙ sym (ap (λ t. t.actions) (trace_of (Acts a s') e))))

    pub next_want : (a : Action) (s' : ℕ → List Activation) → step code s ≡ Wants a s' → (n : ℕ) × IsPrefixOf (made ++ (a ∷ [])) (play (steps code n start) got).actions
    next_want a s' e = (suc r.taken, ([], append-nil (made ++ (a ∷ [])) ∙ sym (ap (λ t. t.actions) (trace_of (Wants a s') e))))

    pub ended : (xs : List ℕ) → step code s ≡ Ends xs → play (steps code (suc r.taken) start) got ≡ record { actions = made; why = Returned (joined xs) }
    ended xs e = trace_of (Ends xs) e ∙ ap (λ l. record { actions = l; why = Returned (joined xs) }) (append-nil made)

    pub faulted : (n : ℕ) → step code s ≡ Stops n → (k : ℕ) × IsPrefixOf (made ++ (action.Fault n ∷ [])) (play (steps code k start) got).actions
    faulted n e = (suc r.taken, ([], append-nil (made ++ (action.Fault n ∷ [])) ∙ sym (ap (λ t. t.actions) (trace_of (Stops n) e))))
