-- What the machine does in a state that is reached is an action of the body.
use Rattle.std.proofs.Common.{◌≡◌, inl, inr, ⊎_elim, ℕ, zero, suc, ◌<◌, ◌≤◌, true, List, [], ◌∷◌, length, take, Some, refl, sym, ap, ◌∙◌, subst, arith}
use Rattle.std.specs.Prelude.{ℤ, slice_get}
use Rattle.nm_base.specs.declared.action.Action.{Action}
use Rattle.nm_base.specs.declared.action.Action.TheVariants as action
use Rattle.nm_base.specs.Behaviour.{Behaviour, Returns, play}
use Rattle.nesc_core.specs.Plain.{Body, Program}
use Rattle.nesc_core.specs.WellFormed.{IsWellFormed}
use Rattle.nesc_core.specs.Calls.{HasNoCycle}
use Rattle.mid_code.specs.declared.instr.Mid.{Mid}
use Rattle.mid_code.specs.declared.instr.Mid.TheVariants.{Load, Store}
use Rattle.mid_code.specs.declared.code.MidCode.{MidCode}
use Rattle.mid_code.specs.Machine.{Activation, entry, Next, Goes, Acts, Wants, Ends, Stops, fn_of, follow, instruction, moved, perform, shown, started, step, steps}
use Rattle.mid_code.specs.Reached.{MayGoOn, opens_at, state_at}
use Rattle.mid_code.specs.Runs.{AreWords, Runs}
use Rattle.mid_code.specs.Words.{joined}
use Rattle.mid_code.proofs.Runs.{ends_with}
use Rattle.lower_expr.specs.Runs.{AreOf, given, passed}
use Rattle.lower_stmt.specs.Bodies.{lowered}
use Rattle.lower_stmt.proofs.Labels.{are_labelled}
use Rattle.lower_stmt.proofs.Program.{call_runs}
use Rattle.lower_reached.specs.Laws.{AccessesAreOfData, Among, AreOfData, InnermostMayGoOn, IsDoneBy, done, IsOfData, is_access, is_of_place}
use Rattle.lower_reached.proofs.Reached.{statements_nest}

-- the calls after so many steps from these
abbrev from : MidCode → List Activation → (ℕ → ℕ) → ℕ → List Activation
from c s answers zero = s
from c s answers (suc n) = from c (moved (step c s) (answers 0)) (λ i. answers (suc i)) n

from_last : (c : MidCode) (s : List Activation) (answers : ℕ → ℕ) (n : ℕ) → moved (step c (from c s answers n)) (answers n) ≡ from c s answers (suc n)
from_last c s answers zero = refl
from_last c s answers (suc n) = from_last c (moved (step c s) (answers 0)) (λ i. answers (suc i)) n

reached_from : (c : MidCode) (f : ℕ) (answers : ℕ → ℕ) (n : ℕ) → state_at c f answers n ≡ from c (started c f) answers n
reached_from c f answers zero = refl
reached_from c f answers (suc n) = ap (λ s. moved (step c s) (answers n)) (reached_from c f answers n) ∙ from_last c (started c f) answers n

-- nothing is done when all is over
over : (c : MidCode) (answers : ℕ → ℕ) (n : ℕ) → from c [] answers n ≡ []
over c answers zero = refl
over c answers (suc n) = over c (λ i. answers (suc i)) n

nothing_shown : (c : MidCode) (answers : ℕ → ℕ) (n : ℕ) (a : Action) → shown (step c (from c [] answers n)) ≡ Some a → ⊥
nothing_shown c answers n a e = let q = ap (λ s. shown (step c s)) (sym (over c answers n)) ∙ e in absurd (cc)

-- answers with which it is done within so many steps
record IsDone (c : MidCode) (m : ℕ) (s : List Activation) (a : Action) : Type 0 where
  given : List ℕ
  words : AreWords given
  among : Among a (play (steps c m s) given).actions

-- at once
done_now : (c : MidCode) (s : List Activation) (a : Action) (m : ℕ) (next : Next) → shown next ≡ Some a → Among a (play (follow next (steps c m)) []).actions
done_now c s a m (Goes t) e = absurd (cc)
done_now c s a m (Acts b t) e = let same : b ≡ a = cc in inl same
done_now c s a m (Wants b t) e = let same : b ≡ a = cc in inl same
done_now c s a m (Ends xs) e = absurd (cc)
done_now c s a m (Stops code) e = let same : action.Fault code ≡ a = cc in inl same

record IsFollowed (c : MidCode) (m : ℕ) (next : Next) (a : Action) : Type 0 where
  given : List ℕ
  words : AreWords given
  among : Among a (play (follow next (steps c m)) given).actions

done_later : (c : MidCode) (m n : ℕ) (answers : ℕ → ℕ) (a : Action) (next : Next) → answers 0 < 65536 → ((s : List Activation) → shown (step c (from c s (λ i. answers (suc i)) n)) ≡ Some a → IsDone c m s a) →
    shown (step c (from c (moved next (answers 0)) (λ i. answers (suc i)) n)) ≡ Some a → IsFollowed c m next a
done_later c m n answers a (Goes t) small go e = let d = go t e in record { given = d.given; words = d.words; among = d.among }
done_later c m n answers a (Acts b t) small go e = let d = go t e in record { given = d.given; words = d.words; among = inr d.among }
done_later c m n answers a (Wants b t) small go e = let d = go (t (answers 0)) e in record { given = answers 0 ∷ d.given; words = (small, d.words); among = inr d.among }
done_later c m n answers a (Ends xs) small go e = absurd (nothing_shown c (λ i. answers (suc i)) n a e)
done_later c m n answers a (Stops code) small go e = absurd (nothing_shown c (λ i. answers (suc i)) n a e)

done_in : (c : MidCode) (n : ℕ) (s : List Activation) (answers : ℕ → ℕ) (a : Action) → ((i : ℕ) → answers i < 65536) → shown (step c (from c s answers n)) ≡ Some a → IsDone c (suc n) s a
done_in c zero s answers a small e = record { given = []; words = tt; among = done_now c s a zero (step c s) e }
done_in c (suc n) s answers a small e =
    let f = done_later c (suc n) n answers a (step c s) (small 0) (λ t q. done_in c n t (λ i. answers (suc i)) a (λ i. small (suc i)) q) e in
    record { given = f.given; words = f.words; among = f.among }

-- ---- what the body does

each_among : (a : Action) (xs : List Action) → AreOfData xs → Among a xs → IsOfData a
each_among a [] h m = absurd m
each_among a (x ∷ xs) h m = ⊎_elim (λ e. subst IsOfData e h.0) (λ r. each_among a xs h.1 r) m

-- and so it is in more steps
module _ (c : MidCode) where
  more_follow : (a : Action) (given : List ℕ) (next : Next) (f g : List Activation → Behaviour) → ((s : List Activation) (rest : List ℕ) → Among a (play (f s) rest).actions → Among a (play (g s) rest).actions) →
      Among a (play (follow next f) given).actions → Among a (play (follow next g) given).actions
  more_follow a given (Goes s) f g h m = h s given m
  more_follow a given (Acts b s) f g h m = ⊎_elim (λ e. inl e) (λ r. inr (h s given r)) m
  more_follow a [] (Wants b s) f g h m = m
  more_follow a (x ∷ given) (Wants b s) f g h m = ⊎_elim (λ e. inl e) (λ r. inr (h (s x) given r)) m
  more_follow a given (Ends xs) f g h m = m
  more_follow a given (Stops code) f g h m = m

  more_steps : (a : Action) (m k : ℕ) → m ≤ k → (s : List Activation) (given : List ℕ) → Among a (play (steps c m s) given).actions → Among a (play (steps c k s) given).actions
  more_steps a zero k le s given h = absurd h
  more_steps a (suc m) zero le s given h = absurd (omega (arith, le))
  more_steps a (suc m) (suc k) le s given h = more_follow a given (step c s) (steps c m) (steps c k) (more_steps a m k (omega (arith, le))) h

module _ (p : Program) (ranked : HasNoCycle p) (formed : IsWellFormed p) (f : ℕ) (b : Body) (is : slice_get p.bodies f ≡ Some b) (none : b.params ≡ 0) where
  -- what is told of a result: the number in the values that give it back
  told : ℤ → ℕ
  told v = joined (given b.result v)

  body_runs : (n : ℕ) → Runs (lowered p) n (done p f told n) (started (lowered p) f)
  unfolding told
  body_runs n =
      subst (λ xs. Runs (lowered p) n (done p f told n) (entry (lowered p) f xs ∷ [])) (ap (λ k. passed (take k b.locals) []) none)
      (call_runs p formed ranked (are_labelled p) n (length p.bodies) n (omega arith) f b [] (λ v. Returns (joined (given b.result v))) [] is (ranked.low f b is) (subst (λ k. AreOf (take k b.locals) []) (sym none) tt)
      (λ v s number nothing e. ends_with (lowered p) n (given b.result v) s e))

  pub is_done : (answers : ℕ → ℕ) → ((i : ℕ) → answers i < 65536) → (n : ℕ) (a : Action) → shown (step (lowered p) (state_at (lowered p) f answers n)) ≡ Some a → IsDoneBy p f a
  is_done answers small n a e =
      let c : MidCode = lowered p in
      let d = done_in c n (started c f) answers a small (ap (λ s. shown (step c s)) (sym (reached_from c f answers n)) ∙ e) in
      let r = (body_runs (suc n)).by d.given d.words in
      record {
        told = told;
        answers = d.given;
        words = d.words;
        turns = suc n;
        among = subst (λ w. Among a w.actions) r.2 (more_steps c a (suc n) r.0 r.1 (started c f) d.given d.among);
      }

  shown_of_data : AccessesAreOfData p f → (answers : ℕ → ℕ) → ((i : ℕ) → answers i < 65536) → (n : ℕ) (a : Action) → shown (step (lowered p) (state_at (lowered p) f answers n)) ≡ Some a → IsOfData a
  shown_of_data stays answers small n a e =
      let d = is_done answers small n a e in
      each_among a (play (done p f d.told d.turns) d.answers).actions (stays.each d.told d.answers d.words d.turns) d.among

  access : (s : List Activation) (all : List (List ℕ)) → ((a : Action) → shown (step (lowered p) s) ≡ Some a → IsOfData a) → InnermostMayGoOn is_of_place (lowered p) s all → InnermostMayGoOn is_access (lowered p) s all
  access [] all h g = tt
  access (x ∷ rest) [] h g = absurd g
  access (x ∷ rest) (opens ∷ outer) h g = λ i at of. by i at of
    where
      shows : (i : Mid) (a : Action) → instruction (lowered p) x ≡ Some i → shown (perform (Some i) (lowered p) (fn_of (lowered p) x.f) x rest) ≡ Some a → IsOfData a
      shows i a at e = h a (ap (λ o. shown (perform o (lowered p) (fn_of (lowered p) x.f) x rest)) at ∙ e)

      by : (i : Mid) → instruction (lowered p) x ≡ Some i → is_access i ≡ true → MayGoOn (lowered p) x opens (Some i)
      by (Load w v y) at of = shows (Load w v y) (action.Load (x.values y) w) at refl
      by (Store w v y) at of = shows (Store w v y) _ at refl
      by i at of = absurd (cc)

  pub accesses_go_on : AccessesAreOfData p f → (answers : ℕ → ℕ) → ((i : ℕ) → answers i < 65536) → (n : ℕ) → InnermostMayGoOn is_access (lowered p) (state_at (lowered p) f answers n) (opens_at (lowered p) f answers n)
  accesses_go_on stays answers small n = access (state_at (lowered p) f answers n) (opens_at (lowered p) f answers n) (shown_of_data stays answers small n) (statements_nest p formed f answers n)
