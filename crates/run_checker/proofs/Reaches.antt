-- How far the moves have been taken: what holds of the rest holds of all of them.
use Rattle.std.proofs.Common.{◌≡◌, ℕ, suc, ◌+◌, ◌<◌, ◌≤◌, List, [], ◌∷◌, ◌++◌, length, drop, get_or, sym, subst, ap, arith, ◌∙◌, append-nil, append_assoc}
use Rattle.std.specs.Prelude.{Result, Ok, Err, IfErr, IsErr, IsErrAnd}
use Rattle.std.proofs.Math.ListN.{drop_of_length-le}
use Rattle.std.proofs.Math.Seq.{drop-cons}
use Rattle.mote_devices.specs.declared.shown.Shown.{Shown}
use Rattle.mote_devices.specs.declared.state.BoardState.{BoardState}
use Rattle.nesc_core.specs.Plain.{Program}
use Rattle.core_meaning.specs.Source.{Source}
use Rattle.core_meaning.specs.SourceOf.{source_of}
use Rattle.run_meaning.specs.declared.Move.{Move}
use Rattle.run_meaning.specs.State.{State, start}
use Rattle.run_meaning.specs.Runs.{AreLegal, Legal, after, shown_by, shown_of}
use Rattle.run_checker.specs.declared.run_fault.RunFault.{RunFault}
use Rattle.run_checker.specs.declared.run_fault.RunFault.TheVariants.{BadMove, NoMemory}
use Rattle.run_checker.specs.Checking.{IsFirstBad, IsNoMove, IsTaken, IsWhy}

-- k of the moves lead from s0 to s, and show these events
pub record Reaches (P : Source) (s0 : State) (moves : List Move) (k : ℕ) (s : State) (events : List Shown) : Type 0 where
  pub legal : AreLegal P s (drop k moves) → AreLegal P s0 moves
  pub bad : (j : ℕ) → IsFirstBad P s (drop k moves) j → IsFirstBad P s0 moves (k + j)
  pub shown : events ++ shown_by P s (drop k moves) ≡ shown_by P s0 moves

pub begun : (P : Source) (s0 s : State) (moves : List Move) (events : List Shown) → s ≡ s0 → events ≡ [] → Reaches P s0 moves 0 s events
begun P s0 s moves events same none = record {
  legal = λ h. subst (λ x. AreLegal P x moves) same h;
  bad = λ j h. let first : j ≡ 0 + j = omega arith in subst (IsFirstBad P s0 moves) first (subst (λ x. IsFirstBad P x moves j) same h);
  shown = ap (λ xs. xs ++ shown_by P s moves) none ∙ ap (λ x. shown_by P x moves) same;
}

module _ (P : Source) (s0 : State) (moves : List Move) (k : ℕ) (m : Move) (below : k < length moves) (is : m ≡ get_or moves k m) where
  next : drop k moves ≡ m ∷ drop (k + 1) moves
  next =
      let more : suc k ≡ k + 1 = omega arith in
      drop-cons moves k m below ∙ ap (λ x. x ∷ drop (suc k) moves) (sym is) ∙ ap (λ n. m ∷ drop n moves) more

  pub went_on : (s t : State) (xs ys : List Shown) → Reaches P s0 moves k s xs → IsTaken P m s t xs ys → Reaches P s0 moves (k + 1) t ys
  went_on s t xs ys r step =
      let rest = drop (k + 1) moves in
      record {
        legal = λ h. r.legal (subst (AreLegal P s) (sym next) (step.legal, subst (λ x. AreLegal P x rest) step.state h));
        bad = λ j h.
            let more : k + suc j ≡ k + 1 + j = omega arith in
            subst (IsFirstBad P s0 moves) more (r.bad (suc j) (subst (λ all. IsFirstBad P s all (suc j)) (sym next) (step.legal, subst (λ x. IsFirstBad P x rest j) step.state h)));
        shown =
            ap (λ zs. zs ++ shown_by P t rest) step.shown
            ∙ ap (λ x. (xs ++ shown_of s m) ++ shown_by P x rest) step.state
            ∙ append_assoc xs (shown_of s m) (shown_by P (after P s m) rest)
            ∙ sym (ap (λ all. xs ++ shown_by P s all) next)
            ∙ r.shown;
      }

  pub bad_here : (s : State) (xs : List Shown) → Reaches P s0 moves k s xs → (Legal P s m → ⊥) → IsFirstBad P s0 moves k
  bad_here s xs r isnt =
      let here : k + 0 ≡ k = omega arith in
      subst (IsFirstBad P s0 moves) here (r.bad 0 (subst (λ all. IsFirstBad P s all 0) (sym next) isnt))

pub refused : (p : Program) (b : BoardState) (moves : List Move) (k : ℕ) (m : Move) (below : k < length moves) (is : m ≡ get_or moves k m) (s : State) (xs : List Shown)
    → Reaches (source_of p) (start (source_of p) b) moves k s xs → (e : RunFault) → IsNoMove (source_of p) s m k e → IsWhy p b moves e
refused p b moves k m below is s xs r NoMemory isnt = tt
refused p b moves k m below is s xs r (BadMove j) isnt =
    subst (IsFirstBad (source_of p) (start (source_of p) b) moves) (sym isnt.0) (bad_here (source_of p) (start (source_of p) b) moves k m below is s xs r isnt.1)

module _ (P : Source) (s0 : State) (moves : List Move) (k : ℕ) (s : State) (events : List Shown) (past : length moves ≤ k) (r : Reaches P s0 moves k s events) where
  none_left : drop k moves ≡ []
  none_left = drop_of_length-le moves past

  pub all_legal : AreLegal P s0 moves
  all_legal = r.legal (subst (AreLegal P s) (sym none_left) tt)

  pub all_shown : events ≡ shown_by P s0 moves
  all_shown = sym (append-nil events) ∙ sym (ap (λ all. events ++ shown_by P s all) none_left) ∙ r.shown

-- the fault is handed on
pub refused_by : {A : Type 0} (p : Program) (b : BoardState) (moves : List Move) (k : ℕ) (m : Move) (below : k < length moves) (is : m ≡ get_or moves k m) (s : State) (xs : List Shown)
    → Reaches (source_of p) (start (source_of p) b) moves k s xs → (e : RunFault) → IsNoMove (source_of p) s m k e
    → (r : Result A RunFault) → IsErr r × IsErrAnd r (λ x. x ≡ e) → IfErr r (λ x. IsWhy p b moves x)
refused_by p b moves k m below is s xs reached e isnt (Ok u) handed = let w = handed.0 in absurd cc
refused_by p b moves k m below is s xs reached e isnt (Err x) handed = subst (IsWhy p b moves) (sym handed.1) (refused p b moves k m below is s xs reached e isnt)
