-- What comes to the mote in a slot, as moves of a run from any state.
use Rattle.std.proofs.Common.{◌≡◌, ℕ, ◌==◌, Bool, true, false, not, cond, List, [], ◌∷◌, ◌++◌, refl, sym, ap, ◌∙◌, arith, append_assoc, append-nil}
use Rattle.nm_base.specs.Lists.{number_of}
use Rattle.mote_devices.specs.declared.state.BoardState.{BoardState}
use Rattle.mote_devices.specs.WordBoards.{AreWordRows}
use Rattle.mote_devices.specs.declared.shown.Due.{Due}
use Rattle.mote_devices.specs.declared.shown.Given.{Given}
use Rattle.mote_devices.specs.declared.shown.Shown.TheVariants as shown
use Rattle.mote_devices.specs.Board.{board_given}
use Rattle.mote_devices.specs.Outside.{Outside, outside_given}
use Rattle.core_meaning.specs.Source.{Source}
use Rattle.run_meaning.specs.declared.Move.TheVariants.{Arrive}
use Rattle.run_meaning.specs.State.{State, is_inside}
use Rattle.run_meaning.specs.Runs.{AreLegal, after_all, shown_by}
use Rattle.mote_bus.specs.Mote.{due_at}
use Rattle.preempt_core.specs.Law.{is_waiting, waiting_effects}
use Rattle.preempt_core.proofs.Arrivals.{arrivals, board_due}
use Rattle.preempt_bodies.specs.Boards.{AnswersWords}

-- the same, with another board
abbrev pub on_board : State → BoardState → State
on_board r b = record r { board = b }

module _ (P : Source) where
  pub arrived : (rows : List Due) (s : ℕ) (r : State) → after_all P r (arrivals rows s) ≡ on_board r (board_due rows s r.board)
  arrived [] s r = refl
  arrived (row ∷ rows) s r = by_test (row.slot == s) (arrived rows s (on_board r (board_given r.board row.given))) (arrived rows s r)
    where
      by_test : (t : Bool) → after_all P (on_board r (board_given r.board row.given)) (arrivals rows s) ≡ on_board r (board_due rows s (board_given r.board row.given)) → after_all P r (arrivals rows s) ≡ on_board r (board_due rows s r.board) → after_all P r (cond t (Arrive row.given ∷ arrivals rows s) (arrivals rows s)) ≡ on_board r (board_due rows s (cond t (board_given r.board row.given) r.board))
      by_test true hit miss = hit
      by_test false hit miss = miss

  pub legal_arrivals : (rows : List Due) (s : ℕ) (r : State) → r.stopped ≡ false → AreLegal P r (arrivals rows s)
  legal_arrivals [] s r going = tt
  legal_arrivals (row ∷ rows) s r going = by_test (row.slot == s) (legal_arrivals rows s (on_board r (board_given r.board row.given)) going) (legal_arrivals rows s r going)
    where
      by_test : (t : Bool) → AreLegal P (on_board r (board_given r.board row.given)) (arrivals rows s) → AreLegal P r (arrivals rows s) → AreLegal P r (cond t (Arrive row.given ∷ arrivals rows s) (arrivals rows s))
      by_test true hit miss = ((going, tt), hit)
      by_test false hit miss = miss

  -- the ports of the mote after them
  abbrev pub outside_after : List Due → ℕ → State → Outside → Outside
  outside_after rows s r o = record { board = board_due rows s o.board; stopped = o.stopped; shown = o.shown ++ shown_by P r (arrivals rows s) }

  pub due_is : (rows : List Due) (s : ℕ) (r : State) (o : Outside) → due_at rows s o ≡ outside_after rows s r o
  due_is [] s r o = ap (λ l. record { board = o.board; stopped = o.stopped; shown = l }) (sym (append-nil o.shown))
  due_is (row ∷ rows) s r o = by_test (row.slot == s) (due_is rows s (on_board r (board_given r.board row.given)) (outside_given o row.given)) (due_is rows s r o)
    where
      by_test : (t : Bool) → due_at rows s (outside_given o row.given) ≡ outside_after rows s (on_board r (board_given r.board row.given)) (outside_given o row.given) → due_at rows s o ≡ outside_after rows s r o →
          due_at rows s (cond t (outside_given o row.given) o) ≡ record { board = board_due rows s (cond t (board_given o.board row.given) o.board); stopped = o.stopped; shown = o.shown ++ shown_by P r (cond t (Arrive row.given ∷ arrivals rows s) (arrivals rows s)) }
      by_test true hit miss = hit ∙ ap (λ l. record { board = board_due rows s (board_given o.board row.given); stopped = o.stopped; shown = l }) (append_assoc o.shown (shown.Given row.given ∷ []) (shown_by P (on_board r (board_given r.board row.given)) (arrivals rows s)))
      by_test false hit miss = miss

  -- an arrival is no effect
  pub arrivals_count : (rows : List Due) (s : ℕ) (r : State) → waiting_effects P r (arrivals rows s) ≡ 0
  arrivals_count [] s r = refl
  arrivals_count (row ∷ rows) s r = by_test (row.slot == s) (arrivals_count rows s (on_board r (board_given r.board row.given))) (arrivals_count rows s r)
    where
      none : (w i : Bool) → cond w (cond i (number_of (not i)) 0) 0 ≡ 0
      none true true = refl
      none true false = refl
      none false i = refl

      by_test : (t : Bool) → waiting_effects P (on_board r (board_given r.board row.given)) (arrivals rows s) ≡ 0 → waiting_effects P r (arrivals rows s) ≡ 0 → waiting_effects P r (cond t (Arrive row.given ∷ arrivals rows s) (arrivals rows s)) ≡ 0
      by_test true hit miss = let k = none (is_waiting r) (is_inside r.base) in omega (arith, hit, k)
      by_test false hit miss = miss

pub words_due : (Sound : BoardState → Type 0) (IsWord : Given → Type 0) → AnswersWords Sound IsWord → (rows : List Due) (s : ℕ) (b : BoardState) → AreWordRows IsWord rows → Sound b → Sound (board_due rows s b)
words_due Sound IsWord sound [] s b h k = k
words_due Sound IsWord sound (row ∷ rows) s b h k = words_due Sound IsWord sound rows s (cond (row.slot == s) (board_given b row.given) b) h.1 (by_test (row.slot == s))
  where
    by_test : (t : Bool) → Sound (cond t (board_given b row.given) b)
    by_test true = sound.given b row.given h.0 k
    by_test false = k
