-- The rows of a schedule, slot by slot.
use Rattle.std.proofs.Common.{◌≡◌, ℕ, suc, ◌+◌, ◌<◌, ◌≤◌, ◌==◌, Bool, true, false, cond, List, [], ◌∷◌, take, drop, drop-cons, get_or, length, arith, refl, sym, ap, subst, ◌∙◌}
use Rattle.std.proofs.lemmas.Bool.Decides.{nat_tests}
use Rattle.mote_devices.specs.declared.state.BoardState.{BoardState}
use Rattle.mote_devices.specs.declared.shown.Due.{Due}
use Rattle.mote_devices.specs.declared.shown.Given.{Given}
use Rattle.mote_devices.specs.Board.{board_given}
use Rattle.mote_devices.specs.Outside.{Outside, outside_given}
use Rattle.mote_bus.specs.Mote.{due_at}
use Rattle.mote_run.specs.Rows.{DoNotFallFrom, due_count, happen, board_after}
use Rattle.mote_run.specs.Held.{Held, board_in, with_board, given_to}

-- nothing is due before the first row
past_rows : (n s : ℕ) (rows : List Due) (o : Outside) → s < n → DoNotFallFrom n rows → due_at rows s o ≡ o
past_rows n s [] o below order = refl
past_rows n s (row ∷ rows) o below order =
    let first = order.0 in
    let other : (row.slot == s) ≡ false = grind (arith, nat_tests) in
    ap (λ t. due_at rows s (cond t (outside_given o row.given) o)) other ∙ past_rows row.slot s rows o (omega arith) order.1

-- what is due in the slot of the first row
pub due_now : (s : ℕ) (rows : List Due) (o : Outside) → DoNotFallFrom s rows → due_at rows s o ≡ happen (take (due_count rows s) rows) o
due_now s [] o order = refl
due_now s (row ∷ rows) o order = by_test (row.slot == s) refl (λ h. due_now s rows (outside_given o row.given) h)
  where
    by_test : (t : Bool) → (row.slot == s) ≡ t
        → (DoNotFallFrom s rows → due_at rows s (outside_given o row.given) ≡ happen (take (due_count rows s) rows) (outside_given o row.given))
        → due_at rows s (cond t (outside_given o row.given) o) ≡ happen (take (cond t (suc (due_count rows s)) 0) (row ∷ rows)) o
    by_test true test rest = let same : row.slot ≡ s = grind (arith, nat_tests) in rest (subst (λ n. DoNotFallFrom n rows) same order.1)
    by_test false test rest =
        let first = order.0 in
        let later : s < row.slot = grind (arith, nat_tests) in
        past_rows row.slot s rows o later order.1

-- what is due later stands behind
pub due_later : (s t : ℕ) (rows : List Due) (o : Outside) → s < t → due_at rows t o ≡ due_at (drop (due_count rows s) rows) t o
due_later s t [] o below = refl
due_later s t (row ∷ rows) o below = by_test (row.slot == s) refl (due_later s t rows o below)
  where
    by_test : (b : Bool) → (row.slot == s) ≡ b → due_at rows t o ≡ due_at (drop (due_count rows s) rows) t o
        → due_at rows t (cond (row.slot == t) (outside_given o row.given) o) ≡ due_at (drop (cond b (suc (due_count rows s)) 0) (row ∷ rows)) t o
    by_test true test rest =
        let same : row.slot ≡ s = grind (arith, nat_tests) in
        let other : (row.slot == t) ≡ false = grind (arith, nat_tests) in
        ap (λ b. due_at rows t (cond b (outside_given o row.given) o)) other ∙ rest
    by_test false test rest = refl

pub order_later : (s : ℕ) (rows : List Due) → DoNotFallFrom s rows → DoNotFallFrom (suc s) (drop (due_count rows s) rows)
order_later s [] order = tt
order_later s (row ∷ rows) order = by_test (row.slot == s) refl (order_later s rows)
  where
    by_test : (b : Bool) → (row.slot == s) ≡ b → (DoNotFallFrom s rows → DoNotFallFrom (suc s) (drop (due_count rows s) rows))
        → DoNotFallFrom (suc s) (drop (cond b (suc (due_count rows s)) 0) (row ∷ rows))
    by_test true test rest = let same : row.slot ≡ s = grind (arith, nat_tests) in rest (subst (λ n. DoNotFallFrom n rows) same order.1)
    by_test false test rest =
        let first = order.0 in
        let later : suc s ≤ row.slot = grind (arith, nat_tests) in
        (later, order.1)

-- one row more has happened
pub given_board : (b : BoardState) (rows : List Due) (i : ℕ) (d : Due) → i < length rows
    → board_after (board_given b (get_or rows i d).given) (drop (i + 1) rows) ≡ board_after b (drop i rows)
given_board b rows i d within =
    let e : i + 1 ≡ suc i = omega arith in
    ap (λ n. board_after (board_given b (get_or rows i d).given) (drop n rows)) e ∙ ap (board_after b) (sym (drop-cons rows i d within))

pub given_held : (before now next : Held) (given : Given) → next ≡ given_to now given → now ≡ with_board before (board_in now) → next ≡ with_board before (board_in next)
given_held before now next given is so_far =
    is ∙ ap (λ (m : Held). with_board m (board_given (board_in now) given)) so_far ∙ ap (with_board before) (sym (ap (λ (m : Held). board_in m) is))
