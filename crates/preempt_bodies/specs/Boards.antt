-- Boards whose ports answer words, whatever is done with them (own).
use Rattle.std.specs.Prelude.{ℕ, ◌<◌}
use Rattle.mote_devices.specs.declared.state.BoardState.{BoardState}
use Rattle.mote_devices.specs.declared.shown.Given.{Given}
use Rattle.mote_devices.specs.Board.{board_answer, board_read, board_write, board_given, board_ack}

-- Ports answer words, whatever is done with the board, where words are written and these events come
pub record AnswersWords (Sound : BoardState → Type 0) (IsWord : Given → Type 0) : Type 0 where
  pub answer : (b : BoardState) (p : ℕ) → Sound b → board_answer b p < 0x10000
  pub read : (b : BoardState) (p : ℕ) → Sound b → Sound (board_read b p)
  pub write : (b : BoardState) (p v : ℕ) → v < 0x10000 → Sound b → Sound (board_write b p v)
  pub given : (b : BoardState) (g : Given) → IsWord g → Sound b → Sound (board_given b g)
  pub ack : (b : BoardState) (v : ℕ) → Sound b → Sound (board_ack b v)
