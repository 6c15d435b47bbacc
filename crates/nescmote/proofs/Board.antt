-- The board of the program's devices, and an answer that was kept back for want of memory.
use Rattle.std.proofs.Common.{◌≡◌, List, [], ◌∷◌, map, Option, ℕ, arith, ap, inl, inr, refl, subst, ◌∙◌}
use Rattle.std.specs.Prelude.{false}
use denote.Param.Object.{Made, read_made}
use denote.Param.Table.{Table, Entry}
use Rattle.mote_devices.specs.declared.state.DevState.{DevState}
use Rattle.mote_devices.specs.declared.state.DevState.TheVariants.{Leds, Timer, Serial, Radio, Sensor}
use Rattle.mote_devices.specs.WordBoards.{IsWordBoard}
use Rattle.mote_bus.specs.Slots.{board_of}
use Rattle.nm_driver.specs.declared.status.Status.{Status}
use Rattle.nm_base.specs.Outside.{FilesSeen, SinkSeen}
use Rattle.mote_devices.specs.declared.state.BoardState.{BoardState}
use Rattle.nm_driver.specs.Output.{IsAnswer}
use Rattle.nm_driver.proofs.Written.{unanswered}
use Rattle.std.specs.Prelude.{IfOk, OnErr}
use Rattle.std.specs.Result.{result_unwrap_or}
use Rattle.std.specs.declared.result.Result.{Result}
use Rattle.std.specs.declared.result.Result.TheVariants.{Ok, Err}
use Rattle.nm_base.specs.declared.no_memory.NoMemory.{NoMemory}
use Rattle.nm_driver.specs.declared.status.Status.TheVariants as status
use Rattle.nescmote.specs.Answered.{new_devices}

-- what is read of a boxed value is what is read of the value
pub read_as : {G : Type 0 → Type 1} {C : Type 0} (T : Table G C) (at i : T.I) (y : (T.entry i).0.Denot) (x : (T.entry at).0.Denot) → Made (λ j. (T.entry j).0.coded.code) (T.entry at).0.coded.code at i y x
    → (read : (j : Entry G C) → j.0.Denot → DevState) → read (T.entry i) y ≡ read (T.entry at) x
read_as T at i y x made read = read_made T (T.entry at) at refl DevState read i y x made

-- its registers hold words: all of them are 0
pub board_of_words : IsWordBoard (board_of new_devices)
board_of_words = record {
  mask = omega arith;
  slots = (omega arith, ((omega arith, omega arith), (omega arith, ((omega arith, omega arith), (omega arith, (tt, (tt, (tt, tt))))))));
  eight = omega arith;
}

module _ {B : Type 0} (state : B → DevState) (items : List B) (a b c d e : B) where
  -- what was written for a board of these five devices
  pub on_devices : items ≡ a ∷ b ∷ c ∷ d ∷ e ∷ []
      → state a ≡ Leds 0 → state b ≡ Timer false 0 0 false → state c ≡ Serial 0 false false false → state d ≡ Radio false 0 0 false false false → state e ≡ Sensor 0 false false
      → (words : List (List ℕ)) (s : Status) (files files' : FilesSeen) (out out' : SinkSeen)
      → IsAnswer words (board_of (map state items)) s files files' out out' → IsAnswer words (board_of new_devices) s files files' out out'
  on_devices is ha hb hc hd he words s files files' out out' h =
      subst (λ ds. IsAnswer words (board_of ds) s files files' out out')
      (ap (map state) is
      ∙ ap (λ x. x ∷ state b ∷ state c ∷ state d ∷ state e ∷ []) ha
      ∙ ap (λ x. Leds 0 ∷ x ∷ state c ∷ state d ∷ state e ∷ []) hb
      ∙ ap (λ x. Leds 0 ∷ Timer false 0 0 false ∷ x ∷ state d ∷ state e ∷ []) hc
      ∙ ap (λ x. Leds 0 ∷ Timer false 0 0 false ∷ Serial 0 false false false ∷ x ∷ state e ∷ []) hd
      ∙ ap (λ x. Leds 0 ∷ Timer false 0 0 false ∷ Serial 0 false false false ∷ Radio false 0 0 false false false ∷ x ∷ []) he)
      h

-- an answer, or want of memory before anything was read or written
pub answered : (words : List (List ℕ)) (board : BoardState) (files files' : FilesSeen) (out out' : SinkSeen) (r : Result Status NoMemory)
    → IfOk r (λ status. IsAnswer words board status files files' out out') → OnErr r (files' ≡ files) → OnErr r (out' ≡ out) → IsAnswer words board (result_unwrap_or r status.NoMemory) files files' out out'
answered words board files files' out out' (Ok s) answer read wrote = answer
answered words board files files' out out' (Err e) answer read wrote = unanswered words board files files' out out' (ap (λ (x : FilesSeen). x.texts) read) status.NoMemory refl wrote
