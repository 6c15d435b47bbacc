-- Which values the code of an expression leaves as they are.
use Rattle.std.proofs.Common.{◌≡◌, ℕ, ◌+◌, ◌<◌, ◌≤◌, Bool, true, false, List, [], Option, Some, None, refl, ◌∙◌, arith}
use Rattle.std.specs.Prelude.{ℤ, slice_get, slice_index_or}
use Rattle.nm_base.specs.declared.int_type.IntType.{IntType}
use Rattle.nesc_core.specs.Plain.{Ty, void, Program}
use Rattle.core_meaning.specs.Layout.{size_of}
use Rattle.core_meaning.specs.Work.{Locals, number_of}
use Rattle.mid_code.specs.Help.{is_wide}
use Rattle.mid_code.specs.Machine.{put}
use Rattle.mid_code.proofs.Written.{put_other}
use Rattle.lower_expr.specs.declared.spot.Spot.{Spot}
use Rattle.lower_expr.specs.declared.spot.Spot.TheVariants.{Values, Frame}
use Rattle.lower_expr.specs.Held.{IsHeld, IsHighHeld}
use Rattle.lower_expr.specs.Code.{value_named}
use Rattle.lower_expr.specs.Runs.{Keeps}
use Rattle.lower_expr.specs.Locals.{Holds, IsHighBelow, LocalIsHeld, local_value}

module _ (base : ℕ) where
  pub keeps_refl : (r : ℕ) (old : ℕ → ℕ) → Keeps base r old old
  keeps_refl r old = record { at = λ i le lt. refl }

  pub keeps_put : (r s x : ℕ) (old new : ℕ → ℕ) → r ≤ s → Keeps base r old new → Keeps base r old (put new s x)
  keeps_put r s x old new le h = record { at = λ i from lt. put_other new s x i (λ e. omega arith) ∙ h.at i from lt }

  pub keeps_below : (r s x : ℕ) (old new : ℕ → ℕ) → s < base → Keeps base r old new → Keeps base r old (put new s x)
  keeps_below r s x old new lt0 h = record { at = λ i from lt. put_other new s x i (λ e. omega arith) ∙ h.at i from lt }

  pub keeps_on : (r s : ℕ) (a b c : ℕ → ℕ) → r ≤ s → Keeps base r a b → Keeps base s b c → Keeps base r a c
  keeps_on r s a b c le h k = record { at = λ i from lt. k.at i from (omega arith) ∙ h.at i from lt }

  high_put : (wide : Bool) (v : ℤ) (values : ℕ → ℕ) (s x r : ℕ) → base ≤ s → IsHighBelow wide base r → IsHighHeld wide v values r → IsHighHeld wide v (put values s x) r
  high_put true v values s x r le lt h = put_other values s x r (λ e. omega arith) ∙ h
  high_put false v values s x r le lt h = tt

  local_put : (spot : Option Spot) (ty : Ty) (size : ℕ) (bytes : List ℕ) (values frame : ℕ → ℕ) (s x : ℕ) → base ≤ s → LocalIsHeld base spot ty size bytes values frame → LocalIsHeld base spot ty size bytes (put values s x) frame
  local_put None ty size bytes values frame s x le h = h
  local_put (Some (Values regs)) ty size bytes values frame s x le h = record {
    low_below = h.low_below;
    high_below = h.high_below;
    low_half = (let lt : value_named regs.low < base = h.low_below in put_other values s x (value_named regs.low) (λ e. omega arith)) ∙ h.low_half;
    high_half = high_put (is_wide (number_of ty)) (local_value (number_of ty) bytes) values s x (value_named regs.high) le h.high_below h.high_half;
  }
  local_put (Some (Frame o)) ty size bytes values frame s x le h = h

  pub holds_put : (p : Program) (types : List Ty) (spots : List Spot) (env : Locals) (values frame : ℕ → ℕ) (s x : ℕ) → base ≤ s → Holds p types spots base env values frame → Holds p types spots base env (put values s x) frame
  holds_put p types spots env values frame s x le h = record {
    at = λ y lt. local_put (slice_get spots y) (slice_index_or types y void) (size_of p (slice_index_or types y void)) (slice_index_or env y []) values frame s x le (h.at y lt);
    count = h.count;
    bytes = h.bytes;
    apart = h.apart;
  }

-- a number at r is still there where the values from r to r + 2 are as they were
high_kept : (wide : Bool) (v : ℤ) (old new : ℕ → ℕ) (r : ℕ) → new r ≡ old r → IsHighHeld wide v old r → IsHighHeld wide v new r
high_kept true v old new r e h = e ∙ h
high_kept false v old new r e h = tt

pub still : (base : ℕ) (t : IntType) (v : ℤ) (r s : ℕ) (old new : ℕ → ℕ) → base ≤ r → r + 2 ≤ s → Keeps base s old new → IsHeld t v old r → IsHeld t v new r
still base t v r s old new le lt k h = record {
  number = h.number;
  low_half = k.at r le (omega arith) ∙ h.low_half;
  high_half = high_kept (is_wide t) v old new (r + 1) (k.at (r + 1) (omega arith) (omega arith)) h.high_half;
}
