-- Ports of devices.
use Rattle.std.proofs.Common.{◌≡◌, ℕ, ◌<◌, ◌≤◌, ◌%◌, ◌==◌, ◌&&◌, true, false, cond, nat_lt, arith, ap, ◌∙◌}
use Rattle.std.specs.Prelude.{nat_le}
use Rattle.std.proofs.lemmas.Bool.Decides.{nat_tests}
use Rattle.mote_devices.specs.declared.state.BoardState.{BoardState}
use Rattle.mote_devices.specs.Device.{dev_read, dev_write}
use Rattle.mote_devices.specs.Board.{with_device, is_device_port, slot_of, register_of, board_read, board_write}

device_port : (p : ℕ) → 0x0120 ≤ p → p < 0x0160 → is_device_port p ≡ true
device_port p low high =
    let t : nat_le 0x0120 p ≡ true = grind (arith, nat_tests) in
    let u : nat_lt p 0x0160 ≡ true = grind (arith, nat_tests) in
    ap (λ x. x && nat_lt p 0x0160) t ∙ u

pub read-device_port : (b : BoardState) (p : ℕ) → 0x0120 ≤ p → p < 0x0160 → board_read b p ≡ with_device b (slot_of p) (λ d. dev_read d (register_of p))
read-device_port b p low high =
    ap (λ t. cond t (with_device b (slot_of p) (λ d. dev_read d (register_of p))) b) (device_port p low high)

pub write-device_port : (b : BoardState) (p v : ℕ) → 0x0120 ≤ p → p < 0x0160 → board_write b p v ≡ with_device b (slot_of p) (λ d. dev_write d (register_of p) v)
write-device_port b p v low high =
    let other : (p == 0x0100) ≡ false = grind (arith, nat_tests) in
    let stepped : BoardState = with_device b (slot_of p) (λ d. dev_write d (register_of p) v) in
    ap (λ t. cond t (record { mask = v % 256; slots = b.slots }) (cond (is_device_port p) stepped b)) other
    ∙ ap (λ t. cond t stepped b) (device_port p low high)

pub ruleset ports = (read-device_port, write-device_port)
