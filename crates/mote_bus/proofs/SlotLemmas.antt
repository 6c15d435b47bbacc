-- A step of one slot, seen in the list of the states.
use Rattle.std.proofs.Common.{◌≡◌, ℕ, ◌<◌, ◌≤◌, Bool, true, false, cond, nat_lt, ◌&&◌, ◌==◌, ◌%◌, List, Option, Some, None, [], ◌∷◌, ◌++◌, ◌+◌, ◌-◌, zero, suc, replicate, length, map, arith, refl, slice_set, get_or, ap, sym, ◌∙◌, append_assoc}
use Rattle.std.specs.Prelude.{nat_le, slice_get, option_and_then}
use Rattle.std.specs.Option.{option_map}
use Rattle.std.proofs.lemmas.Bool.Decides.{nat_tests}
use Rattle.std.proofs.lemmas.List.{map-set, get_or-map, map-append, length-map, set-append_right, length-append}
use Rattle.mote_devices.specs.declared.state.DevState.{DevState}
use Rattle.mote_devices.specs.declared.state.BoardState.{BoardState}
use Rattle.mote_devices.specs.Device.{dev_read, dev_write}
use Rattle.mote_devices.specs.Board.{device, changed, with_device, is_device_port, slot_of, register_of, board_read, board_write}
use Rattle.mote_bus.specs.Slots.{board_with}

get_at : {A : Type 0} (xs : List A) (k : ℕ) (d : A) → k < length xs → slice_get xs k ≡ Some (get_or xs k d)
get_at [] k d below = absurd (elim below [ ])
get_at (x ∷ xs) zero d below = refl
get_at (x ∷ xs) (suc k) d below = get_at xs k d (omega arith)

set_past : {A : Type 0} (xs : List A) (k : ℕ) (x : A) → length xs ≤ k → slice_set xs k x ≡ xs
set_past [] k x past = refl
set_past (y ∷ xs) zero x past = absurd (elim past [ ])
set_past (y ∷ xs) (suc k) x past = ap (λ l. y ∷ l) (set_past xs k x (omega arith))

module _ {D : Type 0} (state : D → DevState) (mask : ℕ) (xs : List (Option D)) (k : ℕ) where
  abbrev states : List (Option DevState)
  states = map (option_map state) xs

  -- what a slot shows
  pub device-map : (d : Option D) → k < 8 → k < length xs → device (board_with state mask xs) k ≡ option_map state (get_or xs k d)
  device-map d below within =
      let t : nat_lt k 8 ≡ true = grind (arith, nat_tests) in
      let long : k < length states = omega (arith, length-map xs (option_map state), within) in
      ap (λ b. cond b (option_and_then (λ x. x) (slice_get states k)) None) t
      ∙ ap (λ o. option_and_then (λ x. x) o) (get_at states k None long)
      ∙ get_or-map (option_map state) xs k d None within

  -- a step of a device in a slot
  within_or_past : (d y : Option D) (f : DevState → DevState) → k < 8 → option_map state y ≡ changed f (option_map state (get_or xs k d))
      → (t : Bool) → nat_lt k (length xs) ≡ t → map (option_map state) (slice_set xs k y) ≡ slice_set states k (changed f (device (board_with state mask xs) k))
  within_or_past d y f below step true test =
      let within : k < length xs = grind (arith, nat_tests) in
      map-set (option_map state) xs k y ∙ ap (slice_set states k) (step ∙ ap (changed f) (sym (device-map d below within)))
  within_or_past d y f below step false test =
      let past : length xs ≤ k = grind (arith, nat_tests) in
      let long : length states ≤ k = omega (arith, length-map xs (option_map state), past) in
      ap (map (option_map state)) (set_past xs k y past) ∙ sym (set_past states k (changed f (device (board_with state mask xs) k)) long)

  pub with_device-set : (slot : ℕ) (d y : Option D) (f : DevState → DevState) → slot ≡ k → k < 8 → option_map state y ≡ changed f (option_map state (get_or xs slot d))
      → board_with state mask (slice_set xs slot y) ≡ with_device (board_with state mask xs) k f
  with_device-set slot d y f same below step =
      ap (λ n. board_with state mask (slice_set xs n y)) same
      ∙ ap (λ l. record { mask = mask; slots = l })
      (within_or_past d y f below (step ∙ ap (λ n. changed f (option_map state (get_or xs n d))) same) (nat_lt k (length xs)) refl)

  -- no slot is behind the eighth
  pub with_device-past : (f : DevState → DevState) → length xs ≡ 8 → 8 ≤ k → board_with state mask xs ≡ with_device (board_with state mask xs) k f
  with_device-past f eight past =
      let long : length states ≤ k = omega (arith, length-map xs (option_map state), eight, past) in
      sym (ap (λ l. record { mask = mask; slots = l }) (set_past states k (changed f (device (board_with state mask xs) k)) long))

-- a device's port
device_port : (p : ℕ) → 0x0120 ≤ p → p < 0x0160 → is_device_port p ≡ true
device_port p low high =
    let t : nat_le 0x0120 p ≡ true = grind (arith, nat_tests) in
    let u : nat_lt p 0x0160 ≡ true = grind (arith, nat_tests) in
    ap (λ x. x && nat_lt p 0x0160) t ∙ u

pub read-device_port : (b : BoardState) (p : ℕ) → 0x0120 ≤ p → p < 0x0160 → board_read b p ≡ with_device b (slot_of p) (λ d. dev_read d (register_of p))
read-device_port b p low high =
    ap (λ t. cond t (with_device b (slot_of p) (λ d. dev_read d (register_of p))) b) (device_port p low high)

pub write-device_port : (b : BoardState) (p v : ℕ) → 0x0120 ≤ p → p < 0x0160 → board_write b p v ≡ with_device b (slot_of p) (λ d. dev_write d (register_of p) v)
write-device_port b p v low high =
    let other : (p == 0x0100) ≡ false = grind (arith, nat_tests) in
    let stepped : BoardState = with_device b (slot_of p) (λ d. dev_write d (register_of p) v) in
    ap (λ t. cond t (record { mask = v % 256; slots = b.slots }) (cond (is_device_port p) stepped b)) other
    ∙ ap (λ t. cond t stepped b) (device_port p low high)

-- a slot more is filled
pub fill-step : {X : Type 0} (done : List X) (x : X) (at : ℕ) → at ≡ length done → at < 8
    → slice_set (map Some done ++ replicate (8 - at) None) at (Some x) ≡ map Some (done ++ x ∷ []) ++ replicate (8 - (at + 1)) None
fill-step done x at counted below =
    let long : length (map Some done) ≡ at = length-map done Some ∙ sym counted in
    let none : at - at ≡ 0 = omega arith in
    let more : 8 - at ≡ suc (8 - (at + 1)) = omega arith in
    set-append_right (map Some done) (replicate (8 - at) None) at at (Some x) long (omega arith)
    ∙ ap (λ k. map Some done ++ slice_set (replicate (8 - at) None) k (Some x)) none
    ∙ ap (λ n. map Some done ++ slice_set (replicate n None) 0 (Some x)) more
    ∙ sym (append_assoc (map Some done) (Some x ∷ []) (replicate (8 - (at + 1)) None))
    ∙ ap (λ xs. xs ++ replicate (8 - (at + 1)) None) (sym (map-append Some done (x ∷ [])))

module _ {D : Type 0} (state : D → DevState) where
  empty : (n : ℕ) → map (option_map state) (replicate n None) ≡ replicate n None
  empty zero = refl
  empty (suc n) = ap (λ xs. None ∷ xs) (empty n)

  full : (xs : List D) → map (option_map state) (map Some xs) ≡ map Some (map state xs)
  full [] = refl
  full (x ∷ xs) = ap (λ ys. Some (state x) ∷ ys) (full xs)

  -- the states of slots that were filled
  pub filled-states : (xs : List D) → map (option_map state) (map Some xs ++ replicate (8 - length xs) None) ≡ map Some (map state xs) ++ replicate (8 - length (map state xs)) None
  filled-states xs =
      map-append (option_map state) (map Some xs) (replicate (8 - length xs) None)
      ∙ ap (λ ys. ys ++ map (option_map state) (replicate (8 - length xs) None)) (full xs)
      ∙ ap (λ ys. map Some (map state xs) ++ ys) (empty (8 - length xs))
      ∙ ap (λ n. map Some (map state xs) ++ replicate (8 - n) None) (sym (length-map xs state))

pub ruleset fills = (fill-step, length-append)

pub ruleset steps = (device-map, with_device-set, with_device-past, filled-states)
