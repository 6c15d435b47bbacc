-- A number is written to a local that is in values.
use Rattle.std.proofs.Common.{◌≡◌, ◌≢◌, ℕ, ◌+◌, ◌-◌, ◌*◌, ◌/◌, ◌%◌, ◌<◌, ◌≤◌, Bool, true, false, List, [], ◌∷◌, length, Option, Some, None, refl, sym, ap, ◌∙◌, subst, ⊎_elim, arith, get_or-set_same, get_or-set_other}
use Rattle.std.specs.Prelude.{ℤ, pos, negsuc, slice_get, slice_index, slice_index_or, slice_set}
use Rattle.std.proofs.lemmas.List.{length-set, set-set}
use Rattle.std.proofs.lemmas.Bool.Decides.{eqb_tells}
use Rattle.nm_base.specs.declared.int_type.IntType.{IntType}
use Rattle.nm_base.specs.declared.int_type.IntType.TheVariants.{I8, U8, I16, U16, I32, U32}
use Rattle.nm_base.specs.IntType.{wrapped, signed_part}
use Rattle.nm_base.specs.Behaviour.{Behaviour}
use Rattle.nesc_core.specs.Plain.{Ty, void, int, pointer, array, struct, Program}
use Rattle.nesc_core.specs.Typing.{IsScalar}
use Rattle.core_meaning.specs.Numbers.{residue}
use Rattle.core_meaning.specs.Layout.{size_of}
use Rattle.core_meaning.specs.Work.{Locals, number_of, store}
use Rattle.core_meaning.specs.declared.access.Where.TheVariants.{Within}
use Rattle.mid_code.specs.declared.instr.Mid.{Mid}
use Rattle.mid_code.specs.declared.instr.Mid.TheVariants.{Move}
use Rattle.mid_code.specs.declared.code.MidCode.{MidCode}
use Rattle.mid_code.specs.Machine.{Activation, fn_of, put}
use Rattle.mid_code.specs.Runs.{IsLabelled, Runs, Stands}
use Rattle.mid_code.specs.Help.{is_wide}
use Rattle.mid_code.proofs.Runs.{goes}
use Rattle.mid_code.proofs.Stands.{does, at_end}
use Rattle.mid_code.proofs.Written.{put_same, put_other}
use Rattle.lower_expr.specs.declared.spot.Regs.{Regs}
use Rattle.lower_expr.specs.declared.spot.Spot.{Spot}
use Rattle.lower_expr.specs.declared.spot.Spot.TheVariants.{Values, Frame}
use Rattle.lower_expr.specs.Held.{IsHeld, IsHighHeld, high, low}
use Rattle.lower_expr.specs.Runs.{Keeps}
use Rattle.lower_expr.specs.Locals.{HasBytes, Holds, InRegs, IsHighBelow, LocalIsHeld, local_value, value_at}
use Rattle.lower_expr.specs.Code.{keep_code, value_named}
use Rattle.lower_expr.proofs.Values.{keeps_below}
use Rattle.lower_expr.proofs.Numbers.{Is32Bits, low_small, rest_small, number_of_low}
use Rattle.lower_expr.proofs.Halves.{number_of_rest}
use Rattle.lower_expr.proofs.Wide.{high_of, is_wide_of}
use Rattle.lower_expr.proofs.Pieces.{at_here}

module _ (p : Program) (types : List Ty) (spots : List Spot) (base : ℕ) where
  abbrev type_of : ℕ → Ty
  type_of x = slice_index_or types x void

  -- the value that holds a half of a local
  abbrev value_of : ℕ → Bool → Option ℕ
  value_of x is_high = value_at (slice_get spots x) is_high (is_wide (number_of (type_of x)))

  high_kept : (wide : Bool) (regs : Regs) (v : ℤ) (old new : ℕ → ℕ) → IsHighBelow wide base (value_named regs.high) →
      ((a : Bool) (s : ℕ) → value_at (Some (Values regs)) a wide ≡ Some s → s < base → new s ≡ old s) →
      IsHighHeld wide v old (value_named regs.high) → IsHighHeld wide v new (value_named regs.high)
  high_kept true regs v old new lt same h = same true (value_named regs.high) refl lt ∙ h
  high_kept false regs v old new lt same h = tt

  local_kept : (spot : Option Spot) (ty : Ty) (size : ℕ) (bytes : List ℕ) (old new frame : ℕ → ℕ) →
      ((a : Bool) (s : ℕ) → value_at spot a (is_wide (number_of ty)) ≡ Some s → s < base → new s ≡ old s) →
      LocalIsHeld base spot ty size bytes old frame → LocalIsHeld base spot ty size bytes new frame
  local_kept None ty size bytes old new frame same h = h
  local_kept (Some (Values regs)) ty size bytes old new frame same h = record {
    low_below = h.low_below;
    high_below = h.high_below;
    low_half = same false (value_named regs.low) refl h.low_below ∙ h.low_half;
    high_half = high_kept (is_wide (number_of ty)) regs (local_value (number_of ty) bytes) old new h.high_below same h.high_half;
  }
  local_kept (Some (Frame o)) ty size bytes old new frame same h = h

  -- a local gets these bytes, and no other value below `base` changes
  pub local_written : (y : ℕ) (bytes : List ℕ) (env : Locals) (old new frame : ℕ → ℕ) → y < length types → Holds p types spots base env old frame →
      HasBytes (size_of p (type_of y)) bytes → LocalIsHeld base (slice_get spots y) (type_of y) (size_of p (type_of y)) bytes new frame →
      ((s : ℕ) → ((b : Bool) → value_of y b ≢ Some s) → s < base → new s ≡ old s) →
      Holds p types spots base (slice_set env y bytes) new frame
  local_written y bytes env old new frame lt h sized held same =
      let many = h.count in
      let inside : y < length env = omega (arith, lt, many) in
      record {
        at = λ x below. ⊎_elim
            (λ t. subst (λ u. LocalIsHeld base (slice_get spots u) (type_of u) (size_of p (type_of u)) (slice_index_or (slice_set env y bytes) u []) new frame) (sym t.1)
            (subst (λ l. LocalIsHeld base (slice_get spots y) (type_of y) (size_of p (type_of y)) l new frame) (sym (get_or-set_same env y bytes [] inside)) held))
            (λ t. subst (λ l. LocalIsHeld base (slice_get spots x) (type_of x) (size_of p (type_of x)) l new frame) (sym (get_or-set_other env y x bytes [] t.1))
            (local_kept (slice_get spots x) (type_of x) (size_of p (type_of x)) (slice_index_or env x []) old new frame
            (λ a s is low_s. same s (λ b other. t.1 (h.apart x y s a b below lt is other).0) low_s) (h.at x below)))
            (eqb_tells x y);
        bytes = λ x below. ⊎_elim
            (λ t. subst (λ u. HasBytes (size_of p (type_of u)) (slice_index_or (slice_set env y bytes) u [])) (sym t.1)
            (subst (λ l. HasBytes (size_of p (type_of y)) l) (sym (get_or-set_same env y bytes [] inside)) sized))
            (λ t. subst (λ l. HasBytes (size_of p (type_of x)) l) (sym (get_or-set_other env y x bytes [] t.1)) (h.bytes x below))
            (eqb_tells x y);
        count = let same_length = length-set env y bytes in omega (arith, many, same_length);
        apart = h.apart;
      }

-- ---- a number from its bytes

abbrev IsByte : IntType → Type 0
IsByte I8 = Unit {0}
IsByte U8 = Unit {0}
IsByte _ = ⊥

pub number_of_byte : (t : IntType) → IsByte t → (v : ℤ) → wrapped t v ≡ v → wrapped t (pos (residue 8 v)) ≡ v
number_of_byte I8 ok (pos a) e = ap (λ m. signed_part m (pos 128)) (ap pos (let h : a % 256 % 256 ≡ a % 256 = omega arith in h)) ∙ e
number_of_byte I8 ok (negsuc a) e = ap (λ m. signed_part m (pos 128)) (ap pos (let h : (256 - 1 - a % 256) % 256 ≡ 256 - 1 - a % 256 = omega arith in h)) ∙ e
number_of_byte U8 ok (pos a) e = ap pos (let h : a % 256 % 256 ≡ a % 256 = omega arith in h) ∙ e
number_of_byte U8 ok (negsuc a) e = ap pos (let h : (256 - 1 - a % 256) % 256 ≡ 256 - 1 - a % 256 = omega arith in h) ∙ e
number_of_byte I16 ok v e = absurd ok
number_of_byte U16 ok v e = absurd ok
number_of_byte I32 ok v e = absurd ok
number_of_byte U32 ok v e = absurd ok

pub byte_small : (v : ℤ) → residue 8 v < 256
byte_small (pos a) = omega arith
byte_small (negsuc a) = omega arith

abbrev pub one_byte : List ℕ → ℕ → List ℕ
one_byte l n = slice_set l 0 n

abbrev pub two_bytes : List ℕ → ℕ → List ℕ
two_bytes l n = slice_set (slice_set l 0 (n % 256)) 1 (n / 256)

pub byte_in : (l : List ℕ) (n : ℕ) → length l ≡ 1 → slice_index (one_byte l n) 0 ≡ n
byte_in l n e = get_or-set_same l 0 n 0 (omega (arith, e))

pub word_in : (l : List ℕ) (n : ℕ) → length l ≡ 2 → slice_index (two_bytes l n) 0 + 256 * slice_index (two_bytes l n) 1 ≡ n
word_in l n e =
    let longer = length-set l 0 (n % 256) in
    let first : slice_index (two_bytes l n) 0 ≡ n % 256 =
    get_or-set_other (slice_set l 0 (n % 256)) 1 0 (n / 256) 0 (λ q. omega (arith, q)) ∙ get_or-set_same l 0 (n % 256) 0 (omega (arith, e)) in
    let second : slice_index (two_bytes l n) 1 ≡ n / 256 = get_or-set_same (slice_set l 0 (n % 256)) 1 (n / 256) 0 (omega (arith, e, longer)) in
    omega (arith, first, second)

-- one byte is written
pub bytes_set : (size : ℕ) (l : List ℕ) (o n : ℕ) → n < 256 → HasBytes size l → HasBytes size (slice_set l o n)
bytes_set size l o n lt h =
    let count = h.length_is in
    record {
      length_is = length-set l o n ∙ count;
      small = λ i inside. ⊎_elim
          (λ t. let same = t.1 in let is : slice_index (slice_set l o n) i ≡ n = ap (slice_index (slice_set l o n)) same ∙ get_or-set_same l o n 0 (omega (arith, inside, same, count)) in omega (arith, is, lt))
          (λ t. let is : slice_index (slice_set l o n) i ≡ slice_index l i = get_or-set_other l o i n 0 t.1 in let s = h.small i inside in omega (arith, is, s))
          (eqb_tells i o);
    }

pub word_set : (size : ℕ) (l : List ℕ) (n : ℕ) → n < 65536 → HasBytes size l → HasBytes size (two_bytes l n)
word_set size l n lt h = bytes_set size (slice_set l 0 (n % 256)) 1 (n / 256) (omega (arith, lt)) (bytes_set size l 0 (n % 256) (omega arith) h)

abbrev pub four_bytes : List ℕ → ℕ → List ℕ
four_bytes l n = slice_set (slice_set (two_bytes l (n % 65536)) 2 (n / 65536 % 256)) 3 (n / 65536 / 256)

pub long_in : (l : List ℕ) (n : ℕ) → length l ≡ 4 →
    slice_index (four_bytes l n) 0 + 256 * slice_index (four_bytes l n) 1 + 65536 * (slice_index (four_bytes l n) 2 + 256 * slice_index (four_bytes l n) 3) ≡ n
long_in l n e =
    let a : ℕ = n % 65536 in
    let b : ℕ = n / 65536 in
    let l1 : List ℕ = slice_set l 0 (a % 256) in
    let l2 : List ℕ = slice_set l1 1 (a / 256) in
    let l3 : List ℕ = slice_set l2 2 (b % 256) in
    let e1 : length l1 ≡ 4 = length-set l 0 (a % 256) ∙ e in
    let e2 : length l2 ≡ 4 = length-set l1 1 (a / 256) ∙ e1 in
    let e3 : length l3 ≡ 4 = length-set l2 2 (b % 256) ∙ e2 in
    let s0 : slice_index (four_bytes l n) 0 ≡ a % 256 =
    get_or-set_other l3 3 0 (b / 256) 0 (λ q. omega (arith, q)) ∙ get_or-set_other l2 2 0 (b % 256) 0 (λ q. omega (arith, q))
    ∙ get_or-set_other l1 1 0 (a / 256) 0 (λ q. omega (arith, q)) ∙ get_or-set_same l 0 (a % 256) 0 (omega (arith, e)) in
    let s1 : slice_index (four_bytes l n) 1 ≡ a / 256 =
    get_or-set_other l3 3 1 (b / 256) 0 (λ q. omega (arith, q)) ∙ get_or-set_other l2 2 1 (b % 256) 0 (λ q. omega (arith, q)) ∙ get_or-set_same l1 1 (a / 256) 0 (omega (arith, e1)) in
    let s2 : slice_index (four_bytes l n) 2 ≡ b % 256 = get_or-set_other l3 3 2 (b / 256) 0 (λ q. omega (arith, q)) ∙ get_or-set_same l2 2 (b % 256) 0 (omega (arith, e2)) in
    let s3 : slice_index (four_bytes l n) 3 ≡ b / 256 = get_or-set_same l3 3 (b / 256) 0 (omega (arith, e3)) in
    omega (arith, s0, s1, s2, s3)

pub long_set : (size : ℕ) (l : List ℕ) (n : ℕ) → n < 4294967296 → HasBytes size l → HasBytes size (four_bytes l n)
long_set size l n lt h =
    bytes_set size (slice_set (two_bytes l (n % 65536)) 2 (n / 65536 % 256)) 3 (n / 65536 / 256) (omega (arith, lt))
    (bytes_set size (two_bytes l (n % 65536)) 2 (n / 65536 % 256) (omega arith) (word_set size l (n % 65536) (omega arith) h))

-- the two accesses of a number of 32 bits write its four bytes
pub written_twice : (env : Locals) (y : ℕ) (n : ℕ) → y < length env →
    slice_set (slice_set env y (two_bytes (slice_index_or env y []) (n % 65536))) y
    (slice_set (slice_set (slice_index_or (slice_set env y (two_bytes (slice_index_or env y []) (n % 65536))) y []) 2 (n / 65536 % 256)) 3 (n / 65536 / 256))
    ≡ slice_set env y (four_bytes (slice_index_or env y []) n)
written_twice env y n lt =
    let first : List ℕ = two_bytes (slice_index_or env y []) (n % 65536) in
    ap (λ l. slice_set (slice_set env y first) y (slice_set (slice_set l 2 (n / 65536 % 256)) 3 (n / 65536 / 256))) (get_or-set_same env y first [] lt)
    ∙ set-set env y first (four_bytes (slice_index_or env y []) n)

module _ (codes : MidCode) (f : ℕ) (rest : List Activation) (labels : IsLabelled (fn_of codes f).code) (n : ℕ)
    (p : Program) (types : List Ty) (spots : List Spot) (base : ℕ) where
  abbrev code : List Mid
  code = (fn_of codes f).code

  abbrev here : ℕ → (ℕ → ℕ) → (ℕ → ℕ) → List Activation
  here pc values frame = at_here codes f rest labels n p types spots base pc values frame

  -- what goes on at a place, where a number was written and the values from r + 2 on are as they were
  abbrev pub Written : (r mid : ℕ) → (first old : ℕ → ℕ) → (Locals → Behaviour) → Type 0
  Written r mid first old b = (env : Locals) (new frame : ℕ → ℕ) → Holds p types spots base env new frame → Keeps base r first new →
      ((i : ℕ) → r + 2 ≤ i → new i ≡ old i) → Runs codes n (b env) (here mid new frame)

  -- of one value, which stands at v
  short_kept_runs : (ty : Ty) (y : ℕ) (regs : Regs) (bytes : List ℕ) (z : ℤ) (v r pc mid : ℕ) (b : Locals → Behaviour) (env : Locals) (first values frame : ℕ → ℕ) →
      is_wide (number_of ty) ≡ false → slice_get spots y ≡ Some (Values regs) → type_of p types spots base y ≡ ty → y < length types → base ≤ r →
      HasBytes (size_of p ty) bytes → local_value (number_of ty) bytes ≡ z → InRegs base (number_of ty) (local_value (number_of ty) (slice_index_or env y [])) values regs → values v ≡ low z →
      Stands code pc (Move (value_named regs.low) v ∷ []) mid → Holds p types spots base env values frame → Keeps base r first values → Written r mid first values b →
      Runs codes n (b (slice_set env y bytes)) (here pc values frame)
  short_kept_runs ty y regs bytes z v r pc mid b env first values frame narrow spot_is type_is inside le sized is in_regs at_v s h k go =
      let env1 : Locals = slice_set env y bytes in
      let x : ℕ = values v in
      let below : value_named regs.low < base = in_regs.low_below in
      let one : ℕ → ℕ = put values (value_named regs.low) x in
      let local : LocalIsHeld base (Some (Values regs)) ty (size_of p ty) bytes one frame = record {
        low_below = in_regs.low_below;
        high_below = in_regs.high_below;
        low_half = put_same values (value_named regs.low) x ∙ at_v ∙ ap low (sym is);
        high_half = subst (λ b. IsHighHeld b (local_value (number_of ty) bytes) one (value_named regs.high)) (sym narrow) tt;
      } in
      let local_spot : LocalIsHeld base (slice_get spots y) ty (size_of p ty) bytes one frame = subst (λ o. LocalIsHeld base o ty (size_of p ty) bytes one frame) (sym spot_is) local in
      let holds1 = local_written p types spots base y bytes env values one frame inside h
      (subst (λ u. HasBytes (size_of p u) bytes) (sym type_is) sized)
      (subst (λ u. LocalIsHeld base (slice_get spots y) u (size_of p u) bytes one frame) (sym type_is) local_spot)
      (λ s other low_s. put_other values (value_named regs.low) x s (λ e. other false (ap (λ o. value_at o false (is_wide (number_of (type_of p types spots base y)))) spot_is ∙ ap Some (sym e)))) in
      goes codes n (b env1) _ (here (pc + 1) one frame) (does codes f rest pc values frame (Move (value_named regs.low) v) s.0)
      (at_end codes f rest n (b env1) (pc + 1) mid one frame s.1
      (go env1 one frame holds1 (keeps_below base r (value_named regs.low) x first values below k) (λ i far. put_other values (value_named regs.low) x i (λ e. omega (arith, below, le, far, e)))))

  -- of two values
  wide_kept_runs : (t : IntType) (y : ℕ) (regs : Regs) (bytes : List ℕ) (z : ℤ) (v r pc mid : ℕ) (b : Locals → Behaviour) (env : Locals) (first values frame : ℕ → ℕ) →
      Is32Bits t → slice_get spots y ≡ Some (Values regs) → type_of p types spots base y ≡ int t → y < length types → base ≤ r → r + 2 ≤ v →
      HasBytes (size_of p (int t)) bytes → local_value t bytes ≡ z → InRegs base t (local_value t (slice_index_or env y [])) values regs → IsHeld t z values v →
      Stands code pc (Move (value_named regs.low) v ∷ Move (value_named regs.high) (v + 1) ∷ []) mid →
      Holds p types spots base env values frame → Keeps base r first values → Written r mid first values b →
      Runs codes n (b (slice_set env y bytes)) (here pc values frame)
  wide_kept_runs t y regs bytes z v r pc mid b env first values frame ok spot_is type_is inside le behind sized is in_regs held s h k go =
      let env1 : Locals = slice_set env y bytes in
      let lo : ℕ = value_named regs.low in
      let hi : ℕ = value_named regs.high in
      let wide : Bool = is_wide (number_of (type_of p types spots base y)) in
      let wide_here : wide ≡ true = ap (λ u. is_wide (number_of u)) type_is ∙ is_wide_of t ok in
      let at_lo : value_at (slice_get spots y) false wide ≡ Some lo = ap (λ o. value_at o false wide) spot_is in
      let at_hi : value_at (slice_get spots y) true wide ≡ Some hi = ap (λ o. value_at o true wide) spot_is ∙ ap (λ w. value_at (Some (Values regs)) true w) wide_here in
      let differ : lo ≢ hi = λ e. let both = (h.apart y y lo false true inside inside at_lo (at_hi ∙ ap Some (sym e))).1 in absurd (cc) in
      let low_below : lo < base = in_regs.low_below in
      let high_below : hi < base = subst (λ w. IsHighBelow w base hi) (is_wide_of t ok) in_regs.high_below in
      let x : ℕ = values v in
      let one : ℕ → ℕ = put values lo x in
      let u : ℕ = one (v + 1) in
      let two : ℕ → ℕ = put one hi u in
      let u_is : u ≡ high z = put_other values lo x (v + 1) (λ e. omega (arith, low_below, le, behind, e)) ∙ high_of t z values v ok held in
      let local : LocalIsHeld base (Some (Values regs)) (int t) (size_of p (int t)) bytes two frame = record {
        low_below = in_regs.low_below;
        high_below = in_regs.high_below;
        low_half = put_other one hi u lo differ ∙ put_same values lo x ∙ held.low_half ∙ ap low (sym is);
        high_half = subst (λ b. IsHighHeld b (local_value t bytes) two hi) (sym (is_wide_of t ok)) (put_same one hi u ∙ u_is ∙ ap high (sym is));
      } in
      let local_spot : LocalIsHeld base (slice_get spots y) (int t) (size_of p (int t)) bytes two frame = subst (λ o. LocalIsHeld base o (int t) (size_of p (int t)) bytes two frame) (sym spot_is) local in
      let holds1 = local_written p types spots base y bytes env values two frame inside h
      (subst (λ u. HasBytes (size_of p u) bytes) (sym type_is) sized)
      (subst (λ u. LocalIsHeld base (slice_get spots y) u (size_of p u) bytes two frame) (sym type_is) local_spot)
      (λ s other low_s. put_other one hi u s (λ e. other true (at_hi ∙ ap Some (sym e))) ∙ put_other values lo x s (λ e. other false (at_lo ∙ ap Some (sym e)))) in
      goes codes n (b env1) _ (here (pc + 1) one frame) (does codes f rest pc values frame (Move lo v) s.0)
      (goes codes n (b env1) _ (here (pc + 1 + 1) two frame) (does codes f rest (pc + 1) one frame (Move hi (v + 1)) s.1.0)
      (at_end codes f rest n (b env1) (pc + 1 + 1) mid two frame s.1.1
      (go env1 two frame holds1 (keeps_below base r hi u first one high_below (keeps_below base r lo x first values low_below k))
      (λ i far. put_other one hi u i (λ e. omega (arith, high_below, le, far, e)) ∙ put_other values lo x i (λ e. omega (arith, low_below, le, far, e))))))

  pub local_kept_runs : (ty : Ty) (regs : Regs) (y : ℕ) (z : ℤ) (v r pc mid : ℕ) (b : Locals → Behaviour) (env : Locals) (first values frame : ℕ → ℕ) →
      IsScalar ty → slice_get spots y ≡ Some (Values regs) → type_of p types spots base y ≡ ty → y < length types → base ≤ r → r + 2 ≤ v →
      InRegs base (number_of ty) (local_value (number_of ty) (slice_index_or env y [])) values regs → IsHeld (number_of ty) z values v →
      Stands code pc (keep_code (is_wide (number_of ty)) regs v) mid →
      Holds p types spots base env values frame → Keeps base r first values → Written r mid first values b →
      Runs codes n (store ty (Within y 0) z (λ _. b) env) (here pc values frame)
  local_kept_runs (int I8) regs y z v r pc mid b env first values frame kept spot_is type_is inside le behind local held s h k go =
      let l : List ℕ = slice_index_or env y [] in
      let w : ℕ = residue 8 z in
      let sized = subst (λ u. HasBytes (size_of p u) l) type_is (h.bytes y inside) in
      short_kept_runs (int I8) y regs (one_byte l w) z v r pc mid b env first values frame refl spot_is type_is inside le
      (bytes_set 1 l 0 w (byte_small z) sized) (ap (λ m. wrapped I8 (pos m)) (byte_in l w sized.length_is) ∙ number_of_byte I8 tt z held.number) local held.low_half s h k go
  local_kept_runs (int U8) regs y z v r pc mid b env first values frame kept spot_is type_is inside le behind local held s h k go =
      let l : List ℕ = slice_index_or env y [] in
      let w : ℕ = residue 8 z in
      let sized = subst (λ u. HasBytes (size_of p u) l) type_is (h.bytes y inside) in
      short_kept_runs (int U8) y regs (one_byte l w) z v r pc mid b env first values frame refl spot_is type_is inside le
      (bytes_set 1 l 0 w (byte_small z) sized) (ap (λ m. wrapped U8 (pos m)) (byte_in l w sized.length_is) ∙ number_of_byte U8 tt z held.number) local held.low_half s h k go
  local_kept_runs (int I16) regs y z v r pc mid b env first values frame kept spot_is type_is inside le behind local held s h k go =
      let l : List ℕ = slice_index_or env y [] in
      let w : ℕ = residue 16 z in
      let sized = subst (λ u. HasBytes (size_of p u) l) type_is (h.bytes y inside) in
      short_kept_runs (int I16) y regs (two_bytes l w) z v r pc mid b env first values frame refl spot_is type_is inside le
      (word_set 2 l w (low_small z) sized) (ap (λ m. wrapped I16 (pos m)) (word_in l w sized.length_is) ∙ number_of_low I16 tt z held.number) local held.low_half s h k go
  local_kept_runs (int U16) regs y z v r pc mid b env first values frame kept spot_is type_is inside le behind local held s h k go =
      let l : List ℕ = slice_index_or env y [] in
      let w : ℕ = residue 16 z in
      let sized = subst (λ u. HasBytes (size_of p u) l) type_is (h.bytes y inside) in
      short_kept_runs (int U16) y regs (two_bytes l w) z v r pc mid b env first values frame refl spot_is type_is inside le
      (word_set 2 l w (low_small z) sized) (ap (λ m. wrapped U16 (pos m)) (word_in l w sized.length_is) ∙ number_of_low U16 tt z held.number) local held.low_half s h k go
  local_kept_runs (pointer t) regs y z v r pc mid b env first values frame kept spot_is type_is inside le behind local held s h k go =
      let l : List ℕ = slice_index_or env y [] in
      let w : ℕ = residue 16 z in
      let sized = subst (λ u. HasBytes (size_of p u) l) type_is (h.bytes y inside) in
      short_kept_runs (pointer t) y regs (two_bytes l w) z v r pc mid b env first values frame refl spot_is type_is inside le
      (word_set 2 l w (low_small z) sized) (ap (λ m. wrapped U16 (pos m)) (word_in l w sized.length_is) ∙ number_of_low U16 tt z held.number) local held.low_half s h k go
  local_kept_runs (int I32) regs y z v r pc mid b env first values frame kept spot_is type_is inside le behind local held s h k go =
      let l : List ℕ = slice_index_or env y [] in
      let w : ℕ = residue 32 z in
      let sized = subst (λ u. HasBytes (size_of p u) l) type_is (h.bytes y inside) in
      let many = h.count in
      subst (λ e. Runs codes n (b e) (here pc values frame)) (sym (written_twice env y w (omega (arith, inside, many))))
      (wide_kept_runs I32 y regs (four_bytes l w) z v r pc mid b env first values frame tt spot_is type_is inside le behind
      (long_set 4 l w (rest_small z) sized) (ap (λ m. wrapped I32 (pos m)) (long_in l w sized.length_is) ∙ number_of_rest I32 tt z held.number) local held s h k go)
  local_kept_runs (int U32) regs y z v r pc mid b env first values frame kept spot_is type_is inside le behind local held s h k go =
      let l : List ℕ = slice_index_or env y [] in
      let w : ℕ = residue 32 z in
      let sized = subst (λ u. HasBytes (size_of p u) l) type_is (h.bytes y inside) in
      let many = h.count in
      subst (λ e. Runs codes n (b e) (here pc values frame)) (sym (written_twice env y w (omega (arith, inside, many))))
      (wide_kept_runs U32 y regs (four_bytes l w) z v r pc mid b env first values frame tt spot_is type_is inside le behind
      (long_set 4 l w (rest_small z) sized) (ap (λ m. wrapped U32 (pos m)) (long_in l w sized.length_is) ∙ number_of_rest U32 tt z held.number) local held s h k go)
  local_kept_runs void regs y z v r pc mid b env first values frame kept spot_is type_is inside le behind local held s h k go = absurd kept
  local_kept_runs (array t m) regs y z v r pc mid b env first values frame kept spot_is type_is inside le behind local held s h k go = absurd kept
  local_kept_runs (struct j) regs y z v r pc mid b env first values frame kept spot_is type_is inside le behind local held s h k go = absurd kept
