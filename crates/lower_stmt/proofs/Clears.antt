-- A local becomes 0: its values, or each byte of it in the frame.
use Rattle.std.proofs.Common.{◌≡◌, ◌≢◌, ℕ, zero, suc, ◌+◌, ◌/◌, ◌%◌, ◌<◌, Bool, true, false, List, [], ◌∷◌, length, Option, Some, None, refl, sym, ap, ◌∙◌, subst, ⊎_elim, arith, get_or-set_same, get_or-set_other}
use Rattle.std.specs.Prelude.{pos, slice_get, slice_index, slice_index_or, slice_set, ◌==◌, if◌then◌else◌}
use Rattle.std.proofs.lemmas.List.{length-set, set-set}
use Rattle.std.proofs.lemmas.Bool.Decides.{Decides-eqb, eqb_tells}
use Rattle.nm_base.specs.declared.int_type.IntType.TheVariants.{I8, U8, I16, U16, I32, U32}
use Rattle.nm_base.specs.Behaviour.{Behaviour}
use Rattle.nesc_core.specs.Plain.{Ty, void, int, pointer, array, struct, Program}
use Rattle.nesc_core.specs.Typing.{IsScalar}
use Rattle.core_meaning.specs.Layout.{size_of}
use Rattle.core_meaning.specs.Work.{Locals, Work, bytes_of, number_of, set_local}
use Rattle.mid_code.specs.declared.instr.Mid.TheVariants.{Set, Bin, Branch, Jump, Label, Poke}
use Rattle.mid_code.specs.declared.instr.Op.TheVariants.{Add}
use Rattle.mid_code.specs.declared.instr.Test.TheVariants.{Eq}
use Rattle.mid_code.specs.Help.{is_wide}
use Rattle.mid_code.specs.Machine.{fn_of, poke_byte, poked, put}
use Rattle.mid_code.specs.Runs.{Runs, Stands}
use Rattle.mid_code.proofs.Runs.{goes}
use Rattle.mid_code.proofs.Stands.{branch_runs, does, jump_runs, stay_runs}
use Rattle.mid_code.proofs.Written.{put_same, put_other}
use Rattle.lower_expr.specs.declared.spot.Regs.{Regs}
use Rattle.lower_expr.specs.declared.spot.Spot.{Spot}
use Rattle.lower_expr.specs.declared.spot.Spot.TheVariants.{Values, Frame}
use Rattle.lower_expr.specs.Held.{IsHighHeld, high, low}
use Rattle.lower_expr.specs.Locals.{HasBytes, InRegs, LocalIsHeld, local_value, value_at}
use Rattle.lower_expr.specs.Code.{value_named}
use Rattle.lower_expr.proofs.Frames.{byte_poked}
use Rattle.lower_expr.proofs.Kept.{local_written}
use Rattle.lower_expr.proofs.Pieces.{set_runs}
use Rattle.lower_expr.proofs.Values.{holds_put}
use Rattle.lower_expr.proofs.Wide.{bin_runs}
use Rattle.lower_stmt.specs.Code.{clear_code, zero_bytes_code, zero_local_code, zero_regs_code}
use Rattle.lower_stmt.specs.Runs.{AreHeld, Setting, code, here}
use Rattle.lower_stmt.proofs.Common.{GoesOn, behind, past_label}
use Rattle.lower_stmt.proofs.Exits.{StepsIt}

-- ---- bytes

pub bytes_long : (size n : ℕ) → length (bytes_of size n) ≡ size
bytes_long zero n = refl
bytes_long (suc size) n = ap suc (bytes_long size (n / 256))

bytes_small : (size n i : ℕ) → i < size → slice_index (bytes_of size n) i < 256
bytes_small zero n i lt = absurd (omega (arith, lt))
bytes_small (suc size) n zero lt = omega arith
bytes_small (suc size) n (suc i) lt = bytes_small size (n / 256) i (omega (arith, lt))

pub are_bytes : (size n : ℕ) → HasBytes size (bytes_of size n)
are_bytes size n = record { length_is = bytes_long size n; small = bytes_small size n }

-- a list of zeros
all_zero : (size : ℕ) (l : List ℕ) → length l ≡ size → ((i : ℕ) → i < size → slice_index l i ≡ 0) → l ≡ bytes_of size 0
all_zero zero [] e zeros = refl
all_zero zero (x ∷ l) e zeros = absurd (omega (arith, e))
all_zero (suc size) [] e zeros = absurd (omega (arith, e))
all_zero (suc size) (x ∷ l) e zeros =
    let first : x ≡ 0 = zeros 0 (omega arith) in
    ap (λ y. y ∷ l) first ∙ ap (λ m. 0 ∷ m) (all_zero size l (omega (arith, e)) (λ i lt. zeros (suc i) (omega (arith, lt))))

-- an element that is set to what it is
pub set_to_itself : (xs : Locals) (k : ℕ) → k < length xs → slice_set xs k (slice_index_or xs k []) ≡ xs
set_to_itself [] k lt = absurd (omega (arith, lt))
set_to_itself (x ∷ xs) zero lt = refl
set_to_itself (x ∷ xs) (suc k) lt = ap (λ ys. x ∷ ys) (set_to_itself xs k (omega (arith, lt)))

pub zero_value : (p : Program) (ty : Ty) → IsScalar ty → local_value (number_of ty) (bytes_of (size_of p ty) 0) ≡ pos 0
zero_value p void ok = absurd ok
zero_value p (int I8) ok = refl
zero_value p (int U8) ok = refl
zero_value p (int I16) ok = refl
zero_value p (int U16) ok = refl
zero_value p (int I32) ok = refl
zero_value p (int U32) ok = refl
zero_value p (pointer t) ok = refl
zero_value p (array t m) ok = absurd ok
zero_value p (struct k) ok = absurd ok

-- where 0 was, 0 is after a 0 was written anywhere
still_zero : (values : ℕ → ℕ) (k i : ℕ) → values i ≡ 0 → put values k 0 i ≡ 0
still_zero values k i e = by (i == k)
  where
    by : (b : Bool) → (if b then 0 else values i) ≡ 0
    by true = refl
    by false = e

module _ (c : Setting) where
  abbrev r : ℕ
  r = c.base

  abbrev type_at : ℕ → Ty
  type_at x = slice_index_or c.types x void

  abbrev size_at : ℕ → ℕ
  size_at x = size_of c.p (type_at x)

  -- the local is 0
  abbrev zeroed : ℕ → Work (Unit {0})
  zeroed x = set_local x (bytes_of (size_at x) 0)

  sets : (n : ℕ) (b : Behaviour) (v k pc : ℕ) (values frame : ℕ → ℕ) → slice_get (code c) pc ≡ Some (Set v k) → Runs c.codes n b (here c (pc + 1) (put values v k) frame) → Runs c.codes n b (here c pc values frame)
  sets n b v k pc values frame at h = set_runs c.codes c.f c.rest c.fits.labelled n c.p c.types c.spots c.base b v k pc values frame at h

  -- ---- in values

  module _ (x : ℕ) (regs : Regs) (lt : x < length c.types) (spot : slice_get c.spots x ≡ Some (Values regs)) (env : Locals) (values frame : ℕ → ℕ) (h : AreHeld c env values frame) where
    abbrev zeros : List ℕ
    zeros = bytes_of (size_at x) 0

    scalar : IsScalar (type_at x)
    scalar = c.fits.lie.in_values x regs lt spot

    before : InRegs c.base (number_of (type_at x)) (local_value (number_of (type_at x)) (slice_index_or env x [])) values regs
    before = subst (λ o. LocalIsHeld c.base o (type_at x) (size_at x) (slice_index_or env x []) values frame) spot (h.at x lt)

    high_zero : (wide : Bool) (new : ℕ → ℕ) → (wide ≡ true → new (value_named regs.high) ≡ 0) → IsHighHeld wide (local_value (number_of (type_at x)) zeros) new (value_named regs.high)
    high_zero true new e = e refl ∙ sym (ap high (zero_value c.p (type_at x) scalar))
    high_zero false new e = tt

    -- where the values of the local are 0 and no others changed
    now_zero : (new : ℕ → ℕ) → new (value_named regs.low) ≡ 0 → (is_wide (number_of (type_at x)) ≡ true → new (value_named regs.high) ≡ 0) →
        ((s : ℕ) → s ≢ value_named regs.low → (is_wide (number_of (type_at x)) ≡ true → s ≢ value_named regs.high) → new s ≡ values s) →
        AreHeld c (slice_set env x zeros) new frame
    now_zero new low_zero high_is same =
        let local : LocalIsHeld c.base (Some (Values regs)) (type_at x) (size_at x) zeros new frame = record {
          low_below = before.low_below;
          high_below = before.high_below;
          low_half = low_zero ∙ sym (ap low (zero_value c.p (type_at x) scalar));
          high_half = high_zero (is_wide (number_of (type_at x))) new high_is;
        } in
        local_written c.p c.types c.spots c.base x zeros env values new frame lt h (are_bytes (size_at x) 0)
        (subst (λ o. LocalIsHeld c.base o (type_at x) (size_at x) zeros new frame) (sym spot) local)
        (λ s other below. same s
        (λ e. other false (ap (λ o. value_at o false (is_wide (number_of (type_at x)))) spot ∙ ap Some (sym e)))
        (λ w e. other true (ap (λ o. value_at o true (is_wide (number_of (type_at x)))) spot ∙ ap (λ b. value_at (Some (Values regs)) true b) w ∙ ap Some (sym e))))

    regs_zero : (wide : Bool) (pc end n : ℕ) (after : Locals → Behaviour) → is_wide (number_of (type_at x)) ≡ wide → Stands (code c) pc (zero_regs_code wide regs) end → GoesOn c n end after →
        Runs c.codes n (after (slice_set env x zeros)) (here c pc values frame)
    regs_zero false pc end n after narrow s next =
        let one : ℕ → ℕ = put values (value_named regs.low) 0 in
        sets n (after (slice_set env x zeros)) (value_named regs.low) 0 pc values frame s.0
        (behind c n (after (slice_set env x zeros)) (pc + 1) end one frame s.1
        (next (slice_set env x zeros) one frame
        (now_zero one (put_same values (value_named regs.low) 0) (λ w. absurd (cc)) (λ s0 other _. put_other values (value_named regs.low) 0 s0 other))))
    regs_zero true pc end n after wide s next =
        let one : ℕ → ℕ = put values (value_named regs.low) 0 in
        let two : ℕ → ℕ = put one (value_named regs.high) 0 in
        sets n (after (slice_set env x zeros)) (value_named regs.low) 0 pc values frame s.0
        (sets n (after (slice_set env x zeros)) (value_named regs.high) 0 (pc + 1) one frame s.1.0
        (behind c n (after (slice_set env x zeros)) (pc + 1 + 1) end two frame s.1.1
        (next (slice_set env x zeros) two frame
        (now_zero two (still_zero one (value_named regs.high) (value_named regs.low) (put_same values (value_named regs.low) 0)) (λ w. put_same one (value_named regs.high) 0)
        (λ s0 other far. put_other one (value_named regs.high) 0 s0 (far wide) ∙ put_other values (value_named regs.low) 0 s0 other)))))

  -- ---- in the frame

  -- what the loop keeps in values, i bytes on
  record Counts (o size i : ℕ) (values : ℕ → ℕ) : Type 0 where
    place : values r ≡ o + i
    none : values (r + 1) ≡ 0
    last : values (r + 2) ≡ o + size
    one : values (r + 3) ≡ 1

  module _ (x o : ℕ) (lt : x < length c.types) (spot : slice_get c.spots x ≡ Some (Frame o)) (env : Locals) (inside : x < length env) (l top end n : ℕ) (after : Locals → Behaviour)
      (at_label : slice_get (code c) top ≡ Some (Label l)) (at_test : slice_get (code c) (top + 1) ≡ Some (Branch Eq r (r + 2) (l + 1))) (at_poke : slice_get (code c) (top + 1 + 1) ≡ Some (Poke false (r + 1) r))
      (at_add : slice_get (code c) (top + 1 + 1 + 1) ≡ Some (Bin Add r r (r + 3))) (at_jump : slice_get (code c) (top + 1 + 1 + 1 + 1) ≡ Some (Jump l))
      (at_out : slice_get (code c) (top + 1 + 1 + 1 + 1 + 1) ≡ Some (Label (l + 1))) (is_end : top + 1 + 1 + 1 + 1 + 1 + 1 ≡ end) (next : GoesOn c n end after) where
    abbrev size : ℕ
    size = size_at x

    abbrev room : ℕ
    room = (fn_of c.codes c.f).frame

    -- one byte
    byte_zero : (i : ℕ) (bytes : List ℕ) (values frame : ℕ → ℕ) → i < size → Counts o size i values → AreHeld c (slice_set env x bytes) values frame →
        AreHeld c (slice_set env x (slice_set bytes i 0)) values (poked false room frame (values r) (values (r + 1)))
    byte_zero i bytes values frame below counts h =
        let poked_one = byte_poked c.p c.types c.spots c.base room c.fits.lie x o i (values r) 0 (slice_set env x bytes) values frame lt spot below counts.place (omega arith) h in
        let same : slice_set (slice_set env x bytes) x (slice_set (slice_index_or (slice_set env x bytes) x []) i 0) ≡ slice_set env x (slice_set bytes i 0) =
        ap (λ (b : List ℕ). slice_set (slice_set env x bytes) x (slice_set b i 0)) (get_or-set_same env x bytes [] inside) ∙ set-set env x bytes (slice_set bytes i 0) in
        subst (λ m. AreHeld c (slice_set env x (slice_set bytes i 0)) values (poke_byte room frame (values r) (m % 256))) (sym counts.none)
        (subst (λ e. AreHeld c e values (poke_byte room frame (values r) 0)) same poked_one)

    bytes_zero : (k i : ℕ) (bytes : List ℕ) (values frame : ℕ → ℕ) → i + k ≡ size → length bytes ≡ size → ((j : ℕ) → j < i → slice_index bytes j ≡ 0) → Counts o size i values →
        AreHeld c (slice_set env x bytes) values frame → Runs c.codes n (after (slice_set env x (bytes_of size 0))) (here c (top + 1) values frame)
    bytes_zero zero i bytes values frame whole long zeros counts h =
        let goal : Behaviour = after (slice_set env x (bytes_of size 0)) in
        let done : bytes ≡ bytes_of size 0 = all_zero size bytes long (λ j below. zeros j (omega (arith, below, whole))) in
        let at = counts.place in
        let last = counts.last in
        let same : values r ≡ values (r + 2) = omega (arith, at, last, whole) in
        branch_runs c.codes c.f c.rest c.fits.labelled n goal Eq r (r + 2) (l + 1) (top + 1) (top + 1 + 1 + 1 + 1 + 1) values frame at_test at_out ((Decides-eqb (values r) (values (r + 2))).1 same)
        (past_label c n goal (l + 1) (top + 1 + 1 + 1 + 1 + 1) values frame at_out
        (behind c n goal (top + 1 + 1 + 1 + 1 + 1 + 1) end values frame is_end
        (next (slice_set env x (bytes_of size 0)) values frame (subst (λ b. AreHeld c (slice_set env x b) values frame) done h))))
    bytes_zero (suc k) i bytes values frame whole long zeros counts h =
        let goal : Behaviour = after (slice_set env x (bytes_of size 0)) in
        let at = counts.place in
        let last = counts.last in
        let one = counts.one in
        let within = c.fits.lie.inside x o lt spot in
        let small = c.fits.lie.small in
        let frame1 : ℕ → ℕ = poked false room frame (values r) (values (r + 1)) in
        let z : ℕ = (values r + values (r + 3)) % 65536 in
        let values1 : ℕ → ℕ = put values r z in
        let z_is : z ≡ o + suc i = omega (arith, at, one, within, small, whole) in
        let held1 = byte_zero i bytes values frame (omega (arith, whole)) counts h in
        let longer = length-set bytes i 0 in
        let zeros1 : (j : ℕ) → j < suc i → slice_index (slice_set bytes i 0) j ≡ 0 = (λ j below. ⊎_elim
        (λ t. ap (slice_index (slice_set bytes i 0)) t.1 ∙ get_or-set_same bytes i 0 0 (omega (arith, whole, long)))
        (λ t. get_or-set_other bytes i j 0 0 t.1 ∙ zeros j (let other = t.1 in grind (arith, other, below)))
        (eqb_tells j i)) in
        let counts1 : Counts o size (suc i) values1 = record {
          place = put_same values r z ∙ z_is;
          none = put_other values r z (r + 1) (λ e. omega (arith, e)) ∙ counts.none;
          last = put_other values r z (r + 2) (λ e. omega (arith, e)) ∙ counts.last;
          one = put_other values r z (r + 3) (λ e. omega (arith, e)) ∙ counts.one;
        } in
        stay_runs c.codes c.f c.rest c.fits.labelled n goal Eq r (r + 2) (l + 1) (top + 1) values frame at_test (differ (values r) (values (r + 2)) (λ e. omega (arith, at, last, whole, e)))
        (goes c.codes n goal _ (here c (top + 1 + 1 + 1) values frame1) (does c.codes c.f c.rest (top + 1 + 1) values frame (Poke false (r + 1) r) at_poke)
        (bin_runs c.codes c.f c.rest c.fits.labelled n c.p c.types c.spots c.base goal Add r r (r + 3) (top + 1 + 1 + 1) values frame1 at_add
        (jump_runs c.codes c.f c.rest c.fits.labelled n goal l (top + 1 + 1 + 1 + 1) top values1 frame1 at_jump at_label
        (past_label c n goal l top values1 frame1 at_label
        (bytes_zero k (suc i) (slice_set bytes i 0) values1 frame1 (omega (arith, whole)) (longer ∙ long) zeros1 counts1
        (holds_put c.base c.p c.types c.spots (slice_set env x (slice_set bytes i 0)) values frame1 r z (omega arith) held1))))))
      where
        differ : (a b : ℕ) → a ≢ b → (a == b) ≡ false
        differ a b other = by (a == b) refl
          where
            by : (t : Bool) → (a == b) ≡ t → (a == b) ≡ false
            by false e = e
            by true e = absurd (other ((Decides-eqb a b).0 e))

  -- the setting of the loop
  frame_zero : (x o l pc end n : ℕ) (after : Locals → Behaviour) (env : Locals) (values frame : ℕ → ℕ) → x < length c.types → slice_get c.spots x ≡ Some (Frame o) →
      Stands (code c) pc (zero_bytes_code (size_at x) o r l) end → AreHeld c env values frame → GoesOn c n end after → Runs c.codes n (after (slice_set env x (bytes_of (size_at x) 0))) (here c pc values frame)
  frame_zero x o l pc end n after env values frame lt spot s h next =
      let goal : Behaviour = after (slice_set env x (bytes_of (size_at x) 0)) in
      let many = h.count in
      let inside : x < length env = omega (arith, lt, many) in
      let v1 : ℕ → ℕ = put values r o in
      let v2 : ℕ → ℕ = put v1 (r + 1) 0 in
      let v3 : ℕ → ℕ = put v2 (r + 2) (o + size_at x) in
      let v4 : ℕ → ℕ = put v3 (r + 3) 1 in
      let h1 = holds_put c.base c.p c.types c.spots env values frame r o (omega arith) h in
      let h2 = holds_put c.base c.p c.types c.spots env v1 frame (r + 1) 0 (omega arith) h1 in
      let h3 = holds_put c.base c.p c.types c.spots env v2 frame (r + 2) (o + size_at x) (omega arith) h2 in
      let h4 = holds_put c.base c.p c.types c.spots env v3 frame (r + 3) 1 (omega arith) h3 in
      let counts : Counts o (size_at x) 0 v4 = record {
        place = put_other v3 (r + 3) 1 r (λ e. omega (arith, e)) ∙ put_other v2 (r + 2) (o + size_at x) r (λ e. omega (arith, e)) ∙ put_other v1 (r + 1) 0 r (λ e. omega (arith, e))
            ∙ put_same values r o ∙ (let q : o ≡ o + 0 = omega arith in q);
        none = put_other v3 (r + 3) 1 (r + 1) (λ e. omega (arith, e)) ∙ put_other v2 (r + 2) (o + size_at x) (r + 1) (λ e. omega (arith, e)) ∙ put_same v1 (r + 1) 0;
        last = put_other v3 (r + 3) 1 (r + 2) (λ e. omega (arith, e)) ∙ put_same v2 (r + 2) (o + size_at x);
        one = put_same v3 (r + 3) 1;
      } in
      let top : ℕ = pc + 1 + 1 + 1 + 1 in
      let t = s.1.1.1.1 in
      sets n goal r o pc values frame s.0
      (sets n goal (r + 1) 0 (pc + 1) v1 frame s.1.0
      (sets n goal (r + 2) (o + size_at x) (pc + 1 + 1) v2 frame s.1.1.0
      (sets n goal (r + 3) 1 (pc + 1 + 1 + 1) v3 frame s.1.1.1.0
      (past_label c n goal l top v4 frame t.0
      (bytes_zero x o lt spot env inside l top end n after t.0 t.1.0 t.1.1.0 t.1.1.1.0 t.1.1.1.1.0 t.1.1.1.1.1.0 t.1.1.1.1.1.1 next
      (size_at x) 0 (slice_index_or env x []) v4 frame (omega arith) (h.bytes x lt).length_is (λ j below. absurd (omega (arith, below))) counts
      (subst (λ e. AreHeld c e v4 frame) (sym (set_to_itself env x inside)) h4))))))

  by_spot : (spot : Option Spot) (x l pc end n : ℕ) (after : Locals → Behaviour) (env : Locals) (values frame : ℕ → ℕ) → x < length c.types → slice_get c.spots x ≡ spot →
      Stands (code c) pc (zero_local_code spot (type_at x) (size_at x) r l) end → AreHeld c env values frame → GoesOn c n end after → Runs c.codes n (after (slice_set env x (bytes_of (size_at x) 0))) (here c pc values frame)
  by_spot None x l pc end n after env values frame lt spot s h next =
      absurd (subst (λ o. LocalIsHeld c.base o (type_at x) (size_at x) (slice_index_or env x []) values frame) spot (h.at x lt))
  by_spot (Some (Values regs)) x l pc end n after env values frame lt spot s h next = regs_zero x regs lt spot env values frame h (is_wide (number_of (type_at x))) pc end n after refl s next
  by_spot (Some (Frame o)) x l pc end n after env values frame lt spot s h next = frame_zero x o l pc end n after env values frame lt spot s h next

  pub clear_runs : (x l pc end : ℕ) → x < length c.types → Stands (code c) pc (clear_code c.p c.types c.checks c.spots c.base x l) end → StepsIt c pc end (zeroed x)
  clear_runs x l pc end lt s = record { by = λ n after env values frame few h next. by_spot (slice_get c.spots x) x l pc end n after env values frame lt refl s h next }
