-- The bytes of what selection makes of an instruction, where all values lie in the frame.
use Rattle.std.proofs.Common.{◌≡◌, ℕ, zero, suc, ◌+◌, ◌*◌, ◌/◌, ◌≤◌, Bool, true, false, List, [], ◌∷◌, ◌++◌, length, nat_lt, refl, arith}
use Rattle.std.specs.Prelude.{◌==◌, if◌then◌else◌}
use Rattle.std.proofs.lemmas.Bool.Decides.{nat_tests}
use Rattle.std.proofs.lemmas.List.Sums.{sum_by-cons}
use Rattle.msp_isa.specs.declared.code.Item.TheVariants as item
use Rattle.msp_isa.specs.Encode.{encoded}
use Rattle.msp_isa.specs.declared.instr.Instr.TheVariants as instr
use Rattle.msp_isa.specs.declared.instr.Op2.TheVariants as op2
use Rattle.msp_isa.specs.declared.instr.Operand.TheVariants.{Reg}
use Rattle.mid_code.specs.declared.code.MidCode.{MidCode}
use Rattle.mid_code.specs.declared.instr.Op.TheVariants as op
use Rattle.mid_code.specs.declared.instr.Test.TheVariants as test
use Rattle.mid_code.specs.declared.instr.Mid.{Mid}
use Rattle.mid_code.specs.declared.instr.Mid.TheVariants.{Set, Move, Bin, Carry, Load, Store, Peek, Poke, In, Out, Label, Jump, Branch, Call, Help, Ret, Begin, End, Post, Tick, Fault}
use Rattle.mid_code.specs.Machine.{fn_of}
use Rattle.open_law.specs.Homes.{Home, InFrame, Made, Number, Of, at_home, is_made, literal, operand_of}
use Rattle.msp_select.specs.Frames.{count_pushed, is_among, pushed}
use Rattle.msp_select.specs.Select.{Part, entry_of, gives, items_of, moving, operator, parts_of, parts_of_all, plain, pushes, raised, return, routine_of, scratch, takes, two, value, zero_loop, zeros}
use Rattle.code_bytes.specs.Bytes.{most_bytes, most_in}
use Rattle.body_bytes.proofs.Costs.{bin_cost, cost, costs, set_cost}

abbrev pub bytes : List Part → ℕ
bytes [] = 0
bytes (q ∷ qs) = most_bytes q.item + bytes qs

pub bytes_are : (qs : List Part) → most_in (items_of qs) ≡ bytes qs
bytes_are [] = omega arith
bytes_are (q ∷ qs) = let h = bytes_are qs in let e = sum_by-cons most_bytes q.item (items_of qs) in omega (arith, h, e)

pub bytes_both : (a b : List Part) → bytes (a ++ b) ≡ bytes a + bytes b
bytes_both [] b = omega arith
bytes_both (q ∷ a) b = let h = bytes_both a b in omega (arith, h)

-- ---- SP, pushes and moves

raised_few : (n : ℕ) → bytes (raised n) ≤ 4
raised_few n = by (n == 0)
  where
    with : (b : Bool) → 2 * length (encoded (instr.Two op2.Add false (operand_of (if b then Made n else Number n)) (Reg 1))) + 0 ≤ 4
    with true = omega arith
    with false = omega arith

    by : (b : Bool) → bytes (if b then [] else plain (instr.Two op2.Add false (operand_of (literal n)) (Reg 1)) ∷ []) ≤ 4
    by true = omega arith
    by false = with (is_made n)

pushed_few : (params ins : List ℕ) → length (pushed params ins) ≤ length ins
pushed_few [] ins = omega arith
pushed_few (p ∷ params) [] = omega arith
pushed_few (p ∷ params) (x ∷ ins) = by (is_among params p) (pushed_few params ins)
  where
    by : (b : Bool) → length (pushed params ins) ≤ length ins → length (if b then pushed params ins else x ∷ pushed params ins) ≤ suc (length ins)
    by true h = omega (arith, h)
    by false h = omega (arith, h)

module _ (c : MidCode) (place : ℕ → ℕ) (own : ℕ) where
  abbrev home : ℕ → Home
  home v = InFrame (place v)

  abbrev of : Mid → List Part
  of i = parts_of c home own i

  pushes_bytes : (k : ℕ) (xs : List ℕ) → bytes (pushes c home own k xs) ≡ 4 * length xs
  pushes_bytes k [] = omega arith
  pushes_bytes k (x ∷ xs) = let h = pushes_bytes (suc k) xs in omega (arith, h)

  gives_bytes : (r : ℕ) (xs : List ℕ) → bytes (gives c home own r xs) ≡ 4 * length xs
  gives_bytes r [] = omega arith
  gives_bytes r (x ∷ xs) = let h = gives_bytes (suc r) xs in omega (arith, h)

  takes_bytes : (r : ℕ) (xs : List ℕ) → bytes (takes c home own r xs) ≡ 4 * length xs
  takes_bytes r [] = omega arith
  takes_bytes r (x ∷ xs) = let h = takes_bytes (suc r) xs in omega (arith, h)

  set_bytes : (v n : ℕ) (b : Bool) → 2 * length (encoded (instr.Two op2.Mov false (operand_of (if b then Made n else Number n)) (at_home (home v)))) + 0 ≤ set_cost b
  set_bytes v n true = omega arith
  set_bytes v n false = omega arith

  -- ---- instructions

  pub part_bytes : (i : Mid) → bytes (of i) ≤ cost i
  part_bytes (Set v n) = set_bytes v n (is_made n)
  part_bytes (Move v x) = omega arith
  part_bytes (Bin o v x y) = by (v == x)
    where
      by : (b : Bool) → bytes (if b then two (operator o) (value c home own y) (home v) ∷ [] else moving (value c home own x) scratch ∷ two (operator o) (value c home own y) scratch ∷ moving (Of scratch) (home v) ∷ []) ≤ bin_cost b
      by true = omega arith
      by false = omega arith
  part_bytes (Carry op.Add v x y) = omega arith
  part_bytes (Carry op.Sub v x y) = omega arith
  part_bytes (Carry op.And v x y) = omega arith
  part_bytes (Carry op.Or v x y) = omega arith
  part_bytes (Carry op.Xor v x y) = omega arith
  part_bytes (Load true v x) = omega arith
  part_bytes (Load false v x) = omega arith
  part_bytes (Store true v x) = omega arith
  part_bytes (Store false v x) = omega arith
  part_bytes (Peek true v x) = omega arith
  part_bytes (Peek false v x) = omega arith
  part_bytes (Poke true v x) = omega arith
  part_bytes (Poke false v x) = omega arith
  part_bytes (In v port) = omega arith
  part_bytes (Out port v) = omega arith
  part_bytes (Label l) = omega arith
  part_bytes (Jump l) = omega arith
  part_bytes (Branch test.Eq x y l) = omega arith
  part_bytes (Branch test.Ne x y l) = omega arith
  part_bytes (Branch test.Lt x y l) = omega arith
  part_bytes (Branch test.Le x y l) = omega arith
  part_bytes (Branch test.LtU x y l) = omega arith
  part_bytes (Branch test.LeU x y l) = omega arith
  part_bytes (Call g ins outs) =
      let params : List ℕ = (fn_of c g).params in
      let rest : List Part = raised (2 * count_pushed params) ++ takes c home own 12 outs in
      let e1 = bytes_both (pushes c home own 0 (pushed params ins)) (record { silent = []; item = item.CallFn g } ∷ rest) in
      let e2 = bytes_both (raised (2 * count_pushed params)) (takes c home own 12 outs) in
      let h1 = pushes_bytes 0 (pushed params ins) in
      let h2 = raised_few (2 * count_pushed params) in
      let h3 = takes_bytes 12 outs in
      let h4 = pushed_few params ins in
      omega (arith, e1, e2, h1, h2, h3, h4)
  part_bytes (Help h ins outs) =
      let e = bytes_both (gives c home own 12 ins) (record { silent = []; item = item.CallFn (routine_of (length c.fns) h) } ∷ takes c home own 12 outs) in
      let h1 = gives_bytes 12 ins in
      let h2 = takes_bytes 12 outs in
      omega (arith, e, h1, h2)
  part_bytes (Ret vs) =
      let e1 = bytes_both (gives c home own 12 vs) (raised own ++ return ∷ []) in
      let e2 = bytes_both (raised own) (return ∷ []) in
      let h1 = gives_bytes 12 vs in
      let h2 = raised_few own in
      omega (arith, e1, e2, h1, h2)
  part_bytes (Begin o) = omega arith
  part_bytes (End o) = omega arith
  part_bytes (Post k v) = omega arith
  part_bytes Tick = omega arith
  part_bytes (Fault code) = omega arith

  pub all_bytes : (is : List Mid) → bytes (parts_of_all c home own is) ≤ costs is
  all_bytes [] = omega arith
  all_bytes (i ∷ is) = let e = bytes_both (of i) (parts_of_all c home own is) in let h = part_bytes i in let g = all_bytes is in omega (arith, e, h, g)

-- ---- the entry of a function

zeros_bytes : (n : ℕ) → bytes (zeros n) ≡ 2 * n
zeros_bytes zero = omega arith
zeros_bytes (suc n) = let h = zeros_bytes n in omega (arith, h)

loop_bytes : (n : ℕ) → bytes (zero_loop n) ≤ 10
loop_bytes n = by (is_made n)
  where
    by : (b : Bool) → 2 * length (encoded (instr.Two op2.Mov false (operand_of (if b then Made n else Number n)) (Reg 12))) + 6 ≤ 10
    by true = omega arith
    by false = omega arith

pub entry_bytes : (own : ℕ) → bytes (entry_of own) ≤ 10
entry_bytes own = by (nat_lt (own / 2) 6) few
  where
    few : nat_lt (own / 2) 6 ≡ true → own / 2 ≤ 5
    few h = grind (arith, nat_tests)

    by : (b : Bool) → (b ≡ true → own / 2 ≤ 5) → bytes (if b then zeros (own / 2) else zero_loop (own / 2)) ≤ 10
    by true h = let e = zeros_bytes (own / 2) in let g = h refl in omega (arith, e, g)
    by false h = loop_bytes (own / 2)
