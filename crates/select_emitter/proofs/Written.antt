-- The items of selected functions are written forms.
use Rattle.std.proofs.Common.{◌≡◌, ◌≢◌, ◌⊎◌, ℕ, zero, suc, ◌+◌, ◌*◌, ◌/◌, ◌<◌, ◌≤◌, ◌==◌, ◌||◌, Bool, true, false, cond, nat_lt, List, [], ◌∷◌, ◌++◌, length, refl, arith}
use mathlib.Core.Logic.{inl, inr}
use Rattle.std.specs.List.{AllByRecursion}
use Rattle.std.proofs.lemmas.Bool.{or_cases}
use Rattle.std.proofs.lemmas.Bool.Decides.{eqb_tells}
use Rattle.std.proofs.lemmas.List.Elements.{All-from_recursion, recursion_from_All}
use Rattle.msp_isa.specs.declared.code.Item.TheVariants as item
use Rattle.msp_isa.specs.declared.instr.Instr.TheVariants as instr
use Rattle.msp_isa.specs.declared.instr.Op2.TheVariants as op2
use Rattle.msp_isa.specs.declared.instr.Operand.TheVariants.{Reg}
use Rattle.msp_isa.specs.Encode.{IsBase, IsConstant, IsSource, IsWritten}
use Rattle.mid_code.specs.declared.code.MidCode.{MidCode}
use Rattle.mid_code.specs.declared.code.MidFn.{MidFn}
use Rattle.mid_code.specs.declared.instr.Mid.{Mid}
use Rattle.mid_code.specs.declared.instr.Mid.TheVariants.{Set, Move, Bin, Carry, Load, Store, Peek, Poke, In, Out, Label, Jump, Branch, Call, Help, Ret, Begin, End, Post, Tick, Fault}
use Rattle.mid_code.specs.declared.instr.Op.TheVariants as op
use Rattle.mid_code.specs.Machine.{fn_of}
use Rattle.open_law.specs.Homes.{Made, Number, Of, is_made, literal, operand_of}
use Rattle.msp_select.specs.Frames.{count_pushed, frame_home, own_bytes, pushed}
use Rattle.msp_select.specs.Select.{Part, entry_of, fetched, gives, is_turned, items_of, moving, operator, parts_of, parts_of_all, plain, pushes, raised, return, scratch, stored, taken_by, takes, two, zero_loop, zeros}
use Rattle.select_emitter.specs.Laws.{IsWrittenItem, ItemsAreWritten}
use Rattle.select_emitter.specs.Scoped.{Fits}
use Rattle.select_emitter.proofs.Fitting.{code_fits}

abbrev Written : List Part → Type 0
Written ps = AllByRecursion IsWrittenItem (items_of ps)

on : (xs ys : List Part) → Written xs → Written ys → Written (xs ++ ys)
on [] ys x y = y
on (p ∷ xs) ys x y = (x.0, on xs ys x.1 y)

pub sp_base : IsBase 1
sp_base = (omega arith, (λ e. omega (arith, e)), (λ e. omega (arith, e)))

scratch_base : IsBase 12
scratch_base = (omega arith, (λ e. omega (arith, e)), (λ e. omega (arith, e)))

register : (r : ℕ) → 12 ≤ r → r < 16 → IsSource (Reg r)
register r lo hi = (hi, λ e. omega (arith, e, lo))

scratch_source : IsSource (Reg 12)
scratch_source = register 12 (omega arith) (omega arith)

-- ---- numbers

same : (n v : ℕ) → (n == v) ≡ true → n ≡ v
same n v e = by (eqb_tells n v)
  where
    by : (((n == v) ≡ true) × (n ≡ v)) ⊎ (((n == v) ≡ false) × (n ≢ v)) → n ≡ v
    by (inl t) = t.1
    by (inr t) = absurd (let a = t.0 in let z : ⊥ = cc in z)

pub made : (n : ℕ) → is_made n ≡ true → IsConstant n
made n e = by5 (or_cases ((n == 0) || (n == 1) || (n == 2) || (n == 4) || (n == 8)) (n == 0xFFFF) e)
  where
    by1 : ((n == 0) ≡ true) ⊎ ((n == 1) ≡ true) → IsConstant n
    by1 (inl t) = inl (inl (same n 0 t))
    by1 (inr t) = inl (inr (same n 1 t))

    by2 : (((n == 0) || (n == 1)) ≡ true) ⊎ ((n == 2) ≡ true) → IsConstant n
    by2 (inl t) = by1 (or_cases (n == 0) (n == 1) t)
    by2 (inr t) = inr (inl (inl (same n 2 t)))

    by3 : (((n == 0) || (n == 1) || (n == 2)) ≡ true) ⊎ ((n == 4) ≡ true) → IsConstant n
    by3 (inl t) = by2 (or_cases ((n == 0) || (n == 1)) (n == 2) t)
    by3 (inr t) = inr (inl (inr (same n 4 t)))

    by4 : (((n == 0) || (n == 1) || (n == 2) || (n == 4)) ≡ true) ⊎ ((n == 8) ≡ true) → IsConstant n
    by4 (inl t) = by3 (or_cases ((n == 0) || (n == 1) || (n == 2)) (n == 4) t)
    by4 (inr t) = inr (inr (inl (same n 8 t)))

    by5 : (((n == 0) || (n == 1) || (n == 2) || (n == 4) || (n == 8)) ≡ true) ⊎ ((n == 0xFFFF) ≡ true) → IsConstant n
    by5 (inl t) = by4 (or_cases ((n == 0) || (n == 1) || (n == 2) || (n == 4)) (n == 8) t)
    by5 (inr t) = inr (inr (inr (same n 0xFFFF t)))

pub literal_source : (n : ℕ) → IsSource (operand_of (literal n))
literal_source n = by (is_made n) (made n)
  where
    by : (b : Bool) → (b ≡ true → IsConstant n) → IsSource (operand_of (cond b (Made n) (Number n)))
    by true m = m refl
    by false m = _

zero_source : IsConstant 0
zero_source = inl (inl refl)

one_source : IsConstant 1
one_source = inl (inr refl)

pub eight_source : IsConstant 8
eight_source = inr (inr (inl refl))

zeros_written : (n : ℕ) → Written (zeros n)
zeros_written zero = tt
zeros_written (suc n) = ((zero_source, refl), zeros_written n)

entry_written : (own : ℕ) → Written (entry_of own)
entry_written own = by (nat_lt (own / 2) 6)
  where
    by : (b : Bool) → Written (cond b (zeros (own / 2)) (zero_loop (own / 2)))
    by true = zeros_written (own / 2)
    by false = ((literal_source (own / 2), omega arith), ((zero_source, refl), ((one_source, omega arith), ((omega arith, omega arith), tt))))

raised_written : (n : ℕ) → Written (raised n)
raised_written n = by (n == 0)
  where
    by : (b : Bool) → Written (cond b [] (plain (instr.Two op2.Add false (operand_of (literal n)) (Reg 1)) ∷ []))
    by true = tt
    by false = ((literal_source n, omega arith), tt)

module _ (c : MidCode) (fn : MidFn) (own : ℕ) where
  pushes_written : (k : ℕ) (xs : List ℕ) → Written (pushes c (frame_home fn) own k xs)
  pushes_written k [] = tt
  pushes_written k (x ∷ xs) = ((sp_base, refl), pushes_written (suc k) xs)

  gives_written : (r : ℕ) (xs : List ℕ) → 12 ≤ r → r + length xs ≤ 16 → Written (gives c (frame_home fn) own r xs)
  gives_written r [] lo hi = tt
  gives_written r (x ∷ xs) lo hi = ((sp_base, omega (arith, hi)), gives_written (suc r) xs (omega (arith, lo)) (omega (arith, hi)))

  takes_written : (r : ℕ) (xs : List ℕ) → 12 ≤ r → r + length xs ≤ 16 → Written (takes c (frame_home fn) own r xs)
  takes_written r [] lo hi = tt
  takes_written r (x ∷ xs) lo hi = ((register r lo (omega (arith, hi)), sp_base), takes_written (suc r) xs (omega (arith, lo)) (omega (arith, hi)))

  fetched_written : (w : Bool) (v : ℕ) → Written (fetched c (frame_home fn) own w v)
  fetched_written true v = ((scratch_base, sp_base), tt)
  fetched_written false v = ((scratch_base, omega arith), ((scratch_source, sp_base), tt))

  stored_written : (w : Bool) (v : ℕ) → Written (stored c (frame_home fn) own w v)
  stored_written true v = ((sp_base, scratch_base), tt)
  stored_written false v = ((sp_base, scratch_base), tt)

  to_scratch : (x : ℕ) → IsWritten (instr.Two op2.Mov false (operand_of (Of (frame_home fn x))) (Reg 12))
  to_scratch x = (sp_base, omega arith)

  one_written : (i : Mid) → Fits c fn.values i → Written (parts_of c (frame_home fn) own i)
  one_written (Set v n) f = ((literal_source n, sp_base), tt)
  one_written (Move v x) f = ((sp_base, sp_base), tt)
  one_written (Bin o v x y) f = by (v == x)
    where
      by : (b : Bool) → Written (cond b (two (operator o) (Of (frame_home fn y)) (frame_home fn v) ∷ []) (moving (Of (frame_home fn x)) scratch ∷ two (operator o) (Of (frame_home fn y)) scratch ∷ moving (Of scratch) (frame_home fn v) ∷ []))
      by true = ((sp_base, sp_base), tt)
      by false = (to_scratch x, ((sp_base, omega arith), ((scratch_source, sp_base), tt)))
  one_written (Carry op.Add v x y) f = (to_scratch x, ((sp_base, omega arith), ((zero_source, omega arith), ((zero_source, omega arith), ((scratch_source, sp_base), tt)))))
  one_written (Carry op.Sub v x y) f = ((sp_base, sp_base), ((zero_source, omega arith), ((zero_source, omega arith), ((one_source, omega arith), ((scratch_source, sp_base), tt)))))
  one_written (Carry op.And v x y) f = ((zero_source, sp_base), tt)
  one_written (Carry op.Or v x y) f = ((zero_source, sp_base), tt)
  one_written (Carry op.Xor v x y) f = ((zero_source, sp_base), tt)
  one_written (Load w v x) f = (to_scratch x, fetched_written w v)
  one_written (Store w v x) f = (to_scratch x, stored_written w v)
  one_written (Peek w v x) f = (to_scratch x, (((omega arith, λ e. omega (arith, e)), omega arith), fetched_written w v))
  one_written (Poke w v x) f = (to_scratch x, (((omega arith, λ e. omega (arith, e)), omega arith), stored_written w v))
  one_written (In v port) f = ((tt, sp_base), tt)
  one_written (Out port v) f = ((sp_base, tt), tt)
  one_written (Label l) f = (tt, tt)
  one_written (Jump l) f = (tt, tt)
  one_written (Branch t x y l) f = by (is_turned t)
    where
      by : (b : Bool) → AllByRecursion IsWrittenItem ((cond b (two op2.Cmp (Of (frame_home fn x)) (frame_home fn y)) (two op2.Cmp (Of (frame_home fn y)) (frame_home fn x))).item ∷ item.Jump (taken_by t) l ∷ [])
      by true = ((sp_base, sp_base), (tt, tt))
      by false = ((sp_base, sp_base), (tt, tt))
  one_written (Call g ins outs) f =
      let few = f.3 in
      on (pushes c (frame_home fn) own 0 (pushed (fn_of c g).params ins)) _ (pushes_written 0 (pushed (fn_of c g).params ins))
      (tt, on (raised (2 * count_pushed (fn_of c g).params)) (takes c (frame_home fn) own 12 outs) (raised_written (2 * count_pushed (fn_of c g).params)) (takes_written 12 outs (omega arith) (omega (arith, few))))
  one_written (Help h ins outs) f =
      let few = f.3 in let few' = f.4 in
      on (gives c (frame_home fn) own 12 ins) _ (gives_written 12 ins (omega arith) (omega (arith, few))) (tt, takes_written 12 outs (omega arith) (omega (arith, few')))
  one_written (Ret vs) f =
      let few = f.1 in
      on (gives c (frame_home fn) own 12 vs) (raised own ++ return ∷ []) (gives_written 12 vs (omega arith) (omega (arith, few))) (on (raised own) (return ∷ []) (raised_written own) (((sp_base, λ e. omega (arith, e)), omega arith), tt))
  one_written (Begin o) f = (((omega arith, λ e. omega (arith, e)), sp_base), ((eight_source, omega arith), ((zero_source, omega arith), tt)))
  one_written (End o) f = ((sp_base, omega arith), tt)
  one_written (Post k v) f = tt
  one_written Tick f = ((zero_source, omega arith), tt)
  one_written (Fault n) f = ((tt, tt), tt)

  all_written : (is : List Mid) → AllByRecursion (Fits c fn.values) is → Written (parts_of_all c (frame_home fn) own is)
  all_written [] f = tt
  all_written (i ∷ is) f = on (parts_of c (frame_home fn) own i) (parts_of_all c (frame_home fn) own is) (one_written i f.0) (all_written is f.1)

pub items_are_written : ItemsAreWritten
items_are_written c can f lt =
    let fn = fn_of c f in
    let own = own_bytes fn in
    All-from_recursion IsWrittenItem _ (on (entry_of own) (parts_of_all c (frame_home fn) own fn.code) (entry_written own) (all_written c fn own fn.code (recursion_from_All (Fits c fn.values) fn.code (code_fits c can f lt))))
