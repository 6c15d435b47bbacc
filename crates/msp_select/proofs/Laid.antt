-- Selected code stands where it is laid out.
use Rattle.std.proofs.Common.{◌≡◌, ◌≢◌, ◌⊎◌, ℕ, zero, suc, ◌+◌, ◌*◌, ◌/◌, ◌%◌, ◌<◌, ◌≤◌, ◌==◌, Bool, true, false, List, [], ◌∷◌, ◌++◌, length, length-append, Some, All, refl, sym, ap, ◌∙◌, subst, arith}
use mathlib.Core.Logic.{inl, inr}
use Rattle.std.specs.Prelude.{slice_get, if◌then◌else◌, nat_lt}
use Rattle.std.proofs.lemmas.Bool.Decides.{eqb_tells}
use Rattle.nm_base.specs.declared.action.Action.{Action}
use Rattle.msp_isa.specs.declared.code.CodeFn.{CodeFn}
use Rattle.msp_isa.specs.declared.code.Item.{Item}
use Rattle.msp_isa.specs.declared.code.Item.TheVariants as item
use Rattle.msp_isa.specs.declared.instr.Instr.{Instr}
use Rattle.msp_isa.specs.Encode.{encoded}
use Rattle.msp_isa.specs.Stands.{AreAt, IsLaid, LeadsTo, instructions, item_at, items_of}
use Rattle.msp430_cpu.specs.Cpu.{even}
use Rattle.mid_code.specs.declared.code.MidCode.{MidCode}
use Rattle.mid_code.specs.declared.instr.Mid.{Mid}
use Rattle.mid_code.specs.declared.instr.Mid.TheVariants.{Set, Move, Bin, Carry, Load, Store, Peek, Poke, In, Out, Label, Jump, Branch, Call, Help, Ret, Begin, End, Post, Tick, Fault}
use Rattle.mid_code.specs.declared.instr.Op.TheVariants as op
use Rattle.mid_code.specs.Form.{IsMidCode, NamesOwn, labels_named, one_more, times}
use Rattle.mid_code.specs.Machine.{fn_of, is_label, place_of}
use Rattle.mid_code.proofs.Calls.{own_form}
use Rattle.open_law.specs.Homes.{Home, InRegister, Of, literal, operand_of}
use Rattle.msp_isa.specs.declared.instr.Instr.TheVariants.{Two, One, Jump as JumpBy, Reti}
use Rattle.msp_isa.specs.declared.instr.Op2.TheVariants as op2
use Rattle.msp_isa.specs.declared.instr.Operand.TheVariants.{Reg, Indexed, Absolute, Indirect, Increment, Immediate, Constant}
use Rattle.msp_isa.specs.declared.instr.Operand.{Operand}
use Rattle.msp430_cpu.specs.Exec.{further}
use Rattle.msp_select.specs.Frames.{count_pushed, pushed}
use Rattle.msp_select.specs.Select.{Part, entry_of, fetched, gives, is_turned, moving, operator, parts_of, parts_of_all, plain, pushes, raised, stored, takes, two, zero_loop, zeros, items_of as items_of_parts}
use Rattle.msp_select.specs.Sound.{IsStanding, PartStands, PartsStand, target_of}
use Rattle.msp_select.specs.Laid.{AreMarked, LaidCodeStands, part_at, parts, parts_before, start_of}
use Rattle.msp_select.proofs.Kept.{all_get, there}
use Rattle.msp_select.proofs.Doing.{size_one, size_two}

-- ---- lists

nth_item : (ps : List Part) (k : ℕ) → item_at (items_of_parts ps) k ≡ (part_at ps k).item
nth_item [] k = refl
nth_item (p ∷ ps) zero = refl
nth_item (p ∷ ps) (suc k) = nth_item ps k

items_long : (ps : List Part) → length (items_of_parts ps) ≡ length ps
items_long [] = refl
items_long (p ∷ ps) = ap suc (items_long ps)

nth_right : (xs ys : List Part) (j : ℕ) → part_at (xs ++ ys) (length xs + j) ≡ part_at ys j
nth_right [] ys j = let e : 0 + j ≡ j = omega arith in ap (part_at ys) e
nth_right (x ∷ xs) ys j = let e : suc (length xs) + j ≡ suc (length xs + j) = omega arith in ap (part_at (x ∷ (xs ++ ys))) e ∙ nth_right xs ys j

nth_left : (xs ys : List Part) (j : ℕ) → j < length xs → part_at (xs ++ ys) j ≡ part_at xs j
nth_left [] ys j lt = absurd (omega (arith, lt))
nth_left (x ∷ xs) ys zero lt = refl
nth_left (x ∷ xs) ys (suc j) lt = nth_left xs ys j (omega (arith, lt))

-- ---- labels

label_is : (i : Mid) (l : ℕ) → is_label i l ≡ true → i ≡ Label l
label_is (Label k) l e = by (eqb_tells k l)
  where
    by : (((k == l) ≡ true) × (k ≡ l)) ⊎ (((k == l) ≡ false) × (k ≢ l)) → Label k ≡ Label l
    by (inl t) = ap Label t.1
    by (inr t) = absurd (let f = t.0 in let z : ⊥ = cc in z)
label_is (Set v n) l e = absurd (let z : ⊥ = cc in z)
label_is (Move v x) l e = absurd (let z : ⊥ = cc in z)
label_is (Bin o v x y) l e = absurd (let z : ⊥ = cc in z)
label_is (Carry o v x y) l e = absurd (let z : ⊥ = cc in z)
label_is (Load w v x) l e = absurd (let z : ⊥ = cc in z)
label_is (Store w v x) l e = absurd (let z : ⊥ = cc in z)
label_is (Peek w v x) l e = absurd (let z : ⊥ = cc in z)
label_is (Poke w v x) l e = absurd (let z : ⊥ = cc in z)
label_is (In v p) l e = absurd (let z : ⊥ = cc in z)
label_is (Out p v) l e = absurd (let z : ⊥ = cc in z)
label_is (Jump k) l e = absurd (let z : ⊥ = cc in z)
label_is (Branch t x y k) l e = absurd (let z : ⊥ = cc in z)
label_is (Call g xs ys) l e = absurd (let z : ⊥ = cc in z)
label_is (Help g xs ys) l e = absurd (let z : ⊥ = cc in z)
label_is (Ret vs) l e = absurd (let z : ⊥ = cc in z)
label_is (Begin o) l e = absurd (let z : ⊥ = cc in z)
label_is (End o) l e = absurd (let z : ⊥ = cc in z)
label_is (Post k v) l e = absurd (let z : ⊥ = cc in z)
label_is Tick l e = absurd (let z : ⊥ = cc in z)
label_is (Fault n) l e = absurd (let z : ⊥ = cc in z)

label_there : (is : List Mid) (l : ℕ) → 1 ≤ times l is → slice_get is (place_of is l) ≡ Some (Label l)
label_there [] l some = absurd (omega (arith, some))
label_there (i ∷ is) l some = by (label_there is l) (is_label i l) refl some
  where
    by : (1 ≤ times l is → slice_get is (place_of is l) ≡ Some (Label l)) → (b : Bool) → is_label i l ≡ b → 1 ≤ one_more b (times l is) → slice_get (i ∷ is) (place_of (i ∷ is) l) ≡ Some (Label l)
    by again true e s = ap (λ b. slice_get (i ∷ is) (if b then 0 else suc (place_of is l))) e ∙ ap Some (label_is i l e)
    by again false e s = ap (λ b. slice_get (i ∷ is) (if b then 0 else suc (place_of is l))) e ∙ again s

-- ---- a part jumps to labels of its instruction alone

abbrev JumpsTo : List ℕ → Item → Type 0
JumpsTo ls (item.Jump c l) = ls ≡ l ∷ []
JumpsTo ls _ = Unit {0}

abbrev AllJump : List ℕ → List Part → Type 0
AllJump ls [] = Unit {0}
AllJump ls (p ∷ ps) = JumpsTo ls p.item × AllJump ls ps

jump_on : (ls : List ℕ) (xs ys : List Part) → AllJump ls xs → AllJump ls ys → AllJump ls (xs ++ ys)
jump_on ls [] ys h k = k
jump_on ls (x ∷ xs) ys h k = (h.0, jump_on ls xs ys h.1 k)

jump_at : (ls : List ℕ) (ps : List Part) (j : ℕ) → j < length ps → AllJump ls ps → JumpsTo ls (part_at ps j).item
jump_at ls [] j lt h = absurd (omega (arith, lt))
jump_at ls (p ∷ ps) zero lt h = h.0
jump_at ls (p ∷ ps) (suc j) lt h = jump_at ls ps j (omega (arith, lt)) h.1

jump_raised : (ls : List ℕ) (n : ℕ) → AllJump ls (raised n)
jump_raised ls n = by (n == 0)
  where
    by : (b : Bool) → AllJump ls (if b then [] else plain (Two op2.Add false (operand_of (literal n)) (Reg 1)) ∷ [])
    by true = tt
    by false = (tt, tt)

jump_zeros : (ls : List ℕ) (n : ℕ) → AllJump ls (zeros n)
jump_zeros ls zero = tt
jump_zeros ls (suc n) = (tt, jump_zeros ls n)

jump_entry : (ls : List ℕ) (own : ℕ) → AllJump ls (entry_of own)
jump_entry ls own = by (nat_lt (own / 2) 6)
  where
    by : (b : Bool) → AllJump ls (if b then zeros (own / 2) else zero_loop (own / 2))
    by true = jump_zeros ls (own / 2)
    by false = (tt, (tt, (tt, (tt, tt))))

module _ (c : MidCode) (home : ℕ → Home) (own : ℕ) (ls : List ℕ) where
  jump_pushes : (k : ℕ) (xs : List ℕ) → AllJump ls (pushes c home own k xs)
  jump_pushes k [] = tt
  jump_pushes k (x ∷ xs) = (tt, jump_pushes (suc k) xs)

  jump_gives : (r : ℕ) (xs : List ℕ) → AllJump ls (gives c home own r xs)
  jump_gives r [] = tt
  jump_gives r (x ∷ xs) = (tt, jump_gives (suc r) xs)

  jump_takes : (r : ℕ) (xs : List ℕ) → AllJump ls (takes c home own r xs)
  jump_takes r [] = tt
  jump_takes r (x ∷ xs) = (tt, jump_takes (suc r) xs)

  jump_fetched : (w : Bool) (v : ℕ) → AllJump ls (fetched c home own w v)
  jump_fetched true v = (tt, tt)
  jump_fetched false v = (tt, (tt, tt))

  jump_stored : (w : Bool) (v : ℕ) → AllJump ls (stored c home own w v)
  jump_stored true v = (tt, tt)
  jump_stored false v = (tt, tt)

module _ (c : MidCode) (home : ℕ → Home) (own : ℕ) where
  jump_parts : (i : Mid) → AllJump (labels_named i) (parts_of c home own i)
  jump_parts (Set v n) = (tt, tt)
  jump_parts (Move v x) = (tt, tt)
  jump_parts (Bin o v x y) = by (v == x)
    where
      by : (b : Bool) → AllJump [] (if b then two (operator o) (Of (home y)) (home v) ∷ [] else moving (Of (home x)) (InRegister 12) ∷ two (operator o) (Of (home y)) (InRegister 12) ∷ moving (Of (InRegister 12)) (home v) ∷ [])
      by true = (tt, tt)
      by false = (tt, (tt, (tt, tt)))
  jump_parts (Carry op.Add v x y) = (tt, (tt, (tt, (tt, (tt, tt)))))
  jump_parts (Carry op.Sub v x y) = (tt, (tt, (tt, (tt, (tt, tt)))))
  jump_parts (Carry op.And v x y) = (tt, tt)
  jump_parts (Carry op.Or v x y) = (tt, tt)
  jump_parts (Carry op.Xor v x y) = (tt, tt)
  jump_parts (Load w v x) = (tt, jump_fetched c home own [] w v)
  jump_parts (Store w v x) = (tt, jump_stored c home own [] w v)
  jump_parts (Peek w v x) = (tt, (tt, jump_fetched c home own [] w v))
  jump_parts (Poke w v x) = (tt, (tt, jump_stored c home own [] w v))
  jump_parts (In v p) = (tt, tt)
  jump_parts (Out p v) = (tt, tt)
  jump_parts (Label l) = (tt, tt)
  jump_parts (Jump l) = (refl, tt)
  jump_parts (Branch t x y l) = (by (is_turned t), (refl, tt))
    where
      by : (b : Bool) → JumpsTo (l ∷ []) (if b then two op2.Cmp (Of (home x)) (home y) else two op2.Cmp (Of (home y)) (home x)).item
      by true = tt
      by false = tt
  jump_parts (Call g ins outs) = jump_on [] (pushes c home own 0 (pushed (fn_of c g).params ins)) _ (jump_pushes c home own [] 0 (pushed (fn_of c g).params ins)) (tt, jump_on [] (raised (2 * count_pushed (fn_of c g).params)) _ (jump_raised [] (2 * count_pushed (fn_of c g).params)) (jump_takes c home own [] 12 outs))
  jump_parts (Help k ins outs) = jump_on [] (gives c home own 12 ins) _ (jump_gives c home own [] 12 ins) (tt, jump_takes c home own [] 12 outs)
  jump_parts (Ret vs) = jump_on [] (gives c home own 12 vs) _ (jump_gives c home own [] 12 vs) (jump_on [] (raised own) _ (jump_raised [] own) (tt, tt))
  jump_parts (Begin o) = (tt, (tt, (tt, tt)))
  jump_parts (End o) = (tt, tt)
  jump_parts (Post k v) = tt
  jump_parts Tick = (tt, tt)
  jump_parts (Fault n) = (tt, tt)

-- ---- places

few_bytes : (o : Operand) → further o ≤ 2
few_bytes (Reg r) = omega arith
few_bytes (Indexed r x) = omega arith
few_bytes (Absolute x) = omega arith
few_bytes (Indirect r) = omega arith
few_bytes (Increment r) = omega arith
few_bytes (Immediate x) = omega arith
few_bytes (Constant x) = omega arith

module _ (code : MidCode) (homes : ℕ → ℕ → Home) (own : ℕ → ℕ) (f : ℕ) where
  abbrev mid_parts : Mid → List Part
  mid_parts i = parts_of code (homes f) (own f) i

  abbrev all_parts : List Mid → List Part
  all_parts is = parts_of_all code (homes f) (own f) is

  abbrev before : List Mid → ℕ → ℕ
  before is at = parts_before code homes own f is at

  some_is : (x y : Mid) → Some x ≡ Some y → x ≡ y
  some_is x y e = cc

  mid_nth : (is : List Mid) (at : ℕ) (i : Mid) → slice_get is at ≡ Some i → (j : ℕ) → j < length (mid_parts i) → part_at (all_parts is) (before is at + j) ≡ part_at (mid_parts i) j
  mid_nth [] at i e j lt = absurd (let z : ⊥ = cc in z)
  mid_nth (x ∷ is) zero i e j lt =
      let same = some_is x i e in
      let none : 0 + j ≡ j = omega arith in
      ap (part_at (all_parts (x ∷ is))) none ∙ ap (λ y. part_at (mid_parts y ++ all_parts is) j) same ∙ nth_left (mid_parts i) (all_parts is) j lt
  mid_nth (x ∷ is) (suc at) i e j lt =
      let sum : length (mid_parts x) + before is at + j ≡ length (mid_parts x) + (before is at + j) = omega arith in
      ap (part_at (all_parts (x ∷ is))) sum ∙ nth_right (mid_parts x) (all_parts is) (before is at + j) ∙ mid_nth is at i e j lt

  mid_low : (is : List Mid) (at : ℕ) (i : Mid) → slice_get is at ≡ Some i → before is at + length (mid_parts i) ≤ length (all_parts is)
  mid_low [] at i e = absurd (let z : ⊥ = cc in z)
  mid_low (x ∷ is) zero i e =
      let same = some_is x i e in
      let long : length (all_parts (x ∷ is)) ≡ length (mid_parts x) + length (all_parts is) = length-append (mid_parts x) (all_parts is) in
      let l : length (mid_parts x) ≡ length (mid_parts i) = ap (λ y. length (mid_parts y)) same in
      omega (arith, long, l)
  mid_low (x ∷ is) (suc at) i e =
      let h = mid_low is at i e in
      let long : length (all_parts (x ∷ is)) ≡ length (mid_parts x) + length (all_parts is) = length-append (mid_parts x) (all_parts is) in
      omega (arith, long, h)

  mid_next : (is : List Mid) (at : ℕ) (i : Mid) → slice_get is at ≡ Some i → before is (suc at) ≡ before is at + length (mid_parts i)
  mid_next [] at i e = absurd (let z : ⊥ = cc in z)
  mid_next (x ∷ is) zero i e = let l : length (mid_parts x) ≡ length (mid_parts i) = ap (λ y. length (mid_parts y)) (some_is x i e) in let z : before is 0 ≡ 0 = refl in omega (arith, l, z)
  mid_next (x ∷ is) (suc at) i e = let h = mid_next is at i e in omega (arith, h)

module _ (image : ℕ → ℕ) (marks : ℕ → List Action) (entries labels : ℕ → ℕ) where
  stand_list : (places : ℕ → ℕ) (ps : List Part) (k : ℕ) → ((j : ℕ) → j < length ps → PartStands image marks entries labels (places (k + j)) (part_at ps j) (places (k + j + 1))) → PartsStand image marks entries labels (places k) ps (places (k + length ps))
  stand_list places [] k each = let e : k ≡ k + 0 = omega arith in ap places e
  stand_list places (p ∷ ps) k each =
      let here : k + 0 ≡ k = omega arith in
      let next : k + 0 + 1 ≡ suc k = omega arith in
      let end : suc k + length ps ≡ k + suc (length ps) = omega arith in
      let first = subst (λ m. PartStands image marks entries labels (places (k + 0)) p (places m)) next (each 0 (omega arith)) in (
        places (suc k),
        subst (λ m. PartStands image marks entries labels (places m) p (places (suc k))) here first,
        subst (λ m. PartsStand image marks entries labels (places (suc k)) ps (places m)) end
            (stand_list places ps (suc k) (λ j lt.
            let a : k + suc j ≡ suc k + j = omega arith in
            let b : k + suc j + 1 ≡ suc k + j + 1 = omega arith in
            subst (λ m. PartStands image marks entries labels (places m) (part_at ps j) (places (suc k + j + 1))) a
            (subst (λ m. PartStands image marks entries labels (places (k + suc j)) (part_at ps j) (places m)) b (each (suc j) (omega (arith, lt)))))),
      )

  -- ---- even places of the code

  short_two : (i : Instr) → 2 * length (encoded i) ≤ 6
  short_two (Two o byte s d) = let e = size_two o byte s d in let a = few_bytes s in let b = few_bytes d in omega (arith, e, a, b)
  short_two (One o byte s) = let e = size_one o byte s in let a = few_bytes s in omega (arith, e, a)
  short_two (JumpBy c k) = omega arith
  short_two Reti = omega arith

  at_even : (is : List Instr) (pc end : ℕ) → pc % 2 ≡ 0 → AreAt image pc is end → end % 2 ≡ 0
  at_even [] pc end ev h = ap (λ n. n % 2) (sym h) ∙ ev
  at_even (i ∷ is) pc end ev h = at_even is (pc + 2 * length (encoded i)) end (omega (arith, ev)) h.1

  at_small : (is : List Instr) (pc end : ℕ) → pc < 0x10000 → AreAt image pc is end → end < 0x10000
  at_small [] pc end lt h = subst (λ n. n < 0x10000) h lt
  at_small (i ∷ is) pc end lt h = at_small is (pc + 2 * length (encoded i)) end (let hi = h.0.high in let s = short_two i in omega (arith, hi, s)) h.1

  parts_even : (ps : List Part) (pc end : ℕ) → pc % 2 ≡ 0 → PartsStand image marks entries labels pc ps end → end % 2 ≡ 0
  parts_even [] pc end ev h = ap (λ n. n % 2) (sym h) ∙ ev
  parts_even (p ∷ ps) pc end ev h = parts_even ps h.0 end (at_even (instructions entries h.1.long pc (target_of labels p.item) p.item) pc h.0 ev h.1.at) h.2

  parts_small : (ps : List Part) (pc end : ℕ) → pc < 0x10000 → PartsStand image marks entries labels pc ps end → end < 0x10000
  parts_small [] pc end lt h = subst (λ n. n < 0x10000) h lt
  parts_small (p ∷ ps) pc end lt h = parts_small ps h.0 end (at_small (instructions entries h.1.long pc (target_of labels p.item) p.item) pc h.0 lt h.1.at) h.2

module _ (code : MidCode) (homes : ℕ → ℕ → Home) (own deep : ℕ → ℕ) (image : ℕ → ℕ) (marks : ℕ → List Action) (entries : ℕ → ℕ) (out : List CodeFn) (laid : IsLaid image out entries) (form : IsMidCode code) (many : length code.fns ≤ length out)
    (same : (f : ℕ) → f < length code.fns → items_of out f ≡ items_of_parts (parts code homes own f)) (even_entry : (f : ℕ) → f < length code.fns → even (entries f) ≡ entries f) (small_entry : (f : ℕ) → f < length code.fns → entries f < 0x10000) (marked : AreMarked code homes own marks laid.places) where
  module _ (f : ℕ) (lf : f < length code.fns) where
    abbrev place : ℕ → ℕ
    place k = laid.places f k

    abbrev start : ℕ → ℕ
    start at = start_of code homes own f at

    abbrev is : List Mid
    is = (fn_of code f).code

    abbrev labels : ℕ → ℕ
    labels l = place (start (place_of is l))

    abbrev all : List Part
    all = parts code homes own f

    item_is : (k : ℕ) → item_at (items_of out f) k ≡ (part_at all k).item
    item_is k = ap (λ l. item_at l k) (same f lf) ∙ nth_item all k

    long_all : length (items_of out f) ≡ length all
    long_all = ap length (same f lf) ∙ items_long all

    -- where an item leads
    record Leads (it : Item) : Type 0 where
      t : ℕ
      leads : LeadsTo (items_of out f) it t
      instrs : (long : Bool) (pc : ℕ) → instructions entries long pc (place t) it ≡ instructions entries long pc (target_of labels it) it

    leads_of : (ls : List ℕ) (it : Item) → JumpsTo ls it → ((l : ℕ) → ls ≡ l ∷ [] → item_at (items_of out f) (start (place_of is l)) ≡ item.Label l) → Leads it
    leads_of ls (item.Is i) j ok = record { t = 0; leads = tt; instrs = λ long pc. refl }
    leads_of ls (item.Label l) j ok = record { t = 0; leads = tt; instrs = λ long pc. refl }
    leads_of ls (item.Jump c l) j ok = record { t = start (place_of is l); leads = ok l j; instrs = λ long pc. refl }
    leads_of ls (item.CallFn g) j ok = record { t = 0; leads = tt; instrs = λ long pc. refl }
    leads_of ls (item.AddrOf g r) j ok = record { t = 0; leads = tt; instrs = λ long pc. refl }

    stands_at : (ls : List ℕ) (k : ℕ) → k < length all → JumpsTo ls (part_at all k).item → ((l : ℕ) → ls ≡ l ∷ [] → item_at (items_of out f) (start (place_of is l)) ≡ item.Label l) → PartStands image marks entries labels (place k) (part_at all k) (place (k + 1))
    stands_at ls k lt j ok =
        let it = (part_at all k).item in
        let d = leads_of ls it j ok in
        let h = laid.stands f k d.t (omega (arith, lf, many)) (let l = long_all in omega (arith, l, lt)) (subst (λ i. LeadsTo (items_of out f) i d.t) (sym (item_is k)) d.leads) in
        record {
          long = laid.long f k;
          at = subst (λ l. AreAt image (place k) l (place (k + 1))) (ap (λ i. instructions entries (laid.long f k) (place k) (place d.t) i) (item_is k) ∙ d.instrs (laid.long f k) (place k)) h;
          first = λ some. marked.first f k lf lt some;
          inside = λ a lo hi. marked.inside f k a lf lt lo hi;
        }

    long_parts : length all ≡ length (entry_of (own f)) + length (parts_of_all code (homes f) (own f) is)
    long_parts = length-append (entry_of (own f)) (parts_of_all code (homes f) (own f) is)

    -- the part of an instruction
    inner : (at : ℕ) (i : Mid) → slice_get is at ≡ Some i → (j : ℕ) → j < length (parts_of code (homes f) (own f) i) → part_at all (start at + j) ≡ part_at (parts_of code (homes f) (own f) i) j
    inner at i e j lt =
        let sum : length (entry_of (own f)) + parts_before code homes own f is at + j ≡ length (entry_of (own f)) + (parts_before code homes own f is at + j) = omega arith in
        ap (part_at all) sum ∙ nth_right (entry_of (own f)) (parts_of_all code (homes f) (own f) is) (parts_before code homes own f is at + j) ∙ mid_nth code homes own f is at i e j lt

    label_ok : (i : Mid) (at : ℕ) → slice_get is at ≡ Some i → (l : ℕ) → labels_named i ≡ l ∷ [] → item_at (items_of out f) (start (place_of is l)) ≡ item.Label l
    label_ok i at e l named =
        let own' = all_get (NamesOwn (fn_of code f)) is at i e (own_form code form f lf).names in
        let some = (subst (λ ls. All (λ n. 1 ≤ times n is) ls) named own'.labels) 0 0 (omega arith) in
        let there = label_there is l some in
        let none : start (place_of is l) ≡ start (place_of is l) + 0 = omega arith in
        item_is (start (place_of is l)) ∙ ap (λ k. (part_at all k).item) none ∙ ap (λ (p : Part). p.item) (inner (place_of is l) (Label l) there 0 (omega arith))

    body : (at : ℕ) (i : Mid) → slice_get is at ≡ Some i → PartsStand image marks entries labels (place (start at)) (parts_of code (homes f) (own f) i) (place (start (at + 1)))
    body at i e =
        let ps = parts_of code (homes f) (own f) i in
        let low = mid_low code homes own f is at i e in
        let long' = long_parts in
        let next : start at + length ps ≡ start (at + 1) = (let n = mid_next code homes own f is at i e in let s : at + 1 ≡ suc at = omega arith in let t : start (at + 1) ≡ start (suc at) = ap start s in omega (arith, n, t)) in
        subst (λ m. PartsStand image marks entries labels (place (start at)) ps (place m)) next
        (stand_list image marks entries labels place ps (start at) (λ j lt.
        let eq = inner at i e j lt in
        subst (λ p. PartStands image marks entries labels (place (start at + j)) p (place (start at + j + 1))) eq
        (stands_at (labels_named i) (start at + j) (omega (arith, low, long', lt)) (subst (λ (p : Part). JumpsTo (labels_named i) p.item) (sym eq) (jump_at (labels_named i) ps j lt (jump_parts code (homes f) (own f) i))) (label_ok i at e))))

    entry_stands : PartsStand image marks entries labels (entries f) (entry_of (own f)) (place (start 0))
    entry_stands =
        let ps = entry_of (own f) in
        let long' = long_parts in
        let end : 0 + length ps ≡ start 0 = omega arith in
        subst (λ pc. PartsStand image marks entries labels pc ps (place (start 0))) (laid.entry f (omega (arith, lf, many)))
        (subst (λ m. PartsStand image marks entries labels (place 0) ps (place m)) end
        (stand_list image marks entries labels place ps 0 (λ j lt.
        let z : 0 + j ≡ j = omega arith in
        let eq = ap (part_at all) z ∙ nth_left ps (parts_of_all code (homes f) (own f) is) j lt in
        subst (λ p. PartStands image marks entries labels (place (0 + j)) p (place (0 + j + 1))) eq
        (stands_at [] (0 + j) (omega (arith, long', lt)) (subst (λ (p : Part). JumpsTo [] p.item) (sym eq) (jump_at [] ps j lt (jump_entry [] (own f)))) (λ l none. absurd (let x : ⊥ = cc in x))))))

    even_start : (at : ℕ) → at ≤ length is → (place (start at) % 2 ≡ 0) × (place (start at) < 0x10000)
    even_start zero le =
        let ev = even_entry f lf in
        (parts_even image marks entries labels (entry_of (own f)) (entries f) (place (start 0)) (omega (arith, ev)) entry_stands, parts_small image marks entries labels (entry_of (own f)) (entries f) (place (start 0)) (small_entry f lf) entry_stands)
    even_start (suc at) le =
        let h = even_start at (omega (arith, le)) in
        let m = there is at (omega (arith, le)) in
        let s : at + 1 ≡ suc at = omega arith in
        let b = subst (λ n. PartsStand image marks entries labels (place (start at)) (parts_of code (homes f) (own f) m.0) (place (start n))) s (body at m.0 m.1) in
        (parts_even image marks entries labels (parts_of code (homes f) (own f) m.0) (place (start at)) (place (start (suc at))) h.0 b, parts_small image marks entries labels (parts_of code (homes f) (own f) m.0) (place (start at)) (place (start (suc at))) h.1 b)

  pub standing : IsStanding code homes own deep image marks entries (λ f at. laid.places f (start_of code homes own f at))
  standing = record {
    even_entry = even_entry;
    small_entry = small_entry;
    even_place = λ f at lf lt. let e = (even_start f lf at (omega (arith, lt))).0 in omega (arith, e);
    small_place = λ f at lf lt. (even_start f lf at (omega (arith, lt))).1;
    entry = λ f lf. entry_stands f lf;
    body = λ f at i lf e. body f lf at i e;
  }

pub laid_code_stands : LaidCodeStands
laid_code_stands code homes own deep image marks entries out laid form many same even_entry small_entry marked = standing code homes own deep image marks entries out laid form many same even_entry small_entry marked
