-- Where a routine's items are laid out, its code stands.
use Rattle.std.proofs.Common.{◌≡◌, ℕ, suc, ◌+◌, ◌-◌, ◌*◌, ◌/◌, ◌%◌, ◌<◌, ◌≤◌, ◌&&◌, Bool, true, false, List, [], ◌∷◌, ◌++◌, length, length-append, nat_le, refl, sym, ap, ◌∙◌, subst, arith}
use mathlib.Core.Logic.{inl, inr}
use Rattle.std.specs.Prelude.{pos, negsuc, if◌then◌else◌}
use Rattle.std.proofs.lemmas.Bool.Decides.{nat_tests}
use Rattle.nm_base.specs.declared.action.Action.{Action}
use Rattle.msp_isa.specs.declared.code.CodeFn.{CodeFn}
use Rattle.msp_isa.specs.declared.code.Item.{Item}
use Rattle.msp_isa.specs.declared.code.Item.TheVariants as item
use Rattle.msp_isa.specs.declared.instr.Cond.{Cond}
use Rattle.msp_isa.specs.declared.instr.Cond.TheVariants as jump_if
use Rattle.msp_isa.specs.declared.instr.Instr.{Instr}
use Rattle.msp_isa.specs.declared.instr.Instr.TheVariants.{Two, One, Jump as JumpBy, Reti}
use Rattle.msp_isa.specs.declared.instr.Op1.TheVariants as op1
use Rattle.msp_isa.specs.declared.instr.Op2.{Op2}
use Rattle.msp_isa.specs.declared.instr.Op2.TheVariants as op2
use Rattle.msp_isa.specs.declared.instr.Operand.{Operand}
use Rattle.msp_isa.specs.declared.instr.Operand.TheVariants.{Reg, Indexed, Absolute, Indirect, Increment, Immediate, Constant}
use Rattle.msp_isa.specs.Encode.{encoded}
use Rattle.msp_isa.specs.Stands.{AreAt, IsLaid, LeadsTo, goto, instructions, item_at, items_of, reversed, words_to}
use Rattle.msp430_cpu.specs.Cpu.{even}
use Rattle.msp430_cpu.specs.Exec.{further, jumped}
use Rattle.open_law.specs.Homes.{Source, Made, operand_of}
use Rattle.open_law.specs.Stands.{IsMarked}
use Rattle.msp_select.proofs.Doing.{size_one, size_two}
use Rattle.msp_runtime.specs.Code.{Code, Nothing, Do, Then, Skip, Times, Keeping, is_formed, is_general, is_short, is_straight, items_from, labels, leaves, operation_item}
use Rattle.msp_runtime.proofs.Running.{Does, Jumps, Stand, both}

-- these items are those of a function from a place on
abbrev pub Holds : List Item → (k : ℕ) → List Item → Type 0
Holds items k [] = Unit {0}
Holds items k (x ∷ xs) = (k < length items) × (item_at items k ≡ x) × Holds items (suc k) xs

pub first_holds : (items : List Item) (k : ℕ) (xs ys : List Item) → Holds items k (xs ++ ys) → Holds items k xs
first_holds items k [] ys h = tt
first_holds items k (x ∷ xs) ys h = (h.0, h.1, first_holds items (suc k) xs ys h.2)

pub rest_holds : (items : List Item) (k : ℕ) (xs ys : List Item) → Holds items k (xs ++ ys) → Holds items (k + length xs) ys
rest_holds items k [] ys h = subst (λ n. Holds items n ys) (let z : k ≡ k + 0 = omega arith in z) h
rest_holds items k (x ∷ xs) ys h = subst (λ n. Holds items n ys) (let z : suc k + length xs ≡ k + suc (length xs) = omega arith in z) (rest_holds items (suc k) xs ys h.2)

shifted_holds : (x : Item) (items : List Item) (k : ℕ) (xs : List Item) → Holds items k xs → Holds (x ∷ items) (suc k) xs
shifted_holds x items k [] h = tt
shifted_holds x items k (y ∷ ys) h = let l = h.0 in (omega (arith, l), h.1, shifted_holds x items (suc k) ys h.2)

pub all_hold : (items : List Item) → Holds items 0 items
all_hold [] = tt
all_hold (x ∷ xs) = (omega arith, refl, shifted_holds x xs 0 xs (all_hold xs))

some_bytes : (i : Instr) → 0 < 2 * length (encoded i)
some_bytes (Two op byte s d) = let e = size_two op byte s d in omega (arith, e)
some_bytes (One op byte o) = let e = size_one op byte o in omega (arith, e)
some_bytes (JumpBy c k) = omega arith
some_bytes Reti = omega arith

further_few : (o : Operand) → further o ≤ 2
further_few (Reg r) = omega arith
further_few (Indexed r x) = omega arith
further_few (Absolute x) = omega arith
further_few (Indirect r) = omega arith
further_few (Increment r) = omega arith
further_few (Immediate x) = omega arith
further_few (Constant v) = omega arith

few_bytes : (i : Instr) → 2 * length (encoded i) ≤ 6
few_bytes (Two op byte s d) = let e = size_two op byte s d in let a = further_few s in let b = further_few d in omega (arith, e, a, b)
few_bytes (One op byte o) = let e = size_one op byte o in let a = further_few o in omega (arith, e, a)
few_bytes (JumpBy c k) = omega arith
few_bytes Reti = omega arith

-- instructions end at an even address
area_end : (image : ℕ → ℕ) (is : List Instr) (pc end : ℕ) → AreAt image pc is end → (even pc ≡ pc) × (pc < 0x10000) → (even end ≡ end) × (end < 0x10000)
area_end image [] pc end at s = subst (λ n. (even n ≡ n) × (n < 0x10000)) at s
area_end image (i ∷ is) pc end at s =
    let f = few_bytes i in let h = at.0.high in let e = at.0.even in
    area_end image is (pc + 2 * length (encoded i)) end at.1 (omega (arith, e), omega (arith, f, h))

-- where a jump leads from its place
leads_to : (pc target : ℕ) → pc % 2 ≡ 0 → pc + 6 < 0x10000 → even target ≡ target → target < 0x10000 → jumped (pc + 2) (words_to (pc + 2) target) ≡ target
leads_to pc target ev hi et small = by (nat_le (pc + 2) target) refl
  where
    by : (t : Bool) → nat_le (pc + 2) target ≡ t → jumped (pc + 2) (if t then pos ((target - (pc + 2)) / 2) else negsuc ((pc + 2 - target - 1) / 2)) ≡ target
    by true e = let le : pc + 2 ≤ target = grind (arith, nat_tests) in omega (arith, le, ev, et, small)
    by false e = let lt : target < pc + 2 = grind (arith, nat_tests) in omega (arith, lt, ev, et, hi)

long_form : (entries : ℕ → ℕ) (c : Cond) (pc to l : ℕ) → is_short c ≡ true → instructions entries true pc to (item.Jump c l) ≡ JumpBy (reversed c) (pos 2) ∷ goto to ∷ []
long_form entries jump_if.Jne pc to l e = refl
long_form entries jump_if.Jeq pc to l e = refl
long_form entries jump_if.Jnc pc to l e = refl
long_form entries jump_if.Jc pc to l e = refl
long_form entries jump_if.Jge pc to l e = refl
long_form entries jump_if.Jl pc to l e = refl
long_form entries jump_if.Jn pc to l e = absurd (let z : ⊥ = cc in z)
long_form entries jump_if.Jmp pc to l e = absurd (let z : ⊥ = cc in z)

module _ (image : ℕ → ℕ) (data_end : ℕ) (marks : ℕ → List Action) (sp0 : ℕ) (entries : ℕ → ℕ) (out : List CodeFn) (laid : IsLaid image out entries) (f : ℕ) (inside : f < length out) where
  abbrev items : List Item
  items = items_of out f

  abbrev place : ℕ → ℕ
  place = laid.places f

  -- an even address
  pub record IsPlaced (k : ℕ) : Type 0 where
    pub is_even : even (place k) ≡ place k
    pub small : place k < 0x10000

  module _ (unmarked : (k a : ℕ) → k < length items → place k ≤ a → a < place (k + 1) → marks a ≡ []) where
    -- one instruction
    pub single : (k : ℕ) (i : Instr) → k < length items → item_at items k ≡ item.Is i → IsMarked image marks (place k) [] i × (place k + 2 * length (encoded i) ≡ place (k + 1))
    single k i lt e =
        let st = subst (λ x. AreAt image (place k) (instructions entries (laid.long f k) (place k) (place 0) x) (place (k + 1))) e (laid.stands f k 0 inside lt (subst (λ x. LeadsTo items x 0) (sym e) tt)) in
        (record { at = st.0; table = unmarked k (place k) lt (omega arith) (let z = st.1 in let y = some_bytes i in omega (arith, z, y)) }, st.1)

    does_at : (k : ℕ) (op : Op2) (s : Source) (r : ℕ) → k < length items → item_at items k ≡ operation_item op s r → Does image data_end marks sp0 (place k) (place (suc k)) op s r
    does_at k op s r lt e = let x = single k (Two op false (operand_of s) (Reg r)) lt e in
        (x.0, ap (λ n. place k + n) (sym (size_two op false (operand_of s) (Reg r))) ∙ x.1 ∙ ap place (let z : k + 1 ≡ suc k = omega arith in z))

    -- behind an item
    placed_item : (k t : ℕ) → k < length items → LeadsTo items (item_at items k) t → IsPlaced k → IsPlaced (suc k)
    placed_item k t lt leads at =
        let e = area_end image (instructions entries (laid.long f k) (place k) (place t) (item_at items k)) (place k) (place (k + 1)) (laid.stands f k t inside lt leads) (at.is_even, at.small) in
        subst IsPlaced (let z : k + 1 ≡ suc k = omega arith in z) (record { is_even = e.0; small = e.1 })

    placed_is : (k : ℕ) (i : Instr) → k < length items → item_at items k ≡ item.Is i → IsPlaced k → IsPlaced (suc k)
    placed_is k i lt e at = placed_item k 0 lt (subst (λ x. LeadsTo items x 0) (sym e) tt) at

    placed_label : (k l : ℕ) → k < length items → item_at items k ≡ item.Label l → IsPlaced k → IsPlaced (suc k)
    placed_label k l lt e at = placed_item k 0 lt (subst (λ x. LeadsTo items x 0) (sym e) tt) at

    placed_jump : (k t : ℕ) (c : Cond) (l : ℕ) → k < length items → item_at items k ≡ item.Jump c l → item_at items t ≡ item.Label l → IsPlaced k → IsPlaced (suc k)
    placed_jump k t c l lt e label at = placed_item k t lt (subst (λ x. LeadsTo items x t) (sym e) label) at

    -- and behind code
    pub placed_at : (c : Code) (k l : ℕ) → Holds items k (items_from c l) → IsPlaced k → IsPlaced (k + length (items_from c l))
    placed_at Nothing k l h at = subst IsPlaced (let z : k ≡ k + 0 = omega arith in z) at
    placed_at (Do op s r) k l h at = subst IsPlaced (let z : suc k ≡ k + 1 = omega arith in z) (placed_is k (Two op false (operand_of s) (Reg r)) h.0 h.1 at)
    placed_at (Then a b) k l h at =
        let xs = items_from a l in let ys = items_from b (l + labels a) in
        subst IsPlaced (let e = length-append xs ys in let z : k + length xs + length ys ≡ k + length (xs ++ ys) = omega (arith, e) in z)
        (placed_at b (k + length xs) (l + labels a) (rest_holds items k xs ys h) (placed_at a k l (first_holds items k xs ys h) at))
    placed_at (Skip c a) k l h at =
        let xs = items_from a (suc l) in
        let last = rest_holds items (suc k) xs (item.Label l ∷ []) h.2 in
        let n = suc k + length xs in
        let inner = placed_at a (suc k) (suc l) (first_holds items (suc k) xs (item.Label l ∷ []) h.2) (placed_jump k n c l h.0 h.1 last.1 at) in
        subst IsPlaced (let e = length-append xs (item.Label l ∷ []) in let z : suc (suc k + length xs) ≡ k + suc (length (xs ++ item.Label l ∷ [])) = omega (arith, e) in z) (placed_label n l last.0 last.1 inner)
    placed_at (Times most r a) k l h at =
        let xs = items_from a (suc (suc l)) in
        let tail = operation_item op2.Sub (Made 1) r ∷ item.Jump jump_if.Jne (suc l) ∷ item.Label l ∷ [] in
        let n = suc (suc (suc k)) + length xs in
        let behind = rest_holds items (suc (suc (suc k))) xs tail h.2.2.2 in
        let head = placed_label (suc (suc k)) (suc l) h.2.2.0 h.2.2.1 (placed_jump (suc k) (suc (suc n)) jump_if.Jeq l h.2.0 h.2.1 behind.2.2.1 (placed_is k (Two op2.Cmp false (operand_of (Made 0)) (Reg r)) h.0 h.1 at)) in
        let inner = placed_at a (suc (suc (suc k))) (suc (suc l)) (first_holds items (suc (suc (suc k))) xs tail h.2.2.2) head in
        subst IsPlaced (let e = length-append xs tail in let z : suc (suc (suc n)) ≡ k + suc (suc (suc (length (xs ++ tail)))) = omega (arith, e) in z)
        (placed_label (suc (suc n)) l behind.2.2.0 behind.2.2.1 (placed_jump (suc n) (suc (suc k)) jump_if.Jne (suc l) behind.2.0 behind.2.1 h.2.2.1 (placed_is n (Two op2.Sub false (operand_of (Made 1)) (Reg r)) behind.0 behind.1 inner)))
    placed_at (Keeping r a) k l h at =
        let xs = items_from a l in
        let tail = item.Is (Two op2.Mov false (Indexed 1 0) (Reg r)) ∷ item.Is (Two op2.Add false (Constant 2) (Reg 1)) ∷ [] in
        let n = suc k + length xs in
        let behind = rest_holds items (suc k) xs tail h.2 in
        let inner = placed_at a (suc k) l (first_holds items (suc k) xs tail h.2) (placed_is k (One op1.Push false (Reg r)) h.0 h.1 at) in
        subst IsPlaced (let e = length-append xs tail in let z : suc (suc n) ≡ k + suc (length (xs ++ tail)) = omega (arith, e) in z)
        (placed_is (suc n) (Two op2.Add false (Constant 2) (Reg 1)) behind.2.0 behind.2.1 (placed_is n (Two op2.Mov false (Indexed 1 0) (Reg r)) behind.0 behind.1 inner))

    pub jumps_at : (k t : ℕ) (c : Cond) (l : ℕ) → is_short c ≡ true → k < length items → IsPlaced t → item_at items k ≡ item.Jump c l → item_at items t ≡ item.Label l → Jumps image data_end marks sp0 (place k) (place t) (place (suc k)) c
    jumps_at k t c l short lt le e label = by (laid.long f k) (subst (λ x. AreAt image (place k) (instructions entries (laid.long f k) (place k) (place t) x) (place (k + 1))) e (laid.stands f k t inside lt (subst (λ x. LeadsTo items x t) (sym e) label)))
      where
        next : place (k + 1) ≡ place (suc k)
        next = ap place (let z : k + 1 ≡ suc k = omega arith in z)

        by : (long : Bool) → AreAt image (place k) (instructions entries long (place k) (place t) (item.Jump c l)) (place (k + 1)) → Jumps image data_end marks sp0 (place k) (place t) (place (suc k)) c
        by false st = inl (record { offset = words_to (place k + 2) (place t); at = record { at = st.0; table = unmarked k (place k) lt (omega arith) (let z = st.1 in omega (arith, z)) }; leads = leads_to (place k) (place t) st.0.even st.0.high le.is_even le.small }, st.1 ∙ next)
        by true st0 =
            let st = subst (λ is. AreAt image (place k) is (place (k + 1))) (long_form entries c (place k) (place t) l short) st0 in
            inr (record {
              over = record { offset = pos 2; at = record { at = st.0; table = unmarked k (place k) lt (omega arith) (let z = st.1.1 in omega (arith, z)) }; leads = let h = st.0.high in omega (arith, h) };
              goes = record { at = st.1.0; table = unmarked k (place k + 2) lt (omega arith) (let z = st.1.1 in omega (arith, z)) };
              behind = (let z : place k + 6 ≡ place k + 2 + 4 = omega arith in z) ∙ st.1.1 ∙ next;
              even_target = le.is_even;
              small_target = le.small;
            })

    pub label_at : (k l : ℕ) → k < length items → item_at items k ≡ item.Label l → place k ≡ place (suc k)
    label_at k l lt e = subst (λ x. AreAt image (place k) (instructions entries (laid.long f k) (place k) (place 0) x) (place (k + 1))) e (laid.stands f k 0 inside lt (subst (λ x. LeadsTo items x 0) (sym e) tt)) ∙ ap place (let z : k + 1 ≡ suc k = omega arith in z)

    -- code from a place on
    pub stand_at : (c : Code) (k l : ℕ) → is_formed c ≡ true → Holds items k (items_from c l) → IsPlaced k → Stand image data_end marks sp0 c (place k) (place (k + length (items_from c l)))
    stand_at Nothing k l g h at = ap place (let z : k ≡ k + 0 = omega arith in z)
    stand_at (Do op s r) k l g h at = subst (λ n. Does image data_end marks sp0 (place k) (place n) op s r) (let z : suc k ≡ k + 1 = omega arith in z) (does_at k op s r h.0 h.1)
    stand_at (Then a b) k l g h at =
        let t = both (is_formed a) (is_formed b) g in
        let xs = items_from a l in let ys = items_from b (l + labels a) in (
          place (k + length xs),
          stand_at a k l t.0 (first_holds items k xs ys h) at,
          subst (λ n. Stand image data_end marks sp0 b (place (k + length xs)) (place n)) (let e = length-append xs ys in let z : k + length xs + length ys ≡ k + length (xs ++ ys) = omega (arith, e) in z)
              (stand_at b (k + length xs) (l + labels a) t.1 (rest_holds items k xs ys h) (placed_at a k l (first_holds items k xs ys h) at)),
        )
    stand_at (Skip c a) k l g h at =
        let t = both (is_short c) (is_formed a) g in
        let xs = items_from a (suc l) in
        let last = rest_holds items (suc k) xs (item.Label l ∷ []) h.2 in
        let n = suc k + length xs in
        let next = placed_jump k n c l h.0 h.1 last.1 at in
        let holds = first_holds items (suc k) xs (item.Label l ∷ []) h.2 in
        let inner = stand_at a (suc k) (suc l) t.1 holds next in
        let lt : n < length items = last.0 in
        let end : place n ≡ place (k + length (items_from (Skip c a) l)) = label_at n l last.0 last.1 ∙ ap place (let e = length-append xs (item.Label l ∷ []) in let z : suc (suc k + length xs) ≡ k + suc (length (xs ++ item.Label l ∷ [])) = omega (arith, e) in z) in
        subst (λ e. Stand image data_end marks sp0 (Skip c a) (place k) e) end
        (place (suc k), jumps_at k n c l t.0 h.0 (placed_at a (suc k) (suc l) holds next) h.1 last.1, inner)
    stand_at (Times most r a) k l g h at =
        let t = both (is_general r) (leaves r a && (is_straight a && is_formed a)) g in let u = both (leaves r a) (is_straight a && is_formed a) t.1 in let w = both (is_straight a) (is_formed a) u.1 in
        let xs = items_from a (suc (suc l)) in
        let tail = operation_item op2.Sub (Made 1) r ∷ item.Jump jump_if.Jne (suc l) ∷ item.Label l ∷ [] in
        let body = h.2.2.2 in
        let n = suc (suc (suc k)) + length xs in
        let behind = rest_holds items (suc (suc (suc k))) xs tail body in
        let head : place (suc (suc k)) ≡ place (suc (suc (suc k))) = label_at (suc (suc k)) (suc l) h.2.2.0 h.2.2.1 in
        let first = placed_is k (Two op2.Cmp false (operand_of (Made 0)) (Reg r)) h.0 h.1 at in
        let second = placed_jump (suc k) (suc (suc n)) jump_if.Jeq l h.2.0 h.2.1 behind.2.2.1 first in
        let holds = first_holds items (suc (suc (suc k))) xs tail body in
        let third = placed_label (suc (suc k)) (suc l) h.2.2.0 h.2.2.1 second in
        let inner = placed_at a (suc (suc (suc k))) (suc (suc l)) holds third in
        let last = placed_jump (suc n) (suc (suc k)) jump_if.Jne (suc l) behind.2.0 behind.2.1 h.2.2.1 (placed_is n (Two op2.Sub false (operand_of (Made 1)) (Reg r)) behind.0 behind.1 inner) in
        let end : place (suc (suc n)) ≡ place (k + length (items_from (Times most r a) l)) = label_at (suc (suc n)) l behind.2.2.0 behind.2.2.1 ∙ ap place (let e = length-append xs tail in let z : suc (suc (suc n)) ≡ k + suc (suc (suc (length (xs ++ tail)))) = omega (arith, e) in z) in
        subst (λ e. Stand image data_end marks sp0 (Times most r a) (place k) e) end (
          place (suc k),
          place (suc (suc k)),
          place n,
          place (suc n),
          does_at k op2.Cmp (Made 0) r h.0 h.1,
          jumps_at (suc k) (suc (suc n)) jump_if.Jeq l refl h.2.0 last h.2.1 behind.2.2.1,
          subst (λ p. Stand image data_end marks sp0 a p (place n)) (sym head) (stand_at a (suc (suc (suc k))) (suc (suc l)) w.1 holds third),
          does_at n op2.Sub (Made 1) r behind.0 behind.1,
          subst (λ e. Jumps image data_end marks sp0 (place (suc n)) (place (suc (suc k))) e jump_if.Jne) refl (jumps_at (suc n) (suc (suc k)) jump_if.Jne (suc l) refl behind.2.0 second behind.2.1 h.2.2.1),
        )
    stand_at (Keeping r a) k l g h at =
        let t = both (is_general r) (is_formed a) g in
        let xs = items_from a l in
        let tail = item.Is (Two op2.Mov false (Indexed 1 0) (Reg r)) ∷ item.Is (Two op2.Add false (Constant 2) (Reg 1)) ∷ [] in
        let n = suc k + length xs in
        let behind = rest_holds items (suc k) xs tail h.2 in
        let x = single k (One op1.Push false (Reg r)) h.0 h.1 in
        let y = single n (Two op2.Mov false (Indexed 1 0) (Reg r)) behind.0 behind.1 in
        let z = single (suc n) (Two op2.Add false (Constant 2) (Reg 1)) behind.2.0 behind.2.1 in
        let one : suc k ≡ k + 1 = omega arith in
        let up : place (suc k) ≡ place k + 2 = ap place one ∙ sym x.1 in
        let up1 : place (suc n) ≡ place n + 4 = ap place (let q : suc n ≡ n + 1 = omega arith in q) ∙ sym y.1 in
        let e = length-append xs tail in
        let up2 : place (suc n + 1) ≡ place (k + length (items_from (Keeping r a) l)) = ap place (omega (arith, e)) in (
          place n,
          x.0,
          subst (λ p. Stand image data_end marks sp0 a p (place n)) up (stand_at a (suc k) l t.1 (first_holds items (suc k) xs tail h.2) (placed_is k (One op1.Push false (Reg r)) h.0 h.1 at)),
          y.0,
          subst (λ p. IsMarked image marks p [] (Two op2.Add false (Constant 2) (Reg 1))) up1 z.0,
          (let q : place n + 6 ≡ place n + 4 + 2 = omega arith in q) ∙ ap (λ m. m + 2) (sym up1) ∙ z.1 ∙ up2,
        )
