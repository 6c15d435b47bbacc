-- Among the items of code each of its labels stands once, and its jumps lead to them.
use Rattle.std.proofs.Common.{◌≡◌, ◌≢◌, ◌⊎◌, ℕ, zero, suc, ◌+◌, ◌<◌, ◌≤◌, ◌==◌, true, false, List, [], ◌∷◌, ◌++◌, refl, sym, ap, ◌∙◌, subst, arith}
use mathlib.Core.Logic.{inl, inr}
use Rattle.std.specs.Prelude.{if◌then◌else◌}
use Rattle.std.proofs.lemmas.Bool.{cases_lt}
use Rattle.std.proofs.lemmas.Bool.Decides.{eqb_tells, nat_tests}
use Rattle.msp_isa.specs.declared.code.Item.{Item}
use Rattle.msp_isa.specs.declared.code.Item.TheVariants as item
use Rattle.msp_isa.specs.declared.instr.Cond.{Cond}
use Rattle.msp_isa.specs.declared.instr.Cond.TheVariants.{Jne}
use Rattle.msp_isa.specs.declared.instr.Instr.TheVariants.{Two}
use Rattle.msp_isa.specs.declared.instr.Op2.TheVariants.{Mov, Add, Sub}
use Rattle.msp_isa.specs.declared.instr.Operand.TheVariants.{Reg, Indexed, Constant}
use Rattle.msp_isa.specs.Stands.{item_at}
use Rattle.msp_layout.specs.Laid.{StandsOnce}
use Rattle.open_law.specs.Homes.{Made}
use Rattle.msp_runtime.specs.Code.{Code, Nothing, Do, Then, Skip, Times, Keeping, items_from, labels, operation_item}

-- ---- how often a label stands among items

pub same : (l k : ℕ) → ℕ
same l k = if l == k then 1 else 0

same_one : (l k : ℕ) → l ≡ k → same l k ≡ 1
unfolding same
same_one l k e = let t : (l == k) ≡ true = grind (arith, nat_tests) in rw t refl

same_none : (l k : ℕ) → l ≢ k → same l k ≡ 0
unfolding same
same_none l k e = let t : (l == k) ≡ false = grind (arith, nat_tests) in rw t refl

abbrev count_of : (k : ℕ) → Item → ℕ
count_of k (item.Label l) = same l k
count_of k _ = 0

abbrev pub counted : (k : ℕ) → List Item → ℕ
counted k [] = 0
counted k (x ∷ xs) = count_of k x + counted k xs

pub counted-append : (k : ℕ) (xs ys : List Item) → counted k (xs ++ ys) ≡ counted k xs + counted k ys
counted-append k [] ys = omega arith
counted-append k (x ∷ xs) ys = let e = counted-append k xs ys in omega (arith, e)

-- 1 for each of n numbers from l on
pub inside : (k l n : ℕ) → ℕ
inside k l zero = 0
inside k l (suc n) = same l k + inside k (suc l) n

inside_next : (k l n : ℕ) → inside k l (suc n) ≡ same l k + inside k (suc l) n
unfolding inside
inside_next k l n = refl

inside_none : (k l : ℕ) → inside k l 0 ≡ 0
unfolding inside
inside_none k l = refl

inside_below : (k l n : ℕ) → k < l → inside k l n ≡ 0
unfolding inside
inside_below k l zero lt = refl
inside_below k l (suc n) lt = let a = same_none l k (λ e. absurd (omega (arith, e, lt))) in let b = inside_below k (suc l) n (omega (arith, lt)) in omega (arith, a, b)

inside_later : (k l n : ℕ) → l ≤ k → (suc l ≤ k → inside k (suc l) n ≡ 1) → (((l == k) ≡ true) × (l ≡ k)) ⊎ (((l == k) ≡ false) × (l ≢ k)) → same l k + inside k (suc l) n ≡ 1
inside_later k l n le later (inl t) = let e = t.1 in let a = same_one l k e in let b = inside_below k (suc l) n (omega (arith, e)) in omega (arith, a, b)
inside_later k l n le later (inr t) = let a = same_none l k t.1 in let b = later (less (cases_lt l k) t.1) in omega (arith, a, b)
  where
    less : (l < k) ⊎ (k ≤ l) → l ≢ k → suc l ≤ k
    less (inl x) ne = omega (arith, x)
    less (inr x) ne = absurd (ne (omega (arith, x, le)))

pub inside_one : (k l n : ℕ) → l ≤ k → k < l + n → inside k l n ≡ 1
unfolding inside
inside_one k l zero le lt = absurd (omega (arith, le, lt))
inside_one k l (suc n) le lt = inside_later k l n le (λ more. inside_one k (suc l) n more (omega (arith, lt))) (eqb_tells l k)

inside-add : (k l n m : ℕ) → inside k l (n + m) ≡ inside k l n + inside k (l + n) m
inside-add k l zero m = ap (λ x. inside k l x) (let e : 0 + m ≡ m = omega arith in e) ∙ (let a = inside_none k l in let b : inside k (l + 0) m ≡ inside k l m = ap (λ x. inside k x m) (let e : l + 0 ≡ l = omega arith in e) in omega (arith, a, b))
inside-add k l (suc n) m =
    let a = ap (λ x. inside k l x) (let e : suc n + m ≡ suc (n + m) = omega arith in e) in
    let b = inside_next k l (n + m) in
    let c = inside-add k (suc l) n m in
    let d = inside_next k l n in
    let f : inside k (suc l + n) m ≡ inside k (l + suc n) m = ap (λ x. inside k x m) (let e : suc l + n ≡ l + suc n = omega arith in e) in
    omega (arith, a, b, c, d, f)

-- one number more
pub inside_last : (k n : ℕ) → inside k 0 (n + 1) ≡ inside k 0 n + counted k (item.Label n ∷ [])
inside_last k n =
    let a = inside-add k 0 n 1 in
    let b : inside k (0 + n) 1 ≡ inside k n 1 = ap (λ x. inside k x 1) (let e : 0 + n ≡ n = omega arith in e) in
    let d = inside_next k n 0 in let e = inside_none k (suc n) in omega (arith, a, b, d, e)

-- the labels of code are those from l on
pub code_counts : (c : Code) (l k : ℕ) → counted k (items_from c l) ≡ inside k l (labels c)
code_counts Nothing l k = sym (inside_none k l)
code_counts (Do op s r) l k = let a = inside_none k l in omega (arith, a)
code_counts (Then a b) l k =
    let e = counted-append k (items_from a l) (items_from b (l + labels a)) in
    let x = code_counts a l k in let y = code_counts b (l + labels a) k in
    let s = inside-add k l (labels a) (labels b) in omega (arith, e, x, y, s)
code_counts (Skip c a) l k =
    let e = counted-append k (items_from a (suc l)) (item.Label l ∷ []) in
    let x = code_counts a (suc l) k in
    let g = inside_next k l (labels a) in omega (arith, e, x, g)
code_counts (Times most r a) l k =
    let x = code_counts a (suc (suc l)) k in
    let g = inside_next k l (suc (labels a)) in
    let h = inside_next k (suc l) (labels a) in
    let e = counted-append k (items_from a (suc (suc l))) (operation_item Sub (Made 1) r ∷ item.Jump Jne (suc l) ∷ item.Label l ∷ []) in omega (arith, e, x, g, h)
code_counts (Keeping r a) l k =
    let e = counted-append k (items_from a l) (item.Is (Two Mov false (Indexed 1 0) (Reg r)) ∷ item.Is (Two Add false (Constant 2) (Reg 1)) ∷ []) in
    let x = code_counts a l k in omega (arith, e, x)

-- ---- where jumps lead

abbrev pub Leads : (low high : ℕ) → Item → Type 0
Leads low high (item.Jump c l) = (low ≤ l) × (l < high)
Leads low high _ = Unit {0}

abbrev pub AllLead : (low high : ℕ) → List Item → Type 0
AllLead low high [] = Unit {0}
AllLead low high (x ∷ xs) = Leads low high x × AllLead low high xs

pub lead-append : (low high : ℕ) (xs ys : List Item) → AllLead low high xs → AllLead low high ys → AllLead low high (xs ++ ys)
lead-append low high [] ys a b = b
lead-append low high (x ∷ xs) ys a b = (a.0, lead-append low high xs ys a.1 b)

pub code_leads : (low high : ℕ) (c : Code) (l : ℕ) → low ≤ l → l + labels c ≤ high → AllLead low high (items_from c l)
code_leads low high Nothing l lo hi = tt
code_leads low high (Do op s r) l lo hi = (tt, tt)
code_leads low high (Then a b) l lo hi =
    lead-append low high (items_from a l) (items_from b (l + labels a)) (code_leads low high a l lo (omega (arith, hi))) (code_leads low high b (l + labels a) (omega (arith, lo)) (omega (arith, hi)))
code_leads low high (Skip c a) l lo hi =
    ((lo, omega (arith, hi)), lead-append low high (items_from a (suc l)) (item.Label l ∷ []) (code_leads low high a (suc l) (omega (arith, lo)) (omega (arith, hi))) (tt, tt))
code_leads low high (Times most r a) l lo hi =
    (tt, ((lo, omega (arith, hi)), (tt, lead-append low high (items_from a (suc (suc l))) _ (code_leads low high a (suc (suc l)) (omega (arith, lo)) (omega (arith, hi))) (tt, ((omega (arith, lo), omega (arith, hi)), (tt, tt))))))
code_leads low high (Keeping r a) l lo hi = (tt, lead-append low high (items_from a l) _ (code_leads low high a l lo hi) (tt, (tt, tt)))

-- ---- places

pub leads_at : (low high : ℕ) (items : List Item) (k l : ℕ) (c : Cond) → AllLead low high items → item_at items k ≡ item.Jump c l → (low ≤ l) × (l < high)
leads_at low high [] k l c all e = absurd (let z : ⊥ = cc in z)
leads_at low high (x ∷ xs) zero l c all e = subst (Leads low high) e all.0
leads_at low high (x ∷ xs) (suc k) l c all e = leads_at low high xs k l c all.1 e

label_counts : (l : ℕ) (x : Item) → x ≡ item.Label l → count_of l x ≡ 1
label_counts l x e = subst (λ y. count_of l y ≡ 1) (sym e) (same_one l l refl)

none_stands : (items : List Item) (l t : ℕ) → counted l items ≡ 0 → item_at items t ≡ item.Label l → ⊥
none_stands [] l t n e = cc
none_stands (x ∷ xs) l zero n e = let a = label_counts l x e in absurd (omega (arith, a, n))
none_stands (x ∷ xs) l (suc t) n e = none_stands xs l t (omega (arith, n)) e

one_behind : (x : Item) (xs : List Item) (l : ℕ) → count_of l x ≡ 0 → StandsOnce xs l → StandsOnce (x ∷ xs) l
one_behind x xs l n s = record { at = suc s.at; stands = s.stands; once = once }
  where
    once : (t : ℕ) → item_at (x ∷ xs) t ≡ item.Label l → t ≡ suc s.at
    once zero e = let a = label_counts l x e in absurd (omega (arith, a, n))
    once (suc t) e = ap suc (s.once t e)

one_here : (xs : List Item) (l m : ℕ) → m ≡ l → counted l xs ≡ 0 → StandsOnce (item.Label m ∷ xs) l
one_here xs l m e n = record { at = 0; stands = ap (λ x. item.Label x) e; once = once }
  where
    once : (t : ℕ) → item_at (item.Label m ∷ xs) t ≡ item.Label l → t ≡ 0
    once zero h = refl
    once (suc t) h = absurd (none_stands xs l t n h)

label_once : (xs : List Item) (l m : ℕ) → (counted l xs ≡ 1 → StandsOnce xs l) → same m l + counted l xs ≡ 1 → (((m == l) ≡ true) × (m ≡ l)) ⊎ (((m == l) ≡ false) × (m ≢ l)) → StandsOnce (item.Label m ∷ xs) l
label_once xs l m behind n (inl t) = let e = t.1 in let a = same_one m l e in one_here xs l m e (omega (arith, n, a))
label_once xs l m behind n (inr t) = let a = same_none m l t.1 in one_behind (item.Label m) xs l a (behind (omega (arith, n, a)))

pub stands_once : (items : List Item) (l : ℕ) → counted l items ≡ 1 → StandsOnce items l
stands_once [] l n = absurd (omega (arith, n))
stands_once (item.Label m ∷ xs) l n = label_once xs l m (λ z. stands_once xs l z) n (eqb_tells m l)
stands_once (item.Is i ∷ xs) l n = one_behind (item.Is i) xs l refl (stands_once xs l (omega (arith, n)))
stands_once (item.Jump c m ∷ xs) l n = one_behind (item.Jump c m) xs l refl (stands_once xs l (omega (arith, n)))
stands_once (item.CallFn f ∷ xs) l n = one_behind (item.CallFn f) xs l refl (stands_once xs l (omega (arith, n)))
stands_once (item.AddrOf f r ∷ xs) l n = one_behind (item.AddrOf f r) xs l refl (stands_once xs l (omega (arith, n)))
