-- The order of numbers of 32 bits, by their halves.
use Rattle.std.proofs.Common.{◌≡◌, ℕ, ◌+◌, ◌-◌, ◌/◌, ◌%◌, ◌<◌, ◌≤◌, Bool, true, false, List, ◌∷◌, refl, sym, ap, ◌∙◌, subst, arith}
use Rattle.std.specs.Prelude.{ℤ, pos, negsuc, ◌-ℤ◌, int_lt, nat_lt, nat_le, not, ◌==◌}
use Rattle.std.proofs.lemmas.Int.{ints}
use Rattle.std.proofs.lemmas.Bool.{lt-ltb, ltb-true}
use Rattle.std.proofs.lemmas.Bool.Decides.{Decides-eqb, nat_tests, same_from_decides}
use Rattle.nm_base.specs.declared.int_type.IntType.{IntType}
use Rattle.nm_base.specs.declared.int_type.IntType.TheVariants.{I16, I32, U32}
use Rattle.nm_base.specs.IntType.{wrapped, signed_part}
use Rattle.nm_base.specs.Behaviour.{Behaviour}
use Rattle.nesc_core.specs.Plain.{Ty, int, Program}
use Rattle.core_meaning.specs.Numbers.{residue, truth}
use Rattle.core_meaning.specs.Work.{Locals}
use Rattle.mid_code.specs.declared.instr.Test.{Test}
use Rattle.mid_code.specs.declared.instr.Test.TheVariants.{Ne}
use Rattle.mid_code.specs.declared.instr.Mid.{Mid}
use Rattle.mid_code.specs.declared.instr.Mid.TheVariants.{Branch, Label}
use Rattle.mid_code.specs.declared.code.MidCode.{MidCode}
use Rattle.mid_code.specs.Machine.{Activation, fn_of}
use Rattle.mid_code.specs.Words.{holds}
use Rattle.mid_code.specs.Runs.{IsLabelled, Runs, Stands}
use Rattle.mid_code.proofs.Stands.{branch_runs, stay_runs}
use Rattle.lower_expr.specs.declared.spot.Spot.{Spot}
use Rattle.lower_expr.specs.Held.{IsHeld, low, high}
use Rattle.lower_expr.specs.Runs.{Keeps}
use Rattle.lower_expr.specs.Locals.{Holds}
use Rattle.lower_expr.specs.Pieces.{truth_code}
use Rattle.lower_expr.proofs.Numbers.{Is32Bits, from_half, in_range, le_is, low_of_rest, not_below, range_of}
use Rattle.lower_expr.proofs.Wide.{high_of}
use Rattle.lower_expr.proofs.Pieces.{Next, at_here, first_runs, label_runs, last_runs}

-- whether the high halves are in order, are equal, and the low halves are in order
abbrev pub by_halves : (higher same lower : Bool) → Bool
by_halves true same lower = true
by_halves false true lower = lower
by_halves false false lower = false

at_least : (x y : ℕ) → nat_lt x y ≡ false → y ≤ x
at_least x y e = grind (arith, nat_tests)

more : (x y : ℕ) (c : Bool) → nat_lt y x ≡ c → y ≤ x → (x == y) ≡ false → y < x
more x y true e le d = ltb-true y x e
more x y false e le d =
    let other = at_least y x e in
    let same : x ≡ y = omega (arith, le, other) in
    let met = (Decides-eqb x y).1 same in
    absurd (cc)

by_low : (lower : Bool) (a b : ℕ) → a / 65536 ≡ b / 65536 → nat_lt (a % 65536) (b % 65536) ≡ lower → nat_lt a b ≡ lower
by_low true a b q e = let t = ltb-true _ _ e in lt-ltb a b (omega (arith, q, t))
by_low false a b q e = let t = at_least _ _ e in not_below a b (omega (arith, q, t))

pub less_by_halves : (higher same : Bool) (a b : ℕ) → nat_lt (a / 65536) (b / 65536) ≡ higher → (a / 65536 == b / 65536) ≡ same →
    nat_lt a b ≡ by_halves higher same (nat_lt (a % 65536) (b % 65536))
less_by_halves true same a b h e = let t = ltb-true _ _ h in lt-ltb a b (omega (arith, t))
less_by_halves false true a b h e = by_low _ a b ((Decides-eqb (a / 65536) (b / 65536)).0 e) refl
less_by_halves false false a b h e = let t = more (a / 65536) (b / 65536) _ refl (at_least _ _ h) e in not_below a b (omega (arith, t))

rest_number : (x : ℤ) → wrapped U32 x ≡ x → pos (residue 32 x) ≡ x
rest_number (pos a) e = let to = (range_of U32 (pos a) e).1 in let h : a ≤ 4294967295 = omega (arith, ints, to) in ap pos (let g : a % 4294967296 ≡ a = omega (arith, h) in g)
rest_number (negsuc a) e = let from = (range_of U32 (negsuc a) e).0 in absurd (omega (arith, ints, from))

less_rests : (x y : ℤ) → wrapped U32 x ≡ x → wrapped U32 y ≡ y → int_lt x y ≡ nat_lt (residue 32 x) (residue 32 y)
less_rests x y ex ey = ap (λ u. int_lt u y) (sym (rest_number x ex)) ∙ ap (int_lt (pos (residue 32 x))) (sym (rest_number y ey))

pub wide_less : (x y : ℤ) → wrapped U32 x ≡ x → wrapped U32 y ≡ y → int_lt x y ≡ by_halves (nat_lt (high x) (high y)) (high x == high y) (nat_lt (low x) (low y))
wide_less x y ex ey =
    let a : ℕ = residue 32 x in
    let b : ℕ = residue 32 y in
    less_rests x y ex ey ∙ less_by_halves (nat_lt (a / 65536) (b / 65536)) (a / 65536 == b / 65536) a b refl refl
    ∙ ap (λ k. by_halves (nat_lt (a / 65536) (b / 65536)) (a / 65536 == b / 65536) (nat_lt k (b % 65536))) (sym (low_of_rest x))
    ∙ ap (λ k. by_halves (nat_lt (a / 65536) (b / 65536)) (a / 65536 == b / 65536) (nat_lt (low x) k)) (sym (low_of_rest y))

-- turned round
not_by_halves : (higher same : Bool) (p q : ℕ) (lower : Bool) → nat_lt p q ≡ higher → (p == q) ≡ same → not (by_halves (nat_lt q p) (q == p) lower) ≡ by_halves higher same (not lower)
not_by_halves true same p q lower h e =
    let t = ltb-true p q h in
    let over : nat_lt q p ≡ false = not_below q p (omega (arith, t)) in
    let apart : (q == p) ≡ false = grind (arith, nat_tests) in
    ap (λ (b : Bool). not (by_halves b (q == p) lower)) over ∙ ap (λ (b : Bool). not (by_halves false b lower)) apart
not_by_halves false true p q lower h e =
    let is : p ≡ q = (Decides-eqb p q).0 e in
    let over : nat_lt q p ≡ false = not_below q p (omega (arith, is)) in
    let same : (q == p) ≡ true = (Decides-eqb q p).1 (sym is) in
    ap (λ (b : Bool). not (by_halves b (q == p) lower)) over ∙ ap (λ (b : Bool). not (by_halves false b lower)) same
not_by_halves false false p q lower h e =
    let t = more p q _ refl (at_least p q h) e in
    ap (λ (b : Bool). not (by_halves b (q == p) lower)) (lt-ltb q p t)

pub wide_at_most : (x y : ℤ) → wrapped U32 x ≡ x → wrapped U32 y ≡ y → not (int_lt y x) ≡ by_halves (nat_lt (high x) (high y)) (high x == high y) (nat_le (low x) (low y))
wide_at_most x y ex ey =
    ap not (wide_less y x ey ex) ∙ not_by_halves (nat_lt (high x) (high y)) (high x == high y) (high x) (high y) (nat_lt (low y) (low x)) refl refl
    ∙ ap (by_halves (nat_lt (high x) (high y)) (high x == high y)) (sym (le_is (low x) (low y)))

-- ---- numbers that may be negative: their high halves are compared as such

abbrev pub top : ℤ → ℤ
top x = wrapped I16 (pos (high x))

high_pos : (a : ℕ) → a ≤ 2147483647 → high (pos a) ≡ a / 65536
high_pos a lt = omega (arith, lt)

high_neg : (a : ℕ) → a ≤ 2147483647 → high (negsuc a) ≡ 65535 - a / 65536
high_neg a lt = omega (arith, lt)

top_pos : (a : ℕ) → a ≤ 2147483647 → top (pos a) ≡ pos (a / 65536)
top_pos a lt =
    let few : a / 65536 ≤ 32767 = omega (arith, lt) in
    ap (λ k. wrapped I16 (pos k)) (high_pos a lt) ∙ in_range I16 (pos (a / 65536)) (omega (arith, ints)) (omega (arith, ints, few))

top_neg : (a : ℕ) → a ≤ 2147483647 → top (negsuc a) ≡ negsuc (a / 65536)
top_neg a lt =
    let q : ℕ = a / 65536 in
    let few : q ≤ 32767 = omega (arith, lt) in
    let m : (65535 - q) % 65536 ≡ 65535 - q = omega (arith, few) in
    let g : pos (65535 - q) -ℤ pos 32768 -ℤ pos 32768 ≡ negsuc q = omega (arith, ints, few) in
    ap (λ k. wrapped I16 (pos k)) (high_neg a lt) ∙ ap (λ k. signed_part (pos k) (pos 32768)) m ∙ from_half (65535 - q) 32768 (omega (arith, few)) ∙ g

alike : (h h' e e' l l' : Bool) → h ≡ h' → e ≡ e' → l ≡ l' → by_halves h e l ≡ by_halves h' e' l'
alike h h' e e' l l' p q r = ap (λ u. by_halves u e l) p ∙ ap (λ u. by_halves h' u l) q ∙ ap (by_halves h' e') r

same_test : (p q r s : ℕ) → (p ≡ q → r ≡ s) → (r ≡ s → p ≡ q) → (p == q) ≡ (r == s)
same_test p q r s to from = let d = Decides-eqb p q in same_from_decides (p == q) (r == s) ((λ e. to (d.0 e)), (λ e. d.1 (from e))) (Decides-eqb r s)

same_order : (p q r s : ℕ) (c : Bool) → nat_lt r s ≡ c → (r < s → p < q) → (s ≤ r → q ≤ p) → nat_lt p q ≡ c
same_order p q r s true e less at_most = lt-ltb p q (less (ltb-true r s e))
same_order p q r s false e less at_most = not_below p q (at_most (at_least r s e))

unequal : (p q : ℕ) → p < q → (p == q) ≡ false
unequal p q lt = grind (arith, nat_tests)

pub wide_signed_less : (x y : ℤ) → wrapped I32 x ≡ x → wrapped I32 y ≡ y → int_lt x y ≡ by_halves (int_lt (top x) (top y)) (high x == high y) (nat_lt (low x) (low y))
wide_signed_less (pos a) (pos b) ex ey =
    let ta = (range_of I32 (pos a) ex).1 in
    let tb = (range_of I32 (pos b) ey).1 in
    let ha : a ≤ 2147483647 = omega (arith, ints, ta) in
    let hb : b ≤ 2147483647 = omega (arith, ints, tb) in
    less_by_halves (nat_lt (a / 65536) (b / 65536)) (a / 65536 == b / 65536) a b refl refl
    ∙ sym (alike _ _ _ _ _ _ (ap (λ u. int_lt u (top (pos b))) (top_pos a ha) ∙ ap (int_lt (pos (a / 65536))) (top_pos b hb))
    (ap (λ u. u == high (pos b)) (high_pos a ha) ∙ ap (λ u. a / 65536 == u) (high_pos b hb)) refl)
wide_signed_less (negsuc a) (negsuc b) ex ey =
    let ta = (range_of I32 (negsuc a) ex).0 in
    let tb = (range_of I32 (negsuc b) ey).0 in
    let ha : a ≤ 2147483647 = omega (arith, ints, ta) in
    let hb : b ≤ 2147483647 = omega (arith, ints, tb) in
    let pa = high_neg a ha in
    let pb = high_neg b hb in
    less_by_halves (nat_lt (b / 65536) (a / 65536)) (b / 65536 == a / 65536) b a refl refl
    ∙ sym (alike _ _ _ _ _ _ (ap (λ u. int_lt u (top (negsuc b))) (top_neg a ha) ∙ ap (int_lt (negsuc (a / 65536))) (top_neg b hb))
    (same_test (high (negsuc a)) (high (negsuc b)) (b / 65536) (a / 65536) (λ e. omega (arith, e, pa, pb, ha, hb)) (λ e. omega (arith, e, pa, pb)))
    (same_order (low (negsuc a)) (low (negsuc b)) (b % 65536) (a % 65536) _ refl (λ t. omega (arith, t)) (λ t. omega (arith, t))))
wide_signed_less (pos a) (negsuc b) ex ey =
    let ta = (range_of I32 (pos a) ex).1 in
    let tb = (range_of I32 (negsuc b) ey).0 in
    let ha : a ≤ 2147483647 = omega (arith, ints, ta) in
    let hb : b ≤ 2147483647 = omega (arith, ints, tb) in
    let pa = high_pos a ha in
    let pb = high_neg b hb in
    sym (alike _ false _ false (nat_lt (low (pos a)) (low (negsuc b))) _ (ap (λ u. int_lt u (top (negsuc b))) (top_pos a ha) ∙ ap (int_lt (pos (a / 65536))) (top_neg b hb))
    (unequal (high (pos a)) (high (negsuc b)) (omega (arith, pa, pb, ha, hb))) refl)
wide_signed_less (negsuc a) (pos b) ex ey =
    let ta = (range_of I32 (negsuc a) ex).0 in
    let tb = (range_of I32 (pos b) ey).1 in
    let ha : a ≤ 2147483647 = omega (arith, ints, ta) in
    let hb : b ≤ 2147483647 = omega (arith, ints, tb) in
    sym (ap (λ u. by_halves u (high (negsuc a) == high (pos b)) (nat_lt (low (negsuc a)) (low (pos b))))
    (ap (λ u. int_lt u (top (pos b))) (top_neg a ha) ∙ ap (int_lt (negsuc (a / 65536))) (top_pos b hb)))

pub wide_signed_at_most : (x y : ℤ) → wrapped I32 x ≡ x → wrapped I32 y ≡ y → not (int_lt y x) ≡ by_halves (int_lt (top x) (top y)) (high x == high y) (nat_le (low x) (low y))
wide_signed_at_most (pos a) (pos b) ex ey =
    let ta = (range_of I32 (pos a) ex).1 in
    let tb = (range_of I32 (pos b) ey).1 in
    let ha : a ≤ 2147483647 = omega (arith, ints, ta) in
    let hb : b ≤ 2147483647 = omega (arith, ints, tb) in
    ap not (less_by_halves (nat_lt (b / 65536) (a / 65536)) (b / 65536 == a / 65536) b a refl refl)
    ∙ not_by_halves (nat_lt (a / 65536) (b / 65536)) (a / 65536 == b / 65536) (a / 65536) (b / 65536) (nat_lt (b % 65536) (a % 65536)) refl refl
    ∙ sym (alike _ _ _ _ _ _ (ap (λ u. int_lt u (top (pos b))) (top_pos a ha) ∙ ap (int_lt (pos (a / 65536))) (top_pos b hb))
    (ap (λ u. u == high (pos b)) (high_pos a ha) ∙ ap (λ u. a / 65536 == u) (high_pos b hb)) (le_is (low (pos a)) (low (pos b))))
wide_signed_at_most (negsuc a) (negsuc b) ex ey =
    let ta = (range_of I32 (negsuc a) ex).0 in
    let tb = (range_of I32 (negsuc b) ey).0 in
    let ha : a ≤ 2147483647 = omega (arith, ints, ta) in
    let hb : b ≤ 2147483647 = omega (arith, ints, tb) in
    let pa = high_neg a ha in
    let pb = high_neg b hb in
    ap not (less_by_halves (nat_lt (a / 65536) (b / 65536)) (a / 65536 == b / 65536) a b refl refl)
    ∙ not_by_halves (nat_lt (b / 65536) (a / 65536)) (b / 65536 == a / 65536) (b / 65536) (a / 65536) (nat_lt (a % 65536) (b % 65536)) refl refl
    ∙ sym (alike _ _ _ _ _ _ (ap (λ u. int_lt u (top (negsuc b))) (top_neg a ha) ∙ ap (int_lt (negsuc (a / 65536))) (top_neg b hb))
    (same_test (high (negsuc a)) (high (negsuc b)) (b / 65536) (a / 65536) (λ e. omega (arith, e, pa, pb, ha, hb)) (λ e. omega (arith, e, pa, pb)))
    (le_is (low (negsuc a)) (low (negsuc b)) ∙ ap not (same_order (low (negsuc b)) (low (negsuc a)) (a % 65536) (b % 65536) _ refl (λ t. omega (arith, t)) (λ t. omega (arith, t)))))
wide_signed_at_most (pos a) (negsuc b) ex ey =
    let ta = (range_of I32 (pos a) ex).1 in
    let tb = (range_of I32 (negsuc b) ey).0 in
    let ha : a ≤ 2147483647 = omega (arith, ints, ta) in
    let hb : b ≤ 2147483647 = omega (arith, ints, tb) in
    let pa = high_pos a ha in
    let pb = high_neg b hb in
    sym (alike _ false _ false (nat_le (low (pos a)) (low (negsuc b))) _ (ap (λ u. int_lt u (top (negsuc b))) (top_pos a ha) ∙ ap (int_lt (pos (a / 65536))) (top_neg b hb))
    (unequal (high (pos a)) (high (negsuc b)) (omega (arith, pa, pb, ha, hb))) refl)
wide_signed_at_most (negsuc a) (pos b) ex ey =
    let ta = (range_of I32 (negsuc a) ex).0 in
    let tb = (range_of I32 (pos b) ey).1 in
    let ha : a ≤ 2147483647 = omega (arith, ints, ta) in
    let hb : b ≤ 2147483647 = omega (arith, ints, tb) in
    sym (ap (λ u. by_halves u (high (negsuc a) == high (pos b)) (nat_le (low (negsuc a)) (low (pos b))))
    (ap (λ u. int_lt u (top (pos b))) (top_neg a ha) ∙ ap (int_lt (negsuc (a / 65536))) (top_pos b hb)))

module _ (codes : MidCode) (f : ℕ) (rest : List Activation) (labels : IsLabelled (fn_of codes f).code) (n : ℕ)
    (p : Program) (types : List Ty) (spots : List Spot) (base : ℕ) where
  abbrev code : List Mid
  code = (fn_of codes f).code

  abbrev here : ℕ → (ℕ → ℕ) → (ℕ → ℕ) → List Activation
  here pc values frame = at_here codes f rest labels n p types spots base pc values frame

  abbrev Behind : Ty → (r end : ℕ) → (ℕ → ℕ) → (ℤ → Locals → Behaviour) → Type 0
  Behind ty r end old after = Next codes f rest labels n p types spots base ty r end old after

  by_halves_runs : (higher same lower : Bool) (upper test : Test) (r l pc end : ℕ) (after : ℤ → Locals → Behaviour) (env : Locals) (first values frame : ℕ → ℕ) →
      base ≤ r → holds upper (values (r + 1)) (values (r + 3)) ≡ higher → (values (r + 1) == values (r + 3)) ≡ same → holds test (values r) (values (r + 2)) ≡ lower →
      Stands code pc (Branch upper (r + 1) (r + 3) l ∷ Branch Ne (r + 1) (r + 3) (l + 2) ∷ Branch test r (r + 2) l ∷ Label (l + 2) ∷ truth_code r l) end →
      Holds p types spots base env values frame → Keeps base r first values → Behind (int I16) r end first after →
      Runs codes n (after (truth (by_halves higher same lower)) env) (here pc values frame)
  by_halves_runs true same lower upper test r l pc end after env first values frame le h e m s holds0 k next =
      branch_runs codes f rest labels n (after (pos 1) env) upper (r + 1) (r + 3) l pc (pc + 1 + 1 + 1 + 1 + 1 + 1) values frame s.0 s.1.1.1.1.1.1.0 h
      (last_runs codes f rest labels n p types spots base 1 l (pc + 1 + 1 + 1 + 1 + 1 + 1) end r (pos 1) after env first values frame le refl refl s.1.1.1.1.1.1 holds0 k next)
  by_halves_runs false true true upper test r l pc end after env first values frame le h e m s holds0 k next =
      stay_runs codes f rest labels n (after (pos 1) env) upper (r + 1) (r + 3) l pc values frame s.0 h
      (stay_runs codes f rest labels n (after (pos 1) env) Ne (r + 1) (r + 3) (l + 2) (pc + 1) values frame s.1.0 (ap not e)
      (branch_runs codes f rest labels n (after (pos 1) env) test r (r + 2) l (pc + 1 + 1) (pc + 1 + 1 + 1 + 1 + 1 + 1) values frame s.1.1.0 s.1.1.1.1.1.1.0 m
      (last_runs codes f rest labels n p types spots base 1 l (pc + 1 + 1 + 1 + 1 + 1 + 1) end r (pos 1) after env first values frame le refl refl s.1.1.1.1.1.1 holds0 k next)))
  by_halves_runs false true false upper test r l pc end after env first values frame le h e m s holds0 k next =
      stay_runs codes f rest labels n (after (pos 0) env) upper (r + 1) (r + 3) l pc values frame s.0 h
      (stay_runs codes f rest labels n (after (pos 0) env) Ne (r + 1) (r + 3) (l + 2) (pc + 1) values frame s.1.0 (ap not e)
      (stay_runs codes f rest labels n (after (pos 0) env) test r (r + 2) l (pc + 1 + 1) values frame s.1.1.0 m
      (label_runs codes f rest labels n p types spots base (after (pos 0) env) (l + 2) (pc + 1 + 1 + 1) values frame s.1.1.1.0
      (first_runs codes f rest labels n p types spots base 0 1 l (pc + 1 + 1 + 1 + 1) end r (pos 0) after env first values frame le refl refl s.1.1.1.1 holds0 k next))))
  by_halves_runs false false lower upper test r l pc end after env first values frame le h e m s holds0 k next =
      stay_runs codes f rest labels n (after (pos 0) env) upper (r + 1) (r + 3) l pc values frame s.0 h
      (branch_runs codes f rest labels n (after (pos 0) env) Ne (r + 1) (r + 3) (l + 2) (pc + 1) (pc + 1 + 1 + 1) values frame s.1.0 s.1.1.1.0 (ap not e)
      (label_runs codes f rest labels n p types spots base (after (pos 0) env) (l + 2) (pc + 1 + 1 + 1) values frame s.1.1.1.0
      (first_runs codes f rest labels n p types spots base 0 1 l (pc + 1 + 1 + 1 + 1) end r (pos 0) after env first values frame le refl refl s.1.1.1.1 holds0 k next)))

  pub wide_order_runs : (b : Bool) (upper test : Test) (t : IntType) (x y : ℤ) (r l pc end : ℕ) (after : ℤ → Locals → Behaviour) (env : Locals) (first values frame : ℕ → ℕ) →
      base ≤ r → Is32Bits t → b ≡ by_halves (holds upper (high x) (high y)) (high x == high y) (holds test (low x) (low y)) → IsHeld t x values r → IsHeld t y values (r + 2) →
      Stands code pc (Branch upper (r + 1) (r + 3) l ∷ Branch Ne (r + 1) (r + 3) (l + 2) ∷ Branch test r (r + 2) l ∷ Label (l + 2) ∷ truth_code r l) end →
      Holds p types spots base env values frame → Keeps base r first values → Behind (int I16) r end first after →
      Runs codes n (after (truth b) env) (here pc values frame)
  wide_order_runs b upper test t x y r l pc end after env first values frame le ok is hx hy s h k next =
      let three_is : r + 3 ≡ r + 2 + 1 = omega arith in
      let x_is = high_of t x values r ok hx in
      let y_is = ap values three_is ∙ high_of t y values (r + 2) ok hy in
      subst (λ b. Runs codes n (after (truth b) env) (here pc values frame)) (sym is)
      (by_halves_runs (holds upper (high x) (high y)) (high x == high y) (holds test (low x) (low y)) upper test r l pc end after env first values frame le
      (ap (λ u. holds upper u (values (r + 3))) x_is ∙ ap (holds upper (high x)) y_is) (ap (λ u. u == values (r + 3)) x_is ∙ ap (λ u. high x == u) y_is)
      (ap (λ u. holds test u (values (r + 2))) hx.low_half ∙ ap (holds test (low x)) hy.low_half) s h k next)
