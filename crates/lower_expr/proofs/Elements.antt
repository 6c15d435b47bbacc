-- The code of elements, with its check of the index, does what elements do.
use Rattle.std.proofs.Common.{◌≡◌, ℕ, ◌+◌, ◌*◌, ◌/◌, ◌%◌, ◌<◌, ◌≤◌, Bool, true, false, List, [], ◌∷◌, Some, refl, sym, ap, ◌∙◌, subst, arith}
use Rattle.std.specs.Prelude.{ℤ, pos, negsuc, min, nat_lt, not, unsigned_abs, ◌==◌, if◌then◌else◌}
use Rattle.std.proofs.lemmas.Int.{ints}
use Rattle.std.proofs.lemmas.Bool.{eqb-true, lt-ltb}
use Rattle.std.proofs.lemmas.Bool.Decides.{nat_tests}
use Rattle.std.proofs.lemmas.Nat.{mul-mod_second}
use Rattle.nm_base.specs.declared.int_type.IntType.{IntType}
use Rattle.nm_base.specs.declared.int_type.IntType.TheVariants.{I8, U8, I16, U16, I32, U32}
use Rattle.nm_base.specs.IntType.{wrapped}
use Rattle.nm_base.specs.Behaviour.{Behaviour, Faults}
use Rattle.nesc_core.specs.Plain.{Ty, Program}
use Rattle.core_meaning.specs.Numbers.{residue}
use Rattle.core_meaning.specs.Work.{Locals, give, moved}
use Rattle.core_meaning.specs.Act.{element}
use Rattle.core_meaning.specs.declared.access.Where.{Where}
use Rattle.mid_code.specs.declared.instr.Op.TheVariants.{Add}
use Rattle.mid_code.specs.declared.instr.Test.TheVariants.{Ne, LtU}
use Rattle.mid_code.specs.declared.instr.Mid.{Mid}
use Rattle.mid_code.specs.declared.instr.Mid.TheVariants.{Set, Bin, Branch, Fault, Label, Help}
use Rattle.mid_code.specs.declared.code.MidCode.{MidCode}
use Rattle.mid_code.specs.Machine.{Activation, fn_of, help_to, put}
use Rattle.mid_code.specs.Words.{holds, operate}
use Rattle.mid_code.specs.Help.{helped, is_wide}
use Rattle.mid_code.specs.Runs.{IsLabelled, Runs, Stands}
use Rattle.mid_code.proofs.Runs.{goes, stops}
use Rattle.mid_code.proofs.Stands.{does, at_end, branch_runs, stay_runs}
use Rattle.mid_code.proofs.Written.{put_same, put_other}
use Rattle.lower_expr.specs.declared.spot.Spot.{Spot}
use Rattle.lower_expr.specs.Held.{IsHeld, high, low}
use Rattle.lower_expr.specs.Runs.{Keeps}
use Rattle.lower_expr.specs.Locals.{Holds}
use Rattle.lower_expr.specs.Pieces.{bound_code, index_bound, scaled_code}
use Rattle.lower_expr.proofs.Values.{keeps_put, keeps_refl, holds_put}
use Rattle.lower_expr.proofs.Numbers.{low_of_rest, low_small, not_below, range_of, rest_small}
use Rattle.lower_expr.proofs.Order.{by_halves, less_by_halves}
use Rattle.lower_expr.proofs.Wide.{bin_runs, high_of, wide_is}
use Rattle.lower_expr.proofs.Pieces.{at_here, label_runs, set_runs}

-- ---- an index in its bounds

abbrev pub in_bounds : ℤ → ℕ → Bool
in_bounds (pos i) count = nat_lt i count
in_bounds (negsuc i) count = false

pub element_is : (count size : ℕ) (w : Where) (i : ℤ) (after : Where → Locals → Behaviour) (env : Locals) →
    element count size w i after env ≡ (if in_bounds i count then after (moved w (unsigned_abs i * size)) env else Faults 1)
element_is count size w (pos i) after env = by_test (nat_lt i count)
  where
    by_test : (b : Bool) → (if b then give (moved w (i * size)) else (λ (k : Where → Locals → Behaviour) (l : Locals). Faults 1)) after env ≡ (if b then after (moved w (i * size)) env else Faults 1)
    by_test true = refl
    by_test false = refl
element_is count size w (negsuc i) after env = refl

below_least : (i count most : ℕ) → i < most → nat_lt i (min count most) ≡ nat_lt i count
below_least i count most lt = grind (arith, nat_tests)

not_least : (i count most : ℕ) → most ≤ i → nat_lt i (min count most) ≡ false
not_least i count most le = not_below i (min count most) (omega arith)

-- of numbers of at most 16 bits
short_bound : (t : IntType) → is_wide t ≡ false → (i : ℤ) (count : ℕ) → wrapped t i ≡ i → nat_lt (low i) (index_bound t count) ≡ in_bounds i count
short_bound I8 n (pos a) count e = let h = (range_of I8 (pos a) e).1 in let few : a ≤ 127 = omega (arith, ints, h) in let same : a % 65536 ≡ a = omega (arith, few) in ap (λ k. nat_lt k (min count 32768)) same ∙ below_least a count 32768 (omega (arith, few))
short_bound I8 n (negsuc a) count e = let h = (range_of I8 (negsuc a) e).0 in let few : a ≤ 127 = omega (arith, ints, h) in not_least (low (negsuc a)) count 32768 (omega (arith, few))
short_bound U8 n (pos a) count e = let h = (range_of U8 (pos a) e).1 in let few : a ≤ 255 = omega (arith, ints, h) in let same : a % 65536 ≡ a = omega (arith, few) in ap (λ k. nat_lt k (min count 65536)) same ∙ below_least a count 65536 (omega (arith, few))
short_bound U8 n (negsuc a) count e = let h = (range_of U8 (negsuc a) e).0 in absurd (omega (arith, ints, h))
short_bound I16 n (pos a) count e = let h = (range_of I16 (pos a) e).1 in let few : a ≤ 32767 = omega (arith, ints, h) in let same : a % 65536 ≡ a = omega (arith, few) in ap (λ k. nat_lt k (min count 32768)) same ∙ below_least a count 32768 (omega (arith, few))
short_bound I16 n (negsuc a) count e = let h = (range_of I16 (negsuc a) e).0 in let few : a ≤ 32767 = omega (arith, ints, h) in not_least (low (negsuc a)) count 32768 (omega (arith, few))
short_bound U16 n (pos a) count e = let h = (range_of U16 (pos a) e).1 in let few : a ≤ 65535 = omega (arith, ints, h) in let same : a % 65536 ≡ a = omega (arith, few) in ap (λ k. nat_lt k (min count 65536)) same ∙ below_least a count 65536 (omega (arith, few))
short_bound U16 n (negsuc a) count e = let h = (range_of U16 (negsuc a) e).0 in absurd (omega (arith, ints, h))
short_bound I32 n i count e = absurd (cc)
short_bound U32 n i count e = absurd (cc)

wide_bound : (t : IntType) → is_wide t ≡ true → (i : ℤ) (count : ℕ) → wrapped t i ≡ i → nat_lt (residue 32 i) (index_bound t count) ≡ in_bounds i count
wide_bound I32 n (pos a) count e = let h = (range_of I32 (pos a) e).1 in let few : a ≤ 2147483647 = omega (arith, ints, h) in let same : a % 4294967296 ≡ a = omega (arith, few) in ap (λ k. nat_lt k (min count 2147483648)) same ∙ below_least a count 2147483648 (omega (arith, few))
wide_bound I32 n (negsuc a) count e = let h = (range_of I32 (negsuc a) e).0 in let few : a ≤ 2147483647 = omega (arith, ints, h) in not_least (residue 32 (negsuc a)) count 2147483648 (omega (arith, few))
wide_bound U32 n (pos a) count e = let h = (range_of U32 (pos a) e).1 in let few : a ≤ 4294967295 = omega (arith, ints, h) in let same : a % 4294967296 ≡ a = omega (arith, few) in ap (λ k. nat_lt k (min count 4294967296)) same ∙ below_least a count 4294967296 (omega (arith, few))
wide_bound U32 n (negsuc a) count e = let h = (range_of U32 (negsuc a) e).0 in absurd (omega (arith, ints, h))
wide_bound I8 n i count e = absurd (cc)
wide_bound U8 n i count e = absurd (cc)
wide_bound I16 n i count e = absurd (cc)
wide_bound U16 n i count e = absurd (cc)

halves_tested : (b : ℕ) (i : ℤ) → nat_lt (residue 32 i) b ≡ by_halves (nat_lt (high i) (b / 65536)) (high i == b / 65536) (nat_lt (low i) (b % 65536))
halves_tested b i =
    less_by_halves (nat_lt (high i) (b / 65536)) (high i == b / 65536) (residue 32 i) b refl refl
    ∙ ap (λ m. by_halves (nat_lt (high i) (b / 65536)) (high i == b / 65536) (nat_lt m (b % 65536))) (sym (low_of_rest i))

scaled_once : (m size : ℕ) → m < 65536 → (size == 1) ≡ true → m ≡ (m * size) % 65536
scaled_once m size lt e = let one = eqb-true size 1 e in let product : m * 1 ≡ m = omega arith in let same : m ≡ (m * 1) % 65536 = omega (arith, lt, product) in same ∙ ap (λ s. (m * s) % 65536) (sym one)

scaled_twice : (m size : ℕ) → (size == 2) ≡ true → (m + m) % 65536 ≡ (m * size) % 65536
scaled_twice m size e = let two = eqb-true size 2 e in let same : (m + m) % 65536 ≡ (m * 2) % 65536 = omega arith in same ∙ ap (λ s. (m * s) % 65536) (sym two)

scaled_four : (m size : ℕ) → (size == 4) ≡ true → ((m + m) % 65536 + (m + m) % 65536) % 65536 ≡ (m * size) % 65536
scaled_four m size e = let four = eqb-true size 4 e in let same : ((m + m) % 65536 + (m + m) % 65536) % 65536 ≡ (m * 4) % 65536 = omega arith in same ∙ ap (λ s. (m * s) % 65536) (sym four)

twice_rest : (k : ℕ) → k % 65536 % 65536 ≡ k % 65536
twice_rest k = omega arith

module _ (codes : MidCode) (f : ℕ) (rest : List Activation) (labels : IsLabelled (fn_of codes f).code) (n : ℕ)
    (p : Program) (types : List Ty) (spots : List Spot) (base : ℕ) where
  abbrev code : List Mid
  code = (fn_of codes f).code

  abbrev here : ℕ → (ℕ → ℕ) → (ℕ → ℕ) → List Activation
  here pc values frame = at_here codes f rest labels n p types spots base pc values frame

  -- what is written from s on, and goes on at a place
  abbrev pub Onward : (s mid : ℕ) → (ℕ → ℕ) → (ℕ → ℕ) → Locals → Behaviour → Type 0
  Onward s mid old frame env b = (new : ℕ → ℕ) → Holds p types spots base env new frame → Keeps base s old new → Runs codes n b (here mid new frame)

  abbrev or_fault_1 : Bool → Behaviour → Behaviour
  or_fault_1 ok b = if ok then b else Faults 1

  -- a jump over the fault, where the test holds
  passed_or_fault : (c : Bool) (x y l pc mid : ℕ) (b : Behaviour) (values frame : ℕ → ℕ) →
      holds LtU (values x) (values y) ≡ c → Stands code pc (Branch LtU x y l ∷ Fault 1 ∷ Label l ∷ []) mid →
      (c ≡ true → Runs codes n b (here mid values frame)) → Runs codes n (or_fault_1 c b) (here pc values frame)
  passed_or_fault true x y l pc mid b values frame met s go =
      branch_runs codes f rest labels n b LtU x y l pc (pc + 1 + 1) values frame s.0 s.1.1.0 met
      (label_runs codes f rest labels n p types spots base b l (pc + 1 + 1) values frame s.1.1.0
      (at_end codes f rest n b (pc + 1 + 1 + 1) mid values frame s.1.1.1 (go refl)))
  passed_or_fault false x y l pc mid b values frame unmet s go =
      stay_runs codes f rest labels n (Faults 1) LtU x y l pc values frame s.0 unmet
      (stops codes n 1 (here (pc + 1) values frame) (does codes f rest (pc + 1) values frame (Fault 1) s.1.0))

  short_bound_by : (full : Bool) (bound r l pc mid : ℕ) (i : ℤ) (b : Behaviour) (env : Locals) (values frame : ℕ → ℕ) →
      base ≤ r → (bound == 65536) ≡ full → values (r + 2) ≡ low i →
      Stands code pc (if full then [] else Set (r + 4) bound ∷ Branch LtU (r + 2) (r + 4) l ∷ Fault 1 ∷ Label l ∷ []) mid →
      Holds p types spots base env values frame → (nat_lt (low i) bound ≡ true → Onward (r + 4) mid values frame env b) → Runs codes n (or_fault_1 (nat_lt (low i) bound) b) (here pc values frame)
  short_bound_by true bound r l pc mid i b env values frame le full at s held go =
      let all : nat_lt (low i) bound ≡ true = ap (nat_lt (low i)) (eqb-true bound 65536 full) ∙ lt-ltb (low i) 65536 (low_small i) in
      subst (λ c. Runs codes n (or_fault_1 c b) (here pc values frame)) (sym all)
      (at_end codes f rest n b pc mid values frame s (go all values held (keeps_refl base (r + 4) values)))
  short_bound_by false bound r l pc mid i b env values frame le full at s held go =
      let one : ℕ → ℕ = put values (r + 4) bound in
      let met : holds LtU (one (r + 2)) (one (r + 4)) ≡ nat_lt (low i) bound =
      ap (λ u. nat_lt u (one (r + 4))) (put_other values (r + 4) bound (r + 2) (λ e. omega arith) ∙ at) ∙ ap (nat_lt (low i)) (put_same values (r + 4) bound) in
      set_runs codes f rest labels n p types spots base (or_fault_1 (nat_lt (low i) bound) b) (r + 4) bound pc values frame s.0
      (passed_or_fault (nat_lt (low i) bound) (r + 2) (r + 4) l (pc + 1) mid b one frame met s.1
      (λ yes. go yes one (holds_put base p types spots env values frame (r + 4) bound (omega arith) held) (keeps_put base (r + 4) (r + 4) bound values values (omega arith) (keeps_refl base (r + 4) values))))

  last_by : (d : Bool) (r l pc mid : ℕ) (b : Behaviour) (values frame : ℕ → ℕ) → holds LtU (values (r + 2)) (values (r + 4)) ≡ d →
      Stands code pc (Branch LtU (r + 2) (r + 4) l ∷ Label (l + 1) ∷ Fault 1 ∷ Label l ∷ []) mid → (d ≡ true → Runs codes n b (here mid values frame)) →
      Runs codes n (or_fault_1 d b) (here pc values frame)
  last_by true r l pc mid b values frame met s go =
      branch_runs codes f rest labels n b LtU (r + 2) (r + 4) l pc (pc + 1 + 1 + 1) values frame s.0 s.1.1.1.0 met
      (label_runs codes f rest labels n p types spots base b l (pc + 1 + 1 + 1) values frame s.1.1.1.0
      (at_end codes f rest n b (pc + 1 + 1 + 1 + 1) mid values frame s.1.1.1.1 (go refl)))
  last_by false r l pc mid b values frame unmet s go =
      stay_runs codes f rest labels n (Faults 1) LtU (r + 2) (r + 4) l pc values frame s.0 unmet
      (label_runs codes f rest labels n p types spots base (Faults 1) (l + 1) (pc + 1) values frame s.1.0
      (stops codes n 1 (here (pc + 1 + 1) values frame) (does codes f rest (pc + 1 + 1) values frame (Fault 1) s.1.1.0)))

  same_by : (c d : Bool) (bound r l pc mid : ℕ) (i : ℤ) (b : Behaviour) (env : Locals) (old values frame : ℕ → ℕ) → base ≤ r →
      holds Ne (values (r + 3)) (values (r + 4)) ≡ not c → nat_lt (low i) (bound % 65536) ≡ d → values (r + 2) ≡ low i →
      Stands code pc (Branch Ne (r + 3) (r + 4) (l + 1) ∷ Set (r + 4) (bound % 65536) ∷ Branch LtU (r + 2) (r + 4) l ∷ Label (l + 1) ∷ Fault 1 ∷ Label l ∷ []) mid →
      Holds p types spots base env values frame → Keeps base (r + 4) old values → (by_halves false c d ≡ true → Onward (r + 4) mid old frame env b) →
      Runs codes n (or_fault_1 (by_halves false c d) b) (here pc values frame)
  same_by false d bound r l pc mid i b env old values frame le differ ed low_i s held k go =
      branch_runs codes f rest labels n (Faults 1) Ne (r + 3) (r + 4) (l + 1) pc (pc + 1 + 1 + 1) values frame s.0 s.1.1.1.0 differ
      (label_runs codes f rest labels n p types spots base (Faults 1) (l + 1) (pc + 1 + 1 + 1) values frame s.1.1.1.0
      (stops codes n 1 (here (pc + 1 + 1 + 1 + 1) values frame) (does codes f rest (pc + 1 + 1 + 1 + 1) values frame (Fault 1) s.1.1.1.1.0)))
  same_by true d bound r l pc mid i b env old values frame le differ ed low_i s held k go =
      let two : ℕ → ℕ = put values (r + 4) (bound % 65536) in
      let met : holds LtU (two (r + 2)) (two (r + 4)) ≡ d =
      ap (λ u. nat_lt u (two (r + 4))) (put_other values (r + 4) (bound % 65536) (r + 2) (λ e. omega arith) ∙ low_i) ∙ ap (nat_lt (low i)) (put_same values (r + 4) (bound % 65536)) ∙ ed in
      stay_runs codes f rest labels n (or_fault_1 d b) Ne (r + 3) (r + 4) (l + 1) pc values frame s.0 differ
      (set_runs codes f rest labels n p types spots base (or_fault_1 d b) (r + 4) (bound % 65536) (pc + 1) values frame s.1.0
      (last_by d r l (pc + 1 + 1) mid b two frame met s.1.1
      (λ yes. go yes two (holds_put base p types spots env values frame (r + 4) (bound % 65536) (omega arith) held) (keeps_put base (r + 4) (r + 4) (bound % 65536) old values (omega arith) k))))

  -- by the high halves, and where they are equal by the low ones
  wide_bound_by : (a c d : Bool) (bound r l pc mid : ℕ) (i : ℤ) (b : Behaviour) (env : Locals) (values frame : ℕ → ℕ) →
      base ≤ r → nat_lt (high i) (bound / 65536) ≡ a → (high i == bound / 65536) ≡ c → nat_lt (low i) (bound % 65536) ≡ d → values (r + 2) ≡ low i → values (r + 3) ≡ high i →
      Stands code pc (Set (r + 4) (bound / 65536) ∷ Branch LtU (r + 3) (r + 4) l ∷ Branch Ne (r + 3) (r + 4) (l + 1)
      ∷ Set (r + 4) (bound % 65536) ∷ Branch LtU (r + 2) (r + 4) l ∷ Label (l + 1) ∷ Fault 1 ∷ Label l ∷ []) mid →
      Holds p types spots base env values frame → (by_halves a c d ≡ true → Onward (r + 4) mid values frame env b) → Runs codes n (or_fault_1 (by_halves a c d) b) (here pc values frame)
  wide_bound_by true c d bound r l pc mid i b env values frame le ea ec ed low_i high_i s held go =
      let one : ℕ → ℕ = put values (r + 4) (bound / 65536) in
      let met : holds LtU (one (r + 3)) (one (r + 4)) ≡ true =
      ap (λ u. nat_lt u (one (r + 4))) (put_other values (r + 4) (bound / 65536) (r + 3) (λ e. omega arith) ∙ high_i) ∙ ap (nat_lt (high i)) (put_same values (r + 4) (bound / 65536)) ∙ ea in
      set_runs codes f rest labels n p types spots base b (r + 4) (bound / 65536) pc values frame s.0
      (branch_runs codes f rest labels n b LtU (r + 3) (r + 4) l (pc + 1) (pc + 1 + 1 + 1 + 1 + 1 + 1 + 1) one frame s.1.0 s.1.1.1.1.1.1.1.0 met
      (label_runs codes f rest labels n p types spots base b l (pc + 1 + 1 + 1 + 1 + 1 + 1 + 1) one frame s.1.1.1.1.1.1.1.0
      (at_end codes f rest n b (pc + 1 + 1 + 1 + 1 + 1 + 1 + 1 + 1) mid one frame s.1.1.1.1.1.1.1.1
      (go refl one (holds_put base p types spots env values frame (r + 4) (bound / 65536) (omega arith) held)
      (keeps_put base (r + 4) (r + 4) (bound / 65536) values values (omega arith) (keeps_refl base (r + 4) values))))))
  wide_bound_by false c d bound r l pc mid i b env values frame le ea ec ed low_i high_i s held go =
      let one : ℕ → ℕ = put values (r + 4) (bound / 65536) in
      let at_high : one (r + 3) ≡ high i = put_other values (r + 4) (bound / 65536) (r + 3) (λ e. omega arith) ∙ high_i in
      let unmet : holds LtU (one (r + 3)) (one (r + 4)) ≡ false = ap (λ u. nat_lt u (one (r + 4))) at_high ∙ ap (nat_lt (high i)) (put_same values (r + 4) (bound / 65536)) ∙ ea in
      let differ : holds Ne (one (r + 3)) (one (r + 4)) ≡ not c = ap (λ u. not (u == one (r + 4))) at_high ∙ ap (λ u. not (high i == u)) (put_same values (r + 4) (bound / 65536)) ∙ ap not ec in
      let all : Behaviour = or_fault_1 (by_halves false c d) b in
      set_runs codes f rest labels n p types spots base all (r + 4) (bound / 65536) pc values frame s.0
      (stay_runs codes f rest labels n all LtU (r + 3) (r + 4) l (pc + 1) one frame s.1.0 unmet
      (same_by c d bound r l (pc + 1 + 1) mid i b env values one frame le differ ed
      (put_other values (r + 4) (bound / 65536) (r + 2) (λ e. omega arith) ∙ low_i) s.1.1
      (holds_put base p types spots env values frame (r + 4) (bound / 65536) (omega arith) held)
      (keeps_put base (r + 4) (r + 4) (bound / 65536) values values (omega arith) (keeps_refl base (r + 4) values)) go))

  full_bound_by : (full : Bool) (bound r l pc mid : ℕ) (i : ℤ) (b : Behaviour) (env : Locals) (values frame : ℕ → ℕ) →
      base ≤ r → (bound == 4294967296) ≡ full → values (r + 2) ≡ low i → values (r + 3) ≡ high i →
      Stands code pc (if full then [] else Set (r + 4) (bound / 65536) ∷ Branch LtU (r + 3) (r + 4) l ∷ Branch Ne (r + 3) (r + 4) (l + 1)
      ∷ Set (r + 4) (bound % 65536) ∷ Branch LtU (r + 2) (r + 4) l ∷ Label (l + 1) ∷ Fault 1 ∷ Label l ∷ []) mid →
      Holds p types spots base env values frame → (nat_lt (residue 32 i) bound ≡ true → Onward (r + 4) mid values frame env b) → Runs codes n (or_fault_1 (nat_lt (residue 32 i) bound) b) (here pc values frame)
  full_bound_by true bound r l pc mid i b env values frame le full low_i high_i s held go =
      let all : nat_lt (residue 32 i) bound ≡ true = ap (nat_lt (residue 32 i)) (eqb-true bound 4294967296 full) ∙ lt-ltb (residue 32 i) 4294967296 (rest_small i) in
      subst (λ c. Runs codes n (or_fault_1 c b) (here pc values frame)) (sym all)
      (at_end codes f rest n b pc mid values frame s (go all values held (keeps_refl base (r + 4) values)))
  full_bound_by false bound r l pc mid i b env values frame le full low_i high_i s held go =
      subst (λ c. Runs codes n (or_fault_1 c b) (here pc values frame)) (sym (halves_tested bound i))
      (wide_bound_by (nat_lt (high i) (bound / 65536)) (high i == bound / 65536) (nat_lt (low i) (bound % 65536)) bound r l pc mid i b env values frame le refl refl refl low_i high_i s held
      (λ yes. go (halves_tested bound i ∙ yes)))

  pub bound_runs : (wide : Bool) (t : IntType) (count r l pc mid : ℕ) (i : ℤ) (b : Behaviour) (env : Locals) (values frame : ℕ → ℕ) →
      base ≤ r → is_wide t ≡ wide → IsHeld t i values (r + 2) → Stands code pc (bound_code wide (index_bound t count) r l) mid →
      Holds p types spots base env values frame → (in_bounds i count ≡ true → Onward (r + 4) mid values frame env b) →
      Runs codes n (if in_bounds i count then b else Faults 1) (here pc values frame)
  bound_runs false t count r l pc mid i b env values frame le narrow hi s held go =
      let e = short_bound t narrow i count hi.number in
      subst (λ c. Runs codes n (or_fault_1 c b) (here pc values frame)) e
      (short_bound_by (index_bound t count == 65536) (index_bound t count) r l pc mid i b env values frame le refl hi.low_half s held (λ yes. go (sym e ∙ yes)))
  bound_runs true t count r l pc mid i b env values frame le wide hi s held go =
      let e = wide_bound t wide i count hi.number in
      let three_is : r + 3 ≡ r + 2 + 1 = omega arith in
      subst (λ c. Runs codes n (or_fault_1 c b) (here pc values frame)) e
      (full_bound_by (index_bound t count == 4294967296) (index_bound t count) r l pc mid i b env values frame le refl hi.low_half (ap values three_is ∙ high_of t i values (r + 2) (wide_is t wide) hi) s held (λ yes. go (sym e ∙ yes)))

  -- ---- a word times a size

  abbrev Scaled : (size r mid : ℕ) → (ℕ → ℕ) → (ℕ → ℕ) → Locals → Behaviour → Type 0
  Scaled size r mid old frame env b = (new : ℕ → ℕ) → Holds p types spots base env new frame → Keeps base r old new → new r ≡ (old r * size) % 65536 → Runs codes n b (here mid new frame)

  scaled_by : (one two four : Bool) (size r pc mid : ℕ) (b : Behaviour) (env : Locals) (values frame : ℕ → ℕ) →
      base ≤ r → (size == 1) ≡ one → (size == 2) ≡ two → (size == 4) ≡ four → values r < 65536 →
      Stands code pc (if one then [] else if two then Bin Add r r r ∷ [] else if four then Bin Add r r r ∷ Bin Add r r r ∷ []
      else Set (r + 2) (size % 65536) ∷ Help 24 (r ∷ (r + 2) ∷ []) (r ∷ []) ∷ []) mid →
      Holds p types spots base env values frame → Scaled size r mid values frame env b → Runs codes n b (here pc values frame)
  scaled_by true two four size r pc mid b env values frame le e1 e2 e4 few s held go =
      at_end codes f rest n b pc mid values frame s (go values held (keeps_refl base r values) (scaled_once (values r) size few e1))
  scaled_by false true four size r pc mid b env values frame le e1 e2 e4 few s held go =
      let x : ℕ = operate Add (values r) (values r) in
      bin_runs codes f rest labels n p types spots base b Add r r r pc values frame s.0
      (at_end codes f rest n b (pc + 1) mid (put values r x) frame s.1
      (go (put values r x) (holds_put base p types spots env values frame r x le held) (keeps_put base r r x values values (omega arith) (keeps_refl base r values))
      (put_same values r x ∙ scaled_twice (values r) size e2)))
  scaled_by false false true size r pc mid b env values frame le e1 e2 e4 few s held go =
      let x : ℕ = operate Add (values r) (values r) in
      let one : ℕ → ℕ = put values r x in
      let y : ℕ = operate Add (one r) (one r) in
      bin_runs codes f rest labels n p types spots base b Add r r r pc values frame s.0
      (bin_runs codes f rest labels n p types spots base b Add r r r (pc + 1) one frame s.1.0
      (at_end codes f rest n b (pc + 1 + 1) mid (put one r y) frame s.1.1
      (go (put one r y) (holds_put base p types spots env one frame r y le (holds_put base p types spots env values frame r x le held))
      (keeps_put base r r y values one (omega arith) (keeps_put base r r x values values (omega arith) (keeps_refl base r values)))
      (put_same one r y ∙ ap (λ u. operate Add u u) (put_same values r x) ∙ scaled_four (values r) size e4))))
  scaled_by false false false size r pc mid b env values frame le e1 e2 e4 few s held go =
      let one : ℕ → ℕ = put values (r + 2) (size % 65536) in
      let m : ℕ = (one r * one (r + 2)) % 65536 % 65536 in
      let m_is : m ≡ (values r * size) % 65536 =
      twice_rest (one r * one (r + 2)) ∙ ap (λ u. (u * one (r + 2)) % 65536) (put_other values (r + 2) (size % 65536) r (λ e. omega arith))
      ∙ ap (λ u. (values r * u) % 65536) (put_same values (r + 2) (size % 65536)) ∙ mul-mod_second (values r) size 65536 in
      let given : helped codes 24 (one r ∷ one (r + 2) ∷ []) ≡ Some (m ∷ []) = refl in
      set_runs codes f rest labels n p types spots base b (r + 2) (size % 65536) pc values frame s.0
      (goes codes n b _ (here (pc + 1 + 1) (put one r m) frame)
      (does codes f rest (pc + 1) one frame (Help 24 (r ∷ (r + 2) ∷ []) (r ∷ [])) s.1.0 ∙ ap (help_to (record { f = f; at = pc + 1; values = one; frame = frame }) rest (r ∷ [])) given)
      (at_end codes f rest n b (pc + 1 + 1) mid (put one r m) frame s.1.1
      (go (put one r m) (holds_put base p types spots env one frame r m le (holds_put base p types spots env values frame (r + 2) (size % 65536) (omega arith) held))
      (keeps_put base r r m values one (omega arith) (keeps_put base r (r + 2) (size % 65536) values values (omega arith) (keeps_refl base r values)))
      (put_same one r m ∙ m_is))))

  pub scaled_runs : (size r pc mid : ℕ) (b : Behaviour) (env : Locals) (values frame : ℕ → ℕ) → base ≤ r → values r < 65536 → Stands code pc (scaled_code size r) mid →
      Holds p types spots base env values frame → Scaled size r mid values frame env b → Runs codes n b (here pc values frame)
  scaled_runs size r pc mid b env values frame le few s held go = scaled_by (size == 1) (size == 2) (size == 4) size r pc mid b env values frame le refl refl refl few s held go
