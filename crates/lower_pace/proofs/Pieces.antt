-- The code of operations keeps an action near.
use Rattle.std.proofs.Common.{ℕ, ◌+◌, ◌*◌, ◌%◌, ◌/◌, ◌≤◌, Bool, true, false, List, [], ◌∷◌, ◌++◌, Option, Some, None, refl, arith}
use Rattle.std.specs.Prelude.{ℤ, ◌==◌, if◌then◌else◌}
use Rattle.nm_base.specs.declared.int_type.IntType.{IntType}
use Rattle.nm_base.specs.declared.int_type.IntType.TheVariants.{I8, U8, I16, U16, I32, U32}
use Rattle.nesc_core.specs.declared.tree.UnOp.{UnOp}
use Rattle.nesc_core.specs.declared.tree.UnOp.TheVariants as un
use Rattle.nesc_core.specs.declared.tree.BinOp.{BinOp}
use Rattle.nesc_core.specs.declared.tree.BinOp.TheVariants as bin
use Rattle.mid_code.specs.declared.instr.Mid.{Mid}
use Rattle.mid_code.specs.declared.instr.Mid.TheVariants.{Set, Bin, Label, Jump, Branch, Help, Fault}
use Rattle.mid_code.specs.declared.help.HelpOp.{HelpOp}
use Rattle.mid_code.specs.declared.help.HelpOp.TheVariants as help_op
use Rattle.mid_code.specs.declared.instr.Op.{Op}
use Rattle.mid_code.specs.declared.instr.Op.TheVariants.{Add, Sub, And, Or, Xor}
use Rattle.mid_code.specs.declared.instr.Test.{Test}
use Rattle.mid_code.specs.declared.instr.Test.TheVariants.{Eq, Ne, Lt, Le, LtU, LeU}
use Rattle.mid_code.specs.Help.{is_wide, number_of_help}
use Rattle.lower_expr.specs.declared.spot.Regs.{Regs}
use Rattle.lower_expr.specs.declared.spot.Spot.{Spot}
use Rattle.lower_expr.specs.declared.spot.Spot.TheVariants.{Values, Frame}
use Rattle.lower_expr.specs.Held.{is_signed}
use Rattle.lower_expr.specs.Pieces.{binary_code, bits_code, bound_code, const_code, convert_code, count_code, distance_code, divisor_code, element_code, equal_code, fit_code, high_code, index_bound, move_code, offset_code, order_code, product_code, scaled_code, shift_code, sum_code, truth_code, unary_code, values_at, zero_code}
use Rattle.lower_expr.specs.Code.{Kind, InValues, InFrame, InMemory, address_code, fetch_code, keep_code, load_code, local_code, peek_code, put_code, take_code}
use Rattle.lower_pace.proofs.Flow.{Flow, Leads, Plain, Setting, branch, flow_more, helps, if_flows, if_plain, jump, label, leads_here, leads_more, leads_over, leads_past, plains, regroup}

-- ---- plain pieces

pub const_plain : (t : IntType) (x : ℤ) (r : ℕ) → Plain 2 (const_code t x r)
const_plain t x r = if_plain (is_wide t) 2 _ _ (record { all = refl; short = omega arith }) (record { all = refl; short = omega arith })

pub move_plain : (wide : Bool) (d r : ℕ) → Plain 2 (move_code wide d r)
move_plain true d r = record { all = refl; short = omega arith }
move_plain false d r = record { all = refl; short = omega arith }

pub fit_plain : (t : IntType) (r : ℕ) → Plain 5 (fit_code t r)
fit_plain I8 r = record { all = refl; short = omega arith }
fit_plain U8 r = record { all = refl; short = omega arith }
fit_plain I16 r = record { all = refl; short = omega arith }
fit_plain U16 r = record { all = refl; short = omega arith }
fit_plain I32 r = record { all = refl; short = omega arith }
fit_plain U32 r = record { all = refl; short = omega arith }

pub sum_plain : (op : Op) (wide : Bool) (r : ℕ) → Plain 4 (sum_code op wide r)
sum_plain op true r = record { all = refl; short = omega arith }
sum_plain op false r = record { all = refl; short = omega arith }

pub bits_plain : (op : Op) (wide : Bool) (r : ℕ) → Plain 4 (bits_code op wide r)
bits_plain op true r = record { all = refl; short = omega arith }
bits_plain op false r = record { all = refl; short = omega arith }

pub load_plain : (t : IntType) (d r : ℕ) → Plain 6 (load_code t d r)
load_plain I8 d r = record { all = refl; short = omega arith }
load_plain U8 d r = record { all = refl; short = omega arith }
load_plain I16 d r = record { all = refl; short = omega arith }
load_plain U16 d r = record { all = refl; short = omega arith }
load_plain I32 d r = record { all = refl; short = omega arith }
load_plain U32 d r = record { all = refl; short = omega arith }

pub peek_plain : (t : IntType) (d r : ℕ) → Plain 6 (peek_code t d r)
peek_plain I8 d r = record { all = refl; short = omega arith }
peek_plain U8 d r = record { all = refl; short = omega arith }
peek_plain I16 d r = record { all = refl; short = omega arith }
peek_plain U16 d r = record { all = refl; short = omega arith }
peek_plain I32 d r = record { all = refl; short = omega arith }
peek_plain U32 d r = record { all = refl; short = omega arith }

pub take_plain : (wide : Bool) (regs : Regs) (d : ℕ) → Plain 6 (take_code wide regs d)
take_plain true regs d = record { all = refl; short = omega arith }
take_plain false regs d = record { all = refl; short = omega arith }

pub keep_plain : (wide : Bool) (regs : Regs) (v : ℕ) → Plain 4 (keep_code wide regs v)
keep_plain true regs v = record { all = refl; short = omega arith }
keep_plain false regs v = record { all = refl; short = omega arith }

pub fetch_plain : (kind : Kind) (t : IntType) (d r : ℕ) → Plain 6 (fetch_code kind t d r)
fetch_plain (InValues regs) t d r = take_plain (is_wide t) regs d
fetch_plain InFrame t d r = peek_plain t d r
fetch_plain InMemory t d r = load_plain t d r

pub put_plain : (kind : Kind) (t : IntType) (v r : ℕ) → Plain 4 (put_code kind t v r)
put_plain (InValues regs) t v r = keep_plain (is_wide t) regs v
put_plain InFrame t v r = if_plain (is_wide t) 4 _ _ (record { all = refl; short = omega arith }) (record { all = refl; short = omega arith })
put_plain InMemory t v r = if_plain (is_wide t) 4 _ _ (record { all = refl; short = omega arith }) (record { all = refl; short = omega arith })

pub local_plain : (o : Option Spot) (r : ℕ) → Plain 1 (local_code o r)
local_plain None r = record { all = refl; short = omega arith }
local_plain (Some (Values regs)) r = record { all = refl; short = omega arith }
local_plain (Some (Frame o)) r = record { all = refl; short = omega arith }

pub address_plain : (kind : Kind) (r : ℕ) → Plain 1 (address_code kind r)
address_plain (InValues regs) r = record { all = refl; short = omega arith }
address_plain InFrame r = record { all = refl; short = omega arith }
address_plain InMemory r = record { all = refl; short = omega arith }

module _ (given : Setting) where
  abbrev F : ℕ → List Mid → Type 0
  F n u = Flow given n u

  -- ---- pieces with labels

  pub truth_flows : (n m r l : ℕ) (u : List Mid) → F n u → n + 45 ≤ m → F m (truth_code r l ++ u)
  truth_flows n m r l u h le =
      let out : F (n + 4) (Label (l + 1) ∷ u) = label given n (n + 4) (l + 1) u h (omega arith) in
      let to : Leads given (n + 4) (l + 1) (Label (l + 1) ∷ u) = leads_here given (n + 4) (l + 1) u out in
      let one : F (n + 13) (Set r 1 ∷ Label (l + 1) ∷ u) = plains given (n + 4) (n + 13) 1 (Set r 1 ∷ []) _ (record { all = refl; short = omega arith }) out (omega arith) in
      let other : F (n + 17) (Label l ∷ Set r 1 ∷ Label (l + 1) ∷ u) = label given (n + 13) (n + 17) l _ one (omega arith) in
      let jumps : F (n + 21) (Jump (l + 1) ∷ Label l ∷ Set r 1 ∷ Label (l + 1) ∷ u) =
      jump given (n + 17) (n + 21) (l + 1) _ (leads_past given _ _ _ _ (leads_past given _ _ _ _ (leads_more given (n + 4) (n + 17) (l + 1) _ (omega arith) to))) other (omega arith) in
      plains given (n + 21) m 1 (Set r 0 ∷ []) _ (record { all = refl; short = omega arith }) jumps (omega (arith, le))

  -- and the label that it may be gone to
  pub truth_leads : (n m r l : ℕ) (u : List Mid) → F n u → n + 45 ≤ m → Leads given m l (truth_code r l ++ u)
  truth_leads n m r l u h le =
      let out : F (n + 4) (Label (l + 1) ∷ u) = label given n (n + 4) (l + 1) u h (omega arith) in
      let one : F (n + 13) (Set r 1 ∷ Label (l + 1) ∷ u) = plains given (n + 4) (n + 13) 1 (Set r 1 ∷ []) _ (record { all = refl; short = omega arith }) out (omega arith) in
      let other : F (n + 17) (Label l ∷ Set r 1 ∷ Label (l + 1) ∷ u) = label given (n + 13) (n + 17) l _ one (omega arith) in
      leads_past given _ _ _ _ (leads_past given _ _ _ _ (leads_more given (n + 17) m l _ (omega (arith, le)) (leads_here given (n + 17) l _ other)))

  pub zero_flows : (n m : ℕ) (test : Test) (wide : Bool) (r l : ℕ) (u : List Mid) → Leads given n l u → F n u → n + 22 ≤ m → F m (zero_code test wide r l ++ u)
  zero_flows n m test true r l u to h le =
      plains given (n + 4) m 2 (Bin Or r r (r + 1) ∷ Set (r + 2) 0 ∷ []) _ (record { all = refl; short = omega arith }) (branch given n (n + 4) test r (r + 2) l u to h (omega arith)) (omega (arith, le))
  zero_flows n m test false r l u to h le =
      plains given (n + 4) m 1 (Set (r + 2) 0 ∷ []) _ (record { all = refl; short = omega arith }) (branch given n (n + 4) test r (r + 2) l u to h (omega arith)) (omega (arith, le))

  -- a jump over plain code
  over : (n m : ℕ) (test : Test) (x y l k : ℕ) (c u : List Mid) → Plain k c → F n u → n + 9 * k + 8 ≤ m → F m (Branch test x y l ∷ (c ++ (Label l ∷ u)))
  over n m test x y l k c u ok h le =
      let out : F (n + 4) (Label l ∷ u) = label given n (n + 4) l u h (omega arith) in
      branch given (n + 4 + 9 * k) m test x y l _ (leads_over given _ l c _ (leads_more given (n + 4) (n + 4 + 9 * k) l _ (omega arith) (leads_here given (n + 4) l u out)))
      (plains given (n + 4) (n + 4 + 9 * k) k c (Label l ∷ u) ok out (omega arith)) (omega (arith, le))

  high_flows : (n m : ℕ) (from to signed : Bool) (r l : ℕ) (u : List Mid) → F n u → n + 36 ≤ m → F m (high_code from to signed r l ++ u)
  high_flows n m true to signed r l u h le = flow_more given n m u (omega (arith, le)) h
  high_flows n m false true true r l u h le =
      plains given (n + 17) m 1 (Set (r + 1) 0 ∷ []) _ (record { all = refl; short = omega arith })
      (over n (n + 17) Le (r + 1) r l 1 (Set (r + 1) 65535 ∷ []) u (record { all = refl; short = omega arith }) h (omega arith)) (omega (arith, le))
  high_flows n m false true false r l u h le = plains given n m 1 (Set (r + 1) 0 ∷ []) u (record { all = refl; short = omega arith }) h (omega (arith, le))
  high_flows n m false false signed r l u h le = flow_more given n m u (omega (arith, le)) h

  pub convert_flows : (n m : ℕ) (from to : IntType) (r l : ℕ) (u : List Mid) → F n u → n + 81 ≤ m → F m (convert_code from to r l ++ u)
  convert_flows n m from to r l u h le =
      let high : List Mid = high_code (is_wide from) (is_wide to) (is_signed from) r l in
      regroup given m (fit_code to r) high u
      (plains given (n + 36) m 5 (fit_code to r) (high ++ u) (fit_plain to r) (high_flows n (n + 36) (is_wide from) (is_wide to) (is_signed from) r l u h (omega arith)) (omega (arith, le)))

  pub unary_flows : (n m : ℕ) (op : UnOp) (wide : Bool) (r l : ℕ) (u : List Mid) → F n u → n + 80 ≤ m → F m (unary_code op wide r l ++ u)
  unary_flows n m un.Neg true r l u h le = plains given n m 5 (unary_code un.Neg true r l) u (record { all = refl; short = omega arith }) h (omega (arith, le))
  unary_flows n m un.Neg false r l u h le = plains given n m 5 (unary_code un.Neg false r l) u (record { all = refl; short = omega arith }) h (omega (arith, le))
  unary_flows n m un.Not true r l u h le = plains given n m 5 (unary_code un.Not true r l) u (record { all = refl; short = omega arith }) h (omega (arith, le))
  unary_flows n m un.Not false r l u h le = plains given n m 5 (unary_code un.Not false r l) u (record { all = refl; short = omega arith }) h (omega (arith, le))
  unary_flows n m un.IsZero wide r l u h le =
      regroup given m (zero_code Eq wide r l) (truth_code r l) u
      (zero_flows (n + 45) m Eq wide r l (truth_code r l ++ u) (truth_leads n (n + 45) r l u h (omega arith)) (truth_flows n (n + 45) r l u h (omega arith)) (omega (arith, le)))

  divisor_flows : (n m : ℕ) (wide : Bool) (r l : ℕ) (u : List Mid) → F n u → n + 36 ≤ m → F m (divisor_code wide r l ++ u)
  divisor_flows n m true r l u h le =
      plains given (n + 17) m 2 (Bin Or (r + 4) (r + 2) (r + 3) ∷ Set (r + 5) 0 ∷ []) _ (record { all = refl; short = omega arith })
      (over n (n + 17) Ne (r + 4) (r + 5) l 1 (Fault 3 ∷ []) u (record { all = refl; short = omega arith }) h (omega arith)) (omega (arith, le))
  divisor_flows n m false r l u h le =
      plains given (n + 17) m 1 (Set (r + 4) 0 ∷ []) _ (record { all = refl; short = omega arith })
      (over n (n + 17) Ne (r + 2) (r + 4) l 1 (Fault 3 ∷ []) u (record { all = refl; short = omega arith }) h (omega arith)) (omega (arith, le))

  count_flows : (n m : ℕ) (wide : Bool) (r l : ℕ) (u : List Mid) → F n u → n + 36 ≤ m → F m (count_code wide r l ++ u)
  count_flows n m true r l u h le =
      plains given (n + 17) m 1 (Set (r + 4) 0 ∷ []) _ (record { all = refl; short = omega arith })
      (over n (n + 17) Eq (r + 3) (r + 4) l 1 (Set (r + 2) 32 ∷ []) u (record { all = refl; short = omega arith }) h (omega arith)) (omega (arith, le))
  count_flows n m false r l u h le = flow_more given n m u (omega (arith, le)) h

  product_flows : (n m : ℕ) (o : HelpOp) (t : IntType) (r : ℕ) (u : List Mid) → F n u → n + given.help + 1 ≤ m → F m (product_code o t r ++ u)
  product_flows n m o t r u h le = helps given n m (number_of_help t o) (values_at (is_wide t) r ++ values_at (is_wide t) (r + 2)) (values_at (is_wide t) r) u h le

  shift_flows : (n m : ℕ) (o : HelpOp) (t count : IntType) (r l : ℕ) (u : List Mid) → F n u → n + given.help + 40 ≤ m → F m (shift_code o t count r l ++ u)
  shift_flows n m o t count r l u h le =
      regroup given m (count_code (is_wide count) r l) (Help (number_of_help t o) (values_at (is_wide t) r ++ (r + 2) ∷ []) (values_at (is_wide t) r) ∷ []) u
      (count_flows (n + given.help + 1) m (is_wide count) r l _ (helps given n (n + given.help + 1) (number_of_help t o) (values_at (is_wide t) r ++ (r + 2) ∷ []) (values_at (is_wide t) r) u h (omega arith)) (omega (arith, le)))

  divided_flows : (n m : ℕ) (o : HelpOp) (t : IntType) (r l : ℕ) (u : List Mid) → F n u → n + given.help + 40 ≤ m → F m ((divisor_code (is_wide t) r l ++ product_code o t r) ++ u)
  divided_flows n m o t r l u h le =
      regroup given m (divisor_code (is_wide t) r l) (product_code o t r) u
      (divisor_flows (n + given.help + 1) m (is_wide t) r l _ (product_flows n (n + given.help + 1) o t r u h (omega arith)) (omega (arith, le)))

  summed_flows : (n m : ℕ) (op : Op) (t : IntType) (r : ℕ) (u : List Mid) → F n u → n + 81 ≤ m → F m ((sum_code op (is_wide t) r ++ fit_code t r) ++ u)
  summed_flows n m op t r u h le =
      regroup given m (sum_code op (is_wide t) r) (fit_code t r) u
      (plains given (n + 45) m 4 (sum_code op (is_wide t) r) _ (sum_plain op (is_wide t) r) (plains given n (n + 45) 5 (fit_code t r) u (fit_plain t r) h (omega arith)) (omega (arith, le)))

  -- a test in front of `truth_code`
  tested : (n m : ℕ) (test : Test) (x y r l : ℕ) (u : List Mid) → F n u → n + 49 ≤ m → F m (Branch test x y l ∷ (truth_code r l ++ u))
  tested n m test x y r l u h le =
      branch given (n + 45) m test x y l _ (truth_leads n (n + 45) r l u h (omega arith)) (truth_flows n (n + 45) r l u h (omega arith)) (omega (arith, le))

  equal_flows : (n m : ℕ) (test : Test) (wide : Bool) (r l : ℕ) (u : List Mid) → F n u → n + 90 ≤ m → F m (equal_code test wide r l ++ u)
  equal_flows n m test true r l u h le =
      plains given (n + 49) m 4 (Bin Xor r r (r + 2) ∷ Bin Xor (r + 1) (r + 1) (r + 3) ∷ Bin Or r r (r + 1) ∷ Set (r + 2) 0 ∷ []) _ (record { all = refl; short = omega arith })
      (tested n (n + 49) test r (r + 2) r l u h (omega arith)) (omega (arith, le))
  equal_flows n m test false r l u h le = tested n m test r (r + 2) r l u h (omega (arith, le))

  order_flows : (n m : ℕ) (strict signed wide : Bool) (r l : ℕ) (u : List Mid) → F n u → n + 90 ≤ m → F m (order_code strict signed wide r l ++ u)
  order_flows n m strict signed true r l u h le =
      let low : Test = if strict then LtU else LeU in
      let high : Test = if signed then Lt else LtU in
      let truth : List Mid = truth_code r l ++ u in
      let tail : F (n + 45) truth = truth_flows n (n + 45) r l u h (omega arith) in
      let to : Leads given (n + 45) l truth = truth_leads n (n + 45) r l u h (omega arith) in
      let past : F (n + 49) (Label (l + 2) ∷ truth) = label given (n + 45) (n + 49) (l + 2) truth tail (omega arith) in
      let third : F (n + 53) (Branch low r (r + 2) l ∷ Label (l + 2) ∷ truth) =
      branch given (n + 49) (n + 53) low r (r + 2) l _ (leads_past given _ _ _ _ (leads_more given (n + 45) (n + 49) l truth (omega arith) to)) past (omega arith) in
      let second : F (n + 57) (Branch Ne (r + 1) (r + 3) (l + 2) ∷ Branch low r (r + 2) l ∷ Label (l + 2) ∷ truth) =
      branch given (n + 53) (n + 57) Ne (r + 1) (r + 3) (l + 2) _ (leads_past given _ _ _ _ (leads_more given (n + 49) (n + 53) (l + 2) _ (omega arith) (leads_here given (n + 49) (l + 2) truth past))) third (omega arith) in
      branch given (n + 57) m high (r + 1) (r + 3) l _ (leads_past given _ _ _ _ (leads_past given _ _ _ _ (leads_past given _ _ _ _ (leads_more given (n + 45) (n + 57) l truth (omega arith) to)))) second (omega (arith, le))
  order_flows n m true signed false r l u h le = tested n m (if signed then Lt else LtU) r (r + 2) r l u h (omega (arith, le))
  order_flows n m false signed false r l u h le = tested n m (if signed then Le else LeU) r (r + 2) r l u h (omega (arith, le))

  pub binary_flows : (n m : ℕ) (op : BinOp) (t s : IntType) (r l : ℕ) (u : List Mid) → F n u → n + given.help + 90 ≤ m → F m (binary_code op t s r l ++ u)
  binary_flows n m bin.Add t s r l u h le = summed_flows n m Add t r u h (omega (arith, le))
  binary_flows n m bin.Sub t s r l u h le = summed_flows n m Sub t r u h (omega (arith, le))
  binary_flows n m bin.Mul t s r l u h le = product_flows n m help_op.Mul t r u h (omega (arith, le))
  binary_flows n m bin.Div t s r l u h le = divided_flows n m help_op.Div t r l u h (omega (arith, le))
  binary_flows n m bin.Rem t s r l u h le = divided_flows n m help_op.Rem t r l u h (omega (arith, le))
  binary_flows n m bin.And t s r l u h le = plains given n m 4 (bits_code And (is_wide t) r) u (bits_plain And (is_wide t) r) h (omega (arith, le))
  binary_flows n m bin.Or t s r l u h le = plains given n m 4 (bits_code Or (is_wide t) r) u (bits_plain Or (is_wide t) r) h (omega (arith, le))
  binary_flows n m bin.Xor t s r l u h le = plains given n m 4 (bits_code Xor (is_wide t) r) u (bits_plain Xor (is_wide t) r) h (omega (arith, le))
  binary_flows n m bin.Shl t s r l u h le = shift_flows n m help_op.Shl t s r l u h (omega (arith, le))
  binary_flows n m bin.Shr t s r l u h le = shift_flows n m help_op.Shr t s r l u h (omega (arith, le))
  binary_flows n m bin.Eq t s r l u h le = equal_flows n m Eq (is_wide t) r l u h (omega (arith, le))
  binary_flows n m bin.Ne t s r l u h le = equal_flows n m Ne (is_wide t) r l u h (omega (arith, le))
  binary_flows n m bin.Lt t s r l u h le = order_flows n m true (is_signed t) (is_wide t) r l u h (omega (arith, le))
  binary_flows n m bin.Le t s r l u h le = order_flows n m false (is_signed t) (is_wide t) r l u h (omega (arith, le))

  -- ---- pointers and elements

  scaled_flows : (n m size r : ℕ) (u : List Mid) → F n u → n + given.help + 19 ≤ m → F m (scaled_code size r ++ u)
  scaled_flows n m size r u h le =
      if_flows given (size == 1) m [] _ u (flow_more given n m u (omega (arith, le)) h)
      (if_flows given (size == 2) m (Bin Add r r r ∷ []) _ u (plains given n m 1 (Bin Add r r r ∷ []) u (record { all = refl; short = omega arith }) h (omega (arith, le)))
      (if_flows given (size == 4) m (Bin Add r r r ∷ Bin Add r r r ∷ []) (Set (r + 2) (size % 65536) ∷ Help (number_of_help U16 help_op.Mul) (r ∷ (r + 2) ∷ []) (r ∷ []) ∷ []) u
      (plains given n m 2 (Bin Add r r r ∷ Bin Add r r r ∷ []) u (record { all = refl; short = omega arith }) h (omega (arith, le)))
      (plains given (n + given.help + 1) m 1 (Set (r + 2) (size % 65536) ∷ []) _ (record { all = refl; short = omega arith })
      (helps given n (n + given.help + 1) (number_of_help U16 help_op.Mul) (r ∷ (r + 2) ∷ []) (r ∷ []) u h (omega arith)) (omega (arith, le)))))

  bound_flows : (n m : ℕ) (wide : Bool) (bound r l : ℕ) (u : List Mid) → F n u → n + 60 ≤ m → F m (bound_code wide bound r l ++ u)
  bound_flows n m true bound r l u h le =
      let out : F (n + 4) (Label l ∷ u) = label given n (n + 4) l u h (omega arith) in
      let to : Leads given (n + 4) l (Label l ∷ u) = leads_here given (n + 4) l u out in
      let faults : F (n + 13) (Fault 1 ∷ Label l ∷ u) = plains given (n + 4) (n + 13) 1 (Fault 1 ∷ []) _ (record { all = refl; short = omega arith }) out (omega arith) in
      let past : F (n + 17) (Label (l + 1) ∷ Fault 1 ∷ Label l ∷ u) = label given (n + 13) (n + 17) (l + 1) _ faults (omega arith) in
      let low : F (n + 21) (Branch LtU (r + 2) (r + 4) l ∷ Label (l + 1) ∷ Fault 1 ∷ Label l ∷ u) =
      branch given (n + 17) (n + 21) LtU (r + 2) (r + 4) l _ (leads_past given _ _ _ _ (leads_past given _ _ _ _ (leads_more given (n + 4) (n + 17) l _ (omega arith) to))) past (omega arith) in
      let sets : F (n + 30) (Set (r + 4) (bound % 65536) ∷ Branch LtU (r + 2) (r + 4) l ∷ Label (l + 1) ∷ Fault 1 ∷ Label l ∷ u) =
      plains given (n + 21) (n + 30) 1 (Set (r + 4) (bound % 65536) ∷ []) _ (record { all = refl; short = omega arith }) low (omega arith) in
      let second : F (n + 34) (Branch Ne (r + 3) (r + 4) (l + 1) ∷ Set (r + 4) (bound % 65536) ∷ Branch LtU (r + 2) (r + 4) l ∷ Label (l + 1) ∷ Fault 1 ∷ Label l ∷ u) =
      branch given (n + 30) (n + 34) Ne (r + 3) (r + 4) (l + 1) _
      (leads_past given _ _ _ _ (leads_past given _ _ _ _ (leads_more given (n + 17) (n + 30) (l + 1) _ (omega arith) (leads_here given (n + 17) (l + 1) _ past)))) sets (omega arith) in
      let first : F (n + 38) (Branch LtU (r + 3) (r + 4) l ∷ Branch Ne (r + 3) (r + 4) (l + 1) ∷ Set (r + 4) (bound % 65536) ∷ Branch LtU (r + 2) (r + 4) l ∷ Label (l + 1) ∷ Fault 1 ∷ Label l ∷ u) =
      branch given (n + 34) (n + 38) LtU (r + 3) (r + 4) l _
      (leads_past given _ _ _ _ (leads_past given _ _ _ _ (leads_past given _ _ _ _ (leads_past given _ _ _ _ (leads_past given _ _ _ _ (leads_more given (n + 4) (n + 34) l _ (omega arith) to)))))) second (omega arith) in
      if_flows given (bound == 4294967296) m [] _ u (flow_more given n m u (omega (arith, le)) h)
      (plains given (n + 38) m 1 (Set (r + 4) (bound / 65536) ∷ []) _ (record { all = refl; short = omega arith }) first (omega (arith, le)))
  bound_flows n m false bound r l u h le =
      if_flows given (bound == 65536) m [] _ u (flow_more given n m u (omega (arith, le)) h)
      (plains given (n + 17) m 1 (Set (r + 4) bound ∷ []) _ (record { all = refl; short = omega arith })
      (over n (n + 17) LtU (r + 2) (r + 4) l 1 (Fault 1 ∷ []) u (record { all = refl; short = omega arith }) h (omega arith)) (omega (arith, le)))

  pub offset_flows : (n m size r : ℕ) (u : List Mid) → F n u → n + given.help + 28 ≤ m → F m (offset_code size r ++ u)
  offset_flows n m size r u h le =
      regroup given m (scaled_code size (r + 2)) (Bin Add r r (r + 2) ∷ []) u
      (scaled_flows (n + 9) m size (r + 2) _ (plains given n (n + 9) 1 (Bin Add r r (r + 2) ∷ []) u (record { all = refl; short = omega arith }) h (omega arith)) (omega (arith, le)))

  pub element_flows : (n m : ℕ) (t : IntType) (count size r l : ℕ) (u : List Mid) → F n u → n + given.help + 90 ≤ m → F m (element_code t count size r l ++ u)
  element_flows n m t count size r l u h le =
      regroup given m (bound_code (is_wide t) (index_bound t count) r l) (scaled_code size (r + 2) ++ Bin Add r r (r + 2) ∷ []) u
      (bound_flows (n + given.help + 28) m (is_wide t) (index_bound t count) r l _ (offset_flows n (n + given.help + 28) size r u h (omega arith)) (omega (arith, le)))

  pub distance_flows : (n m size r : ℕ) (u : List Mid) → F n u → n + given.help + 28 ≤ m → F m (distance_code size r ++ u)
  distance_flows n m size r u h le =
      plains given (n + given.help + 10) m 1 (Bin Sub r r (r + 2) ∷ []) _ (record { all = refl; short = omega arith })
      (if_flows given (size == 1) (n + given.help + 10) [] (Set (r + 2) (size % 65536) ∷ Help (number_of_help I16 help_op.Div) (r ∷ (r + 2) ∷ []) (r ∷ []) ∷ []) u
      (flow_more given n (n + given.help + 10) u (omega arith) h)
      (plains given (n + given.help + 1) (n + given.help + 10) 1 (Set (r + 2) (size % 65536) ∷ []) _ (record { all = refl; short = omega arith })
      (helps given n (n + given.help + 1) (number_of_help I16 help_op.Div) (r ∷ (r + 2) ∷ []) (r ∷ []) u h (omega arith)) (omega arith)))
      (omega (arith, le))
