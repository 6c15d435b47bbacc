-- Operations write free values alone, and peek and poke nothing.
use Rattle.std.proofs.Common.{ℕ, ◌+◌, ◌<◌, ◌≤◌, ◌==◌, Bool, true, false, List, [], ◌∷◌, ◌++◌, arith}
use Rattle.std.specs.Prelude.{ℤ, if◌then◌else◌}
use Rattle.nm_base.specs.declared.int_type.IntType.{IntType}
use Rattle.nm_base.specs.declared.int_type.IntType.TheVariants.{I8, U8, I16, U16, I32, U32}
use Rattle.nesc_core.specs.declared.tree.UnOp.{UnOp}
use Rattle.nesc_core.specs.declared.tree.UnOp.TheVariants as un
use Rattle.nesc_core.specs.declared.tree.BinOp.{BinOp}
use Rattle.nesc_core.specs.declared.tree.BinOp.TheVariants as bin
use Rattle.mid_code.specs.declared.instr.Mid.{Mid}
use Rattle.mid_code.specs.declared.help.HelpOp.{HelpOp}
use Rattle.mid_code.specs.declared.help.HelpOp.TheVariants as help
use Rattle.mid_code.specs.declared.instr.Op.{Op}
use Rattle.mid_code.specs.declared.instr.Op.TheVariants.{Add, Sub, And, Or, Xor}
use Rattle.mid_code.specs.declared.instr.Test.{Test}
use Rattle.mid_code.specs.declared.instr.Test.TheVariants.{Eq, Ne}
use Rattle.mid_code.specs.declared.code.MidCode.{MidCode}
use Rattle.mid_code.specs.Help.{is_wide}
use Rattle.lower_expr.specs.declared.spot.Regs.{Regs}
use Rattle.lower_expr.specs.Held.{is_signed}
use Rattle.lower_expr.specs.Pieces.{binary_code, bits_code, bound_code, const_code, convert_code, count_code, distance_code, divisor_code, element_code, equal_code, fit_code, high_code, index_bound, move_code, offset_code, order_code, product_code, scaled_code, shift_code, sum_code, truth_code, unary_code, values_at, zero_code}
use Rattle.lower_expr.specs.Code.{Kind, InValues, InFrame, InMemory, address_code, keep_code, load_code, sign_code, store_code, take_code, value_named}
use Rattle.lower_keeps.proofs.Safe.{AreFree, IsKnown, IsQuiet, both_quiet, if_quiet}

module _ (code : MidCode) (limit tasks : ℕ) (at_label : ℕ → (ℕ → ℕ) → Type 0) (base s : ℕ) (P : (ℕ → ℕ) → Type 0) where
  abbrev Q : List Mid → Type 0
  Q c = IsQuiet code limit tasks at_label base s P c

  abbrev K : ℕ → Type 0
  K l = IsKnown code limit tasks at_label l P

  two : (a b : List Mid) → Q a → Q b → Q (a ++ b)
  two a b h g = both_quiet code limit tasks at_label base s P a b h g

  choice : (t : Bool) (a b : List Mid) → Q a → Q b → Q (if t then a else b)
  choice t a b h g = if_quiet code limit tasks at_label base s P t a b h g

  pub free_values : (wide : Bool) (r : ℕ) → s ≤ r → AreFree code limit tasks at_label base s (values_at wide r)
  free_values true r le = ((λ lt. omega (arith, lt, le)), ((λ lt. omega (arith, lt, le)), tt))
  free_values false r le = ((λ lt. omega (arith, lt, le)), tt)

  pub free_taken : (void wide : Bool) (r : ℕ) → s ≤ r → AreFree code limit tasks at_label base s (if void then [] else values_at wide r)
  free_taken true wide r le = tt
  free_taken false wide r le = free_values wide r le

  -- ---- numbers

  pub const_quiet : (t : IntType) (x : ℤ) (r : ℕ) → s ≤ r → Q (const_code t x r)
  const_quiet t x r le = choice (is_wide t) _ _ (record { each = ((λ lt. omega (arith, lt, le)), ((λ lt. omega (arith, lt, le)), tt)) }) (record { each = ((λ lt. omega (arith, lt, le)), tt) })

  pub move_quiet : (wide : Bool) (d r : ℕ) → s ≤ d → Q (move_code wide d r)
  move_quiet true d r le = record { each = ((λ lt. omega (arith, lt, le)), ((λ lt. omega (arith, lt, le)), tt)) }
  move_quiet false d r le = record { each = ((λ lt. omega (arith, lt, le)), tt) }

  pub fit_quiet : (t : IntType) (r : ℕ) → s ≤ r → Q (fit_code t r)
  fit_quiet I8 r le = record { each = ((λ lt. omega (arith, lt, le)), ((λ lt. omega (arith, lt, le)), ((λ lt. omega (arith, lt, le)), ((λ lt. omega (arith, lt, le)), ((λ lt. omega (arith, lt, le)), tt))))) }
  fit_quiet U8 r le = record { each = ((λ lt. omega (arith, lt, le)), ((λ lt. omega (arith, lt, le)), tt)) }
  fit_quiet I16 r le = record { each = tt }
  fit_quiet U16 r le = record { each = tt }
  fit_quiet I32 r le = record { each = tt }
  fit_quiet U32 r le = record { each = tt }

  high_quiet : (from to signed : Bool) (r l : ℕ) → s ≤ r → K l → Q (high_code from to signed r l)
  high_quiet true to signed r l le e = record { each = tt }
  high_quiet false true true r l le e = record { each = ((λ lt. omega (arith, lt, le)), (e, ((λ lt. omega (arith, lt, le)), (e, tt)))) }
  high_quiet false true false r l le e = record { each = ((λ lt. omega (arith, lt, le)), tt) }
  high_quiet false false signed r l le e = record { each = tt }

  pub convert_quiet : (from to : IntType) (r l : ℕ) → s ≤ r → K l → Q (convert_code from to r l)
  convert_quiet from to r l le e = two (fit_code to r) (high_code (is_wide from) (is_wide to) (is_signed from) r l) (fit_quiet to r le) (high_quiet (is_wide from) (is_wide to) (is_signed from) r l le e)

  pub zero_quiet : (test : Test) (wide : Bool) (r l : ℕ) → s ≤ r → K l → Q (zero_code test wide r l)
  zero_quiet test true r l le e = record { each = ((λ lt. omega (arith, lt, le)), ((λ lt. omega (arith, lt, le)), (e, tt))) }
  zero_quiet test false r l le e = record { each = ((λ lt. omega (arith, lt, le)), (e, tt)) }

  pub truth_quiet : (r l : ℕ) → s ≤ r → K l → K (l + 1) → Q (truth_code r l)
  truth_quiet r l le e f = record { each = ((λ lt. omega (arith, lt, le)), (f, (e, ((λ lt. omega (arith, lt, le)), (f, tt))))) }

  pub unary_quiet : (op : UnOp) (wide : Bool) (r l : ℕ) → s ≤ r → K l → K (l + 1) → Q (unary_code op wide r l)
  unary_quiet un.Neg true r l le e f = record { each = ((λ lt. omega (arith, lt, le)), ((λ lt. omega (arith, lt, le)), ((λ lt. omega (arith, lt, le)), ((λ lt. omega (arith, lt, le)), ((λ lt. omega (arith, lt, le)), tt))))) }
  unary_quiet un.Neg false r l le e f = record { each = ((λ lt. omega (arith, lt, le)), ((λ lt. omega (arith, lt, le)), tt)) }
  unary_quiet un.Not true r l le e f = record { each = ((λ lt. omega (arith, lt, le)), ((λ lt. omega (arith, lt, le)), ((λ lt. omega (arith, lt, le)), tt))) }
  unary_quiet un.Not false r l le e f = record { each = ((λ lt. omega (arith, lt, le)), ((λ lt. omega (arith, lt, le)), tt)) }
  unary_quiet un.IsZero wide r l le e f = two (zero_code Eq wide r l) (truth_code r l) (zero_quiet Eq wide r l le e) (truth_quiet r l le e f)

  sum_quiet : (op : Op) (wide : Bool) (r : ℕ) → s ≤ r → Q (sum_code op wide r)
  sum_quiet op true r le = record { each = ((λ lt. omega (arith, lt, le)), ((λ lt. omega (arith, lt, le)), ((λ lt. omega (arith, lt, le)), ((λ lt. omega (arith, lt, le)), tt)))) }
  sum_quiet op false r le = record { each = ((λ lt. omega (arith, lt, le)), tt) }

  bits_quiet : (op : Op) (wide : Bool) (r : ℕ) → s ≤ r → Q (bits_code op wide r)
  bits_quiet op true r le = record { each = ((λ lt. omega (arith, lt, le)), ((λ lt. omega (arith, lt, le)), tt)) }
  bits_quiet op false r le = record { each = ((λ lt. omega (arith, lt, le)), tt) }

  divisor_quiet : (wide : Bool) (r l : ℕ) → s ≤ r → K l → Q (divisor_code wide r l)
  divisor_quiet true r l le e = record { each = ((λ lt. omega (arith, lt, le)), ((λ lt. omega (arith, lt, le)), (e, (tt, (e, tt))))) }
  divisor_quiet false r l le e = record { each = ((λ lt. omega (arith, lt, le)), (e, (tt, (e, tt)))) }

  product_quiet : (o : HelpOp) (t : IntType) (r : ℕ) → s ≤ r → Q (product_code o t r)
  product_quiet o t r le = record { each = (free_values (is_wide t) r le, tt) }

  count_quiet : (wide : Bool) (r l : ℕ) → s ≤ r → K l → Q (count_code wide r l)
  count_quiet true r l le e = record { each = ((λ lt. omega (arith, lt, le)), (e, ((λ lt. omega (arith, lt, le)), (e, tt)))) }
  count_quiet false r l le e = record { each = tt }

  shift_quiet : (o : HelpOp) (t c : IntType) (r l : ℕ) → s ≤ r → K l → Q (shift_code o t c r l)
  shift_quiet o t c r l le e = two (count_code (is_wide c) r l) _ (count_quiet (is_wide c) r l le e) (record { each = (free_values (is_wide t) r le, tt) })

  equal_quiet : (test : Test) (wide : Bool) (r l : ℕ) → s ≤ r → K l → K (l + 1) → Q (equal_code test wide r l)
  equal_quiet test true r l le e f = record { each = ((λ lt. omega (arith, lt, le)), ((λ lt. omega (arith, lt, le)), ((λ lt. omega (arith, lt, le)), ((λ lt. omega (arith, lt, le)), (e, ((λ lt. omega (arith, lt, le)), (f, (e, ((λ lt. omega (arith, lt, le)), (f, tt)))))))))) }
  equal_quiet test false r l le e f = record { each = (e, ((λ lt. omega (arith, lt, le)), (f, (e, ((λ lt. omega (arith, lt, le)), (f, tt)))))) }

  order_quiet : (strict signed wide : Bool) (r l : ℕ) → s ≤ r → K l → K (l + 1) → K (l + 2) → Q (order_code strict signed wide r l)
  order_quiet strict signed true r l le e f g = record { each = (e, (g, (e, (g, ((λ lt. omega (arith, lt, le)), (f, (e, ((λ lt. omega (arith, lt, le)), (f, tt))))))))) }
  order_quiet true signed false r l le e f g = record { each = (e, ((λ lt. omega (arith, lt, le)), (f, (e, ((λ lt. omega (arith, lt, le)), (f, tt)))))) }
  order_quiet false signed false r l le e f g = record { each = (e, ((λ lt. omega (arith, lt, le)), (f, (e, ((λ lt. omega (arith, lt, le)), (f, tt)))))) }

  pub binary_quiet : (op : BinOp) (t c : IntType) (r l : ℕ) → s ≤ r → K l → K (l + 1) → K (l + 2) → Q (binary_code op t c r l)
  binary_quiet bin.Add t c r l le e f g = two (sum_code Add (is_wide t) r) (fit_code t r) (sum_quiet Add (is_wide t) r le) (fit_quiet t r le)
  binary_quiet bin.Sub t c r l le e f g = two (sum_code Sub (is_wide t) r) (fit_code t r) (sum_quiet Sub (is_wide t) r le) (fit_quiet t r le)
  binary_quiet bin.Mul t c r l le e f g = product_quiet help.Mul t r le
  binary_quiet bin.Div t c r l le e f g = two (divisor_code (is_wide t) r l) _ (divisor_quiet (is_wide t) r l le e) (product_quiet help.Div t r le)
  binary_quiet bin.Rem t c r l le e f g = two (divisor_code (is_wide t) r l) _ (divisor_quiet (is_wide t) r l le e) (product_quiet help.Rem t r le)
  binary_quiet bin.And t c r l le e f g = bits_quiet And (is_wide t) r le
  binary_quiet bin.Or t c r l le e f g = bits_quiet Or (is_wide t) r le
  binary_quiet bin.Xor t c r l le e f g = bits_quiet Xor (is_wide t) r le
  binary_quiet bin.Shl t c r l le e f g = shift_quiet help.Shl t c r l le e
  binary_quiet bin.Shr t c r l le e f g = shift_quiet help.Shr t c r l le e
  binary_quiet bin.Eq t c r l le e f g = equal_quiet Eq (is_wide t) r l le e f
  binary_quiet bin.Ne t c r l le e f g = equal_quiet Ne (is_wide t) r l le e f
  binary_quiet bin.Lt t c r l le e f g = order_quiet true (is_signed t) (is_wide t) r l le e f g
  binary_quiet bin.Le t c r l le e f g = order_quiet false (is_signed t) (is_wide t) r l le e f g

  -- ---- pointers

  scaled_quiet : (size r : ℕ) → s ≤ r → Q (scaled_code size r)
  scaled_quiet size r le =
      choice (size == 1) _ _ (record { each = tt }) (choice (size == 2) _ _ (record { each = ((λ lt. omega (arith, lt, le)), tt) })
      (choice (size == 4) _ _ (record { each = ((λ lt. omega (arith, lt, le)), ((λ lt. omega (arith, lt, le)), tt)) }) (record { each = ((λ lt. omega (arith, lt, le)), (((λ lt. omega (arith, lt, le)), tt), tt)) })))

  pub offset_quiet : (size r : ℕ) → s ≤ r → Q (offset_code size r)
  offset_quiet size r le = two (scaled_code size (r + 2)) _ (scaled_quiet size (r + 2) (omega (arith, le))) (record { each = ((λ lt. omega (arith, lt, le)), tt) })

  pub distance_quiet : (size r : ℕ) → s ≤ r → Q (distance_code size r)
  distance_quiet size r le = two (_ ∷ []) _ (record { each = ((λ lt. omega (arith, lt, le)), tt) }) (choice (size == 1) _ _ (record { each = tt }) (record { each = ((λ lt. omega (arith, lt, le)), (((λ lt. omega (arith, lt, le)), tt), tt)) }))

  bound_quiet : (wide : Bool) (bound r l : ℕ) → s ≤ r → K l → K (l + 1) → Q (bound_code wide bound r l)
  bound_quiet true bound r l le e f = choice (bound == 4294967296) _ _ (record { each = tt }) (record { each = ((λ lt. omega (arith, lt, le)), (e, (f, ((λ lt. omega (arith, lt, le)), (e, (f, (tt, (e, tt)))))))) })
  bound_quiet false bound r l le e f = choice (bound == 65536) _ _ (record { each = tt }) (record { each = ((λ lt. omega (arith, lt, le)), (e, (tt, (e, tt)))) })

  pub element_quiet : (t : IntType) (count size r l : ℕ) → s ≤ r → K l → K (l + 1) → Q (element_code t count size r l)
  element_quiet t count size r l le e f =
      two (bound_code (is_wide t) (index_bound t count) r l) _ (bound_quiet (is_wide t) (index_bound t count) r l le e f)
      (two (scaled_code size (r + 2)) _ (scaled_quiet size (r + 2) (omega (arith, le))) (record { each = ((λ lt. omega (arith, lt, le)), tt) }))

  -- ---- accesses that are not of the frame

  pub sign_quiet : (t : IntType) (d : ℕ) → s ≤ d → Q (sign_code t d)
  sign_quiet I8 d le = fit_quiet I8 d le
  sign_quiet U8 d le = record { each = tt }
  sign_quiet I16 d le = record { each = tt }
  sign_quiet U16 d le = record { each = tt }
  sign_quiet I32 d le = record { each = tt }
  sign_quiet U32 d le = record { each = tt }

  pub load_quiet : (t : IntType) (d r : ℕ) → s ≤ d → Q (load_code t d r)
  load_quiet t d r le = choice (is_wide t) _ _ (record { each = ((λ lt. omega (arith, lt, le)), ((λ lt. omega (arith, lt, le)), ((λ lt. omega (arith, lt, le)), ((λ lt. omega (arith, lt, le)), tt)))) }) (two (_ ∷ []) (sign_code t d) (record { each = ((λ lt. omega (arith, lt, le)), tt) }) (sign_quiet t d le))

  pub store_quiet : (t : IntType) (v r : ℕ) → s ≤ r → Q (store_code t v r)
  store_quiet t v r le = choice (is_wide t) _ _ (record { each = (tt, ((λ lt. omega (arith, lt, le)), ((λ lt. omega (arith, lt, le)), (tt, tt)))) }) (record { each = (tt, tt) })

  pub take_quiet : (wide : Bool) (regs : Regs) (d : ℕ) → s ≤ d → Q (take_code wide regs d)
  take_quiet true regs d le = record { each = ((λ lt. omega (arith, lt, le)), ((λ lt. omega (arith, lt, le)), tt)) }
  take_quiet false regs d le = record { each = ((λ lt. omega (arith, lt, le)), tt) }

  pub keep_quiet : (wide : Bool) (regs : Regs) (v : ℕ) → value_named regs.low < base → value_named regs.high < base → Q (keep_code wide regs v)
  keep_quiet true regs v low high = record { each = ((λ lt. low), ((λ lt. high), tt)) }
  keep_quiet false regs v low high = record { each = ((λ lt. low), tt) }

  pub address_quiet : (kind : Kind) (r : ℕ) → s ≤ r → Q (address_code kind r)
  address_quiet (InValues regs) r le = record { each = ((λ lt. omega (arith, lt, le)), tt) }
  address_quiet InFrame r le = record { each = ((λ lt. omega (arith, lt, le)), tt) }
  address_quiet InMemory r le = record { each = tt }
