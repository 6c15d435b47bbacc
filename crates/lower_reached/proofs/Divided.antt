-- Where code divides, it knows that the divisor is not 0.
use Rattle.std.proofs.Common.{◌≡◌, ◌≢◌, ℕ, zero, suc, ◌+◌, ◌*◌, ◌/◌, ◌%◌, ◌<◌, ◌≤◌, Bool, true, false, not, ◌==◌, List, [], ◌∷◌, ◌++◌, map, Option, Some, None, refl, sym, ap, ◌∙◌, subst, arith}
use Rattle.std.specs.Prelude.{ℤ, bit_or, if◌then◌else◌}
use Rattle.std.proofs.lemmas.Bool.{eq-eqb, ne_eqb}
use Rattle.nm_base.specs.declared.int_type.IntType.{IntType}
use Rattle.nm_base.specs.declared.int_type.IntType.TheVariants.{I8, U8, I16, U16, I32, U32}
use Rattle.nesc_core.specs.declared.tree.UnOp.{UnOp}
use Rattle.nesc_core.specs.declared.tree.UnOp.TheVariants as un
use Rattle.nesc_core.specs.declared.tree.BinOp.{BinOp}
use Rattle.nesc_core.specs.declared.tree.BinOp.TheVariants as bin
use Rattle.mid_code.specs.declared.instr.Mid.{Mid}
use Rattle.mid_code.specs.declared.instr.Mid.TheVariants.{Branch, Help, Jump, Label, Set}
use Rattle.mid_code.specs.declared.help.HelpOp.{HelpOp}
use Rattle.mid_code.specs.declared.help.HelpOp.TheVariants as help
use Rattle.mid_code.specs.declared.instr.Op.{Op}
use Rattle.mid_code.specs.declared.instr.Op.TheVariants.{Add, Sub, And, Or, Xor}
use Rattle.mid_code.specs.declared.instr.Test.{Test}
use Rattle.mid_code.specs.declared.instr.Test.TheVariants.{Eq, Ne}
use Rattle.mid_code.specs.Help.{is_wide, number_of_help, operation_at, type_at}
use Rattle.mid_code.specs.Reached.{DividesByOther}
use Rattle.mid_code.specs.Words.{joined}
use Rattle.mid_code.specs.Machine.{put}
use Rattle.mid_code.proofs.Written.{put_other, put_same}
use Rattle.lower_expr.specs.declared.spot.Regs.{Regs}
use Rattle.lower_expr.specs.declared.spot.Spot.{Spot}
use Rattle.lower_expr.specs.declared.spot.Spot.TheVariants.{Values, Frame}
use Rattle.lower_expr.specs.Held.{is_signed}
use Rattle.lower_expr.specs.Pieces.{binary_code, bits_code, bound_code, const_code, convert_code, count_code, distance_code, divisor_code, element_code, equal_code, fit_code, high_code, index_bound, move_code, offset_code, order_code, product_code, scaled_code, sum_code, truth_code, unary_code, values_at, zero_code}
use Rattle.lower_expr.specs.Code.{Kind, InValues, InFrame, InMemory, address_code, fetch_code, keep_code, load_code, local_code, peek_code, put_code, take_code}
use Rattle.lower_reached.proofs.Facts.{Divides, Fact, Holds, Keeps, MayStand, Plain, either, either_with, is, nothing, other, plain}

-- ---- divisors

differ : (x y : ℕ) → not (x == y) ≡ true → x ≢ y
differ x y h = λ e. let same = eq-eqb x y e in absurd (cc)

some_narrow : (x y : ℕ) → y ≡ 0 → not (x == y) ≡ true → 0 < x
some_narrow zero y e h = let no = differ zero y h in absurd (no (sym e))
some_narrow (suc x) y e h = omega arith

some_wide : (x y v z : ℕ) → v ≡ bit_or x y → z ≡ 0 → not (v == z) ≡ true → 0 < x + 65536 * y
some_wide zero zero v z e q h = let no = differ v z h in absurd (no (e ∙ sym q))
some_wide zero (suc y) v z e q h = omega arith
some_wide (suc x) y v z e q h = omega arith

-- a check is no operation
no_type : (n : ℕ) → 6 ≤ n → type_at n ≡ None
no_type n le =
    rw (
      ne_eqb n 0 (λ e. omega (arith, e, le)),
      ne_eqb n 1 (λ e. omega (arith, e, le)),
      ne_eqb n 2 (λ e. omega (arith, e, le)),
      ne_eqb n 3 (λ e. omega (arith, e, le)),
      ne_eqb n 4 (λ e. omega (arith, e, le)),
      ne_eqb n 5 (λ e. omega (arith, e, le)),
    ) refl

pub check_divides : (k : ℕ) (ins : List ℕ) (values : ℕ → ℕ) → Divides (64 + k) ins values
check_divides k ins values = subst (λ o. DividesByOther o (operation_at ((64 + k) % 8)) (map values ins)) (sym (no_type ((64 + k) / 8) (omega arith))) tt

by_other : (o : HelpOp) (t : IntType) (r : ℕ) (values : ℕ → ℕ) → 0 < joined (map values (values_at (is_wide t) (r + 2))) → Divides (number_of_help t o) (values_at (is_wide t) r ++ values_at (is_wide t) (r + 2)) values
by_other help.Mul I8 r values h = tt
by_other help.Mul U8 r values h = tt
by_other help.Mul I16 r values h = tt
by_other help.Mul U16 r values h = tt
by_other help.Mul I32 r values h = tt
by_other help.Mul U32 r values h = tt
by_other help.Div I8 r values h = h
by_other help.Div U8 r values h = h
by_other help.Div I16 r values h = h
by_other help.Div U16 r values h = h
by_other help.Div I32 r values h = h
by_other help.Div U32 r values h = h
by_other help.Rem I8 r values h = h
by_other help.Rem U8 r values h = h
by_other help.Rem I16 r values h = h
by_other help.Rem U16 r values h = h
by_other help.Rem I32 r values h = h
by_other help.Rem U32 r values h = h
by_other help.Shl I8 r values h = tt
by_other help.Shl U8 r values h = tt
by_other help.Shl I16 r values h = tt
by_other help.Shl U16 r values h = tt
by_other help.Shl I32 r values h = tt
by_other help.Shl U32 r values h = tt
by_other help.Shr I8 r values h = tt
by_other help.Shr U8 r values h = tt
by_other help.Shr I16 r values h = tt
by_other help.Shr U16 r values h = tt
by_other help.Shr I32 r values h = tt
by_other help.Shr U32 r values h = tt

product_divides : (t : IntType) (ins : List ℕ) (values : ℕ → ℕ) → Divides (number_of_help t help.Mul) ins values
product_divides I8 ins values = tt
product_divides U8 ins values = tt
product_divides I16 ins values = tt
product_divides U16 ins values = tt
product_divides I32 ins values = tt
product_divides U32 ins values = tt

left_divides : (t : IntType) (ins : List ℕ) (values : ℕ → ℕ) → Divides (number_of_help t help.Shl) ins values
left_divides I8 ins values = tt
left_divides U8 ins values = tt
left_divides I16 ins values = tt
left_divides U16 ins values = tt
left_divides I32 ins values = tt
left_divides U32 ins values = tt

right_divides : (t : IntType) (ins : List ℕ) (values : ℕ → ℕ) → Divides (number_of_help t help.Shr) ins values
right_divides I8 ins values = tt
right_divides U8 ins values = tt
right_divides I16 ins values = tt
right_divides U16 ins values = tt
right_divides I32 ins values = tt
right_divides U32 ins values = tt

-- what is known at the first label of an operation
abbrev pub guard : BinOp → IntType → (r : ℕ) → Fact
guard bin.Div t r = other (values_at (is_wide t) (r + 2))
guard bin.Rem t r = other (values_at (is_wide t) (r + 2))
guard _ t r = nothing

module _ (at_label : ℕ → Fact) where
  abbrev K : List Mid → Type 0
  K c = Keeps at_label c

  pub record IsPlain (c : List Mid) : Type 0 where
    pub each : Plain at_label c

  pub of_plain : (c : List Mid) → IsPlain c → K c
  of_plain c h = plain at_label c h.each

  plain_append : (a b : List Mid) → Plain at_label a → Plain at_label b → Plain at_label (a ++ b)
  plain_append [] b h g = g
  plain_append (Label l ∷ a) b h g = (h.0, plain_append a b h.1 g)
  plain_append (Jump l ∷ a) b h g = (h.0, plain_append a b h.1 g)
  plain_append (Branch test x y l ∷ a) b h g = (h.0, plain_append a b h.1 g)
  plain_append (Help o ins outs ∷ a) b h g = (h.0, plain_append a b h.1 g)
  plain_append (i ∷ a) b h g = plain_append a b h g

  pub both_plain : (a b : List Mid) → IsPlain a → IsPlain b → IsPlain (a ++ b)
  both_plain a b h g = record { each = plain_append a b h.each g.each }

  pub if_plain : (t : Bool) (a b : List Mid) → IsPlain a → IsPlain b → IsPlain (if t then a else b)
  if_plain true a b h g = h
  if_plain false a b h g = g

  -- ---- a number divided

  divisor_keeps : (wide : Bool) (o : HelpOp) (t : IntType) (r l : ℕ) → is_wide t ≡ wide → at_label l ≡ other (values_at wide (r + 2)) → K (divisor_code wide r l ++ product_code o t r)
  divisor_keeps false o t r l w e = record {
    over = λ u h. (
      is (r + 4) 0,
      (λ values q. put_same values (r + 4) 0),
      (
        (λ values q t1. subst (λ f. Holds f values) (sym e) (some_narrow (values (r + 2)) (values (r + 4)) q t1)),
        (at_label l, ((λ values q. q), ((λ values q. by_other o t r values (narrow values (subst (λ f. Holds f values) e q))), h))),
      ),
    );
  }
    where
      narrow : (values : ℕ → ℕ) → 0 < joined (map values (values_at false (r + 2))) → 0 < joined (map values (values_at (is_wide t) (r + 2)))
      narrow values q = subst (λ b. 0 < joined (map values (values_at b (r + 2)))) (sym w) q
  divisor_keeps true o t r l w e = record {
    over = λ u h. (
      either (r + 4) (r + 2) (r + 3),
      (λ values q. or_is values),
      (
        either_with (r + 4) (r + 2) (r + 3) (r + 5),
        (λ values q. (stays values q, put_same values (r + 5) 0)),
        (
          (λ values q t1. subst (λ f. Holds f values) (sym e) (some_pair values q t1)),
          (at_label l, ((λ values q. q), ((λ values q. by_other o t r values (pair values (subst (λ f. Holds f values) e q))), h))),
        ),
      ),
    );
  }
    where
      or_is : (values : ℕ → ℕ) → put values (r + 4) (bit_or (values (r + 2)) (values (r + 3))) (r + 4) ≡ bit_or (put values (r + 4) (bit_or (values (r + 2)) (values (r + 3))) (r + 2)) (put values (r + 4) (bit_or (values (r + 2)) (values (r + 3))) (r + 3))
      or_is values =
          let z : ℕ = bit_or (values (r + 2)) (values (r + 3)) in
          let a : put values (r + 4) z (r + 2) ≡ values (r + 2) = put_other values (r + 4) z (r + 2) (λ x. omega (arith, x)) in
          let b : put values (r + 4) z (r + 3) ≡ values (r + 3) = put_other values (r + 4) z (r + 3) (λ x. omega (arith, x)) in
          put_same values (r + 4) z ∙ ap (λ x. bit_or x (values (r + 3))) (sym a) ∙ ap (λ x. bit_or (put values (r + 4) z (r + 2)) x) (sym b)

      stays : (values : ℕ → ℕ) → values (r + 4) ≡ bit_or (values (r + 2)) (values (r + 3)) → put values (r + 5) 0 (r + 4) ≡ bit_or (put values (r + 5) 0 (r + 2)) (put values (r + 5) 0 (r + 3))
      stays values q =
          let a : put values (r + 5) 0 (r + 2) ≡ values (r + 2) = put_other values (r + 5) 0 (r + 2) (λ x. omega (arith, x)) in
          let b : put values (r + 5) 0 (r + 3) ≡ values (r + 3) = put_other values (r + 5) 0 (r + 3) (λ x. omega (arith, x)) in
          put_other values (r + 5) 0 (r + 4) (λ x. omega (arith, x)) ∙ q ∙ ap (λ x. bit_or x (values (r + 3))) (sym a) ∙ ap (λ x. bit_or (put values (r + 5) 0 (r + 2)) x) (sym b)

      some_pair : (values : ℕ → ℕ) → (values (r + 4) ≡ bit_or (values (r + 2)) (values (r + 3))) × (values (r + 5) ≡ 0) → not (values (r + 4) == values (r + 5)) ≡ true → 0 < joined (map values (values_at true (r + 2)))
      some_pair values q t1 =
          let there : r + 2 + 1 ≡ r + 3 = omega arith in
          subst (λ x. 0 < values (r + 2) + 65536 * values x) (sym there) (some_wide (values (r + 2)) (values (r + 3)) (values (r + 4)) (values (r + 5)) q.0 q.1 t1)

      pair : (values : ℕ → ℕ) → 0 < joined (map values (values_at true (r + 2))) → 0 < joined (map values (values_at (is_wide t) (r + 2)))
      pair values q = subst (λ b. 0 < joined (map values (values_at b (r + 2)))) (sym w) q

  pub distance_keeps : (size r : ℕ) → 0 < size % 65536 → K (distance_code size r)
  distance_keeps size r some = record { over = λ u h. (nothing, (λ values q. tt), by (size == 1) u h) }
    where
      by : (b : Bool) (u : List Mid) → MayStand at_label nothing u → MayStand at_label nothing ((if b then [] else Set (r + 2) (size % 65536) ∷ Help (number_of_help I16 help.Div) (r ∷ (r + 2) ∷ []) (r ∷ []) ∷ []) ++ u)
      by true u h = h
      by false u h = (is (r + 2) (size % 65536), (λ values q. put_same values (r + 2) (size % 65536)), ((λ values q. subst (λ x. 0 < x) (sym q) some), h))

  -- ---- pieces

  pub const_plain : (t : IntType) (x : ℤ) (r : ℕ) → IsPlain (const_code t x r)
  const_plain t x r = if_plain (is_wide t) _ _ (record { each = tt }) (record { each = tt })

  pub move_plain : (wide : Bool) (d r : ℕ) → IsPlain (move_code wide d r)
  move_plain true d r = record { each = tt }
  move_plain false d r = record { each = tt }

  pub fit_plain : (t : IntType) (r : ℕ) → IsPlain (fit_code t r)
  fit_plain I8 r = record { each = tt }
  fit_plain U8 r = record { each = tt }
  fit_plain I16 r = record { each = tt }
  fit_plain U16 r = record { each = tt }
  fit_plain I32 r = record { each = tt }
  fit_plain U32 r = record { each = tt }

  high_plain : (from to signed : Bool) (r l : ℕ) → at_label l ≡ nothing → IsPlain (high_code from to signed r l)
  high_plain true to signed r l e = record { each = tt }
  high_plain false true true r l e = record { each = (e, (e, tt)) }
  high_plain false true false r l e = record { each = tt }
  high_plain false false signed r l e = record { each = tt }

  pub convert_plain : (from to : IntType) (r l : ℕ) → at_label l ≡ nothing → IsPlain (convert_code from to r l)
  convert_plain from to r l e = both_plain (fit_code to r) (high_code (is_wide from) (is_wide to) (is_signed from) r l) (fit_plain to r) (high_plain (is_wide from) (is_wide to) (is_signed from) r l e)

  pub zero_plain : (test : Test) (wide : Bool) (r l : ℕ) → at_label l ≡ nothing → IsPlain (zero_code test wide r l)
  zero_plain test true r l e = record { each = (e, tt) }
  zero_plain test false r l e = record { each = (e, tt) }

  pub truth_plain : (r l : ℕ) → at_label l ≡ nothing → at_label (l + 1) ≡ nothing → IsPlain (truth_code r l)
  truth_plain r l e f = record { each = (f, (e, (f, tt))) }

  pub unary_plain : (op : UnOp) (wide : Bool) (r l : ℕ) → at_label l ≡ nothing → at_label (l + 1) ≡ nothing → IsPlain (unary_code op wide r l)
  unary_plain un.Neg true r l e f = record { each = tt }
  unary_plain un.Neg false r l e f = record { each = tt }
  unary_plain un.Not true r l e f = record { each = tt }
  unary_plain un.Not false r l e f = record { each = tt }
  unary_plain un.IsZero wide r l e f = both_plain (zero_code Eq wide r l) (truth_code r l) (zero_plain Eq wide r l e) (truth_plain r l e f)

  sum_plain : (op : Op) (wide : Bool) (r : ℕ) → IsPlain (sum_code op wide r)
  sum_plain op true r = record { each = tt }
  sum_plain op false r = record { each = tt }

  bits_plain : (op : Op) (wide : Bool) (r : ℕ) → IsPlain (bits_code op wide r)
  bits_plain op true r = record { each = tt }
  bits_plain op false r = record { each = tt }

  count_plain : (wide : Bool) (r l : ℕ) → at_label l ≡ nothing → IsPlain (count_code wide r l)
  count_plain true r l e = record { each = (e, (e, tt)) }
  count_plain false r l e = record { each = tt }

  equal_plain : (test : Test) (wide : Bool) (r l : ℕ) → at_label l ≡ nothing → at_label (l + 1) ≡ nothing → IsPlain (equal_code test wide r l)
  equal_plain test true r l e f = record { each = (e, (f, (e, (f, tt)))) }
  equal_plain test false r l e f = record { each = (e, (f, (e, (f, tt)))) }

  order_plain : (strict signed wide : Bool) (r l : ℕ) → at_label l ≡ nothing → at_label (l + 1) ≡ nothing → at_label (l + 2) ≡ nothing → IsPlain (order_code strict signed wide r l)
  order_plain strict signed true r l e f g = record { each = (e, (g, (e, (g, (f, (e, (f, tt))))))) }
  order_plain true signed false r l e f g = record { each = (e, (f, (e, (f, tt)))) }
  order_plain false signed false r l e f g = record { each = (e, (f, (e, (f, tt)))) }

  pub binary_keeps : (op : BinOp) (t s : IntType) (r l : ℕ) → at_label l ≡ guard op t r → at_label (l + 1) ≡ nothing → at_label (l + 2) ≡ nothing → K (binary_code op t s r l)
  binary_keeps bin.Add t s r l e f g = of_plain _ (both_plain (sum_code Add (is_wide t) r) (fit_code t r) (sum_plain Add (is_wide t) r) (fit_plain t r))
  binary_keeps bin.Sub t s r l e f g = of_plain _ (both_plain (sum_code Sub (is_wide t) r) (fit_code t r) (sum_plain Sub (is_wide t) r) (fit_plain t r))
  binary_keeps bin.Mul t s r l e f g = of_plain _ (record { each = (product_divides t (values_at (is_wide t) r ++ values_at (is_wide t) (r + 2)), tt) })
  binary_keeps bin.Div t s r l e f g = divisor_keeps (is_wide t) help.Div t r l refl e
  binary_keeps bin.Rem t s r l e f g = divisor_keeps (is_wide t) help.Rem t r l refl e
  binary_keeps bin.And t s r l e f g = of_plain _ (bits_plain And (is_wide t) r)
  binary_keeps bin.Or t s r l e f g = of_plain _ (bits_plain Or (is_wide t) r)
  binary_keeps bin.Xor t s r l e f g = of_plain _ (bits_plain Xor (is_wide t) r)
  binary_keeps bin.Shl t s r l e f g = of_plain _ (both_plain (count_code (is_wide s) r l) _ (count_plain (is_wide s) r l e) (record { each = (left_divides t (values_at (is_wide t) r ++ (r + 2) ∷ []), tt) }))
  binary_keeps bin.Shr t s r l e f g = of_plain _ (both_plain (count_code (is_wide s) r l) _ (count_plain (is_wide s) r l e) (record { each = (right_divides t (values_at (is_wide t) r ++ (r + 2) ∷ []), tt) }))
  binary_keeps bin.Eq t s r l e f g = of_plain _ (equal_plain Eq (is_wide t) r l e f)
  binary_keeps bin.Ne t s r l e f g = of_plain _ (equal_plain Ne (is_wide t) r l e f)
  binary_keeps bin.Lt t s r l e f g = of_plain _ (order_plain true (is_signed t) (is_wide t) r l e f g)
  binary_keeps bin.Le t s r l e f g = of_plain _ (order_plain false (is_signed t) (is_wide t) r l e f g)

  scaled_plain : (size r : ℕ) → IsPlain (scaled_code size r)
  scaled_plain size r =
      if_plain (size == 1) _ _ (record { each = tt }) (if_plain (size == 2) _ _ (record { each = tt }) (if_plain (size == 4) _ _ (record { each = tt }) (record { each = (product_divides U16 (r ∷ (r + 2) ∷ []), tt) })))

  bound_plain : (wide : Bool) (bound r l : ℕ) → at_label l ≡ nothing → at_label (l + 1) ≡ nothing → IsPlain (bound_code wide bound r l)
  bound_plain true bound r l e f = if_plain (bound == 4294967296) _ _ (record { each = tt }) (record { each = (e, (f, (e, (f, (e, tt))))) })
  bound_plain false bound r l e f = if_plain (bound == 65536) _ _ (record { each = tt }) (record { each = (e, (e, tt)) })

  pub element_plain : (t : IntType) (count size r l : ℕ) → at_label l ≡ nothing → at_label (l + 1) ≡ nothing → IsPlain (element_code t count size r l)
  element_plain t count size r l e f =
      both_plain (bound_code (is_wide t) (index_bound t count) r l) _ (bound_plain (is_wide t) (index_bound t count) r l e f) (both_plain (scaled_code size (r + 2)) _ (scaled_plain size (r + 2)) (record { each = tt }))

  pub offset_plain : (size r : ℕ) → IsPlain (offset_code size r)
  offset_plain size r = both_plain (scaled_code size (r + 2)) _ (scaled_plain size (r + 2)) (record { each = tt })

  load_plain : (t : IntType) (d r : ℕ) → IsPlain (load_code t d r)
  load_plain I8 d r = record { each = tt }
  load_plain U8 d r = record { each = tt }
  load_plain I16 d r = record { each = tt }
  load_plain U16 d r = record { each = tt }
  load_plain I32 d r = record { each = tt }
  load_plain U32 d r = record { each = tt }

  peek_plain : (t : IntType) (d r : ℕ) → IsPlain (peek_code t d r)
  peek_plain I8 d r = record { each = tt }
  peek_plain U8 d r = record { each = tt }
  peek_plain I16 d r = record { each = tt }
  peek_plain U16 d r = record { each = tt }
  peek_plain I32 d r = record { each = tt }
  peek_plain U32 d r = record { each = tt }

  take_plain : (wide : Bool) (regs : Regs) (d : ℕ) → IsPlain (take_code wide regs d)
  take_plain true regs d = record { each = tt }
  take_plain false regs d = record { each = tt }

  keep_plain : (wide : Bool) (regs : Regs) (v : ℕ) → IsPlain (keep_code wide regs v)
  keep_plain true regs v = record { each = tt }
  keep_plain false regs v = record { each = tt }

  pub fetch_plain : (kind : Kind) (t : IntType) (d r : ℕ) → IsPlain (fetch_code kind t d r)
  fetch_plain (InValues regs) t d r = take_plain (is_wide t) regs d
  fetch_plain InFrame t d r = peek_plain t d r
  fetch_plain InMemory t d r = load_plain t d r

  pub put_plain : (kind : Kind) (t : IntType) (v r : ℕ) → IsPlain (put_code kind t v r)
  put_plain (InValues regs) t v r = keep_plain (is_wide t) regs v
  put_plain InFrame t v r = if_plain (is_wide t) _ _ (record { each = tt }) (record { each = tt })
  put_plain InMemory t v r = if_plain (is_wide t) _ _ (record { each = tt }) (record { each = tt })

  pub address_plain : (kind : Kind) (r : ℕ) → IsPlain (address_code kind r)
  address_plain (InValues regs) r = record { each = tt }
  address_plain InFrame r = record { each = tt }
  address_plain InMemory r = record { each = tt }

  pub local_plain : (o : Option Spot) (r : ℕ) → IsPlain (local_code o r)
  local_plain None r = record { each = tt }
  local_plain (Some (Values regs)) r = record { each = tt }
  local_plain (Some (Frame o)) r = record { each = tt }
