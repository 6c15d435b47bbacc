-- No label stands twice in the code of an expression, and each that it names stands in it.
use Rattle.std.proofs.Common.{◌≡◌, ◌≢◌, ℕ, ℤ, ◌+◌, ◌<◌, ◌≤◌, Bool, true, false, List, [], ◌∷◌, ◌++◌, refl, sym, ap, subst, arith, append_assoc, ⊎_elim}
use Rattle.std.specs.Prelude.{◌==◌, ◌/◌, ◌%◌, Option, Some, None, slice_get, if◌then◌else◌}
use Rattle.std.proofs.lemmas.Bool.{eq-eqb}
use Rattle.std.proofs.lemmas.Bool.Decides.{eqb_tells}
use Rattle.nm_base.specs.declared.int_type.IntType.{IntType}
use Rattle.nm_base.specs.declared.int_type.IntType.TheVariants.{I8, U8, I16, U16, I32, U32}
use Rattle.mid_code.specs.declared.help.HelpOp.{HelpOp}
use Rattle.mid_code.specs.declared.help.HelpOp.TheVariants as help
use Rattle.mid_code.specs.declared.instr.Op.{Op}
use Rattle.mid_code.specs.declared.instr.Op.TheVariants.{Add, Sub, And, Or, Xor}
use Rattle.mid_code.specs.declared.instr.Test.{Test}
use Rattle.mid_code.specs.declared.instr.Test.TheVariants.{Eq, Ne, LtU}
use Rattle.mid_code.specs.declared.instr.Mid.{Mid}
use Rattle.mid_code.specs.declared.instr.Mid.TheVariants.{Set, Move, Bin, Carry, Load, Store, Peek, Poke, In, Out, Label, Jump, Branch, Call, Help, Ret, Begin, End, Post, Tick, Fault}
use Rattle.mid_code.specs.Form.{one_more, times}
use Rattle.mid_code.specs.Help.{is_wide}
use Rattle.mid_code.specs.Machine.{is_label}
use Rattle.nesc_core.specs.declared.tree.UnOp.{UnOp}
use Rattle.nesc_core.specs.declared.tree.UnOp.TheVariants as un
use Rattle.nesc_core.specs.declared.tree.BinOp.{BinOp}
use Rattle.nesc_core.specs.declared.tree.BinOp.TheVariants as bin
use Rattle.nesc_core.specs.Plain.{Ty, Expr, Exprs, no_exprs, more_exprs, Place, Program}
use Rattle.nesc_core.specs.Plain as plain
use Rattle.lower_expr.specs.declared.spot.Regs.{Regs}
use Rattle.lower_expr.specs.declared.spot.Spot.{Spot}
use Rattle.lower_expr.specs.declared.spot.Spot.TheVariants.{Values, Frame}
use Rattle.lower_expr.specs.Pieces.{const_code, move_code, fit_code, widen_code, high_code, convert_code, truth_code, zero_code, unary_code, sum_code, bits_code, divisor_code, product_code, count_code, shift_code, equal_code, order_code, binary_code, scaled_code, index_bound, bound_code, element_code, offset_code, distance_code}
use Rattle.nesc_core.specs.PlaceTypes.{place_type, element_of, count_of}
use Rattle.core_meaning.specs.Layout.{size_of}
use Rattle.core_meaning.specs.Work.{number_of}
use Rattle.lower_expr.specs.Held.{held, is_signed}
use Rattle.lower_expr.specs.Code.{kind_of, labels, place_labels, all_labels, expr_code, place_code, args_code, Kind, InValues, InFrame, InMemory, sign_code, load_code, peek_code, store_code, poke_code, take_code, keep_code, fetch_code, put_code, local_code, address_code}
use Rattle.expr_emitter.specs.Laws.{NamesIn, HasLabels}
use Rattle.expr_emitter.specs.Scoped.{update_code}

-- ---- counting

-- t is how often the label k stands in code whose labels are n, from lo on
record Once (k lo n t : ℕ) : Type 0 where
  under : k < lo → t ≡ 0
  over : lo + n ≤ k → t ≡ 0
  most : t ≤ 1

times-append : (k : ℕ) (a b : List Mid) → times k (a ++ b) ≡ times k a + times k b
times-append k [] b = omega arith
times-append k (i ∷ a) b =
    let r = times-append k a b in
    elim (is_label i k) as (λ t. one_more t (times k (a ++ b)) ≡ one_more t (times k a) + times k b) [ true ↦ omega (arith, r) | false ↦ r ]

abbrev here : ℕ → ℕ → ℕ
here k l = one_more (l == k) 0

one_tells : (k l : ℕ) → (l ≡ k → here k l ≡ 1) × (l ≢ k → here k l ≡ 0) × (here k l ≤ 1)
one_tells k l =
    ⊎_elim
    (λ t. let e = ap (λ b. one_more b 0) t.0 in ((λ _. e), (λ ne. absurd (ne t.1)), omega (arith, e)))
    (λ t. let e = ap (λ b. one_more b 0) t.0 in ((λ is. absurd (t.1 is)), (λ _. e), omega (arith, e)))
    (eqb_tells l k)

one : (k l : ℕ) → Once k l 1 (here k l)
one k l = let t = one_tells k l in record { under = λ lt. t.1 (λ e. omega arith); over = λ ge. t.1 (λ e. omega arith); most = t.2 }

one_plus : (k l n : ℕ) → one_more (l == k) n ≡ here k l + n
one_plus k l n = elim (l == k) as (λ b. one_more b n ≡ one_more b 0 + n) [ true ↦ omega arith | false ↦ omega arith ]

join : (k lo1 n1 lo2 n2 lo n t u v : ℕ) → lo ≤ lo1 → lo1 + n1 ≤ lo2 → lo2 + n2 ≤ lo + n → v ≡ t + u → Once k lo1 n1 t → Once k lo2 n2 u → Once k lo n v
join k lo1 n1 lo2 n2 lo n t u v a b c e h h2 = record { under = λ lt. grind arith; over = λ ge. grind arith; most = grind arith }

-- ---- labels that are named

more_names : (w v is : List Mid) → ((k : ℕ) → 1 ≤ times k v → 1 ≤ times k w) → NamesIn v is → NamesIn w is
more_names w v [] go h = tt
more_names w v (Jump k ∷ is) go h = (go k h.0, more_names w v is go h.1)
more_names w v (Branch test x y k ∷ is) go h = (go k h.0, more_names w v is go h.1)
more_names w v (Set d n ∷ is) go h = more_names w v is go h
more_names w v (Move d x ∷ is) go h = more_names w v is go h
more_names w v (Bin op d x y ∷ is) go h = more_names w v is go h
more_names w v (Carry op d x y ∷ is) go h = more_names w v is go h
more_names w v (Load b d x ∷ is) go h = more_names w v is go h
more_names w v (Store b d x ∷ is) go h = more_names w v is go h
more_names w v (Peek b d x ∷ is) go h = more_names w v is go h
more_names w v (Poke b d x ∷ is) go h = more_names w v is go h
more_names w v (In d port ∷ is) go h = more_names w v is go h
more_names w v (Out port d ∷ is) go h = more_names w v is go h
more_names w v (Label k ∷ is) go h = more_names w v is go h
more_names w v (Call g ins outs ∷ is) go h = more_names w v is go h
more_names w v (Help g ins outs ∷ is) go h = more_names w v is go h
more_names w v (Ret vs ∷ is) go h = more_names w v is go h
more_names w v (Begin o ∷ is) go h = more_names w v is go h
more_names w v (End o ∷ is) go h = more_names w v is go h
more_names w v (Post k d ∷ is) go h = more_names w v is go h
more_names w v (Tick ∷ is) go h = more_names w v is go h
more_names w v (Fault c ∷ is) go h = more_names w v is go h

names-append : (w a b : List Mid) → NamesIn w a → NamesIn w b → NamesIn w (a ++ b)
names-append w [] b h g = g
names-append w (Jump k ∷ is) b h g = (h.0, names-append w is b h.1 g)
names-append w (Branch test x y k ∷ is) b h g = (h.0, names-append w is b h.1 g)
names-append w (Set d n ∷ is) b h g = names-append w is b h g
names-append w (Move d x ∷ is) b h g = names-append w is b h g
names-append w (Bin op d x y ∷ is) b h g = names-append w is b h g
names-append w (Carry op d x y ∷ is) b h g = names-append w is b h g
names-append w (Load c d x ∷ is) b h g = names-append w is b h g
names-append w (Store c d x ∷ is) b h g = names-append w is b h g
names-append w (Peek c d x ∷ is) b h g = names-append w is b h g
names-append w (Poke c d x ∷ is) b h g = names-append w is b h g
names-append w (In d port ∷ is) b h g = names-append w is b h g
names-append w (Out port d ∷ is) b h g = names-append w is b h g
names-append w (Label k ∷ is) b h g = names-append w is b h g
names-append w (Call c ins outs ∷ is) b h g = names-append w is b h g
names-append w (Help c ins outs ∷ is) b h g = names-append w is b h g
names-append w (Ret vs ∷ is) b h g = names-append w is b h g
names-append w (Begin o ∷ is) b h g = names-append w is b h g
names-append w (End o ∷ is) b h g = names-append w is b h g
names-append w (Post k d ∷ is) b h g = names-append w is b h g
names-append w (Tick ∷ is) b h g = names-append w is b h g
names-append w (Fault c ∷ is) b h g = names-append w is b h g

-- ---- code with labels of its own

record Fresh (lo n : ℕ) (c : List Mid) : Type 0 where
  once : (k : ℕ) → Once k lo n (times k c)
  named : NamesIn c c

-- code without labels
record Free (c : List Mid) : Type 0 where
  none : (k : ℕ) → times k c ≡ 0
  named : (w : List Mid) → NamesIn w c

both_named : (a b : List Mid) → NamesIn a a → NamesIn b b → NamesIn (a ++ b) (a ++ b)
both_named a b h g =
    names-append (a ++ b) a b
    (more_names (a ++ b) a a (λ k le. let e = times-append k a b in omega arith) h)
    (more_names (a ++ b) b b (λ k le. let e = times-append k a b in omega arith) g)

-- labels of the first are the lower ones
before : (lo1 n1 lo2 n2 lo n : ℕ) (a b : List Mid) → lo ≤ lo1 → lo1 + n1 ≤ lo2 → lo2 + n2 ≤ lo + n → Fresh lo1 n1 a → Fresh lo2 n2 b → Fresh lo n (a ++ b)
before lo1 n1 lo2 n2 lo n a b x y z h g = record {
  once = λ k. join k lo1 n1 lo2 n2 lo n (times k a) (times k b) _ x y z (times-append k a b) (h.once k) (g.once k);
  named = both_named a b h.named g.named;
}

-- and those of the second
behind : (lo1 n1 lo2 n2 lo n : ℕ) (a b : List Mid) → lo ≤ lo2 → lo2 + n2 ≤ lo1 → lo1 + n1 ≤ lo + n → Fresh lo1 n1 a → Fresh lo2 n2 b → Fresh lo n (a ++ b)
behind lo1 n1 lo2 n2 lo n a b x y z h g = record {
  once = λ k. join k lo2 n2 lo1 n1 lo n (times k b) (times k a) _ x y z (let e = times-append k a b in omega arith) (g.once k) (h.once k);
  named = both_named a b h.named g.named;
}

free : (lo n : ℕ) (c : List Mid) → Free c → Fresh lo n c
free lo n c h = record {
  once = λ k. let e = h.none k in record { under = λ _. e; over = λ _. e; most = omega arith };
  named = h.named c;
}

within : (lo1 n1 lo n : ℕ) (c : List Mid) → lo ≤ lo1 → lo1 + n1 ≤ lo + n → Fresh lo1 n1 c → Fresh lo n c
within lo1 n1 lo n c x y h = record {
  once = λ k. let o = h.once k in record { under = λ lt. o.under (omega arith); over = λ ge. o.over (omega arith); most = o.most };
  named = h.named;
}

tail : (lo n : ℕ) (a b : List Mid) → Free b → Fresh lo n a → Fresh lo n (a ++ b)
tail lo n a b f h = before lo n (lo + n) 0 lo n a b (omega arith) (omega arith) (omega arith) h (free (lo + n) 0 b f)

head : (lo n : ℕ) (a b : List Mid) → Free a → Fresh lo n b → Fresh lo n (a ++ b)
head lo n a b f h = before lo 0 lo n lo n a b (omega arith) (omega arith) (omega arith) (free lo 0 a f) h

free-append : (a b : List Mid) → Free a → Free b → Free (a ++ b)
free-append a b f g = record {
  none = λ k. let e = times-append k a b in let x = f.none k in let y = g.none k in omega arith;
  named = λ w. names-append w a b (f.named w) (g.named w);
}

-- ---- a label that is there

at_self : (k n : ℕ) → 1 ≤ one_more (k == k) n
at_self k n = subst (λ b. 1 ≤ one_more b n) (sym (eq-eqb k k refl)) (omega arith)

past : (b : Bool) (n : ℕ) → 1 ≤ n → 1 ≤ one_more b n
past true n h = omega arith
past false n h = h

-- ---- the pieces

nothing : Free []
nothing = record { none = λ k. refl; named = λ w. tt }

const_free : (t : IntType) (x : ℤ) (r : ℕ) → Free (const_code t x r)
const_free I8 x r = record { none = λ k. refl; named = λ w. tt }
const_free U8 x r = record { none = λ k. refl; named = λ w. tt }
const_free I16 x r = record { none = λ k. refl; named = λ w. tt }
const_free U16 x r = record { none = λ k. refl; named = λ w. tt }
const_free I32 x r = record { none = λ k. refl; named = λ w. tt }
const_free U32 x r = record { none = λ k. refl; named = λ w. tt }

move_free : (wide : Bool) (d r : ℕ) → Free (move_code wide d r)
move_free true d r = record { none = λ k. refl; named = λ w. tt }
move_free false d r = record { none = λ k. refl; named = λ w. tt }

fit_free : (t : IntType) (r : ℕ) → Free (fit_code t r)
fit_free I8 r = record { none = λ k. refl; named = λ w. tt }
fit_free U8 r = record { none = λ k. refl; named = λ w. tt }
fit_free I16 r = nothing
fit_free U16 r = nothing
fit_free I32 r = nothing
fit_free U32 r = nothing

widen_fresh : (signed : Bool) (r l : ℕ) → Fresh l 1 (widen_code signed r l)
widen_fresh true r l = record { once = λ k. one k l; named = (at_self l 0, tt) }
widen_fresh false r l = free l 1 _ (record { none = λ k. refl; named = λ w. tt })

high_fresh : (from to signed : Bool) (r l : ℕ) → Fresh l 1 (high_code from to signed r l)
high_fresh true to signed r l = free l 1 [] nothing
high_fresh false true signed r l = widen_fresh signed r l
high_fresh false false signed r l = free l 1 [] nothing

convert_fresh : (from to : IntType) (r l : ℕ) → Fresh l 1 (convert_code from to r l)
convert_fresh from to r l = head l 1 (fit_code to r) _ (fit_free to r) (high_fresh (is_wide from) (is_wide to) (is_signed from) r l)

two : (k l : ℕ) → Once k l 2 (here k l + here k (l + 1))
two k l = join k l 1 (l + 1) 1 l 2 (here k l) (here k (l + 1)) _ (omega arith) (omega arith) (omega arith) refl (one k l) (one k (l + 1))

truth_fresh : (r l : ℕ) → Fresh l 2 (truth_code r l)
truth_fresh r l = record {
  once = λ k. subst (Once k l 2) (sym (one_plus k l (here k (l + 1)))) (two k l);
  named = (past (l == l + 1) _ (at_self (l + 1) 0), tt);
}

zero_free : (test : Test) (wide : Bool) (r l : ℕ) (k : ℕ) → times k (zero_code test wide r l) ≡ 0
zero_free test true r l k = refl
zero_free test false r l k = refl

zero_named : (w : List Mid) (test : Test) (wide : Bool) (r l : ℕ) → 1 ≤ times l w → NamesIn w (zero_code test wide r l)
zero_named w test true r l h = (h, tt)
zero_named w test false r l h = (h, tt)

-- a branch to the label of a truth behind it
tested_fresh : (a : List Mid) (r l : ℕ) → ((k : ℕ) → times k a ≡ 0) → ((w : List Mid) → 1 ≤ times l w → NamesIn w a) → Fresh l 2 (a ++ truth_code r l)
tested_fresh a r l none names =
    let t = truth_fresh r l in
    let there : 1 ≤ times l (a ++ truth_code r l) = let e = times-append l a (truth_code r l) in let x = at_self l (here l (l + 1)) in omega arith in
    record {
      once = λ k. let e = times-append k a (truth_code r l) in let z = none k in subst (Once k l 2) (omega arith) (t.once k);
      named = names-append (a ++ truth_code r l) a (truth_code r l) (names (a ++ truth_code r l) there)
          (more_names (a ++ truth_code r l) (truth_code r l) (truth_code r l) (λ k le. let e = times-append k a (truth_code r l) in omega arith) t.named);
    }

unary_fresh : (op : UnOp) (wide : Bool) (r l : ℕ) → Fresh l 2 (unary_code op wide r l)
unary_fresh un.Neg true r l = free l 2 _ (record { none = λ k. refl; named = λ w. tt })
unary_fresh un.Neg false r l = free l 2 _ (record { none = λ k. refl; named = λ w. tt })
unary_fresh un.Not true r l = free l 2 _ (record { none = λ k. refl; named = λ w. tt })
unary_fresh un.Not false r l = free l 2 _ (record { none = λ k. refl; named = λ w. tt })
unary_fresh un.IsZero wide r l = tested_fresh (zero_code Eq wide r l) r l (zero_free Eq wide r l) (λ w h. zero_named w Eq wide r l h)

sum_free : (op : Op) (wide : Bool) (r : ℕ) → Free (sum_code op wide r)
sum_free op true r = record { none = λ k. refl; named = λ w. tt }
sum_free op false r = record { none = λ k. refl; named = λ w. tt }

bits_free : (op : Op) (wide : Bool) (r : ℕ) → Free (bits_code op wide r)
bits_free op true r = record { none = λ k. refl; named = λ w. tt }
bits_free op false r = record { none = λ k. refl; named = λ w. tt }

divisor_fresh : (wide : Bool) (r l : ℕ) → Fresh l 1 (divisor_code wide r l)
divisor_fresh true r l = record { once = λ k. one k l; named = (at_self l 0, tt) }
divisor_fresh false r l = record { once = λ k. one k l; named = (at_self l 0, tt) }

product_free : (o : HelpOp) (t : IntType) (r : ℕ) → Free (product_code o t r)
product_free o t r = record { none = λ k. refl; named = λ w. tt }

count_fresh : (wide : Bool) (r l : ℕ) → Fresh l 1 (count_code wide r l)
count_fresh true r l = record { once = λ k. one k l; named = (at_self l 0, tt) }
count_fresh false r l = free l 1 [] nothing

shift_fresh : (o : HelpOp) (t count : IntType) (r l : ℕ) → Fresh l 1 (shift_code o t count r l)
shift_fresh o t count r l = tail l 1 (count_code (is_wide count) r l) _ (record { none = λ k. refl; named = λ w. tt }) (count_fresh (is_wide count) r l)

equal_fresh : (test : Test) (wide : Bool) (r l : ℕ) → Fresh l 2 (equal_code test wide r l)
equal_fresh test true r l =
    tested_fresh (Bin Xor r r (r + 2) ∷ Bin Xor (r + 1) (r + 1) (r + 3) ∷ Bin Or r r (r + 1) ∷ Set (r + 2) 0 ∷ Branch test r (r + 2) l ∷ []) r l (λ k. refl) (λ w h. (h, tt))
equal_fresh test false r l = tested_fresh (Branch test r (r + 2) l ∷ []) r l (λ k. refl) (λ w h. (h, tt))

order_fresh : (strict signed wide : Bool) (r l : ℕ) → Fresh l 3 (order_code strict signed wide r l)
order_fresh strict signed true r l =
    record {
      once = λ k. join k l 2 (l + 2) 1 l 3 (times k (truth_code r l)) (here k (l + 2)) _ (omega arith) (omega arith) (omega arith)
          (let z = one_plus k (l + 2) (times k (truth_code r l)) in omega arith) ((truth_fresh r l).once k) (one k (l + 2));
      named =
          (past (l + 2 == l) _ (at_self l _), (at_self (l + 2) _, (past (l + 2 == l) _ (at_self l _), (past (l + 2 == l + 1) _ (past (l == l + 1) _ (at_self (l + 1) 0)), tt))));
    }
order_fresh true signed false r l = within l 2 l 3 _ (omega arith) (omega arith) (tested_fresh (Branch _ r (r + 2) l ∷ []) r l (λ k. refl) (λ w h. (h, tt)))
order_fresh false signed false r l = within l 2 l 3 _ (omega arith) (omega arith) (tested_fresh (Branch _ r (r + 2) l ∷ []) r l (λ k. refl) (λ w h. (h, tt)))

three : (m l : ℕ) (c : List Mid) → m ≤ 3 → Fresh l m c → Fresh l 3 c
three m l c le h = within l m l 3 c (omega arith) (omega arith) h

binary_fresh : (op : BinOp) (t s : IntType) (r l : ℕ) → Fresh l 3 (binary_code op t s r l)
binary_fresh bin.Add t s r l = free l 3 _ (free-append (sum_code Add (is_wide t) r) (fit_code t r) (sum_free Add (is_wide t) r) (fit_free t r))
binary_fresh bin.Sub t s r l = free l 3 _ (free-append (sum_code Sub (is_wide t) r) (fit_code t r) (sum_free Sub (is_wide t) r) (fit_free t r))
binary_fresh bin.Mul t s r l = free l 3 _ (product_free help.Mul t r)
binary_fresh bin.Div t s r l = three 1 l _ (omega arith) (tail l 1 (divisor_code (is_wide t) r l) _ (product_free help.Div t r) (divisor_fresh (is_wide t) r l))
binary_fresh bin.Rem t s r l = three 1 l _ (omega arith) (tail l 1 (divisor_code (is_wide t) r l) _ (product_free help.Rem t r) (divisor_fresh (is_wide t) r l))
binary_fresh bin.And t s r l = free l 3 _ (bits_free And (is_wide t) r)
binary_fresh bin.Or t s r l = free l 3 _ (bits_free Or (is_wide t) r)
binary_fresh bin.Xor t s r l = free l 3 _ (bits_free Xor (is_wide t) r)
binary_fresh bin.Shl t s r l = three 1 l _ (omega arith) (shift_fresh help.Shl t s r l)
binary_fresh bin.Shr t s r l = three 1 l _ (omega arith) (shift_fresh help.Shr t s r l)
binary_fresh bin.Eq t s r l = three 2 l _ (omega arith) (equal_fresh Eq (is_wide t) r l)
binary_fresh bin.Ne t s r l = three 2 l _ (omega arith) (equal_fresh Ne (is_wide t) r l)
binary_fresh bin.Lt t s r l = order_fresh true (is_signed t) (is_wide t) r l
binary_fresh bin.Le t s r l = order_fresh false (is_signed t) (is_wide t) r l

-- ---- elements

scaled_by : (a b c : Bool) (size r : ℕ) → Free (if a then [] else if b then Bin Add r r r ∷ [] else if c then Bin Add r r r ∷ Bin Add r r r ∷ [] else Set (r + 2) size ∷ Help 24 (r ∷ (r + 2) ∷ []) (r ∷ []) ∷ [])
scaled_by true b c size r = nothing
scaled_by false true c size r = record { none = λ k. refl; named = λ w. tt }
scaled_by false false true size r = record { none = λ k. refl; named = λ w. tt }
scaled_by false false false size r = record { none = λ k. refl; named = λ w. tt }

scaled_free : (size r : ℕ) → Free (scaled_code size r)
scaled_free size r = scaled_by (size == 1) (size == 2) (size == 4) (size % 65536) r

wide_bound : (b : Bool) (low high r l : ℕ) → Fresh l 2 (if b then [] else Set (r + 4) high ∷ Branch LtU (r + 3) (r + 4) l ∷ Branch Ne (r + 3) (r + 4) (l + 1) ∷ Set (r + 4) low ∷ Branch LtU (r + 2) (r + 4) l ∷ Label (l + 1) ∷ Fault 1 ∷ Label l ∷ [])
wide_bound true low high r l = free l 2 [] nothing
wide_bound false low high r l = record {
  once = λ k. subst (Once k l 2) (let e = one_plus k (l + 1) (here k l) in omega arith) (two k l);
  named = (past (l + 1 == l) _ (at_self l 0), (at_self (l + 1) _, (past (l + 1 == l) _ (at_self l 0), tt)));
}

narrow_bound : (b : Bool) (bound r l : ℕ) → Fresh l 2 (if b then [] else Set (r + 4) bound ∷ Branch LtU (r + 2) (r + 4) l ∷ Fault 1 ∷ Label l ∷ [])
narrow_bound true bound r l = free l 2 [] nothing
narrow_bound false bound r l = within l 1 l 2 _ (omega arith) (omega arith) (record { once = λ k. one k l; named = (at_self l 0, tt) })

bound_fresh : (wide : Bool) (bound r l : ℕ) → Fresh l 2 (bound_code wide bound r l)
bound_fresh true bound r l = wide_bound (bound == 4294967296) (bound % 65536) (bound / 65536) r l
bound_fresh false bound r l = narrow_bound (bound == 65536) bound r l

offset_free : (size r : ℕ) → Free (offset_code size r)
offset_free size r = free-append (scaled_code size (r + 2)) _ (scaled_free size (r + 2)) (record { none = λ k. refl; named = λ w. tt })

element_fresh : (t : IntType) (count size r l : ℕ) → Fresh l 2 (element_code t count size r l)
element_fresh t count size r l = tail l 2 (bound_code (is_wide t) (index_bound t count) r l) _ (offset_free size r) (bound_fresh (is_wide t) (index_bound t count) r l)

apart_by : (b : Bool) (size r : ℕ) → Free (Bin Sub r r (r + 2) ∷ (if b then [] else Set (r + 2) size ∷ Help 17 (r ∷ (r + 2) ∷ []) (r ∷ []) ∷ []))
apart_by true size r = record { none = λ k. refl; named = λ w. tt }
apart_by false size r = record { none = λ k. refl; named = λ w. tt }

distance_free : (size r : ℕ) → Free (distance_code size r)
distance_free size r = apart_by (size == 1) (size % 65536) r

-- ---- accesses

sign_free : (t : IntType) (d : ℕ) → Free (sign_code t d)
sign_free I8 d = fit_free I8 d
sign_free U8 d = nothing
sign_free I16 d = nothing
sign_free U16 d = nothing
sign_free I32 d = nothing
sign_free U32 d = nothing

-- an instruction that neither is nor names a label
plain_first : (i : Mid) (c : List Mid) → ((k : ℕ) → times k (i ∷ []) ≡ 0) → ((w : List Mid) → NamesIn w (i ∷ [])) → Free c → Free (i ∷ c)
plain_first i c none named h = free-append (i ∷ []) c (record { none = none; named = named }) h

load_free : (t : IntType) (d r : ℕ) → Free (load_code t d r)
load_free I8 d r = plain_first (Load false d r) (sign_code I8 d) (λ k. refl) (λ w. tt) (sign_free I8 d)
load_free U8 d r = record { none = λ k. refl; named = λ w. tt }
load_free I16 d r = record { none = λ k. refl; named = λ w. tt }
load_free U16 d r = record { none = λ k. refl; named = λ w. tt }
load_free I32 d r = record { none = λ k. refl; named = λ w. tt }
load_free U32 d r = record { none = λ k. refl; named = λ w. tt }

peek_free : (t : IntType) (d r : ℕ) → Free (peek_code t d r)
peek_free I8 d r = plain_first (Peek false d r) (sign_code I8 d) (λ k. refl) (λ w. tt) (sign_free I8 d)
peek_free U8 d r = record { none = λ k. refl; named = λ w. tt }
peek_free I16 d r = record { none = λ k. refl; named = λ w. tt }
peek_free U16 d r = record { none = λ k. refl; named = λ w. tt }
peek_free I32 d r = record { none = λ k. refl; named = λ w. tt }
peek_free U32 d r = record { none = λ k. refl; named = λ w. tt }

store_free : (t : IntType) (v r : ℕ) → Free (store_code t v r)
store_free I8 v r = record { none = λ k. refl; named = λ w. tt }
store_free U8 v r = record { none = λ k. refl; named = λ w. tt }
store_free I16 v r = record { none = λ k. refl; named = λ w. tt }
store_free U16 v r = record { none = λ k. refl; named = λ w. tt }
store_free I32 v r = record { none = λ k. refl; named = λ w. tt }
store_free U32 v r = record { none = λ k. refl; named = λ w. tt }

poke_free : (t : IntType) (v r : ℕ) → Free (poke_code t v r)
poke_free I8 v r = record { none = λ k. refl; named = λ w. tt }
poke_free U8 v r = record { none = λ k. refl; named = λ w. tt }
poke_free I16 v r = record { none = λ k. refl; named = λ w. tt }
poke_free U16 v r = record { none = λ k. refl; named = λ w. tt }
poke_free I32 v r = record { none = λ k. refl; named = λ w. tt }
poke_free U32 v r = record { none = λ k. refl; named = λ w. tt }

take_free : (wide : Bool) (regs : Regs) (d : ℕ) → Free (take_code wide regs d)
take_free true regs d = record { none = λ k. refl; named = λ w. tt }
take_free false regs d = record { none = λ k. refl; named = λ w. tt }

keep_free : (wide : Bool) (regs : Regs) (v : ℕ) → Free (keep_code wide regs v)
keep_free true regs v = record { none = λ k. refl; named = λ w. tt }
keep_free false regs v = record { none = λ k. refl; named = λ w. tt }

fetch_free : (kind : Kind) (t : IntType) (d r : ℕ) → Free (fetch_code kind t d r)
fetch_free (InValues regs) t d r = take_free (is_wide t) regs d
fetch_free InFrame t d r = peek_free t d r
fetch_free InMemory t d r = load_free t d r

put_free : (kind : Kind) (t : IntType) (v r : ℕ) → Free (put_code kind t v r)
put_free (InValues regs) t v r = keep_free (is_wide t) regs v
put_free InFrame t v r = poke_free t v r
put_free InMemory t v r = store_free t v r

local_free : (o : Option Spot) (r : ℕ) → Free (local_code o r)
local_free None r = record { none = λ k. refl; named = λ w. tt }
local_free (Some (Values regs)) r = nothing
local_free (Some (Frame o)) r = record { none = λ k. refl; named = λ w. tt }

address_free : (kind : Kind) (r : ℕ) → Free (address_code kind r)
address_free (InValues regs) r = record { none = λ k. refl; named = λ w. tt }
address_free InFrame r = record { none = λ k. refl; named = λ w. tt }
address_free InMemory r = nothing

update_fresh : (kind : Kind) (of : IntType) (op : BinOp) (t s : IntType) (old : Bool) (r l : ℕ) → Fresh l 5 (update_code kind of op t s old r l)
update_fresh kind of op t s old r l =
    head l 5 (move_code (is_wide of) (r + 6) (r + 2)) _ (move_free (is_wide of) (r + 6) (r + 2))
    (before l 1 (l + 1) 4 l 5 (convert_code of t (r + 6) l) _ (omega arith) (omega arith) (omega arith) (convert_fresh of t (r + 6) l)
    (head (l + 1) 4 (move_code (is_wide s) (r + 8) (r + 4)) _ (move_free (is_wide s) (r + 8) (r + 4))
    (before (l + 1) 3 (l + 4) 1 (l + 1) 4 (binary_code op t s (r + 6) (l + 1)) _ (omega arith) (omega arith) (omega arith) (binary_fresh op t s (r + 6) (l + 1))
    (tail (l + 4) 1 (convert_code t of (r + 6) (l + 4)) _
    (free-append (put_code kind of (r + 6) r) (move_code (is_wide of) r (if old then r + 2 else r + 6)) (put_free kind of (r + 6) r) (move_free (is_wide of) r (if old then r + 2 else r + 6)))
    (convert_fresh t of (r + 6) (l + 4))))))

-- ---- labels of its own behind those of two parts

own_last : (m la lb l : ℕ) (a b own : List Mid) → Fresh (l + m) la a → Fresh (l + m + la) lb b → Fresh l m own → Fresh l (m + la + lb) (a ++ (b ++ own))
own_last m la lb l a b own ha hb h =
    subst (Fresh l (m + la + lb)) (append_assoc a b own)
    (behind (l + m) (la + lb) l m l (m + la + lb) (a ++ b) own (omega arith) (omega arith) (omega arith)
    (before (l + m) la (l + m + la) lb (l + m) (la + lb) a b (omega arith) (omega arith) (omega arith) ha hb) h)

-- ---- expressions that go on or not by a test

-- behind the two labels of its own, labels of two parts
join_two : (k l la lb h0 h1 t1 t2 v : ℕ) → v ≡ h0 + h1 + t1 + t2 → Once k l 1 h0 → Once k (l + 1) 1 h1 → Once k (l + 2) la t1 → Once k (l + 2 + la) lb t2 → Once k l (2 + la + lb) v
join_two k l la lb h0 h1 t1 t2 v e a b c d =
    join k l (2 + la) (l + 2 + la) lb l (2 + la + lb) (h0 + h1 + t1) t2 v (omega arith) (omega arith) (omega arith) e
    (join k l 2 (l + 2) la l (2 + la) (h0 + h1) t1 _ (omega arith) (omega arith) (omega arith) refl
    (join k l 1 (l + 1) 1 l 2 h0 h1 _ (omega arith) (omega arith) (omega arith) refl a b) c) d

join_three : (k l la lb lc h0 h1 t1 t2 t3 v : ℕ) → v ≡ h0 + h1 + t1 + t2 + t3 → Once k l 1 h0 → Once k (l + 1) 1 h1 → Once k (l + 2) la t1 → Once k (l + 2 + la) lb t2
    → Once k (l + 2 + la + lb) lc t3 → Once k l (2 + la + lb + lc) v
join_three k l la lb lc h0 h1 t1 t2 t3 v e a b c d f =
    join k l (2 + la + lb) (l + 2 + la + lb) lc l (2 + la + lb + lc) (h0 + h1 + t1 + t2) t3 v (omega arith) (omega arith) (omega arith) e
    (join_two k l la lb h0 h1 t1 t2 _ refl a b c d) f

-- two parts, each followed by a test that goes to l, and what ends the expression, in which l and l + 1 stand
module _ (a b zero_a zero_b end : List Mid) (l la lb : ℕ) where
  abbrev tested : List Mid
  tested = a ++ (zero_a ++ (b ++ (zero_b ++ end)))

  counted : (k : ℕ) → times k zero_a ≡ 0 → times k zero_b ≡ 0 → times k end ≡ here k l + here k (l + 1)
      → times k tested ≡ here k l + here k (l + 1) + times k a + times k b
  counted k za zb e =
      let e1 = times-append k a (zero_a ++ (b ++ (zero_b ++ end))) in
      let e2 = times-append k zero_a (b ++ (zero_b ++ end)) in
      let e3 = times-append k b (zero_b ++ end) in
      let e4 = times-append k zero_b end in
      omega arith

  tested_two : ((k : ℕ) → times k zero_a ≡ 0) → ((k : ℕ) → times k zero_b ≡ 0) → ((k : ℕ) → times k end ≡ here k l + here k (l + 1))
      → ((w : List Mid) → 1 ≤ times l w → NamesIn w zero_a) → ((w : List Mid) → 1 ≤ times l w → NamesIn w zero_b) → ((w : List Mid) → 1 ≤ times (l + 1) w → NamesIn w end)
      → Fresh (l + 2) la a → Fresh (l + 2 + la) lb b → Fresh l (2 + la + lb) tested
  tested_two za zb ends names_a names_b names_end ha hb =
      let first : 1 ≤ times l tested = let e = counted l (za l) (zb l) (ends l) in let x = at_self l 0 in omega arith in
      let last : 1 ≤ times (l + 1) tested = let e = counted (l + 1) (za (l + 1)) (zb (l + 1)) (ends (l + 1)) in let x = at_self (l + 1) 0 in omega arith in
      record {
        once = λ k. join_two k l la lb (here k l) (here k (l + 1)) (times k a) (times k b) _ (counted k (za k) (zb k) (ends k)) (one k l) (one k (l + 1)) (ha.once k) (hb.once k);
        named =
            names-append tested a _ (more_names tested a a (λ k le. let e = counted k (za k) (zb k) (ends k) in omega arith) ha.named)
            (names-append tested zero_a _ (names_a tested first)
            (names-append tested b _ (more_names tested b b (λ k le. let e = counted k (za k) (zb k) (ends k) in omega arith) hb.named)
            (names-append tested zero_b _ (names_b tested first) (names_end tested last))));
      }

-- one of two parts by a third
module _ (a b c zero_a : List Mid) (l la lb lc : ℕ) where
  abbrev split_code : List Mid
  split_code = a ++ (zero_a ++ (b ++ (Jump (l + 1) ∷ Label l ∷ (c ++ Label (l + 1) ∷ []))))

  counted_three : (k : ℕ) → times k zero_a ≡ 0 → times k split_code ≡ here k l + here k (l + 1) + times k a + times k b + times k c
  counted_three k za =
      let e1 = times-append k a (zero_a ++ (b ++ (Jump (l + 1) ∷ Label l ∷ (c ++ Label (l + 1) ∷ [])))) in
      let e2 = times-append k zero_a (b ++ (Jump (l + 1) ∷ Label l ∷ (c ++ Label (l + 1) ∷ []))) in
      let e3 = times-append k b (Jump (l + 1) ∷ Label l ∷ (c ++ Label (l + 1) ∷ [])) in
      let e4 = one_plus k l (times k (c ++ Label (l + 1) ∷ [])) in
      let e5 = times-append k c (Label (l + 1) ∷ []) in
      omega arith

  chosen_fresh : ((k : ℕ) → times k zero_a ≡ 0) → ((w : List Mid) → 1 ≤ times l w → NamesIn w zero_a)
      → Fresh (l + 2) la a → Fresh (l + 2 + la) lb b → Fresh (l + 2 + la + lb) lc c → Fresh l (2 + la + lb + lc) split_code
  chosen_fresh za names_a ha hb hc =
      let first : 1 ≤ times l split_code = let e = counted_three l (za l) in let x = at_self l 0 in omega arith in
      let last : 1 ≤ times (l + 1) split_code = let e = counted_three (l + 1) (za (l + 1)) in let x = at_self (l + 1) 0 in omega arith in
      record {
        once = λ k. join_three k l la lb lc (here k l) (here k (l + 1)) (times k a) (times k b) (times k c) _ (counted_three k (za k)) (one k l) (one k (l + 1)) (ha.once k) (hb.once k) (hc.once k);
        named =
            names-append split_code a _ (more_names split_code a a (λ k le. let e = counted_three k (za k) in omega arith) ha.named)
            (names-append split_code zero_a _ (names_a split_code first)
            (names-append split_code b _ (more_names split_code b b (λ k le. let e = counted_three k (za k) in omega arith) hb.named)
            (last, names-append split_code c _ (more_names split_code c c (λ k le. let e = counted_three k (za k) in omega arith) hc.named) tt)));
      }

-- ---- all expressions

module _ (p : Program) (types checks : List Ty) (spots : List Spot) where
  abbrev code : Expr → (r l : ℕ) → List Mid
  code e r l = expr_code p types checks spots e r l

  abbrev of_place : Place → (r l : ℕ) → List Mid
  of_place place r l = place_code p types checks spots place r l

  abbrev of : Expr → IntType
  of e = held p types e

  abbrev kind : Place → Kind
  kind place = kind_of p types checks spots place

  abbrev number : Place → IntType
  number place = number_of (place_type p types place)

  mutual
    place_fresh : (place : Place) (r l : ℕ) → Fresh l (place_labels place) (of_place place r l)
    place_fresh (plain.object k) r l = free l 0 _ (record { none = λ k. refl; named = λ w. tt })
    place_fresh (plain.local x) r l = free l 0 _ (local_free (slice_get spots x) r)
    place_fresh (plain.deref e t) r l = tail l (labels e) (code e r l) _ (record { none = λ k. refl; named = λ w. tt }) (expr_fresh e r l)
    place_fresh (plain.index place e) r l =
        own_last 2 (place_labels place) (labels e) l (of_place place r (l + 2)) (code e (r + 2) (l + 2 + place_labels place)) _
        (place_fresh place r (l + 2)) (expr_fresh e (r + 2) (l + 2 + place_labels place)) (element_fresh (of e) (count_of (place_type p types place)) (size_of p (element_of (place_type p types place))) r l)
    place_fresh (plain.field place k) r l = tail l (place_labels place) (of_place place r l) _ (record { none = λ k. refl; named = λ w. tt }) (place_fresh place r l)

    expr_fresh : (e : Expr) (r l : ℕ) → Fresh l (labels e) (code e r l)
    expr_fresh (plain.const t x) r l = free l 0 _ (const_free t x r)
    expr_fresh plain.null r l = free l 0 _ (record { none = λ k. refl; named = λ w. tt })
    expr_fresh (plain.read place at) r l = tail l (place_labels place) (of_place place r l) _ (fetch_free (kind place) (number place) r r) (place_fresh place r l)
    expr_fresh (plain.addr place) r l = tail l (place_labels place) (of_place place r l) _ (address_free (kind place) r) (place_fresh place r l)
    expr_fresh (plain.un op t e) r l =
        behind (l + 2) (labels e) l 2 l (2 + labels e) (code e r (l + 2)) _ (omega arith) (omega arith) (omega arith) (expr_fresh e r (l + 2)) (unary_fresh op (is_wide t) r l)
    expr_fresh (plain.bin op t a b) r l =
        own_last 3 (labels a) (labels b) l (code a r (l + 3)) (code b (r + 2) (l + 3 + labels a)) _
        (expr_fresh a r (l + 3)) (expr_fresh b (r + 2) (l + 3 + labels a)) (binary_fresh op t (of b) r l)
    expr_fresh (plain.convert t e) r l =
        behind (l + 1) (labels e) l 1 l (1 + labels e) (code e r (l + 1)) _ (omega arith) (omega arith) (omega arith) (expr_fresh e r (l + 1)) (convert_fresh (of e) t r l)
    expr_fresh (plain.offset a b size) r l =
        before l (labels a) (l + labels a) (labels b) l (labels a + labels b) (code a r l) _ (omega arith) (omega arith) (omega arith) (expr_fresh a r l)
        (tail (l + labels a) (labels b) (code b (r + 2) (l + labels a)) _ (offset_free size r) (expr_fresh b (r + 2) (l + labels a)))
    expr_fresh (plain.distance a b size) r l =
        before l (labels a) (l + labels a) (labels b) l (labels a + labels b) (code a r l) _ (omega arith) (omega arith) (omega arith) (expr_fresh a r l)
        (tail (l + labels a) (labels b) (code b (r + 2) (l + labels a)) _ (distance_free size r) (expr_fresh b (r + 2) (l + labels a)))
    expr_fresh (plain.both a b) r l =
        tested_two (code a r (l + 2)) (code b r (l + 2 + labels a)) (zero_code Eq (is_wide (of a)) r l) (zero_code Eq (is_wide (of b)) r l) (Set r 1 ∷ Jump (l + 1) ∷ Label l ∷ Set r 0 ∷ Label (l + 1) ∷ []) l (labels a) (labels b)
        (zero_free Eq (is_wide (of a)) r l) (zero_free Eq (is_wide (of b)) r l) (λ k. one_plus k l (here k (l + 1)))
        (λ w h. zero_named w Eq (is_wide (of a)) r l h) (λ w h. zero_named w Eq (is_wide (of b)) r l h) (λ w h. (h, tt))
        (expr_fresh a r (l + 2)) (expr_fresh b r (l + 2 + labels a))
    expr_fresh (plain.either a b) r l =
        tested_two (code a r (l + 2)) (code b r (l + 2 + labels a)) (zero_code Ne (is_wide (of a)) r l) (zero_code Ne (is_wide (of b)) r l) (truth_code r l) l (labels a) (labels b)
        (zero_free Ne (is_wide (of a)) r l) (zero_free Ne (is_wide (of b)) r l) (λ k. one_plus k l (here k (l + 1)))
        (λ w h. zero_named w Ne (is_wide (of a)) r l h) (λ w h. zero_named w Ne (is_wide (of b)) r l h) (λ w h. (h, tt))
        (expr_fresh a r (l + 2)) (expr_fresh b r (l + 2 + labels a))
    expr_fresh (plain.choice test a b) r l =
        chosen_fresh (code test r (l + 2)) (code a r (l + 2 + labels test)) (code b r (l + 2 + labels test + labels a)) (zero_code Eq (is_wide (of test)) r l) l (labels test) (labels a) (labels b)
        (zero_free Eq (is_wide (of test)) r l) (λ w h. zero_named w Eq (is_wide (of test)) r l h)
        (expr_fresh test r (l + 2)) (expr_fresh a r (l + 2 + labels test)) (expr_fresh b r (l + 2 + labels test + labels a))
    expr_fresh (plain.assign place e at) r l =
        before l (place_labels place) (l + place_labels place) (labels e) l (place_labels place + labels e) (of_place place r l) _ (omega arith) (omega arith) (omega arith) (place_fresh place r l)
        (tail (l + place_labels place) (labels e) (code e (r + 2) (l + place_labels place)) _ (free-append (put_code (kind place) (number place) (r + 2) r) (move_code (is_wide (number place)) r (r + 2)) (put_free (kind place) (number place) (r + 2) r) (move_free (is_wide (number place)) r (r + 2))) (expr_fresh e (r + 2) (l + place_labels place)))
    expr_fresh (plain.update place op t e gives_old at) r l =
        let old = fetch_code (kind place) (number place) (r + 2) r in
        let value = code e (r + 4) (l + 5 + place_labels place) in
        let own = update_code (kind place) (number place) op t (of e) gives_old r l in
        subst (λ c. Fresh l (5 + place_labels place + labels e) (of_place place r (l + 5) ++ c)) (append_assoc old value own)
        (own_last 5 (place_labels place) (labels e) l (of_place place r (l + 5)) (old ++ value) own (place_fresh place r (l + 5))
        (head (l + 5 + place_labels place) (labels e) old value (fetch_free (kind place) (number place) (r + 2) r) (expr_fresh e (r + 4) (l + 5 + place_labels place)))
        (update_fresh (kind place) (number place) op t (of e) gives_old r l))
    expr_fresh (plain.call f arguments at) r l = tail l (all_labels arguments) (args_code p types checks spots arguments r l) _ (record { none = λ k. refl; named = λ w. tt }) (args_fresh arguments r l)
    expr_fresh (plain.post k) r l = free l 0 _ (record { none = λ k. refl; named = λ w. tt })
    expr_fresh (plain.port_in port) r l = free l 0 _ (record { none = λ k. refl; named = λ w. tt })
    expr_fresh (plain.port_out port e) r l = tail l (labels e) (code e r l) _ (record { none = λ k. refl; named = λ w. tt }) (expr_fresh e r l)
    expr_fresh (plain.comma a b) r l =
        before l (labels a) (l + labels a) (labels b) l (labels a + labels b) (code a r l) _ (omega arith) (omega arith) (omega arith) (expr_fresh a r l) (expr_fresh b r (l + labels a))

    args_fresh : (es : Exprs) (r l : ℕ) → Fresh l (all_labels es) (args_code p types checks spots es r l)
    args_fresh no_exprs r l = free l 0 [] nothing
    args_fresh (more_exprs e rest) r l =
        before l (labels e) (l + labels e) (all_labels rest) l (labels e + all_labels rest) (code e r l) _ (omega arith) (omega arith) (omega arith) (expr_fresh e r l) (args_fresh rest (r + 2) (l + labels e))

  pub has_labels : (e : Expr) (r l : ℕ) → HasLabels l (labels e) (code e r l)
  has_labels e r l =
      let h = expr_fresh e r l in
      record { under = λ k lt. (h.once k).under lt; over = λ k ge. (h.once k).over ge; once = λ k. (h.once k).most; named = h.named }
