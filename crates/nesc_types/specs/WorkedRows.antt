-- Worked constants: the numbers of a row of expressions and what a port is given of them, what C leaves open, and refusals at
-- their places (own, within C99, 6.5 and 6.6). Columns are those of the texts above the rows.
use Rattle.std.specs.Prelude.{◌≡◌, ℕ, ◌+◌, ℤ, pos, false, List, [], ◌∷◌, codes, map, Some, None, Ok}
use Rattle.nm_base.specs.declared.int_type.IntType.{IntType}
use Rattle.nm_base.specs.declared.int_type.IntType.TheVariants.{I8, U8, I16, U16, I32}
use Rattle.nm_base.specs.declared.refusal.Refusal.{Refusal}
use Rattle.nm_base.specs.declared.refusal.Refusal.TheVariants.{BadType, NotConstant, UnknownName}
use Rattle.nm_base.specs.IntType.{wrapped}
use Rattle.nesc_tree.specs.declared.tree.PreOp.TheVariants as pre
use Rattle.nesc_tree.specs.declared.tree.PostOp.TheVariants as post_op
use Rattle.nesc_tree.specs.declared.tree.InOp.{InOp}
use Rattle.nesc_tree.specs.declared.tree.InOp.TheVariants.{Div, Rem, Add, Sub, Shl, Shr, Lt, AndAnd, OrOr}
use Rattle.nesc_tree.specs.Plain as p
use Rattle.nesc_tree.specs.Plain.{Expr, Base, no_exprs, more_exprs, type_spec}
use Rattle.nesc_types.specs.Constant.{constant, pos_of}
use Rattle.nesc_types.specs.RowForms.{Worked, AreGiven, at, minus, cast_to}
use Rattle.nesc_types.specs.Rule.{Rule, refuse, ◌>>=◌}
use Rattle.nesc_types.specs.Values.{Constant, Values}

-- ---- short forms

abbrev pub n : List ℕ → (col : ℕ) → Expr
n text col = p.number text (at col)

abbrev pub v : List ℕ → (col : ℕ) → Expr
v name col = p.name name (at col)

abbrev pub bin : InOp → Expr → Expr → Expr
bin o a b = p.binary o a b (pos_of a)

abbrev pub neg : Expr → (col : ℕ) → Expr
neg e col = p.unary pre.Neg e (at col)

abbrev pub choice : Expr → Expr → Expr → Expr
choice a b c = p.choice a b c (pos_of a)

abbrev pub comma : Expr → Expr → Expr
comma a b = p.comma a b (pos_of a)

-- 1 / 0, from this column on
abbrev pub fault : (col : ℕ) → Expr
fault col = bin Div (n (codes "1") col) (n (codes "0") (col + 4))

abbrev pub values : Values
values = (codes "a", (U8, pos 200)) ∷ (codes "b", (U8, pos 100)) ∷ []

abbrev pub gives : Expr → IntType → ℤ → Worked
gives e t x = record { expr = e; gives = Ok (t, x) }

abbrev pub refused : Expr → Refusal → Worked
refused e r = record { expr = e; gives = refuse r }

-- ---- what a port of 16 bits is given

pub record Number : Type 0 where
  pub expr : Expr
  pub result : Constant
  pub out : ℤ

abbrev pub put : Expr → IntType → ℤ → (out : ℕ) → Number
put e t x out = record { expr = e; result = (t, x); out = pos out }

abbrev pub with_out : Constant → Rule (Constant × ℤ)
with_out x = Ok (x, wrapped U16 x.1)

abbrev pub ArePut : List Number → Type 0
ArePut rows = map (λ (r : Number). constant values r.expr >>= with_out) rows ≡ map (λ (r : Number). Ok (r.result, r.out)) rows

-- -7
abbrev pub minus_7 : Expr
minus_7 = neg (n (codes "7") 2) 1

-- -1
abbrev pub minus_1 : Expr
minus_1 = neg (n (codes "1") 2) 1

-- (-32767 - 1)
abbrev pub least_int : Expr
least_int = bin Sub (neg (n (codes "32767") 3) 2) (n (codes "1") 11)

-- (-2147483647 - 1)
abbrev pub least_long : Expr
least_long = bin Sub (neg (n (codes "2147483647") 3) 2) (n (codes "1") 16)

-- (TYPE)e, where the type is none that a constant is converted to
abbrev pub cast_of : Base → (stars : ℕ) → Expr → Expr
cast_of base stars e = p.cast (type_spec base stars no_exprs false) e (at 1)

pub record WorkedConstants : Type 0 where
  -- a + b; (uint8_t)(a + b); 1 << 15; 1 << 16; -1 >> 20; -1 < 1u; 40000 + 30000; -7 / 2; -7 % 2
  pub numbers : ArePut (
      put (bin Add (v (codes "a") 1) (v (codes "b") 5)) I16 (pos 300) 300
      ∷ put (cast_to U8 (bin Add (v (codes "a") 11) (v (codes "b") 15))) U8 (pos 44) 44
      ∷ put (bin Shl (n (codes "1") 1) (n (codes "15") 6)) I16 (minus 32768) 32768
      ∷ put (bin Shl (n (codes "1") 1) (n (codes "16") 6)) I16 (pos 0) 0
      ∷ put (bin Shr minus_1 (n (codes "20") 7)) I16 (minus 1) 65535
      ∷ put (bin Lt minus_1 (n (codes "1u") 6)) I16 (pos 0) 0
      ∷ put (bin Add (n (codes "40000") 1) (n (codes "30000") 9)) I32 (pos 70000) 4464
      ∷ put (bin Div minus_7 (n (codes "2") 6)) I16 (minus 3) 65533
      ∷ put (bin Rem minus_7 (n (codes "2") 6)) I16 (minus 1) 65535
      ∷ [])
  -- 1 << -1; -7 >> -1; a >> -1; 40000u >> 16; 1L << 32; -7L >> 32; 32767 + 1; the least numbers divided by -1
  pub open_in_c : AreGiven values (
      gives (bin Shl (n (codes "1") 1) (neg (n (codes "1") 7) 6)) I16 (pos 0)
      ∷ gives (bin Shr minus_7 (neg (n (codes "1") 8) 7)) I16 (minus 1)
      ∷ gives (bin Shr (v (codes "a") 1) (neg (n (codes "1") 7) 6)) I16 (pos 0)
      ∷ gives (bin Shr (n (codes "40000u") 1) (n (codes "16") 11)) U16 (pos 0)
      ∷ gives (bin Shl (n (codes "1L") 1) (n (codes "32") 7)) I32 (pos 0)
      ∷ gives (bin Shr (neg (n (codes "7L") 2) 1) (n (codes "32") 8)) I32 (minus 1)
      ∷ gives (bin Add (n (codes "32767") 1) (n (codes "1") 9)) I16 (minus 32768)
      ∷ gives (bin Div least_int (neg (n (codes "1") 17) 16)) I16 (minus 32768)
      ∷ gives (bin Rem least_int (neg (n (codes "1") 17) 16)) I16 (pos 0)
      ∷ gives (bin Div least_long (neg (n (codes "1") 22) 21)) I32 (minus 2147483648)
      ∷ gives (bin Rem least_long (neg (n (codes "1") 22) 21)) I32 (pos 0)
      ∷ [])
  -- a ? 1 : 70000; 0 ? 1 : 70000; 1 ? -1 : 1u; 'a' + 1; '\377'
  pub types : AreGiven values (
      gives (choice (v (codes "a") 1) (n (codes "1") 5) (n (codes "70000") 9)) I32 (pos 1)
      ∷ gives (choice (n (codes "0") 1) (n (codes "1") 5) (n (codes "70000") 9)) I32 (pos 70000)
      ∷ gives (choice (n (codes "1") 1) (neg (n (codes "1") 6) 5) (n (codes "1u") 10)) U16 (pos 65535)
      ∷ gives (bin Add (p.char (codes "'a'") (at 1)) (n (codes "1") 7)) I16 (pos 98)
      ∷ gives (p.char (codes "'\\377'") (at 1)) I16 (minus 1)
      ∷ [])
  -- a zero divisor is refused at the whole, where it is evaluated: 1 / 0; a + 1 % 0; -(1 / 0); 0 && 1 / 0; 1 && 1 / 0;
  -- 1 || 1 / 0; 0 || 1 / 0; 0 && (1 && 1 / 0); 1 ? 2 : 1 / 0; 0 ? 2 : 1 / 0; 1 ? 1 / 0 : 2; 0 ? 1 / 0 : 2
  pub zero_divisors : AreGiven values (
      refused (fault 1) (NotConstant (at 1))
      ∷ refused (bin Add (v (codes "a") 1) (bin Rem (n (codes "1") 5) (n (codes "0") 9))) (NotConstant (at 1))
      ∷ refused (neg (fault 3) 1) (NotConstant (at 1))
      ∷ gives (bin AndAnd (n (codes "0") 1) (fault 6)) I16 (pos 0)
      ∷ refused (bin AndAnd (n (codes "1") 1) (fault 6)) (NotConstant (at 1))
      ∷ gives (bin OrOr (n (codes "1") 1) (fault 6)) I16 (pos 1)
      ∷ refused (bin OrOr (n (codes "0") 1) (fault 6)) (NotConstant (at 1))
      ∷ gives (bin AndAnd (n (codes "0") 1) (bin AndAnd (n (codes "1") 7) (fault 12))) I16 (pos 0)
      ∷ gives (choice (n (codes "1") 1) (n (codes "2") 5) (fault 9)) I16 (pos 2)
      ∷ refused (choice (n (codes "0") 1) (n (codes "2") 5) (fault 9)) (NotConstant (at 1))
      ∷ refused (choice (n (codes "1") 1) (fault 5) (n (codes "2") 13)) (NotConstant (at 1))
      ∷ gives (choice (n (codes "0") 1) (fault 5) (n (codes "2") 13)) I16 (pos 2)
      ∷ [])
  -- a number that no type holds, at it; a cast to what is no integer, at what is converted: 2147483648; 1 + 4294967296u;
  -- 0 && 4294967296u; (void)5; (char *)5; (struct s)5; (int[2])5
  pub bad_types : AreGiven values (
      refused (n (codes "2147483648") 1) (BadType (at 1))
      ∷ refused (bin Add (n (codes "1") 1) (n (codes "4294967296u") 5)) (BadType (at 5))
      ∷ refused (bin AndAnd (n (codes "0") 1) (n (codes "4294967296u") 6)) (BadType (at 6))
      ∷ refused (cast_of p.void 0 (n (codes "5") 7)) (BadType (at 7))
      ∷ refused (cast_of (p.int I8) 1 (n (codes "5") 9)) (BadType (at 9))
      ∷ refused (cast_of (p.struct (Some (codes "s"))) 0 (n (codes "5") 11)) (BadType (at 11))
      ∷ refused (p.cast (type_spec (p.int I16) 0 (more_exprs (n (codes "2") 6) no_exprs) false) (n (codes "5") 9) (at 1)) (BadType (at 9))
      ∷ [])
  -- a name, also where it is not evaluated, and a cast to a type name: c; a + c; 1 || c; (msg_t)5
  pub unknown_names : AreGiven values (
      refused (v (codes "c") 1) (UnknownName (at 1))
      ∷ refused (bin Add (v (codes "a") 1) (v (codes "c") 5)) (UnknownName (at 5))
      ∷ refused (bin OrOr (n (codes "1") 1) (v (codes "c") 6)) (UnknownName (at 6))
      ∷ refused (cast_of (p.named (codes "msg_t")) 0 (n (codes "5") 8)) (UnknownName (at 1))
      ∷ [])
  -- the first in the order of evaluation: c / 0; 1 / 0 + c; c + 4294967296u; 4294967296u + c; 1 / 0 ? c : 4294967296u; (msg_t)4294967296u; (char *)c
  pub first_refusals : AreGiven values (
      refused (bin Div (v (codes "c") 1) (n (codes "0") 5)) (UnknownName (at 1))
      ∷ refused (bin Add (fault 1) (v (codes "c") 9)) (NotConstant (at 1))
      ∷ refused (bin Add (v (codes "c") 1) (n (codes "4294967296u") 5)) (UnknownName (at 1))
      ∷ refused (bin Add (n (codes "4294967296u") 1) (v (codes "c") 15)) (BadType (at 1))
      ∷ refused (choice (fault 1) (v (codes "c") 9) (n (codes "4294967296u") 13)) (NotConstant (at 1))
      ∷ refused (cast_of (p.named (codes "msg_t")) 0 (n (codes "4294967296u") 8)) (UnknownName (at 1))
      ∷ refused (cast_of (p.int I8) 1 (v (codes "c") 9)) (UnknownName (at 9))
      ∷ [])
  -- forms of no constant, at the whole, and a comma where it is evaluated: 1 + NULL; 1 + unique("s"); 1 + sizeof a; 1 + (a = 1);
  -- 1 || (a = 1); ++a; &a; a++; a[0]; f(); (1, 2); 1 || (1 / 0, 2)
  pub no_constants : AreGiven values (
      refused (bin Add (n (codes "1") 1) (p.null (at 5))) (NotConstant (at 1))
      ∷ refused (bin Add (n (codes "1") 1) (p.unique (codes "\"s\"") (at 5))) (NotConstant (at 1))
      ∷ refused (bin Add (n (codes "1") 1) (p.size_of_expr (v (codes "a") 12) (at 5))) (NotConstant (at 1))
      ∷ refused (bin Add (n (codes "1") 1) (p.assign None (v (codes "a") 6) (n (codes "1") 10) (at 6))) (NotConstant (at 1))
      ∷ refused (bin OrOr (n (codes "1") 1) (p.assign None (v (codes "a") 7) (n (codes "1") 11) (at 7))) (NotConstant (at 1))
      ∷ refused (p.unary pre.Inc (v (codes "a") 3) (at 1)) (NotConstant (at 1))
      ∷ refused (p.unary pre.Addr (v (codes "a") 2) (at 1)) (NotConstant (at 1))
      ∷ refused (p.postfix post_op.Inc (v (codes "a") 1) (at 1)) (NotConstant (at 1))
      ∷ refused (p.index (v (codes "a") 1) (n (codes "0") 3) (at 1)) (NotConstant (at 1))
      ∷ refused (p.call_fn (v (codes "f") 1) no_exprs (at 1)) (NotConstant (at 1))
      ∷ refused (comma (n (codes "1") 2) (n (codes "2") 5)) (NotConstant (at 2))
      ∷ gives (bin OrOr (n (codes "1") 1) (comma (fault 7) (n (codes "2") 14))) I16 (pos 1)
      ∷ [])
