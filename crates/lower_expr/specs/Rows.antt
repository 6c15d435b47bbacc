-- Worked examples: what the code of expressions does in the open machine, beside what the expressions do in the source.
use Rattle.std.specs.Prelude.{◌≡◌, ℕ, ℤ, pos, negsuc, ◌+◌, true, false, List, [], ◌∷◌, ◌++◌, map, Some, None, slice_index_or}
use Rattle.nm_base.specs.declared.int_type.IntType.TheVariants.{I8, U8, I16, U16, I32, U32}
use Rattle.nm_base.specs.declared.action.Action.TheVariants.{Load, Store, Out, Tick, Fault}
use Rattle.nm_base.specs.Behaviour.{Performed, performed}
use Rattle.nesc_core.specs.Plain.{Ty, Expr, Place, Stmt, Stmts, Body, Program, no_exprs, more_exprs, no_stmts, more_stmts, void, int, pointer, array, object, local, deref, index, const, read, addr, bin, convert, update, call, eval, block, return}
use Rattle.nesc_core.specs.declared.tree.BinOp.TheVariants.{Add, Mul, Div, Rem, Shl, Shr}
use Rattle.core_meaning.specs.Rows as source
use Rattle.mid_code.specs.declared.instr.Mid.{Mid}
use Rattle.mid_code.specs.declared.instr.Mid.TheVariants.{Ret}
use Rattle.mid_code.specs.declared.code.MidCode.{MidCode}
use Rattle.mid_code.specs.Machine.{started, steps}
use Rattle.lower_expr.specs.declared.spot.Spot.{Spot}
use Rattle.lower_expr.specs.declared.spot.Spot.TheVariants.{Values, Frame}
use Rattle.lower_expr.specs.Code.{check_for, expr_code, labels}

-- ---- a body of expressions alone, whose locals are 0 at its start

module _ (p : Program) (types checks : List Ty) (spots : List Spot) (base : ℕ) where
  abbrev pub statements_code : Stmts → (l : ℕ) → List Mid
  statements_code no_stmts l = Ret [] ∷ []
  statements_code (more_stmts (eval e) rest) l = expr_code p types checks spots e base l ++ statements_code rest (l + labels e)
  statements_code (more_stmts s rest) l = statements_code rest l

  abbrev pub body_code : Stmt → List Mid
  body_code (block list) = statements_code list 0
  body_code s = Ret [] ∷ []

abbrev pub no_body : Body
no_body = source.function [] void []

-- body 0, with locals in these spots, and values from `base` on free
abbrev pub lowered : Program → (checks : List Ty) → List Spot → (base frame : ℕ) → MidCode
lowered p checks spots base frame =
    let b = slice_index_or p.bodies 0 no_body in
    record {
      fns = record { values = base + 24; params = []; frame = frame; code = body_code p b.locals checks spots base b.code } ∷ [];
      checks = map (check_for p) checks;
    }

-- in at most so many steps
abbrev pub runs : MidCode → (m : ℕ) → (answers : List ℕ) → Performed
runs c m answers = performed (steps c m (started c 0)) answers

abbrev pub in_value : ℕ → Spot
in_value v = Values (record { low = Some v; high = None })

abbrev pub in_two : (low high : ℕ) → Spot
in_two low high = Values (record { low = Some low; high = Some high })

-- the machine does what the source does, as the rows of the source have it
abbrev pub Agrees : (p : Program) → (checks : List Ty) → List Spot → (base m : ℕ) → (answers : List ℕ) → Type 0
Agrees p checks spots base m answers = runs (lowered p checks spots base 0) m answers ≡ source.does p answers 0

-- ---- at 32 bits: 70000 * 70000, its high half, -100000 / 7, -100000 % 7, 4294967295u / 3, (1 << 31) >> 31, 1 << 32, 1 << -1, -8 >> 40,
-- -8 >> 1, and both halves of -2147483648 / -1; port_write(0x0130, e) for each

abbrev pub long : ℤ → Expr
long z = const I32 z

abbrev pub word_of : Expr → Stmt
word_of e = source.out (convert U16 e)

abbrev pub high_of : Expr → Stmt
high_of e = source.out (convert U16 (bin Shr U32 (convert U32 e) (source.number 16)))

abbrev pub long_numbers : Program
long_numbers = source.program [] [] (source.function [] void (
    word_of (bin Mul I32 (long (pos 70000)) (long (pos 70000))) ∷ high_of (bin Mul I32 (long (pos 70000)) (long (pos 70000))) ∷
    word_of (bin Div I32 (long (negsuc 99999)) (long (pos 7))) ∷ word_of (bin Rem I32 (long (negsuc 99999)) (long (pos 7))) ∷
    word_of (bin Div U32 (const U32 (pos 4294967295)) (const U32 (pos 3))) ∷
    word_of (bin Shr I32 (bin Shl I32 (long (pos 1)) (source.number 31)) (source.number 31)) ∷
    word_of (bin Shl I32 (long (pos 1)) (source.number 32)) ∷ word_of (bin Shl I32 (long (pos 1)) (long (negsuc 0))) ∷
    word_of (bin Shr I32 (long (negsuc 7)) (long (pos 40))) ∷ word_of (bin Shr I32 (long (negsuc 7)) (source.number 1)) ∷
    word_of (bin Div I32 (long (negsuc 2147483647)) (long (negsuc 0))) ∷ high_of (bin Div I32 (long (negsuc 2147483647)) (long (negsuc 0))) ∷ []) ∷ [])

-- ---- uint16_t a[3]; uint32_t t; int8_t c; in the frame, and uint8_t i; in a value; a[1] = 500; a[2] = a[1] + 1; t = 0x12345678; c = -3;
-- port_write(0x0130, e) for a[2], t >> 16, t, c, a[1] += 7, c++, c; i = 3; a[i] = 1;

abbrev pub word : ℕ → Expr
word n = const U16 (pos n)

abbrev pub element : ℕ → Place
element k = index (local 0) (source.number k)

abbrev pub in_frame : Program
in_frame = source.program [] [] (source.function (array (int U16) 3 ∷ int U32 ∷ int I8 ∷ int U8 ∷ []) void (
    source.put (element 1) (word 500) ∷ source.put (element 2) (bin Add U16 (read (element 1) source.at) (word 1)) ∷
    source.put (local 1) (const U32 (pos 0x12345678)) ∷ source.put (local 2) (const I8 (negsuc 2)) ∷
    source.out (read (element 2) source.at) ∷ high_of (read (local 1) source.at) ∷ word_of (read (local 1) source.at) ∷ word_of (read (local 2) source.at) ∷
    source.out (update (element 1) Add U16 (word 7) false source.at) ∷ word_of (update (local 2) Add I16 (source.number 1) true source.at) ∷ word_of (read (local 2) source.at) ∷
    source.put (local 3) (const U8 (pos 3)) ∷ source.put (index (local 0) (read (local 3) source.at)) (word 1) ∷ []) ∷ [])

abbrev pub frame_spots : List Spot
frame_spots = Frame 0 ∷ Frame 6 ∷ Frame 10 ∷ in_value 0 ∷ []

-- ---- uint32_t x; in two values; x = 1; port_write(0x0130, (x <<= 17) >> 16); port_write(0x0130, x++ >> 16); port_write(0x0130, x);

abbrev pub updated_long : Program
updated_long = source.program [] [] (source.function (int U32 ∷ []) void (
    source.put (local 0) (const U32 (pos 1)) ∷ high_of (update (local 0) Shl U32 (source.number 17) false source.at) ∷
    high_of (update (local 0) Add U32 (const U32 (pos 1)) true source.at) ∷ word_of (read (local 0) source.at) ∷ []) ∷ [])

-- ---- uint16_t y[4]; uint16_t *p; at 0x1100 and 0x1108; p = &y[1]; p++; port_write(0x0130, *p); y[65536L] = 1;

abbrev pub stepping : Program
stepping = source.program [] (source.variable (array (int U16) 4) 0x1100 true ∷ source.variable (pointer (int U16)) 0x1108 false ∷ []) (source.function [] void (
    source.put (object 1) (addr (index (object 0) (source.number 1))) ∷ eval (update (object 1) Add U16 (word 2) true source.at) ∷
    source.out (read (deref (read (object 1) source.at) (int U16)) source.at) ∷ source.put (index (object 0) (long (pos 65536))) (word 1) ∷ []) ∷ [])

-- ---- uint32_t f(uint32_t a, uint8_t b) { return a + b; } port_write(0x0130, f(0x12345678, 255)); and the high half

abbrev pub sum_called : Expr
sum_called = call 1 (more_exprs (const U32 (pos 0x12345678)) (more_exprs (const U8 (pos 255)) no_exprs)) source.at

abbrev pub sum_given : Expr
sum_given = bin Add U32 (read (local 0) source.at) (convert U32 (read (local 1) source.at))

abbrev pub sum_body : Body
sum_body = record {
  name = [];
  params = 2;
  locals = int U32 ∷ int U8 ∷ [];
  result = int U32;
  code = return (Some sum_given);
  is_async = false;
  is_item = false;
}

abbrev pub calling : Program
calling = source.program [] [] (source.function [] void (word_of sum_called ∷ high_of sum_called ∷ []) ∷ sum_body ∷ [])

-- body 1 holds its parameters in values 0 and 1, and 2, and gives back values 3 and 4
abbrev pub calling_code : MidCode
calling_code = record {
  fns = record { values = 24; params = []; frame = 0; code = body_code calling [] [] [] 0 (source.function [] void (word_of sum_called ∷ high_of sum_called ∷ [])).code }
      ∷ record { values = 27; params = 0 ∷ 1 ∷ 2 ∷ []; frame = 0; code = expr_code calling (int U32 ∷ int U8 ∷ []) [] (in_two 0 1 ∷ in_value 2 ∷ []) sum_given 3 0 ++ Ret (3 ∷ 4 ∷ []) ∷ [] } ∷ [];
  checks = [];
}

pub record WorkedRows : Type 0 where
  pub numbers : runs (lowered source.numbers [] (in_value 0 ∷ in_value 1 ∷ []) 2 0) 400 []
      ≡ source.ends (source.outs (300 ∷ 44 ∷ 32768 ∷ 0 ∷ 65535 ∷ 0 ∷ 4464 ∷ 65533 ∷ 65535 ∷ []))
  pub numbers_agree : Agrees source.numbers [] (in_value 0 ∷ in_value 1 ∷ []) 2 400 []
  pub old_then_new : Agrees source.increments [] [] 0 100 (41 ∷ 42 ∷ [])
  pub low_half_first : Agrees source.halves [] [] 0 100 (7 ∷ 0x5678 ∷ 0x1234 ∷ [])
  pub half_answered : Agrees source.halves [] [] 0 100 (7 ∷ 0x5678 ∷ [])
  pub pointer_faults : Agrees source.pointers (int U8 ∷ []) [] 0 200 (0x1100 ∷ 5 ∷ 0x1100 ∷ [])
  pub index_faults : Agrees source.far_index [] (in_value 0 ∷ []) 1 100 []
  pub divisor_faults : Agrees source.zero_divisor [] (in_value 0 ∷ []) 1 100 []
  pub byte_of_field : Agrees source.fields (int U8 ∷ []) [] 0 200 (0x1105 ∷ [])
  pub padding : Agrees source.fields (int U8 ∷ []) [] 0 200 (0x1101 ∷ [])
  pub post_answered : Agrees source.posting [] (in_value 0 ∷ []) 1 100 (5 ∷ [])
  pub elements_between : Agrees source.apart [] [] 0 200 []
  pub long_row : runs (lowered long_numbers [] [] 0 0) 600 []
      ≡ source.ends (source.outs (4352 ∷ 9232 ∷ 51251 ∷ 65531 ∷ 21845 ∷ 65535 ∷ 0 ∷ 0 ∷ 65535 ∷ 65532 ∷ 0 ∷ 32768 ∷ []))
  pub long_numbers_agree : Agrees long_numbers [] [] 0 600 []
  pub frame_row : runs (lowered in_frame [] frame_spots 1 12) 600 []
      ≡ source.stops (source.outs (501 ∷ 0x1234 ∷ 0x5678 ∷ 65533 ∷ 507 ∷ 65533 ∷ 65534 ∷ []) ++ Fault 1 ∷ [])
  pub frame_agrees : runs (lowered in_frame [] frame_spots 1 12) 600 [] ≡ source.does in_frame [] 0
  pub updated_row : runs (lowered updated_long [] (in_two 0 1 ∷ []) 2 0) 300 [] ≡ source.ends (source.outs (2 ∷ 2 ∷ 1 ∷ []))
  pub updated_agrees : Agrees updated_long [] (in_two 0 1 ∷ []) 2 300 []
  pub stepping_row : runs (lowered stepping (int U16 ∷ []) [] 0 0) 300 (0x1102 ∷ 0x1104 ∷ 9 ∷ [])
      ≡ source.stops (Store 0x1108 true 0x1102 ∷ Load 0x1108 true ∷ Store 0x1108 true 0x1104 ∷ Load 0x1108 true ∷ Load 0x1104 true ∷ Out 0x0130 9 ∷ Fault 1 ∷ [])
  pub stepping_agrees : Agrees stepping (int U16 ∷ []) [] 0 300 (0x1102 ∷ 0x1104 ∷ 9 ∷ [])
  pub wrong_part : Agrees stepping (int U16 ∷ []) [] 0 300 (0x1102 ∷ 0x1105 ∷ 9 ∷ [])
  pub call_row : runs calling_code 300 [] ≡ source.ends (Tick ∷ Tick ∷ Out 0x0130 0x5777 ∷ Tick ∷ Tick ∷ Out 0x0130 0x1234 ∷ [])
  pub call_agrees : runs calling_code 300 [] ≡ source.does calling [] 0
