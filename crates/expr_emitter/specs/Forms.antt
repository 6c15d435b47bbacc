-- The code of one expression of each form and width, written by hand.
use Rattle.std.specs.Prelude.{◌≡◌, ℕ, pos, negsuc, true, false, List, [], ◌∷◌, codes, Some, None}
use Rattle.nm_base.specs.declared.int_type.IntType.TheVariants.{I8, U8, I16, U16, I32, U32}
use Rattle.nesc_core.specs.declared.tree.UnOp.TheVariants.{Neg, Not, IsZero}
use Rattle.nesc_core.specs.declared.tree.BinOp.TheVariants as op
use Rattle.nesc_core.specs.Plain.{Ty, Expr, Field, Program, void, int, array, struct, no_exprs, more_exprs, object, local, deref, index, field, const, null, read, addr, un, bin, convert, offset, distance, both, either, choice, assign, update, call, post, port_in, port_out, comma}
use Rattle.core_meaning.specs.Rows.{at, variable, function, program, number}
use Rattle.mid_code.specs.declared.instr.Op.TheVariants.{Add, Sub, And, Or, Xor}
use Rattle.mid_code.specs.declared.instr.Test.TheVariants.{Eq, Ne, Lt, Le, LtU, LeU}
use Rattle.mid_code.specs.declared.instr.Mid.{Mid}
use Rattle.mid_code.specs.declared.instr.Mid.TheVariants.{Set, Move, Bin, Carry, Load, Store, Peek, Poke, In, Out, Label, Jump, Branch, Call, Help, Post, Tick, Fault}
use Rattle.lower_expr.specs.declared.spot.Spot.{Spot}
use Rattle.lower_expr.specs.declared.spot.Spot.TheVariants.{Values, Frame}
use Rattle.lower_expr.specs.Code.{expr_code}

-- struct { uint8_t a; int32_t b; int8_t c; } at offsets 0, 2 and 6
abbrev pub fields : List Field
fields = record { name = codes "a"; ty = int U8 } ∷ record { name = codes "b"; ty = int I32 } ∷ record { name = codes "c"; ty = int I8 } ∷ []

-- six variables, and two functions, of which the second gives an int32_t
abbrev pub p : Program
p = program (fields ∷ [])
    (variable (int U8) 0x1100 true ∷ variable (int I16) 0x1102 true ∷ variable (int I32) 0x1104 true
    ∷ variable (array (int U16) 4) 0x1108 true ∷ variable (struct 0) 0x1110 true ∷ variable (int I8) 0x1118 true ∷ [])
    (function (int I32 ∷ int I16 ∷ []) void [] ∷ function [] (int I32) [] ∷ [])

abbrev pub types : List Ty
types = int I16 ∷ int I32 ∷ int U8 ∷ int I32 ∷ array (int I8) 3 ∷ int I8 ∷ []

abbrev pub checks : List Ty
checks = int U16 ∷ int I32 ∷ []

-- the first, the second and the last local in values, the others in the frame
abbrev pub spots : List Spot
spots =
    Values (record { low = Some 0; high = None }) ∷ Values (record { low = Some 1; high = Some 2 }) ∷ Frame 0 ∷ Frame 2 ∷ Frame 6
    ∷ Values (record { low = Some 3; high = None }) ∷ []

-- values from 4 on, and labels from 10 on
abbrev pub code : Expr → List Mid
code e = expr_code p types checks spots e 4 10

abbrev pub long : ℕ → Expr
long n = const I32 (pos n)

pub record FormRows : Type 0 where
  -- constants
  pub constant : code (const I16 (negsuc 0)) ≡ Set 4 65535 ∷ []
  pub long_constant : code (const U32 (pos 70000)) ≡ Set 4 4464 ∷ Set 5 1 ∷ []
  pub null_pointer : code null ≡ Set 4 0 ∷ []
  -- reads
  pub byte : code (read (object 0) at) ≡ Set 4 0x1100 ∷ Load false 4 4 ∷ []
  pub signed_byte : code (read (object 5) at)
      ≡ Set 4 0x1118 ∷ Load false 4 4 ∷ Set 5 255 ∷ Bin And 4 4 5 ∷ Set 5 128 ∷ Bin Xor 4 4 5 ∷ Bin Sub 4 4 5 ∷ []
  pub word : code (read (object 1) at) ≡ Set 4 0x1102 ∷ Load true 4 4 ∷ []
  pub low_half_first : code (read (object 2) at) ≡ Set 4 0x1104 ∷ Set 5 2 ∷ Bin Add 5 4 5 ∷ Load true 4 4 ∷ Load true 5 5 ∷ []
  pub in_value : code (read (local 0) at) ≡ Move 4 0 ∷ []
  pub in_values : code (read (local 1) at) ≡ Move 4 1 ∷ Move 5 2 ∷ []
  pub in_frame : code (read (local 2) at) ≡ Set 4 0 ∷ Peek false 4 4 ∷ []
  pub long_in_frame : code (read (local 3) at) ≡ Set 4 2 ∷ Set 5 2 ∷ Bin Add 5 4 5 ∷ Peek true 4 4 ∷ Peek true 5 5 ∷ []
  -- the check comes before the access
  pub checked : code (read (deref (addr (object 1)) (int U16)) at) ≡ Set 4 0x1102 ∷ Help 64 (4 ∷ []) [] ∷ Load true 4 4 ∷ []
  pub second_check : code (read (deref (addr (object 2)) (int I32)) at)
      ≡ Set 4 0x1104 ∷ Help 65 (4 ∷ []) [] ∷ Set 5 2 ∷ Bin Add 5 4 5 ∷ Load true 4 4 ∷ Load true 5 5 ∷ []
  pub element : code (read (index (object 3) (number 2)) at)
      ≡ Set 4 0x1108 ∷ Set 6 2 ∷ Set 8 4 ∷ Branch LtU 6 8 10 ∷ Fault 1 ∷ Label 10 ∷ Bin Add 6 6 6 ∷ Bin Add 4 4 6 ∷ Load true 4 4 ∷ []
  pub long_index : code (read (index (object 3) (long 2)) at)
      ≡ Set 4 0x1108 ∷ Set 6 2 ∷ Set 7 0 ∷ Set 8 0 ∷ Branch LtU 7 8 10 ∷ Branch Ne 7 8 11 ∷ Set 8 4 ∷ Branch LtU 6 8 10 ∷ Label 11
      ∷ Fault 1 ∷ Label 10 ∷ Bin Add 6 6 6 ∷ Bin Add 4 4 6 ∷ Load true 4 4 ∷ []
  pub element_in_frame : code (read (index (local 4) (const U8 (pos 1))) at)
      ≡ Set 4 6 ∷ Set 6 1 ∷ Set 8 3 ∷ Branch LtU 6 8 10 ∷ Fault 1 ∷ Label 10 ∷ Bin Add 4 4 6 ∷ Peek false 4 4
      ∷ Set 5 255 ∷ Bin And 4 4 5 ∷ Set 5 128 ∷ Bin Xor 4 4 5 ∷ Bin Sub 4 4 5 ∷ []
  pub field_of_struct : code (read (field (object 4) 1) at)
      ≡ Set 4 0x1110 ∷ Set 6 2 ∷ Bin Add 4 4 6 ∷ Set 5 2 ∷ Bin Add 5 4 5 ∷ Load true 4 4 ∷ Load true 5 5 ∷ []
  pub address : code (addr (field (object 4) 2)) ≡ Set 4 0x1110 ∷ Set 6 6 ∷ Bin Add 4 4 6 ∷ []
  -- operators on one number
  pub negated : code (un Neg I16 (number 3)) ≡ Set 4 3 ∷ Set 6 0 ∷ Bin Sub 4 6 4 ∷ []
  pub negated_long : code (un Neg I32 (long 3))
      ≡ Set 4 3 ∷ Set 5 0 ∷ Set 6 0 ∷ Carry Sub 7 6 4 ∷ Bin Sub 4 6 4 ∷ Bin Sub 5 6 5 ∷ Bin Sub 5 5 7 ∷ []
  pub inverted : code (un Not I16 (number 3)) ≡ Set 4 3 ∷ Set 6 65535 ∷ Bin Xor 4 4 6 ∷ []
  pub inverted_long : code (un Not I32 (long 3)) ≡ Set 4 3 ∷ Set 5 0 ∷ Set 6 65535 ∷ Bin Xor 4 4 6 ∷ Bin Xor 5 5 6 ∷ []
  pub zero : code (un IsZero I16 (number 3))
      ≡ Set 4 3 ∷ Set 6 0 ∷ Branch Eq 4 6 10 ∷ Set 4 0 ∷ Jump 11 ∷ Label 10 ∷ Set 4 1 ∷ Label 11 ∷ []
  pub long_zero : code (un IsZero I32 (long 3))
      ≡ Set 4 3 ∷ Set 5 0 ∷ Bin Or 4 4 5 ∷ Set 6 0 ∷ Branch Eq 4 6 10 ∷ Set 4 0 ∷ Jump 11 ∷ Label 10 ∷ Set 4 1 ∷ Label 11 ∷ []
  -- operators on two numbers
  pub sum : code (bin op.Add I16 (number 3) (number 4)) ≡ Set 4 3 ∷ Set 6 4 ∷ Bin Add 4 4 6 ∷ []
  pub carried : code (bin op.Add I32 (long 3) (long 4))
      ≡ Set 4 3 ∷ Set 5 0 ∷ Set 6 4 ∷ Set 7 0 ∷ Carry Add 8 4 6 ∷ Bin Add 4 4 6 ∷ Bin Add 5 5 7 ∷ Bin Add 5 5 8 ∷ []
  pub bits : code (bin op.Xor U32 (const U32 (pos 3)) (const U32 (pos 4)))
      ≡ Set 4 3 ∷ Set 5 0 ∷ Set 6 4 ∷ Set 7 0 ∷ Bin Xor 4 4 6 ∷ Bin Xor 5 5 7 ∷ []
  pub product : code (bin op.Mul I16 (number 3) (number 4)) ≡ Set 4 3 ∷ Set 6 4 ∷ Help 16 (4 ∷ 6 ∷ []) (4 ∷ []) ∷ []
  pub quotient : code (bin op.Div U16 (const U16 (pos 3)) (const U16 (pos 4)))
      ≡ Set 4 3 ∷ Set 6 4 ∷ Set 8 0 ∷ Branch Ne 6 8 10 ∷ Fault 3 ∷ Label 10 ∷ Help 25 (4 ∷ 6 ∷ []) (4 ∷ []) ∷ []
  pub long_remainder : code (bin op.Rem I32 (long 3) (long 4))
      ≡ Set 4 3 ∷ Set 5 0 ∷ Set 6 4 ∷ Set 7 0 ∷ Bin Or 8 6 7 ∷ Set 9 0 ∷ Branch Ne 8 9 10 ∷ Fault 3 ∷ Label 10
      ∷ Help 34 (4 ∷ 5 ∷ 6 ∷ 7 ∷ []) (4 ∷ 5 ∷ []) ∷ []
  pub shift : code (bin op.Shl I16 (number 3) (number 4)) ≡ Set 4 3 ∷ Set 6 4 ∷ Help 19 (4 ∷ 6 ∷ []) (4 ∷ []) ∷ []
  pub long_count : code (bin op.Shr U32 (const U32 (pos 3)) (long 4))
      ≡ Set 4 3 ∷ Set 5 0 ∷ Set 6 4 ∷ Set 7 0 ∷ Set 8 0 ∷ Branch Eq 7 8 10 ∷ Set 6 32 ∷ Label 10 ∷ Help 44 (4 ∷ 5 ∷ 6 ∷ []) (4 ∷ 5 ∷ []) ∷ []
  pub equal : code (bin op.Eq I16 (number 3) (number 4))
      ≡ Set 4 3 ∷ Set 6 4 ∷ Branch Eq 4 6 10 ∷ Set 4 0 ∷ Jump 11 ∷ Label 10 ∷ Set 4 1 ∷ Label 11 ∷ []
  pub long_unequal : code (bin op.Ne I32 (long 3) (long 4))
      ≡ Set 4 3 ∷ Set 5 0 ∷ Set 6 4 ∷ Set 7 0 ∷ Bin Xor 4 4 6 ∷ Bin Xor 5 5 7 ∷ Bin Or 4 4 5 ∷ Set 6 0 ∷ Branch Ne 4 6 10
      ∷ Set 4 0 ∷ Jump 11 ∷ Label 10 ∷ Set 4 1 ∷ Label 11 ∷ []
  pub less_signed : code (bin op.Lt I16 (number 3) (number 4))
      ≡ Set 4 3 ∷ Set 6 4 ∷ Branch Lt 4 6 10 ∷ Set 4 0 ∷ Jump 11 ∷ Label 10 ∷ Set 4 1 ∷ Label 11 ∷ []
  pub less_unsigned : code (bin op.Lt U16 (const U16 (pos 3)) (const U16 (pos 4)))
      ≡ Set 4 3 ∷ Set 6 4 ∷ Branch LtU 4 6 10 ∷ Set 4 0 ∷ Jump 11 ∷ Label 10 ∷ Set 4 1 ∷ Label 11 ∷ []
  pub long_at_most : code (bin op.Le I32 (long 3) (long 4))
      ≡ Set 4 3 ∷ Set 5 0 ∷ Set 6 4 ∷ Set 7 0 ∷ Branch Lt 5 7 10 ∷ Branch Ne 5 7 12 ∷ Branch LeU 4 6 10 ∷ Label 12
      ∷ Set 4 0 ∷ Jump 11 ∷ Label 10 ∷ Set 4 1 ∷ Label 11 ∷ []
  -- conversions
  pub signed_widened : code (convert I32 (number 3)) ≡ Set 4 3 ∷ Set 5 0 ∷ Branch Le 5 4 10 ∷ Set 5 65535 ∷ Label 10 ∷ []
  pub unsigned_widened : code (convert I32 (const U16 (pos 3))) ≡ Set 4 3 ∷ Set 5 0 ∷ []
  pub narrowed : code (convert U8 (long 300)) ≡ Set 4 300 ∷ Set 5 0 ∷ Set 5 255 ∷ Bin And 4 4 5 ∷ []
  pub low_half_kept : code (convert U16 (long 70000)) ≡ Set 4 4464 ∷ Set 5 1 ∷ []
  -- pointers
  pub moved_by_four : code (offset (addr (object 2)) (number 3) 4)
      ≡ Set 4 0x1104 ∷ Set 6 3 ∷ Bin Add 6 6 6 ∷ Bin Add 6 6 6 ∷ Bin Add 4 4 6 ∷ []
  pub moved_by_eight : code (offset (addr (object 4)) (number 3) 8)
      ≡ Set 4 0x1110 ∷ Set 6 3 ∷ Set 8 8 ∷ Help 24 (6 ∷ 8 ∷ []) (6 ∷ []) ∷ Bin Add 4 4 6 ∷ []
  pub apart : code (distance (addr (object 1)) null 2) ≡ Set 4 0x1102 ∷ Set 6 0 ∷ Bin Sub 4 4 6 ∷ Set 6 2 ∷ Help 17 (4 ∷ 6 ∷ []) (4 ∷ []) ∷ []
  pub bytes_apart : code (distance (addr (object 0)) null 1) ≡ Set 4 0x1100 ∷ Set 6 0 ∷ Bin Sub 4 4 6 ∷ []
  -- the second is left out where the first tells
  pub and : code (both (number 1) (long 2))
      ≡ Set 4 1 ∷ Set 6 0 ∷ Branch Eq 4 6 10 ∷ Set 4 2 ∷ Set 5 0 ∷ Bin Or 4 4 5 ∷ Set 6 0 ∷ Branch Eq 4 6 10
      ∷ Set 4 1 ∷ Jump 11 ∷ Label 10 ∷ Set 4 0 ∷ Label 11 ∷ []
  pub or : code (either (number 1) (number 2))
      ≡ Set 4 1 ∷ Set 6 0 ∷ Branch Ne 4 6 10 ∷ Set 4 2 ∷ Set 6 0 ∷ Branch Ne 4 6 10 ∷ Set 4 0 ∷ Jump 11 ∷ Label 10 ∷ Set 4 1 ∷ Label 11 ∷ []
  pub chosen : code (choice (number 1) (long 2) (long 3))
      ≡ Set 4 1 ∷ Set 6 0 ∷ Branch Eq 4 6 10 ∷ Set 4 2 ∷ Set 5 0 ∷ Jump 11 ∷ Label 10 ∷ Set 4 3 ∷ Set 5 0 ∷ Label 11 ∷ []
  -- assignments: the place, then the value, then the store
  pub byte_assigned : code (assign (object 0) (const U8 (pos 3)) at) ≡ Set 4 0x1100 ∷ Set 6 3 ∷ Store false 6 4 ∷ Move 4 6 ∷ []
  pub long_assigned : code (assign (object 2) (long 3) at)
      ≡ Set 4 0x1104 ∷ Set 6 3 ∷ Set 7 0 ∷ Store true 6 4 ∷ Set 5 2 ∷ Bin Add 5 4 5 ∷ Store true 7 5 ∷ Move 4 6 ∷ Move 5 7 ∷ []
  pub value_assigned : code (assign (local 0) (number 3) at) ≡ Set 6 3 ∷ Move 0 6 ∷ Move 4 6 ∷ []
  pub values_assigned : code (assign (local 1) (long 3) at) ≡ Set 6 3 ∷ Set 7 0 ∷ Move 1 6 ∷ Move 2 7 ∷ Move 4 6 ∷ Move 5 7 ∷ []
  pub frame_assigned : code (assign (local 2) (const U8 (pos 3)) at) ≡ Set 4 0 ∷ Set 6 3 ∷ Poke false 6 4 ∷ Move 4 6 ∷ []
  pub long_frame_assigned : code (assign (local 3) (long 3) at)
      ≡ Set 4 2 ∷ Set 6 3 ∷ Set 7 0 ∷ Poke true 6 4 ∷ Set 5 2 ∷ Bin Add 5 4 5 ∷ Poke true 7 5 ∷ Move 4 6 ∷ Move 5 7 ∷ []
  -- updates: x++ of 16 bits gives the old value, and a byte += a long the new one
  pub old_given : code (update (object 1) op.Add I16 (number 1) true at)
      ≡ Set 4 0x1102 ∷ Load true 6 4 ∷ Set 8 1 ∷ Move 10 6 ∷ Move 12 8 ∷ Bin Add 10 10 12 ∷ Store true 10 4 ∷ Move 4 6 ∷ []
  pub new_given : code (update (local 2) op.Add I32 (long 1) false at)
      ≡ Set 4 0 ∷ Peek false 6 4 ∷ Set 8 1 ∷ Set 9 0 ∷ Move 10 6 ∷ Set 11 0 ∷ Move 12 8 ∷ Move 13 9
      ∷ Carry Add 14 10 12 ∷ Bin Add 10 10 12 ∷ Bin Add 11 11 13 ∷ Bin Add 11 11 14
      ∷ Set 11 255 ∷ Bin And 10 10 11 ∷ Poke false 10 4 ∷ Move 4 10 ∷ []
  -- calls: arguments from left to right, one move before and one behind
  pub called : code (call 0 (more_exprs (long 3) (more_exprs (number 4) no_exprs)) at)
      ≡ Set 4 3 ∷ Set 5 0 ∷ Set 6 4 ∷ Tick ∷ Call 0 (4 ∷ 5 ∷ 6 ∷ []) [] ∷ Tick ∷ []
  pub result_taken : code (call 1 no_exprs at) ≡ Tick ∷ Call 1 [] (4 ∷ 5 ∷ []) ∷ Tick ∷ []
  -- posts and ports
  pub posted : code (post 3) ≡ Post 3 4 ∷ Set 5 255 ∷ Bin And 4 4 5 ∷ []
  pub port_read : code (port_in 0x0132) ≡ In 4 0x0132 ∷ []
  pub port_written : code (port_out 0x0130 (const U16 (pos 3))) ≡ Set 4 3 ∷ Out 0x0130 4 ∷ []
  pub in_order : code (comma (number 1) (long 2)) ≡ Set 4 1 ∷ Set 4 2 ∷ Set 5 0 ∷ []
  -- labels: an operator's own first, then those of its operands
  pub labels_in_order : code (bin op.Eq I16 (un IsZero I16 (number 1)) (un IsZero I16 (number 2)))
      ≡ Set 4 1 ∷ Set 6 0 ∷ Branch Eq 4 6 13 ∷ Set 4 0 ∷ Jump 14 ∷ Label 13 ∷ Set 4 1 ∷ Label 14
      ∷ Set 6 2 ∷ Set 8 0 ∷ Branch Eq 6 8 15 ∷ Set 6 0 ∷ Jump 16 ∷ Label 15 ∷ Set 6 1 ∷ Label 16
      ∷ Branch Eq 4 6 10 ∷ Set 4 0 ∷ Jump 11 ∷ Label 10 ∷ Set 4 1 ∷ Label 11 ∷ []
