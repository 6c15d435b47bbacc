-- Worked examples: what the code of bodies does in the open machine, beside what the bodies do in the source.
use Rattle.std.specs.Prelude.{◌≡◌, ℕ, pos, true, List, [], ◌∷◌, Some, None}
use Rattle.nm_base.specs.declared.int_type.IntType.TheVariants.{U8, I16, U16, I32, U32}
use Rattle.nm_base.specs.declared.action.Action.TheVariants as action
use Rattle.nm_base.specs.Behaviour.{Performed, performed}
use Rattle.nesc_core.specs.declared.tree.BinOp.TheVariants.{Add}
use Rattle.nesc_core.specs.Plain.{Expr, Program, void, int, array, no_exprs, local, index, const, read, bin, convert, port_in, block, branch, loop, switch, break, continue, return, atomic, clear, call}
use Rattle.core_meaning.specs.Rows as source
use Rattle.core_meaning.specs.SourceOf.{source_of}
use Rattle.mid_code.specs.declared.instr.Mid.TheVariants.{Set, Branch, Label, Jump, Ret, Begin, End, Tick, Out}
use Rattle.mid_code.specs.declared.instr.Test.TheVariants.{Eq}
use Rattle.mid_code.specs.Machine.{fn_of, started, steps}
use Rattle.lower_expr.specs.Rows as expressions
use Rattle.lower_stmt.specs.Bodies.{lowered}

-- in at most so many steps, from the start of function 0
abbrev pub runs : Program → (m : ℕ) → (answers : List ℕ) → Performed
runs p m answers = performed (steps (lowered p) m (started (lowered p) 0)) answers

-- the machine does what the source does
abbrev pub Agrees : Program → (m turns : ℕ) → (answers : List ℕ) → Type 0
Agrees p m turns answers = runs p m answers ≡ (source_of p).act 0 answers turns

-- ---- while (1) { switch (port_read(0x0132)) { case 1: atomic { port_write(0x0130, 1); atomic continue; } case 2: atomic break; default: atomic return; }
-- port_write(0x0130, 2); }

abbrev pub two_counts : Program
two_counts = source.program [] [] (source.function [] void (
    loop true (source.number 1) None (block (source.statements (
    switch (port_in 0x0132) (record { value = Some (pos 1); start = 0 } ∷ record { value = Some (pos 2); start = 1 } ∷ record { value = None; start = 2 } ∷ [])
    (source.statements (
    atomic (block (source.statements (source.out (convert U16 (source.number 1)) ∷ atomic continue ∷ []))) ∷ atomic break ∷ atomic (return None) ∷ [])) ∷
    source.out (convert U16 (source.number 2)) ∷ []))) ∷ []) ∷ [])

-- ---- uint8_t a[3]; uint32_t t; t = 70000; a[1] = 7; port_write(0x0130, a[1]); and both anew: port_write(0x0130, a[1]); port_write(0x0130, t);

abbrev pub element : Expr
element = convert U16 (read (index (local 0) (source.number 1)) source.at)

abbrev pub cleared : Program
cleared = source.program [] [] (source.function (array (int U8) 3 ∷ int U32 ∷ []) void (
    source.put (local 1) (const U32 (pos 70000)) ∷ source.put (index (local 0) (source.number 1)) (convert U8 (source.number 7)) ∷ source.out element ∷
    clear 0 ∷ clear 1 ∷ source.out element ∷ source.out (convert U16 (read (local 1) source.at)) ∷ []) ∷ [])

-- ---- switch (port_read(0x0132) as a long) { case 65537: port_write(0x0130, 1); case 1: port_write(0x0130, 2); }

abbrev pub long_cases : Program
long_cases = source.program [] [] (source.function [] void (
    switch (bin Add I32 (const I32 (pos 65536)) (convert I32 (port_in 0x0132))) (record { value = Some (pos 65537); start = 0 } ∷ record { value = Some (pos 1); start = 1 } ∷ [])
    (source.statements (source.out (convert U16 (source.number 1)) ∷ source.out (convert U16 (source.number 2)) ∷ [])) ∷ []) ∷ [])

-- ---- int16_t f() { if (port_read(0x0132)) return 5; } port_write(0x0130, f());

abbrev pub unreturned : Program
unreturned = source.program [] [] (
    source.function [] void (source.out (convert U16 (call 1 no_exprs source.at)) ∷ []) ∷
    source.function [] (int I16) (branch (port_in 0x0132) (return (Some (source.number 5))) (block (source.statements [])) ∷ []) ∷ [])

pub record WorkedRows : Type 0 where
  -- while (1) atomic break; port_write(0x0130, 1); the label behind the loop is 1, and a break leaves the atomic statement at 5
  pub code : (fn_of (lowered source.broken) 0).code
      ≡ Label 0 ∷ Tick ∷ Set 0 1 ∷ Set 2 0 ∷ Branch Eq 0 2 1 ∷ Begin 0 ∷ Jump 5 ∷ End 0 ∷ Jump 6 ∷ Label 5 ∷ End 0 ∷ Jump 1 ∷ Label 6 ∷ Label 2 ∷ Jump 0 ∷ Label 1
      ∷ Set 0 1 ∷ Out 0x0130 0 ∷ Ret [] ∷ []
  pub break_ends_atomic : runs source.broken 40 [] ≡ source.ends (action.Tick ∷ action.Begin ∷ action.End ∷ action.Out 0x0130 1 ∷ [])
  pub falls_through : runs source.choosing 60 (1 ∷ []) ≡ source.ends (action.In 0x0132 ∷ action.Out 0x0130 1 ∷ action.Out 0x0130 2 ∷ [])
  pub default_chosen : Agrees source.choosing 60 0 (9 ∷ [])
  pub numbers : Agrees source.numbers 400 0 []
  pub turns : Agrees source.counting 200 3 []
  pub continue_tests : Agrees source.test_last 100 2 (1 ∷ 0 ∷ [])
  pub break_agrees : Agrees source.broken 40 1 []
  pub return_ends_atomic : Agrees source.leaving 60 0 (7 ∷ [])
  pub inlined_alike : Agrees source.inlined 60 0 (7 ∷ [])
  pub arguments_passed : Agrees expressions.calling 200 0 []
  pub arguments_inlined : Agrees source.adding_inlined 80 0 (5 ∷ [])
  pub pointer_faults : Agrees source.pointers 200 0 (0x1100 ∷ 5 ∷ 0x1100 ∷ [])
  pub exits : runs two_counts 200 (1 ∷ 2 ∷ 9 ∷ [])
      ≡ source.ends (action.Tick ∷ action.In 0x0132 ∷ action.Begin ∷ action.Out 0x0130 1 ∷ action.Begin ∷ action.End ∷ action.End
      ∷ action.Tick ∷ action.In 0x0132 ∷ action.Begin ∷ action.End ∷ action.Out 0x0130 2 ∷ action.Tick ∷ action.In 0x0132 ∷ action.Begin ∷ action.End ∷ [])
  pub exits_agree : Agrees two_counts 200 3 (1 ∷ 2 ∷ 9 ∷ [])
  pub cleared_row : runs cleared 200 [] ≡ source.ends (source.outs (7 ∷ 0 ∷ 0 ∷ []))
  pub cleared_agree : Agrees cleared 200 0 []
  pub long_case : Agrees long_cases 60 0 (1 ∷ [])
  pub no_case : Agrees long_cases 60 0 (2 ∷ [])
  pub unreturned_row : runs unreturned 60 (0 ∷ []) ≡ source.ends (action.Tick ∷ action.In 0x0132 ∷ action.Tick ∷ action.Out 0x0130 0 ∷ [])
  pub unreturned_agree : Agrees unreturned 60 0 (0 ∷ [])
