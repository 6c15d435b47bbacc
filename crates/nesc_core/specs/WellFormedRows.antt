-- A well-formed program, and what no expression or statement of one is.
use Rattle.std.specs.Prelude.{ℕ, pos, true, false, List, [], ◌∷◌, Some, None}
use Rattle.nm_base.specs.declared.int_type.IntType.TheVariants.{U8, I16, U16}
use Rattle.nesc_core.specs.declared.tree.BinOp.TheVariants as op
use Rattle.nesc_core.specs.Plain.{Ty, void, int, pointer, struct, Expr, const, read, addr, bin, convert, assign, update, call, post, port_in, no_exprs, more_exprs, object, local, deref, index, field, Stmt, eval, block, loop, switch, break, continue, return, atomic, clear, here, no_stmts, more_stmts, Body, Program}
use Rattle.nesc_core.specs.Typing.{Has}
use Rattle.nesc_core.specs.Calls.{HasNoCycle}
use Rattle.nesc_core.specs.WellFormed.{IsStmt, by_return, IsWellFormed}
use Rattle.nesc_core.specs.Rows.{start, of_type, object_at}

abbrev pub number : ℕ → Expr
number n = const U16 (pos n)

abbrev pub function : (params : ℕ) (locals : List Ty) (result : Ty) → Stmt → Body
function params locals result code = record {
  name = [];
  params = params;
  locals = locals;
  result = result;
  code = code;
  is_async = false;
  is_item = false;
}

-- uint16_t same(uint16_t a) { return a; }
abbrev pub same : Body
same = function 1 (int U16 ∷ []) (int U16) (block (more_stmts (return (Some (read (local 0) start))) no_stmts))

-- void boot() { atomic x = same(1); post count(); }
abbrev pub boot : Body
boot = function 0 [] void (block (
    more_stmts (atomic (eval (assign (object 0) (call 0 (more_exprs (number 1) no_exprs) start) start)))
    (more_stmts (eval (post 0)) no_stmts)))

-- switch (i) { case 1: break; default: (&y)->a = port_read(0x0132); }
abbrev pub choosing : Stmt
choosing = switch (read (local 0) start)
    (record { value = Some (pos 1); start = 0 } ∷ record { value = None; start = 1 } ∷ [])
    (more_stmts break
    (more_stmts (eval (assign (field (deref (addr (object 1)) (struct 0)) 0) (convert U8 (port_in 0x0132)) start)) no_stmts))

-- task void count() { uint16_t i; for (i = 0; i < 3; i++) switch (i) .. }
abbrev pub counting : Body
counting = function 0 (int U16 ∷ []) void (block (
    more_stmts (clear 0)
    (more_stmts (loop true (bin op.Lt U16 (read (local 0) start) (number 3)) (Some (update (local 0) op.Add U16 (number 1) true start)) choosing)
    no_stmts)))

-- struct s { uint8_t a; struct s *next; }; uint16_t x; struct s y;
abbrev pub good : Program
good = record {
  structs = (of_type (int U8) ∷ of_type (pointer (struct 0)) ∷ []) ∷ [];
  objects = object_at (int U16) 0x1100 false ∷ object_at (struct 0) 0x1102 true ∷ [];
  bodies = same ∷ boot ∷ counting ∷ [];
  tasks = 2 ∷ [];
  handlers = (3, 2) ∷ [];
  boot = 1;
  warnings = [];
}

pub record WellFormedRows : Type 0 where
  pub well_formed : IsWellFormed good
  pub no_cycle : HasNoCycle good
  -- (uint8_t)256 is no constant
  pub too_great : (t : Ty) → Has good [] (const U8 (pos 256)) t → ⊥
  -- two numbers of 8 bits are not added before they are promoted
  pub not_promoted : (t : Ty) → Has good [] (bin op.Add U8 (const U8 (pos 1)) (const U8 (pos 1))) t → ⊥
  pub not_converted : (t : Ty) → Has good [] (bin op.Add U16 (number 1) (const I16 (pos 1))) t → ⊥
  pub no_such_port : (t : Ty) → Has good [] (port_in 0x0121) t → ⊥
  pub argument_left_out : (t : Ty) → Has good [] (call 0 no_exprs start) t → ⊥
  pub no_such_task : (t : Ty) → Has good [] (post 1) t → ⊥
  pub no_array : (t : Ty) → Has good [] (read (index (object 0) (number 0)) start) t → ⊥
  pub no_such_field : (t : Ty) → Has good [] (read (field (object 1) 2) start) t → ⊥
  pub break_outside : IsStmt good [] break (by_return void) → ⊥
  pub continue_in_switch : IsStmt good [] (switch (number 1) [] (more_stmts continue no_stmts)) (by_return void) → ⊥
  pub case_outside : IsStmt good [] (switch (number 1) (record { value = None; start = 0 } ∷ []) no_stmts) (by_return void) → ⊥
  -- a break does not leave an inlined call
  pub break_out_of_here : IsStmt good [] (loop true (number 1) None (here no_exprs 0 0 break)) (by_return void) → ⊥
