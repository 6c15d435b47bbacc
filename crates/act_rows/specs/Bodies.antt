-- The programs of the rows: one task each, which consists of a form of place, expression or statement (own).
use Rattle.std.specs.Prelude.{ℕ, pos, true, false, List, [], ◌∷◌, Some, None}
use Rattle.nm_base.specs.declared.int_type.IntType.TheVariants.{I8, U8, I16, U16, U32}
use Rattle.nesc_core.specs.declared.tree.BinOp.TheVariants.{Add, Div, Shr}
use Rattle.nesc_core.specs.declared.tree.UnOp.TheVariants.{Neg, Not, IsZero}
use Rattle.nesc_core.specs.Plain.{Ty, void, int, pointer, array, struct, Expr, const, null, read, addr, un, bin, convert, offset, distance, both, either, choice, assign, update, call, post, port_in, port_out, comma, no_exprs, more_exprs, Place, object, local, deref, index, field, Case, Stmt, eval, block, branch, loop, switch, break, continue, return, atomic, clear, here, Stmts, no_stmts, more_stmts, Field, Object, Body, Program}
use Rattle.nesc_core.specs.Rows.{start, of_type, object_at}
use Rattle.nesc_core.specs.WellFormedRows.{function}
use Rattle.core_meaning.specs.BootBody.{two}
use Rattle.act_rows.specs.declared.row.Row.{Row}
use Rattle.act_rows.specs.declared.row.Row.TheVariants as row
use Rattle.act_rows.specs.declared.row.Value.{Value}
use Rattle.act_rows.specs.declared.row.Value.TheVariants as value

-- ---- the program, but for what the row's task does

-- struct s { uint8_t c; uint16_t w; };
abbrev pub structs : List (List Field)
structs = (of_type (int U8) ∷ of_type (int U16) ∷ []) ∷ []

-- uint16_t x; uint8_t a[2]; uint8_t *p; struct s s; uint8_t b; uint32_t l;
abbrev pub objects : List Object
objects =
    object_at (int U16) 0x1100 true
    ∷ object_at (array (int U8) 2) 0x1102 true
    ∷ object_at (pointer (int U8)) 0x1104 true
    ∷ object_at (struct 0) 0x1106 true
    ∷ object_at (int U8) 0x110A true
    ∷ object_at (int U32) 0x110C true
    ∷ []

-- atomic { }
abbrev pub empty_atomic : Stmt
empty_atomic = atomic (block no_stmts)

abbrev pub boot : Body
boot = function 0 [] void empty_atomic

abbrev pub one_word : List Ty
one_word = int U16 ∷ []

abbrev pub local_returned : Stmt
local_returned = return (Some (read (local 0) start))

-- uint16_t same(uint16_t a) { return a; }
abbrev pub same : Body
same = function 1 one_word (int U16) local_returned

-- uint16_t i; uint8_t j; uint16_t k;
abbrev pub locals : List Ty
locals = int U16 ∷ int U8 ∷ int U16 ∷ []

abbrev pub task : Stmt → Body
task code = function 0 locals void code

abbrev pub program : Stmt → Program
program code = record {
  structs = structs;
  objects = objects;
  bodies = boot ∷ same ∷ task code ∷ [];
  tasks = 2 ∷ [];
  handlers = [];
  boot = 0;
  warnings = [];
}

-- ---- expressions and places

abbrev pub number : ℕ → Expr
number n = const I16 (pos n)

abbrev pub byte : ℕ → Expr
byte n = convert U8 (number n)

abbrev pub word : ℕ → Expr
word n = convert U16 (number n)

-- what one port gives, and what the next one does
abbrev pub asked : Expr
asked = port_in 0x0132

abbrev pub asked_next : Expr
asked_next = port_in 0x0134

-- as an int
abbrev pub asked_number : Expr
asked_number = convert I16 asked

abbrev pub object_value : ℕ → Expr
object_value k = read (object k) start

abbrev pub local_value : ℕ → Expr
local_value x = read (local x) start

abbrev pub plus_one : ℕ → Expr
plus_one k = bin Add U16 (object_value k) (word 1)

-- &x + asked
abbrev pub moved : Expr
moved = offset (addr (object 0)) asked_number 2

-- (&x + asked) - &x
abbrev pub apart : Expr
apart = distance moved (addr (object 0)) 2

-- same(asked)
abbrev pub called : Expr
called = call 1 (more_exprs asked no_exprs) start

-- *p
abbrev pub pointed : Place
pointed = deref (object_value 2) (int U8)

-- a[asked]
abbrev pub element : Place
element = index (object 1) asked_number

-- s.w
abbrev pub second_field : Place
second_field = field (object 3) 1

-- ---- statements

-- port_write(0x0130, e);
abbrev pub shown : Expr → Stmt
shown e = eval (port_out 0x0130 (convert U16 e))

-- for (; test; port_write(0x0136, 0)) s
abbrev pub stepping : Expr → Stmt → Stmt
stepping test s = loop true test (Some (port_out 0x0136 (word 0))) s

-- of two cases with one value the first counts
abbrev pub cases : List Case
cases = record { value = None; start = 1 } ∷ record { value = Some (pos 1); start = 0 } ∷ record { value = Some (pos 1); start = 2 } ∷ []

abbrev pub choices : Stmts
choices = more_stmts (shown (number 1)) (two (block (two (shown (number 2)) break)) (shown (number 3)))

-- atomic return (uint8_t)(i + asked_next);
abbrev pub returning : Stmt
returning = atomic (return (Some (convert U8 (bin Add U16 (local_value 0) asked_next))))

-- a call with one argument, put in its place, whose result goes to local 1
abbrev pub inlined : Stmt
inlined = here (more_exprs asked no_exprs) 0 1 returning

-- ---- rows

-- x = x + 1;
abbrev pub lost_update : Stmt
lost_update = eval (assign (object 0) (plus_one 0) start)

-- l = 70000;
abbrev pub long_stored : Stmt
long_stored = eval (assign (object 5) (const U32 (pos 70000)) start)

-- j = asked; port_write(0x0130, j);
abbrev pub local_kept : Stmt
local_kept = block (two (eval (assign (local 1) (convert U8 asked) start)) (shown (local_value 1)))

-- *p = 1;
abbrev pub through_pointer : Stmt
through_pointer = eval (assign pointed (byte 1) start)

-- a[asked] = asked_next;
abbrev pub into_element : Stmt
into_element = eval (assign element (convert U8 asked_next) start)

-- s.w = 6;
abbrev pub into_field : Stmt
into_field = eval (assign second_field (word 6) start)

-- if (asked) show(1); else show(2);
abbrev pub branching : Stmt
branching = branch asked (shown (number 1)) (shown (number 2))

-- for (; asked; step) show(1);
abbrev pub while_asked : Stmt
while_asked = stepping asked (shown (number 1))

-- do show(1); while (asked);
abbrev pub do_while_asked : Stmt
do_while_asked = loop false asked None (shown (number 1))

-- for (; asked; step) { continue; show(1); }
abbrev pub continued : Stmt
continued = stepping asked (block (two continue (shown (number 1))))

-- for (; 1; step) atomic break; show(2);
abbrev pub broken : Stmt
broken = block (two (stepping (number 1) (atomic break)) (shown (number 2)))

-- switch (asked) { case 1: show(1); default: show(2); break; case 1: show(3); }
abbrev pub switching : Stmt
switching = switch asked cases choices

-- atomic { if (asked) return; } show(1);
abbrev pub returned : Stmt
returned = block (two (atomic (branch asked (return None) (block no_stmts))) (shown (number 1)))

-- j = inlined(asked); show(j);
abbrev pub inlined_shown : Stmt
inlined_shown = block (two inlined (shown (local_value 1)))

-- i = 5; clear i; show(i);
abbrev pub cleared : Stmt
cleared = block (two (eval (assign (local 0) (word 5) start)) (block (two (clear 0) (shown (local_value 0)))))

abbrev pub value_of : Value → Expr
value_of value.OldValue = update (object 0) Add U16 (word 1) true start
value_of value.NewValue = update (object 4) Add I16 (number 1) false start
value_of value.LongRead = bin Shr U32 (object_value 5) (number 16)
value_of value.ByteRead = object_value 4
value_of value.Moved = moved
value_of value.Apart = apart
value_of value.Negative = un Neg I16 asked_number
value_of value.Complement = un Not I16 asked_number
value_of value.Zero = un IsZero I16 asked_number
value_of value.Quotient = bin Div I16 (number 7) asked_number
value_of value.Narrowed = convert I8 asked
value_of value.Null = null
value_of value.Both = both asked asked_next
value_of value.Either = either asked asked_next
value_of value.Chosen = choice asked asked_next (word 9)
value_of value.InOrder = comma asked asked_next
value_of value.Called = called
value_of value.Posted = post 0

abbrev pub statement_of : Row → Stmt
statement_of row.LostUpdate = lost_update
statement_of row.LongStored = long_stored
statement_of row.Local = local_kept
statement_of row.Pointed = through_pointer
statement_of row.Element = into_element
statement_of row.SecondField = into_field
statement_of row.Branch = branching
statement_of row.While = while_asked
statement_of row.DoWhile = do_while_asked
statement_of row.Continued = continued
statement_of row.Broken = broken
statement_of row.Switch = switching
statement_of row.Returned = returned
statement_of row.Inlined = inlined_shown
statement_of row.Cleared = cleared
statement_of (row.Shown v) = shown (value_of v)
