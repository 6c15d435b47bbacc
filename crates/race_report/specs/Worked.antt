-- Worked rows of the report of small programs: a boot body and a handler that touch the same object.
use Rattle.std.specs.Prelude.{◌≡◌, ℕ, pos, Bool, true, false, List, [], ◌∷◌}
use Rattle.nm_base.specs.declared.int_type.IntType.TheVariants.{U8, U16}
use Rattle.nm_base.specs.declared.pos.Pos.{Pos}
use Rattle.nesc_core.specs.Plain.{Ty, void, int, pointer, array, struct, Expr, const, read, assign, call, no_exprs, Place, object, deref, field, Stmt, eval, block, atomic, no_stmts, more_stmts, Field, Object, Body, Program}
use Rattle.race_checker.specs.declared.row.Row.{Row}
use Rattle.race_checker.specs.Computed.{report_of}

abbrev pub here : Pos
here = record { file = 0; line = 1; col = 1 }

abbrev pub body : Stmt → Body
body code = record { name = []; params = 0; locals = []; result = void; code = code; is_async = false; is_item = false }

abbrev pub variable : Ty → (norace taken : Bool) → Object
variable t norace taken = record { name = []; ty = t; addr = 0x1100; norace = norace; taken = taken }

-- the boot body, the body that it may call, and the handler
abbrev pub program : List (List Field) → List Object → (boot second handler : Stmt) → Program
program structs objects boot second handler = record {
  structs = structs;
  objects = objects;
  bodies = body boot ∷ body second ∷ body handler ∷ [];
  tasks = [];
  handlers = (2, 2) ∷ [];
  boot = 0;
  warnings = [];
}

abbrev pub nothing : Stmt
nothing = block no_stmts

abbrev pub both : (first second : Stmt) → Stmt
both first second = block (more_stmts first (more_stmts second no_stmts))

abbrev pub write : Place → Stmt
write place = eval (assign place (const U8 (pos 1)) here)

abbrev pub look : Place → Stmt
look place = eval (read place here)

abbrev pub enter : Stmt
enter = eval (call 1 no_exprs here)

abbrev pub row : (x f n : ℕ) (path : List ℕ) → Row
row x f n path = record { object = x; body = f; node = n; pos = here; path = path; async_path = 2 ∷ [] }

-- a struct with two fields
abbrev pub pair : List (List Field)
pair = (record { name = []; ty = int U8 } ∷ record { name = []; ty = int U16 } ∷ []) ∷ []

-- where the first object's address is taken, and the others point at numbers of 8 bits
abbrev pub pointed : Ty → List Object
pointed t = variable t false true ∷ variable (pointer (int U8)) false false ∷ variable (pointer (int U8)) false false ∷ []

abbrev pub through : (x : ℕ) → Place
through x = deref (read (object x) here) (int U8)

pub record WorkedRows : Type 0 where
  -- the object is shared, whichever field is touched
  pub two_fields : report_of (program pair (variable (struct 0) false false ∷ []) (write (field (object 0) 0)) nothing (write (field (object 0) 1))) ≡ row 0 0 1 (0 ∷ []) ∷ []
  pub array_through_two_pointers : report_of (program [] (pointed (array (int U8) 4)) (write (through 1)) nothing (write (through 2))) ≡ row 0 0 1 (0 ∷ []) ∷ []
  pub empty_array : report_of (program [] (pointed (array (int U8) 0)) (write (through 1)) nothing (write (through 2))) ≡ []
  pub field_through_pointer : report_of (program pair (pointed (struct 0)) (write (through 1)) nothing (write (through 2))) ≡ row 0 0 1 (0 ∷ []) ∷ []
  pub other_type : report_of (program [] (pointed (array (int U16) 4)) (write (through 1)) nothing (write (through 2))) ≡ []
  -- reads are treated like writes
  pub only_read : report_of (program [] (variable (int U8) false false ∷ []) (look (object 0)) nothing (look (object 0))) ≡ row 0 0 1 (0 ∷ []) ∷ []
  pub norace : report_of (program [] (variable (int U8) true false ∷ []) (write (object 0)) nothing (write (object 0))) ≡ []
  pub no_handler_touches : report_of (program [] (variable (int U8) false false ∷ []) (write (object 0)) nothing nothing) ≡ []
  -- a body that is called twice has its rows once, each by its node, with the bare call of the two on the path
  pub called_twice : report_of (program [] (variable (int U8) false false ∷ []) (both (atomic enter) enter) (both (write (object 0)) (look (object 0))) (write (object 0)))
      ≡ row 0 1 2 (0 ∷ 1 ∷ []) ∷ row 0 1 6 (0 ∷ 1 ∷ []) ∷ []
  pub called_in_atomic : report_of (program [] (variable (int U8) false false ∷ []) (both (atomic enter) (atomic enter)) (write (object 0)) (write (object 0))) ≡ []
