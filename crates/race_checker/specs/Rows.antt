-- Worked rows of the report.
use Rattle.std.specs.Prelude.{◌≡◌, pos, Bool, true, false, [], ◌∷◌}
use Rattle.nm_base.specs.declared.int_type.IntType.TheVariants.{U8}
use Rattle.nm_base.specs.declared.pos.Pos.{Pos}
use Rattle.nesc_core.specs.Plain.{void, int, const, read, addr, assign, call, no_exprs, object, deref, Stmt, eval, atomic, Body, Program}
use Rattle.race_checker.specs.declared.row.Row.{Row}
use Rattle.race_checker.specs.Computed.{report_of}

abbrev pub here : Pos
here = record { file = 0; line = 1; col = 1 }

abbrev pub body : Stmt → Body
body code = record { name = []; params = 0; locals = []; result = void; code = code; is_async = false; is_item = false }

-- reads object 0 through a pointer
abbrev pub through_pointer : Stmt
through_pointer = eval (read (deref (addr (object 0)) (int U8)) here)

-- the boot body calls body 1, and a handler writes object 0
abbrev pub program : (is_marked is_taken : Bool) (first second : Stmt → Stmt) → Program
program is_marked is_taken first second = record {
  structs = [];
  objects = record { name = []; ty = int U8; addr = 0x1100; norace = is_marked; taken = is_taken } ∷ [];
  bodies =
      body (first (eval (call 1 no_exprs here)))
      ∷ body (second through_pointer)
      ∷ body (eval (assign (object 0) (const U8 (pos 1)) here))
      ∷ [];
  tasks = [];
  handlers = (2, 2) ∷ [];
  boot = 0;
  warnings = [];
}

abbrev pub same : Stmt → Stmt
same s = s

abbrev pub race : Row
race = record { object = 0; body = 1; node = 1; pos = here; path = 0 ∷ 1 ∷ []; async_path = 2 ∷ [] }

pub record WorkedRows : Type 0 where
  pub through_a_pointer : report_of (program false true same same) ≡ race ∷ []
  pub not_taken : report_of (program false false same same) ≡ []
  pub marked : report_of (program true true same same) ≡ []
  pub site_in_atomic : report_of (program false true same atomic) ≡ []
  pub call_in_atomic : report_of (program false true atomic same) ≡ []
