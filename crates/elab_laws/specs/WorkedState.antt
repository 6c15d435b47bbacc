-- A state with names, tags and structs that keeps what is asked of states, and a program to which it belongs (own).
use Rattle.std.specs.Prelude.{false, List, [], ◌∷◌, length}
use Rattle.nm_base.specs.declared.int_type.IntType.TheVariants.{I16, U8, U16}
use Rattle.nesc_core.specs.Plain.{Ty, void, int, pointer, array, struct, Object, Body, Program}
use Rattle.nesc_core.specs.Plain as core
use Rattle.elab_meaning.specs.RowForms.{locals, start, structs, values, world}
use Rattle.elab_laws.specs.Known.{IsClosed}
use Rattle.elab_laws.specs.Formed.{Belongs, fields_in}

abbrev pub object_of : Ty → Object
object_of t = record { name = []; ty = t; addr = 0; norace = false; taken = false }

abbrev pub body_of : (params : List Ty) (result : Ty) → Body
body_of params result = record { name = []; params = length params; locals = params; result = result; code = core.block core.no_stmts; is_async = false; is_item = false }

-- bodies 3, 4, 9 and 12 are called
abbrev pub no_body : Body
no_body = body_of [] void

abbrev pub worked_program : Program
worked_program = record {
  structs = fields_in structs;
  objects =
      object_of (int U16) ∷ object_of (array (int I16) 4) ∷ object_of (struct 0) ∷ object_of (struct 0) ∷ object_of (pointer (struct 0))
      ∷ object_of (array (struct 0) 2) ∷ object_of (array (array (int U8) 3) 2) ∷ object_of (array (int I16) 2) ∷ object_of (struct 1) ∷ [];
  bodies =
      no_body ∷ no_body ∷ no_body ∷ body_of (int I16 ∷ pointer (int I16) ∷ []) (int U8) ∷ no_body ∷ no_body ∷ no_body ∷ no_body ∷ no_body
      ∷ body_of (int I16 ∷ []) (int U8) ∷ no_body ∷ no_body ∷ body_of (int U8 ∷ int I16 ∷ []) void ∷ [];
  tasks = 0 ∷ 1 ∷ 2 ∷ [];
  handlers = [];
  boot = 0;
  warnings = [];
}

pub record WorkedState : Type 0 where
  pub closed : IsClosed start
  pub belongs : Belongs worked_program locals world values start
