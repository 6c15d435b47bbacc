-- Rules and bodies cut where the code is cut (own).
use Rattle.std.specs.Prelude.{ℕ, if◌then◌else◌, List, length, Option, Some, Ok}
use Rattle.nm_base.specs.declared.pos.Pos.{Pos}
use Rattle.nm_base.specs.declared.refusal.Refusal.TheVariants.{ArgumentMismatch, BadType, UnknownName}
use Rattle.nesc_core.specs.Plain as core
use Rattle.nesc_core.specs.Plain.{Body, Ty}
use Rattle.nesc_core.specs.View.{type_of}
use Rattle.nesc_types.specs.Rule.{Rule, refuse}
use Rattle.body_meaning.specs.Tree.{Head}
use Rattle.elab_rules.specs.declared.bodies.Described as rust
use Rattle.program_meaning.specs.Dispatch.{parameters}
use Rattle.program_meaning.specs.Heads.{Form}
use Rattle.program_meaning.specs.Items.{Fact}
use Rattle.program_meaning.specs.Making.{Declared}
use Rattle.program_meaning.specs.Numbers.{is_function, is_item_kind, place_of}
use Rattle.program_meaning.specs.Walk.{Told, combines_type, found_or, implements, is_needed, of_instance, with_item}

abbrev pub implementing : Pos → Form → Fact → Rule (Unit {0})
implementing at f x = if implements f x then Ok tt else refuse (ArgumentMismatch at)

abbrev pub combining_by : Pos → Ty → (body : ℕ) → Declared → Rule (Option ℕ)
combining_by at t body d = if combines_type t d.form then Ok (Some body) else refuse (BadType at)

-- of a function or a task
abbrev pub function_stands : Told → Head → (line : Option ℕ) → Rule (Unit {0})
function_stands told h l =
    found_or (if is_needed told h l then refuse (UnknownName h.at) else Ok tt) (place_of (is_function h.name) told.decls)

-- what is made for a body
pub record Described : Type 0 where
  pub name : List ℕ
  pub params : ℕ
  pub result : Ty

abbrev pub described_of : rust.Described → Described
described_of d = record { name = d.name; params = d.params; result = type_of d.result }

abbrev pub parts_of : Told → Head → Form → Described
parts_of told h f = record {
  name = of_instance told.instance (with_item h.name h.item);
  params = length (parameters f);
  result = f.result;
}

abbrev pub body_by : Described → Head → (locals : List Ty) → core.Stmt → Body
body_by d h locals code = record {
  name = d.name;
  params = d.params;
  locals = locals;
  result = d.result;
  code = code;
  is_async = h.is_async;
  is_item = is_item_kind h.kind;
}
