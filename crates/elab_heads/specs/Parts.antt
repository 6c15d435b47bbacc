-- Heads cut where the code is cut (own: the equations of the meaning).
use Rattle.std.specs.Prelude.{List, ◌++◌, drop, length, Option, Ok}
use Rattle.nm_base.specs.declared.int_type.IntType.{IntType}
use Rattle.nm_base.specs.declared.pos.Pos.{Pos}
use Rattle.nesc_core.specs.Plain.{Ty}
use Rattle.nesc_tree.specs.Plain as s
use Rattle.nesc_types.specs.Values.{Constant}
use Rattle.elab_meaning.specs.Elab.{Elab, ◌>>=◌, ◌>>◌, give, state}
use Rattle.elab_meaning.specs.Scope.{Entry, Env, Tag}
use Rattle.body_meaning.specs.Scopes.{opened, back_to}
use Rattle.body_meaning.specs.Tree.{Head, Param}
use Rattle.program_meaning.specs.Heads as heads
use Rattle.program_meaning.specs.Heads.{Form, Heading, no_locals, parameter, passed_by, parameters, bracket, heading_alone}
use Rattle.program_meaning.specs.Items as items
use Rattle.program_meaning.specs.Parts.{Sig}

-- the parameter in the bracket and the others, with the names and tags of their scope
pub record Parameters : Type 0 where
  pub bracket : Option IntType
  pub types : List Ty
  pub names : List Entry
  pub tags : List Tag

-- the head with these parameters and this result
abbrev pub with_parameters : Head → Ty → Parameters → Heading
with_parameters h t p = record {
  form = record { kind = h.kind; is_async = h.is_async; is_default = h.is_default; bracket = p.bracket; params = p.types; result = t };
  names = p.names;
  tags = p.tags;
}

-- the scope of the parameters comes in force
abbrev pub in_force : Heading → Elab (Unit {0})
in_force g = λ s. Ok (tt, record s { names = s.names ++ g.names; tags = s.tags ++ g.tags })

module _ (env : Env) (values : List (Option Constant)) where
  -- one of the parameters
  abbrev pub one_parameter : Pos → Param → Elab Ty
  one_parameter at p = do
    t ← passed_by env values at p.ty
    parameter at t p.name
    give t.ty

  -- the parameters are the first locals, in a scope of their own
  abbrev pub declared : Pos → Option Param → List Param → Elab Parameters
  declared at b params = do
    old ← state
    opened
    no_locals
    t ← bracket env values at b
    ts ← parameters env values at params
    x ← state
    back_to old
    give (record { bracket = t; types = ts; names = drop (length old.names) x.names; tags = drop (length old.tags) x.tags })

  -- the result, and the parameters behind it
  abbrev pub typed : Pos → s.TypeSpec → Option Param → List Param → Elab (Ty × Parameters)
  typed at spec b params = do
    t ← heads.result env values at spec
    p ← declared at b params
    give (t, p)

  -- what an item of an interface declares
  abbrev pub signature : Sig → Elab Form
  signature x = do
    g ← heading_alone env values (items.head_of x)
    give g.form
