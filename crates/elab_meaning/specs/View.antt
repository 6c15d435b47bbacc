-- Names, values and the state of the work seen as plain data (own).
use Rattle.std.specs.Prelude.{ℕ, pos, map, fold}
use Rattle.nm_base.specs.declared.int_type.IntType.TheVariants.{I16}
use Rattle.nesc_core.specs.View.{type_of, expr_of, place_of, field_of}
use Rattle.nesc_core.specs.Plain as core
use Rattle.nesc_core.specs.Plain.{Ty, Place}
use Rattle.elab_meaning.specs.declared.scope.Meaning as meaning
use Rattle.elab_meaning.specs.declared.scope.Meaning.TheVariants as M
use Rattle.elab_meaning.specs.declared.scope.Entry as entry
use Rattle.elab_meaning.specs.declared.scope.Kind as kind
use Rattle.elab_meaning.specs.declared.scope.Kind.TheVariants as K
use Rattle.elab_meaning.specs.declared.scope.Tag as tag
use Rattle.elab_meaning.specs.declared.scope.Struct as struct
use Rattle.elab_meaning.specs.declared.scope.Unique as unique
use Rattle.elab_meaning.specs.declared.scope.UniqueCount as unique_count
use Rattle.elab_meaning.specs.declared.scope.Item as item
use Rattle.elab_meaning.specs.declared.scope.Env as env
use Rattle.elab_meaning.specs.declared.work.Asked as asked
use Rattle.elab_meaning.specs.declared.work.Aside as set_aside
use Rattle.elab_meaning.specs.declared.work.Work.{Work}
use Rattle.elab_meaning.specs.declared.found.Typed as typed
use Rattle.elab_meaning.specs.declared.found.Found as found
use Rattle.elab_meaning.specs.declared.found.Found.TheVariants as F
use Rattle.elab_meaning.specs.declared.found.Target as target
use Rattle.elab_meaning.specs.declared.found.Start as start
use Rattle.elab_meaning.specs.declared.found.Start.TheVariants as B
use Rattle.elab_meaning.specs.declared.found.Step as step
use Rattle.elab_meaning.specs.declared.found.Step.TheVariants as S
use Rattle.elab_meaning.specs.declared.found.FrozenPlace as frozen_place
use Rattle.elab_meaning.specs.declared.found.Sides as sides
use Rattle.elab_meaning.specs.declared.found.Stride as stride
use Rattle.elab_meaning.specs.declared.found.FieldFound as field_found
use Rattle.elab_meaning.specs.declared.found.Signature as signature
use Rattle.elab_meaning.specs.declared.found.Based as based
use Rattle.elab_meaning.specs.Operators.{Based, Sides, FieldFound, Signature}
use Rattle.nesc_core.specs.declared.tree.CoreType as core_type
use Rattle.elab_meaning.specs.Scope as p
use Rattle.elab_meaning.specs.Scope.{Meaning, Entry, Kind, Tag, Struct, Unique, UniqueCount, Item, Env}
use Rattle.elab_meaning.specs.Elab.{Aside, Asked, State}
use Rattle.elab_meaning.specs.Convert.{Typed, Found, Stride, a_place, a_value, a_copy, Target}

abbrev pub meaning_of : meaning.Meaning → Meaning
meaning_of (M.Object k t is_const) = p.object k (type_of t) is_const
meaning_of (M.Local x t is_const) = p.local x (type_of t) is_const
meaning_of (M.Function body params result) = p.function body (map type_of params) (type_of result)
meaning_of (M.Task k) = p.task k
meaning_of (M.Constant t n) = p.constant t n
meaning_of (M.Type t is_const) = p.type (type_of t) is_const

abbrev pub entry_of : entry.Entry → Entry
entry_of e = record { name = e.name; meaning = meaning_of e.meaning }

abbrev pub kind_of : kind.Kind → Kind
kind_of (K.Struct k) = p.a_struct k
kind_of K.Enum = p.an_enum

abbrev pub tag_of : tag.Tag → Tag
tag_of t = record { name = t.name; kind = kind_of t.kind }

abbrev pub struct_of : struct.Struct → Struct
struct_of s = record { fields = map field_of s.fields.items; consts = s.consts.items; layout = s.layout }

abbrev pub unique_of : unique.Unique → Unique
unique_of u = record { at = u.at; number = u.number }

abbrev pub unique_count_of : unique_count.UniqueCount → UniqueCount
unique_count_of c = record { text = c.text; count = c.count }

abbrev pub item_of : item.Item → Item
item_of i = record {
  element = i.element;
  name = i.name;
  is_signal = i.is_signal;
  parameter = i.parameter;
  params = map type_of i.params;
  result = type_of i.result;
  body = i.body;
}

abbrev pub env_of : env.Env → Env
env_of e = record {
  instance = e.instance;
  uniques = map unique_of e.uniques;
  counts = map unique_count_of e.counts;
  items = map item_of e.items;
  first_dispatch = e.first_dispatch;
}

abbrev pub asked_of : asked.Asked → Asked
asked_of a = record { instance = a.instance; item = a.item; at = a.at }

abbrev pub state_of : Work → State
state_of w = record {
  names = map entry_of w.names.items;
  tags = map tag_of w.tags.items;
  first_name = w.first_name;
  first_tag = w.first_tag;
  structs = map struct_of w.structs.items;
  locals = map type_of w.locals.items;
  taken = w.taken.items;
  asked = map asked_of w.asked.items;
}

abbrev pub typed_of : typed.Typed → Typed
typed_of v = record { expr = expr_of v.expr; ty = type_of v.ty }

abbrev pub start_of : start.Start → Place
start_of (B.Object k) = core.object k
start_of (B.Local x) = core.local x
start_of (B.Behind x at t) = core.deref (core.read (core.local x) at) (type_of t)

abbrev pub step_from : Place → step.Step → Place
step_from p (S.Kept x at) = core.index p (core.read (core.local x) at)
step_from p (S.Element i) = core.index p (core.const I16 (pos i))
step_from p (S.Field k) = core.field p k

abbrev pub frozen_place_of : frozen_place.FrozenPlace → Place
frozen_place_of f = fold step_from (start_of f.start) f.steps.items

abbrev pub found_of : found.Found → Found
found_of (F.Place place types t is_const) = a_place (place_of place) types.items (type_of t) is_const
found_of (F.Value v) = a_value (typed_of v)
found_of (F.Copy steps place k) = a_copy (map expr_of steps.items) (frozen_place_of place) k

abbrev pub target_of : target.Target → Target
target_of t = record { place = place_of t.place; indexes = t.indexes.items; ty = type_of t.ty }

abbrev pub sides_of : sides.Sides → Sides
sides_of c = record { at_type = c.at_type; first = expr_of c.first; second = expr_of c.second }

abbrev pub stride_of : stride.Stride → Stride
stride_of s = record { part = type_of s.part; bytes = s.bytes }

abbrev pub field_found_of : field_found.FieldFound → FieldFound
field_found_of f = record { number = f.number; ty = type_of f.ty; is_const = f.is_const }

abbrev pub number_and_type : ℕ × core_type.CoreType → ℕ × Ty
number_and_type f = (f.0, type_of f.1)

abbrev pub signature_of : signature.Signature → Signature
signature_of s = record { body = s.body; params = map type_of s.params.items; result = type_of s.result }

abbrev pub based_of : based.Based → Based
based_of b = record { ty = type_of b.ty; is_const = b.is_const }

abbrev pub aside_of : set_aside.Aside → Aside
aside_of a = record { locals = map type_of a.locals.items; taken = a.taken.items; asked = map asked_of a.asked.items }
