-- What each kind of definition adds to the tables.
use Rattle.std.proofs.Common.{◌≡◌, ℕ, ◌+◌, Bool, true, false, not, ◌&&◌, cond, List, Option, Some, None, refl, sym, ap, subst, ◌∙◌, bytes_eq, arith}
use Rattle.std.specs.Option.{option_or}
use Rattle.nesc_tree.specs.declared.declarations.FuncKind.{FuncKind}
use Rattle.nesc_tree.specs.declared.declarations.FuncKind.TheVariants as kind
use Rattle.body_meaning.specs.Tree.{Head}
use Rattle.program_meaning.specs.Numbers.{implements, is_function, is_item_kind, is_task, is_task_kind, is_text}
use Rattle.wire_names.specs.Places as names
use Rattle.elab_targets.specs.Places.{IsDefined, IsItemKept, implementation_place, table_of}
use Rattle.elab_targets.specs.Tables.{AreNamed, IsKept, is_pair, item_place, when}
use Rattle.elab_targets.specs.declared.items.ItemPlaces.{ItemPlaces}
use Rattle.elab_targets.specs.declared.places.Places.{Places}

alone : (o : Option ℕ) → o ≡ option_or o None
alone None = refl
alone (Some k) = refl

-- nothing more where a test fails
stays : (o : Option ℕ) (b : Bool) (n : ℕ) → b ≡ false → o ≡ option_or o (when b n)
stays o b n fails = alone o ∙ ap (λ t. option_or o (when t n)) (sym fails)

with : (o : Option ℕ) (a b : Bool) (n : ℕ) → a ≡ b → option_or o (when a n) ≡ option_or o (when b n)
with o a b n e = ap (λ t. option_or o (when t n)) e

no_task : (k : FuncKind) → is_item_kind k ≡ true → is_task_kind k ≡ false
no_task kind.Command e = refl
no_task kind.Event e = refl
no_task kind.Plain e = absurd (cc)
no_task kind.Task e = absurd (cc)

no_item : (h : Head) → is_item_kind h.kind ≡ false → (element item : List ℕ) (is_default : Bool) → implements element item is_default h ≡ false
no_item h fails element item true = ap (λ t. t && (h.is_default && (bytes_eq h.name element && is_text item h.item))) fails
no_item h fails element item false = ap (λ t. t && (not h.is_default && (bytes_eq h.name element && is_text item h.item))) fails

module _ (h : Head) (old new : Places) where
  abbrev Added : (tables : Places → names.Placed) → ℕ → Type 0
  Added tables n = (name : List ℕ) → names.place_of (tables new) name ≡ option_or (names.place_of (tables old) name) (when (bytes_eq h.name name) n)

  module _ (tables : (is_default : Bool) → table_of is_default new ≡ table_of is_default old) where
    items_stay : is_item_kind h.kind ≡ false → (element item : List ℕ) (is_default : Bool)
        → implementation_place new element item is_default ≡ option_or (implementation_place old element item is_default) (when (implements element item is_default h) old.bodies)
    items_stay fails element item is_default =
        ap (λ (t : ItemPlaces). item_place t element item) (tables is_default)
        ∙ stays (implementation_place old element item is_default) (implements element item is_default h) old.bodies (no_item h fails element item is_default)

    names_stay : ((is_default : Bool) → AreNamed (table_of is_default old)) → (is_default : Bool) → AreNamed (table_of is_default new)
    names_stay named is_default = subst AreNamed (sym (tables is_default)) (named is_default)

    pub function_added : h.kind ≡ kind.Plain → Added (λ t. t.functions) old.bodies → new.task_places ≡ old.task_places → new.bodies ≡ old.bodies + 1 → new.tasks ≡ old.tasks → IsDefined h old new
    function_added is functions tasks bodies count = record {
      functions_are = λ name. functions name ∙ with _ (bytes_eq h.name name) (is_function name h) old.bodies (ap (λ k. not (is_item_kind k) && bytes_eq h.name name) (sym is));
      tasks_are = λ name. ap (λ t. names.place_of t name) tasks ∙ stays (names.place_of old.task_places name) (is_task h && is_function name h) old.tasks (ap (λ k. is_task_kind k && is_function name h) is);
      items_are = λ named. items_stay (ap is_item_kind is);
      named = names_stay;
      bodies_are = bodies;
      tasks_count = count ∙ (let e : old.tasks ≡ old.tasks + 0 = omega arith in e) ∙ ap (λ k. old.tasks + cond (is_task_kind k) 1 0) (sym is);
    }

    pub task_added : h.kind ≡ kind.Task → Added (λ t. t.functions) old.bodies → Added (λ t. t.task_places) old.tasks → new.bodies ≡ old.bodies + 1 → new.tasks ≡ old.tasks + 1 → IsDefined h old new
    task_added is functions tasks bodies count = record {
      functions_are = λ name. functions name ∙ with _ (bytes_eq h.name name) (is_function name h) old.bodies (ap (λ k. not (is_item_kind k) && bytes_eq h.name name) (sym is));
      tasks_are = λ name. tasks name ∙ with _ (bytes_eq h.name name) (is_task h && is_function name h) old.tasks (ap (λ k. is_task_kind k && (not (is_item_kind k) && bytes_eq h.name name)) (sym is));
      items_are = λ named. items_stay (ap is_item_kind is);
      named = names_stay;
      bodies_are = bodies;
      tasks_count = count ∙ ap (λ k. old.tasks + cond (is_task_kind k) 1 0) (sym is);
    }

  -- a command or an event, which the tables behind mid have
  pub item_added : (mid : Places) → is_item_kind h.kind ≡ true → IsItemKept h old mid → new.implementations ≡ mid.implementations → new.defaults ≡ mid.defaults
      → new.functions ≡ mid.functions → new.task_places ≡ mid.task_places → new.bodies ≡ old.bodies + 1 → new.tasks ≡ mid.tasks → IsDefined h old new
  item_added mid is kept implementations defaults functions tasks bodies count = record {
    functions_are = λ name. ap (λ t. names.place_of t name) (functions ∙ kept.functions_stay) ∙ stays (names.place_of old.functions name) (is_function name h) old.bodies (ap (λ t. not t && bytes_eq h.name name) is);
    tasks_are = λ name. ap (λ t. names.place_of t name) (tasks ∙ kept.tasks_stay) ∙ stays (names.place_of old.task_places name) (is_task h && is_function name h) old.tasks (ap (λ t. t && is_function name h) (no_task h.kind is));
    items_are = λ named element item is_default. ap (λ (t : ItemPlaces). item_place t element item) (tables is_default) ∙ kept.items_are is named element item is_default;
    named = λ named is_default. subst AreNamed (sym (tables is_default)) (kept.named named is_default);
    bodies_are = bodies;
    tasks_count = count ∙ kept.count_stays ∙ (let e : old.tasks ≡ old.tasks + 0 = omega arith in e) ∙ ap (λ t. old.tasks + cond t 1 0) (sym (no_task h.kind is));
  } where
    tables : (is_default : Bool) → table_of is_default new ≡ table_of is_default mid
    tables true = defaults
    tables false = implementations

-- ---- the tables of items

module _ (h : Head) (e i : List ℕ) where
  as_default : (x : List ℕ) → is_item_kind h.kind ≡ true → h.is_default ≡ true → h.item ≡ Some x → is_pair h.name x e i ≡ implements e i true h
  as_default x kind is item = sym (ap (λ t. t && (h.is_default && (bytes_eq h.name e && is_text i h.item))) kind
      ∙ ap (λ t. t && (bytes_eq h.name e && is_text i h.item)) is ∙ ap (λ o. bytes_eq h.name e && is_text i o) item)

  as_other : (x : List ℕ) → is_item_kind h.kind ≡ true → h.is_default ≡ false → h.item ≡ Some x → is_pair h.name x e i ≡ implements e i false h
  as_other x kind is item = sym (ap (λ t. t && (not h.is_default && (bytes_eq h.name e && is_text i h.item))) kind
      ∙ ap (λ t. not t && (bytes_eq h.name e && is_text i h.item)) is ∙ ap (λ o. bytes_eq h.name e && is_text i o) item)

  never : (b : Bool) → (b && false) ≡ false
  never true = refl
  never false = refl

  not_as_default : h.is_default ≡ false → implements e i true h ≡ false
  not_as_default is = ap (λ t. is_item_kind h.kind && (t && (bytes_eq h.name e && is_text i h.item))) is ∙ never (is_item_kind h.kind)

  not_as_other : h.is_default ≡ true → implements e i false h ≡ false
  not_as_other is = ap (λ t. is_item_kind h.kind && (not t && (bytes_eq h.name e && is_text i h.item))) is ∙ never (is_item_kind h.kind)

  nameless : h.item ≡ None → (is_default : Bool) → implements e i is_default h ≡ false
  nameless none true = ap (λ o. is_item_kind h.kind && (h.is_default && (bytes_eq h.name e && is_text i o))) none
      ∙ ap (λ t. is_item_kind h.kind && (h.is_default && t)) (never (bytes_eq h.name e)) ∙ ap (λ t. is_item_kind h.kind && t) (never h.is_default) ∙ never (is_item_kind h.kind)
  nameless none false = ap (λ o. is_item_kind h.kind && (not h.is_default && (bytes_eq h.name e && is_text i o))) none
      ∙ ap (λ t. is_item_kind h.kind && (not h.is_default && t)) (never (bytes_eq h.name e)) ∙ ap (λ t. is_item_kind h.kind && t) (never (not h.is_default)) ∙ never (is_item_kind h.kind)

-- a command or an event without the name of an item
pub none_kept : (h : Head) (t : Places) → h.item ≡ None → IsItemKept h t t
none_kept h t none = record {
  items_are = λ kind named e i is_default. stays (implementation_place t e i is_default) (implements e i is_default h) t.bodies (nameless h e i none is_default);
  named = λ named. named;
  functions_stay = refl;
  tasks_stay = refl;
  bodies_stay = refl;
  count_stays = refl;
}

module _ (h : Head) (x : List ℕ) (old new : Places) (item : h.item ≡ Some x) (functions : new.functions ≡ old.functions) (tasks : new.task_places ≡ old.task_places) (bodies : new.bodies ≡ old.bodies) (count : new.tasks ≡ old.tasks) where
  pub default_kept : h.is_default ≡ true → IsKept h.name x old.bodies old.defaults new.defaults → new.implementations ≡ old.implementations → IsItemKept h old new
  default_kept is kept other = record {
    items_are = items;
    named = named_are;
    functions_stay = functions;
    tasks_stay = tasks;
    bodies_stay = bodies;
    count_stays = count;
  } where
    items : is_item_kind h.kind ≡ true → ((is_default : Bool) → AreNamed (table_of is_default old)) → (e i : List ℕ) (is_default : Bool)
        → implementation_place new e i is_default ≡ option_or (implementation_place old e i is_default) (when (implements e i is_default h) old.bodies)
    items kind named e i true = kept.places (named true) e i ∙ with (item_place old.defaults e i) (is_pair h.name x e i) (implements e i true h) old.bodies (as_default h e i x kind is item)
    items kind named e i false = ap (λ (t : ItemPlaces). item_place t e i) other ∙ stays (item_place old.implementations e i) (implements e i false h) old.bodies (not_as_other h e i is)

    named_are : ((is_default : Bool) → AreNamed (table_of is_default old)) → (is_default : Bool) → AreNamed (table_of is_default new)
    named_are named true = kept.named (named true)
    named_are named false = subst AreNamed (sym other) (named false)

  pub other_kept : h.is_default ≡ false → IsKept h.name x old.bodies old.implementations new.implementations → new.defaults ≡ old.defaults → IsItemKept h old new
  other_kept is kept other = record {
    items_are = items;
    named = named_are;
    functions_stay = functions;
    tasks_stay = tasks;
    bodies_stay = bodies;
    count_stays = count;
  } where
    items : is_item_kind h.kind ≡ true → ((is_default : Bool) → AreNamed (table_of is_default old)) → (e i : List ℕ) (is_default : Bool)
        → implementation_place new e i is_default ≡ option_or (implementation_place old e i is_default) (when (implements e i is_default h) old.bodies)
    items kind named e i false = kept.places (named false) e i ∙ with (item_place old.implementations e i) (is_pair h.name x e i) (implements e i false h) old.bodies (as_other h e i x kind is item)
    items kind named e i true = ap (λ (t : ItemPlaces). item_place t e i) other ∙ stays (item_place old.defaults e i) (implements e i true h) old.bodies (not_as_default h e i is)

    named_are : ((is_default : Bool) → AreNamed (table_of is_default old)) → (is_default : Bool) → AreNamed (table_of is_default new)
    named_are named false = kept.named (named false)
    named_are named true = subst AreNamed (sym other) (named true)

pub tables_stay : (old new : Places) → new.implementations ≡ old.implementations → new.defaults ≡ old.defaults → (is_default : Bool) → table_of is_default new ≡ table_of is_default old
tables_stay old new implementations defaults true = defaults
tables_stay old new implementations defaults false = implementations
