-- Steps that add locals, taken objects and dispatch bodies alone, and what they give in a program to which the state belongs.
use Rattle.std.proofs.Common.{◌≡◌, ℕ, List, length, Option, Some, None, Ok, Err, sym, subst, ◌∙◌, refl}
use Rattle.std.specs.Prelude.{⊤, slice_get}
use Rattle.nesc_core.specs.Plain.{Ty, Program, Field}
use Rattle.nesc_core.specs.Typing.{IsType}
use Rattle.nesc_types.specs.Rule.{Rule}
use Rattle.nesc_types.specs.Values.{Constant}
use Rattle.elab_meaning.specs.Scope.{Entry, Env, Item, Struct, Tag}
use Rattle.elab_meaning.specs.Elab.{State, after, by}
use Rattle.elab_laws.specs.Known.{Each, Grows, IsClosed, IsKnown, IsKnownMeaning, IsPrefix, IsStruct, MayPoint, NamesStruct, PointsIn}
use Rattle.elab_laws.specs.Formed.{Belongs, MeaningBelongs, TargetBelongs, fields_in}
use Rattle.elab_laws.proofs.Lists.{each_before, get_later, longer_prefix, map_prefix, more_names, names_prefix, no_names, same_names, same_prefix, whole_prefix}
use Rattle.elab_laws.proofs.Steps.{Gets, Says, gets, gets_stopped, gets_kept, gets_then}

-- ---- what grows

pub still : (s : State) → Grows s s
still s = record { names = no_names s.names; tags = whole_prefix s.tags; structs = whole_prefix s.structs; locals = whole_prefix s.locals; taken = whole_prefix s.taken; asked = whole_prefix s.asked }

pub grows_on : (s t u : State) → Grows s t → Grows t u → Grows s u
grows_on s t u h k = record {
  names = more_names s.names t.names u.names h.names k.names;
  tags = longer_prefix s.tags t.tags u.tags h.tags k.tags;
  structs = longer_prefix s.structs t.structs u.structs h.structs k.structs;
  locals = longer_prefix s.locals t.locals u.locals h.locals k.locals;
  taken = longer_prefix s.taken t.taken u.taken h.taken k.taken;
  asked = longer_prefix s.asked t.asked u.asked h.asked k.asked;
}

pub record Light (s t : State) : Type 0 where
  pub names : t.names ≡ s.names
  pub tags : t.tags ≡ s.tags
  pub structs : t.structs ≡ s.structs
  pub locals : IsPrefix s.locals t.locals
  pub taken : IsPrefix s.taken t.taken
  pub asked : IsPrefix s.asked t.asked

pub unmoved : (s : State) → Light s s
unmoved s = record { names = refl; tags = refl; structs = refl; locals = whole_prefix s.locals; taken = whole_prefix s.taken; asked = whole_prefix s.asked }

pub light_on : (s t u : State) → Light s t → Light t u → Light s u
light_on s t u h k = record {
  names = k.names ∙ h.names;
  tags = k.tags ∙ h.tags;
  structs = k.structs ∙ h.structs;
  locals = longer_prefix s.locals t.locals u.locals h.locals k.locals;
  taken = longer_prefix s.taken t.taken u.taken h.taken k.taken;
  asked = longer_prefix s.asked t.asked u.asked h.asked k.asked;
}

pub light_grows : (s t : State) → Light s t → Grows s t
light_grows s t h = record { names = same_names s.names t.names h.names; tags = same_prefix s.tags t.tags h.tags; structs = same_prefix s.structs t.structs h.structs; locals = h.locals; taken = h.taken; asked = h.asked }

-- what is known hangs on names, tags and structs alone
pub known_same : (n : ℕ) (s t : State) → t.names ≡ s.names → t.tags ≡ s.tags → t.structs ≡ s.structs → IsKnown n s → IsKnown n t
known_same n s t names tags structs h = record {
  names =
      subst (λ ns. Each (λ (e : Entry). IsKnownMeaning t.structs e.meaning) ns) (sym names)
      (subst (λ ss. Each (λ (e : Entry). IsKnownMeaning ss e.meaning) s.names) (sym structs) h.names);
  tags = subst (λ ts. Each (λ (x : Tag). NamesStruct n x.kind) ts) (sym tags) h.tags;
  structs = subst (λ ss. (k : ℕ) (x : Struct) → slice_get ss k ≡ Some x → IsStruct ss k x) (sym structs) h.structs;
  fields = subst (λ ss. (k : ℕ) (x : Struct) → slice_get ss k ≡ Some x → Each (λ (f : Field). MayPoint n ss f.ty) x.fields) (sym structs) h.fields;
}

pub closed_same : (s t : State) → t.names ≡ s.names → t.tags ≡ s.tags → t.structs ≡ s.structs → IsClosed s → IsClosed t
closed_same s t names tags structs h = record {
  known = subst (λ (ss : List Struct). IsKnown (length ss) t) (sym structs) (known_same (length s.structs) s t names tags structs h.known);
  fields = subst (λ ss. (k : ℕ) (x : Struct) → slice_get ss k ≡ Some x → Each (λ (f : Field). PointsIn ss f.ty) x.fields) (sym structs) h.fields;
}

module _ (p : Program) (types : List Ty) (env : Env) (values : List (Option Constant)) where
  abbrev pub B : State → Type 0
  B = Belongs p types env values

  -- what belongs to the program belonged to it before
  pub belonged : (s t : State) → Grows s t → B t → B s
  belonged s t g h = record {
    structs = longer_prefix (fields_in s.structs) (fields_in t.structs) p.structs (map_prefix (λ (x : Struct). x.fields) s.structs t.structs g.structs) h.structs;
    locals = longer_prefix s.locals t.locals types g.locals h.locals;
    names = each_before (λ (e : Entry). MeaningBelongs p types env values e.meaning) s.names t.names (names_prefix s.names t.names g.names) h.names;
    items = λ k i e. before k i i.body (h.items k i e);
  }
    where
      before : (k : ℕ) (i : Item) (o : Option ℕ) → TargetBelongs p types env values t.asked k i o → TargetBelongs p types env values s.asked k i o
      before k i (Some body) q = q
      before k i None q = λ j a e. q j a (get_later s.asked t.asked j a g.asked e)

  -- ---- leaves

  -- the locals so far are of types of the program
  abbrev pub Q : State → Type 0
  Q s = Each (λ (t : Ty). IsType p.structs t) s.locals

  -- P is what new locals need to be so too
  pub record LeafWith (P : Type 0) {A : Type 0} (s : State) (T : A → Type 0) (x : A) (t : State) : Type 0 where
    pub light : Light s t
    pub typed : IsClosed s → B t → T x
    pub locals : IsClosed s → B t → P → Q s → Q t

  abbrev pub Leaf : {A : Type 0} → State → (A → Type 0) → A → State → Type 0
  Leaf s T = LeafWith ⊤ s T

  pub leaf_with : {P A : Type 0} {T : A → Type 0} (x : A) (s t : State) → Light s t → (IsClosed s → B t → T x) → (P → Q s → Q t) → Gets (Ok (x, t)) (LeafWith P s T)
  leaf_with x s t h f g = gets x t (record { light = h; typed = f; locals = λ c b k q. g k q })

  pub leaf_give : {A : Type 0} {T : A → Type 0} (x : A) (s : State) → (IsClosed s → B s → T x) → Gets (Ok (x, s)) (Leaf s T)
  leaf_give x s f = leaf_with x s s (unmoved s) f (λ k q. q)

  pub leaf_by : {A : Type 0} {T : A → Type 0} (r : Rule A) (s : State) → (IsClosed s → B s → Says r T) → Gets (by r s) (Leaf s T)
  leaf_by (Ok x) s f = leaf_give x s (λ c b. (f c b).by x refl)
  leaf_by (Err e) s f = gets_stopped e

  pub leaf_then_with : {A C : Type 0} {T : A → Type 0} {U : C → Type 0} (P P1 : Type 0) (P2 : A → Type 0) (s : State) (r : Rule (A × State)) (next : A → State → Rule (C × State))
      → Gets r (LeafWith P1 s T) → ((x : A) (t : State) → Gets (next x t) (LeafWith (P2 x) t (λ y. T x → U y))) → (P → P1) → ((x : A) → T x → P → P2 x) → Gets (after r next) (LeafWith P s U)
  leaf_then_with P P1 P2 s r next h f first second = gets_then r next h (λ x t q. gets_kept (next x t) (f x t) (λ y u g. record {
    light = light_on s t u q.light g.light;
    typed = λ c b. g.typed (closed_same s t q.light.names q.light.tags q.light.structs c) b (q.typed c (belonged t u (light_grows t u g.light) b));
    locals = λ c b k qs.
        let before = belonged t u (light_grows t u g.light) b in
        g.locals (closed_same s t q.light.names q.light.tags q.light.structs c) b (second x (q.typed c before) k) (q.locals c before (first k) qs);
  }))

  pub leaf_then : {A C : Type 0} {T : A → Type 0} {U : C → Type 0} (s : State) (r : Rule (A × State)) (next : A → State → Rule (C × State))
      → Gets r (Leaf s T) → ((x : A) (t : State) → Gets (next x t) (Leaf t (λ y. T x → U y))) → Gets (after r next) (Leaf s U)
  leaf_then s r next h f = leaf_then_with ⊤ ⊤ (λ x. ⊤) s r next h f (λ k. k) (λ x z k. k)

  pub leaf_kept : {A : Type 0} {T U : A → Type 0} (P : Type 0) (s : State) (r : Rule (A × State)) → Gets r (LeafWith P s T) → ((x : A) → T x → U x) → Gets r (LeafWith P s U)
  leaf_kept P s r h f = gets_kept r h (λ x t q. record { light = q.light; typed = λ c b. f x (q.typed c b); locals = q.locals })

  -- where more is at hand for new locals
  pub leaf_narrow : {A : Type 0} {T : A → Type 0} (P P' : Type 0) (s : State) (r : Rule (A × State)) → (P' → P) → Gets r (LeafWith P s T) → Gets r (LeafWith P' s T)
  leaf_narrow P P' s r f h = gets_kept r h (λ x t q. record { light = q.light; typed = q.typed; locals = λ c b k. q.locals c b (f k) })
