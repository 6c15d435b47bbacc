-- Assignments, of structs too, and the bodies that calls of items reach.
use Rattle.std.proofs.Common.{◌≡◌, ℕ, zero, suc, ◌+◌, Bool, true, false, List, [], ◌∷◌, ◌++◌, length, Option, Some, None, Ok, ap, sym, subst, ◌∙◌, refl, arith}
use Rattle.std.specs.Prelude.{⊤, ◌&&◌, nat_eq, slice_get, slice_index_or, if◌then◌else◌}
use Rattle.std.proofs.lemmas.Bool.{eqb-true}
use Rattle.nm_base.specs.declared.pos.Pos.{Pos}
use Rattle.nm_base.specs.declared.int_type.IntType.{IntType}
use Rattle.nm_base.specs.declared.refusal.Refusal.{Refusal}
use Rattle.nm_base.specs.declared.refusal.Refusal.TheVariants.{BadType}
use Rattle.nesc_core.specs.Plain.{Ty, Expr, Place, Program, struct}
use Rattle.nesc_core.specs.PlaceTypes.{place_type}
use Rattle.nesc_core.specs.Typing.{IsPlace, IsSome, Has}
use Rattle.nesc_tree.specs.declared.tree.InOp.{InOp}
use Rattle.nesc_types.specs.Rule.{refuse}
use Rattle.nesc_types.specs.Values.{Constant}
use Rattle.elab_meaning.specs.Scope.{Env, Item, Struct}
use Rattle.elab_meaning.specs.Elab.{Asked, State, after, by}
use Rattle.elab_meaning.specs.Convert.{Typed, Found, a_place, a_value, a_copy, Target, struct_number}
use Rattle.elab_meaning.specs.Places.{Frozen, ask, body_reached, copied, copies, copies_of_fields, copies_of_struct, copy_copied, fields_of_struct, is_asked, is_number, place_among, place_copied, stored, stored_by}
use Rattle.elab_laws.specs.Known.{Each, IsClosed}
use Rattle.elab_laws.specs.Formed.{HasIndexes, IsBodyOf, IsPlaceOf, IsValueOf, IsWellFound, IsValue, TargetBelongs, parameter_type, value_type}
use Rattle.elab_laws.proofs.Lists.{behind_prefix, each_joined}
use Rattle.elab_laws.proofs.Steps.{Gets, gets_stopped, gets_if, says_under}
use Rattle.elab_laws.proofs.Copies as copying
use Rattle.elab_laws.proofs.Operations as operations
use Rattle.elab_laws.proofs.Operations.{struct_number_is}
use Rattle.elab_laws.proofs.Leaves as leaves
use Rattle.elab_laws.proofs.Leaves.{Leaf, Light, unmoved}
use Rattle.elab_laws.proofs.Places as places

module _ (p : Program) (types : List Ty) (env : Env) (consts : List (Option Constant)) where
  abbrev V : Typed → Type 0
  V v = IsValueOf p types v.expr v.ty

  abbrev W : Found → Type 0
  W = IsWellFound p types

  abbrev B : State → Type 0
  B = leaves.B p types env consts

  abbrev L : {A : Type 0} → State → (A → Type 0) → A → State → Type 0
  L s T = Leaf p types env consts s T

  abbrev S : Expr → Type 0
  S e = IsSome (Has p types e)

  abbrev T : Target → Type 0
  T t = IsPlaceOf p types t.place t.ty × HasIndexes p types t.place t.indexes

  refused : {P A : Type 0} {U : A → Type 0} {r : Refusal} (s : State) → Gets {A = A} (by (refuse r) s) (leaves.LeafWith p types env consts P s U)
  refused s = gets_stopped _

  -- ---- structs

  copies_each : (at at_value : Pos) (k : ℕ) (s : State) → IsClosed s → B s → (a b : Place) → IsPlaceOf p types a (struct k) → IsPlaceOf p types b (struct k)
      → Each S (copies s.structs at at_value k a b)
  copies_each at at_value k s c belongs a b h m = by (slice_get s.structs k) refl (length s.structs)
    where
      by : (o : Option Struct) → slice_get s.structs k ≡ o → (depth : ℕ) → Each S (copies_of_struct s.structs at at_value depth k a b)
      by (Some x) e depth = copying.copies_ok at at_value s.structs c.known.structs p types belongs.structs c.fields depth k x e a b h m
      by None e zero = tt
      by None e (suc depth) = subst (λ o. Each S (copies_of_fields (copies_of_struct s.structs at at_value depth) at at_value 0 (fields_of_struct o) a b)) (sym e) tt

  -- a frozen place is of the first one's type
  frozen_is : (place : Place) (k : ℕ) (f : Frozen) → IsPlaceOf p types place (struct k) → IsPlace p types f.place → place_type p types f.place ≡ place_type p types place → IsPlaceOf p types f.place (struct k)
  frozen_is place k f h formed same = record { formed = formed; ty = same ∙ h.ty; known = h.known }

  place_leaf : (at at_value : Pos) (t : Target) (k : ℕ) (q : Place) (indexes : List IntType) (s : State) → t.ty ≡ struct k
      → Gets (place_copied at at_value t k q indexes s) (leaves.LeafWith p types env consts (IsPlace p types t.place × IsPlace p types q) s (λ f. IsPlaceOf p types q (struct k) × HasIndexes p types q indexes → T t → W f))
  place_leaf at at_value t k q indexes s same = leaves.leaf_then_with p types env consts (IsPlace p types t.place × IsPlace p types q) (IsPlace p types t.place) (λ f. IsPlace p types q) s _ _ (places.frozen_leaf p types env consts at t.place t.indexes [] s)
      (λ f s1. leaves.leaf_then_with p types env consts (IsPlace p types q) (IsPlace p types q) (λ g. ⊤) s1 _ _ (places.frozen_leaf p types env consts at_value q indexes f.steps s1)
      (λ g s2. leaves.leaf_give p types env consts (a_copy (g.steps ++ copies s2.structs at at_value k f.place g.place) f.place k) s2 (λ c b second first hq ht. made s2 c b f g first second hq (subst (IsPlaceOf p types t.place) same ht.0) ht.1))
      (λ k. k) (λ g z k. tt))
      (λ k. k.0) (λ f z k. k.1)
    where
      made : (s : State) → IsClosed s → B s → (f g : Frozen)
          → (IsPlace p types t.place → HasIndexes p types t.place t.indexes → Each S [] → Each S f.steps × IsPlace p types f.place × (place_type p types f.place ≡ place_type p types t.place))
          → (IsPlace p types q → HasIndexes p types q indexes → Each S f.steps → Each S g.steps × IsPlace p types g.place × (place_type p types g.place ≡ place_type p types q))
          → IsPlaceOf p types q (struct k) × HasIndexes p types q indexes → IsPlaceOf p types t.place (struct k) → HasIndexes p types t.place t.indexes
          → W (a_copy (g.steps ++ copies s.structs at at_value k f.place g.place) f.place k)
      made s c b f g first second hq ht hi =
          let m = first ht.formed hi tt in
          let n = second hq.0.formed hq.1 m.0 in
          let to = frozen_is t.place k f ht m.1 m.2 in
          (each_joined S g.steps (copies s.structs at at_value k f.place g.place) n.0 (copies_each at at_value k s c b f.place g.place to (frozen_is q k g hq.0 n.1 n.2)), to)

  copy_leaf : (at at_value : Pos) (t : Target) (k : ℕ) (steps : List Expr) (q : Place) (s : State) → t.ty ≡ struct k
      → Gets (copy_copied at at_value t k steps q s) (leaves.LeafWith p types env consts (IsPlace p types t.place) s (λ f. Each S steps × IsPlaceOf p types q (struct k) → T t → W f))
  copy_leaf at at_value t k steps q s same = leaves.leaf_then_with p types env consts (IsPlace p types t.place) (IsPlace p types t.place) (λ f. ⊤) s _ _ (places.frozen_leaf p types env consts at t.place t.indexes steps s)
      (λ f s1. leaves.leaf_give p types env consts (a_copy (f.steps ++ copies s1.structs at at_value k f.place q) f.place k) s1 (λ c b first hq ht. made s1 c b f first hq (subst (IsPlaceOf p types t.place) same ht.0) ht.1))
      (λ k. k) (λ f z k. tt)
    where
      made : (s : State) → IsClosed s → B s → (f : Frozen)
          → (IsPlace p types t.place → HasIndexes p types t.place t.indexes → Each S steps → Each S f.steps × IsPlace p types f.place × (place_type p types f.place ≡ place_type p types t.place))
          → Each S steps × IsPlaceOf p types q (struct k) → IsPlaceOf p types t.place (struct k) → HasIndexes p types t.place t.indexes
          → W (a_copy (f.steps ++ copies s.structs at at_value k f.place q) f.place k)
      made s c b f first hq ht hi =
          let m = first ht.formed hi hq.0 in
          let to = frozen_is t.place k f ht m.1 m.2 in
          (each_joined S f.steps (copies s.structs at at_value k f.place q) m.0 (copies_each at at_value k s c b f.place q to hq.1), to)

  -- new locals are of types of the program where both sides are well formed
  abbrev LS : State → Found → Target → (Found → Type 0) → Found → State → Type 0
  LS s f t U = leaves.LeafWith p types env consts (W f × T t) s U

  copied_leaf : (at at_value : Pos) (t : Target) (k : ℕ) (f : Found) (s : State) → t.ty ≡ struct k → Gets (copied at at_value t k f s) (LS s f t (λ g. W f → T t → W g))
  copied_leaf at at_value t k (a_place q indexes u is_const) s same = by_number (struct_number u) refl
    where
      by_number : (o : Option ℕ) → struct_number u ≡ o
          → Gets ((if is_number k o then place_copied at at_value t k q indexes else by (refuse (BadType at_value))) s) (LS s (a_place q indexes u is_const) t (λ g. W (a_place q indexes u is_const) → T t → W g))
      by_number None e = refused s
      by_number (Some j) e = gets_if (nat_eq k j) (place_copied at at_value t k q indexes) _ s
          (λ y. let n : k ≡ j = eqb-true k j y in
          leaves.leaf_kept p types env consts _ s _
          (leaves.leaf_narrow p types env consts (IsPlace p types t.place × IsPlace p types q) (W (a_place q indexes u is_const) × T t) s _ (λ h. (h.1.0.formed, h.0.0.formed)) (place_leaf at at_value t k q indexes s same))
          (λ g h hf ht. h (subst (IsPlaceOf p types q) (struct_number_is u j e ∙ ap struct (sym n)) hf.0, hf.1) ht))
          (λ y. refused s)
  copied_leaf at at_value t k (a_copy steps q j) s same = gets_if (nat_eq k j) (copy_copied at at_value t k steps q) _ s
      (λ y. let n : k ≡ j = eqb-true k j y in
      leaves.leaf_kept p types env consts _ s _
      (leaves.leaf_narrow p types env consts (IsPlace p types t.place) (W (a_copy steps q j) × T t) s _ (λ h. h.1.0.formed) (copy_leaf at at_value t k steps q s same))
      (λ g h hf ht. h (hf.0, subst (λ i. IsPlaceOf p types q (struct i)) (sym n) hf.1) ht))
      (λ y. refused s)
  copied_leaf at at_value t k (a_value v) s same = refused s

  pub stored_leaf : (o : Option InOp) (at at_value : Pos) (t : Target) (f : Found) (s : State) → Gets (stored o at at_value t f s) (LS s f t (λ g. W f → T t → W g))
  stored_leaf None at at_value t f s = by_number (struct_number t.ty) refl
    where
      by_number : (o : Option ℕ) → struct_number t.ty ≡ o → Gets (stored_by at at_value t f o s) (LS s f t (λ g. W f → T t → W g))
      by_number (Some k) e = copied_leaf at at_value t k f s (struct_number_is t.ty k e)
      by_number None e = leaves.leaf_narrow p types env consts ⊤ (W f × T t) s _ (λ z. tt) (leaves.leaf_then p types env consts s _ _ (places.as_value_leaf p types env consts at_value f s)
          (λ v s1. leaves.leaf_by p types env consts _ s1
          (λ c b. says_under _ (λ hv. says_under _ (λ hf. says_under _ (λ ht. operations.assigned_ok p types s1.structs c.known.structs b.structs c.fields at at_value t v ht (hv hf)))))))
  stored_leaf (Some o) at at_value t f s = leaves.leaf_narrow p types env consts ⊤ (W f × T t) s _ (λ z. tt) (leaves.leaf_then p types env consts s _ _ (places.as_value_leaf p types env consts at_value f s)
      (λ v s1. leaves.leaf_by p types env consts _ s1
      (λ c b. says_under _ (λ hv. says_under _ (λ hf. says_under _ (λ ht. operations.updated_ok p types s1.structs c.known.structs b.structs c.fields at false o t v ht (hv hf)))))))

  -- ---- calls of items

  both_true : (a b : Bool) → (a && b) ≡ true → (a ≡ true) × (b ≡ true)
  both_true true true e = (refl, refl)
  both_true true false e = absurd cc
  both_true false b e = absurd cc

  record IsAmong (asked : List Asked) (instance item j : ℕ) : Type 0 where
    pub one : Asked
    pub is : slice_get asked j ≡ Some one
    pub of_instance : one.instance ≡ instance
    pub of_item : one.item ≡ item

  place_is : (asked rest : List Asked) (first : ℕ) (instance item k : ℕ) → ((i : ℕ) (a : Asked) → slice_get rest i ≡ Some a → slice_get asked (first + i) ≡ Some a)
      → place_among first rest instance item ≡ Some k → IsAmong asked instance item k
  place_is asked [] first instance item k there e = absurd cc
  place_is asked (a ∷ rest) first instance item k there e = by (is_asked instance item a) refl
      (place_is asked rest (suc first) instance item k (λ i x q. subst (λ n. slice_get asked n ≡ Some x) (let z : first + suc i ≡ suc first + i = omega arith in z) (there (suc i) x q))) e
    where
      here : is_asked instance item a ≡ true → first ≡ k → IsAmong asked instance item k
      here q s = let t = both_true (nat_eq a.instance instance) (nat_eq a.item item) q in record {
        one = a;
        is = subst (λ n. slice_get asked n ≡ Some a) (let z : first + 0 ≡ k = omega (arith, s) in z) (there 0 a refl);
        of_instance = eqb-true a.instance instance t.0;
        of_item = eqb-true a.item item t.1;
      }

      by : (b : Bool) → is_asked instance item a ≡ b → (place_among (suc first) rest instance item ≡ Some k → IsAmong asked instance item k)
          → (if b then Some first else place_among (suc first) rest instance item) ≡ Some k → IsAmong asked instance item k
      by true q later y = let s : first ≡ k = cc in here q s
      by false q later y = later y

  at_end : (asked : List Asked) (a : Asked) → slice_get (asked ++ a ∷ []) (length asked) ≡ Some a
  at_end [] a = refl
  at_end (x ∷ asked) a = at_end asked a

  -- what a body takes: the value for its item's parameter where it is the one target, what is given for it, and the arguments
  abbrev pub taken_by : (k : ℕ) → Item → Option ℕ → List Ty
  taken_by k i (Some body) = value_type (slice_index_or consts k None) ++ (parameter_type i.parameter ++ i.params)
  taken_by k i None = parameter_type i.parameter ++ i.params

  abbrev pub is_given : (k : ℕ) → Option ℕ → Type 0
  is_given k (Some body) = IsValue (slice_index_or consts k None)
  is_given k None = ⊤

  pub reached_leaf : (at : Pos) (k : ℕ) (i : Item) (s : State) → slice_get env.items k ≡ Some i
      → Gets (body_reached env at k i.body s) (L s (λ f. IsBodyOf p f (taken_by k i i.body) i.result × is_given k i.body))
  reached_leaf at k i s there = by i.body (λ t b. b.items k i there)
    where
      asked_at : (j : ℕ) (u : State) → Light s u → ((t : State) → B t → TargetBelongs p types env consts t.asked k i None) → IsAmong u.asked env.instance k j
          → B u → IsBodyOf p (env.first_dispatch + j) (taken_by k i None) i.result
      asked_at j u light target among b = target u b j among.one among.is among.of_instance among.of_item

      new : State → State
      new u = record u { asked = u.asked ++ (record { instance = env.instance; item = k; at = at } ∷ []) }

      asks : (o : Option ℕ) → place_among 0 s.asked env.instance k ≡ o → ((t : State) → B t → TargetBelongs p types env consts t.asked k i None)
          → Gets (after (ask env.instance k at o s) (λ j. λ u. Ok (env.first_dispatch + j, u))) (L s (λ f. IsBodyOf p f (taken_by k i None) i.result × is_given k None))
      asks (Some j) e target = leaves.leaf_give p types env consts (env.first_dispatch + j) s
          (λ c b. (asked_at j s (unmoved s) target (place_is s.asked s.asked 0 env.instance k j (λ n x q. subst (λ m. slice_get s.asked m ≡ Some x) (let z : n ≡ 0 + n = omega arith in z) q) e) b, tt))
      asks None e target = leaves.leaf_with p types env consts (env.first_dispatch + length s.asked) s (new s)
          (record { names = refl; tags = refl; structs = refl; locals = (unmoved s).locals; taken = (unmoved s).taken; asked = behind_prefix s.asked (record { instance = env.instance; item = k; at = at } ∷ []) })
          (λ c b. (target (new s) b (length s.asked) (record { instance = env.instance; item = k; at = at }) (at_end s.asked (record { instance = env.instance; item = k; at = at })) refl refl, tt)) (λ z q. q)

      by : (o : Option ℕ) → ((t : State) → B t → TargetBelongs p types env consts t.asked k i o) → Gets (body_reached env at k o s) (L s (λ f. IsBodyOf p f (taken_by k i o) i.result × is_given k o))
      by (Some body) target = leaves.leaf_give p types env consts body s (λ c b. let h = target s b in (h.1, h.0))
      by None target = asks (place_among 0 s.asked env.instance k) refl target
