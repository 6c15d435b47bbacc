-- The steps that forms of expressions, constants and types are made of, and what each does.
use Rattle.std.proofs.Common.{inl, inr, ◌≡◌, ℕ, suc, ◌+◌, ◌≤◌, Bool, true, false, List, [], ◌∷◌, length, Option, Some, None, Ok, Err, ap, subst, refl, arith}
use Rattle.std.specs.Prelude.{⊤, ℤ, pos, negsuc, nat_eq, slice_get, if◌then◌else◌}
use Rattle.std.specs.Option.{option_map}
use Rattle.std.proofs.lemmas.Bool.{eqb-true}
use Rattle.std.proofs.lemmas.Int.{ints}
use Rattle.nm_base.specs.declared.pos.Pos.{Pos}
use Rattle.nm_base.specs.declared.int_type.IntType.{IntType}
use Rattle.nm_base.specs.declared.int_type.IntType.TheVariants.{I16, U16}
use Rattle.nm_base.specs.declared.refusal.Refusal.TheVariants.{BadType}
use Rattle.nesc_core.specs.declared.layout.Layout.{Layout}
use Rattle.nesc_core.specs.Plain.{Ty, Expr, Program, int}
use Rattle.nesc_core.specs.Typing.{Has, IsOf, IsPort, IsType, PointsWell, is_port}
use Rattle.nesc_tree.specs.Plain as s
use Rattle.nesc_types.specs.Constant.{pos_of}
use Rattle.nesc_types.specs.Literals.{candidates, first_holding}
use Rattle.nesc_core.specs.Size.{int_layout}
use Rattle.nesc_types.specs.Rule.{Rule, or_refuse}
use Rattle.nesc_types.specs.Values.{Constant}
use Rattle.elab_meaning.specs.Scope as scope
use Rattle.elab_meaning.specs.Scope.{Entry, Env, Item, Kind, Meaning, Struct, Tag, a_struct, an_enum, item_from, is_item, lookup, lookup_tag}
use Rattle.elab_meaning.specs.Elab.{Elab, State, after, alone, aside, back_in, by, unevaluated, with_aside}
use Rattle.elab_meaning.specs.Convert.{Typed, Found, layout_in, type_found}
use Rattle.elab_meaning.specs.Operators.{Based, const_of, constant_named, counted, decimal, directed, enum_tagged, item_named, port, same_count, sized, struct_tagged, type_named, with_type}
use Rattle.elab_meaning.specs.Wired.{argument, as_found, measured, size_of, valued}
use Rattle.elab_laws.specs.Known.{IsPrefix, IsClosed, IsKnown, IsKnownMeaning, IsKnownType, NamesStruct}
use Rattle.elab_laws.specs.Formed.{IsValueOf, IsWellFound}
use Rattle.elab_laws.proofs.Lists.{get_there, whole_prefix}
use Rattle.elab_laws.proofs.Numbers.{IsConst, MaybeConst, first_holding_is, in_range, maybe_const}
use Rattle.elab_laws.proofs.Sizes as sizes
use Rattle.elab_laws.proofs.Sizes.{AreStructs, layout_at, layout_small}
use Rattle.elab_laws.proofs.Steps.{Gets, Says, gets, gets_kept, gets_stopped, says, says_any, says_found, says_if, says_kept, says_then, says_under, refuses}
use Rattle.elab_laws.proofs.Values as values
use Rattle.elab_laws.proofs.Leaves as leaves
use Rattle.elab_laws.proofs.Leaves.{Leaf, closed_same, grows_on, known_same, still}
use Rattle.elab_laws.proofs.Later.{may_of_points}
use Rattle.elab_laws.proofs.Types.{MayBase, MayType, MaybeIs}
use Rattle.elab_laws.proofs.Places as places
use Rattle.elab_laws.proofs.Does as does
use Rattle.elab_laws.proofs.Does.{Any, Does, Free, Untyped}

-- ---- rules on constants and names

pub sized_is : (ss : List Struct) (at : Pos) (t : Ty) → AreStructs ss → Says (sized ss at t) IsConst
sized_is ss at t ok = says_then _ _ (whole (layout_in ss t) refl) (λ n h. says _ (in_range U16 (pos n) (omega (arith, ints), omega (arith, ints, h))))
  where
    whole : (o : Option Layout) → layout_in ss t ≡ o → Says (or_refuse (BadType at) (option_map (λ (l : Layout). l.size) o)) (λ n. n ≤ 32767)
    whole None q = refuses _
    whole (Some l) q = says _ (layout_small ss ok t l q)

pub counted_is : (at : Pos) (o : Option ℕ) → Says (counted at o) IsConst
counted_is at None = refuses _
counted_is at (Some n) = says_kept _ (says_found _ (decimal n)) (λ c e. maybe_const (decimal n) c (decimal_is (first_holding n (candidates true false false)) (first_holding_is n (candidates true false false))) e)
  where
    decimal_is : (o : Option IntType) → ((t : IntType) → o ≡ Some t → IsOf t (pos n)) → MaybeConst (with_type n o)
    decimal_is None h = tt
    decimal_is (Some t) h = h t refl

pub fits_is : (at : Pos) (o : Option Constant) → MaybeConst o → Says (or_refuse (BadType at) o) IsConst
fits_is at o h = says_kept _ (says_found _ o) (λ c e. maybe_const o c h e)

pub constant_named_is : (ss : List Struct) (whole at : Pos) (o : Option Meaning) → MaybeIs (IsKnownMeaning ss) o → Says (constant_named whole at o) IsConst
constant_named_is ss whole at None h = refuses _
constant_named_is ss whole at (Some (scope.object k t is_const)) h = refuses _
constant_named_is ss whole at (Some (scope.local x t is_const)) h = refuses _
constant_named_is ss whole at (Some (scope.function body params result)) h = refuses _
constant_named_is ss whole at (Some (scope.task k)) h = refuses _
constant_named_is ss whole at (Some (scope.constant t x)) h = says _ h
constant_named_is ss whole at (Some (scope.type t is_const)) h = refuses _

pub port_is : (at : Pos) (z : ℤ) → Says (port at z) IsPort
port_is at (pos n) = says_if (is_port n) _ _ (λ q. says n q) (λ q. refuses _)
port_is at (negsuc n) = refuses _

pub count_is : (at : Pos) (n m : ℕ) → Says (same_count at n m) (λ u. n ≡ m)
count_is at n m = says_if (nat_eq n m) _ _ (λ q. says tt (eqb-true n m q)) (λ q. refuses _)

item_is : (first : ℕ) (is : List Item) (owner name : List ℕ) (x : ℕ × Item) → item_from first is owner name ≡ Some x → (k : ℕ) × ((slice_get is k ≡ Some x.1) × (x.0 ≡ first + k))
item_is first [] owner name x e = absurd cc
item_is first (i ∷ is) owner name x e = by_first (is_item i owner name) (item_is (suc first) is owner name x) e
  where
    here : (first, i) ≡ x → (k : ℕ) × ((slice_get (i ∷ is) k ≡ Some x.1) × (x.0 ≡ first + k))
    here q = (0, (ap (λ (y : ℕ × Item). Some y.1) q, let z : first ≡ x.0 = ap (λ (y : ℕ × Item). y.0) q in omega (arith, z)))

    later : (k : ℕ) × ((slice_get is k ≡ Some x.1) × (x.0 ≡ suc first + k)) → (k : ℕ) × ((slice_get (i ∷ is) k ≡ Some x.1) × (x.0 ≡ first + k))
    later h = (suc h.0, (h.1.0, let z = h.1.1 in omega (arith, z)))

    by_first : (b : Bool) → (item_from (suc first) is owner name ≡ Some x → (k : ℕ) × ((slice_get is k ≡ Some x.1) × (x.0 ≡ suc first + k)))
        → (if b then Some (first, i) else item_from (suc first) is owner name) ≡ Some x → (k : ℕ) × ((slice_get (i ∷ is) k ≡ Some x.1) × (x.0 ≡ first + k))
    by_first true f q = let z : (first, i) ≡ x = cc in here z
    by_first false f q = later (f q)

pub item_named_is : (at : Pos) (signal : Bool) (items : List Item) (owner name : List ℕ) → Says (item_named at signal (item_from 0 items owner name)) (λ x. slice_get items x.0 ≡ Some x.1)
item_named_is at signal items owner name = by_item (item_from 0 items owner name) refl
  where
    there : (x : ℕ × Item) → item_from 0 items owner name ≡ Some x → slice_get items x.0 ≡ Some x.1
    there x e = let h = item_is 0 items owner name x e in let z = h.1.1 in let same : h.0 ≡ x.0 = omega (arith, z) in subst (λ k. slice_get items k ≡ Some x.1) same h.1.0

    way : (signal : Bool) (x : ℕ × Item) → item_from 0 items owner name ≡ Some x → Says (directed at signal x) (λ y. slice_get items y.0 ≡ Some y.1)
    way true x e = says_if x.1.is_signal _ _ (λ q. says x (there x e)) (λ q. refuses _)
    way false x e = says_if x.1.is_signal _ _ (λ q. refuses _) (λ q. says x (there x e))

    by_item : (o : Option (ℕ × Item)) → item_from 0 items owner name ≡ o → Says (item_named at signal o) (λ y. slice_get items y.0 ≡ Some y.1)
    by_item None e = refuses _
    by_item (Some x) e = way signal x e

-- ---- bases of types

pub type_named_is : (n : ℕ) (ss : List Struct) (at : Pos) (o : Option Meaning) → MaybeIs (IsKnownMeaning ss) o → Says (type_named at o) (λ b. IsKnownType ss b.ty)
type_named_is n ss at None h = refuses _
type_named_is n ss at (Some (scope.object k t is_const)) h = refuses _
type_named_is n ss at (Some (scope.local x t is_const)) h = refuses _
type_named_is n ss at (Some (scope.function body params result)) h = refuses _
type_named_is n ss at (Some (scope.task k)) h = refuses _
type_named_is n ss at (Some (scope.constant t x)) h = refuses _
type_named_is n ss at (Some (scope.type t is_const)) h = says _ h

pub may_of_known : (n : ℕ) (ss : List Struct) (t : Ty) → IsKnownType ss t → MayBase n ss t
may_of_known n ss t h = (inl h.0, may_of_points n ss t h.1)

pub struct_tagged_is : (n : ℕ) (ss : List Struct) (at : Pos) (o : Option Kind) → MaybeIs (NamesStruct n) o → Says (struct_tagged at o) (λ b. MayBase n ss b.ty)
struct_tagged_is n ss at None h = refuses _
struct_tagged_is n ss at (Some (a_struct k)) h = says _ (inr h, tt)
struct_tagged_is n ss at (Some an_enum) h = refuses _

-- where no struct is open
pub struct_settled : (ss : List Struct) (at : Pos) (o : Option Kind) → MaybeIs (NamesStruct (length ss)) o → Says (struct_tagged at o) (λ b. IsKnownType ss b.ty)
struct_settled ss at None h = refuses _
struct_settled ss at (Some (a_struct k)) h = let x = get_there ss k h in says _ (record { layout = x.0.layout; is = layout_at ss k x.0 x.1 }, tt)
struct_settled ss at (Some an_enum) h = refuses _

pub int_known : (ss : List Struct) (t : IntType) → IsKnownType ss (int t)
int_known ss t = (record { layout = int_layout t; is = refl }, tt)

pub enum_tagged_is : (ss : List Struct) (at : Pos) (o : Option Kind) → Says (enum_tagged at o) (λ b. IsKnownType ss b.ty)
enum_tagged_is ss at None = refuses _
enum_tagged_is ss at (Some (a_struct k)) = refuses _
enum_tagged_is ss at (Some an_enum) = says _ (int_known ss I16)

-- ---- steps, in a program

-- behind a rule that looks at no state
pub rule_then : {A D : Type 0} {P : A → Type 0} {Q : D → State → Type 0} (r : Rule A) (st : State) (next : A → State → Rule (D × State)) → Says r P
    → ((x : A) → P x → Gets (next x st) Q) → Gets (after (by r st) next) Q
rule_then (Ok x) st next h f = f x (h.by x refl)
rule_then (Err e) st next h f = gets_stopped e

module _ (p : Program) (types : List Ty) (env : Env) (consts : List (Option Constant)) where
  abbrev pub H : Expr → Ty → Type 0
  H = Has p types

  abbrev pub V : Typed → Type 0
  V v = IsValueOf p types v.expr v.ty

  abbrev pub W : Found → Type 0
  W = IsWellFound p types

  abbrev pub B : State → Type 0
  B = leaves.B p types env consts

  -- of expressions, constants, types and their bases
  abbrev pub DF : {A : Type 0} → ℕ → (A → Type 0) → State → A → State → Type 0
  DF a T st = does.DoesWith p types env consts (λ t. does.Placed p types env consts st t) a Any Free T st

  abbrev pub DK : ℕ → State → Constant → State → Type 0
  DK a st = Does p types env consts a (λ n t c. IsConst c) Free Untyped st

  abbrev pub DT : ℕ → State → Ty → State → Type 0
  DT a st = Does p types env consts a (λ n t u. MayType n t.structs u) (λ t u. IsKnownType t.structs u) Untyped st

  abbrev pub DB : ℕ → State → Based → State → Type 0
  DB a st = Does p types env consts a (λ n t b. MayBase n t.structs b.ty) (λ t b. IsKnownType t.structs b.ty) Untyped st

  abbrev pub Placed : State → State → Type 0
  Placed st t = does.Placed p types env consts st t

  pub plain_kept : {A : Type 0} {R R' : ℕ → State → A → Type 0} {C C' : State → A → Type 0} (a : ℕ) (st : State) (r : Rule (A × State)) → Gets r (Does p types env consts a R C Untyped st)
      → ((n : ℕ) (t : State) (x : A) → IsKnown n t → IsPrefix st.structs t.structs → R n t x → R' n t x)
      → ((t : State) (x : A) → IsClosed t → IsPrefix st.structs t.structs → C t x → C' t x) → Gets r (Does p types env consts a R' C' Untyped st)
  plain_kept a st r h f g = does.does_kept p types env consts (λ t. ⊤) (λ t. ⊤) a st r h f g (λ x z. z) (λ t z. z)

  pub found_kept : {A : Type 0} {T T' : A → Type 0} (a : ℕ) (st : State) (r : Rule (A × State)) → Gets r (DF a T st) → ((x : A) → T x → T' x) → Gets r (DF a T' st)
  found_kept a st r h f = does.does_kept p types env consts (λ t. Placed st t) (λ t. Placed st t) a st r h (λ n t x k l z. z) (λ t x c l z. z) f (λ t g. g)

  -- the second part needs for its new locals what the first finds
  pub placed_then : {A D : Type 0} {T : A → Type 0} {T' : D → Type 0} (P : Type 0) (P2 : A → Type 0) (a b total : ℕ) (st : State) (r : Rule (A × State)) (next : A → State → Rule (D × State)) → total ≡ a + b
      → Gets r (DF a T st) → ((x : A) (t : State) → Gets (next x t) (does.DoesWith p types env consts (λ u. Placed t u × P2 x) b Any Free (λ y. T x → T' y) t)) → ((x : A) → T x → P → P2 x)
      → Gets (after r next) (does.DoesWith p types env consts (λ u. Placed st u × P) total Any Free T' st)
  placed_then P P2 a b total st r next sum h f second = does.does_then p types env consts (λ u. Placed st u × P) (λ u. Placed st u) (λ x t u. Placed t u × P2 x) a b total st r next sum h
      (λ x t. does.does_kept p types env consts (λ u. Placed t u × P2 x) (λ u. Placed t u × P2 x) b t (next x t) (f x t) (λ n u y k l z w. tt) (λ u y c l z w. tt) (λ y g. g) (λ u g. g))
      (λ x t u q grows g. let before = leaves.belonged p types env consts t u grows g.0.1 in ((g.0.0, before), ((q.closed g.0.0, g.0.1), second x (q.typed g.0.0 before) g.1)))

  pub found_then : {A D : Type 0} {T : A → Type 0} {T' : D → Type 0} (a b total : ℕ) (st : State) (r : Rule (A × State)) (next : A → State → Rule (D × State)) → total ≡ a + b
      → Gets r (DF a T st) → ((x : A) (t : State) → Gets (next x t) (DF b (λ y. T x → T' y) t)) → Gets (after r next) (DF total T' st)
  found_then a b total st r next sum h f = does.does_then p types env consts (λ u. Placed st u) (λ u. Placed st u) (λ x t u. Placed t u) a b total st r next sum h
      (λ x t. does.does_kept p types env consts (λ u. Placed t u) (λ u. Placed t u) b t (next x t) (f x t) (λ n u y k l z w. tt) (λ u y c l z w. tt) (λ y g. g) (λ u g. g))
      (λ x t u q grows g. ((g.0, leaves.belonged p types env consts t u grows g.1), (q.closed g.0, g.1)))

  pub plain_then : {A D : Type 0} {R : ℕ → State → A → Type 0} {R' : ℕ → State → D → Type 0} (a b total : ℕ) (st : State) (r : Rule (A × State)) (next : A → State → Rule (D × State)) → total ≡ a + b
      → Gets r (Does p types env consts a R Free Untyped st) → ((x : A) (t : State) → Gets (next x t) (Does p types env consts b (λ n u y. R n t x → R' n u y) Free Untyped t))
      → Gets (after r next) (Does p types env consts total R' Free Untyped st)
  plain_then a b total st r next sum h f = does.does_then p types env consts (λ t. ⊤) (λ t. ⊤) (λ x t u. ⊤) a b total st r next sum h
      (λ x t. does.does_kept p types env consts (λ t. ⊤) (λ t. ⊤) b t (next x t) (f x t) (λ n u y k l z. z) (λ u y c l z w. tt) (λ y g w. tt) (λ u g. g))
      (λ x t u q grows g. (tt, tt))

  pub type_then : {A D : Type 0} {R : ℕ → State → A → Type 0} {C : State → A → Type 0} {R' : ℕ → State → D → Type 0} {C' : State → D → Type 0} (a b total : ℕ) (st : State) (r : Rule (A × State)) (next : A → State → Rule (D × State)) → total ≡ a + b
      → Gets r (Does p types env consts a R C Untyped st)
      → ((x : A) (t : State) → Gets (next x t) (Does p types env consts b (λ n u y. R n t x → R' n u y) (λ u y. C t x → C' u y) Untyped t))
      → Gets (after r next) (Does p types env consts total R' C' Untyped st)
  type_then a b total st r next sum h f = does.does_then p types env consts (λ t. ⊤) (λ t. ⊤) (λ x t u. ⊤) a b total st r next sum h
      (λ x t. does.does_kept p types env consts (λ t. ⊤) (λ t. ⊤) b t (next x t) (f x t) (λ n u y k l z. z) (λ u y c l z. z) (λ y g w. tt) (λ u g. g))
      (λ x t u q grows g. (tt, tt))

  pub placed_leaf : {A : Type 0} {T : A → Type 0} (P : Type 0) (st : State) (r : Rule (A × State)) → Gets r (leaves.LeafWith p types env consts P st T) → Gets r (does.DoesWith p types env consts (λ u. Placed st u × P) 0 Any Free T st)
  placed_leaf P st r h = does.does_leaf p types env consts P st r h

  -- where nothing more is needed
  pub placed_alone : {A : Type 0} {T : A → Type 0} (a : ℕ) (st : State) (r : Rule (A × State)) → Gets r (does.DoesWith p types env consts (λ u. Placed st u × ⊤) a Any Free T st) → Gets r (DF a T st)
  placed_alone a st r h = does.does_kept p types env consts (λ u. Placed st u × ⊤) (λ u. Placed st u) a st r h (λ n t x k l z. z) (λ t x c l z. z) (λ x z. z) (λ t g. (g, tt))

  pub found_leaf : {A : Type 0} {T : A → Type 0} (st : State) (r : Rule (A × State)) → Gets r (Leaf p types env consts st T) → Gets r (DF 0 T st)
  found_leaf st r h = placed_alone 0 st r (placed_leaf ⊤ st r h)

  pub found_give : {A : Type 0} {T : A → Type 0} (x : A) (st : State) → (IsClosed st → B st → T x) → Gets (Ok (x, st)) (DF 0 T st)
  found_give x st f = does.does_give p types env consts (λ t. Placed st t) x st (λ n k. tt) (λ c. tt) f

  pub found_by : {A : Type 0} {T : A → Type 0} (r : Rule A) (st : State) → (IsClosed st → B st → Says r T) → Gets (by r st) (DF 0 T st)
  found_by r st f = does.does_by p types env consts (λ t. Placed st t) r st (λ n k. says_any r) (λ c. says_any r) f

  pub plain_give : {A : Type 0} {R : ℕ → State → A → Type 0} (x : A) (st : State) → ((n : ℕ) → IsKnown n st → R n st x) → Gets (Ok (x, st)) (Does p types env consts 0 R Free Untyped st)
  plain_give x st f = does.does_give p types env consts (λ t. ⊤) x st f (λ c. tt) (λ c b. tt)

  pub plain_by : {A : Type 0} {R : ℕ → State → A → Type 0} (r : Rule A) (st : State) → ((n : ℕ) → IsKnown n st → Says r (R n st)) → Gets (by r st) (Does p types env consts 0 R Free Untyped st)
  plain_by r st f = does.does_by p types env consts (λ t. ⊤) r st f (λ c. says_any r) (λ c b. says_any r)

  pub type_give : {A : Type 0} {R : ℕ → State → A → Type 0} {C : State → A → Type 0} (x : A) (st : State) → ((n : ℕ) → IsKnown n st → R n st x) → (IsClosed st → C st x) → Gets (Ok (x, st)) (Does p types env consts 0 R C Untyped st)
  type_give x st f g = does.does_give p types env consts (λ t. ⊤) x st f g (λ c b. tt)

  pub type_by : {A : Type 0} {R : ℕ → State → A → Type 0} {C : State → A → Type 0} (r : Rule A) (st : State) → ((n : ℕ) → IsKnown n st → Says r (R n st)) → (IsClosed st → Says r (C st))
      → Gets (by r st) (Does p types env consts 0 R C Untyped st)
  type_by r st f g = does.does_by p types env consts (λ t. ⊤) r st f g (λ c b. says_any r)

  -- what is not looked at
  pub constant_found : (a : ℕ) (st : State) (r : Rule (Constant × State)) → Gets r (DK a st) → Gets r (DF a IsConst st)
  constant_found a st r h = does.does_kept p types env consts (λ t. ⊤) (λ t. Placed st t) a st r (does.does_everywhere p types env consts a st r h) (λ n t x k l z. tt) (λ t x c l z. tt) (λ x z. z) (λ t g. tt)

  pub type_found_in : (a : ℕ) (st : State) (r : Rule (Ty × State)) → Gets r (DT a st) → Gets r (DF a (λ (u : Ty). IsType p.structs u) st)
  type_found_in a st r h = gets_kept r h (λ u t q. record {
    grows = q.grows;
    count = q.count;
    known = q.known;
    result = λ n le k. tt;
    closed = q.closed;
    settled = λ c. tt;
    typed = λ c b. sizes.known_type t.structs (q.closed c).known.structs p.structs b.structs u (q.settled c);
    locals = λ g. q.locals tt;
  })

  -- ---- parts as values

  pub value_does : (a : ℕ) (e : s.Expr) (work : Elab Found) (st : State) → Gets (work st) (DF a W st) → Gets (valued e work st) (DF a V st)
  unfolding valued
  value_does a e work st h = found_then a 0 a st (work st) _ (omega arith) h (λ f t. found_leaf t _ (places.as_value_leaf p types env consts (pos_of e) f t))

  pub argument_does : (a : ℕ) (t : Ty) (e : s.Expr) (work : Elab Found) (st : State) → Gets (work st) (DF a W st)
      → Gets (argument t e work st) (DF a (λ x. PointsWell p.structs t → H x t) st)
  unfolding argument
  argument_does a t e work st h = found_then a 0 a st _ _ (omega arith) (value_does a e work st h)
      (λ v u. found_by _ u (λ c b. says_under _ (λ hv. says_under _ (λ well. says_kept _ (values.converted_ok p types (pos_of e) t v well hv) (λ x k. k.1)))))

  pub as_found_does : (a : ℕ) (work : Elab Constant) (st : State) → Gets (work st) (DK a st) → Gets (as_found work st) (DF a W st)
  as_found_does a work st h = found_then a 0 a st (work st) _ (omega arith) (constant_found a st (work st) h) (λ c t. found_give (const_of c) t (λ k b z. (refl, z)))

  -- ---- `sizeof`

  unevaluated_does : (a : ℕ) (work : Elab Found) (st : State) → Gets (work (alone st)) (DF a W (alone st)) → Gets (unevaluated work st) (Does p types env consts a Any Free Untyped st)
  unevaluated_does a work st h = back (work (alone st)) h
    where
      back : (r : Rule (Found × State)) → Gets r (DF a W (alone st)) → Gets (back_in st r) (Does p types env consts a Any Free Untyped st)
      back (Err e) k = gets_stopped e
      back (Ok x) k = let q = k.by x.0 x.1 refl in gets x.0 (with_aside (aside st) x.1) (record {
        grows = record { names = q.grows.names; tags = q.grows.tags; structs = q.grows.structs; locals = whole_prefix st.locals; taken = whole_prefix st.taken; asked = whole_prefix st.asked };
        count = q.count;
        known = λ n le z. known_same n x.1 (with_aside (aside st) x.1) refl refl refl (q.known n le (known_same n st (alone st) refl refl refl z));
        result = λ n le z. tt;
        closed = λ c. closed_same x.1 (with_aside (aside st) x.1) refl refl refl (q.closed (closed_same st (alone st) refl refl refl c));
        settled = λ c. tt;
        typed = λ c b. tt;
        locals = λ g qs. qs;
      })

  pub measured_does : (a : ℕ) (at : Pos) (work : Elab Found) (st : State) → Gets (work (alone st)) (DF a W (alone st)) → Gets (measured at work st) (DK a st)
  unfolding measured
  measured_does a at work st h = plain_then a 0 a st (unevaluated work st) _ (omega arith) (unevaluated_does a work st h)
      (λ f t. plain_by _ t (λ n k. says_under _ (λ z. sized_is t.structs at (type_found f) k.structs)))

  pub size_of_does : (a : ℕ) (at : Pos) (work : Elab Ty) (st : State) → Gets (work st) (DT a st) → Gets (size_of at work st) (DK a st)
  unfolding size_of
  size_of_does a at work st h = plain_then a 0 a st (work st) _ (omega arith)
      (plain_kept a st (work st) h (λ n t x k l z. z) (λ t x c l z. tt))
      (λ u t. plain_by _ t (λ n k. says_under _ (λ z. sized_is t.structs at u k.structs)))
