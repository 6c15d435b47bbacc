-- Calls and names: what their rules find in a program to which the state belongs.
use Rattle.std.proofs.Common.{ℕ, List, [], ◌∷◌, ◌++◌, Option, Some, None, sym, subst, refl}
use Rattle.std.specs.Prelude.{slice_index_or}
use Rattle.nm_base.specs.declared.pos.Pos.{Pos}
use Rattle.nm_base.specs.declared.int_type.IntType.TheVariants.{U16}
use Rattle.nesc_core.specs.Plain.{Ty, Expr, Exprs, Program, Body, void, int, pointer, array, struct, no_exprs, more_exprs}
use Rattle.nesc_core.specs.Plain as core
use Rattle.nesc_core.specs.Typing.{AllHave, Has, IsCallable, IsPort, IsResult, IsType, PointsWell}
use Rattle.nesc_tree.specs.Plain as s
use Rattle.nesc_types.specs.Values.{Constant}
use Rattle.elab_meaning.specs.Scope as scope
use Rattle.elab_meaning.specs.Scope.{Entry, Env, Item, Meaning, Struct, lookup}
use Rattle.elab_meaning.specs.Elab.{State}
use Rattle.elab_meaning.specs.Convert.{Typed, Found}
use Rattle.elab_meaning.specs.Operators.{Signature, callee, function_named, literal, named, posted, written}
use Rattle.elab_meaning.specs.Wired.{join_exprs, value_given}
use Rattle.elab_laws.specs.Known.{Each, IsClosed, IsKnownMeaning}
use Rattle.elab_laws.specs.Formed.{IsBodyOf, IsValue, IsValueOf, IsWellFound, MeaningBelongs, parameter_type, value_type}
use Rattle.elab_laws.proofs.Numbers.{MaybeConst}
use Rattle.elab_laws.proofs.Sizes as sizes
use Rattle.elab_laws.proofs.Steps.{Says, says, says_then, refuses}
use Rattle.elab_laws.proofs.Values as values
use Rattle.elab_laws.proofs.Leaves as leaves
use Rattle.elab_laws.proofs.Types.{MaybeIs, lookup_is}
use Rattle.elab_laws.proofs.Stored as stored

pub each_second : {A : Type 0} (P : A → Type 0) (xs ys : List A) → Each P (xs ++ ys) → Each P ys
each_second P [] ys h = h
each_second P (x ∷ xs) ys h = each_second P xs ys h.1

module _ (p : Program) (types : List Ty) (env : Env) (consts : List (Option Constant)) where
  abbrev W' : Found → Type 0
  W' = IsWellFound p types

  -- a name's meaning, in the state and in the program
  abbrev pub IsMeant : State → Meaning → Type 0
  IsMeant st m = IsKnownMeaning st.structs m × MeaningBelongs p types env consts m

  pub meant_here : (st : State) → IsClosed st → leaves.B p types env consts st → (name : List ℕ) → MaybeIs (IsMeant st) (lookup st.names name)
  meant_here st c b name = lookup_is (IsMeant st) st.names name (both st.names c.known.names b.names)
    where
      both : (names : List Entry) → Each (λ (e : Entry). IsKnownMeaning st.structs e.meaning) names → Each (λ (e : Entry). MeaningBelongs p types env consts e.meaning) names → Each (λ (e : Entry). IsMeant st e.meaning) names
      both [] h k = tt
      both (e ∷ es) h k = ((h.0, k.0), both es h.1 k.1)

  pub named_ok : (at : Pos) (st : State) → IsClosed st → leaves.B p types env consts st → (o : Option Meaning) → MaybeIs (IsMeant st) o → Says (named at o) W'
  named_ok at st c b None h = refuses _
  named_ok at st c b (Some (scope.object k t is_const)) h =
      says _ (record { formed = h.1.0; ty = h.1.1; known = sizes.known_type st.structs c.known.structs p.structs b.structs t h.0 }, tt)
  named_ok at st c b (Some (scope.local x t is_const)) h =
      says _ (record { formed = h.1.0; ty = h.1.1; known = sizes.known_type st.structs c.known.structs p.structs b.structs t h.0 }, tt)
  named_ok at st c b (Some (scope.function body params result)) h = refuses _
  named_ok at st c b (Some (scope.task k)) h = refuses _
  named_ok at st c b (Some (scope.constant t x)) h = says _ (refl, h.0)
  named_ok at st c b (Some (scope.type t is_const)) h = refuses _

  pub literal_ok : (at : Pos) (o : Option Constant) → MaybeConst o → Says (literal at o) W'
  literal_ok at None h = refuses _
  literal_ok at (Some c) h = says _ (refl, h)

  pub posted_ok : (at : Pos) (st : State) (o : Option Meaning) → MaybeIs (IsMeant st) o → Says (posted at o) W'
  posted_ok at st None h = refuses _
  posted_ok at st (Some (scope.object k t is_const)) h = refuses _
  posted_ok at st (Some (scope.local x t is_const)) h = refuses _
  posted_ok at st (Some (scope.function body params result)) h = refuses _
  posted_ok at st (Some (scope.task k)) h = says _ (refl, h.1)
  posted_ok at st (Some (scope.constant t x)) h = refuses _
  posted_ok at st (Some (scope.type t is_const)) h = refuses _

  -- ---- functions

  abbrev pub IsSignature : Signature → Type 0
  IsSignature g = IsBodyOf p g.body g.params g.result

  function_named_is : (at : Pos) (st : State) (o : Option Meaning) → MaybeIs (IsMeant st) o → Says (function_named at o) IsSignature
  function_named_is at st None h = refuses _
  function_named_is at st (Some (scope.object k t is_const)) h = refuses _
  function_named_is at st (Some (scope.local x t is_const)) h = refuses _
  function_named_is at st (Some (scope.function body params result)) h = says _ h.1
  function_named_is at st (Some (scope.task k)) h = refuses _
  function_named_is at st (Some (scope.constant t x)) h = refuses _
  function_named_is at st (Some (scope.type t is_const)) h = refuses _

  pub callee_is : (st : State) → IsClosed st → leaves.B p types env consts st → (f : s.Expr) → Says (callee st.names f) IsSignature
  callee_is st c b (s.name n at) = function_named_is at st (lookup st.names n) (meant_here st c b n)
  callee_is st c b (s.number n at) = refuses _
  callee_is st c b (s.char n at) = refuses _
  callee_is st c b (s.null at) = refuses _
  callee_is st c b (s.unique n at) = refuses _
  callee_is st c b (s.unique_count n at) = refuses _
  callee_is st c b (s.unary o e at) = refuses _
  callee_is st c b (s.postfix o e at) = refuses _
  callee_is st c b (s.binary o x y at) = refuses _
  callee_is st c b (s.assign o x y at) = refuses _
  callee_is st c b (s.choice x y z at) = refuses _
  callee_is st c b (s.comma x y at) = refuses _
  callee_is st c b (s.cast t e at) = refuses _
  callee_is st c b (s.size_of_expr e at) = refuses _
  callee_is st c b (s.size_of_type t at) = refuses _
  callee_is st c b (s.index x y at) = refuses _
  callee_is st c b (s.member e n at) = refuses _
  callee_is st c b (s.arrow e n at) = refuses _
  callee_is st c b (s.call_fn g arguments at) = refuses _
  callee_is st c b (s.call_item signal owner item param arguments at) = refuses _
  callee_is st c b (s.port_read port at) = refuses _
  callee_is st c b (s.port_write port e at) = refuses _
  callee_is st c b (s.post n at) = refuses _

  result_value : (e : Expr) (t : Ty) → IsResult t → PointsWell p.structs t → Has p types e t → IsValueOf p types e t
  result_value e void r well h = h
  result_value e (int t) r well h = h
  result_value e (pointer t) r well h = values.real_value p types e t well h
  result_value e (array t n) r well h = absurd r
  result_value e (struct k) r well h = absurd r

  pub call_ok : (f : ℕ) (arguments : Exprs) (at : Pos) (params : List Ty) (result : Ty) → IsBodyOf p f params result → AllHave p types arguments params
      → IsValueOf p types (core.call f arguments at) result
  call_ok f arguments at params result h k = result_value (core.call f arguments at) result h.result_kind h.result_type.points
      (subst (λ o. IsCallable o (AllHave p types arguments) result) (sym h.is) (sym h.given, subst (AllHave p types arguments) (sym h.passed) k))

  -- ---- items

  pub joined_have : (es fs : Exprs) (ts us : List Ty) → AllHave p types es ts → AllHave p types fs us → AllHave p types (join_exprs es fs) (ts ++ us)
  joined_have no_exprs fs [] us h k = k
  joined_have no_exprs fs (t ∷ ts) us h k = absurd h
  joined_have (more_exprs e es) fs [] us h k = absurd h
  joined_have (more_exprs e es) fs (t ∷ ts) us h k = (h.0, joined_have es fs ts us h.1 k)

  given_have : (o : Option Constant) (body : ℕ) → IsValue o → AllHave p types (value_given (Some body) o) (value_type o)
  given_have None body h = tt
  given_have (Some x) body h = ((refl, h), tt)

  pub item_ok : (k : ℕ) (i : Item) (f : ℕ) (ps es : Exprs) (at : Pos) (o : Option ℕ) → IsBodyOf p f (stored.taken_by p types env consts k i o) i.result → stored.is_given p types env consts k o
      → AllHave p types ps (parameter_type i.parameter) → AllHave p types es i.params
      → IsValueOf p types (core.call f (join_exprs (value_given o (slice_index_or consts k None)) (join_exprs ps es)) at) i.result
  item_ok k i f ps es at (Some body) h g hp he = call_ok f _ at _ i.result h
      (joined_have (value_given (Some body) (slice_index_or consts k None)) (join_exprs ps es) (value_type (slice_index_or consts k None)) (parameter_type i.parameter ++ i.params)
      (given_have (slice_index_or consts k None) body g) (joined_have ps es (parameter_type i.parameter) i.params hp he))
  item_ok k i f ps es at None h g hp he = call_ok f _ at _ i.result h (joined_have ps es (parameter_type i.parameter) i.params hp he)

  pub params_of : (k : ℕ) (i : Item) (o : Option ℕ) → Each (λ (t : Ty). IsType p.structs t) (stored.taken_by p types env consts k i o) → Each (λ (t : Ty). IsType p.structs t) i.params
  params_of k i (Some body) h = each_second (λ (t : Ty). IsType p.structs t) (parameter_type i.parameter) i.params (each_second (λ (t : Ty). IsType p.structs t) (value_type (slice_index_or consts k None)) (parameter_type i.parameter ++ i.params) h)
  params_of k i None h = each_second (λ (t : Ty). IsType p.structs t) (parameter_type i.parameter) i.params h

  pub written_ok : (n : ℕ) → IsPort n → (at : Pos) (v : Typed) → IsValueOf p types v.expr v.ty → Says (written n at v) W'
  written_ok n port at v h = says_then _ _ (values.converted_ok p types at (int U16) v tt h) (λ x k. says _ (refl, port, k.1))
