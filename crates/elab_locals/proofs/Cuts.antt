-- Declarations cut where the code is cut.
use Rattle.std.proofs.Common.{◌≡◌, ℕ, Bool, List, [], Option, Ok, Err, ◌∙◌, refl}
use Rattle.nm_base.specs.declared.pos.Pos.{Pos}
use Rattle.nesc_core.specs.Plain as core
use Rattle.nesc_core.specs.Plain.{Ty}
use Rattle.nesc_tree.specs.Plain as s
use Rattle.nesc_types.specs.Rule.{Rule}
use Rattle.nesc_types.specs.Values.{Constant}
use Rattle.elab_meaning.specs.Convert.{size}
use Rattle.elab_meaning.specs.Elab.{State, after, by, give, fresh, add_name}
use Rattle.elab_meaning.specs.Operators.{Based, new_name}
use Rattle.elab_meaning.specs.Scope.{Env, local, type}
use Rattle.elab_meaning.specs.Wired.{starred, dimensioned, is_const_at, base_of, lengths}
use Rattle.elab_exprs.proofs.Steps.{after-after, after-same}
use Rattle.body_meaning.specs.Tree.{Variable}
use Rattle.body_meaning.specs.Stmts.{variable, type_named}
use Rattle.elab_locals.specs.Parts.{shaped, new_local, new_type, set, one_variable, type_name}

module _ (env : Env) (given : List (Option Constant)) where
  shaped_then : {B : Type 0} (at : Pos) (b : Based) (stars : ℕ) (dims : s.Exprs) (g : Ty → State → Rule (B × State)) (st : State)
      → after (starred at stars b st) (λ p. λ s1. after (lengths env given dims s1) (λ ns. λ s2. after (dimensioned at p ns s2) g)) ≡ after (shaped env given at b stars dims st) g
  shaped_then {B} at b stars dims g st =
      let sized : Ty → List ℕ → State → Rule (Ty × State) = λ p. λ ns. dimensioned at p ns in
      let long : Ty → State → Rule (B × State) = λ p. λ s1. after (lengths env given dims s1) (λ ns. λ s2. after (sized p ns s2) g) in
      let short : Ty → State → Rule (Ty × State) = λ p. λ s1. after (lengths env given dims s1) (sized p) in
      after-same (starred at stars b st) long (λ p. λ s1. after (short p s1) g) (λ p. λ s1. after-after (lengths env given dims s1) (sized p) g)
      ∙ after-after (starred at stars b st) short g

  -- a local, behind its type
  abbrev pub with_type : Based → Bool → Variable → Ty → State → Rule (List core.Stmt × State)
  with_type b said v t = λ x. after (by (size x.structs v.at t) x) (λ n. λ s1. after (by (new_name v.at x.first_name x.names v.name) s1) (λ u. λ s2. after (fresh t s2) (λ k. λ s3. after (add_name v.name (local k t (is_const_at v.stars said b.is_const)) s3) (λ w. set env given v.at k t v.init))))

  local_then : {B : Type 0} (name : List ℕ) (t : Ty) (is_const : Bool) (r1 : Rule ℕ) (r2 : Rule (Unit {0})) (g : ℕ → State → Rule (B × State)) (st : State)
      → after (by r1 st) (λ n. λ s1. after (by r2 s1) (λ u. λ s2. after (fresh t s2) (λ k. λ s3. after (add_name name (local k t is_const) s3) (λ w. g k))))
      ≡ after (after (by r1 st) (λ n. λ s1. after (by r2 s1) (λ u. λ s2. after (fresh t s2) (λ k. λ s3. after (add_name name (local k t is_const) s3) (λ w. give k))))) g
  local_then name t is_const (Ok n) (Ok u) g st = refl
  local_then name t is_const (Ok n) (Err e) g st = refl
  local_then name t is_const (Err e) r2 g st = refl

  pub variable_is : (b : Based) (said : Bool) (v : Variable) (st : State) → variable env given b said v st ≡ one_variable env given b said v st
  variable_is b said v st =
      let next : Ty → State → Rule (List core.Stmt × State) = λ t. λ s1. after (new_local v.at v.name t (is_const_at v.stars said b.is_const) s1) (λ k. set env given v.at k t v.init) in
      shaped_then v.at b v.stars v.dims (with_type b said v) st
      ∙ after-same (shaped env given v.at b v.stars v.dims st) (with_type b said v) next
      (λ t. λ s1. local_then v.name t (is_const_at v.stars said b.is_const) (size s1.structs v.at t) (new_name v.at s1.first_name s1.names v.name) (λ k. set env given v.at k t v.init) s1)

  -- the name of a type, behind it
  abbrev pub with_name : Pos → List ℕ → Bool → Ty → State → Rule (List core.Stmt × State)
  with_name at name is_const t = λ x. after (by (new_name at x.first_name x.names name) x) (λ u. λ s1. after (add_name name (type t is_const) s1) (λ w. give []))

  type_then : {B : Type 0} (name : List ℕ) (t : Ty) (is_const : Bool) (r : Rule (Unit {0})) (g : Unit {0} → State → Rule (B × State)) (st : State)
      → after (by r st) (λ u. λ s1. after (add_name name (type t is_const) s1) g) ≡ after (after (by r st) (λ u. add_name name (type t is_const))) g
  type_then name t is_const (Ok u) g st = refl
  type_then name t is_const (Err e) g st = refl

  pub type_named_is : (at : Pos) (name : List ℕ) (t : s.TypeSpec) (st : State) → type_named env given at name t st ≡ type_name env given at name t st
  type_named_is at name (s.type_spec base stars dims is_const) st =
      let end : Unit {0} → State → Rule (List core.Stmt × State) = λ w. give [] in
      let long : Based → State → Rule (List core.Stmt × State) = λ b. λ s1. after (starred at stars b s1) (λ p. λ s2. after (lengths env given dims s2) (λ ns. λ s3. after (dimensioned at p ns s3) (with_name at name (is_const_at stars is_const b.is_const)))) in
      let next : Based → Ty → State → Rule (List core.Stmt × State) = λ b. λ t. λ s2. after (new_type at name t (is_const_at stars is_const b.is_const) s2) end in
      after-same (base_of env given at base st) long (λ b. λ s1. after (shaped env given at b stars dims s1) (next b))
      (λ b. λ s1. shaped_then at b stars dims (with_name at name (is_const_at stars is_const b.is_const)) s1
      ∙ after-same (shaped env given at b stars dims s1) (with_name at name (is_const_at stars is_const b.is_const)) (next b)
      (λ t. λ s2. type_then name t (is_const_at stars is_const b.is_const) (new_name at s2.first_name s2.names name) end s2))
