-- The types and names of variables of modules, cut where the code is cut.
use Rattle.std.proofs.Common.{◌≡◌, ℕ, Bool, List, Option, Ok, Err, ◌∙◌, refl}
use Rattle.nesc_core.specs.Plain.{Ty}
use Rattle.nesc_types.specs.Rule.{Rule}
use Rattle.nesc_types.specs.Values.{Constant}
use Rattle.body_meaning.specs.Tree.{Variable}
use Rattle.nesc_tree.specs.Plain as s
use Rattle.nm_base.specs.declared.pos.Pos.{Pos}
use Rattle.elab_exprs.proofs.Steps.{after-after, after-same}
use Rattle.elab_locals.specs.Parts.{shaped}
use Rattle.elab_meaning.specs.Convert.{size}
use Rattle.elab_meaning.specs.Elab.{State, after, by, give, add_name}
use Rattle.elab_meaning.specs.Operators.{Based, new_name}
use Rattle.elab_meaning.specs.Scope.{Env, object}
use Rattle.elab_meaning.specs.Wired.{dimensioned, is_const_at, lengths, starred}
use Rattle.program_meaning.specs.Variables.{declared_variable}
use Rattle.elab_walk.specs.Objects as parts

object_then : (name : List ℕ) (t : Ty) (k : ℕ) (is_const : Bool) (r1 : Rule ℕ) (r2 : Rule (Unit {0})) (st : State)
    → after (by r1 st) (λ n. λ s1. after (by r2 s1) (λ u. λ s2. after (add_name name (object k t is_const) s2) (λ w. give t)))
    ≡ after (after (by r1 st) (λ n. λ s1. after (by r2 s1) (λ u. add_name name (object k t is_const)))) (λ w. give t)
object_then name t k is_const (Ok n) (Ok u) st = refl
object_then name t k is_const (Ok n) (Err e) st = refl
object_then name t k is_const (Err e) r2 st = refl

module _ (env : Env) (given : List (Option Constant)) where
  shaped_then : {B : Type 0} (at : Pos) (b : Based) (stars : ℕ) (dims : s.Exprs) (g : Ty → State → Rule (B × State)) (st : State)
      → after (starred at stars b st) (λ p. λ s1. after (lengths env given dims s1) (λ ns. λ s2. after (dimensioned at p ns s2) g)) ≡ after (shaped env given at b stars dims st) g
  shaped_then {B} at b stars dims g st =
      let sized : Ty → List ℕ → State → Rule (Ty × State) = λ p. λ ns. dimensioned at p ns in
      let long : Ty → State → Rule (B × State) = λ p. λ s1. after (lengths env given dims s1) (λ ns. λ s2. after (sized p ns s2) g) in
      let short : Ty → State → Rule (Ty × State) = λ p. λ s1. after (lengths env given dims s1) (sized p) in
      after-same (starred at stars b st) long (λ p. λ s1. after (short p s1) g) (λ p. λ s1. after-after (lengths env given dims s1) (sized p) g)
      ∙ after-after (starred at stars b st) short g

  -- a variable, behind its type
  abbrev with_type : Based → Bool → Variable → ℕ → Ty → State → Rule (Ty × State)
  with_type b said v k t = λ x. after (by (size x.structs v.at t) x) (λ n. λ s1. after (by (new_name v.at x.first_name x.names v.name) s1) (λ u. λ s2. after (add_name v.name (object k t (is_const_at v.stars said b.is_const)) s2) (λ w. give t)))

  pub declared_is : (b : Based) (said : Bool) (v : Variable) (k : ℕ) (st : State) → declared_variable env given b said v k st ≡ parts.declared env given b said v k st
  declared_is b said v k st =
      let next : Ty → State → Rule (Ty × State) = λ t. λ s1. after (parts.new_object v.at v.name t k (is_const_at v.stars said b.is_const) s1) (λ w. give t) in
      shaped_then v.at b v.stars v.dims (with_type b said v k) st
      ∙ after-same (shaped env given v.at b v.stars v.dims st) (with_type b said v k) next
      (λ t. λ s1. object_then v.name t k (is_const_at v.stars said b.is_const) (size s1.structs v.at t) (new_name v.at s1.first_name s1.names v.name) s1)
