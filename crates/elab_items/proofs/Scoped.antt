-- Items of interfaces leave the names and tags that were in force where they are.
use Rattle.std.proofs.Common.{◌≡◌, ℕ, false, List, [], ◌∷◌, ◌++◌, length, take, drop, Option, Some, None, Ok, Err, subst, refl, sym, ap, ◌∙◌}
use Rattle.nm_base.specs.declared.fault.Fault.{Fault}
use Rattle.nm_base.specs.declared.int_type.IntType.{IntType}
use Rattle.nm_base.specs.declared.pos.Pos.{Pos}
use Rattle.nesc_core.specs.Plain.{Ty, int}
use Rattle.nesc_tree.specs.Plain as s
use Rattle.nesc_types.specs.Rule.{Rule}
use Rattle.nesc_types.specs.Values.{Constant}
use Rattle.elab_meaning.specs.Scope.{Entry, Env, Tag}
use Rattle.elab_meaning.specs.Elab.{State, after, by}
use Rattle.elab_kept.specs.Grows.{Grows, IsPrefix}
use Rattle.elab_kept.proofs.Steps.{Kept, grows_on, kept_by, kept_give, kept_on, kept_rule, kept_same, kept_then, longer_prefix, still, whole_prefix, with_local, with_name}
use Rattle.elab_kept.proofs.Parts as parts
use Rattle.elab_kept.proofs.Walk as walk
use Rattle.elab_meaning.specs.Operators.{new_name}
use Rattle.body_meaning.specs.Tree.{Head, Param}
use Rattle.program_meaning.specs.Heads.{Heading, Passed, bracket, heading, heading_alone, named_parameter, of_bracket, parameter, parameters, passed_by, result}

-- ---- from each state, what was in force stays

module _ (env : Env) (values : List (Option Constant)) where
  passed_kept : (at : Pos) (t : s.TypeSpec) (st : State) → Kept st (passed_by env values at t st)
  passed_kept at (s.type_spec base stars dims is_const) st = kept_then st _ _ (walk.base_kept env values at base st)
      (λ b t. kept_then t _ _ (parts.starred_kept at stars b t) (λ p u. kept_then u _ _ (walk.lengths_kept env values dims u)
      (λ ns v. kept_then v _ _ (parts.dimensioned_kept at p ns v) (λ ty w. kept_by w _))))

  named_kept : (at : Pos) (k : ℕ) (p : Passed) (name : Option (List ℕ)) (st : State) → Kept st (named_parameter at k p name st)
  named_kept at k p None st = kept_same _ st
  named_kept at k p (Some name) st = kept_rule st (new_name at st.first_name st.names name) _ (λ x. kept_give _ st _ (with_name st _))

  parameter_kept : (at : Pos) (p : Passed) (name : Option (List ℕ)) (st : State) → Kept st (parameter at p name st)
  parameter_kept at p name st = kept_on st _ _ (with_local st p.ty) (named_kept at (length st.locals) p name _)

  parameters_kept : (at : Pos) (ps : List Param) (st : State) → Kept st (parameters env values at ps st)
  parameters_kept at [] st = kept_same _ st
  parameters_kept at (p ∷ ps) st = kept_then st _ _ (passed_kept at p.ty st)
      (λ (t : Passed) (u : State). kept_then u _ _ (parameter_kept at t p.name u) (λ x v. kept_then v _ _ (parameters_kept at ps v) (λ ts w. kept_same _ w)))

  bracket_kept : (at : Pos) (p : Option Param) (st : State) → Kept st (bracket env values at p st)
  bracket_kept at None st = kept_same _ st
  bracket_kept at (Some p) st = kept_then st _ _ (walk.type_kept env values at p.ty st)
      (λ t u. kept_rule u (of_bracket at t) _ (λ n. kept_then u _ _ (parameter_kept at (record { ty = int n; is_const = false }) p.name u) (λ x v. kept_same _ v)))

  result_kept : (at : Pos) (t : s.TypeSpec) (st : State) → Kept st (result env values at t st)
  result_kept at t st = kept_then st _ _ (walk.type_kept env values at t st) (λ ty u. kept_by u _)

-- ---- names and tags alone

pub record Scoped {A : Type 0} (s : State) (r : Rule (A × State)) : Type 0 where
  pub by : (x : A) (t : State) → r ≡ Ok (x, t) → IsPrefix s.names t.names × IsPrefix s.tags t.tags

pub scoped_of : {A : Type 0} (s : State) (r : Rule (A × State)) → Kept s r → Scoped s r
scoped_of s r h = record { by = λ x t e. ((h.by x t e).names, (h.by x t e).tags) }

pub scoped_give : {A : Type 0} (x : A) (s t : State) → IsPrefix s.names t.names → IsPrefix s.tags t.tags → Scoped s (Ok (x, t))
scoped_give {A = A} x s t g h = record { by = λ y u e. subst (λ (z : A × State). IsPrefix s.names z.1.names × IsPrefix s.tags z.1.tags) (paired e) (g, h) }
  where
    made : A × State → Rule (A × State)
    made a = Ok a

    paired : {a b : A × State} → made a ≡ made b → a ≡ b
    paired e = cc

pub scoped_stopped : {A : Type 0} (s : State) (e : Fault) → Scoped {A = A} s (Err e)
scoped_stopped s e = record { by = λ x t h. absurd cc }

scoped_on : {A : Type 0} (s t : State) (r : Rule (A × State)) → IsPrefix s.names t.names → IsPrefix s.tags t.tags → Scoped t r → Scoped s r
scoped_on s t r g h k = record {
  by = λ x u e. (longer_prefix s.names t.names u.names g (k.by x u e).0, longer_prefix s.tags t.tags u.tags h (k.by x u e).1);
}

pub scoped_then : {A B : Type 0} (s : State) (r : Rule (A × State)) (next : A → State → Rule (B × State))
    → Scoped s r → ((x : A) (t : State) → Scoped t (next x t)) → Scoped s (after r next)
scoped_then s (Ok x) next h f = scoped_on s x.1 (next x.0 x.1) (h.by x.0 x.1 refl).0 (h.by x.0 x.1 refl).1 (f x.0 x.1)
scoped_then s (Err e) next h f = scoped_stopped s e

-- behind work that only adds, from another state
scoped_behind : {A B : Type 0} (s t : State) (r : Rule (A × State)) (next : A → State → Rule (B × State))
    → Kept t r → ((x : A) (u : State) → Grows t u → Scoped s (next x u)) → Scoped s (after r next)
scoped_behind s t (Ok x) next h f = f x.0 x.1 (h.by x.0 x.1 refl)
scoped_behind s t (Err e) next h f = scoped_stopped s e

taken : {A : Type 0} (xs more : List A) → take (length xs) (xs ++ more) ≡ xs
taken [] more = none more
  where
    none : {A : Type 0} (ys : List A) → take 0 ys ≡ []
    none [] = refl
    none (y ∷ ys) = refl
taken (x ∷ xs) more = ap (λ l. x ∷ l) (taken xs more)

-- a list that was longer in between is itself again
pub again : {A : Type 0} (xs ys : List A) → IsPrefix xs ys → take (length xs) ys ≡ xs
again xs ys p = ap (λ l. take (length xs) l) p.1 ∙ taken xs p.0

same_prefix : {A : Type 0} (xs ys : List A) → ys ≡ xs → IsPrefix xs ys
same_prefix xs ys e = subst (λ l. IsPrefix xs l) (sym e) (whole_prefix xs)

module _ (env : Env) (values : List (Option Constant)) where
  -- the scope of the parameters is closed again
  heading_scoped : (h : Head) (st : State) → Scoped st (heading env values h st)
  heading_scoped h st = scoped_then st _ _ (scoped_of st _ (result_kept env values h.at h.result st))
      (λ t s1. let inner : State = record s1 { first_name = length s1.names; first_tag = length s1.tags; locals = [] } in
      scoped_behind s1 inner _ _ (bracket_kept env values h.at h.bracket inner)
      (λ b s2 g. scoped_behind s1 s2 _ _ (parameters_kept env values h.at h.params s2)
      (λ ps s3 k. let all = grows_on inner s2 s3 g k in
      scoped_give _ s1 _ (same_prefix s1.names _ (again s1.names s3.names all.names)) (same_prefix s1.tags _ (again s1.tags s3.tags all.tags)))))

  pub alone_scoped : (h : Head) (st : State) → Scoped st (heading_alone env values h st)
  alone_scoped h st = scoped_then st _ _ (heading_scoped h st) (λ g t. scoped_give _ t _ (whole_prefix t.names) (whole_prefix t.tags))
