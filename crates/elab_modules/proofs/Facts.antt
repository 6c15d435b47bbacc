-- The facts of an instance's items are known with the names and tags in force as they were, and its parameters only add to them.
use Rattle.std.proofs.Common.{ℕ, List, [], ◌∷◌, Ok, Err}
use Rattle.nm_base.specs.declared.pos.Pos.{Pos}
use Rattle.nesc_tree.specs.Plain as s
use Rattle.nesc_types.specs.Rule.{Rule}
use Rattle.elab_items.proofs.Scoped.{Scoped, scoped_give, scoped_of, scoped_stopped, scoped_then}
use Rattle.elab_kept.proofs.Parts as parts
use Rattle.elab_kept.proofs.Steps.{Kept, behind_prefix, kept_same, kept_then, whole_prefix}
use Rattle.elab_kept.proofs.Walk.{base_kept, lengths_kept}
use Rattle.elab_meaning.specs.Elab.{State}
use Rattle.elab_meaning.specs.Scope.{Env}
use Rattle.elab_modules.proofs.Statements.{scoped_same}
use Rattle.program_meaning.specs.Items.{argument_type, arguments, as_before, facts_of, facts_of_element, given_names, in_interface, items_of}
use Rattle.program_meaning.specs.Parts.{Application, Elem, Given}

pub given_scoped : (xs : List Given) (st : State) → Scoped st (given_names xs st)
given_scoped [] st = scoped_same tt st
given_scoped (x ∷ xs) st = scoped_then st _ _ (scoped_give (tt {0}) st _ (behind_prefix st.names _) (whole_prefix st.tags)) (λ z t. given_scoped xs t)

before_scoped : {A : Type 0} (st : State) (r : Rule (A × State)) → Scoped st (as_before st r)
before_scoped st (Ok x) = scoped_give x.0 st _ (whole_prefix st.names) (whole_prefix st.tags)
before_scoped st (Err e) = scoped_stopped st e

module _ (app : Application) (env : Env) (headers : State) where
  argument_kept : (at : Pos) (t : s.TypeSpec) (st : State) → Kept st (argument_type app env headers at t st)
  argument_kept at (s.type_spec base stars dims is_const) st = kept_then st _ _ (base_kept env [] at base st)
      (λ b t. kept_then t _ _ (parts.starred_kept at stars b t)
      (λ p u. kept_then u _ _ (lengths_kept env [] dims u) (λ ns v. kept_then v _ _ (parts.dimensioned_kept at p ns v) (λ ty w. kept_same _ w))))

  arguments_kept : (at : Pos) (ns : List (List ℕ)) (ts : List s.TypeSpec) (st : State) → Kept st (arguments app env headers at ns ts st)
  arguments_kept at [] [] st = kept_same _ st
  arguments_kept at [] (t ∷ ts) st = kept_same _ st
  arguments_kept at (n ∷ ns) [] st = kept_same _ st
  arguments_kept at (n ∷ ns) (t ∷ ts) st = kept_then st _ _ (argument_kept at t st) (λ b u. kept_then u _ _ (arguments_kept at ns ts u) (λ xs v. kept_same _ v))

  element_scoped : (k : ℕ) (x : Elem) (st : State) → Scoped st (facts_of_element app env headers k x st)
  element_scoped k x st = scoped_then st (arguments app env headers x.at x.interface.params x.args st) (λ params. in_interface headers params (items_of app env headers k x x.interface.items))
      (scoped_of st _ (arguments_kept x.at x.interface.params x.args st)) (λ params t. before_scoped t _)

  pub facts_scoped : (k : ℕ) (xs : List Elem) (st : State) → Scoped st (facts_of app env headers k xs st)
  facts_scoped k [] st = scoped_same _ st
  facts_scoped k (x ∷ xs) st = scoped_then st _ _ (element_scoped k x st) (λ fs t. scoped_then t _ _ (facts_scoped k xs t) (λ more u. scoped_same _ u))
