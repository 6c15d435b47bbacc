-- What is done with a part, given that the work of the part only adds.
use Rattle.std.proofs.Common.{◌≡◌, ℕ, List, [], ◌∷◌, Option, Some, None, Ok, Err, refl}
use Rattle.nm_base.specs.declared.pos.Pos.{Pos}
use Rattle.nesc_core.specs.Plain.{Ty}
use Rattle.nesc_tree.specs.Plain as s
use Rattle.nesc_types.specs.Rule.{Rule}
use Rattle.nesc_types.specs.Values.{Constant}
use Rattle.nesc_types.specs.Constant.{pos_of}
use Rattle.elab_meaning.specs.Scope.{Kind, Struct}
use Rattle.elab_meaning.specs.Elab.{Elab, State, alone, back_in, unevaluated}
use Rattle.elab_meaning.specs.Convert.{Found}
use Rattle.elab_meaning.specs.Operators.{Based}
use Rattle.elab_meaning.specs.Wired.{argument, as_found, dimensioned, measured, size_of, starred, struct_ended, tagged, valued}
use Rattle.elab_kept.specs.Grows.{Grows}
use Rattle.elab_kept.proofs.Steps.{Kept, kept_by, kept_give, kept_same, kept_stopped, kept_then, whole_prefix, with_struct, with_tag}
use Rattle.elab_kept.proofs.Places.{as_value_kept}

pub valued_kept : (e : s.Expr) (work : Elab Found) (st : State) → Kept st (work st) → Kept st (valued e work st)
unfolding valued
valued_kept e work st h = kept_then st _ _ h (λ f t. as_value_kept (pos_of e) f t)

pub argument_kept : (t : Ty) (e : s.Expr) (work : Elab Found) (st : State) → Kept st (work st) → Kept st (argument t e work st)
unfolding argument
argument_kept t e work st h = kept_then st _ _ (valued_kept e work st h) (λ v u. kept_by u _)

pub as_found_kept : (work : Elab Constant) (st : State) → Kept st (work st) → Kept st (as_found work st)
as_found_kept work st h = kept_then st _ _ h (λ x t. kept_same _ t)

-- ---- `sizeof`: names, tags and structs of the work stay alone

back : {A : Type 0} (st : State) (r : Rule (A × State)) → Kept (alone st) r → Kept st (back_in st r)
back st (Err e) h = kept_stopped st e
back st (Ok x) h = let g = h.by x.0 x.1 refl in kept_give x.0 st _ (record {
  names = g.names;
  tags = g.tags;
  structs = g.structs;
  locals = whole_prefix st.locals;
  taken = whole_prefix st.taken;
  asked = whole_prefix st.asked;
  first_name = g.first_name;
  first_tag = g.first_tag;
})

pub measured_kept : (at : Pos) (work : Elab Found) (st : State) → Kept (alone st) (work (alone st)) → Kept st (measured at work st)
unfolding measured
measured_kept at work st h = kept_then st _ _ (back st _ h) (λ f t. kept_by t _)

pub size_of_kept : (at : Pos) (work : Elab Ty) (st : State) → Kept st (work st) → Kept st (size_of at work st)
unfolding size_of
size_of_kept at work st h = kept_then st _ _ h (λ t u. kept_by u _)

-- ---- types

pub starred_kept : (at : Pos) (stars : ℕ) (b : Based) (st : State) → Kept st (starred at stars b st)
starred_kept at stars b st = kept_by st _

pub dimensioned_kept : (at : Pos) (t : Ty) (ns : List ℕ) (st : State) → Kept st (dimensioned at t ns st)
dimensioned_kept at t ns st = kept_by st _

pub tagged_kept : (at : Pos) (tag : Option (List ℕ)) (kind : Kind) (st : State) → Kept st (tagged at tag kind st)
tagged_kept at None kind st = kept_same tt st
tagged_kept at (Some tag) kind st = kept_then st _ _ (kept_by st _) (λ x t. kept_give tt t _ (with_tag t _))

pub struct_ended_kept : (at : Pos) (first : ℕ) (fields : Struct) (st : State) → Kept st (struct_ended at first fields st)
struct_ended_kept at first fields st = kept_then st _ _ (kept_by st _) (λ x t. kept_give _ t _ (with_struct t x))
