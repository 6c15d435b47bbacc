-- Places and operators.
use Rattle.std.proofs.Common.{◌≡◌, ℕ, Bool, true, false, List, [], ◌∷◌, Option, Some, None}
use Rattle.std.specs.Prelude.{nat_eq}
use Rattle.nm_base.specs.declared.pos.Pos.{Pos}
use Rattle.nm_base.specs.declared.int_type.IntType.{IntType}
use Rattle.nesc_core.specs.declared.tree.BinOp.{BinOp}
use Rattle.nesc_core.specs.Plain as core
use Rattle.nesc_core.specs.Plain.{Ty, Expr, Place, void, int, pointer, array, struct}
use Rattle.nesc_tree.specs.declared.tree.PreOp.{PreOp}
use Rattle.nesc_tree.specs.declared.tree.PreOp.TheVariants as pre
use Rattle.nesc_tree.specs.declared.tree.InOp.{InOp}
use Rattle.nesc_tree.specs.declared.tree.InOp.TheVariants as op
use Rattle.elab_meaning.specs.Scope.{Env}
use Rattle.elab_meaning.specs.Elab.{Elab, State, by, give, state, ◌>>=◌, ◌>>◌}
use Rattle.elab_meaning.specs.Convert.{Typed, Found, a_place, a_value, a_copy, a_target, int_of, pointer_to, struct_number, Target, value_found}
use Rattle.elab_meaning.specs.Places.{Frozen, added, added_to, added_to_number, addressed, as_value, ask, binary, body_reached, copied, copy_copied, decayed, exchanged, frozen, frozen_behind, frozen_element, indexed, indexed_by, is_number, kept, moved_behind, place_among, place_copied, prefixed, read_at, stored, stored_by, take, valued_operand}
use Rattle.elab_kept.proofs.Steps.{Kept, kept_by, kept_give, kept_if, kept_same, kept_stopped, kept_then, with_asked, with_local, with_taken}

take_kept : (at : Pos) (p : Place) (s : State) → Kept s (take at p s)
take_kept at (core.object k) s = kept_give tt s _ (with_taken s k)
take_kept at (core.local x) s = kept_stopped s _
take_kept at (core.deref e t) s = kept_same tt s
take_kept at (core.index p e) s = take_kept at p s
take_kept at (core.field p k) s = take_kept at p s

decayed_kept : (at : Pos) (p : Place) (t : Ty) (s : State) → Kept s (decayed at p t s)
decayed_kept at p t s = kept_then s _ _ (take_kept at p s) (λ x u. kept_then u _ _ (kept_by u _) (λ y v. kept_same _ v))

read_kept : (at : Pos) (p : Place) (t : Ty) (s : State) → Kept s (read_at at p t s)
read_kept at p void s = kept_stopped s _
read_kept at p (int t) s = kept_same _ s
read_kept at p (pointer t) s = kept_same _ s
read_kept at p (array t n) s = decayed_kept at p t s
read_kept at p (struct k) s = kept_stopped s _

pub as_value_kept : (at : Pos) (f : Found) (s : State) → Kept s (as_value at f s)
as_value_kept at (a_value v) s = kept_same _ s
as_value_kept at (a_place p types t is_const) s = read_kept at p t s
as_value_kept at (a_copy steps p k) s = kept_same _ s

abbrev address_of : Pos → Target → Elab Found
address_of at p = do
  take at p.place
  s ← state
  t ← by (pointer_to s.structs at p.ty)
  give (value_found (core.addr p.place) t)

address_kept : (at : Pos) (p : Target) (s : State) → Kept s (address_of at p s)
address_kept at p s = kept_then s _ _ (take_kept at p.place s) (λ x u. kept_then u _ _ (kept_by u _) (λ y v. kept_same _ v))

addressed_kept : (at : Pos) (f : Found) (s : State) → Kept s (addressed at f s)
addressed_kept at f s = kept_then s (by (a_target at f) s) (address_of at) (kept_by s (a_target at f)) (λ p t. address_kept at p t)

indexed_by_kept : (at : Pos) (p : Place) (types : List IntType) (t : Ty) (is_const : Bool) (s : State) → Kept s (indexed_by at p types t is_const s)
indexed_by_kept at p types void is_const s = kept_stopped s _
indexed_by_kept at p types (int t) is_const s = kept_same _ s
indexed_by_kept at p types (pointer t) is_const s = kept_same _ s
indexed_by_kept at p types (array t n) is_const s = kept_same _ s
indexed_by_kept at p types (struct k) is_const s = kept_stopped s _

pub indexed_kept : (at : Pos) (f : Found) (s : State) → Kept s (indexed at f s)
indexed_kept at (a_place p types t is_const) s = indexed_by_kept at p types t is_const s
indexed_kept at (a_value v) s = kept_same _ s
indexed_kept at (a_copy steps p k) s = kept_stopped s _

-- ---- operators

exchanged_kept : (o : BinOp) (at : Pos) (x y : Typed) (s : State) → Kept s (exchanged o at x y s)
exchanged_kept o at x y s = kept_then s _ _ (kept_by s _) (λ c t. kept_give _ t _ (with_local t _))

moved_behind_kept : (a : IntType) (at : Pos) (x : Expr) (y : Typed) (s : State) → Kept s (moved_behind a at x y s)
moved_behind_kept a at x y s = kept_then s _ _ (kept_by s _) (λ d t. kept_give _ t _ (with_local t _))

added_to_number_kept : (a : IntType) (at : Pos) (x y : Typed) (b : Option IntType) (s : State) → Kept s (added_to_number a at x y b s)
added_to_number_kept a at x y (Some b) s = kept_by s _
added_to_number_kept a at x y None s = moved_behind_kept a at x.expr y s

added_to_kept : (at : Pos) (x y : Typed) (a : Option IntType) (s : State) → Kept s (added_to at x y a s)
added_to_kept at x y (Some a) s = added_to_number_kept a at x y (int_of y.ty) s
added_to_kept at x y None s = kept_by s _

pub binary_kept : (o : InOp) (at : Pos) (x y : Typed) (s : State) → Kept s (binary o at x y s)
binary_kept op.Mul at x y s = kept_by s _
binary_kept op.Div at x y s = kept_by s _
binary_kept op.Rem at x y s = kept_by s _
binary_kept op.Add at x y s = added_to_kept at x y (int_of x.ty) s
binary_kept op.Sub at x y s = kept_by s _
binary_kept op.Shl at x y s = kept_by s _
binary_kept op.Shr at x y s = kept_by s _
binary_kept op.Lt at x y s = kept_by s _
binary_kept op.Gt at x y s = exchanged_kept _ at x y s
binary_kept op.Le at x y s = kept_by s _
binary_kept op.Ge at x y s = exchanged_kept _ at x y s
binary_kept op.Eq at x y s = kept_by s _
binary_kept op.Ne at x y s = kept_by s _
binary_kept op.And at x y s = kept_by s _
binary_kept op.Xor at x y s = kept_by s _
binary_kept op.Or at x y s = kept_by s _
binary_kept op.AndAnd at x y s = kept_by s _
binary_kept op.OrOr at x y s = kept_by s _

valued_operand_kept : (o : PreOp) (at here : Pos) (f : Found) (s : State) → Kept s (valued_operand o at here f s)
valued_operand_kept o at here f s = kept_then s _ _ (as_value_kept here f s) (λ v t. kept_by t _)

pub prefixed_kept : (o : PreOp) (at here : Pos) (f : Found) (s : State) → Kept s (prefixed o at here f s)
prefixed_kept pre.Addr at here f s = addressed_kept at f s
prefixed_kept pre.Inc at here f s = kept_by s _
prefixed_kept pre.Dec at here f s = kept_by s _
prefixed_kept pre.Deref at here f s = valued_operand_kept pre.Deref at here f s
prefixed_kept pre.Plus at here f s = valued_operand_kept pre.Plus at here f s
prefixed_kept pre.Neg at here f s = valued_operand_kept pre.Neg at here f s
prefixed_kept pre.Not at here f s = valued_operand_kept pre.Not at here f s
prefixed_kept pre.IsZero at here f s = valued_operand_kept pre.IsZero at here f s

-- ---- structs

frozen_kept : (at : Pos) (p : Place) (types : List IntType) (done : List Expr) (s : State) → Kept s (frozen at p types done s)
frozen_kept at (core.object k) types done s = kept_same _ s
frozen_kept at (core.local x) types done s = kept_same _ s
frozen_kept at (core.deref e t) types done s = kept_give _ s _ (with_local s _)
frozen_kept at (core.index p e) [] done s = kept_stopped s _
frozen_kept at (core.index p e) (t ∷ types) done s = kept_then s _ _ (frozen_kept at p types done s) (λ f u. kept_give _ u _ (with_local u _))
frozen_kept at (core.field p k) types done s = kept_then s _ _ (frozen_kept at p types done s) (λ f u. kept_same _ u)

place_copied_kept : (at there : Pos) (p : Target) (k : ℕ) (q : Place) (types : List IntType) (s : State) → Kept s (place_copied at there p k q types s)
place_copied_kept at there p k q types s = kept_then s _ _ (frozen_kept at p.place p.indexes [] s)
    (λ (f : Frozen) (t : State). kept_then t _ _ (frozen_kept there q types f.steps t) (λ g u. kept_same _ u))

copy_copied_kept : (at there : Pos) (p : Target) (k : ℕ) (steps : List Expr) (q : Place) (s : State) → Kept s (copy_copied at there p k steps q s)
copy_copied_kept at there p k steps q s = kept_then s _ _ (frozen_kept at p.place p.indexes steps s) (λ f t. kept_same _ t)

copied_kept : (at there : Pos) (p : Target) (k : ℕ) (f : Found) (s : State) → Kept s (copied at there p k f s)
copied_kept at there p k (a_place q types t is_const) s = kept_if s (is_number k (struct_number t)) _ _ (place_copied_kept at there p k q types s) (kept_stopped s _)
copied_kept at there p k (a_copy steps q j) s = kept_if s (nat_eq k j) _ _ (copy_copied_kept at there p k steps q s) (kept_stopped s _)
copied_kept at there p k (a_value v) s = kept_stopped s _

stored_by_kept : (at there : Pos) (p : Target) (f : Found) (k : Option ℕ) (s : State) → Kept s (stored_by at there p f k s)
stored_by_kept at there p f (Some k) s = copied_kept at there p k f s
stored_by_kept at there p f None s = kept_then s _ _ (as_value_kept there f s) (λ v t. kept_by t _)

pub stored_kept : (o : Option InOp) (at there : Pos) (p : Target) (f : Found) (s : State) → Kept s (stored o at there p f s)
stored_kept None at there p f s = stored_by_kept at there p f (struct_number p.ty) s
stored_kept (Some o) at there p f s = kept_then s _ _ (as_value_kept there f s) (λ v t. kept_by t _)

-- ---- calls of items

ask_kept : (instance item : ℕ) (at : Pos) (place : Option ℕ) (s : State) → Kept s (ask instance item at place s)
ask_kept instance item at (Some k) s = kept_same _ s
ask_kept instance item at None s = kept_give _ s _ (with_asked s _)

pub reached_kept : (env : Env) (at : Pos) (item : ℕ) (body : Option ℕ) (s : State) → Kept s (body_reached env at item body s)
reached_kept env at item (Some body) s = kept_same _ s
reached_kept env at item None s = kept_then s _ _ (ask_kept env.instance item at (place_among 0 s.asked env.instance item) s) (λ k t. kept_same _ t)
