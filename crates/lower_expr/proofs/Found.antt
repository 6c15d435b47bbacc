-- Where a place is found by its code: in memory, in the frame, or in the values of a whole local.
use Rattle.std.proofs.Common.{◌≡◌, ℕ, ◌+◌, ◌<◌, ◌≤◌, List, [], length, Some, ap, ◌∙◌, subst, arith}
use Rattle.std.specs.Prelude.{ℤ, slice_get, slice_index, slice_index_or}
use Rattle.nesc_core.specs.Plain.{Ty, void, int, pointer, array, struct, Program}
use Rattle.nesc_core.specs.Typing.{IsScalar}
use Rattle.core_meaning.specs.Layout.{size_of}
use Rattle.core_meaning.specs.Work.{Locals, number_of}
use Rattle.core_meaning.specs.declared.access.Where.{Where}
use Rattle.core_meaning.specs.declared.access.Where.TheVariants.{At, Within}
use Rattle.lower_expr.specs.declared.spot.Regs.{Regs}
use Rattle.lower_expr.specs.declared.spot.Spot.{Spot}
use Rattle.lower_expr.specs.declared.spot.Spot.TheVariants.{Values, Frame}
use Rattle.lower_expr.specs.Held.{IsHeld}
use Rattle.lower_expr.specs.Locals.{Holds, InRegs, IsResult, LocalIsHeld, local_value}
use Rattle.lower_expr.specs.Code.{Kind, InValues, InFrame, InMemory}

-- a number stands where the result of its type is
pub as_result : (ty : Ty) (v : ℤ) (values : ℕ → ℕ) (r : ℕ) → IsScalar ty → IsHeld (number_of ty) v values r → IsResult ty v values r
as_result void v values r scalar h = absurd scalar
as_result (int t) v values r scalar h = h
as_result (pointer t) v values r scalar h = h
as_result (array t m) v values r scalar h = absurd scalar
as_result (struct j) v values r scalar h = absurd scalar

pub as_number : (ty : Ty) (v : ℤ) (values : ℕ → ℕ) (r : ℕ) → IsScalar ty → IsResult ty v values r → IsHeld (number_of ty) v values r
as_number void v values r scalar h = absurd scalar
as_number (int t) v values r scalar h = h
as_number (pointer t) v values r scalar h = h
as_number (array t m) v values r scalar h = absurd scalar
as_number (struct j) v values r scalar h = absurd scalar

module _ (p : Program) (types : List Ty) (spots : List Spot) where
  abbrev pub type_of : ℕ → Ty
  type_of x = slice_index_or types x void

  -- in memory, by an address at r
  pub record IsAt (a : ℕ) (values : ℕ → ℕ) (r : ℕ) : Type 0 where
    pub at : values r ≡ a
    pub word : a < 65536

  -- in the frame: byte o of local x, by its place at r
  pub record IsInside (x o : ℕ) (ty : Ty) (values : ℕ → ℕ) (r : ℕ) : Type 0 where
    pub from : ℕ
    pub spot : slice_get spots x ≡ Some (Frame from)
    pub below : x < length types
    pub inside : o + size_of p ty ≤ size_of p (type_of x)
    pub at : values r ≡ from + o

  -- the whole of local x, in values
  pub record IsWhole (regs : Regs) (x o : ℕ) (ty : Ty) : Type 0 where
    pub spot : slice_get spots x ≡ Some (Values regs)
    pub below : x < length types
    pub first : o ≡ 0
    pub type : type_of x ≡ ty

  abbrev pub IsFound : Kind → Ty → Where → (ℕ → ℕ) → ℕ → Type 0
  IsFound InMemory ty (At a) values r = IsAt a values r
  IsFound InMemory ty (Within x o) values r = ⊥
  IsFound InFrame ty (At a) values r = ⊥
  IsFound InFrame ty (Within x o) values r = IsInside x o ty values r
  IsFound (InValues regs) ty (At a) values r = ⊥
  IsFound (InValues regs) ty (Within x o) values r = IsWhole regs x o ty

  -- the place is still found where the value at r is as it was
  pub found_still : (kind : Kind) (ty : Ty) (w : Where) (old new : ℕ → ℕ) (r : ℕ) → new r ≡ old r → IsFound kind ty w old r → IsFound kind ty w new r
  found_still InMemory ty (At a) old new r same h = record { at = same ∙ h.at; word = h.word }
  found_still InMemory ty (Within x o) old new r same h = absurd h
  found_still InFrame ty (At a) old new r same h = absurd h
  found_still InFrame ty (Within x o) old new r same h = record { from = h.from; spot = h.spot; below = h.below; inside = h.inside; at = same ∙ h.at }
  found_still (InValues regs) ty (At a) old new r same h = absurd h
  found_still (InValues regs) ty (Within x o) old new r same h = h

  module _ (base : ℕ) (env : Locals) (values frame : ℕ → ℕ) (holds : Holds p types spots base env values frame) where
    -- a byte of a local in the frame
    pub byte_held : (x o : ℕ) (ty : Ty) (at : ℕ → ℕ) (r : ℕ) → IsInside x o ty at r → (i : ℕ) → i < size_of p ty → frame (at r + i) ≡ slice_index (slice_index_or env x []) (o + i)
    byte_held x o ty at r h i lt =
        let there = h.inside in
        let place = h.at in
        let local : LocalIsHeld base (Some (Frame h.from)) (type_of x) (size_of p (type_of x)) (slice_index_or env x []) values frame =
        subst (λ s. LocalIsHeld base s (type_of x) (size_of p (type_of x)) (slice_index_or env x []) values frame) h.spot (holds.at x h.below) in
        let same : at r + i ≡ h.from + (o + i) = omega (arith, place) in
        ap frame same ∙ local (o + i) (omega (arith, there, lt))

    pub byte_small : (x o : ℕ) (ty : Ty) (at : ℕ → ℕ) (r : ℕ) → IsInside x o ty at r → (i : ℕ) → i < size_of p ty → slice_index (slice_index_or env x []) (o + i) < 256
    byte_small x o ty at r h i lt = let there = h.inside in (holds.bytes x h.below).small (o + i) (omega (arith, there, lt))

    -- a local in values
    pub regs_held : (regs : Regs) (x o : ℕ) (ty : Ty) → IsWhole regs x o ty → InRegs base (number_of ty) (local_value (number_of ty) (slice_index_or env x [])) values regs
    regs_held regs x o ty h =
        let local : LocalIsHeld base (Some (Values regs)) (type_of x) (size_of p (type_of x)) (slice_index_or env x []) values frame =
        subst (λ s. LocalIsHeld base s (type_of x) (size_of p (type_of x)) (slice_index_or env x []) values frame) h.spot (holds.at x h.below) in
        subst (λ t. InRegs base (number_of t) (local_value (number_of t) (slice_index_or env x [])) values regs) h.type local
