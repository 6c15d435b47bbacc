-- A local that lies in the frame is no number.
use Rattle.std.proofs.Common.{◌≡◌, ℕ, zero, suc, ◌+◌, List, [], ◌∷◌, refl}
use Rattle.std.specs.Prelude.{slice_get, slice_index_or}
use Rattle.nm_base.specs.declared.int_type.IntType.TheVariants.{U16}
use Rattle.nesc_core.specs.Plain.{Ty, Body, Program}
use Rattle.nesc_core.specs.Plain as plain
use Rattle.core_meaning.specs.Work.{number_of}
use Rattle.lower_expr.specs.Code.{InFrame, kind_of_spot}
use Rattle.lower_stmt.specs.Bodies.{bytes_in_frame, spots_from, spots_of, values_of}
use Rattle.body_bytes.proofs.Updates.{AreFramed}

framed_from : (p : Program) (types : List Ty) (v o x : ℕ) → kind_of_spot (slice_get (spots_from p types v o) x) ≡ InFrame → number_of (slice_index_or types x plain.void) ≡ U16
framed_from p [] v o x h = refl
framed_from p (plain.void ∷ types) v o zero h = refl
framed_from p (plain.int t ∷ types) v o zero h = absurd (cc)
framed_from p (plain.pointer t ∷ types) v o zero h = refl
framed_from p (plain.array t n ∷ types) v o zero h = refl
framed_from p (plain.struct k ∷ types) v o zero h = refl
framed_from p (t ∷ types) v o (suc x) h = framed_from p types (v + values_of t) (o + bytes_in_frame p t) x h

pub framed_of : (p : Program) (b : Body) → AreFramed b.locals (spots_of p b)
framed_of p b x h = framed_from p b.locals 0 0 x h
