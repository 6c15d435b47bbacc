-- The functions of a program's bodies keep to their frames, and post tasks alone.
use Rattle.std.proofs.Common.{◌≡◌, ℕ, zero, suc, ◌+◌, ◌%◌, ◌<◌, ◌≤◌, true, List, [], ◌∷◌, ◌++◌, length, map, All, Some, refl, sym, ◌∙◌, subst, arith}
use Rattle.std.specs.Prelude.{⊤, slice_get, slice_index_or}
use Rattle.std.proofs.lemmas.List.Elements.{All-head, All-tail}
use Rattle.nm_base.specs.declared.int_type.IntType.TheVariants.{I8, U8, I16, U16, I32, U32}
use Rattle.nesc_core.specs.Plain.{Ty, void, int, pointer, array, struct, Body, Program}
use Rattle.nesc_core.specs.Typing.{IsScalar}
use Rattle.nesc_core.specs.WellFormed.{IsBody, IsWellFormed, by_return}
use Rattle.mid_code.specs.declared.instr.Mid.{Mid}
use Rattle.mid_code.specs.declared.instr.Mid.TheVariants.{Post, Ret}
use Rattle.mid_code.specs.declared.code.MidCode.{MidCode}
use Rattle.mid_code.specs.Machine.{fn_of, no_fn}
use Rattle.mid_code.specs.Reached.{opens_at, state_at}
use Rattle.lower_expr.specs.declared.spot.Regs.{Regs}
use Rattle.lower_expr.specs.declared.spot.Spot.{Spot}
use Rattle.lower_expr.specs.declared.spot.Spot.TheVariants.{Values, Frame}
use Rattle.lower_expr.specs.Code.{taken_at, value_named}
use Rattle.lower_stmt.specs.Code.{WayOut, breaking, continuing, returning, leads, nothing_code}
use Rattle.lower_stmt.specs.Bodies.{all_bytes, all_values, base_of, body_code, bytes_in_frame, checks_of, lowered, mid_fn_of, regs_from, spot_at, spots_from, spots_of, values_of, ways_of}
use Rattle.lower_stmt.proofs.Leaving.{leads_allowed}
use Rattle.lower_stmt.proofs.Spots.{bytes_before, framed_here, frame_inside, spot_here, values_before, values_inside}
use Rattle.lower_stmt.proofs.Weighed.{is_within}
use Rattle.lower_reached.specs.Laws.{InnermostMayGoOn, is_of_frame}
use Rattle.lower_reached.proofs.Reached.{statements_nest}
use Rattle.lower_keeps.proofs.Safe.{MayGo, MayStand, posts_task}
use Rattle.lower_keeps.proofs.Machine.{frames_kept}
use Rattle.lower_keeps.proofs.Known.{stmt_facts}
use Rattle.lower_keeps.proofs.Exprs.{AreSpots}
use Rattle.lower_keeps.proofs.Stmts.{WayIs, nothing_keeps, stmt_keeps}

-- ---- the spots of a body's locals

-- the values of a local, of which one at least is there
record AreIn (v n : ℕ) (regs : Regs) : Type 0 where
  low : value_named regs.low < v + n
  high : value_named regs.high < v + n

values_in : (ty : Ty) (v o : ℕ) (regs : Regs) → spot_at ty v o ≡ Values regs → AreIn v (values_of ty) regs
values_in void v o regs e = absurd (cc)
values_in (int I8) v o regs e = let q : regs_from (int I8) v ≡ regs = cc in subst (AreIn v 1) q (record { low = omega arith; high = omega arith })
values_in (int U8) v o regs e = let q : regs_from (int U8) v ≡ regs = cc in subst (AreIn v 1) q (record { low = omega arith; high = omega arith })
values_in (int I16) v o regs e = let q : regs_from (int I16) v ≡ regs = cc in subst (AreIn v 1) q (record { low = omega arith; high = omega arith })
values_in (int U16) v o regs e = let q : regs_from (int U16) v ≡ regs = cc in subst (AreIn v 1) q (record { low = omega arith; high = omega arith })
values_in (int I32) v o regs e = let q : regs_from (int I32) v ≡ regs = cc in subst (AreIn v 2) q (record { low = omega arith; high = omega arith })
values_in (int U32) v o regs e = let q : regs_from (int U32) v ≡ regs = cc in subst (AreIn v 2) q (record { low = omega arith; high = omega arith })
values_in (pointer t) v o regs e = let q : regs_from (pointer t) v ≡ regs = cc in subst (AreIn v 1) q (record { low = omega arith; high = omega arith })
values_in (array t m) v o regs e = absurd (cc)
values_in (struct k) v o regs e = absurd (cc)

not_scalar : (ty : Ty) (v o from : ℕ) → spot_at ty v o ≡ Frame from → IsScalar ty → ⊥
not_scalar void v o from e is = is
not_scalar (int t) v o from e is = absurd (cc)
not_scalar (pointer t) v o from e is = absurd (cc)
not_scalar (array t m) v o from e is = is
not_scalar (struct k) v o from e is = is

one_even : (p : Program) (t : Ty) → bytes_in_frame p t % 2 ≡ 0
one_even p void = refl
one_even p (int t) = refl
one_even p (pointer t) = refl
one_even p (array t n) = omega arith
one_even p (struct k) = omega arith

before_even : (p : Program) (ts : List Ty) (x : ℕ) → bytes_before p ts x % 2 ≡ 0
before_even p [] x = refl
before_even p (t ∷ ts) zero = refl
before_even p (t ∷ ts) (suc x) = let own = one_even p t in let rest = before_even p ts x in omega (arith, own, rest)

module _ (p : Program) (ts : List Ty) where
  abbrev type_at : ℕ → Ty
  type_at x = slice_index_or ts x void

  abbrev spots : List Spot
  spots = spots_from p ts 0 0

  spot_named : (x : ℕ) (s : Spot) → x < length ts → slice_get spots x ≡ Some s → spot_at (type_at x) (values_before ts x) (bytes_before p ts x) ≡ s
  spot_named x s lt e = let q : Some (spot_at (type_at x) (values_before ts x) (bytes_before p ts x)) ≡ Some s = sym (spot_here p ts x lt) ∙ e in cc

  held_below : (x : ℕ) (regs : Regs) → x < length ts → slice_get spots x ≡ Some (Values regs) → AreIn 0 (all_values ts) regs
  held_below x regs lt is =
      let own = values_in (type_at x) (values_before ts x) (bytes_before p ts x) regs (spot_named x (Values regs) lt is) in
      let within = values_inside ts x lt in
      let low = own.low in
      let high = own.high in
      record { low = omega (arith, low, within); high = omega (arith, high, within) }

  pub are_spots : AreSpots p ts spots (all_values ts) (all_bytes p ts)
  are_spots = record {
    low = λ x regs lt is. (let low = (held_below x regs lt is).low in omega (arith, low));
    high = λ x regs lt is. (let high = (held_below x regs lt is).high in omega (arith, high));
    room = λ x o lt is. frame_inside p ts x o lt is;
    even = λ x o lt is. (let at = (framed_here p ts x o lt is).at in let even = before_even p ts x in omega (arith, at, even));
    there = λ x lt is. (let q = sym (spot_here p ts x lt) ∙ is in absurd (cc));
    values = λ x o lt is scalar. not_scalar (type_at x) (values_before ts x) (bytes_before p ts x) o (spot_named x (Frame o) lt is) scalar;
  }

-- ---- a body

bytes_small : (p : Program) (checks : List Ty) (b : Body) → IsBody p b → all_bytes p b.locals ≤ 65535
bytes_small p checks b own = let most = own.frame in let within = (is_within p checks b).within in omega (arith, most, within)

module _ (code : MidCode) (p : Program) (formed : IsWellFormed p) (checks : List Ty) (b : Body) (own : IsBody p b) where
  abbrev limit : ℕ
  limit = all_bytes p b.locals

  abbrev facts_at : ℕ → (ℕ → ℕ) → Type 0
  facts_at k values = stmt_facts limit p b.locals checks (spots_of p b) (base_of b) b.code 0 k values

  pub body_stands : MayStand code limit (length p.tasks) facts_at (body_code p checks b) × ((values : ℕ → ℕ) → MayGo code limit (length p.tasks) facts_at (body_code p checks b) values)
  body_stands =
      let base : ℕ = base_of b in
      let small : limit ≤ 65535 = bytes_small p checks b own in
      let spotted = are_spots p b.locals in
      let last : List Mid = Ret (taken_at b.result (base + 2)) ∷ [] in
      let none = nothing_keeps code limit small facts_at p formed b.locals checks (spots_of p b) base spotted b.result (base + 2) in
      let stmt =
      stmt_keeps code limit small facts_at p formed b.locals checks (spots_of p b) base spotted b.code (by_return b.result) (ways_of p b) 0 (omega arith) own.code
      (record { each = λ k ge lt. record { into = λ values h. h; out = λ values h. h } }) (record { way = ways }) in
      let end = none.over last tt (λ values h. tt) in
      let all = stmt.over (nothing_code b.result (base + 2) ++ last) end.0 (λ values h. end.1 values tt) in
      (all.0, λ values. all.1 values tt)
    where
      ways : (out : WayOut) → leads b.code out ≡ true → WayIs code limit (bytes_small p checks b own) facts_at p formed b.locals checks (spots_of p b) (base_of b) (are_spots p b.locals) (ways_of p b) out
      ways returning e = tt
      ways breaking e = let no = leads_allowed p b.locals b.code (by_return b.result) breaking own.code e in absurd (cc)
      ways continuing e = let no = leads_allowed p b.locals b.code (by_return b.result) continuing own.code e in absurd (cc)

-- ---- a program

abbrev limits_of : Program → List Body → ℕ → ℕ
limits_of p [] f = 0
limits_of p (b ∷ bodies) zero = all_bytes p b.locals
limits_of p (b ∷ bodies) (suc f) = limits_of p bodies f

abbrev facts_of : Program → (checks : List Ty) → List Body → ℕ → ℕ → (ℕ → ℕ) → Type 0
facts_of p checks [] f k values = ⊤
facts_of p checks (b ∷ bodies) zero k values = stmt_facts (all_bytes p b.locals) p b.locals checks (spots_of p b) (base_of b) b.code 0 k values
facts_of p checks (b ∷ bodies) (suc f) k values = facts_of p checks bodies f k values

record Stands (code : MidCode) (p : Program) (checks : List Ty) (bodies : List Body) (f : ℕ) : Type 0 where
  stand : MayStand code (limits_of p bodies f) (length p.tasks) (facts_of p checks bodies f) (slice_index_or (map (mid_fn_of p checks) bodies) f no_fn).code
  go : (values : ℕ → ℕ) → MayGo code (limits_of p bodies f) (length p.tasks) (facts_of p checks bodies f) (slice_index_or (map (mid_fn_of p checks) bodies) f no_fn).code values
  room : limits_of p bodies f ≤ (slice_index_or (map (mid_fn_of p checks) bodies) f no_fn).frame

bodies_stand : (code : MidCode) (p : Program) → IsWellFormed p → (checks : List Ty) (bodies : List Body) → All (IsBody p) bodies → (f : ℕ) → Stands code p checks bodies f
bodies_stand code p formed checks [] own f = record { stand = tt; go = λ values. tt; room = omega arith }
bodies_stand code p formed checks (b ∷ bodies) own zero =
    let h = body_stands code p formed checks b (All-head (IsBody p) b bodies own) in
    record { stand = h.0; go = h.1; room = omega arith }
bodies_stand code p formed checks (b ∷ bodies) own (suc f) =
    let h = bodies_stand code p formed checks bodies (All-tail (IsBody p) b bodies own) f in
    record { stand = h.stand; go = h.go; room = h.room }

pub frames_are_kept : (p : Program) → IsWellFormed p → (f : ℕ) (answers : ℕ → ℕ) (n : ℕ) → InnermostMayGoOn is_of_frame (lowered p) (state_at (lowered p) f answers n) (opens_at (lowered p) f answers n)
frames_are_kept p formed f answers n =
    let all : (g : ℕ) → Stands (lowered p) p (checks_of p) p.bodies g = bodies_stand (lowered p) p formed (checks_of p) p.bodies formed.bodies in
    frames_kept (lowered p) (limits_of p p.bodies) (length p.tasks) (facts_of p (checks_of p) p.bodies) (λ g. (all g).stand) (λ g. (all g).go) (λ g. (all g).room) f answers n (statements_nest p formed f answers n)

pub posts_name_tasks : (p : Program) → IsWellFormed p → (f at k v : ℕ) → slice_get (fn_of (lowered p) f).code at ≡ Some (Post k v) → k < length p.tasks
posts_name_tasks p formed f at k v is =
    posts_task (lowered p) (limits_of p p.bodies f) (length p.tasks) (facts_of p (checks_of p) p.bodies f) (fn_of (lowered p) f).code at k v is
    (bodies_stand (lowered p) p formed (checks_of p) p.bodies formed.bodies f).stand
