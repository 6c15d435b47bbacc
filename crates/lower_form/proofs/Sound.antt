-- The instructions of a well-formed program's code are sound, and the code of a short one is small.
use Rattle.std.proofs.Common.{◌≡◌, ℕ, zero, suc, ◌+◌, ◌*◌, ◌<◌, ◌≤◌, List, [], ◌∷◌, ◌++◌, length, map, Some, All, sum_by, arith}
use Rattle.std.specs.Prelude.{slice_get}
use Rattle.std.proofs.lemmas.List.{length-map}
use Rattle.std.proofs.lemmas.List.Elements.{All-cons, All-head, All-nil, All-tail}
use Rattle.std.proofs.lemmas.List.Sums.{sum_by-cons}
use Rattle.nesc_core.specs.Plain.{Ty, void, Stmt, Body, Program}
use Rattle.nesc_core.specs.Plain as plain
use Rattle.nesc_core.specs.Nodes.{body_nodes_of, stmt_nodes_of}
use Rattle.nesc_core.specs.Weights.{objects_start}
use Rattle.nesc_core.specs.WellFormed.{IsBody, IsWellFormed, by_return}
use Rattle.mid_code.specs.declared.instr.Mid.{Mid}
use Rattle.mid_code.specs.declared.instr.Mid.TheVariants.{Ret}
use Rattle.mid_code.specs.declared.code.MidFn.{MidFn}
use Rattle.lower_expr.specs.declared.spot.Spot.{Spot}
use Rattle.lower_expr.specs.declared.spot.Spot.TheVariants.{Frame}
use Rattle.lower_expr.specs.Code.{check_for, taken_at}
use Rattle.lower_stmt.specs.Code.{nothing_code, stmt_code}
use Rattle.lower_stmt.specs.Bodies.{base_of, body_code, bytes_in_frame, checks_of, lowered, mid_fn_of, spots_from, spots_of, values_of, ways_of}
use Rattle.lower_stmt.proofs.Spots.{frame_inside}
use Rattle.lower_stmt.proofs.Weighed.{is_within}
use Rattle.lower_form.specs.Instructions.{IsSmallCode, IsSound}
use Rattle.lower_form.specs.Short.{IsShort}
use Rattle.lower_form.proofs.Counted.{is_numbered}
use Rattle.lower_form.proofs.Instructions.{Grounds, good_all, good_both, nothing_good, stmt_good}

each_fn : (P : MidFn → Type 0) (Q : Body → Type 0) (p : Program) (checks : List Ty) → ((b : Body) → Q b → P (mid_fn_of p checks b)) → (bs : List Body) → All Q bs → All P (map (mid_fn_of p checks) bs)
each_fn P Q p checks go [] h = All-nil P
each_fn P Q p checks go (b ∷ bs) h = All-cons P (mid_fn_of p checks b) (map (mid_fn_of p checks) bs) (go b (All-head Q b bs h)) (each_fn P Q p checks go bs (All-tail Q b bs h))

spot_there : (p : Program) (ts : List Ty) (v o x : ℕ) (s : Spot) → slice_get (spots_from p ts v o) x ≡ Some s → x < length ts
spot_there p [] v o x s e = absurd (cc)
spot_there p (t ∷ ts) v o zero s e = omega arith
spot_there p (t ∷ ts) v o (suc x) s e = let h = spot_there p ts (v + values_of t) (o + bytes_in_frame p t) x s e in omega (arith, h)

module _ (p : Program) (formed : IsWellFormed p) (b : Body) (own : IsBody p b) where
  grounds : Grounds p b.locals (spots_of p b)
  grounds = record {
    sized = formed.structs;
    start = objects_start;
    objects = formed.addresses;
    framed = λ x from e. (
        let lt = spot_there p b.locals 0 0 x (Frame from) e in
        let le = frame_inside p b.locals x from lt e in
        let within = (is_within p [] b).within in
        let small = own.frame in
        omega (arith, le, within, small)
        );
  }

  body_good : All (IsSound (mid_fn_of p (checks_of p) b).frame) (body_code p (checks_of p) b)
  body_good =
      let frame : ℕ = (mid_fn_of p (checks_of p) b).frame in
      let base : ℕ = base_of b in
      let c : List Mid = stmt_code p b.locals (checks_of p) (spots_of p b) base b.code (ways_of p b) 0 in
      let n : List Mid = nothing_code b.result (base + 2) in
      let even = (is_within p (checks_of p) b).is_even in
      let code = stmt_good frame p b.locals (checks_of p) (spots_of p b) base grounds formed.objects own.locals b.code (by_return b.result) (ways_of p b) 0 own.code (omega arith) (omega (arith, even)) in
      let last = good_both frame n (Ret (taken_at b.result (base + 2)) ∷ []) (nothing_good frame p b.locals (checks_of p) (spots_of p b) base grounds formed.objects own.locals b.result (base + 2)) (record { each = (_, tt) }) in
      good_all frame (c ++ (n ++ Ret (taken_at b.result (base + 2)) ∷ [])) (good_both frame c (n ++ Ret (taken_at b.result (base + 2)) ∷ []) code last).each

pub are_sound : (p : Program) → IsWellFormed p → All (λ fn. All (IsSound fn.frame) fn.code) (lowered p).fns
are_sound p formed = each_fn (λ fn. All (IsSound fn.frame) fn.code) (IsBody p) p (checks_of p) (λ b own. body_good p formed b own) p.bodies formed.bodies

-- ---- sizes

some_nodes : (s : Stmt) → 1 ≤ stmt_nodes_of s
some_nodes (plain.eval e) = omega arith
some_nodes (plain.block list) = omega arith
some_nodes (plain.branch test a b) = omega arith
some_nodes (plain.loop first test step body) = omega arith
some_nodes (plain.switch e cases list) = omega arith
some_nodes plain.break = omega arith
some_nodes plain.continue = omega arith
some_nodes (plain.return e) = omega arith
some_nodes (plain.atomic s) = omega arith
some_nodes (plain.clear x) = omega arith
some_nodes (plain.here arguments first count body) = omega arith

pub bodies_few : (bs : List Body) → length bs ≤ sum_by body_nodes_of bs
bodies_few [] = omega arith
bodies_few (b ∷ bs) =
    let e = sum_by-cons body_nodes_of b bs in
    let one = some_nodes b.code in
    let h = bodies_few bs in
    omega (arith, e, one, h)

pub is_small : (p : Program) → IsWellFormed p → IsShort p → IsSmallCode (lowered p)
is_small p formed short = record {
  frames = each_fn (λ fn. fn.frame + 2 * fn.values ≤ 10240) (IsBody p) p (checks_of p)
      (λ b own. (let within = (is_within p (checks_of p) b).within in let small = own.frame in omega (arith, within, small))) p.bodies formed.bodies;
  places =
      let few = (is_numbered p short).checks in
      let bodies = bodies_few p.bodies in
      let nodes = short.nodes in
      let fns = length-map p.bodies (mid_fn_of p (checks_of p)) in
      let checks = length-map (checks_of p) (check_for p) in
      omega (arith, few, bodies, nodes, fns, checks);
}
