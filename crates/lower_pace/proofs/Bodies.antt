-- The functions of a program's bodies keep an action near.
use Rattle.std.proofs.Common.{◌≡◌, ℕ, zero, suc, ◌+◌, ◌*◌, ◌<◌, ◌≤◌, true, List, [], ◌∷◌, ◌++◌, length, Some, None, refl, sym, ap, ◌∙◌, subst, arith}
use Rattle.std.specs.Prelude.{fold, map, max, slice_get, slice_index_or, sum_by}
use Rattle.std.specs.List.{All}
use Rattle.std.proofs.lemmas.List.Elements.{All-head, All-tail}
use Rattle.std.proofs.lemmas.List.Sums.{sum_by-cons}
use Rattle.nesc_core.specs.Plain.{Ty, void, int, pointer, array, struct, Body, Program}
use Rattle.nesc_core.specs.Nodes.{body_nodes_of, nodes_of, stmt_nodes_of}
use Rattle.nesc_core.specs.Weights.{local_bytes, local_bytes_in}
use Rattle.nesc_core.specs.WellFormed.{IsBody, by_return}
use Rattle.core_meaning.specs.Layout.{size_of}
use Rattle.mid_code.specs.declared.instr.Mid.{Mid}
use Rattle.mid_code.specs.declared.instr.Mid.TheVariants.{Ret}
use Rattle.mid_code.specs.declared.code.MidFn.{MidFn}
use Rattle.mid_code.specs.Machine.{fn_of}
use Rattle.lower_expr.specs.declared.spot.Spot.TheVariants.{Frame}
use Rattle.lower_expr.specs.Code.{taken_at}
use Rattle.lower_stmt.specs.Code.{WayOut, breaking, continuing, returning, leads, nothing_code}
use Rattle.lower_stmt.specs.Bodies.{all_bytes, base_of, body_code, bytes_in_frame, spots_from, spots_of, values_of, ways_of}
use Rattle.lower_stmt.proofs.Leaving.{leads_allowed}
use Rattle.lower_stmt.proofs.Weighed.{is_within}
use Rattle.lower_pace.specs.Pace.{IsMeasuredStmt}
use Rattle.lower_pace.proofs.Flow.{Flow, Setting, nothing, plains, returns}
use Rattle.lower_pace.proofs.Exprs.{costs}
use Rattle.lower_pace.proofs.Ways.{Sized, WayLeads, nothing_plain, sizes_from}
use Rattle.lower_pace.proofs.Stmts.{stmt_flows}

-- ---- locals

frame_small : (p : Program) (ts : List Ty) (v o x at : ℕ) → x < length ts → slice_get (spots_from p ts v o) x ≡ Some (Frame at) → at + size_of p (slice_index_or ts x void) ≤ o + all_bytes p ts
frame_small p [] v o x at lt e = absurd (omega (arith, lt))
frame_small p (void ∷ ts) v o zero at lt e = let same : o ≡ at = cc in omega (arith, same)
frame_small p (int t ∷ ts) v o zero at lt e = absurd (cc)
frame_small p (pointer t ∷ ts) v o zero at lt e = absurd (cc)
frame_small p (array t n ∷ ts) v o zero at lt e = let same : o ≡ at = cc in omega (arith, same)
frame_small p (struct k ∷ ts) v o zero at lt e = let same : o ≡ at = cc in omega (arith, same)
frame_small p (t ∷ ts) v o (suc x) at lt e = let h = frame_small p ts (v + values_of t) (o + bytes_in_frame p t) x at (omega (arith, lt)) e in omega (arith, h)

shifted : (p : Program) (t : Ty) (ts : List Ty) (count x : ℕ) → sizes_from p (t ∷ ts) count (suc x) ≡ sizes_from p ts count x
shifted p t ts zero x = refl
shifted p t ts (suc count) x =
    let e : suc x + 1 ≡ suc (x + 1) = omega arith in
    ap (λ k. size_of p (slice_index_or ts x void) + k) (ap (λ y. sizes_from p (t ∷ ts) count y) e ∙ shifted p t ts count (x + 1))

room_for : (p : Program) (ts : List Ty) (count x : ℕ) → x + count ≤ length ts → sizes_from p ts count x ≤ sum_by (λ t. size_of p t) ts
room_for p ts zero x inside = omega arith
room_for p [] (suc count) x inside = absurd (omega (arith, inside))
room_for p (t ∷ ts) (suc count) zero inside =
    let e : sum_by (λ t. size_of p t) (t ∷ ts) ≡ size_of p t + sum_by (λ t. size_of p t) ts = sum_by-cons (λ t. size_of p t) t ts in
    let s : sizes_from p (t ∷ ts) count 1 ≡ sizes_from p ts count 0 = shifted p t ts count 0 in
    let h = room_for p ts count 0 (omega (arith, inside)) in
    omega (arith, e, s, h)
room_for p (t ∷ ts) (suc count) (suc x) inside =
    let e : sum_by (λ t. size_of p t) (t ∷ ts) ≡ size_of p t + sum_by (λ t. size_of p t) ts = sum_by-cons (λ t. size_of p t) t ts in
    let s : sizes_from p (t ∷ ts) (suc count) (suc x) ≡ sizes_from p ts (suc count) x = shifted p t ts (suc count) x in
    let h = room_for p ts (suc count) x (omega (arith, inside)) in
    omega (arith, e, s, h)

-- ---- sums and greatest ones over bodies

most_from : (g : Body → ℕ) (bs : List Body) (most : ℕ) → most ≤ fold (λ m b. max m (g b)) most bs
most_from g [] most = omega arith
most_from g (b ∷ bs) most = let h = most_from g bs (max most (g b)) in omega (arith, h)

most_at : (g : Body → ℕ) (bs : List Body) (most f : ℕ) (b : Body) → slice_get bs f ≡ Some b → g b ≤ fold (λ m b. max m (g b)) most bs
most_at g [] most f b e = absurd (cc)
most_at g (a ∷ bs) most zero b e = let same : a ≡ b = cc in subst (λ c. g c ≤ fold (λ m b. max m (g b)) most (a ∷ bs)) same (let h = most_from g bs (max most (g a)) in omega (arith, h))
most_at g (a ∷ bs) most (suc f) b e = most_at g bs (max most (g a)) f b e

sum_at : (g : Body → ℕ) (bs : List Body) (f : ℕ) (b : Body) → slice_get bs f ≡ Some b → g b ≤ sum_by g bs
sum_at g [] f b e = absurd (cc)
sum_at g (a ∷ bs) zero b e =
    let same : a ≡ b = cc in
    let s : sum_by g (a ∷ bs) ≡ g a + sum_by g bs = sum_by-cons g a bs in
    subst (λ c. g c ≤ sum_by g (a ∷ bs)) same (omega (arith, s))
sum_at g (a ∷ bs) (suc f) b e =
    let s : sum_by g (a ∷ bs) ≡ g a + sum_by g bs = sum_by-cons g a bs in
    let h = sum_at g bs f b e in omega (arith, s, h)

pub bytes_within : (p : Program) (f : ℕ) (b : Body) → slice_get p.bodies f ≡ Some b → local_bytes_in p b ≤ local_bytes p
bytes_within p f b e = most_at (local_bytes_in p) p.bodies 0 f b e

pub nodes_within : (p : Program) (f : ℕ) (b : Body) → slice_get p.bodies f ≡ Some b → stmt_nodes_of b.code ≤ nodes_of p
nodes_within p f b e = sum_at body_nodes_of p.bodies f b e

-- ---- functions

pub fn_some : (g : Body → MidFn) (bs : List Body) (f : ℕ) (b : Body) (none : MidFn) → slice_get bs f ≡ Some b → slice_index_or (map g bs) f none ≡ g b
fn_some g [] f b none e = absurd (cc)
fn_some g (a ∷ bs) zero b none e = let same : a ≡ b = cc in ap g same
fn_some g (a ∷ bs) (suc f) b none e = fn_some g bs f b none e

pub fn_none : (g : Body → MidFn) (bs : List Body) (f : ℕ) (none : MidFn) → slice_get bs f ≡ None → slice_index_or (map g bs) f none ≡ none
fn_none g [] f none e = refl
fn_none g (a ∷ bs) zero none e = absurd (cc)
fn_none g (a ∷ bs) (suc f) none e = fn_none g bs f none e

pub all_at : (P : Body → Type 0) (bs : List Body) (f : ℕ) (b : Body) → All P bs → slice_get bs f ≡ Some b → P b
all_at P [] f b h e = absurd (cc)
all_at P (a ∷ bs) zero b h e = let same : a ≡ b = cc in subst P same (All-head P a bs h)
all_at P (a ∷ bs) (suc f) b h e = all_at P bs f b (All-tail P a bs h) e

pub body_flows : (given : Setting) (p : Program) (checks : List Ty) (b : Body) (bytes big : ℕ) → (fn_of given.code given.f).code ≡ body_code p checks b → IsBody p b → IsMeasuredStmt p b.locals b.code →
    local_bytes_in p b ≤ bytes → given.help + 1200 + 48 * bytes ≤ big → Flow given (50 + costs big (stmt_nodes_of b.code)) (fn_of given.code given.f).code
body_flows given p checks b bytes big is well few within enough =
    let base = base_of b in
    let cn : List Mid = nothing_code b.result (base + 2) in
    let tail : List Mid = cn ++ Ret (taken_at b.result (base + 2)) ∷ [] in
    let rets : Flow given 30 (Ret (taken_at b.result (base + 2)) ∷ []) = returns given 10 30 (taken_at b.result (base + 2)) [] (nothing given 10 (omega arith)) (omega arith) in
    let ends : Flow given 50 tail = plains given 30 50 2 cn _ (nothing_plain b.result (base + 2)) rets (omega arith) in
    let weighs = is_within p checks b in
    let sized : Sized p b.locals (spots_of p b) bytes = record {
      frames = λ x o lt e. let small = frame_small p b.locals 0 0 x o lt e in let le = weighs.within in let most = well.frame in omega (arith, small, le, most);
      room = λ count x inside. let le = room_for p b.locals count x inside in omega (arith, le, within);
    } in
    subst (Flow given (50 + costs big (stmt_nodes_of b.code))) (sym is)
    (stmt_flows given p b.locals checks (spots_of p b) base bytes big sized enough b.code (by_return b.result) (ways_of p b) 0 50 (50 + costs big (stmt_nodes_of b.code)) tail well.code few
    (record { way = ways tail }) ends (record { at = 0; is = is }) (omega arith) (omega arith))
  where
    ways : (u : List Mid) (out : WayOut) → leads b.code out ≡ true → WayLeads given 50 (ways_of p b) out u
    ways u returning e = tt
    ways u breaking e = let no = leads_allowed p b.locals b.code (by_return b.result) breaking well.code e in absurd (cc)
    ways u continuing e = let no = leads_allowed p b.locals b.code (by_return b.result) continuing well.code e in absurd (cc)
