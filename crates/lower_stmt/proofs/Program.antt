-- The functions of a program do what its bodies do.
use Rattle.std.proofs.Common.{◌≡◌, ℕ, zero, suc, ◌+◌, ◌<◌, ◌≤◌, true, false, List, [], ◌∷◌, ◌++◌, length, take, map, Some, refl, sym, ap, ◌∙◌, subst, arith, append_assoc, append-nil, length-append}
use Rattle.std.specs.Prelude.{ℤ, pos, slice_get, slice_index_or, sum_by}
use Rattle.std.proofs.Math.Seq.{get_or-append_seam}
use Rattle.std.proofs.lemmas.Option.{slice_get-get_or}
use Rattle.std.proofs.lemmas.List.Sums.{sum_by-cons}
use Rattle.nm_base.specs.Behaviour.{Behaviour}
use Rattle.nesc_core.specs.Plain.{Ty, void, int, pointer, array, struct, Body, Program}
use Rattle.nesc_core.specs.Typing.{IsOf, IsScalar}
use Rattle.nesc_core.specs.Typing as typing
use Rattle.nesc_core.specs.Calls.{HasNoCycle}
use Rattle.nesc_core.specs.WellFormed.{Exits, IsBody, IsWellFormed, by_return}
use Rattle.nesc_core.specs.Weights.{even}
use Rattle.core_meaning.specs.Layout.{size_of}
use Rattle.core_meaning.specs.declared.flow.Flow.TheVariants.{On, Broke, Continued, Gave}
use Rattle.core_meaning.specs.Flow.{result}
use Rattle.core_meaning.specs.Work.{number_of}
use Rattle.core_meaning.specs.Act.{Calls, calls_of, enter, holding, run}
use Rattle.mid_code.specs.declared.instr.Mid.{Mid}
use Rattle.mid_code.specs.declared.instr.Mid.TheVariants.{Ret}
use Rattle.mid_code.specs.declared.code.MidFn.{MidFn}
use Rattle.mid_code.specs.declared.code.MidCode.{MidCode}
use Rattle.mid_code.specs.Help.{is_wide}
use Rattle.mid_code.specs.Machine.{Activation, entry, fn_of, give_back, no_fn, put_all, step}
use Rattle.mid_code.specs.Runs.{Runs, Stands}
use Rattle.mid_code.proofs.Stands.{does, split}
use Rattle.lower_expr.specs.Locals.{IsResult, LieApart}
use Rattle.lower_expr.specs.Code.{is_void, taken_at}
use Rattle.lower_expr.specs.Runs.{AreOf, CallsRun, given, passed}
use Rattle.lower_expr.proofs.Called.{body_formed}
use Rattle.lower_expr.proofs.Helped.{held_halves}
use Rattle.lower_stmt.specs.Code.{nothing_code, stmt_code}
use Rattle.lower_stmt.specs.Bodies.{all_bytes, base_of, body_code, bytes_in_frame, checks_of, lowered, mid_fn_of, params_from, spots_of, ways_of}
use Rattle.lower_stmt.specs.Runs.{Follows, IsGivenAt, MayStand, Setting, code, here}
use Rattle.lower_stmt.specs.Correct.{AreLabelled}
use Rattle.lower_stmt.proofs.Common.{behind}
use Rattle.lower_stmt.proofs.Exits.{nothing_runs}
use Rattle.lower_stmt.proofs.Statements.{statement_runs}
use Rattle.lower_stmt.proofs.Spots.{frame_apart, frame_inside, in_values}
use Rattle.lower_stmt.proofs.Entry.{entry_holds}
use Rattle.lower_stmt.proofs.Alone.{heres_apart}
use Rattle.lower_stmt.proofs.Dereferenced.{checks_there}

-- all of the code stands from its first place on
stands_behind : (is pre : List Mid) → Stands (pre ++ is) (length pre) is (length (pre ++ is))
stands_behind [] pre = ap length (sym (append-nil pre))
stands_behind (i ∷ is) pre =
    let within : length pre < length (pre ++ i ∷ is) = omega (arith, length-append pre (i ∷ is)) in
    let here = slice_get-get_or (pre ++ i ∷ is) (length pre) i within ∙ ap Some (get_or-append_seam pre i is i) in
    let n : length (pre ++ i ∷ []) ≡ length pre + 1 = omega (arith, length-append pre (i ∷ [])) in
    let rest = stands_behind is (pre ++ i ∷ []) in
    let rest1 = subst (λ l. Stands l (length (pre ++ i ∷ [])) is (length l)) (append_assoc pre (i ∷ []) is) rest in
    (here, subst (λ m. Stands (pre ++ i ∷ is) m is (length (pre ++ i ∷ is))) n rest1)

-- ---- the function of a body

fn_is : (p : Program) (checks : List Ty) (bodies : List Body) (g : ℕ) (b : Body) → slice_get bodies g ≡ Some b → slice_index_or (map (mid_fn_of p checks) bodies) g no_fn ≡ mid_fn_of p checks b
fn_is p checks [] g b is = absurd (cc)
fn_is p checks (x ∷ bodies) zero b is = let e : x ≡ b = cc in ap (mid_fn_of p checks) e
fn_is p checks (x ∷ bodies) (suc g) b is = fn_is p checks bodies g b is

in_frame_small : (p : Program) (t : Ty) → bytes_in_frame p t ≤ even (size_of p t)
in_frame_small p void = omega arith
in_frame_small p (int t) = omega arith
in_frame_small p (pointer t) = omega arith
in_frame_small p (array t n) = omega arith
in_frame_small p (struct k) = omega arith

bytes_small : (p : Program) (ts : List Ty) → all_bytes p ts ≤ sum_by (λ t. even (size_of p t)) ts
bytes_small p [] = omega arith
bytes_small p (t ∷ ts) =
    let e : sum_by (λ t. even (size_of p t)) (t ∷ ts) ≡ even (size_of p t) + sum_by (λ t. even (size_of p t)) ts = sum_by-cons (λ t. even (size_of p t)) t ts in
    let first = in_frame_small p t in
    let rest = bytes_small p ts in
    omega (arith, e, first, rest)

-- the values of a result that is given back
given_is : (ty : Ty) (v : ℤ) (values : ℕ → ℕ) (r : ℕ) → typing.IsResult ty → IsResult ty v values r → map values (taken_at ty r) ≡ given ty v
given_is void v values r ok h = refl
given_is (int t) v values r ok h = held_halves (is_wide t) v values r h.low_half h.high_half
given_is (pointer t) v values r ok h = held_halves false v values r h.low_half h.high_half
given_is (array t n) v values r ok h = absurd ok
given_is (struct k) v values r ok h = absurd ok

module _ (p : Program) (formed : IsWellFormed p) (ranked : HasNoCycle p) (labelled : AreLabelled (lowered p)) (turns : ℕ) where
  abbrev codes : MidCode
  codes = lowered p

  abbrev rank : ℕ → ℕ
  rank = ranked.rank

  -- what comes behind a call, from wherever its result is given back
  abbrev Back : Body → List Activation → (n : ℕ) → (ℤ → Behaviour) → Type 0
  Back b under n after =
      (v : ℤ) (s : List Activation) → IsOf (number_of b.result) v → (is_void b.result ≡ true → v ≡ pos 0) → step codes s ≡ give_back codes under (given b.result v) → Runs codes n (after v) s

  module _ (g : ℕ) (b : Body) (is : slice_get p.bodies g ≡ Some b) (under : List Activation) (calls : Calls) (calls_run : (n : ℕ) → n ≤ turns → CallsRun codes n p rank (rank g) calls) where
    own : IsBody p b
    own = body_formed p g b formed is

    function : fn_of codes g ≡ mid_fn_of p (checks_of p) b
    function = fn_is p (checks_of p) p.bodies g b is

    lie : LieApart p b.locals (spots_of p b) (mid_fn_of p (checks_of p) b).frame
    lie = record {
      small = (let weight = own.frame in let small = bytes_small p b.locals in omega (arith, weight, small));
      inside = λ x from lt e. (let le = frame_inside p b.locals x from lt e in omega (arith, le));
      apart = λ x y from other lx ly differ ex ey. frame_apart p b.locals x y from other lx ly differ ex ey;
      in_values = λ x regs lt e. in_values p b.locals x regs lt e;
    }

    setting : Setting
    setting = record {
      codes = codes;
      f = g;
      rest = under;
      p = p;
      types = b.locals;
      checks = checks_of p;
      spots = spots_of p b;
      base = base_of b;
      rank = rank;
      below = rank g;
      turns = turns;
      calls = calls;
      fits = record { labelled = labelled g; formed = formed; checked = refl; lie = subst (λ (fn : MidFn). LieApart p b.locals (spots_of p b) fn.frame) (sym function) lie };
      calls_run = calls_run;
    }

    abbrev exits : Exits
    exits = by_return b.result

    may : MayStand setting b.code exits (ways_of p b)
    unfolding setting
    may = record {
      typed = own.code;
      gives = record { result = own.given; same = λ e. refl };
      apart = heres_apart b.code own.heres;
      ready = record { checked = checks_there p g b is; lower = ranked.falls g b is };
    }

    module _ (n : ℕ) (few : n ≤ turns) (after : ℤ → Behaviour) (back : Back b under n after) where
      returns : (v : ℤ) (pc : ℕ) (values frame : ℕ → ℕ) → slice_get (code setting) pc ≡ Some (Ret (taken_at b.result (base_of b + 2))) → IsGivenAt setting b.result v values →
          Runs codes n (after v) (here setting pc values frame)
      unfolding setting
      returns v pc values frame at given_at =
          back v (here setting pc values frame) given_at.number given_at.nothing
          (does codes g under pc values frame (Ret (taken_at b.result (base_of b + 2))) at ∙ ap (give_back codes under) (given_is b.result v values (base_of b + 2) own.given given_at.is))

      left : (mid out end : ℕ) → Stands (code setting) mid (nothing_code b.result (base_of b + 2)) out → Stands (code setting) out (Ret (taken_at b.result (base_of b + 2)) ∷ []) end →
          Follows setting exits (ways_of p b) mid n (λ flow locals. after (result flow))
      unfolding setting
      left mid out end none ret On env values frame pc h at =
          behind setting n (after (pos 0)) pc mid values frame at
          (nothing_runs setting b.result mid out n (λ v locals. after v) env values frame own.given none h (λ v env1 values1 frame1 h1 given_at. returns v out values1 frame1 ret.0 given_at))
      left mid out end none ret Broke env values frame pc h at = absurd (cc at.0)
      left mid out end none ret Continued env values frame pc h at = absurd (cc at.0)
      left mid out end none ret (Gave v) env values frame pc h at = returns v pc values frame at.1 at.0

      pub body_runs : (vs : List ℤ) → AreOf (take b.params b.locals) vs →
          Runs codes n (run p b.locals calls turns b.code (λ flow locals. after (result flow)) (holding p.structs b.locals vs)) (entry codes g (passed (take b.params b.locals) vs) ∷ under)
      unfolding setting
      body_runs vs of =
          let all : Stands (code setting) 0 (body_code p (checks_of p) b) (length (body_code p (checks_of p) b)) =
          subst (λ (fn : MidFn). Stands fn.code 0 (body_code p (checks_of p) b) (length (body_code p (checks_of p) b))) (sym function) (stands_behind (body_code p (checks_of p) b) []) in
          let s1 = split (code setting) 0 (length (body_code p (checks_of p) b)) (stmt_code p b.locals (checks_of p) (spots_of p b) (base_of b) b.code (ways_of p b) 0) _ all in
          let s2 = split (code setting) s1.0 (length (body_code p (checks_of p) b)) (nothing_code b.result (base_of b + 2)) (Ret (taken_at b.result (base_of b + 2)) ∷ []) s1.2 in
          let first : ℕ → ℕ = put_all (λ (i : ℕ). 0) (params_from (take b.params b.locals) 0) (passed (take b.params b.locals) vs) in
          let at_start : entry codes g (passed (take b.params b.locals) vs) ∷ under ≡ here setting 0 first (λ (i : ℕ). 0) =
          ap (λ (fn : MidFn). record { f = g; at = 0; values = put_all (λ (i : ℕ). 0) fn.params (passed (take b.params b.locals) vs); frame = λ (i : ℕ). 0 } ∷ under) function in
          subst (λ s. Runs codes n (run p b.locals calls turns b.code (λ flow locals. after (result flow)) (holding p.structs b.locals vs)) s) (sym at_start)
          ((statement_runs setting b.code exits (ways_of p b) 0 0 s1.0 may s1.1).by n (λ flow locals. after (result flow)) (holding p.structs b.locals vs) first (λ (i : ℕ). 0) few
          (entry_holds p b.locals b.params vs own.params own.passed of) (left s1.0 s2.0 (length (body_code p (checks_of p) b)) s2.1 s2.2))

  -- ---- calls

  abbrev CallRuns : (depth n : ℕ) → Type 0
  CallRuns depth n =
      (g : ℕ) (b : Body) (vs : List ℤ) (after : ℤ → Behaviour) (under : List Activation) → slice_get p.bodies g ≡ Some b → rank g < depth → AreOf (take b.params b.locals) vs → Back b under n after →
      Runs codes n (calls_of p depth turns g vs after) (entry codes g (passed (take b.params b.locals) vs) ∷ under)

  -- of ranks below a lower one
  fewer_calls : (below depth n : ℕ) → below ≤ depth → CallRuns depth n → CallsRun codes n p rank below (calls_of p depth turns)
  fewer_calls below depth n le runs = record {
    by = λ g b vs after under is lt of back. runs g b vs after under is (omega (arith, lt, le)) of (λ v s number nothing e. back v s number e);
  }

  pub call_runs : (depth n : ℕ) → n ≤ turns → CallRuns depth n
  call_runs zero n few g b vs after under is lt of back = absurd (omega (arith, lt))
  call_runs (suc depth) n few g b vs after under is lt of back =
      subst (λ o. Runs codes n (enter p o (calls_of p depth turns) turns vs after) (entry codes g (passed (take b.params b.locals) vs) ∷ under)) (sym is)
      (body_runs g b is under (calls_of p depth turns) (λ m le. fewer_calls (rank g) depth m (omega (arith, lt)) (call_runs depth m le)) n few after back vs of)

  pub all_calls : (below n : ℕ) → n ≤ turns → CallsRun codes n p rank below (calls_of p below turns)
  all_calls below n few = fewer_calls below below n (omega arith) (call_runs below n few)
