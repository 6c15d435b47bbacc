-- The code of a statement does what the statement does, form by form.
use Rattle.std.proofs.Common.{◌≡◌, ℕ, zero, suc, ◌+◌, ◌*◌, ◌<◌, ◌≤◌, Bool, true, false, [], ◌++◌, length, take, Some, refl, sym, ap, ◌∙◌, subst, arith}
use Rattle.std.specs.Prelude.{slice_get}
use Rattle.nesc_core.specs.Plain.{Ty, Stmt, Stmts, no_stmts, more_stmts}
use Rattle.nesc_core.specs.Plain as plain
use Rattle.nesc_core.specs.Typing as typing
use Rattle.nesc_core.specs.WellFormed.{AreStmts, Exits, count_exprs, count_stmts}
use Rattle.nesc_core.specs.WellFormed as formed
use Rattle.nesc_core.specs.Heres.{gives_value, some_gives_value}
use Rattle.nesc_core.specs.Derefs.{expr_derefs, exprs_derefs, maybe_derefs, stmt_derefs, stmts_derefs}
use Rattle.nesc_core.specs.Calls.{expr_calls, exprs_calls, maybe_calls, stmt_calls, stmts_calls}
use Rattle.nm_base.specs.Behaviour.{Behaviour}
use Rattle.core_meaning.specs.declared.flow.Flow.{Flow}
use Rattle.core_meaning.specs.declared.flow.Flow.TheVariants.{On}
use Rattle.core_meaning.specs.Flow.{on}
use Rattle.core_meaning.specs.Work.{Locals, Work, set_locals}
use Rattle.core_meaning.specs.Act.{holding, run, run_from}
use Rattle.mid_code.specs.declared.instr.Mid.TheVariants.{Label}
use Rattle.mid_code.specs.Runs.{Runs, Stands}
use Rattle.mid_code.proofs.Stands.{split}
use Rattle.lower_expr.specs.Code.{all_labels, labels}
use Rattle.lower_stmt.specs.Code.{Ways, breaking, continuing, returning, here_gives, in_atomic, in_here, in_loop, in_switch, leads, maybe_labels, some_leads, stmt_code, stmt_labels, stmts_code, switch_code}
use Rattle.lower_stmt.specs.Runs.{AllHeresApart, AreHeld, Follows, MayStand, Setting, code, here}
use Rattle.lower_stmt.proofs.Leaving.{May, Within, from_exits, here_may, here_within, loop_may, loop_within, or_first, or_second, switch_may, switch_within}
use Rattle.lower_stmt.proofs.Common.{Ready, behind, past_label, two_ready}
use Rattle.lower_stmt.proofs.Exits.{DoesIt, atomic_runs, break_runs, continue_runs, eval_runs, on_follows, return_runs, step_runs}
use Rattle.lower_stmt.proofs.Loops.{first_loop_runs, last_loop_runs}
use Rattle.lower_stmt.proofs.Branches.{branch_runs}
use Rattle.lower_stmt.proofs.Cases.{Starts, switch_runs}
use Rattle.lower_stmt.proofs.Clears.{clear_runs}
use Rattle.lower_stmt.proofs.Enters.{drop_at}
use Rattle.lower_stmt.proofs.Inlined.{gives_scalar, here_runs, ways_result, ways_same}

-- what statements behind one another need
record MayAll (c : Setting) (list : Stmts) (exits : Exits) (w : Ways) : Type 0 where
  typed : AreStmts c.p c.types list exits
  result : typing.IsResult w.gives
  same : some_gives_value list ≡ true → w.gives ≡ exits.gives
  apart : AllHeresApart list
  ready : Ready c (stmts_derefs list) (stmts_calls list)

module _ (c : Setting) where
  first_of : (s : Stmt) (rest : Stmts) (exits : Exits) (w : Ways) → MayAll c (more_stmts s rest) exits w → MayStand c s exits w
  first_of s rest exits w h = record {
    typed = h.typed.0;
    gives = record { result = h.result; same = λ e. h.same (or_first (gives_value s) (some_gives_value rest) e) };
    apart = h.apart.0;
    ready = (two_ready c (stmt_derefs s) (stmts_derefs rest) (stmt_calls s) (stmts_calls rest) h.ready).0;
  }

  rest_of : (s : Stmt) (rest : Stmts) (exits : Exits) (w : Ways) → MayAll c (more_stmts s rest) exits w → MayAll c rest exits w
  rest_of s rest exits w h = record {
    typed = h.typed.1;
    result = h.result;
    same = λ e. h.same (or_second (gives_value s) (some_gives_value rest) e);
    apart = h.apart.1;
    ready = (two_ready c (stmt_derefs s) (stmts_derefs rest) (stmt_calls s) (stmts_calls rest) h.ready).1;
  }

  -- one statement, and what is behind it
  then_runs : (s : Stmt) (rest : Stmts) (may : May) (w : Ways) (pc mid end : ℕ) → DoesIt c may w pc mid (run c.p c.types c.calls c.turns s) → DoesIt c may w mid end (run_from c.p c.types c.calls c.turns rest zero) →
      DoesIt c may w pc end (run_from c.p c.types c.calls c.turns (more_stmts s rest) zero)
  then_runs s rest may w pc mid end first second = record {
    by = λ n after env values frame few h next.
        first.by n (λ flow. on flow (run_from c.p c.types c.calls c.turns rest zero) after) env values frame few h
        (on_follows c may w mid end n (run_from c.p c.types c.calls c.turns rest zero) after next (λ env1 values1 frame1 h1. second.by n after env1 values1 frame1 few h1 next));
  }

  -- statements behind their labels: all of them, and from each on
  record SwitchRuns (list : Stmts) (may : May) (w : Ways) (k pc end : ℕ) : Type 0 where
    all : DoesIt c may w pc end (run_from c.p c.types c.calls c.turns list zero)
    from : (j : ℕ) → j < count_stmts list → Starts c may w (k + j) end (run_from c.p c.types c.calls c.turns list j)

  more_switch : (s : Stmt) (rest : Stmts) (may : May) (w : Ways) (k pc mid end : ℕ) → slice_get (code c) pc ≡ Some (Label k) → DoesIt c may w (pc + 1) mid (run c.p c.types c.calls c.turns s) →
      SwitchRuns rest may w (suc k) mid end → SwitchRuns (more_stmts s rest) may w k pc end
  more_switch s rest may w k pc mid end label first others =
      let whole = then_runs s rest may w (pc + 1) mid end first others.all in
      record {
        all = record { by = λ n after env values frame few h next. past_label c n (run_from c.p c.types c.calls c.turns (more_stmts s rest) zero after env) k pc values frame label (whole.by n after env values frame few h next) };
        from = starts whole;
      }
    where
      starts : DoesIt c may w (pc + 1) end (run_from c.p c.types c.calls c.turns (more_stmts s rest) zero) → (j : ℕ) → j < count_stmts (more_stmts s rest) →
          Starts c may w (k + j) end (run_from c.p c.types c.calls c.turns (more_stmts s rest) j)
      starts whole zero lt = let e : k ≡ k + 0 = omega arith in record { to = pc; label = label ∙ ap (λ q. Some (Label q)) e; runs = whole }
      starts whole (suc j) lt =
          let there = others.from j (omega (arith, lt)) in
          let e : suc k + j ≡ k + suc j = omega arith in
          record { to = there.to; label = there.label ∙ ap (λ q. Some (Label q)) e; runs = there.runs }

  -- a local that is set to 0
  cleared : (x : ℕ) (may : May) (w : Ways) (l pc end : ℕ) → x < length c.types → Stands (code c) pc (stmt_code c.p c.types c.checks c.spots c.base (plain.clear x) w l) end →
      DoesIt c may w pc end (run c.p c.types c.calls c.turns (plain.clear x))
  cleared x may w l pc end lt s = record {
    by = λ n after env values frame few h next.
        subst (λ ds. Runs c.codes n (set_locals x (holding c.p.structs (take 1 ds) []) (λ _. after On) env) (here c pc values frame)) (sym (drop_at c.types x lt))
        ((clear_runs c x l pc end lt s).by n (after On) env values frame few h (λ env1 values1 frame1 h1. next On env1 values1 frame1 end h1 refl));
  }

  mutual
    pub stmt_runs : (s : Stmt) (exits : Exits) (may : May) (w : Ways) (l pc end : ℕ) → MayStand c s exits w → Within (leads s) may → Stands (code c) pc (stmt_code c.p c.types c.checks c.spots c.base s w l) end →
        DoesIt c may w pc end (run c.p c.types c.calls c.turns s)
    stmt_runs (plain.eval e) exits may w l pc end ok within s = eval_runs c e may w l pc end ok.typed ok.ready s
    stmt_runs (plain.block list) exits may w l pc end ok within s =
        stmts_run list exits may w l pc end (record { typed = ok.typed; result = ok.gives.result; same = ok.gives.same; apart = ok.apart; ready = ok.ready }) (λ out e. within out e) s
    stmt_runs (plain.branch test a b) exits may w l pc end ok within s =
        let two = two_ready c (expr_derefs test ++ stmt_derefs a) (stmt_derefs b) (expr_calls test ++ stmt_calls a) (stmt_calls b) ok.ready in
        let one = two_ready c (expr_derefs test) (stmt_derefs a) (expr_calls test) (stmt_calls a) two.0 in
        let ok_a : MayStand c a exits w = record {
          typed = ok.typed.1;
          gives = record { result = ok.gives.result; same = λ e. ok.gives.same (or_first (gives_value a) (gives_value b) e) };
          apart = ok.apart.0;
          ready = one.1;
        } in
        let ok_b : MayStand c b exits w = record {
          typed = ok.typed.2;
          gives = record { result = ok.gives.result; same = λ e. ok.gives.same (or_second (gives_value a) (gives_value b) e) };
          apart = ok.apart.1;
          ready = two.1;
        } in
        branch_runs c may w test (run c.p c.types c.calls c.turns a) (run c.p c.types c.calls c.turns b) l (l + 2) pc end (stmt_code c.p c.types c.checks c.spots c.base a w (l + 2 + labels test))
        (stmt_code c.p c.types c.checks c.spots c.base b w (l + 2 + labels test + stmt_labels a)) ok.typed.0 one.0 s
        (λ from to h. stmt_runs a exits may w (l + 2 + labels test) from to ok_a (λ out e. within out (or_first (leads a out) (leads b out) e)) h) (λ from to h. stmt_runs b exits may w (l + 2 + labels test + stmt_labels a) from to ok_b (λ out e. within out (or_second (leads a out) (leads b out) e)) h)
    stmt_runs (plain.loop true test step body) exits may w l pc end ok within s =
        let two = two_ready c (expr_derefs test ++ maybe_derefs step) (stmt_derefs body) (expr_calls test ++ maybe_calls step) (stmt_calls body) ok.ready in
        let one = two_ready c (expr_derefs test) (maybe_derefs step) (expr_calls test) (maybe_calls step) two.0 in
        let lb : ℕ = l + 3 + labels test + maybe_labels step in
        let inner : Ways = in_loop (l + 1) (l + 2) w in
        let ok_body : MayStand c body (formed.in_loop exits) inner = record { typed = ok.typed.2; gives = record { result = ok.gives.result; same = ok.gives.same }; apart = ok.apart; ready = two.1 } in
        first_loop_runs c may w test (run c.p c.types c.calls c.turns body) _ ok.typed.0 one.0 l (l + 3) pc end (stmt_code c.p c.types c.checks c.spots c.base body inner lb) _ s
        (λ from to h. stmt_runs body (formed.in_loop exits) (loop_may may) inner lb from to ok_body (loop_within (leads body) may (λ e. within returning e)) h) (λ from to h. step_runs c step (l + 3 + labels test) from to ok.typed.1 one.1 h)
    stmt_runs (plain.loop false test step body) exits may w l pc end ok within s =
        let two = two_ready c (expr_derefs test ++ maybe_derefs step) (stmt_derefs body) (expr_calls test ++ maybe_calls step) (stmt_calls body) ok.ready in
        let one = two_ready c (expr_derefs test) (maybe_derefs step) (expr_calls test) (maybe_calls step) two.0 in
        let lb : ℕ = l + 3 + labels test + maybe_labels step in
        let inner : Ways = in_loop (l + 1) (l + 2) w in
        let ok_body : MayStand c body (formed.in_loop exits) inner = record { typed = ok.typed.2; gives = record { result = ok.gives.result; same = ok.gives.same }; apart = ok.apart; ready = two.1 } in
        last_loop_runs c may w test (run c.p c.types c.calls c.turns body) _ ok.typed.0 one.0 l (l + 3) pc end (stmt_code c.p c.types c.checks c.spots c.base body inner lb) s
        (λ from to h. stmt_runs body (formed.in_loop exits) (loop_may may) inner lb from to ok_body (loop_within (leads body) may (λ e. within returning e)) h)
    stmt_runs (plain.switch e cases list) exits may w l pc end ok within s =
        let two = two_ready c (expr_derefs e) (stmts_derefs list) (expr_calls e) (stmts_calls list) ok.ready in
        let ls : ℕ = l + 1 + count_stmts list + labels e in
        let inner : Ways = in_switch l w in
        let ok_all : MayAll c list (formed.in_switch exits) inner = record { typed = ok.typed.2; result = ok.gives.result; same = ok.gives.same; apart = ok.apart; ready = two.1 } in
        switch_runs c may w e cases (count_stmts list) l (l + 1 + count_stmts list) pc end (switch_code c.p c.types c.checks c.spots c.base list inner (l + 1) ls) (run_from c.p c.types c.calls c.turns list)
        ok.typed.0 two.0 ok.typed.1 s
        (λ from to h k lt. (switch_run list (formed.in_switch exits) (switch_may may) inner (l + 1) ls from to ok_all (switch_within (some_leads list) may (λ e. within returning e) (λ e. within continuing e)) h).from k lt)
    stmt_runs plain.break exits may w l pc end ok within s = break_runs c may w pc end (within breaking refl) s
    stmt_runs plain.continue exits may w l pc end ok within s = continue_runs c may w pc end (within continuing refl) s
    stmt_runs (plain.return e) exits may w l pc end ok within s = return_runs c e exits may w l pc end (within returning refl) ok.typed ok.gives ok.ready s
    stmt_runs (plain.atomic inner) exits may w l pc end ok within s =
        let ways : Ways = in_atomic l w in
        let ok_inner : MayStand c inner exits ways = record { typed = ok.typed; gives = record { result = ok.gives.result; same = ok.gives.same }; apart = ok.apart; ready = ok.ready } in
        atomic_runs c (leads inner) may w l pc end (stmt_code c.p c.types c.checks c.spots c.base inner ways (l + 6)) (run c.p c.types c.calls c.turns inner) (λ out e. within out e) s
        (λ from to h. stmt_runs inner exits (leads inner) ways (l + 6) from to ok_inner (λ out e. e) h)
    stmt_runs (plain.clear x) exits may w l pc end ok within s = cleared x may w l pc end ok.typed s
    stmt_runs (plain.here arguments first count body) exits may w l pc end ok within s =
        let two = two_ready c (exprs_derefs arguments) (stmt_derefs body) (exprs_calls arguments) (stmt_calls body) ok.ready in
        let gives : Bool = gives_value body in
        let inner : Exits = formed.by_result c.p c.types first count in
        let scalar = gives_scalar c body inner ok.typed.1 in
        let ways : Ways = in_here l (here_gives c.p c.types c.checks c.spots c.base gives (first + count)) w in
        let lb : ℕ = l + 1 + all_labels arguments + 2 * count in
        let ok_body : MayStand c body inner ways = record {
          typed = ok.typed.1;
          gives = record { result = ways_result c may w arguments first count l gives scalar; same = ways_same c may w arguments first count l gives scalar };
          apart = ok.apart.1;
          ready = two.1;
        } in
        here_runs c may w arguments first count l gives scalar pc end (l + 1) (l + 1 + all_labels arguments) (stmt_code c.p c.types c.checks c.spots c.base body ways lb) (run c.p c.types c.calls c.turns body)
        ok.typed.0 two.0 ok.apart.0 s (λ from to h. stmt_runs body inner here_may ways lb from to ok_body (here_within c.p c.types body inner.gives ok.typed.1) h)

    stmts_run : (list : Stmts) (exits : Exits) (may : May) (w : Ways) (l pc end : ℕ) → MayAll c list exits w → Within (some_leads list) may → Stands (code c) pc (stmts_code c.p c.types c.checks c.spots c.base list w l) end →
        DoesIt c may w pc end (run_from c.p c.types c.calls c.turns list zero)
    stmts_run no_stmts exits may w l pc end ok within s = record { by = λ n after env values frame few h next. behind c n (after On env) pc end values frame s (next On env values frame end h refl) }
    stmts_run (more_stmts first rest) exits may w l pc end ok within s =
        let s1 = split (code c) pc end (stmt_code c.p c.types c.checks c.spots c.base first w l) _ s in
        then_runs first rest may w pc s1.0 end (stmt_runs first exits may w l pc s1.0 (first_of first rest exits w ok) (λ out e. within out (or_first (leads first out) (some_leads rest out) e)) s1.1)
        (stmts_run rest exits may w (l + stmt_labels first) s1.0 end (rest_of first rest exits w ok) (λ out e. within out (or_second (leads first out) (some_leads rest out) e)) s1.2)

    switch_run : (list : Stmts) (exits : Exits) (may : May) (w : Ways) (k l pc end : ℕ) → MayAll c list exits w → Within (some_leads list) may → Stands (code c) pc (switch_code c.p c.types c.checks c.spots c.base list w k l) end →
        SwitchRuns list may w k pc end
    switch_run no_stmts exits may w k l pc end ok within s = record {
      all = record { by = λ n after env values frame few h next. behind c n (after On env) pc end values frame s (next On env values frame end h refl) };
      from = λ j lt. absurd (omega (arith, lt));
    }
    switch_run (more_stmts first rest) exits may w k l pc end ok within s =
        let s1 = split (code c) (pc + 1) end (stmt_code c.p c.types c.checks c.spots c.base first w l) (switch_code c.p c.types c.checks c.spots c.base rest w (suc k) (l + stmt_labels first)) s.1 in
        more_switch first rest may w k pc s1.0 end s.0 (stmt_runs first exits may w l (pc + 1) s1.0 (first_of first rest exits w ok) (λ out e. within out (or_first (leads first out) (some_leads rest out) e)) s1.1)
        (switch_run rest exits may w (suc k) (l + stmt_labels first) s1.0 end (rest_of first rest exits w ok) (λ out e. within out (or_second (leads first out) (some_leads rest out) e)) s1.2)

  -- a statement, where what comes after it runs from each exit that is allowed
  pub record LeavesIt (exits : Exits) (w : Ways) (pc end : ℕ) (work : Work Flow) : Type 0 where
    pub by : (n : ℕ) (after : Flow → Locals → Behaviour) (env : Locals) (values frame : ℕ → ℕ) → n ≤ c.turns → AreHeld c env values frame →
        Follows c exits w end n after → Runs c.codes n (work after env) (here c pc values frame)

  pub statement_runs : (s : Stmt) (exits : Exits) (w : Ways) (l pc end : ℕ) → MayStand c s exits w → Stands (code c) pc (stmt_code c.p c.types c.checks c.spots c.base s w l) end →
      LeavesIt exits w pc end (run c.p c.types c.calls c.turns s)
  statement_runs s exits w l pc end ok stands = record {
    by = λ n after env values frame few h next.
        (stmt_runs s exits (leads s) w l pc end ok (λ out e. e) stands).by n after env values frame few h (from_exits c s exits w end n after ok.typed next);
  }
