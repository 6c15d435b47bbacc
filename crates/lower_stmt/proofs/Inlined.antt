-- An inlined call enters its locals, runs its body between two Ticks, and leaves its result in a local.
use Rattle.std.proofs.Common.{◌≡◌, ◌≢◌, ℕ, ◌+◌, ◌-◌, ◌<◌, ◌≤◌, Bool, true, false, List, [], ◌∷◌, ◌++◌, All, length, take, Option, Some, None, refl, sym, ap, ◌∙◌, subst, ⊎_elim, ◌⊎◌, inl, inr, arith}
use Rattle.std.proofs.lemmas.List.Elements.{All-cons, All-head, All-nil, All-tail}
use Rattle.std.specs.Prelude.{ℤ, ◌||◌, slice_get, slice_index_or, slice_set, if◌then◌else◌}
use Rattle.nm_base.specs.declared.action.Action.TheVariants as action
use Rattle.nm_base.specs.declared.int_type.IntType.{IntType}
use Rattle.nm_base.specs.Behaviour.{Behaviour, Does}
use Rattle.nesc_core.specs.Plain.{Ty, void, int, pointer, array, struct, Expr, Exprs, Stmt, Stmts, no_stmts, more_stmts}
use Rattle.nesc_core.specs.Plain as plain
use Rattle.nesc_core.specs.Typing.{AllHave, IsScalar}
use Rattle.nesc_core.specs.Typing as typing
use Rattle.nesc_core.specs.WellFormed.{AreStmts, Enters, Exits, IsStmt, by_result, count_exprs}
use Rattle.nesc_core.specs.Heres.{exprs_locals, gives_value, some_gives_value}
use Rattle.nesc_core.specs.Derefs.{exprs_derefs}
use Rattle.nesc_core.specs.Calls.{exprs_calls}
use Rattle.core_meaning.specs.declared.flow.Flow.{Flow}
use Rattle.core_meaning.specs.declared.flow.Flow.TheVariants.{On, Broke, Continued, Gave}
use Rattle.core_meaning.specs.Flow.{result}
use Rattle.core_meaning.specs.Work.{Locals, Work, give, number_of, set_locals}
use Rattle.core_meaning.specs.Act.{fill, holding, values as values_of}
use Rattle.mid_code.specs.declared.instr.Mid.{Mid}
use Rattle.mid_code.specs.declared.instr.Mid.TheVariants.{Label, Tick}
use Rattle.mid_code.specs.Help.{is_wide}
use Rattle.mid_code.specs.Runs.{Runs, Stands}
use Rattle.mid_code.proofs.Runs.{acts_on}
use Rattle.mid_code.proofs.Stands.{does, split}
use Rattle.lower_expr.specs.declared.spot.Spot.{Spot}
use Rattle.lower_expr.specs.Code.{kind_of_spot, local_code, put_code}
use Rattle.lower_expr.specs.Held.{IsHeld, IsHighHeld}
use Rattle.lower_expr.proofs.Found.{as_number}
use Rattle.lower_stmt.specs.Code.{Ways, clears_code, enter_code, here_gives, in_here, nothing_code, result_code}
use Rattle.lower_stmt.specs.Runs.{AreHeld, IsGivenAt, Setting, code, here}
use Rattle.lower_stmt.proofs.Common.{GoesOn, Ready, behind, jumps, past_label}
use Rattle.lower_stmt.proofs.Leaving.{Follows, May, here_may}
use Rattle.lower_stmt.proofs.Exits.{DoesIt, nothing_runs, scalar_not_void}
use Rattle.lower_stmt.proofs.Enters.{clears_runs, drop_at, enter_runs, number_bytes, placed_runs, put_runs, scalar_inside, scalar_result}

or_cases : (a b : Bool) → (a || b) ≡ true → (a ≡ true) ⊎ (b ≡ true)
or_cases true b e = inl refl
or_cases false b e = inr e

-- a statement with a value gives one of the type that is given back
mutual
  pub gives_scalar : (c : Setting) (s : Stmt) (exits : Exits) → IsStmt c.p c.types s exits → gives_value s ≡ true → IsScalar exits.gives
  gives_scalar c (plain.eval e) exits h g = absurd (cc)
  gives_scalar c (plain.block list) exits h g = some_gives_scalar c list exits h g
  gives_scalar c (plain.branch test a b) exits h g = ⊎_elim (λ q. gives_scalar c a exits h.1 q) (λ q. gives_scalar c b exits h.2 q) (or_cases (gives_value a) (gives_value b) g)
  gives_scalar c (plain.loop first test step body) exits h g = gives_scalar c body _ h.2 g
  gives_scalar c (plain.switch e cases list) exits h g = some_gives_scalar c list _ h.2 g
  gives_scalar c plain.break exits h g = absurd (cc)
  gives_scalar c plain.continue exits h g = absurd (cc)
  gives_scalar c (plain.return None) exits h g = absurd (cc)
  gives_scalar c (plain.return (Some e)) exits h g = h.0
  gives_scalar c (plain.atomic s) exits h g = gives_scalar c s exits h g
  gives_scalar c (plain.clear x) exits h g = absurd (cc)
  gives_scalar c (plain.here arguments first count body) exits h g = absurd (cc)

  some_gives_scalar : (c : Setting) (list : Stmts) (exits : Exits) → AreStmts c.p c.types list exits → some_gives_value list ≡ true → IsScalar exits.gives
  some_gives_scalar c no_stmts exits h g = absurd (cc)
  some_gives_scalar c (more_stmts s rest) exits h g = ⊎_elim (λ q. gives_scalar c s exits h.0 q) (λ q. some_gives_scalar c rest exits h.1 q) (or_cases (gives_value s) (some_gives_value rest) g)

-- locals that are none of these
pub none_of : (first count y : ℕ) (xs : List ℕ) → first ≤ y → y < first + count → All (λ x. (x < first) ⊎ (first + count ≤ x)) xs → All (λ x. x ≢ y) xs
none_of first count y [] from below h = All-nil (λ x. x ≢ y)
none_of first count y (x ∷ xs) from below h =
    All-cons (λ x. x ≢ y) x xs (λ e. ⊎_elim (λ lt. omega (arith, lt, e, from)) (λ le. omega (arith, le, e, below)) (All-head (λ x. (x < first) ⊎ (first + count ≤ x)) x xs h))
    (none_of first count y xs from below (All-tail (λ x. (x < first) ⊎ (first + count ≤ x)) x xs h))

-- a number at a place that is as it was
held_there : (t : IntType) (v : ℤ) (old new : ℕ → ℕ) (s : ℕ) → new s ≡ old s → new (s + 1) ≡ old (s + 1) → IsHeld t v old s → IsHeld t v new s
held_there t v old new s e1 e2 h = record { number = h.number; low_half = e1 ∙ h.low_half; high_half = high_there (is_wide t) h.high_half }
  where
    high_there : (wide : Bool) → IsHighHeld wide v old (s + 1) → IsHighHeld wide v new (s + 1)
    high_there true k = e2 ∙ k
    high_there false k = tt

module _ (c : Setting) where
  abbrev r : ℕ
  r = c.base

  abbrev type_at : ℕ → Ty
  type_at x = slice_index_or c.types x void

  -- the result becomes the value of a local, where there is one
  abbrev ResultWork : Bool → ℕ → ℤ → (Locals → Behaviour) → Locals → Behaviour
  ResultWork b x v after = (if b then fill c.p c.types c.calls c.turns x 1 (v ∷ []) else give tt) (λ _. after)

  result_runs : (b : Bool) (x : ℕ) (v : ℤ) (pc end n : ℕ) (after : Locals → Behaviour) (env : Locals) (values frame : ℕ → ℕ) → (b ≡ true → IsScalar (type_at x)) →
      IsGivenAt c (here_gives c.p c.types c.checks c.spots c.base b x) v values → Stands (code c) pc (result_code c.p c.types c.checks c.spots c.base b x) end → AreHeld c env values frame → GoesOn c n end after →
      Runs c.codes n (ResultWork b x v after env) (here c pc values frame)
  result_runs false x v pc end n after env values frame scalar given s h next = behind c n (after env) pc end values frame s (next env values frame h)
  result_runs true x v pc end n after env values frame scalar given s h next =
      let ok : IsScalar (type_at x) = scalar refl in
      let lt : x < length c.types = scalar_inside c.types x ok in
      let spot : Option Spot = slice_get c.spots x in
      let stands : Stands (code c) pc (local_code spot r ++ ([] ++ put_code (kind_of_spot spot) (number_of (type_at x)) (r + 2) r)) end =
      subst (λ (b : Bool). Stands (code c) pc (if b then [] else local_code spot r ++ ([] ++ put_code (kind_of_spot spot) (number_of (type_at x)) (r + 2) r)) end) (scalar_not_void (type_at x) ok) s in
      let s1 = split (code c) pc end (local_code spot r) (put_code (kind_of_spot spot) (number_of (type_at x)) (r + 2) r) stands in
      let number : IsHeld (number_of (type_at x)) v values (r + 2) = as_number (type_at x) v values (r + 2) ok given.is in
      subst (λ ds. Runs c.codes n (set_locals x (holding c.p.structs (take 1 ds) (v ∷ [])) (λ _. after) env) (here c pc values frame)) (sym (drop_at c.types x lt))
      (placed_runs c spot x pc s1.0 n (after (slice_set env x (number_bytes c x v))) env values frame refl lt s1.1 h
      (λ values1 h1 found far. put_runs c spot x v s1.0 end n after env values1 frame ok lt found
      (held_there (number_of (type_at x)) v values values1 (r + 2) (far (r + 2) (omega arith)) (far (r + 2 + 1) (omega arith)) number) s1.2 h1 next))

  module _ (may : May) (w : Ways) (arguments : Exprs) (first count l : ℕ) (gives : Bool) (scalar : gives ≡ true → IsScalar (type_at (first + count))) where
    abbrev pub ways : Ways
    ways = in_here l (here_gives c.p c.types c.checks c.spots c.base gives (first + count)) w

    abbrev pub inner : Exits
    inner = by_result c.p c.types first count

    pub ways_result : typing.IsResult ways.gives
    ways_result = by gives scalar
      where
        by : (b : Bool) → (b ≡ true → IsScalar (type_at (first + count))) → typing.IsResult (here_gives c.p c.types c.checks c.spots c.base b (first + count))
        by true h = scalar_result (type_at (first + count)) (h refl)
        by false h = tt

    pub ways_same : gives ≡ true → ways.gives ≡ inner.gives
    ways_same e = ap (λ b. here_gives c.p c.types c.checks c.spots c.base b (first + count)) e

    abbrev Behind : (Flow → Locals → Behaviour) → Flow → Locals → Behaviour
    Behind after flow env = Does action.Tick (ResultWork gives (first + count) (result flow) (after On) env)

    -- from the label behind the body on
    out_runs : (v : ℤ) (out end n : ℕ) (after : Flow → Locals → Behaviour) → Stands (code c) out (Label l ∷ Tick ∷ result_code c.p c.types c.checks c.spots c.base gives (first + count)) end →
        Follows c may w end n after → (env : Locals) (values frame : ℕ → ℕ) → AreHeld c env values frame → IsGivenAt c ways.gives v values →
        Runs c.codes n (Does action.Tick (ResultWork gives (first + count) v (after On) env)) (here c (out + 1) values frame)
    out_runs v out end n after s next env values frame h given =
        acts_on c.codes n action.Tick (ResultWork gives (first + count) v (after On) env) _ (here c (out + 1 + 1) values frame) (does c.codes c.f c.rest (out + 1) values frame Tick s.1.0)
        (result_runs gives (first + count) v (out + 1 + 1) end n (after On) env values frame scalar given s.1.1 h (λ env1 values1 frame1 h1. next On env1 values1 frame1 end h1 refl))

    body_left : (mid out end n : ℕ) (after : Flow → Locals → Behaviour) → Stands (code c) mid (nothing_code ways.gives (r + 2)) out →
        Stands (code c) out (Label l ∷ Tick ∷ result_code c.p c.types c.checks c.spots c.base gives (first + count)) end → Follows c may w end n after → Follows c here_may ways mid n (Behind after)
    body_left mid out end n after none s next On env values frame pc h left =
        behind c n (Behind after On env) pc mid values frame left
        (nothing_runs c ways.gives mid out n (λ v env1. Does action.Tick (ResultWork gives (first + count) v (after On) env1)) env values frame ways_result none h
        (λ v env1 values1 frame1 h1 given. past_label c n (Does action.Tick (ResultWork gives (first + count) v (after On) env1)) l out values1 frame1 s.0
        (out_runs v out end n after s next env1 values1 frame1 h1 given)))
    body_left mid out end n after none s next Broke env values frame pc h left = absurd (cc left.0)
    body_left mid out end n after none s next Continued env values frame pc h left = absurd (cc left.0)
    body_left mid out end n after none s next (Gave v) env values frame pc h left =
        jumps c n (Behind after (Gave v) env) l pc out values frame left.2 s.0 (out_runs v out end n after s next env values frame h left.1)

    pub here_runs : (pc end : ℕ) (le lc : ℕ) (body_code : List Mid) (body : Work Flow) → Enters c.p c.types arguments first count → Ready c (exprs_derefs arguments) (exprs_calls arguments) →
        All (λ x. (x < first) ⊎ (first + count ≤ x)) (exprs_locals arguments) →
        Stands (code c) pc (enter_code c.p c.types c.checks c.spots c.base arguments first le
        ++ (clears_code c.p c.types c.checks c.spots c.base (count - count_exprs arguments) (first + count_exprs arguments) lc
        ++ (Tick ∷ (body_code ++ (nothing_code ways.gives (r + 2) ++ (Label l ∷ Tick ∷ result_code c.p c.types c.checks c.spots c.base gives (first + count))))))) end →
        ((from to : ℕ) → Stands (code c) from body_code to → DoesIt c here_may ways from to body) →
        DoesIt c may w pc end (λ after. values_of c.p c.types c.calls arguments (λ vs. fill c.p c.types c.calls c.turns first count vs (λ _ env. Does action.Tick (body (Behind after) env))))
    here_runs pc end le lc body_code body enters ready apart s runs =
        let room = enters.room in
        let inside = enters.inside in
        let s1 = split (code c) pc end (enter_code c.p c.types c.checks c.spots c.base arguments first le) _ s in
        let s2 = split (code c) s1.0 end (clears_code c.p c.types c.checks c.spots c.base (count - count_exprs arguments) (first + count_exprs arguments) lc)
        (Tick ∷ (body_code ++ (nothing_code ways.gives (r + 2) ++ (Label l ∷ Tick ∷ result_code c.p c.types c.checks c.spots c.base gives (first + count))))) s1.2 in
        let s3 = split (code c) (s2.0 + 1) end body_code (nothing_code ways.gives (r + 2) ++ (Label l ∷ Tick ∷ result_code c.p c.types c.checks c.spots c.base gives (first + count))) s2.2.1 in
        let s4 = split (code c) s3.0 end (nothing_code ways.gives (r + 2)) (Label l ∷ Tick ∷ result_code c.p c.types c.checks c.spots c.base gives (first + count)) s3.2 in
        let inside_body = runs (s2.0 + 1) s3.0 s3.1 in
        record {
          by = λ n after env values frame few h next.
              enter_runs c arguments count first le pc s1.0 n (λ env1. Does action.Tick (body (Behind after) env1)) env values frame few inside room enters.passed ready
              (λ y from below. none_of first count y (exprs_locals arguments) from below apart) s1.1 h
              (λ env1 values1 frame1 h1. clears_runs c (count - count_exprs arguments) (first + count_exprs arguments) lc s1.0 s2.0 n (λ env2. Does action.Tick (body (Behind after) env2)) env1 values1 frame1 few
              (omega (arith, inside, room)) s2.1 h1
              (λ env2 values2 frame2 h2. acts_on c.codes n action.Tick (body (Behind after) env2) _ (here c (s2.0 + 1) values2 frame2) (does c.codes c.f c.rest s2.0 values2 frame2 Tick s2.2.0)
              (inside_body.by n (Behind after) env2 values2 frame2 few h2 (body_left s3.0 s4.0 end n after s4.1 s4.2 next))));
        }
