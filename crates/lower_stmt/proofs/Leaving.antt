-- How a statement is left, by those ways out alone that its parts have.
use Rattle.std.proofs.Common.{◌≡◌, ℕ, ◌+◌, Bool, true, false, List, Some, refl}
use Rattle.std.specs.Prelude.{⊤, ◌||◌, slice_get}
use Rattle.nm_base.specs.Behaviour.{Behaviour}
use Rattle.nesc_core.specs.Plain.{Ty, Stmt, Stmts, Program, no_stmts, more_stmts}
use Rattle.nesc_core.specs.Plain as plain
use Rattle.nesc_core.specs.WellFormed.{AreStmts, Exits, IsStmt}
use Rattle.nesc_core.specs.WellFormed as formed
use Rattle.core_meaning.specs.declared.flow.Flow.{Flow}
use Rattle.core_meaning.specs.declared.flow.Flow.TheVariants.{On, Broke, Continued, Gave}
use Rattle.core_meaning.specs.Work.{Locals}
use Rattle.mid_code.specs.Runs.{Runs}
use Rattle.lower_stmt.specs.Code.{WayOut, Ways, returning, breaking, continuing, leads, some_leads, way_out}
use Rattle.lower_stmt.specs.Runs.{AreHeld, IsGivenAt, Setting, code, here}
use Rattle.lower_stmt.specs.Runs as runs

pub or_first : (a b : Bool) → a ≡ true → (a || b) ≡ true
or_first true b e = refl
or_first false b e = absurd (cc)

pub or_second : (a b : Bool) → b ≡ true → (a || b) ≡ true
or_second true b e = refl
or_second false b e = e

-- the ways out that statements may have
abbrev pub May : Type 0
May = WayOut → Bool

abbrev pub loop_may : May → May
loop_may may returning = may returning
loop_may may breaking = true
loop_may may continuing = true

abbrev pub switch_may : May → May
switch_may may returning = may returning
switch_may may breaking = true
switch_may may continuing = may continuing

-- an inlined call is left by its returns alone
abbrev pub here_may : May
here_may returning = true
here_may breaking = false
here_may continuing = false

abbrev pub Within : May → May → Type 0
Within own may = (out : WayOut) → own out ≡ true → may out ≡ true

pub loop_within : (own may : May) → (own returning ≡ true → may returning ≡ true) → Within own (loop_may may)
loop_within own may h returning e = h e
loop_within own may h breaking e = refl
loop_within own may h continuing e = refl

pub switch_within : (own may : May) → (own returning ≡ true → may returning ≡ true) → (own continuing ≡ true → may continuing ≡ true) → Within own (switch_may may)
switch_within own may h g returning e = h e
switch_within own may h g breaking e = refl
switch_within own may h g continuing e = g e

-- ---- breaks and continues stand where they may

abbrev pub Allows : Exits → WayOut → Type 0
Allows exits returning = ⊤
Allows exits breaking = exits.breaks ≡ true
Allows exits continuing = exits.continues ≡ true

allowed_or : (exits : Exits) (out : WayOut) (a b : Bool) → (a ≡ true → Allows exits out) → (b ≡ true → Allows exits out) → (a || b) ≡ true → Allows exits out
allowed_or exits out true b h g e = h refl
allowed_or exits out false b h g e = g e

module _ (p : Program) (types : List Ty) where
  mutual
    pub leads_allowed : (s : Stmt) (exits : Exits) (out : WayOut) → IsStmt p types s exits → leads s out ≡ true → Allows exits out
    leads_allowed (plain.eval e) exits out h q = absurd (cc)
    leads_allowed (plain.block list) exits out h q = some_allowed list exits out h q
    leads_allowed (plain.branch test a b) exits out h q = allowed_or exits out (leads a out) (leads b out) (λ e. leads_allowed a exits out h.1 e) (λ e. leads_allowed b exits out h.2 e) q
    leads_allowed (plain.loop first test step body) exits returning h q = tt
    leads_allowed (plain.loop first test step body) exits breaking h q = absurd (cc)
    leads_allowed (plain.loop first test step body) exits continuing h q = absurd (cc)
    leads_allowed (plain.switch e cases list) exits returning h q = tt
    leads_allowed (plain.switch e cases list) exits breaking h q = absurd (cc)
    leads_allowed (plain.switch e cases list) exits continuing h q = some_allowed list (formed.in_switch exits) continuing h.2 q
    leads_allowed plain.break exits returning h q = tt
    leads_allowed plain.break exits breaking h q = h
    leads_allowed plain.break exits continuing h q = absurd (cc)
    leads_allowed plain.continue exits returning h q = tt
    leads_allowed plain.continue exits breaking h q = absurd (cc)
    leads_allowed plain.continue exits continuing h q = h
    leads_allowed (plain.return e) exits returning h q = tt
    leads_allowed (plain.return e) exits breaking h q = absurd (cc)
    leads_allowed (plain.return e) exits continuing h q = absurd (cc)
    leads_allowed (plain.atomic s) exits out h q = leads_allowed s exits out h q
    leads_allowed (plain.clear x) exits out h q = absurd (cc)
    leads_allowed (plain.here arguments first count body) exits out h q = absurd (cc)

    some_allowed : (list : Stmts) (exits : Exits) (out : WayOut) → AreStmts p types list exits → some_leads list out ≡ true → Allows exits out
    some_allowed no_stmts exits out h q = absurd (cc)
    some_allowed (more_stmts s rest) exits out h q = allowed_or exits out (leads s out) (some_leads rest out) (λ e. leads_allowed s exits out h.0 e) (λ e. some_allowed rest exits out h.1 e) q

  -- the body of an inlined call has neither a break nor a continue that leads out of it
  pub here_within : (body : Stmt) (ty : Ty) → IsStmt p types body (formed.by_return ty) → Within (leads body) here_may
  here_within body ty h returning e = refl
  here_within body ty h breaking e = leads_allowed body (formed.by_return ty) breaking h e
  here_within body ty h continuing e = leads_allowed body (formed.by_return ty) continuing h e

-- ---- where the machine stands

module _ (c : Setting) where
  abbrev pub LeftAt : May → Ways → (end : ℕ) → Flow → (pc : ℕ) → (values : ℕ → ℕ) → Type 0
  LeftAt may w end On pc values = pc ≡ end
  LeftAt may w end Broke pc values = (may breaking ≡ true) × (slice_get (code c) pc ≡ Some (way_out w (c.base + 2) breaking))
  LeftAt may w end Continued pc values = (may continuing ≡ true) × (slice_get (code c) pc ≡ Some (way_out w (c.base + 2) continuing))
  LeftAt may w end (Gave v) pc values = (may returning ≡ true) × IsGivenAt c w.gives v values × (slice_get (code c) pc ≡ Some (way_out w (c.base + 2) returning))

  abbrev pub Follows : May → Ways → (end n : ℕ) → (Flow → Locals → Behaviour) → Type 0
  Follows may w end n after =
      (flow : Flow) (env : Locals) (values frame : ℕ → ℕ) (pc : ℕ) → AreHeld c env values frame → LeftAt may w end flow pc values → Runs c.codes n (after flow env) (here c pc values frame)

  -- where what comes after runs from each exit that is allowed, it runs from those that a statement has
  pub from_exits : (s : Stmt) (exits : Exits) (w : Ways) (end n : ℕ) (after : Flow → Locals → Behaviour) → IsStmt c.p c.types s exits → runs.Follows c exits w end n after → Follows (leads s) w end n after
  from_exits s exits w end n after typed next On env values frame pc h left = next On env values frame pc h left
  from_exits s exits w end n after typed next Broke env values frame pc h left = next Broke env values frame pc h (leads_allowed c.p c.types s exits breaking typed left.0, left.1)
  from_exits s exits w end n after typed next Continued env values frame pc h left = next Continued env values frame pc h (leads_allowed c.p c.types s exits continuing typed left.0, left.1)
  from_exits s exits w end n after typed next (Gave v) env values frame pc h left = next (Gave v) env values frame pc h (left.1, left.2)
