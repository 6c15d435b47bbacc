-- What is known at each label: what is known around it, and of a place of the frame that has an index, where its value leads.
use Rattle.std.proofs.Common.{◌≡◌, ℕ, zero, suc, ◌+◌, ◌-◌, ◌*◌, ◌<◌, ◌≤◌, Bool, true, false, ◌==◌, List, Option, Some, None}
use Rattle.std.specs.Prelude.{⊤, nat_lt, slice_get, slice_index_or}
use Rattle.nesc_core.specs.declared.layout.Layout.{Layout}
use Rattle.nesc_core.specs.Plain.{Ty, Expr, Exprs, no_exprs, more_exprs, Place, Stmt, Stmts, no_stmts, more_stmts, Program}
use Rattle.nesc_core.specs.Plain as plain
use Rattle.nesc_core.specs.PlaceTypes.{place_type, element_of, count_of}
use Rattle.nesc_core.specs.Size.{layout_of}
use Rattle.nesc_core.specs.WellFormed.{count_exprs, count_stmts}
use Rattle.core_meaning.specs.Layout.{size_of}
use Rattle.lower_expr.specs.declared.spot.Spot.{Spot}
use Rattle.lower_expr.specs.declared.spot.Spot.TheVariants.{Values, Frame}
use Rattle.lower_expr.specs.Code.{Kind, InValues, InFrame, InMemory, all_labels, kind_of, labels, place_labels}
use Rattle.lower_stmt.specs.Code.{maybe_labels, stmt_labels}
use Rattle.source_accesses.proofs.Aligned.{Suits}

-- one of two
abbrev pub Pick : Bool → Type 0 → Type 0 → Type 0
Pick true A B = A
Pick false A B = B

-- where a place of this kind and layout is in the frame, it lies inside of the first bytes there
abbrev pub IsFound : (limit : ℕ) → Kind → Layout → ℕ → Type 0
IsFound limit (InValues regs) l x = ⊤
IsFound limit InFrame l x = 0 < l.size → (x + l.size ≤ limit) × Suits l.align x
IsFound limit InMemory l x = ⊤

-- the index of an element of the frame is in its bound
abbrev pub InBound : Kind → (size count : ℕ) → ℕ → Type 0
InBound (InValues regs) size count x = ⊤
InBound InFrame size count x = 0 < size → x < count
InBound InMemory size count x = ⊤

module _ (limit : ℕ) (p : Program) (types checks : List Ty) (spots : List Spot) where
  abbrev pub kind_at : Place → Kind
  kind_at place = kind_of p types checks spots place

  abbrev pub lies : Place → Layout
  lies place = layout_of p.structs (place_type p types place)

  -- and the value r leads to the place
  abbrev pub With : ((ℕ → ℕ) → Type 0) → Place → ℕ → (ℕ → ℕ) → Type 0
  With K place r values = K values × IsFound limit (kind_at place) (lies place) (values r)

  -- and r + 2 is its index
  abbrev pub Indexed : ((ℕ → ℕ) → Type 0) → Place → ℕ → (ℕ → ℕ) → Type 0
  Indexed K place r values = With K place r values × InBound (kind_at place) (size_of p (element_of (place_type p types place))) (count_of (place_type p types place)) (values (r + 2))

  -- ---- what is known at the label k of an expression whose labels are those from l on, and whose value comes to r, where K is known around it

  abbrev mutual
    pub place_facts : Place → ((ℕ → ℕ) → Type 0) → (r l k : ℕ) → (ℕ → ℕ) → Type 0
    place_facts (plain.object n) K r l k values = K values
    place_facts (plain.local x) K r l k values = K values
    place_facts (plain.deref e t) K r l k values = facts e K r l k values
    place_facts (plain.index place e) K r l k values =
        Pick (nat_lt k (l + 2)) (Pick (k == l) (Indexed K place r values) (With K place r values))
        (Pick (nat_lt k (l + 2 + place_labels place)) (place_facts place K r (l + 2) k values) (facts e (With K place r) (r + 2) (l + 2 + place_labels place) k values))
    place_facts (plain.field place n) K r l k values = place_facts place K r l k values

    pub facts : Expr → ((ℕ → ℕ) → Type 0) → (r l k : ℕ) → (ℕ → ℕ) → Type 0
    facts (plain.const t x) K r l k values = K values
    facts plain.null K r l k values = K values
    facts (plain.read place at) K r l k values = place_facts place K r l k values
    facts (plain.addr place) K r l k values = place_facts place K r l k values
    facts (plain.un op t e) K r l k values = Pick (nat_lt k (l + 2)) (K values) (facts e K r (l + 2) k values)
    facts (plain.bin op t a b) K r l k values =
        Pick (nat_lt k (l + 3)) (K values) (Pick (nat_lt k (l + 3 + labels a)) (facts a K r (l + 3) k values) (facts b K (r + 2) (l + 3 + labels a) k values))
    facts (plain.convert t e) K r l k values = Pick (nat_lt k (l + 1)) (K values) (facts e K r (l + 1) k values)
    facts (plain.offset a b size) K r l k values = Pick (nat_lt k (l + labels a)) (facts a K r l k values) (facts b K (r + 2) (l + labels a) k values)
    facts (plain.distance a b size) K r l k values = Pick (nat_lt k (l + labels a)) (facts a K r l k values) (facts b K (r + 2) (l + labels a) k values)
    facts (plain.both a b) K r l k values =
        Pick (nat_lt k (l + 2)) (K values) (Pick (nat_lt k (l + 2 + labels a)) (facts a K r (l + 2) k values) (facts b K r (l + 2 + labels a) k values))
    facts (plain.either a b) K r l k values =
        Pick (nat_lt k (l + 2)) (K values) (Pick (nat_lt k (l + 2 + labels a)) (facts a K r (l + 2) k values) (facts b K r (l + 2 + labels a) k values))
    facts (plain.choice test a b) K r l k values =
        Pick (nat_lt k (l + 2)) (K values) (Pick (nat_lt k (l + 2 + labels test)) (facts test K r (l + 2) k values)
        (Pick (nat_lt k (l + 2 + labels test + labels a)) (facts a K r (l + 2 + labels test) k values) (facts b K r (l + 2 + labels test + labels a) k values)))
    facts (plain.assign place e at) K r l k values =
        Pick (nat_lt k (l + place_labels place)) (place_facts place K r l k values) (facts e (With K place r) (r + 2) (l + place_labels place) k values)
    facts (plain.update place op t e gives_old at) K r l k values =
        Pick (nat_lt k (l + 5)) (With K place r values)
        (Pick (nat_lt k (l + 5 + place_labels place)) (place_facts place K r (l + 5) k values) (facts e (With K place r) (r + 4) (l + 5 + place_labels place) k values))
    facts (plain.call f arguments at) K r l k values = all_facts arguments K r l k values
    facts (plain.post n) K r l k values = K values
    facts (plain.port_in port) K r l k values = K values
    facts (plain.port_out port e) K r l k values = facts e K r l k values
    facts (plain.comma a b) K r l k values = Pick (nat_lt k (l + labels a)) (facts a K r l k values) (facts b K r (l + labels a) k values)

    pub all_facts : Exprs → ((ℕ → ℕ) → Type 0) → (r l k : ℕ) → (ℕ → ℕ) → Type 0
    all_facts no_exprs K r l k values = K values
    all_facts (more_exprs e rest) K r l k values = Pick (nat_lt k (l + labels e)) (facts e K r l k values) (all_facts rest K (r + 2) (l + labels e) k values)

  -- ---- statements, where nothing is known around them, and values from `base` on are free

  abbrev pub Nothing : (ℕ → ℕ) → Type 0
  Nothing values = ⊤

  -- so many bytes from o on become 0, the next one at the value r
  abbrev pub Clears : (size o r : ℕ) → (ℕ → ℕ) → Type 0
  Clears size o r values = (values r ≤ o + size) × (values (r + 2) ≡ o + size) × (values (r + 3) ≡ 1)

  abbrev pub spot_facts : Option Spot → (size r l k : ℕ) → (ℕ → ℕ) → Type 0
  spot_facts None size r l k values = ⊤
  spot_facts (Some (Values regs)) size r l k values = ⊤
  spot_facts (Some (Frame o)) size r l k values = Pick (k == l) (Clears size o r values) ⊤

  module _ (base : ℕ) where
    abbrev pub clear_facts : (x l k : ℕ) → (ℕ → ℕ) → Type 0
    clear_facts x l k values = spot_facts (slice_get spots x) (size_of p (slice_index_or types x plain.void)) base l k values

    abbrev pub clears_facts : (count x l k : ℕ) → (ℕ → ℕ) → Type 0
    clears_facts zero x l k values = ⊤
    clears_facts (suc count) x l k values = Pick (nat_lt k (l + 2)) (clear_facts x l k values) (clears_facts count (x + 1) (l + 2) k values)

    abbrev pub maybe_facts : Option Expr → (r l k : ℕ) → (ℕ → ℕ) → Type 0
    maybe_facts None r l k values = ⊤
    maybe_facts (Some e) r l k values = facts e Nothing r l k values

    abbrev pub enter_facts : Exprs → (l k : ℕ) → (ℕ → ℕ) → Type 0
    enter_facts no_exprs l k values = ⊤
    enter_facts (more_exprs e rest) l k values = Pick (nat_lt k (l + labels e)) (facts e Nothing (base + 2) l k values) (enter_facts rest (l + labels e) k values)

    -- at the label k of a statement whose labels are those from l on
    abbrev mutual
      pub stmt_facts : Stmt → (l k : ℕ) → (ℕ → ℕ) → Type 0
      stmt_facts (plain.eval e) l k values = facts e Nothing base l k values
      stmt_facts (plain.block list) l k values = stmts_facts list l k values
      stmt_facts (plain.branch test a b) l k values =
          Pick (nat_lt k (l + 2)) ⊤ (Pick (nat_lt k (l + 2 + labels test)) (facts test Nothing base (l + 2) k values)
          (Pick (nat_lt k (l + 2 + labels test + stmt_labels a)) (stmt_facts a (l + 2 + labels test) k values) (stmt_facts b (l + 2 + labels test + stmt_labels a) k values)))
      stmt_facts (plain.loop early test step body) l k values =
          Pick (nat_lt k (l + 3)) ⊤ (Pick (nat_lt k (l + 3 + labels test)) (facts test Nothing base (l + 3) k values)
          (Pick (nat_lt k (l + 3 + labels test + maybe_labels step)) (maybe_facts step base (l + 3 + labels test) k values) (stmt_facts body (l + 3 + labels test + maybe_labels step) k values)))
      stmt_facts (plain.switch e cases list) l k values =
          Pick (nat_lt k (l + 1 + count_stmts list)) ⊤
          (Pick (nat_lt k (l + 1 + count_stmts list + labels e)) (facts e Nothing base (l + 1 + count_stmts list) k values) (stmts_facts list (l + 1 + count_stmts list + labels e) k values))
      stmt_facts plain.break l k values = ⊤
      stmt_facts plain.continue l k values = ⊤
      stmt_facts (plain.return e) l k values = maybe_facts e (base + 2) l k values
      stmt_facts (plain.atomic s) l k values = Pick (nat_lt k (l + 6)) ⊤ (stmt_facts s (l + 6) k values)
      stmt_facts (plain.clear x) l k values = clear_facts x l k values
      stmt_facts (plain.here arguments from count body) l k values =
          Pick (nat_lt k (l + 1)) ⊤ (Pick (nat_lt k (l + 1 + all_labels arguments)) (enter_facts arguments (l + 1) k values)
          (Pick (nat_lt k (l + 1 + all_labels arguments + 2 * count))
          (clears_facts (count - count_exprs arguments) (from + count_exprs arguments) (l + 1 + all_labels arguments) k values)
          (stmt_facts body (l + 1 + all_labels arguments + 2 * count) k values)))

      pub stmts_facts : Stmts → (l k : ℕ) → (ℕ → ℕ) → Type 0
      stmts_facts no_stmts l k values = ⊤
      stmts_facts (more_stmts s rest) l k values = Pick (nat_lt k (l + stmt_labels s)) (stmt_facts s l k values) (stmts_facts rest (l + stmt_labels s) k values)
