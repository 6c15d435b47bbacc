-- The rows of a site for each object, as a list of rows grows in the order of the sites (own).
use Rattle.std.specs.Prelude.{◌≡◌, ℕ, ◌+◌, ◌≤◌, ◌==◌, true, false, if◌then◌else◌, List, [], ◌∷◌, ◌++◌, length, Option, Some, None, slice_get}
use Rattle.std.specs.List.{filter, flat_map}
use Rattle.std.specs.List.Sorted.{IsNonDecreasingBy}
use Rattle.nesc_core.specs.Plain.{Program}
use Rattle.call_graph.specs.Paths.{below}
use Rattle.call_graph.specs.Uses.{Use, Access, Calls, uses}
use Rattle.race_checker.specs.declared.row.Row.{Row}
use Rattle.race_checker.specs.Report.{touches}
use Rattle.race_checker.specs.Computed.{async_path, bare_path, is_marked}
use Rattle.race_report.specs.declared.rows.Gathered.{Gathered}
use Rattle.race_report.specs.declared.rows.Site.{Site}
use Rattle.race_report.specs.Kinds.{AreKinds}

-- the least path of a handler to a body that touches object x, which has no `norace`
abbrev pub shared_path : Program → (x : ℕ) → Option (List ℕ)
shared_path p x = if is_marked (slice_get p.objects x) then None else async_path p x

abbrev pub row_at : (x : ℕ) → Site → (async_path path : List ℕ) → Row
row_at x site other path = record { object = x; body = site.body; node = site.node; pos = site.pos; path = path; async_path = other }

abbrev pub rows_at : (x : ℕ) → Site → (async_path path : Option (List ℕ)) → List Row
rows_at x site None path = []
rows_at x site (Some other) None = []
rows_at x site (Some other) (Some path) = row_at x site other path ∷ []

-- the row of a site that touches object x, where it has one
abbrev pub site_rows : Program → Site → (x : ℕ) → List Row
site_rows p site x = rows_at x site (shared_path p x) (bare_path p site.body)

abbrev pub use_rows : Program → (f : ℕ) → Use → (x : ℕ) → List Row
use_rows p f (Calls n i g pos) x = []
use_rows p f (Access n true place pos) x = []
use_rows p f (Access n false place pos) x = if touches p place x then site_rows p (record { body = f; node = n; pos = pos }) x else []

abbrev pub body_rows : Program → (f x : ℕ) → List Row
body_rows p f x = flat_map (λ u. use_rows p f u x) (uses p f)

abbrev pub object_rows : Program → (x : ℕ) → List Row
object_rows p x = flat_map (λ f. body_rows p f x) (below (length p.bodies))

-- ---- a list that grows

-- the rows of object x
abbrev pub only : (x : ℕ) → List Row → List Row
only x rows = filter (λ (r : Row). r.object == x) rows

-- no more rows than these, and, up to the limit, these behind the old ones
pub record Grows (part : (x : ℕ) → List Row) (old new : List Row) : Type 0 where
  pub longer : length old ≤ length new
  pub no_more : (x : ℕ) → length (only x new) ≤ length (only x old) + length (part x)
  pub these : length new ≤ 10000 → (x : ℕ) → only x new ≡ only x old ++ part x

-- the same rows by object, each object's in the order that they had
pub record IsByObject (old new : List Row) : Type 0 where
  pub size : length new ≡ length old
  pub ordered : IsNonDecreasingBy (λ (r : Row). r.object) new
  pub same : (x : ℕ) → only x new ≡ only x old

pub record HasGathered (p : Program) (order : List ℕ) (part : (x : ℕ) → List Row) (old new : Gathered) : Type 0 where
  pub kinds : AreKinds p order new.kinds.items
  pub rows : Grows part old.rows.items new.rows.items

pub record Gathers (p : Program) (order : List ℕ) (part : (x : ℕ) → List Row) (old new : Gathered) : Type 0 where
  pub from : AreKinds p order old.kinds.items → HasGathered p order part old new
