-- The report as a list that can be computed: by object, body and site.
use Rattle.std.specs.Prelude.{ℕ, ◌==◌, Bool, true, false, if◌then◌else◌, List, [], ◌∷◌, length, Option, Some, None, slice_get}
use Rattle.std.specs.List.{list_any, flat_map}
use Rattle.nesc_core.specs.Plain.{Object, Program}
use Rattle.nesc_core.specs.Calls.{HasNoCycle}
use Rattle.call_graph.specs.Uses.{Use, Access, Calls, uses}
use Rattle.call_graph.specs.Paths.{below, callees, bare_callees, base_roots, handler_roots}
use Rattle.call_graph.specs.Least.{least_path}
use Rattle.race_checker.specs.declared.row.Row.{Row}
use Rattle.race_checker.specs.Report.{touches, IsReport}

-- some access of body f touches object x
abbrev pub is_touching : Program → (x : ℕ) → Use → Bool
is_touching p x (Access n i place pos) = touches p place x
is_touching p x (Calls n i g pos) = false

abbrev pub touches_in : Program → (x f : ℕ) → Bool
touches_in p x f = list_any (is_touching p x) (uses p f)

abbrev pub bare_path : Program → ℕ → Option (List ℕ)
bare_path p f = least_path (bare_callees p) (λ g. g == f) (base_roots p) (length p.bodies)

abbrev pub async_path : Program → (x : ℕ) → Option (List ℕ)
async_path p x = least_path (callees p) (touches_in p x) (handler_roots p) (length p.bodies)

-- ---- rows

abbrev pub row_of : Program → (x f : ℕ) (path async_path : List ℕ) → Use → List Row
row_of p x f path async_path (Calls n i g pos) = []
row_of p x f path async_path (Access n true place pos) = []
row_of p x f path async_path (Access n false place pos) =
    if touches p place x then record { object = x; body = f; node = n; pos = pos; path = path; async_path = async_path } ∷ [] else []

abbrev pub rows_in : Program → (x f : ℕ) (async_path : List ℕ) → Option (List ℕ) → List Row
rows_in p x f async_path None = []
rows_in p x f async_path (Some path) = flat_map (row_of p x f path async_path) (uses p f)

abbrev pub is_marked : Option Object → Bool
is_marked None = true
is_marked (Some o) = o.norace

abbrev pub rows_for : Program → (x : ℕ) → (is_marked : Bool) → Option (List ℕ) → List Row
rows_for p x true async_path = []
rows_for p x false None = []
rows_for p x false (Some async_path) = flat_map (λ f. rows_in p x f async_path (bare_path p f)) (below (length p.bodies))

abbrev pub report_of : Program → List Row
report_of p = flat_map (λ x. rows_for p x (is_marked (slice_get p.objects x)) (async_path p x)) (below (length p.objects))

abbrev pub EachReportIsComputed : Type 0
EachReportIsComputed = (p : Program) → HasNoCycle p → IsReport p (report_of p)
