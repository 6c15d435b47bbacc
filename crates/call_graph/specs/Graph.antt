-- What a graph of calls is (own; which code is asynchronous after Gay et al. 2003).
use Rattle.std.specs.Prelude.{◌≡◌, ℕ, ◌<◌, ◌^◌, Bool, true, false, List, [], ◌∷◌, length, slice_index_or, Some, slice_get}
use Rattle.std.specs.List.{flat_map}
use Rattle.nesc_core.specs.Plain.{Body, Program}
use Rattle.nesc_core.specs.Nodes.{stmt_nodes_of}
use Rattle.nesc_core.specs.Calls.{HasNoCycle}
use Rattle.call_graph.specs.declared.edges.Call.{Call}
use Rattle.call_graph.specs.declared.edges.CallGraph.{CallGraph}
use Rattle.call_graph.specs.Uses.{Use, Access, Calls, uses}
use Rattle.call_graph.specs.Paths.{IsIn, below, callee, bare_callee, callees, bare_callees, base_roots, handler_roots, IsPath}

-- what a program must be for its graph: each call names a body, and numbers of 32 bits name its bodies and nodes
pub record IsCounted (p : Program) : Type 0 where
  pub bodies : length p.bodies < 2 ^ 32
  pub nodes : (f : ℕ) (b : Body) → slice_get p.bodies f ≡ Some b → stmt_nodes_of b.code < 2 ^ 32
  pub named : (f g : ℕ) → IsIn g (callees p f) → g < length p.bodies

-- ---- the calls

abbrev pub call_of : (from : ℕ) → Use → List Call
call_of f (Access n i place pos) = []
call_of f (Calls n i g pos) = record { from = f; to = g; pos = pos; atomic = i } ∷ []

abbrev pub calls_from : Program → (f : ℕ) → List Call
calls_from p f = flat_map (call_of f) (uses p f)

-- by body and node
abbrev pub calls_of : Program → List Call
calls_of p = flat_map (calls_from p) (below (length p.bodies))

-- ---- what paths reach

-- row f of a table
abbrev pub row_at : List (List ℕ) → ℕ → List ℕ
row_at table f = slice_index_or table f []

abbrev pub called : (is_bare : Bool) → Use → List ℕ
called true = bare_callee
called false = callee

abbrev pub callees_by : (is_bare : Bool) → Program → ℕ → List ℕ
callees_by true = bare_callees
callees_by false = callees

abbrev pub IsMarked : List Bool → ℕ → Type 0
IsMarked marks f = slice_index_or marks f false ≡ true

abbrev pub IsReached : (roots : List ℕ) (steps : ℕ → List ℕ) → ℕ → Type 0
IsReached roots steps f = (path : List ℕ) × IsPath roots steps path f

-- of so many bodies those are marked to which a path leads
pub record AreReached (count : ℕ) (roots : List ℕ) (steps : ℕ → List ℕ) (marks : List Bool) : Type 0 where
  pub size : length marks ≡ count
  pub sound : (f : ℕ) → IsMarked marks f → IsReached roots steps f
  pub complete : (f : ℕ) → f < count → IsReached roots steps f → IsMarked marks f

-- ---- the graph

pub record IsGraph (p : Program) (g : CallGraph) : Type 0 where
  pub calls : g.calls.items ≡ calls_of p
  pub is_async : AreReached (length p.bodies) (handler_roots p) (callees p) g.is_async.items
  pub bare : AreReached (length p.bodies) (base_roots p) (bare_callees p) g.bare.items
  pub no_cycle : HasNoCycle p
