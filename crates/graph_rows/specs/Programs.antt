-- What the bodies of the programs of the rows are, so that they have graphs (own).
use Rattle.std.specs.Prelude.{⊤, ℕ, ◌*◌, ◌<◌, ◌≤◌, ◌^◌, List, [], ◌∷◌, length}
use Rattle.nesc_core.specs.declared.tree.Body.{Body}
use Rattle.nesc_core.specs.declared.tree.CoreStmt.{CoreStmt}
use Rattle.nesc_core.specs.Nodes.{stmt_nodes_of, stmts_nodes_of}
use Rattle.nesc_core.specs.Calls.{stmt_calls, stmts_calls}
use Rattle.nesc_core.specs.View.{stmt_of, stmts_of}
use Rattle.call_graph.specs.Paths.{IsIn}

-- a few statements that call bodies below `count`
pub record AreCalls (count : ℕ) (list : List CoreStmt) : Type 0 where
  pub few : length list ≤ 1000
  pub nodes : stmts_nodes_of (stmts_of list) ≤ 3 * length list
  pub named : (g : ℕ) → IsIn g (stmts_calls (stmts_of list)) → g < count

pub record IsCall (count : ℕ) (s : CoreStmt) : Type 0 where
  pub nodes : stmt_nodes_of (stmt_of s) ≤ 3
  pub named : (g : ℕ) → IsIn g (stmt_calls (stmt_of s)) → g < count

pub record IsCaller (count : ℕ) (b : Body) : Type 0 where
  pub nodes : stmt_nodes_of (stmt_of b.code) < 2 ^ 32
  pub named : (g : ℕ) → IsIn g (stmt_calls (stmt_of b.code)) → g < count

abbrev pub AreCallers : (count : ℕ) → List Body → Type 0
AreCallers count [] = ⊤
AreCallers count (b ∷ bs) = IsCaller count b × AreCallers count bs
