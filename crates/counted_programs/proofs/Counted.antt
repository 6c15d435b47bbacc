-- A well-formed program of few nodes and bodies is counted in 32 bits.
use Rattle.std.proofs.Common.{◌≡◌, ℕ, ◌<◌, ◌≤◌, ◌^◌, length, Some, arith, subst}
use Rattle.std.specs.Prelude.{slice_get}
use Rattle.std.proofs.lemmas.List.{length-map}
use Rattle.std.proofs.lemmas.List.Sums.{get_or-le-sum_by}
use Rattle.std.proofs.lemmas.Option.{get_or_from_slice_get, slice_get_within}
use Rattle.nesc_core.specs.declared.tree.Program as tree
use Rattle.nesc_core.specs.Nodes.{body_nodes_of, nodes_of, stmt_nodes_of}
use Rattle.nesc_core.specs.Plain.{Body, Program}
use Rattle.nesc_core.specs.View.{body_of, program_of}
use Rattle.nesc_core.specs.WellFormed.{IsWellFormed}
use Rattle.well_formed.specs.declared.measure.TheConstants.{MOST_NODES}
use Rattle.call_graph.specs.Graph.{IsCounted}
use Rattle.call_graph.proofs.Naming.{each_call_is_named}

-- a body has no more nodes than its program
nodes_within : (p : Program) (f : ℕ) (b : Body) → slice_get p.bodies f ≡ Some b → stmt_nodes_of b.code ≤ nodes_of p
nodes_within p f b is =
    subst (λ (x : Body). stmt_nodes_of x.code ≤ nodes_of p) (get_or_from_slice_get p.bodies f b b is)
    (get_or-le-sum_by body_nodes_of p.bodies f b (slice_get_within p.bodies f b is))

pub counted : (p : tree.Program) → nodes_of (program_of p) ≤ MOST_NODES → length p.bodies < 2 ^ 32 → IsWellFormed (program_of p) → IsCounted (program_of p)
counted p few bodies well = record {
  bodies = (let same = length-map p.bodies body_of in omega (arith, same, bodies));
  nodes = λ f b is. (let within = nodes_within (program_of p) f b is in omega (arith, within, few));
  named = each_call_is_named (program_of p) well;
}
