use Rattle.std.proofs.Common.{◌∙◌, List, ℕ, ap, map, subst}
use Rattle.nesc_core.specs.View.{program_of}
use Rattle.call_graph.specs.View.{use_of}
use Rattle.race_report.specs.Firsts.{AreFirsts}
use Rattle.race_report.proofs.bodies.sources.Goals as goal

pub first_bodies-requires-clause-uses : goal.first_bodies-requires-clause-uses
first_bodies-requires-clause-uses c = ap (map (map use_of)) c.deref.ensures.value ∙ c.in_ok-uses.ensures

pub returns-clause-known : goal.returns-clause-known
returns-clause-known c = record {
  counted = c.requires.counted;
  graph = c.requires.graph;
  sized = c.requires.sized;
  uses = c.in_ok-uses.ensures;
  handlers = c.in_ok-handlers.ensures;
  base = c.in_ok-base.ensures;
  firsts = subst (λ (order : List ℕ). AreFirsts (program_of c.args.p.now) order c.in_ok-firsts.firsts.items) c.deref-2.ensures.value c.in_ok-firsts.ensures;
}
