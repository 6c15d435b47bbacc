-- What is known of a program's bodies before its rows are sought (own).
use Rattle.std.specs.Prelude.{◌≡◌, false, List, length, map}
use Rattle.nesc_core.specs.Plain.{Body}
use Rattle.nesc_core.specs.Size.{AreSized}
use Rattle.nesc_core.specs.View.{program_of, structs_of}
use Rattle.call_graph.specs.Uses.{Use, stmt_uses}
use Rattle.call_graph.specs.View.{use_of}
use Rattle.call_graph.specs.Graph.{IsCounted, IsGraph}
use Rattle.call_graph.specs.Paths.{callees, bare_callees, base_roots, handler_roots}
use Rattle.least_paths.specs.Searched.{IsSearch}
use Rattle.race_report.specs.declared.sources.Sources.{Sources}
use Rattle.race_report.specs.Firsts.{AreFirsts}

abbrev pub body_uses : Body → List Use
body_uses b = stmt_uses 0 false b.code

pub record IsKnown (s : Sources) : Type 0 where
  pub counted : IsCounted (program_of s.p.now)
  pub graph : IsGraph (program_of s.p.now) s.g.now
  pub sized : AreSized (structs_of s.p.now.structs)
  pub uses : map (map use_of) s.uses.items ≡ map body_uses (program_of s.p.now).bodies
  pub handlers : IsSearch (handler_roots (program_of s.p.now)) (callees (program_of s.p.now)) (length (program_of s.p.now).bodies) s.handlers
  pub base : IsSearch (base_roots (program_of s.p.now)) (bare_callees (program_of s.p.now)) (length (program_of s.p.now).bodies) s.base
  pub firsts : AreFirsts (program_of s.p.now) s.handlers.order.items s.firsts.items
