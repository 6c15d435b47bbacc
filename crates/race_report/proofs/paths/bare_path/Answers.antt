use Rattle.std.proofs.Common.{Vec, Global, ℕ, arith, option_map}
use Rattle.std.proofs.Math.ListN as list
use Rattle.nesc_core.specs.View.{body_of, program_of}
use Rattle.nesc_core.proofs.PlaceLemmas.{ok_more}
use Rattle.race_report.proofs.PathLemmas.{bare_is}
use Rattle.race_report.proofs.paths.bare_path.Goals as goal

pub path_to-requires : goal.path_to-requires
path_to-requires c = (_, _, _, c.requires.known.base)

pub returns : goal.returns
returns c =
    ok_more _ _
    (λ found is. bare_is (program_of c.args.s.now.p.now) c.requires.known.graph.no_cycle c.args.s.now.base c.args.f (omega (arith, c.requires.inside, list.length-map c.args.s.now.p.now.bodies body_of)) c.requires.known.base
    (option_map (λ (v : Vec ℕ Global). v.items) found) is)
    c.path_to.result c.path_to.ensures
