use Rattle.std.proofs.Common.{Vec, Global, ℕ, sym, ◌∙◌, option_map}
use Rattle.nesc_core.specs.View.{program_of}
use Rattle.nesc_core.proofs.PlaceLemmas.{ok_more}
use Rattle.race_report.proofs.PathLemmas.{shared_is, unshared}
use Rattle.race_report.proofs.paths.async_path.Goals as goal

pub path_to-requires : goal.path_to-requires
path_to-requires c = (_, _, _, c.requires.handlers)

pub returns-in-Some : goal.returns-in-Some
returns-in-Some c =
    ok_more _ _
    (λ found is. shared_is (program_of c.args.s.now.p.now) c.requires.graph.no_cycle c.args.s.now.handlers c.args.x c.requires.handlers c.in-Some.f (sym c.first_body.ensures ∙ c.in-Some.is)
    (option_map (λ (v : Vec ℕ Global). v.items) found) is)
    c.path_to.result c.path_to.ensures

pub returns-in-None : goal.returns-in-None
returns-in-None c = unshared (program_of c.args.s.now.p.now) c.requires.graph.no_cycle c.args.s.now.handlers c.args.x c.requires.handlers (sym c.first_body.ensures ∙ c.in-None.is)
