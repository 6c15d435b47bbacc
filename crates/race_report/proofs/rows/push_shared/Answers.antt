use Rattle.std.proofs.Common.{Vec, Global, ℕ, [], ◌==◌, ◌∙◌, if◌then◌else◌, ap, option_map, subst, sym}
use Rattle.nesc_core.specs.View.{program_of}
use Rattle.nesc_core.proofs.PlaceLemmas.{ok_more}
use Rattle.race_report.specs.Sites.{Grows, site_rows}
use Rattle.race_report.proofs.RowLemmas.{no_row, no_path, one_row}
use Rattle.race_report.proofs.rows.push_shared.Goals as goal

pub returns-in-Some : goal.returns-in-Some
returns-in-Some c =
    let p = program_of c.args.s.now.p.now in
    let x = c.args.x in
    let site = c.args.site in
    ok_more _ _
    (λ done is. subst (Grows (λ y. if x == y then site_rows p site x else []) c.args.rows.now.items) (sym is)
    (one_row p x site c.args.async_path.items c.in-Some.path.items c.args.rows.now.items c.requires.shared
    (sym (ap (option_map (λ (v : Vec ℕ Global). v.items)) c.in-Some.is) ∙ c.in_ok-path.ensures)))
    c.push_found.result c.push_found.ensures

pub returns-in-None : goal.returns-in-None
returns-in-None c =
    let p = program_of c.args.s.now.p.now in
    no_row p c.args.x c.args.site c.args.rows.now.items
    (no_path p c.args.x c.args.site (sym (ap (option_map (λ (v : Vec ℕ Global). v.items)) c.in-None.is) ∙ c.in_ok-path.ensures))
