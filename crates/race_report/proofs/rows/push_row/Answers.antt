use Rattle.std.proofs.Common.{Vec, Global, List, ℕ, ◌<◌, ◌∙◌, ap, length, option_map, subst, sym}
use Rattle.nesc_core.specs.View.{program_of}
use Rattle.race_checker.specs.declared.row.Row.{Row}
use Rattle.race_report.proofs.RowLemmas.{grows_full, no_row, no_other}
use Rattle.race_report.proofs.rows.push_row.Goals as goal

pub returns-then-is_full : goal.returns-then-is_full
returns-then-is_full c =
    grows_full _ c.args.rows.now.items (subst (λ (rows : List Row). 10000 < length rows) c.deref.ensures.value (c.is_full.ensures c.if-is_full.true))

pub returns-in-None : goal.returns-in-None
returns-in-None c =
    let p = program_of c.args.s.now.p.now in
    no_row p c.args.x c.args.site c.args.rows.now.items
    (no_other p c.args.x c.args.site (sym (ap (option_map (λ (v : Vec ℕ Global). v.items)) c.in-None.is) ∙ c.in_ok-other.ensures))
