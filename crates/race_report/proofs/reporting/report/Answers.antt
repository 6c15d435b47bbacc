use Rattle.std.proofs.Common.{◌≡◌, ◌<◌, arith, length, refl, subst}
use Rattle.nesc_core.specs.View.{program_of}
use Rattle.race_checker.specs.Computed.{report_of}
use Rattle.race_report.proofs.reporting.report.Goals as goal

pub returns-then-len-clause-refused : goal.returns-then-len-clause-refused
returns-then-len-clause-refused c =
    let more : 10000 < length (report_of (program_of c.in_ok-s.s.p.now)) = omega (arith, c.if-len.true, c.len.ensures, c.in_ok-rows.ensures.no_more) in
    (refl, subst (λ q. 10000 < length (report_of (program_of q))) c.in_ok-s.ensures.same more)

pub returns-clause-rows : goal.returns-clause-rows
returns-clause-rows c =
    subst (λ q. c.in_ok-rows.rows.items ≡ report_of (program_of q)) c.in_ok-s.ensures.same (c.in_ok-rows.ensures.these (omega (arith, c.if-len.false, c.len.ensures)))
