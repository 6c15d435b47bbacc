use Rattle.std.proofs.Common.{rules, ◌≡◌, Err, subst}
use Rattle.wire_loading.specs.Opened.{stopped}
use Rattle.nesc_programs.specs.Programs.{IsStopped}
use Rattle.nm_driver.proofs.Reading.{says_of_files}
use Rattle.nm_driver.proofs.source.read_application.Goals as goal

pub returns-clause-says : goal.returns-clause-says
returns-clause-says g c =
    let e = c.in-Err.field-0.fault in
    let known = c.in-Err.field-0.reading in
    let same : c.in_ok-name.name ≡ c.args.app.now = search rules in
    says_of_files (g.F.Files.seen c.args.files.now).texts c.args.app.now e known c.refused.result
    (λ files is r. subst (λ n. IsStopped files n e known) same (c.read_program.ensures.refused files is (stopped e known) (search rules) r))
    c.refused.ensures
