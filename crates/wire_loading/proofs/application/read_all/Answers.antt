use Rattle.std.proofs.Common.{rules, ◌≡◌, ◌∙◌, Err}
use Rattle.wire_loading.specs.Opened.{held, main, stopped}
use Rattle.wire_loading.proofs.Opening.{on_ok, reads, refuses, refuses_first}
use Rattle.wire_loading.proofs.Outside.{later}
use Rattle.wire_loading.proofs.application.read_all.Goals as goal

pub returns-in_err-read_prelude-clause-refused : goal.returns-in_err-read_prelude-clause-refused
returns-in_err-read_prelude-clause-refused g c = λ told tells fault h refusal.
    let e : c.read_prelude.result ≡ Err fault = search rules in
    refuses_first g.P.UnitParser.Declares g.P.UnitParser.Parses told c.args.app.now (stopped fault c.read_prelude.new.loader.reading)
    (c.read_prelude.ensures.refused told tells fault e refusal)

pub returns-clause-outside : goal.returns-clause-outside
returns-clause-outside g c = later _ _ _ _ _ _ _ c.in_ok-read_prelude.ensures.outside c.read_files.ensures.outside

pub returns-clause-refused : goal.returns-clause-refused
returns-clause-refused g c = λ told tells fault e refusal.
    let now = c.in_ok-read_prelude.ensures.outside.same ∙ tells in
    let last : c.in_ok-main.main ≡ main = search rules in
    let l = c.read_prelude.new.loader in
    let a = c.read_files.new.opener in
    refuses g.P.UnitParser.Declares g.P.UnitParser.Parses told c.args.app.now (held l.reading l.names l.units.items) (held a.reading a.names a.units.items) _ _ fault
    (c.in_ok-read_prelude.ensures.begun told tells) (c.read_files.ensures.refused told now fault e refusal) (search rules) last

pub returns-clause-read : goal.returns-clause-read
returns-clause-read g c = λ told tells.
    let now = c.in_ok-read_prelude.ensures.outside.same ∙ tells in
    let first : c.in_ok-app.app ≡ c.args.app.now = search rules in
    let last : c.in_ok-main.main ≡ main = search rules in
    let l = c.read_prelude.new.loader in
    let a = c.read_files.new.opener in
    on_ok c.read_files.result _ _
    (λ read. reads g.P.UnitParser.Declares g.P.UnitParser.Parses told c.args.app.now (held l.reading l.names l.units.items) (held a.reading a.names a.units.items) c.in_ok-app.app c.in_ok-main.main
    (c.in_ok-read_prelude.ensures.begun told tells) read first last)
    (c.read_files.ensures.read told now)
