use Rattle.std.proofs.Common.{◌∙◌, ap, sym}
use Rattle.std.specs.List.{list_any}
use Rattle.nesc_core.specs.Parts.{same_type}
use Rattle.nesc_core.specs.View.{program_of, type_of}
use Rattle.race_report.proofs.FirstLemmas.{already, touched_all}
use Rattle.race_report.proofs.touched.touch_pointed.Goals as goal

pub returns-then-is_followed : goal.returns-then-is_followed
returns-then-is_followed c =
    already (program_of c.args.p.now) c.args.f (type_of c.args.t.now) c.args.touched.now
    (ap (list_any (λ u. same_type (type_of u.now) (type_of c.args.t.now))) (sym c.deref.ensures.value) ∙ sym c.is_followed.ensures ∙ c.if-is_followed.true)

pub returns : goal.returns
returns c =
    touched_all (program_of c.args.p.now) c.args.f c.args.t c.deref-2.result.now c.args.touched.now _ (c.deref-2.ensures.value ∙ c.in_ok-objects.ensures)
    c.touch_all.ensures c.in_ok-push.ensures.items
