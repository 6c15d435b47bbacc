use Rattle.std.proofs.Common.{◌≡◌, ◌∙◌, sym, ap, List, Some}
use Rattle.std.specs.Prelude.{slice_get}
use Rattle.std.specs.Option.{option_copied}
use Rattle.nesc_macros.specs.declared.hide_sets.Link.{Link}
use Rattle.nesc_macros.proofs.Arguments.{slice_get-item}
use Rattle.nesc_macros.proofs.Linked.{linked, none_in, unlinked}
use Rattle.nesc_macros.proofs.hide_sets.HideSets.newest.Goals as goal

pub returns-then-set-eq0-clause-newest : goal.returns-then-set-eq0-clause-newest
returns-then-set-eq0-clause-newest c links extends = none_in links c.args.set.now c.if-set-eq0.true

pub returns-then-is_linked-clause-newest : goal.returns-then-is_linked-clause-newest
returns-then-is_linked-clause-newest c links extends =
    let at : slice_get c.args.self.now.links.items c.args.set.now.place ≡ Some c.in-Some.link.now = ap (λ (l : List Link). slice_get l c.args.set.now.place) (sym c.deref.ensures.value) ∙ sym (slice_get-item c.deref.result.now c.args.set.now.place c.get.result c.get.ensures.lookup) ∙ ap option_copied c.in-Some.is in
    linked links c.args.set.now c.in-Some.link.now (extends _ _ at) (sym c.is_linked.ensures ∙ c.if-is_linked.true)

pub returns-else-is_linked-clause-newest : goal.returns-else-is_linked-clause-newest
returns-else-is_linked-clause-newest c links extends =
    let at : slice_get c.args.self.now.links.items c.args.set.now.place ≡ Some c.in-Some.link.now = ap (λ (l : List Link). slice_get l c.args.set.now.place) (sym c.deref.ensures.value) ∙ sym (slice_get-item c.deref.result.now c.args.set.now.place c.get.result c.get.ensures.lookup) ∙ ap option_copied c.in-Some.is in
    unlinked links c.args.set.now c.in-Some.link.now (extends _ _ at) (sym c.is_linked.ensures ∙ c.if-is_linked.false)
