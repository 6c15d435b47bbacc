-- A jump's label is in the map, at a place where it stands.
use Rattle.std.proofs.Common.{◌≡◌, ℕ, List, length, ap, ◌∙◌, Option, BTreeMap, nat_cmp, unwrap_or}
use Rattle.std.specs.BTreeMap.{get}
use Rattle.msp_isa.specs.declared.code.Item.{Item}
use Rattle.msp_isa.specs.declared.code.Item.TheVariants.{Label}
use Rattle.msp_isa.specs.Stands.{item_at}
use Rattle.msp_layout.specs.Laid.{StandsOnce}
use Rattle.msp_layout.specs.Labels.{HasLabels}
use Rattle.msp_layout.proofs.Items.{label_within}
use Rattle.msp_layout.proofs.labels.target.Goals as goal

leads : (items : List Item) (labels : BTreeMap ℕ ℕ) (l k result : ℕ) → HasLabels items (length items) labels → StandsOnce items l → result ≡ unwrap_or (get nat_cmp labels l) k → item_at items result ≡ Label l
leads items labels l k result has once e =
    let h = has.all once.at l (label_within items once.at l once.stands) once.stands in
    let i : result ≡ h.0 = e ∙ ap (λ (o : Option ℕ). unwrap_or o k) h.1 in
    rw i (has.found l h.0 h.1)

pub returns-in-Jump-clause-lead : goal.returns-in-Jump-clause-lead
returns-in-Jump-clause-lead c =
    rw c.in-Jump.is (leads c.args.items.now c.args.labels.now c.in-Jump.label c.args.k c.unwrap_or.result c.requires.labels (c.requires.once c.in-Jump.label c.in-Jump.field-0 c.in-Jump.is)
    (c.unwrap_or.ensures ∙ ap (λ (o : Option ℕ). unwrap_or o c.args.k) (c.copied.ensures ∙ c.get.ensures.value)))

pub returns-in-Jump-clause-within : goal.returns-in-Jump-clause-within
returns-in-Jump-clause-within c =
    label_within c.args.items.now c.unwrap_or.result c.in-Jump.label (leads c.args.items.now c.args.labels.now c.in-Jump.label c.args.k c.unwrap_or.result c.requires.labels (c.requires.once c.in-Jump.label c.in-Jump.field-0 c.in-Jump.is)
    (c.unwrap_or.ensures ∙ ap (λ (o : Option ℕ). unwrap_or o c.args.k) (c.copied.ensures ∙ c.get.ensures.value)))
