use Rattle.std.proofs.Common.{◌∙◌, ap, sym}
use Rattle.std.proofs.lemmas.Result.{on_ok_weaker}
use Rattle.nesc_core.specs.Plain as plain
use Rattle.nesc_core.specs.View.{expr_of, place_of, type_of}
use Rattle.nesc_core.proofs.ViewLemmas.{place_is-Object, place_is-Local, place_is-Deref, place_is-Index, place_is-Field}
use Rattle.core_act.proofs.Opening.{as_place, object_opens, local_opens, deref_opens, index_opens, field_opens}
use Rattle.core_act.proofs.open.open_place.Goals as goal

pub returns-in-Object : goal.returns-in-Object
returns-in-Object c =
    on_ok_weaker c.push.result (λ new. as_place (object_opens _ _ _ _ c.object.ensures) (place_is-Object _ _ c.in-Object.is) new) c.push.ensures

pub returns-in-Local : goal.returns-in-Local
returns-in-Local c =
    on_ok_weaker c.push-in-Local.result (λ new. as_place (local_opens _ _ _ _ c.local.ensures.is c.local.ensures.lies) (place_is-Local _ _ c.in-Local.is) new) c.push-in-Local.ensures

pub returns-in-Deref : goal.returns-in-Deref
returns-in-Deref c =
    on_ok_weaker c.push_two.result (λ new. as_place (deref_opens _ _ _ _) (place_is-Deref _ _ _ c.in-Deref.is ∙ ap (λ a. plain.deref (expr_of a) (type_of c.in-Deref.t)) (sym c.deref.ensures)) new) c.push_two.ensures

pub returns-in-Index : goal.returns-in-Index
returns-in-Index c =
    on_ok_weaker c.open_element.result (λ new. as_place (index_opens _ _ _ _ c.requires) (place_is-Index _ _ _ c.in-Index.is ∙ (λ j. plain.index (place_of (sym c.deref-in-Index.ensures j)) (expr_of (sym c.deref-in-Index-2.ensures j)))) new) c.open_element.ensures

pub returns-in-Field : goal.returns-in-Field
returns-in-Field c =
    on_ok_weaker c.open_field.result (λ new. as_place (field_opens _ _ _ _ c.requires) (place_is-Field _ _ _ c.in-Field.is ∙ ap (λ b. plain.field (place_of b) c.in-Field.k) (sym c.deref-in-Field.ensures)) new) c.open_field.ensures
