use Rattle.std.proofs.Common.{◌≡◌, ◌+◌, ◌∙◌, ap, sym, subst, arith, option_copied}
use Rattle.nesc_core.specs.Plain.{Ty, field}
use Rattle.nesc_core.specs.PlaceTypes.{field_offset, type_in}
use Rattle.nesc_core.specs.View.{place_of, type_of}
use Rattle.core_act.specs.Scopes.{program_in, size_at, type_at}
use Rattle.core_act.specs.Told.{LiesWithin}
use Rattle.core_act.proofs.Sized.{field_within, size_small, lies_less, lies_moved}
use Rattle.core_act.proofs.places.field.Goals as goal

pub moved-requires-clause-within : goal.moved-requires-clause-within
moved-requires-clause-within c =
    let s = c.args.scope.now in let structs = (program_in s).structs in let t = type_at s (place_of c.args.base.now) in
    let same : type_of c.in-Some.t.now ≡ t = ap (λ o. type_in (option_copied o)) (sym c.in-Some.is) ∙ c.place_type.ensures in
    let far : c.field_offset.result ≡ field_offset structs t c.args.k = c.field_offset.ensures ∙ ap (λ (u : Ty). field_offset structs u c.args.k) same in
    lies_less c.args.w (size_at s (place_of c.args.base.now) + 2) c.field_offset.result c.requires.lies
    (omega (arith, far, field_within structs t c.args.k c.requires.held.structs c.requires.sized c.requires.inside))

pub moved-requires-clause-short : goal.moved-requires-clause-short
moved-requires-clause-short c =
    let s = c.args.scope.now in let structs = (program_in s).structs in let t = type_at s (place_of c.args.base.now) in
    let same : type_of c.in-Some.t.now ≡ t = ap (λ o. type_in (option_copied o)) (sym c.in-Some.is) ∙ c.place_type.ensures in
    let far : c.field_offset.result ≡ field_offset structs t c.args.k = c.field_offset.ensures ∙ ap (λ (u : Ty). field_offset structs u c.args.k) same in
    omega (arith, far, field_within structs t c.args.k c.requires.held.structs c.requires.sized c.requires.inside, size_small structs t c.requires.held.structs c.requires.sized)

pub returns-in-Some-clause-lies : goal.returns-in-Some-clause-lies
returns-in-Some-clause-lies c =
    let s = c.args.scope.now in let structs = (program_in s).structs in let t = type_at s (place_of c.args.base.now) in
    let same : type_of c.in-Some.t.now ≡ t = ap (λ o. type_in (option_copied o)) (sym c.in-Some.is) ∙ c.place_type.ensures in
    let far : c.field_offset.result ≡ field_offset structs t c.args.k = c.field_offset.ensures ∙ ap (λ (u : Ty). field_offset structs u c.args.k) same in
    subst (LiesWithin (size_at s (field (place_of c.args.base.now) c.args.k) + 2)) (sym c.moved.ensures)
    (lies_moved c.args.w (size_at s (place_of c.args.base.now) + 2) c.field_offset.result (size_at s (field (place_of c.args.base.now) c.args.k) + 2) c.requires.lies
    (omega (arith, far, field_within structs t c.args.k c.requires.held.structs c.requires.sized c.requires.inside)))
