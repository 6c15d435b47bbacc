use Rattle.std.proofs.Common.{◌≡◌, refl, List, Option, Some, None, length, sym, ap, ◌∙◌, slice_get, option_and_then}
use Rattle.std.proofs.lemmas.Option.{slice_get_read, slice_get_past}
use Rattle.wire_names.specs.Places.{Placed, place_of}
use Rattle.wire_instances.specs.declared.plan.Made.{Made}
use Rattle.wire_pairs.specs.Application.{element_in, elems_of_file}
use Rattle.wire_pairs.specs.Lookup.{app_of}
use Rattle.wire_pairs.proofs.Placed.{table_there}
use Rattle.wire_pairs.proofs.seen.element_named.Goals as goal

pub returns-in-Some : goal.returns-in-Some
returns-in-Some c =
    let app = app_of c.args.app.now in
    let name = c.args.name.now in
    let made = c.in-Some.made.now in
    let there : slice_get app.made c.args.instance ≡ Some made = slice_get_read app.made (length app.made) c.args.instance made refl c.in-Some.ensures.lookup.3.0 c.in-Some.ensures.lookup.1 in
    c.place_in.ensures
    ∙ (ap (λ (ts : List Placed). option_and_then (λ (t : Placed). place_of t name) (slice_get ts made.component)) c.as_slice.ensures.value
    ∙ (table_there c.args.app.now.elements.items app.units made.component name c.args.app.now.placed
    ∙ ap (λ (o : Option Made). element_in (elems_of_file (option_and_then (λ (m : Made). slice_get app.units m.component) o)) name) (sym there)))

pub returns-in-None : goal.returns-in-None
returns-in-None c =
    let app = app_of c.args.app.now in
    let past : slice_get app.made c.args.instance ≡ None = slice_get_past app.made c.args.instance c.in-None.ensures.lookup.3 in
    ap (λ (o : Option Made). element_in (elems_of_file (option_and_then (λ (m : Made). slice_get app.units m.component) o)) c.args.name.now) (sym past)
