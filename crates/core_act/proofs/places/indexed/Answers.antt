use Rattle.std.proofs.Common.{◌≡◌, ◌+◌, ◌*◌, ◌<◌, ◌∙◌, ap, sym, subst, arith, rules, w64, of_z, to_z}
use Rattle.std.specs.Prelude.{unsigned_abs}
use Rattle.nesc_core.specs.Plain.{Ty}
use Rattle.nesc_core.specs.Size.{layout_of}
use Rattle.nesc_core.specs.PlaceTypes.{count_of, element_of}
use Rattle.nesc_core.specs.View.{place_of}
use Rattle.core_meaning.specs.Layout.{size_of}
use Rattle.core_act.specs.Scopes.{program_in, size_at, type_at}
use Rattle.core_act.specs.Told.{LiesWithin}
use Rattle.core_act.proofs.Sized.{element_within, lies_moved}
use Rattle.core_act.proofs.places.indexed.Goals as goal

pub returns-clause-lies : goal.returns-clause-lies
returns-clause-lies c =
    let s = c.args.scope.now in let structs = (program_in s).structs in let t = type_at s (place_of c.args.array.now) in
    let n = unsigned_abs (to_z w64 (of_z w64 c.args.i)) in
    let few : c.elements-count.result.0 ≡ count_of t = ap (λ r. r.0) c.elements-count.ensures ∙ ap count_of c.place_type.ensures in
    let one : c.elements-count.result.1 ≡ size_of (program_in s) (element_of t) = ap (λ r. r.1) c.elements-count.ensures ∙ ap (λ (u : Ty). (layout_of structs (element_of u)).size) c.place_type.ensures in
    let low : n < c.elements-count.result.0 = search rules in
    let far : n * c.elements-count.result.1 ≡ n * size_of (program_in s) (element_of t) = ap (λ k. n * k) one in
    subst (LiesWithin (size_of (program_in s) (element_of t) + 2)) (sym c.moved.ensures)
    (lies_moved c.args.w (size_at s (place_of c.args.array.now) + 2) (n * c.elements-count.result.1) (size_of (program_in s) (element_of t) + 2) c.requires.lies
    (omega (arith, far, element_within structs t n (omega (arith, low, few)))))
