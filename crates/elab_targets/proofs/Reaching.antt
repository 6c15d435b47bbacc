-- Bodies that are reached, case by case.
use Rattle.std.proofs.Common.{◌≡◌, ℕ, false, List, slice_get, Option, Some, None, option_and_then, ap}
use Rattle.std.specs.Option.{option_map}
use Rattle.program_meaning.specs.Items.{first_of, target, target_of}
use Rattle.program_meaning.specs.Numbers.{implementation, implementation_in}
use Rattle.program_meaning.specs.Parts.{Application, Elem, Instance}
use Rattle.wire_targets.specs.declared.end.End.{End}

-- ---- targets

abbrev pub element_in : Application → End → Option Elem
element_in app e = option_and_then (λ (i : Instance). slice_get i.elems e.element) (slice_get app.instances e.instance)

module _ (app : Application) (item : List ℕ) (e : End) where
  pub of_element : (x : Elem) → Some x ≡ element_in app e → option_map (target (first_of x.parameter e.param)) (implementation app e.instance x.name item false) ≡ target_of app item e
  of_element x is = by (slice_get app.instances e.instance) is where
    by : (o : Option Instance) → Some x ≡ option_and_then (λ (i : Instance). slice_get i.elems e.element) o
        → option_map (target (first_of x.parameter e.param)) (option_and_then (implementation_in app e.instance x.name item false) o)
        ≡ option_and_then (λ (i : Instance). option_and_then (λ (y : Elem). option_map (target (first_of y.parameter e.param)) (implementation_in app e.instance y.name item false i)) (slice_get i.elems e.element)) o
    by None is = absurd (cc)
    by (Some i) is = ap (option_and_then (λ (y : Elem). option_map (target (first_of y.parameter e.param)) (implementation_in app e.instance y.name item false i))) is
