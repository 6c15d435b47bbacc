-- What is given of the same files, instances and pairs is the same.
use Rattle.std.proofs.Common.{◌≡◌, ℕ, ◌+◌, Bool, List, [], ◌∷◌, map, filter, slice_get, Option, Some, None, Result, Ok, refl, sym, ap, subst, ◌∙◌}
use Rattle.std.specs.List.{All}
use Rattle.std.proofs.lemmas.List.Elements.{All-head, All-tail}
use Rattle.nesc_tree.specs.declared.components.Elem as tree
use Rattle.wire_instances.specs.declared.plan.Made.{Made}
use Rattle.wire_pairs.specs.Application.{greatest_in}
use Rattle.wire_pairs.specs.declared.ends.Pair.{Pair}
use Rattle.wire_paths.specs.Paths.{end}
use Rattle.wire_paths.specs.Wires.{values_of, wires_of}
use Rattle.wire_targets.specs.Targets.{AreTargets}
use Rattle.wire_targets.specs.declared.end.End.{End}
use Rattle.wire_targets.specs.declared.end.Wire.{Wire}
use Rattle.wire_units.specs.declared.loaded.Loaded.{Loaded}
use Rattle.wire_facts.specs.Seen.{Seen, Sight, seen_at, sight_of}
use Rattle.wire_facts.specs.Seen as seen
use Rattle.program_meaning.specs.Parts.{Application, Elem, Instance, Wired}
use Rattle.elab_application.specs.Ends.{AreNamed, IsElement, leads_elsewhere, sinks_of, values_within, way_out}
use Rattle.elab_application.specs.Files.{elems_of, file_of}
use Rattle.elab_application.specs.Instances.{Each, IsInstance}
use Rattle.elab_application.specs.Given.{IsGivenBy, IsGivenIn, application_of}
use Rattle.given_laws.specs.OneGiven.{OneGiven}

-- ---- two lists, of which each element is that of its number

cons_same : {A : Type 0} {x y : A} {xs ys : List A} → x ≡ y → xs ≡ ys → x ∷ xs ≡ y ∷ ys
cons_same a b = λ i. a i ∷ b i

each_same : {A B : Type 0} (P : ℕ → A → B → Type 0) → ((k : ℕ) (a : A) (x y : B) → P k a x → P k a y → x ≡ y) → (k : ℕ) (es : List A) (xs ys : List B) → Each P k es xs → Each P k es ys → xs ≡ ys
each_same P h k [] [] [] p q = refl
each_same P h k [] [] (y ∷ ys) p q = absurd q
each_same P h k [] (x ∷ xs) ys p q = absurd p
each_same P h k (e ∷ es) [] ys p q = absurd p
each_same P h k (e ∷ es) (x ∷ xs) [] p q = absurd q
each_same P h k (e ∷ es) (x ∷ xs) (y ∷ ys) p q = cons_same (h k e x y p.0 q.0) (each_same P h (k + 1) es xs ys p.1 q.1)

same_ok : {A E : Type 0} (r : Result A E) (x y : A) → r ≡ Ok x → r ≡ Ok y → x ≡ y
same_ok {A = A} {E = E} r x y a b = let z : ◌≡◌ {A = Result A E} (Ok x) (Ok y) = sym a ∙ b in cc

-- ---- ends

-- the wires decide the ends that are reached
abbrev pub OneTargets : Type 0
OneTargets = (wires : List Wire) (sinks : List (List Bool)) (start : End) (xs ys : List End) → AreTargets wires sinks start xs → AreTargets wires sinks start ys → xs ≡ ys

module _ (one : OneTargets) where
  module _ (wires : List Wire) (sinks : List (List Bool)) (i j : ℕ) where
    abbrev Reached : Wired → Type 0
    Reached w = AreTargets wires sinks (end i j (Some w.value)) w.ends

    same_wired : (w v : Wired) → w.value ≡ v.value → Reached w → Reached v → w ≡ v
    same_wired w v e a b =
        let ends : w.ends ≡ v.ends = one wires sinks (end i j (Some w.value)) w.ends v.ends a (subst (λ (n : ℕ). AreTargets wires sinks (end i j (Some n)) v.ends) (sym e) b) in
        λ k. record { value = e k; ends = ends k }

    same_found : (ws vs : List Wired) → map (λ (w : Wired). w.value) ws ≡ map (λ (w : Wired). w.value) vs → All Reached ws → All Reached vs → ws ≡ vs
    same_found [] [] e a b = refl
    same_found [] (v ∷ vs) e a b = absurd cc
    same_found (w ∷ ws) [] e a b = absurd cc
    same_found (w ∷ ws) (v ∷ vs) e a b =
        let head : w.value ≡ v.value = cc in
        let tail : map (λ (w : Wired). w.value) ws ≡ map (λ (w : Wired). w.value) vs = cc in
        cons_same (same_wired w v head (All-head Reached w ws a) (All-head Reached v vs b)) (same_found ws vs tail (All-tail Reached w ws a) (All-tail Reached v vs b))

    same_named : (values : List ℕ) (others : List End) (x y : List Wired) → AreNamed wires sinks i j values others x → AreNamed wires sinks i j values others y → x ≡ y
    same_named values others x y a b =
        let found : a.found ≡ b.found = same_found a.found b.found (a.values_are ∙ sym b.values_are) a.ends_are b.ends_are in
        a.named_are ∙ (ap (filter (leads_elsewhere others)) found ∙ sym b.named_are)

  -- ---- elements and instances

  module _ (units : List Loaded) (made : List Made) (pairs : List Pair) where
    same_element : (i j : ℕ) (greatest : Option ℕ) (e : tree.Elem) (x y : Elem) → IsElement units made pairs i j greatest e x → IsElement units made pairs i j greatest e y → x ≡ y
    same_element i j greatest e x y a b =
        let provides : x.provides ≡ y.provides = a.direction_is ∙ sym b.direction_is in
        let name : x.name ≡ y.name = a.name_is ∙ sym b.name_is in
        let interface : x.interface ≡ y.interface = a.interface_is ∙ sym b.interface_is in
        let args : x.args ≡ y.args = a.args_are ∙ sym b.args_are in
        let parameter : x.parameter ≡ y.parameter = a.parameter_is ∙ sym b.parameter_is in
        let at : x.at ≡ y.at = a.place_is ∙ sym b.place_is in
        let wires : List Wire = wires_of (way_out e.provides) pairs in
        let sinks : List (List Bool) = sinks_of (way_out e.provides) units made in
        let values : List ℕ = values_within greatest (values_of wires) in
        let others : x.others ≡ y.others = one wires sinks (end i j None) x.others y.others a.others_are b.others_are in
        let named : x.named ≡ y.named =
        same_named wires sinks i j values x.others x.named y.named a.named_are (subst (λ (es : List End). AreNamed wires sinks i j values es y.named) (sym others) b.named_are) in
        λ k. record { provides = provides k; name = name k; interface = interface k; args = args k; parameter = parameter k; named = named k; others = others k; at = at k }

    same_instance : (app : seen.Application) (sight : List Seen) (k : ℕ) (m : Made) (x y : Instance) → IsInstance units made pairs app sight k m x → IsInstance units made pairs app sight k m y → x ≡ y
    same_instance app sight k m x y a b =
        let component : x.component ≡ y.component = a.component_is ∙ sym b.component_is in
        let copy : x.copy ≡ y.copy = a.copy_is ∙ sym b.copy_is in
        let given : x.given ≡ y.given = a.given_are ∙ sym b.given_are in
        let uniques : x.uniques ≡ y.uniques = a.uniques_are ∙ sym b.uniques_are in
        let decls : x.decls ≡ y.decls = a.decls_are ∙ sym b.decls_are in
        let elems : x.elems ≡ y.elems =
        each_same (λ j. IsElement units made pairs k j (greatest_in (slice_get (seen_at sight k).elements j))) (λ j e u v p q. same_element k j (greatest_in (slice_get (seen_at sight k).elements j)) e u v p q) 0 (elems_of (file_of units m)) x.elems y.elems a.elems_are b.elems_are in
        λ i. record { component = component i; copy = copy i; given = given i; elems = elems i; uniques = uniques i; decls = decls i }

    -- ---- all of it

    given_by : (app : seen.Application) (sight : Sight) (x y : Application) → IsGivenBy units made pairs app sight x → IsGivenBy units made pairs app sight y → x ≡ y
    given_by app sight x y a b =
        let headers : x.headers ≡ y.headers = a.headers_are ∙ sym b.headers_are in
        let uniques : x.uniques ≡ y.uniques = a.uniques_are ∙ sym b.uniques_are in
        let counts : x.counts ≡ y.counts = a.counts_are ∙ sym b.counts_are in
        let structs : x.structs ≡ y.structs = a.structs_are ∙ sym b.structs_are in
        let instances : x.instances ≡ y.instances = each_same (IsInstance units made pairs app sight.seen) (λ k m u v p q. same_instance app sight.seen k m u v p q) 0 made x.instances y.instances a.instances_are b.instances_are in
        λ i. record { headers = headers i; uniques = uniques i; counts = counts i; structs = structs i; instances = instances i }

    given_in : (app : seen.Application) (x y : Application) → IsGivenIn units made pairs app x → IsGivenIn units made pairs app y → x ≡ y
    given_in app x y a b =
        let sight : a.sight ≡ b.sight = same_ok (sight_of app) a.sight b.sight a.is_seen b.is_seen in
        given_by app b.sight x y (subst (λ (s : Sight). IsGivenBy units made pairs app s x) sight a.parts) b.parts

pub one_given : OneTargets → OneGiven
one_given one units made pairs x y a b = given_in one units made pairs (application_of units made) x y a b
