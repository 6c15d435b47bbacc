-- Where the paths of wires pass, they are not refused.
use Rattle.std.proofs.Common.{ℕ, zero, suc, ◌+◌, Bool, true, false, nat_le, List, [], ◌∷◌, length, Option, Some, None, Ok, Err, refl, sym}
use Rattle.nm_base.specs.declared.fault.Fault.{Fault}
use Rattle.wire_pairs.specs.declared.ends.Pair.{Pair}
use Rattle.wire_pairs.specs.Application.{Application, elems_of, element_facts, greatest_in}
use Rattle.wire_targets.specs.declared.end.End.{End}
use Rattle.wire_targets.specs.declared.end.Wire.{Wire}
use Rattle.wire_targets.specs.declared.walk.Stop.{Stop}
use Rattle.wire_targets.specs.declared.walk.Stop.TheVariants as stop
use Rattle.wire_targets.specs.Targets.{AreTargets, AreTooMany, targets_of}
use Rattle.wire_paths.specs.declared.wires.Way.TheVariants as way
use Rattle.wire_paths.specs.Answers.{Answer, Each, Goes, Then}
use Rattle.wire_paths.specs.Paths.{AtElement, AtValue, AtValues, OfElement, OfEnd, OfInstance, OfValue, Paths, StopsAt, end}
use Rattle.wire_paths.specs.Wires.{values_of, wires_of}
use Rattle.application_laws.proofs.Order.{ok_err}

-- what passes is not refused
abbrev pub Passes : (Answer → Type 0) → Type 0
Passes R = (e : Fault) → R (Ok tt) → R (Err e) → ⊥

then_passes : (One Next : Answer → Type 0) → Passes One → Passes Next → Passes (Then One Next)
then_passes One Next f g e a b = by a.0 b.0 a.1 b.1 a.2 b.2
  where
    by : (o r : Answer) → One o → One r → Goes Next o (Ok tt) → Goes Next r (Err e) → ⊥
    by (Err x) r u v p q = ok_err tt x p
    by (Ok x) (Err y) u v p q = f y u v
    by (Ok x) (Ok y) u v p q = g e p q

each_passes : (One : ℕ → Answer → Type 0) → ((k : ℕ) → Passes (One k)) → (from count : ℕ) → Passes (Each One from count)
each_passes One h from zero e a b = ok_err tt e (sym b)
each_passes One h from (suc count) e a b = then_passes (One from) (Each One (from + 1) count) (h from) (each_passes One h (from + 1) count) e a b

-- paths that are few are not too many
abbrev pub FewTargets : Type 0
FewTargets = (wires : List Wire) (sinks : List (List Bool)) (start : End) (xs : List End) → AreTargets wires sinks start xs → AreTooMany wires start → ⊥

module _ (few : FewTargets) where
  end_passes : (pairs : List Pair) (wires : List Wire) (start : End) → Passes (OfEnd pairs wires start)
  end_passes pairs wires start e a b = by b.0 b.1
    where
      by : (s : Stop) → StopsAt wires start s → ⊥
      by (stop.Loop k) h = a.none_closes h.path k h.closes
      by stop.Wires h = few wires [] start (targets_of wires [] start a.paths) (record { paths = a.paths; all = a.all; none_closes = a.none_closes; few = a.few; targets_are = refl }) h
      by stop.NoMemory h = h

  module _ (pairs : List Pair) (wires : List Wire) (i j : ℕ) where
    value_passes : (is_value : Bool) (v : ℕ) → Passes (OfValue pairs wires i j is_value v)
    value_passes true v e a b = end_passes pairs wires (end i j (Some v)) e a b
    value_passes false v e a b = ok_err tt e (sym b)

    values_pass : (greatest : ℕ) (vs : List ℕ) → Passes (AtValues pairs wires i j greatest vs)
    values_pass greatest [] e a b = end_passes pairs wires (end i j None) e a b
    values_pass greatest (v ∷ vs) e a b = then_passes (AtValue pairs wires i j greatest v) (AtValues pairs wires i j greatest vs) (value_passes (nat_le v greatest) v) (values_pass greatest vs) e a b

    element_passes : (greatest : Option ℕ) → Passes (AtElement pairs wires i j greatest)
    element_passes None e a b = end_passes pairs wires (end i j None) e a b
    element_passes (Some greatest) e a b = values_pass greatest (values_of wires) e a b

  module _ (app : Application) (pairs : List Pair) where
    of_element_passes : (i j : ℕ) → Passes (OfElement app pairs i j)
    of_element_passes i j e a b =
        let greatest : Option ℕ = greatest_in (element_facts app i j) in
        then_passes (AtElement pairs (wires_of way.Calls pairs) i j greatest) (AtElement pairs (wires_of way.Signals pairs) i j greatest)
        (element_passes pairs (wires_of way.Calls pairs) i j greatest) (element_passes pairs (wires_of way.Signals pairs) i j greatest) e a b

    instance_passes : (i : ℕ) → Passes (OfInstance app pairs i)
    instance_passes i e a b = each_passes (OfElement app pairs i) (of_element_passes i) 0 (length (elems_of app i)) e a b

    pub paths_pass : Passes (Paths app pairs)
    paths_pass e a b = each_passes (OfInstance app pairs) instance_passes 0 (length app.made) e a b
