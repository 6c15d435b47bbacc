-- Paths from ends, values, elements and instances, one after the other.
use Rattle.std.proofs.Common.{◌≡◌, ◌≤◌, ◌<◌, ◌-◌, ◌+◌, ℕ, zero, suc, Bool, true, false, List, ◌∷◌, Ok, Err, refl, sym, subst, arith}
use Rattle.nm_base.specs.declared.fault.Fault.{Fault}
use Rattle.wire_pairs.specs.declared.ends.Pair.{Pair}
use Rattle.wire_targets.specs.declared.end.End.{End}
use Rattle.wire_targets.specs.declared.end.Wire.{Wire}
use Rattle.wire_targets.specs.declared.walk.Stop.{Stop}
use Rattle.wire_targets.specs.declared.walk.Stop.TheVariants as stop
use Rattle.wire_targets.specs.Targets.{AreTargets, IsFirstLoop, AreTooMany}
use Rattle.wire_paths.specs.Answers.{Answer, Then, Each, IsRefusal}
use Rattle.wire_paths.specs.Paths.{IsOpen, OfEnd, stop_fault, AtValue, AtValues}

-- ---- one end

pub opened : (wires : List Wire) (sinks : List (List Bool)) (start : End) (found : List End) → AreTargets wires sinks start found → IsOpen wires start
opened wires sinks start found t = record { paths = t.paths; all = t.all; none_closes = t.none_closes; few = t.few }

pub stopped : (pairs : List Pair) (wires : List Wire) (start : End) (s : Stop) (e : Fault)
    → ((k : ℕ) → s ≡ stop.Loop k → IsFirstLoop wires start k) → (s ≡ stop.Wires → AreTooMany wires start)
    → e ≡ stop_fault pairs s → IsRefusal e → OfEnd pairs wires start (Err e)
stopped pairs wires start (stop.Loop k) e closes many is refusal = (stop.Loop k, closes k refl, is)
stopped pairs wires start stop.Wires e closes many is refusal = (stop.Wires, many refl, is)
stopped pairs wires start stop.NoMemory e closes many is refusal = absurd (refusal is)

pub ruleset ends = (opened, stopped)

-- ---- values

pub value_passed : (pairs : List Pair) (wires : List Wire) (i j greatest v : ℕ) (vs : List ℕ) (answer : Answer)
    → AtValue pairs wires i j greatest v (Ok tt) → AtValues pairs wires i j greatest vs answer → AtValues pairs wires i j greatest (v ∷ vs) answer
value_passed pairs wires i j greatest v vs answer one rest = (Ok tt, one, rest)

pub value_stops : (pairs : List Pair) (wires : List Wire) (i j greatest v : ℕ) (vs : List ℕ) (e : Fault)
    → AtValue pairs wires i j greatest v (Err e) → AtValues pairs wires i j greatest (v ∷ vs) (Err e)
value_stops pairs wires i j greatest v vs e one = (Err e, one, refl)

pub ruleset values = (value_passed, value_stops)

-- ---- one behind the other

pub passes : (One Next : Answer → Type 0) (answer : Answer) → One (Ok tt) → Next answer → Then One Next answer
passes One Next answer one next = (Ok tt, one, next)

pub stops : (One Next : Answer → Type 0) (e : Fault) → One (Err e) → Then One Next (Err e)
stops One Next e one = (Err e, one, refl)

pub number_passed : (One : ℕ → Answer → Type 0) (at count : ℕ) (answer : Answer) → at < count
    → One at (Ok tt) → Each One (at + 1) (count - (at + 1)) answer → Each One at (count - at) answer
number_passed One at count answer below one rest =
    let e : suc (count - (at + 1)) ≡ count - at = omega arith in
    subst (λ (n : ℕ). Each One at n answer) e (passes (One at) (Each One (at + 1) (count - (at + 1))) answer one rest)

pub number_stops : (One : ℕ → Answer → Type 0) (at count : ℕ) (e : Fault) → at < count → One at (Err e) → Each One at (count - at) (Err e)
number_stops One at count f below one =
    let e : suc (count - (at + 1)) ≡ count - at = omega arith in
    subst (λ (n : ℕ). Each One at n (Err f)) e (stops (One at) (Each One (at + 1) (count - (at + 1))) f one)

pub number_ends : (One : ℕ → Answer → Type 0) (at count : ℕ) → count ≤ at → Each One at (count - at) (Ok tt)
number_ends One at count over =
    let e : zero ≡ count - at = omega arith in
    subst (λ (n : ℕ). Each One at n (Ok tt)) e refl
