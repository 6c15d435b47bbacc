-- Paths of wires in an application: from no end does a path meet an end twice, and from none do paths meet more ends than the limit; else
-- the first refusal, by instance and element (own: the order). From an element they are followed along the calls and then along the
-- signals, with each value of its parameter that a bracket names, and then with any other.
use Rattle.std.specs.Prelude.{◌≡◌, ℕ, ◌+◌, ◌≤◌, Bool, true, false, nat_le, List, [], ◌∷◌, length, Option, Some, None, slice_get, Ok, Err}
use Rattle.nm_base.specs.declared.pos.Pos.{Pos}
use Rattle.nm_base.specs.declared.fault.Fault.{Fault}
use Rattle.nm_base.specs.declared.fault.Fault.TheVariants as fault
use Rattle.nm_base.specs.declared.refusal.Refusal.TheVariants as refusal
use Rattle.nm_base.specs.declared.limit.Which.TheVariants as which
use Rattle.nm_base.specs.declared.limit.TheConstants.{MAX_WIRES}
use Rattle.wire_pairs.specs.declared.ends.Pair.{Pair}
use Rattle.wire_pairs.specs.Application.{Application, elems_of, element_facts, greatest_in}
use Rattle.wire_targets.specs.declared.end.End.{End}
use Rattle.wire_targets.specs.declared.end.Wire.{Wire}
use Rattle.wire_targets.specs.declared.walk.Stop.{Stop}
use Rattle.wire_targets.specs.declared.walk.Stop.TheVariants as stop
use Rattle.wire_targets.specs.Paths.{IsPath, Closes}
use Rattle.wire_targets.specs.Targets.{AreAll, IsFirstLoop, AreTooMany}
use Rattle.wire_paths.specs.declared.wires.Way.TheVariants as way
use Rattle.wire_paths.specs.Wires.{wires_of, values_of}
use Rattle.wire_paths.specs.Answers.{Answer, Then, Each}

-- ---- one end

-- all paths from an end: none meets an end twice, and they are few
pub record IsOpen (wires : List Wire) (start : End) : Type 0 where
  pub paths : List (List ℕ)
  pub all : AreAll (IsPath wires start) paths
  pub none_closes : (p : List ℕ) (k : ℕ) → Closes wires start p k → ⊥
  pub few : length paths ≤ MAX_WIRES

abbrev pub place_in : Option Pair → Pos
place_in None = record { file = 0; line = 1; col = 1 }
place_in (Some p) = p.pos

abbrev pub place_of : List Pair → ℕ → Pos
place_of pairs k = place_in (slice_get pairs k)

-- one end more than the limit
abbrev pub too_many : Fault
too_many = fault.Limit (record { which = which.Wires; have = MAX_WIRES + 1 })

-- the wire that closes a path
abbrev pub stop_fault : List Pair → Stop → Fault
stop_fault pairs (stop.Loop k) = fault.Refused (refusal.ComponentLoop (place_of pairs k))
stop_fault pairs stop.Wires = too_many
stop_fault pairs stop.NoMemory = fault.NoMemory

abbrev pub StopsAt : List Wire → End → Stop → Type 0
StopsAt wires start (stop.Loop k) = IsFirstLoop wires start k
StopsAt wires start stop.Wires = AreTooMany wires start
StopsAt wires start stop.NoMemory = ⊥

-- what following the paths from an end gives; wires have the numbers of their pairs
abbrev pub OfEnd : List Pair → List Wire → End → Answer → Type 0
OfEnd pairs wires start (Ok u) = IsOpen wires start
OfEnd pairs wires start (Err e) = (s : Stop) × StopsAt wires start s × (e ≡ stop_fault pairs s)

-- ---- one element

abbrev pub end : (instance element : ℕ) → Option ℕ → End
end i j param = record { instance = i; element = j; param = param }

module _ (pairs : List Pair) (wires : List Wire) (i j : ℕ) where
  -- a value of the parameter, or a greater one, which it never has
  abbrev pub OfValue : (is_value : Bool) → ℕ → Answer → Type 0
  OfValue true v answer = OfEnd pairs wires (end i j (Some v)) answer
  OfValue false v answer = answer ≡ Ok tt

  abbrev pub AtValue : (greatest : ℕ) → ℕ → Answer → Type 0
  AtValue greatest v answer = OfValue (nat_le v greatest) v answer

  -- these values, and then all others
  abbrev pub AtValues : (greatest : ℕ) → List ℕ → Answer → Type 0
  AtValues greatest [] answer = OfEnd pairs wires (end i j None) answer
  AtValues greatest (v ∷ vs) answer = Then (AtValue greatest v) (AtValues greatest vs) answer

  abbrev pub AtElement : (greatest : Option ℕ) → Answer → Type 0
  AtElement None answer = OfEnd pairs wires (end i j None) answer
  AtElement (Some greatest) answer = AtValues greatest (values_of wires) answer

-- ---- the application

module _ (app : Application) (pairs : List Pair) where
  abbrev pub OfElement : (instance element : ℕ) → Answer → Type 0
  OfElement i j answer =
      Then (AtElement pairs (wires_of way.Calls pairs) i j (greatest_in (element_facts app i j)))
      (AtElement pairs (wires_of way.Signals pairs) i j (greatest_in (element_facts app i j))) answer

  abbrev pub OfInstance : (instance : ℕ) → Answer → Type 0
  OfInstance i answer = Each (OfElement i) 0 (length (elems_of app i)) answer

  abbrev pub Paths : Answer → Type 0
  Paths answer = Each OfInstance 0 (length app.made) answer
