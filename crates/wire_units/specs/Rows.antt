-- Worked rows: applications as trees, with their instances or what is refused. Types are not looked at: t is any type.
use Rattle.std.specs.Prelude.{◌≡◌, ℕ, Bool, true, false, List, [], ◌∷◌, map, codes, Option, Some, None, Result, Ok, Err}
use Rattle.nm_base.specs.declared.pos.Pos.{Pos}
use Rattle.nesc_tree.specs.declared.tree.TypeSpec.{TypeSpec}
use Rattle.nesc_tree.specs.declared.components.Part.{Part}
use Rattle.nesc_tree.specs.declared.components.Part.TheVariants as part
use Rattle.nesc_tree.specs.declared.components.Head.{Head}
use Rattle.nesc_tree.specs.declared.components.Elem.{Elem}
use Rattle.nesc_tree.specs.declared.components.Sig.{Sig}
use Rattle.nesc_tree.specs.declared.components.GenericParam.{GenericParam}
use Rattle.nesc_tree.specs.declared.components.ConfLine.{ConfLine}
use Rattle.nesc_tree.specs.declared.components.ConfLine.TheVariants as conf
use Rattle.nesc_tree.specs.declared.components.WireEnd.{WireEnd}
use Rattle.wire_instances.specs.declared.naming.Stop.{Stop}
use Rattle.wire_instances.specs.declared.naming.Stop.TheVariants as stop
use Rattle.wire_instances.specs.declared.plan.Unmet.{Unmet}
use Rattle.wire_instances.specs.declared.plan.Unmet.TheVariants as unmet
use Rattle.wire_instances.specs.Rows.{Table, table}
use Rattle.wire_units.specs.declared.loaded.Loaded.{Loaded}
use Rattle.wire_units.specs.Units.{Name}
use Rattle.wire_units.specs.Plans.{created_of}

-- a place by its file and line
abbrev pub pos : ℕ → ℕ → Pos
pos file line = record { file = file; line = line; col = 1 }

abbrev pub holds : Part → Loaded
holds p = record { unit = record { decls = []; part = p }; at = pos 0 1 }

abbrev pub head : Name → List Elem → Head
head name elems = record { name = name; generic = None; elems = elems; attrs = [] }

abbrev pub module_of : Name → List Elem → Loaded
module_of name elems = holds (part.Module (record { head = head name elems; decls = [] }))

abbrev pub configuration : Name → List Elem → List ConfLine → Loaded
configuration name elems lines = holds (part.Config (record { head = head name elems; lines = lines }))

abbrev pub parameters : List Name → Option (List GenericParam)
parameters names = Some (map (λ n. record { name = n; ty = None }) names)

abbrev pub generic_configuration : Name → List Name → List Elem → List ConfLine → Loaded
generic_configuration name params elems lines =
    holds (part.Config (record { head = record { name = name; generic = parameters params; elems = elems; attrs = [] }; lines = lines }))

module _ (t : TypeSpec) where
  abbrev pub item : Name → Pos → Sig
  item name at = record { name = name; is_event = true; is_async = false; result = t; params = []; pos = at }

  abbrev pub interface : Name → List Name → List Sig → Loaded
  interface name params items = holds (part.Interface (record { name = name; params = params; items = items; attrs = [] }))

  abbrev pub element : Bool → Name → List TypeSpec → Name → Pos → Elem
  element provides iface args name at = record { provides = provides; iface = iface; args = args; name = name; param = None; pos = at }

  abbrev pub provides : Name → Pos → Elem
  provides name at = element true name [] name at

  abbrev pub uses : Name → Pos → Elem
  uses name at = element false name [] name at

  abbrev pub named : Name → Pos → ConfLine
  named name at = conf.Component name None name at

  abbrev pub named_as : Name → Name → Pos → ConfLine
  named_as name alias at = conf.Component name None alias at

  abbrev pub new_as : Name → Name → Pos → ConfLine
  new_as name alias at = conf.Component name (Some []) alias at

  abbrev pub end : Name → WireEnd
  end name = record { first = name; second = None; param = None }

  abbrev pub wire : ConfLine
  wire = conf.Link (end (codes "A")) (end (codes "B")) (pos 0 1)

  abbrev pub boot : Loaded
  boot = interface (codes "Boot") [] (item (codes "booted") (pos 2 1) ∷ [])

  abbrev pub init : Loaded
  init = interface (codes "Init") [] (item (codes "init") (pos 3 1) ∷ [])

  abbrev pub main : Loaded
  main = module_of (codes "MainC") (provides (codes "Boot") (pos 1 1) ∷ element false (codes "Init") [] (codes "SoftwareInit") (pos 1 1) ∷ [])

  abbrev pub timer : Bool → Name → Pos → Elem
  timer up name at = element up (codes "Timer") (t ∷ []) name at

  -- a blinking application with three timers, its files in the order of reading
  abbrev pub blink : List Loaded
  blink =
      configuration (codes "BlinkAppC") [] (
      named (codes "MainC") (pos 0 3) ∷ named (codes "BlinkC") (pos 0 3) ∷ named (codes "LedsC") (pos 0 3)
      ∷ new_as (codes "TimerMilliC") (codes "Timer0") (pos 0 4) ∷ new_as (codes "TimerMilliC") (codes "Timer1") (pos 0 5) ∷ new_as (codes "TimerMilliC") (codes "Timer2") (pos 0 6)
      ∷ wire ∷ wire ∷ wire ∷ wire ∷ wire ∷ [])
      ∷ main ∷ boot ∷ init
      ∷ module_of (codes "BlinkC") (timer false (codes "Timer0") (pos 4 2) ∷ timer false (codes "Timer1") (pos 4 3) ∷ timer false (codes "Timer2") (pos 4 4) ∷ uses (codes "Leds") (pos 4 5) ∷ uses (codes "Boot") (pos 4 6) ∷ [])
      ∷ interface (codes "Timer") (codes "tag" ∷ []) (item (codes "startPeriodic") (pos 5 1) ∷ item (codes "fired") (pos 5 1) ∷ [])
      ∷ interface (codes "Leds") [] (item (codes "led0Toggle") (pos 6 2) ∷ item (codes "led1Toggle") (pos 6 3) ∷ item (codes "led2Toggle") (pos 6 4) ∷ [])
      ∷ module_of (codes "LedsC") (provides (codes "Leds") (pos 7 1) ∷ [])
      ∷ generic_configuration (codes "TimerMilliC") [] (timer true (codes "Timer") (pos 8 2) ∷ []) (named (codes "TimerMilliP") (pos 8 4) ∷ wire ∷ [])
      ∷ configuration (codes "TimerMilliP") (timer true (codes "TimerMilli") (pos 9 2) ∷ []) (named (codes "MainC") (pos 9 4) ∷ named (codes "TimerP") (pos 9 4) ∷ wire ∷ wire ∷ [])
      ∷ module_of (codes "TimerP") (provides (codes "Init") (pos 10 3) ∷ timer true (codes "Timer") (pos 10 4) ∷ [])
      ∷ []

  abbrev pub made : List Loaded → Table
  made units = table (created_of units 0 (pos 0 9) 1)

  abbrev pub refused : Unmet → Table
  refused e = Err (stop.Unmet e)

  -- an application of two lines, and files behind MainC and its interfaces
  abbrev pub application : List ConfLine → List Loaded → List Loaded
  application lines others = configuration (codes "A") [] lines ∷ main ∷ boot ∷ init ∷ others

  -- `components` of one module with these elements
  abbrev pub with_elements : List Elem → List Loaded → List Loaded
  with_elements elems others = application (named (codes "M") (pos 0 1) ∷ []) (module_of (codes "M") elems ∷ others)

  abbrev pub twice : Loaded
  twice = interface (codes "I") [] (item (codes "x") (pos 5 1) ∷ item (codes "y") (pos 5 2) ∷ item (codes "x") (pos 5 3) ∷ [])

  pub record WorkedRows : Type 0 where
    pub blinks : made blink ≡ Ok (
        (0, 0, None) ∷ (1, 0, Some (0, 0)) ∷ (4, 0, Some (0, 1)) ∷ (7, 0, Some (0, 2))
        ∷ (8, 0, Some (0, 3)) ∷ (9, 0, Some (4, 0)) ∷ (10, 0, Some (5, 1))
        ∷ (8, 1, Some (0, 4)) ∷ (8, 2, Some (0, 5)) ∷ [])
    -- the components of a module alone, and MainC, which it does not name
    pub one : made (module_of (codes "OneC") (uses (codes "Boot") (pos 0 1) ∷ []) ∷ main ∷ boot ∷ init ∷ []) ≡ Ok ((0, 0, None) ∷ (1, 0, None) ∷ [])
    pub component_for_interface : made (with_elements (uses (codes "MainC") (pos 4 2) ∷ []) []) ≡ refused (unmet.UnknownName (pos 4 2))
    pub interface_for_component : made (application (named (codes "Boot") (pos 0 1) ∷ []) []) ≡ refused (unmet.UnknownName (pos 0 1))
    pub component_twice : made (application (named (codes "MainC") (pos 0 1) ∷ named (codes "MainC") (pos 0 2) ∷ []) []) ≡ refused (unmet.DuplicateName (pos 0 2))
    pub alias_twice : made (application (named_as (codes "MainC") (codes "B") (pos 0 1) ∷ named_as (codes "MainC") (codes "B") (pos 0 2) ∷ []) []) ≡ refused (unmet.DuplicateName (pos 0 2))
    pub two_names : made (application (named (codes "MainC") (pos 0 1) ∷ named_as (codes "MainC") (codes "B") (pos 0 2) ∷ []) []) ≡ Ok ((0, 0, None) ∷ (1, 0, Some (0, 0)) ∷ [])
    pub element_twice : made (with_elements (uses (codes "Boot") (pos 4 2) ∷ provides (codes "Boot") (pos 4 3) ∷ []) []) ≡ refused (unmet.DuplicateName (pos 4 3))
    pub other_names : made (with_elements (uses (codes "Boot") (pos 4 2) ∷ element true (codes "Boot") [] (codes "B") (pos 4 3) ∷ []) []) ≡ Ok ((0, 0, None) ∷ (4, 0, Some (0, 0)) ∷ (1, 0, None) ∷ [])
    pub item_twice : made (with_elements (uses (codes "I") (pos 4 2) ∷ []) (twice ∷ [])) ≡ refused (unmet.DuplicateName (pos 5 3))
    pub needless_argument : made (with_elements (element false (codes "Boot") (t ∷ []) (codes "Boot") (pos 4 2) ∷ []) []) ≡ refused (unmet.ArgumentMismatch (pos 4 2))
    pub arguments_first : made (application (new_as (codes "G") (codes "G") (pos 0 1) ∷ []) (generic_configuration (codes "G") (codes "t" ∷ codes "t" ∷ []) [] [] ∷ [])) ≡ refused (unmet.ArgumentMismatch (pos 0 1))
    pub parameter_and_element : made (application (new_as (codes "G") (codes "G") (pos 0 1) ∷ []) (generic_configuration (codes "G") [] (uses (codes "Boot") (pos 4 1) ∷ uses (codes "Boot") (pos 4 2) ∷ []) [] ∷ [])) ≡ refused (unmet.DuplicateName (pos 4 2))
    -- the first in the order of creation, not of the text of the application
    pub two_faults : made (application (named (codes "C") (pos 0 1) ∷ named (codes "C") (pos 0 2) ∷ []) (configuration (codes "C") [] (named (codes "Boot") (pos 4 1) ∷ []) ∷ [])) ≡ refused (unmet.UnknownName (pos 4 1))
    pub loops : made (application (new_as (codes "G") (codes "G") (pos 0 1) ∷ []) (generic_configuration (codes "G") [] [] (wire ∷ new_as (codes "G") (codes "H") (pos 4 3) ∷ []) ∷ [])) ≡ refused (unmet.ComponentLoop (pos 4 3))
