-- Worked rows: the pairs of applications, or what is refused, worked out by hand.
use Rattle.std.specs.Prelude.{◌≡◌, ℕ, ℤ, pos, negsuc, Bool, true, false, List, [], ◌∷◌, map, codes, Option, Some, None, Result, Ok, Err}
use Rattle.nm_base.specs.declared.pos.Pos.{Pos}
use Rattle.nesc_tree.specs.declared.components.Part.{Part}
use Rattle.nesc_tree.specs.declared.components.Part.TheVariants as part
use Rattle.nesc_tree.specs.declared.components.Head.{Head}
use Rattle.nesc_tree.specs.declared.components.Elem.{Elem}
use Rattle.nesc_tree.specs.declared.components.ConfLine.{ConfLine}
use Rattle.nesc_tree.specs.declared.components.ConfLine.TheVariants as conf
use Rattle.nesc_tree.specs.declared.components.WireEnd.{WireEnd}
use Rattle.wire_instances.specs.declared.plan.Made.{Made}
use Rattle.wire_units.specs.declared.loaded.Loaded.{Loaded}
use Rattle.wire_units.specs.Units.{Name}
use Rattle.wire_pairs.specs.declared.facts.Bracket.{Bracket}
use Rattle.wire_pairs.specs.declared.facts.ElementFacts.{ElementFacts}
use Rattle.wire_pairs.specs.declared.facts.LineFacts.{LineFacts}
use Rattle.wire_pairs.specs.declared.facts.LineFacts.TheVariants as line_facts
use Rattle.wire_pairs.specs.declared.facts.InstanceFacts.{InstanceFacts}
use Rattle.wire_pairs.specs.declared.facts.Unlinked.{Unlinked}
use Rattle.wire_pairs.specs.declared.facts.Unlinked.TheVariants as unlinked
use Rattle.wire_pairs.specs.declared.ends.End.{End}
use Rattle.wire_pairs.specs.declared.ends.Pair.{Pair}
use Rattle.wire_pairs.specs.Ends.{Linked}
use Rattle.wire_pairs.specs.Pairs.{pairs_of}

-- ---- applications, short

abbrev pub place : ℕ → ℕ → Pos
place line col = record { file = 0; line = line; col = col }

abbrev pub holds : Part → Loaded
holds p = record { unit = record { decls = []; part = p }; at = place 1 1 }

abbrev pub head : Name → List Elem → Head
head name elems = record { name = name; generic = None; elems = elems; attrs = [] }

abbrev pub module_of : Name → List Elem → Loaded
module_of name elems = holds (part.Module (record { head = head name elems; decls = [] }))

abbrev pub configuration : Name → List Elem → List ConfLine → Loaded
configuration name elems lines = holds (part.Config (record { head = head name elems; lines = lines }))

abbrev pub element : Bool → Name → Name → Elem
element provides iface name = record { provides = provides; iface = iface; args = []; name = name; param = None; pos = place 2 3 }

abbrev pub provides : Name → Name → Elem
provides iface name = element true iface name

abbrev pub uses : Name → Name → Elem
uses iface name = element false iface name

abbrev pub component : Name → ConfLine
component name = conf.Component name None name (place 3 1)

abbrev pub whole : Name → WireEnd
whole name = record { first = name; second = None; param = None }

abbrev pub of : Name → Name → WireEnd
of name item = record { first = name; second = Some item; param = None }

abbrev pub link : ℕ → WireEnd → WireEnd → ConfLine
link line from to = conf.Link from to (place line 1)

abbrev pub equate : ℕ → WireEnd → WireEnd → ConfLine
equate line a b = conf.Equate a b (place line 1)

-- instances that nothing but their number tells apart
abbrev pub instance : ℕ → Made
instance component = record { component = component; copy = 0; maker = None }

abbrev pub made_by : ℕ → ℕ → ℕ → Made
made_by component maker line = record { component = component; copy = 0; maker = Some (record { instance = maker; line = line }) }

abbrev pub no_facts : InstanceFacts
no_facts = record { elements = []; lines = [] }

abbrev pub plain : ElementFacts
plain = record { args = []; greatest = None }

abbrev pub with_param : ℕ → ElementFacts
with_param greatest = record { args = []; greatest = Some greatest }

abbrev pub with_arg : ℕ → ElementFacts
with_arg arg = record { args = arg ∷ []; greatest = None }

abbrev pub value : ℤ → Pos → Option Bracket
value z at = Some (record { at = at; value = Ok z })

abbrev pub nothing : LineFacts
nothing = line_facts.Brackets None None

-- ---- answers, short: instance, element and parameter of both ends, and the line

abbrev pub Shown : Type 0
Shown = Result (List ((ℕ × ℕ × Option ℕ) × (ℕ × ℕ × Option ℕ) × ℕ)) Unlinked

abbrev pub end_shown : End → ℕ × ℕ × Option ℕ
end_shown e = (e.instance, e.element, e.param)

abbrev pub pair_shown : Pair → (ℕ × ℕ × Option ℕ) × (ℕ × ℕ × Option ℕ) × ℕ
pair_shown p = (end_shown p.from, end_shown p.to, p.pos.line)

abbrev pub shown : Linked (List Pair) → Shown
shown (Ok ps) = Ok (map pair_shown ps)
shown (Err e) = Err e

abbrev pub linked : List Loaded → List Made → List InstanceFacts → Shown
linked units made facts = shown (pairs_of (record { units = units; made = made; facts = facts }))

abbrev pub main : Loaded
main = module_of (codes "MainC") (provides (codes "Boot") (codes "Boot") ∷ uses (codes "Init") (codes "SoftwareInit") ∷ [])

-- ---- a call with three targets

abbrev pub fan : Shown
fan =
    linked (
    configuration (codes "FanAppC") [] (
    component (codes "MainC") ∷ component (codes "FanC") ∷ component (codes "AC") ∷ component (codes "BC")
    ∷ link 4 (of (codes "FanC") (codes "Boot")) (whole (codes "MainC")) ∷ link 5 (of (codes "FanC") (codes "Init")) (whole (codes "AC"))
    ∷ link 6 (of (codes "FanC") (codes "Init")) (whole (codes "AC")) ∷ link 7 (of (codes "FanC") (codes "Init")) (whole (codes "BC")) ∷ [])
    ∷ main
    ∷ module_of (codes "FanC") (uses (codes "Boot") (codes "Boot") ∷ uses (codes "Init") (codes "Init") ∷ [])
    ∷ module_of (codes "AC") (provides (codes "Init") (codes "Init") ∷ [])
    ∷ module_of (codes "BC") (provides (codes "Init") (codes "Init") ∷ [])
    ∷ [])
    (instance 0 ∷ instance 1 ∷ instance 2 ∷ instance 3 ∷ instance 4 ∷ []) []

-- ---- a parameter with one value

abbrev pub par : Shown
par =
    linked (
    configuration (codes "ParAppC") [] (
    component (codes "MainC") ∷ component (codes "ParC") ∷ component (codes "OneG")
    ∷ link 4 (of (codes "ParC") (codes "Boot")) (whole (codes "MainC")) ∷ link 5 (of (codes "ParC") (codes "G")) (whole (codes "OneG")) ∷ [])
    ∷ main
    ∷ module_of (codes "ParC") (uses (codes "Boot") (codes "Boot") ∷ uses (codes "Get") (codes "G") ∷ [])
    ∷ module_of (codes "OneG") (provides (codes "Get") (codes "Get") ∷ [])
    ∷ [])
    (instance 0 ∷ instance 1 ∷ instance 2 ∷ instance 3 ∷ [])
    (record { elements = []; lines = nothing ∷ nothing ∷ nothing ∷ nothing ∷ line_facts.Brackets (value (pos 1) (place 5 8)) None ∷ [] }
    ∷ no_facts ∷ record { elements = plain ∷ with_param 255 ∷ []; lines = [] } ∷ [])

-- ---- a parameter that five configurations pass on; the last one fixes it

abbrev pub pass : Name → Name → Loaded
pass name next = configuration name (provides (codes "Get") (codes "X") ∷ []) (component next ∷ equate 4 (whole (codes "X")) (of next (codes "X")) ∷ [])

abbrev pub passing : InstanceFacts
passing = record { elements = with_param 255 ∷ []; lines = [] }

abbrev pub five : Shown
five =
    linked (
    configuration (codes "A") [] (component (codes "U") ∷ component (codes "C1") ∷ link 4 (of (codes "U") (codes "X")) (whole (codes "C1")) ∷ [])
    ∷ module_of (codes "U") (uses (codes "Get") (codes "X") ∷ [])
    ∷ pass (codes "C1") (codes "C2") ∷ pass (codes "C2") (codes "C3") ∷ pass (codes "C3") (codes "C4") ∷ pass (codes "C4") (codes "C5")
    ∷ configuration (codes "C5") (provides (codes "Get") (codes "X") ∷ []) (component (codes "M") ∷ equate 4 (whole (codes "X")) (of (codes "M") (codes "Y")) ∷ [])
    ∷ module_of (codes "M") (provides (codes "Get") (codes "Y") ∷ [])
    ∷ [])
    (instance 0 ∷ instance 1 ∷ instance 2 ∷ instance 3 ∷ instance 4 ∷ instance 5 ∷ instance 6 ∷ instance 7 ∷ [])
    (no_facts ∷ passing ∷ passing ∷ passing ∷ passing ∷ passing
    ∷ record { elements = with_param 255 ∷ []; lines = nothing ∷ line_facts.Brackets (value (pos 3) (place 4 3)) None ∷ [] } ∷ [])

-- ---- one configuration with elements of its own, three modules, and these lines behind their names

abbrev pub units : List ConfLine → List Loaded
units lines =
    configuration (codes "A") (provides (codes "I") (codes "P") ∷ uses (codes "I") (codes "Q") ∷ provides (codes "J") (codes "R") ∷ uses (codes "J") (codes "S") ∷ [])
    (component (codes "M") ∷ component (codes "N") ∷ component (codes "O") ∷ lines)
    ∷ module_of (codes "M") (uses (codes "I") (codes "u") ∷ provides (codes "I") (codes "p") ∷ uses (codes "J") (codes "v") ∷ [])
    ∷ module_of (codes "N") (provides (codes "I") (codes "p") ∷ provides (codes "I") (codes "r") ∷ provides (codes "K") (codes "k") ∷ [])
    ∷ module_of (codes "O") (uses (codes "K") (codes "k") ∷ provides (codes "K") (codes "l") ∷ provides (codes "T") (codes "t") ∷ provides (codes "T") (codes "s") ∷ uses (codes "T") (codes "w") ∷ [])
    ∷ []

abbrev pub elements_told : List InstanceFacts
elements_told =
    no_facts ∷ no_facts
    ∷ record { elements = with_param 255 ∷ with_param 65535 ∷ with_arg 1 ∷ with_arg 2 ∷ with_arg 2 ∷ []; lines = [] } ∷ []

abbrev pub told : List ConfLine → List LineFacts → Shown
told lines facts =
    linked (units lines) (instance 0 ∷ instance 1 ∷ instance 2 ∷ instance 3 ∷ [])
    (record { elements = []; lines = nothing ∷ nothing ∷ nothing ∷ facts } ∷ elements_told)

abbrev pub only : ConfLine → Shown
only line = told (line ∷ []) []

abbrev pub bracketed : ConfLine → Option Bracket → Option Bracket → Shown
bracketed line a b = told (line ∷ []) (line_facts.Brackets a b ∷ [])

abbrev pub mismatch : Shown
mismatch = Err (unlinked.WireMismatch (place 4 1))

abbrev pub unknown : Shown
unknown = Err (unlinked.UnknownName (place 4 1))

abbrev pub keyed : ConfLine
keyed = link 4 (of (codes "O") (codes "k")) (of (codes "O") (codes "l"))

pub record LinkedRows : Type 0 where
  pub fan_is : fan ≡ Ok (((2, 0, None), (1, 0, None), 4) ∷ ((2, 1, None), (3, 0, None), 5) ∷ ((2, 1, None), (3, 0, None), 6) ∷ ((2, 1, None), (4, 0, None), 7) ∷ [])
  pub par_is : par ≡ Ok (((2, 0, None), (1, 0, None), 4) ∷ ((2, 1, Some 1), (3, 0, None), 5) ∷ [])
  pub five_is : five ≡ Ok (
      ((1, 0, None), (2, 0, None), 4) ∷ ((2, 0, None), (3, 0, None), 4) ∷ ((3, 0, None), (4, 0, None), 4) ∷ ((4, 0, None), (5, 0, None), 4)
      ∷ ((5, 0, None), (6, 0, None), 4) ∷ ((6, 0, Some 3), (7, 0, None), 4) ∷ [])
  -- links: both ends named, one left out
  pub arrow : only (link 4 (of (codes "M") (codes "u")) (of (codes "N") (codes "r"))) ≡ Ok (((1, 0, None), (2, 1, None), 4) ∷ [])
  pub left_out : only (link 4 (whole (codes "M")) (of (codes "N") (codes "r"))) ≡ Ok (((1, 0, None), (2, 1, None), 4) ∷ [])
  pub by_arguments : only (link 4 (of (codes "O") (codes "w")) (whole (codes "O"))) ≡ Ok (((3, 4, None), (3, 3, None), 4) ∷ [])
  -- equates: what is provided, what is used, and both of the configuration's own
  pub provided : only (equate 4 (whole (codes "P")) (of (codes "M") (codes "p"))) ≡ Ok (((0, 0, None), (1, 1, None), 4) ∷ [])
  pub provided_behind : only (equate 4 (of (codes "M") (codes "p")) (whole (codes "P"))) ≡ Ok (((0, 0, None), (1, 1, None), 4) ∷ [])
  pub used : only (equate 4 (whole (codes "Q")) (whole (codes "M"))) ≡ Ok (((1, 0, None), (0, 1, None), 4) ∷ [])
  pub both_own : only (equate 4 (whole (codes "Q")) (whole (codes "P"))) ≡ Ok (((0, 0, None), (0, 1, None), 4) ∷ [])
  -- parameters: passed on, fixed at both ends, the greatest
  pub passed : only keyed ≡ Ok (((3, 0, None), (3, 1, None), 4) ∷ [])
  pub fixed : bracketed keyed (value (pos 255) (place 4 5)) (value (pos 65535) (place 4 9)) ≡ Ok (((3, 0, Some 255), (3, 1, Some 65535), 4) ∷ [])
  pub fixed_first : bracketed (link 4 (of (codes "O") (codes "k")) (of (codes "N") (codes "k"))) (value (pos 0) (place 4 5)) None ≡ Ok (((3, 0, Some 0), (2, 2, None), 4) ∷ [])

pub record RefusedRows : Type 0 where
  pub no_component : only (link 4 (of (codes "Z") (codes "u")) (whole (codes "N"))) ≡ unknown
  pub no_element : only (link 4 (of (codes "M") (codes "z")) (whole (codes "N"))) ≡ unknown
  pub own_element_dot : only (equate 4 (of (codes "P") (codes "p")) (of (codes "M") (codes "p"))) ≡ unknown
  pub later_name : only (link 4 (of (codes "A") (codes "P")) (of (codes "M") (codes "p"))) ≡ unknown
  pub two_provided : only (link 4 (of (codes "M") (codes "p")) (of (codes "N") (codes "p"))) ≡ mismatch
  pub turned_round : only (link 4 (of (codes "N") (codes "p")) (of (codes "M") (codes "u"))) ≡ mismatch
  pub other_interface : only (link 4 (of (codes "M") (codes "v")) (of (codes "N") (codes "p"))) ≡ mismatch
  pub other_arguments : only (link 4 (of (codes "O") (codes "w")) (of (codes "O") (codes "t"))) ≡ mismatch
  pub two_fit : only (link 4 (of (codes "M") (codes "u")) (whole (codes "N"))) ≡ mismatch
  pub none_fits : only (link 4 (of (codes "M") (codes "v")) (whole (codes "N"))) ≡ mismatch
  pub two_left_out : only (link 4 (whole (codes "M")) (whole (codes "N"))) ≡ mismatch
  pub own_at_arrow : only (link 4 (of (codes "M") (codes "u")) (whole (codes "Q"))) ≡ mismatch
  pub no_own_at_equals : only (equate 4 (of (codes "M") (codes "u")) (of (codes "N") (codes "p"))) ≡ mismatch
  pub provided_and_used : only (equate 4 (whole (codes "P")) (of (codes "M") (codes "u"))) ≡ mismatch
  pub needless_bracket : bracketed (link 4 (of (codes "M") (codes "u")) (of (codes "N") (codes "r"))) (value (pos 1) (place 4 5)) None ≡ mismatch
  pub free_at_one : only (link 4 (of (codes "O") (codes "k")) (of (codes "N") (codes "k"))) ≡ mismatch
  pub fixed_at_one : bracketed keyed (value (pos 1) (place 4 5)) None ≡ mismatch
  -- brackets: out of the range, negative, without a value; the first in the text
  pub too_great : bracketed keyed (value (pos 256) (place 4 5)) (value (pos 65535) (place 4 9)) ≡ Err (unlinked.NotConstant (place 4 5))
  pub negative : bracketed keyed (value (pos 0) (place 4 5)) (value (negsuc 0) (place 4 9)) ≡ Err (unlinked.NotConstant (place 4 9))
  pub second_in_text : bracketed keyed (value (pos 256) (place 4 9)) (value (negsuc 0) (place 4 5)) ≡ Err (unlinked.NotConstant (place 4 5))
  pub no_value : bracketed keyed (value (pos 1) (place 4 5)) (Some (record { at = place 4 9; value = Err (unlinked.UnknownName (place 4 11)) })) ≡ Err (unlinked.UnknownName (place 4 11))
  pub fit_first : bracketed (link 4 (of (codes "M") (codes "u")) (of (codes "N") (codes "r"))) (Some (record { at = place 4 5; value = Err (unlinked.BadType (place 4 5)) })) None ≡ mismatch
  -- the first line of two, and arguments of a component
  pub first_line : told (keyed ∷ link 5 (of (codes "Z") (codes "u")) (whole (codes "N")) ∷ []) (line_facts.Brackets (value (pos 256) (place 4 5)) (value (pos 1) (place 4 9)) ∷ []) ≡ Err (unlinked.NotConstant (place 4 5))
  pub arguments : told (component (codes "N") ∷ []) (line_facts.Refused (unlinked.BadType (place 4 20)) ∷ []) ≡ Err (unlinked.BadType (place 4 20))

-- two elements of an application that is a module, and one with a parameter
abbrev pub booted : List ElementFacts → Shown
booted facts =
    linked (module_of (codes "B") (uses (codes "Boot") (codes "Boot") ∷ provides (codes "Boot") (codes "C") ∷ uses (codes "Boot") (codes "D") ∷ []) ∷ main ∷ [])
    (instance 0 ∷ instance 1 ∷ []) (record { elements = facts; lines = [] } ∷ [])

-- two instances of a generic component, and the names that the lines give them
abbrev pub twice : Shown
twice =
    linked (
    configuration (codes "A") [] (
    component (codes "M") ∷ conf.Component (codes "G") (Some []) (codes "G0") (place 3 1) ∷ conf.Component (codes "G") (Some []) (codes "G1") (place 3 2)
    ∷ link 4 (of (codes "M") (codes "u")) (whole (codes "G1")) ∷ link 5 (of (codes "M") (codes "u")) (whole (codes "G0")) ∷ [])
    ∷ module_of (codes "M") (uses (codes "I") (codes "u") ∷ [])
    ∷ module_of (codes "G") (provides (codes "I") (codes "I") ∷ [])
    ∷ [])
    (instance 0 ∷ made_by 1 0 0 ∷ made_by 2 0 1 ∷ made_by 2 0 2 ∷ []) []

pub record InstanceRows : Type 0 where
  pub boots : booted [] ≡ Ok (((0, 0, None), (1, 0, None), 2) ∷ ((0, 2, None), (1, 0, None), 2) ∷ [])
  pub boot_with_parameter : booted (plain ∷ plain ∷ with_param 255 ∷ []) ≡ Err (unlinked.WireMismatch (place 2 3))
  pub generic : twice ≡ Ok (((1, 0, None), (3, 0, None), 4) ∷ ((1, 0, None), (2, 0, None), 5) ∷ [])
