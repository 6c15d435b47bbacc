-- Worked rows: small applications with two faults or more each, and the one that is found first, worked out by hand.
use Rattle.std.specs.Prelude.{◌≡◌, ℕ, ℤ, pos, Bool, true, false, List, [], ◌∷◌, ◌++◌, length, map, codes, Option, Some, None, Result, Ok, Err}
use Rattle.nm_base.specs.declared.pos.Pos.{Pos}
use Rattle.nm_base.specs.declared.fault.Fault.{Fault}
use Rattle.nm_base.specs.declared.fault.Fault.TheVariants as fault
use Rattle.nm_base.specs.declared.refusal.Refusal.TheVariants as refusal
use Rattle.nesc_tree.specs.declared.tree.TypeSpec.{TypeSpec}
use Rattle.nesc_tree.specs.declared.components.Part.{Part}
use Rattle.nesc_tree.specs.declared.components.Part.TheVariants as part
use Rattle.nesc_tree.specs.declared.components.Head.{Head}
use Rattle.nesc_tree.specs.declared.components.Elem.{Elem}
use Rattle.nesc_tree.specs.declared.components.GenericParam.{GenericParam}
use Rattle.nesc_tree.specs.declared.components.ConfLine.{ConfLine}
use Rattle.nesc_tree.specs.declared.components.ConfLine.TheVariants as conf
use Rattle.nesc_tree.specs.declared.components.WireEnd.{WireEnd}
use Rattle.wire_instances.specs.declared.plan.Made.{Made}
use Rattle.wire_units.specs.declared.loaded.Loaded.{Loaded}
use Rattle.wire_units.specs.Units.{Name}
use Rattle.wire_units.specs.Rows as blinking
use Rattle.wire_pairs.specs.declared.facts.Bracket.{Bracket}
use Rattle.wire_pairs.specs.declared.facts.ElementFacts.{ElementFacts}
use Rattle.wire_pairs.specs.declared.facts.InstanceFacts.{InstanceFacts}
use Rattle.wire_pairs.specs.declared.facts.LineFacts.{LineFacts}
use Rattle.wire_pairs.specs.declared.facts.LineFacts.TheVariants as line_facts
use Rattle.wire_pairs.specs.declared.facts.Unlinked.TheVariants as unlinked
use Rattle.wire_phases.specs.Wired.{Phase, Telling, Wired, created, wired_of}

-- ---- applications, short: a place is a file and a line

abbrev pub at : ℕ → ℕ → Pos
at file line = record { file = file; line = line; col = 1 }

abbrev pub holds : ℕ → Part → Loaded
holds file p = record { unit = record { decls = []; part = p }; at = at file 0 }

abbrev pub head : Name → Option (List GenericParam) → List Elem → Head
head name generic elems = record { name = name; generic = generic; elems = elems; attrs = [] }

abbrev pub module_of : ℕ → Name → List Elem → Loaded
module_of file name elems = holds file (part.Module (record { head = head name None elems; decls = [] }))

abbrev pub configuration : ℕ → Name → List Elem → List ConfLine → Loaded
configuration file name elems lines = holds file (part.Config (record { head = head name None elems; lines = lines }))

abbrev pub generic : ℕ → Name → List Elem → List ConfLine → Loaded
generic file name elems lines = holds file (part.Config (record { head = head name (Some []) elems; lines = lines }))

abbrev pub interface : Name → Loaded
interface name = holds 8 (part.Interface (record { name = name; params = []; items = []; attrs = [] }))

abbrev pub element : Bool → Name → Name → Pos → Elem
element provides iface name place = record { provides = provides; iface = iface; args = []; name = name; param = None; pos = place }

abbrev pub provides : Name → Name → Elem
provides iface name = element true iface name (at 8 1)

abbrev pub uses : Name → Name → Elem
uses iface name = element false iface name (at 8 1)

abbrev pub component : Name → Pos → ConfLine
component name place = conf.Component name None name place

abbrev pub new : Name → Name → Pos → ConfLine
new name alias place = conf.Component name (Some []) alias place

abbrev pub whole : Name → WireEnd
whole name = record { first = name; second = None; param = None }

abbrev pub of : Name → Name → WireEnd
of name item = record { first = name; second = Some item; param = None }

abbrev pub link : Pos → WireEnd → WireEnd → ConfLine
link place from to = conf.Link from to place

abbrev pub equate : Pos → WireEnd → WireEnd → ConfLine
equate place a b = conf.Equate a b place

abbrev pub prelude : Loaded
prelude = holds 0 part.Header

-- files that every application has, and two modules
abbrev pub others : List Loaded
others =
    module_of 8 (codes "MainC") (provides (codes "Boot") (codes "Boot") ∷ uses (codes "Init") (codes "SoftwareInit") ∷ [])
    ∷ interface (codes "Boot") ∷ interface (codes "Init") ∷ interface (codes "I") ∷ interface (codes "J")
    ∷ module_of 8 (codes "M") (uses (codes "I") (codes "u") ∷ provides (codes "I") (codes "p") ∷ uses (codes "J") (codes "v") ∷ [])
    ∷ module_of 8 (codes "N") (provides (codes "I") (codes "p") ∷ provides (codes "I") (codes "r") ∷ [])
    ∷ []

-- an application whose file has the number 1, with these lines behind the names of both modules, and other files
abbrev pub files : List ConfLine → List Loaded → List Loaded
files lines more =
    prelude
    ∷ configuration 1 (codes "A") (provides (codes "I") (codes "P") ∷ uses (codes "I") (codes "Q") ∷ []) (component (codes "M") (at 1 1) ∷ component (codes "N") (at 1 2) ∷ lines)
    ∷ others ++ more

-- ---- what lines are

abbrev pub unknown : ℕ → ConfLine
unknown line = component (codes "Z") (at 1 line)

abbrev pub again : ℕ → ConfLine
again line = component (codes "M") (at 1 line)

abbrev pub needless_new : ℕ → ConfLine
needless_new line = new (codes "N") (codes "N2") (at 1 line)

abbrev pub fine : ℕ → ConfLine
fine line = link (at 1 line) (of (codes "M") (codes "u")) (of (codes "N") (codes "p"))

-- both ends are provided
abbrev pub mismatched : ℕ → ℕ → ConfLine
mismatched file line = link (at file line) (of (codes "M") (codes "p")) (of (codes "N") (codes "p"))

abbrev pub unknown_end : ℕ → ConfLine
unknown_end line = link (at 1 line) (of (codes "Z") (codes "u")) (of (codes "N") (codes "p"))

-- configurations with a wire that does not fit
abbrev pub bad : ℕ → Name → List ConfLine → Loaded
bad file name lines = configuration file name [] (component (codes "M") (at file 1) ∷ component (codes "N") (at file 2) ∷ mismatched file 3 ∷ lines)

-- ---- answers

abbrev pub untold : Telling
untold units made = Ok []

abbrev pub telling : List InstanceFacts → Telling
telling facts units made = Ok facts

abbrev pub Answer : Type 0
Answer = Result ℕ Fault

abbrev pub count : {A : Type 0} → List A → ℕ
count xs = length xs

abbrev pub shown : Phase Wired → Answer
shown (Ok w) = Ok (count w.pairs)
shown (Err e) = Err e

abbrev pub answer : List ConfLine → List Loaded → Answer
answer lines more = shown (wired_of untold (files lines more))

abbrev pub told : List InstanceFacts → List ConfLine → Answer
told facts lines = shown (wired_of (telling facts) (files lines []))

abbrev pub bad_type : ℕ → ℕ → Answer
bad_type file line = Err (fault.Refused (refusal.BadType (at file line)))

abbrev pub not_constant : Pos → Answer
not_constant place = Err (fault.Refused (refusal.NotConstant place))

abbrev pub unknown_name : ℕ → ℕ → Answer
unknown_name file line = Err (fault.Refused (refusal.UnknownName (at file line)))

abbrev pub duplicate : ℕ → ℕ → Answer
duplicate file line = Err (fault.Refused (refusal.DuplicateName (at file line)))

abbrev pub mismatch : ℕ → ℕ → Answer
mismatch file line = Err (fault.Refused (refusal.WireMismatch (at file line)))

abbrev pub loop : ℕ → ℕ → Answer
loop file line = Err (fault.Refused (refusal.ComponentLoop (at file line)))

abbrev pub arguments : ℕ → ℕ → Answer
arguments file line = Err (fault.Refused (refusal.ArgumentMismatch (at file line)))

-- ---- facts, short

abbrev pub nothing : LineFacts
nothing = line_facts.Brackets None None

abbrev pub no_facts : InstanceFacts
no_facts = record { elements = []; lines = [] }

abbrev pub plain : ElementFacts
plain = record { args = []; greatest = None }

abbrev pub byte : ElementFacts
byte = record { args = []; greatest = Some 255 }

-- the first two lines are names; M.u and N.p have a parameter of 8 bits
abbrev pub facts : List LineFacts → List InstanceFacts
facts lines =
    record { elements = []; lines = nothing ∷ nothing ∷ lines }
    ∷ record { elements = byte ∷ plain ∷ plain ∷ []; lines = [] } ∷ record { elements = byte ∷ plain ∷ []; lines = [] } ∷ []

abbrev pub behind : ℕ → ℕ → Pos
behind line col = record { file = 1; line = line; col = col }

abbrev pub value : ℕ → Pos → Option Bracket
value n place = Some (record { at = place; value = Ok (pos n) })

abbrev pub no_value : Pos → Option Bracket
no_value place = Some (record { at = place; value = Err (unlinked.BadType place) })

-- ---- creation comes before wires

pub record PhaseRows : Type 0 where
  pub nothing_wrong : answer (fine 3 ∷ []) [] ≡ Ok 1
  pub unknown_component : answer (mismatched 1 3 ∷ unknown 4 ∷ []) [] ≡ unknown_name 1 4
  pub name_twice : answer (mismatched 1 3 ∷ again 4 ∷ []) [] ≡ duplicate 1 4
  pub new_of_no_generic : answer (mismatched 1 3 ∷ needless_new 4 ∷ []) [] ≡ arguments 1 4
  pub in_itself : answer (mismatched 1 3 ∷ new (codes "G") (codes "G") (at 1 4) ∷ []) (generic 9 (codes "G") [] (new (codes "G") (codes "H") (at 9 2) ∷ []) ∷ []) ≡ loop 9 2
  pub without_new : answer (mismatched 1 3 ∷ component (codes "G") (at 1 4) ∷ []) (generic 9 (codes "G") [] [] ∷ []) ≡ arguments 1 4
  pub element_twice : answer (mismatched 1 3 ∷ component (codes "T") (at 1 4) ∷ []) (module_of 9 (codes "T") (element true (codes "I") (codes "x") (at 9 2) ∷ element true (codes "I") (codes "x") (at 9 3) ∷ []) ∷ []) ≡ duplicate 9 3
  pub unknown_interface : answer (mismatched 1 3 ∷ component (codes "T") (at 1 4) ∷ []) (module_of 9 (codes "T") (element true (codes "Z") (codes "x") (at 9 2) ∷ []) ∷ []) ≡ unknown_name 9 2
  pub interface_named : answer (mismatched 1 3 ∷ component (codes "J") (at 1 4) ∷ []) [] ≡ unknown_name 1 4
  pub told_late : shown (wired_of (λ units made. Err (fault.Refused (refusal.BadType (at 0 3)))) (files (mismatched 1 3 ∷ unknown 4 ∷ []) [])) ≡ unknown_name 1 4
  pub told_first : shown (wired_of (λ units made. Err (fault.Refused (refusal.BadType (at 0 3)))) (files (mismatched 1 3 ∷ []) [])) ≡ bad_type 0 3

-- ---- creation, in its own order

pub record CreationRows : Type 0 where
  pub two_unknown : answer (unknown 3 ∷ component (codes "Y") (at 1 4) ∷ []) [] ≡ unknown_name 1 3
  pub twice_then_unknown : answer (again 3 ∷ unknown 4 ∷ []) [] ≡ duplicate 1 3
  pub unknown_then_twice : answer (unknown 3 ∷ again 4 ∷ []) [] ≡ unknown_name 1 3
  pub new_then_unknown : answer (needless_new 3 ∷ unknown 4 ∷ []) [] ≡ arguments 1 3
  pub inner_first : answer (component (codes "C") (at 1 3) ∷ again 4 ∷ []) (configuration 9 (codes "C") [] (component (codes "Z") (at 9 2) ∷ []) ∷ []) ≡ unknown_name 9 2
  pub outer_first : answer (again 3 ∷ component (codes "C") (at 1 4) ∷ []) (configuration 9 (codes "C") [] (component (codes "Z") (at 9 2) ∷ []) ∷ []) ≡ duplicate 1 3
  pub specification_first : answer (component (codes "C") (at 1 3) ∷ []) (configuration 9 (codes "C") (element true (codes "I") (codes "x") (at 9 1) ∷ element false (codes "I") (codes "x") (at 9 2) ∷ []) (component (codes "Z") (at 9 3) ∷ []) ∷ []) ≡ duplicate 9 2
  pub loop_then_unknown : answer (new (codes "G") (codes "G") (at 1 3) ∷ []) (generic 9 (codes "G") [] (new (codes "G") (codes "H") (at 9 2) ∷ component (codes "Z") (at 9 3) ∷ []) ∷ []) ≡ loop 9 2
  pub unknown_then_loop : answer (new (codes "G") (codes "G") (at 1 3) ∷ []) (generic 9 (codes "G") [] (component (codes "Z") (at 9 2) ∷ new (codes "G") (codes "H") (at 9 3) ∷ []) ∷ []) ≡ unknown_name 9 2
  pub two_loops : answer (new (codes "G") (codes "G") (at 1 3) ∷ []) (generic 9 (codes "G") [] (new (codes "H") (codes "H") (at 9 2) ∷ new (codes "G") (codes "K") (at 9 3) ∷ []) ∷ generic 10 (codes "H") [] (new (codes "G") (codes "G") (at 10 2) ∷ []) ∷ []) ≡ loop 10 2
  pub generic_application : shown (wired_of untold (prelude ∷ generic 1 (codes "A") [] (unknown 3 ∷ []) ∷ others)) ≡ arguments 1 0

-- ---- wires, by instance and text

pub record WireRows : Type 0 where
  pub unknown_then_mismatch : answer (unknown_end 3 ∷ mismatched 1 4 ∷ []) [] ≡ unknown_name 1 3
  pub mismatch_then_unknown : answer (mismatched 1 3 ∷ unknown_end 4 ∷ []) [] ≡ mismatch 1 3
  pub behind_a_fine_one : answer (fine 3 ∷ mismatched 1 4 ∷ unknown_end 5 ∷ []) [] ≡ mismatch 1 4
  pub named_later : answer (link (at 1 3) (of (codes "M") (codes "u")) (of (codes "O") (codes "p")) ∷ component (codes "O") (at 1 4) ∷ mismatched 1 5 ∷ []) (module_of 9 (codes "O") (provides (codes "I") (codes "p") ∷ []) ∷ []) ≡ unknown_name 1 3
  pub two_left_out : answer (link (at 1 3) (whole (codes "M")) (whole (codes "N")) ∷ unknown_end 4 ∷ []) [] ≡ mismatch 1 3
  pub two_fit : answer (link (at 1 3) (of (codes "M") (codes "u")) (whole (codes "N")) ∷ unknown_end 4 ∷ []) [] ≡ mismatch 1 3
  pub own_at_arrow : answer (link (at 1 3) (of (codes "M") (codes "u")) (whole (codes "Q")) ∷ unknown_end 4 ∷ []) [] ≡ mismatch 1 3
  pub no_own_at_equals : answer (equate (at 1 3) (of (codes "M") (codes "p")) (of (codes "N") (codes "p")) ∷ unknown_end 4 ∷ []) [] ≡ mismatch 1 3
  pub own_with_a_dot : answer (equate (at 1 3) (of (codes "P") (codes "x")) (of (codes "M") (codes "p")) ∷ mismatched 1 4 ∷ []) [] ≡ unknown_name 1 3
  pub outer_instance_first : answer (component (codes "C") (at 1 3) ∷ mismatched 1 4 ∷ []) (bad 9 (codes "C") [] ∷ []) ≡ mismatch 1 4
  pub first_of_two_instances : answer (component (codes "C") (at 1 3) ∷ component (codes "D") (at 1 4) ∷ []) (bad 9 (codes "C") [] ∷ bad 10 (codes "D") [] ∷ []) ≡ mismatch 9 3
  pub created_first : answer (component (codes "D") (at 1 3) ∷ component (codes "C") (at 1 4) ∷ []) (bad 9 (codes "C") [] ∷ bad 10 (codes "D") [] ∷ []) ≡ mismatch 10 3
  pub inner_instance_last : answer (component (codes "C") (at 1 3) ∷ component (codes "E") (at 1 4) ∷ []) (configuration 9 (codes "C") [] (component (codes "D") (at 9 1) ∷ []) ∷ bad 10 (codes "D") [] ∷ bad 11 (codes "E") [] ∷ []) ≡ mismatch 10 3
  pub copies : answer (new (codes "G") (codes "G") (at 1 3) ∷ new (codes "G") (codes "H") (at 1 4) ∷ unknown_end 5 ∷ []) (generic 9 (codes "G") [] (component (codes "M") (at 9 1) ∷ component (codes "N") (at 9 2) ∷ mismatched 9 3 ∷ []) ∷ []) ≡ unknown_name 1 5

-- ---- brackets and arguments, told

pub record FactRows : Type 0 where
  pub bracket_then_mismatch : told (facts (line_facts.Brackets (value 256 (behind 3 5)) (value 1 (behind 3 9)) ∷ [])) (fine 3 ∷ mismatched 1 4 ∷ []) ≡ not_constant (behind 3 5)
  pub mismatch_then_bracket : told (facts (nothing ∷ line_facts.Brackets (value 256 (behind 4 5)) (value 1 (behind 4 9)) ∷ [])) (mismatched 1 3 ∷ fine 4 ∷ []) ≡ mismatch 1 3
  pub name_before_bracket : told (facts (line_facts.Brackets (no_value (behind 3 5)) None ∷ [])) (unknown_end 3 ∷ []) ≡ unknown_name 1 3
  pub fit_before_bracket : told (facts (line_facts.Brackets (no_value (behind 3 5)) None ∷ [])) (mismatched 1 3 ∷ []) ≡ mismatch 1 3
  pub needless_before_value : told (facts (line_facts.Brackets (value 256 (behind 3 5)) None ∷ [])) (link (at 1 3) (of (codes "M") (codes "u")) (of (codes "N") (codes "p")) ∷ []) ≡ mismatch 1 3
  pub first_bracket : told (facts (line_facts.Brackets (value 256 (behind 3 5)) (no_value (behind 3 9)) ∷ [])) (fine 3 ∷ []) ≡ not_constant (behind 3 5)
  pub first_in_text : told (facts (line_facts.Brackets (no_value (behind 3 9)) (value 256 (behind 3 5)) ∷ [])) (fine 3 ∷ []) ≡ not_constant (behind 3 5)
  pub arguments_then_mismatch : told (facts (line_facts.Refused (unlinked.BadType (at 1 3)) ∷ [])) (new (codes "L") (codes "L") (at 1 3) ∷ mismatched 1 4 ∷ []) ≡ unknown_name 1 3
  pub refused_then_mismatch : told (facts (line_facts.Refused (unlinked.BadType (at 1 3)) ∷ [])) (component (codes "MainC") (at 1 3) ∷ mismatched 1 4 ∷ []) ≡ bad_type 1 3
  pub mismatch_then_refused : told (facts (nothing ∷ line_facts.Refused (unlinked.BadType (at 1 4)) ∷ [])) (mismatched 1 3 ∷ component (codes "MainC") (at 1 4) ∷ []) ≡ mismatch 1 3

-- ---- three copies of a component behind the prelude, of any type t

abbrev pub table : Phase (List Made) → Result (List (ℕ × ℕ)) Fault
table (Ok made) = Ok (map (λ m. (m.component, m.copy)) made)
table (Err e) = Err e

pub record BlinkRows (t : TypeSpec) : Type 0 where
  pub blinks : table (created (prelude ∷ blinking.blink t)) ≡ Ok (
      (1, 0) ∷ (2, 0) ∷ (5, 0) ∷ (8, 0) ∷ (9, 0) ∷ (10, 0) ∷ (11, 0) ∷ (9, 1) ∷ (9, 2) ∷ [])
