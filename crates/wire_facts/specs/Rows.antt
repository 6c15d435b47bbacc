-- Worked rows: what is told of small applications, worked out by hand. A place is a line and a column.
use Rattle.std.specs.Prelude.{◌≡◌, ℕ, ℤ, pos, false, List, [], ◌∷◌, codes, Option, Some, None, Result, Ok, Err}
use Rattle.nm_base.specs.declared.pos.Pos.{Pos}
use Rattle.nm_base.specs.declared.fault.Fault.{Fault}
use Rattle.nm_base.specs.declared.fault.Fault.TheVariants as fault
use Rattle.nm_base.specs.declared.refusal.Refusal.TheVariants as refusal
use Rattle.nm_base.specs.declared.int_type.IntType.TheVariants.{U8, I16, U16, I32}
use Rattle.nesc_tree.specs.declared.tree.InOp.TheVariants as op
use Rattle.nesc_tree.specs.Plain as s
use Rattle.nesc_tree.specs.Plain.{Expr, MaybeExpr, TypeSpec, Base}
use Rattle.elab_meaning.specs.Scope.{Env}
use Rattle.body_meaning.specs.Tree.{Decl}
use Rattle.body_meaning.specs.Tree as tree
use Rattle.wire_instances.specs.declared.plan.Made.{Made}
use Rattle.wire_pairs.specs.declared.facts.Bracket.{Bracket}
use Rattle.wire_pairs.specs.declared.facts.ElementFacts.{ElementFacts}
use Rattle.wire_pairs.specs.declared.facts.InstanceFacts.{InstanceFacts}
use Rattle.wire_pairs.specs.declared.facts.LineFacts.{LineFacts}
use Rattle.wire_pairs.specs.declared.facts.LineFacts.TheVariants as line_facts
use Rattle.wire_pairs.specs.declared.facts.Unlinked.{Unlinked}
use Rattle.wire_pairs.specs.declared.facts.Unlinked.TheVariants as unlinked
use Rattle.wire_facts.specs.Components.{Param, Arg, Element, Line, Component, of_type, of_value, names_instance, wire, declares}
use Rattle.wire_facts.specs.Seen.{facts_of}

abbrev pub at : ℕ → ℕ → Pos
at line col = record { file = 0; line = line; col = col }

-- ---- texts, short

abbrev pub spec : Base → TypeSpec
spec b = s.type_spec b 0 s.no_exprs false

abbrev pub byte_name : TypeSpec
byte_name = spec (s.named (codes "byte"))

abbrev pub number : List ℕ → Pos → Expr
number text place = s.number text place

abbrev pub name : List ℕ → Pos → Expr
name text place = s.name text place

abbrev pub enumerated : List ℕ → Expr → Pos → Decl
enumerated text e place = tree.type_only (spec (s.enum_of None (s.more_items text (s.some_expr e) place s.no_items))) place

-- typedef unsigned char byte; enum { A = 3 };
abbrev pub header : List Decl
header = tree.typedef (codes "byte") (spec (s.int U8)) [] (at 1 1) ∷ enumerated (codes "A") (number (codes "3") (at 1 9)) (at 1 5) ∷ []

abbrev pub element : List ℕ → List TypeSpec → Option TypeSpec → Element
element text args param = record { name = text; args = args; param = param; at = at 2 1 }

abbrev pub file : Option (List Param) → List Element → List Line → Component
file generic elements lines = record { decls = []; generic = generic; elements = elements; lines = lines; at = at 2 0 }

abbrev pub prelude : List Decl → Component
prelude decls = record { decls = decls; generic = None; elements = []; lines = []; at = at 1 0 }

abbrev pub single : ℕ → Made
single component = record { component = component; copy = 0; maker = None }

abbrev pub made_by : ℕ → ℕ → ℕ → Made
made_by component maker line = record { component = component; copy = 0; maker = Some (record { instance = maker; line = line }) }

abbrev pub no_env : Env
no_env = record { instance = 0; uniques = []; counts = []; items = []; first_dispatch = 0 }

abbrev pub answer : List Decl → List Component → List Made → List Env → Result (List InstanceFacts) Fault
answer decls components made envs = facts_of (record { components = prelude decls ∷ components; made = made; headers = no_env; envs = envs })

-- ---- answers, short

abbrev pub untold : LineFacts
untold = line_facts.Brackets None None

abbrev pub at_value : Pos → Result ℤ Unlinked → Option Bracket
at_value place z = Some (record { at = place; value = z })

abbrev pub element_facts : List ℕ → Option ℕ → ElementFacts
element_facts args greatest = record { args = args; greatest = greatest }

abbrev pub facts : List ElementFacts → List LineFacts → InstanceFacts
facts elements lines = record { elements = elements; lines = lines }

-- ---- a configuration and a module: I<byte> as X[byte k], I<int> as Y, I<unsigned char> as Z[unsigned int k]

abbrev pub module_elements : List Element
module_elements =
    element (codes "X") (byte_name ∷ []) (Some byte_name) ∷ element (codes "Y") (spec (s.int I16) ∷ []) None
    ∷ element (codes "Z") (spec (s.int U8) ∷ []) (Some (spec (s.int U16))) ∷ []

abbrev pub module_facts : InstanceFacts
module_facts = facts (element_facts (0 ∷ []) (Some 255) ∷ element_facts (1 ∷ []) None ∷ element_facts (0 ∷ []) (Some 65535) ∷ []) []

abbrev pub with_lines : List Line → Result (List InstanceFacts) Fault
with_lines lines = answer header (file None [] (names_instance None (codes "M") (at 3 1) ∷ lines) ∷ file None module_elements [] ∷ []) (single 1 ∷ single 2 ∷ []) []

abbrev pub lines_are : List LineFacts → Result (List InstanceFacts) Fault
lines_are lines = Ok (facts [] (untold ∷ lines) ∷ module_facts ∷ [])

abbrev pub one_bracket : Expr → Line
one_bracket e = wire (s.some_expr e) s.no_expr (at 4 1)

abbrev pub bracket_is : Pos → Result ℤ Unlinked → Result (List InstanceFacts) Fault
bracket_is place z = lines_are (line_facts.Brackets (at_value place z) None ∷ [])

abbrev pub two_brackets : Line
two_brackets = wire (s.some_expr (name (codes "B") (at 4 9))) (s.some_expr (name (codes "C") (at 4 3))) (at 4 1)

pub record BracketRows : Type 0 where
  pub types : with_lines [] ≡ lines_are []
  pub constant : with_lines (one_bracket (name (codes "A") (at 4 3)) ∷ []) ≡ bracket_is (at 4 3) (Ok (pos 3))
  pub both : with_lines (wire (s.some_expr (name (codes "A") (at 4 3))) (s.some_expr (number (codes "4") (at 4 9))) (at 4 1) ∷ []) ≡ lines_are (line_facts.Brackets (at_value (at 4 3) (Ok (pos 3))) (at_value (at 4 9) (Ok (pos 4))) ∷ [])
  pub unknown : with_lines (one_bracket (name (codes "B") (at 4 3)) ∷ []) ≡ bracket_is (at 4 3) (Err (unlinked.UnknownName (at 4 3)))
  pub type_name : with_lines (one_bracket (name (codes "byte") (at 4 3)) ∷ []) ≡ bracket_is (at 4 3) (Err (unlinked.NotConstant (at 4 3)))
  -- the name of a component is no constant, and neither is one that it hides
  pub component : with_lines (one_bracket (name (codes "M") (at 4 3)) ∷ []) ≡ bracket_is (at 4 3) (Err (unlinked.NotConstant (at 4 3)))
  pub hidden : with_lines (names_instance None (codes "A") (at 3 9) ∷ one_bracket (name (codes "A") (at 4 3)) ∷ []) ≡ lines_are (untold ∷ line_facts.Brackets (at_value (at 4 3) (Err (unlinked.NotConstant (at 4 3)))) None ∷ [])
  pub divided : with_lines (one_bracket (s.binary op.Div (number (codes "1") (at 4 3)) (number (codes "0") (at 4 5)) (at 4 3)) ∷ []) ≡ bracket_is (at 4 3) (Err (unlinked.NotConstant (at 4 3)))
  pub measured : with_lines (one_bracket (s.size_of_type (spec (s.int I32)) (at 4 3)) ∷ []) ≡ bracket_is (at 4 3) (Ok (pos 4))
  -- the bracket that begins first; what is behind a refused line is not looked at
  pub first_in_text : with_lines (two_brackets ∷ one_bracket (name (codes "D") (at 5 3)) ∷ []) ≡ lines_are (line_facts.Brackets (at_value (at 4 9) (Err (unlinked.NotConstant (at 4 9)))) (at_value (at 4 3) (Err (unlinked.UnknownName (at 4 3)))) ∷ [])
  pub declared : with_lines (declares (enumerated (codes "B") (s.binary op.Add (name (codes "A") (at 4 3)) (number (codes "1") (at 4 5)) (at 4 3)) (at 4 1)) ∷ one_bracket (name (codes "B") (at 5 3)) ∷ []) ≡ lines_are (untold ∷ line_facts.Brackets (at_value (at 5 3) (Ok (pos 4))) None ∷ [])
  pub declared_later : with_lines (one_bracket (name (codes "B") (at 4 3)) ∷ declares (enumerated (codes "B") (number (codes "1") (at 5 3)) (at 5 1)) ∷ []) ≡ bracket_is (at 4 3) (Err (unlinked.UnknownName (at 4 3)))
  pub declared_badly : with_lines (declares (enumerated (codes "B") (name (codes "C") (at 4 3)) (at 4 1)) ∷ []) ≡ lines_are (line_facts.Refused (unlinked.UnknownName (at 4 3)) ∷ [])

-- ---- a generic configuration G(typedef t, t n) with I<t> as X[t k], whose line has a bracket [n]

abbrev pub generic : Component
generic =
    file (Some (record { name = codes "t"; ty = None } ∷ record { name = codes "n"; ty = Some (spec (s.named (codes "t"))) } ∷ []))
    (element (codes "X") (spec (s.named (codes "t")) ∷ []) (Some (spec (s.named (codes "t")))) ∷ [])
    (wire (s.some_expr (name (codes "n") (at 6 3))) s.no_expr (at 6 1) ∷ [])

abbrev pub new : List Arg → Line
new args = names_instance (Some args) (codes "G") (at 3 1)

-- one line that makes an instance
abbrev pub makes : List Arg → Result (List InstanceFacts) Fault
makes args = answer header (file None [] (new args ∷ []) ∷ generic ∷ []) (single 1 ∷ made_by 2 0 0 ∷ []) []

abbrev pub refused : Unlinked → Result (List InstanceFacts) Fault
refused e = Ok (facts [] (line_facts.Refused e ∷ []) ∷ facts [] [] ∷ [])

-- two lines that make instances, of byte and of unsigned int
abbrev pub twice : Result (List InstanceFacts) Fault
twice =
    answer header
    (file None [] (
    names_instance (Some (of_type byte_name ∷ of_value (number (codes "5") (at 3 9)) ∷ [])) (codes "G") (at 3 1)
    ∷ names_instance (Some (of_type (spec (s.int U16)) ∷ of_value (name (codes "A") (at 4 9)) ∷ [])) (codes "H") (at 4 1) ∷ [])
    ∷ generic ∷ [])
    (single 1 ∷ made_by 2 0 0 ∷ made_by 2 0 1 ∷ []) []

-- a unique number is told by its place
abbrev pub with_unique : Result (List InstanceFacts) Fault
with_unique =
    answer header (file None [] (wire (s.some_expr (s.unique (codes "s") (at 3 5))) (s.some_expr (s.unique_count (codes "s") (at 3 9))) (at 3 1) ∷ []) ∷ []) (single 1 ∷ [])
    (record { instance = 0; uniques = record { at = at 3 5; number = 2 } ∷ []; counts = record { text = codes "s"; count = 7 } ∷ []; items = []; first_dispatch = 0 } ∷ [])

pub record ArgumentRows : Type 0 where
  pub two_instances : twice ≡ Ok (
      facts [] (untold ∷ untold ∷ [])
      ∷ facts (element_facts (0 ∷ []) (Some 255) ∷ []) (line_facts.Brackets (at_value (at 6 3) (Ok (pos 5))) None ∷ [])
      ∷ facts (element_facts (1 ∷ []) (Some 65535) ∷ []) (line_facts.Brackets (at_value (at 6 3) (Ok (pos 3))) None ∷ []) ∷ [])
  pub out_of_range : makes (of_type byte_name ∷ of_value (number (codes "256") (at 3 9)) ∷ []) ≡ refused (unlinked.NotConstant (at 3 9))
  pub value_for_type : makes (of_value (number (codes "5") (at 3 5)) ∷ of_value (number (codes "5") (at 3 9)) ∷ []) ≡ refused (unlinked.BadType (at 3 5))
  pub type_for_value : makes (of_type byte_name ∷ of_type byte_name ∷ []) ≡ refused (unlinked.BadType (at 3 1))
  pub unknown : makes (of_type byte_name ∷ of_value (name (codes "B") (at 3 9)) ∷ []) ≡ refused (unlinked.UnknownName (at 3 9))
  pub unknown_tag : makes (of_type (spec (s.struct (Some (codes "B")))) ∷ of_value (number (codes "5") (at 3 9)) ∷ []) ≡ refused (unlinked.UnknownName (at 3 1))
  -- the first of two arguments
  pub first_argument : makes (of_value (number (codes "5") (at 3 5)) ∷ of_value (name (codes "B") (at 3 9)) ∷ []) ≡ refused (unlinked.BadType (at 3 5))
  -- a parameter of 32 bits is none of a bracket
  pub element_refused : makes (of_type (spec (s.int I32)) ∷ of_value (number (codes "5") (at 3 9)) ∷ []) ≡ refused (unlinked.BadType (at 2 1))
  pub unique : with_unique ≡ Ok (facts [] (line_facts.Brackets (at_value (at 3 5) (Ok (pos 2))) (at_value (at 3 9) (Ok (pos 7))) ∷ []) ∷ [])
  -- faults before all wires: in a header, and in a specification
  pub header_refused : answer (enumerated (codes "A") (name (codes "B") (at 1 9)) (at 1 5) ∷ []) (file None [] (one_bracket (name (codes "D") (at 4 3)) ∷ []) ∷ []) (single 1 ∷ []) [] ≡ Err (fault.Refused (refusal.UnknownName (at 1 9)))
  pub specification_refused : answer header (file None (element (codes "X") (spec (s.struct (Some (codes "B"))) ∷ []) None ∷ []) (one_bracket (name (codes "D") (at 4 3)) ∷ []) ∷ []) (single 1 ∷ []) [] ≡ Err (fault.Refused (refusal.UnknownName (at 2 1)))
