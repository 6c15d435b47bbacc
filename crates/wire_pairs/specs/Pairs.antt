-- The pairs of ends that the wires of an application link, each in the direction of calls, by instance and place in the text, or the
-- first wire that is refused (nesC 1.3 Reference, section 9; own: the order).
use Rattle.std.specs.Prelude.{ℕ, ◌+◌, Bool, false, not, ◌&&◌, cond, List, [], ◌∷◌, ◌++◌, Option, Some, None, Ok, Err, codes}
use Rattle.nm_base.specs.declared.pos.Pos.{Pos}
use Rattle.nesc_tree.specs.declared.components.ConfLine.{ConfLine}
use Rattle.nesc_tree.specs.declared.components.ConfLine.TheVariants as conf
use Rattle.nesc_tree.specs.declared.components.WireEnd.{WireEnd}
use Rattle.nesc_tree.specs.declared.components.Elem.{Elem}
use Rattle.wire_instances.specs.declared.plan.Made.{Made}
use Rattle.wire_units.specs.declared.loaded.Loaded.{Loaded}
use Rattle.nesc_tree.specs.declared.components.Part.{Part}
use Rattle.nesc_tree.specs.declared.components.Part.TheVariants as part
use Rattle.wire_names.specs.Texts.{same_text}
use Rattle.wire_units.specs.Units.{Name, lines_in}
use Rattle.wire_pairs.specs.declared.facts.Unlinked.TheVariants as unlinked
use Rattle.wire_pairs.specs.declared.ends.NamedEnd.{NamedEnd}
use Rattle.wire_pairs.specs.declared.ends.NamedEnd.TheVariants as end
use Rattle.wire_pairs.specs.declared.facts.Bracket.{Bracket}
use Rattle.wire_pairs.specs.declared.facts.LineFacts.{LineFacts}
use Rattle.wire_pairs.specs.declared.facts.LineFacts.TheVariants as line_facts
use Rattle.wire_pairs.specs.declared.ends.Spot.{Spot}
use Rattle.wire_pairs.specs.declared.ends.End.{End}
use Rattle.wire_pairs.specs.declared.ends.Pair.{Pair}
use Rattle.wire_pairs.specs.declared.ends.Sign.{Sign}
use Rattle.wire_pairs.specs.declared.ends.Sign.TheVariants as sign
use Rattle.wire_pairs.specs.Application.{Application, Scope, single, element_facts, greatest_in, line_facts_at, scope_behind, file_of}
use Rattle.wire_pairs.specs.Ends.{Linked, ◌>>=◌, spot, named, of_member}
use Rattle.wire_pairs.specs.Fits.{leaves, elem_at, Joined, joined}
use Rattle.wire_pairs.specs.Brackets.{Values, bracketed}

abbrev pub end_of : Spot → Option ℕ → End
end_of x param = record { instance = x.instance; element = x.element; param = param }

abbrev pub pair : End → End → Pos → Pair
pair from to at = record { from = from; to = to; pos = at }

abbrev pub leaves_in : (own : Bool) → Option Elem → Bool
leaves_in own None = false
leaves_in own (Some e) = leaves own e.provides

-- from the end where calls come out to the other
abbrev pub oriented : (x_leaves : Bool) → (x y : Spot) → Values → Pos → Pair
oriented x_leaves x y v at = cond x_leaves (pair (end_of x v.0) (end_of y v.1) at) (pair (end_of y v.1) (end_of x v.0) at)

abbrev pub greatest_at : Application → Spot → Option ℕ
greatest_at app x = greatest_in (element_facts app x.instance x.element)

abbrev pub pair_of : Application → Joined → Pos → (a b : Option Bracket) → Linked Pair
pair_of app j at a b =
    bracketed at (greatest_at app j.0) (greatest_at app j.1) a b >>= λ v. Ok (oriented (leaves_in j.0.own (elem_at app j.0)) j.0 j.1 v at)

-- names first, then what may be wired, then what stands in brackets
abbrev pub wired : Application → (instance : ℕ) → Scope → Sign → WireEnd → WireEnd → Pos → (a b : Option Bracket) → Linked Pair
wired app instance scope s from to at a b =
    named app instance scope at from >>= λ x. named app instance scope at to >>= λ y. joined app s at x y >>= λ j. pair_of app j at a b

abbrev pub wired_by : Application → (instance : ℕ) → Scope → Sign → WireEnd → WireEnd → Pos → LineFacts → Linked Pair
wired_by app instance scope s from to at (line_facts.Refused e) = Err e
wired_by app instance scope s from to at (line_facts.Brackets a b) = wired app instance scope s from to at a b

-- pairs behind others, by one line
abbrev pub add : List Pair → Linked Pair → Linked (List Pair)
add done r = r >>= λ p. Ok (done ++ p ∷ [])

abbrev pub unless_refused : LineFacts → List Pair → Linked (List Pair)
unless_refused (line_facts.Refused e) done = Err e
unless_refused (line_facts.Brackets a b) done = Ok done

abbrev pub line_paired : Application → (instance line : ℕ) → Scope → ConfLine → List Pair → Linked (List Pair)
line_paired app instance line scope (conf.Component name args alias pos) done = unless_refused (line_facts_at app instance line) done
line_paired app instance line scope (conf.Link from to pos) done = add done (wired_by app instance scope sign.Arrow from to pos (line_facts_at app instance line))
line_paired app instance line scope (conf.Equate a b pos) done = add done (wired_by app instance scope sign.Equals a b pos (line_facts_at app instance line))
line_paired app instance line scope (conf.Decl d) done = unless_refused (line_facts_at app instance line) done

-- the lines of an instance from one on, with the names in force and the pairs behind the earlier ones
abbrev pub lines_paired : Application → (instance line : ℕ) → Scope → List ConfLine → List Pair → Linked (List Pair)
lines_paired app instance line scope [] done = Ok done
lines_paired app instance line scope (l ∷ ls) done =
    line_paired app instance line scope l done >>= λ more. lines_paired app instance (line + 1) (scope_behind app instance line l scope) ls more

abbrev pub no_names : Scope
no_names name = None

abbrev pub lines_of_file : Option Loaded → List ConfLine
lines_of_file None = []
lines_of_file (Some u) = lines_in u.unit.part

abbrev pub instance_paired : Application → (instance : ℕ) → List Pair → Linked (List Pair)
instance_paired app instance done = lines_paired app instance 0 no_names (lines_of_file (file_of app instance)) done

-- the instances from one on
abbrev pub instances_paired : Application → (instance : ℕ) → List Made → List Pair → Linked (List Pair)
instances_paired app instance [] done = Ok done
instances_paired app instance (m ∷ ms) done = instance_paired app instance done >>= λ more. instances_paired app (instance + 1) ms more

-- ---- an application that is a module

abbrev pub boot : Name
boot = codes "Boot"

abbrev pub uses_boot : Elem → Bool
uses_boot e = not e.provides && same_text boot e.iface

abbrev pub boot_in : Application → Pos → Option ℕ → Linked NamedEnd
boot_in app at None = Err (unlinked.UnknownName at)
boot_in app at (Some main) = of_member app main at (Some boot)

-- the instance of `MainC`
abbrev pub main_of : Application → Option ℕ
main_of app = single app.units app.made (codes "MainC")

-- `MainC.Boot`
abbrev pub boot_end : Application → Pos → Linked NamedEnd
boot_end app at = boot_in app at (main_of app)

-- an element of the application, linked to `MainC.Boot` at its own place
abbrev pub boot_linked : Application → (element : ℕ) → Pos → Linked Pair
boot_linked app element at =
    boot_end app at >>= λ y. joined app sign.Arrow at (end.Element (spot 0 element false)) y >>= λ j. pair_of app j at None None

abbrev pub boot_paired : Application → (element : ℕ) → Elem → List Pair → Linked (List Pair)
boot_paired app element e done = cond (uses_boot e) (add done (boot_linked app element e.pos)) (Ok done)

abbrev pub boots_paired : Application → (element : ℕ) → List Elem → List Pair → Linked (List Pair)
boots_paired app element [] done = Ok done
boots_paired app element (e ∷ es) done = boot_paired app element e done >>= λ more. boots_paired app (element + 1) es more

abbrev pub elems_of_module : Part → List Elem
elems_of_module (part.Module m) = m.head.elems
elems_of_module (part.Config c) = []
elems_of_module (part.Interface i) = []
elems_of_module part.Header = []

abbrev pub elems_of_application : Option Loaded → List Elem
elems_of_application None = []
elems_of_application (Some u) = elems_of_module u.unit.part

abbrev pub application_paired : Application → Linked (List Pair)
application_paired app = boots_paired app 0 (elems_of_application (file_of app 0)) []

-- ---- all of them

abbrev pub pairs_of : Application → Linked (List Pair)
pairs_of app = application_paired app >>= λ done. instances_paired app 0 app.made done
