-- The uses of `unique` and `uniqueCount` in what a file holds, in the order of the source: those of an instance are those of its
-- component's file.
use Rattle.std.specs.Prelude.{cond, List, [], ◌++◌, map, Option, option_map, slice_get}
use Rattle.nesc_tree.specs.View.{expr_of, spec_of}
use Rattle.nesc_tree.specs.declared.tree.TypeSpec as type
use Rattle.nesc_tree.specs.declared.components.Part.{Part}
use Rattle.nesc_tree.specs.declared.components.Part.TheVariants as part
use Rattle.nesc_tree.specs.declared.components.Head.{Head}
use Rattle.nesc_tree.specs.declared.components.Elem.{Elem}
use Rattle.nesc_tree.specs.declared.components.GenericParam.{GenericParam}
use Rattle.nesc_tree.specs.declared.components.GenericArg.{GenericArg}
use Rattle.nesc_tree.specs.declared.components.GenericArg.TheVariants as garg
use Rattle.nesc_tree.specs.declared.components.ConfLine.{ConfLine}
use Rattle.nesc_tree.specs.declared.components.ConfLine.TheVariants as line
use Rattle.nesc_tree.specs.declared.components.WireEnd.{WireEnd}
use Rattle.wire_units.specs.declared.loaded.Loaded.{Loaded}
use Rattle.wire_instances.specs.declared.plan.Made.{Made}
use Rattle.wire_uniques.specs.Expressions.{Uses, in_expr, in_maybe, in_type}
use Rattle.wire_uniques.specs.Trees.{maybe_of}
use Rattle.wire_uniques.specs.Places.{begins_before}
use Rattle.wire_uniques.specs.Statements.{all, or_none, in_decl, in_decls}

abbrev pub in_spec : type.TypeSpec → Uses
in_spec t = in_type (spec_of t)

abbrev pub in_specs : List type.TypeSpec → Uses
in_specs ts = all (map in_spec ts)

abbrev pub in_some : Option type.TypeSpec → Uses
in_some t = or_none (option_map in_spec t)

abbrev pub in_elem : Elem → Uses
in_elem e = in_specs e.args ++ in_some e.param

abbrev pub in_elems : List Elem → Uses
in_elems es = all (map in_elem es)

abbrev pub in_param : GenericParam → Uses
in_param p = in_some p.ty

abbrev pub in_params : List GenericParam → Uses
in_params ps = all (map in_param ps)

abbrev pub in_generic : Option (List GenericParam) → Uses
in_generic ps = or_none (option_map in_params ps)

abbrev pub in_head : Head → Uses
in_head h = in_generic h.generic ++ in_elems h.elems

abbrev pub in_garg : GenericArg → Uses
in_garg (garg.Ty t) = in_spec t
in_garg (garg.Value e) = in_expr (expr_of e)

abbrev pub in_gargs : List GenericArg → Uses
in_gargs xs = all (map in_garg xs)

abbrev pub in_new : Option (List GenericArg) → Uses
in_new xs = or_none (option_map in_gargs xs)

abbrev pub in_end : WireEnd → Uses
in_end e = in_maybe (maybe_of e.param)

-- a link from the right to the left begins with the end that it leads to
abbrev pub in_link : WireEnd → WireEnd → Uses
in_link from to = cond (begins_before (maybe_of to.param) (maybe_of from.param)) (in_end to ++ in_end from) (in_end from ++ in_end to)

abbrev pub in_line : ConfLine → Uses
in_line (line.Component name args alias pos) = in_new args
in_line (line.Link from to pos) = in_link from to
in_line (line.Equate a b pos) = in_end a ++ in_end b
in_line (line.Decl d) = in_decl d

abbrev pub in_lines : List ConfLine → Uses
in_lines ls = all (map in_line ls)

-- an interface is no instance, and a header's declarations are not those of an instance
abbrev pub in_part : Part → Uses
in_part (part.Module m) = in_head m.head ++ in_decls m.decls
in_part (part.Config c) = in_head c.head ++ in_lines c.lines
in_part (part.Interface i) = []
in_part part.Header = []

abbrev pub in_header : Loaded → Uses
in_header u = in_decls u.unit.decls

abbrev pub in_own : Loaded → Uses
in_own u = in_part u.unit.part

-- those of each file
abbrev pub parts_of : List Loaded → List Uses
parts_of units = map in_own units

abbrev pub in_instance : List Uses → Made → Uses
in_instance parts m = or_none (slice_get parts m.component)

abbrev pub in_instances : List Uses → List Made → Uses
in_instances parts made = all (map (in_instance parts) made)

-- headers first, in the order of reading
abbrev pub in_headers : List Loaded → Uses
in_headers units = all (map in_header units)

-- and then the instances, in theirs
abbrev pub uses_of : List Loaded → List Made → Uses
uses_of units made = in_headers units ++ in_instances (parts_of units) made
