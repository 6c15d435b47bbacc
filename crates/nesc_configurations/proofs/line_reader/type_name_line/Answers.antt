use Rattle.std.proofs.Common.{true, false, sym, subst}
use Rattle.nesc_tree.specs.Sorts.{ahead}
use Rattle.nesc_parse_types.specs.Gives.{Gives}
use Rattle.nesc_parse_types.proofs.Many.{tested}
use Rattle.nesc_configurations.specs.Parts as parts
use Rattle.nesc_configurations.proofs.Forms.{type_case, wire_case, neither_case}
use Rattle.nesc_configurations.proofs.line_reader.type_name_line.Goals as goal

pub returns-then-ends_type : goal.returns-then-ends_type
returns-then-ends_type c =
    let h = tested parts.ends_type c.ahead-second.result (ahead c.args.names.now c.in_ok-first.rest.now) true c.ends_type.result c.ahead-second.ensures c.ends_type.ensures c.if-ends_type.true in
    subst (Gives c.args.names.now c.type_line.result) (sym (type_case c.args.spare c.requires.room c.args.names.now c.args.ts.now c.in_ok-first.first.now c.in_ok-first.rest.now c.in_ok-first.ensures h)) c.type_line.ensures

pub returns-then-goes_on_wire : goal.returns-then-goes_on_wire
returns-then-goes_on_wire c =
    let h = tested parts.goes_on_wire c.ahead-second.result (ahead c.args.names.now c.in_ok-first.rest.now) true c.goes_on_wire.result c.ahead-second.ensures c.goes_on_wire.ensures c.if-goes_on_wire.true in
    subst (Gives c.args.names.now c.wire_rest.result) (sym (wire_case c.args.spare c.requires.room c.args.names.now c.args.ts.now c.in_ok-first.first.now c.in_ok-first.rest.now c.in_ok-first.ensures h)) c.wire_rest.ensures

pub returns : goal.returns
returns c =
    let h = tested parts.ends_type c.ahead-second.result (ahead c.args.names.now c.in_ok-first.rest.now) false c.ends_type.result c.ahead-second.ensures c.ends_type.ensures c.if-ends_type.false in
    let k = tested parts.goes_on_wire c.ahead-second.result (ahead c.args.names.now c.in_ok-first.rest.now) false c.goes_on_wire.result c.ahead-second.ensures c.goes_on_wire.ensures c.if-goes_on_wire.false in
    neither_case c.args.spare c.requires.room c.args.names.now c.args.ts.now c.in_ok-first.first.now c.in_ok-first.rest.now c.in_ok-first.ensures h k
