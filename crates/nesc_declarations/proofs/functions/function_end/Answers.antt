use Rattle.nesc_grammar.specs.Declarations as spec
use Rattle.nesc_parse_types.specs.Gives.{form_in}
use Rattle.nesc_heads.specs.Gives.{token_in}
use Rattle.nesc_heads.proofs.Forms.{through_as}
use Rattle.nesc_declarations.specs.Views.{behind_of, function_of}
use Rattle.nesc_declarations.proofs.Forms.{end_read, item_fails, rest_fails}
use Rattle.nesc_declarations.proofs.functions.function_end.Goals as goal

pub returns-in_err-item-clause-gives : goal.returns-in_err-item-clause-gives
returns-in_err-item-clause-gives c =
    through_as behind_of c.args.names.now c.from_residual.result c.in_err-item.field-0.0 (form_in c.args.spare spec.function_end c.args.names.now c.args.ts.now) c.from_residual.ensures
    (item_fails c.args.spare c.args.names.now c.args.ts.now c.in_err-item.field-0.0 (c.in_err-item.ensures c.args.spare))

pub returns-in_err-found-clause-gives : goal.returns-in_err-found-clause-gives
returns-in_err-found-clause-gives c =
    through_as behind_of c.args.names.now c.from_residual-in_err-found.result c.in_err-found.field-0.0 (form_in c.args.spare spec.function_end c.args.names.now c.args.ts.now) c.from_residual-in_err-found.ensures
    (rest_fails c.args.spare c.args.names.now c.args.ts.now (token_in c.in_ok-item.item) c.in_ok-item.rest.now (c.in_ok-item.ensures c.args.spare) c.in_err-found.field-0.0 c.in_err-found.ensures.gives)

pub returns-clause-gives : goal.returns-clause-gives
returns-clause-gives c =
    end_read c.args.spare c.args.names.now c.args.ts.now (token_in c.in_ok-item.item) c.in_ok-item.rest.now (c.in_ok-item.ensures c.args.spare) (function_of c.in_ok-found.found) c.in_ok-found.rest.now c.in_ok-found.ensures.gives
