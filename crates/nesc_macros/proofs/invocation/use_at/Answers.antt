use Rattle.std.proofs.Common.{◌∙◌, sym, ap, List, Some, None, arith}
use Rattle.nesc_macros.specs.Invocation.{Name}
use Rattle.nesc_macros.specs.Numbers.{scope_of}
use Rattle.nesc_macros.specs.Code.{actuals_of}
use Rattle.nesc_macros.proofs.Naming.{function_use, invoked_fits, invoked_misused, one_begins}
use Rattle.nesc_macros.proofs.invocation.use_at.Goals as goal

pub returns-in_default-2 : goal.returns-in_default-2
returns-in_default-2 c links extends =
    let scope = scope_of c.args.table.now links in
    let h = rw c.in-Some.is at (c.in_ok-found.ensures links extends) in
    let taken = rw c.in_default-2.is at (c.in_ok-arguments.ensures.taken scope) in
    function_use scope c.args.token.now c.in-Some.found.definition.now c.in-Some-parameters.parameters c.args.pending.now c.pop_front.new.self None h.1 c.in-Some-parameters.is (sym c.begins_arguments.ensures ∙ c.if-not-begins_arguments.false) c.pop_front.ensures.rest taken

pub returns-then-fits : goal.returns-then-fits
returns-then-fits c links extends =
    let scope = scope_of c.args.table.now links in
    let h = rw c.in-Some.is at (c.in_ok-found.ensures links extends) in
    let m = c.in-Some.found.definition.now in
    let found = actuals_of scope c.in-Some-2.arguments c.take_arguments.new.pending in
    let taken = rw c.in-Some-2.is at (c.in_ok-arguments.ensures.taken scope) in
    let less = rw c.in-Some-2.is at c.in_ok-arguments.ensures.less in
    let begins = sym c.begins_arguments.ensures ∙ c.if-not-begins_arguments.false in
    let has-ps = c.in-Some-parameters.is ∙ ap (λ (p : List Name). Some p) (sym c.as_slice-parameters.ensures) in (
      function_use scope c.args.token.now m c.as_slice-parameters.result.now c.args.pending.now c.pop_front.new.self (Some found) h.1 has-ps begins c.pop_front.ensures.rest taken
          ∙ invoked_fits m c.as_slice-parameters.result.now found (sym (c.fits.ensures scope) ∙ c.if-fits.true),
      h.0,
      omega (arith, less, one_begins c.args.pending.now c.pop_front.new.self begins c.pop_front.ensures.rest),
    )

pub returns : goal.returns
returns c links extends =
    let scope = scope_of c.args.table.now links in
    let h = rw c.in-Some.is at (c.in_ok-found.ensures links extends) in
    let m = c.in-Some.found.definition.now in
    let found = actuals_of scope c.in-Some-2.arguments c.take_arguments.new.pending in
    let taken = rw c.in-Some-2.is at (c.in_ok-arguments.ensures.taken scope) in
    let begins = sym c.begins_arguments.ensures ∙ c.if-not-begins_arguments.false in
    let has-ps = c.in-Some-parameters.is ∙ ap (λ (p : List Name). Some p) (sym c.as_slice-parameters.ensures) in
    function_use scope c.args.token.now m c.as_slice-parameters.result.now c.args.pending.now c.pop_front.new.self (Some found) h.1 has-ps begins c.pop_front.ensures.rest taken
    ∙ invoked_misused m c.as_slice-parameters.result.now found (sym (c.fits.ensures scope) ∙ c.if-fits.false)
