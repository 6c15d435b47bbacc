use Rattle.std.proofs.Common.{map, ap, ◌∙◌}
use Rattle.std.specs.Prelude.{if◌then◌else◌}
use Rattle.mid_code.specs.Help.{is_wide}
use Rattle.nesc_core.specs.View.{expr_of, program_of, type_of}
use Rattle.lower_expr.specs.Code.{is_void}
use Rattle.expr_emitter.specs.Results.{no_regs, regs_from}
use Rattle.expr_emitter.proofs.Typed.{has_sizes, held_as}
use Rattle.expr_emitter.proofs.lowering.lower_expr.Goals as goal

pub emit_expr-requires-clause-sizes : goal.emit_expr-requires-clause-sizes
emit_expr-requires-clause-sizes c =
    has_sizes (program_of c.args.p.now) (map type_of c.args.locals.now) c.requires.program.structs c.requires.program.objects c.requires.locals
    (expr_of c.args.e.now) c.requires.typed.0 c.requires.typed.1

pub returns-clause-regs : goal.returns-clause-regs
returns-clause-regs c = λ ty h.
    let k = held_as (program_of c.args.p.now) (map type_of c.args.locals.now) (expr_of c.args.e.now) ty h in
    c.regs_from.ensures
    ∙ ap (λ b. if b then no_regs else regs_from c.is_wide.result c.args.f.now.values) (c.is_empty.ensures ∙ k.1)
    ∙ ap (λ b. if is_void ty then no_regs else regs_from b c.args.f.now.values) (c.is_wide.ensures ∙ ap is_wide (c.in_ok-of.ensures.held ∙ k.0))
