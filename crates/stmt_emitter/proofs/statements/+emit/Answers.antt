use Rattle.std.proofs.Common.{◌≡◌, ◌+◌, ◌*◌, ◌<◌, ◌≤◌, ◌^◌, List, OnOk, subst, rules}
use Rattle.mid_code.specs.declared.instr.Mid.{Mid}
use Rattle.nesc_core.specs.Plain.{Stmt}
use Rattle.nesc_core.specs.View.{exprs_of, stmt_of}
use Rattle.nesc_core.specs.Weights.{stmt_atomics, stmt_levels}
use Rattle.lower_stmt.specs.Code.{stmt_labels}
use Rattle.expr_emitter.specs.Scoped.{locals_in, program_in}
use Rattle.stmt_emitter.specs.Standing.{StmtFits, ways_seen}
use Rattle.stmt_emitter.proofs.HereCode.{here_code}
use Rattle.stmt_emitter.proofs.Switches.{nodes_switch, stmt_is_switch}
use Rattle.stmt_emitter.proofs.statements.+emit.Goals as goal

pub emit_stmt-emit_switch-requires : goal.emit_stmt-emit_switch-requires
emit_stmt-emit_switch-requires t c =
    let is = stmt_is_switch _ _ _ _ c.in-Switch.is in
    let n = nodes_switch _ _ _ _ c.in-Switch.is in (
      search (rules, nodes_switch),
      (
        c.requires.placed,
        (
          subst (λ (s : Stmt). StmtFits (program_in c.args.scope.now) (locals_in c.args.scope.now) s) is c.requires.fits,
          (
            subst (λ (s : Stmt). c.args.next.now + stmt_labels s < 2 ^ 32) is c.requires.labels,
            (
              subst (λ (s : Stmt). c.args.base + (2 * stmt_levels s + 8) < 2 ^ 32) is c.requires.values,
              subst (λ (s : Stmt). c.args.ways.status + 2 * stmt_atomics s ≤ 65535) is c.requires.status,
            ),
          ),
        ),
      ),
    )

pub emit_here-returns-clause-code : goal.emit_here-returns-clause-code
emit_here-returns-clause-code t c =
    subst (λ (whole : List Mid). OnOk c.put_given.result (c.put_given.new.code.items ≡ whole))
    (here_code c.args.scope.now c.args.base c.args.next.now _ c.args.first c.args.count (exprs_of c.args.args.now) (stmt_of c.args.body.now) (ways_seen c.args.ways) _ _ _ c.args.code.now.items _ _ _
    c.gives_value-gives.ensures (c.given_type-given.ensures c.args.base) c.in_here.ensures.seen c.in_ok-emit_entry.ensures.next c.in_ok-emit_entry.ensures.code c.in_ok-put.ensures
    c.in_ok-emit_stmt.ensures.code) c.put_given.ensures
