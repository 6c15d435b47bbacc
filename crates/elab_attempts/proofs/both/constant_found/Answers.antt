use Rattle.std.proofs.Common.{[], true, ◌∙◌}
use Rattle.nesc_tree.specs.View.{expr_of}
use Rattle.nesc_types.specs.Constant.{pos_of}
use Rattle.elab_kept.proofs.Law.{law}
use Rattle.elab_meaning.specs.View.{state_of}
use Rattle.elab_meaning.specs.Wired as wired
use Rattle.wire_elements.specs.View.{early_env}
use Rattle.elab_attempts.proofs.Cut.{cut_same}
use Rattle.elab_attempts.proofs.Said.{constant_said}
use Rattle.elab_attempts.proofs.both.constant_found.Goals as goal

pub returns-clause-value : goal.returns-clause-value
returns-clause-value c =
    constant_said (wired.whole_constant (early_env c.args.early.now) [] (expr_of c.args.e.now)) c.in_ok-found.found (state_of c.args.kept.now) (state_of c.args.trial.now) (state_of c.constant_or_refuse.new.work)
    c.requires c.in_ok-found.ensures

pub returns-clause-same : goal.returns-clause-same
returns-clause-same c = λ some.
    c.cut_to.ensures
    ∙ cut_same (λ x. x) (wired.whole_constant (early_env c.args.early.now) [] (expr_of c.args.e.now)) c.in_ok-found.found (state_of c.args.kept.now) (state_of c.args.trial.now) (state_of c.constant_or_refuse.new.work)
    (law.constants (early_env c.args.early.now) [] (pos_of (expr_of c.args.e.now)) (expr_of c.args.e.now) true)
    c.requires c.in_ok-found.ensures some
