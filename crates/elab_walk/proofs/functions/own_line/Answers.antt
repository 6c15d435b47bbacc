use Rattle.std.proofs.Common.{Option, ℕ, subst}
use Rattle.body_meaning.specs.View.{head_of}
use Rattle.elab_facts.specs.View.{form_of}
use Rattle.elab_making.proofs.Steps.{part_does}
use Rattle.elab_making.specs.View.{whole_of}
use Rattle.elab_meaning.specs.Answers.{Gives}
use Rattle.elab_meaning.specs.Elab.{State}
use Rattle.elab_meaning.specs.View.{env_of, state_of}
use Rattle.elab_walk.proofs.Shares.{line_told}
use Rattle.elab_walk.proofs.functions.own_line.Goals as goal
use Rattle.nesc_types.specs.Rule.{Rule}
use Rattle.program_meaning.specs.Heads.{line}
use Rattle.program_meaning.specs.Walk.{in_module}

pub returns : goal.returns
returns c = λ t. λ tells.
    part_does (λ (l : Option ℕ). l) c.line.result (whole_of c.args.whole.now) (state_of c.line.new.work) (line t.env t.values (in_module t.instance) (head_of c.args.h.now) (form_of c.args.f.now))
    (subst (λ (r : Rule (Option ℕ × State)). Gives (λ (l : Option ℕ). l) c.line.result (state_of c.line.new.work) r)
    (line_told (env_of c.args.m.now.told.env) t.env c.args.m.now.told.values t.values c.is_module.result (in_module t.instance) (head_of c.args.h.now) (form_of c.args.f.now) (state_of c.args.whole.now.work) tells.env tells.values (c.is_module.ensures t tells))
    c.line.ensures)
