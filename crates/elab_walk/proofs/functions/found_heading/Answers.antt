use Rattle.std.proofs.Common.{List, Option, subst}
use Rattle.body_meaning.specs.View.{head_of}
use Rattle.elab_heads.specs.View.{heading_of}
use Rattle.elab_making.proofs.Steps.{part_does}
use Rattle.elab_making.specs.View.{whole_of}
use Rattle.elab_meaning.specs.Answers.{Gives}
use Rattle.elab_meaning.specs.Elab.{State}
use Rattle.elab_meaning.specs.Scope.{Env}
use Rattle.elab_meaning.specs.View.{env_of, state_of}
use Rattle.elab_walk.proofs.Shares.{told_same}
use Rattle.elab_walk.proofs.functions.found_heading.Goals as goal
use Rattle.nesc_types.specs.Rule.{Rule}
use Rattle.nesc_types.specs.Values.{Constant}
use Rattle.program_meaning.specs.Heads.{Heading, heading}

pub returns : goal.returns
returns c = λ t. λ tells.
    part_does heading_of c.heading.result (whole_of c.args.whole.now) (state_of c.heading.new.work) (heading t.env t.values (head_of c.args.h.now))
    (subst (λ (r : Rule (Heading × State)). Gives heading_of c.heading.result (state_of c.heading.new.work) r)
    (told_same (λ (e : Env). λ (v : List (Option Constant)). heading e v (head_of c.args.h.now) (state_of c.args.whole.now.work)) (env_of c.args.m.now.told.env) t.env c.args.m.now.told.values t.values tells.env tells.values)
    c.heading.ensures)
