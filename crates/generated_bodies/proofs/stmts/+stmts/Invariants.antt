use Rattle.generated_bodies.proofs.stmts.+stmts.Given as goal

abbrev pub decreases-turns : goal.decreases-turns
decreases-turns l = l.depth

abbrev pub decreases-switch : goal.decreases-switch
decreases-switch l = l.depth

abbrev pub decreases-branch : goal.decreases-branch
decreases-branch l = l.depth

abbrev pub decreases-atomic : goal.decreases-atomic
decreases-atomic l = l.depth

abbrev pub decreases-block : goal.decreases-block
decreases-block l = l.depth

abbrev pub decreases-statement : goal.decreases-statement
decreases-statement l = l.depth
