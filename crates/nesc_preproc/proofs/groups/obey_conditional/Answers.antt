use Rattle.nesc_preproc.proofs.groups.obey_conditional.Goals as goal

pub returns-in-If-clause-obeyed : goal.returns-in-If-clause-obeyed
returns-in-If-clause-obeyed c = rw c.in-If.is c.begin_if.ensures.obeyed

pub returns-in-Ifdef-clause-obeyed : goal.returns-in-Ifdef-clause-obeyed
returns-in-Ifdef-clause-obeyed c = rw c.in-Ifdef.is c.begin_ifdef.ensures.obeyed

pub returns-in-Ifndef-clause-obeyed : goal.returns-in-Ifndef-clause-obeyed
returns-in-Ifndef-clause-obeyed c = rw c.in-Ifndef.is c.begin_ifdef-in-Ifndef.ensures.obeyed

pub returns-in-Elif-clause-obeyed : goal.returns-in-Elif-clause-obeyed
returns-in-Elif-clause-obeyed c = rw c.in-Elif.is c.go_to_elif.ensures.obeyed
