use Rattle.nesc_parse_comp.proofs.parse.stopped.Goals as goal

pub returns-in-Deep-clause-told : goal.returns-in-Deep-clause-told
returns-in-Deep-clause-told c = c.depth_fault.ensures c.args.file
