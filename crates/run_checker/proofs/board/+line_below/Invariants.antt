use Rattle.run_checker.proofs.board.+line_below.Given as goal

abbrev pub decreases-line_below : goal.decreases-line_below
decreases-line_below l = l.k
