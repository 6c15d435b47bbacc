-- The tokens that are marked, and those that are left.
use Rattle.std.proofs.Common.{◌≡◌, false, ◌++◌, take, drop}
use Rattle.nesc_left_out.specs.Marks.{marked_behind}
use Rattle.nesc_left_out.proofs.marks.mark.Given as goal

abbrev pub invariant-loop-token : goal.invariant-loop-token
invariant-loop-token l = take l.token-index l.tokens ++ marked_behind l.behind_at (drop l.token-index l.tokens) ≡ marked_behind false l.initial.tokens
