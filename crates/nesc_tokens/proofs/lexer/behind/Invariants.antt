use Rattle.std.proofs.Common.{◌≡◌, ℕ, ◌+◌, ◌≤◌, ◌++◌, List, drop}
use Rattle.nesc_tokens.specs.Splices.{placed}
use Rattle.nesc_tokens.proofs.lexer.behind.Given as goal

abbrev pub invariant-loop-byte : goal.invariant-loop-byte
invariant-loop-byte l = record {
  line : l.line ≤ l.here.line + l.byte-index;
  col : l.col ≤ l.here.col + l.byte-index;
  rest : (rest : List ℕ) → drop l.byte-index (placed l.here.line l.here.col (l.piece ++ rest)) ≡ placed l.line l.col (drop l.byte-index l.piece ++ rest);
}
