use Rattle.std.proofs.Common.{◌≡◌, ◌-◌, ◌+◌, ◌≤◌, drop, length}
use Rattle.nesc_tokens.specs.Splices.{placed, source_of}
use Rattle.nesc_tokens.proofs.Cuts.{Reached}
use Rattle.nesc_tokens.proofs.lexer.lex_whole.Given as goal

abbrev pub invariant-loop-at : goal.invariant-loop-at
invariant-loop-at l = record {
  within : l.at ≤ length l.text;
  file : l.here.file ≡ l.file;
  line : l.here.line ≤ l.at + 1;
  col : l.here.col ≤ l.at + 1;
  here : drop l.at (source_of l.text) ≡ placed l.here.line l.here.col (drop l.at l.text);
  reached : Reached l.file l.text (drop l.at (source_of l.text)) l.first l.tokens.items;
}

abbrev pub decreases-loop-at : goal.decreases-loop-at
decreases-loop-at l = length l.text - l.at
