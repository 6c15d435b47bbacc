use Rattle.std.proofs.Common.{◌≡◌, ◌-◌, ◌≤◌, drop, length}
use Rattle.nesc_tokens.specs.Splices.{source_of}
use Rattle.nesc_tokens.specs.Lexes.{bytes_of}
use Rattle.nesc_tokens.proofs.Cuts.{Reached}
use Rattle.nesc_tokens.proofs.lexer.lex_spliced.Given as goal

abbrev pub invariant-loop-at : goal.invariant-loop-at
invariant-loop-at l = record {
  within : l.at ≤ length l.source.items;
  source : l.source.items ≡ source_of l.fn.text;
  bytes : l.bytes.items ≡ bytes_of l.source.items;
  reached : Reached l.file l.fn.text (drop l.at l.source.items) l.first l.tokens.items;
}

abbrev pub decreases-loop-at : goal.decreases-loop-at
decreases-loop-at l = length l.source.items - l.at
