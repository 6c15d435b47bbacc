use Rattle.std.proofs.Common.{◌≡◌, ◌++◌, false}
use Rattle.nesc_preproc.specs.Lines.{directives_of}
use Rattle.nesc_preproc.proofs.lines.directives_of.Given as goal

abbrev pub invariant-loop-token : goal.invariant-loop-token
invariant-loop-token l = l.directives.items ++ directives_of l.inside l.token-iterator.rest.items ≡ directives_of false l.fn.tokens.items
