use Rattle.std.proofs.Common.{◌≡◌, ◌++◌, drop}
use Rattle.std.specs.Option.{option_map}
use Rattle.nesc_conditions.specs.Resolved.{resolved, resolved_behind}
use Rattle.nesc_conditions.proofs.defined.resolve_defined.Given as goal

abbrev pub invariant-loop-token : goal.invariant-loop-token
invariant-loop-token l = resolved l.macros l.tokens ≡ option_map (λ rest. l.resolved.items ++ rest) (resolved_behind l.macros l.seen (drop l.token-index l.tokens))
