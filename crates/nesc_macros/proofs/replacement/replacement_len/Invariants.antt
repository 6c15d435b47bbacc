use Rattle.std.proofs.Common.{◌≡◌, ℕ, ◌+◌, ◌-◌, ◌^◌, ◌≤◌, List, drop, length, map}
use Rattle.std.specs.Prelude.{min}
use Rattle.nm_base.specs.declared.pos.Pos.{Pos}
use Rattle.nesc_macros.specs.Expansion.{substituted}
use Rattle.nesc_macros.specs.Numbers.{Scope, all_shown}
use Rattle.nesc_macros.proofs.replacement.replacement_len.Given as goal

abbrev pub invariant-loop-part : goal.invariant-loop-part
invariant-loop-part l = record {
  within : l.len ≤ 2 ^ 64 - 1;
  rest : (scope : Scope) (pos : Pos) (hide_set : List (List ℕ)) → min (l.len + length (substituted pos hide_set l.parameters (map (all_shown scope) l.arguments) (drop l.part-index l.part-items))) (2 ^ 64 - 1)
      ≡ min (length (substituted pos hide_set l.parameters (map (all_shown scope) l.arguments) l.part-items)) (2 ^ 64 - 1);
}
