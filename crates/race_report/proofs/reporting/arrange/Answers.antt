use Rattle.std.proofs.Common.{rules}
use Rattle.std.proofs.lemmas.List.Sorted.{IsNonDecreasingBy-from_sort_by_key, answers_always, length_permutation}
use Rattle.race_report.proofs.Ordered.{same_rows}
use Rattle.race_report.proofs.reporting.arrange.Goals as goal

pub returns : goal.returns
returns c = record {
  size = length_permutation c.args.rows.now.items _ c.in_ok-sort_by_key.ensures.permutation;
  ordered = IsNonDecreasingBy-from_sort_by_key (λ r. r.object) _ c.in_ok-sort_by_key.ensures.sorted (λ a r q k. search rules);
  same = same_rows c.args.rows.now.items _ (c.in_ok-sort_by_key.ensures.stable (λ r. r.object) (answers_always _ _ _ (λ f a r g h. search rules)));
}
