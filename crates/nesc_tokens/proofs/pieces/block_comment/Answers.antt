use Rattle.std.proofs.Common.{◌+◌, ℕ, take, sym, ap, ◌∙◌, arith, inl, inr}
use Rattle.std.proofs.lemmas.Bool.{cases_order}
use Rattle.nesc_tokens.specs.Lexes.{is_closed_comment}
use Rattle.nesc_tokens.proofs.Comments.{short_comment, closed_here, none_here}
use Rattle.nesc_tokens.proofs.pieces.block_comment.Goals as goal

pub loop-at-init : goal.loop-at-init
loop-at-init c = record { from = omega arith; within = omega arith; none = λ m lt le. short_comment m c.args.bytes.now (omega arith) }

pub loop-at-preserved : goal.loop-at-preserved
loop-at-preserved c = record {
  from = omega arith;
  within = omega arith;
  none = λ m lt le. elim (cases_order m (c.loop-at.at + 2)) [
    | inl here ↦ ap (λ (k : ℕ). is_closed_comment (take k c.args.bytes.now)) here ∙ none_here c.loop-at.at c.args.bytes.now c.requires (omega arith) (omega arith) (sym c.ends_comment.ensures ∙ c.if-ends_comment.false)
    | inr (inl before) ↦ c.loop-at.invariant.none m before le
    | inr (inr behind) ↦ absurd (omega arith)
  ];
}

pub returns-then-ends_comment : goal.returns-then-ends_comment
returns-then-ends_comment c = (
  omega arith,
  record {
    within = omega arith;
    closed = closed_here c.loop-at.at c.args.bytes.now c.requires (omega arith) (omega arith) (sym c.ends_comment.ensures ∙ c.if-ends_comment.true);
    first = λ m lt. c.loop-at.invariant.none m lt (omega arith);
  },
)

pub returns : goal.returns
returns c n le = c.loop-at.invariant.none n (omega arith) le
