use Rattle.std.proofs.Common.{length-drop, drop, subst, arith}
use Rattle.std.proofs.lemmas.List.{take_rest}
use Rattle.nesc_tokens.specs.Longest.{TextItem}
use Rattle.nesc_tokens.proofs.Texts.{run_none, run_more, no_item_at, no_item_empty}
use Rattle.nesc_tokens.proofs.literals.text_body.Goals as goal

pub loop-at-init : goal.loop-at-init
loop-at-init c = run_none c.args.bytes.now

pub loop-at-preserved : goal.loop-at-preserved
loop-at-preserved c = run_more c.loop-at.at c.text_item-n.result c.args.bytes.now (omega arith) c.loop-at.invariant (subst (TextItem c.text_item-n.result) (take_rest c.args.bytes.now c.loop-at.at) c.text_item-n.ensures)

pub returns-then-n-eq0 : goal.returns-then-n-eq0
returns-then-n-eq0 c = (c.loop-at.invariant, no_item_at c.text_item-n.result (drop c.loop-at.at c.args.bytes.now) c.if-n-eq0.true (subst (TextItem c.text_item-n.result) (take_rest c.args.bytes.now c.loop-at.at) c.text_item-n.ensures))

pub returns : goal.returns
returns c = (c.loop-at.invariant, no_item_empty (drop c.loop-at.at c.args.bytes.now) (omega (arith, length-drop c.loop-at.at c.args.bytes.now)))
