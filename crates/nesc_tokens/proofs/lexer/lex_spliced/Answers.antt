use Rattle.std.proofs.Common.{◌≡◌, ℕ, ◌+◌, ◌-◌, take, drop, subst, arith, List}
use Rattle.nm_base.specs.declared.refusal.Refusal.TheVariants.{BadChar, OpenComment}
use Rattle.nesc_tokens.specs.declared.pieces.Front.TheVariants as front
use Rattle.nesc_tokens.specs.Begins.{Begins}
use Rattle.nesc_tokens.proofs.Cuts.{reached_turn, refused_at}
use Rattle.nesc_tokens.proofs.lexer.lex_spliced.Goals as goal

pub loop-at-preserved : goal.loop-at-preserved
loop-at-preserved c =
    let before = c.loop-at.invariant in
    let begun : Begins (front.Piece c.in-Piece.sort c.in-Piece.n) (drop c.loop-at.at c.in_ok-bytes.bytes.items) = subst (λ (bs : List ℕ). Begins (front.Piece c.in-Piece.sort c.in-Piece.n) (drop c.loop-at.at bs)) c.deref-in-loop-at.ensures.value c.in-Piece.ensures in
    let len : c.loop-at.at + c.in-Piece.n - c.loop-at.at ≡ c.in-Piece.n = omega arith in
    let piece : take (c.loop-at.at + c.in-Piece.n - c.loop-at.at) (drop c.loop-at.at c.deref-in-Piece.result.now) ≡ take c.in-Piece.n (drop c.loop-at.at c.in_ok-bytes.bytes.items) = (λ i. take (len i) (drop c.loop-at.at (c.deref-in-Piece.ensures.value i))) in
    let turn = reached_turn c.args.file c.args.text.now c.in_ok-source.source.items c.in_ok-bytes.bytes.items c.loop-at.at c.loop-at.first c.loop-at.tokens.items c.in-Piece.sort c.in-Piece.n c.index.result.now c.place-pos.result (take (c.loop-at.at + c.in-Piece.n - c.loop-at.at) (drop c.loop-at.at c.deref-in-Piece.result.now)) c.push_token.new.tokens.items c.first_behind-first.result before.bytes (omega arith) c.index.ensures c.place-pos.ensures begun piece c.in_ok-push_token-in-Piece.ensures c.first_behind-first.ensures before.reached in
    record { within = turn.0; source = before.source; bytes = before.bytes; reached = turn.1 }

pub returns-in-OpenComment-clause-refused : goal.returns-in-OpenComment-clause-refused
returns-in-OpenComment-clause-refused c =
    let before = c.loop-at.invariant in
    refused_at c.args.file c.args.text.now c.in_ok-source.source.items c.in_ok-bytes.bytes.items c.loop-at.at c.loop-at.first c.loop-at.tokens.items c.index.result.now c.place-pos.result front.OpenComment OpenComment before.bytes (omega arith) c.index.ensures c.place-pos.ensures (λ rest p begun place. (begun, place)) (subst (λ (bs : List ℕ). Begins front.OpenComment (drop c.loop-at.at bs)) c.deref-in-loop-at.ensures.value c.in-OpenComment.ensures) before.reached

pub returns-in-BadByte-clause-refused : goal.returns-in-BadByte-clause-refused
returns-in-BadByte-clause-refused c =
    let before = c.loop-at.invariant in
    refused_at c.args.file c.args.text.now c.in_ok-source.source.items c.in_ok-bytes.bytes.items c.loop-at.at c.loop-at.first c.loop-at.tokens.items c.index.result.now c.place-pos.result front.BadByte BadChar before.bytes (omega arith) c.index.ensures c.place-pos.ensures (λ rest p begun place. (begun, place)) (subst (λ (bs : List ℕ). Begins front.BadByte (drop c.loop-at.at bs)) c.deref-in-loop-at.ensures.value c.in-BadByte.ensures) before.reached
