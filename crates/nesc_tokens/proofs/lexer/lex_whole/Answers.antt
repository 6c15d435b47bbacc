use Rattle.std.proofs.Common.{◌≡◌, ◌∙◌, ℕ, ◌+◌, ◌-◌, take, drop, length, length-take-le, ap, arith, refl, sym, subst, true, List}
use Rattle.nm_base.specs.declared.token.Token.{Token}
use Rattle.nm_base.specs.declared.refusal.Refusal.TheVariants.{BadChar, OpenComment}
use Rattle.nesc_tokens.specs.declared.pieces.Front.TheVariants as front
use Rattle.nesc_tokens.specs.Splices.{source_of}
use Rattle.nesc_tokens.proofs.Cuts.{Reached, reached_none, reached_turn, refused_at}
use Rattle.nesc_tokens.proofs.Whole.{byte_at, bytes_of_whole, here_in, length_of_whole, moved}
use Rattle.nesc_tokens.proofs.lexer.lex_whole.Goals as goal

pub loop-at-init : goal.loop-at-init
loop-at-init c = record {
  within = omega arith;
  file = refl;
  line = omega arith;
  col = omega arith;
  here = c.requires.whole;
  reached = subst (λ (ts : List Token). Reached c.args.file c.args.text.now (source_of c.args.text.now) true ts) (sym c.new-tokens.ensures.items) (reached_none c.args.file c.args.text.now);
}

pub loop-at-preserved : goal.loop-at-preserved
loop-at-preserved c =
    let before = c.loop-at.invariant in
    let text = c.args.text.now in
    let source = source_of text in
    let n = c.in-Piece.n in
    let here = c.loop-at.here in
    let len : c.loop-at.at + n - c.loop-at.at ≡ n = omega arith in
    let piece-is : take (c.loop-at.at + n - c.loop-at.at) (drop c.loop-at.at text) ≡ take n (drop c.loop-at.at text) = ap (λ (k : ℕ). take k (drop c.loop-at.at text)) len in
    let lens = length_of_whole text c.requires.whole in
    let turn = reached_turn c.args.file text source text c.loop-at.at c.loop-at.first c.loop-at.tokens.items c.in-Piece.sort n (byte_at text c.loop-at.at here.line here.col) here (take (c.loop-at.at + n - c.loop-at.at) (drop c.loop-at.at text)) c.push_token.new.tokens.items c.first_behind-first.result (bytes_of_whole text c.requires.whole) (omega (arith, lens)) (here_in source text c.loop-at.at here.line here.col (omega arith) lens before.here) (λ i. record { file = before.file i; line = here.line; col = here.col }) c.in-Piece.ensures piece-is c.in_ok-push_token-in-Piece.ensures c.first_behind-first.ensures before.reached in
    let size : length (take (c.loop-at.at + n - c.loop-at.at) (drop c.loop-at.at text)) ≡ n = ap length piece-is ∙ length-take-le n (drop c.loop-at.at text) c.in-Piece.ensures.1 in
    record {
      within = omega (arith, turn.0, lens);
      file = c.behind-here.ensures.file ∙ before.file;
      line = omega (arith, c.behind-here.ensures.line, size, before.line);
      col = omega (arith, c.behind-here.ensures.col, size, before.col);
      here = moved source text c.loop-at.at n here.line here.col c.behind-here.result.line c.behind-here.result.col (take (c.loop-at.at + n - c.loop-at.at) (drop c.loop-at.at text)) c.in-Piece.ensures.1 piece-is before.here c.behind-here.ensures.rest;
      reached = turn.1;
    }

pub returns-in-OpenComment-clause-refused : goal.returns-in-OpenComment-clause-refused
returns-in-OpenComment-clause-refused c =
    let before = c.loop-at.invariant in
    let text = c.args.text.now in
    let here = c.loop-at.here in
    let lens = length_of_whole text c.requires.whole in
    refused_at c.args.file text (source_of text) text c.loop-at.at c.loop-at.first c.loop-at.tokens.items (byte_at text c.loop-at.at here.line here.col) here front.OpenComment OpenComment (bytes_of_whole text c.requires.whole) (omega (arith, lens)) (here_in (source_of text) text c.loop-at.at here.line here.col (omega arith) lens before.here) (λ i. record { file = before.file i; line = here.line; col = here.col }) (λ rest p begun place. (begun, place)) c.in-OpenComment.ensures before.reached

pub returns-in-BadByte-clause-refused : goal.returns-in-BadByte-clause-refused
returns-in-BadByte-clause-refused c =
    let before = c.loop-at.invariant in
    let text = c.args.text.now in
    let here = c.loop-at.here in
    let lens = length_of_whole text c.requires.whole in
    refused_at c.args.file text (source_of text) text c.loop-at.at c.loop-at.first c.loop-at.tokens.items (byte_at text c.loop-at.at here.line here.col) here front.BadByte BadChar (bytes_of_whole text c.requires.whole) (omega (arith, lens)) (here_in (source_of text) text c.loop-at.at here.line here.col (omega arith) lens before.here) (λ i. record { file = before.file i; line = here.line; col = here.col }) (λ rest p begun place. (begun, place)) c.in-BadByte.ensures before.reached
