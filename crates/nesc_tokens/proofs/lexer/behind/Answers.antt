use Rattle.std.proofs.Common.{◌≡◌, ◌∙◌, ◌+◌, ◌++◌, ℕ, List, [], drop, length, sym, ap, arith}
use Rattle.std.specs.Prelude.{slice_index}
use Rattle.std.proofs.lemmas.List.{drop_all}
use Rattle.nesc_tokens.specs.Splices.{placed}
use Rattle.nesc_tokens.proofs.Splicing.{line_bound, col_bound}
use Rattle.nesc_tokens.proofs.Whole.{one_behind}
use Rattle.nesc_tokens.proofs.lexer.behind.Goals as goal

pub loop-byte-preserved : goal.loop-byte-preserved
loop-byte-preserved c = record {
  line = omega (arith, line_bound (slice_index c.args.piece.now c.loop-byte.byte-index) c.loop-byte.line, c.line_behind-line.ensures, c.loop-byte.invariant.line);
  col = omega (arith, col_bound (slice_index c.args.piece.now c.loop-byte.byte-index) c.loop-byte.col, c.col_behind-col.ensures, c.loop-byte.invariant.col);
  rest = λ rest.
      one_behind c.args.here.line c.args.here.col c.loop-byte.line c.loop-byte.col c.args.piece.now rest c.loop-byte.byte-index (omega (arith, c.loop-byte-test.true)) (c.loop-byte.invariant.rest rest)
      ∙ (λ i. placed (sym c.line_behind-line.ensures i) (sym c.col_behind-col.ensures i) (drop (c.loop-byte.byte-index + 1) c.args.piece.now ++ rest));
}

pub returns-clause-rest : goal.returns-clause-rest
returns-clause-rest c rest =
    let at : length c.args.piece.now ≡ c.loop-byte.byte-index = omega (arith, c.loop-byte-test.false, c.loop-byte.auto.byte-index-end) in
    let none : drop c.loop-byte.byte-index c.args.piece.now ≡ [] = drop_all c.loop-byte.byte-index c.args.piece.now (omega (arith, at)) in
    ap (λ (n : ℕ). drop n (placed c.args.here.line c.args.here.col (c.args.piece.now ++ rest))) at
    ∙ c.loop-byte.invariant.rest rest
    ∙ ap (λ (l : List ℕ). placed c.loop-byte.line c.loop-byte.col (l ++ rest)) none
