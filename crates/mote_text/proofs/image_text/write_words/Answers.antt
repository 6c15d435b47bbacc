use Rattle.std.proofs.Common.{◌≡◌, ◌==◌, false, [], ◌∷◌, ◌+◌, ◌<◌, ◌≤◌, ◌++◌, length, drop, arith, refl, sym, ap, ◌∙◌, append_assoc}
use Rattle.std.proofs.lemmas.Bool.Decides.{nat_tests}
use Rattle.mote_text.specs.ImageText.{words_from}
use Rattle.nm_base.proofs.Writing.{goes_on, stops, writes_nothing}
use Rattle.mote_text.proofs.Writing.{last_word, next_word}
use Rattle.mote_text.proofs.image_text.write_words.Goals as goal

pub loop-k-init : goal.loop-k-init
loop-k-init g c = ([], writes_nothing (tt {0}) _, refl)

pub returns-in_err-write_all : goal.returns-in_err-write_all
returns-in_err-write_all g c =
    let so_far = c.loop-k.invariant in
    let words = c.args.words.now in
    let k = c.loop-k.k in
    let lt : k < length words = omega arith in
    let rest = words_from (k + 1) (drop (k + 1) words) in
    let is = c.as_slice.ensures.value ∙ c.piece_of.ensures in
    stops (tt {0}) _ c.from_residual.result _ _ _ so_far.0 c.as_slice.result.now rest _ c.from_residual.ensures.0
    (so_far.2 ∙ ap (λ t. so_far.0 ++ t) (next_word k words lt ∙ ap (λ p. p ++ rest) (sym is)) ∙ sym (append_assoc so_far.0 c.as_slice.result.now rest))
    so_far.1 c.in_err-write_all.ensures

pub loop-k-preserved : goal.loop-k-preserved
loop-k-preserved g c =
    let so_far = c.loop-k.invariant in
    let words = c.args.words.now in
    let k = c.loop-k.k in
    let lt : k < length words = omega arith in
    let rest = words_from (k + 1) (drop (k + 1) words) in
    let is = c.as_slice.ensures.value ∙ c.piece_of.ensures in (
      so_far.0 ++ c.as_slice.result.now,
      goes_on (tt {0}) _ _ _ _ so_far.0 c.as_slice.result.now _ refl so_far.1 c.in_ok-write_all.ensures,
      so_far.2 ∙ ap (λ t. so_far.0 ++ t) (next_word k words lt ∙ ap (λ p. p ++ rest) (sym is)) ∙ sym (append_assoc so_far.0 c.as_slice.result.now rest),
    )

pub returns : goal.returns
returns g c =
    let so_far = c.loop-k.invariant in
    let words = c.args.words.now in
    let k = c.loop-k.k in
    let all : length words ≤ k = omega arith in
    let test : false ≡ (length words == 0) = c.if-is_empty.ensures in
    let some : 0 < k = grind (arith, nat_tests, test) in
    goes_on (tt {0}) _ _ _ _ so_far.0 (10 ∷ []) _ (so_far.2 ∙ ap (λ t. so_far.0 ++ t) (last_word k words all some)) so_far.1 c.write_all-2.ensures
