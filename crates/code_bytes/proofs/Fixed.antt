-- The bytes of the code that stands in every image.
use Rattle.std.proofs.Common.{◌≡◌, ℕ, suc, ◌+◌, ◌*◌, ◌≤◌, List, [], ◌∷◌, length, map, Option, Some, None, refl, arith}
use Rattle.std.specs.List.{range_with_len}
use Rattle.std.proofs.lemmas.List.Sums.{sum_by-cons}
use Rattle.core_meaning.specs.SourceOf.{handler_in}
use Rattle.msp_isa.specs.declared.code.CodeFn.{CodeFn}
use Rattle.code_pieces.specs.Pieces.{handler_of, reset_of}
use Rattle.msp_runtime.specs.Emitted.{operation_fns}
use Rattle.code_bytes.specs.Bytes.{most_in, most_of}
use Rattle.code_bytes.specs.Laws.{FixedCodeIsSmall, pieces}

pub operation_bytes : most_of operation_fns ≡ 2310
operation_bytes = refl

reset_bytes : (boot : ℕ) → most_in (reset_of boot).items ≡ 16
reset_bytes boot = refl

without_handler : most_in (handler_of None).items ≡ 56
without_handler = refl

with_handler : (f : ℕ) → most_in (handler_of (Some f)).items ≡ 60
with_handler f = refl

line_bytes : (handler : Option ℕ) → most_in (handler_of handler).items ≤ 60
line_bytes None = let e = without_handler in omega (arith, e)
line_bytes (Some f) = let e = with_handler f in omega (arith, e)

module _ (handlers : List (ℕ × ℕ)) where
  abbrev pub line : ℕ → CodeFn
  line v = handler_of (handler_in handlers v)

  pub lines_bytes : (vs : List ℕ) → most_of (map line vs) ≤ 60 * length vs
  lines_bytes [] = omega arith
  lines_bytes (v ∷ vs) =
      let s = sum_by-cons (λ (f : CodeFn). most_in f.items) (line v) (map line vs) in
      let first = line_bytes (handler_in handlers v) in
      let rest = lines_bytes vs in
      add _ _ _ (length vs) s first rest
    where
      add : (all first rest n : ℕ) → all ≡ first + rest → first ≤ 60 → rest ≤ 60 * n → all ≤ 60 * suc n
      add all first rest n s one more = omega (arith, s, one, more)

  pieces_bytes : (boot : ℕ) → most_of (pieces boot handlers) ≤ 496
  pieces_bytes boot =
      add _ _ _ (sum_by-cons (λ (f : CodeFn). most_in f.items) (reset_of boot) (map line (range_with_len 0 8))) (reset_bytes boot) (lines_bytes (range_with_len 0 8))
    where
      add : (all first rest : ℕ) → all ≡ first + rest → first ≡ 16 → rest ≤ 60 * 8 → all ≤ 496
      add all first rest s one more = omega (arith, s, one, more)

pub fixed_small : FixedCodeIsSmall
fixed_small boot handlers = add _ _ operation_bytes (pieces_bytes handlers boot)
  where
    add : (a b : ℕ) → a ≡ 2310 → b ≤ 496 → a + b ≤ 4000
    add a b e le = omega (arith, e, le)
