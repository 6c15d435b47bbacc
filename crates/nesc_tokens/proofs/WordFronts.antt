-- The longest word at the front.
use Rattle.std.proofs.Common.{◌≡◌, ℕ, zero, suc, ◌<◌, ◌≤◌, true, false, List, [], ◌∷◌, length, take, sym, subst, arith, one-add}
use Rattle.std.specs.Prelude.{slice_index}
use Rattle.std.specs.List.{prefix_len}
use Rattle.std.proofs.lemmas.Bool.{and_from, and_right, or_left}
use Rattle.std.proofs.lemmas.List.Sums.{prefix_len-le-length}
use Rattle.nm_base.specs.declared.token.Kind.TheVariants.{Word}
use Rattle.nesc_tokens.specs.CodePoints.{is_letter, is_word_byte}
use Rattle.nesc_tokens.specs.Spelling.{is_word}
use Rattle.nesc_tokens.specs.Longest.{kind_at, IsLongestOf}
use Rattle.nesc_tokens.proofs.Runs.{all_front, all_past}
use Rattle.nesc_tokens.proofs.LexemeKinds.{letter_of}

word_past : (b : ℕ) (bs : List ℕ) (m : ℕ) → suc (prefix_len is_word_byte bs) < m → m ≤ suc (length bs) → is_word (take m (b ∷ bs)) ≡ false
word_past b bs zero lt le = absurd (omega arith)
word_past b bs (suc m) lt le = and_right _ _ (all_past is_word_byte bs m (omega arith) (omega arith))

pub word_longest : (bytes : List ℕ) → 0 < length bytes → is_letter (slice_index bytes 0) ≡ true → IsLongestOf Word (prefix_len is_word_byte bytes) bytes
word_longest [] some letter = absurd (omega arith)
word_longest (b ∷ bs) some letter =
    let word : is_word_byte b ≡ true = or_left _ _ letter in
    let len : prefix_len is_word_byte (b ∷ bs) ≡ suc (prefix_len is_word_byte bs) = rw word (one-add _) in
    subst (λ (n : ℕ). IsLongestOf Word n (b ∷ bs)) (sym len) (record {
      some = omega arith;
      within = omega (arith, prefix_len-le-length is_word_byte bs);
      spelled = and_from _ _ letter (all_front is_word_byte bs);
      longest = word_past b bs;
    })

pub word_at : (n : ℕ) (bytes : List ℕ) → 0 < length bytes → kind_at (slice_index bytes 0) ≡ Word → n ≡ prefix_len is_word_byte bytes → IsLongestOf Word n bytes
word_at n bytes some at is = subst (λ (k : ℕ). IsLongestOf Word k bytes) (sym is) (word_longest bytes some (letter_of (slice_index bytes 0) at))
