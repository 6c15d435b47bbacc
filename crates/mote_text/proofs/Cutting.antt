-- Where a text is cut.
use Rattle.std.proofs.Common.{◌≡◌, ℕ, ◌+◌, ◌-◌, ◌<◌, ◌≤◌, ◌==◌, Bool, true, false, not, ◌&&◌, cond, nat_lt, Some, None, List, [], ◌∷◌, length, take, drop, length-drop, ◌++◌, arith, refl, sym, ap, ◌∙◌}
use Rattle.std.specs.List.{All, list_all, slice_split, position_or_len, count_by}
use Rattle.std.specs.Str.Lines.{lines, lines_of_parts, strip_carriage_return}
use Rattle.std.specs.Option.{unwrap_or}
use Rattle.mote_text.specs.Lines.{words}
use Rattle.std.proofs.lemmas.Bool.{and_parts}
use Rattle.std.proofs.lemmas.Bool.Decides.{nat_tests}
use Rattle.std.proofs.lemmas.List.{take_all}
use Rattle.std.proofs.lemmas.List.Elements.{All-cons, All-get_or}
use Rattle.std.proofs.lemmas.List.Splits.{slice_split_at, slice_split_first, slice_split_none, length-slice_split}
use Rattle.std.proofs.lemmas.List.Sums.{fails_before_first, prefix_len-le-length}

module _ (p : ℕ → Bool) (text : List ℕ) (end : ℕ) (is : end ≡ position_or_len p text) where
  pub cut_at : end < length text → slice_split p text ≡ take end text ∷ slice_split p (take (length text - (end + 1)) (drop (end + 1) text))
  cut_at lt =
      slice_split_first p text 0 (omega arith)
      ∙ ap (λ n. take n text ∷ slice_split p (drop (n + 1) text)) (sym is)
      ∙ ap (λ t. take end text ∷ slice_split p t) (sym (take_all (length text - (end + 1)) (drop (end + 1) text) (omega (arith, length-drop (end + 1) text))))

  pub no_cut : length text ≤ end → slice_split p text ≡ text ∷ []
  no_cut le = slice_split_none p text (λ k d h. fails_before_first p text k d (omega arith))

-- where none passes, the place is the length
pub or_len : (p : ℕ → Bool) (text : List ℕ) → unwrap_or (cond (nat_lt (position_or_len p text) (length text)) (Some (position_or_len p text)) None) (length text) ≡ position_or_len p text
or_len p text = by_test (nat_lt (position_or_len p text) (length text)) refl
  where
    by_test : (t : Bool) → nat_lt (position_or_len p text) (length text) ≡ t → unwrap_or (cond (nat_lt (position_or_len p text) (length text)) (Some (position_or_len p text)) None) (length text) ≡ position_or_len p text
    by_test true e = ap (λ b. unwrap_or (cond b (Some (position_or_len p text)) None) (length text)) e
    by_test false e =
        let le : length text ≤ position_or_len p text = grind (arith, nat_tests) in
        ap (λ b. unwrap_or (cond b (Some (position_or_len p text)) None) (length text)) e ∙ omega (arith, prefix_len-le-length (λ x. not (p x)) text)

-- a line with an end
pub cut_line : (text line rest : List ℕ) → slice_split (λ b. b == 10) text ≡ line ∷ slice_split (λ b. b == 10) rest → lines text ≡ strip_carriage_return line ∷ lines rest
cut_line text line rest h = ap lines_of_parts h ∙ by_parts (slice_split (λ b. b == 10) rest) (length-slice_split (λ b. b == 10) rest)
  where
    by_parts : (parts : List (List ℕ)) → length parts ≡ count_by (λ b. b == 10) rest + 1 → lines_of_parts (line ∷ parts) ≡ strip_carriage_return line ∷ lines_of_parts parts
    by_parts [] e = absurd (omega arith)
    by_parts (x ∷ xs) e = refl

-- neither LF nor CR
abbrev pub IsPlain : ℕ → Type 0
IsPlain b = ((b == 10) ≡ false) × ((b == 13) ≡ false)

-- what passes this test, before more of the kind
pub plain_then : (xs : List ℕ) → list_all (λ b. not (b == 10) && not (b == 13)) xs ≡ true → (ys : List ℕ) → All IsPlain ys → All IsPlain (xs ++ ys)
plain_then [] h ys hy = hy
plain_then (x ∷ xs) h ys hy =
    let p = and_parts (not (x == 10) && not (x == 13)) (list_all (λ b. not (b == 10) && not (b == 13)) xs) h in
    let q = and_parts (not (x == 10)) (not (x == 13)) p.0 in
    All-cons IsPlain x (xs ++ ys) (off (x == 10) q.0, off (x == 13) q.1) (plain_then xs p.1 ys hy)
  where
    off : (t : Bool) → not t ≡ true → t ≡ false
    off true h = sym h
    off false h = refl

-- a line of such characters
module _ (front rest : List ℕ) (some : 0 < length front) (plain : All IsPlain front) where
  kept : strip_carriage_return front ≡ front
  kept = ap (λ t. cond t (take (length front - 1) front) front) (All-get_or IsPlain front (length front - 1) 0 (omega arith) plain).1

  pub first_line : lines (front ++ 10 ∷ rest) ≡ front ∷ lines rest
  first_line = cut_line (front ++ 10 ∷ rest) front rest (slice_split_at (λ b. b == 10) front 10 rest (λ k d h. (plain k d h).0) refl) ∙ ap (λ l. l ∷ lines rest) kept

-- a text has a word at least
pub some_words : {A : Type 0} (f : List (List ℕ) → A) (x : A) (text : List ℕ) → ((w : List ℕ) (ws : List (List ℕ)) → f (w ∷ ws) ≡ x) → f (words text) ≡ x
some_words {A = A} f x text h = by_parts (words text) (length-slice_split (λ b. b == 32) text)
  where
    by_parts : (parts : List (List ℕ)) → length parts ≡ count_by (λ b. b == 32) text + 1 → f parts ≡ x
    by_parts [] e = absurd (omega arith)
    by_parts (w ∷ ws) e = h w ws
