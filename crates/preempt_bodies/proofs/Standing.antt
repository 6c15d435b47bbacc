-- Instructions stand where their words do.
use Rattle.std.proofs.Common.{◌≡◌, ℕ, zero, suc, ◌+◌, ◌*◌, ◌%◌, ◌<◌, ◌≤◌, List, [], ◌∷◌, ◌++◌, length, Option, Some, None, refl, ap, subst, ◌∙◌, arith, length-append}
use mathlib.Core.Logic.{inl, inr}
use Rattle.std.specs.List.{AllByRecursion}
use Rattle.msp_isa.specs.declared.instr.Instr.{Instr}
use Rattle.msp_isa.specs.declared.instr.Instr.TheVariants.{Two, One, Jump, Reti}
use Rattle.msp_isa.specs.Encode.{before_words, encoded, further_word, IsBase, IsWritten}
use Rattle.msp_isa.specs.Stands.{word_in, AreAt}
use Rattle.code_pieces.specs.Pieces.{entry, exit, pop}
use Rattle.preempt_bodies.specs.Bodies.{call, line_code, reset_code}

-- the words of instructions, and of an image from an address on
abbrev pub words_of : List Instr → List ℕ
words_of [] = []
words_of (i ∷ is) = encoded i ++ words_of is

abbrev pub words_at : (ℕ → ℕ) → ℕ → ℕ → List ℕ
words_at image a zero = []
words_at image a (suc n) = word_in image a ∷ words_at image (a + 2) n

few_before : (o : Option ℕ) (ws : List ℕ) → length (before_words o ws) ≤ suc (length ws)
few_before None ws = omega arith
few_before (Some w) ws = omega arith

few_words : (i : Instr) → length (encoded i) ≤ 3
few_words (Two op byte s d) = let a = few_before (further_word s) (before_words (further_word d) []) in let b = few_before (further_word d) [] in omega (arith, a, b)
few_words (One op byte o) = let a = few_before (further_word o) [] in omega (arith, a)
few_words (Jump c k) = omega arith
few_words Reti = omega arith

some_words : (i : Instr) → 1 ≤ length (encoded i)
some_words (Two op byte s d) = omega arith
some_words (One op byte o) = omega arith
some_words (Jump c k) = omega arith
some_words Reti = omega arith

module _ (image : ℕ → ℕ) where
  -- the words of the first instruction, and those behind them
  record Cut (pc : ℕ) (e more : List ℕ) : Type 0 where
    rest : List ℕ
    words : word_in image pc ∷ word_in image (pc + 2) ∷ word_in image (pc + 4) ∷ [] ≡ e ++ rest
    behind : words_at image (pc + 2 * length e) (length more) ≡ more

  head : {x y : ℕ} {xs ys : List ℕ} → x ∷ xs ≡ y ∷ ys → x ≡ y
  head e = cc

  tail : {x y : ℕ} {xs ys : List ℕ} → x ∷ xs ≡ y ∷ ys → xs ≡ ys
  tail e = cc

  moved : (a b n : ℕ) (l : List ℕ) → a ≡ b → words_at image a n ≡ l → words_at image b n ≡ l
  moved a b n l e h = subst (λ x. words_at image x n ≡ l) e h

  cut : (pc : ℕ) (e more : List ℕ) → 1 ≤ length e → length e ≤ 3 → words_at image pc (length (e ++ more)) ≡ e ++ more → Cut pc e more
  cut pc [] more some few h = absurd (omega (arith, some))
  cut pc (a ∷ []) more some few h = record {
    rest = word_in image (pc + 2) ∷ word_in image (pc + 4) ∷ [];
    words = ap (λ x. x ∷ word_in image (pc + 2) ∷ word_in image (pc + 4) ∷ []) (head h);
    behind = tail h;
  }
  cut pc (a ∷ b ∷ []) more some few h = record {
    rest = word_in image (pc + 4) ∷ [];
    words = ap (λ x. x ∷ word_in image (pc + 2) ∷ word_in image (pc + 4) ∷ []) (head h) ∙ ap (λ x. a ∷ x ∷ word_in image (pc + 4) ∷ []) (head (tail h));
    behind = moved (pc + 2 + 2) (pc + 2 * 2) (length more) more (omega arith) (tail (tail h));
  }
  cut pc (a ∷ b ∷ d ∷ []) more some few h = record {
    rest = [];
    words = ap (λ x. x ∷ word_in image (pc + 2) ∷ word_in image (pc + 4) ∷ []) (head h) ∙ ap (λ x. a ∷ x ∷ word_in image (pc + 4) ∷ []) (head (tail h))
        ∙ ap (λ x. a ∷ b ∷ x ∷ []) (ap (word_in image) (let n : pc + 4 ≡ pc + 2 + 2 = omega arith in n) ∙ head (tail (tail h)));
    behind = moved (pc + 2 + 2 + 2) (pc + 2 * 3) (length more) more (omega arith) (tail (tail (tail h)));
  }
  cut pc (a ∷ b ∷ d ∷ x ∷ e) more some few h = absurd (omega (arith, few))

  -- where an image has the words of instructions, they stand there
  pub stand : (is : List Instr) (pc : ℕ) → AllByRecursion IsWritten is → pc % 2 ≡ 0 → 0x4000 ≤ pc → pc + 2 * length (words_of is) + 6 < 0x10000 → words_at image pc (length (words_of is)) ≡ words_of is → AreAt image pc is (pc + 2 * length (words_of is))
  stand [] pc written ev low high h = omega arith
  stand (i ∷ is) pc written ev low high h =
      let n = length-append (encoded i) (words_of is) in
      let c = cut pc (encoded i) (words_of is) (some_words i) (few_words i) h in
      let to = pc + 2 * length (encoded i) in (
        record { even = ev; low = low; high = omega (arith, high); written = written.0; rest = c.rest; words = c.words },
        subst (AreAt image to is) (omega (arith, n)) (stand is to written.1 (omega (arith, ev)) (omega (arith, low)) (omega (arith, high, n)) c.behind),
      )

-- ---- the code round bodies is written

base : IsBase 1
base = (omega arith, (λ e. omega (arith, e)), λ e. omega (arith, e))

both : (a b : List Instr) → AllByRecursion IsWritten a → AllByRecursion IsWritten b → AllByRecursion IsWritten (a ++ b)
both [] b h k = k
both (i ∷ a) b h k = (h.0, both a b h.1 k)

popped : (r : ℕ) → r < 16 → IsWritten (pop r)
popped r hi = ((base, λ e. omega (arith, e)), hi)

entry_written : AllByRecursion IsWritten entry
entry_written = (((omega arith, λ e. omega (arith, e)), refl), (((omega arith, λ e. omega (arith, e)), refl), (((omega arith, λ e. omega (arith, e)), refl), (((omega arith, λ e. omega (arith, e)), refl), (((omega arith, λ e. omega (arith, e)), refl), (((omega arith, λ e. omega (arith, e)), refl), (((omega arith, λ e. omega (arith, e)), refl), (((omega arith, λ e. omega (arith, e)), refl), (((omega arith, λ e. omega (arith, e)), refl), (((omega arith, λ e. omega (arith, e)), refl), (((omega arith, λ e. omega (arith, e)), refl), (((omega arith, λ e. omega (arith, e)), refl), tt))))))))))))

exit_written : AllByRecursion IsWritten exit
exit_written = (popped 4 (omega arith), (popped 5 (omega arith), (popped 6 (omega arith), (popped 7 (omega arith), (popped 8 (omega arith), (popped 9 (omega arith), (popped 10 (omega arith), (popped 11 (omega arith), (popped 12 (omega arith), (popped 13 (omega arith), (popped 14 (omega arith), (popped 15 (omega arith), ((tt, base), (tt, tt))))))))))))))

called : (body : ℕ) → IsWritten (call body)
called body = (tt, refl)

pub line_written : (body : Option ℕ) → AllByRecursion IsWritten (line_code body)
line_written None = both entry exit entry_written exit_written
line_written (Some body) = both entry (call body ∷ exit) entry_written (called body, exit_written)

pub reset_written : (boot : ℕ) → AllByRecursion IsWritten (reset_code boot)
reset_written boot = ((tt, omega arith), ((inr (inr (inl refl)), omega arith), (called boot, ((tt, omega arith), ((omega arith, omega arith), tt)))))
