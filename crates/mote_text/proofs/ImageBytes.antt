-- The bytes of a line, and where they go.
use Rattle.std.proofs.Common.{◌≡◌, ℕ, zero, suc, ◌+◌, ◌-◌, ◌<◌, ◌≤◌, Bool, true, false, cond, List, [], ◌∷◌, ◌++◌, length, replicate, drop, get_or, Option, Some, None, arith, refl, sym, ap, ◌∙◌, append_assoc, length-append, drop-cons, add-one}
use Rattle.std.specs.Prelude.{nat_le, map, slice_index, Result, Ok, Err}
use Rattle.std.specs.List.{slice_get}
use Rattle.std.specs.Option.{option_map, option_and_then, unwrap_or}
use Rattle.std.proofs.Math.Path.{fun_ext}
use Rattle.std.proofs.lemmas.Bool.Decides.{nat_tests}
use Rattle.std.proofs.lemmas.List.{append-nil}
use Rattle.msp_isa.specs.Image.{bytes_map}
use Rattle.mote_text.specs.Lines.{read_lines}
use Rattle.mote_text.specs.ImageLines.{Reading, image_step, is_free, memory_of, spaced_bytes, stored, with_byte}
use Rattle.mote_text.specs.Cells.{cells_map}

-- what a line has when some of its bytes are read
abbrev pub finished : List ℕ → Option (List ℕ) → Option (List ℕ)
finished done rest = option_and_then (λ bs. cond (nat_le (length (done ++ bs)) 16) (Some (done ++ bs)) None) rest

pub one_more : (done : List ℕ) (b : ℕ) (o : Option (List ℕ)) → finished done (option_map (λ bs. b ∷ bs) o) ≡ finished (done ++ b ∷ []) o
one_more done b None = refl
one_more done b (Some bs) = ap (λ l. cond (nat_le (length l) 16) (Some l) None) (sym (append_assoc done (b ∷ []) bs))

pub too_many : (done : List ℕ) (b : ℕ) (o : Option (List ℕ)) → length done ≡ 16 → finished done (option_map (λ bs. b ∷ bs) o) ≡ None
too_many done b None h = refl
too_many done b (Some bs) h =
    let long : 16 < length (done ++ b ∷ bs) = omega (arith, length-append done (b ∷ bs)) in
    let t : nat_le (length (done ++ b ∷ bs)) 16 ≡ false = grind (arith, nat_tests) in
    ap (λ t. cond t (Some (done ++ b ∷ bs)) None) t

pub at_end : (done : List ℕ) → length done ≤ 16 → finished done (Some []) ≡ Some done
at_end done h =
    let t : nat_le (length done) 16 ≡ true = grind (arith, nat_tests) in
    ap (λ l. cond (nat_le (length l) 16) (Some l) None) (append-nil done) ∙ ap (λ t. cond t (Some done) None) t

pub nothing_left : (rest : List ℕ) → length rest ≡ 0 → spaced_bytes rest ≡ Some []
unfolding spaced_bytes
nothing_left [] h = refl
nothing_left (b ∷ bs) h = absurd (omega arith)

-- ---- cells

no_cell : (n i : ℕ) → option_and_then (λ (o : Option ℕ). o) (slice_get (replicate n None) i) ≡ None
no_cell zero i = refl
no_cell (suc n) zero = refl
no_cell (suc n) (suc i) = no_cell n i

pub empty_cells : (n : ℕ) (cells : List (Option ℕ)) → cells ≡ replicate n None → cells_map cells ≡ (λ a. None)
empty_cells n cells e = ap cells_map e ∙ fun_ext (λ a. by_test a (nat_le 0x4000 a))
  where
    by_test : (a : ℕ) (t : Bool) → cond t (option_and_then (λ (o : Option ℕ). o) (slice_get (replicate n None) (a - 0x4000))) None ≡ None
    by_test a true = no_cell n (a - 0x4000)
    by_test a false = refl

cell_or_zero : (cells : List (Option ℕ)) (i : ℕ) → slice_index (map (λ o. unwrap_or o 0) cells) i ≡ unwrap_or (option_and_then (λ (o : Option ℕ). o) (slice_get cells i)) 0
cell_or_zero [] i = refl
cell_or_zero (o ∷ cells) zero = refl
cell_or_zero (o ∷ cells) (suc i) = cell_or_zero cells i

-- cells without a byte read 0
pub filled : (bytes : List ℕ) (cells : List (Option ℕ)) → bytes ≡ map (λ o. unwrap_or o 0) cells → bytes_map bytes ≡ (λ a. unwrap_or (cells_map cells a) 0)
filled bytes cells e = ap bytes_map e ∙ fun_ext (λ a. by_test a (nat_le 0x4000 a))
  where
    by_test : (a : ℕ) (t : Bool) → cond t (slice_index (map (λ o. unwrap_or o 0) cells) (a - 0x4000)) 0 ≡ unwrap_or (cond t (option_and_then (λ (o : Option ℕ). o) (slice_get cells (a - 0x4000))) None) 0
    by_test a true = cell_or_zero cells (a - 0x4000)
    by_test a false = refl

-- a text that ended
pub all_read : (n : ℕ) (r : Reading) (m : ℕ → ℕ) → r.ended ≡ true → m ≡ (λ a. unwrap_or (r.byte_at a) 0) → read_lines image_step memory_of n r [] ≡ Ok m
all_read n r m e h = ap (λ t. answered (cond t (Some (λ a. unwrap_or (r.byte_at a) 0)) None)) e ∙ ap (λ f. Ok f) (sym h)
  where
    answered : Option (ℕ → ℕ) → Result (ℕ → ℕ) ℕ
    answered o =
        elim o [
          | None ↦ Err n
          | Some a ↦ Ok a
        ]

-- ---- stores

module _ (m : ℕ → Option ℕ) (a : ℕ) (bs : List ℕ) (i : ℕ) (lt : i < length bs) where
  pub store_one : is_free m a ≡ true → stored m a (drop i bs) ≡ stored (with_byte m a (get_or bs i 0)) (a + 1) (drop (i + 1) bs)
  store_one free = ap (stored m a) (drop-cons bs i 0 lt) ∙ ap (λ t. cond t (stored (with_byte m a (get_or bs i 0)) (a + 1) (drop (suc i) bs)) None) free ∙ ap (λ k. stored (with_byte m a (get_or bs i 0)) (a + 1) (drop k bs)) (sym (add-one i))

  pub store_none : is_free m a ≡ false → stored m a (drop i bs) ≡ None
  store_none full = ap (stored m a) (drop-cons bs i 0 lt) ∙ ap (λ t. cond t (stored (with_byte m a (get_or bs i 0)) (a + 1) (drop (suc i) bs)) None) full
