-- Words that are stored in the cells, and the map of an image.
use Rattle.std.proofs.Common.{◌≡◌, ℕ, suc, ◌+◌, ◌-◌, ◌*◌, ◌/◌, ◌%◌, ◌<◌, ◌≤◌, ◌==◌, Bool, true, false, cond, ◌&&◌, nat_lt, List, [], ◌∷◌, length, get_or, Option, Some, None, arith, refl, sym, ap, ◌∙◌}
use Rattle.std.specs.Prelude.{nat_le, slice_index, is_none}
use Rattle.std.specs.Option.{unwrap_or}
use Rattle.std.proofs.Math.Path.{fun_ext}
use Rattle.std.proofs.lemmas.Bool.Decides.{nat_tests}
use Rattle.std.proofs.lemmas.List.{get_or_past}
use Rattle.msp_isa.specs.Image.{byte_of, image_map}
use Rattle.mote_text.specs.ImageLines.{is_free, stored, with_byte}

-- ---- stores

-- the bytes of words, low byte first
abbrev pub word_bytes : List ℕ → List ℕ
word_bytes [] = []
word_bytes (w ∷ ws) = w % 256 ∷ w / 256 ∷ word_bytes ws

-- two for each word
pub twice : (ws : List ℕ) → length (word_bytes ws) ≡ 2 * length ws
twice [] = refl
twice (w ∷ ws) = omega (arith, twice ws)

-- the low byte of a word and its high byte
abbrev pub with_word : (ℕ → Option ℕ) → ℕ → ℕ → ℕ → Option ℕ
with_word m a w = with_byte (with_byte m a (w % 256)) (a + 1) (w / 256)

-- the cells when words are stored from an address on
abbrev pub put : (ℕ → Option ℕ) → ℕ → List ℕ → ℕ → Option ℕ
put m a [] = m
put m a (w ∷ ws) = put (with_word m a w) (a + 1 + 1) ws

-- the address behind them
abbrev pub past : ℕ → List ℕ → ℕ
past a [] = a
past a (w ∷ ws) = past (a + 1 + 1) ws

-- two addresses for each word
pub past_is : (ws : List ℕ) (a : ℕ) → past a ws ≡ a + 2 * length ws
past_is [] a = omega arith
past_is (w ∷ ws) a = omega (arith, past_is ws (a + 1 + 1))

-- nothing stands from an address on
abbrev pub IsClear : (ℕ → Option ℕ) → ℕ → Type 0
IsClear m a = (x : ℕ) → a ≤ x → m x ≡ None

-- a byte leaves the other addresses
pub other : (m : ℕ → Option ℕ) (a b x : ℕ) → (x == a) ≡ false → with_byte m a b x ≡ m x
other m a b x t = ap (λ t. cond t (Some b) (m x)) t

-- nothing stands behind a byte that was the first
clear_behind : (m : ℕ → Option ℕ) (a b : ℕ) → IsClear m a → IsClear (with_byte m a b) (a + 1)
clear_behind m a b h x le = other m a b x (grind (arith, nat_tests)) ∙ h x (omega arith)

-- an address in the memory with nothing there
free : (m : ℕ → Option ℕ) (a : ℕ) → 0x4000 ≤ a → a < 0x10000 → IsClear m a → is_free m a ≡ true
free m a low high h =
    let s : nat_le 0x4000 a ≡ true = grind (arith, nat_tests) in
    let t : nat_lt a 0x10000 ≡ true = grind (arith, nat_tests) in
    ap (λ t. t && nat_lt a 0x10000 && is_none (m a)) s
    ∙ ap (λ t. true && t && is_none (m a)) t
    ∙ ap (λ o. true && true && is_none o) (h a (omega arith))

-- nothing stands behind the words
pub put_clear : (ws : List ℕ) (m : ℕ → Option ℕ) (a : ℕ) → IsClear m a → IsClear (put m a ws) (past a ws)
put_clear [] m a h = h
put_clear (w ∷ ws) m a h = put_clear ws (with_word m a w) (a + 1 + 1) (clear_behind (with_byte m a (w % 256)) (a + 1) (w / 256) (clear_behind m a (w % 256) h))

-- words are stored where nothing stood
pub words_stored : (ws : List ℕ) (m : ℕ → Option ℕ) (a : ℕ) → 0x4000 ≤ a → a + 2 * length ws ≤ 0x10000 → IsClear m a → stored m a (word_bytes ws) ≡ Some (past a ws, put m a ws)
words_stored [] m a low high h = refl
words_stored (w ∷ ws) m a low high h =
    ap (λ t. cond t (cond (is_free first (a + 1)) (stored second (a + 1 + 1) (word_bytes ws)) None) None) (free m a low (omega arith) h)
    ∙ ap (λ t. cond t (stored second (a + 1 + 1) (word_bytes ws)) None) (free first (a + 1) (omega arith) (omega arith) (clear_behind m a (w % 256) h))
    ∙ words_stored ws second (a + 1 + 1) (omega arith) (omega arith) (clear_behind first (a + 1) (w / 256) (clear_behind m a (w % 256) h))
  where
    first : ℕ → Option ℕ
    first = with_byte m a (w % 256)

    second : ℕ → Option ℕ
    second = with_byte first (a + 1) (w / 256)

-- ---- cells

-- a byte stands at its address
same_byte : (m : ℕ → Option ℕ) (a b x : ℕ) → (x == a) ≡ true → with_byte m a b x ≡ Some b
same_byte m a b x t = ap (λ t. cond t (Some b) (m x)) t

-- words leave what stands before them
put_before : (ws : List ℕ) (m : ℕ → Option ℕ) (a x : ℕ) → x < a → put m a ws x ≡ m x
put_before [] m a x h = refl
put_before (w ∷ ws) m a x h =
    put_before ws (with_word m a w) (a + 1 + 1) x (omega arith)
    ∙ other (with_byte m a (w % 256)) (a + 1) (w / 256) x (grind (arith, nat_tests))
    ∙ other m a (w % 256) x (grind (arith, nat_tests))

-- and what stands behind them
pub put_behind : (ws : List ℕ) (m : ℕ → Option ℕ) (a x : ℕ) → a + 2 * length ws ≤ x → put m a ws x ≡ m x
put_behind [] m a x h = refl
put_behind (w ∷ ws) m a x h =
    put_behind ws (with_word m a w) (a + 1 + 1) x (omega (arith, h))
    ∙ other (with_byte m a (w % 256)) (a + 1) (w / 256) x (grind (arith, nat_tests))
    ∙ other m a (w % 256) x (grind (arith, nat_tests))

-- each byte of a word stands at its address
put_within : (ws : List ℕ) (m : ℕ → Option ℕ) (a x : ℕ) → a % 2 ≡ 0 → a ≤ x → x < a + 2 * length ws → put m a ws x ≡ Some (byte_of (get_or ws ((x - a) / 2) 0) x)
put_within [] m a x even low high = absurd (omega arith)
put_within (w ∷ ws) m a x even low high = by_test (x == a) refl (x == a + 1) refl (put_within ws second (a + 1 + 1) x (omega arith))
  where
    first : ℕ → Option ℕ
    first = with_byte m a (w % 256)

    second : ℕ → Option ℕ
    second = with_byte first (a + 1) (w / 256)

    byte : ℕ → Bool → Option ℕ
    byte i t = Some (cond t (get_or (w ∷ ws) i 0 % 256) (get_or (w ∷ ws) i 0 / 256))

    by_test : (s : Bool) → (x == a) ≡ s → (t : Bool) → (x == a + 1) ≡ t → (a + 1 + 1 ≤ x → x < a + 1 + 1 + 2 * length ws → put second (a + 1 + 1) ws x ≡ Some (byte_of (get_or ws ((x - (a + 1 + 1)) / 2) 0) x)) → put second (a + 1 + 1) ws x ≡ byte ((x - a) / 2) (x % 2 == 0)
    by_test true s t e later =
        let is : x ≡ a = grind (arith, nat_tests) in
        let i : 0 ≡ (x - a) / 2 = omega arith in
        let p : true ≡ (x % 2 == 0) = grind (arith, nat_tests) in
        put_before ws second (a + 1 + 1) x (omega arith) ∙ other first (a + 1) (w / 256) x (grind (arith, nat_tests)) ∙ same_byte m a (w % 256) x s
        ∙ ap (byte 0) p ∙ ap (λ i. byte i (x % 2 == 0)) i
    by_test false s true e later =
        let is : x ≡ a + 1 = grind (arith, nat_tests) in
        let i : 0 ≡ (x - a) / 2 = omega arith in
        let p : false ≡ (x % 2 == 0) = grind (arith, nat_tests) in
        put_before ws second (a + 1 + 1) x (omega arith) ∙ same_byte first (a + 1) (w / 256) x e
        ∙ ap (byte 0) p ∙ ap (λ i. byte i (x % 2 == 0)) i
    by_test false s false e later =
        let ne : (x ≡ a → ⊥) × (x ≡ a + 1 → ⊥) = grind (arith, nat_tests) in
        let i : suc ((x - (a + 1 + 1)) / 2) ≡ (x - a) / 2 = omega arith in
        later (omega arith) (omega (arith, high)) ∙ ap (λ i. byte i (x % 2 == 0)) i

-- ---- the map of an image

module _ (code vectors : List ℕ) (fits : length code ≤ 24560) (sixteen : length vectors ≡ 16) where
  -- the cells with both sections
  abbrev cells : ℕ → Option ℕ
  cells = put (put (λ a. None) 0x4000 code) 0xFFE0 vectors

  -- code, and 0 behind it
  in_code : (a : ℕ) → 0x4000 ≤ a → a < 0xFFE0 → unwrap_or (cells a) 0 ≡ byte_of (slice_index code ((a - 0x4000) / 2)) a
  in_code a low high = ap (λ o. unwrap_or o 0) (put_before vectors (put (λ a. None) 0x4000 code) 0xFFE0 a high) ∙ by_test (nat_lt a (0x4000 + 2 * length code)) refl
    where
      by_test : (t : Bool) → nat_lt a (0x4000 + 2 * length code) ≡ t → unwrap_or (put (λ a. None) 0x4000 code a) 0 ≡ byte_of (slice_index code ((a - 0x4000) / 2)) a
      by_test true t = ap (λ o. unwrap_or o 0) (put_within code (λ a. None) 0x4000 a refl low (grind (arith, nat_tests)))
      by_test false t =
          let le : 0x4000 + 2 * length code ≤ a = grind (arith, nat_tests) in
          ap (λ o. unwrap_or o 0) (put_behind code (λ a. None) 0x4000 a le)
          ∙ zero_byte (a % 2 == 0)
          ∙ ap (λ w. byte_of w a) (sym (get_or_past code ((a - 0x4000) / 2) 0 (omega (arith, le))))
        where
          zero_byte : (t : Bool) → 0 ≡ cond t (0 % 256) (0 / 256)
          zero_byte true = refl
          zero_byte false = refl

  in_vectors : (a : ℕ) → 0xFFE0 ≤ a → a < 0x10000 → unwrap_or (cells a) 0 ≡ byte_of (slice_index vectors ((a - 0xFFE0) / 2)) a
  in_vectors a low high = ap (λ o. unwrap_or o 0) (put_within vectors (put (λ a. None) 0x4000 code) 0xFFE0 a refl low (omega (arith, sixteen)))

  below_memory : (a : ℕ) → a < 0x4000 → unwrap_or (cells a) 0 ≡ 0
  below_memory a h = ap (λ o. unwrap_or o 0) (put_before vectors (put (λ a. None) 0x4000 code) 0xFFE0 a (omega arith) ∙ put_before code (λ a. None) 0x4000 a h)

  behind_memory : (a : ℕ) → 0x10000 ≤ a → unwrap_or (cells a) 0 ≡ 0
  behind_memory a h =
      ap (λ o. unwrap_or o 0) (put_behind vectors (put (λ a. None) 0x4000 code) 0xFFE0 a (omega (arith, sixteen)) ∙ put_behind code (λ a. None) 0x4000 a (omega (arith, fits)))

  at_address : (a : ℕ) (s t u v : Bool)
      → nat_le 0x4000 a ≡ s → nat_lt a 0xFFE0 ≡ t → nat_le 0xFFE0 a ≡ u → nat_lt a 0x10000 ≡ v
      → cond (s && t) (byte_of (slice_index code ((a - 0x4000) / 2)) a) (cond (u && v) (byte_of (slice_index vectors ((a - 0xFFE0) / 2)) a) 0) ≡ unwrap_or (cells a) 0
  at_address a true true u v e f g h = sym (in_code a (grind (arith, nat_tests)) (grind (arith, nat_tests)))
  at_address a true false true true e f g h = sym (in_vectors a (grind (arith, nat_tests)) (grind (arith, nat_tests)))
  at_address a true false true false e f g h = sym (behind_memory a (grind (arith, nat_tests)))
  at_address a true false false v e f g h =
      let le : 0xFFE0 ≤ a = grind (arith, nat_tests) in
      let lt : a < 0xFFE0 = grind (arith, nat_tests) in
      absurd (omega (arith, le, lt))
  at_address a false t true v e f g h =
      let le : 0xFFE0 ≤ a = grind (arith, nat_tests) in
      let lt : a < 0x4000 = grind (arith, nat_tests) in
      absurd (omega (arith, le, lt))
  at_address a false t false v e f g h = sym (below_memory a (grind (arith, nat_tests)))

  -- the cells, read with 0 where nothing stands, are the map
  pub memory : image_map code vectors ≡ (λ a. unwrap_or (cells a) 0)
  memory = fun_ext (λ a. at_address a (nat_le 0x4000 a) (nat_lt a 0xFFE0) (nat_le 0xFFE0 a) (nat_lt a 0x10000) refl refl refl refl)
