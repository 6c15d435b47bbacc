-- Words that stand in the code stand in the image's memory, item by item and function by function.
use Rattle.std.proofs.Common.{◌≡◌, ℕ, suc, ◌+◌, ◌-◌, ◌*◌, ◌/◌, ◌%◌, ◌<◌, ◌≤◌, Bool, false, List, [], ◌∷◌, ◌++◌, length, get_or, arith, refl, sym, ap, ◌∙◌, length-append}
use Rattle.std.specs.List.{AllByRecursion}
use Rattle.std.proofs.lemmas.Bool.{le-leb, lt-ltb, eq-eqb, ne_eqb}
use Rattle.std.proofs.lemmas.List.{get_or-append-add, get_or_append_left, get_or-map, length-map}
use Rattle.msp_isa.specs.declared.code.CodeFn.{CodeFn}
use Rattle.msp_isa.specs.declared.code.Item.{Item}
use Rattle.msp_isa.specs.declared.code.Item.TheVariants as item
use Rattle.msp_isa.specs.declared.instr.Cond.{Cond}
use Rattle.msp_isa.specs.declared.instr.Instr.{Instr}
use Rattle.msp_isa.specs.declared.instr.Instr.TheVariants as instr
use Rattle.msp_isa.specs.Encode.{encoded}
use Rattle.msp_isa.specs.Image.{byte_of, image_map}
use Rattle.msp_isa.specs.Stands.{word_in, IsAt, AreAt, instructions, item_at, items_of, LeadsTo, IsLaid}
use Rattle.msp_layout.specs.declared.form.Formed.{Formed}
use Rattle.msp_layout.specs.Laid.{AreGoodFns, StandsOnce}
use Rattle.msp_layout.specs.Order.{AreInOrder}
use Rattle.msp_layout.specs.Sizes.{place, IsCorrect}
use Rattle.msp_layout.specs.Bytes.{entry_of, AreShortest}
use Rattle.msp_layout.specs.Words.{words_of, StandIn, is_long, formed_item, AreFormed, FnsStand, all_sizes}
use Rattle.msp_layout.proofs.Functions.{entry_next}
use Rattle.msp_layout.proofs.Shortest.{three_words, place_up, place_le}
use Rattle.msp_layout.proofs.Stand.{place_more, item_bytes}

in_code : (words vectors : List ℕ) (x : ℕ) → 0x4000 ≤ x → x < 0xFFE0 → image_map words vectors x ≡ byte_of (get_or words ((x - 0x4000) / 2) 0) x
in_code words vectors x low high = rw (le-leb 0x4000 x low, lt-ltb x 0xFFE0 high) refl

half : (a : ℕ) → (0x4000 + 2 * a - 0x4000) / 2 ≡ a
half a = omega arith

half_odd : (a : ℕ) → (0x4000 + 2 * a + 1 - 0x4000) / 2 ≡ a
half_odd a = omega arith

even_low : (w a : ℕ) → byte_of w (0x4000 + 2 * a) ≡ w % 256
even_low w a = rw (eq-eqb ((0x4000 + 2 * a) % 2) 0 (omega arith)) refl

odd_high : (w a : ℕ) → byte_of w (0x4000 + 2 * a + 1) ≡ w / 256
odd_high w a = rw (ne_eqb ((0x4000 + 2 * a + 1) % 2) 0 (omega arith)) refl

both_halves : (w : ℕ) → w % 256 + 256 * (w / 256) ≡ w
both_halves w = omega arith

-- the word at an address of the code
pub word_at : (words vectors : List ℕ) (a : ℕ) → a < length words → length words ≤ 24560 → word_in (image_map words vectors) (0x4000 + 2 * a) ≡ get_or words a 0
word_at words vectors a lt few =
    let low : image_map words vectors (0x4000 + 2 * a) ≡ get_or words a 0 % 256 =
    in_code words vectors (0x4000 + 2 * a) (omega arith) (omega arith) ∙ ap (λ (k : ℕ). byte_of (get_or words k 0) (0x4000 + 2 * a)) (half a) ∙ even_low (get_or words a 0) a in
    let high : image_map words vectors (0x4000 + 2 * a + 1) ≡ get_or words a 0 / 256 =
    in_code words vectors (0x4000 + 2 * a + 1) (omega arith) (omega arith) ∙ ap (λ (k : ℕ). byte_of (get_or words k 0) (0x4000 + 2 * a + 1)) (half_odd a) ∙ odd_high (get_or words a 0) a in
    rw (low, high) (both_halves (get_or words a 0))

-- three words that begin with some
three : (x y z : ℕ) (ws : List ℕ) → length ws ≤ 3 → (0 < length ws → x ≡ get_or ws 0 0) → (1 < length ws → y ≡ get_or ws 1 0) → (2 < length ws → z ≡ get_or ws 2 0) → (rest : List ℕ) × (x ∷ y ∷ z ∷ [] ≡ ws ++ rest)
three x y z [] le a b c = (x ∷ y ∷ z ∷ [], refl)
three x y z (p ∷ []) le a b c = (y ∷ z ∷ [], rw (a (omega arith)) refl)
three x y z (p ∷ q ∷ []) le a b c = (z ∷ [], rw (a (omega arith), b (omega arith)) refl)
three x y z (p ∷ q ∷ r ∷ []) le a b c = ([], rw (a (omega arith), b (omega arith), c (omega arith)) refl)
three x y z (p ∷ q ∷ r ∷ s ∷ ws) le a b c = absurd (omega arith)

one_word : (i : Instr) → 0 < length (encoded i)
one_word (instr.Two op byte x y) = omega arith
one_word (instr.One op byte x) = omega arith
one_word (instr.Jump c k) = omega arith
one_word instr.Reti = omega arith

-- addresses rise with the bytes before them
up_from : (base a b : ℕ) → a ≤ b → 0x4000 + (base + a) ≤ 0x4000 + (base + b)
up_from base a b h = omega arith

module _ (words vectors : List ℕ) (few : length words ≤ 24560) where
  -- the words of an instruction
  instr_at : (i : Instr) (is : List Instr) (at : ℕ) → StandIn words at (i ∷ is) → (j : ℕ) → j < length (encoded i) → word_in (image_map words vectors) (0x4000 + 2 * (at + j)) ≡ get_or (encoded i) j 0
  instr_at i is at s j lt =
      word_at words vectors (at + j) (omega (arith, s.within, length-append (encoded i) (words_of is))) few
      ∙ s.same j (omega (arith, length-append (encoded i) (words_of is))) ∙ get_or_append_left (encoded i) (words_of is) 0 j lt

  words_from : (pc at j : ℕ) (image : ℕ → ℕ) (w : ℕ) → pc ≡ 0x4000 + 2 * at → word_in image (0x4000 + 2 * (at + j)) ≡ w → word_in image (pc + 2 * j) ≡ w
  words_from pc at j image w p e = let h : pc + 2 * j ≡ 0x4000 + 2 * (at + j) = omega arith in rw h e

  first_at : (i : Instr) (is : List Instr) (at pc : ℕ) → StandIn words at (i ∷ is) → pc ≡ 0x4000 + 2 * at → IsAt (image_map words vectors) pc i
  first_at i is at pc s p =
      let within : at + length (encoded i) ≤ length words = omega (arith, s.within, length-append (encoded i) (words_of is)) in
      let w = three (word_in (image_map words vectors) pc) (word_in (image_map words vectors) (pc + 2)) (word_in (image_map words vectors) (pc + 4)) (encoded i) (three_words i)
      (λ lt. let e : pc ≡ 0x4000 + 2 * (at + 0) = omega arith in rw e (instr_at i is at s 0 lt))
      (λ lt. let e : pc + 2 ≡ 0x4000 + 2 * (at + 1) = omega arith in rw e (instr_at i is at s 1 lt))
      (λ lt. let e : pc + 4 ≡ 0x4000 + 2 * (at + 2) = omega arith in rw e (instr_at i is at s 2 lt)) in
      record { even = omega arith; low = omega arith; high = omega (arith, one_word i); written = s.written.0; rest = w.0; words = w.1 }

  rest_stand : (i : Instr) (is : List Instr) (at : ℕ) → StandIn words at (i ∷ is) → StandIn words (at + length (encoded i)) is
  rest_stand i is at s = record {
    written = s.written.1;
    within = omega (arith, s.within, length-append (encoded i) (words_of is));
    same = λ j lt.
        let e : at + length (encoded i) + j ≡ at + (length (encoded i) + j) = omega arith in
        rw e (s.same (length (encoded i) + j) (omega (arith, length-append (encoded i) (words_of is))) ∙ get_or-append-add (encoded i) (words_of is) j 0);
  }

  pub stand_at : (is : List Instr) (at pc end : ℕ) → StandIn words at is → pc ≡ 0x4000 + 2 * at → end ≡ 0x4000 + 2 * (at + length (words_of is)) → AreAt (image_map words vectors) pc is end
  stand_at [] at pc end s p e = omega arith
  stand_at (i ∷ is) at pc end s p e =
      (first_at i is at pc s p, stand_at is (at + length (encoded i)) (pc + 2 * length (encoded i)) end (rest_stand i is at s) (omega arith) (omega (arith, length-append (encoded i) (words_of is))))

  same_target : (entries : ℕ → ℕ) (items : List Item) (long : Bool) (pc before : ℕ) (sizes : List ℕ) (it : Item) (t u : ℕ) → ((l : ℕ) (c : Cond) → it ≡ item.Jump c l → StandsOnce items l) → LeadsTo items it t → LeadsTo items it u →
      instructions entries long pc (0x4000 + (before + place sizes t)) it ≡ instructions entries long pc (0x4000 + (before + place sizes u)) it
  same_target entries items long pc before sizes (item.Is i) t u once a b = refl
  same_target entries items long pc before sizes (item.Label l) t u once a b = refl
  same_target entries items long pc before sizes (item.CallFn f) t u once a b = refl
  same_target entries items long pc before sizes (item.AddrOf f r) t u once a b = refl
  same_target entries items long pc before sizes (item.Jump c l) t u once a b =
      let o = once l c refl in
      let e : t ≡ u = o.once t a ∙ sym (o.once u b) in
      rw e refl

  one_item : (entries : ℕ → ℕ) (items : List Item) (sizes targets : List ℕ) (before k t at : ℕ) → IsCorrect items sizes → k < length items → LeadsTo items (item_at items k) t → LeadsTo items (item_at items k) (get_or targets k 0) →
      ((l : ℕ) (c : Cond) → item_at items k ≡ item.Jump c l → StandsOnce items l) → 2 * at ≡ before + place sizes k → StandIn words at (formed_item entries items sizes targets before k) →
      AreAt (image_map words vectors) (0x4000 + (before + place sizes k)) (instructions entries (is_long (get_or sizes k 0)) (0x4000 + (before + place sizes k)) (0x4000 + (before + place sizes t)) (item_at items k)) (0x4000 + (before + place sizes (k + 1)))
  one_item entries items sizes targets before k t at is lt a b once e s =
      rw (same_target entries items (is_long (get_or sizes k 0)) (0x4000 + (before + place sizes k)) before sizes (item_at items k) t (get_or targets k 0) once a b)
      (stand_at (formed_item entries items sizes targets before k) at (0x4000 + (before + place sizes k)) (0x4000 + (before + place sizes (k + 1))) s (omega arith)
      (omega (arith, place_more sizes k (omega (arith, is.len)), item_bytes entries (0x4000 + (before + place sizes k)) (0x4000 + (before + place sizes (get_or targets k 0))) (get_or sizes k 0) (item_at items k) (is.each k lt))))

  pub laid_of : (entries : ℕ → ℕ) (code : List CodeFn) (forms : List Formed) → AreGoodFns code → AreFormed code forms (length code) → FnsStand entries code forms words (length code) →
      ((f : ℕ) → f < length code → 0x4000 + entry_of (all_sizes forms) f ≡ entries f) → (laid : IsLaid (image_map words vectors) code entries) × AreInOrder code laid.places
  laid_of entries code [] good formed stand es = (
    record {
      places = λ f k. 0;
      long = λ f k. false;
      entry = λ f lt. absurd (omega (arith, formed.len));
      stands = λ f k t lt klt leads. absurd (omega (arith, formed.len));
    },
    record {
      items = λ f k lt klt. absurd (omega (arith, formed.len));
      functions = λ f lt. absurd (omega (arith, formed.len));
    },
  )
  laid_of entries code (x ∷ xs) good formed stand es = (
    record {
      places = λ f k. 0x4000 + (entry_of (all_sizes (x ∷ xs)) f + place (get_or (x ∷ xs) f x).sizes.items k);
      long = λ f k. is_long (get_or (get_or (x ∷ xs) f x).sizes.items k 0);
      entry = λ f lt. omega (arith, es f lt);
      stands = λ f k t lt klt leads.
          let is = formed.each f x lt in
          let s = stand f x lt k klt in
          one_item entries (items_of code f) (get_or (x ∷ xs) f x).sizes.items (get_or (x ∷ xs) f x).targets.items (entry_of (all_sizes (x ∷ xs)) f) k t s.0 is.shortest.correct klt leads (is.targets.lead k klt) ((good f lt).labels k) s.1 s.2;
    },
    record {
      items = λ f k lt klt. up_from (entry_of (all_sizes (x ∷ xs)) f) (place (get_or (x ∷ xs) f x).sizes.items k) (place (get_or (x ∷ xs) f x).sizes.items (suc k)) (place_up (get_or (x ∷ xs) f x).sizes.items k (suc k) (omega arith));
      functions = λ f lt. omega (arith, entry_next (x ∷ xs) f x (omega (arith, formed.len)), place_le (get_or (x ∷ xs) f x).sizes.items (length (items_of code f)));
    },
  )

pub all_words : (xs : List ℕ) → ((i : ℕ) → get_or xs i 0 < 0x10000) → AllByRecursion (λ w. w < 0x10000) xs
all_words [] h = tt
all_words (x ∷ xs) h = (h 0, all_words xs (λ i. h (suc i)))

pub shortest_of : (code : List CodeFn) (forms : List Formed) → AreFormed code forms (length code) → AreShortest code (all_sizes forms)
shortest_of code [] formed = record { len = formed.len; each = λ f lt. absurd (omega (arith, formed.len)) }
shortest_of code (x ∷ xs) formed = record {
  len = length-map (x ∷ xs) (λ (form : Formed). form.sizes.items) ∙ formed.len;
  each = λ f lt. rw (get_or-map (λ (form : Formed). form.sizes.items) (x ∷ xs) f x [] (omega (arith, formed.len))) (formed.each f x lt).shortest;
}
