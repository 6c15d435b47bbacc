-- A byte, a word or two words are written to a local in the frame.
use Rattle.std.proofs.Common.{◌≡◌, ◌≢◌, ℕ, ◌+◌, ◌/◌, ◌%◌, ◌<◌, ◌≤◌, Bool, true, List, [], length, Option, Some, None, refl, sym, ap, ◌∙◌, subst, ⊎_elim, arith, get_or-set_same, get_or-set_other}
use Rattle.std.specs.Prelude.{slice_get, slice_index, slice_index_or, slice_set, if◌then◌else◌}
use Rattle.std.proofs.lemmas.List.{length-set, set-set}
use Rattle.std.proofs.lemmas.Bool.{lt-ltb}
use Rattle.std.proofs.lemmas.Bool.Decides.{eqb_tells}
use Rattle.nesc_core.specs.Plain.{Ty, void, Program}
use Rattle.core_meaning.specs.Layout.{size_of}
use Rattle.core_meaning.specs.Work.{Locals}
use Rattle.mid_code.specs.Machine.{put, poke_byte, poked}
use Rattle.mid_code.proofs.Written.{put_same, put_other}
use Rattle.lower_expr.specs.declared.spot.Spot.{Spot}
use Rattle.lower_expr.specs.declared.spot.Spot.TheVariants.{Values, Frame}
use Rattle.lower_expr.specs.Locals.{HasBytes, Holds, LieApart, LocalIsHeld}
use Rattle.lower_expr.proofs.Kept.{bytes_set}

module _ (p : Program) (types : List Ty) (spots : List Spot) (base size : ℕ) (lie : LieApart p types spots size) where
  abbrev type_of : ℕ → Ty
  type_of x = slice_index_or types x void

  abbrev size_at : ℕ → ℕ
  size_at x = size_of p (type_of x)

  -- bytes of another local stay
  other_stays : (spot : Option Spot) (x y from o byte : ℕ) (bytes : List ℕ) (values frame : ℕ → ℕ) → slice_get spots x ≡ spot → x < length types → y < length types → x ≢ y →
      slice_get spots y ≡ Some (Frame from) → o < size_at y →
      LocalIsHeld base spot (type_of x) (size_at x) bytes values frame → LocalIsHeld base spot (type_of x) (size_at x) bytes values (put frame (from + o) byte)
  other_stays None x y from o byte bytes values frame is lx ly differ spot lt h = h
  other_stays (Some (Values regs)) x y from o byte bytes values frame is lx ly differ spot lt h = h
  other_stays (Some (Frame other)) x y from o byte bytes values frame is lx ly differ spot lt h = λ i inside.
      put_other frame (from + o) byte (other + i) (λ e. ⊎_elim (λ le. omega (arith, le, inside, lt, e)) (λ le. omega (arith, le, inside, lt, e)) (lie.apart x y other from lx ly differ is spot)) ∙ h i inside

  own_byte : (from o byte : ℕ) (bytes : List ℕ) (count : ℕ) (frame : ℕ → ℕ) → length bytes ≡ count → ((i : ℕ) → i < count → frame (from + i) ≡ slice_index bytes i) →
      (i : ℕ) → i < count → put frame (from + o) byte (from + i) ≡ slice_index (slice_set bytes o byte) i
  own_byte from o byte bytes count frame many h i inside = ⊎_elim
      (λ t. let same = t.1 in
      ap (put frame (from + o) byte) (let q : from + i ≡ from + o = omega (arith, same) in q) ∙ put_same frame (from + o) byte
      ∙ sym (ap (slice_index (slice_set bytes o byte)) same ∙ get_or-set_same bytes o byte 0 (omega (arith, same, inside, many))))
      (λ t. put_other frame (from + o) byte (from + i) (λ e. t.1 (omega (arith, e))) ∙ h i inside ∙ sym (get_or-set_other bytes o i byte 0 t.1))
      (eqb_tells i o)

  pub byte_written : (y from o byte : ℕ) (env : Locals) (values frame : ℕ → ℕ) → y < length types → slice_get spots y ≡ Some (Frame from) → o < size_at y → byte < 256 →
      Holds p types spots base env values frame → Holds p types spots base (slice_set env y (slice_set (slice_index_or env y []) o byte)) values (put frame (from + o) byte)
  byte_written y from o byte env values frame ly spot lt small h =
      let many = h.count in
      let inside : y < length env = omega (arith, ly, many) in
      let old : List ℕ = slice_index_or env y [] in
      let new : List ℕ = slice_set old o byte in
      let sized = h.bytes y ly in
      let local : LocalIsHeld base (Some (Frame from)) (type_of y) (size_at y) old values frame = subst (λ s. LocalIsHeld base s (type_of y) (size_at y) old values frame) spot (h.at y ly) in
      let written : LocalIsHeld base (slice_get spots y) (type_of y) (size_at y) new values (put frame (from + o) byte) =
      subst (λ s. LocalIsHeld base s (type_of y) (size_at y) new values (put frame (from + o) byte)) (sym spot) (own_byte from o byte old (size_at y) frame sized.length_is local) in
      record {
        at = λ x below. ⊎_elim
            (λ t. subst (λ u. LocalIsHeld base (slice_get spots u) (type_of u) (size_at u) (slice_index_or (slice_set env y new) u []) values (put frame (from + o) byte)) (sym t.1)
            (subst (λ l. LocalIsHeld base (slice_get spots y) (type_of y) (size_at y) l values (put frame (from + o) byte)) (sym (get_or-set_same env y new [] inside)) written))
            (λ t. subst (λ l. LocalIsHeld base (slice_get spots x) (type_of x) (size_at x) l values (put frame (from + o) byte)) (sym (get_or-set_other env y x new [] t.1))
            (other_stays (slice_get spots x) x y from o byte (slice_index_or env x []) values frame refl below ly t.1 spot lt (h.at x below)))
            (eqb_tells x y);
        bytes = λ x below. ⊎_elim
            (λ t. subst (λ u. HasBytes (size_at u) (slice_index_or (slice_set env y new) u [])) (sym t.1)
            (subst (λ l. HasBytes (size_at y) l) (sym (get_or-set_same env y new [] inside)) (bytes_set (size_at y) old o byte small sized)))
            (λ t. subst (λ l. HasBytes (size_at x) l) (sym (get_or-set_other env y x new [] t.1)) (h.bytes x below))
            (eqb_tells x y);
        count = let same_length = length-set env y new in omega (arith, many, same_length);
        apart = h.apart;
      }

  -- a write inside of the frame
  poke_inside : (frame : ℕ → ℕ) (o x : ℕ) → o < size → poke_byte size frame o x ≡ put frame o x
  poke_inside frame o x lt = ap (λ (b : Bool). if b then put frame o x else frame) (lt-ltb o size lt)

  pub byte_poked : (y from o q x : ℕ) (env : Locals) (values frame : ℕ → ℕ) → y < length types → slice_get spots y ≡ Some (Frame from) → o < size_at y → q ≡ from + o → x < 256 →
      Holds p types spots base env values frame → Holds p types spots base (slice_set env y (slice_set (slice_index_or env y []) o x)) values (poke_byte size frame q x)
  byte_poked y from o q x env values frame ly spot lt place small h =
      let fits = lie.inside y from ly spot in
      subst (λ g. Holds p types spots base (slice_set env y (slice_set (slice_index_or env y []) o x)) values g)
      (sym (ap (λ u. poke_byte size frame u x) place ∙ poke_inside frame (from + o) x (omega (arith, fits, lt))))
      (byte_written y from o x env values frame ly spot lt small h)

  pub word_poked : (y from o q m : ℕ) (env : Locals) (values frame : ℕ → ℕ) → y < length types → slice_get spots y ≡ Some (Frame from) → o + 2 ≤ size_at y → q ≡ from + o → m < 65536 →
      Holds p types spots base env values frame →
      Holds p types spots base (slice_set env y (slice_set (slice_set (slice_index_or env y []) o (m % 256)) (o + 1) (m / 256))) values (poked true size frame q m)
  word_poked y from o q m env values frame ly spot lt place small h =
      let many = h.count in
      let inside : y < length env = omega (arith, ly, many) in
      let bytes : List ℕ = slice_index_or env y [] in
      let first : List ℕ = slice_set bytes o (m % 256) in
      let one = byte_poked y from o q (m % 256) env values frame ly spot (omega (arith, lt)) place (omega arith) h in
      let two = byte_poked y from (o + 1) (q + 1) (m / 256) (slice_set env y first) values (poke_byte size frame q (m % 256)) ly spot (omega (arith, lt)) (omega (arith, place)) (omega (arith, small)) one in
      subst (λ e. Holds p types spots base e values (poked true size frame q m))
      (ap (λ l. slice_set (slice_set env y first) y (slice_set l (o + 1) (m / 256))) (get_or-set_same env y first [] inside)
      ∙ set-set env y first (slice_set first (o + 1) (m / 256))) two
