-- Places of the frame: what is known of the value that leads to one, and code that finds, peeks and pokes it.
use Rattle.std.proofs.Common.{◌≡◌, ◌≢◌, ℕ, zero, suc, ◌+◌, ◌*◌, ◌/◌, ◌%◌, ◌^◌, ◌<◌, ◌≤◌, ◌==◌, Bool, true, false, List, [], ◌∷◌, refl, sym, ap, ◌∙◌, subst, arith, eqb-true}
use Rattle.std.specs.Prelude.{if◌then◌else◌}
use Rattle.std.proofs.Math.Nat.{mul-le-mul_right}
use Rattle.std.proofs.lemmas.Bool.{ltb-true}
use Rattle.std.proofs.lemmas.Bool.Decides.{nat_tests}
use Rattle.nm_base.specs.declared.int_type.IntType.{IntType}
use Rattle.nm_base.specs.declared.int_type.IntType.TheVariants.{I8, U8, I16, U16, I32, U32}
use Rattle.nesc_core.specs.declared.layout.Layout.{Layout}
use Rattle.nesc_core.specs.Plain.{Ty, void, int, pointer, array, struct, Field}
use Rattle.nesc_core.specs.Size.{layout, layout_of}
use Rattle.nesc_core.specs.Typing.{IsScalar}
use Rattle.core_meaning.specs.Work.{number_of}
use Rattle.mid_code.specs.declared.instr.Op.TheVariants.{Add}
use Rattle.mid_code.specs.declared.instr.Test.TheVariants.{LtU, Ne}
use Rattle.mid_code.specs.declared.instr.Mid.{Mid}
use Rattle.mid_code.specs.declared.instr.Mid.TheVariants.{Set, Bin, Peek, Poke, Label, Branch, Help, Fault}
use Rattle.mid_code.specs.declared.help.HelpOp.TheVariants.{Mul}
use Rattle.mid_code.specs.declared.code.MidCode.{MidCode}
use Rattle.mid_code.specs.Help.{is_wide, number_of_help}
use Rattle.mid_code.specs.Machine.{put, put_all}
use Rattle.mid_code.proofs.Written.{put_other, put_same}
use Rattle.lower_expr.specs.Pieces.{bound_code, element_code, index_bound, scaled_code}
use Rattle.lower_expr.specs.Code.{InFrame, peek_code, poke_code, sign_code}
use Rattle.source_accesses.proofs.Aligned.{Suits, product-suits, sum-suits}
use Rattle.source_accesses.proofs.Parts.{IsPartOf}
use Rattle.lower_keeps.proofs.Safe.{IsInside, IsKnown, IsStable, Leads, MayGo, leads_on, no_code, quiet}
use Rattle.lower_keeps.proofs.Forms.{sign_quiet}
use Rattle.lower_keeps.proofs.Known.{IsFound}

-- ---- arithmetic

scaled_small : (x count size most : ℕ) → x < count → size * count ≤ most → x * size + size ≤ size * count
scaled_small x count size most lt le =
    let all : size * (x + 1) ≤ size * count = times size (x + 1) count (omega (arith, lt)) in omega (arith, all)
  where
    times : (s m n : ℕ) → m ≤ n → s * m ≤ s * n
    times s m n le = omega (arith, mul-le-mul_right {m = m} {n = n} s le)

some_count : (x count size : ℕ) → x < count → size ≤ size * count
some_count x zero size lt = absurd (omega (arith, lt))
some_count x (suc n) size lt = omega arith

some_product : (count size : ℕ) → 0 < size → count ≤ size * count
some_product count zero some = absurd (omega (arith, some))
some_product count (suc n) some = omega arith

pub index_bound_le : (t : IntType) (count : ℕ) → index_bound t count ≤ count
index_bound_le I8 count = grind (arith, nat_tests)
index_bound_le U8 count = grind (arith, nat_tests)
index_bound_le I16 count = grind (arith, nat_tests)
index_bound_le U16 count = grind (arith, nat_tests)
index_bound_le I32 count = grind (arith, nat_tests)
index_bound_le U32 count = grind (arith, nat_tests)

module _ (code : MidCode) (limit tasks : ℕ) (small : limit ≤ 65535) (at_label : ℕ → (ℕ → ℕ) → Type 0) (base : ℕ) where
  abbrev L : ((ℕ → ℕ) → Type 0) → ((ℕ → ℕ) → Type 0) → List Mid → Type 0
  L P Q c = Leads code limit tasks at_label P Q c

  abbrev Stable : ℕ → ((ℕ → ℕ) → Type 0) → Type 0
  Stable s P = IsStable code limit tasks at_label base s P

  inside_at : (w : Bool) (l : Layout) (x y : ℕ) → y ≡ x → (w ≡ true → l ≡ layout 2 2) → (w ≡ false → l ≡ layout 1 1) → IsFound limit InFrame l x → IsInside code limit tasks at_label w y
  inside_at true l x y same wide narrow found =
      let at : IsFound limit InFrame (layout 2 2) x = subst (λ l. IsFound limit InFrame l x) (wide refl) found in
      let h = at (omega arith) in
      subst (λ z. IsInside code limit tasks at_label true z) (sym same) (h.0, h.1 refl)
  inside_at false l x y same wide narrow found =
      let at : IsFound limit InFrame (layout 1 1) x = subst (λ l. IsFound limit InFrame l x) (narrow refl) found in
      let h = at (omega arith) in
      subst (λ z. IsInside code limit tasks at_label false z) (sym same) (h.0, tt)

  -- ---- peeks

  module _ (P Q : (ℕ → ℕ) → Type 0) (s : ℕ) (stable : Stable s Q) (go : (values : ℕ → ℕ) → P values → Q values) where
    peek_narrow : (w : Bool) (l : Layout) (t : IntType) (d r : ℕ) → s ≤ d → (w ≡ true → l ≡ layout 2 2) → (w ≡ false → l ≡ layout 1 1) →
        ((values : ℕ → ℕ) → P values → IsFound limit InFrame l (values r)) → L P Q (Peek w d r ∷ sign_code t d)
    peek_narrow w l t d r le wide narrow found = record {
      over = λ u st k.
          let n = (quiet code limit tasks at_label base s Q stable (sign_code t d) (sign_quiet code limit tasks at_label base s Q t d le)).over u st k in
          (n.0, λ values p. (inside_at w l (values r) (values r) refl wide narrow (found values p), λ m. n.1 (put values d m) (stable.written d m values (λ lt. omega (arith, lt, le)) (go values p))));
    }

    peek_wide : (d r : ℕ) → s ≤ d → r ≢ d + 1 → ((values : ℕ → ℕ) → P values → IsFound limit InFrame (layout 4 2) (values r)) →
        L P Q (Set (d + 1) 2 ∷ Bin Add (d + 1) r (d + 1) ∷ Peek true d r ∷ Peek true (d + 1) (d + 1) ∷ [])
    peek_wide d r le apart found = record {
      over = λ u st k. (
        st,
        λ values p.
            let h = found values p (omega arith) in
            let v1 : ℕ → ℕ = put values (d + 1) 2 in
            let x : ℕ = (v1 r + v1 (d + 1)) % 65536 in
            let v2 : ℕ → ℕ = put v1 (d + 1) x in
            let own1 : v1 (d + 1) ≡ 2 = put_same values (d + 1) 2 in
            let there1 : v1 r ≡ values r = put_other values (d + 1) 2 r apart in
            let there2 : v2 r ≡ values r = put_other v1 (d + 1) x r apart ∙ there1 in
            let room = h.0 in
            let even = h.1 refl in
            let sum : x ≡ values r + 2 = omega (arith, own1, there1, room, small) in (
              subst (λ z. IsInside code limit tasks at_label true z) (sym there2) (omega (arith, room), even),
              λ n.
                  let own2 : put v2 d n (d + 1) ≡ values r + 2 = put_other v2 d n (d + 1) (λ e. omega (arith, e)) ∙ put_same v1 (d + 1) x ∙ sum in (
                    subst (λ z. IsInside code limit tasks at_label true z) (sym own2) (omega (arith, room), omega (arith, even)),
                    λ m. k (put (put v2 d n) (d + 1) m) (stable.written (d + 1) m (put v2 d n) (λ lt. omega (arith, lt, le))
                        (stable.written d n v2 (λ lt. omega (arith, lt, le)) (stable.written (d + 1) x v1 (λ lt. omega (arith, lt, le)) (stable.written (d + 1) 2 values (λ lt. omega (arith, lt, le)) (go values p))))),
                  ),
            ),
      );
    }

    pub peek_leads : (structs : List (List Field)) (ty : Ty) → IsScalar ty → (d r : ℕ) → s ≤ d → r ≢ d + 1 → ((values : ℕ → ℕ) → P values → IsFound limit InFrame (layout_of structs ty) (values r)) →
        L P Q (peek_code (number_of ty) d r)
    peek_leads structs void is d r le apart found = absurd is
    peek_leads structs (int I8) is d r le apart found = peek_narrow false (layout 1 1) I8 d r le (λ e. absurd (cc)) (λ e. refl) found
    peek_leads structs (int U8) is d r le apart found = peek_narrow false (layout 1 1) U8 d r le (λ e. absurd (cc)) (λ e. refl) found
    peek_leads structs (int I16) is d r le apart found = peek_narrow true (layout 2 2) I16 d r le (λ e. refl) (λ e. absurd (cc)) found
    peek_leads structs (int U16) is d r le apart found = peek_narrow true (layout 2 2) U16 d r le (λ e. refl) (λ e. absurd (cc)) found
    peek_leads structs (int I32) is d r le apart found = peek_wide d r le apart found
    peek_leads structs (int U32) is d r le apart found = peek_wide d r le apart found
    peek_leads structs (pointer t) is d r le apart found = peek_narrow true (layout 2 2) U16 d r le (λ e. refl) (λ e. absurd (cc)) found
    peek_leads structs (array t n) is d r le apart found = absurd is
    peek_leads structs (struct j) is d r le apart found = absurd is

    -- ---- pokes

    poke_narrow : (w : Bool) (l : Layout) (v r : ℕ) → (w ≡ true → l ≡ layout 2 2) → (w ≡ false → l ≡ layout 1 1) → ((values : ℕ → ℕ) → P values → IsFound limit InFrame l (values r)) → L P Q (Poke w v r ∷ [])
    poke_narrow w l v r wide narrow found = record { over = λ u st k. (st, λ values p. (inside_at w l (values r) (values r) refl wide narrow (found values p), k values (go values p))) }

    poke_wide : (v r : ℕ) → s ≤ r → ((values : ℕ → ℕ) → P values → IsFound limit InFrame (layout 4 2) (values r)) →
        L P Q (Poke true v r ∷ Set (r + 1) 2 ∷ Bin Add (r + 1) r (r + 1) ∷ Poke true (v + 1) (r + 1) ∷ [])
    poke_wide v r le found = record {
      over = λ u st k. (
        st,
        λ values p.
            let h = found values p (omega arith) in
            let v1 : ℕ → ℕ = put values (r + 1) 2 in
            let x : ℕ = (v1 r + v1 (r + 1)) % 65536 in
            let v2 : ℕ → ℕ = put v1 (r + 1) x in
            let own1 : v1 (r + 1) ≡ 2 = put_same values (r + 1) 2 in
            let there1 : v1 r ≡ values r = put_other values (r + 1) 2 r (λ e. omega (arith, e)) in
            let room = h.0 in
            let even = h.1 refl in
            let own2 : v2 (r + 1) ≡ values r + 2 = put_same v1 (r + 1) x ∙ omega (arith, own1, there1, room, small) in (
              (omega (arith, room), even),
              (
                subst (λ z. IsInside code limit tasks at_label true z) (sym own2) (omega (arith, room), omega (arith, even)),
                k v2 (stable.written (r + 1) x v1 (λ lt. omega (arith, lt, le)) (stable.written (r + 1) 2 values (λ lt. omega (arith, lt, le)) (go values p))),
              ),
            ),
      );
    }

    pub poke_leads : (structs : List (List Field)) (ty : Ty) → IsScalar ty → (v r : ℕ) → s ≤ r → ((values : ℕ → ℕ) → P values → IsFound limit InFrame (layout_of structs ty) (values r)) →
        L P Q (poke_code (number_of ty) v r)
    poke_leads structs void is v r le found = absurd is
    poke_leads structs (int I8) is v r le found = poke_narrow false (layout 1 1) v r (λ e. absurd (cc)) (λ e. refl) found
    poke_leads structs (int U8) is v r le found = poke_narrow false (layout 1 1) v r (λ e. absurd (cc)) (λ e. refl) found
    poke_leads structs (int I16) is v r le found = poke_narrow true (layout 2 2) v r (λ e. refl) (λ e. absurd (cc)) found
    poke_leads structs (int U16) is v r le found = poke_narrow true (layout 2 2) v r (λ e. refl) (λ e. absurd (cc)) found
    poke_leads structs (int I32) is v r le found = poke_wide v r le found
    poke_leads structs (int U32) is v r le found = poke_wide v r le found
    poke_leads structs (pointer t) is v r le found = poke_narrow true (layout 2 2) v r (λ e. refl) (λ e. absurd (cc)) found
    poke_leads structs (array t n) is v r le found = absurd is
    poke_leads structs (struct j) is v r le found = absurd is

  -- ---- a field

  pub field_leads : (P : (ℕ → ℕ) → Type 0) (r offset : ℕ) (whole part : Layout) → Stable r P → IsPartOf whole part offset → part.align ≤ 2 → whole.align ≤ 2 →
      L (λ values. P values × IsFound limit InFrame whole (values r)) (λ values. P values × IsFound limit InFrame part (values r)) (Set (r + 2) offset ∷ Bin Add r r (r + 2) ∷ [])
  field_leads P r offset whole part stable of least most = record {
    over = λ u st k. (
      st,
      λ values p.
          let v1 : ℕ → ℕ = put values (r + 2) offset in
          let x : ℕ = (v1 r + v1 (r + 2)) % 65536 in
          let own1 : v1 (r + 2) ≡ offset = put_same values (r + 2) offset in
          let there1 : v1 r ≡ values r = put_other values (r + 2) offset r (λ e. omega (arith, e)) in
          let own : put v1 r x r ≡ x = put_same v1 r x in
          let found : IsFound limit InFrame part (put v1 r x r) = (λ some.
          let ends = of.ends in
          let aligns = of.aligns in
          let h = p.1 (omega (arith, some, ends)) in
          let room = h.0 in
          let sum : put v1 r x r ≡ values r + offset = own ∙ omega (arith, own1, there1, room, ends, small, some) in
          let suits : Suits part.align (values r + offset) = sum-suits part.align (values r) offset (λ e. h.1 (omega (arith, e, aligns, most))) of.suits in
          (omega (arith, sum, room, ends), subst (Suits part.align) (sym sum) suits)) in
          k (put v1 r x) (stable.written r x v1 (λ lt. omega (arith, lt)) (stable.written (r + 2) offset values (λ lt. omega (arith, lt)) p.0), found),
    );
  }

  -- ---- an element

  module _ (P : (ℕ → ℕ) → Type 0) (r size count align : ℕ) (stable : Stable r P) where
    abbrev Whole : (ℕ → ℕ) → Type 0
    Whole values = P values × IsFound limit InFrame (layout (size * count) align) (values r)

    abbrev pub IsBelow : ℕ → Type 0
    IsBelow x = 0 < size → x < count

    abbrev IsScaled : ℕ → Type 0
    IsScaled y = 0 < size → (i : ℕ) × (i < count) × (y ≡ i * size)

    whole_stable : (v n : ℕ) (values : ℕ → ℕ) → r + 2 ≤ v → Whole values → Whole (put values v n)
    whole_stable v n values le p =
        let there : put values v n r ≡ values r = put_other values v n r (λ e. omega (arith, e, le)) in
        (stable.written v n values (λ lt. omega (arith, lt, le)) p.0, subst (IsFound limit InFrame (layout (size * count) align)) (sym there) p.1)

    fits : (values : ℕ → ℕ) (x : ℕ) → Whole values → 0 < size → x < count → size * count ≤ 65535
    fits values x p some lt =
        let least = some_count x count size lt in
        let h = p.1 (omega (arith, some, least)) in
        let room = h.0 in
        omega (arith, room, small)

    few : (values : ℕ → ℕ) → Whole values → 0 < size → count ≤ 65535
    few values p some = by count refl
      where
        by : (n : ℕ) → count ≡ n → count ≤ 65535
        by zero e = omega (arith, e)
        by (suc n) e = let most = fits values 0 p some (omega (arith, e)) in let least = some_product count size some in omega (arith, most, least)

    bound_leads : (wide : Bool) (bound l : ℕ) → bound ≤ count → IsKnown code limit tasks at_label l (λ values. Whole values × IsBelow (values (r + 2))) → IsKnown code limit tasks at_label (l + 1) Whole →
        L Whole (λ values. Whole values × IsBelow (values (r + 2))) (bound_code wide bound r l)
    bound_leads false bound l le at next = by (bound == 65536) refl
      where
        by : (b : Bool) → (bound == 65536) ≡ b → L Whole (λ values. Whole values × IsBelow (values (r + 2))) (if b then [] else Set (r + 4) bound ∷ Branch LtU (r + 2) (r + 4) l ∷ Fault 1 ∷ Label l ∷ [])
        by true e =
            no_code code limit tasks at_label Whole (λ values. Whole values × IsBelow (values (r + 2)))
            (λ values p. (p, λ some. absurd (let same : bound ≡ 65536 = eqb-true bound 65536 e in let most = few values p some in omega (arith, same, most, le))))
        by false e = record {
          over = λ u st k. (
            ((λ values h. k values (at.out values h)), st),
            λ values p.
                let v1 : ℕ → ℕ = put values (r + 4) bound in (
                  (λ t.
                      let lt : v1 (r + 2) < v1 (r + 4) = ltb-true (v1 (r + 2)) (v1 (r + 4)) t in
                      let own : v1 (r + 4) ≡ bound = put_same values (r + 4) bound in
                      at.into v1 (whole_stable (r + 4) bound values (omega arith) p, λ some. omega (arith, lt, own, le))),
                  (λ t. tt),
                ),
          );
        }
    bound_leads true bound l le at next = by (bound == 4294967296) refl
      where
        by : (b : Bool) → (bound == 4294967296) ≡ b → L Whole (λ values. Whole values × IsBelow (values (r + 2)))
            (if b then [] else Set (r + 4) (bound / 65536) ∷ Branch LtU (r + 3) (r + 4) l ∷ Branch Ne (r + 3) (r + 4) (l + 1) ∷ Set (r + 4) (bound % 65536) ∷ Branch LtU (r + 2) (r + 4) l ∷ Label (l + 1) ∷ Fault 1 ∷ Label l ∷ [])
        by true e =
            no_code code limit tasks at_label Whole (λ values. Whole values × IsBelow (values (r + 2)))
            (λ values p. (p, λ some. absurd (let same : bound ≡ 4294967296 = eqb-true bound 4294967296 e in let most = few values p some in omega (arith, same, most, le))))
        by false e = record {
          over = λ u st k. (
            ((λ values h. tt), ((λ values h. k values (at.out values h)), st)),
            λ values p.
                let v1 : ℕ → ℕ = put values (r + 4) (bound / 65536) in
                let p1 : Whole v1 = whole_stable (r + 4) (bound / 65536) values (omega arith) p in
                let v2 : ℕ → ℕ = put v1 (r + 4) (bound % 65536) in
                let p2 : Whole v2 = whole_stable (r + 4) (bound % 65536) v1 (omega arith) p1 in (
                  (λ t.
                      let lt : v1 (r + 3) < v1 (r + 4) = ltb-true (v1 (r + 3)) (v1 (r + 4)) t in
                      let own : v1 (r + 4) ≡ bound / 65536 = put_same values (r + 4) (bound / 65536) in
                      at.into v1 (p1, λ some. absurd (let most = few values p some in omega (arith, lt, own, le, most)))),
                  (λ t. (
                    (λ ne. next.into v1 p1),
                    (λ eq. (
                      (λ below.
                          let lt : v2 (r + 2) < v2 (r + 4) = ltb-true (v2 (r + 2)) (v2 (r + 4)) below in
                          let own : v2 (r + 4) ≡ bound % 65536 = put_same v1 (r + 4) (bound % 65536) in
                          at.into v2 (p2, λ some. omega (arith, lt, own, le))),
                      (λ above. next.into v2 p2),
                    )),
                  )),
                ),
          );
        }

    abbrev Counted : (ℕ → ℕ) → Type 0
    Counted values = Whole values × IsBelow (values (r + 2))

    abbrev Measured : (ℕ → ℕ) → Type 0
    Measured values = Whole values × IsScaled (values (r + 2))

    -- twice the number
    doubled : (values : ℕ → ℕ) (m n : ℕ) → Whole values → (0 < size → (i : ℕ) × (i < count) × (values (r + 2) ≡ i * m)) → m + m ≡ n → (0 < size → n ≤ size) →
        Whole (put values (r + 2) ((values (r + 2) + values (r + 2)) % 65536)) × (0 < size → (i : ℕ) × (i < count) × (put values (r + 2) ((values (r + 2) + values (r + 2)) % 65536) (r + 2) ≡ i * n))
    doubled values m n p h sum le =
        let x : ℕ = (values (r + 2) + values (r + 2)) % 65536 in (
          whole_stable (r + 2) x values (omega arith) p,
          λ some.
              let i = h some in
              let most = fits values i.0 p some i.1 in
              let ends = scaled_small i.0 count size 65535 i.1 most in
              let times = le-times i.0 n size (le some) in
              let twice = two-times i.0 m n sum in
              let own = put_same values (r + 2) x in
              let q = i.2 in
              (i.0, i.1, own ∙ omega (arith, q, ends, times, twice, most)),
        )
      where
        le-times : (i n size : ℕ) → n ≤ size → i * n ≤ i * size
        le-times i n size le = omega (arith, mul-le-mul_right {m = n} {n = size} i le)

        two-times : (i m n : ℕ) → m + m ≡ n → i * m + i * m ≡ i * n
        two-times i m n e = subst (λ k. i * m + i * m ≡ i * k) e (omega arith)

    scaled_leads : L Counted Measured (scaled_code size (r + 2))
    scaled_leads = by1 (size == 1) refl
      where
        start : (values : ℕ → ℕ) → IsBelow (values (r + 2)) → 0 < size → (i : ℕ) × (i < count) × (values (r + 2) ≡ i * 1)
        start values h some = (values (r + 2), h some, omega arith)

        by4 : (b : Bool) → (size == 4) ≡ b → L Counted Measured
            (if b then Bin Add (r + 2) (r + 2) (r + 2) ∷ Bin Add (r + 2) (r + 2) (r + 2) ∷ [] else Set (r + 2 + 2) (size % 65536) ∷ Help (number_of_help U16 Mul) ((r + 2) ∷ (r + 2 + 2) ∷ []) ((r + 2) ∷ []) ∷ [])
        by4 true e = record {
          over = λ u st k. (
            st,
            λ values p.
                let is : size ≡ 4 = eqb-true size 4 e in
                let one = doubled values 1 2 p.0 (start values p.1) refl (λ some. omega (arith, is)) in
                let two = doubled _ 2 4 one.0 one.1 refl (λ some. omega (arith, is)) in
                k _ (two.0, λ some. let h = two.1 some in (h.0, h.1, h.2 ∙ ap (λ n. h.0 * n) (sym is))),
          );
        }
        by4 false e = record {
          over = λ u st k. (
            st,
            λ values p xs given.
                let v1 : ℕ → ℕ = put values (r + 2 + 2) (size % 65536) in
                let x : ℕ = (v1 (r + 2) * v1 (r + 2 + 2)) % 2 ^ 16 % 65536 in
                let are : xs ≡ x ∷ [] = cc in
                let p1 : Whole v1 = whole_stable (r + 2 + 2) (size % 65536) values (omega arith) p.0 in
                let p2 : Whole (put v1 (r + 2) x) = whole_stable (r + 2) x v1 (omega arith) p1 in
                let own : put v1 (r + 2) x (r + 2) ≡ x = put_same v1 (r + 2) x in
                let there : v1 (r + 2) ≡ values (r + 2) = put_other values (r + 2 + 2) (size % 65536) (r + 2) (λ q. omega (arith, q)) in
                let own1 : v1 (r + 2 + 2) ≡ size % 65536 = put_same values (r + 2 + 2) (size % 65536) in
                let scaled : IsScaled (put v1 (r + 2) x (r + 2)) = (λ some.
                let lt = p.1 some in
                let most = fits values (values (r + 2)) p.0 some lt in
                let least = some_count (values (r + 2)) count size lt in
                let ends = scaled_small (values (r + 2)) count size 65535 lt most in
                let whole : size % 65536 ≡ size = omega (arith, most, least) in
                let product : v1 (r + 2) * v1 (r + 2 + 2) ≡ values (r + 2) * size = ap (λ n. n * v1 (r + 2 + 2)) there ∙ ap (λ n. values (r + 2) * n) (own1 ∙ whole) in
                (values (r + 2), lt, own ∙ omega (arith, product, ends, most, some))) in
                subst (λ ys. MayGo code limit tasks at_label u (put_all v1 ((r + 2) ∷ []) ys)) (sym are) (k (put v1 (r + 2) x) (p2, scaled)),
          );
        }

        by2 : (b : Bool) → (size == 2) ≡ b → L Counted Measured
            (if b then Bin Add (r + 2) (r + 2) (r + 2) ∷ [] else if size == 4 then Bin Add (r + 2) (r + 2) (r + 2) ∷ Bin Add (r + 2) (r + 2) (r + 2) ∷ []
            else Set (r + 2 + 2) (size % 65536) ∷ Help (number_of_help U16 Mul) ((r + 2) ∷ (r + 2 + 2) ∷ []) ((r + 2) ∷ []) ∷ [])
        by2 true e = record {
          over = λ u st k. (
            st,
            λ values p.
                let is : size ≡ 2 = eqb-true size 2 e in
                let one = doubled values 1 2 p.0 (start values p.1) refl (λ some. omega (arith, is)) in
                k _ (one.0, λ some. let h = one.1 some in (h.0, h.1, h.2 ∙ ap (λ n. h.0 * n) (sym is))),
          );
        }
        by2 false e = by4 (size == 4) refl

        by1 : (b : Bool) → (size == 1) ≡ b → L Counted Measured
            (if b then [] else if size == 2 then Bin Add (r + 2) (r + 2) (r + 2) ∷ [] else if size == 4 then Bin Add (r + 2) (r + 2) (r + 2) ∷ Bin Add (r + 2) (r + 2) (r + 2) ∷ []
            else Set (r + 2 + 2) (size % 65536) ∷ Help (number_of_help U16 Mul) ((r + 2) ∷ (r + 2 + 2) ∷ []) ((r + 2) ∷ []) ∷ [])
        by1 true e =
            no_code code limit tasks at_label Counted Measured
            (λ values p. (p.0, λ some. let is : size ≡ 1 = eqb-true size 1 e in let h = start values p.1 some in (h.0, h.1, h.2 ∙ ap (λ n. h.0 * n) (sym is))))
        by1 false e = by2 (size == 2) refl

    found_leads : Suits align size → L Measured (λ values. P values × IsFound limit InFrame (layout size align) (values r)) (Bin Add r r (r + 2) ∷ [])
    found_leads whole = record {
      over = λ u st k. (
        st,
        λ values p.
            let x : ℕ = (values r + values (r + 2)) % 65536 in
            let own : put values r x r ≡ x = put_same values r x in
            let found : IsFound limit InFrame (layout size align) (put values r x r) = (λ some.
            let i = p.1 some in
            let least = some_count i.0 count size i.1 in
            let h = p.0.1 (omega (arith, some, least)) in
            let room = h.0 in
            let q = i.2 in
            let ends = scaled_small i.0 count size 65535 i.1 (omega (arith, room, small)) in
            let sum : put values r x r ≡ values r + i.0 * size = own ∙ omega (arith, room, ends, q, small, some) in
            (omega (arith, sum, room, ends), subst (Suits align) (sym sum) (sum-suits align (values r) (i.0 * size) h.1 (λ e. let s = product-suits align size i.0 whole e in omega (arith, s))))) in
            k (put values r x) (stable.written r x values (λ lt. omega (arith, lt)) p.0.0, found),
      );
    }

    pub element_leads : (t : IntType) (l : ℕ) → Suits align size → IsKnown code limit tasks at_label l (λ values. Whole values × IsBelow (values (r + 2))) → IsKnown code limit tasks at_label (l + 1) Whole →
        L Whole (λ values. P values × IsFound limit InFrame (layout size align) (values r)) (element_code t count size r l)
    element_leads t l whole at next =
        leads_on code limit tasks at_label Whole Counted (λ values. P values × IsFound limit InFrame (layout size align) (values r)) (bound_code (is_wide t) (index_bound t count) r l) _
        (bound_leads (is_wide t) (index_bound t count) l (index_bound_le t count) at next)
        (leads_on code limit tasks at_label Counted Measured (λ values. P values × IsFound limit InFrame (layout size align) (values r)) (scaled_code size (r + 2)) (Bin Add r r (r + 2) ∷ []) scaled_leads (found_leads whole))
