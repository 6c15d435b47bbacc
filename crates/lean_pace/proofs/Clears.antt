-- Bytes of the frame become 0: a loop that takes 15 for each byte, where a label takes nothing and a jump one instruction.
use Rattle.std.proofs.Common.{◌≡◌, ◌≢◌, ℕ, zero, suc, ◌+◌, ◌*◌, ◌%◌, ◌<◌, ◌≤◌, true, false, List, ◌∷◌, ◌++◌, drop, Some, refl, sym, ap, ◌∙◌, subst, ⊎_elim, arith}
use Rattle.std.specs.Prelude.{◌==◌}
use Rattle.std.proofs.lemmas.Bool.{eq-eqb}
use Rattle.std.proofs.lemmas.Bool.Decides.{eqb_tells}
use Rattle.mid_code.specs.declared.instr.Mid.{Mid}
use Rattle.mid_code.specs.declared.instr.Mid.TheVariants.{Set, Bin, Poke, Label, Jump, Branch}
use Rattle.mid_code.specs.declared.instr.Op.TheVariants.{Add}
use Rattle.mid_code.specs.declared.instr.Test.TheVariants.{Eq}
use Rattle.mid_code.specs.Machine.{Activation, fn_of, place_of, poked, put}
use Rattle.mid_code.proofs.Stands.{does}
use Rattle.mid_code.proofs.Written.{put_same, put_other}
use Rattle.lower_stmt.specs.Code.{zero_bytes_code}
use Rattle.lower_pace.proofs.Silent.{more}
use Rattle.lower_pace.proofs.Flow.{AreCalled, Flow, Inner, Setting, SoonAt, at_head, at_tail, branched, by_step, inner_more, is_act, is_call, is_light}

module _ (given : Setting) (label_free : (l : ℕ) → given.size (Some (Label l)) ≤ 0) (jump_short : (l : ℕ) → given.size (Some (Jump l)) ≤ 1) where
  abbrev whole : List Mid
  whole = (fn_of given.code given.f).code

  -- an instruction that is no action and no call
  silent : (m : ℕ) (i : Mid) (u : List Mid) → is_act i ≡ false → is_call i ≡ false → Inner given m u → Inner given m (i ∷ u)
  silent m i u a c h = (record { behind = λ b d. absurd (cc); ticks = λ b. absurd (cc) }, h)

  module _ (n r l o size : ℕ) (u : List Mid) (h : Flow given n u) (small : o + size < 65536) (rest : List Activation) (called : AreCalled given.code rest) where
    abbrev body : List Mid
    body = Branch Eq r (r + 2) (l + 1) ∷ Poke false (r + 1) r ∷ Bin Add r r (r + 3) ∷ Jump l ∷ Label (l + 1) ∷ u

    -- the loop stands here
    module _ (head : ℕ) (e : drop head whole ≡ Label l ∷ body) where
      e1 : drop (head + 1) whole ≡ body
      e1 = at_tail whole head (Label l) body e

      e2 : drop (head + 1 + 1) whole ≡ Poke false (r + 1) r ∷ Bin Add r r (r + 3) ∷ Jump l ∷ Label (l + 1) ∷ u
      e2 = at_tail whole (head + 1) _ _ e1

      e3 : drop (head + 1 + 1 + 1) whole ≡ Bin Add r r (r + 3) ∷ Jump l ∷ Label (l + 1) ∷ u
      e3 = at_tail whole (head + 1 + 1) _ _ e2

      e4 : drop (head + 1 + 1 + 1 + 1) whole ≡ Jump l ∷ Label (l + 1) ∷ u
      e4 = at_tail whole (head + 1 + 1 + 1) _ _ e3

      e5 : drop (head + 1 + 1 + 1 + 1 + 1) whole ≡ Label (l + 1) ∷ u
      e5 = at_tail whole (head + 1 + 1 + 1 + 1) _ _ e4

      light : (i : Mid) → is_light i ≡ true → given.size (Some i) ≤ 3
      light i ok = given.sizes.light i ok

      module _ (values frame : ℕ → ℕ) (end : values (r + 2) ≡ o + size) where
        from_label : (m : ℕ) → SoonAt given m rest (head + 1) values frame → SoonAt given (m + 1) rest head values frame
        from_label m h =
            by_step given head values frame rest m (m + 1) (Label l) _ (at_head whole head _ body e) (does given.code given.f rest head values frame _ (at_head whole head _ body e)) h
            (let most = label_free l in omega (arith, most))

        out : SoonAt given (n + 4) rest (place_of whole (l + 1)) values frame
        out =
            subst (λ to. SoonAt given (n + 4) rest to values frame) (sym (given.labels.at _ (l + 1) (at_head whole _ _ u e5)))
            (by_step given _ values frame rest n (n + 4) (Label (l + 1)) _ (at_head whole _ _ u e5) (does given.code given.f rest _ values frame _ (at_head whole _ _ u e5))
            (h.start.soon _ values frame rest called (at_tail whole _ _ u e5)) (let most = light (Label (l + 1)) refl in omega (arith, most)))

        leaves : values r ≡ o + size → SoonAt given (n + 8) rest (head + 1) values frame
        leaves left =
            let same : (values r == values (r + 2)) ≡ true = eq-eqb (values r) (values (r + 2)) (left ∙ sym end) in
            by_step given (head + 1) values frame rest (n + 4) (n + 8) (Branch Eq r (r + 2) (l + 1)) _ (at_head whole _ _ _ e1)
            (branched given (head + 1) values frame rest 0 0 true Eq r (r + 2) (l + 1) (at_head whole _ _ _ e1) same) out (let most = light (Branch Eq r (r + 2) (l + 1)) refl in omega (arith, most))

        module _ (m k : ℕ) (more : values r + suc k ≡ o + size) (one : values (r + 3) ≡ 1) where
          -- one turn
          clears : ((new frame : ℕ → ℕ) → new r + k ≡ o + size → new (r + 2) ≡ o + size → new (r + 3) ≡ 1 → SoonAt given m rest head new frame) → SoonAt given (m + 10) rest (head + 1 + 1) values frame
          clears again =
              let e6 : (values r + values (r + 3)) % 65536 ≡ values r + 1 = omega (arith, one, more, small) in
              let new : ℕ → ℕ = put values r ((values r + values (r + 3)) % 65536) in
              let first : new r ≡ values r + 1 = put_same values r _ ∙ e6 in
              let second : new (r + 2) ≡ o + size = put_other values r _ (r + 2) (λ x. omega (arith, x)) ∙ end in
              let third : new (r + 3) ≡ 1 = put_other values r _ (r + 3) (λ x. omega (arith, x)) ∙ one in
              let left : new r + k ≡ o + size = omega (arith, first, more) in
              let written : ℕ → ℕ = poked false (fn_of given.code given.f).frame frame (values r) (values (r + 1)) in
              by_step given (head + 1 + 1) values frame rest (m + 6) (m + 10) (Poke false (r + 1) r) _ (at_head whole _ _ _ e2) (does given.code given.f rest _ values frame _ (at_head whole _ _ _ e2))
              (by_step given (head + 1 + 1 + 1) values written rest (m + 2) (m + 6) (Bin Add r r (r + 3)) _ (at_head whole _ _ _ e3) (does given.code given.f rest _ values written _ (at_head whole _ _ _ e3))
              (by_step given (head + 1 + 1 + 1 + 1) new written rest m (m + 2) (Jump l) _ (at_head whole _ _ _ e4) (does given.code given.f rest _ new written _ (at_head whole _ _ _ e4))
              (subst (λ to. SoonAt given m rest to new written) (sym (given.labels.at head l (at_head whole head _ body e))) (again new written left second third))
              (let most = jump_short l in omega (arith, most))) (let most = light (Bin Add r r (r + 3)) refl in omega (arith, most))) (let most = light (Poke false (r + 1) r) refl in omega (arith, most))

          stays : SoonAt given (m + 10) rest (head + 1 + 1) values frame → SoonAt given (m + 14) rest (head + 1) values frame
          stays h =
              let differ : (values r == values (r + 2)) ≡ false =
              ⊎_elim (λ (t : ((values r == values (r + 2)) ≡ true) × (values r ≡ values (r + 2))). absurd (let same = t.1 in omega (arith, same, more, end)))
              (λ (t : ((values r == values (r + 2)) ≡ false) × (values r ≢ values (r + 2))). t.0) (eqb_tells (values r) (values (r + 2))) in
              by_step given (head + 1) values frame rest (m + 10) (m + 14) (Branch Eq r (r + 2) (l + 1)) _ (at_head whole _ _ _ e1)
              (branched given (head + 1) values frame rest 0 0 false Eq r (r + 2) (l + 1) (at_head whole _ _ _ e1) differ) h (let most = light (Branch Eq r (r + 2) (l + 1)) refl in omega (arith, most))

      -- with so many bytes left
      turns : (k : ℕ) (values frame : ℕ → ℕ) → values r + k ≡ o + size → values (r + 2) ≡ o + size → values (r + 3) ≡ 1 → SoonAt given (n + 12 + 15 * k) rest head values frame
      turns zero values frame left end one = more given.code given.size (n + 8 + 1) (n + 12 + 15 * 0) _ (from_label values frame end (n + 8) (leaves values frame end (omega (arith, left)))) (omega arith)
      turns (suc k) values frame left end one =
          let m : ℕ = n + 12 + 15 * k in
          more given.code given.size (m + 14 + 1) (n + 12 + 15 * suc k) _
          (from_label values frame end (m + 14) (stays values frame end m k left one (clears values frame end m k left one (λ new frame1 first second third. turns k new frame1 first second third))))
          (omega arith)

  -- from its beginning, whatever its values are
  pub zeroes : (n m size o r l : ℕ) (u : List Mid) → Flow given n u → o + size < 65536 → n + 28 + 15 * size ≤ m → Flow given m (zero_bytes_code size o r l ++ u)
  zeroes n m size o r l u h small le = record {
    start = record {
      soon = λ at values frame rest called e.
          let e1 : drop (at + 1) whole ≡ Set (r + 1) 0 ∷ Set (r + 2) (o + size) ∷ Set (r + 3) 1 ∷ Label l ∷ body n r l o size u h small rest called = at_tail whole at _ _ e in
          let e2 : drop (at + 1 + 1) whole ≡ Set (r + 2) (o + size) ∷ Set (r + 3) 1 ∷ Label l ∷ body n r l o size u h small rest called = at_tail whole (at + 1) _ _ e1 in
          let e3 : drop (at + 1 + 1 + 1) whole ≡ Set (r + 3) 1 ∷ Label l ∷ body n r l o size u h small rest called = at_tail whole (at + 1 + 1) _ _ e2 in
          let e4 : drop (at + 1 + 1 + 1 + 1) whole ≡ Label l ∷ body n r l o size u h small rest called = at_tail whole (at + 1 + 1 + 1) _ _ e3 in
          let v1 : ℕ → ℕ = put values r o in
          let v2 : ℕ → ℕ = put v1 (r + 1) 0 in
          let v3 : ℕ → ℕ = put v2 (r + 2) (o + size) in
          let v4 : ℕ → ℕ = put v3 (r + 3) 1 in
          let first : v4 r ≡ o =
          put_other v3 (r + 3) 1 r (λ x. omega (arith, x)) ∙ put_other v2 (r + 2) (o + size) r (λ x. omega (arith, x)) ∙ put_other v1 (r + 1) 0 r (λ x. omega (arith, x)) ∙ put_same values r o in
          let second : v4 (r + 2) ≡ o + size = put_other v3 (r + 3) 1 (r + 2) (λ x. omega (arith, x)) ∙ put_same v2 (r + 2) (o + size) in
          let third : v4 (r + 3) ≡ 1 = put_same v3 (r + 3) 1 in
          let m0 : ℕ = n + 12 + 15 * size in
          let set : (i : ℕ) (x : ℕ) → given.size (Some (Set i x)) ≤ 3 = λ i x. given.sizes.light (Set i x) refl in
          by_step given at values frame rest (m0 + 12) m (Set r o) _ (at_head whole _ _ _ e) (does given.code given.f rest _ values frame _ (at_head whole _ _ _ e))
          (by_step given (at + 1) v1 frame rest (m0 + 8) (m0 + 12) (Set (r + 1) 0) _ (at_head whole _ _ _ e1) (does given.code given.f rest _ v1 frame _ (at_head whole _ _ _ e1))
          (by_step given (at + 1 + 1) v2 frame rest (m0 + 4) (m0 + 8) (Set (r + 2) (o + size)) _ (at_head whole _ _ _ e2) (does given.code given.f rest _ v2 frame _ (at_head whole _ _ _ e2))
          (by_step given (at + 1 + 1 + 1) v3 frame rest m0 (m0 + 4) (Set (r + 3) 1) _ (at_head whole _ _ _ e3) (does given.code given.f rest _ v3 frame _ (at_head whole _ _ _ e3))
          (turns n r l o size u h small rest called _ e4 size v4 frame (ap (λ x. x + size) first) second third)
          (let most = set (r + 3) 1 in omega (arith, most))) (let most = set (r + 2) (o + size) in omega (arith, most))) (let most = set (r + 1) 0 in omega (arith, most))) (let most = set r o in omega (arith, most, le));
    };
    inner =
        silent m _ _ refl refl (silent m _ _ refl refl (silent m _ _ refl refl (silent m _ _ refl refl (silent m _ _ refl refl (silent m _ _ refl refl (silent m _ _ refl refl
        (silent m _ _ refl refl (silent m _ _ refl refl (silent m _ _ refl refl (inner_more given n m u (omega (arith, le)) h.inner))))))))));
  }
