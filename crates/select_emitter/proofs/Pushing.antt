-- What is pushed for a call, one value and the others.
use Rattle.std.proofs.Common.{◌≡◌, ℕ, suc, ◌+◌, ◌*◌, ◌<◌, ◌≤◌, Bool, true, false, cond, not, List, [], ◌∷◌, ◌++◌, append_assoc, length, refl, sym, ap, ◌∙◌, subst, arith}
use Rattle.std.proofs.lemmas.List.{map-append}
use Rattle.std.proofs.lemmas.List.Elements.{All-tail}
use Rattle.msp_isa.specs.declared.code.Item.{Item}
use Rattle.msp_isa.specs.declared.code.Item.TheVariants as item
use Rattle.mid_code.specs.declared.code.MidCode.{MidCode}
use Rattle.mid_code.specs.Form.{AreBelow}
use Rattle.open_law.specs.Homes.{Home}
use Rattle.msp_select.specs.Frames.{count_pushed, is_among, pushed}
use Rattle.msp_select.specs.Select.{Part, items_of, pushes, raised, takes}
use Rattle.select_emitter.specs.Pushes.{chosen, flags_of}

pub pushes_next : (c : MidCode) (home : ℕ → Home) (own k : ℕ) (b : Bool) (bs : List Bool) (x : ℕ) (xs : List ℕ) →
    items_of (pushes c home own k (chosen (b ∷ bs) (x ∷ xs)))
    ≡ items_of (pushes c home own k (chosen (b ∷ []) (x ∷ []))) ++ items_of (pushes c home own (k + length (chosen (b ∷ []) (x ∷ []))) (chosen bs xs))
pushes_next c home own k true bs x xs = let e : k + 1 ≡ suc k = omega arith in rw e refl
pushes_next c home own k false bs x xs = let e : k + 0 ≡ k = omega arith in rw e refl

pub few_next : (b : Bool) (bs : List Bool) (x : ℕ) (xs : List ℕ) → length (chosen (b ∷ bs) (x ∷ xs)) ≡ length (chosen (b ∷ []) (x ∷ [])) + length (chosen bs xs)
few_next true bs x xs = omega arith
few_next false bs x xs = omega arith

pub below_next : (n x : ℕ) (xs : List ℕ) → AreBelow n (x ∷ xs) → AreBelow n xs
below_next n x xs all = All-tail (λ v. v < n) x xs all

pub chosen_is : (ps xs : List ℕ) → chosen (flags_of ps) xs ≡ pushed ps xs
chosen_is [] xs = refl
chosen_is (p ∷ ps) [] = refl
chosen_is (p ∷ ps) (x ∷ xs) = by (is_among ps p) (chosen_is ps xs)
  where
    by : (b : Bool) → chosen (flags_of ps) xs ≡ pushed ps xs → cond (not b) (x ∷ chosen (flags_of ps) xs) (chosen (flags_of ps) xs) ≡ cond b (pushed ps xs) (x ∷ pushed ps xs)
    by true h = h
    by false h = ap (λ l. x ∷ l) h

pub chosen_few : (ps xs : List ℕ) → length (chosen (flags_of ps) xs) ≤ count_pushed ps
chosen_few [] xs = omega arith
chosen_few (p ∷ ps) [] = omega arith
chosen_few (p ∷ ps) (x ∷ xs) = by (is_among ps p) (chosen_few ps xs)
  where
    by : (b : Bool) → length (chosen (flags_of ps) xs) ≤ count_pushed ps → length (cond (not b) (x ∷ chosen (flags_of ps) xs) (chosen (flags_of ps) xs)) ≤ cond b (count_pushed ps) (suc (count_pushed ps))
    by true h = h
    by false h = omega (arith, h)

-- the pieces of a call, one behind the other
pub joined_call : (start first second third a r t : List Item) (i : Item) → first ≡ start ++ a → second ≡ first ++ i ∷ [] → third ≡ second ++ r →
    third ++ t ≡ start ++ (a ++ (i ∷ (r ++ t)))
joined_call start first second third a r t i e1 e2 e3 =
    ap (λ l. l ++ t) (e3 ∙ ap (λ l. l ++ r) (e2 ∙ ap (λ l. l ++ i ∷ []) e1))
    ∙ append_assoc ((start ++ a) ++ i ∷ []) r t ∙ append_assoc (start ++ a) (i ∷ []) (r ++ t) ∙ append_assoc start a (i ∷ (r ++ t))

pub call_items : (c : MidCode) (home : ℕ → Home) (own g words : ℕ) (params : List ℕ) (flags : List Bool) (ins outs : List ℕ) → flags ≡ flags_of params → words ≡ count_pushed params →
    items_of (pushes c home own 0 (chosen flags ins)) ++ (item.CallFn g ∷ (items_of (raised (2 * words)) ++ items_of (takes c home own 12 outs)))
    ≡ items_of (pushes c home own 0 (pushed params ins) ++ (record { silent = []; item = item.CallFn g } ∷ (raised (2 * count_pushed params) ++ takes c home own 12 outs)))
call_items c home own g words params flags ins outs e f =
    ap (λ l. items_of (pushes c home own 0 (chosen l ins)) ++ (item.CallFn g ∷ (items_of (raised (2 * words)) ++ items_of (takes c home own 12 outs)))) e
    ∙ ap (λ l. items_of (pushes c home own 0 l) ++ (item.CallFn g ∷ (items_of (raised (2 * words)) ++ items_of (takes c home own 12 outs)))) (chosen_is params ins)
    ∙ ap (λ n. items_of (pushes c home own 0 (pushed params ins)) ++ (item.CallFn g ∷ (items_of (raised (2 * n)) ++ items_of (takes c home own 12 outs)))) f
    ∙ ap (λ l. items_of (pushes c home own 0 (pushed params ins)) ++ (item.CallFn g ∷ l)) (sym (map-append (λ (p : Part). p.item) (raised (2 * count_pushed params)) (takes c home own 12 outs)))
    ∙ sym (map-append (λ (p : Part). p.item) (pushes c home own 0 (pushed params ins)) (record { silent = []; item = item.CallFn g } ∷ (raised (2 * count_pushed params) ++ takes c home own 12 outs)))

pub pushed_more : (c : MidCode) (home : ℕ → Home) (own k next : ℕ) (b : Bool) (flags bs : List Bool) (x : ℕ) (vs xs : List ℕ) (before after whole : List Item) →
    flags ≡ b ∷ bs → vs ≡ x ∷ xs → after ≡ before ++ items_of (pushes c home own k (chosen (b ∷ []) (x ∷ []))) → next ≡ k + length (chosen (b ∷ []) (x ∷ [])) →
    before ++ items_of (pushes c home own k (chosen flags vs)) ≡ whole → after ++ items_of (pushes c home own next (chosen bs xs)) ≡ whole
pushed_more c home own k next b flags bs x vs xs before after whole ef ev ea en h =
    ap (λ l. l ++ items_of (pushes c home own next (chosen bs xs))) ea
    ∙ ap (λ n. (before ++ items_of (pushes c home own k (chosen (b ∷ []) (x ∷ [])))) ++ items_of (pushes c home own n (chosen bs xs))) en
    ∙ append_assoc before _ _
    ∙ ap (λ l. before ++ l) (sym (pushes_next c home own k b bs x xs))
    ∙ ap (λ l. before ++ items_of (pushes c home own k (chosen l (x ∷ xs)))) (sym ef)
    ∙ ap (λ l. before ++ items_of (pushes c home own k (chosen flags l))) (sym ev)
    ∙ h

pub few_left : (deeper next : ℕ) (b : Bool) (flags bs : List Bool) (x : ℕ) (vs xs : List ℕ) → flags ≡ b ∷ bs → vs ≡ x ∷ xs → next ≡ deeper + length (chosen (b ∷ []) (x ∷ [])) →
    deeper + length (chosen flags vs) ≤ 5120 → next + length (chosen bs xs) ≤ 5120
few_left deeper next b flags bs x vs xs ef ev en h =
    let e : length (chosen flags vs) ≡ length (chosen (b ∷ []) (x ∷ [])) + length (chosen bs xs) = ap (λ l. length (chosen l vs)) ef ∙ ap (λ l. length (chosen (b ∷ bs) l)) ev ∙ few_next b bs x xs in
    omega (arith, e, en, h)

pub below_left : (n x : ℕ) (vs xs : List ℕ) → vs ≡ x ∷ xs → AreBelow n vs → AreBelow n xs
below_left n x vs xs e all = below_next n x xs (subst (AreBelow n) e all)
