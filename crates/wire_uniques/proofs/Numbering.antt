-- One use more.
use Rattle.std.proofs.Common.{◌≡◌, ℕ, suc, ◌+◌, ◌<◌, Bool, true, false, cond, List, [], ◌∷◌, ◌++◌, Some, unwrap_or, length, take, get_or, refl, sym, ap, ◌∙◌, append_assoc, arith}
use Rattle.std.proofs.lemmas.Slice.Eq.{bytes_eq-Decides}
use Rattle.std.specs.Prelude.{bytes_eq}
use Rattle.std.proofs.lemmas.List.{append-nil, take_more}
use Rattle.wire_names.specs.Places.{Placed, place_of}
use Rattle.wire_uniques.specs.declared.used.Use.{Use}
use Rattle.wire_uniques.specs.Expressions.{Uses}
use Rattle.wire_uniques.specs.Numbers.{uses_text, count_of, numbered, AreNumbers}

count_more : (uses : Uses) (y : Use) (text : List ℕ) → count_of (uses ++ y ∷ []) text ≡ cond (uses_text text y) (count_of uses text + 1) (count_of uses text)
count_more [] y text = by (uses_text text y)
  where
    by : (b : Bool) → cond b (suc 0) 0 ≡ cond b (0 + 1) 0
    by true = refl
    by false = refl
count_more (x ∷ xs) y text = ap (λ n. cond (uses_text text x) (suc n) n) (count_more xs y text) ∙ by (uses_text text x) (uses_text text y) (count_of xs text)
  where
    by : (a b : Bool) (n : ℕ) → cond a (suc (cond b (n + 1) n)) (cond b (n + 1) n) ≡ cond b (cond a (suc n) n + 1) (cond a (suc n) n)
    by true true n = omega arith
    by true false n = refl
    by false true n = refl
    by false false n = refl

numbered_more : (earlier uses : Uses) (one : Use) → numbered earlier (uses ++ one ∷ []) ≡ numbered earlier uses ++ count_of (earlier ++ uses) one.text ∷ []
numbered_more earlier [] one = ap (λ es. count_of es one.text ∷ []) (sym (append-nil earlier))
numbered_more earlier (x ∷ xs) one =
    ap (λ ns. count_of earlier x.text ∷ ns) (numbered_more (earlier ++ x ∷ []) xs one
    ∙ ap (λ es. numbered (earlier ++ x ∷ []) xs ++ count_of es one.text ∷ []) (append_assoc earlier (x ∷ []) xs))

-- a text that is used is the text of its use
is_text : (is_count same : Bool) → cond is_count false same ≡ true → same ≡ true
is_text false same e = e
is_text true same e = absurd cc

same_text : (other : List ℕ) (one : Use) → uses_text other one ≡ true → other ≡ one.text
same_text other one e = (bytes_eq-Decides other one.text).0 (is_text one.is_count (bytes_eq other one.text) e)

pub one_more : (counts after : Placed) (numbers more : List ℕ) (uses : Uses) (one : Use) (n : ℕ) → n ≡ unwrap_or (place_of counts one.text) 0 → ((other : List ℕ) → place_of after other ≡ cond (uses_text other one) (Some (n + 1)) (place_of counts other)) → more ≡ numbers ++ n ∷ [] → AreNumbers counts numbers uses → AreNumbers after more (uses ++ one ∷ [])
one_more counts after numbers more uses one n is set pushed h =
    let here : n ≡ count_of uses one.text = is ∙ h.counted one.text in
    let by : (other : List ℕ) (b : Bool) → uses_text other one ≡ b → unwrap_or (cond b (Some (n + 1)) (place_of counts other)) 0 ≡ cond b (count_of uses other + 1) (count_of uses other) = λ other. elim [
      | true ↦ λ e. ap (λ k. k + 1) (here ∙ ap (count_of uses) (sym (same_text other one e)))
      | false ↦ λ e. h.counted other
    ] in
    record {
      counted = λ other. ap (λ o. unwrap_or o 0) (set other) ∙ (by other (uses_text other one) refl ∙ sym (count_more uses one other));
      given = pushed ∙ (ap (λ ns. ns ++ n ∷ []) h.given ∙ (ap (λ k. numbered [] uses ++ k ∷ []) here ∙ sym (numbered_more [] uses one)));
    }

pub taken_more : (uses texts : Uses) (i : ℕ) (x : Use) → i < length texts → x ≡ get_or texts i x → (uses ++ take i texts) ++ x ∷ [] ≡ uses ++ take (i + 1) texts
taken_more uses texts i x within is =
    append_assoc uses (take i texts) (x ∷ []) ∙ ap (λ ts. uses ++ ts) (ap (λ y. take i texts ++ y ∷ []) is ∙ sym (take_more texts i x within))
