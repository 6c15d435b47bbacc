-- Bodies of the kernel: those of a program, which are changed one after the other, and two behind them.
use Rattle.std.proofs.Common.{◌≡◌, ℕ, ◌+◌, ◌<◌, ◌≤◌, List, [], ◌∷◌, ◌++◌, length, map, take, drop, set, get_or, sym, ap, ◌∙◌, arith, append_assoc, append-nil, drop-set-lt, take_all}
use Rattle.std.proofs.lemmas.List.{drop_all, drop_more, map_push, take_more_set}
use Rattle.nesc_core.specs.declared.tree.Body as tree
use Rattle.nesc_core.specs.Plain.{Body}
use Rattle.nesc_core.specs.View.{body_of}

-- ---- body i of those that are left is changed

module _ (g : Body → Body) (i : ℕ) (now : List tree.Body) where
  abbrev rest : List Body
  rest = map g (map body_of (drop (i + 1) now))

  pub one_more : (x b : tree.Body) → i < length now → body_of x ≡ g (body_of (get_or now i b))
      → map body_of (take (i + 1) (set now i x)) ++ map g (map body_of (drop (i + 1) (set now i x)))
      ≡ map body_of (take i now) ++ map g (map body_of (drop i now))
  one_more x b below is =
      let behind : drop (i + 1) (set now i x) ≡ drop (i + 1) now = drop-set-lt (i + 1) now i x (omega arith) in
      ap (λ (ys : List tree.Body). map body_of ys ++ map g (map body_of (drop (i + 1) (set now i x)))) (take_more_set now i x below)
      ∙ ap (λ (ys : List tree.Body). map body_of (take i now ++ x ∷ []) ++ map g (map body_of ys)) behind
      ∙ ap (λ (ys : List Body). ys ++ rest) (map_push body_of (take i now) x)
      ∙ append_assoc (map body_of (take i now)) (body_of x ∷ []) rest
      ∙ ap (λ (y : Body). map body_of (take i now) ++ (y ∷ rest)) is
      ∙ ap (λ (ys : List tree.Body). map body_of (take i now) ++ map g (map body_of ys)) (sym (drop_more now i b below))

  -- all are changed
  pub all_done : (whole : List Body) → length now ≤ i → map body_of (take i now) ++ map g (map body_of (drop i now)) ≡ whole → map body_of now ≡ whole
  all_done whole over is =
      sym (append-nil (map body_of now))
      ∙ ap (λ (ys : List tree.Body). map body_of ys ++ []) (sym (take_all i now over))
      ∙ ap (λ (ys : List tree.Body). map body_of (take i now) ++ map g (map body_of ys)) (sym (drop_all i now over))
      ∙ is

-- ---- two more behind them

pub two_more : (old mid new : List tree.Body) (a b : tree.Body) (q r : Body) → mid ≡ old ++ a ∷ [] → new ≡ mid ++ b ∷ [] → body_of a ≡ q → body_of b ≡ r
    → map body_of new ≡ map body_of old ++ q ∷ r ∷ []
two_more old mid new a b q r first second here there =
    ap (map body_of) (second ∙ ap (λ (xs : List tree.Body). xs ++ b ∷ []) first)
    ∙ map_push body_of (old ++ a ∷ []) b
    ∙ ap (λ (xs : List Body). xs ++ body_of b ∷ []) (map_push body_of old a)
    ∙ append_assoc (map body_of old) (body_of a ∷ []) (body_of b ∷ [])
    ∙ ap (λ (x : Body). map body_of old ++ x ∷ body_of b ∷ []) here
    ∙ ap (λ (x : Body). map body_of old ++ q ∷ x ∷ []) there
