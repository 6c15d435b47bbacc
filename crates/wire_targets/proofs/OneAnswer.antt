-- The paths decide the answer.
use Rattle.std.proofs.Common.{◌≡◌, ℕ, suc, ◌<◌, Bool, List, [], ◌∷◌, ◌++◌, ◌⊎◌, inl, inr, ⊎_elim, length, get_or, refl, sym, ap, ◌∙◌, subst, arith}
use Rattle.std.specs.List.{Contains}
use Rattle.std.proofs.lemmas.List.Elements.{Contains-append_cases, Contains-push_cases, All-head}
use Rattle.std.proofs.lemmas.Bool.{cases_lt}
use Rattle.wire_targets.specs.declared.end.End.{End}
use Rattle.wire_targets.specs.declared.end.Wire.{Wire}
use Rattle.wire_targets.specs.Paths.{IsPath, Before}
use Rattle.wire_targets.specs.Targets.{AreAll, AreTargets, IsFirstLoop, AreTooMany, targets_of}
use Rattle.wire_targets.proofs.Order.{before_own}
use Rattle.wire_targets.proofs.Walking.{snoc_last}

pub not_before_itself : (p : List ℕ) → Before p p → ⊥
not_before_itself [] b = b
not_before_itself (j ∷ p) (inl lt) = omega arith
not_before_itself (j ∷ p) (inr h) = not_before_itself p h.1

pub before_trans : (p q r : List ℕ) → Before p q → Before q r → Before p r
before_trans p [] r a b = absurd a
before_trans p (k ∷ q) [] a b = absurd b
before_trans [] (k ∷ q) (i ∷ r) a b = tt
before_trans (j ∷ p) (k ∷ q) (i ∷ r) (inl lt) (inl lu) = inl (omega arith)
before_trans (j ∷ p) (k ∷ q) (i ∷ r) (inl lt) (inr h) = let e : k ≡ i = h.0 in inl (omega arith)
before_trans (j ∷ p) (k ∷ q) (i ∷ r) (inr g) (inl lu) = let e : j ≡ k = g.0 in inl (omega arith)
before_trans (j ∷ p) (k ∷ q) (i ∷ r) (inr g) (inr h) = inr (g.0 ∙ h.0, before_trans p q r g.1 h.1)

data Ordered (p q : List ℕ) : Type 0 where
  earlier : Before p q → Ordered p q
  same : p ≡ q → Ordered p q
  later : Before q p → Ordered p q

ordered_cons : (j k : ℕ) (p q : List ℕ) → j ≡ k → Ordered p q → Ordered (j ∷ p) (k ∷ q)
ordered_cons j k p q e (earlier b) = earlier (inr (e, b))
ordered_cons j k p q e (same s) = same cc
ordered_cons j k p q e (later b) = later (inr (sym e, b))

ordered : (p q : List ℕ) → Ordered p q
ordered [] [] = same refl
ordered [] (k ∷ q) = earlier tt
ordered (j ∷ p) [] = later tt
ordered (j ∷ p) (k ∷ q) =
    ⊎_elim
    (λ lt. earlier (inl lt))
    (λ le. ⊎_elim (λ lt. later (inl lt)) (λ ge. let e : j ≡ k = omega arith in ordered_cons j k p q e (ordered p q)) (cases_lt k j))
    (cases_lt j k)

-- the first element, or one behind it
in_cons : (p q : List ℕ) (qs : List (List ℕ)) → Contains (q ∷ qs) p → (q ≡ p) ⊎ Contains qs p
in_cons p q qs c =
    ⊎_elim
    (λ one. ⊎_elim (λ none. absurd (let lt = none.1 in omega (arith, lt))) (λ e. inl e) (Contains-push_cases [] q p one))
    (λ rest. inr rest)
    (Contains-append_cases (q ∷ []) qs p c)

not_in_none : (p : List ℕ) → Contains [] p → ⊥
not_in_none p c = let lt = c.1 in omega (arith, lt)

module _ (P : List ℕ → Type 0) (p : List ℕ) (ps : List (List ℕ)) (all : AreAll P (p ∷ ps)) where
  first_before : (q : List ℕ) → Contains ps q → Before p q
  first_before q c = subst (Before p) c.2 (all.ordered 0 (suc c.0) q (omega arith) (let lt = c.1 in omega (arith, lt)))

  -- the paths behind the first one
  behind_first : AreAll (λ q. P q × Before p q) ps
  behind_first = record {
    ordered = λ i j d lt within. all.ordered (suc i) (suc j) d (omega arith) (omega arith);
    only = λ k d within. (all.only (suc k) d (omega arith), all.ordered 0 (suc k) d (omega arith) (omega arith));
    every = λ q h. ⊎_elim (λ e. absurd (not_before_itself q (subst (λ r. Before r q) e h.1))) (λ c. c) (in_cons q p ps (all.every q h.0));
  }

  is_first : P p
  is_first = All-head P p ps all.only

  -- a path with the property is the first, or behind it
  first_or_later : (q : List ℕ) → P q → (p ≡ q) ⊎ Before p q
  first_or_later q h = ⊎_elim (λ e. inl e) (λ c. inr (first_before q c)) (in_cons q p ps (all.every q h))

same_first : (p q : List ℕ) → (p ≡ q) ⊎ Before p q → (q ≡ p) ⊎ Before q p → p ≡ q
same_first p q (inl e) b = e
same_first p q (inr a) (inl e) = sym e
same_first p q (inr a) (inr b) = absurd (not_before_itself p (before_trans p q p a b))

pub one_list : (P : List ℕ → Type 0) (ps qs : List (List ℕ)) → AreAll P ps → AreAll P qs → ps ≡ qs
one_list P [] [] a b = refl
one_list P [] (q ∷ qs) a b = absurd (not_in_none q (a.every q (is_first P q qs b)))
one_list P (p ∷ ps) [] a b = absurd (not_in_none p (b.every p (is_first P p ps a)))
one_list P (p ∷ ps) (q ∷ qs) a b =
    let e = same_first p q (first_or_later P p ps a q (is_first P q qs b)) (first_or_later P q qs b p (is_first P p ps a)) in
    let tail : ps ≡ qs = one_list (λ r. P r × Before p r) ps qs (behind_first P p ps a) (subst (λ s. AreAll (λ r. P r × Before s r) qs) (sym e) (behind_first P q qs b)) in
    (λ i. e i ∷ tail i)

all_by : (P Q : List ℕ → Type 0) (paths : List (List ℕ)) → ((p : List ℕ) → P p → Q p) → ((p : List ℕ) → Q p → P p) → AreAll P paths → AreAll Q paths
all_by P Q paths to from all = record {
  ordered = all.ordered;
  only = λ k d within. to (get_or paths k d) (all.only k d within);
  every = λ p q. all.every p (from p q);
}

-- the paths before one of the paths are fewer
pub fewer : (P : List ℕ → Type 0) (p : List ℕ) (qs ps : List (List ℕ)) → AreAll (λ r. P r × Before r p) qs → AreAll P ps → P p → length qs < length ps
fewer P p [] [] b a is = absurd (not_in_none p (a.every p is))
fewer P p [] (r ∷ ps) b a is = omega arith
fewer P p (q ∷ qs) [] b a is = absurd (not_in_none p (a.every p is))
fewer P p (q ∷ qs) (r ∷ ps) b a is =
    let first = is_first (λ s. P s × Before s p) q qs b in
    let to_q : (r ≡ q) ⊎ Before r q = first_or_later P r ps a q first.0 in
    let r_before : Before r p = ⊎_elim (λ e. subst (λ s. Before s p) (sym e) first.1) (λ h. before_trans r q p h first.1) to_q in
    let e : r ≡ q = same_first r q to_q (first_or_later (λ s. P s × Before s p) q qs b r (is_first P r ps a, r_before)) in
    let rest : length qs < length ps =
    fewer (λ s. P s × Before r s) p qs ps
    (all_by (λ s. (P s × Before s p) × Before q s) (λ s. (P s × Before r s) × Before s p) qs
    (λ s h. ((h.0.0, subst (λ t. Before t s) (sym e) h.1), h.0.1))
    (λ s h. ((h.0.0, h.1), subst (λ t. Before t s) e h.0.1))
    (behind_first (λ s. P s × Before s p) q qs b))
    (behind_first P r ps a)
    (is, r_before)
    in
    omega arith

module _ (wires : List Wire) (sinks : List (List Bool)) (start : End) where
  pub one_targets : (xs ys : List End) → AreTargets wires sinks start xs → AreTargets wires sinks start ys → xs ≡ ys
  one_targets xs ys a b = a.targets_are ∙ (ap (targets_of wires sinks start) (one_list (IsPath wires start) a.paths b.paths a.all b.all) ∙ sym b.targets_are)

  pub targets_not_closed : (xs : List End) (k : ℕ) → AreTargets wires sinks start xs → IsFirstLoop wires start k → ⊥
  targets_not_closed xs k a b = a.none_closes b.path k b.closes

  pub targets_not_many : (xs : List End) → AreTargets wires sinks start xs → AreTooMany wires start → ⊥
  targets_not_many xs a b =
      let less = fewer (IsPath wires start) b.path b.paths a.paths b.before a.all b.is_path in
      let m = b.many in
      let f = a.few in
      omega (arith, less, m, f)

  closing : (a b : List ℕ) (j k : ℕ) → Ordered (a ++ j ∷ []) (b ++ k ∷ []) → (Before (a ++ j ∷ []) (b ++ k ∷ []) → ⊥) → (Before (b ++ k ∷ []) (a ++ j ∷ []) → ⊥) → j ≡ k
  closing a b j k (earlier h) x y = absurd (x h)
  closing a b j k (same e) x y = (snoc_last a b j k e).1
  closing a b j k (later h) x y = absurd (y h)

  pub one_loop : (j k : ℕ) → IsFirstLoop wires start j → IsFirstLoop wires start k → j ≡ k
  one_loop j k a b = closing a.path b.path j k (ordered (a.path ++ j ∷ []) (b.path ++ k ∷ [])) (λ h. b.none_before a.path j h a.closes) (λ h. a.none_before b.path k h b.closes)

  beyond : (c p : List ℕ) → Ordered c (p ++ 0 ∷ []) → (Before c (p ++ 0 ∷ []) → ⊥) → Before p c
  beyond c p (earlier h) x = absurd (x h)
  beyond c p (same e) x = subst (Before p) (sym e) (before_own p 0 [])
  beyond c p (later h) x = before_trans p (p ++ 0 ∷ []) c (before_own p 0 []) h

  pub loop_not_many : (k : ℕ) → IsFirstLoop wires start k → AreTooMany wires start → ⊥
  loop_not_many k a b =
      let c = a.path ++ k ∷ [] in
      let behind : Before b.path c = beyond c b.path (ordered c (b.path ++ 0 ∷ [])) (λ h. b.none_before a.path k h a.closes) in
      let less =
      fewer (λ r. IsPath wires start r × Before r c) b.path b.paths a.paths
      (all_by (λ r. IsPath wires start r × Before r b.path) (λ r. (IsPath wires start r × Before r c) × Before r b.path) b.paths
      (λ r h. ((h.0, before_trans r b.path c h.1 behind), h.1))
      (λ r h. (h.0.0, h.1))
      b.before)
      a.before
      (b.is_path, behind)
      in
      let m = b.many in
      let f = a.few in
      omega (arith, less, m, f)
