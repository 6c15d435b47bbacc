-- Reading gives one answer, where opening does.
use Rattle.std.proofs.Common.{◌≡◌, ℕ, zero, suc, ◌+◌, Bool, true, false, List, [], ◌∷◌, ◌++◌, Result, Ok, Err, sym, ◌∙◌, subst, arith}
use Rattle.nm_base.specs.declared.fault.Fault.{Fault}
use Rattle.wire_reading.specs.declared.opener.Need.{Need}
use Rattle.wire_reading.specs.Order.{Name, Answer, Reader, Goes, Each, Opening, Follows, Opened, Unless, ReadAt, ReadAll, is_known}
use Rattle.wire_reading.proofs.Steps.{all_deeper}

module _ {State : Type 0} where
  abbrev IsOne : Reader State → Type 0
  IsOne R = (need : Need) (known : List Name) (s : State) (x y : Answer State) → R need known s x → R need known s y → x ≡ y

  each_one : (R : Reader State) → IsOne R → (needs : List Need) (known : List Name) (s : State) (x y : Answer State) → Each R needs known s x → Each R needs known s y → x ≡ y
  each_one R h [] known s x y a b = a ∙ sym b
  each_one R h (need ∷ needs) known s x y a b =
      by b.0 (λ k t p q. each_one R h needs k t x y p q) b.2 (subst (λ (o : Answer State). Goes (Each R needs) o x) (h need known s a.0 b.0 a.1 b.1) a.2)
    where
      by : (o : Answer State) → ((k : List Name) (t : State) → Each R needs k t x → Each R needs k t y → x ≡ y) → Goes (Each R needs) o y → Goes (Each R needs) o x → x ≡ y
      by (Ok p) next g f = next p.0 p.1 f g
      by (Err e) next g f = f ∙ sym g

  module _ (Opens : Opening State) (one_opening : (s : State) (need : Need) (a b : Result (List Need) Fault) (t u : State) → Opens s need a t → Opens s need b u → (a ≡ b) × (t ≡ u)) where
    follows_one : (R : Reader State) → IsOne R → (known : List Name) (s : State) (found : Result (List Need) Fault) (x y : Answer State) → Follows R known s found x → Follows R known s found y → x ≡ y
    follows_one R h known s (Ok needs) x y a b = each_one R h needs known s x y a b
    follows_one R h known s (Err e) x y a b = a ∙ sym b

    opened_one : (R : Reader State) → IsOne R → IsOne (Opened Opens R)
    opened_one R h need known s x y a b =
        let same = one_opening s need a.0 b.0 a.1 b.1 a.2 b.2 in
        let f : Follows R (known ++ need.name ∷ []) b.1 a.0 x = subst (λ (t : State). Follows R (known ++ need.name ∷ []) t a.0 x) same.1 a.3 in
        follows_one R h (known ++ need.name ∷ []) b.1 b.0 x y (subst (λ (o : Result (List Need) Fault). Follows R (known ++ need.name ∷ []) b.1 o x) same.0 f) b.3

    unless_one : (t : Bool) (known : List Name) (s : State) (x y : Answer State) (A B : Type 0) → (A → B → x ≡ y) → Unless t known s x A → Unless t known s y B → x ≡ y
    unless_one true known s x y A B h a b = a ∙ sym b
    unless_one false known s x y A B h a b = h a b

    read_one : (levels : ℕ) → IsOne (ReadAt Opens levels)
    read_one zero need known s x y a b = unless_one (is_known known need.name) known s x y ⊥ ⊥ (λ p q. absurd p) a b
    read_one (suc levels) need known s x y a b =
        unless_one (is_known known need.name) known s x y (Opened Opens (ReadAt Opens levels) need known s x) (Opened Opens (ReadAt Opens levels) need known s y)
        (opened_one (ReadAt Opens levels) (read_one levels) need known s x y) a b

    pub all_one : (needs : List Need) (known : List Name) (s : State) (x y : Answer State) → ReadAll Opens needs known s x → ReadAll Opens needs known s y → x ≡ y
    all_one needs known s x y a b =
        let same : a.0 + b.0 ≡ b.0 + a.0 = omega arith in
        each_one (ReadAt Opens (b.0 + a.0)) (read_one (b.0 + a.0)) needs known s x y
        (all_deeper Opens b.0 a.0 needs known s x a.1)
        (subst (λ (l : ℕ). Each (ReadAt Opens l) needs known s y) same (all_deeper Opens a.0 b.0 needs known s y b.1))
