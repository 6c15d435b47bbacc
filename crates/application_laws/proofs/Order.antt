-- Files that are read in the order of first need are read once, where opening gives one answer; want of memory and reads that fail aside.
use Rattle.std.proofs.Common.{◌≡◌, ℕ, zero, suc, ◌+◌, Bool, true, false, List, [], ◌∷◌, ◌++◌, Result, Ok, Err, sym, ◌∙◌, subst, arith}
use Rattle.nm_base.specs.declared.fault.Fault.{Fault}
use Rattle.wire_reading.specs.declared.opener.Need.{Need}
use Rattle.wire_reading.specs.Order.{Name, Answer, Reader, Goes, Each, Opening, Follows, Opened, Unless, ReadAt, ReadAll, is_known}
use Rattle.wire_reading.proofs.Steps.{all_deeper}
use Rattle.wire_reading.specs.Told.{IsOfFiles}

pub ok_err : {A E : Type 0} (x : A) (e : E) → ◌≡◌ {A = Result A E} (Ok x) (Err e) → ⊥
ok_err x e h = cc

pub same_ok : {A E : Type 0} (x y : A) → ◌≡◌ {A = Result A E} (Ok x) (Ok y) → x ≡ y
same_ok x y h = cc

-- what is read is neither want of memory nor a read that failed
abbrev pub Tells : {A : Type 0} → Result A Fault → Type 0
Tells (Ok x) = Unit {0}
Tells (Err e) = IsOfFiles e

module _ {State : Type 0} where
  abbrev pub Answers : Answer State → Type 0
  Answers (Ok x) = Unit {0}
  Answers (Err e) = IsOfFiles e.0

  -- beside what is read there is no other answer
  abbrev IsOne : Reader State → Type 0
  IsOne R = (need : Need) (known : List Name) (s : State) (p : List Name × State) (y : Answer State) → R need known s (Ok p) → R need known s y → Answers y → y ≡ Ok p

  each_one : (R : Reader State) → IsOne R → (needs : List Need) (known : List Name) (s : State) (p : List Name × State) (y : Answer State) → Each R needs known s (Ok p) → Each R needs known s y → Answers y → y ≡ Ok p
  each_one R h [] known s p y a b c = b ∙ sym a
  each_one R h (need ∷ needs) known s p y a b c = by a.0 b.0 (λ k t f g. each_one R h needs k t p y f g c) a.1 b.1 a.2 b.2
    where
      by : (o q : Answer State) → ((k : List Name) (t : State) → Each R needs k t (Ok p) → Each R needs k t y → y ≡ Ok p) → R need known s o → R need known s q → Goes (Each R needs) o (Ok p) → Goes (Each R needs) q y → y ≡ Ok p
      by (Err e) q next u v f g = absurd (ok_err p e f)
      by (Ok x) (Err e) next u v f g = absurd (ok_err x e (sym (h need known s x (Err e) u v (subst Answers g c))))
      by (Ok x) (Ok z) next u v f g =
          let same : z ≡ x = same_ok z x (h need known s x (Ok z) u v tt) in
          next x.0 x.1 f (subst (λ (w : List Name × State). Each R needs w.0 w.1 y) same g)

  module _ (Opens : Opening State) (one_opening : (s : State) (need : Need) (needs : List Need) (b : Result (List Need) Fault) (t u : State) → Opens s need (Ok needs) t → Opens s need b u → Tells b → (b ≡ Ok needs) × (u ≡ t)) where
    follows_one : (R : Reader State) → IsOne R → (known : List Name) (need : Need) (s t u : State) (o q : Result (List Need) Fault) (p : List Name × State) (y : Answer State)
        → Opens s need o t → Opens s need q u → Follows R known t o (Ok p) → Follows R known u q y → Answers y → y ≡ Ok p
    follows_one R h known need s t u (Err e) q p y v w f g c = absurd (ok_err p (e, t) f)
    follows_one R h known need s t u (Ok needs) (Err e) p y v w f g c =
        let same = one_opening s need needs (Err e) t u v w (subst Answers g c) in
        absurd (ok_err needs e (sym same.0))
    follows_one R h known need s t u (Ok needs) (Ok more) p y v w f g c =
        let same = one_opening s need needs (Ok more) t u v w tt in
        let is : more ≡ needs = same_ok more needs same.0 in
        each_one R h needs known t p y f (subst (λ (x : State). Each R needs known x y) same.1 (subst (λ (ns : List Need). Each R ns known u y) is g)) c

    opened_one : (R : Reader State) → IsOne R → IsOne (Opened Opens R)
    opened_one R h need known s p y a b c = follows_one R h (known ++ need.name ∷ []) need s a.1 b.1 a.0 b.0 p y a.2 b.2 a.3 b.3 c

    unless_one : (t : Bool) (known : List Name) (s : State) (p : List Name × State) (y : Answer State) (A B : Type 0) → (A → B → y ≡ Ok p) → Unless t known s (Ok p) A → Unless t known s y B → y ≡ Ok p
    unless_one true known s p y A B h a b = b ∙ sym a
    unless_one false known s p y A B h a b = h a b

    read_one : (levels : ℕ) → IsOne (ReadAt Opens levels)
    read_one zero need known s p y a b c = unless_one (is_known known need.name) known s p y ⊥ ⊥ (λ u v. absurd u) a b
    read_one (suc levels) need known s p y a b c =
        unless_one (is_known known need.name) known s p y (Opened Opens (ReadAt Opens levels) need known s (Ok p)) (Opened Opens (ReadAt Opens levels) need known s y)
        (λ u v. opened_one (ReadAt Opens levels) (read_one levels) need known s p y u v c) a b

    pub all_one : (needs : List Need) (known : List Name) (s : State) (p : List Name × State) (y : Answer State) → ReadAll Opens needs known s (Ok p) → ReadAll Opens needs known s y → Answers y → y ≡ Ok p
    all_one needs known s p y a b c =
        let same : a.0 + b.0 ≡ b.0 + a.0 = omega arith in
        each_one (ReadAt Opens (b.0 + a.0)) (read_one (b.0 + a.0)) needs known s p y
        (all_deeper Opens b.0 a.0 needs known s (Ok p) a.1)
        (subst (λ (l : ℕ). Each (ReadAt Opens l) needs known s y) same (all_deeper Opens a.0 b.0 needs known s y b.1)) c
