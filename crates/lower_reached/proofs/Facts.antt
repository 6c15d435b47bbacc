-- What is known of values at each place of code, where it is known at each label: that a divisor is not 0.
use Rattle.std.proofs.Common.{◌≡◌, ℕ, suc, ◌+◌, ◌/◌, ◌%◌, ◌<◌, ◌≤◌, Bool, true, false, List, [], ◌∷◌, ◌++◌, drop, map, refl, sym, ap, ◌∙◌, subst, append_assoc, arith}
use Rattle.std.specs.Prelude.{⊤, bit_or, nat_lt, if◌then◌else◌}
use Rattle.std.proofs.lemmas.Bool.{eqb-true, le-ltb, lt-ltb}
use Rattle.mid_code.specs.declared.instr.Mid.{Mid}
use Rattle.mid_code.specs.declared.instr.Mid.TheVariants.{Set, Move, Bin, Carry, Load, Store, Peek, Poke, In, Out, Label, Jump, Branch, Call, Help, Ret, Begin, End, Post, Tick, Fault}
use Rattle.mid_code.specs.Help.{operation_at, type_at}
use Rattle.mid_code.specs.Words.{holds, joined, operate}
use Rattle.mid_code.specs.Machine.{is_label, place_of, put}
use Rattle.mid_code.specs.Reached.{DividesByOther}

pub data Fact : Type 0 where
  nothing : Fact
  -- value v is n
  is : (v n : ℕ) → Fact
  -- value v has the bits of two
  either : (v x y : ℕ) → Fact
  -- and value z is 0
  either_with : (v x y z : ℕ) → Fact
  -- the number in these values is not 0
  other : List ℕ → Fact

abbrev pub Holds : Fact → (ℕ → ℕ) → Type 0
Holds nothing values = ⊤
Holds (is v n) values = values v ≡ n
Holds (either v x y) values = values v ≡ bit_or (values x) (values y)
Holds (either_with v x y z) values = (values v ≡ bit_or (values x) (values y)) × (values z ≡ 0)
Holds (other vs) values = 0 < joined (map values vs)

-- a Help that divides has a divisor
abbrev pub Divides : (h : ℕ) (ins : List ℕ) → (ℕ → ℕ) → Type 0
Divides h ins values = DividesByOther (type_at (h / 8)) (operation_at (h % 8)) (map values ins)

module _ (at_label : ℕ → Fact) where
  -- the code may stand where this is known
  abbrev pub MayStand : Fact → List Mid → Type 0
  MayStand fact [] = ⊤
  MayStand fact (Label l ∷ u) = ((values : ℕ → ℕ) → Holds fact values → Holds (at_label l) values) × MayStand (at_label l) u
  MayStand fact (Jump l ∷ u) = ((values : ℕ → ℕ) → Holds fact values → Holds (at_label l) values) × ((e : Fact) × MayStand e u)
  MayStand fact (Branch test x y l ∷ u) = ((values : ℕ → ℕ) → Holds fact values → holds test (values x) (values y) ≡ true → Holds (at_label l) values) × MayStand nothing u
  MayStand fact (Help h ins outs ∷ u) = ((values : ℕ → ℕ) → Holds fact values → Divides h ins values) × MayStand nothing u
  MayStand fact (Set v n ∷ u) = (e : Fact) × ((values : ℕ → ℕ) → Holds fact values → Holds e (put values v n)) × MayStand e u
  MayStand fact (Bin op v x y ∷ u) = (e : Fact) × ((values : ℕ → ℕ) → Holds fact values → Holds e (put values v (operate op (values x) (values y)))) × MayStand e u
  MayStand fact (Fault c ∷ u) = (e : Fact) × MayStand e u
  MayStand fact (Ret vs ∷ u) = (e : Fact) × MayStand e u
  MayStand fact (i ∷ u) = MayStand nothing u

  pub behind : (fact : Fact) (i : Mid) (u : List Mid) → MayStand fact (i ∷ u) → (e : Fact) × MayStand e u
  behind fact (Label l) u h = (at_label l, h.1)
  behind fact (Jump l) u h = h.1
  behind fact (Branch test x y l) u h = (nothing, h.1)
  behind fact (Help o ins outs) u h = (nothing, h.1)
  behind fact (Set v n) u h = (h.0, h.2)
  behind fact (Bin op v x y) u h = (h.0, h.2)
  behind fact (Fault c) u h = h
  behind fact (Ret vs) u h = h
  behind fact i u h = (nothing, h)

  by_label : (b : Bool) (fact : Fact) (i : Mid) (u : List Mid) (l : ℕ) → is_label i l ≡ b → MayStand fact (i ∷ u) → ((e : Fact) → MayStand e u → MayStand (at_label l) (drop (place_of u l) u)) →
      MayStand (at_label l) (drop (if b then 0 else suc (place_of u l)) (i ∷ u))
  by_label false fact i u l e h more = let next = behind fact i u h in more next.0 next.1
  by_label true fact (Label k) u l e h more =
      let same : k ≡ l = eqb-true k l e in
      subst (λ n. MayStand (at_label n) (Label k ∷ u)) same ((λ values q. q), h.1)
  by_label true fact i u l e h more = absurd (cc)

  pub at_place_of : (fact : Fact) (u : List Mid) (l : ℕ) → MayStand fact u → MayStand (at_label l) (drop (place_of u l) u)
  at_place_of fact [] l h = tt
  at_place_of fact (i ∷ u) l h = by_label (is_label i l) fact i u l refl h (λ e g. at_place_of e u l g)

  -- ---- code that needs to know nothing, and where nothing is known at its end

  pub record Keeps (c : List Mid) : Type 0 where
    pub over : (u : List Mid) → MayStand nothing u → MayStand nothing (c ++ u)

  pub keeps_both : (a b : List Mid) → Keeps a → Keeps b → Keeps (a ++ b)
  keeps_both a b h g = record { over = λ u k. subst (MayStand nothing) (sym (append_assoc a b u)) (h.over (b ++ u) (g.over u k)) }

  pub if_keeps : (t : Bool) (a b : List Mid) → Keeps a → Keeps b → Keeps (if t then a else b)
  if_keeps true a b h g = h
  if_keeps false a b h g = g

  -- code that names labels at which nothing is known, and divides by nothing
  abbrev pub Plain : List Mid → Type 0
  Plain [] = ⊤
  Plain (Label l ∷ c) = (at_label l ≡ nothing) × Plain c
  Plain (Jump l ∷ c) = (at_label l ≡ nothing) × Plain c
  Plain (Branch test x y l ∷ c) = (at_label l ≡ nothing) × Plain c
  Plain (Help h ins outs ∷ c) = ((values : ℕ → ℕ) → Divides h ins values) × Plain c
  Plain (i ∷ c) = Plain c

  known : (l : ℕ) (values : ℕ → ℕ) → at_label l ≡ nothing → Holds (at_label l) values
  known l values e = subst (λ f. Holds f values) (sym e) tt

  pub label_stands : (l : ℕ) (u : List Mid) → at_label l ≡ nothing → MayStand nothing u → MayStand nothing (Label l ∷ u)
  label_stands l u e h = ((λ values q. known l values e), subst (λ f. MayStand f u) (sym e) h)

  pub jump_stands : (l : ℕ) (u : List Mid) → at_label l ≡ nothing → MayStand nothing u → MayStand nothing (Jump l ∷ u)
  jump_stands l u e h = ((λ values q. known l values e), (nothing, h))

  pub label_keeps : (l : ℕ) (c : List Mid) → at_label l ≡ nothing → Keeps c → Keeps (Label l ∷ c)
  label_keeps l c e k = record { over = λ u h. label_stands l (c ++ u) e (k.over u h) }

  pub jump_keeps : (l : ℕ) (c : List Mid) → at_label l ≡ nothing → Keeps c → Keeps (Jump l ∷ c)
  jump_keeps l c e k = record { over = λ u h. jump_stands l (c ++ u) e (k.over u h) }

  pub tick_keeps : (c : List Mid) → Keeps c → Keeps (Tick ∷ c)
  tick_keeps c k = record { over = λ u h. k.over u h }

  plain_over : (c : List Mid) → Plain c → (u : List Mid) → MayStand nothing u → MayStand nothing (c ++ u)
  plain_over [] p u h = h
  plain_over (Label l ∷ c) p u h = label_stands l (c ++ u) p.0 (plain_over c p.1 u h)
  plain_over (Jump l ∷ c) p u h = jump_stands l (c ++ u) p.0 (plain_over c p.1 u h)
  plain_over (Branch test x y l ∷ c) p u h = ((λ values q t. known l values p.0), plain_over c p.1 u h)
  plain_over (Help o ins outs ∷ c) p u h = ((λ values q. p.0 values), plain_over c p.1 u h)
  plain_over (Set v n ∷ c) p u h = (nothing, (λ values q. tt), plain_over c p u h)
  plain_over (Bin op v x y ∷ c) p u h = (nothing, (λ values q. tt), plain_over c p u h)
  plain_over (Fault code ∷ c) p u h = (nothing, plain_over c p u h)
  plain_over (Ret vs ∷ c) p u h = (nothing, plain_over c p u h)
  plain_over (Move v x ∷ c) p u h = plain_over c p u h
  plain_over (Carry op v x y ∷ c) p u h = plain_over c p u h
  plain_over (Load w v x ∷ c) p u h = plain_over c p u h
  plain_over (Store w v x ∷ c) p u h = plain_over c p u h
  plain_over (Peek w v x ∷ c) p u h = plain_over c p u h
  plain_over (Poke w v x ∷ c) p u h = plain_over c p u h
  plain_over (In v port ∷ c) p u h = plain_over c p u h
  plain_over (Out port v ∷ c) p u h = plain_over c p u h
  plain_over (Call g ins outs ∷ c) p u h = plain_over c p u h
  plain_over (Begin o ∷ c) p u h = plain_over c p u h
  plain_over (End o ∷ c) p u h = plain_over c p u h
  plain_over (Post k v ∷ c) p u h = plain_over c p u h
  plain_over (Tick ∷ c) p u h = plain_over c p u h

  pub plain : (c : List Mid) → Plain c → Keeps c
  plain c p = record { over = plain_over c p }

  -- ---- what is known at the labels from lo on

  pub record Are (t : ℕ → Fact) (lo n : ℕ) : Type 0 where
    pub each : (k : ℕ) → lo ≤ k → k < lo + n → at_label k ≡ t k

  pub first : (t u : ℕ → Fact) (lo m n total : ℕ) → Are (λ k. if nat_lt k m then t k else u k) lo total → m ≡ lo + n → n ≤ total → Are t lo n
  first t u lo m n total h e le = record { each = λ k ge lt. h.each k ge (omega (arith, lt, le)) ∙ ap (λ (b : Bool). if b then t k else u k) (lt-ltb k m (omega (arith, lt, e))) }

  pub second : (t u : ℕ → Fact) (lo m n total rest : ℕ) → Are (λ k. if nat_lt k m then t k else u k) lo total → m ≡ lo + n → n + rest ≤ total → Are u m rest
  second t u lo m n total rest h e le = record { each = λ k ge lt. h.each k (omega (arith, ge, e)) (omega (arith, lt, le, e)) ∙ ap (λ (b : Bool). if b then t k else u k) (le-ltb k m ge) }

  pub is_nothing : (lo n k : ℕ) → lo ≤ k → k < lo + n → Are (λ k. nothing) lo n → at_label k ≡ nothing
  is_nothing lo n k ge lt h = h.each k ge lt
