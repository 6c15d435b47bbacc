-- The values with which code may go on, where it is known at each label what holds of them: Peeks and Pokes lie in the first bytes of
-- the frame, an even place each word; and code in which what is known at a label is enough for what stands behind it.
use Rattle.std.proofs.Common.{◌≡◌, ℕ, zero, suc, ◌+◌, ◌<◌, ◌≤◌, Bool, true, false, List, [], ◌∷◌, ◌++◌, drop, map, length, Some, refl, sym, subst, append_assoc, arith}
use Rattle.std.specs.Prelude.{⊤, Contains, slice_get, slice_index_or, if◌then◌else◌}
use Rattle.std.proofs.lemmas.Bool.{eqb-true}
use Rattle.mid_code.specs.declared.instr.Mid.{Mid}
use Rattle.mid_code.specs.declared.instr.Mid.TheVariants.{Set, Move, Bin, Carry, Load, Store, Peek, Poke, In, Out, Label, Jump, Branch, Call, Help, Ret, Begin, End, Post, Tick, Fault}
use Rattle.mid_code.specs.declared.code.MidCode.{MidCode}
use Rattle.mid_code.specs.Help.{helped}
use Rattle.mid_code.specs.Machine.{is_label, place_of, put, put_all}
use Rattle.mid_code.specs.Reached.{IsAligned, bytes}
use Rattle.mid_code.specs.Words.{carry, holds, operate}

-- ---- code

module _ (code : MidCode) (limit tasks : ℕ) (at_label : ℕ → (ℕ → ℕ) → Type 0) where
  abbrev pub IsInside : (is_word : Bool) → ℕ → Type 0
  IsInside w x = (x + bytes w ≤ limit) × IsAligned w x

  abbrev pub MayGo : List Mid → (ℕ → ℕ) → Type 0
  MayGo [] values = ⊤
  MayGo (Set v n ∷ u) values = MayGo u (put values v n)
  MayGo (Move v x ∷ u) values = MayGo u (put values v (values x))
  MayGo (Bin op v x y ∷ u) values = MayGo u (put values v (operate op (values x) (values y)))
  MayGo (Carry op v x y ∷ u) values = MayGo u (put values v (carry op (values x) (values y)))
  MayGo (Load w v x ∷ u) values = (n : ℕ) → MayGo u (put values v n)
  MayGo (Store w v x ∷ u) values = MayGo u values
  MayGo (Peek w v x ∷ u) values = IsInside w (values x) × ((n : ℕ) → MayGo u (put values v n))
  MayGo (Poke w v x ∷ u) values = IsInside w (values x) × MayGo u values
  MayGo (In v port ∷ u) values = (n : ℕ) → MayGo u (put values v n)
  MayGo (Out port v ∷ u) values = MayGo u values
  MayGo (Label l ∷ u) values = at_label l values
  MayGo (Jump l ∷ u) values = at_label l values
  MayGo (Branch test x y l ∷ u) values = (holds test (values x) (values y) ≡ true → at_label l values) × (holds test (values x) (values y) ≡ false → MayGo u values)
  MayGo (Call g ins outs ∷ u) values = (xs : List ℕ) → MayGo u (put_all values outs xs)
  MayGo (Help h ins outs ∷ u) values = (xs : List ℕ) → helped code h (map values ins) ≡ Some xs → MayGo u (put_all values outs xs)
  MayGo (Ret vs ∷ u) values = ⊤
  MayGo (Begin o ∷ u) values = MayGo u values
  MayGo (End o ∷ u) values = MayGo u values
  MayGo (Post k v ∷ u) values = (n : ℕ) → MayGo u (put values v n)
  MayGo (Tick ∷ u) values = MayGo u values
  MayGo (Fault c ∷ u) values = ⊤

  -- and a status is saved behind those bytes, and what is posted is a task
  abbrev pub MayStand : List Mid → Type 0
  MayStand [] = ⊤
  MayStand (Label l ∷ u) = ((values : ℕ → ℕ) → at_label l values → MayGo u values) × MayStand u
  MayStand (Begin o ∷ u) = (limit ≤ o) × MayStand u
  MayStand (Post k v ∷ u) = (k < tasks) × MayStand u
  MayStand (i ∷ u) = MayStand u

  pub behind : (i : Mid) (u : List Mid) → MayStand (i ∷ u) → MayStand u
  behind (Label l) u h = h.1
  behind (Begin o) u h = h.1
  behind (Post k v) u h = h.1
  behind i u h = h

  pub from_place : (u : List Mid) (n : ℕ) → MayStand u → MayStand (drop n u)
  from_place u zero h = h
  from_place [] (suc n) h = tt
  from_place (i ∷ u) (suc n) h = from_place u n (behind i u h)

  -- where a label stands its own is known
  by_label : (b : Bool) (i : Mid) (u : List Mid) (l : ℕ) (values : ℕ → ℕ) → is_label i l ≡ b → at_label l values → MayGo (drop (place_of u l) u) values → MayGo (drop (if b then 0 else suc (place_of u l)) (i ∷ u)) values
  by_label false i u l values e h rest = rest
  by_label true (Label k) u l values e h rest = let same : k ≡ l = eqb-true k l e in subst (λ n. at_label n values) (sym same) h
  by_label true i u l values e h rest = absurd (cc)

  pub at_place_of : (u : List Mid) (l : ℕ) (values : ℕ → ℕ) → at_label l values → MayGo (drop (place_of u l) u) values
  at_place_of [] l values h = tt
  at_place_of (i ∷ u) l values h = by_label (is_label i l) i u l values refl h (at_place_of u l values h)

  pub begins_behind : (u : List Mid) (o : ℕ) → Contains u (Begin o) → MayStand u → limit ≤ o
  begins_behind u o found h = there u found.0 found.1 found.2 h
    where
      there : (u : List Mid) (k : ℕ) → k < length u → slice_index_or u k (Begin o) ≡ Begin o → MayStand u → limit ≤ o
      there [] k lt e h = absurd (omega (arith, lt))
      there (i ∷ u) zero lt e h = let q : MayStand (Begin o ∷ u) = subst (λ j. MayStand (j ∷ u)) e h in q.0
      there (i ∷ u) (suc k) lt e h = there u k (omega (arith, lt)) e (behind i u h)

  pub posts_task : (u : List Mid) (at k v : ℕ) → slice_get u at ≡ Some (Post k v) → MayStand u → k < tasks
  posts_task [] at k v e h = absurd (cc)
  posts_task (i ∷ u) zero k v e h = let same : i ≡ Post k v = cc in let q : MayStand (Post k v ∷ u) = subst (λ j. MayStand (j ∷ u)) same h in q.0
  posts_task (i ∷ u) (suc at) k v e h = posts_task u at k v e (behind i u h)

  -- ---- pieces of code, which lead from values of which one thing holds to values of which another does

  pub record Leads (P Q : (ℕ → ℕ) → Type 0) (c : List Mid) : Type 0 where
    pub over : (u : List Mid) → MayStand u → ((values : ℕ → ℕ) → Q values → MayGo u values) →
        MayStand (c ++ u) × ((values : ℕ → ℕ) → P values → MayGo (c ++ u) values)

  pub leads_on : (P Q R : (ℕ → ℕ) → Type 0) (a b : List Mid) → Leads P Q a → Leads Q R b → Leads P R (a ++ b)
  leads_on P Q R a b h g = record {
    over = λ u s k.
        let n = g.over u s k in
        subst (λ c. MayStand c × ((values : ℕ → ℕ) → P values → MayGo c values)) (sym (append_assoc a b u)) (h.over (b ++ u) n.0 n.1);
  }

  pub no_code : (P Q : (ℕ → ℕ) → Type 0) → ((values : ℕ → ℕ) → P values → Q values) → Leads P Q []
  no_code P Q go = record { over = λ u s k. (s, λ values p. k values (go values p)) }

  -- more is known before
  pub knowing_more : (P Q R : (ℕ → ℕ) → Type 0) (c : List Mid) → ((values : ℕ → ℕ) → P values → Q values) → Leads Q R c → Leads P R c
  knowing_more P Q R c go h = record { over = λ u s k. let n = h.over u s k in (n.0, λ values p. n.1 values (go values p)) }

  -- less is to be known behind
  pub knowing_less : (P Q R : (ℕ → ℕ) → Type 0) (c : List Mid) → ((values : ℕ → ℕ) → Q values → R values) → Leads P Q c → Leads P R c
  knowing_less P Q R c go h = record { over = λ u s k. h.over u s (λ values q. k values (go values q)) }

  pub if_leads : (P Q : (ℕ → ℕ) → Type 0) (t : Bool) (a b : List Mid) → Leads P Q a → Leads P Q b → Leads P Q (if t then a else b)
  if_leads P Q true a b h g = h
  if_leads P Q false a b h g = g

  -- ---- code that leaves what is known as it is

  -- this is known at the label
  pub record IsKnown (l : ℕ) (P : (ℕ → ℕ) → Type 0) : Type 0 where
    pub into : (values : ℕ → ℕ) → P values → at_label l values
    pub out : (values : ℕ → ℕ) → at_label l values → P values

  module _ (base s : ℕ) where
    -- a value from s on, or that of a local
    abbrev pub IsFree : ℕ → Type 0
    IsFree v = v < s → v < base

    abbrev pub AreFree : List ℕ → Type 0
    AreFree [] = ⊤
    AreFree (v ∷ vs) = IsFree v × AreFree vs

    -- it holds whatever is written to free values
    pub record IsStable (P : (ℕ → ℕ) → Type 0) : Type 0 where
      pub written : (v n : ℕ) (values : ℕ → ℕ) → IsFree v → P values → P (put values v n)

    pub all_written : (P : (ℕ → ℕ) → Type 0) → IsStable P → (vs xs : List ℕ) (values : ℕ → ℕ) → AreFree vs → P values → P (put_all values vs xs)
    all_written P stable [] xs values free h = h
    all_written P stable (v ∷ vs) [] values free h = h
    all_written P stable (v ∷ vs) (x ∷ xs) values free h = all_written P stable vs xs (put values v x) free.1 (stable.written v x values free.0 h)

    module _ (P : (ℕ → ℕ) → Type 0) where
      abbrev pub IsQuietOne : Mid → Type 0
      IsQuietOne (Set v n) = IsFree v
      IsQuietOne (Move v x) = IsFree v
      IsQuietOne (Bin op v x y) = IsFree v
      IsQuietOne (Carry op v x y) = IsFree v
      IsQuietOne (Load w v x) = IsFree v
      IsQuietOne (Store w v x) = ⊤
      IsQuietOne (Peek w v x) = ⊥
      IsQuietOne (Poke w v x) = ⊥
      IsQuietOne (In v port) = IsFree v
      IsQuietOne (Out port v) = ⊤
      IsQuietOne (Label l) = IsKnown l P
      IsQuietOne (Jump l) = IsKnown l P
      IsQuietOne (Branch test x y l) = IsKnown l P
      IsQuietOne (Call g ins outs) = AreFree outs
      IsQuietOne (Help h ins outs) = AreFree outs
      IsQuietOne (Ret vs) = ⊤
      IsQuietOne (Begin o) = limit ≤ o
      IsQuietOne (End o) = ⊤
      IsQuietOne (Post k v) = (k < tasks) × IsFree v
      IsQuietOne Tick = ⊤
      IsQuietOne (Fault c) = ⊤

      abbrev pub AreQuiet : List Mid → Type 0
      AreQuiet [] = ⊤
      AreQuiet (i ∷ c) = IsQuietOne i × AreQuiet c

      pub record IsQuiet (c : List Mid) : Type 0 where
        pub each : AreQuiet c

      quiet_append : (a b : List Mid) → AreQuiet a → AreQuiet b → AreQuiet (a ++ b)
      quiet_append [] b h g = g
      quiet_append (i ∷ a) b h g = (h.0, quiet_append a b h.1 g)

      pub both_quiet : (a b : List Mid) → IsQuiet a → IsQuiet b → IsQuiet (a ++ b)
      both_quiet a b h g = record { each = quiet_append a b h.each g.each }

      pub if_quiet : (t : Bool) (a b : List Mid) → IsQuiet a → IsQuiet b → IsQuiet (if t then a else b)
      if_quiet true a b h g = h
      if_quiet false a b h g = g

      module _ (stable : IsStable P) where
        abbrev Goes : List Mid → Type 0
        Goes c = (values : ℕ → ℕ) → P values → MayGo c values

        one : (i : Mid) (u : List Mid) → IsQuietOne i → MayStand u → Goes u → MayStand (i ∷ u) × Goes (i ∷ u)
        one (Set v n) u q s k = (s, λ values p. k _ (stable.written v _ values q p))
        one (Move v x) u q s k = (s, λ values p. k _ (stable.written v _ values q p))
        one (Bin op v x y) u q s k = (s, λ values p. k _ (stable.written v _ values q p))
        one (Carry op v x y) u q s k = (s, λ values p. k _ (stable.written v _ values q p))
        one (Load w v x) u q s k = (s, λ values p n. k _ (stable.written v n values q p))
        one (Store w v x) u q s k = (s, k)
        one (Peek w v x) u q s k = absurd q
        one (Poke w v x) u q s k = absurd q
        one (In v port) u q s k = (s, λ values p n. k _ (stable.written v n values q p))
        one (Out port v) u q s k = (s, k)
        one (Label l) u q s k = ((λ values h. k values (q.out values h), s), q.into)
        one (Jump l) u q s k = (s, q.into)
        one (Branch test x y l) u q s k = (s, λ values p. (λ e. q.into values p, λ e. k values p))
        one (Call g ins outs) u q s k = (s, λ values p xs. k _ (all_written P stable outs xs values q p))
        one (Help o ins outs) u q s k = (s, λ values p xs e. k _ (all_written P stable outs xs values q p))
        one (Ret vs) u q s k = (s, λ values p. tt)
        one (Begin o) u q s k = ((q, s), k)
        one (End o) u q s k = (s, k)
        one (Post j v) u q s k = ((q.0, s), λ values p n. k _ (stable.written v n values q.1 p))
        one Tick u q s k = (s, k)
        one (Fault c) u q s k = (s, λ values p. tt)

        quiet_over : (c : List Mid) → AreQuiet c → (u : List Mid) → MayStand u → Goes u → MayStand (c ++ u) × Goes (c ++ u)
        quiet_over [] q u s k = (s, k)
        quiet_over (i ∷ c) q u s k = let rest = quiet_over c q.1 u s k in one i (c ++ u) q.0 rest.0 rest.1

        pub quiet : (c : List Mid) → IsQuiet c → Leads P P c
        quiet c q = record { over = λ u s k. quiet_over c q.each u s k }
