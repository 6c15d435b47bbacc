-- How many Begins are open at each place of code, where it is known at each label.
use Rattle.std.proofs.Common.{◌≡◌, ℕ, suc, ◌+◌, ◌*◌, ◌<◌, ◌≤◌, Bool, true, false, ◌&&◌, List, [], ◌∷◌, ◌++◌, drop, refl, sym, ap, ◌∙◌, subst, append_assoc, arith}
use Rattle.std.specs.Prelude.{⊤, ◌==◌, nat_lt, if◌then◌else◌}
use Rattle.std.proofs.lemmas.Bool.{eq-eqb, eqb-true, ltb-false, ltb-true}
use Rattle.mid_code.specs.declared.instr.Mid.{Mid}
use Rattle.mid_code.specs.declared.instr.Mid.TheVariants.{Set, Move, Bin, Carry, Load, Store, Peek, Poke, In, Out, Label, Jump, Branch, Call, Help, Ret, Begin, End, Post, Tick, Fault}
use Rattle.mid_code.specs.Form.{one_more, times}
use Rattle.mid_code.specs.Machine.{is_label, place_of}
use Rattle.expr_emitter.specs.Laws.{HasLabels, NamesIn}
use Rattle.lower_reached.proofs.Level.{Level, all_level}

-- the k-th Begin that is open saves at `start` + 2 * k, and so many are open at each label
module _ (at_label : ℕ → ℕ) (start : ℕ) where
  -- the code may stand where d Begins are open
  abbrev pub MayStand : ℕ → List Mid → Type 0
  MayStand d [] = ⊤
  MayStand d (Begin o ∷ u) = (o ≡ start + 2 * d) × MayStand (suc d) u
  MayStand d (End o ∷ u) = (e : ℕ) × (d ≡ suc e) × (o ≡ start + 2 * e) × MayStand e u
  MayStand d (Label l ∷ u) = (at_label l ≡ d) × MayStand d u
  MayStand d (Jump l ∷ u) = (at_label l ≡ d) × ((e : ℕ) × MayStand e u)
  MayStand d (Branch test x y l ∷ u) = (at_label l ≡ d) × MayStand d u
  MayStand d (Ret vs ∷ u) = (d ≡ 0) × ((e : ℕ) × MayStand e u)
  MayStand d (i ∷ u) = MayStand d u

  -- what stands behind an instruction may stand where some number of them is open
  pub behind : (d : ℕ) (i : Mid) (u : List Mid) → MayStand d (i ∷ u) → (e : ℕ) × MayStand e u
  behind d (Begin o) u h = (suc d, h.1)
  behind d (End o) u h = (h.0, h.3)
  behind d (Label l) u h = (d, h.1)
  behind d (Jump l) u h = h.1
  behind d (Branch test x y l) u h = (d, h.1)
  behind d (Ret vs) u h = h.1
  behind d i u h = (d, h)

  -- at its label
  by_label : (b : Bool) (d : ℕ) (i : Mid) (u : List Mid) (l : ℕ) → is_label i l ≡ b → MayStand d (i ∷ u) → ((e : ℕ) → MayStand e u → MayStand (at_label l) (drop (place_of u l) u)) →
      MayStand (at_label l) (drop (if b then 0 else suc (place_of u l)) (i ∷ u))
  by_label false d i u l e h more = let next = behind d i u h in more next.0 next.1
  by_label true d (Label k) u l e h more =
      let same : k ≡ l = eqb-true k l e in
      let there : at_label l ≡ d = ap at_label (sym same) ∙ h.0 in
      subst (λ n. MayStand n (Label k ∷ u)) (sym there) h
  by_label true d i u l e h more = absurd (cc)

  pub at_place_of : (d : ℕ) (u : List Mid) (l : ℕ) → MayStand d u → MayStand (at_label l) (drop (place_of u l) u)
  at_place_of d [] l h = tt
  at_place_of d (i ∷ u) l h = by_label (is_label i l) d i u l refl h (λ e g. at_place_of e u l g)

  -- ---- code that leaves as many open as there were

  pub record Keeps (d : ℕ) (c : List Mid) : Type 0 where
    pub over : (u : List Mid) → MayStand d u → MayStand d (c ++ u)

  pub keeps_both : (d : ℕ) (a b : List Mid) → Keeps d a → Keeps d b → Keeps d (a ++ b)
  keeps_both d a b h g = record { over = λ u k. subst (MayStand d) (sym (append_assoc a b u)) (h.over (b ++ u) (g.over u k)) }

  pub keeps_nothing : (d : ℕ) → Keeps d []
  keeps_nothing d = record { over = λ u h. h }

  pub if_keeps : (t : Bool) (d : ℕ) (a b : List Mid) → Keeps d a → Keeps d b → Keeps d (if t then a else b)
  if_keeps true d a b h g = h
  if_keeps false d a b h g = g

  -- so many are open at each of the labels from lo on
  pub record AreAt (d lo n : ℕ) : Type 0 where
    pub each : (k : ℕ) → lo ≤ k → k < lo + n → at_label k ≡ d

  both_true : (a b : Bool) → (a && b) ≡ true → (a ≡ true) × (b ≡ true)
  both_true true b h = (refl, h)
  both_true false b h = absurd (cc)

  -- one more instruction in front
  past : (b : Bool) (n : ℕ) → 1 ≤ n → 1 ≤ one_more b n
  past true n h = omega arith
  past false n h = h

  own_label : (k n : ℕ) → 1 ≤ one_more (k == k) n
  own_label k n = subst (λ b. 1 ≤ one_more b n) (sym (eq-eqb k k refl)) (omega arith)

  module _ (d : ℕ) (whole : List Mid) (there : (k : ℕ) → 1 ≤ times k whole → at_label k ≡ d) where
    -- level code whose labels are those of the whole
    keeps_level : (c : List Mid) → ((k : ℕ) → 1 ≤ times k c → 1 ≤ times k whole) → all_level c ≡ true → NamesIn whole c → (u : List Mid) → MayStand d u → MayStand d (c ++ u)
    keeps_level [] part level names u h = h
    keeps_level (Label l ∷ c) part level names u h =
        (there l (part l (own_label l (times l c))), keeps_level c (λ k some. part k (past (l == k) (times k c) some)) level names u h)
    keeps_level (Jump l ∷ c) part level names u h = (there l names.0, (d, keeps_level c part level names.1 u h))
    keeps_level (Branch test x y l ∷ c) part level names u h = (there l names.0, keeps_level c part level names.1 u h)
    keeps_level (Begin o ∷ c) part level names u h = absurd (cc)
    keeps_level (End o ∷ c) part level names u h = absurd (cc)
    keeps_level (Ret vs ∷ c) part level names u h = absurd (cc)
    keeps_level (Set v n ∷ c) part level names u h = keeps_level c part level names u h
    keeps_level (Move v x ∷ c) part level names u h = keeps_level c part level names u h
    keeps_level (Bin op v x y ∷ c) part level names u h = keeps_level c part level names u h
    keeps_level (Carry op v x y ∷ c) part level names u h = keeps_level c part level names u h
    keeps_level (Load w v x ∷ c) part level names u h = keeps_level c part level names u h
    keeps_level (Store w v x ∷ c) part level names u h = keeps_level c part level names u h
    keeps_level (Peek w v x ∷ c) part level names u h = keeps_level c part level names u h
    keeps_level (Poke w v x ∷ c) part level names u h = keeps_level c part level names u h
    keeps_level (In v port ∷ c) part level names u h = keeps_level c part level names u h
    keeps_level (Out port v ∷ c) part level names u h = keeps_level c part level names u h
    keeps_level (Call g ins outs ∷ c) part level names u h = keeps_level c part level names u h
    keeps_level (Help o ins outs ∷ c) part level names u h = keeps_level c part level names u h
    keeps_level (Post k v ∷ c) part level names u h = keeps_level c part level names u h
    keeps_level (Tick ∷ c) part level names u h = keeps_level c part level names u h
    keeps_level (Fault code ∷ c) part level names u h = keeps_level c part level names u h

  not_under : (b : Bool) (k lo t : ℕ) → nat_lt k lo ≡ b → (k < lo → t ≡ 0) → 1 ≤ t → lo ≤ k
  not_under true k lo t e none some = let z = none (ltb-true k lo e) in absurd (omega (arith, z, some))
  not_under false k lo t e none some = ltb-false k lo e

  not_over : (b : Bool) (k end t : ℕ) → nat_lt k end ≡ b → (end ≤ k → t ≡ 0) → 1 ≤ t → k < end
  not_over true k end t e none some = ltb-true k end e
  not_over false k end t e none some = let z = none (ltb-false k end e) in absurd (omega (arith, z, some))

  -- code with labels of its own
  pub labels_keep : (d lo n : ℕ) (c : List Mid) → AreAt d lo n → Level c → HasLabels lo n c → Keeps d c
  labels_keep d lo n c are level has = record {
    over = keeps_level d c (λ k some. are.each k (not_under (nat_lt k lo) k lo (times k c) refl (has.under k) some) (not_over (nat_lt k (lo + n)) k (lo + n) (times k c) refl (has.over k) some)) c (λ k some. some) level.none has.named;
  }
