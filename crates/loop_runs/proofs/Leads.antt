-- How far a context has come in its behaviour, and which moves are then legal.
use Rattle.std.proofs.Common.{◌≡◌, ℕ, zero, suc, ◌+◌, ◌≤◌, Bool, true, false, List, [], ◌∷◌, ◌++◌, Option, Some, None, refl, sym, ap, subst, ◌∙◌, append_assoc, append-nil, arith}
use Rattle.std.specs.Prelude.{count_by, fold}
use Rattle.nm_base.specs.Lists.{IsPrefixOf, number_of}
use Rattle.nm_base.specs.declared.action.Action.{Action}
use Rattle.nm_base.specs.declared.action.Action.TheVariants.{Load, Store, In, Out, Post, Begin, End, Tick, Fault}
use Rattle.nm_base.specs.Behaviour.{Behaviour, Returns, Does, Asks, Faults, Cut, Returned, play, also, is_returned, is_begin, is_end}
use Rattle.source_laws.specs.Orderly.{IsAsked, Goes, IsOrderly}
use Rattle.loop_runs.specs.Bodies.{Bodies}

-- a line without a handler has an empty body
abbrev pub tree_of : Bodies → Option ℕ → ℕ → Behaviour
tree_of P None n = Returns 0
tree_of P (Some body) n = P.does body n

-- an action, and how it was answered: by one number or by none
pub record Done : Type 0 where
  pub action : Action
  pub answers : List ℕ

abbrev pub actions_of : List Done → List Action
actions_of [] = []
actions_of (d ∷ ds) = d.action ∷ actions_of ds

abbrev pub answers_of : List Done → List ℕ
answers_of [] = []
answers_of (d ∷ ds) = d.answers ++ answers_of ds

-- one action on
abbrev pub Next : Behaviour → Done → Behaviour → Type 0
Next (Does a t) d u = (d.action ≡ a) × (d.answers ≡ []) × (t ≡ u)
Next (Asks a f) d u = (x : ℕ) × (d.action ≡ a) × (d.answers ≡ x ∷ []) × (f x ≡ u)
Next (Returns v) d u = ⊥
Next (Faults code) d u = ⊥
Next Cut d u = ⊥

-- this was done, and u is left
abbrev pub Leads : Behaviour → List Done → Behaviour → Type 0
Leads t [] u = t ≡ u
Leads t (d ∷ ds) u = (v : Behaviour) × Next t d v × Leads v ds u

-- ---- what is asked and what is done

abbrev pub IsDone : Action → Type 0
IsDone (Load x wide) = ⊥
IsDone (In p) = ⊥
IsDone (Post k) = ⊥
IsDone (Fault code) = ⊥
IsDone _ = Unit {0}

abbrev pub IsSound : Behaviour → Type 0
IsSound (Does a t) = IsDone a × IsSound t
IsSound (Asks a f) = IsAsked a × ((x : ℕ) → IsSound (f x))
IsSound (Returns v) = Unit {0}
IsSound (Faults code) = Unit {0}
IsSound Cut = Unit {0}

-- so many statements are open behind it
record Opened (a : Action) (count : ℕ) (Then : ℕ → Type 0) : Type 0 where
  is_done : IsDone a
  behind : ℕ
  holds : Then behind
  counted : behind + number_of (is_end a) ≡ count + number_of (is_begin a)

opened : (a : Action) (count : ℕ) (Then : ℕ → Type 0) → Goes a count Then → Opened a count Then
opened Begin count Then h = record { is_done = tt; behind = suc count; holds = h; counted = omega arith }
opened End zero Then h = absurd h
opened End (suc count) Then h = record { is_done = tt; behind = count; holds = h; counted = omega arith }
opened (Store x wide v) count Then h = record { is_done = tt; behind = count; holds = h; counted = refl }
opened (Out p v) count Then h = record { is_done = tt; behind = count; holds = h; counted = refl }
opened Tick count Then h = record { is_done = tt; behind = count; holds = h; counted = refl }
opened (Load x wide) count Then h = absurd h
opened (In p) count Then h = absurd h
opened (Post k) count Then h = absurd h
opened (Fault code) count Then h = absurd h

pub sound : (t : Behaviour) (count : ℕ) → IsOrderly t count → IsSound t
sound (Returns v) count h = tt
sound (Faults code) count h = tt
sound Cut count h = tt
sound (Does a t) count h = let o = opened a count (IsOrderly t) h in (o.is_done, sound t o.behind o.holds)
sound (Asks a f) count h = (h.0, λ x. sound (f x) count (h.1 x))

-- ---- how many statements are open

regroup : (n m k : ℕ) → (n + m) + k ≡ n + ((0 + m) + k)
regroup n m k = omega arith

more_of_none : (n : ℕ) → n ≡ n + 0
more_of_none n = omega arith

none_and : (n : ℕ) → 0 + n ≡ n
none_and n = omega arith

fold_from : (p : Action → Bool) (xs : List Action) (n : ℕ) → fold (λ k y. k + number_of (p y)) n xs ≡ n + fold (λ k y. k + number_of (p y)) 0 xs
fold_from p [] n = more_of_none n
fold_from p (x ∷ xs) n = fold_from p xs (n + number_of (p x)) ∙ regroup n (number_of (p x)) _ ∙ ap (λ k. n + k) (sym (fold_from p xs (0 + number_of (p x))))

count_more : (p : Action → Bool) (x : Action) (xs : List Action) → count_by p (x ∷ xs) ≡ number_of (p x) + count_by p xs
count_more p x xs = fold_from p xs (0 + number_of (p x)) ∙ ap (λ n. n + count_by p xs) (none_and (number_of (p x)))

asked_neither : (a : Action) → IsAsked a → (is_begin a ≡ false) × (is_end a ≡ false)
asked_neither (Load x wide) h = (refl, refl)
asked_neither (In p) h = (refl, refl)
asked_neither (Post k) h = (refl, refl)
asked_neither Begin h = absurd h
asked_neither End h = absurd h
asked_neither Tick h = absurd h
asked_neither (Store x wide v) h = absurd h
asked_neither (Out p v) h = absurd h
asked_neither (Fault code) h = absurd h

-- no more statements end than have begun
pub balanced : (t : Behaviour) (count : ℕ) → IsOrderly t count → (ds : List Done) (u : Behaviour) → Leads t ds u → count_by is_end (actions_of ds) ≤ count_by is_begin (actions_of ds) + count
balanced t count h [] u l = omega arith
balanced (Does a t) count h (d ∷ ds) u l =
    let o = opened a count (IsOrderly t) h in
    let rest = balanced t o.behind o.holds ds u (subst (λ w. Leads w ds u) (sym l.1.2) l.2) in
    let ends = count_more is_end d.action (actions_of ds) ∙ ap (λ b. number_of (is_end b) + count_by is_end (actions_of ds)) l.1.0 in
    let begins = count_more is_begin d.action (actions_of ds) ∙ ap (λ b. number_of (is_begin b) + count_by is_begin (actions_of ds)) l.1.0 in
    let counted = o.counted in
    omega (arith, rest, ends, begins, counted)
balanced (Asks a f) count h (d ∷ ds) u l =
    let n = l.1 in
    let rest = balanced (f n.0) count (h.1 n.0) ds u (subst (λ w. Leads w ds u) (sym n.3) l.2) in
    let neither = asked_neither a h.0 in
    let ends = count_more is_end d.action (actions_of ds) ∙ ap (λ b. number_of (is_end b) + count_by is_end (actions_of ds)) n.1 ∙ ap (λ b. number_of b + count_by is_end (actions_of ds)) neither.1 in
    let begins = count_more is_begin d.action (actions_of ds) ∙ ap (λ b. number_of (is_begin b) + count_by is_begin (actions_of ds)) n.1 ∙ ap (λ b. number_of b + count_by is_begin (actions_of ds)) neither.0 in
    omega (arith, rest, ends, begins)
balanced (Returns v) count h (d ∷ ds) u l = absurd l.1
balanced (Faults code) count h (d ∷ ds) u l = absurd l.1
balanced Cut count h (d ∷ ds) u l = absurd l.1

-- ---- where it goes on

-- the first action of what is left
abbrev pub Begins : Behaviour → Action → Type 0
Begins (Does b t) a = b ≡ a
Begins (Asks b f) a = b ≡ a
Begins (Faults c) a = Fault c ≡ a
Begins (Returns v) a = ⊥
Begins Cut a = ⊥

-- Loads, Ins and Posts were answered, and nothing else
abbrev pub IsShaped : Action → List ℕ → Type 0
IsShaped a xs = (IsAsked a → (x : ℕ) × (xs ≡ x ∷ [])) × (IsDone a → xs ≡ [])

abbrev pub AreShaped : List Done → Type 0
AreShaped [] = Unit {0}
AreShaped (d ∷ ds) = IsShaped d.action d.answers × AreShaped ds

abbrev head_of : Action → List Action → Action
head_of z [] = z
head_of z (a ∷ xs) = a

abbrev tail_of : List Action → List Action
tail_of [] = []
tail_of (a ∷ xs) = xs

abbrev first_or : ℕ → List ℕ → ℕ
first_or z [] = z
first_or z (a ∷ xs) = a

pub same_first : {x y : ℕ} {xs ys : List ℕ} → x ∷ xs ≡ y ∷ ys → x ≡ y
same_first {x = x} e = ap (first_or x) e

same_head : {x y : Action} {xs ys : List Action} → x ∷ xs ≡ y ∷ ys → x ≡ y
same_head {x = x} e = ap (head_of x) e

same_tail : {x y : Action} {xs ys : List Action} → x ∷ xs ≡ y ∷ ys → xs ≡ ys
same_tail e = ap tail_of e

not_nil : (a : Action) (xs : List Action) → a ∷ xs ≡ [] → ⊥
not_nil a xs e = cc

not_nil_more : (xs : List Action) (a : Action) (ys : List Action) → (xs ++ a ∷ []) ++ ys ≡ [] → ⊥
not_nil_more [] a ys e = not_nil _ _ e
not_nil_more (x ∷ xs) a ys e = not_nil _ _ e

-- ---- one more

pub leads_then : (t : Behaviour) (ds : List Done) (d : Done) (v u : Behaviour) → Leads t ds v → Next v d u → Leads t (ds ++ d ∷ []) u
leads_then t [] d v u e n = (u, subst (λ w. Next w d u) (sym e) n, refl)
leads_then t (c ∷ ds) d v u h n = (h.0, h.1, leads_then h.0 ds d v u h.2 n)

pub leads_last : (t : Behaviour) (ds : List Done) (d : Done) (u : Behaviour) → Leads t (ds ++ d ∷ []) u → (v : Behaviour) × Leads t ds v × Next v d u
leads_last t [] d u h = (t, refl, subst (Next t d) h.2 h.1)
leads_last t (c ∷ ds) d u h = let r = leads_last h.0 ds d u h.2 in (r.0, (h.0, h.1, r.1), r.2)

pub actions_then : (ds : List Done) (d : Done) → actions_of (ds ++ d ∷ []) ≡ actions_of ds ++ d.action ∷ []
actions_then [] d = refl
actions_then (c ∷ ds) d = ap (λ l. c.action ∷ l) (actions_then ds d)

pub answers_then : (ds : List Done) (d : Done) → answers_of (ds ++ d ∷ []) ≡ answers_of ds ++ d.answers
answers_then [] d = append-nil d.answers
answers_then (c ∷ ds) d = ap (λ l. c.answers ++ l) (answers_then ds d) ∙ sym (append_assoc c.answers (answers_of ds) d.answers)

pub shaped_then : (ds : List Done) (d : Done) → AreShaped ds → IsShaped d.action d.answers → AreShaped (ds ++ d ∷ [])
shaped_then [] d h k = (k, tt)
shaped_then (c ∷ ds) d h k = (h.0, shaped_then ds d h.1 k)

-- ---- from what is left to legal moves

more : (a b : Action) (xs ys : List Action) → a ≡ b → IsPrefixOf xs ys → IsPrefixOf (a ∷ xs) (b ∷ ys)
more a b xs ys e p = (p.0, ap (λ c. c ∷ (xs ++ p.0)) e ∙ ap (λ l. b ∷ l) p.1)

starts : (u : Behaviour) (a : Action) (xs : List ℕ) → Begins u a → IsPrefixOf (a ∷ []) (play u xs).actions
starts (Does b t) a xs e = ((play t xs).actions, ap (λ c. c ∷ (play t xs).actions) (sym e))
starts (Asks b f) a [] e = ([], ap (λ c. c ∷ []) (sym e))
starts (Asks b f) a (x ∷ xs) e = ((play (f x) xs).actions, ap (λ c. c ∷ (play (f x) xs).actions) (sym e))
starts (Faults c) a xs e = ([], ap (λ c. c ∷ []) (sym e))
starts (Returns v) a xs e = absurd e
starts Cut a xs e = absurd e

pub can : (t : Behaviour) (ds : List Done) (u : Behaviour) (a : Action) → Leads t ds u → Begins u a → IsPrefixOf (actions_of ds ++ a ∷ []) (play t (answers_of ds)).actions
can t [] u a l h = starts t a [] (subst (λ w. Begins w a) (sym l) h)
can (Does b t) (d ∷ ds) u a l h =
    let r = can l.0 ds u a l.2 h in
    let r' : IsPrefixOf (actions_of ds ++ a ∷ []) (play t (answers_of ds)).actions = subst (λ w. IsPrefixOf (actions_of ds ++ a ∷ []) (play w (answers_of ds)).actions) (sym l.1.2) r in
    subst (λ ys. IsPrefixOf (d.action ∷ (actions_of ds ++ a ∷ [])) (play (Does b t) (ys ++ answers_of ds)).actions) (sym l.1.1)
    (more _ _ _ _ l.1.0 r')
can (Asks b f) (d ∷ ds) u a l h =
    let r = can l.0 ds u a l.2 h in
    let n = l.1 in
    let r' : IsPrefixOf (actions_of ds ++ a ∷ []) (play (f n.0) (answers_of ds)).actions = subst (λ w. IsPrefixOf (actions_of ds ++ a ∷ []) (play w (answers_of ds)).actions) (sym n.3) r in
    subst (λ ys. IsPrefixOf (d.action ∷ (actions_of ds ++ a ∷ [])) (play (Asks b f) (ys ++ answers_of ds)).actions) (sym n.2)
    (more _ _ _ _ n.1 r')
can (Returns v) (d ∷ ds) u a l h = absurd l.1
can (Faults c) (d ∷ ds) u a l h = absurd l.1
can Cut (d ∷ ds) u a l h = absurd l.1

pub played : (t : Behaviour) (ds : List Done) (v : ℕ) → Leads t ds (Returns v) → play t (answers_of ds) ≡ record { actions = actions_of ds; why = Returned v }
played t [] v l = ap (λ w. play w []) l
played (Does b t) (d ∷ ds) v l =
    let r : play t (answers_of ds) ≡ record { actions = actions_of ds; why = Returned v } = subst (λ w. play w (answers_of ds) ≡ record { actions = actions_of ds; why = Returned v }) (sym l.1.2) (played l.0 ds v l.2) in
    ap (λ ys. play (Does b t) (ys ++ answers_of ds)) l.1.1 ∙ ap (also b) r ∙ ap (λ a. record { actions = a ∷ actions_of ds; why = Returned v }) (sym l.1.0)
played (Asks b f) (d ∷ ds) v l =
    let n = l.1 in
    let r : play (f n.0) (answers_of ds) ≡ record { actions = actions_of ds; why = Returned v } = subst (λ w. play w (answers_of ds) ≡ record { actions = actions_of ds; why = Returned v }) (sym n.3) (played l.0 ds v l.2) in
    ap (λ ys. play (Asks b f) (ys ++ answers_of ds)) n.2 ∙ ap (also b) r ∙ ap (λ a. record { actions = a ∷ actions_of ds; why = Returned v }) (sym n.1)
played (Returns w) (d ∷ ds) v l = absurd l.1
played (Faults c) (d ∷ ds) v l = absurd l.1
played Cut (d ∷ ds) v l = absurd l.1

-- ---- from legal moves to what is left

asked_head : (b : Action) (f : ℕ → Behaviour) (ys : List ℕ) (z : Action) → head_of z (play (Asks b f) ys).actions ≡ b
asked_head b f [] z = refl
asked_head b f (y ∷ ys) z = refl

pub found : (t : Behaviour) (ds : List Done) (a : Action) → IsSound t → AreShaped ds → IsPrefixOf (actions_of ds ++ a ∷ []) (play t (answers_of ds)).actions → (u : Behaviour) × Leads t ds u × Begins u a
found (Does b t) [] a sound shaped p = (Does b t, refl, sym (same_head p.1))
found (Asks b f) [] a sound shaped p = (Asks b f, refl, sym (same_head p.1))
found (Faults c) [] a sound shaped p = (Faults c, refl, sym (same_head p.1))
found (Returns v) [] a sound shaped p = absurd (not_nil _ _ p.1)
found Cut [] a sound shaped p = absurd (not_nil _ _ p.1)
found (Does b t) (d ∷ ds) a sound shaped p =
    let e : d.action ≡ b = same_head p.1 in
    let none : d.answers ≡ [] = shaped.0.1 (subst IsDone (sym e) sound.0) in
    let q : (actions_of ds ++ a ∷ []) ++ p.0 ≡ (play t (d.answers ++ answers_of ds)).actions = same_tail p.1 in
    let q' : (actions_of ds ++ a ∷ []) ++ p.0 ≡ (play t (answers_of ds)).actions = subst (λ ys. (actions_of ds ++ a ∷ []) ++ p.0 ≡ (play t (ys ++ answers_of ds)).actions) none q in
    let r = found t ds a sound.1 shaped.1 (p.0, q') in
    (r.0, (t, (e, none, refl), r.1), r.2)
found (Asks b f) (d ∷ ds) a sound shaped p =
    let e : d.action ≡ b = ap (head_of b) p.1 ∙ asked_head b f (d.answers ++ answers_of ds) b in
    let one = shaped.0.0 (subst IsAsked (sym e) sound.0) in
    let p' : (d.action ∷ (actions_of ds ++ a ∷ [])) ++ p.0 ≡ (play (Asks b f) (one.0 ∷ answers_of ds)).actions = subst (λ ys. (d.action ∷ (actions_of ds ++ a ∷ [])) ++ p.0 ≡ (play (Asks b f) (ys ++ answers_of ds)).actions) one.1 p.1 in
    let q : (actions_of ds ++ a ∷ []) ++ p.0 ≡ (play (f one.0) (answers_of ds)).actions = same_tail p' in
    let r = found (f one.0) ds a (sound.1 one.0) shaped.1 (p.0, q) in
    (r.0, (f one.0, (one.0, e, one.1, refl), r.1), r.2)
found (Faults c) (d ∷ ds) a sound shaped p = absurd (not_nil_more _ _ _ (same_tail p.1))
found (Returns v) (d ∷ ds) a sound shaped p = absurd (not_nil _ _ p.1)
found Cut (d ∷ ds) a sound shaped p = absurd (not_nil _ _ p.1)

not_so : false ≡ true → ⊥
not_so h = cc

pub ended_found : (t : Behaviour) (ds : List Done) → IsSound t → AreShaped ds → (play t (answers_of ds)).actions ≡ actions_of ds → is_returned (play t (answers_of ds)).why ≡ true → (v : ℕ) × Leads t ds (Returns v)
ended_found (Returns v) [] sound shaped p w = (v, refl)
ended_found (Does b t) [] sound shaped p w = absurd (not_nil _ _ p)
ended_found (Asks b f) [] sound shaped p w = absurd (not_nil _ _ p)
ended_found (Faults c) [] sound shaped p w = absurd (not_so w)
ended_found Cut [] sound shaped p w = absurd (not_so w)
ended_found (Returns v) (d ∷ ds) sound shaped p w = absurd (not_nil _ _ (sym p))
ended_found (Does b t) (d ∷ ds) sound shaped p w =
    let e : d.action ≡ b = sym (same_head p) in
    let none : d.answers ≡ [] = shaped.0.1 (subst IsDone (sym e) sound.0) in
    let q : (play t (answers_of ds)).actions ≡ actions_of ds = subst (λ ys. (play t (ys ++ answers_of ds)).actions ≡ actions_of ds) none (same_tail p) in
    let w' : is_returned (play t (answers_of ds)).why ≡ true = subst (λ ys. is_returned (play t (ys ++ answers_of ds)).why ≡ true) none w in
    let r = ended_found t ds sound.1 shaped.1 q w' in
    (r.0, (t, (e, none, refl), r.1))
ended_found (Asks b f) (d ∷ ds) sound shaped p w =
    let e : d.action ≡ b = ap (head_of b) (sym p) ∙ asked_head b f (d.answers ++ answers_of ds) b in
    let one = shaped.0.0 (subst IsAsked (sym e) sound.0) in
    let p' : (play (Asks b f) (one.0 ∷ answers_of ds)).actions ≡ d.action ∷ actions_of ds = subst (λ ys. (play (Asks b f) (ys ++ answers_of ds)).actions ≡ d.action ∷ actions_of ds) one.1 p in
    let w' : is_returned (play (f one.0) (answers_of ds)).why ≡ true = subst (λ ys. is_returned (play (Asks b f) (ys ++ answers_of ds)).why ≡ true) one.1 w in
    let r = ended_found (f one.0) ds (sound.1 one.0) shaped.1 (same_tail p') w' in
    (r.0, (f one.0, (one.0, e, one.1, refl), r.1))
ended_found (Faults c) (d ∷ ds) sound shaped p w = absurd (not_so w)
ended_found Cut (d ∷ ds) sound shaped p w = absurd (not_so w)

-- ---- two bounds of turns

pub first_action : (t u : Behaviour) (ds : List Done) → IsPrefixOf (play t (answers_of ds)).actions (play u (answers_of ds)).actions → (v w : Behaviour) (a b : Action) → Leads t ds v → Leads u ds w → Begins v a → Begins w b → a ≡ b
first_action t u ds grows v w a b l k h j = one (actions_of ds) _ (longer _ _ _ (can t ds v a l h) grows) (can u ds w b k j)
  where
    longer : (xs ys zs : List Action) → IsPrefixOf xs ys → IsPrefixOf ys zs → IsPrefixOf xs zs
    longer xs ys zs p q = (p.0 ++ q.0, sym (append_assoc xs p.0 q.0) ∙ ap (λ l. l ++ q.0) p.1 ∙ q.1)

    one : (xs zs : List Action) → IsPrefixOf (xs ++ a ∷ []) zs → IsPrefixOf (xs ++ b ∷ []) zs → a ≡ b
    one [] zs p q = same_head (p.1 ∙ sym q.1)
    one (x ∷ xs) [] p q = absurd (not_nil _ _ p.1)
    one (x ∷ xs) (z ∷ zs) p q = one xs zs (p.0, same_tail p.1) (q.0, same_tail q.1)
