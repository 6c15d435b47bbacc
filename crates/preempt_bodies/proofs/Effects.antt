-- The base effects of one instruction while a line waits.
use Rattle.std.proofs.Common.{◌≡◌, ℕ, ◌+◌, ◌≤◌, Bool, true, false, ◌&&◌, not, nat_lt, cond, List, [], ◌∷◌, ◌++◌, length, Option, None, refl, sym, ap, ◌∙◌, arith, append_assoc, append-nil}
use Rattle.std.specs.Prelude.{is_some, is_none, count_by, fold}
use Rattle.std.specs.List.{AllByRecursion}
use Rattle.nm_base.specs.Lists.{number_of}
use Rattle.nm_base.specs.declared.action.Action.{Action}
use Rattle.nm_base.specs.declared.action.Action.TheVariants as action
use Rattle.mote_devices.specs.Board.{line_of}
use Rattle.core_meaning.specs.Source.{Source}
use Rattle.run_meaning.specs.declared.Move.TheVariants.{Do}
use Rattle.run_meaning.specs.State.{Context, State, is_inside}
use Rattle.nm_base.specs.Behaviour.{is_begin, is_end}
use Rattle.run_meaning.specs.Runs.{after, answers_to}
use Rattle.run_meaning.specs.Steps.{is_access}
use Rattle.preempt_core.specs.Law.{is_waiting, one_effect, waiting_effects}
use Rattle.open_law.specs.Open.{Done, actions_of, silent, is_within, IsSilent, AreMarks}
use Rattle.preempt_bodies.proofs.Logged.{moves_of, AreAnswered, IsPlain}
use Rattle.preempt_bodies.proofs.Acting.{TheBase, HasDone, actions_one, done_one}

not_so : false ≡ true → ⊥
not_so h = cc

fold_one : (p : Action → Bool) (xs : List Action) (x : Action) (n : ℕ) → fold (λ k y. k + number_of (p y)) n (xs ++ x ∷ []) ≡ fold (λ k y. k + number_of (p y)) n xs + number_of (p x)
fold_one p [] x n = refl
fold_one p (y ∷ xs) x n = fold_one p xs x (n + number_of (p y))

fold_from : (p : Action → Bool) (xs : List Action) (n : ℕ) → fold (λ k y. k + number_of (p y)) n xs ≡ n + fold (λ k y. k + number_of (p y)) 0 xs
fold_from p [] n = omega arith
fold_from p (y ∷ xs) n = let a = fold_from p xs (n + number_of (p y)) in let b = fold_from p xs (0 + number_of (p y)) in omega (arith, a, b)

count_one : (p : Action → Bool) (ds : List Done) (d : Done) → count_by p (actions_of (ds ++ d ∷ [])) ≡ count_by p (actions_of ds) + number_of (p d.action)
count_one p ds d = ap (count_by p) (actions_one ds d) ∙ fold_one p (actions_of ds) d.action 0

count_head : (p : Action → Bool) (x : Action) (xs : List Action) → count_by p (x ∷ xs) ≡ number_of (p x) + count_by p xs
count_head p x xs = let a = fold_from p xs (0 + number_of (p x)) in omega (arith, a)

-- neither a Begin nor an End changes nothing
pub within_plain : (ds : List Done) (d : Done) → IsPlain d → is_within (ds ++ d ∷ []) ≡ is_within ds
within_plain ds d h =
    let e : count_by is_end (actions_of (ds ++ d ∷ [])) ≡ count_by is_end (actions_of ds) = count_one is_end ds d ∙ ap (λ t. count_by is_end (actions_of ds) + number_of t) h.1 ∙ omega arith in
    let b : count_by is_begin (actions_of (ds ++ d ∷ [])) ≡ count_by is_begin (actions_of ds) = count_one is_begin ds d ∙ ap (λ t. count_by is_begin (actions_of ds) + number_of t) h.0 ∙ omega arith in
    ap (λ n. nat_lt n (count_by is_begin (actions_of (ds ++ d ∷ [])))) e ∙ ap (nat_lt (count_by is_end (actions_of ds))) b

pub within_all_plain : (ds new : List Done) → AllByRecursion IsPlain new → is_within (ds ++ new) ≡ is_within ds
within_all_plain ds [] h = ap is_within (append-nil ds)
within_all_plain ds (d ∷ new) h = ap is_within (sym (append_assoc ds (d ∷ []) new)) ∙ within_all_plain (ds ++ d ∷ []) new h.1 ∙ within_plain ds d h.0

no_handler : (o : Option Context) → o ≡ None → is_none o ≡ true
no_handler o e = ap is_none e

module _ (P : Source) (body : Option ℕ) where
  -- whether the base is inside an atomic statement
  pub inside_is : (ds : List Done) (r : State) → HasDone TheBase body ds r → is_inside r.base ≡ is_within ds
  inside_is ds r h = ap is_inside h.base

  effect_is : (ds : List Done) (d : Done) (r : State) → HasDone TheBase body ds r → d.answers ≡ answers_to r d.action → one_effect P r (Do d.action) ≡ cond (is_within ds) (number_of (not (is_within (ds ++ d ∷ [])))) (number_of (is_access (Do d.action)))
  effect_is ds d r h e =
      ap (λ t. cond t (number_of (not (is_inside (after P r (Do d.action)).base))) (number_of (is_access (Do d.action)))) (inside_is ds r h)
      ∙ ap (λ t. cond (is_within ds) (number_of (not t)) (number_of (is_access (Do d.action)))) (inside_is (ds ++ d ∷ []) (after P r (Do d.action)) (done_one P TheBase body ds d r h e))

  cond_le : (w : Bool) (n k : ℕ) → n ≤ k → cond w n 0 ≤ k
  cond_le true n k h = h
  cond_le false n k h = omega arith

  no_access : (a : Action) → IsSilent a → is_access (Do a) ≡ false
  no_access (action.Load x w) h = absurd h
  no_access (action.Store x w v) h = absurd h
  no_access (action.In p) h = absurd h
  no_access (action.Out p v) h = absurd h
  no_access (action.Post k) h = absurd h
  no_access action.Begin h = refl
  no_access action.End h = refl
  no_access action.Tick h = refl
  no_access (action.Fault c) h = absurd h

  no_answer : (a : Action) (r : State) → IsSilent a → [] ≡ answers_to r a
  no_answer (action.Load x w) r h = absurd h
  no_answer (action.Store x w v) r h = absurd h
  no_answer (action.In p) r h = absurd h
  no_answer (action.Out p v) r h = absurd h
  no_answer (action.Post k) r h = absurd h
  no_answer action.Begin r h = refl
  no_answer action.End r h = refl
  no_answer action.Tick r h = refl
  no_answer (action.Fault c) r h = absurd h

  abbrev mark : Action → Done
  mark a = record { action = a; answers = [] }

  -- what one mark counts
  mark_counts : (ds : List Done) (a : Action) (r : State) → HasDone TheBase body ds r → IsSilent a → cond (is_waiting r) (one_effect P r (Do a)) 0 ≤ number_of (is_within ds && not (is_within (ds ++ mark a ∷ [])))
  mark_counts ds a r h s =
      let e = effect_is ds (mark a) r h (no_answer a r s) ∙ ap (λ t. cond (is_within ds) (number_of (not (is_within (ds ++ mark a ∷ [])))) (number_of t)) (no_access a s) in
      let k = same (is_within ds) (is_within (ds ++ mark a ∷ [])) in
      cond_le (is_waiting r) (one_effect P r (Do a)) (number_of (is_within ds && not (is_within (ds ++ mark a ∷ [])))) (omega (arith, e, k))
    where
      same : (x y : Bool) → cond x (number_of (not y)) 0 ≡ number_of (x && not y)
      same true true = refl
      same true false = refl
      same false true = refl
      same false false = refl

  pub marks_answered : (marks : List Action) (r : State) → AllByRecursion IsSilent marks → AreAnswered P r (silent marks)
  marks_answered [] r h = tt
  marks_answered (a ∷ more) r h = (no_answer a r h.0, marks_answered more (after P r (Do a)) h.1)

  none_plain : (a : Action) (more : List Action) → count_by is_begin (a ∷ more) + count_by is_end (a ∷ more) ≡ 0 → ((is_begin a ≡ false) × (is_end a ≡ false)) × (count_by is_begin more + count_by is_end more ≡ 0)
  none_plain a more h = by_kind (is_begin a) (is_end a) refl refl
    where
      b : count_by is_begin (a ∷ more) ≡ number_of (is_begin a) + count_by is_begin more
      b = count_head is_begin a more

      e : count_by is_end (a ∷ more) ≡ number_of (is_end a) + count_by is_end more
      e = count_head is_end a more

      by_kind : (x y : Bool) → is_begin a ≡ x → is_end a ≡ y → ((x ≡ false) × (y ≡ false)) × (count_by is_begin more + count_by is_end more ≡ 0)
      by_kind false false hx hy = ((refl, refl), omega (arith, h, b, e))
      by_kind true y hx hy = let k : number_of (is_begin a) ≡ 1 = ap number_of hx in absurd (omega (arith, h, b, e, k))
      by_kind false true hx hy = let k : number_of (is_end a) ≡ 1 = ap number_of hy in absurd (omega (arith, h, b, e, k))

  -- marks that neither begin nor end count nothing
  ticks_count : (marks : List Action) (ds : List Done) (r : State) → HasDone TheBase body ds r → AllByRecursion IsSilent marks → count_by is_begin marks + count_by is_end marks ≡ 0 →
      (waiting_effects P r (moves_of (silent marks)) ≡ 0) × (is_within (ds ++ silent marks) ≡ is_within ds)
  ticks_count [] ds r h s few = (refl, ap is_within (append-nil ds))
  ticks_count (a ∷ more) ds r h s few =
      let k = none_plain a more few in
      let same : is_within (ds ++ mark a ∷ []) ≡ is_within ds = within_plain ds (mark a) k.0 in
      let rest = ticks_count more (ds ++ mark a ∷ []) (after P r (Do a)) (done_one P TheBase body ds (mark a) r h (no_answer a r s.0)) s.1 k.1 in
      let c = mark_counts ds a r h s.0 in
      let z : number_of (is_within ds && not (is_within (ds ++ mark a ∷ []))) ≡ 0 = ap (λ t. number_of (is_within ds && not t)) same ∙ none_left (is_within ds) in
      (omega (arith, rest.0, c, z), ap is_within (sym (append_assoc ds (mark a ∷ []) (silent more))) ∙ rest.1 ∙ same)
    where
      none_left : (x : Bool) → number_of (x && not x) ≡ 0
      none_left true = refl
      none_left false = refl

  abbrev Counts : List Action → List Done → State → Type 0
  Counts marks ds r = waiting_effects P r (moves_of (silent marks)) ≤ number_of (is_within ds && not (is_within (ds ++ silent marks)))

  mark_first : (a : Action) (more : List Action) (ds : List Done) (r : State) → HasDone TheBase body ds r → AreMarks (a ∷ more) →
      (count_by is_begin more + count_by is_end more ≤ 1 → Counts more (ds ++ mark a ∷ []) (after P r (Do a))) → Counts (a ∷ more) ds r
  mark_first a more ds r h m rest = by_kind (is_begin a) (is_end a) refl refl
    where
      there : HasDone TheBase body (ds ++ mark a ∷ []) (after P r (Do a))
      there = done_one P TheBase body ds (mark a) r h (no_answer a r m.silent.0)

      assoc : is_within ((ds ++ mark a ∷ []) ++ silent more) ≡ is_within (ds ++ (mark a ∷ silent more))
      assoc = ap is_within (append_assoc ds (mark a ∷ []) (silent more))

      hb : count_by is_begin (a ∷ more) ≡ number_of (is_begin a) + count_by is_begin more
      hb = count_head is_begin a more

      he : count_by is_end (a ∷ more) ≡ number_of (is_end a) + count_by is_end more
      he = count_head is_end a more

      now : cond (is_waiting r) (one_effect P r (Do a)) 0 ≤ number_of (is_within ds && not (is_within (ds ++ mark a ∷ [])))
      now = mark_counts ds a r h m.silent.0

      none_left : (x : Bool) → number_of (x && not x) ≡ 0
      none_left true = refl
      none_left false = refl

      -- the rest has none of them
      alone : count_by is_begin more + count_by is_end more ≡ 0 → Counts (a ∷ more) ds r
      alone none =
          let t = ticks_count more (ds ++ mark a ∷ []) (after P r (Do a)) there m.silent.1 none in
          let w : is_within (ds ++ (mark a ∷ silent more)) ≡ is_within (ds ++ mark a ∷ []) = sym assoc ∙ t.1 in
          let q : number_of (is_within ds && not (is_within (ds ++ (mark a ∷ silent more)))) ≡ number_of (is_within ds && not (is_within (ds ++ mark a ∷ []))) = ap (λ x. number_of (is_within ds && not x)) w in
          let z = t.0 in
          omega (arith, z, now, q)

      -- this one is neither
      tick : is_begin a ≡ false → is_end a ≡ false → Counts (a ∷ more) ds r
      tick nb ne =
          let kb : number_of (is_begin a) ≡ 0 = ap number_of nb in
          let ke : number_of (is_end a) ≡ 0 = ap number_of ne in
          let few : count_by is_begin more + count_by is_end more ≤ 1 = let f = m.few in omega (arith, f, hb, he, kb, ke) in
          let rec = rest few in
          let same : is_within (ds ++ mark a ∷ []) ≡ is_within ds = within_plain ds (mark a) (nb, ne) in
          let z : number_of (is_within ds && not (is_within (ds ++ mark a ∷ []))) ≡ 0 = ap (λ t. number_of (is_within ds && not t)) same ∙ none_left (is_within ds) in
          let q : number_of (is_within (ds ++ mark a ∷ []) && not (is_within ((ds ++ mark a ∷ []) ++ silent more))) ≡ number_of (is_within ds && not (is_within (ds ++ (mark a ∷ silent more)))) = ap (λ t. number_of (t && not (is_within ((ds ++ mark a ∷ []) ++ silent more)))) same ∙ ap (λ t. number_of (is_within ds && not t)) assoc in
          omega (arith, rec, now, z, q)

      by_kind : (x y : Bool) → is_begin a ≡ x → is_end a ≡ y → Counts (a ∷ more) ds r
      by_kind false false hx hy = tick hx hy
      by_kind true y hx hy = let k : number_of (is_begin a) ≡ 1 = ap number_of hx in let f = m.few in alone (omega (arith, f, hb, he, k))
      by_kind false true hx hy = let k : number_of (is_end a) ≡ 1 = ap number_of hy in let f = m.few in alone (omega (arith, f, hb, he, k))

  -- at most one of the marks begins or ends: they count one where they leave the atomic statement, else none
  pub marks_count : (marks : List Action) (ds : List Done) (r : State) → HasDone TheBase body ds r → AreMarks marks → waiting_effects P r (moves_of (silent marks)) ≤ number_of (is_within ds && not (is_within (ds ++ silent marks)))
  marks_count [] ds r h m = omega arith
  marks_count (a ∷ more) ds r h m =
      mark_first a more ds r h m
      (λ few. marks_count more (ds ++ mark a ∷ []) (after P r (Do a)) (done_one P TheBase body ds (mark a) r h (no_answer a r m.silent.0)) (record { silent = m.silent.1; few = few }))

  -- the access of an instruction counts outside only, and where a line waits
  pub new_counts : (new : List Done) (ds : List Done) (r : State) → HasDone TheBase body ds r → AreAnswered P r new → AllByRecursion IsPlain new → length new ≤ 1 →
      (waiting_effects P r (moves_of new) ≤ number_of (not (is_within ds))) × (line_of r.board ≡ None → waiting_effects P r (moves_of new) ≡ 0)
  new_counts [] ds r h a plain few = (omega arith, λ none. refl)
  new_counts (d ∷ []) ds r h a plain few =
      let e = effect_is ds d r h a.0 ∙ ap (λ t. cond (is_within ds) (number_of (not t)) (number_of (is_access (Do d.action)))) (within_plain ds d plain.0) in
      let k = at_most (is_within ds) (is_access (Do d.action)) in
      let c = cond_le (is_waiting r) (one_effect P r (Do d.action)) (number_of (not (is_within ds))) (omega (arith, e, k)) in
      (omega (arith, c), λ none. ap (λ o. cond (is_some o && is_none r.handler) (one_effect P r (Do d.action)) 0 + 0) none)
    where
      at_most : (x y : Bool) → cond x (number_of (not x)) (number_of y) ≤ number_of (not x)
      at_most true y = omega arith
      at_most false true = omega arith
      at_most false false = omega arith
  new_counts (d ∷ d' ∷ more) ds r h a plain few = absurd (omega (arith, few))
