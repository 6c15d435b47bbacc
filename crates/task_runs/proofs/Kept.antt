-- What a move of a loop run leaves of its base.
use Rattle.std.proofs.Common.{◌≡◌, ◌≢◌, ℕ, ◌+◌, ◌⊎◌, inl, inr, ⊎_elim, Bool, true, false, List, [], ◌∷◌, ◌++◌, Option, Some, None, refl, sym, ap, subst, ◌∙◌, arith}
use Rattle.std.specs.Prelude.{fold, count_by, nat_lt, IsNone, IsSomeAnd}
use Rattle.std.proofs.lemmas.Bool.Decides.{eqb_tells}
use Rattle.nm_base.specs.Lists.{number_of}
use Rattle.nm_base.specs.declared.action.Action.{Action}
use Rattle.nm_base.specs.declared.action.Action.TheVariants as action
use Rattle.nm_base.specs.Behaviour.{is_begin, is_end}
use Rattle.run_meaning.specs.declared.Move.TheVariants.{Arrive, Do, Enter, Leave, Start, Finish}
use Rattle.core_meaning.specs.Source.{Source}
use Rattle.run_meaning.specs.State.{Context, State, is_inside}
use Rattle.run_meaning.specs.Runs.{after, answers_to, base_after, body_at, with_made}
use Rattle.loop_runs.specs.Bodies.{Bodies, source}
use Rattle.loop_runs.specs.Loop.{LoopState, LoopMove, Plain, Calls, Pops, Takes, IsNotPop, GivesPlace, LegalLoop, AreLegalLoop, after_loop, after_loop_all}
use Rattle.loop_runs.specs.Steps.{IsAside}
use Rattle.preempt_tasks.specs.Bodies.{Sizes}
use Rattle.preempt_tasks.specs.Steps.{cost, mark_of, marks_of, turn_of, turns_of, IsSourceBody, StaysOut}

not_so : false ≡ true → ⊥
not_so h = cc

-- ---- an action more

fold_last : (p : Action → Bool) (xs : List Action) (x : Action) (n : ℕ) → fold (λ k y. k + number_of (p y)) n (xs ++ x ∷ []) ≡ fold (λ k y. k + number_of (p y)) n xs + number_of (p x)
fold_last p [] x n = refl
fold_last p (y ∷ xs) x n = fold_last p xs x (n + number_of (p y))

count_same : (p : Action → Bool) (xs : List Action) (x : Action) → p x ≡ false → count_by p (xs ++ x ∷ []) ≡ count_by p xs
count_same p xs x e = let f = fold_last p xs x 0 in let n = ap number_of e in omega (arith, f, n)

inside_same : (c : Context) (x : Action) (answers : List ℕ) → is_begin x ≡ false → is_end x ≡ false → is_inside (Some (with_made x answers c)) ≡ is_inside (Some c)
inside_same c x answers b e =
    ap (λ n. nat_lt n (count_by is_begin (c.made ++ x ∷ []))) (count_same is_end c.made x e)
    ∙ ap (nat_lt (count_by is_end c.made)) (count_same is_begin c.made x b)

-- neither begins nor ends an atomic statement
record IsUnmarked (x : Action) : Type 0 where
  begins : is_begin x ≡ false
  ends : is_end x ≡ false

unmarked : (x : Action) → mark_of (Plain (Do x)) ≡ 0 → IsUnmarked x
unmarked (action.Load x wide) e = record { begins = refl; ends = refl }
unmarked (action.Store x wide v) e = record { begins = refl; ends = refl }
unmarked (action.In p) e = record { begins = refl; ends = refl }
unmarked (action.Out p v) e = record { begins = refl; ends = refl }
unmarked (action.Post k) e = record { begins = refl; ends = refl }
unmarked action.Begin e = absurd (omega (arith, e))
unmarked action.End e = absurd (omega (arith, e))
unmarked action.Tick e = record { begins = refl; ends = refl }
unmarked (action.Fault c) e = record { begins = refl; ends = refl }

pub do_base : (P : Source) (s : State) (x : Action) → (after P s (Do x)).base ≡ base_after s.handler (with_made x (answers_to s x)) s.base
do_base P s (action.Load x wide) = refl
do_base P s (action.Store x wide v) = refl
do_base P s (action.In p) = refl
do_base P s (action.Out p v) = refl
do_base P s (action.Post k) = refl
do_base P s action.Begin = refl
do_base P s action.End = refl
do_base P s action.Tick = refl
do_base P s (action.Fault c) = refl

do_inside : (handler base : Option Context) (x : Action) (answers : List ℕ) → IsUnmarked x → is_inside (base_after handler (with_made x answers) base) ≡ is_inside base
do_inside None None x answers u = refl
do_inside None (Some c) x answers u = inside_same c x answers u.begins u.ends
do_inside (Some h) base x answers u = refl

-- ---- which base it is

some_pop : (pop : ℕ) (o : Option ℕ) → (o ≡ Some pop) ⊎ (o ≢ Some pop)
some_pop pop None = inr (λ e. let h : None ≡ Some pop = e in cc)
some_pop pop (Some n) = ⊎_elim (λ t. inl (ap (λ k. Some k) t.1)) (λ t. inr (λ e. t.1 (let h : n ≡ pop = cc in h))) (eqb_tells n pop)

pub base_is : (pop : ℕ) (base : Option Context) → IsAside pop base ⊎ IsSourceBody pop base
base_is pop None = inl tt
base_is pop (Some c) = ⊎_elim (λ e. inl e) (λ n. inr n) (some_pop pop c.body)

pub not_both : (pop : ℕ) (base : Option Context) → IsAside pop base → IsSourceBody pop base → ⊥
not_both pop None a b = b
not_both pop (Some c) a b = b a

none_not : (pop : ℕ) (base : Option Context) → IsNone base → IsSourceBody pop base → ⊥
none_not pop None n b = b
none_not pop (Some c) n b = not_so (let k : false ≡ true = cc in k)

do_aside : (pop : ℕ) (handler base : Option Context) (x : Action) (answers : List ℕ) → IsAside pop base → IsAside pop (base_after handler (with_made x answers) base)
do_aside pop None None x answers a = tt
do_aside pop None (Some c) x answers a = a
do_aside pop (Some h) base x answers a = a

do_body : (pop : ℕ) (handler base : Option Context) (x : Action) (answers : List ℕ) → IsSourceBody pop base → IsSourceBody pop (base_after handler (with_made x answers) base)
do_body pop None None x answers b = b
do_body pop None (Some c) x answers b = b
do_body pop (Some h) base x answers b = b

fresh_outside : (o : Option ℕ) → is_inside (body_at o) ≡ false
fresh_outside None = refl
fresh_outside (Some b) = refl

module _ (K : Bodies) (pop : ℕ) where
  -- pop is no body of the source
  pub pop_is_aside : (base : Option Context) → IsNotPop K pop base ⊎ ((IsNotPop K pop base → ⊥) × IsAside pop base)
  pop_is_aside None = inl tt
  pop_is_aside (Some c) = ⊎_elim (λ e. inr ((λ n. n e), e)) (λ n. inl n) (some_pop pop c.body)

  pub body_not_pop : (base : Option Context) → IsSourceBody pop base → IsNotPop K pop base
  body_not_pop None b = tt
  body_not_pop (Some c) b = b

  gives_not : (k : ℕ) (base : Option Context) → IsSomeAnd base (GivesPlace K pop k) → IsSourceBody pop base → ⊥
  gives_not k None g b = b
  gives_not k (Some c) g b = b g.is_pop

  -- ---- one move

  pub aside_kept : (s : LoopState) (m : LoopMove) → LegalLoop K pop s m → turn_of m ≡ 0 → IsAside pop s.run.base → IsAside pop (after_loop K pop s m).run.base
  aside_kept s (Plain (Arrive g)) l t a = a
  aside_kept s (Plain (Do x)) l t a = subst (IsAside pop) (sym (do_base (source K) s.run x)) (do_aside pop s.run.handler s.run.base x (answers_to s.run x) a)
  aside_kept s (Plain (Enter v)) l t a = a
  aside_kept s (Plain Leave) l t a = a
  aside_kept s (Plain (Start k)) l t a = absurd l.1
  aside_kept s (Plain Finish) l t a = tt
  aside_kept s Calls l t a = refl
  aside_kept s (Pops k) l t a = tt
  aside_kept s (Takes k) l t a = absurd (omega (arith, t))

  pub body_kept : (s : LoopState) (m : LoopMove) → LegalLoop K pop s m → turn_of m ≡ 0 → IsSourceBody pop s.run.base → IsSourceBody pop (after_loop K pop s m).run.base
  body_kept s (Plain (Arrive g)) l t b = b
  body_kept s (Plain (Do x)) l t b = subst (IsSourceBody pop) (sym (do_base (source K) s.run x)) (do_body pop s.run.handler s.run.base x (answers_to s.run x) b)
  body_kept s (Plain (Enter v)) l t b = b
  body_kept s (Plain Leave) l t b = b
  body_kept s (Plain (Start k)) l t b = absurd l.1
  body_kept s (Plain Finish) l t b = absurd (omega (arith, t))
  body_kept s Calls l t b = absurd (none_not pop s.run.base l.0.no_base b)
  body_kept s (Pops k) l t b = absurd (gives_not k s.run.base l.2 b)
  body_kept s (Takes k) l t b = absurd (omega (arith, t))

  pub inside_kept : (s : LoopState) (m : LoopMove) → LegalLoop K pop s m → turn_of m ≡ 0 → mark_of m ≡ 0 → IsSourceBody pop s.run.base → is_inside (after_loop K pop s m).run.base ≡ is_inside s.run.base
  inside_kept s (Plain (Arrive g)) l t n b = refl
  inside_kept s (Plain (Do x)) l t n b = ap is_inside (do_base (source K) s.run x) ∙ do_inside s.run.handler s.run.base x (answers_to s.run x) (unmarked x n)
  inside_kept s (Plain (Enter v)) l t n b = refl
  inside_kept s (Plain Leave) l t n b = refl
  inside_kept s (Plain (Start k)) l t n b = absurd l.1
  inside_kept s (Plain Finish) l t n b = absurd (omega (arith, t))
  inside_kept s Calls l t n b = absurd (none_not pop s.run.base l.0.no_base b)
  inside_kept s (Pops k) l t n b = absurd (gives_not k s.run.base l.2 b)
  inside_kept s (Takes k) l t n b = absurd (omega (arith, t))

  outside_kept : (s : LoopState) (m : LoopMove) → LegalLoop K pop s m → mark_of m ≡ 0 → is_inside s.run.base ≡ false → is_inside (after_loop K pop s m).run.base ≡ false
  outside_kept s (Plain (Arrive g)) l n o = o
  outside_kept s (Plain (Do x)) l n o = ap is_inside (do_base (source K) s.run x) ∙ do_inside s.run.handler s.run.base x (answers_to s.run x) (unmarked x n) ∙ o
  outside_kept s (Plain (Enter v)) l n o = o
  outside_kept s (Plain Leave) l n o = o
  outside_kept s (Plain (Start k)) l n o = absurd l.1
  outside_kept s (Plain Finish) l n o = refl
  outside_kept s Calls l n o = refl
  outside_kept s (Pops k) l n o = refl
  outside_kept s (Takes k) l n o = fresh_outside (K.task k)

  -- ---- lists of moves

  pub outside_all : (moves : List LoopMove) (s : LoopState) → AreLegalLoop K pop s moves → marks_of moves ≡ 0 → is_inside s.run.base ≡ false → is_inside (after_loop_all K pop s moves).run.base ≡ false
  outside_all [] s l n o = o
  outside_all (m ∷ moves) s l n o = outside_all moves (after_loop K pop s m) l.1 (omega (arith, n)) (outside_kept s m l.0 (omega (arith, n)) o)

  pub aside_all : (moves : List LoopMove) (s : LoopState) → AreLegalLoop K pop s moves → turns_of moves ≡ 0 → IsAside pop s.run.base → IsAside pop (after_loop_all K pop s moves).run.base
  aside_all [] s l t a = a
  aside_all (m ∷ moves) s l t a = aside_all moves (after_loop K pop s m) l.1 (omega (arith, t)) (aside_kept s m l.0 (omega (arith, t)) a)

  pub body_all : (moves : List LoopMove) (s : LoopState) → AreLegalLoop K pop s moves → turns_of moves ≡ 0 → IsSourceBody pop s.run.base → IsSourceBody pop (after_loop_all K pop s moves).run.base
  body_all [] s l t b = b
  body_all (m ∷ moves) s l t b = body_all moves (after_loop K pop s m) l.1 (omega (arith, t)) (body_kept s m l.0 (omega (arith, t)) b)

  -- moves that cost nothing leave the base
  module _ (z : Sizes) where
    still : (s : LoopState) (m : LoopMove) → LegalLoop K pop s m → cost z (m ∷ []) ≡ 0 → (after_loop K pop s m).run.base ≡ s.run.base
    still s (Plain (Arrive g)) l c = refl
    still s (Plain (Do x)) l c = absurd (omega (arith, c))
    still s (Plain (Enter v)) l c = absurd (omega (arith, c))
    still s (Plain Leave) l c = absurd (omega (arith, c))
    still s (Plain (Start k)) l c = absurd (omega (arith, c))
    still s (Plain Finish) l c = absurd (omega (arith, c))
    still s Calls l c = absurd (omega (arith, c))
    still s (Pops k) l c = absurd (omega (arith, c))
    still s (Takes k) l c = absurd (omega (arith, c))

    pub still_all : (moves : List LoopMove) (s : LoopState) → AreLegalLoop K pop s moves → cost z moves ≡ 0 → (after_loop_all K pop s moves).run.base ≡ s.run.base
    still_all [] s l c = refl
    still_all (m ∷ moves) s l c = still_all moves (after_loop K pop s m) l.1 (omega (arith, c)) ∙ still s m l.0 (omega (arith, c))

    pub stays_out : (moves : List LoopMove) (s : LoopState) → AreLegalLoop K pop s moves → cost z moves ≡ 0 → is_inside s.run.base ≡ false → StaysOut K pop s moves
    stays_out [] s l c o = o
    stays_out (m ∷ moves) s l c o = (o, stays_out moves (after_loop K pop s m) l.1 (omega (arith, c)) (ap is_inside (still s m l.0 (omega (arith, c))) ∙ o))
