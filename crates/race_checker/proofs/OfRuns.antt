-- Each access of the base outside atomic, in each run, has a site with a bare path.
use Rattle.std.proofs.Common.{◌≡◌, ℕ, zero, suc, ◌+◌, ◌≤◌, count_by, cond, Bool, false, inl, inr, List, [], ◌∷◌, ◌++◌, Option, Some, None, refl, sym, subst, arith, append_assoc}
use Rattle.std.specs.Prelude.{slice_get, IsSomeAnd}
use Rattle.std.proofs.lemmas.Bool.Decides.{nat_tests}
use Rattle.std.proofs.lemmas.Option.{none-some}
use Rattle.std.proofs.lemmas.List.Sums.{sum_by-cons}
use Rattle.nm_base.specs.Lists.{IsPrefixOf}
use Rattle.nm_base.specs.declared.action.Action.{Action}
use Rattle.nm_base.specs.declared.action.Action.TheVariants.{Load, Store, In, Out, Post, Begin, End, Tick, Fault}
use Rattle.mote_devices.specs.declared.state.BoardState.{BoardState}
use Rattle.nesc_core.specs.Plain.{Program}
use Rattle.nm_base.specs.Behaviour.{Behaviour, Returns, Does, Asks, Faults, Cut, performed, is_begin, is_end}
use Rattle.core_meaning.specs.Source.{act_of}
use Rattle.core_meaning.specs.SourceOf.{source_of}
use Rattle.core_meaning.specs.Act.{root}
use Rattle.run_meaning.specs.declared.Move.{Move}
use Rattle.run_meaning.specs.declared.Move.TheVariants.{Arrive, Do, Enter, Leave, Start, Finish}
use Rattle.run_meaning.specs.State.{Context, State, start, acting_of, is_inside}
use Rattle.run_meaning.specs.Runs.{CanDo, Legal, answers_to, effect, with_made, base_after, body_at, after, after_all, AreLegal}
use Rattle.call_graph.specs.Paths.{IsIn, base_roots}
use Rattle.race_checker.specs.Report.{TouchesBare}
use Rattle.race_checker.specs.Bare.{Accesses, IsLaidOut, HasBareSite, IsBareAccess, EachBareAccessHasASite, ReportIsSound}
use Rattle.race_checker.proofs.Keeps.{open_after, Owes, Keeps}
use Rattle.race_checker.proofs.Places.{Layouts}
use Rattle.nesc_core.specs.Laws.{EachStructIsItsFields}
use Rattle.race_checker.proofs.Laid.{layouts_of}
use Rattle.call_graph.proofs.Lists.{in_at}
use Rattle.race_checker.proofs.Roots.{root_keeps}

-- ---- lists of actions

abbrev opened_by : List Action → ℕ → ℕ
opened_by [] d = d
opened_by (a ∷ more) d = opened_by more (open_after a d)

abbrev AllOwe : (Fine : ℕ → Bool → Type 0) → (opened : ℕ) → List Action → Type 0
AllOwe Fine d [] = Unit {0}
AllOwe Fine d (a ∷ more) = Owes Fine d a × AllOwe Fine (open_after a d) more

all_owe : (Fine : ℕ → Bool → Type 0) (b : Behaviour) (d : ℕ) → Keeps Fine d b → (answers : List ℕ) → AllOwe Fine d (performed b answers).actions
all_owe Fine (Returns v) d h answers = tt
all_owe Fine (Does a b) d h answers = (h.0, all_owe Fine b (open_after a d) h.1 answers)
all_owe Fine (Asks a b) d h [] = (h.0, tt)
all_owe Fine (Asks a b) d h (x ∷ answers) = (h.0, all_owe Fine (b x) (open_after a d) (h.1 x) answers)
all_owe Fine (Faults code) d h answers = (tt, tt)
all_owe Fine Cut d h answers = tt

next_owes : (Fine : ℕ → Bool → Type 0) (made : List Action) (a : Action) (rest : List Action) (d : ℕ) → AllOwe Fine d ((made ++ a ∷ []) ++ rest) → Owes Fine (opened_by made d) a
next_owes Fine [] a rest d h = h.0
next_owes Fine (x ∷ made) a rest d h = next_owes Fine made a rest (open_after x d) h.1

balanced : (Fine : ℕ → Bool → Type 0) (made rest : List Action) (d : ℕ) → AllOwe Fine d (made ++ rest) → count_by is_begin made + d ≡ count_by is_end made + opened_by made d
balanced Fine [] rest d h = refl
balanced Fine (Load a is_word ∷ made) rest d h = balanced Fine made rest d h.1
balanced Fine (Store a is_word v ∷ made) rest d h = balanced Fine made rest d h.1
balanced Fine (In port ∷ made) rest d h = balanced Fine made rest d h.1
balanced Fine (Out port v ∷ made) rest d h = balanced Fine made rest d h.1
balanced Fine (Post k ∷ made) rest d h = balanced Fine made rest d h.1
balanced Fine (Begin ∷ made) rest d h = let r : count_by is_begin made + suc d ≡ count_by is_end made + opened_by made (suc d) = balanced Fine made rest (suc d) h.1 in
    let c : count_by is_begin (Begin ∷ made) ≡ 1 + count_by is_begin made = sum_by-cons (λ x. cond (is_begin x) 1 0) Begin made in omega (arith, r, c)
balanced Fine (End ∷ made) rest zero h = absurd (omega (arith, h.0))
balanced Fine (End ∷ made) rest (suc d) h = let r : count_by is_begin made + d ≡ count_by is_end made + opened_by made d = balanced Fine made rest d h.1 in
    let c : count_by is_end (End ∷ made) ≡ 1 + count_by is_end made = sum_by-cons (λ x. cond (is_end x) 1 0) End made in omega (arith, r, c)
balanced Fine (Tick ∷ made) rest d h = balanced Fine made rest d h.1
balanced Fine (Fault code ∷ made) rest d h = balanced Fine made rest d h.1

-- ---- the base begins with the boot body or a task's

abbrev BeginsAtRoot : Program → Option Context → Type 0
BeginsAtRoot p None = Unit {0}
BeginsAtRoot p (Some c) = (f : ℕ) × (c.body ≡ Some f) × IsIn f (base_roots p)

module _ (p : Program) where
  same_base : (s : State) (a : Action) → BeginsAtRoot p s.base → BeginsAtRoot p (effect (source_of p) s a).base
  same_base s (Load a is_word) h = h
  same_base s (Store a is_word v) h = h
  same_base s (In port) h = h
  same_base s (Out port v) h = h
  same_base s (Post k) h = h
  same_base s Begin h = h
  same_base s End h = h
  same_base s Tick h = h
  same_base s (Fault code) h = h

  still_root : (a : Action) (answers : List ℕ) (handler base : Option Context) → BeginsAtRoot p base → BeginsAtRoot p (base_after handler (with_made a answers) base)
  still_root a answers (Some c) base h = h
  still_root a answers None None h = tt
  still_root a answers None (Some c) h = h

  task_root : (k : ℕ) (o : Option ℕ) → slice_get p.tasks k ≡ o → BeginsAtRoot p (body_at o)
  task_root k None is = tt
  task_root k (Some f) is = (f, refl, inr (in_at f p.tasks k is))

  root_after : (s : State) (m : Move) → BeginsAtRoot p s.base → BeginsAtRoot p (after (source_of p) s m).base
  root_after s (Arrive g) h = h
  root_after s (Do a) h = still_root a (answers_to s a) (effect (source_of p) s a).handler (effect (source_of p) s a).base (same_base s a h)
  root_after s (Enter v) h = h
  root_after s Leave h = h
  root_after s (Start k) h = task_root k (slice_get p.tasks k) refl
  root_after s Finish h = tt

  root_at_end : (s : State) (moves : List Move) → BeginsAtRoot p s.base → BeginsAtRoot p (after_all (source_of p) s moves).base
  root_at_end s [] h = h
  root_at_end s (m ∷ ms) h = root_at_end (after (source_of p) s m) ms (root_after s m h)

  last_legal : (s : State) (moves : List Move) (m : Move) → AreLegal (source_of p) s (moves ++ m ∷ []) → Legal (source_of p) (after_all (source_of p) s moves) m
  last_legal s [] m h = h.0
  last_legal s (x ∷ moves) m h = last_legal (after (source_of p) s x) moves m h.1

  -- ---- the accesses of the base

  module _ (layouts : Layouts p) (laid : IsLaidOut p) where
    an_access : (d : ℕ) (a : Action) (address : ℕ) (is_word : Bool) → Accesses a address is_word → d ≡ 0 → Owes (HasBareSite p) d a → HasBareSite p address is_word
    an_access d (Load a w) address is_word is none h = subst (λ x. HasBareSite p x is_word) is.0 (subst (λ x. HasBareSite p a x) is.1 (h none))
    an_access d (Store a w v) address is_word is none h = subst (λ x. HasBareSite p x is_word) is.0 (subst (λ x. HasBareSite p a x) is.1 (h none))
    an_access d (In port) address is_word is none h = absurd is
    an_access d (Out port v) address is_word is none h = absurd is
    an_access d (Post k) address is_word is none h = absurd is
    an_access d Begin address is_word is none h = absurd is
    an_access d End address is_word is none h = absurd is
    an_access d Tick address is_word is none h = absurd is
    an_access d (Fault code) address is_word is none h = absurd is

    of_context : (c : Context) (a : Action) (f : ℕ) → c.body ≡ Some f → IsIn f (base_roots p) → is_inside (Some c) ≡ false → CanDo (source_of p) a c
        → (address : ℕ) (is_word : Bool) → Accesses a address is_word → HasBareSite p address is_word
    of_context c a f body is_root outside can address is_word is =
        let prefix : IsPrefixOf (c.made ++ a ∷ []) (act_of (source_of p) (Some f) c.answers can.0).actions =
        subst (λ o. IsPrefixOf (c.made ++ a ∷ []) (act_of (source_of p) o c.answers can.0).actions) body can.1 in
        let all : AllOwe (HasBareSite p) 0 ((c.made ++ a ∷ []) ++ prefix.0) =
        subst (AllOwe (HasBareSite p) 0) (sym prefix.1) (all_owe (HasBareSite p) (root p f can.0) 0 (root_keeps p layouts laid can.0 f is_root) c.answers) in
        let same : count_by is_begin c.made + 0 ≡ count_by is_end c.made + opened_by c.made 0 =
        balanced (HasBareSite p) c.made (a ∷ prefix.0) 0 (subst (AllOwe (HasBareSite p) 0) (append_assoc c.made (a ∷ []) prefix.0) all) in
        let le : count_by is_begin c.made ≤ count_by is_end c.made = grind (arith, nat_tests) in
        an_access (opened_by c.made 0) a address is_word is (omega (arith, same, le)) (next_owes (HasBareSite p) c.made a prefix.0 0 all)

    of_state : (handler base : Option Context) (a : Action) → handler ≡ None → is_inside base ≡ false → BeginsAtRoot p base → IsSomeAnd (acting_of handler base) (CanDo (source_of p) a)
        → (address : ℕ) (is_word : Bool) → Accesses a address is_word → HasBareSite p address is_word
    of_state (Some h) base a none outside roots can = absurd (none-some h (sym none))
    of_state None None a none outside roots can = absurd can
    of_state None (Some c) a none outside roots can = of_context c a roots.0 roots.1 roots.2 outside can

    pub bare_site : (b : BoardState) (moves : List Move) (address : ℕ) (is_word : Bool) → IsBareAccess p b moves address is_word → HasBareSite p address is_word
    bare_site b moves address is_word bare =
        let s : State = after_all (source_of p) (start (source_of p) b) moves in
        of_state s.handler s.base bare.action bare.no_handler bare.outside (root_at_end (start (source_of p) b) moves (p.boot, refl, inl refl))
        (last_legal (start (source_of p) b) moves (Do bare.action) bare.run).1 address is_word bare.access

pub every_bare_site : EachStructIsItsFields → EachBareAccessHasASite
every_bare_site law p laid b moves address is_word bare = bare_site p (layouts_of p law laid) laid b moves address is_word bare

pub sound : EachStructIsItsFields → ReportIsSound
sound law p laid report b moves x address is_word shared byte bare =
    let site = every_bare_site law p laid b moves address is_word bare in
    let same : site.object ≡ x = laid.apart site.object x byte.0 (site.inside byte.0 byte.1 byte.2) byte.3 in
    report.all x site.body site.node site.pos site.path shared (subst (λ y. TouchesBare p y site.body site.node site.pos) same site.touching) site.is_path
