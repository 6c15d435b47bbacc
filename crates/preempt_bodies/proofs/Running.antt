-- Open code that runs: the history that it has, and how it goes on.
use Rattle.std.proofs.Common.{◌≡◌, ℕ, suc, ◌<◌, ◌≤◌, ◌==◌, Bool, true, false, cond, List, [], ◌∷◌, ◌++◌, length, Option, Some, None, refl, sym, ap, subst, ◌∙◌, arith, append_assoc, append-nil, length-append}
use Rattle.std.proofs.lemmas.Bool.Decides.{nat_tests}
use Rattle.std.specs.Prelude.{is_some}
use Rattle.std.specs.List.{AllByRecursion}
use Rattle.nm_base.specs.declared.action.Action.{Action}
use Rattle.nm_base.specs.declared.action.Action.TheVariants as action
use Rattle.nm_base.specs.Behaviour.{Performed}
use Rattle.msp430_cpu.specs.Cpu.{Cpu}
use Rattle.open_law.specs.Open.{Done, Moment, IsMoment, Open, Code, silent, fault_in, fault_of, is_back, is_over, went, open_all, open_start, IsOpenCode, IsBetween, IsFair, IsSilent}
use Rattle.open_law.proofs.Wider.{open_on}

not_so : false ≡ true → ⊥
not_so h = cc

pub all-append : {A : Type 0} (Q : A → Type 0) (a b : List A) → AllByRecursion Q a → AllByRecursion Q b → AllByRecursion Q (a ++ b)
all-append Q [] b h k = k
all-append Q (x ∷ a) b h k = (h.0, all-append Q a b h.1 k)

module _ (act : List ℕ → ℕ → Performed) (code : Code) (lowest bound : ℕ) (Gate Back : Open → Type 0) (c : Cpu) (ram : ℕ → ℕ) (law : IsOpenCode act code lowest bound Gate Back c ram) where
  abbrev pub open_at : List Moment → Open
  open_at moments = open_all code moments (open_start c ram)

  -- The code is in the middle. Nothing was done in the instructions since
  pub record IsRunning (before since : List Moment) : Type 0 where
    pub before_ok : AllByRecursion IsMoment before
    pub since_ok : AllByRecursion IsMoment since
    pub going : is_over code.top (open_at (before ++ since)) ≡ false
    pub quiet : length (open_at (before ++ since)).done ≡ length (open_at before).done
    pub few : length since < bound

  pub all_ok : (before since : List Moment) → IsRunning before since → AllByRecursion IsMoment (before ++ since)
  all_ok before since h = all-append IsMoment before since h.before_ok h.since_ok

  pub between_at : (before since : List Moment) → IsRunning before since → IsBetween act code lowest Gate Back (open_at (before ++ since))
  between_at before since h = law.between (before ++ since) (all_ok before since h)

  pub fair_at : (before since : List Moment) (now : Moment) → IsRunning before since → IsMoment now → IsFair code now (open_at (before ++ since))
  fair_at before since now h ok = law.fair (before ++ since) now (all_ok before since h) ok h.going

  -- one instruction more
  pub one_more : (before since : List Moment) (now : Moment) → IsRunning before since → open_at ((before ++ since) ++ now ∷ []) ≡ went code now (open_at (before ++ since))
  one_more before since now h = open_on code (before ++ since) (now ∷ []) (open_start c ram) ∙ ap (λ t. cond t (open_at (before ++ since)) (went code now (open_at (before ++ since)))) h.going

  pub between_after : (before since : List Moment) (now : Moment) → IsRunning before since → IsMoment now → IsBetween act code lowest Gate Back (went code now (open_at (before ++ since)))
  between_after before since now h ok = subst (IsBetween act code lowest Gate Back) (one_more before since now h) (law.between ((before ++ since) ++ now ∷ []) (all-append IsMoment (before ++ since) (now ∷ []) (all_ok before since h) (ok, tt)))

  -- how it goes on where it is not over
  pub record GoesOn (before since : List Moment) (now : Moment) : Type 0 where
    pub before' : List Moment
    pub since' : List Moment
    pub runs : IsRunning before' since'
    pub same : open_at (before' ++ since') ≡ went code now (open_at (before ++ since))
    pub left : length (went code now (open_at (before ++ since))).done ≡ length (open_at (before ++ since)).done → length since' ≡ suc (length since)

  pub goes_on : (before since : List Moment) (now : Moment) → 1 ≤ bound → IsRunning before since → IsMoment now → is_over code.top (went code now (open_at (before ++ since))) ≡ false → GoesOn before since now
  goes_on before since now some h ok on = by_length (length (went code now (open_at (before ++ since))).done == length (open_at (before ++ since)).done) refl
    where
      o' : Open
      o' = went code now (open_at (before ++ since))

      there : open_at ((before ++ since) ++ now ∷ []) ≡ o'
      there = one_more before since now h

      all : List Moment
      all = (before ++ since) ++ now ∷ []

      -- it did something
      anew : (length o'.done ≡ length (open_at (before ++ since)).done → ⊥) → GoesOn before since now
      anew differs =
          let e : open_at (all ++ []) ≡ o' = ap open_at (append-nil all) ∙ there in
          record {
            before' = all;
            since' = [];
            runs = record {
              before_ok = all-append IsMoment (before ++ since) (now ∷ []) (all_ok before since h) (ok, tt);
              since_ok = tt;
              going = ap (is_over code.top) e ∙ on;
              quiet = ap (λ l. length (open_at l).done) (append-nil all);
              few = some;
            };
            same = e;
            left = λ k. absurd (differs k);
          }

      -- it did nothing
      on_quietly : length o'.done ≡ length (open_at (before ++ since)).done → GoesOn before since now
      on_quietly still =
          let e : open_at (before ++ (since ++ now ∷ [])) ≡ o' = ap open_at (sym (append_assoc before since (now ∷ []))) ∙ there in
          let n : length (since ++ now ∷ []) ≡ suc (length since) = length-append since (now ∷ []) ∙ omega arith in
          let q : length (open_at (before ++ (since ++ now ∷ []))).done ≡ length (open_at before).done = ap (λ (o : Open). length o.done) e ∙ still ∙ h.quiet in
          let s = all-append IsMoment since (now ∷ []) h.since_ok (ok, tt) in
          let late : length (since ++ now ∷ []) ≡ bound → ⊥ = λ full. not_so (sym on ∙ ap (is_over code.top) (sym e) ∙ law.soon before (since ++ now ∷ []) h.before_ok s full q) in
          record {
            before' = before;
            since' = since ++ now ∷ [];
            runs = record {
              before_ok = h.before_ok;
              since_ok = s;
              going = ap (is_over code.top) e ∙ on;
              quiet = q;
              few = let f = h.few in grind (arith, n, f, late);
            };
            same = e;
            left = λ k. n;
          }

      by_length : (t : Bool) → (length o'.done == length (open_at (before ++ since)).done) ≡ t → GoesOn before since now
      by_length true e = on_quietly (grind (arith, nat_tests))
      by_length false e = anew (λ k. grind (arith, nat_tests))

-- faults of lists that are joined
pub fault-append : (a b : List Done) → fault_of a ≡ None → fault_of (a ++ b) ≡ fault_of b
fault-append [] b h = refl
fault-append (d ∷ a) b h = by_action d.action (fault-append a b) h
  where
    by_action : (x : Action) → (fault_of a ≡ None → fault_of (a ++ b) ≡ fault_of b) → fault_in x (fault_of a) ≡ None → fault_in x (fault_of (a ++ b)) ≡ fault_of b
    by_action (action.Load y w) rec e = rec e
    by_action (action.Store y w v) rec e = rec e
    by_action (action.In p) rec e = rec e
    by_action (action.Out p v) rec e = rec e
    by_action (action.Post k) rec e = rec e
    by_action action.Begin rec e = rec e
    by_action action.End rec e = rec e
    by_action action.Tick rec e = rec e
    by_action (action.Fault code) rec e = absurd (let z : ⊥ = cc in z)

pub marks_no_fault : (marks : List Action) → AllByRecursion IsSilent marks → fault_of (silent marks) ≡ None
marks_no_fault [] h = refl
marks_no_fault (action.Load y w ∷ more) h = absurd h.0
marks_no_fault (action.Store y w v ∷ more) h = absurd h.0
marks_no_fault (action.In p ∷ more) h = absurd h.0
marks_no_fault (action.Out p v ∷ more) h = absurd h.0
marks_no_fault (action.Post k ∷ more) h = absurd h.0
marks_no_fault (action.Begin ∷ more) h = marks_no_fault more h.1
marks_no_fault (action.End ∷ more) h = marks_no_fault more h.1
marks_no_fault (action.Tick ∷ more) h = marks_no_fault more h.1
marks_no_fault (action.Fault code ∷ more) h = absurd h.0

-- what goes on has raised no fault, and is not back
pub not_back : (top : ℕ) (o : Open) → is_over top o ≡ false → (is_back top o ≡ false) × (fault_of o.done ≡ None)
not_back top o h = by_back (is_back top o) refl h
  where
    by_fault : (x : Option ℕ) → is_some x ≡ false → x ≡ None
    by_fault None e = refl
    by_fault (Some y) e = absurd (not_so (sym e))

    by_back : (t : Bool) → is_back top o ≡ t → cond t true (is_some (fault_of o.done)) ≡ false → (is_back top o ≡ false) × (fault_of o.done ≡ None)
    by_back true b e = absurd (not_so (sym e))
    by_back false b e = (b, by_fault (fault_of o.done) e)
