-- What one line more gives.
use Rattle.std.proofs.Common.{◌≡◌, ℕ, zero, suc, ◌+◌, ◌<◌, ◌≤◌, List, [], ◌∷◌, ◌++◌, length, drop, get_or, Option, Ok, Err, refl, ap, ◌∙◌, arith, add-one, drop-cons}
use Rattle.std.proofs.Common.{true, nat_lt, count_by, ◌==◌, length-append}
use Rattle.std.proofs.lemmas.Bool.{lt-ltb}
use Rattle.std.proofs.Math.ListN.{drop_of_length-le}
use Rattle.nm_base.specs.declared.limit.TheConstants.{MAX_INSTANCES}
use Rattle.wire_instances.specs.declared.plan.Plan.{Plan}
use Rattle.wire_instances.specs.declared.plan.Line.{Line}
use Rattle.wire_instances.specs.declared.plan.Made.{Made}
use Rattle.wire_instances.specs.declared.plan.Maker.{Maker}
use Rattle.wire_instances.specs.declared.naming.Stop.{Stop}
use Rattle.wire_instances.specs.Instances.{Creates, go_on, named, all_named, created, lines_of, specified, Enough, all_levels}

-- some line of a list that has one
first : (lines : List Line) (at : ℕ) → at < length lines → Line
first [] at lt = absurd (omega arith)
first (r ∷ rs) at lt = r

module _ (create : Creates) (plans : List Plan) (around : List ℕ) (number : ℕ) where
  pub all_named_more : (lines : List Line) (at : ℕ) (r : Line) (made : List Made) → at < length lines → all_named create plans around number at (drop at lines) made ≡ go_on (named create plans around number at (get_or lines at r) made) (λ more. all_named create plans around number (at + 1) (drop (at + 1) lines) more)
  all_named_more lines at r made within =
      let split : drop at lines ≡ get_or lines at r ∷ drop (at + 1) lines = rw (add-one, drop-cons lines at r) in
      rw split refl

-- the lines of a new instance before place `at` have led from `old`, with the instance, to `now`
pub record SoFar (plans : List Plan) (around : List ℕ) (component : ℕ) (maker : Option Maker) (old : List Made) (lines : List Line) (at : ℕ) (now : List Made) : Type 0 where
  pub grows : length old < length now
  pub room : length old < MAX_INSTANCES
  pub by : (levels : ℕ) → Enough (suc levels) old → created (suc levels) plans around component maker old ≡ all_named (created levels plans) plans (around ++ component ∷ []) (length old) at (drop at lines) now

module _ (plans : List Plan) (around : List ℕ) (component : ℕ) (maker : Option Maker) (old : List Made) where
  one_copy : ℕ → Made
  one_copy copy = record { component = component; copy = copy; maker = maker }

  pub so_far_none : (copy : ℕ) → copy ≡ count_by (λ (m : Made). m.component == component) old → length old < MAX_INSTANCES → specified plans component ≡ Ok tt → SoFar plans around component maker old (lines_of plans component) 0 (old ++ record { component = component; copy = copy; maker = maker } ∷ [])
  so_far_none copy e room fine = record {
    grows = omega (arith, length-append old (record { component = component; copy = copy; maker = maker } ∷ []));
    room = room;
    by = λ levels enough. (let t : nat_lt (length old) MAX_INSTANCES ≡ true = lt-ltb (length old) MAX_INSTANCES room in rw (t, e, fine) refl);
  }

  -- a component whose specification is refused is not created
  pub unspecified : (e : Stop) → length old < MAX_INSTANCES → specified plans component ≡ Err e → (levels : ℕ) → Enough levels old → created levels plans around component maker old ≡ Err e
  unspecified e room bad zero enough = absurd (omega (arith, enough, room))
  unspecified e room bad (suc levels) enough =
      let t : nat_lt (length old) MAX_INSTANCES ≡ true = lt-ltb (length old) MAX_INSTANCES room in rw (t, bad) refl

  module _ (lines : List Line) (at : ℕ) (now : List Made) (within : at < length lines) (s : SoFar plans around component maker old lines at now) where
    inner : (levels : ℕ) → Enough (suc levels) old → Enough levels now
    inner levels enough = let g = s.grows in omega (arith, enough, g)

    pub so_far_more : (next : List Made) → length now ≤ length next → ((levels : ℕ) (r : Line) → Enough levels now → named (created levels plans) plans (around ++ component ∷ []) (length old) at (get_or lines at r) now ≡ Ok next) → SoFar plans around component maker old lines (at + 1) next
    so_far_more next more on = record {
      grows = let g = s.grows in omega arith;
      room = s.room;
      by = λ levels enough. s.by levels enough ∙ (all_named_more (created levels plans) plans (around ++ component ∷ []) (length old) lines at (first lines at within) now within ∙ ap (λ o. go_on o (λ m. all_named (created levels plans) plans (around ++ component ∷ []) (length old) (at + 1) (drop (at + 1) lines) m)) (on levels (first lines at within) (inner levels enough)));
    }

    pub so_far_refused : (e : Stop) → ((levels : ℕ) (r : Line) → Enough levels now → named (created levels plans) plans (around ++ component ∷ []) (length old) at (get_or lines at r) now ≡ Err e) → (levels : ℕ) → Enough levels old → created levels plans around component maker old ≡ Err e
    so_far_refused e on zero enough = absurd (let g = s.room in omega (arith, enough, g))
    so_far_refused e on (suc levels) enough =
        s.by levels enough ∙ (all_named_more (created levels plans) plans (around ++ component ∷ []) (length old) lines at (first lines at within) now within ∙ ap (λ o. go_on o (λ m. all_named (created levels plans) plans (around ++ component ∷ []) (length old) (at + 1) (drop (at + 1) lines) m)) (on levels (first lines at within) (inner levels enough)))

  pub so_far_all : (lines : List Line) (at : ℕ) (now : List Made) → length lines ≤ at → SoFar plans around component maker old lines at now → (levels : ℕ) → Enough levels old → created levels plans around component maker old ≡ Ok now
  so_far_all lines at now past s zero enough = absurd (let g = s.room in omega (arith, enough, g))
  so_far_all lines at now past s (suc levels) enough =
      s.by levels enough ∙ ap (λ rs. all_named (created levels plans) plans (around ++ component ∷ []) (length old) at rs now) (drop_of_length-le lines past)

pub all_enough : (made : List Made) → Enough all_levels made
unfolding all_levels
all_enough made = omega arith
