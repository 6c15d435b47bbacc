-- Instances and lines, one after the other.
use Rattle.std.proofs.Common.{◌≡◌, ℕ, suc, ◌+◌, ◌<◌, ◌≤◌, Bool, true, false, cond, not, List, [], ◌∷◌, ◌++◌, map, Option, Some, None, Result, Ok, Err, length, drop, get_or, refl, sym, ap, ◌∙◌, arith, is_some}
use Rattle.std.proofs.Math.Seq.{drop-cons}
use Rattle.std.proofs.Math.ListN.{drop_of_length-le}
use Rattle.std.proofs.lemmas.List.{map-append}
use Rattle.nm_base.specs.declared.fault.Fault.{Fault}
use Rattle.nesc_core.specs.Plain.{Ty}
use Rattle.nesc_tree.specs.declared.components.ConfLine.{ConfLine}
use Rattle.nesc_types.specs.Rule.{Rule}
use Rattle.elab_exprs.proofs.Faults.{passes}
use Rattle.elab_meaning.specs.Answers.{FaultIs}
use Rattle.elab_meaning.specs.Elab.{State, after}
use Rattle.wire_instances.specs.declared.plan.Made.{Made}
use Rattle.wire_pairs.specs.declared.facts.LineFacts.{LineFacts}
use Rattle.wire_pairs.proofs.Steps.{next_of}
use Rattle.wire_facts.specs.Components.{line_of}
use Rattle.wire_facts.specs.Scopes.{Base}
use Rattle.wire_facts.specs.Seen.{Application, Behind, Course, Seen, Sight, Survey, Told, behind, component_of, env_of, goes_on_to, instances_told, line_then, line_told, lines_told, sight, single_specified, singles_specified, survey, told, with_next}
use Rattle.wire_told.specs.Cuts.{instance_seen}

none_made : Made
none_made = record { component = 0; copy = 0; maker = None }

next_made : (ms : List Made) (k : ℕ) → k < length ms → drop k ms ≡ get_or ms k none_made ∷ drop (k + 1) ms
next_made ms k below =
    let more : suc k ≡ k + 1 = omega arith in
    drop-cons ms k none_made below ∙ ap (λ j. get_or ms k none_made ∷ drop j ms) more

-- one more at the end
pub one_more : {S T : Type 0} (f : S → T) (xs ys : List S) (y : S) → ys ≡ xs ++ y ∷ [] → map f ys ≡ map f xs ++ f y ∷ []
one_more f xs ys y is = ap (map f) is ∙ map-append f xs (y ∷ [])

-- ---- specifications

module _ (app : Application) (b : Base) where
  abbrev pub single : (k : ℕ) → List Ty → State → Rule ((Seen × List Ty) × State)
  single k types st = single_specified b (env_of app k) (component_of app k) (is_some (component_of app k).generic) types st

  next_single : (ms : List Made) (k : ℕ) (x : Survey) (st : State) → k < length ms
      → singles_specified app b k (drop k ms) x st ≡ after (single k x.types st) (λ one. singles_specified app b (k + 1) (drop (k + 1) ms) (with_next x one))
  next_single ms k x st below = ap (λ xs. singles_specified app b k xs x st) (next_made ms k below)

  pub single_passed : (ms : List Made) (k : ℕ) (x : Survey) (st st1 : State) (one : Seen) (types : List Ty) (more : List Seen) (whole : Rule (Survey × State))
      → whole ≡ singles_specified app b k (drop k ms) x st → k < length ms → single k x.types st ≡ Ok ((one, types), st1) → more ≡ x.seen ++ one ∷ []
      → whole ≡ singles_specified app b (k + 1) (drop (k + 1) ms) (survey more types) st1
  single_passed ms k x st st1 one types more whole is below e m =
      is ∙ next_single ms k x st below
      ∙ ap (λ r. after r (λ f. singles_specified app b (k + 1) (drop (k + 1) ms) (with_next x f))) e
      ∙ ap (λ (seen : List Seen). singles_specified app b (k + 1) (drop (k + 1) ms) (survey seen types) st1) (sym m)

  pub single_failed : (ms : List Made) (k : ℕ) (x : Survey) (st : State) (e : Fault) (whole : Rule (Survey × State))
      → whole ≡ singles_specified app b k (drop k ms) x st → k < length ms → FaultIs e (single k x.types st) → FaultIs e whole
  single_failed ms k x st e whole is below f = let same = is ∙ next_single ms k x st below in rw same (passes e _ _ f)

  -- ---- lines

  next_line : (i k : ℕ) (ls : List ConfLine) (j : ℕ) (l : ConfLine) (x : Survey) (st : State) (before : List LineFacts) → j < length ls → l ≡ get_or ls j l
      → lines_told app b i k (map line_of (drop j ls)) x st before
      ≡ line_then before (line_told app b i k (line_of l) x st) (lines_told app b i (k + 1) (map line_of (drop (j + 1) ls)))
  next_line i k ls j l x st before below is = ap (λ xs. lines_told app b i k (map line_of xs) x st before) (next_of ls j l below is)

  pub line_passed : (i k : ℕ) (ls : List ConfLine) (j : ℕ) (l : ConfLine) (x : Survey) (st : State) (before more : List LineFacts) (whole : Told) (f : LineFacts) (seen : List Seen) (c : Course) (goes_on : Bool)
      → whole ≡ lines_told app b i k (map line_of (drop j ls)) x st before → j < length ls → l ≡ get_or ls j l
      → line_told app b i k (line_of l) x st ≡ behind f seen (cond goes_on (Some c) None) → not goes_on ≡ false → more ≡ before ++ f ∷ []
      → whole ≡ lines_told app b i (k + 1) (map line_of (drop (j + 1) ls)) (survey seen c.0) c.1 more
  line_passed i k ls j l x st before more whole f seen c true is below isl e on m =
      is ∙ next_line i k ls j l x st before below isl
      ∙ ap (λ (y : Behind). line_then before y (lines_told app b i (k + 1) (map line_of (drop (j + 1) ls)))) e
      ∙ ap (lines_told app b i (k + 1) (map line_of (drop (j + 1) ls)) (survey seen c.0) c.1) (sym m)
  line_passed i k ls j l x st before more whole f seen c false is below isl e on m = absurd (cc)

  pub line_refused : (i k : ℕ) (ls : List ConfLine) (j : ℕ) (l : ConfLine) (x : Survey) (st : State) (before more : List LineFacts) (whole : Told) (f : LineFacts) (seen : List Seen) (c : Course) (goes_on : Bool)
      → whole ≡ lines_told app b i k (map line_of (drop j ls)) x st before → j < length ls → l ≡ get_or ls j l
      → line_told app b i k (line_of l) x st ≡ behind f seen (cond goes_on (Some c) None) → not goes_on ≡ true → more ≡ before ++ f ∷ []
      → whole ≡ told more seen None
  line_refused i k ls j l x st before more whole f seen c true is below isl e off m = absurd (cc)
  line_refused i k ls j l x st before more whole f seen c false is below isl e off m =
      is ∙ next_line i k ls j l x st before below isl
      ∙ ap (λ (y : Behind). line_then before y (lines_told app b i (k + 1) (map line_of (drop (j + 1) ls)))) e
      ∙ ap (λ (ms : List LineFacts). told ms seen None) (sym m)

  pub lines_end : (i k : ℕ) (ls : List ConfLine) (j : ℕ) (x : Survey) (st : State) (before : List LineFacts) (whole : Told)
      → whole ≡ lines_told app b i k (map line_of (drop j ls)) x st before → length ls ≤ j → whole ≡ told before x.seen (Some (x.types, st))
  lines_end i k ls j x st before whole is h = is ∙ ap (λ xs. lines_told app b i k (map line_of xs) x st before) (drop_of_length-le ls h)

  -- ---- instances

  abbrev pub onward : Sight → (List Seen → Course → Sight) → Sight
  onward x next = goes_on_to x.seen x.course next

  next_instance : (ms : List Made) (k : ℕ) (seen : List Seen) (c : Course) → k < length ms
      → instances_told app b k (drop k ms) seen c ≡ onward (instance_seen app b k seen c) (instances_told app b (k + 1) (drop (k + 1) ms))
  next_instance ms k seen c below = ap (λ xs. instances_told app b k xs seen c) (next_made ms k below)

  pub instance_passed : (ms : List Made) (k : ℕ) (seen more : List Seen) (c d : Course) (whole : Sight) (goes_on : Bool)
      → whole ≡ instances_told app b k (drop k ms) seen c → k < length ms → instance_seen app b k seen c ≡ sight more (cond goes_on (Some d) None) → goes_on ≡ true
      → whole ≡ instances_told app b (k + 1) (drop (k + 1) ms) more d
  instance_passed ms k seen more c d whole true is below e on =
      is ∙ next_instance ms k seen c below ∙ ap (λ (y : Sight). onward y (instances_told app b (k + 1) (drop (k + 1) ms))) e
  instance_passed ms k seen more c d whole false is below e on = absurd (cc)

  pub instance_refused : (ms : List Made) (k : ℕ) (seen more : List Seen) (c d : Course) (whole : Sight) (goes_on : Bool)
      → whole ≡ instances_told app b k (drop k ms) seen c → k < length ms → instance_seen app b k seen c ≡ sight more (cond goes_on (Some d) None) → goes_on ≡ false
      → whole ≡ sight more None
  instance_refused ms k seen more c d whole true is below e off = absurd (cc)
  instance_refused ms k seen more c d whole false is below e off =
      is ∙ next_instance ms k seen c below ∙ ap (λ (y : Sight). onward y (instances_told app b (k + 1) (drop (k + 1) ms))) e

  pub instances_end : (ms : List Made) (k : ℕ) (seen : List Seen) (c : Course) (whole : Sight)
      → whole ≡ instances_told app b k (drop k ms) seen c → length ms ≤ k → whole ≡ sight seen (Some c)
  instances_end ms k seen c whole is h = is ∙ ap (λ xs. instances_told app b k xs seen c) (drop_of_length-le ms h)

pub ruleset ends = (drop_of_length-le)
