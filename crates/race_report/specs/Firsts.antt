-- Which objects handlers touch, found body by body (own).
use Rattle.std.specs.Prelude.{⊤, ◌≡◌, ℕ, ◌<◌, Bool, true, false, if◌then◌else◌, List, [], ◌∷◌, length, Option, Some, None, slice_get, slice_index_or, slice_set}
use denote.Ref.{Bor}
use Rattle.nesc_core.specs.declared.tree.CoreType.{CoreType}
use Rattle.nesc_core.specs.Plain.{Ty, Program}
use Rattle.nesc_core.specs.View.{type_of}
use Rattle.least_paths.specs.Searched.{first_end}
use Rattle.race_checker.specs.Computed.{is_marked, touches_in}
use Rattle.race_report.specs.declared.touched.Touched.{Touched}
use Rattle.race_report.specs.Starts.{is_pointed}

-- by object the first body that touches it
abbrev pub first_at : List (Option ℕ) → (x : ℕ) → Option ℕ
first_at firsts x = slice_index_or firsts x None

abbrev pub is_some : Option ℕ → Bool
is_some None = false
is_some (Some f) = true

abbrev pub is_none : Option ℕ → Bool
is_none None = true
is_none (Some f) = false

-- there is such an object, and no body touched it so far
abbrev pub is_untouched : List (Option ℕ) → (x : ℕ) → Bool
is_untouched firsts x = is_none (slice_index_or firsts x (Some 0))

abbrev pub with_first : (f : ℕ) → List (Option ℕ) → (x : ℕ) → List (Option ℕ)
with_first f firsts x = if is_untouched firsts x then slice_set firsts x (Some f) else firsts

-- each of these objects, one after the other
abbrev pub with_firsts : (f : ℕ) → List (Option ℕ) → (objects : List ℕ) → List (Option ℕ)
with_firsts f firsts [] = firsts
with_firsts f firsts (x ∷ objects) = with_firsts f (with_first f firsts x) objects

-- the first body for an object, where body f is next and touches it or not
abbrev pub then_first : Option ℕ → (touches : Bool) → (f : ℕ) → Option ℕ
then_first (Some g) touches f = Some g
then_first None true f = Some f
then_first None false f = None

-- each object at which a pointer to this type may point is touched
abbrev pub IsFollowed : Program → List (Option ℕ) → Ty → Type 0
IsFollowed p firsts t = (x : ℕ) → is_pointed p t x ≡ true → is_some (first_at firsts x) ≡ true

abbrev pub AreFollowed : Program → List (Option ℕ) → List (Bor CoreType) → Type 0
AreFollowed p firsts [] = ⊤
AreFollowed p firsts (t ∷ ts) = IsFollowed p firsts (type_of t.now) × AreFollowed p firsts ts

pub record IsSound (p : Program) (s : Touched) : Type 0 where
  pub size : length s.first.items ≡ length p.objects
  pub followed : AreFollowed p s.first.items s.followed.items

-- body f touches the objects that pass
pub record HasTouched (p : Program) (f : ℕ) (test : ℕ → Bool) (old new : Touched) : Type 0 where
  pub sound : IsSound p new
  pub first : (x : ℕ) → x < length p.objects → first_at new.first.items x ≡ then_first (first_at old.first.items x) (test x) f

pub record Touches (p : Program) (f : ℕ) (test : ℕ → Bool) (old new : Touched) : Type 0 where
  pub from : IsSound p old → HasTouched p f test old new

-- of bodies in this order, the first that touches each object
abbrev pub AreFirsts : Program → (order : List ℕ) → List (Option ℕ) → Type 0
AreFirsts p order firsts = (x : ℕ) → x < length p.objects → first_at firsts x ≡ first_end (touches_in p x) order

-- the same, without objects that have `norace`
abbrev pub shared_from : Program → (order : List ℕ) → (x : ℕ) → Option ℕ
shared_from p order x = if is_marked (slice_get p.objects x) then None else first_end (touches_in p x) order
