-- What the list that is being expanded leads to, through the uses whose arguments are being expanded.
use Rattle.std.specs.Prelude.{◌≡◌, ℕ, ◌+◌, ◌-◌, ◌*◌, List, [], ◌∷◌, ◌++◌, length, map, sum_by, Option, Result, Ok, Err}
use Rattle.nm_base.specs.declared.limit.TheConstants.{MAX_TOKENS}
use Rattle.nm_base.specs.declared.fault.Fault.{Fault}
use Rattle.nm_base.specs.declared.pos.Pos.{Pos}
use Rattle.nesc_macros.specs.declared.definition.Macro.{Macro}
use Rattle.nesc_macros.specs.declared.definition.NumberedToken.{NumberedToken}
use Rattle.nesc_macros.specs.declared.frames.Frame.{Frame}
use Rattle.nesc_macros.specs.Invocation.{Name, PreprocessingToken}
use Rattle.nesc_macros.specs.Numbers.{Scope, all_shown, names_of}
use Rattle.nesc_macros.specs.Expansion.{Answer, Settles, all_of, and_then, expanded, go_on, put, substituted}
use Rattle.nesc_macros.specs.Code.{weight_of_lists}

-- a use whose arguments are being expanded, with the hide set of what replaces it, and the list that it stands in: what it
-- gave, and what follows the use
pub record Suspended : Type 0 where
  pub pos : Pos
  pub hide_set : List Name
  pub definition : Macro
  pub parameters : List Name
  pub expanded : List (List PreprocessingToken)
  pub waiting : List (List PreprocessingToken)
  pub out : List PreprocessingToken
  pub pending : List PreprocessingToken

abbrev pub suspended : Scope → Frame → Suspended
suspended scope f = record {
  pos = f.pos;
  hide_set = names_of scope f.hide_set;
  definition = f.definition.now;
  parameters = f.parameters.now;
  expanded = map (all_shown scope) f.expanded.items;
  waiting = map (all_shown scope) f.waiting.items;
  out = all_shown scope f.outer.out.items;
  pending = all_shown scope f.outer.pending;
}

abbrev pub all_suspended : Scope → List Frame → List Suspended
all_suspended scope = map (suspended scope)

-- one more argument is expanded
abbrev pub with_argument : Suspended → List PreprocessingToken → Suspended
with_argument f argument = record f { expanded = f.expanded ++ argument ∷ [] }

-- an answer behind tokens that were given before
abbrev pub value_behind : List PreprocessingToken → Result (List PreprocessingToken) Fault → Result (List PreprocessingToken) Fault
value_behind front (Ok ts) = Ok (front ++ ts)
value_behind front (Err e) = Err e

abbrev pub behind : List PreprocessingToken → Answer (List PreprocessingToken) → Answer (List PreprocessingToken)
behind front a = record { value = value_behind front a.value; count = a.count }

abbrev pub replaced : Suspended → List (List PreprocessingToken) → List PreprocessingToken
replaced f arguments = substituted f.pos f.hide_set f.parameters arguments f.definition.replacement

-- what the use and what follows it give, with its arguments expanded
abbrev pub completed : ℕ → List Macro → Suspended → List (List PreprocessingToken) → ℕ → Option (Answer (List PreprocessingToken))
completed steps macros f arguments count =
    put (length (replaced f arguments)) count (λ count. expanded steps macros count (replaced f arguments ++ f.pending))

-- the same, with the arguments that wait to be expanded
abbrev pub resumed : ℕ → List Macro → ℕ → Suspended → Option (Answer (List PreprocessingToken))
resumed steps macros count f =
    and_then (all_of (expanded steps macros) count f.waiting) (λ others count. completed steps macros f (f.expanded ++ others) count)

-- the same, where an argument has this answer
abbrev pub answered : ℕ → List Macro → Suspended → Answer (List PreprocessingToken) → Option (Answer (List PreprocessingToken))
answered steps macros f a = go_on a.value a.count (λ argument count. resumed steps macros count (with_argument f argument))

-- an answer of the innermost list is this answer of the whole
abbrev pub LeadsTo : List Macro → List Suspended → Answer (List PreprocessingToken) → Answer (List PreprocessingToken) → Type 0
LeadsTo macros [] a whole = a ≡ whole
LeadsTo macros (f ∷ outer) a whole =
    (b : Answer (List PreprocessingToken)) × Settles (λ steps. answered steps macros f a) b × LeadsTo macros outer (behind f.out b) whole

-- the whole ends so, from a list that gave `out` and of which `pending` is left
abbrev pub EndsIn : List Macro → ℕ → List Suspended → List PreprocessingToken → List PreprocessingToken → Answer (List PreprocessingToken) → Type 0
EndsIn macros count frames out pending whole =
    (b : Answer (List PreprocessingToken)) × Settles (λ steps. expanded steps macros count pending) b × LeadsTo macros frames (behind out b) whole

-- the same from a use, the innermost one, of which no argument is being expanded
abbrev pub ResumesTo : List Macro → ℕ → Suspended → List Suspended → Answer (List PreprocessingToken) → Type 0
ResumesTo macros count f outer whole =
    (b : Answer (List PreprocessingToken)) × Settles (λ steps. resumed steps macros count f) b × LeadsTo macros outer (behind f.out b) whole

abbrev pub weight_of_frame : Frame → ℕ
weight_of_frame f = weight_of_lists f.waiting.items + 2 * length f.outer.pending + 1

abbrev pub weight_of_frames : List Frame → ℕ
weight_of_frames frames = sum_by weight_of_frame frames

-- what falls with each turn
abbrev pub weight : ℕ → List Frame → List NumberedToken → ℕ
weight count frames pending = 2 * (MAX_TOKENS - count) + weight_of_frames frames + 2 * length pending
