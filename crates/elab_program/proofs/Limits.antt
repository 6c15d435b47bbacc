-- The program within its limits is that of all bodies and sizes.
use Rattle.std.proofs.Common.{◌≡◌, ℕ, zero, suc, List, [], ◌∷◌, ◌++◌, length, Option, Some, None, Ok, Err, slice_get, ap, sym, ◌∙◌, refl}
use Rattle.nesc_core.specs.Plain.{Body, Program}
use Rattle.nesc_types.specs.Addresses.{taken}
use Rattle.nesc_types.specs.Rule.{Rule, ◌>>=◌}
use Rattle.nm_base.specs.declared.fault.Fault.{Fault}
use Rattle.nm_base.specs.declared.fault.Fault.TheVariants.{Refused, Missing, ReadFault, Limit, TooLarge, NoMemory}
use Rattle.nm_base.specs.declared.limit.Which.TheVariants as which
use Rattle.nm_base.specs.declared.limit.TheConstants.{MAX_NODES, MAX_TASKS, MAX_OBJECTS}
use Rattle.elab_meaning.specs.Answers.{FaultIs}
use Rattle.elab_objects.specs.Limits as limits
use Rattle.elab_program.specs.Parts as parts
use Rattle.program_meaning.specs.Making.{Whole, Boot}
use Rattle.program_meaning.specs.Numbers.{tasks_of}
use Rattle.program_meaning.specs.Parts.{Application}
use Rattle.program_meaning.specs.Program as spec
use Rattle.program_meaning.specs.Walk.{fields_of}

-- ---- bodies

boot_are : (w : Whole) (k : ℕ) (bs : List Body) → spec.with_boot w k bs ≡ parts.with_boot w.boot_locals w.initial k bs
boot_are w k [] = refl
boot_are w zero (b ∷ bs) = refl
boot_are w (suc k) (b ∷ bs) = ap (λ (xs : List Body). b ∷ xs) (boot_are w k bs)

-- ---- limits

frame_is : (w : Whole) (b : Option Boot) (bodies : List Body) → spec.boot_weighed w b bodies ≡ limits.boot_weighed w.work.structs b bodies
frame_is w None bodies = refl
frame_is w (Some b) bodies = by_body (slice_get bodies b.body)
  where
    by_body : (x : Option Body) → spec.body_weighed w b x ≡ limits.body_weighed w.work.structs b.at x
    by_body None = refl
    by_body (Some x) = refl

-- ---- the program with these bodies

abbrev whole_with : Whole → List Body → Whole
whole_with w bodies = record w { initial = []; boot_locals = []; bodies = bodies; dispatch = [] }

abbrev program_with : Application → Whole → List Body → Program
program_with app w bodies = record (spec.program app w) { bodies = bodies }

-- behind four rules
abbrev given : {A : Type 0} → Rule (Unit {0}) → Rule (Unit {0}) → Rule (Unit {0}) → Rule (Unit {0}) → A → Rule A
given a b c d p = do
  u ← a
  v ← b
  x ← c
  y ← d
  Ok p

-- a program is given where sizes are
sized_behind : (tasks ns : List ℕ) (w : Whole) (p : Program) → parts.program_by tasks ns w ≡ p → (a b c d : Rule (Unit {0}))
    → parts.sized_program tasks w (given a b c d ns) ≡ given a b c d p
sized_behind tasks ns w p is (Err e) b c d = refl
sized_behind tasks ns w p is (Ok u) (Err e) c d = refl
sized_behind tasks ns w p is (Ok u) (Ok v) (Err e) d = refl
sized_behind tasks ns w p is (Ok u) (Ok v) (Ok x) (Err e) = refl
sized_behind tasks ns w p is (Ok u) (Ok v) (Ok x) (Ok y) = ap (λ (q : Program). Ok q) is

with_bodies : (app : Application) (w : Whole) (bodies : List Body)
    → parts.sized_program (tasks_of app) (whole_with w bodies) (parts.within_limits (length (tasks_of app)) (whole_with w bodies))
    ≡ spec.limited w (program_with app w bodies)
with_bodies app w bodies =
    let ns : List ℕ = spec.sizes (fields_of w.work.structs) w.variables in
    let few_nodes : Rule (Unit {0}) = spec.at_most which.Nodes MAX_NODES (limits.nodes_in bodies) in
    let few_tasks : Rule (Unit {0}) = spec.at_most which.Tasks MAX_TASKS (length (tasks_of app)) in
    let room : Rule (Unit {0}) = spec.at_most which.Objects MAX_OBJECTS (taken ns) in
    ap (λ (r : Rule (Unit {0})). parts.sized_program (tasks_of app) (whole_with w bodies) (given r few_nodes few_tasks room ns))
    (sym (frame_is w w.boot bodies))
    ∙ sized_behind (tasks_of app) ns (whole_with w bodies) (program_with app w bodies) refl (spec.boot_weighed w w.boot bodies) few_nodes few_tasks room

pub program_is : (app : Application) (tasks : List ℕ) (w : Whole) → tasks ≡ tasks_of app → parts.program_of_all tasks w ≡ spec.limited w (spec.program app w)
program_is app tasks w are =
    ap (λ (ts : List ℕ). parts.program_of_all ts w) are
    ∙ with_bodies app w (parts.with_boot w.boot_locals w.initial (spec.boot_number w.boot) w.bodies ++ w.dispatch)
    ∙ ap (λ (bs : List Body). spec.limited w (program_with app w (bs ++ w.dispatch))) (sym (boot_are w (spec.boot_number w.boot) w.bodies))

-- ---- faults

pub passes : (tasks : List ℕ) (w : Whole) (e : Fault) (r : Rule (List ℕ)) → FaultIs e r → FaultIs e (parts.sized_program tasks w r)
passes tasks w NoMemory r h = tt
passes tasks w (Refused x) r h = ap (parts.sized_program tasks w) h
passes tasks w (Missing x) r h = ap (parts.sized_program tasks w) h
passes tasks w ReadFault r h = ap (parts.sized_program tasks w) h
passes tasks w (Limit x) r h = ap (parts.sized_program tasks w) h
passes tasks w (TooLarge x y) r h = ap (parts.sized_program tasks w) h

pub ruleset sized = (passes)
