-- Tables of all instances, and where their numbers begin.
use Rattle.std.proofs.Common.{◌≡◌, ℕ, zero, suc, ◌+◌, List, [], ◌∷◌, ◌++◌, length, slice_get, refl, ap, ◌∙◌}
use Rattle.program_meaning.specs.Numbers.{bodies_in, ends, first_bodies, first_dispatch, or_none, tasks_in}
use Rattle.program_meaning.specs.Parts.{Application, Instance}
use Rattle.elab_targets.specs.Places.{ArePlaces}
use Rattle.elab_targets.specs.Starts.{AllPlaces, AreOf, AreTables, bodies_of, starts, tasks_of}
use Rattle.elab_targets.specs.declared.places.Places.{Places}
use Rattle.elab_targets.specs.declared.tables.Tables.{Tables}

bodies_begin : (is : List Instance) (ts : List Places) (from : ℕ) → AllPlaces is ts → starts bodies_of from ts ≡ ends bodies_in from is
bodies_begin [] [] from all = refl
bodies_begin [] (t ∷ ts) from all = absurd all
bodies_begin (i ∷ is) [] from all = absurd all
bodies_begin (i ∷ is) (t ∷ ts) from all =
    ap (λ (n : ℕ). from ∷ starts bodies_of (from + n) ts) all.0.bodies_are ∙ ap (λ ns. from ∷ ns) (bodies_begin is ts (from + bodies_in i.decls) all.1)

tasks_begin : (is : List Instance) (ts : List Places) (from : ℕ) → AllPlaces is ts → starts tasks_of from ts ≡ ends tasks_in from is
tasks_begin [] [] from all = refl
tasks_begin [] (t ∷ ts) from all = absurd all
tasks_begin (i ∷ is) [] from all = absurd all
tasks_begin (i ∷ is) (t ∷ ts) from all =
    ap (λ (n : ℕ). from ∷ starts tasks_of (from + n) ts) all.0.tasks_count ∙ ap (λ ns. from ∷ ns) (tasks_begin is ts (from + tasks_in i.decls) all.1)

pub same_length : (is : List Instance) (ts : List Places) → AllPlaces is ts → length ts ≡ length is
same_length [] [] all = refl
same_length [] (t ∷ ts) all = absurd all
same_length (i ∷ is) [] all = absurd all
same_length (i ∷ is) (t ∷ ts) all = ap suc (same_length is ts all.1)

pub one_of : (is : List Instance) (ts : List Places) (k : ℕ) → AllPlaces is ts → AreOf (slice_get is k) (slice_get ts k)
one_of [] [] k all = tt
one_of [] (t ∷ ts) k all = absurd all
one_of (i ∷ is) [] k all = absurd all
one_of (i ∷ is) (t ∷ ts) zero all = all.0
one_of (i ∷ is) (t ∷ ts) (suc k) all = one_of is ts k all.1

pub one_more : (is : List Instance) (ts : List Places) (i : Instance) (t : Places) → AllPlaces is ts → ArePlaces i.decls t → AllPlaces (is ++ i ∷ []) (ts ++ t ∷ [])
one_more [] [] i t all are = (are, tt)
one_more [] (u ∷ ts) i t all are = absurd all
one_more (j ∷ is) [] i t all are = absurd all
one_more (j ∷ is) (u ∷ ts) i t all are = (all.0, one_more is ts i t all.1 are)

pub tables_made : (app : Application) (t : Tables) → ArePlaces app.headers t.headers → AllPlaces app.instances t.instances.items
    → t.first_bodies.items ≡ starts bodies_of (bodies_of t.headers) t.instances.items → t.first_tasks.items ≡ starts tasks_of 0 t.instances.items → AreTables app t
tables_made app t headers instances bodies tasks = record {
  of_headers = headers;
  of_instances = instances;
  bodies_begin = bodies ∙ ap (λ (n : ℕ). starts bodies_of n t.instances.items) headers.bodies_are ∙ bodies_begin app.instances t.instances.items (bodies_in app.headers) instances;
  tasks_begin = tasks ∙ tasks_begin app.instances t.instances.items 0 instances;
}

pub dispatch_begins : (app : Application) (t : Tables) → AreTables app t → (numbers : List ℕ) (at : ℕ) → numbers ≡ t.first_bodies.items → at ≡ length t.instances.items
    → or_none (slice_get numbers at) ≡ first_dispatch app
dispatch_begins app t are numbers at is place =
    ap (λ (ns : List ℕ). or_none (slice_get ns at)) (is ∙ are.bodies_begin)
    ∙ ap (λ (k : ℕ). or_none (slice_get (first_bodies app) k)) (place ∙ same_length app.instances t.instances.items are.of_instances)
