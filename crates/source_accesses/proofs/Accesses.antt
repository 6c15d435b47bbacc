-- Each access of a body of a well-formed program, whatever it is told.
use Rattle.std.proofs.Common.{ℕ, List, [], ◌∷◌, length}
use Rattle.nm_base.specs.declared.action.Action.{Action}
use Rattle.nm_base.specs.declared.action.Action.TheVariants.{Load, Store}
use Rattle.nm_base.specs.Behaviour.{Behaviour, Returns, Does, Asks, Faults, Cut, play}
use Rattle.nesc_core.specs.Plain.{Program}
use Rattle.nesc_core.specs.Laws.{EachStructIsItsFields}
use Rattle.nesc_core.specs.WellFormed.{IsBody}
use Rattle.core_meaning.specs.Act.{calls_of}
use Rattle.source_accesses.specs.Accesses.{AccessesAreOfObjects, AreOfObjects, IsInObject, IsOfObject}
use Rattle.source_accesses.proofs.Lists.{all_at}
use Rattle.source_accesses.proofs.Keeps.{Keeps, Owes}
use Rattle.source_accesses.proofs.Bodies.{calls_go}
use Rattle.source_accesses.proofs.Objects.{objects_of}

of_object : (p : Program) (a : Action) → Owes (IsInObject p) a → IsOfObject p a
of_object p (Load a w) h = h
of_object p (Store a w v) h = h
of_object p a h = tt

of_objects : (p : Program) (b : Behaviour) → Keeps (IsInObject p) b → (answers : List ℕ) → AreOfObjects p (play b answers).actions
of_objects p (Returns v) h answers = tt
of_objects p (Does a b) h answers = (of_object p a h.0, of_objects p b h.1 answers)
of_objects p (Asks a b) h [] = (of_object p a h.0, tt)
of_objects p (Asks a b) h (x ∷ answers) = (of_object p a h.0, of_objects p (b x) (h.1 x) answers)
of_objects p (Faults code) h answers = (tt, tt)
of_objects p Cut h answers = tt

pub of_bodies : EachStructIsItsFields → AccessesAreOfObjects
of_bodies law p formed f told turns answers =
    let goes = calls_go p (objects_of p law formed) (λ f b is. all_at (IsBody p) p.bodies f b is formed.bodies) turns (length p.bodies) f in
    of_objects p (calls_of p (length p.bodies) turns f [] (λ v. Returns (told v))) (goes.by [] _ (λ v. tt)) answers
