-- The kernel's program and the program: types of places, parts of objects and which tests they answer alike.
use Rattle.std.proofs.Common.{◌≡◌, ℕ, ◌<◌, List, [], ◌∷◌, length, refl, ap}
use Rattle.std.specs.Prelude.{◌==◌, slice_get}
use Rattle.std.specs.List.{flat_map, list_any}
use Rattle.nesc_core.specs.Plain.{Ty, Place, Object, Program}
use Rattle.nesc_core.specs.Plain as plain
use Rattle.nesc_core.specs.PlaceTypes.{place_type, element_of, field_type, fields_of, object_type}
use Rattle.nesc_core.specs.Parts.{addresses, is_part, parts_of_object}
use Rattle.nesc_core.specs.Typing.{IsPlace}
use Rattle.task_queue.specs.Posting.{posting_place}
use Rattle.task_queue.specs.Kernel.{bytes_object, kernel_program}
use Rattle.kernel_contract.proofs.Lists.{get_front, filter_front}

module _ (p : Program) (types : List Ty) where
  abbrev K : Program
  K = kernel_program p

  pub object_same : (k : ℕ) → k < length p.objects → slice_get K.objects k ≡ slice_get p.objects k
  object_same k lt = get_front p.objects (bytes_object p ∷ []) k lt

  pub place_type_same : (place : Place) → IsPlace p types place → place_type K types (posting_place (length p.bodies) place) ≡ place_type p types place
  place_type_same (plain.object k) h = ap object_type (object_same k h)
  place_type_same (plain.local x) h = refl
  place_type_same (plain.deref e t) h = refl
  place_type_same (plain.index place e) h = ap element_of (place_type_same place h.1)
  place_type_same (plain.field place k) h = ap (λ t. field_type (slice_get (fields_of p.structs t) k)) (place_type_same place h.1)

-- no pointer points to the kernel's bytes
pub is_part_same : (p : Program) (t : Ty) (a : ℕ) → is_part (kernel_program p) t a ≡ is_part p t a
is_part_same p t a = ap (λ (os : List Object). list_any (λ x. x == a) (addresses t (flat_map (parts_of_object p.structs) os))) (filter_front (λ (o : Object). o.taken) p.objects (bytes_object p) refl)
