-- What has to nest is begun exactly where something may nest.
use Rattle.std.proofs.Common.{◌≡◌, ◌<◌, ℕ, zero, suc, Bool, true, false, cond, Err, refl, arith}
use Rattle.nesc_tree.specs.Form.{Form, Place, next, starts}
use Rattle.nesc_tree.specs.Reading.{Answer, nests, stop, short, guarded}

pub open_guard : {A : Type 0} (spare : ℕ) (g : Form A) (p : Place) (x : Answer A) → 0 < spare → guarded spare g p x ≡ x
open_guard {A = A} zero g p x l = absurd (omega arith)
open_guard {A = A} (suc n) g p x l =
    let by : (b : Bool) → ◌≡◌ {A = Answer A} (cond b (short (suc n) (starts g (next p)) p.rest (suc n) x) x) x = elim [ true ↦ refl | false ↦ refl ] in
    by (nests g)

pub free_guard : {A : Type 0} (spare : ℕ) (g : Form A) (p : Place) (x : Answer A) → nests g ≡ false → guarded spare g p x ≡ x
free_guard spare g p x h = rw h refl

pub shut_guard : {A : Type 0} (spare : ℕ) (g : Form A) (p : Place) (x : Answer A) → spare ≡ 0 → nests g ≡ true → guarded spare g p x ≡ Err (stop (starts g (next p)) p.rest)
shut_guard spare g p x z h = rw z (rw h refl)
