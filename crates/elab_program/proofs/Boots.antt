-- The boot function among the bodies.
use Rattle.std.proofs.Common.{◌≡◌, ℕ, zero, suc, ◌<◌, ◌≤◌, List, [], ◌∷◌, length, map, slice_index_or, slice_set, Result, Ok, Err, IfOk, ap, ◌∙◌, refl, arith}
use Rattle.nesc_core.specs.declared.tree.Body as rust
use Rattle.nesc_core.specs.Plain as core
use Rattle.nesc_core.specs.Plain.{Body, Ty}
use Rattle.nesc_core.specs.View.{body_of}
use Rattle.elab_program.specs.Parts as parts

module _ (locals : List Ty) (initial : List core.Stmt) where
  pub none_there : (bodies : List rust.Body) (k : ℕ) → length bodies ≤ k → map body_of bodies ≡ parts.with_boot locals initial k (map body_of bodies)
  none_there [] k h = refl
  none_there (b ∷ bs) zero h = absurd (omega (arith, h))
  none_there (b ∷ bs) (suc k) h = ap (λ (xs : List Body). body_of b ∷ xs) (none_there bs k (omega (arith, h)))

  -- one body is another
  pub boot_there : (bodies : List rust.Body) (k : ℕ) (b new d : rust.Body) → k < length bodies → b ≡ slice_index_or bodies k d
      → body_of new ≡ parts.booting locals initial (body_of b) → map body_of (slice_set bodies k new) ≡ parts.with_boot locals initial k (map body_of bodies)
  boot_there [] k b new d below is made = absurd (omega (arith, below))
  boot_there (x ∷ xs) zero b new d below is made =
      ap (λ (y : Body). y ∷ map body_of xs) (made ∙ ap (λ (z : rust.Body). parts.booting locals initial (body_of z)) is)
  boot_there (x ∷ xs) (suc k) b new d below is made =
      ap (λ (ys : List Body). body_of x ∷ ys) (boot_there xs k b new d (omega (arith, below)) is made)

pub if_ok : {X E P Q : Type 0} (r : Result X E) → (P → Q) → IfOk r (λ _. P) → IfOk r (λ _. Q)
if_ok (Ok x) f p = f p
if_ok (Err e) f p = tt
