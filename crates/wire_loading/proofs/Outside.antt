-- What two calls do to the outside, one after the other.
use Rattle.std.proofs.Common.{◌≡◌, ℕ, refl, ◌∙◌, sym, ap, subst, arith, List, Result, Ok, Err}
use Rattle.nm_base.specs.declared.fault.Fault.{Fault}
use Rattle.nm_base.specs.declared.fault.Fault.TheVariants as fault
use Rattle.nm_base.specs.Outside.{FilesSeen, Rose}
use Rattle.nm_base.proofs.Writing.{rose_earlier}
use Rattle.wire_reading.specs.Told.{Counts, IfMissing}

abbrev fault_of : {A : Type 0} → Result A Fault → Fault
fault_of (Ok x) = fault.NoMemory
fault_of (Err e) = e

missing : (A B : Type 0) (e : Fault) (P Q : List ℕ → Type 0) → ((name : List ℕ) → P name → Q name) → IfMissing {A = A} (Err e) P → IfMissing {A = B} (Err e) Q
missing A B (fault.Missing name) P Q goes is = goes name is
missing A B _ P Q goes is = tt

-- the second call gave no answer
pub behind : (A B C : Type 0) (x : A) (e : Fault) (r : Result C Fault) (old mid new : FilesSeen) → r ≡ Err e → Counts (Ok x) old mid
    → Counts {A = B} (Err e) mid new → Counts r old new
behind A B C x e r old mid new is c d = record {
  same = d.same ∙ c.same;
  faults_kept = omega (arith, c.faults_kept, d.faults_kept);
  misses_kept = λ name. omega (arith, c.misses_kept name, d.misses_kept name);
  read_fault = λ bad. rose_earlier old.faults mid.faults new.faults c.faults_kept (d.read_fault (ap (λ (y : Fault). Err y) (ap fault_of (sym is ∙ bad))));
  missing =
      subst (λ (q : Result C Fault). IfMissing q (λ name. Rose (old.misses name) (new.misses name))) (sym is)
      (missing B C e (λ name. Rose (mid.misses name) (new.misses name)) (λ name. Rose (old.misses name) (new.misses name))
      (λ name. rose_earlier (old.misses name) (mid.misses name) (new.misses name) (c.misses_kept name)) d.missing);
}

-- the second call's answer is given
pub later : (A C : Type 0) (x : A) (r : Result C Fault) (old mid new : FilesSeen) → Counts (Ok x) old mid → Counts r mid new → Counts r old new
later A C x (Ok y) old mid new c d = record {
  same = d.same ∙ c.same;
  faults_kept = omega (arith, c.faults_kept, d.faults_kept);
  misses_kept = λ name. omega (arith, c.misses_kept name, d.misses_kept name);
  read_fault = λ is. absurd cc;
  missing = tt;
}
later A C x (Err e) old mid new c d = behind A C C x e (Err e) old mid new refl c d

-- ---- another answer of the same sort

pub given : (A B : Type 0) (q : Result A Fault) (x : A) (y : B) (old new : FilesSeen) → q ≡ Ok x → Counts q old new → Counts (Ok y) old new
given A B q x y old new is c = record {
  same = c.same;
  faults_kept = c.faults_kept;
  misses_kept = c.misses_kept;
  read_fault = λ bad. absurd cc;
  missing = tt;
}

pub refused : (A B : Type 0) (q : Result A Fault) (e : Fault) (old new : FilesSeen) → q ≡ Err e → Counts q old new → Counts {A = B} (Err e) old new
refused A B q e old new is c = record {
  same = c.same;
  faults_kept = c.faults_kept;
  misses_kept = c.misses_kept;
  read_fault = λ bad. c.read_fault (is ∙ ap (λ (y : Fault). Err y) (ap fault_of bad));
  missing =
      missing A B e (λ name. Rose (old.misses name) (new.misses name)) (λ name. Rose (old.misses name) (new.misses name)) (λ name p. p)
      (subst (λ (r : Result A Fault). IfMissing r (λ name. Rose (old.misses name) (new.misses name))) is c.missing);
}
