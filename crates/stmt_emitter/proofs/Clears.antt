-- The first of locals that become 0.
use Rattle.std.proofs.Common.{◌≡◌, ℕ, zero, suc, ◌+◌, ◌-◌, ◌<◌, ◌++◌, ap, arith}
use Rattle.expr_emitter.specs.declared.scope.Scope.{Scope}
use Rattle.stmt_emitter.specs.Located.{clear_in, clears_in}

pub first_clear : (s : Scope) (base count x l : ℕ) → 0 < count → clears_in s base count x l ≡ clear_in s base x l ++ clears_in s base (count - 1) (x + 1) (l + 2)
first_clear s base zero x l h = absurd (omega arith)
first_clear s base (suc n) x l h =
    let k : n ≡ suc n - 1 = omega arith in
    ap (λ m. clear_in s base x l ++ clears_in s base m (x + 1) (l + 2)) k
