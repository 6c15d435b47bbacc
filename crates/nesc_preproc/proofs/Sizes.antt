-- The measure of a scan falls.
use Rattle.std.specs.Prelude.{◌≡◌, ℕ, ◌+◌, ◌-◌, ◌*◌, ◌^◌, ◌<◌}
use Rattle.std.proofs.Common.{◌≤◌, Bool, true, false, suc, List, [], ◌∷◌, length, ap, ◌∙◌, arith}
use Rattle.std.proofs.lemmas.Nat.{pow_pos, pow-add}
use Rattle.std.proofs.Math.Nat.{mul-le-mul_right}
use Rattle.nm_base.specs.declared.token.Token.{Token}
use Rattle.nesc_preproc.specs.Lines.{begins_directive, behind_line, behind_run}
use Rattle.nesc_preproc.specs.Scan.{size_at}

fewer : (P x y o : ℕ) → 0 < P → x < y → (x + 1) * P + o < (y + 1) * P + o
fewer P x y o positive less = omega (arith, positive, mul-le-mul_right {m = x + 2} {n = y + 1} P (omega (arith, less)))

-- fewer tokens are left of a file
pub fewer_left : (depth x y o : ℕ) → x < y → size_at depth x + o < size_at depth y + o
fewer_left depth x y o less = fewer (2 ^ (64 * (200 - depth))) x y o (pow_pos (64 * (200 - depth))) less

header_below : (h Q : ℕ) → 0 < Q → h + 1 < 2 ^ 64 → (h + 1) * Q < 2 ^ 64 * Q
header_below h Q positive small = omega (arith, mul-le-mul_right {m = h + 2} {n = 2 ^ 64} Q (omega (arith, small)))

opened_inside : (P Q h b y o : ℕ) → P ≡ 2 ^ 64 * Q → 0 < Q → h + 1 < 2 ^ 64 → b < y → (h + 1) * Q + ((b + 1) * P + o) < (y + 1) * P + o
opened_inside P Q h b y o is-P positive small less =
    let header : (h + 1) * Q < P = rw is-P (header_below h Q positive small) in
    omega (arith, header, mul-le-mul_right {m = b + 2} {n = y + 1} P (omega (arith, less)))

-- a header is opened, which has less weight than the token before it
pub header_opened : (depth h b y o : ℕ) → depth < 200 → h + 1 < 2 ^ 64 → b < y → size_at (depth + 1) h + (size_at depth b + o) < size_at depth y + o
header_opened depth h b y o few small less =
    opened_inside (2 ^ (64 * (200 - depth))) (2 ^ (64 * (200 - (depth + 1)))) h b y o
    (ap (λ e. 2 ^ e) {x = 64 * (200 - depth)} {y = 64 + 64 * (200 - (depth + 1))} (omega (arith, few)) ∙ pow-add 2 64 (64 * (200 - (depth + 1))))
    (pow_pos (64 * (200 - (depth + 1)))) small less

-- a file is closed
pub closed_file : (depth x o : ℕ) → o < size_at depth x + o
closed_file depth x o = omega (arith, pow_pos (64 * (200 - depth)), mul-le-mul_right {m = 1} {n = x + 1} (2 ^ (64 * (200 - depth))) (omega arith))

run_shorter_by : (b : Bool) (t : Token) (ts : List Token) → length (behind_run ts) ≤ length ts → length (elim b as (λ _. List Token) [ true ↦ t ∷ ts | false ↦ behind_run ts ]) ≤ suc (length ts)
run_shorter_by true t ts h = omega arith
run_shorter_by false t ts h = omega (arith, h)

-- what is left is no longer
pub run_shorter : (ts : List Token) → length (behind_run ts) ≤ length ts
run_shorter [] = omega arith
run_shorter (t ∷ ts) = run_shorter_by (begins_directive t) t ts (run_shorter ts)

line_shorter_by : (b : Bool) (t : Token) (ts : List Token) → length (behind_line ts) ≤ length ts → length (elim b as (λ _. List Token) [ true ↦ t ∷ ts | false ↦ behind_line ts ]) ≤ suc (length ts)
line_shorter_by true t ts h = omega arith
line_shorter_by false t ts h = omega (arith, h)

pub line_shorter : (ts : List Token) → length (behind_line ts) ≤ length ts
line_shorter [] = omega arith
line_shorter (t ∷ ts) = line_shorter_by t.first t ts (line_shorter ts)
