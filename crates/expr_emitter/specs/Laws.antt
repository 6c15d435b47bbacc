-- What the code of an expression does with labels and values (own).
use Rattle.std.specs.Prelude.{⊤, ◌≡◌, ℕ, ◌+◌, ◌*◌, ◌<◌, ◌≤◌, List, [], ◌∷◌, Some, slice_get}
use Rattle.std.specs.List.{All}
use Rattle.mid_code.specs.declared.instr.Mid.{Mid}
use Rattle.mid_code.specs.declared.instr.Mid.TheVariants.{Jump, Branch}
use Rattle.mid_code.specs.Form.{AreBelow, times, values_read, values_written}
use Rattle.nesc_core.specs.Plain.{Ty, Expr, Program}
use Rattle.nesc_core.specs.Weights.{expr_levels}
use Rattle.lower_expr.specs.declared.spot.Regs.{Regs}
use Rattle.lower_expr.specs.declared.spot.Spot.{Spot}
use Rattle.lower_expr.specs.declared.spot.Spot.TheVariants.{Values}
use Rattle.lower_expr.specs.Code.{expr_code, labels, value_named}

-- each label that the instructions name stands in the code
abbrev pub NamesIn : List Mid → List Mid → Type 0
NamesIn code [] = ⊤
NamesIn code (Jump k ∷ is) = (1 ≤ times k code) × NamesIn code is
NamesIn code (Branch test x y k ∷ is) = (1 ≤ times k code) × NamesIn code is
NamesIn code (i ∷ is) = NamesIn code is

-- the labels in code are among n from `first` on; none stands twice, and each that it names stands in it
pub record HasLabels (first n : ℕ) (code : List Mid) : Type 0 where
  pub under : (k : ℕ) → k < first → times k code ≡ 0
  pub over : (k : ℕ) → first + n ≤ k → times k code ≡ 0
  pub once : (k : ℕ) → times k code ≤ 1
  pub named : NamesIn code code

abbrev pub LabelsDiffer : Type 0
LabelsDiffer =
    (p : Program) (types checks : List Ty) (spots : List Spot) (e : Expr) (r l : ℕ) →
    HasLabels l (labels e) (expr_code p types checks spots e r l)

-- the instruction names values below n
pub record NamesBelow (n : ℕ) (i : Mid) : Type 0 where
  pub written : AreBelow n (values_written i)
  pub read : AreBelow n (values_read i)

pub record AreRegsBelow (n : ℕ) (regs : Regs) : Type 0 where
  pub low : value_named regs.low < n
  pub high : value_named regs.high < n

abbrev pub AreSpotsBelow : ℕ → List Spot → Type 0
AreSpotsBelow n spots = (x : ℕ) (regs : Regs) → slice_get spots x ≡ Some (Values regs) → AreRegsBelow n regs

-- two values for each level, and six: an update moves its operands behind them
abbrev pub ValuesBelow : Type 0
ValuesBelow =
    (p : Program) (types checks : List Ty) (spots : List Spot) (e : Expr) (r l n : ℕ) →
    AreSpotsBelow n spots → r + (2 * expr_levels e + 6) ≤ n → All (NamesBelow n) (expr_code p types checks spots e r l)
