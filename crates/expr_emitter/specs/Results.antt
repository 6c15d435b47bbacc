-- What the emitter answers: the first label that code does not name, and the values that hold a result (own).
use Rattle.std.specs.Prelude.{ℕ, suc, ◌+◌, max, Bool, true, false, List, [], ◌∷◌, Some, None, slice_get, if◌then◌else◌}
use Rattle.mid_code.specs.declared.instr.Mid.{Mid}
use Rattle.mid_code.specs.declared.instr.Mid.TheVariants.{Label, Jump, Branch}
use Rattle.mid_code.specs.Help.{is_wide}
use Rattle.core_meaning.specs.Work.{number_of}
use Rattle.nesc_core.specs.Plain.{Ty, Expr, Program}
use Rattle.nesc_core.specs.Plain as plain
use Rattle.lower_expr.specs.declared.spot.Regs.{Regs}
use Rattle.lower_expr.specs.Code.{is_void}
use Rattle.lower_expr.specs.Held.{result_of}

-- the first label above those that an instruction is or names
abbrev pub above : Mid → ℕ
above (Label l) = suc l
above (Jump l) = suc l
above (Branch test x y l) = suc l
above _ = 0

-- and above those of code
abbrev pub first_label : List Mid → ℕ
first_label [] = 0
first_label (i ∷ is) = max (above i) (first_label is)

-- an expression without a value
abbrev pub is_empty : Program → Expr → Bool
is_empty p (plain.call f arguments at) = is_void (result_of (slice_get p.bodies f))
is_empty p (plain.port_out port e) = true
is_empty p (plain.choice test a b) = is_empty p a
is_empty p (plain.comma a b) = is_empty p b
is_empty p _ = false

abbrev pub no_regs : Regs
no_regs = record { low = None; high = None }

abbrev pub regs_from : (wide : Bool) → ℕ → Regs
regs_from true r = record { low = Some r; high = Some (r + 1) }
regs_from false r = record { low = Some r; high = None }

-- the values that hold a value of a type at r
abbrev pub regs_at : Ty → ℕ → Regs
regs_at ty r = if is_void ty then no_regs else regs_from (is_wide (number_of ty)) r
