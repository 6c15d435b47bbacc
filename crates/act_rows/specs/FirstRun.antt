-- The program of a module that writes 5 and then 2 to the LEDs when the mote has booted.
use Rattle.std.specs.Prelude.{ℕ, pos, true, List, [], ◌∷◌, codes}
use Rattle.nm_base.specs.declared.int_type.IntType.TheVariants.{I16, U16}
use Rattle.nesc_core.specs.Plain.{Stmt, Program, const, convert, port_out, eval, block, atomic, call, no_exprs}
use Rattle.core_meaning.specs.BootBody.{WrittenConstant, one, in_mainc, constant_writes_program}

abbrev pub app : List ℕ
app = codes "OneC"

abbrev pub writes : List WrittenConstant
writes = record { port = 0x0120; value = 5; is_decimal = true } ∷ record { port = 0x0120; value = 2; is_decimal = true } ∷ []

abbrev pub first_run : Program
first_run = constant_writes_program app writes

-- port_write(0x0120, n);
abbrev pub led_written : ℕ → Stmt
led_written n = eval (port_out 0x0120 (convert U16 (const I16 (pos n))))

-- atomic { call SoftwareInit.init(); }
abbrev pub initialised : Stmt
initialised = atomic (block (one (eval (call 5 no_exprs (in_mainc 6 14)))))
