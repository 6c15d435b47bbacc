-- That lowered programs keep the rules of form of middle code (own).
use Rattle.nesc_core.specs.Plain.{Program}
use Rattle.nesc_core.specs.WellFormed.{IsWellFormed}
use Rattle.mid_code.specs.Form.{IsMidCode}
use Rattle.lower_stmt.specs.Bodies.{lowered}
use Rattle.lower_form.specs.Short.{IsNumbered, IsShort}

abbrev pub FormIsKept : Type 0
FormIsKept = (p : Program) → IsWellFormed p → IsShort p → IsMidCode (lowered p)

abbrev pub NumbersAreSmall : Type 0
NumbersAreSmall = (p : Program) → IsShort p → IsNumbered p
