use Rattle.std.proofs.Common.{drop, map}
use Rattle.std.specs.List.{AllByRecursion}
use Rattle.nesc_core.specs.Plain.{Field}
use Rattle.nesc_core.specs.Size.{NamesBelow}
use Rattle.nesc_core.specs.View.{field_of}
use Rattle.kernel_code.proofs.structs.are_below.Given as goal

abbrev pub invariant-loop-field : goal.invariant-loop-field
invariant-loop-field l =
    AllByRecursion (λ (f : Field). NamesBelow l.number f.ty) (map field_of (drop l.field-index l.fields))
    → AllByRecursion (λ (f : Field). NamesBelow l.number f.ty) (map field_of l.fields)
