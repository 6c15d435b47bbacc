-- What a pointer moves over by a number (C99, 6.5.6).
use Rattle.nm_base.specs.declared.pos.Pos.{Pos}
use Rattle.nesc_core.specs.Plain.{Ty}
use Rattle.nesc_types.specs.Rule.{Rule, ◌>>=◌}
use Rattle.std.specs.Prelude.{List}
use Rattle.elab_meaning.specs.Convert.{Stride, integer, stride}
use Rattle.elab_meaning.specs.Scope.{Struct}

abbrev pub moved_stride : List Struct → Pos → (t u : Ty) → Rule Stride
moved_stride structs at t u = do
  b ← integer at u
  stride structs at t
