-- A conversion to the same type is none, and one to another wraps.
use Rattle.std.proofs.Common.{◌≡◌, ℤ, Bool, true, false, List, if◌then◌else◌, sym, refl}
use Rattle.nm_base.specs.declared.int_type.IntType.{IntType}
use Rattle.nm_base.specs.declared.int_type.IntType.TheVariants.{I8, U8, I16, U16, I32, U32}
use Rattle.nm_base.specs.IntType.{wrapped}
use Rattle.nm_base.specs.Behaviour.{Behaviour}
use Rattle.nesc_core.specs.Parts.{same_int}
use Rattle.nesc_core.specs.Plain.{Ty, Expr, Program, convert}
use Rattle.core_meaning.specs.Act.{Calls, value}
use Rattle.core_meaning.specs.Work.{Locals}
use Rattle.elab_meaning.specs.Convert.{to_int}
use Rattle.elab_meaning.specs.Laws.{GivesNumbersOf, ConversionsWrap}

pub wraps : ConversionsWrap
wraps I8 I8 e given p types calls next locals = sym (given p types calls next locals)
wraps U8 U8 e given p types calls next locals = sym (given p types calls next locals)
wraps I16 I16 e given p types calls next locals = sym (given p types calls next locals)
wraps U16 U16 e given p types calls next locals = sym (given p types calls next locals)
wraps I32 I32 e given p types calls next locals = sym (given p types calls next locals)
wraps U32 U32 e given p types calls next locals = sym (given p types calls next locals)
wraps _ _ e given p types calls next locals = refl
