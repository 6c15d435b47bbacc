-- The program of the first run is well formed.
use Rattle.std.proofs.Common.{take, zero, suc, arith, All, [], refl}
use Rattle.nm_base.specs.declared.int_type.IntType.TheVariants.{I16, U8}
use Rattle.nesc_core.specs.Plain.{void, int}
use Rattle.nesc_core.specs.Typing.{IsType, IsScalar}
use Rattle.nesc_core.specs.WellFormed.{IsBody, IsWellFormed}
use Rattle.core_meaning.specs.BootBody.{ecombine, booted, default_init, default_booted, boot, dispatch_init}
use Rattle.act_rows.specs.FirstRun.{app, writes, first_run}

byte_is : IsType [] (int U8)
byte_is = record { sized = record { names = tt; small = tt }; points = tt }

void_is : IsType [] void
void_is = record { sized = record { names = tt; small = tt }; points = tt }

ecombine_is : IsBody first_run ecombine
ecombine_is = record {
  params = omega arith;
  passed = scalars;
  locals = bytes;
  result = byte_is;
  given = tt;
  code = ((tt, (refl, (int I16, (tt, ((int I16, tt, (refl, tt, (refl, (int U8, (tt, (refl, tt, omega arith)))), (refl, (int U8, (tt, (refl, tt, omega arith)))))), (refl, (int U8, (tt, (refl, tt, omega arith)))), (refl, refl)))))), tt);
  frame = omega arith;
  heres = λ k d inside. absurd (omega arith);
}
  where
    scalars : All IsScalar (take 2 ecombine.locals)
    scalars zero d inside = tt
    scalars (suc zero) d inside = tt
    scalars (suc (suc k)) d inside = absurd (omega arith)

    bytes : All (IsType []) ecombine.locals
    bytes zero d inside = byte_is
    bytes (suc zero) d inside = byte_is
    bytes (suc (suc k)) d inside = absurd (omega arith)

booted_is : IsBody first_run (booted app writes)
booted_is = record {
  params = omega arith;
  passed = λ k d inside. absurd (omega arith);
  locals = λ k d inside. absurd (omega arith);
  result = void_is;
  given = tt;
  code = ((void, (refl, refl, (refl, (int I16, (tt, (refl, refl)))))), ((void, (refl, refl, (refl, (int I16, (tt, (refl, refl)))))), tt));
  frame = omega arith;
  heres = λ k d inside. absurd (omega arith);
}

default_init_is : IsBody first_run default_init
default_init_is = record {
  params = omega arith;
  passed = λ k d inside. absurd (omega arith);
  locals = λ k d inside. absurd (omega arith);
  result = byte_is;
  given = tt;
  code = ((tt, (refl, (int I16, (tt, (refl, refl))))), tt);
  frame = omega arith;
  heres = λ k d inside. absurd (omega arith);
}

default_booted_is : IsBody first_run default_booted
default_booted_is = record {
  params = omega arith;
  passed = λ k d inside. absurd (omega arith);
  locals = λ k d inside. absurd (omega arith);
  result = void_is;
  given = tt;
  code = tt;
  frame = omega arith;
  heres = λ k d inside. absurd (omega arith);
}

boot_is : IsBody first_run boot
boot_is = record {
  params = omega arith;
  passed = λ k d inside. absurd (omega arith);
  locals = λ k d inside. absurd (omega arith);
  result = void_is;
  given = tt;
  code = (((int U8, (refl, tt)), tt), ((void, (refl, tt)), tt));
  frame = omega arith;
  heres = λ k d inside. absurd (omega arith);
}

dispatch_init_is : IsBody first_run dispatch_init
dispatch_init_is = record {
  params = omega arith;
  passed = λ k d inside. absurd (omega arith);
  locals = λ k d inside. absurd (omega arith);
  result = byte_is;
  given = tt;
  code = ((tt, (refl, tt)), tt);
  frame = omega arith;
  heres = λ k d inside. absurd (omega arith);
}

bodies_are : All (IsBody first_run) first_run.bodies
bodies_are zero d inside = ecombine_is
bodies_are (suc zero) d inside = booted_is
bodies_are (suc (suc zero)) d inside = default_init_is
bodies_are (suc (suc (suc zero))) d inside = default_booted_is
bodies_are (suc (suc (suc (suc zero)))) d inside = boot_is
bodies_are (suc (suc (suc (suc (suc zero))))) d inside = dispatch_init_is
bodies_are (suc (suc (suc (suc (suc (suc k)))))) d inside = absurd (omega arith)

pub first_run_is : IsWellFormed first_run
first_run_is = record {
  structs = record { lower = λ k inside. absurd (omega arith); small = λ k inside. absurd (omega arith); small_whole = λ k inside. absurd (omega arith) };
  fields = λ k d inside. absurd (omega arith);
  objects = λ k d inside. absurd (omega arith);
  addresses = omega arith;
  bodies = bodies_are;
  tasks = λ k d inside. absurd (omega arith);
  handlers = λ k d inside. absurd (omega arith);
  lines = λ k d inside. absurd (omega arith);
  differ = λ i j d lt inside. absurd (omega arith);
  boot = (refl, refl);
  boot_atomic = tt;
}
