-- Each row is computed.
use Rattle.std.proofs.Common.{arith, refl}
use Rattle.msp_layout.proofs.rows.worked_rows.Goals as goal

pub returns : goal.returns
returns c = record {
  forth_511 = record { back = omega arith; forth = omega arith };
  forth_512 = λ r. omega (arith, r.forth);
  back_512 = record { back = omega arith; forth = omega arith };
  back_513 = λ r. omega (arith, r.back);
  word_511 = refl;
  word_back_512 = refl;
  word_itself = refl;
  long_jmp = refl;
  long_jeq = refl;
  long_jge = refl;
  long_jn = refl;
  call = refl;
  address = refl;
}
