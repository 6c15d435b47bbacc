use Rattle.std.proofs.Common.{◌-◌, ◌/◌, ◌%◌, ◌++◌, arith, ap, ◌∙◌, take, length}
use Rattle.std.specs.Prelude.{drop}
use Rattle.msp430_cpu.proofs.RamWord.{two_put}
use Rattle.msp430_cpu.proofs.memory.put_word.Goals as goal

pub returns-clause-bytes : goal.returns-clause-bytes
returns-clause-bytes c =
    let bytes = c.args.bytes.now in
    let i = c.args.index in
    let k = length bytes - i in
    ap (λ l. take i bytes ++ (l ++ drop k (drop i bytes))) c.write_u16.ensures
    ∙ two_put bytes i k (c.args.value % 256) (c.args.value / 256 % 256) (omega (arith, c.requires)) (omega (arith, c.requires))
