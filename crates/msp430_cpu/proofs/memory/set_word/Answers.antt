use Rattle.std.proofs.Common.{◌≤◌, ◌<◌, ◌+◌, ◌/◌, ◌%◌, suc, drop, length, slice_set, arith, ap, ◌∙◌}
use Rattle.std.proofs.lemmas.Bool.Decides.{nat_tests}
use Rattle.std.proofs.lemmas.List.{take_at}
use Rattle.msp430_cpu.specs.Kept.{ram_map}
use Rattle.msp430_cpu.proofs.RamWord.{ram_set_word}
use Rattle.msp430_cpu.proofs.memory.set_word.Goals as goal

pub returns-clause-map : goal.returns-clause-map
returns-clause-map c =
    let items = c.args.ram.now.items in
    let new = c.put_word.new.bytes in
    let a = c.args.address in
    let i = c.from.result in
    let low = c.args.value % 256 in
    let high = c.args.value / 256 % 256 in
    let in_ram = c.requires.ram in
    let above : 0x1100 ≤ a = grind (arith, nat_tests) in
    let within : a < 0x3900 = grind (arith, nat_tests) in
    let below : a + 1 < 0x3900 = omega (arith, within, c.requires.even) in
    ap ram_map
    (take_at new (drop (length new) items) c.args.ram.now.len (c.put_word.ensures.length ∙ c.deref_mut.ensures.len)
    ∙ c.put_word.ensures.bytes
    ∙ ap (λ l. slice_set (slice_set l i low) (suc i) high) c.deref_mut.ensures.value)
    ∙ ram_set_word items a i low high c.requires.full above below c.from.ensures
