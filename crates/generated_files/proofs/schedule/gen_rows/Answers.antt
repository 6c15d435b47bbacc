use Rattle.std.proofs.Common.{◌≡◌, [], ◌∷◌}
use Rattle.mote_devices.specs.declared.shown.Due.{Due}
use Rattle.generated_files.specs.Schedule.{arrival, generated_rows}
use Rattle.generated_files.proofs.schedule.gen_rows.Goals as goal

ten : (r0 r1 r2 r3 r4 r5 r6 r7 r8 r9 : Due) → r0 ≡ arrival 0 → r1 ≡ arrival 1 → r2 ≡ arrival 2 → r3 ≡ arrival 3 → r4 ≡ arrival 4 → r5 ≡ arrival 5 → r6 ≡ arrival 6 → r7 ≡ arrival 7 → r8 ≡ arrival 8 → r9 ≡ arrival 9
    → r0 ∷ r1 ∷ r2 ∷ r3 ∷ r4 ∷ r5 ∷ r6 ∷ r7 ∷ r8 ∷ r9 ∷ [] ≡ generated_rows
ten r0 r1 r2 r3 r4 r5 r6 r7 r8 r9 e0 e1 e2 e3 e4 e5 e6 e7 e8 e9 = λ i. e0 i ∷ e1 i ∷ e2 i ∷ e3 i ∷ e4 i ∷ e5 i ∷ e6 i ∷ e7 i ∷ e8 i ∷ e9 i ∷ []

pub returns : goal.returns
returns c =
    ten _ _ _ _ _ _ _ _ _ _ c.arrival.ensures c.arrival-2.ensures c.arrival-3.ensures c.arrival-4.ensures c.arrival-5.ensures c.arrival-6.ensures c.arrival-7.ensures c.arrival-8.ensures c.arrival-9.ensures c.arrival-10.ensures
