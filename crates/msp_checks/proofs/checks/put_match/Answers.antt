use Rattle.std.proofs.Common.{◌≡◌, ℕ, ◌%◌, [], ◌∷◌, ◌++◌, map, refl, ap, ◌∙◌}
use Rattle.msp_isa.specs.declared.code.Item.{Item}
use Rattle.msp_isa.specs.declared.code.Item.TheVariants as item
use Rattle.msp_isa.specs.declared.instr.Cond.TheVariants.{Jne, Jnc}
use Rattle.msp_isa.specs.declared.instr.Op2.TheVariants.{Mov, Cmp}
use Rattle.open_law.specs.Homes.{literal}
use Rattle.msp_runtime.specs.Code.{items_from, operation_item}
use Rattle.msp_runtime.specs.Pieces.{shifted}
use Rattle.msp_runtime.specs.Routines.{register}
use Rattle.msp_checks.specs.Checks.{found, last_of, match_code}
use Rattle.msp_checks.proofs.checks.put_match.Goals as goal

whole : (size : ℕ) (run : ℕ × ℕ) (i1 i2 i3 i4 i5 : Item) → i1 ≡ operation_item Cmp (literal run.0) 12 → i2 ≡ operation_item Mov (literal (last_of size run)) 15 → i3 ≡ operation_item Cmp (register 12) 15 →
    i4 ≡ operation_item Cmp (literal (run.0 % size)) 14 → i5 ≡ operation_item Mov (literal found) 14 →
    i1 ∷ item.Jump Jnc 0 ∷ i2 ∷ i3 ∷ item.Jump Jnc 1 ∷ i4 ∷ item.Jump Jne 2 ∷ i5 ∷ item.Label 2 ∷ item.Label 1 ∷ item.Label 0 ∷ [] ≡ items_from (match_code size run) 0
whole size run i1 i2 i3 i4 i5 e1 e2 e3 e4 e5 = rw (e1, e2, e3, e4, e5) refl

pub returns : goal.returns
returns c =
    c.in_ok-put.ensures
    ∙ ap (λ xs. c.args.items.now.items ++ map (shifted c.args.label) xs)
    (whole c.args.size c.args.run c.with_number.result c.with_number-2.result c.with_register.result c.with_number-3.result c.with_number-4.result
    c.with_number.ensures (c.with_number-2.ensures ∙ ap (λ n. operation_item Mov (literal n) 15) c.last_byte.ensures) c.with_register.ensures c.with_number-3.ensures c.with_number-4.ensures)
