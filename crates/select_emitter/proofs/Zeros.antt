-- Zeros that are pushed, one and the others.
use Rattle.std.proofs.Common.{◌≡◌, ℕ, suc, ◌+◌, ◌-◌, ◌<◌, List, [], ◌∷◌, ◌++◌, append_assoc, sym, ap, ◌∙◌, arith}
use Rattle.msp_isa.specs.declared.code.Item.{Item}
use Rattle.msp_select.specs.Select.{items_of, push_zero, zeros}

pub zero_more : (before whole : List Item) (n done : ℕ) → done < n → before ++ items_of (zeros (n - done)) ≡ whole →
    (before ++ items_of (push_zero ∷ [])) ++ items_of (zeros (n - (done + 1))) ≡ whole
zero_more before whole n done lt h =
    let e : n - done ≡ suc (n - (done + 1)) = omega (arith, lt) in
    append_assoc before _ _ ∙ ap (λ z. before ++ items_of (zeros z)) (sym e) ∙ h
