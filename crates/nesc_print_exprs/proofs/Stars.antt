-- Stars that are written, and those that are left.
use Rattle.std.proofs.Common.{◌≡◌, ℕ, suc, ◌+◌, ◌-◌, ◌<◌, [], ◌∷◌, ◌++◌, append_assoc, sym, ap, ◌∙◌, arith}
use Rattle.nesc_print_words.specs.Lexemes.{Words, star, stars}

pub star_more : (before whole : Words) (n done : ℕ) → done < n → before ++ stars (n - done) ≡ whole
    → (before ++ star ∷ []) ++ stars (n - (done + 1)) ≡ whole
star_more before whole n done lt h =
    let e : n - done ≡ suc (n - (done + 1)) = omega (arith, lt) in
    append_assoc before _ _ ∙ ap (λ z. before ++ stars z) (sym e) ∙ h
