-- The sizes of variables, one after the other.
use Rattle.std.proofs.Common.{◌≡◌, ℕ, suc, ◌+◌, ◌<◌, List, [], ◌∷◌, ◌++◌, drop, length, get_or, map, sym, ap, ◌∙◌, arith, append_assoc}
use Rattle.std.proofs.Math.Seq.{drop-cons}
use Rattle.nesc_core.specs.Plain.{Field}
use Rattle.nesc_core.specs.Size.{layout_of}
use Rattle.nesc_core.specs.View.{type_of}
use Rattle.elab_objects.specs.declared.variables.Variable as rust
use Rattle.elab_objects.specs.View.{variable_of}
use Rattle.program_meaning.specs.Program.{sizes}

next_of : {A : Type 0} (xs : List A) (k : ℕ) (x : A) → k < length xs → x ≡ get_or xs k x → drop k xs ≡ x ∷ drop (k + 1) xs
next_of xs k x below is =
    let more : suc k ≡ k + 1 = omega arith in
    drop-cons xs k x below ∙ ap (λ y. y ∷ drop (suc k) xs) (sym is) ∙ ap (λ j. x ∷ drop j xs) more

pub one_more : (structs : List (List Field)) (vs : List rust.Variable) (i : ℕ) (x : rust.Variable) (done new whole : List ℕ) (n : ℕ)
    → done ++ sizes structs (map variable_of (drop i vs)) ≡ whole → i < length vs → x ≡ get_or vs i x
    → n ≡ (layout_of structs (type_of x.ty)).size → new ≡ done ++ (n ∷ [])
    → new ++ sizes structs (map variable_of (drop (i + 1) vs)) ≡ whole
one_more structs vs i x done new whole n so_far below is size grown =
    let rest : List ℕ = sizes structs (map variable_of (drop (i + 1) vs)) in
    ap (λ (ns : List ℕ). ns ++ rest) grown
    ∙ append_assoc done (n ∷ []) rest
    ∙ ap (λ (m : ℕ). done ++ (m ∷ rest)) size
    ∙ ap (λ (ys : List rust.Variable). done ++ sizes structs (map variable_of ys)) (sym (next_of vs i x below is))
    ∙ so_far
