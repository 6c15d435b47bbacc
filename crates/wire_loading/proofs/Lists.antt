-- Lists of trees, one element after the other.
use Rattle.std.proofs.Common.{◌≡◌, ℕ, suc, ◌+◌, ◌<◌, List, ◌∷◌, ◌++◌, drop, length, get_or, sym, ap, ◌∙◌, arith}
use Rattle.std.proofs.Math.Seq.{drop-cons}
use Rattle.std.proofs.Math.ListN.{drop_of_length-le}
use Rattle.std.proofs.lemmas.List.{append-nil}
use Rattle.nesc_tree.specs.declared.components.Elem.{Elem}
use Rattle.nesc_tree.specs.declared.components.ConfLine.{ConfLine}
use Rattle.wire_loading.specs.Needs.{interface, interfaces, in_line, components}

-- element k stands at the front of what is left
pub next_of : {A : Type 0} (xs : List A) (k : ℕ) (x : A) → k < length xs → x ≡ get_or xs k x → drop k xs ≡ x ∷ drop (k + 1) xs
next_of xs k x below is = let more : suc k ≡ k + 1 = omega arith in
    drop-cons xs k x below ∙ ap (λ y. y ∷ drop (suc k) xs) (sym is) ∙ ap (λ j. x ∷ drop j xs) more

pub interfaces_next : (xs : List Elem) (k : ℕ) (x : Elem) → k < length xs → x ≡ get_or xs k x
    → interfaces (drop k xs) ≡ interface x.iface ∷ interfaces (drop (k + 1) xs)
interfaces_next xs k x below is = ap interfaces (next_of xs k x below is)

pub components_next : (xs : List ConfLine) (k : ℕ) (x : ConfLine) → k < length xs → x ≡ get_or xs k x
    → components (drop k xs) ≡ in_line x ++ components (drop (k + 1) xs)
components_next xs k x below is = ap components (next_of xs k x below is)

pub ruleset parts = (interfaces_next, components_next, drop_of_length-le, append-nil)
