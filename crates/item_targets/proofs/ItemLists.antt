-- Items and elements in lists.
use Rattle.std.proofs.Common.{◌≡◌, ℕ, zero, suc, ◌+◌, ◌<◌, Bool, true, false, ◌||◌, List, [], ◌∷◌, ◌++◌, length, drop, get_or, map, Some, if◌then◌else◌, bytes_eq, ap, ◌∙◌, sym, refl, arith}
use Rattle.std.specs.List.{list_any}
use Rattle.std.proofs.Math.Seq.{drop-cons}
use Rattle.std.proofs.Math.ListN.{drop_of_length-le}
use Rattle.nesc_tree.specs.declared.components.Sig as sig
use Rattle.body_meaning.specs.Tree.{Decl}
use Rattle.nesc_unwired.specs.Told.{Item, element_from, lacking, lacking_in}
use Rattle.item_targets.specs.View.{element_of, item_of}
use Rattle.item_targets.specs.declared.elements.Element as rust

-- element k stands at the front of what is left
pub next_of : {A : Type 0} (xs : List A) (k : ℕ) (x : A) → k < length xs → x ≡ get_or xs k x → drop k xs ≡ x ∷ drop (k + 1) xs
next_of xs k x below is = let more : suc k ≡ k + 1 = omega arith in
    drop-cons xs k x below ∙ ap (λ y. y ∷ drop (suc k) xs) (sym is) ∙ ap (λ j. x ∷ drop j xs) more

-- one item that is left passes the test, or one of the others
pub any_next : (p : Item → Bool) (xs : List sig.Sig) (k : ℕ) (x : sig.Sig) → k < length xs → x ≡ get_or xs k x
    → list_any p (map item_of (drop k xs)) ≡ (p (item_of x) || list_any p (map item_of (drop (k + 1) xs)))
any_next p xs k x below is = ap (λ (ys : List sig.Sig). list_any p (map item_of ys)) (next_of xs k x below is)

pub any_here : (p : Item → Bool) (xs : List sig.Sig) (k : ℕ) (x : sig.Sig) (b : Bool) → k < length xs → x ≡ get_or xs k x → b ≡ p (item_of x) → b ≡ true
    → list_any p (map item_of (drop k xs)) ≡ true
any_here p xs k x b below is h t = any_next p xs k x below is ∙ ap (λ (c : Bool). c || list_any p (map item_of (drop (k + 1) xs))) (sym h ∙ t)

pub any_later : (p : Item → Bool) (xs : List sig.Sig) (k : ℕ) (x : sig.Sig) (b : Bool) → k < length xs → x ≡ get_or xs k x → b ≡ p (item_of x) → b ≡ false
    → list_any p (map item_of (drop k xs)) ≡ list_any p (map item_of (drop (k + 1) xs))
any_later p xs k x b below is h t = any_next p xs k x below is ∙ ap (λ (c : Bool). c || list_any p (map item_of (drop (k + 1) xs))) (sym h ∙ t)

pub ruleset items = (any_next, drop_of_length-le)

pub lacking_next : (ds : List Decl) (xs : List rust.Element) (k : ℕ) (x : rust.Element) → k < length xs → x ≡ get_or xs k x
    → lacking ds (map element_of (drop k xs)) ≡ lacking_in ds (element_of x) ++ lacking ds (map element_of (drop (k + 1) xs))
lacking_next ds xs k x below is = ap (λ ys. lacking ds (map element_of ys)) (next_of xs k x below is)

pub ruleset lists = (lacking_next, drop_of_length-le)

-- the first that is left is the one, or the others have it
pub element-here : (n : ℕ) (name : List ℕ) (xs : List rust.Element) (i : ℕ) (d : rust.Element) → i < length xs
    → element_from n (map element_of (drop i xs)) name
    ≡ (if bytes_eq (element_of (get_or xs i d)).name name then Some (n, element_of (get_or xs i d)) else element_from (n + 1) (map element_of (drop (i + 1) xs)) name)
element-here n name [] i d h = absurd (omega arith)
element-here n name (x ∷ xs) zero d h =
    let e : suc n ≡ n + 1 = omega arith in
    ap (λ k. if bytes_eq (element_of x).name name then Some (n, element_of x) else element_from k (map element_of xs) name) e
element-here n name (x ∷ xs) (suc i) d h =
    let e : suc i + 1 ≡ suc (i + 1) = omega arith in
    element-here n name xs i d (omega arith)
    ∙ ap (λ k. if bytes_eq (element_of (get_or xs i d)).name name then Some (n, element_of (get_or xs i d)) else element_from (n + 1) (map element_of (drop k (x ∷ xs))) name) (sym e)

pub ruleset finds = (element-here, drop_of_length-le)
