-- Tables of names and lists of arguments, seen through their entries.
use Rattle.std.proofs.Common.{◌≡◌, ℕ, ◌+◌, ◌<◌, zero, suc, List, [], ◌∷◌, ◌++◌, length, map, drop, get_or, Some, None, if◌then◌else◌, bytes_eq, ap, ◌∙◌, sym, refl, arith}
use Rattle.std.proofs.lemmas.List.{map_push}
use Rattle.std.proofs.lemmas.List.Sums.{fold-append}
use Rattle.nm_base.specs.declared.pos.Pos.{Pos}
use Rattle.elab_meaning.specs.declared.scope.Entry as rust
use Rattle.elab_meaning.specs.declared.scope.Unique as unique
use Rattle.elab_meaning.specs.declared.scope.UniqueCount as unique_count
use Rattle.elab_meaning.specs.declared.scope.Item as item
use Rattle.elab_meaning.specs.declared.work.Asked as asked
use Rattle.elab_meaning.specs.Scope.{newer, lookup, same_place, unique_at, count_of, is_item, item_from}
use Rattle.elab_meaning.specs.Places.{is_asked, place_among}
use Rattle.nesc_tree.specs.declared.tree.Expr as tree
use Rattle.nesc_tree.specs.View.{exprs_of}
use Rattle.elab_meaning.specs.Operators.{count}
use Rattle.elab_meaning.specs.View.{entry_of, unique_of, unique_count_of, item_of, asked_of}

-- the last entry counts, where it has the name
pub lookup-last : (name : List ℕ) (older rest : List rust.Entry) (e : rust.Entry) → older ≡ rest ++ (e ∷ [])
    → lookup (map entry_of older) name ≡ newer name (lookup (map entry_of rest) name) (entry_of e)
lookup-last name older rest e is =
    ap (λ (es : List rust.Entry). lookup (map entry_of es) name) is
    ∙ ap (λ es. lookup es name) (map_push entry_of rest e)
    ∙ fold-append (newer name) None (map entry_of rest) (entry_of e ∷ [])

pub ruleset tables = (lookup-last)

-- as many arguments as a list has
pub count-exprs_of : (es : List tree.Expr) → count (exprs_of es) ≡ length es
count-exprs_of [] = refl
count-exprs_of (e ∷ es) = ap suc (count-exprs_of es)

pub ruleset counts = (count-exprs_of)

-- the first that is left is the one, or the others have it
pub unique-here : (at : Pos) (xs : List unique.Unique) (i : ℕ) (d : unique.Unique) → i < length xs
    → unique_at (map unique_of (drop i xs)) at
    ≡ (if same_place (get_or xs i d).at at then Some (get_or xs i d).number else unique_at (map unique_of (drop (i + 1) xs)) at)
unique-here at [] i d h = absurd (omega arith)
unique-here at (x ∷ xs) zero d h = refl
unique-here at (x ∷ xs) (suc i) d h =
    let e : suc i + 1 ≡ suc (i + 1) = omega arith in
    unique-here at xs i d (omega arith)
    ∙ ap (λ k. if same_place (get_or xs i d).at at then Some (get_or xs i d).number else unique_at (map unique_of (drop k (x ∷ xs))) at) (sym e)

pub count-here : (text : List ℕ) (xs : List unique_count.UniqueCount) (i : ℕ) (d : unique_count.UniqueCount) → i < length xs
    → count_of (map unique_count_of (drop i xs)) text
    ≡ (if bytes_eq (get_or xs i d).text text then Some (get_or xs i d).count else count_of (map unique_count_of (drop (i + 1) xs)) text)
count-here text [] i d h = absurd (omega arith)
count-here text (x ∷ xs) zero d h = refl
count-here text (x ∷ xs) (suc i) d h =
    let e : suc i + 1 ≡ suc (i + 1) = omega arith in
    count-here text xs i d (omega arith)
    ∙ ap (λ k. if bytes_eq (get_or xs i d).text text then Some (get_or xs i d).count else count_of (map unique_count_of (drop k (x ∷ xs))) text) (sym e)

pub item-here : (n : ℕ) (element name : List ℕ) (xs : List item.Item) (i : ℕ) (d : item.Item) → i < length xs
    → item_from n (map item_of (drop i xs)) element name
    ≡ (if is_item (item_of (get_or xs i d)) element name then Some (n, item_of (get_or xs i d)) else item_from (n + 1) (map item_of (drop (i + 1) xs)) element name)
item-here n element name [] i d h = absurd (omega arith)
item-here n element name (x ∷ xs) zero d h =
    let e : suc n ≡ n + 1 = omega arith in
    ap (λ k. if is_item (item_of x) element name then Some (n, item_of x) else item_from k (map item_of xs) element name) e
item-here n element name (x ∷ xs) (suc i) d h =
    let e : suc i + 1 ≡ suc (i + 1) = omega arith in
    item-here n element name xs i d (omega arith)
    ∙ ap (λ k. if is_item (item_of (get_or xs i d)) element name then Some (n, item_of (get_or xs i d)) else item_from (n + 1) (map item_of (drop k (x ∷ xs))) element name) (sym e)

pub asked-here : (n instance item : ℕ) (xs : List asked.Asked) (i : ℕ) (d : asked.Asked) → i < length xs
    → place_among n (map asked_of (drop i xs)) instance item
    ≡ (if is_asked instance item (asked_of (get_or xs i d)) then Some n else place_among (n + 1) (map asked_of (drop (i + 1) xs)) instance item)
asked-here n instance item [] i d h = absurd (omega arith)
asked-here n instance item (x ∷ xs) zero d h =
    let e : suc n ≡ n + 1 = omega arith in
    ap (λ k. if is_asked instance item (asked_of x) then Some n else place_among k (map asked_of xs) instance item) e
asked-here n instance item (x ∷ xs) (suc i) d h =
    let e : suc i + 1 ≡ suc (i + 1) = omega arith in
    asked-here n instance item xs i d (omega arith)
    ∙ ap (λ k. if is_asked instance item (asked_of (get_or xs i d)) then Some n else place_among (n + 1) (map asked_of (drop k (x ∷ xs))) instance item) (sym e)

pub ruleset told = (unique-here, count-here, item-here, asked-here)
