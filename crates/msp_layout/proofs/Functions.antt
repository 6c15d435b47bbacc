-- One function more, behind the others.
use Rattle.std.proofs.Common.{◌≡◌, ◌⊎◌, inl, inr, ℕ, suc, ◌+◌, ◌*◌, ◌<◌, ◌≤◌, List, [], ◌∷◌, ◌++◌, length, sum, sum_by, get_or, arith, sym, ap, ◌∙◌}
use Rattle.std.specs.List.{AllByRecursion}
use Rattle.std.proofs.lemmas.Bool.{cases_lt}
use Rattle.std.proofs.lemmas.List.{get_or-map, get_or_default, get_or_append_left, length-map, get_or-append-add, length-append}
use Rattle.std.proofs.lemmas.List.Sums.{sum_by_more, sum_by_more_le}
use Rattle.nm_base.specs.Lists.{IsPrefixOf}
use Rattle.msp_isa.specs.declared.code.CodeFn.{CodeFn}
use Rattle.msp_isa.specs.declared.code.Item.{Item}
use Rattle.msp_isa.specs.declared.code.Item.TheVariants as item
use Rattle.msp_isa.specs.Stands.{item_at, items_of, no_code}
use Rattle.msp_layout.specs.declared.form.Formed.{Formed}
use Rattle.msp_layout.specs.Laid.{IsGoodItem}
use Rattle.msp_layout.specs.Bytes.{entry_of}
use Rattle.msp_layout.specs.Rounds.{IsWrittenItem}
use Rattle.msp_layout.specs.Words.{IsFormed, AreFormed, ItemsStand, FnsStand, all_sizes, formed_item}
use Rattle.msp_layout.proofs.Stand.{stays}

good_is_written : (fns : ℕ) (it : Item) → IsGoodItem fns it → IsWrittenItem it
good_is_written fns (item.Is i) h = h
good_is_written fns (item.Label l) h = tt
good_is_written fns (item.Jump c l) h = tt
good_is_written fns (item.CallFn f) h = tt
good_is_written fns (item.AddrOf f r) h = tt

pub all_written : (fns : ℕ) (items : List Item) → ((k : ℕ) → k < length items → IsGoodItem fns (item_at items k)) → AllByRecursion IsWrittenItem items
all_written fns [] good = tt
all_written fns (x ∷ xs) good = (good_is_written fns x (good 0 (omega arith)), all_written fns xs (λ k lt. good (suc k) (omega arith)))

-- a function that was read is the one at its place
pub items_read : (code : List CodeFn) (f : ℕ) (x : CodeFn) → f < length code → x ≡ get_or code f x → items_of code f ≡ x.items
items_read code f x lt e = ap (λ (g : CodeFn). g.items) (get_or_default code f no_code x lt ∙ sym e)

-- the bytes before the next function
pub entry_more : (forms : List Formed) (f : ℕ) (d : Formed) → f < length forms → entry_of (all_sizes forms) (f + 1) ≡ entry_of (all_sizes forms) f + sum (get_or forms f d).sizes.items
entry_more forms f d lt =
    sum_by_more sum (all_sizes forms) f [] (omega (arith, length-map forms (λ (x : Formed). x.sizes.items)))
    ∙ ap (λ (s : List ℕ). entry_of (all_sizes forms) f + sum s) (get_or-map (λ (x : Formed). x.sizes.items) forms f d [] lt)

pub entry_next : (forms : List Formed) (f : ℕ) (d : Formed) → f < length forms → entry_of (all_sizes forms) (suc f) ≡ entry_of (all_sizes forms) f + sum (get_or forms f d).sizes.items
entry_next forms f d lt = let e : suc f ≡ f + 1 = omega arith in rw e (entry_more forms f d lt)

pub entry_le : (forms : List Formed) (f : ℕ) (d : Formed) → f < length forms → entry_of (all_sizes forms) f + sum (get_or forms f d).sizes.items ≤ sum_by sum (all_sizes forms)
entry_le forms f d lt =
    rw (← get_or-map (λ (x : Formed). x.sizes.items) forms f d [] lt) (sum_by_more_le sum (all_sizes forms) f [] (omega (arith, length-map forms (λ (x : Formed). x.sizes.items))))

at_end : (forms : List Formed) (x : Formed) (n : ℕ) (d : Formed) → length forms ≡ n → get_or (forms ++ x ∷ []) n d ≡ x
at_end forms x n d e = rw (← e) (ap (λ (k : ℕ). get_or (forms ++ x ∷ []) k d) (plus_zero (length forms)) ∙ get_or-append-add forms (x ∷ []) 0 d)
  where
    plus_zero : (n : ℕ) → n ≡ n + 0
    plus_zero n = omega arith

pub form_more : (code : List CodeFn) (forms : List Formed) (x : Formed) (f : ℕ) → AreFormed code forms f → IsFormed (items_of code f) x → AreFormed code (forms ++ x ∷ []) (f + 1)
form_more code forms x f are is = record {
  len = omega (arith, length-append forms (x ∷ []), are.len);
  each = λ g d lt. go g d (cases_lt g f) lt;
}
  where
    go : (g : ℕ) (d : Formed) → (g < f) ⊎ (f ≤ g) → g < f + 1 → IsFormed (items_of code g) (get_or (forms ++ x ∷ []) g d)
    go g d (inl below) lt = rw (get_or_append_left forms (x ∷ []) d g (omega (arith, are.len))) (are.each g d below)
    go g d (inr above) lt = let e : g ≡ f = omega arith in rw (e, at_end forms x f d are.len) is

items_stay : (entries : ℕ → ℕ) (items : List Item) (sizes targets words more : List ℕ) (before upto : ℕ) → ItemsStand entries items sizes targets before words upto → ItemsStand entries items sizes targets before (words ++ more) upto
items_stay entries items sizes targets words more before upto so = λ k lt. let s = so k lt in (s.0, s.1, stays words more s.0 (formed_item entries items sizes targets before k) s.2)

pub fn_more : (entries : ℕ → ℕ) (code : List CodeFn) (forms : List Formed) (words new : List ℕ) (f : ℕ) (x : Formed) (items : List Item) → f < length forms → x ≡ get_or forms f x → items_of code f ≡ items →
    2 * length words ≡ entry_of (all_sizes forms) f → IsPrefixOf words new → ItemsStand entries items x.sizes.items x.targets.items (2 * length words) new (length items) → FnsStand entries code forms words f → FnsStand entries code forms new (f + 1)
fn_more entries code forms words new f x items lt ex ei before pre stand so = λ g d h. go g d (cases_lt g f) h
  where
    go : (g : ℕ) (d : Formed) → (g < f) ⊎ (f ≤ g) → g < f + 1 → ItemsStand entries (items_of code g) (get_or forms g d).sizes.items (get_or forms g d).targets.items (entry_of (all_sizes forms) g) new (length (items_of code g))
    go g d (inl below) h = rw (← pre.1) (items_stay entries (items_of code g) (get_or forms g d).sizes.items (get_or forms g d).targets.items words pre.0 (entry_of (all_sizes forms) g) (length (items_of code g)) (so g d below))
    go g d (inr above) h =
        let e : g ≡ f = omega arith in
        let there : get_or forms f d ≡ x = get_or_default forms f d x lt ∙ sym ex in
        rw (e, there, ei, ← before) stand

-- the same of a form that was read
pub entry_read : (forms : List Formed) (f : ℕ) (x : Formed) → f < length forms → x ≡ get_or forms f x → entry_of (all_sizes forms) (f + 1) ≡ entry_of (all_sizes forms) f + sum x.sizes.items
entry_read forms f x lt e = entry_more forms f x lt ∙ ap (λ (y : Formed). entry_of (all_sizes forms) f + sum y.sizes.items) (sym e)

pub entry_fits : (forms : List Formed) (f : ℕ) (x : Formed) → f < length forms → x ≡ get_or forms f x → entry_of (all_sizes forms) f + sum x.sizes.items ≤ sum_by sum (all_sizes forms)
entry_fits forms f x lt e =
    let same : sum x.sizes.items ≡ sum (get_or forms f x).sizes.items = ap (λ (y : Formed). sum y.sizes.items) e in
    omega (arith, entry_le forms f x lt)
