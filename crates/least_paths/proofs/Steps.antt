-- The steps of the search's code.
use Rattle.std.proofs.Common.{◌≡◌, ℕ, zero, suc, ◌+◌, ◌<◌, ◌≤◌, List, [], ◌∷◌, ◌++◌, length, drop, get_or, replicate, Option, Some, None, refl, sym, subst, ap, arith, ◌∙◌}
use Rattle.std.proofs.Math.ListN.{drop_of_length-le}
use Rattle.call_graph.specs.Paths.{IsIn}
use Rattle.call_graph.specs.Graph.{row_at}
use Rattle.call_graph.proofs.ViewLists.{next_of}
use Rattle.least_paths.specs.declared.ways.Way.{Way}
use Rattle.least_paths.specs.declared.ways.Way.TheVariants.{Root, CalledBy}
use Rattle.least_paths.specs.declared.ways.Search.{Search}
use Rattle.least_paths.specs.Visits.{with_way, waiting_with, all_ways, all_waiting}
use Rattle.least_paths.specs.Ascending.{IsArranged}
use Rattle.least_paths.specs.Searched.{IsSearch}
use Rattle.least_paths.proofs.Visiting.{IsSearching, weight, steady}
use Rattle.least_paths.proofs.Visiting as visiting

row_inside : (table : List (List ℕ)) (f g : ℕ) → IsIn g (row_at table f) → f < length table
row_inside [] f g there = absurd there
row_inside (x ∷ xs) zero g there = omega arith
row_inside (x ∷ xs) (suc f) g there = omega (arith, row_inside xs f g there)

abbrev pub IsGoing : (table : List (List ℕ)) (roots : List ℕ) (ways : List (Option Way)) (order waiting : List ℕ) → Type 0
IsGoing table roots ways order waiting = IsSearching roots (row_at table) (length table) ways order waiting

pub started : (table : List (List ℕ)) (roots first : List ℕ) (m0 m : List (Option Way)) (order w0 w : List ℕ) → m0 ≡ replicate (length table) None → w0 ≡ [] → order ≡ [] → IsArranged roots first
    → m ≡ all_ways Root m0 first → w ≡ all_waiting Root m0 w0 first → IsGoing table roots m order w
started table roots first m0 m order w0 w m0_is w0_is order_is a m_is w_is =
    subst (λ x. IsGoing table roots m x w) (sym order_is)
    (subst (λ x. IsGoing table roots x [] w) (sym (m_is ∙ ap (λ x. all_ways Root x first) m0_is))
    (subst (λ x. IsGoing table roots (all_ways Root (replicate (length table) None) first) [] x)
    (sym (w_is ∙ ap (λ x. all_waiting Root x w0 first) m0_is ∙ ap (λ x. all_waiting Root (replicate (length table) None) x first) w0_is))
    (visiting.started roots (row_at table) (length table) (row_inside table) first a)))

pub went_on : (table : List (List ℕ)) (roots row left : List ℕ) (m0 m : List (Option Way)) (order0 order w0 w1 w : List ℕ) (f : ℕ) → IsGoing table roots m0 order0 w0 → w0 ≡ f ∷ w1 → order ≡ order0 ++ f ∷ []
    → row ≡ row_at table f → IsArranged row left → m ≡ all_ways (CalledBy f) m0 left → w ≡ all_waiting (CalledBy f) m0 w1 left → IsGoing table roots m order w
went_on table roots row left m0 m order0 order w0 w1 w f s w0_is order_is row_is a m_is w_is =
    subst (λ x. IsGoing table roots m x w) (sym order_is)
    (subst (λ x. IsGoing table roots x (order0 ++ f ∷ []) w) (sym m_is)
    (subst (λ x. IsGoing table roots (all_ways (CalledBy f) m0 left) (order0 ++ f ∷ []) x) (sym w_is)
    (visiting.went_on roots (row_at table) (length table) (row_inside table) m0 order0 w1 f left (subst (λ x. IsArranged x left) row_is a) (subst (λ x. IsGoing table roots m0 order0 x) w0_is s))))

pub ended : (table : List (List ℕ)) (roots : List ℕ) (m : List (Option Way)) (order w : List ℕ) (s : Search) → IsGoing table roots m order w → w ≡ [] → s.ways.items ≡ m → s.order.items ≡ order
    → IsSearch roots (row_at table) (length table) s
ended table roots m order w s going w_is m_is order_is =
    visiting.ended roots (row_at table) (length table) (row_inside table) m order (subst (λ x. IsGoing table roots m order x) w_is going) s m_is order_is

pub falls : (way : Way) (left : List ℕ) (m0 m : List (Option Way)) (w0 w1 w : List ℕ) (f : ℕ) → w0 ≡ f ∷ w1 → m ≡ all_ways way m0 left → w ≡ all_waiting way m0 w1 left → weight m w < weight m0 w0
falls way left m0 m w0 w1 w f w0_is m_is w_is =
    let less : weight (all_ways way m0 left) (all_waiting way m0 w1 left) < weight m0 (f ∷ w1) = omega (arith, steady way m0 w1 left) in
    subst (λ x. weight m w < weight m0 x) (sym w0_is)
    (subst (λ x. weight x w < weight m0 (f ∷ w1)) (sym m_is) (subst (λ x. weight (all_ways way m0 left) x < weight m0 (f ∷ w1)) (sym w_is) less))

-- what gave nothing was empty
pub nothing_left : (old new : List ℕ) (n : ℕ) → (n ≡ 0) → n ≡ length old → old ≡ []
nothing_left [] new n none long = refl
nothing_left (x ∷ old) new n none long = absurd (omega (arith, none, long))

-- ---- one body after the other

pub ways_next : (way : Way) (m : List (Option Way)) (xs : List ℕ) (k x : ℕ) → k < length xs → x ≡ get_or xs k x → all_ways way m (drop k xs) ≡ all_ways way (with_way m x way) (drop (k + 1) xs)
ways_next way m xs k x below is = ap (λ ys. all_ways way m ys) (next_of xs k x below is)

pub waiting_next : (way : Way) (m : List (Option Way)) (w xs : List ℕ) (k x : ℕ) → k < length xs → x ≡ get_or xs k x
    → all_waiting way m w (drop k xs) ≡ all_waiting way (with_way m x way) (waiting_with m w x) (drop (k + 1) xs)
waiting_next way m w xs k x below is = ap (λ ys. all_waiting way m w ys) (next_of xs k x below is)

pub ruleset steps = (ways_next, waiting_next, drop_of_length-le)
