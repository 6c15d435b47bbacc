-- Lengths of what stands in parentheses, and the walk over an argument that uses them.
use Rattle.std.proofs.Common.{◌≡◌, ℕ, zero, suc, ◌+◌, ◌*◌, ◌<◌, ◌≤◌, Bool, true, false, ◌&&◌, List, [], ◌∷◌, ◌++◌, length, map, take, drop, Option, Some, None, refl, sym, ap, subst, ◌∙◌, arith, append_assoc}
use Rattle.std.specs.Prelude.{nat_eq, codes, slice_get}
use Rattle.std.specs.Option.{option_map}
use Rattle.std.proofs.lemmas.Bool.{eqb-true}
use Rattle.std.proofs.lemmas.Bool.Decides.{nat_tests}
use Rattle.std.proofs.lemmas.List.{drop-drop, length-append, length-map, nil_from_length, take-append-drop, take-map}
use Rattle.nesc_macros.specs.declared.definition.NumberedToken.{NumberedToken}
use Rattle.nesc_macros.specs.declared.waiting.ArgumentEnd.{ArgumentEnd}
use Rattle.nesc_macros.specs.declared.waiting.Waiting.{Waiting}
use Rattle.nesc_macros.specs.Code.{weight_of_lists}
use Rattle.nesc_macros.specs.Invocation.{Actuals, PreprocessingToken, actuals, is_sign}
use Rattle.nesc_macros.specs.Numbers.{Scope, all_shown, shown}
use Rattle.nesc_macros.specs.Groups.{AreClosing, AreGrouped, IsArgumentEnd, IsGroup, Walks, closes, group_opened, parts, separated, with_more}
use Rattle.nesc_macros.proofs.Naming.{shown_append, shown_push, shown_push_list, weight_push}

abbrev Tokens : Type 0
Tokens = List NumberedToken

abbrev Shown : Type 0
Shown = List PreprocessingToken

abbrev opens : NumberedToken → Bool
opens t = is_sign (codes "(") t.token

abbrev ends : NumberedToken → Bool
ends t = is_sign (codes ")") t.token

-- ---- parentheses

abbrev by_signs : ℕ → Tokens → Bool → Bool → Bool
by_signs depth ts o e = elim o [
  | true ↦ closes (suc depth) ts
  | false ↦ elim e [
    | true ↦ elim depth [ zero ↦ nat_eq (length ts) 0 | suc less ↦ closes less ts ]
    | false ↦ closes depth ts
  ]
]

closes_by : (depth : ℕ) (t : NumberedToken) (ts : Tokens) (o e : Bool) → opens t ≡ o → ends t ≡ e → closes depth (t ∷ ts) ≡ by_signs depth ts o e
closes_by depth t ts o e p q = λ i. by_signs depth ts (p i) (q i)

abbrev by_marks : ℕ → Shown → List Shown → PreprocessingToken → Shown → Bool → Bool → Bool → Option Actuals
by_marks depth now before t ts o e s = elim o [
  | true ↦ actuals (suc depth) (now ++ t ∷ []) before ts
  | false ↦ elim e [
    | true ↦ elim depth [
      | zero ↦ Some (record { arguments = before ++ now ∷ []; close = t; rest = ts })
      | suc less ↦ actuals less (now ++ t ∷ []) before ts
    ]
    | false ↦ elim s [
      | true ↦ actuals 0 [] (before ++ now ∷ []) ts
      | false ↦ actuals depth (now ++ t ∷ []) before ts
    ]
  ]
]

and_false : (b c : Bool) → c ≡ false → (b && c) ≡ false
and_false true c e = e
and_false false c e = refl

not_zero : (n : ℕ) → nat_eq (suc n) 0 ≡ false
not_zero n = grind (arith, nat_tests)

actuals_by : (depth : ℕ) (now : Shown) (before : List Shown) (t : PreprocessingToken) (ts : Shown) (o e : Bool) → is_sign (codes "(") t.token ≡ o → is_sign (codes ")") t.token ≡ e → actuals (suc depth) now before (t ∷ ts) ≡ by_marks (suc depth) now before t ts o e false
actuals_by depth now before t ts o e p q =
    let inside : (is_sign (codes ",") t.token && nat_eq (suc depth) 0) ≡ false = and_false (is_sign (codes ",") t.token) (nat_eq (suc depth) 0) (not_zero depth) in
    λ i. by_marks (suc depth) now before t ts (p i) (q i) (inside i)

abbrev PassesOn : ℕ → Scope → List Shown → Shown → Tokens → Type 0
PassesOn d scope before ys xs = (k n : ℕ) (now : Shown) → n ≡ k + d → closes k xs ≡ true → actuals (suc n) now before (all_shown scope xs ++ ys) ≡ actuals d (now ++ all_shown scope xs) before ys

regroup : (d : ℕ) (now : Shown) (before : List Shown) (t : PreprocessingToken) (ts ys : Shown) → actuals d ((now ++ t ∷ []) ++ ts) before ys ≡ actuals d (now ++ t ∷ ts) before ys
regroup d now before t ts ys = ap (λ (l : Shown). actuals d l before ys) (append_assoc now (t ∷ []) ts)

not_true : {P : Type 0} → false ≡ true → P
not_true e = absurd cc

passes_close : (k n d : ℕ) (scope : Scope) (before : List Shown) (ys now : Shown) (x : NumberedToken) (xs : Tokens) → n ≡ k + d → opens x ≡ false → ends x ≡ true → closes k (x ∷ xs) ≡ true → PassesOn d scope before ys xs → actuals (suc n) now before (all_shown scope (x ∷ xs) ++ ys) ≡ actuals d (now ++ all_shown scope (x ∷ xs)) before ys
passes_close zero n d scope before ys now x xs is o e c on =
    let none : xs ≡ [] = nil_from_length xs (eqb-true (length xs) 0 (sym (closes_by zero x xs false true o e) ∙ c)) in
    let same : n ≡ d = omega (arith, is) in
    actuals_by n now before (shown scope x) (all_shown scope xs ++ ys) false true o e
    ∙ (λ i. actuals (same i) (now ++ shown scope x ∷ []) before (all_shown scope (none i) ++ ys))
    ∙ (λ i. actuals d (now ++ shown scope x ∷ all_shown scope (sym none i)) before ys)
passes_close (suc k) n d scope before ys now x xs is o e c on =
    let less : n ≡ suc (k + d) = omega (arith, is) in
    actuals_by n now before (shown scope x) (all_shown scope xs ++ ys) false true o e
    ∙ ap (λ (m : ℕ). actuals m (now ++ shown scope x ∷ []) before (all_shown scope xs ++ ys)) less
    ∙ on k (k + d) (now ++ shown scope x ∷ []) refl (sym (closes_by (suc k) x xs false true o e) ∙ c)
    ∙ regroup d now before (shown scope x) (all_shown scope xs) ys

passes_by : (k n d : ℕ) (scope : Scope) (before : List Shown) (ys now : Shown) (x : NumberedToken) (xs : Tokens) (o e : Bool) → n ≡ k + d → opens x ≡ o → ends x ≡ e → closes k (x ∷ xs) ≡ true → PassesOn d scope before ys xs → actuals (suc n) now before (all_shown scope (x ∷ xs) ++ ys) ≡ actuals d (now ++ all_shown scope (x ∷ xs)) before ys
passes_by k n d scope before ys now x xs true e is p q c on =
    actuals_by n now before (shown scope x) (all_shown scope xs ++ ys) true e p q
    ∙ on (suc k) (suc n) (now ++ shown scope x ∷ []) (omega (arith, is)) (sym (closes_by k x xs true e p q) ∙ c)
    ∙ regroup d now before (shown scope x) (all_shown scope xs) ys
passes_by k n d scope before ys now x xs false true is p q c on = passes_close k n d scope before ys now x xs is p q c on
passes_by k n d scope before ys now x xs false false is p q c on =
    actuals_by n now before (shown scope x) (all_shown scope xs ++ ys) false false p q
    ∙ on k n (now ++ shown scope x ∷ []) is (sym (closes_by k x xs false false p q) ∙ c)
    ∙ regroup d now before (shown scope x) (all_shown scope xs) ys

-- what is closed by its last token belongs to the argument as a whole
passes_group : (d : ℕ) (scope : Scope) (before : List Shown) (ys : Shown) (xs : Tokens) → PassesOn d scope before ys xs
passes_group d scope before ys [] k n now is c = not_true c
passes_group d scope before ys (x ∷ xs) k n now is c = passes_by k n d scope before ys now x xs (opens x) (ends x) is refl refl c (passes_group d scope before ys xs)

-- ---- places in lists

some_is : {A : Type 0} (a b : A) → Some a ≡ Some b → a ≡ b
some_is a b e = cc

pub at_place : {A : Type 0} (xs : List A) (i : ℕ) (x : A) → slice_get xs i ≡ Some x → drop i xs ≡ x ∷ drop (suc i) xs
at_place [] i x at = absurd cc
at_place (y ∷ xs) zero x at = λ k. some_is y x at k ∷ xs
at_place (y ∷ xs) (suc i) x at = at_place xs i x at

taken_place : {A : Type 0} (xs : List A) (i g n : ℕ) (x : A) → n ≡ i + g → slice_get xs i ≡ Some x → take (suc n) xs ≡ take i xs ++ x ∷ take g (drop (suc i) xs)
taken_place [] i g n x is at = absurd cc
taken_place (y ∷ xs) zero g n x is at = let same : n ≡ g = omega (arith, is) in λ k. some_is y x at k ∷ take (same k) xs
taken_place {A = A} (y ∷ xs) (suc i) g n x is at =
    let more : n ≡ suc (i + g) = omega (arith, is) in
    ap (λ (m : ℕ). y ∷ take m xs) more ∙ ap (λ (l : List A). y ∷ l) (taken_place xs i g (i + g) x refl at)

pub place_within : {A : Type 0} (xs : List A) (i : ℕ) (x : A) → slice_get xs i ≡ Some x → i < length xs
place_within [] i x at = absurd cc
place_within (y ∷ xs) zero x at = omega arith
place_within (y ∷ xs) (suc i) x at = omega (arith, place_within xs i x at)

pub part_at : (ws : List Waiting) (i : ℕ) (w : Waiting) → slice_get ws i ≡ Some w → slice_get (parts ws) i ≡ Some w.part
part_at [] i w at = absurd cc
part_at (v ∷ ws) zero w at = ap (option_map (λ (w : Waiting). w.part)) at
part_at (v ∷ ws) (suc i) w at = part_at ws i w at

-- ---- the walk

abbrev pub Steps : NumberedToken → ℕ → ℕ → Type 0
Steps t depth next = (scope : Scope) (now : Shown) (before : List Shown) (ts : Shown) → actuals depth now before (shown scope t ∷ ts) ≡ actuals next (now ++ shown scope t ∷ []) before ts

pub walk_begins : (xs : Tokens) → Walks xs 0 0
walk_begins xs scope before = refl

walk_at : (xs : Tokens) (at depth : ℕ) (t : NumberedToken) → slice_get xs at ≡ Some t → Walks xs at depth → (scope : Scope) (before : List Shown) → actuals 0 [] before (all_shown scope xs) ≡ actuals depth (all_shown scope (take at xs)) before (shown scope t ∷ all_shown scope (drop (suc at) xs))
walk_at xs at depth t here walks scope before =
    walks scope before ∙ ap (λ (l : Tokens). actuals depth (all_shown scope (take at xs)) before (all_shown scope l)) (at_place xs at t here)

-- over a token
pub walk_on : (xs : Tokens) (at depth next to : ℕ) (t : NumberedToken) → slice_get xs at ≡ Some t → to ≡ at + 1 → Steps t depth next → Walks xs at depth → Walks xs to next
walk_on xs at depth next to t here is steps walks scope before =
    let behind : to ≡ suc at = omega (arith, is) in
    let taken : take to xs ≡ take at xs ++ t ∷ [] = ap (λ (n : ℕ). take n xs) behind ∙ taken_place xs at 0 at t (omega arith) here in
    walk_at xs at depth t here walks scope before
    ∙ steps scope (all_shown scope (take at xs)) before (all_shown scope (drop (suc at) xs))
    ∙ (λ i. actuals next ((sym (shown_push scope (take at xs) t) ∙ ap (all_shown scope) (sym taken)) i) before (all_shown scope (drop (sym behind i) xs)))

-- over a token and the group that it opens
pub walk_over : (xs : Tokens) (at depth next group to : ℕ) (t : NumberedToken) → slice_get xs at ≡ Some t → to ≡ at + (group + 1) → next ≡ depth + 1 → Steps t depth next → closes 0 (take group (drop (suc at) xs)) ≡ true → Walks xs at depth → Walks xs to depth
walk_over xs at depth next group to t here is deeper steps closed walks scope before =
    let to-is : to ≡ suc (at + group) = omega (arith, is) in
    let behind : suc at + group ≡ to = omega (arith, is) in
    let rest = drop (suc at) xs in
    let one-more : next ≡ suc depth = omega (arith, deeper) in
    let taken : take to xs ≡ take at xs ++ t ∷ take group rest = ap (λ (n : ℕ). take n xs) to-is ∙ taken_place xs at group (at + group) t refl here in
    let left : drop to xs ≡ drop group rest = ap (λ (n : ℕ). drop n xs) (sym behind) ∙ sym (drop-drop group (suc at) xs) in
    walk_at xs at depth t here walks scope before
    ∙ steps scope (all_shown scope (take at xs)) before (all_shown scope rest)
    ∙ (λ i. actuals (one-more i) (all_shown scope (take at xs) ++ shown scope t ∷ []) before ((ap (all_shown scope) (sym (take-append-drop group rest)) ∙ shown_append scope (take group rest) (drop group rest)) i))
    ∙ passes_group depth scope before (all_shown scope (drop group rest)) (take group rest) 0 depth (all_shown scope (take at xs) ++ shown scope t ∷ []) (omega arith) closed
    ∙ regroup depth (all_shown scope (take at xs)) before (shown scope t) (all_shown scope (take group rest)) (all_shown scope (drop group rest))
    ∙ (λ i. actuals depth ((sym (shown_append scope (take at xs) (t ∷ take group rest)) ∙ ap (all_shown scope) (sym taken)) i) before (all_shown scope (sym left i)))

-- to the sign behind the argument
pub walk_ends : (xs : Tokens) (at depth : ℕ) (is_last : Bool) (t : NumberedToken) → slice_get xs at ≡ Some t
    → ((scope : Scope) (now : Shown) (before : List Shown) (ts : Shown) → actuals depth now before (shown scope t ∷ ts) ≡ separated is_last now before (shown scope t ∷ ts))
    → Walks xs at depth → IsArgumentEnd xs (Some (record { len = at; is_last = is_last }))
walk_ends xs at depth is_last t here ended walks = (
  place_within xs at t here,
  λ scope before. walk_at xs at depth t here walks scope before
      ∙ ended scope (all_shown scope (take at xs)) before (all_shown scope (drop (suc at) xs))
      ∙ ap (λ (l : Tokens). separated is_last (all_shown scope (take at xs)) before (all_shown scope l)) (sym (at_place xs at t here)),
)

-- to the end of the tokens
pub walk_fails : (xs : Tokens) (at depth : ℕ) → drop at xs ≡ [] → Walks xs at depth → IsArgumentEnd xs None
walk_fails xs at depth none walks scope before =
    walks scope before ∙ ap (λ (l : Tokens). actuals depth (all_shown scope (take at xs)) before (all_shown scope l)) none

-- ---- lengths that are known

take_of_take : (n g : ℕ) (xs : Tokens) → g ≤ length (take n xs) → take g (take n xs) ≡ take g xs
take_of_take zero zero xs less = refl
take_of_take zero (suc g) xs less = absurd (omega (arith, less))
take_of_take (suc n) g [] less = refl
take_of_take (suc n) zero (x ∷ xs) less = refl
take_of_take (suc n) (suc g) (x ∷ xs) less = ap (λ (l : Tokens). x ∷ l) (take_of_take n g xs (omega (arith, less)))

shorter : (n : ℕ) (xs : Tokens) → length (take n xs) ≤ length xs
shorter zero xs = omega arith
shorter (suc n) [] = omega arith
shorter (suc n) (x ∷ xs) = omega (arith, shorter n xs)

pub grouped_take : (n : ℕ) (ws : List Waiting) → AreGrouped ws → AreGrouped (take n ws)
grouped_take zero ws all = tt
grouped_take (suc n) [] all = tt
grouped_take (suc n) (w ∷ ws) all = (
  λ some within.
      let same : parts (take n ws) ≡ take n (parts ws) = sym (take-map (λ (w : Waiting). w.part) n ws) in
      let less : w.group ≤ length (take n (parts ws)) = omega (arith, within, ap length same) in
      ap (λ (l : Tokens). closes 0 (take w.group l)) same ∙ ap (closes 0) (take_of_take n w.group (parts ws) less) ∙ all.0 some (omega (arith, less, shorter n (parts ws))),
  grouped_take n ws all.1,
)

pub grouped_drop : (n : ℕ) (ws : List Waiting) → AreGrouped ws → AreGrouped (drop n ws)
grouped_drop zero ws all = all
grouped_drop (suc n) [] all = tt
grouped_drop (suc n) (w ∷ ws) all = grouped_drop n ws all.1

pub group_there : (ws : List Waiting) (i : ℕ) (w : Waiting) → AreGrouped ws → slice_get ws i ≡ Some w → IsGroup w.group (drop (suc i) (parts ws))
group_there [] i w all at = absurd cc
group_there (v ∷ ws) zero w all at = subst (λ (u : Waiting). IsGroup u.group (parts ws)) (some_is v w at) all.0
group_there (v ∷ ws) (suc i) w all at = group_there ws i w all.1 at

-- ---- one more token

abbrev ClosesOn : ℕ → Tokens → Tokens → Type 0
ClosesOn d xs ys = (k n : ℕ) → n ≡ k + d → closes k xs ≡ true → closes (suc n) (xs ++ ys) ≡ true

closes_close : (k n d : ℕ) (x : NumberedToken) (xs ys : Tokens) → n ≡ k + d → opens x ≡ false → ends x ≡ true → closes k (x ∷ xs) ≡ true → closes d ys ≡ true → ClosesOn d xs ys → closes (suc n) (x ∷ (xs ++ ys)) ≡ true
closes_close zero n d x xs ys is o e p q on =
    let none : xs ≡ [] = nil_from_length xs (eqb-true (length xs) 0 (sym (closes_by zero x xs false true o e) ∙ p)) in
    let same : n ≡ d = omega (arith, is) in
    closes_by (suc n) x (xs ++ ys) false true o e ∙ (λ i. closes (same i) (none i ++ ys)) ∙ q
closes_close (suc k) n d x xs ys is o e p q on =
    let less : n ≡ suc (k + d) = omega (arith, is) in
    closes_by (suc n) x (xs ++ ys) false true o e ∙ ap (λ (m : ℕ). closes m (xs ++ ys)) less ∙ on k (k + d) refl (sym (closes_by (suc k) x xs false true o e) ∙ p)

closes_on : (k n d : ℕ) (x : NumberedToken) (xs ys : Tokens) (o e : Bool) → n ≡ k + d → opens x ≡ o → ends x ≡ e → closes k (x ∷ xs) ≡ true → closes d ys ≡ true → ClosesOn d xs ys → closes (suc n) (x ∷ (xs ++ ys)) ≡ true
closes_on k n d x xs ys true e is o c p q on = closes_by (suc n) x (xs ++ ys) true e o c ∙ on (suc k) (suc n) (omega (arith, is)) (sym (closes_by k x xs true e o c) ∙ p)
closes_on k n d x xs ys false true is o c p q on = closes_close k n d x xs ys is o c p q on
closes_on k n d x xs ys false false is o c p q on = closes_by (suc n) x (xs ++ ys) false false o c ∙ on k n is (sym (closes_by k x xs false false o c) ∙ p)

closes_both : (d : ℕ) (xs ys : Tokens) → closes d ys ≡ true → ClosesOn d xs ys
closes_both d [] ys q k n is p = not_true p
closes_both d (x ∷ xs) ys q k n is p = closes_on k n d x xs ys (opens x) (ends x) is refl refl p q (closes_both d xs ys q)

take_two : (a b n : ℕ) (xs : Tokens) → n ≡ a + b → take n xs ≡ take a xs ++ take b (drop a xs)
take_two zero b n xs is = let same : n ≡ b = omega (arith, is) in ap (λ (m : ℕ). take m xs) same
take_two (suc a) b n [] is = none n ∙ sym (none b) where
  none : (m : ℕ) → take {A = NumberedToken} m [] ≡ []
  none zero = refl
  none (suc m) = refl
take_two (suc a) b n (x ∷ xs) is =
    let more : n ≡ suc (a + b) = omega (arith, is) in
    ap (λ (m : ℕ). take m (x ∷ xs)) more ∙ ap (λ (l : Tokens). x ∷ l) (take_two a b (a + b) xs refl)

pub length_dropped : (n : ℕ) (xs : Tokens) → n ≤ length xs → length (drop n xs) + n ≡ length xs
length_dropped zero xs less = omega arith
length_dropped (suc n) [] less = absurd (omega (arith, less))
length_dropped (suc n) (x ∷ xs) less = omega (arith, length_dropped n xs (omega (arith, less)))

-- a closing parenthesis
pub closing_one : (t : NumberedToken) (xs : Tokens) (ns : List ℕ) → opens t ≡ false → ends t ≡ true → AreClosing ns xs → AreClosing (1 ∷ ns) (t ∷ xs)
closing_one t xs ns o e all = (omega arith, closes_by 0 t [] false true o e, all)

-- another token
closing_token : (t : NumberedToken) (xs : Tokens) (ns : List ℕ) → opens t ≡ false → ends t ≡ false → AreClosing ns xs → AreClosing (with_more (0 + 1) ns) (t ∷ xs)
closing_token t xs [] o e all = tt
closing_token t xs (n ∷ ns) o e all =
    let is : n + (0 + 1) ≡ suc n = omega arith in
    subst (λ (m : ℕ). AreClosing (m ∷ ns) (t ∷ xs)) (sym is) (omega (arith, all.0), closes_by 0 t (take n xs) false false o e ∙ all.1, all.2)

-- an opening parenthesis, and the group that it opens
closing_open : (t : NumberedToken) (xs : Tokens) (n : ℕ) (ns : List ℕ) → opens t ≡ true → AreClosing (n ∷ ns) xs → AreClosing (with_more (n + 1) ns) (t ∷ xs)
closing_open t xs n [] o all = tt
closing_open t xs n (m ∷ ns) o all =
    let is : m + (n + 1) ≡ suc (n + m) = omega arith in
    let rest = all.2 in
    let closed : closes 1 (take (n + m) xs) ≡ true = ap (closes 1) (take_two n m (n + m) xs refl) ∙ closes_both 0 (take n xs) (take m (drop n xs)) rest.1 0 0 refl all.1 in
    subst (λ (k : ℕ). AreClosing (k ∷ ns) (t ∷ xs)) (sym is) (
      omega (arith, all.0, rest.0, length_dropped n xs all.0),
      closes_by 0 t (take (n + m) xs) true (ends t) o refl ∙ closed,
      subst (λ (l : Tokens). AreClosing ns l) (drop-drop m n xs) rest.2,
    )

closing_by : (b : Bool) (t : NumberedToken) (xs : Tokens) (ns : List ℕ) → opens t ≡ b → ends t ≡ false → AreClosing ns xs → AreClosing (with_more ((group_opened b ns).0 + 1) (group_opened b ns).1) (t ∷ xs)
closing_by false t xs ns o e all = closing_token t xs ns o e all
closing_by true t xs [] o e all = tt
closing_by true t xs (n ∷ ns) o e all = closing_open t xs n ns o all

-- what is closed behind one more token
pub closing_put : (t : NumberedToken) (xs : Tokens) (ns : List ℕ) → ends t ≡ false → AreClosing ns xs → AreClosing (with_more ((group_opened (opens t) ns).0 + 1) (group_opened (opens t) ns).1) (t ∷ xs)
closing_put t xs ns e all = closing_by (opens t) t xs ns refl e all

pub opened_group : (b : Bool) (xs : Tokens) (ns : List ℕ) → AreClosing ns xs → IsGroup (group_opened b ns).0 xs
opened_group false xs ns all some within = absurd (omega (arith, some))
opened_group true xs [] all some within = absurd (omega (arith, some))
opened_group true xs (n ∷ ns) all some within = all.1

pub no_sum_wraps : (b : Bool) (xs : Tokens) (ns : List ℕ) (n : ℕ) (more : List ℕ) → AreClosing ns xs → (group_opened b ns).1 ≡ n ∷ more → n + (group_opened b ns).0 ≤ length xs
no_sum_wraps false xs [] n more all is = absurd cc
no_sum_wraps true xs [] n more all is = absurd cc
no_sum_wraps false xs (k ∷ ns) n more all is = let same : k ≡ n = cc in omega (arith, same, all.0)
no_sum_wraps true xs (k ∷ []) n more all is = absurd cc
no_sum_wraps true xs (k ∷ m ∷ ns) n more all is = let same : m ≡ n = cc in omega (arith, same, all.0, all.2.0, length_dropped k xs all.0)

pub parts_length : (ws : List Waiting) → length (parts ws) ≡ length ws
parts_length ws = length-map ws (λ (w : Waiting). w.part)

-- ---- an argument that is taken

-- what the call of `argument_end` says, and what is taken by it: `first` up to the sign, and `rest` behind it
pub record TakesOne (ts : Tokens) (e : ArgumentEnd) (first : Tokens) (sign : NumberedToken) (rest : Tokens) : Type 0 where
  pub ended : IsArgumentEnd ts (Some e)
  pub first-is : first ≡ take e.len ts
  pub behind : drop e.len ts ≡ sign ∷ rest

abbrev Lists : Type 0
Lists = List Tokens

at_sign : (ts : Tokens) (e : ArgumentEnd) (first rest : Tokens) (sign : NumberedToken) (is_last : Bool) → TakesOne ts e first sign rest → e.is_last ≡ is_last → (scope : Scope) (before : List Shown) → actuals 0 [] before (all_shown scope ts) ≡ separated is_last (all_shown scope first) before (shown scope sign ∷ all_shown scope rest)
at_sign ts e first rest sign is_last takes is scope before =
    takes.ended.1 scope before
    ∙ (λ i. separated (is i) (all_shown scope (sym takes.first-is i)) before (all_shown scope (takes.behind i)))

-- the last argument
pub takes_last : (ts : Tokens) (e : ArgumentEnd) (first rest : Tokens) (sign : NumberedToken) (lists all : Lists) → TakesOne ts e first sign rest → e.is_last ≡ true → all ≡ lists ++ first ∷ [] → (scope : Scope) → actuals 0 [] (map (all_shown scope) lists) (all_shown scope ts) ≡ Some (record { arguments = map (all_shown scope) all; close = shown scope sign; rest = all_shown scope rest })
takes_last ts e first rest sign lists all takes is pushed scope =
    let together : map (all_shown scope) all ≡ map (all_shown scope) lists ++ all_shown scope first ∷ [] = ap (map (all_shown scope)) pushed ∙ shown_push_list scope lists first in
    at_sign ts e first rest sign true takes is scope (map (all_shown scope) lists)
    ∙ ap (λ (l : List Shown). Some (record { arguments = l; close = shown scope sign; rest = all_shown scope rest })) (sym together)

-- another argument
pub takes_next : (ts : Tokens) (e : ArgumentEnd) (first rest : Tokens) (sign : NumberedToken) (lists all : Lists) → TakesOne ts e first sign rest → e.is_last ≡ false → all ≡ lists ++ first ∷ [] → (scope : Scope) → actuals 0 [] (map (all_shown scope) all) (all_shown scope rest) ≡ actuals 0 [] (map (all_shown scope) lists) (all_shown scope ts)
takes_next ts e first rest sign lists all takes is pushed scope =
    let together : map (all_shown scope) all ≡ map (all_shown scope) lists ++ all_shown scope first ∷ [] = ap (map (all_shown scope)) pushed ∙ shown_push_list scope lists first in
    ap (λ (l : List Shown). actuals 0 [] l (all_shown scope rest)) together
    ∙ sym (at_sign ts e first rest sign false takes is scope (map (all_shown scope) lists))

pub takes_lighter : (ts : Tokens) (e : ArgumentEnd) (first rest : Tokens) (sign : NumberedToken) (lists all : Lists) → TakesOne ts e first sign rest → all ≡ lists ++ first ∷ [] → weight_of_lists all + 2 * length rest + 1 ≡ weight_of_lists lists + 2 * length ts
takes_lighter ts e first rest sign lists all takes pushed =
    let whole : length (take e.len ts) + length (drop e.len ts) ≡ length ts = sym (length-append (take e.len ts) (drop e.len ts)) ∙ ap length (take-append-drop e.len ts) in
    omega (arith, whole, ap length takes.first-is, ap length takes.behind, ap weight_of_lists pushed, weight_push lists first)

pub takes_shorter : (ts : Tokens) (e : ArgumentEnd) (first rest : Tokens) (sign : NumberedToken) → TakesOne ts e first sign rest → length rest < length ts
takes_shorter ts e first rest sign takes = omega (arith, ap length takes.behind, length_dropped e.len ts (omega (arith, takes.ended.0)))
