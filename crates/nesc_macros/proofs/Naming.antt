-- Hide sets of numbers and the names that they stand for.
use Rattle.std.proofs.Common.{◌≡◌, ℕ, zero, suc, ◌+◌, ◌*◌, Bool, true, false, not, ◌&&◌, ◌||◌, List, [], ◌∷◌, ◌++◌, length, map, Option, Some, None, refl, sym, ap, subst, ◌∙◌, cond, arith, append_assoc, inl, inr}
use Rattle.std.specs.Prelude.{nat_eq, filter, slice_get, drop, if◌then◌else◌}
use Rattle.std.specs.List.{cons_option, fold, list_any}
use Rattle.std.specs.Option.{option_map}
use Rattle.std.specs.Cmp.Lexicographic.{bytes_decides}
use Rattle.std.proofs.lemmas.List.Sums.{sum_by-cons}
use Rattle.std.proofs.lemmas.Bool.{cases_Bool, eq-eqb, eqb-true}
use Rattle.std.proofs.lemmas.Bool.Decides.{Decides-eqb, same_from_decides}
use Rattle.std.proofs.lemmas.List.Elements.{filter-append, filter_map-append}
use Rattle.std.proofs.lemmas.List.Folds.{list_any-append}
use Rattle.std.proofs.lemmas.List.{append-nil, length-map, map-append}
use Rattle.nesc_macros.specs.declared.definition.Macro.{Macro}
use Rattle.nesc_macros.specs.declared.definition.NumberedToken.{NumberedToken}
use Rattle.nesc_macros.specs.Invocation.{Name, Actuals, PreprocessingToken, Passes, FunctionLike, Misused, actuals, fits, invoked, same_name, is_among, is_empty, is_word, macro_of, may_be_used, use_of, used, used_as}
use Rattle.nesc_macros.specs.Expansion.{intersection, tokens_of, union}
use Rattle.nesc_macros.specs.declared.frames.Frame.{Frame}
use Rattle.nesc_macros.specs.Frames.{weight_of_frame, weight_of_frames}
use Rattle.nm_base.specs.declared.token.Token.{Token}
use Rattle.nesc_macros.specs.Code.{begins_arguments, weight_of_lists}
use Rattle.nesc_macros.specs.Tables.{Numbers, is_number, name_if, name_in, number_of}
use Rattle.nesc_macros.specs.declared.hide_sets.HideSet.{HideSet}
use Rattle.nesc_macros.specs.declared.hide_sets.Link.{Link}
use Rattle.nesc_macros.specs.declared.replacement.Union.{Union}
use Rattle.nesc_macros.specs.Sets.{numbers_in}
use Rattle.nesc_macros.specs.Numbers.{Scope, macros_at, name_at, named, names_of, shown, all_shown, has, common, joined, tokens_in}

-- ---- numbers and names

some_is : {A : Type 0} (a b : A) → Some a ≡ Some b → a ≡ b
some_is a b e = cc

not_none : {A : Type 0} {P : Type 0} (a : A) → None ≡ Some a → P
not_none a e = absurd cc

tested : (k : Option ℕ) (i : ℕ) (name a : Name) (b : Bool) → is_number k i ≡ b → cond b (Some name) None ≡ Some a → k ≡ Some i
tested None i name a true test e = absurd cc
tested (Some k) i name a true test e = ap (λ (n : ℕ). Some n) (eqb-true k i test)
tested k i name a false test e = not_none a e

numbered_of : (numbers : Numbers) (i : ℕ) (a : Name) (found : Option Macro) → name_if numbers i found ≡ Some a → number_of numbers a ≡ Some i
numbered_of numbers i a None e = not_none a e
numbered_of numbers i a (Some m) e =
    subst (λ (n : Name). number_of numbers n ≡ Some i) (is_named (is_number (number_of numbers m.name) i) e) (tested (number_of numbers m.name) i m.name a (is_number (number_of numbers m.name) i) refl e)
  where
    is_named : (b : Bool) → cond b (Some m.name) None ≡ Some a → m.name ≡ a
    is_named true f = some_is m.name a f
    is_named false f = not_none a f

-- a name has one number
pub number_at : (scope : Scope) (i : ℕ) (a : Name) → name_at scope i ≡ Some a → number_of (scope.macros.numbers) a ≡ Some i
unfolding name_in
number_at scope i a e = numbered_of (scope.macros.numbers) i a (slice_get scope.macros.definitions i) e

pub same_number : (scope : Scope) (i j : ℕ) (a b : Name) → name_at scope i ≡ Some a → name_at scope j ≡ Some b → same_name a b ≡ nat_eq i j
same_number scope i j a b e f =
    same_from_decides (same_name a b) (nat_eq i j) (
      λ same. some_is i j (sym (number_at scope i a e) ∙ ap (number_of (scope.macros.numbers)) ((bytes_decides a b).0 same) ∙ number_at scope j b f),
      λ same. (bytes_decides a b).1 (some_is a b (sym e ∙ ap (name_at scope) same ∙ f)),
    )
    (Decides-eqb i j)

-- ---- membership

turned : (i j : ℕ) → nat_eq i j ≡ nat_eq j i
turned i j = same_from_decides (nat_eq i j) (nat_eq j i) (λ s. sym (eqb-true i j s), λ s. eq-eqb i j (sym s)) (Decides-eqb j i)

flipped : (scope : Scope) (i j : ℕ) (a b : Name) → name_at scope i ≡ Some a → name_at scope j ≡ Some b → same_name a b ≡ nat_eq j i
flipped scope i j a b e f = same_number scope i j a b e f ∙ turned i j

not_same : (scope : Scope) (i j : ℕ) (a : Name) → name_at scope i ≡ Some a → name_at scope j ≡ None → nat_eq j i ≡ false
not_same scope i j a e none = elim (cases_Bool (nat_eq j i)) [
  | inl same ↦ not_none a (sym none ∙ ap (name_at scope) (eqb-true j i same) ∙ e)
  | inr other ↦ other
]

has_step : (scope : Scope) (i j : ℕ) (a : Name) (here : Option Name) (names : List Name) (numbers : List ℕ) → name_at scope i ≡ Some a → name_at scope j ≡ here → is_among names a ≡ has numbers i → is_among (cons_option here names) a ≡ has (j ∷ numbers) i
has_step scope i j a None names numbers e none rest = rest ∙ ap (λ (b : Bool). b || has numbers i) (sym (not_same scope i j a e none))
has_step scope i j a (Some b) names numbers e some rest = (λ k. flipped scope i j a b e some k || rest k)

pub is_among_names : (scope : Scope) (numbers : List ℕ) (i : ℕ) (a : Name) → name_at scope i ≡ Some a → is_among (named scope numbers) a ≡ has numbers i
is_among_names scope [] i a e = refl
is_among_names scope (j ∷ numbers) i a e = has_step scope i j a (name_at scope j) (named scope numbers) numbers e refl (is_among_names scope numbers i a e)

-- ---- the operations

common_step : (scope : Scope) (x : ℕ) (here : Option Name) (xs ys : List ℕ) (b : Bool) → name_at scope x ≡ here → has ys x ≡ b
    → named scope (filter (has ys) xs) ≡ filter (is_among (named scope ys)) (named scope xs)
    → named scope (cond b (x ∷ filter (has ys) xs) (filter (has ys) xs)) ≡ filter (is_among (named scope ys)) (cons_option here (named scope xs))
common_step scope x None xs ys true e h rest = ap (λ (o : Option Name). cons_option o (named scope (filter (has ys) xs))) e ∙ rest
common_step scope x None xs ys false e h rest = rest
common_step scope x (Some a) xs ys true e h rest =
    let among : is_among (named scope ys) a ≡ true = is_among_names scope ys x a e ∙ h in
    ap (λ (o : Option Name). cons_option o (named scope (filter (has ys) xs))) e ∙ ap (λ (l : List Name). a ∷ l) rest
    ∙ ap (λ (b : Bool). cond b (a ∷ filter (is_among (named scope ys)) (named scope xs)) (filter (is_among (named scope ys)) (named scope xs))) (sym among)
common_step scope x (Some a) xs ys false e h rest =
    let among : is_among (named scope ys) a ≡ false = is_among_names scope ys x a e ∙ h in
    rest ∙ ap (λ (b : Bool). cond b (a ∷ filter (is_among (named scope ys)) (named scope xs)) (filter (is_among (named scope ys)) (named scope xs))) (sym among)

pub names_in_common : (scope : Scope) (xs ys : List ℕ) → named scope (common xs ys) ≡ intersection (named scope xs) (named scope ys)
names_in_common scope [] ys = refl
names_in_common scope (x ∷ xs) ys = common_step scope x (name_at scope x) xs ys (has ys x) refl refl (names_in_common scope xs ys)

others_step : (scope : Scope) (y : ℕ) (here : Option Name) (xs ys : List ℕ) (b : Bool) → name_at scope y ≡ here → has xs y ≡ b
    → named scope (filter (λ y. not (has xs y)) ys) ≡ filter (λ n. not (is_among (named scope xs) n)) (named scope ys)
    → named scope (cond (not b) (y ∷ filter (λ y. not (has xs y)) ys) (filter (λ y. not (has xs y)) ys)) ≡ filter (λ n. not (is_among (named scope xs) n)) (cons_option here (named scope ys))
others_step scope y None xs ys true e h rest = rest
others_step scope y None xs ys false e h rest = ap (λ (o : Option Name). cons_option o (named scope (filter (λ y. not (has xs y)) ys))) e ∙ rest
others_step scope y (Some a) xs ys true e h rest =
    let among : is_among (named scope xs) a ≡ true = is_among_names scope xs y a e ∙ h in
    rest ∙ ap (λ (b : Bool). cond (not b) (a ∷ filter (λ n. not (is_among (named scope xs) n)) (named scope ys)) (filter (λ n. not (is_among (named scope xs) n)) (named scope ys))) (sym among)
others_step scope y (Some a) xs ys false e h rest =
    let among : is_among (named scope xs) a ≡ false = is_among_names scope xs y a e ∙ h in
    ap (λ (o : Option Name). cons_option o (named scope (filter (λ y. not (has xs y)) ys))) e ∙ ap (λ (l : List Name). a ∷ l) rest
    ∙ ap (λ (b : Bool). cond (not b) (a ∷ filter (λ n. not (is_among (named scope xs) n)) (named scope ys)) (filter (λ n. not (is_among (named scope xs) n)) (named scope ys))) (sym among)

named_others : (scope : Scope) (xs ys : List ℕ) → named scope (filter (λ y. not (has xs y)) ys) ≡ filter (λ n. not (is_among (named scope xs) n)) (named scope ys)
named_others scope xs [] = refl
named_others scope xs (y ∷ ys) = others_step scope y (name_at scope y) xs ys (has xs y) refl refl (named_others scope xs ys)

pub names_joined : (scope : Scope) (xs ys : List ℕ) → named scope (joined xs ys) ≡ union (named scope xs) (named scope ys)
names_joined scope xs ys =
    filter_map-append (name_at scope) xs (filter (λ y. not (has xs y)) ys)
    ∙ ap (λ (l : List Name). named scope xs ++ l) (named_others scope xs ys)

pub names_with : (scope : Scope) (i : ℕ) (a : Name) (numbers : List ℕ) → name_at scope i ≡ Some a → named scope (i ∷ numbers) ≡ a ∷ named scope numbers
names_with scope i a numbers e = ap (λ (o : Option Name). cons_option o (named scope numbers)) e

-- ---- sets that are parts of one another

has_here : (front xs : List ℕ) (x : ℕ) → has (front ++ x ∷ xs) x ≡ true
has_here front xs x = list_any-append (λ (n : ℕ). nat_eq n x) front (x ∷ xs) ∙ ap (λ (b : Bool). has front x || (b || has xs x)) (eq-eqb x x refl) ∙ or_true (has front x)
  where
    or_true : (b : Bool) → (b || true) ≡ true
    or_true true = refl
    or_true false = refl

all_in_common : (front xs : List ℕ) → filter (has (front ++ xs)) xs ≡ xs
all_in_common front [] = refl
all_in_common front (x ∷ xs) =
    ap (λ (b : Bool). cond b (x ∷ filter (has (front ++ x ∷ xs)) xs) (filter (has (front ++ x ∷ xs)) xs)) (has_here front xs x)
    ∙ ap (λ (l : List ℕ). x ∷ l) (subst (λ (l : List ℕ). filter (has l) xs ≡ xs) (append_assoc front (x ∷ []) xs) (all_in_common (front ++ x ∷ []) xs))

pub common_of_same : (xs ys : List ℕ) → xs ≡ ys → common xs ys ≡ xs
common_of_same xs ys same = subst (λ (l : List ℕ). filter (has l) xs ≡ xs) same (all_in_common [] xs)

none_besides : (front xs : List ℕ) → filter (λ y. not (has (front ++ xs) y)) xs ≡ []
none_besides front [] = refl
none_besides front (x ∷ xs) =
    ap (λ (b : Bool). cond (not b) (x ∷ filter (λ y. not (has (front ++ x ∷ xs) y)) xs) (filter (λ y. not (has (front ++ x ∷ xs) y)) xs)) (has_here front xs x)
    ∙ subst (λ (l : List ℕ). filter (λ y. not (has l y)) xs ≡ []) (append_assoc front (x ∷ []) xs) (none_besides (front ++ x ∷ []) xs)

pub joined_with_end : (front xs ys : List ℕ) → xs ≡ front ++ ys → joined xs ys ≡ xs
joined_with_end front xs ys is =
    ap (λ (l : List ℕ). xs ++ l) (subst (λ (l : List ℕ). filter (λ y. not (has l y)) ys ≡ []) (sym is) (none_besides front ys)) ∙ append-nil xs

pub joined_with_one_more : (n : ℕ) (older rest others : List ℕ) → others ≡ older ++ rest → filter (λ y. not (has (n ∷ older) y)) rest ≡ rest → joined (n ∷ older) others ≡ n ∷ others
joined_with_one_more n older rest others is apart =
    ap (joined (n ∷ older)) is
    ∙ ap (λ (l : List ℕ). n ∷ older ++ l) (filter-append (λ (y : ℕ). not (has (n ∷ older) y)) older rest ∙ ap (λ (l : List ℕ). l ++ filter (λ (y : ℕ). not (has (n ∷ older) y)) rest) (none_besides (n ∷ []) older) ∙ apart)
    ∙ ap (λ (l : List ℕ). n ∷ l) (sym is)

-- ---- what a token is used as

used_without : (b : Bool) (ts : List PreprocessingToken) → used b None ts ≡ Passes
used_without true ts = refl
used_without false ts = refl

and_not : (b c : Bool) → c ≡ true → (b && not c) ≡ false
and_not true c e = ap not e
and_not false c e = refl

pub no_word : (scope : Scope) (t : NumberedToken) (ts : List PreprocessingToken) → is_word t.token ≡ false → use_of (macros_at scope) (shown scope t) ts ≡ Passes
no_word scope t ts e = ap (λ (b : Bool). used (b && not (is_among (names_of scope t.hide_set) t.token.text)) (macro_of (macros_at scope) t.token.text) ts) e

pub no_macro : (scope : Scope) (t : NumberedToken) (ts : List PreprocessingToken) → macro_of (macros_at scope) t.token.text ≡ None → use_of (macros_at scope) (shown scope t) ts ≡ Passes
no_macro scope t ts e = ap (λ (m : Option Macro). used (may_be_used (shown scope t)) m ts) e ∙ used_without (may_be_used (shown scope t)) ts

hidden_as : (scope : Scope) (t : NumberedToken) (m : Macro) (i : ℕ) → name_at scope i ≡ Some m.name → m.name ≡ t.token.text → is_among (names_of scope t.hide_set) t.token.text ≡ has (numbers_in scope.links t.hide_set) i
hidden_as scope t m i at is_named = is_among_names scope (numbers_in scope.links t.hide_set) i t.token.text (at ∙ ap (λ (n : Name). Some n) is_named)

pub hidden_in_it : (scope : Scope) (t : NumberedToken) (m : Macro) (i : ℕ) (ts : List PreprocessingToken) → name_at scope i ≡ Some m.name → m.name ≡ t.token.text → has (numbers_in scope.links t.hide_set) i ≡ true → use_of (macros_at scope) (shown scope t) ts ≡ Passes
hidden_in_it scope t m i ts at is_named hides =
    ap (λ (b : Bool). used b (macro_of (macros_at scope) t.token.text) ts) (and_not (is_word t.token) _ (hidden_as scope t m i at is_named ∙ hides))

pub used_there : (scope : Scope) (t : NumberedToken) (m : Macro) (i : ℕ) (ts : List PreprocessingToken) → is_word t.token ≡ true → macro_of (macros_at scope) t.token.text ≡ Some m → name_at scope i ≡ Some m.name → m.name ≡ t.token.text → has (numbers_in scope.links t.hide_set) i ≡ false → use_of (macros_at scope) (shown scope t) ts ≡ used_as m m.parameters ts
used_there scope t m i ts word found at is_named hides =
    ap (λ (b : Bool). used (b && not (is_among (names_of scope t.hide_set) t.token.text)) (macro_of (macros_at scope) t.token.text) ts) word
    ∙ ap (λ (b : Bool). used (not b) (macro_of (macros_at scope) t.token.text) ts) (hidden_as scope t m i at is_named ∙ hides)
    ∙ ap (λ (o : Option Macro). used true o ts) found

-- ---- lists of tokens

pub slice_get-shown : (scope : Scope) (lists : List (List NumberedToken)) (i : ℕ) → slice_get (map (all_shown scope) lists) i ≡ option_map (all_shown scope) (slice_get lists i)
slice_get-shown scope [] i = refl
slice_get-shown scope (l ∷ lists) zero = refl
slice_get-shown scope (l ∷ lists) (suc i) = slice_get-shown scope lists i

empty_as_shown : (scope : Scope) (ts : List NumberedToken) → is_empty (all_shown scope ts) ≡ nat_eq (length ts) 0
empty_as_shown scope ts = ap (λ (n : ℕ). nat_eq n 0) (length-map ts (shown scope))

pub any_empty : (scope : Scope) (lists : List (List NumberedToken)) → list_any is_empty (map (all_shown scope) lists) ≡ list_any (λ (l : List NumberedToken). nat_eq (length l) 0) lists
any_empty scope [] = refl
any_empty scope (l ∷ lists) = λ k. empty_as_shown scope l k || any_empty scope lists k

-- a function-like macro with `(` behind its name, whose arguments were looked for
pub function_use : (scope : Scope) (t : NumberedToken) (m : Macro) (ps : List Name) (old rest : List NumberedToken) (found : Option Actuals)
    → ((ts : List PreprocessingToken) → use_of (macros_at scope) (shown scope t) ts ≡ used_as m m.parameters ts) → m.parameters ≡ Some ps → begins_arguments old ≡ true → rest ≡ drop 1 old → actuals 0 [] [] (all_shown scope rest) ≡ found
    → use_of (macros_at scope) (shown scope t) (all_shown scope old) ≡ invoked m ps true found
function_use scope t m ps [] rest found uses has-ps begins is taken = absurd cc
function_use scope t m ps (o ∷ old) rest found uses has-ps begins is taken =
    uses (all_shown scope (o ∷ old))
    ∙ ap (λ (p : Option (List Name)). used_as m p (all_shown scope (o ∷ old))) has-ps
    ∙ ap (λ (b : Bool). invoked m ps b (actuals 0 [] [] (all_shown scope old))) begins
    ∙ ap (λ (l : List NumberedToken). invoked m ps true (actuals 0 [] [] (all_shown scope l))) (sym is)
    ∙ ap (invoked m ps true) taken

pub shown_push : (scope : Scope) (list : List NumberedToken) (t : NumberedToken) → all_shown scope (list ++ t ∷ []) ≡ all_shown scope list ++ shown scope t ∷ []
shown_push scope list t = map-append (shown scope) list (t ∷ [])

pub shown_push_list : (scope : Scope) (lists : List (List NumberedToken)) (list : List NumberedToken) → map (all_shown scope) (lists ++ list ∷ []) ≡ map (all_shown scope) lists ++ all_shown scope list ∷ []
shown_push_list scope lists list = map-append (all_shown scope) lists (list ∷ [])

pub invoked_fits : (m : Macro) (ps : List Name) (found : Actuals) → fits ps found.arguments ≡ true → invoked m ps true (Some found) ≡ FunctionLike m ps found
invoked_fits m ps found e = ap (λ (b : Bool). if b then FunctionLike m ps found else Misused) e

pub invoked_misused : (m : Macro) (ps : List Name) (found : Actuals) → fits ps found.arguments ≡ false → invoked m ps true (Some found) ≡ Misused
invoked_misused m ps found e = ap (λ (b : Bool). if b then FunctionLike m ps found else Misused) e

pub one_begins : (old rest : List NumberedToken) → begins_arguments old ≡ true → rest ≡ drop 1 old → length old ≡ length rest + 1
one_begins [] rest begins is = absurd cc
one_begins (o ∷ old) rest begins is = omega (arith, ap length is)

fold_push : (a : ℕ) (lists : List (List NumberedToken)) (list : List NumberedToken) → fold (λ (a : ℕ) (x : List NumberedToken). a + (2 * length x + 1)) a (lists ++ list ∷ []) ≡ fold (λ (a : ℕ) (x : List NumberedToken). a + (2 * length x + 1)) a lists + (2 * length list + 1)
fold_push a [] list = refl
fold_push a (l ∷ lists) list = fold_push (a + (2 * length l + 1)) lists list

pub weight_push : (lists : List (List NumberedToken)) (list : List NumberedToken) → weight_of_lists (lists ++ list ∷ []) ≡ weight_of_lists lists + (2 * length list + 1)
weight_push lists list = fold_push 0 lists list

pub fits_as_shown : (scope : Scope) (ps : List Name) (lists : List (List NumberedToken)) → fits ps (map (all_shown scope) lists)
    ≡ (nat_eq (length ps) (length lists) || (nat_eq (length ps) 0 && (nat_eq (length lists) 1 && list_any (λ (l : List NumberedToken). nat_eq (length l) 0) lists)))
fits_as_shown scope ps lists =
    let n = length-map lists (all_shown scope) in
    λ k. nat_eq (length ps) (n k) || (nat_eq (length ps) 0 && (nat_eq (n k) 1 && any_empty scope lists k))

pub shown_append : (scope : Scope) (xs ys : List NumberedToken) → all_shown scope (xs ++ ys) ≡ all_shown scope xs ++ all_shown scope ys
shown_append scope xs ys = map-append (shown scope) xs ys

pub shown_length : (scope : Scope) (ts : List NumberedToken) → length (all_shown scope ts) ≡ length ts
shown_length scope ts = length-map ts (shown scope)

pub names_of_replacement : (scope : Scope) (number : ℕ) (name : Name) (hide_set x y : HideSet) → numbers_in scope.links hide_set ≡ number ∷ common (numbers_in scope.links x) (numbers_in scope.links y) → name_at scope number ≡ Some name → names_of scope hide_set ≡ name ∷ intersection (names_of scope x) (names_of scope y)
names_of_replacement scope number name hide_set x y is at =
    let xs = numbers_in scope.links x in
    let ys = numbers_in scope.links y in
    ap (named scope) is ∙ names_with scope number name (common xs ys) at ∙ ap (λ (l : List Name). name ∷ l) (names_in_common scope xs ys)

pub tokens_as_shown : (scope : Scope) (ts : List NumberedToken) → tokens_in ts ≡ tokens_of (all_shown scope ts)
tokens_as_shown scope [] = refl
tokens_as_shown scope (t ∷ ts) = ap (λ (l : List Token). t.token ∷ l) (tokens_as_shown scope ts)

pub weight_front : (f : Frame) (fs : List Frame) → weight_of_frames (f ∷ fs) ≡ weight_of_frame f + weight_of_frames fs
weight_front f fs = sum_by-cons weight_of_frame f fs

pub union_of_names : (scope : Scope) (hide_set part : HideSet) (u : Union) → u.part ≡ part → numbers_in scope.links u.all ≡ joined (numbers_in scope.links hide_set) (numbers_in scope.links u.part) → names_of scope u.all ≡ union (names_of scope hide_set) (names_of scope part)
union_of_names scope hide_set part u same is =
    ap (named scope) is ∙ names_joined scope (numbers_in scope.links hide_set) (numbers_in scope.links u.part) ∙ ap (λ (s : HideSet). union (names_of scope hide_set) (names_of scope s)) same

pub union_with_empty : (links : List Link) (hide_set none : HideSet) → numbers_in links none ≡ [] → numbers_in links hide_set ≡ joined (numbers_in links hide_set) (numbers_in links none)
union_with_empty links hide_set none is =
    sym (append-nil (numbers_in links hide_set)) ∙ ap (λ (l : List ℕ). joined (numbers_in links hide_set) l) (sym is)
