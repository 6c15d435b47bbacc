-- Rows by object are the report.
use Rattle.std.proofs.Common.{◌≡◌, ℕ, zero, suc, ◌<◌, ◌≤◌, ◌==◌, Bool, true, false, if◌then◌else◌, ◌&&◌, ◌⊎◌, inl, inr, List, [], ◌∷◌, ◌++◌, length, filter, flat_map, ltb, is_lt, nat_cmp, Less, Equal, Greater, None, refl, sym, ap, arith, ◌∙◌, append-nil}
use Rattle.std.specs.Prelude.{not, slice_get, slice_index_or}
use Rattle.std.specs.List.Sorted.{IsNonDecreasingBy, ties, IsStableByKey}
use Rattle.std.proofs.lemmas.Bool.{ne_eqb, eq-eqb, lt-ltb, le-ltb}
use Rattle.std.proofs.lemmas.Grind.{flat_map-append}
use Rattle.std.proofs.lemmas.List.{length-append}
use Rattle.std.proofs.lemmas.List.Elements.{filter_agree}
use Rattle.nesc_core.specs.Plain.{Program}
use Rattle.call_graph.specs.Paths.{below}
use Rattle.call_graph.proofs.Lists.{nat_either}
use Rattle.race_checker.specs.declared.row.Row.{Row}
use Rattle.race_checker.specs.Computed.{async_path, is_marked, rows_for, report_of}
use Rattle.race_report.specs.Limit.{IsUpToLimit}
use Rattle.race_report.specs.Sites.{object_rows, only, Grows, IsByObject}
use Rattle.race_report.proofs.Passing.{flat_same}
use Rattle.race_report.proofs.RowLemmas.{object_is}

-- from a on, each no less than those before it
abbrev Rises : (a : ℕ) → List Row → Type 0
Rises a [] = Unit {0}
Rises a (r ∷ rows) = (a ≤ r.object) × Rises r.object rows

rises : (a : ℕ) (rows : List Row) → IsNonDecreasingBy (λ (r : Row). r.object) rows → ((d : Row) → 0 < length rows → a ≤ (slice_index_or rows 0 d).object) → Rises a rows
rises a [] h low = tt
rises a (r ∷ rows) h low = (
  low r (omega arith),
  rises r.object rows (λ i j d le lt. h (suc i) (suc j) d (omega (arith, le)) (omega (arith, lt))) (λ d some. h 0 (suc 0) d (omega arith) (omega (arith, some))),
)

-- those of objects below n
abbrev under : (n : ℕ) → List Row → List Row
under n rows = filter (λ r. ltb r.object n) rows

none_under : (n a : ℕ) (rows : List Row) → n ≤ a → Rises a rows → under n rows ≡ []
none_under n a [] le h = refl
none_under n a (r ∷ rows) le h =
    ap (λ b. if b then r ∷ under n rows else under n rows) (le-ltb r.object n (omega (arith, le, h.0)))
    ∙ none_under n r.object rows (omega (arith, le, h.0)) h.1

under_more : (n a : ℕ) (rows : List Row) → Rises a rows → under (suc n) rows ≡ under n rows ++ only n rows
under_more n a [] h = refl
under_more n a (r ∷ rows) h = by_place (nat_either n r.object) (nat_either r.object n) (under_more n r.object rows h.1)
  where
    by_place : (n ≤ r.object) ⊎ (r.object < n) → (r.object ≤ n) ⊎ (n < r.object) → under (suc n) rows ≡ under n rows ++ only n rows
        → under (suc n) (r ∷ rows) ≡ under n (r ∷ rows) ++ only n (r ∷ rows)
    by_place (inl up) (inl down) rest =
        let same : r.object ≡ n = omega (arith, up, down) in
        ap (λ b. if b then r ∷ under (suc n) rows else under (suc n) rows) (lt-ltb r.object (suc n) (omega (arith, same)))
        ∙ ap (λ rs. r ∷ rs) (rest ∙ ap (λ rs. rs ++ only n rows) (none_under n r.object rows up h.1))
        ∙ sym (ap (λ b. (if b then r ∷ under n rows else under n rows) ++ only n (r ∷ rows)) (le-ltb r.object n up)
        ∙ ap (λ rs. rs ++ only n (r ∷ rows)) (none_under n r.object rows up h.1)
        ∙ ap (λ b. if b then r ∷ only n rows else only n rows) (eq-eqb r.object n same))
    by_place (inl up) (inr above) rest =
        ap (λ b. if b then r ∷ under (suc n) rows else under (suc n) rows) (le-ltb r.object (suc n) (omega (arith, above)))
        ∙ rest
        ∙ sym (ap (λ b. (if b then r ∷ under n rows else under n rows) ++ only n (r ∷ rows)) (le-ltb r.object n up)
        ∙ ap (λ b. under n rows ++ (if b then r ∷ only n rows else only n rows)) (ne_eqb r.object n (λ same. omega (arith, same, above))))
    by_place (inr low) other rest =
        ap (λ b. if b then r ∷ under (suc n) rows else under (suc n) rows) (lt-ltb r.object (suc n) (omega (arith, low)))
        ∙ ap (λ rs. r ∷ rs) rest
        ∙ sym (ap (λ b. (if b then r ∷ under n rows else under n rows) ++ only n (r ∷ rows)) (lt-ltb r.object n low)
        ∙ ap (λ b. r ∷ (under n rows ++ (if b then r ∷ only n rows else only n rows))) (ne_eqb r.object n (λ same. omega (arith, same, low))))

by_object : (n : ℕ) (rows : List Row) → Rises 0 rows → flat_map (λ x. only x rows) (below n) ≡ under n rows
by_object zero rows h = sym (nothing rows)
  where
    nothing : (rows : List Row) → under 0 rows ≡ []
    nothing [] = refl
    nothing (r ∷ rows) = ap (λ b. if b then r ∷ under 0 rows else under 0 rows) (le-ltb r.object 0 (omega arith)) ∙ nothing rows
by_object (suc n) rows h =
    flat_map-append (λ x. only x rows) (below n) (n ∷ [])
    ∙ ap (λ rs. rs ++ flat_map (λ x. only x rows) (n ∷ [])) (by_object n rows h)
    ∙ ap (λ rs. under n rows ++ rs) (append-nil (only n rows))
    ∙ sym (under_more n 0 rows h)

-- where no object is past n
all_under : (n : ℕ) (rows : List Row) → ((x : ℕ) → n ≤ x → only x rows ≡ []) → under n rows ≡ rows
all_under n [] none = refl
all_under n (r ∷ rows) none = by_place (nat_either n r.object) (all_under n rows)
  where
    by_place : (n ≤ r.object) ⊎ (r.object < n) → (((x : ℕ) → n ≤ x → only x rows ≡ []) → under n rows ≡ rows) → under n (r ∷ rows) ≡ r ∷ rows
    by_place (inl past) rest =
        let some : r ∷ only r.object rows ≡ [] = sym (ap (λ b. if b then r ∷ only r.object rows else only r.object rows) (eq-eqb r.object r.object refl)) ∙ none r.object past in
        absurd (omega (arith, ap length some))
    by_place (inr inside) rest =
        ap (λ b. if b then r ∷ under n rows else under n rows) (lt-ltb r.object n inside)
        ∙ ap (λ rs. r ∷ rs) (rest (λ x past. sym (ap (λ b. if b then r ∷ only x rows else only x rows) (ne_eqb r.object x (λ same. omega (arith, same, past, inside)))) ∙ none x past))

length_flat : {A : Type 0} (g h : A → List Row) → ((x : A) → length (g x) ≤ length (h x)) → (xs : List A) → length (flat_map g xs) ≤ length (flat_map h xs)
length_flat g h le [] = omega arith
length_flat g h le (x ∷ xs) = omega (arith, le x, length_flat g h le xs, length-append (g x) (flat_map g xs), length-append (h x) (flat_map h xs))

no_length : (rows : List Row) → length rows ≤ 0 → rows ≡ []
no_length [] h = refl
no_length (r ∷ rows) h = absurd (omega (arith, h))

past_get : {A : Type 0} (xs : List A) (k : ℕ) → length xs ≤ k → slice_get xs k ≡ None
past_get [] k past = refl
past_get (x ∷ xs) zero past = absurd (omega (arith, past))
past_get (x ∷ xs) (suc k) past = past_get xs k (omega (arith, past))

module _ (p : Program) (rows sorted : List Row) (grown : Grows (object_rows p) [] rows) (by : IsByObject rows sorted) where
  abbrev report_rows : ℕ → List Row
  report_rows x = rows_for p x (is_marked (slice_get p.objects x)) (async_path p x)

  fewer : (x : ℕ) → length (only x sorted) ≤ length (report_rows x)
  fewer x = let none : length (only x []) ≡ 0 = refl in omega (arith, none, ap length (by.same x), grown.no_more x, ap length (object_is p x))

  none_past : (x : ℕ) → length p.objects ≤ x → only x sorted ≡ []
  none_past x past =
      let nothing : report_rows x ≡ [] = ap (λ o. rows_for p x (is_marked o) (async_path p x)) (past_get p.objects x past) in
      no_length (only x sorted) (omega (arith, fewer x, ap length nothing))

  in_order : flat_map (λ x. only x sorted) (below (length p.objects)) ≡ sorted
  in_order = by_object (length p.objects) sorted (rises 0 sorted by.ordered (λ d some. omega arith)) ∙ all_under (length p.objects) sorted none_past

  pub up_to_limit : IsUpToLimit (report_of p) sorted
  up_to_limit = record {
    no_more = omega (arith, ap length in_order, length_flat (λ x. only x sorted) report_rows fewer (below (length p.objects)));
    these = λ few.
        sym in_order
        ∙ flat_same (λ x. only x sorted) report_rows (λ x. by.same x ∙ grown.these (omega (arith, few, by.size)) x ∙ object_is p x) (below (length p.objects));
  }

-- ---- what a stable sort by object keeps

abbrev any_row : ℕ → Row
any_row x = record { object = x; body = 0; node = 0; pos = record { file = 0; line = 0; col = 0 }; path = []; async_path = [] }

is_less : (a b : ℕ) → is_lt (nat_cmp a b) ≡ ltb a b
is_less a b = by_tests (ltb a b) (a == b)
  where
    by_tests : (c d : Bool) → is_lt (if c then Less else (if d then Equal else Greater)) ≡ c
    by_tests true d = refl
    by_tests false true = refl
    by_tests false false = refl

same_number : (a b : ℕ) → (not (ltb a b) && not (ltb b a)) ≡ (b == a)
same_number a b = by_order (nat_either a b) (nat_either b a)
  where
    by_order : (a ≤ b) ⊎ (b < a) → (b ≤ a) ⊎ (a < b) → (not (ltb a b) && not (ltb b a)) ≡ (b == a)
    by_order (inl up) (inl down) = ap (λ c. not c && not (ltb b a)) (le-ltb a b down) ∙ ap not (le-ltb b a up) ∙ sym (eq-eqb b a (omega (arith, up, down)))
    by_order (inl up) (inr above) = ap (λ c. not c && not (ltb b a)) (lt-ltb a b above) ∙ sym (ne_eqb b a (λ same. omega (arith, same, above)))
    by_order (inr low) other =
        ap (λ c. not c && not (ltb b a)) (le-ltb a b (omega (arith, low))) ∙ ap not (lt-ltb b a low) ∙ sym (ne_eqb b a (λ same. omega (arith, same, low)))

same_object : (x : ℕ) (r : Row) → ties (λ (q s : Row). is_lt (nat_cmp q.object s.object)) (any_row x) r ≡ (r.object == x)
same_object x r =
    ap (λ c. not c && not (is_lt (nat_cmp r.object x))) (is_less x r.object) ∙ ap (λ c. not (ltb x r.object) && not c) (is_less r.object x)
    ∙ same_number x r.object

pub same_rows : (old new : List Row) → IsStableByKey (λ (r : Row). r.object) nat_cmp old new → (x : ℕ) → only x new ≡ only x old
same_rows old new stable x =
    sym (filter_agree (ties (λ (q s : Row). is_lt (nat_cmp q.object s.object)) (any_row x)) (λ (r : Row). r.object == x) (same_object x) new)
    ∙ stable (any_row x)
    ∙ filter_agree (ties (λ (q s : Row). is_lt (nat_cmp q.object s.object)) (any_row x)) (λ (r : Row). r.object == x) (same_object x) old
