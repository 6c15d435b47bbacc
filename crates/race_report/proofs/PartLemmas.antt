-- A type has a part of another one exactly where one of its parts is of that type.
use Rattle.std.proofs.Common.{◌≡◌, ℕ, zero, suc, ◌+◌, ◌<◌, ◌≤◌, ◌==◌, Bool, true, false, ◌&&◌, ◌⊎◌, inl, inr, List, [], ◌∷◌, ◌++◌, length, map, drop, get_or, refl, sym, subst, ap, arith, ◌∙◌, All}
use Rattle.std.specs.Prelude.{◌||◌, not, slice_index_or}
use Rattle.std.specs.List.{list_any, range_with_len}
use Rattle.std.proofs.Math.Path.{fun_ext}
use Rattle.std.proofs.Math.ListN as list
use Rattle.std.proofs.Math.ListN.{drop_of_length-le}
use Rattle.std.proofs.lemmas.Bool.Decides.{nat_tests}
use Rattle.std.proofs.lemmas.List.{get_or_default}
use Rattle.std.proofs.lemmas.List.Folds.{list_any-append}
use Rattle.std.proofs.lemmas.List.FromFn.{get_or-map-range_with_len, length-map-range_with_len, map-range_with_len_more}
use Rattle.nesc_core.specs.declared.layout.Layout.{Layout}
use Rattle.nesc_core.specs.declared.tree.Field as tree
use Rattle.nesc_core.specs.declared.tree.Structs.{Structs}
use Rattle.nesc_core.specs.Plain.{Ty, void, int, pointer, array, struct, Field, Object}
use Rattle.nesc_core.specs.Size.{layout, rounded, with_field, type_layout, struct_at, NamesBelow, AreSized}
use Rattle.nesc_core.specs.Parts.{Part, same_type, parts_of_elements, parts_of_fields, parts_of, parts_in_struct, parts_of_object}
use Rattle.nesc_core.specs.View.{field_of, structs_of}
use Rattle.call_graph.proofs.Lists.{nat_either}
use Rattle.call_graph.proofs.ViewLists.{next_of}
use Rattle.race_report.specs.Parts.{has_part, struct_has, is_marked}

pub or_none : (b : Bool) → (b || false) ≡ b
or_none true = refl
or_none false = refl

or_itself : (b more : Bool) → (b || (more && b)) ≡ b
or_itself true more = refl
or_itself false true = refl
or_itself false false = refl

some_more : (n : ℕ) → not (suc n == 0) ≡ true
some_more n = grind (arith, nat_tests)

-- ---- parts of one type

module _ (wanted : Ty) where
  abbrev is_it : Part → Bool
  is_it q = same_type q.ty wanted

  any_elements : (parts : ℕ → List Part) (has : Bool) → ((a : ℕ) → list_any is_it (parts a) ≡ has) → (size n a : ℕ)
      → list_any is_it (parts_of_elements parts size n a) ≡ (not (n == 0) && has)
  any_elements parts has same size zero a = refl
  any_elements parts has same size (suc n) a =
      list_any-append is_it (parts a) (parts_of_elements parts size n (a + size))
      ∙ ap (λ b. b || list_any is_it (parts_of_elements parts size n (a + size))) (same a)
      ∙ ap (λ b. has || b) (any_elements parts has same size n (a + size))
      ∙ or_itself has (not (n == 0))
      ∙ sym (ap (λ b. b && has) (some_more n))

  any_fields : (parts : Ty → ℕ → List Part) (has : Ty → Bool) (lies : Ty → Layout) → ((t : Ty) (a : ℕ) → list_any is_it (parts t a) ≡ has t)
      → (a : ℕ) (done : Layout) (fs : List Field) → list_any is_it (parts_of_fields parts lies a done fs) ≡ list_any (λ f. has f.ty) fs
  any_fields parts has lies same a done [] = refl
  any_fields parts has lies same a done (f ∷ fs) =
      let at : ℕ = a + rounded done.size (lies f.ty).align in
      let next : Layout = with_field done (lies f.ty) in
      list_any-append is_it (parts f.ty at) (parts_of_fields parts lies a next fs)
      ∙ ap (λ b. b || list_any is_it (parts_of_fields parts lies a next fs)) (same f.ty at)
      ∙ ap (λ b. has f.ty || b) (any_fields parts has lies same a next fs)

  any_in : (of_struct : ℕ → Layout) (in_struct : ℕ → ℕ → List Part) (has : ℕ → Bool) → ((k a : ℕ) → list_any is_it (in_struct k a) ≡ has k)
      → (t : Ty) (a : ℕ) → list_any is_it (parts_of of_struct in_struct t a) ≡ has_part wanted has t
  any_in of_struct in_struct has same void a = or_none (same_type void wanted)
  any_in of_struct in_struct has same (int t) a = or_none (same_type (int t) wanted)
  any_in of_struct in_struct has same (pointer t) a = or_none (same_type (pointer t) wanted)
  any_in of_struct in_struct has same (array t n) a =
      ap (λ b. same_type (array t n) wanted || b)
      (any_elements (parts_of of_struct in_struct t) (has_part wanted has t) (any_in of_struct in_struct has same t) (type_layout of_struct t).size n a)
  any_in of_struct in_struct has same (struct k) a = ap (λ b. same_type (struct k) wanted || b) (same k a)

  any_struct : (structs : List (List Field)) (depth k a : ℕ) → list_any is_it (parts_in_struct structs depth k a) ≡ struct_has structs wanted depth k
  any_struct structs zero k a = refl
  any_struct structs (suc depth) k a =
      any_fields (parts_of (struct_at structs depth) (parts_in_struct structs depth)) (has_part wanted (struct_has structs wanted depth))
      (type_layout (struct_at structs depth))
      (any_in (struct_at structs depth) (parts_in_struct structs depth) (struct_has structs wanted depth) (any_struct structs depth))
      a (layout 0 1) (slice_index_or structs k [])

  -- an object has one where its type does
  pub any_object : (structs : List (List Field)) (o : Object) (has : ℕ → Bool) → ((k : ℕ) → has k ≡ struct_has structs wanted (length structs) k)
      → has_part wanted has o.ty ≡ list_any is_it (parts_of_object structs o)
  any_object structs o has same =
      ap (λ h. has_part wanted h o.ty) (fun_ext same)
      ∙ sym (any_in (struct_at structs (length structs)) (parts_in_struct structs (length structs)) (struct_has structs wanted (length structs))
      (any_struct structs (length structs)) o.ty o.addr)

  -- ---- the table

  part-same : (g h : ℕ → Bool) (n : ℕ) → ((j : ℕ) → j < n → g j ≡ h j) → (t : Ty) → NamesBelow n t → has_part wanted g t ≡ has_part wanted h t
  part-same g h n same void names = refl
  part-same g h n same (int t) names = refl
  part-same g h n same (pointer t) names = refl
  part-same g h n same (array t len) names = ap (λ b. same_type (array t len) wanted || (not (len == 0) && b)) (part-same g h n same t names)
  part-same g h n same (struct k) names = ap (λ b. same_type (struct k) wanted || b) (same k names)

  any-same : (p q : Field → Bool) (fs : List Field) → ((i : ℕ) (d : Field) → i < length fs → p (get_or fs i d) ≡ q (get_or fs i d)) → list_any p fs ≡ list_any q fs
  any-same p q [] same = refl
  any-same p q (f ∷ fs) same =
      ap (λ b. b || list_any p fs) (same 0 f (omega arith))
      ∙ ap (λ b. q f || b) (any-same p q fs (λ i d below. same (suc i) d (omega (arith, below))))

  -- of the first n structs
  abbrev pub first_has : (structs : List (List Field)) (n : ℕ) → List Bool
  first_has structs n = map (struct_has structs wanted (length structs)) (range_with_len 0 n)

  module _ (structs : List (List Field)) (lower : (k : ℕ) → k < length structs → All (λ f. NamesBelow k f.ty) (get_or structs k [])) where
    depth-same : (m n k : ℕ) → k < m → k < n → k < length structs → struct_has structs wanted m k ≡ struct_has structs wanted n k
    depth-same zero n k km kn inside = absurd (omega arith)
    depth-same (suc m) zero k km kn inside = absurd (omega arith)
    depth-same (suc m) (suc n) k km kn inside =
        any-same (λ f. has_part wanted (struct_has structs wanted m) f.ty) (λ f. has_part wanted (struct_has structs wanted n) f.ty) (get_or structs k [])
        (λ i d below. part-same (struct_has structs wanted m) (struct_has structs wanted n) k
        (λ j jk. depth-same m n j (omega arith) (omega arith) (omega arith)) (get_or (get_or structs k []) i d).ty (lower k inside i d below))

    first_at : (n j : ℕ) → j < n → is_marked (first_has structs n) j ≡ struct_has structs wanted (length structs) j
    first_at n j below = get_or-map-range_with_len (struct_has structs wanted (length structs)) 0 n j j false below (omega arith)

    pub next_has : (k : ℕ) → k < length structs → list_any (λ f. has_part wanted (is_marked (first_has structs k)) f.ty) (get_or structs k []) ≡ struct_has structs wanted (length structs) k
    next_has k inside =
        any-same (λ f. has_part wanted (is_marked (first_has structs k)) f.ty) (λ f. has_part wanted (struct_has structs wanted (length structs)) f.ty) (get_or structs k [])
        (λ i d below. part-same (is_marked (first_has structs k)) (struct_has structs wanted (length structs)) k (first_at k) (get_or (get_or structs k []) i d).ty (lower k inside i d below))
        ∙ depth-same (suc (length structs)) (length structs) k (omega arith) inside inside

    past_structs : (xs : List (List Field)) (k : ℕ) → length xs ≤ k → slice_index_or xs k [] ≡ []
    past_structs [] k past = refl
    past_structs (x ∷ xs) zero past = absurd (omega (arith, past))
    past_structs (x ∷ xs) (suc k) past = past_structs xs k (omega (arith, past))

    past_marks : (xs : List Bool) (k : ℕ) → length xs ≤ k → is_marked xs k ≡ false
    past_marks [] k past = refl
    past_marks (x ∷ xs) zero past = absurd (omega (arith, past))
    past_marks (x ∷ xs) (suc k) past = past_marks xs k (omega (arith, past))

    none_past : (depth k : ℕ) → length structs ≤ k → struct_has structs wanted depth k ≡ false
    none_past zero k past = refl
    none_past (suc depth) k past = ap (list_any (λ f. has_part wanted (struct_has structs wanted depth) f.ty)) (past_structs structs k past)

    -- the whole table
    pub whole_has : (n : ℕ) (marks : List Bool) → length structs ≤ n → marks ≡ first_has structs n → (k : ℕ) → is_marked marks k ≡ struct_has structs wanted (length structs) k
    whole_has n marks all is k = ap (λ ms. is_marked ms k) is ∙ by_place (nat_either n k)
      where
        by_place : (n ≤ k) ⊎ (k < n) → is_marked (first_has structs n) k ≡ struct_has structs wanted (length structs) k
        by_place (inr inside) = first_at n k inside
        by_place (inl past) =
            past_marks (first_has structs n) k (subst (λ m. m ≤ k) (sym (length-map-range_with_len (struct_has structs wanted (length structs)) 0 n)) past)
            ∙ sym (none_past (length structs) k (omega (arith, all, past)))

-- what the loop over all structs has at hand
module _
    (wanted : Ty) (s : Structs) (sized : AreSized (structs_of s)) (k : ℕ)
    (xs : List (List tree.Field)) (item fields : List tree.Field) (marks items : List Bool)
    (same : xs ≡ s.structs) (below : k < length xs) (is : item ≡ get_or xs k item) (fields_is : fields ≡ item)
    (so_far : items ≡ first_has wanted (structs_of s) k) (marks_is : marks ≡ items) where
  inside : k < length (structs_of s)
  inside = rw list.length-map (subst (λ (ys : List (List tree.Field)). k < length ys) same below)

  here : map field_of fields ≡ get_or (structs_of s) k []
  here =
      ap (map field_of) (fields_is ∙ is)
      ∙ sym (list.get_or-map (map field_of) xs k item)
      ∙ get_or_default (map (map field_of) xs) k (map field_of item) [] (rw list.length-map below)
      ∙ ap (λ (ys : List (List tree.Field)). get_or (map (map field_of) ys) k []) same

  pub more_here : (has : Bool) (new : List Bool) → has ≡ list_any (λ f. has_part wanted (is_marked marks) f.ty) (map field_of fields) → new ≡ items ++ has ∷ []
      → new ≡ first_has wanted (structs_of s) (k + 1)
  more_here has new has_is new_is =
      new_is ∙ ap (λ (ms : List Bool). ms ++ has ∷ []) so_far
      ∙ ap (λ (b : Bool). first_has wanted (structs_of s) k ++ b ∷ [])
      (has_is ∙ ap (λ (ms : List Bool). list_any (λ f. has_part wanted (is_marked ms) f.ty) (map field_of fields)) (marks_is ∙ so_far)
      ∙ ap (list_any (λ f. has_part wanted (is_marked (first_has wanted (structs_of s) k)) f.ty)) here
      ∙ next_has wanted (structs_of s) sized.lower k inside)
      ∙ sym (map-range_with_len_more (struct_has (structs_of s) wanted (length (structs_of s))) 0 k k (omega arith))

pub table_at_end : (wanted : Ty) (s : Structs) (sized : AreSized (structs_of s)) (n : ℕ) (xs : List (List tree.Field)) (items : List Bool)
    → xs ≡ s.structs → length xs ≤ n → items ≡ first_has wanted (structs_of s) n
    → (k : ℕ) → is_marked items k ≡ struct_has (structs_of s) wanted (length (structs_of s)) k
table_at_end wanted s sized n xs items same past so_far =
    let all : length (structs_of s) ≤ n = omega (arith, past, ap length same, list.length-map s.structs (map field_of)) in
    whole_has wanted (structs_of s) sized.lower n items all so_far

pub field_next : (test : Field → Bool) (xs : List tree.Field) (k : ℕ) (f : tree.Field) → k < length xs → f ≡ get_or xs k f
    → list_any test (map field_of (drop k xs)) ≡ list_any test (field_of f ∷ map field_of (drop (k + 1) xs))
field_next test xs k f below is = ap (λ ys. list_any test (map field_of ys)) (next_of xs k f below is)

pub ruleset steps = (field_next, drop_of_length-le)
