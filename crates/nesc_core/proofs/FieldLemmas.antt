-- Where a field lies, by the fields before it; whether one of some runs has a part.
use Rattle.std.proofs.Common.{◌≡◌, ℕ, ◌+◌, ◌*◌, ◌-◌, ◌/◌, ◌%◌, ◌<◌, ◌≤◌, ◌≢◌, Bool, true, false, List, [], ◌∷◌, length, map, get_or, take, fold, Option, Some, ap, sym, ◌∙◌, refl, arith}
use Rattle.std.specs.Prelude.{slice_get, ◌||◌, ◌&&◌, ◌==◌, nat_le, nat_lt, if◌then◌else◌}
use Rattle.std.specs.Option.{option_map}
use Rattle.std.specs.List.{list_any}
use Rattle.std.proofs.lemmas.List.{take-map}
use Rattle.std.proofs.lemmas.Option.{slice_get_read}
use Rattle.std.proofs.lemmas.Option.{slice_get-map}
use Rattle.std.proofs.lemmas.Bool.Decides.{nat_tests}
use Rattle.std.proofs.lemmas.Bool.{eqb-true, eqb-false}
use Rattle.std.proofs.Math.Bool.{or-false, or-true, or_assoc}
use Rattle.std.proofs.Math.Nat.{mul_comm, mul-mod_right, div-eq_of_eq-mul_right, div-add-mod}
use Rattle.std.proofs.Math.ListN as list
use Rattle.nesc_core.specs.declared.tree.Structs.{Structs}
use Rattle.nesc_core.specs.declared.tree.Field as tree
use Rattle.nesc_core.specs.declared.layout.Layout.{Layout}
use Rattle.nesc_core.specs.Plain.{Field, struct}
use Rattle.nesc_core.specs.View.{type_of, field_of, structs_of}
use Rattle.nesc_core.specs.Size.{rounded, fields_layout, layout_of, struct_at}
use Rattle.nesc_core.specs.PlaceTypes.{field_type, field_offset}
use Rattle.nesc_core.specs.Parts.{Run, one_part, with_part, runs, run_has}
use Rattle.nesc_core.proofs.SizeLemmas.{fields_are, map-field_of}

abbrev offset_at : (structs : List (List Field)) (k : ℕ) → List Field → ℕ
offset_at structs k fs =
    rounded (fields_layout (map (λ f. layout_of structs f.ty) (take k fs))).size (layout_of structs (field_type (slice_get fs k))).align

pub offset_is : (s : Structs) (n : ℕ) (fields : List tree.Field) (k : ℕ) (f : tree.Field) (done : Layout)
    → fields ≡ get_or s.structs n [] → k < length fields → f ≡ get_or fields k f
    → done ≡ fields_layout (map (λ g. layout_of (structs_of s) (type_of g.ty)) (take k fields))
    → rounded done.size (layout_of (structs_of s) (type_of f.ty)).align ≡ field_offset (structs_of s) (struct n) k
offset_is s n fields k f done same inside is so_far =
    let structs = structs_of s in
    let all : get_or structs n [] ≡ map field_of fields = fields_are s n ∙ ap (map field_of) (sym same) in
    let before : map (λ (g : Field). layout_of structs g.ty) (take k (map field_of fields)) ≡ map (λ (g : tree.Field). layout_of structs (type_of g.ty)) (take k fields) =
    ap (map (λ (g : Field). layout_of structs g.ty)) (take-map field_of k fields) ∙ map-field_of (struct_at structs (length structs)) (take k fields) in
    let here : slice_get (map field_of fields) k ≡ Some (field_of f) =
    slice_get-map field_of fields k ∙ ap (option_map field_of) (slice_get_read fields (length fields) k f refl inside is) in
    ap (λ (d : Layout). rounded d.size (layout_of structs (type_of f.ty)).align) (so_far ∙ ap fields_layout (sym before))
    ∙ ap (λ (o : Option Field). rounded (fields_layout (map (λ g. layout_of structs g.ty) (take k (map field_of fields)))).size (layout_of structs (field_type o)).align) (sym here)
    ∙ ap (offset_at structs k) (sym all)

pub inside_fields : (s : Structs) (n : ℕ) (fields : List tree.Field) (k : ℕ) → fields ≡ get_or s.structs n [] → k < length (get_or (structs_of s) n []) → k < length fields
inside_fields s n fields k same inside =
    let all : length (get_or (structs_of s) n []) ≡ length fields = ap length (fields_are s n ∙ ap (map field_of) (sym same)) ∙ list.length-map fields field_of in
    omega arith

-- ---- runs

all_true : (s t u b : Bool) → s ≡ true → t ≡ true → u ≡ true → (s && t && u) ≡ (b || true)
all_true true true true b s t u = sym (or-true b)
all_true true true false b s t u = cc
all_true true false w b s t u = cc
all_true false v w b s t u = cc

all_alike : (s t u v : Bool) → (s ≡ true → t ≡ true → u ≡ v) → (s && t && u) ≡ ((s && t && v) || false)
all_alike true true u v same = same refl refl ∙ sym (or-false v)
all_alike true false u v same = refl
all_alike false t u v same = refl

-- part c of a run
part_in : (size : ℕ) → 0 < size → (f c n a : ℕ) → a ≡ f + size * c → c < n → (b : Bool) → run_has size a (record { first = f; count = n }) ≡ (b || true)
part_in size some f c n a is below b =
    let d : a - f ≡ size * c = omega arith in
    let r : (a - f) % size ≡ 0 = ap (λ k. k % size) d ∙ mul-mod_right size c in
    let q : (a - f) / size ≡ c = div-eq_of_eq-mul_right some d in
    all_true (nat_le f a) ((a - f) % size == 0) (nat_lt ((a - f) / size) n) b (grind (arith, nat_tests)) (grind (arith, nat_tests)) (grind (arith, nat_tests))

-- no other part
no_other : (size : ℕ) → 0 < size → (f c a : ℕ) → (a ≡ f + size * c → ⊥)
    → run_has size a (record { first = f; count = c + 1 }) ≡ (run_has size a (record { first = f; count = c }) || false)
no_other size some f c a apart =
    all_alike (nat_le f a) ((a - f) % size == 0) (nat_lt ((a - f) / size) (c + 1)) (nat_lt ((a - f) / size) c) same
  where
    same : nat_le f a ≡ true → ((a - f) % size == 0) ≡ true → nat_lt ((a - f) / size) (c + 1) ≡ nat_lt ((a - f) / size) c
    same above whole =
        let le : f ≤ a = grind (arith, nat_tests) in
        let r : (a - f) % size ≡ 0 = eqb-true _ 0 whole in
        let d : size * ((a - f) / size) + (a - f) % size ≡ a - f = div-add-mod (a - f) size in
        let other : (a - f) / size ≢ c = λ q. apart (omega (arith, ap (λ k. size * k) q)) in
        grind (arith, nat_tests)

one_more : (size : ℕ) → 0 < size → (f c x a : ℕ) → f + c * size ≡ x
    → run_has size a (record { first = f; count = c + 1 }) ≡ (run_has size a (record { first = f; count = c }) || (x == a))
one_more size some f c x a adjacent = by_test (x == a) refl
  where
    turned : c * size ≡ size * c
    turned = mul_comm c size

    by_test : (b : Bool) → (x == a) ≡ b → run_has size a (record { first = f; count = c + 1 }) ≡ (run_has size a (record { first = f; count = c }) || b)
    by_test true is = part_in size some f c (c + 1) a (omega (arith, eqb-true x a is, turned)) (omega arith) _
    by_test false is = no_other size some f c a (λ e. eqb-false x a is (omega (arith, turned)))

single : (size : ℕ) → 0 < size → (x a : ℕ) → run_has size a (one_part x) ≡ (x == a)
single size some x a = one_more size some x 0 x a (omega arith) ∙ ap (λ b. b || (x == a)) (none (nat_le x a) ((a - x) % size == 0) (nat_lt ((a - x) / size) 0) (grind (arith, nat_tests)))
  where
    none : (s t u : Bool) → u ≡ false → (s && t && u) ≡ false
    none true true u is = is
    none true false u is = refl
    none false t u is = refl

module _ (size : ℕ) (some : 0 < size) (a : ℕ) where
  extended_by : (b : Bool) (r : Run) (x : ℕ) → (r.first + r.count * size == x) ≡ b
      → list_any (run_has size a) (if b then record { first = r.first; count = r.count + 1 } ∷ [] else r ∷ one_part x ∷ []) ≡ (run_has size a r || (x == a))
  extended_by true r x is =
      or-false _ ∙ one_more size some r.first r.count x a (eqb-true _ _ is)
  extended_by false r x is = ap (λ b. run_has size a r || b) (or-false _ ∙ single size some x a)

  with_part_has : (rs : List Run) (x : ℕ) → list_any (run_has size a) (with_part size rs x) ≡ (list_any (run_has size a) rs || (x == a))
  with_part_has [] x = or-false _ ∙ single size some x a
  with_part_has (r ∷ []) x = extended_by (r.first + r.count * size == x) r x refl ∙ ap (λ b. b || (x == a)) (sym (or-false (run_has size a r)))
  with_part_has (r ∷ s ∷ rs) x = ap (λ b. run_has size a r || b) (with_part_has (s ∷ rs) x) ∙ sym (or_assoc (run_has size a r) _ _)

  folded_has : (rs : List Run) (xs : List ℕ) → list_any (run_has size a) (fold (with_part size) rs xs) ≡ (list_any (run_has size a) rs || list_any (λ x. x == a) xs)
  folded_has rs [] = sym (or-false _)
  folded_has rs (x ∷ xs) =
      folded_has (with_part size rs x) xs ∙ ap (λ b. b || list_any (λ y. y == a) xs) (with_part_has rs x) ∙ or_assoc (list_any (run_has size a) rs) _ _

pub runs_have : (size : ℕ) → 0 < size → (xs : List ℕ) (a : ℕ) → list_any (run_has size a) (runs size xs) ≡ list_any (λ x. x == a) xs
runs_have size some xs a = folded_has size some a [] xs
