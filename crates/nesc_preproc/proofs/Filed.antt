-- Files by name and by number, as the code keeps them.
use Rattle.std.proofs.Common.{◌≡◌, ℕ, zero, suc, ◌+◌, ◌<◌, ◌≤◌, Bool, true, false, List, [], ◌∷◌, ◌++◌, length, map, get_or, Option, Some, None, refl, sym, ap, ◌∙◌, cond, arith}
use Rattle.std.specs.Prelude.{if◌then◌else◌, slice_get, slice_index_or}
use Rattle.std.specs.List.{position, position_or_len}
use Rattle.std.specs.Option.{MatchOption}
use Rattle.std.specs.Cmp.Lexicographic.{nat_list_eq_equiv}
use Rattle.std.proofs.lemmas.Bool.{ltb-false}
use Rattle.std.proofs.lemmas.List.Quantifiers.{position-Some}
use Rattle.std.proofs.lemmas.List.Sums.{fails_before_first}
use Rattle.indexmap.specs.IndexMap.{insert_entry, set_value_at}
use Rattle.nesc_macros.specs.Invocation.{Name, same_name}
use Rattle.nesc_preproc.specs.Sources.{file_from}
use Rattle.nesc_preproc.specs.FileTables.{files_of}

abbrev Entries : Type 0
Entries = List (Name × List ℕ)

abbrev names : Entries → List Name
names = map (λ e. e.0)

abbrev texts : Entries → List (List ℕ)
texts = map (λ e. e.1)

abbrev turned : (a b : Name) → same_name a b ≡ same_name b a
turned a b = nat_list_eq_equiv.symm a b

-- ---- a file that is added

abbrev by_name : ℕ → Name × List ℕ → Entries → Name → Bool → Option (ℕ × List ℕ)
by_name k e es name same = elim same [ true ↦ Some (k, e.1) | false ↦ file_from (k + 1) (names es) (texts es) name ]

some_file : {P : Type 0} (x : ℕ × List ℕ) → Some x ≡ None → P
some_file x e = absurd cc

inserted_by : (e : Name × List ℕ) (es : Entries) (name : Name) (text : List ℕ) (k : ℕ) (same : Bool) → same_name e.0 name ≡ same → by_name k e es name same ≡ None
    → (file_from (k + 1) (names es) (texts es) name ≡ None → insert_entry same_name es name text ≡ es ++ (name, text) ∷ []) → insert_entry same_name (e ∷ es) name text ≡ e ∷ (es ++ (name, text) ∷ [])
inserted_by e es name text k true test none rest = some_file (k, e.1) none
inserted_by e es name text k false test none rest =
    ap (λ (b : Bool). if b then (e.0, text) ∷ es else e ∷ insert_entry same_name es name text) (turned name e.0 ∙ test) ∙ ap (λ (l : Entries). e ∷ l) (rest none)

pub inserted_new : (es : Entries) (name : Name) (text : List ℕ) (k : ℕ) → file_from k (names es) (texts es) name ≡ None → insert_entry same_name es name text ≡ es ++ (name, text) ∷ []
inserted_new [] name text k none = refl
inserted_new (e ∷ es) name text k none = inserted_by e es name text k (same_name e.0 name) refl none (λ none. inserted_new es name text (k + 1) none)

-- ---- a file that is found

abbrev IsFirst : Name → List Name → ℕ → Type 0
IsFirst name ns i = (i < length ns) × (same_name name (get_or ns i name) ≡ true) × ((j : ℕ) → j < i → same_name name (get_or ns j name) ≡ false)

file_at : (es : Entries) (name : Name) (k i n : ℕ) → n ≡ k + i → IsFirst name (names es) i → file_from k (names es) (texts es) name ≡ Some (n, slice_index_or (texts es) i [])
file_at [] name k i n is first = absurd (omega (arith, first.0))
file_at (e ∷ es) name k zero n is first =
    let number : k ≡ n = omega (arith, is) in
    ap (by_name k e es name) (turned e.0 name ∙ first.1) ∙ ap (λ (m : ℕ). Some (m, e.1)) number
file_at (e ∷ es) name k (suc i) n is first =
    ap (by_name k e es name) (turned e.0 name ∙ first.2 0 (omega arith))
    ∙ file_at es name (k + 1) i n (omega (arith, is)) (omega (arith, first.0), first.1, λ j less. first.2 (suc j) (omega (arith, less)))

no_file : (es : Entries) (name : Name) (k : ℕ) → ((j : ℕ) → j < length (names es) → same_name name (get_or (names es) j name) ≡ false) → file_from k (names es) (texts es) name ≡ None
no_file [] name k none = refl
no_file (e ∷ es) name k none =
    ap (by_name k e es name) (turned e.0 name ∙ none 0 (omega arith)) ∙ no_file es name (k + 1) (λ j less. none (suc j) (omega (arith, less)))

not_some : (b : Bool) (i : ℕ) → cond b (Some i) None ≡ None → b ≡ false
not_some true i e = absurd cc
not_some false i e = refl

pub found_by : (es : Entries) (name : Name) (number : Option ℕ) → position (same_name name) (names es) ≡ number
    → MatchOption number (file_from 0 (names es) (texts es) name ≡ None) (λ k. file_from 0 (names es) (texts es) name ≡ Some (k, slice_index_or (texts es) k []))
found_by es name (Some i) is = file_at es name 0 i i (omega arith) (position-Some (same_name name) (names es) i name is)
found_by es name None is =
    let past : length (names es) ≤ position_or_len (same_name name) (names es) = ltb-false _ _ (not_some _ _ is) in
    no_file es name 0 (λ j less. fails_before_first (same_name name) (names es) j name (omega (arith, less, past)))

-- ---- a file of a number

pub text_at : (es : Entries) (i : ℕ) (e : Name × List ℕ) → slice_get es i ≡ Some e → slice_index_or (texts es) i [] ≡ e.1
text_at [] i e at = absurd cc
text_at (x ∷ es) zero e at = ap (λ (o : Option (Name × List ℕ)). first_or o) at where
  first_or : Option (Name × List ℕ) → List ℕ
  first_or None = []
  first_or (Some x) = x.1
text_at (x ∷ es) (suc i) e at = text_at es i e at

-- a text that is written over by itself
kept_value : (es : Entries) (i : ℕ) (text : List ℕ) → slice_get (texts es) i ≡ Some text → set_value_at es i text ≡ es
kept_value [] i text at = refl
kept_value (e ∷ es) zero text at = λ k. (e.0, sym (some_is e.1 text at) k) ∷ es where
  some_is : (a b : List ℕ) → Some a ≡ Some b → a ≡ b
  some_is a b e = cc
kept_value (e ∷ es) (suc i) text at = ap (λ (l : Entries). e ∷ l) (kept_value es i text at)

pub same_files : (es now : Entries) (i : ℕ) (old new : List ℕ) → slice_get (texts es) i ≡ Some old → new ≡ old → now ≡ set_value_at es i new → files_of now ≡ files_of es
same_files es now i old new at same is = ap files_of (is ∙ ap (set_value_at es i) same ∙ kept_value es i old at)
