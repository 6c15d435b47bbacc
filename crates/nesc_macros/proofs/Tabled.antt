-- A table of macros: what a look-up finds, and what a definition changes.
use Rattle.std.proofs.Common.{◌≡◌, ℕ, zero, suc, ◌+◌, ◌<◌, ◌≤◌, Bool, true, false, not, List, [], ◌∷◌, ◌++◌, length, Option, Some, None, refl, sym, ap, subst, ◌∙◌, cond, arith}
use Rattle.std.specs.Prelude.{nat_eq, bytes_eq, slice_get}
use Rattle.std.specs.declared.vec.Vec.{Vec}
use Rattle.std.specs.declared.alloc.Global.{Global}
use Rattle.std.specs.Map.{lookup}
use Rattle.indexmap.specs.IndexMap.{insert_entry}
use Rattle.std.specs.Cmp.Lexicographic.{bytes_decides}
use Rattle.std.proofs.lemmas.Bool.{eq-eqb, eqb-true}
use Rattle.nesc_macros.specs.declared.definition.Macro.{Macro}
use Rattle.nesc_macros.specs.Invocation.{Name, same_name, macro_of}
use Rattle.nesc_macros.specs.Tables.{Numbers, Defined, counted_from, held, is_number, macros_of, name_if, name_in, number_of, with_number, without}

-- ---- the map of numbers

padded : (i : ℕ) → i ≡ 0 + i
padded i = omega arith

abbrev pub of_found : Option (Option ℕ) → Option ℕ
of_found None = None
of_found (Some n) = n

pub looked_up : (text : Name) (entries : List (Vec ℕ Global × Option ℕ)) → of_found (lookup (λ k. bytes_eq text k.items) entries) ≡ number_of (held entries) text
looked_up text [] = refl
looked_up text (x ∷ xs) =
    let by : (b : Bool) → of_found (cond b (Some x.1) (lookup (λ k. bytes_eq text k.items) xs)) ≡ cond b x.1 (number_of (held xs) text) = elim [ true ↦ refl | false ↦ looked_up text xs ] in
    by (bytes_eq text x.0.items)

pub inserted : (key : Vec ℕ Global) (value : Option ℕ) (entries : List (Vec ℕ Global × Option ℕ)) → held (insert_entry (λ k n. bytes_eq k.items n.items) entries key value) ≡ with_number key.items value (held entries)
inserted key value [] = refl
inserted key value (x ∷ xs) =
    let by : (b : Bool) → held (cond b ((x.0, value) ∷ xs) (x ∷ insert_entry (λ k n. bytes_eq k.items n.items) xs key value)) ≡ cond b ((x.0.items, value) ∷ held xs) ((x.0.items, x.1) ∷ with_number key.items value (held xs)) = elim [
      | true ↦ refl
      | false ↦ ap (λ (ns : Numbers). (x.0.items, x.1) ∷ ns) (inserted key value xs)
    ] in
    by (bytes_eq key.items x.0.items)

same : (name : Name) → bytes_eq name name ≡ true
same name = (bytes_decides name name).1 refl

pub number_set : (name : Name) (x : Option ℕ) (ns : Numbers) → number_of (with_number name x ns) name ≡ x
number_set name x [] = rw (same name) refl
number_set name x (n ∷ ns) =
    let by : (b : Bool) → bytes_eq name n.0 ≡ b → number_of (cond b ((n.0, x) ∷ ns) (n ∷ with_number name x ns)) name ≡ x = elim [
      | true ↦ λ e. rw (e) refl
      | false ↦ λ e. rw (e) (number_set name x ns)
    ] in
    by (bytes_eq name n.0) refl

pub number_kept : (other name : Name) (x : Option ℕ) (ns : Numbers) → same_name other name ≡ false → number_of (with_number name x ns) other ≡ number_of ns other
number_kept other name x [] ne = rw (swapped other name ne) refl
  where
    swapped : (a b : Name) → same_name a b ≡ false → bytes_eq a b ≡ false
    swapped a b e = e
number_kept other name x (n ∷ ns) ne =
    let by : (b : Bool) → bytes_eq name n.0 ≡ b → number_of (cond b ((n.0, x) ∷ ns) (n ∷ with_number name x ns)) other ≡ number_of (n ∷ ns) other = elim [
      | true ↦ λ e. let is : name ≡ n.0 = (bytes_decides name n.0).0 e in let f : bytes_eq other n.0 ≡ false = subst (λ (m : Name). bytes_eq other m ≡ false) is ne in rw (f) refl
      | false ↦ λ e. ap (λ (o : Option ℕ). cond (bytes_eq other n.0) n.1 o) (number_kept other name x ns ne)
    ] in
    by (bytes_eq name n.0) refl

-- ---- what a look-up finds

-- the number of this name is none from k on
abbrev IsBefore : Numbers → Name → ℕ → Type 0
IsBefore ns name k = (j : ℕ) → k ≤ j → is_number (number_of ns name) j ≡ false

skipped : (ns : Numbers) (name : Name) (k : ℕ) (m : Macro) (ms : List Macro) (b : Bool) → same_name m.name name ≡ false
    → macro_of (cond b (m ∷ counted_from ns (suc k) ms) (counted_from ns (suc k) ms)) name ≡ macro_of (counted_from ns (suc k) ms) name
skipped ns name k m ms true other = ap (λ (t : Bool). cond t (Some m) (macro_of (counted_from ns (suc k) ms) name)) other
skipped ns name k m ms false other = refl

uncounted : (ns : Numbers) (name : Name) (k : ℕ) (m : Macro) → same_name m.name name ≡ true → is_number (number_of ns name) k ≡ false → is_number (number_of ns m.name) k ≡ false
uncounted ns name k m is none = ap (λ (n : Name). is_number (number_of ns n) k) ((bytes_decides m.name name).0 is) ∙ none

none_from : (ns : Numbers) (name : Name) (k : ℕ) (ms : List Macro) → IsBefore ns name k → macro_of (counted_from ns k ms) name ≡ None
none_from ns name k [] before = refl
none_from ns name k (m ∷ ms) before =
    let rest = none_from ns name (suc k) ms (λ j le. before j (omega (arith, le))) in
    let by : (b : Bool) → same_name m.name name ≡ b → macro_of (cond (is_number (number_of ns m.name) k) (m ∷ counted_from ns (suc k) ms) (counted_from ns (suc k) ms)) name ≡ None = elim [
      | true ↦ λ e. ap (λ (b : Bool). macro_of (cond b (m ∷ counted_from ns (suc k) ms) (counted_from ns (suc k) ms)) name) (uncounted ns name k m e (before k (omega arith))) ∙ rest
      | false ↦ λ e. skipped ns name k m ms (is_number (number_of ns m.name) k) e ∙ rest
    ] in
    by (same_name m.name name) refl

abbrev if_named : Name → Option Macro → Option Macro
if_named name None = None
if_named name (Some m) = cond (same_name m.name name) (Some m) None

not_equal : (i k : ℕ) → i < k → nat_eq i k ≡ false
not_equal i k less =
    let by : (b : Bool) → nat_eq i k ≡ b → b ≡ false = elim [
      | true ↦ λ e. absurd (let is = eqb-true i k e in omega (arith, is, less))
      | false ↦ λ e. refl
    ] in
    by (nat_eq i k) refl

not_equal_up : (i k : ℕ) → k < i → nat_eq i k ≡ false
not_equal_up i k less =
    let by : (b : Bool) → nat_eq i k ≡ b → b ≡ false = elim [
      | true ↦ λ e. absurd (let is = eqb-true i k e in omega (arith, is, less))
      | false ↦ λ e. refl
    ] in
    by (nat_eq i k) refl

at_number : (ns : Numbers) (name : Name) (k j : ℕ) (ms : List Macro) → number_of ns name ≡ Some (k + j) → macro_of (counted_from ns k ms) name ≡ if_named name (slice_get ms j)
at_number ns name k j [] is = refl
at_number ns name k zero (m ∷ ms) is =
    let later : macro_of (counted_from ns (suc k) ms) name ≡ None = none_from ns name (suc k) ms (λ i le. ap (λ (o : Option ℕ). is_number o i) is ∙ not_equal (k + 0) i (omega (arith, le))) in
    let by : (b : Bool) → same_name m.name name ≡ b → macro_of (cond (is_number (number_of ns m.name) k) (m ∷ counted_from ns (suc k) ms) (counted_from ns (suc k) ms)) name ≡ cond b (Some m) None = elim [
      | true ↦ λ e.
          let here : is_number (number_of ns m.name) k ≡ true = ap (λ (n : Name). is_number (number_of ns n) k) ((bytes_decides m.name name).0 e) ∙ ap (λ (o : Option ℕ). is_number o k) is ∙ eq-eqb (k + 0) k (omega arith) in
          ap (λ (b : Bool). macro_of (cond b (m ∷ counted_from ns (suc k) ms) (counted_from ns (suc k) ms)) name) here
          ∙ ap (λ (b : Bool). cond b (Some m) (macro_of (counted_from ns (suc k) ms) name)) e
      | false ↦ λ e. skipped ns name k m ms (is_number (number_of ns m.name) k) e ∙ later
    ] in
    by (same_name m.name name) refl
at_number ns name k (suc j) (m ∷ ms) is =
    let rest = at_number ns name (suc k) j ms (is ∙ ap (λ (n : ℕ). Some n) (moved k j)) in
    let by : (b : Bool) → same_name m.name name ≡ b → macro_of (cond (is_number (number_of ns m.name) k) (m ∷ counted_from ns (suc k) ms) (counted_from ns (suc k) ms)) name ≡ if_named name (slice_get ms j) = elim [
      | true ↦ λ e.
          let past : is_number (number_of ns name) k ≡ false = ap (λ (o : Option ℕ). is_number o k) is ∙ not_equal_up (k + suc j) k (omega arith) in
          ap (λ (b : Bool). macro_of (cond b (m ∷ counted_from ns (suc k) ms) (counted_from ns (suc k) ms)) name) (uncounted ns name k m e past) ∙ rest
      | false ↦ λ e. skipped ns name k m ms (is_number (number_of ns m.name) k) e ∙ rest
    ] in
    by (same_name m.name name) refl
  where
    moved : (k j : ℕ) → k + suc j ≡ suc k + j
    moved k j = omega arith

pub found_none : (d : Defined) (name : Name) → number_of d.numbers name ≡ None → macro_of (macros_of d) name ≡ None
found_none d name none = none_from d.numbers name 0 d.definitions (λ j le. ap (λ (o : Option ℕ). is_number o j) none)

from_zero : (d : Defined) (name : Name) (i : ℕ) → number_of d.numbers name ≡ Some i → number_of d.numbers name ≡ Some (0 + i)
from_zero d name i is = is ∙ ap (λ (n : ℕ). Some n) (padded i)

pub found_past : (d : Defined) (name : Name) (i : ℕ) → number_of d.numbers name ≡ Some i → slice_get d.definitions i ≡ None → macro_of (macros_of d) name ≡ None
found_past d name i is past = at_number d.numbers name 0 i d.definitions (from_zero d name i is) ∙ ap (if_named name) past

pub found_other : (d : Defined) (name : Name) (i : ℕ) (m : Macro) → number_of d.numbers name ≡ Some i → slice_get d.definitions i ≡ Some m → same_name m.name name ≡ false → macro_of (macros_of d) name ≡ None
found_other d name i m is at other = at_number d.numbers name 0 i d.definitions (from_zero d name i is) ∙ ap (if_named name) at ∙ ap (λ (b : Bool). cond b (Some m) None) other

pub found_there : (d : Defined) (name : Name) (i : ℕ) (m : Macro) → number_of d.numbers name ≡ Some i → slice_get d.definitions i ≡ Some m → same_name m.name name ≡ true
    → (macro_of (macros_of d) name ≡ Some m) × (name_in d i ≡ Some m.name) × (m.name ≡ name)
unfolding name_in
found_there d name i m is at named =
    let same : m.name ≡ name = (bytes_decides m.name name).0 named in (
      at_number d.numbers name 0 i d.definitions (from_zero d name i is) ∙ ap (if_named name) at ∙ ap (λ (b : Bool). cond b (Some m) None) named,
      ap (name_if d.numbers i) at ∙ ap (λ (b : Bool). cond b (Some m.name) None) (ap (λ (n : Name). is_number (number_of d.numbers n) i) same ∙ ap (λ (o : Option ℕ). is_number o i) is ∙ eq-eqb i i refl),
      same,
    )

-- ---- what a definition changes

-- no definition from k up to n counts for this number
abbrev IsElsewhere : Option ℕ → ℕ → ℕ → Type 0
IsElsewhere x k n = (j : ℕ) → k ≤ j → j < n → is_number x j ≡ false

replaced_from : (ns : Numbers) (name : Name) (x : Option ℕ) (k : ℕ) (ms : List Macro) → IsElsewhere x k (k + length ms)
    → counted_from (with_number name x ns) k ms ≡ without name (counted_from ns k ms)
replaced_from ns name x k [] elsewhere = refl
replaced_from ns name x k (m ∷ ms) elsewhere =
    let new = with_number name x ns in
    let rest : counted_from new (suc k) ms ≡ without name (counted_from ns (suc k) ms) = replaced_from ns name x (suc k) ms (λ j le less. elsewhere j (omega (arith, le)) (omega (arith, less))) in
    let by : (b : Bool) → same_name m.name name ≡ b
    → cond (is_number (number_of new m.name) k) (m ∷ counted_from new (suc k) ms) (counted_from new (suc k) ms) ≡ without name (cond (is_number (number_of ns m.name) k) (m ∷ counted_from ns (suc k) ms) (counted_from ns (suc k) ms)) = elim [
      | true ↦ λ e.
          let here : is_number (number_of new m.name) k ≡ false = ap (λ (n : Name). is_number (number_of new n) k) ((bytes_decides m.name name).0 e) ∙ ap (λ (o : Option ℕ). is_number o k) (number_set name x ns) ∙ elsewhere k (omega arith) (omega arith) in
          ap (λ (b : Bool). cond b (m ∷ counted_from new (suc k) ms) (counted_from new (suc k) ms)) here ∙ rest ∙ sym (dropped m (counted_from ns (suc k) ms) e (is_number (number_of ns m.name) k))
      | false ↦ λ e.
          ap (λ (o : Option ℕ). cond (is_number o k) (m ∷ counted_from new (suc k) ms) (counted_from new (suc k) ms)) (number_kept m.name name x ns e)
          ∙ ap (λ (l : List Macro). cond (is_number (number_of ns m.name) k) (m ∷ l) l) rest
          ∙ sym (stays m (counted_from ns (suc k) ms) e (is_number (number_of ns m.name) k))
    ] in
    by (same_name m.name name) refl
  where
    dropped : (m : Macro) (l : List Macro) → same_name m.name name ≡ true → (b : Bool) → without name (cond b (m ∷ l) l) ≡ without name l
    dropped m l e true = ap (λ (t : Bool). cond (not t) (m ∷ without name l) (without name l)) e
    dropped m l e false = refl

    stays : (m : Macro) (l : List Macro) → same_name m.name name ≡ false → (b : Bool) → without name (cond b (m ∷ l) l) ≡ cond b (m ∷ without name l) (without name l)
    stays m l e true = ap (λ (t : Bool). cond (not t) (m ∷ without name l) (without name l)) e
    stays m l e false = refl

counted_last : (ns : Numbers) (k : ℕ) (ms : List Macro) (m : Macro) → number_of ns m.name ≡ Some (k + length ms) → counted_from ns k (ms ++ m ∷ []) ≡ counted_from ns k ms ++ m ∷ []
counted_last ns k [] m is = ap (λ (b : Bool). cond b (m ∷ []) []) (ap (λ (o : Option ℕ). is_number o k) is ∙ eq-eqb (k + 0) k (omega arith))
counted_last ns k (x ∷ ms) m is =
    let rest = counted_last ns (suc k) ms m (is ∙ ap (λ (n : ℕ). Some n) (moved k (length ms))) in
    ap (λ (l : List Macro). cond (is_number (number_of ns x.name) k) (x ∷ l) l) rest
    ∙ sym (pushed (counted_from ns (suc k) ms) (is_number (number_of ns x.name) k))
  where
    moved : (k j : ℕ) → k + suc j ≡ suc k + j
    moved k j = omega arith

    pushed : (l : List Macro) (b : Bool) → cond b (x ∷ l) l ++ m ∷ [] ≡ cond b (x ∷ (l ++ m ∷ [])) (l ++ m ∷ [])
    pushed l true = refl
    pushed l false = refl

pub defined : (ns : Numbers) (ms : List Macro) (m : Macro) → counted_from (with_number m.name (Some (length ms)) ns) 0 (ms ++ m ∷ []) ≡ without m.name (counted_from ns 0 ms) ++ m ∷ []
defined ns ms m =
    counted_last (with_number m.name (Some (length ms)) ns) 0 ms m (number_set m.name (Some (length ms)) ns ∙ ap (λ (n : ℕ). Some n) (padded (length ms)))
    ∙ ap (λ (l : List Macro). l ++ m ∷ []) (replaced_from ns m.name (Some (length ms)) 0 ms (λ j le less. not_equal_up (length ms) j (omega (arith, less))))

pub undefined : (ns : Numbers) (ms : List Macro) (name : Name) → counted_from (with_number name None ns) 0 ms ≡ without name (counted_from ns 0 ms)
undefined ns ms name = replaced_from ns name None 0 ms (λ j le less. refl)
