-- A phrase with no level, and with one more than what nests in it.
use Rattle.std.proofs.Common.{◌≡◌, ◌<◌, ◌≤◌, ◌-◌, ℕ, zero, suc, Bool, true, false, List, [], ◌∷◌, Err, refl, sym, ap, subst, ◌∙◌, arith}
use Rattle.nm_base.specs.declared.token.Token.{Token}
use Rattle.nesc_tree.specs.declared.sorts.Sort.{Sort}
use Rattle.nesc_tree.specs.declared.sorts.Sort.TheVariants as s
use Rattle.nesc_tree.specs.declared.contexts.Jumps.{Jumps}
use Rattle.nesc_tree.specs.declared.declarations.Stmt.{Stmt}
use Rattle.nesc_tree.specs.Sorts.{Names, ahead, same_sort}
use Rattle.nesc_tree.specs.Phrase.{Phrase, begins, begins_label, begins_stmt}
use Rattle.nesc_tree.specs.Form.{Form, Place, next, starts}
use Rattle.nesc_tree.specs.Reading.{Answer, Syntax, Deep, read, phrase, stop, guarded, nests}
use Rattle.nesc_grammar.specs.Statements as spec
use Rattle.nesc_grammar.specs.Production.{production}
use Rattle.nesc_parse_types.specs.declared.stop.Stop.{Stop}
use Rattle.nesc_parse_types.specs.Gives.{Fails, Found, Gives, form_in, place}
use Rattle.nesc_parse_types.proofs.Guards.{open_guard}
use Rattle.nesc_parse_exprs.specs.Stops.{StopsAt}
use Rattle.nesc_simple_stmts.specs.Parts as parts
use Rattle.nesc_parse_stmts.specs.Stmts.{stmt_in, label_in, cases_in}
use Rattle.nesc_simple_stmts.proofs.Guards.{same_guard, stops}

module _ (names : Names) (ts : List Token) where
  one_more : (d : ℕ) → 0 < d → suc (d - 1) ≡ d
  one_more d l = omega arith

  -- ---- a statement

  no_stmt : (d : ℕ) (j : Jumps) → d ≡ 0 → stmt_in d j names ts ≡ Err (stop (begins_stmt j (ahead names ts)) ts)
  unfolding phrase
  no_stmt d j z = rw z refl

  pub stmt_stops : (d : ℕ) (j : Jumps) → d ≡ 0 → (x : Sort) → x ≡ ahead names ts → (b : Bool) (r : Stop) → StopsAt r b ts → b ≡ begins_stmt j x → Fails r (stmt_in d j names ts)
  stmt_stops d j z x e b r h k = stops r b (begins_stmt j (ahead names ts)) ts (stmt_in d j names ts) h (k ∙ ap (begins_stmt j) e) (no_stmt d j z)

  a_stmt : (d : ℕ) (j : Jumps) → stmt_in (suc d) j names ts ≡ form_in d (parts.statement j) names ts
  unfolding phrase
  a_stmt d j = refl

  pub stmt_gives : (d : ℕ) (j : Jumps) (r : Found Stmt) → 0 < d → Gives names r (form_in (d - 1) (parts.statement j) names ts) → Gives names r (stmt_in d j names ts)
  stmt_gives d j r l g = subst (λ (n : ℕ). Gives names r (stmt_in n j names ts)) (one_more d l) (subst (Gives names r) (sym (a_stmt (d - 1) j)) g)

  -- ---- the block of a `switch`

  brace_begins : (j : Jumps) (x : Sort) → begins (Phrase.cases j) x ≡ same_sort s.LBrace x
  brace_begins j s.LBrace = refl
  brace_begins j s.End = refl
  brace_begins j _ = refl

  no_cases : (d : ℕ) (j : Jumps) → d ≡ 0 → cases_in d j names ts ≡ Err (stop (begins (Phrase.cases j) (ahead names ts)) ts)
  unfolding phrase
  no_cases d j z = rw z refl

  pub cases_stop : (d : ℕ) (j : Jumps) → d ≡ 0 → (x : Sort) → x ≡ ahead names ts → (b : Bool) (r : Stop) → StopsAt r b ts → b ≡ same_sort s.LBrace x → Fails r (cases_in d j names ts)
  cases_stop d j z x e b r h k = stops r b (begins (Phrase.cases j) (ahead names ts)) ts (cases_in d j names ts) h (k ∙ (ap (same_sort s.LBrace) e ∙ sym (brace_begins j (ahead names ts)))) (no_cases d j z)

  unbraced : (n : ℕ) (j : Jumps) (us : List Token) → same_sort s.LBrace (ahead names us) ≡ false → form_in n (parts.block true j) names us ≡ Err (Syntax us)
  unfolding read
  unbraced n j [] h = refl
  unbraced n j (t ∷ us) h = rw h refl

  abbrev told : ℕ → Jumps → Sort → Answer Stmt
  told d j x = guarded d (spec.cases_of j x) (place names ts) (form_in d (spec.cases_of j x) names ts)

  no_block : (d : ℕ) → guarded d Form.none (place names ts) (form_in d (Form.none {A = Stmt}) names ts) ≡ Err (Syntax ts)
  unfolding read
  no_block d = same_guard d (Form.none {A = Stmt}) (place names ts) refl

  chosen : (d : ℕ) (j : Jumps) (x : Sort) → ahead names ts ≡ x → told d j x ≡ form_in d (parts.block true j) names ts
  unfolding read
  chosen d j s.LBrace h = refl
  chosen d j s.End h = no_block d ∙ sym (unbraced d j ts (ap (same_sort s.LBrace) h))
  chosen d j _ h = no_block d ∙ sym (unbraced d j ts (ap (same_sort s.LBrace) h))

  some_cases : (d : ℕ) (j : Jumps) → cases_in (suc d) j names ts ≡ form_in d (parts.block true j) names ts
  unfolding read phrase
  some_cases d j = chosen d j (ahead names ts) refl

  pub cases_give : (d : ℕ) (j : Jumps) (r : Found Stmt) → 0 < d → Gives names r (form_in (d - 1) (parts.block true j) names ts) → Gives names r (cases_in d j names ts)
  cases_give d j r l g = subst (λ (n : ℕ). Gives names r (cases_in n j names ts)) (one_more d l) (subst (Gives names r) (sym (some_cases (d - 1) j)) g)

  -- ---- a statement with labels

  label_sort : (j : Jumps) (x : Sort) → begins_label x ≡ true → (nests (spec.label_of j x) ≡ true) × (starts (spec.label_of j x) x ≡ true)
  label_sort j s.Case h = (refl, refl)
  label_sort j s.Default h = (refl, refl)
  label_sort j _ h = absurd cc

  label_none : (d : ℕ) (j : Jumps) (x : Sort) → begins_label x ≡ false → guarded d (spec.label_of j x) (place names ts) (form_in d (spec.label_of j x) names ts) ≡ Err (Syntax ts)
  label_none d j s.Case h = absurd cc
  label_none d j s.Default h = absurd cc
  label_none d j _ h = no_block d

  shut : (g : Form Stmt) → nests g ≡ true → starts g (ahead names ts) ≡ true → guarded 0 g (place names ts) (form_in 0 g names ts) ≡ Err (Deep ts)
  shut g n b = rw n (rw b refl)

  at_one : (j : Jumps) (b : Bool) → begins_label (ahead names ts) ≡ b → guarded 0 (spec.label_of j (ahead names ts)) (place names ts) (form_in 0 (spec.label_of j (ahead names ts)) names ts) ≡ Err (stop b ts)
  at_one j true h = let t = label_sort j (ahead names ts) h in shut (spec.label_of j (ahead names ts)) t.0 t.1
  at_one j false h = label_none 0 j (ahead names ts) h

  too_few : (d : ℕ) (j : Jumps) → d < 2 → label_in d j names ts ≡ Err (stop (begins_label (ahead names ts)) ts)
  unfolding read phrase
  too_few zero j l = refl
  too_few (suc zero) j l = at_one j (begins_label (ahead names ts)) refl
  too_few (suc (suc d)) j l = absurd (omega arith)

  pub label_stops : (d : ℕ) (j : Jumps) → d < 2 → (x : Sort) → x ≡ ahead names ts → (b : Bool) (r : Stop) → StopsAt r b ts → b ≡ begins_label x → Fails r (label_in d j names ts)
  label_stops d j l x e b r h k = stops r b (begins_label (ahead names ts)) ts (label_in d j names ts) h (k ∙ ap begins_label e) (too_few d j l)

  label_is : (d : ℕ) (j : Jumps) → 2 ≤ d → label_in d j names ts ≡ form_in (d - 1) (spec.label_of j (ahead names ts)) names ts
  unfolding read phrase
  label_is zero j l = absurd (omega arith)
  label_is (suc zero) j l = absurd (omega arith)
  label_is (suc (suc d)) j l =
      let e : suc (suc d) - 1 ≡ suc d = omega arith in
      rw e (open_guard (suc d) (spec.label_of j (ahead names ts)) (place names ts) (form_in (suc d) (spec.label_of j (ahead names ts)) names ts) (omega arith))

  pub label_gives : (d : ℕ) (j : Jumps) (x : Sort) (r : Found Stmt) → 2 ≤ d → ahead names ts ≡ x → Gives names r (form_in (d - 1) (spec.label_of j x) names ts) → Gives names r (label_in d j names ts)
  label_gives d j x r l e g = subst (Gives names r) (sym (label_is d j l)) (subst (λ (y : Sort). Gives names r (form_in (d - 1) (spec.label_of j y) names ts)) (sym e) g)

  other_label : (j : Jumps) (x : Sort) → (x ≡ s.Case → ⊥) → (x ≡ s.Default → ⊥) → begins_label x ≡ false
  other_label j s.Case a b = absurd (a refl)
  other_label j s.Default a b = absurd (b refl)
  other_label j _ a b = refl

  none_is : (d : ℕ) (j : Jumps) (x : Sort) → begins_label x ≡ false → form_in d (spec.label_of j x) names ts ≡ Err (Syntax ts)
  unfolding read
  none_is d j s.Case h = absurd cc
  none_is d j s.Default h = absurd cc
  none_is d j _ h = refl

  pub no_label : (d : ℕ) (j : Jumps) (x : Sort) → 2 ≤ d → x ≡ ahead names ts → (x ≡ s.Case → ⊥) → (x ≡ s.Default → ⊥) → label_in d j names ts ≡ Err (Syntax ts)
  no_label d j x l e a b = label_is d j l ∙ none_is (d - 1) j (ahead names ts) (subst (λ (y : Sort). begins_label y ≡ false) e (other_label j x a b))
