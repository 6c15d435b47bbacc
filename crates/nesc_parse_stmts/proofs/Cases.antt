-- Which form the next token tells.
use Rattle.std.proofs.Common.{◌≡◌, ◌<◌, ℕ, zero, suc, Bool, true, false, cond, List, [], ◌∷◌, Option, Some, None, Ok, Err, refl, sym, ap, subst, ◌∙◌, arith}
use Rattle.nm_base.specs.declared.token.Token.{Token}
use Rattle.nesc_tree.specs.declared.sorts.Sort.{Sort}
use Rattle.nesc_tree.specs.declared.sorts.Sort.TheVariants as s
use Rattle.nesc_tree.specs.declared.contexts.Jumps.{Jumps}
use Rattle.nesc_tree.specs.declared.contexts.Jumps.TheVariants as jumps
use Rattle.nesc_tree.specs.declared.operand.Operand.{Operand}
use Rattle.nesc_tree.specs.declared.declarations.ForStart.{ForStart}
use Rattle.nesc_tree.specs.declared.declarations.Stmt.{Stmt}
use Rattle.nesc_tree.specs.Sorts.{Names, ahead, same_sort}
use Rattle.nesc_tree.specs.Phrase.{Phrase, begins, begins_expr, begins_type, begins_local, begins_label, begins_stmt, may_break, may_continue}
use Rattle.nesc_tree.specs.Form.{Form, Place, next, either, starts}
use Rattle.nesc_tree.specs.Reading.{Fault, Syntax, Deep, Answer, read, phrase, pass, stop, guarded, nests, ◌>>=◌}
use Rattle.nesc_grammar.specs.Grammar.{map, when, expr}
use Rattle.nesc_grammar.specs.Statements as spec
use Rattle.nesc_grammar.specs.Production.{production}
use Rattle.nesc_parse_types.specs.Gives.{Fails, Found, Gives, form_in, expr_in, place}
use Rattle.nesc_parse_types.specs.declared.stop.Stop.{Stop}
use Rattle.nesc_parse_types.proofs.Guards.{open_guard, free_guard}
use Rattle.nesc_simple_stmts.specs.Parts as parts
use Rattle.nesc_parse_stmts.specs.Stmts.{stmt_in, label_in, cases_in}
use Rattle.nesc_declarators.specs.Locals.{local_in}
use Rattle.nesc_simple_stmts.proofs.Guards.{same_guard, or_none, taken, sub_case, fails_with}

-- ---- an expression that its first token tells

module _ (d : ℕ) (names : Names) (ts : List Token) where
  no_eval : (b : Bool) → begins_expr (ahead names ts) ≡ b → read 0 (phrase production 0) (when b spec.eval) (place names ts) ≡ Err (stop (starts (when b spec.eval) (ahead names ts)) ts)
  unfolding read phrase
  no_eval true h = ap (λ (b : Bool). Err (stop b ts)) (sym (or_none (begins_expr (ahead names ts))))
  no_eval false h = refl

  some_eval : (b : Bool) → begins_expr (ahead names ts) ≡ b → guarded d (when b spec.eval) (place names ts) (form_in d (when b spec.eval) names ts) ≡ form_in d (when b spec.eval) names ts
  some_eval b h = same_guard d (when b spec.eval) (place names ts) (no_eval b h)

  abbrev At : Jumps → Sort → Form Stmt → Type 0
  At j x g = guarded d (spec.statement j x) (place names ts) (form_in d (spec.statement j x) names ts) ≡ form_in d g names ts

  by_token : (j : Jumps) → form_in d (parts.statement j) names ts ≡ guarded d (spec.statement j (ahead names ts)) (place names ts) (form_in d (spec.statement j (ahead names ts)) names ts)
  unfolding read
  by_token j = refl

  chosen : (j : Jumps) (x : Sort) (g : Form Stmt) → ahead names ts ≡ x → At j x g → form_in d (parts.statement j) names ts ≡ form_in d g names ts
  chosen j x g e h = by_token j ∙ subst (λ (y : Sort). At j y g) (sym e) h

  pub opened : (j : Jumps) → 0 < d → form_in d (parts.statement j) names ts ≡ form_in d (spec.statement j (ahead names ts)) names ts
  opened j l = by_token j ∙ open_guard d (spec.statement j (ahead names ts)) (place names ts) (form_in d (spec.statement j (ahead names ts)) names ts) l

  pub block_case : (j : Jumps) → ahead names ts ≡ s.LBrace → form_in d (parts.statement j) names ts ≡ form_in d (parts.block false j) names ts
  block_case j h = chosen j s.LBrace (parts.block false j) h (free_guard d (spec.block j) (place names ts) (form_in d (spec.block j) names ts) refl)

  pub empty_case : (j : Jumps) → ahead names ts ≡ s.Semi → form_in d (parts.statement j) names ts ≡ form_in d spec.empty_stmt names ts
  empty_case j h = chosen j s.Semi spec.empty_stmt h refl

  pub return_case : (j : Jumps) → ahead names ts ≡ s.Return → form_in d (parts.statement j) names ts ≡ form_in d spec.return_stmt names ts
  return_case j h = chosen j s.Return spec.return_stmt h refl

  no_jump : (b : Bool) (g : Form Stmt) → nests g ≡ false → guarded d (when b g) (place names ts) (form_in d (when b g) names ts) ≡ form_in d (when b g) names ts
  unfolding read
  no_jump true g h = free_guard d g (place names ts) (form_in d g names ts) h
  no_jump false g h = same_guard d Form.none (place names ts) refl

  pub break_case : (j : Jumps) → ahead names ts ≡ s.Break → form_in d (parts.statement j) names ts ≡ form_in d (parts.break_in j) names ts
  break_case j h = chosen j s.Break (parts.break_in j) h (no_jump (may_break j) spec.break_stmt refl)

  pub continue_case : (j : Jumps) → ahead names ts ≡ s.Continue → form_in d (parts.statement j) names ts ≡ form_in d (parts.continue_in j) names ts
  continue_case j h = chosen j s.Continue (parts.continue_in j) h (no_jump (may_continue j) spec.continue_stmt refl)

  -- the statements that have another form than that of an expression
  abbrev special : Sort → Bool
  special s.LBrace = true
  special s.Semi = true
  special s.Break = true
  special s.Continue = true
  special s.Return = true
  special x = parts.deepens x

  is_eval : (j : Jumps) (x : Sort) → special x ≡ false → begins_expr (ahead names ts) ≡ begins_expr x → At j x (parts.eval_at x)
  is_eval j s.LBrace h k = absurd cc
  is_eval j s.Semi h k = absurd cc
  is_eval j s.Break h k = absurd cc
  is_eval j s.Continue h k = absurd cc
  is_eval j s.Return h k = absurd cc
  is_eval j s.Atomic h k = absurd cc
  is_eval j s.If h k = absurd cc
  is_eval j s.While h k = absurd cc
  is_eval j s.Do h k = absurd cc
  is_eval j s.For h k = absurd cc
  is_eval j s.Switch h k = absurd cc
  is_eval j x h k = some_eval (begins_expr x) k

  plain_sort : (x : Sort) → parts.deepens x ≡ false → (x ≡ s.LBrace → ⊥) → (x ≡ s.Semi → ⊥) → (x ≡ s.Break → ⊥) → (x ≡ s.Continue → ⊥) → (x ≡ s.Return → ⊥) → special x ≡ false
  plain_sort s.LBrace h a b c e f = absurd (a refl)
  plain_sort s.Semi h a b c e f = absurd (b refl)
  plain_sort s.Break h a b c e f = absurd (c refl)
  plain_sort s.Continue h a b c e f = absurd (e refl)
  plain_sort s.Return h a b c e f = absurd (f refl)
  plain_sort x h a b c e f = h

  pub eval_case : (j : Jumps) (x : Sort) → x ≡ ahead names ts → parts.deepens x ≡ false → (x ≡ s.LBrace → ⊥) → (x ≡ s.Semi → ⊥) → (x ≡ s.Break → ⊥) → (x ≡ s.Continue → ⊥) → (x ≡ s.Return → ⊥) → form_in d (parts.statement j) names ts ≡ form_in d (parts.eval_at (ahead names ts)) names ts
  eval_case j x i h a b c e f =
      let z : special x ≡ false = plain_sort x h a b c e f in
      by_token j ∙ is_eval j (ahead names ts) (subst (λ (y : Sort). special y ≡ false) i z) refl

  deep_sort : (j : Jumps) (x : Sort) → parts.deepens x ≡ true → (nests (spec.statement j x) ≡ true) × (starts (spec.statement j x) x ≡ true)
  deep_sort j s.Atomic h = (refl, refl)
  deep_sort j s.If h = (refl, refl)
  deep_sort j s.While h = (refl, refl)
  deep_sort j s.Do h = (refl, refl)
  deep_sort j s.For h = (refl, refl)
  deep_sort j s.Switch h = (refl, refl)
  deep_sort j _ h = absurd cc

  shut : (g : Form Stmt) → nests g ≡ true → starts g (ahead names ts) ≡ true → d ≡ 0 → guarded d g (place names ts) (form_in d g names ts) ≡ Err (Deep ts)
  shut g n b z = rw z (rw n (rw b refl))

  pub too_deep : (j : Jumps) (x : Sort) → x ≡ ahead names ts → parts.deepens x ≡ true → d ≡ 0 → form_in d (parts.statement j) names ts ≡ Err (Deep ts)
  too_deep j x i h z =
      let t = deep_sort j (ahead names ts) (subst (λ (y : Sort). parts.deepens y ≡ true) i h) in
      by_token j ∙ shut (spec.statement j (ahead names ts)) t.0 t.1 z

-- ---- the statements that have another level

pub switch_sort : (j : Jumps) (x : Sort) → parts.deepens x ≡ true → (x ≡ s.Atomic → ⊥) → (x ≡ s.If → ⊥) → (x ≡ s.While → ⊥) → (x ≡ s.Do → ⊥) → (x ≡ s.For → ⊥) → x ≡ s.Switch
switch_sort j s.Atomic h a b c e f = absurd (a refl)
switch_sort j s.If h a b c e f = absurd (b refl)
switch_sort j s.While h a b c e f = absurd (c refl)
switch_sort j s.Do h a b c e f = absurd (e refl)
switch_sort j s.For h a b c e f = absurd (f refl)
switch_sort j s.Switch h a b c e f = refl
switch_sort j _ h a b c e f = absurd cc

-- ---- what stands in a block, behind a label, in a `switch`

module _ (d : ℕ) (names : Names) (ts : List Token) where
  abbrev guarded_form : Form Stmt → Answer Stmt
  guarded_form g = guarded d g (place names ts) (form_in d g names ts)

  pub label_item : (l : Bool) (j : Jumps) → parts.is_label l (ahead names ts) ≡ true → form_in d (parts.item l j) names ts ≡ label_in d j names ts
  unfolding read
  label_item true j h = rw h (sub_case (Phrase.label j) (place names ts) d)
  label_item false j h = absurd cc

  unlabelled : (l : Bool) (j : Jumps) → parts.is_label l (ahead names ts) ≡ false → form_in d (parts.item l j) names ts ≡ guarded_form (spec.item_of j (ahead names ts))
  unfolding read
  unlabelled true j h = rw h refl
  unlabelled false j h = refl

  pub local_item : (l : Bool) (j : Jumps) → parts.is_label l (ahead names ts) ≡ false → begins_local (ahead names ts) ≡ true → form_in d (parts.item l j) names ts ≡ local_in d names ts
  local_item l j h k = unlabelled l j h ∙ rw k (sub_case Phrase.local (place names ts) d)

  pub stmt_item : (l : Bool) (j : Jumps) → parts.is_label l (ahead names ts) ≡ false → begins_local (ahead names ts) ≡ false → form_in d (parts.item l j) names ts ≡ stmt_in d j names ts
  stmt_item l j h k = unlabelled l j h ∙ rw k (sub_case (Phrase.stmt j) (place names ts) d)

  pub label_labelled : (j : Jumps) → begins_label (ahead names ts) ≡ true → form_in d (parts.labelled j) names ts ≡ label_in d j names ts
  unfolding read
  label_labelled j h = rw h (sub_case (Phrase.label j) (place names ts) d)

  pub stmt_labelled : (j : Jumps) → begins_label (ahead names ts) ≡ false → form_in d (parts.labelled j) names ts ≡ stmt_in d j names ts
  unfolding read
  stmt_labelled j h = rw h (sub_case (Phrase.stmt j) (place names ts) d)

  in_cases : (j : Jumps) (x : Sort) → x ≡ s.LBrace → guarded_form (spec.switch_body_of j x) ≡ cases_in d (spec.in_switch j) names ts
  in_cases j x h = subst (λ (y : Sort). guarded_form (spec.switch_body_of j y) ≡ cases_in d (spec.in_switch j) names ts) (sym h) (sub_case (Phrase.cases (spec.in_switch j)) (place names ts) d)

  pub cases_body : (j : Jumps) → ahead names ts ≡ s.LBrace → form_in d (parts.switch_body j) names ts ≡ cases_in d (spec.in_switch j) names ts
  unfolding read
  cases_body j h = in_cases j (ahead names ts) h

  in_stmt : (j : Jumps) (x : Sort) → (x ≡ s.LBrace → ⊥) → guarded_form (spec.switch_body_of j x) ≡ stmt_in d (spec.in_switch j) names ts
  in_stmt j s.LBrace h = absurd (h refl)
  in_stmt j _ h = sub_case (Phrase.stmt (spec.in_switch j)) (place names ts) d

  pub stmt_body : (j : Jumps) → (ahead names ts ≡ s.LBrace → ⊥) → form_in d (parts.switch_body j) names ts ≡ stmt_in d (spec.in_switch j) names ts
  unfolding read
  stmt_body j h = in_stmt j (ahead names ts) h

-- ---- behind the body of an `if`

else_starts : (j : Jumps) (x : Sort) → starts (parts.some_else j) x ≡ same_sort s.Else x
else_starts j x = or_none (either (same_sort s.Else x) false) ∙ or_none (same_sort s.Else x)

module _ (d : ℕ) (j : Jumps) (names : Names) (ts : List Token) where
  pub no_else : same_sort s.Else (ahead names ts) ≡ false → form_in d (parts.otherwise j) names ts ≡ Ok (None, place names ts)
  unfolding read
  no_else h = rw (else_starts j (ahead names ts) ∙ h) refl

  pub else_case : 0 < d → same_sort s.Else (ahead names ts) ≡ true → form_in d (parts.otherwise j) names ts ≡ form_in d (parts.some_else j) names ts
  unfolding read
  else_case l h =
      taken (starts (parts.some_else j) (ahead names ts)) (guarded d (parts.some_else j) (place names ts) (form_in d (parts.some_else j) names ts)) (Ok (None, place names ts)) (form_in d (parts.some_else j) names ts)
      (else_starts j (ahead names ts) ∙ h) (open_guard d (parts.some_else j) (place names ts) (form_in d (parts.some_else j) names ts) l)
