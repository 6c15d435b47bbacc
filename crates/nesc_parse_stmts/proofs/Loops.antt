-- What a `for` begins with.
use Rattle.std.proofs.Common.{◌≡◌, ◌<◌, ℕ, zero, suc, Bool, true, false, List, [], ◌∷◌, Option, Ok, Err, refl, sym, ap, subst, ◌∙◌, arith}
use Rattle.nm_base.specs.declared.token.Token.{Token}
use Rattle.nesc_tree.specs.declared.sorts.Sort.{Sort}
use Rattle.nesc_tree.specs.declared.sorts.Sort.TheVariants as s
use Rattle.nesc_tree.specs.declared.operand.Operand.{Operand}
use Rattle.nesc_tree.specs.declared.declarations.ForStart.{ForStart}
use Rattle.nesc_tree.specs.declared.declarations.Stmt.{Stmt}
use Rattle.nesc_tree.specs.declared.declarations.Stmt.TheVariants as st
use Rattle.nesc_tree.specs.Sorts.{Names, ahead}
use Rattle.nesc_tree.specs.Phrase.{Phrase, begins_expr, begins_type}
use Rattle.nesc_tree.specs.Form.{Form, Place, next, either, starts}
use Rattle.nesc_tree.specs.Reading.{Fault, Syntax, Deep, Answer, read, phrase, pass, stop, guarded, nests, ◌>>=◌}
use Rattle.nesc_grammar.specs.Grammar.{one, map, expr, with, behind, before, when, value_of}
use Rattle.nesc_grammar.specs.Statements as spec
use Rattle.nesc_grammar.specs.Production.{production}
use Rattle.nesc_parse_types.specs.Gives.{Found, Gives, form_in, place}
use Rattle.nesc_parse_types.proofs.Guards.{free_guard}
use Rattle.nesc_simple_stmts.specs.declared.heads.ForHead.{ForHead}
use Rattle.nesc_simple_stmts.specs.declared.heads.ForTests.{ForTests}
use Rattle.nesc_tree.specs.declared.declarations.ForStart.TheVariants as start
use Rattle.nesc_tree.specs.Level as level
use Rattle.nesc_simple_stmts.specs.Parts as parts
use Rattle.nesc_simple_stmts.proofs.Guards.{same_guard, or_none, scope_gives}

module _ (d : ℕ) (names : Names) (ts : List Token) where
  abbrev guarded_start : Form ForStart → Answer ForStart
  guarded_start g = guarded d g (place names ts) (form_in d g names ts)

  abbrev value_form : Form ForStart
  value_form = map (λ a. start.Eval a.expr) (before (expr level.comma) (one s.Semi))

  abbrev value : Bool → Form ForStart
  value b = when b value_form

  no_value : (b : Bool) → begins_expr (ahead names ts) ≡ b → read 0 (phrase production 0) (value b) (place names ts) ≡ Err (stop (starts (value b) (ahead names ts)) ts)
  unfolding read phrase
  no_value true h = ap (λ (b : Bool). Err (stop b ts)) (sym (or_none (either (begins_expr (ahead names ts)) false) ∙ or_none (begins_expr (ahead names ts))))
  no_value false h = refl

  some_value : (b : Bool) → begins_expr (ahead names ts) ≡ b → guarded_start (value b) ≡ form_in d (value b) names ts
  some_value b h = same_guard d (value b) (place names ts) (no_value b h)

  no_guard : guarded_start spec.for_variables ≡ form_in d spec.for_variables names ts
  no_guard = free_guard d spec.for_variables (place names ts) (form_in d spec.for_variables names ts) refl

  typed : (x : Sort) → begins_type x ≡ true → guarded_start (spec.for_start_of x) ≡ form_in d spec.for_variables names ts
  typed s.Qualifier h = no_guard
  typed s.Void h = no_guard
  typed s.Signedness h = no_guard
  typed s.CharType h = no_guard
  typed s.Length h = no_guard
  typed s.Int h = no_guard
  typed s.TypeName h = no_guard
  typed s.Struct h = no_guard
  typed s.Enum h = no_guard
  typed _ h = absurd cc

  pub variables_case : begins_type (ahead names ts) ≡ true → form_in d parts.for_start names ts ≡ form_in d spec.for_variables names ts
  unfolding read
  variables_case h = typed (ahead names ts) h

  signed : (x : Sort) → x ≡ s.Semi → guarded_start (spec.for_start_of x) ≡ form_in d (spec.for_start_of s.Semi) names ts
  signed x h = subst (λ (y : Sort). guarded_start (spec.for_start_of y) ≡ form_in d (spec.for_start_of s.Semi) names ts) (sym h) refl

  pub nothing_case : ahead names ts ≡ s.Semi → form_in d parts.for_start names ts ≡ form_in d (spec.for_start_of s.Semi) names ts
  unfolding read
  nothing_case h = signed (ahead names ts) h

  valued : (x : Sort) → begins_type x ≡ false → (x ≡ s.Semi → ⊥) → begins_expr (ahead names ts) ≡ begins_expr x → guarded_start (spec.for_start_of x) ≡ form_in d (parts.value_start_at x) names ts
  valued s.Semi h k e = absurd (k refl)
  valued s.Qualifier h k e = absurd cc
  valued s.Void h k e = absurd cc
  valued s.Signedness h k e = absurd cc
  valued s.CharType h k e = absurd cc
  valued s.Length h k e = absurd cc
  valued s.Int h k e = absurd cc
  valued s.TypeName h k e = absurd cc
  valued s.Struct h k e = absurd cc
  valued s.Enum h k e = absurd cc
  valued x h k e = some_value (begins_expr x) e

  pub value_case : begins_type (ahead names ts) ≡ false → (ahead names ts ≡ s.Semi → ⊥) → form_in d parts.for_start names ts ≡ form_in d (parts.value_start_at (ahead names ts)) names ts
  unfolding read
  value_case h k = valued (ahead names ts) h k refl

-- ---- the grammar's `for` has what is between its parentheses and its body in one

abbrev whole_for : Form Stmt
whole_for = with (one s.For) (behind (one s.LParen) (with parts.for_start spec.for_rest))

abbrev Rest : Type 0
Rest = Option Operand → ForStart → Token → Stmt

module _ (d : ℕ) where
  abbrev reads : {A : Type 0} → Form A → Place → Answer A
  reads g p = read d (phrase production d) g p

  abbrev sign : Sort → Place → Answer Token
  sign x p = pass x (λ t. t) p.names p.rest

  abbrev made : Option Operand → Stmt → Rest
  made step x test first o = st.For first (value_of test) (value_of step) x o.pos

  -- the grammar's order
  abbrev with_test : Option Operand → Answer Rest → Answer (ForStart → Token → Stmt)
  with_test t x = x >>= λ y. Ok (y.0 t, y.1)

  abbrev with_start : ForStart → Answer (ForStart → Token → Stmt) → Answer (Token → Stmt)
  with_start f x = x >>= λ y. Ok (y.0 f, y.1)

  abbrev same : Answer (Token → Stmt) → Answer (Token → Stmt)
  same x = x >>= λ y. Ok (y.0, y.1)

  abbrev with_word : Token → Answer (Token → Stmt) → Answer Stmt
  with_word o x = x >>= λ y. Ok (y.0 o, y.1)

  abbrev with_body : Option Operand → Answer Stmt → Answer Rest
  with_body u x = x >>= λ v. Ok (made u v.0, v.1)

  abbrev from_step : Answer (Option Operand) → Answer Rest
  from_step x = x >>= λ u. with_body u.0 (reads spec.loop_body u.1)

  abbrev from_test : Answer (Option Operand) → Answer (ForStart → Token → Stmt)
  from_test x = x >>= λ t. with_test t.0 (from_step (reads (parts.ended_expr s.RParen) t.1))

  abbrev from_start : Answer ForStart → Answer (Token → Stmt)
  from_start x = x >>= λ f. with_start f.0 (from_test (reads (parts.ended_expr s.Semi) f.1))

  abbrev from_paren : Answer Token → Answer (Token → Stmt)
  from_paren x = x >>= λ b. same (from_start (reads parts.for_start b.1))

  abbrev from_word : Answer Token → Answer Stmt
  from_word x = x >>= λ o. with_word o.0 (from_paren (sign s.LParen o.1))

  -- the order of the code
  abbrev tests : Option Operand → Answer (Option Operand) → Answer ForTests
  tests t x = x >>= λ u. Ok (parts.tests_of t u.0, u.1)

  abbrev all_tests : Answer (Option Operand) → Answer ForTests
  all_tests x = x >>= λ t. tests t.0 (reads (parts.ended_expr s.RParen) t.1)

  abbrev head : ForStart → Answer ForTests → Answer (Token → ForHead)
  head f x = x >>= λ t. Ok ((λ word. parts.head_of word f t.0), t.1)

  abbrev heads : Answer ForStart → Answer (Token → ForHead)
  heads x = x >>= λ f. head f.0 (all_tests (reads (parts.ended_expr s.Semi) f.1))

  abbrev at_word : Token → Answer (Token → ForHead) → Answer ForHead
  at_word o x = x >>= λ y. Ok (y.0 o, y.1)

  abbrev word : Token → Answer Token → Answer Token
  word o x = x >>= λ b. Ok (o, b.1)

  abbrev whole_head : Answer Token → Answer ForHead
  whole_head x = x >>= λ w. at_word w.0 (heads (reads parts.for_start w.1))

  abbrev ended : Answer ForHead → Answer Stmt
  ended x = x >>= λ h. reads spec.loop_body h.1 >>= λ v. Ok (st.For h.0.start h.0.test h.0.step v.0 h.0.pos, v.1)

  abbrev body : Token → ForStart → Option Operand → Option Operand → Answer Stmt → Answer Stmt
  body o f t u x = x >>= λ v. Ok (made u v.0 t f o, v.1)

  by_body : (o : Token) (f : ForStart) (t u : Option Operand) (x : Answer Stmt) → with_word o (same (with_start f (with_test t (with_body u x)))) ≡ body o f t u x
  by_body o f t u (Ok v) = refl
  by_body o f t u (Err e) = refl

  by_step : (o : Token) (f : ForStart) (t : Option Operand) (x : Answer (Option Operand)) → with_word o (same (with_start f (with_test t (from_step x)))) ≡ ended (at_word o (head f (tests t x)))
  by_step o f t (Ok u) = by_body o f t u.0 (reads spec.loop_body u.1)
  by_step o f t (Err e) = refl

  by_test : (o : Token) (f : ForStart) (x : Answer (Option Operand)) → with_word o (same (with_start f (from_test x))) ≡ ended (at_word o (head f (all_tests x)))
  by_test o f (Ok t) = by_step o f t.0 (reads (parts.ended_expr s.RParen) t.1)
  by_test o f (Err e) = refl

  by_start : (o : Token) (x : Answer ForStart) → with_word o (same (from_start x)) ≡ ended (at_word o (heads x))
  by_start o (Ok f) = by_test o f.0 (reads (parts.ended_expr s.Semi) f.1)
  by_start o (Err e) = refl

  by_paren : (o : Token) (x : Answer Token) → with_word o (from_paren x) ≡ ended (whole_head (word o x))
  by_paren o (Ok b) = by_start o (reads parts.for_start b.1)
  by_paren o (Err e) = refl

  abbrev words : Answer Token → Answer Token
  words x = x >>= λ o. word o.0 (sign s.LParen o.1)

  by_word : (x : Answer Token) → from_word x ≡ ended (whole_head (words x))
  by_word (Ok o) = by_paren o.0 (sign s.LParen o.1)
  by_word (Err e) = refl

  open_again : (p : Place) → reads whole_for p ≡ reads parts.open_for p
  unfolding read
  open_again p = by_word (sign s.For p)

  whole_again : (p : Place) → reads spec.for_stmt p ≡ reads (Form.scope parts.open_for) p
  unfolding read
  whole_again p = ap (λ (x : Answer Stmt). x >>= λ y. Ok (y.0, record { names = p.names; rest = y.1.rest })) (open_again p)

  pub for_gives : (names after : Names) (ts : List Token) (r : Found Stmt) → Gives after r (form_in d parts.open_for names ts) → Gives names r (form_in d spec.for_stmt names ts)
  for_gives names after ts r h = subst (Gives names r) (sym (whole_again (place names ts))) (scope_gives d parts.open_for names ts after r h)
