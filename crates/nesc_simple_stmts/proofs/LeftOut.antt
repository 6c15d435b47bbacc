-- An expression that may be left out: its first token tells.
use Rattle.std.proofs.Common.{◌≡◌, ℕ, Bool, true, false, List, Option, Some, None, Ok, Err, refl, sym, ap, subst, ◌∙◌}
use Rattle.nm_base.specs.declared.token.Token.{Token}
use Rattle.nesc_tree.specs.declared.operand.Operand.{Operand}
use Rattle.nesc_tree.specs.Sorts.{Names, ahead}
use Rattle.nesc_tree.specs.Phrase.{begins_expr}
use Rattle.nesc_tree.specs.Form.{Place, starts}
use Rattle.nesc_tree.specs.Reading.{Answer, read, phrase, stop, guarded, ◌>>=◌}
use Rattle.nesc_grammar.specs.Grammar.{map, expr}
use Rattle.nesc_grammar.specs.Statements as spec
use Rattle.nesc_grammar.specs.Production.{production}
use Rattle.nesc_parse_types.specs.Gives.{Fails, form_in, expr_in, place}
use Rattle.nesc_parse_types.specs.declared.stop.Stop.{Stop}
use Rattle.nesc_simple_stmts.proofs.Guards.{same_guard, or_none, taken, fails_with}

module _ (d : ℕ) (names : Names) (ts : List Token) where
  some_begun : read 0 (phrase production 0) (map Some (expr 0)) (place names ts) ≡ Err (stop (starts (map Some (expr 0)) (ahead names ts)) ts)
  unfolding read phrase
  some_begun = ap (λ (b : Bool). Err (stop b ts)) (sym (or_none (begins_expr (ahead names ts))))

  once : (x : Answer Operand) → ◌≡◌ {A = Answer (Option Operand)} (◌>>=◌ {B = Option Operand × Place} (◌>>=◌ {B = Operand × Place} x (λ u. Ok (u.0, u.1))) (λ u. Ok (Some u.0, u.1))) (◌>>=◌ {B = Option Operand × Place} x (λ u. Ok (Some u.0, u.1)))
  once (Ok u) = refl
  once (Err e) = refl

  some_is : form_in d (map Some (expr 0)) names ts ≡ (expr_in d 0 names ts >>= λ u. Ok (Some u.0, u.1))
  unfolding read
  some_is = once (expr_in d 0 names ts)

  pub some_case : begins_expr (ahead names ts) ≡ true → form_in d spec.some_expr names ts ≡ (expr_in d 0 names ts >>= λ u. Ok (Some u.0, u.1))
  unfolding read
  some_case h =
      taken (starts (map Some (expr 0)) (ahead names ts)) (guarded d (map Some (expr 0)) (place names ts) (form_in d (map Some (expr 0)) names ts)) (Ok (None, place names ts)) (expr_in d 0 names ts >>= λ u. Ok (Some u.0, u.1))
      (or_none (begins_expr (ahead names ts)) ∙ h) (same_guard d (map Some (expr 0)) (place names ts) some_begun ∙ some_is)

  pub none_case : begins_expr (ahead names ts) ≡ false → form_in d spec.some_expr names ts ≡ Ok (None, place names ts)
  unfolding read
  none_case h = rw (or_none (begins_expr (ahead names ts)) ∙ h) refl

  found : (x : Answer Operand) (a : Operand) (q : Place) → x ≡ Ok (a, q) → ◌≡◌ {A = Answer (Option Operand)} (◌>>=◌ {B = Option Operand × Place} x (λ u. Ok (Some u.0, u.1))) (Ok (Some a, q))
  found x a q h = rw h refl

  pub some_read : begins_expr (ahead names ts) ≡ true → (a : Operand) (rest : List Token) → expr_in d 0 names ts ≡ Ok (a, place names rest) → form_in d spec.some_expr names ts ≡ Ok (Some a, place names rest)
  some_read h a rest e = some_case h ∙ found (expr_in d 0 names ts) a (place names rest) e

  pub some_fails : begins_expr (ahead names ts) ≡ true → (r : Stop) → Fails r (expr_in d 0 names ts) → Fails r (form_in d spec.some_expr names ts)
  some_fails h r e = subst (Fails r) (sym (some_case h)) (fails_with (expr_in d 0 names ts) (λ u. Ok (Some u.0, u.1)) r e)
