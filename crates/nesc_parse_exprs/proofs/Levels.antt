-- A phrase with no level, and with one more than what nests in it.
use Rattle.std.proofs.Common.{◌≡◌, ◌<◌, ◌-◌, ℕ, zero, suc, Bool, true, false, List, Err, refl, sym, subst, arith}
use Rattle.nm_base.specs.declared.token.Token.{Token}
use Rattle.nesc_tree.specs.declared.operand.Operand.{Operand}
use Rattle.nesc_tree.specs.declared.operand.Fields.{Fields}
use Rattle.nesc_tree.specs.declared.sorts.Sort.{Sort}
use Rattle.nesc_tree.specs.Sorts.{Names, ahead}
use Rattle.nesc_tree.specs.Phrase.{Phrase, begins_expr, begins}
use Rattle.nesc_tree.specs.Reading.{Answer, Syntax, Deep, stop}
use Rattle.nesc_grammar.specs.Grammar as grammar
use Rattle.nesc_grammar.specs.Production.{production}
use Rattle.nesc_parse_types.specs.declared.stop.Stop.{Stop}
use Rattle.nesc_parse_types.specs.declared.stop.Stop.TheVariants as rust
use Rattle.nesc_parse_types.specs.Gives.{Fails, Found, Gives, form_in, expr_in, opened_in, fields_in}
use Rattle.nesc_parse_exprs.specs.Climbing.{opened_form}
use Rattle.nesc_parse_exprs.specs.Stops.{StopsAt}
use Rattle.nesc_parse_exprs.proofs.BehindParen.{no_expr, no_opened, no_fields, an_expr, an_opened, some_fields}

stops : {X : Type 0} (r : Stop) (b : Bool) (ts : List Token) (y : Answer X) → StopsAt r b ts → y ≡ Err (stop b ts) → Fails r y
stops rust.Memory b ts y s h = absurd s
stops {X = X} (rust.Syntax us) b ts y s h = subst (λ (vs : List Token). ◌≡◌ {A = Answer X} y (Err (Syntax vs))) (sym s.1) (subst (λ (c : Bool). y ≡ Err (stop c ts)) s.0 h)
stops {X = X} (rust.Deep us) b ts y s h = subst (λ (vs : List Token). ◌≡◌ {A = Answer X} y (Err (Deep vs))) (sym s.1) (subst (λ (c : Bool). y ≡ Err (stop c ts)) s.0 h)

module _ (names : Names) (ts : List Token) (d : ℕ) where
  module _ (none : d ≡ 0) (x : Sort) (is : x ≡ ahead names ts) (b : Bool) (r : Stop) (e : StopsAt r b ts) where
    pub expr_stops : (least : ℕ) → b ≡ begins_expr x → Fails r (expr_in d least names ts)
    expr_stops least h = stops r b ts (expr_in d least names ts) e (no_expr names ts d least x b none is (sym h))

    pub opened_stops : (o : Token) → b ≡ begins_expr x → Fails r (opened_in d o names ts)
    opened_stops o h = stops r b ts (opened_in d o names ts) e (no_opened names ts d o x b none is (sym h))

    pub fields_stop : b ≡ begins Phrase.fields x → Fails r (fields_in d names ts)
    fields_stop h = stops r b ts (fields_in d names ts) e (no_fields names ts d x b none is (sym h))

  one_more : 0 < d → suc (d - 1) ≡ d
  one_more l = omega arith

  pub expr_gives : (least : ℕ) (r : Found Operand) → 0 < d → Gives names r (form_in (d - 1) (production (Phrase.expr least)) names ts) → Gives names r (expr_in d least names ts)
  expr_gives least r l g = subst (λ (n : ℕ). Gives names r (expr_in n least names ts)) (one_more l) (subst (Gives names r) (sym (an_expr names ts (d - 1) least)) g)

  pub opened_gives : (o : Token) (r : Found Operand) → 0 < d → Gives names r (form_in (d - 1) (opened_form o) names ts) → Gives names r (opened_in d o names ts)
  opened_gives o r l g = subst (λ (n : ℕ). Gives names r (opened_in n o names ts)) (one_more l) (subst (Gives names r) (sym (an_opened names ts (d - 1) o)) g)

  pub fields_give : (r : Found Fields) → 0 < d → Gives names r (form_in (d - 1) grammar.struct_fields names ts) → Gives names r (fields_in d names ts)
  fields_give r l g = subst (λ (n : ℕ). Gives names r (fields_in n names ts)) (one_more l) (subst (Gives names r) (sym (some_fields names ts (d - 1))) g)
