-- An expression behind its `(`, which it starts at.
use Rattle.std.proofs.Common.{◌≡◌, ℕ, zero, suc, max, Bool, true, false, ◌&&◌, cond, List, length, Ok, Err, refl, sym, ap, ◌∙◌}
use Rattle.std.specs.Prelude.{nat_le}
use Rattle.nm_base.specs.declared.token.Token.{Token}
use Rattle.nesc_tree.specs.declared.operand.Operand.{Operand}
use Rattle.nesc_tree.specs.declared.sorts.Sort.{Sort}
use Rattle.nesc_tree.specs.declared.sorts.Sort.TheVariants as s
use Rattle.nesc_tree.specs.Level as level
use Rattle.nesc_tree.specs.Sorts.{Names, ahead}
use Rattle.nesc_tree.specs.Phrase.{Phrase, begins_expr, begins}
use Rattle.nesc_tree.specs.Form.{Form, Place, goes, starts, next}
use Rattle.nesc_tree.specs.Reading.{Fault, Syntax, Deep, Answer, read, phrase, pass, turns, stop, guarded, nests, short, ◌>>=◌}
use Rattle.nesc_grammar.specs.Grammar as grammar
use Rattle.nesc_grammar.specs.Grammar.{Growth, applied, map, grown, operation, may, fits, needs, somewhere, paren_operand}
use Rattle.nesc_grammar.specs.Production.{production}
use Rattle.nesc_parse_types.specs.declared.stop.Stop.{Stop}
use Rattle.nesc_parse_types.specs.declared.stop.Stop.TheVariants as rust
use Rattle.nesc_parse_types.specs.Gives.{Fails, form_in, expr_in, opened_in, fields_in, place}
use Rattle.nesc_parse_exprs.specs.Turns.{climb_in}
use Rattle.nesc_parse_exprs.specs.Climbing.{opened_form}
use Rattle.nesc_parse_exprs.specs.Parts as parts

module _ (d : ℕ) (o : Token) where
  abbrev body : Sort → Form ((Token → Operand) → Token → Operand)
  body x = map (λ g f t. grown g (f t)) (operation x)

  abbrev turns_of : ℕ → (Token → Operand) → Place → Answer (Token → Operand)
  turns_of n f p = turns d (goes (may level.postfix) (λ h. fits (h somewhere))) (λ h. (h somewhere).height) (λ x q. guarded d (body x) q (read d (phrase production d) (body x) q)) n f p

  abbrev climb : ℕ → Operand → Place → Answer Operand
  climb n a p = climb_in d level.postfix n p.names a p.rest

  abbrev at : Answer (Token → Operand) → Answer Operand
  at x = x >>= λ y. Ok (y.0 o, y.1)

  -- neither level nor height depends on where it starts
  abbrev Even : (Token → Operand) → Type 0
  Even f = ((f o).level ≡ (f somewhere).level) × ((f o).height ≡ (f somewhere).height)

  grows_even : (g : Growth) (f : Token → Operand) → Even f → Even (λ t. grown g (f t))
  grows_even g f e = (refl, ap (λ (n : ℕ). suc (max n g.height)) e.1)

  abbrev Same : ℕ → Type 0
  Same n = (f : Token → Operand) (p : Place) → Even f → at (turns_of n f p) ≡ climb n (f o) p

  module _ (n : ℕ) (again : Same n) (f : Token → Operand) (p : Place) (e : Even f) where
    abbrev started : Answer Growth → Answer ((Token → Operand) → Token → Operand)
    started x = x >>= λ y. Ok ((λ h t. grown y.0 (h t)), y.1)

    abbrev made : Answer Growth → Answer (Operand → Operand)
    made x = x >>= λ y. Ok (grown y.0, y.1)

    inner : (x : Answer Growth) → at (started x >>= λ y. turns_of n (y.0 f) y.1) ≡ (made x >>= λ y. climb n (y.0 (f o)) y.1)
    inner (Ok y) = again (λ t. grown y.0 (f t)) y.1 (grows_even y.0 f e)
    inner (Err g) = refl

    shut : (b c : Bool) (k : ℕ) (x : Answer Growth) → at (cond b (short d c p.rest k (started x)) (started x) >>= λ y. turns_of n (y.0 f) y.1) ≡ (cond b (short d c p.rest k (made x)) (made x) >>= λ y. climb n (y.0 (f o)) y.1)
    shut false c k x = inner x
    shut true c zero x = refl
    shut true c (suc k) x = inner x

    turned : (b c : Bool) → at (cond b (cond c (guarded d (body (next p)) p (read d (phrase production d) (body (next p)) p) >>= λ y. turns_of n (y.0 f) y.1) (Err (Deep p.rest))) (Ok (f, p)))
        ≡ cond b (cond c (guarded d (map grown (operation (next p))) p (read d (phrase production d) (map grown (operation (next p))) p) >>= λ y. climb n (y.0 (f o)) y.1) (Err (Deep p.rest))) (Ok (f o, p))
    unfolding read
    turned true true = shut (nests (body (next p))) (starts (body (next p)) (next p)) d (read d (phrase production d) (operation (next p)) p)
    turned true false = refl
    turned false c = refl

  same_turns : (n : ℕ) → Same n
  same_turns zero f p e = refl
  same_turns (suc n) f p e =
      let G : Answer (Operand → Operand) = guarded d (map grown (operation (next p))) p (read d (phrase production d) (map grown (operation (next p))) p) in
      let L : ℕ → ℕ → Answer Operand = λ l h. cond (may level.postfix (next p) && nat_le (needs (next p)) l) (cond (nat_le h d) (G >>= λ y. climb n (y.0 (f o)) y.1) (Err (Deep p.rest))) (Ok (f o, p)) in
      let low : L (f somewhere).level (f somewhere).height ≡ L (f o).level (f o).height = ap (λ (l : ℕ). L l (f somewhere).height) (sym e.0) ∙ ap (λ (h : ℕ). L (f o).level h) (sym e.1) in
      turned n (same_turns n) f p e (may level.postfix (next p) && nat_le (needs (next p)) (f somewhere).level) (nat_le (f somewhere).height d) ∙ low

  module _ (names : Names) (ts : List Token) where
    abbrev whole : Answer (Token → Operand) → Answer Operand
    whole x = at (x >>= λ y. turns_of (suc (length y.1.rest)) y.0 y.1)

    abbrev closed : Answer Operand → (Place → Answer Token) → Answer (Token → Operand)
    closed x f = x >>= λ y. f y.1 >>= λ v. Ok (paren_operand y.0, v.1)

    ended : (a : Operand) (x : Answer Token) → whole (x >>= λ v. Ok (paren_operand a, v.1)) ≡ (at (x >>= λ v. Ok (paren_operand a, v.1)) >>= λ y. climb (suc (length y.1.rest)) y.0 y.1)
    ended a (Ok v) = same_turns (suc (length v.1.rest)) (paren_operand a) v.1 (refl, refl)
    ended a (Err f) = refl

    begun : (x : Answer Operand) (f : Place → Answer Token) → whole (closed x f) ≡ (at (closed x f) >>= λ y. climb (suc (length y.1.rest)) y.0 y.1)
    begun (Ok y) f = ended y.0 (f y.1)
    begun (Err g) f = refl

    opened_read : form_in d (opened_form o) names ts ≡ (form_in d (applied o grammar.parens) names ts >>= λ y. climb (suc (length y.1.rest)) y.0 y.1)
    unfolding read
    opened_read = begun (form_in d (grammar.expr level.comma) names ts) (λ p. pass s.RParen (λ t. t) p.names p.rest)

    goes_to : (a : Operand) (rest : List Token) (x : Answer Operand) → x ≡ Ok (a, place names rest) → (x >>= λ y. climb (suc (length y.1.rest)) y.0 y.1) ≡ climb_in d level.postfix (suc (length rest)) names a rest
    goes_to a rest x h = rw h refl

    pub opened_is : (a : Operand) (rest : List Token) → form_in d (applied o grammar.parens) names ts ≡ Ok (a, place names rest) → form_in d (opened_form o) names ts ≡ climb_in d level.postfix (suc (length rest)) names a rest
    opened_is a rest h = opened_read ∙ goes_to a rest (form_in d (applied o grammar.parens) names ts) h

    stops : (f : Fault) (x : Answer Operand) → x ≡ Err f → ◌≡◌ {A = Answer Operand} (x >>= λ y. climb (suc (length y.1.rest)) y.0 y.1) (Err f)
    stops f x h = rw h refl

    pub opened_fails : (r : Stop) → Fails r (form_in d (applied o grammar.parens) names ts) → Fails r (form_in d (opened_form o) names ts)
    opened_fails rust.Memory h = tt
    opened_fails (rust.Syntax us) h = opened_read ∙ stops (Syntax us.now) (form_in d (applied o grammar.parens) names ts) h
    opened_fails (rust.Deep us) h = opened_read ∙ stops (Deep us.now) (form_in d (applied o grammar.parens) names ts) h

-- ---- an expression of at least a level

module _ (d least : ℕ) (names : Names) (ts : List Token) where
  module _ (m : Bool) (is : m ≡ grammar.admits_cast least) where
    whole_is : form_in d (production (Phrase.expr least)) names ts ≡ (form_in d (parts.primary m) names ts >>= λ y. climb_in d least (suc (length y.1.rest)) y.1.names y.0 y.1.rest)
    unfolding read
    whole_is = ap (λ (b : Bool). form_in d (parts.primary b) names ts >>= λ y. climb_in d least (suc (length y.1.rest)) y.1.names y.0 y.1.rest) (sym is)

    pub climbs : (a : Operand) (rest : List Token) → form_in d (parts.primary m) names ts ≡ Ok (a, place names rest) → form_in d (production (Phrase.expr least)) names ts ≡ climb_in d least (suc (length rest)) names a rest
    climbs a rest h = whole_is ∙ ap (λ (x : Answer Operand). x >>= λ y. climb_in d least (suc (length y.1.rest)) y.1.names y.0 y.1.rest) h

    stopped : (f : Fault) → form_in d (parts.primary m) names ts ≡ Err f → form_in d (production (Phrase.expr least)) names ts ≡ Err f
    stopped f h = whole_is ∙ ap (λ (x : Answer Operand). x >>= λ y. climb_in d least (suc (length y.1.rest)) y.1.names y.0 y.1.rest) h

    pub climb_fails : (r : Stop) → Fails r (form_in d (parts.primary m) names ts) → Fails r (form_in d (production (Phrase.expr least)) names ts)
    climb_fails rust.Memory h = tt
    climb_fails (rust.Syntax us) h = stopped (Syntax us.now) h
    climb_fails (rust.Deep us) h = stopped (Deep us.now) h

-- ---- with no level, and with one more than what nests

module _ (names : Names) (ts : List Token) where
  pub no_expr : (d least : ℕ) (x : Sort) (b : Bool) → d ≡ 0 → x ≡ ahead names ts → begins_expr x ≡ b → expr_in d least names ts ≡ Err (stop b ts)
  unfolding phrase
  no_expr d least x b z e h = rw z (rw (sym e) (rw h refl))

  pub no_opened : (d : ℕ) (o : Token) (x : Sort) (b : Bool) → d ≡ 0 → x ≡ ahead names ts → begins_expr x ≡ b → opened_in d o names ts ≡ Err (stop b ts)
  unfolding phrase
  no_opened d o x b z e h = rw z (rw (sym e) (rw h refl))

  pub no_fields : (d : ℕ) (x : Sort) (b : Bool) → d ≡ 0 → x ≡ ahead names ts → begins Phrase.fields x ≡ b → fields_in d names ts ≡ Err (stop b ts)
  unfolding phrase
  no_fields d x b z e h = rw z (rw (sym e) (rw h refl))

  pub an_expr : (d least : ℕ) → expr_in (suc d) least names ts ≡ form_in d (production (Phrase.expr least)) names ts
  unfolding phrase
  an_expr d least = refl

  pub an_opened : (d : ℕ) (o : Token) → opened_in (suc d) o names ts ≡ form_in d (opened_form o) names ts
  unfolding phrase read
  an_opened d o = refl

  pub some_fields : (d : ℕ) → fields_in (suc d) names ts ≡ form_in d grammar.struct_fields names ts
  unfolding phrase
  some_fields d = refl
