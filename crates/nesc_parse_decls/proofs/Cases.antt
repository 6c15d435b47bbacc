-- Which form an initialiser or an argument of an attribute begins, and what it needs room for.
use Rattle.std.proofs.Common.{◌≡◌, ◌≤◌, ◌<◌, ◌-◌, ℕ, zero, suc, Bool, true, false, cond, List, [], ◌∷◌, Option, Some, None, Ok, Err, refl, sym, ap, subst, ◌∙◌, arith}
use Rattle.nm_base.specs.declared.token.Token.{Token}
use Rattle.nesc_tree.specs.declared.sorts.Sort.{Sort}
use Rattle.nesc_tree.specs.declared.sorts.Sort.TheVariants as s
use Rattle.nesc_tree.specs.declared.operand.Operand.{Operand}
use Rattle.nesc_tree.specs.declared.declarations.Init.{Init}
use Rattle.nesc_tree.specs.declared.declarations.Init.TheVariants as i
use Rattle.nesc_tree.specs.Sorts.{Names, ahead, same_sort}
use Rattle.nesc_tree.specs.Phrase.{Phrase, begins, begins_expr}
use Rattle.nesc_tree.specs.Form.{Form, Place, next, either, starts}
use Rattle.nesc_tree.specs.Reading.{Fault, Syntax, Deep, Answer, read, phrase, stop, guarded, nests, ◌>>=◌}
use Rattle.nesc_grammar.specs.Grammar as grammar
use Rattle.nesc_grammar.specs.Declarations as spec
use Rattle.nesc_grammar.specs.Production.{production}
use Rattle.nesc_parse_types.specs.declared.stop.Stop.{Stop}
use Rattle.nesc_parse_types.specs.declared.stop.Stop.TheVariants as rust
use Rattle.nesc_parse_types.specs.Gives.{Fails, Found, Gives, form_in, expr_in, place}
use Rattle.nesc_parse_types.proofs.Guards.{open_guard}
use Rattle.nesc_parse_exprs.specs.Stops.{StopsAt}
use Rattle.nesc_parse_decls.specs.Inits.{begins_init, braces_in}
use Rattle.nesc_parse_decls.specs.Parts as parts

-- where nothing may nest, a form that begins with what nests is refused by itself
same_guard : {A : Type 0} (d : ℕ) (g : Form A) (p : Place) → read 0 (phrase production 0) g p ≡ Err (stop (starts g (next p)) p.rest) → guarded d g p (read d (phrase production d) g p) ≡ read d (phrase production d) g p
same_guard {A = A} zero g p h =
    let by : (b : Bool) → ◌≡◌ {A = Answer A} (cond b (Err (stop (starts g (next p)) p.rest)) (read 0 (phrase production 0) g p)) (read 0 (phrase production 0) g p) = elim [ true ↦ sym h | false ↦ refl ] in
    by (nests g)
same_guard (suc d) g p h = open_guard (suc d) g p (read (suc d) (phrase production (suc d)) g p) (omega arith)

or_none : (b : Bool) → either b false ≡ b
or_none true = refl
or_none false = refl

same_again : (x : Answer Init) → ◌≡◌ {A = Answer Init} (x >>= λ u. Ok (u.0, u.1)) x
same_again (Ok u) = refl
same_again (Err e) = refl

module _ (d : ℕ) (names : Names) (ts : List Token) where
  -- an initialiser between braces
  begun_braces : read 0 (phrase production 0) (spec.init_of s.LBrace) (place names ts) ≡ Err (stop (begins Phrase.braces (ahead names ts)) ts)
  unfolding read phrase
  begun_braces = refl

  braces_again : form_in d (spec.init_of s.LBrace) names ts ≡ braces_in d names ts
  unfolding read
  braces_again = same_again (braces_in d names ts)

  braced : (x : Sort) → x ≡ s.LBrace → guarded d (spec.init_of x) (place names ts) (form_in d (spec.init_of x) names ts) ≡ braces_in d names ts
  braced x h = subst (λ (y : Sort). guarded d (spec.init_of y) (place names ts) (form_in d (spec.init_of y) names ts) ≡ braces_in d names ts) (sym h) (same_guard d (spec.init_of s.LBrace) (place names ts) begun_braces ∙ braces_again)

  pub braces_case : ahead names ts ≡ s.LBrace → form_in d spec.init names ts ≡ braces_in d names ts
  unfolding read
  braces_case h = braced (ahead names ts) h

  -- one that is an expression
  abbrev one : Form Init
  one = grammar.map (λ a. i.One a.expr) (grammar.expr 1)

  begun_expr : read 0 (phrase production 0) one (place names ts) ≡ Err (stop (starts one (ahead names ts)) ts)
  unfolding read phrase
  begun_expr = ap (λ (b : Bool). Err (stop b ts)) (sym (or_none (begins_expr (ahead names ts))))

  single : (x : Sort) → (x ≡ s.LBrace → ⊥) → guarded d (spec.init_of x) (place names ts) (form_in d (spec.init_of x) names ts) ≡ form_in d one names ts
  single s.LBrace h = absurd (h refl)
  single _ h = same_guard d one (place names ts) begun_expr

  pub expr_case : (ahead names ts ≡ s.LBrace → ⊥) → form_in d spec.init names ts ≡ form_in d one names ts
  unfolding read
  expr_case h = single (ahead names ts) h

once : (x : Answer Operand) → ◌≡◌ {A = Answer Init} (◌>>=◌ {B = Init × Place} (◌>>=◌ {B = Operand × Place} x (λ u. Ok (u.0, u.1))) (λ u. Ok (i.One u.0.expr, u.1))) (◌>>=◌ {B = Init × Place} x (λ u. Ok (i.One u.0.expr, u.1)))
once (Ok u) = refl
once (Err e) = refl

value_of : (x : Answer Operand) (a : Operand) (q : Place) → x ≡ Ok (a, q) → ◌≡◌ {A = Answer Init} (◌>>=◌ {B = Init × Place} x (λ u. Ok (i.One u.0.expr, u.1))) (Ok (i.One a.expr, q))
value_of x a q h = rw h refl

fault_of : {A B : Type 0} (x : Answer A) (f : A × Place → Answer B) (e : Fault) → x ≡ Err e → ◌≡◌ {A = Answer B} (x >>= f) (Err e)
fault_of x f e h = rw h refl

-- a fault of the first part is one of the whole
pub fails_with : {A B : Type 0} (x : Answer A) (f : A × Place → Answer B) (r : Stop) → Fails r x → Fails r (x >>= f)
fails_with x f rust.Memory h = tt
fails_with x f (rust.Syntax us) h = fault_of x f (Syntax us.now) h
fails_with x f (rust.Deep us) h = fault_of x f (Deep us.now) h

module _ (d : ℕ) (names : Names) (ts : List Token) (h : ahead names ts ≡ s.LBrace → ⊥) where
  one_is : form_in d (one d names ts) names ts ≡ (expr_in d 1 names ts >>= λ u. Ok (i.One u.0.expr, u.1))
  unfolding read
  one_is = once (expr_in d 1 names ts)

  pub expr_read : (a : Operand) (rest : List Token) → expr_in d 1 names ts ≡ Ok (a, place names rest) → form_in d spec.init names ts ≡ Ok (i.One a.expr, place names rest)
  expr_read a rest e = expr_case d names ts h ∙ (one_is ∙ value_of (expr_in d 1 names ts) a (place names rest) e)

  pub expr_fails : (r : Stop) → Fails r (expr_in d 1 names ts) → Fails r (form_in d spec.init names ts)
  expr_fails r e = subst (Fails r) (sym (expr_case d names ts h ∙ one_is)) (fails_with (expr_in d 1 names ts) (λ u. Ok (i.One u.0.expr, u.1)) r e)

-- ---- behind a comma

begins_table : (x : Sort) → starts (grammar.map Some spec.init) x ≡ begins_init x
begins_table s.LBrace = refl
begins_table s.End = refl
begins_table _ = refl

some_is : (d : ℕ) (names : Names) (ts : List Token) → begins_init (ahead names ts) ≡ true → 0 < d → form_in d (spec.some spec.init) names ts ≡ (form_in d spec.init names ts >>= λ u. Ok (Some u.0, u.1))
unfolding read
some_is zero names ts h l = absurd (omega arith)
some_is (suc d) names ts h l = rw (begins_table (ahead names ts) ∙ h) refl

module _ (d : ℕ) (names : Names) (ts : List Token) where
  found_value : (x : Answer Init) (a : Init) (q : Place) → x ≡ Ok (a, q) → ◌≡◌ {A = Answer (Option Init)} (◌>>=◌ {B = Option Init × Place} x (λ u. Ok (Some u.0, u.1))) (Ok (Some a, q))
  found_value x a q h = rw h refl

  pub next_read : begins_init (ahead names ts) ≡ true → 0 < d → (a : Init) (rest : List Token) → form_in d spec.init names ts ≡ Ok (a, place names rest) → form_in d (spec.some spec.init) names ts ≡ Ok (Some a, place names rest)
  next_read h l a rest e = some_is d names ts h l ∙ found_value (form_in d spec.init names ts) a (place names rest) e

  pub next_fails : begins_init (ahead names ts) ≡ true → 0 < d → (r : Stop) → Fails r (form_in d spec.init names ts) → Fails r (form_in d (spec.some spec.init) names ts)
  next_fails h l r e = subst (Fails r) (sym (some_is d names ts h l)) (fails_with (form_in d spec.init names ts) (λ u. Ok (Some u.0, u.1)) r e)

  pub next_none : begins_init (ahead names ts) ≡ false → form_in d (spec.some spec.init) names ts ≡ Ok (None, place names ts)
  unfolding read
  next_none h = rw (begins_table (ahead names ts) ∙ h) refl

-- ---- the phrase

braces_nest : (x : Sort) → nests (spec.braces_of x) ≡ true
braces_nest s.LBrace = refl
braces_nest _ = refl

braces_begin : (x : Sort) → starts (spec.braces_of x) x ≡ same_sort s.LBrace x
braces_begin s.LBrace = refl
braces_begin s.End = refl
braces_begin _ = refl

begins_braces : (x : Sort) → begins Phrase.braces x ≡ same_sort s.LBrace x
begins_braces s.LBrace = refl
begins_braces s.End = refl
begins_braces _ = refl

unbraced : (n : ℕ) (names : Names) (ts : List Token) → same_sort s.LBrace (ahead names ts) ≡ false → form_in n spec.braced_inits names ts ≡ Err (Syntax ts)
unfolding read
unbraced n names [] h = refl
unbraced n names (t ∷ ts) h = rw h refl

module _ (names : Names) (ts : List Token) where
  chosen : (n : ℕ) (x : Sort) → ahead names ts ≡ x → form_in n (spec.braces_of x) names ts ≡ form_in n spec.braced_inits names ts
  unfolding read
  chosen n s.LBrace h = refl
  chosen n s.End h = sym (unbraced n names ts (ap (same_sort s.LBrace) h))
  chosen n _ h = sym (unbraced n names ts (ap (same_sort s.LBrace) h))

  braces_is : (d : ℕ) → braces_in (suc (suc d)) names ts ≡ form_in (suc d) spec.braced_inits names ts
  unfolding read phrase
  braces_is d = open_guard (suc d) (spec.braces_of (ahead names ts)) (place names ts) (form_in (suc d) (spec.braces_of (ahead names ts)) names ts) (omega arith) ∙ chosen (suc d) (ahead names ts) refl

  pub braces_give : (d : ℕ) (r : Found Init) → 2 ≤ d → Gives names r (form_in (d - 1) spec.braced_inits names ts) → Gives names r (braces_in d names ts)
  braces_give zero r l g = absurd (omega arith)
  braces_give (suc zero) r l g = absurd (omega arith)
  braces_give (suc (suc d)) r l g =
      let e : suc (suc d) - 1 ≡ suc d = omega arith in
      subst (Gives names r) (sym (braces_is d)) (subst (λ (n : ℕ). Gives names r (form_in n spec.braced_inits names ts)) e g)

  too_few : (d : ℕ) → d < 2 → braces_in d names ts ≡ Err (stop (same_sort s.LBrace (ahead names ts)) ts)
  unfolding read phrase
  too_few zero l = ap (λ (b : Bool). Err (stop b ts)) (begins_braces (ahead names ts))
  too_few (suc zero) l = rw (braces_nest (ahead names ts)) (ap (λ (b : Bool). Err (stop b ts)) (braces_begin (ahead names ts)))
  too_few (suc (suc d)) l = absurd (omega arith)

  stops : (r : Stop) (b : Bool) (y : Answer Init) → StopsAt r b ts → y ≡ Err (stop b ts) → Fails r y
  stops rust.Memory b y s h = absurd s
  stops (rust.Syntax us) b y s h = subst (λ (vs : List Token). ◌≡◌ {A = Answer Init} y (Err (Syntax vs))) (sym s.1) (subst (λ (c : Bool). y ≡ Err (stop c ts)) s.0 h)
  stops (rust.Deep us) b y s h = subst (λ (vs : List Token). ◌≡◌ {A = Answer Init} y (Err (Deep vs))) (sym s.1) (subst (λ (c : Bool). y ≡ Err (stop c ts)) s.0 h)

  pub braces_stop : (d : ℕ) → d < 2 → (x : Sort) → x ≡ ahead names ts → (b : Bool) (r : Stop) → StopsAt r b ts → b ≡ same_sort s.LBrace x → Fails r (braces_in d names ts)
  braces_stop d l x e b r z h = stops r b (braces_in d names ts) z (too_few d l ∙ ap (λ (c : Bool). Err (stop c ts)) (sym (h ∙ ap (same_sort s.LBrace) e)))

-- ---- arguments of attributes

value_begun : (names : Names) (ts : List Token) → read 0 (phrase production 0) parts.value_argument (place names ts) ≡ Err (stop (starts parts.value_argument (ahead names ts)) ts)
unfolding read phrase
value_begun names ts = ap (λ (b : Bool). Err (stop b ts)) (sym (or_none (begins_expr (ahead names ts))))

arguments_begin : (x : Sort) → starts parts.some_arguments x ≡ parts.begins_argument x
arguments_begin s.Text = refl
arguments_begin s.End = refl
arguments_begin _ = refl

module _ (d : ℕ) (names : Names) (ts : List Token) where
  texts : (x : Sort) → x ≡ s.Text → guarded d (spec.attribute_argument_of x) (place names ts) (form_in d (spec.attribute_argument_of x) names ts) ≡ form_in d parts.text_argument names ts
  texts x h = subst (λ (y : Sort). guarded d (spec.attribute_argument_of y) (place names ts) (form_in d (spec.attribute_argument_of y) names ts) ≡ form_in d parts.text_argument names ts) (sym h) refl

  pub text_case : ahead names ts ≡ s.Text → form_in d parts.argument names ts ≡ form_in d parts.text_argument names ts
  unfolding read
  text_case h = texts (ahead names ts) h

  values : (x : Sort) → (x ≡ s.Text → ⊥) → guarded d (spec.attribute_argument_of x) (place names ts) (form_in d (spec.attribute_argument_of x) names ts) ≡ form_in d parts.value_argument names ts
  values s.Text h = absurd (h refl)
  values _ h = same_guard d parts.value_argument (place names ts) (value_begun names ts)

  pub value_case : (ahead names ts ≡ s.Text → ⊥) → form_in d parts.argument names ts ≡ form_in d parts.value_argument names ts
  unfolding read
  value_case h = values (ahead names ts) h

  pub arguments_case : parts.begins_argument (ahead names ts) ≡ true → form_in d parts.maybe_arguments names ts ≡ form_in d parts.some_arguments names ts
  unfolding read
  arguments_case h = rw (arguments_begin (ahead names ts) ∙ h) refl

  pub no_arguments : parts.begins_argument (ahead names ts) ≡ false → form_in d parts.maybe_arguments names ts ≡ Ok ([], place names ts)
  unfolding read
  no_arguments h = rw (arguments_begin (ahead names ts) ∙ h) refl
