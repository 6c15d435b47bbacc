-- Forms read part by part, and the form that a declaration in a block begins.
use Rattle.std.proofs.Common.{◌≡◌, ◌<◌, ◌-◌, ℕ, zero, suc, Bool, true, false, List, [], Ok, Err, refl, sym, ap, subst, ◌∙◌, arith}
use Rattle.nm_base.specs.declared.token.Token.{Token}
use Rattle.nesc_tree.specs.declared.declarations.Stmt.{Stmt}
use Rattle.nesc_tree.specs.declared.sorts.Sort.{Sort}
use Rattle.nesc_tree.specs.declared.sorts.Sort.TheVariants as s
use Rattle.nesc_tree.specs.Sorts.{Names, ahead}
use Rattle.nesc_tree.specs.Phrase.{Phrase, begins, begins_type, begins_local}
use Rattle.nesc_tree.specs.Form.{Form, Place, next, starts}
use Rattle.nesc_tree.specs.Reading.{Fault, Syntax, Deep, Answer, read, phrase, stop, guarded, nests, ◌>>=◌}
use Rattle.nesc_grammar.specs.Grammar as grammar
use Rattle.nesc_grammar.specs.Declarations as spec
use Rattle.nesc_grammar.specs.Statements as statements
use Rattle.nesc_grammar.specs.Production.{production}
use Rattle.nesc_parse_types.specs.declared.stop.Stop.{Stop}
use Rattle.nesc_parse_types.specs.declared.stop.Stop.TheVariants as rust
use Rattle.nesc_parse_types.specs.Gives.{Fails, Found, Gives, form_in, place}
use Rattle.nesc_parse_types.proofs.Guards.{open_guard}
use Rattle.nesc_parse_exprs.specs.Stops.{StopsAt}
use Rattle.nesc_declarators.specs.Locals.{local_in}
use Rattle.nesc_declarators.specs.Parts as parts

abbrev put : {A : Type 0} → A → Place → Answer A
put a p = Ok (a, p)

-- what is behind the first part may be read as one
regrouped : {A B C D : Type 0} (f : A → C → D) (x : Answer A) (y : Place → Answer B) (z : Place → Answer C)
    → ((x >>= λ u. y u.1 >>= λ v. put u.0 v.1) >>= λ u. z u.1 >>= λ w. put (f u.0 w.0) w.1) ≡ (x >>= λ u. (y u.1 >>= λ v. z v.1 >>= λ w. put w.0 w.1) >>= λ w. put (f u.0 w.0) w.1)
regrouped f (Err e) y z = refl
regrouped {B = B} {C = C} f (Ok u) y z = behind (y u.1) where
  last : (r : Answer C) → (r >>= λ w. put (f u.0 w.0) w.1) ≡ ((r >>= λ w. put w.0 w.1) >>= λ w. put (f u.0 w.0) w.1)
  last (Ok w) = refl
  last (Err e) = refl

  behind : (r : Answer B) → ((r >>= λ v. put u.0 v.1) >>= λ t. z t.1 >>= λ w. put (f t.0 w.0) w.1) ≡ ((r >>= λ v. z v.1 >>= λ w. put w.0 w.1) >>= λ w. put (f u.0 w.0) w.1)
  behind (Ok v) = last (z v.1)
  behind (Err e) = refl

pub variable_is : (d : ℕ) (names : Names) (ts : List Token) → form_in d spec.variable names ts ≡ form_in d parts.joined_variable names ts
unfolding read
variable_is d names ts = regrouped spec.with_init (form_in d parts.hiding_variable names ts) (λ p. read d (phrase production d) spec.attributes p) (λ p. read d (phrase production d) spec.some_init p)

variable_begins : (x : Sort) → starts spec.variables x ≡ parts.begins_variable x
variable_begins s.Star = refl
variable_begins s.Word = refl
variable_begins s.TypeName = refl
variable_begins s.End = refl
variable_begins _ = refl

module _ (d : ℕ) (names : Names) (ts : List Token) where
  pub variables_case : parts.begins_variable (ahead names ts) ≡ true → form_in d parts.maybe_variables names ts ≡ form_in d spec.variables names ts
  unfolding read
  variables_case h = rw (variable_begins (ahead names ts) ∙ h) refl

  pub no_variables : parts.begins_variable (ahead names ts) ≡ false → form_in d parts.maybe_variables names ts ≡ Ok ([], place names ts)
  unfolding read
  no_variables h = rw (variable_begins (ahead names ts) ∙ h) refl

  typedefs : (x : Sort) → x ≡ s.Typedef → guarded d (statements.local_of x) (place names ts) (form_in d (statements.local_of x) names ts) ≡ form_in d statements.local_typedef names ts
  typedefs x h = subst (λ (y : Sort). guarded d (statements.local_of y) (place names ts) (form_in d (statements.local_of y) names ts) ≡ form_in d statements.local_typedef names ts) (sym h) refl

  pub typedef_case : ahead names ts ≡ s.Typedef → form_in d (Form.by statements.local_of) names ts ≡ form_in d statements.local_typedef names ts
  unfolding read
  typedef_case h = typedefs (ahead names ts) h

  abbrev other : Bool → Answer Stmt
  other b = guarded d (grammar.when b statements.local_variables) (place names ts) (form_in d (grammar.when b statements.local_variables) names ts)

  others : (x : Sort) → (x ≡ s.Typedef → ⊥) → guarded d (statements.local_of x) (place names ts) (form_in d (statements.local_of x) names ts) ≡ other (begins_type x)
  others s.Typedef h = absurd (h refl)
  others _ h = refl

  pub type_case : (ahead names ts ≡ s.Typedef → ⊥) → begins_type (ahead names ts) ≡ true → form_in d (Form.by statements.local_of) names ts ≡ form_in d statements.local_variables names ts
  unfolding read
  type_case h k = others (ahead names ts) h ∙ ap other k

  unread : (n : ℕ) → guarded n {A = Stmt} Form.none (place names ts) (form_in n Form.none names ts) ≡ Err (Syntax ts)
  unfolding read
  unread zero = refl
  unread (suc n) = refl

  pub no_case : (ahead names ts ≡ s.Typedef → ⊥) → begins_type (ahead names ts) ≡ false → form_in d (Form.by statements.local_of) names ts ≡ Err (Syntax ts)
  unfolding read
  no_case h k = others (ahead names ts) h ∙ (ap other k ∙ unread d)

  stops : (r : Stop) (b : Bool) (y : Answer Stmt) → StopsAt r b ts → y ≡ Err (stop b ts) → Fails r y
  stops rust.Memory b y w h = absurd w
  stops (rust.Syntax us) b y w h = subst (λ (vs : List Token). ◌≡◌ {A = Answer Stmt} y (Err (Syntax vs))) (sym w.1) (subst (λ (c : Bool). y ≡ Err (stop c ts)) w.0 h)
  stops (rust.Deep us) b y w h = subst (λ (vs : List Token). ◌≡◌ {A = Answer Stmt} y (Err (Deep vs))) (sym w.1) (subst (λ (c : Bool). y ≡ Err (stop c ts)) w.0 h)

  no_level : d ≡ 0 → local_in d names ts ≡ Err (stop (begins_local (ahead names ts)) ts)
  unfolding phrase
  no_level z = rw z refl

  pub local_stops : d ≡ 0 → (x : Sort) → x ≡ ahead names ts → (b : Bool) (r : Stop) → StopsAt r b ts → b ≡ begins_local x → Fails r (local_in d names ts)
  local_stops z x e b r w h = stops r b (local_in d names ts) w (no_level z ∙ ap (λ (c : Bool). Err (stop c ts)) (sym (h ∙ ap begins_local e)))

a_local : (n : ℕ) (names : Names) (ts : List Token) → local_in (suc n) names ts ≡ form_in n (Form.by statements.local_of) names ts
unfolding phrase
a_local n names ts = refl

pub local_gives : (d : ℕ) (before after : Names) (ts : List Token) (r : Found Stmt) → 0 < d → Gives after r (form_in (d - 1) (Form.by statements.local_of) before ts) → Gives after r (local_in d before ts)
local_gives zero before after ts r l g = absurd (omega arith)
local_gives (suc n) before after ts r l g =
    let e : suc n - 1 ≡ n = omega arith in
    subst (Gives after r) (sym (a_local n before ts)) (subst (λ (k : ℕ). Gives after r (form_in k (Form.by statements.local_of) before ts)) e g)
