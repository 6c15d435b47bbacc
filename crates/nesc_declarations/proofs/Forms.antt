-- Forms read part by part, and the form that a declaration begins.
use Rattle.std.proofs.Common.{◌≡◌, ◌<◌, ◌-◌, ℕ, zero, suc, Bool, true, false, List, [], ◌∷◌, Option, Some, None, Ok, Err, refl, sym, ap, subst, ◌∙◌, arith}
use Rattle.nm_base.specs.declared.token.Token.{Token}
use Rattle.nesc_tree.specs.declared.sorts.Sort.{Sort}
use Rattle.nesc_tree.specs.declared.sorts.Sort.TheVariants as s
use Rattle.nesc_tree.specs.declared.contexts.Site.{Site}
use Rattle.nesc_tree.specs.declared.contexts.Site.TheVariants as site
use Rattle.nesc_tree.specs.declared.declarations.Decl.{Decl}
use Rattle.nesc_tree.specs.declared.declarations.Stmt.{Stmt}
use Rattle.nesc_tree.specs.declared.operand.CastType.{CastType}
use Rattle.nesc_tree.specs.declared.operand.Operand.{Operand}
use Rattle.nesc_tree.specs.declared.operand.Dims.{Dims}
use Rattle.nesc_tree.specs.declared.tree.Expr.{Expr}
use Rattle.nesc_tree.specs.Sorts.{Names, ahead}
use Rattle.nesc_tree.specs.Level as level
use Rattle.nesc_tree.specs.Phrase.{Phrase, begins_type, begins_expr, has_variables}
use Rattle.nesc_tree.specs.Form.{Form, Place, next, starts}
use Rattle.nesc_tree.specs.Reading.{Fault, Syntax, Deep, Answer, read, phrase, pass, ◌>>=◌}
use Rattle.nesc_grammar.specs.Grammar as grammar
use Rattle.nesc_grammar.specs.Declarations as spec
use Rattle.nesc_grammar.specs.Production.{production}
use Rattle.nesc_tree.proofs.Fine.{Fine}
use Rattle.nesc_tree.proofs.Checked.{checked}
use Rattle.nesc_parse_types.specs.declared.stop.Stop.{Stop}
use Rattle.nesc_parse_types.specs.Gives.{Fails, Found, Gives, form_in, place}
use Rattle.nesc_parse_types.proofs.Guards.{open_guard}
use Rattle.nesc_parse_types.specs.declared.stop.Stop.TheVariants as rust
use Rattle.nesc_heads.specs.Gives.{GivesAs}
use Rattle.nesc_heads.proofs.Forms.{by_is}
use Rattle.nesc_declarations.specs.declared.ends.Behind.{Behind}
use Rattle.nesc_declarations.specs.declared.ends.Behind.TheVariants as b
use Rattle.nesc_heads.specs.declared.words.Words.{Words}
use Rattle.nesc_heads.specs.Words.{words_of}
use Rattle.nesc_declarations.specs.declared.ends.FunctionRest.{FunctionRest}
use Rattle.nesc_declarations.specs.Views.{function_of, named_function, start}
use Rattle.nesc_declarations.specs.Forms as forms
use Rattle.nesc_declarations.specs.Forms.{decl_in}

-- ---- forms in their parts

abbrev put : {A : Type 0} → A → Place → Answer A
put a p = Ok (a, p)

abbrev first_dims : Operand → Dims → Dims
first_dims a l = record { exprs = a.expr ∷ l.exprs; height = l.height }

sized : (x : Answer Operand) (y : Place → Answer Dims) (z : Place → Answer (List Expr → spec.Behind))
    → ((x >>= λ a. y a.1 >>= λ l. put (first_dims a.0 l.0) l.1) >>= λ u. z u.1 >>= λ f. put (f.0 u.0.exprs) f.1)
    ≡ (((x >>= λ a. put a.0.expr a.1) >>= λ a. y a.1 >>= λ l. put (a.0 ∷ l.0.exprs) l.1) >>= λ u. z u.1 >>= λ f. put (f.0 u.0) f.1)
sized (Err e) y z = refl
sized (Ok a) y z = behind (y a.1) where
  behind : (r : Answer Dims) → ((r >>= λ l. put (first_dims a.0 l.0) l.1) >>= λ u. z u.1 >>= λ f. put (f.0 u.0.exprs) f.1) ≡ ((r >>= λ l. put (a.0.expr ∷ l.0.exprs) l.1) >>= λ u. z u.1 >>= λ f. put (f.0 u.0) f.1)
  behind (Ok l) = refl
  behind (Err e) = refl

pub dimensioned_is : (d : ℕ) (names : Names) (ts : List Token) → form_in d spec.dimensioned names ts ≡ form_in d forms.joined_dimensioned names ts
unfolding read
dimensioned_is d names ts = sized (form_in d (grammar.before (grammar.expr level.conditional) (grammar.one s.RBracket)) names ts) (λ p. read d (phrase production d) grammar.dims p) (λ p. read d (phrase production d) spec.first_variable p)

abbrev nothing_read : Unit {0}
nothing_read = tt

passed_over : {A B : Type 0} (x : Answer A) (y : Place → Answer B) → (x >>= λ u. y u.1 >>= λ v. put v.0 v.1) ≡ ((x >>= λ u. put nothing_read u.1) >>= λ u. y u.1 >>= λ v. put v.0 v.1)
passed_over (Ok u) y = refl
passed_over (Err e) y = refl

behind_both : {B : Type 0} (x : Answer Token) (y z : Place → Answer B) → ((p : Place) → y p ≡ z p) → (x >>= λ u. y u.1 >>= λ v. put v.0 v.1) ≡ (x >>= λ u. z u.1 >>= λ v. put v.0 v.1)
behind_both {B = B} (Ok u) y z h = ap (λ (r : Answer B). r >>= λ v. put v.0 v.1) (h u.1)
behind_both (Err e) y z h = refl

pub skip_is : {A B : Type 0} (d : ℕ) (k : Sort) (g : Form A) (h : Form B) (names : Names) (ts : List Token)
    → form_in d (grammar.behind (grammar.one k) (grammar.behind g h)) names ts ≡ form_in d (grammar.behind (grammar.one k) (grammar.behind (forms.skipped g) h)) names ts
unfolding read
skip_is {A = A} {B = B} d k g h names ts =
    behind_both (form_in d (grammar.one k) names ts) (λ p. read d (phrase production d) (grammar.behind g h) p) (λ p. read d (phrase production d) (grammar.behind (forms.skipped g) h) p)
    (λ p. passed_over (read d (phrase production d) g p) (λ q. read d (phrase production d) h q))

abbrev with_words : spec.Words → (CastType → spec.Words → spec.Declaring) → CastType → spec.Declaring
with_words w f t = f t w

given : (w : spec.Words) (t : CastType) (x : Answer (CastType → spec.Words → spec.Declaring))
    → ((x >>= λ f. put (with_words w f.0) f.1) >>= λ f. put (f.0 t) f.1) ≡ ((x >>= λ f. put (f.0 t) f.1) >>= λ f. put (f.0 w) f.1)
given w t (Ok f) = refl
given w t (Err e) = refl

pub named_in_is : (d : ℕ) (m : Site) (t : CastType) (names : Names) (ts : List Token) → form_in d (grammar.applied t (spec.named_in m)) names ts ≡ form_in d (forms.named spec.no_words t (b.Either m)) names ts
unfolding read
named_in_is d m t names ts = given spec.no_words t (form_in d (spec.named (Form.by (spec.ending m))) names ts)

-- ---- by their first tokens

module _ (d : ℕ) (m : Site) (names : Names) (ts : List Token) where
  pub typed_case : (x : Sort) → begins_type x ≡ true → form_in d (spec.declaring m x) names ts ≡ form_in d (forms.typed m) names ts
  typed_case s.Qualifier h = refl
  typed_case s.Void h = refl
  typed_case s.Signedness h = refl
  typed_case s.CharType h = refl
  typed_case s.Length h = refl
  typed_case s.Int h = refl
  typed_case s.TypeName h = refl
  typed_case s.Struct h = refl
  typed_case s.Enum h = refl
  typed_case s.End h = absurd cc
  typed_case _ h = absurd cc

  pub no_case : (x : Sort) → begins_type x ≡ false → (x ≡ s.Norace → ⊥) → (x ≡ s.Static → ⊥) → (x ≡ s.Async → ⊥) → (x ≡ s.Default → ⊥) → (x ≡ s.Inline → ⊥) → (x ≡ s.Task → ⊥) → (x ≡ s.Item → ⊥)
      → form_in d (spec.declaring m x) names ts ≡ Err (Syntax ts)
  unfolding read
  no_case s.Norace h a b c e f g i = absurd (a refl)
  no_case s.Static h a b c e f g i = absurd (b refl)
  no_case s.Async h a b c e f g i = absurd (c refl)
  no_case s.Default h a b c e f g i = absurd (e refl)
  no_case s.Inline h a b c e f g i = absurd (f refl)
  no_case s.Task h a b c e f g i = absurd (g refl)
  no_case s.Item h a b c e f g i = absurd (i refl)
  no_case s.Qualifier h a b c e f g i = absurd cc
  no_case s.Void h a b c e f g i = absurd cc
  no_case s.Signedness h a b c e f g i = absurd cc
  no_case s.CharType h a b c e f g i = absurd cc
  no_case s.Length h a b c e f g i = absurd cc
  no_case s.Int h a b c e f g i = absurd cc
  no_case s.TypeName h a b c e f g i = absurd cc
  no_case s.Struct h a b c e f g i = absurd cc
  no_case s.Enum h a b c e f g i = absurd cc
  no_case _ h a b c e f g i = refl

module _ (d : ℕ) (names : Names) (ts : List Token) where
  pub static_case : (x : Sort) → begins_type x ≡ true → form_in d (spec.static_of x) names ts ≡ form_in d forms.static_typed names ts
  static_case s.Qualifier h = refl
  static_case s.Void h = refl
  static_case s.Signedness h = refl
  static_case s.CharType h = refl
  static_case s.Length h = refl
  static_case s.Int h = refl
  static_case s.TypeName h = refl
  static_case s.Struct h = refl
  static_case s.Enum h = refl
  static_case s.End h = absurd cc
  static_case _ h = absurd cc

  pub no_static : (x : Sort) → begins_type x ≡ false → (x ≡ s.Norace → ⊥) → (x ≡ s.Async → ⊥) → (x ≡ s.Default → ⊥) → (x ≡ s.Inline → ⊥) → (x ≡ s.Task → ⊥) → (x ≡ s.Item → ⊥) → form_in d (spec.static_of x) names ts ≡ Err (Syntax ts)
  unfolding read
  no_static s.Norace h a c e f g i = absurd (a refl)
  no_static s.Async h a c e f g i = absurd (c refl)
  no_static s.Default h a c e f g i = absurd (e refl)
  no_static s.Inline h a c e f g i = absurd (f refl)
  no_static s.Task h a c e f g i = absurd (g refl)
  no_static s.Item h a c e f g i = absurd (i refl)
  no_static s.Qualifier h a c e f g i = absurd cc
  no_static s.Void h a c e f g i = absurd cc
  no_static s.Signedness h a c e f g i = absurd cc
  no_static s.CharType h a c e f g i = absurd cc
  no_static s.Length h a c e f g i = absurd cc
  no_static s.Int h a c e f g i = absurd cc
  no_static s.TypeName h a c e f g i = absurd cc
  no_static s.Struct h a c e f g i = absurd cc
  no_static s.Enum h a c e f g i = absurd cc
  no_static _ h a c e f g i = refl

  -- behind a `[`
  pub type_behind : begins_type (ahead names ts) ≡ true → 0 < d → form_in d forms.behind_bracket names ts ≡ form_in d spec.bracketed_function names ts
  type_behind h l = by_is d spec.bracketed_of names ts l ∙ ap (λ (c : Bool). form_in d (grammar.if_type c spec.bracketed_function (grammar.when (begins_expr (ahead names ts)) spec.dimensioned)) names ts) h

  pub size_behind : begins_type (ahead names ts) ≡ false → begins_expr (ahead names ts) ≡ true → 0 < d → form_in d forms.behind_bracket names ts ≡ form_in d spec.dimensioned names ts
  size_behind h k l =
      by_is d spec.bracketed_of names ts l
      ∙ (ap (λ (c : Bool). form_in d (grammar.if_type c spec.bracketed_function (grammar.when (begins_expr (ahead names ts)) spec.dimensioned)) names ts) h
      ∙ ap (λ (c : Bool). form_in d (grammar.when c spec.dimensioned) names ts) k)

  nothing : form_in {A = spec.Behind} d Form.none names ts ≡ Err (Syntax ts)
  unfolding read
  nothing = refl

  pub none_behind : begins_type (ahead names ts) ≡ false → begins_expr (ahead names ts) ≡ false → 0 < d → form_in d forms.behind_bracket names ts ≡ Err (Syntax ts)
  none_behind h k l =
      by_is d spec.bracketed_of names ts l
      ∙ (ap (λ (c : Bool). form_in d (grammar.if_type c spec.bracketed_function (grammar.when (begins_expr (ahead names ts)) spec.dimensioned)) names ts) h
      ∙ (ap (λ (c : Bool). form_in d (grammar.when c spec.dimensioned) names ts) k ∙ nothing))

-- ---- the phrase

a_decl : (n : ℕ) (m : Site) (names : Names) (ts : List Token) → decl_in (suc n) m names ts ≡ form_in n (Form.by (spec.decl_of m)) names ts
unfolding phrase
a_decl n m names ts = refl

pub decl_gives : (d : ℕ) (m : Site) (before after : Names) (ts : List Token) (r : Found Decl) → 1 < d → Gives after r (form_in (d - 1) (spec.decl_of m (ahead before ts)) before ts) → Gives after r (decl_in d m before ts)
decl_gives zero m before after ts r l g = absurd (omega arith)
decl_gives (suc n) m before after ts r l g =
    let e : suc n - 1 ≡ n = omega arith in
    subst (Gives after r) (sym (a_decl n m before ts ∙ by_is n (spec.decl_of m) before ts (omega arith))) (subst (λ (k : ℕ). Gives after r (form_in k (spec.decl_of m (ahead before ts)) before ts)) e g)

-- ---- bodies and scopes

-- the form that this token tells
pub by_at : {A : Type 0} (d : ℕ) (f : Sort → Form A) (names : Names) (ts : List Token) → 0 < d → (x : Sort) → x ≡ ahead names ts → form_in d (Form.by f) names ts ≡ form_in d (f x) names ts
by_at d f names ts l x e = by_is d f names ts l ∙ ap (λ (y : Sort). form_in d (f y) names ts) (sym e)

module _ (d : ℕ) (names : Names) (ts : List Token) where
  pub no_body_case : (x : Sort) → (x ≡ s.LBrace → ⊥) → (x ≡ s.Semi → ⊥) → form_in d (spec.body_of x) names ts ≡ Err (Syntax ts)
  unfolding read
  no_body_case s.LBrace h k = absurd (h refl)
  no_body_case s.Semi h k = absurd (k refl)
  no_body_case s.End h k = refl
  no_body_case _ h k = refl

module _ {X Y : Type 0} (shown : X → Y) (d : ℕ) (g : Form Y) (before inside : Names) (ts : List Token) where
  closed : (a : Y) (rest : List Token) (y : Answer Y) → y ≡ put a (place inside rest) → (y >>= λ x. put x.0 (place before x.1.rest)) ≡ put a (place before rest)
  closed a rest y h = rw h refl

  refused : (e : Fault) (y : Answer Y) → y ≡ Err e → (y >>= λ x. put x.0 (place before x.1.rest)) ≡ Err e
  refused e y h = rw h refl

  -- names of its own end with it
  pub scope_gives : (r : Found X) → GivesAs shown inside r (form_in d g before ts) → GivesAs shown before r (form_in d (Form.scope g) before ts)
  unfolding read
  scope_gives (Ok x) h = closed (shown x.0) x.1.now (form_in d g before ts) h
  scope_gives (Err rust.Memory) h = tt
  scope_gives (Err (rust.Syntax us)) h = refused (Syntax us.now) (form_in d g before ts) h
  scope_gives (Err (rust.Deep us)) h = refused (Deep us.now) (form_in d g before ts) h

-- ---- words that have no effect

abbrev adding : Token → List Token → List Token
adding t l = spec.added t l

module _ (spare : ℕ) (names : Names) (ts : List Token) (x : Sort) (l : List Token) where
  passed : (t : Token) (p : Place) (y : Answer Token) → y ≡ put t p → ((y >>= λ u. put (adding u.0) u.1) >>= λ f. put (f.0 l) f.1) ≡ put (spec.added t l) p
  passed t p y h = rw h refl

  stopped : (e : Fault) (y : Answer Token) → y ≡ Err e → ((y >>= λ u. put (adding u.0) u.1) >>= λ f. put (f.0 l) f.1) ≡ Err e
  stopped e y h = rw h refl

  pub word_turn : (t : Token) (rest : List Token) → pass x (λ u. u) names ts ≡ Ok (t, place names rest) → form_in spare (grammar.applied l (grammar.map spec.added (grammar.one x))) names ts ≡ Ok (spec.added t l, place names rest)
  unfolding read
  word_turn t rest h = passed t (place names rest) (pass x (λ u. u) names ts) h

  pub word_fails : (r : Stop) → Fails r (pass x (λ u. u) names ts) → Fails r (form_in spare (grammar.applied l (grammar.map spec.added (grammar.one x))) names ts)
  unfolding read
  word_fails rust.Memory h = tt
  word_fails (rust.Syntax us) h = stopped (Syntax us.now) (pass x (λ u. u) names ts) h
  word_fails (rust.Deep us) h = stopped (Deep us.now) (pass x (λ u. u) names ts) h

-- ---- lists of declarations

pub decls_fine : (m : Site) → Fine (spec.decls_before m)
decls_fine site.Header = checked (spec.decls_before site.Header) refl
decls_fine site.Module = checked (spec.decls_before site.Module) refl

-- ---- what a declaration hides

pub function_is : (w : Words) (t : CastType) (n : ℕ) (x : Token) (item : Option Token) (f : FunctionRest) → named_function w (spec.declared_type t n []) x.text x.pos (spec.text_of item) f ≡ function_of f item (words_of w) (start t n x)
function_is w t n x None f = refl
function_is w t n x (Some i) f = refl

-- ---- the form that a token tells, of a type before it
pub applied_by : {A B : Type 0} (d : ℕ) (t : A) (f : Sort → Form (A → B)) (names : Names) (ts : List Token) → 0 < d → (x : Sort) → x ≡ ahead names ts
    → form_in d (grammar.applied t (Form.by f)) names ts ≡ form_in d (grammar.applied t (f x)) names ts
unfolding read
applied_by {A = A} {B = B} d t f names ts l x e = ap (λ (r : Answer (A → B)). r >>= λ u. put (u.0 t) u.1) (by_at d f names ts l x e)

pub static_module : (d : ℕ) (m : Site) (names : Names) (ts : List Token) → m ≡ site.Module → form_in d (spec.static_decl m) names ts ≡ form_in d forms.joined_static names ts
static_module d m names ts e = rw e (skip_is d s.Static spec.statics forms.static_end names ts)

-- what is behind a name, where the form is one of two
pub either_is : (d : ℕ) (x : Behind) (m : Site) (names : Names) (ts : List Token) → x ≡ b.Either m → 0 < d → (y : Sort) → y ≡ ahead names ts → form_in d (forms.form_behind x) names ts ≡ form_in d (spec.ending m y) names ts
either_is d x m names ts e l y h = rw e (by_at d (spec.ending m) names ts l y h)

-- ---- the item that a function is named by

joined : (x : Answer (Option Token)) (y : Place → Answer (Option Token → spec.Behind)) (item : Option Token) (q : Place) (f : Option Token → spec.Behind) (r : Place) → x ≡ put item q → y q ≡ put f r → (x >>= λ u. y u.1 >>= λ v. put (v.0 u.0) v.1) ≡ put (f item) r
joined x y item q f r e h = rw e (rw h refl)

no_item : (x : Answer (Option Token)) (y : Place → Answer (Option Token → spec.Behind)) (f : Fault) → x ≡ Err f → (x >>= λ u. y u.1 >>= λ v. put (v.0 u.0) v.1) ≡ Err f
no_item x y f e = rw e refl

no_rest : (x : Answer (Option Token)) (y : Place → Answer (Option Token → spec.Behind)) (item : Option Token) (q : Place) (f : Fault) → x ≡ put item q → y q ≡ Err f → (x >>= λ u. y u.1 >>= λ v. put (v.0 u.0) v.1) ≡ Err f
no_rest x y item q f e h = rw e (rw h refl)

module _ (d : ℕ) (names : Names) (ts : List Token) where
  abbrev named_item : Answer (Option Token)
  named_item = form_in d (spec.some spec.item_name) names ts

  abbrev rest_at : Place → Answer (Option Token → spec.Behind)
  rest_at p = read d (phrase production d) spec.function_rest p

  pub end_read : (item : Option Token) (us : List Token) → form_in d (spec.some spec.item_name) names ts ≡ Ok (item, place names us) → (f : Option Token → spec.Behind) (rest : List Token) → form_in d spec.function_rest names us ≡ Ok (f, place names rest)
      → form_in d spec.function_end names ts ≡ Ok (f item, place names rest)
  unfolding read
  end_read item us e f rest h = joined named_item rest_at item (place names us) f (place names rest) e h

  pub item_fails : (r : Stop) → Fails r (form_in d (spec.some spec.item_name) names ts) → Fails r (form_in d spec.function_end names ts)
  unfolding read
  item_fails rust.Memory h = tt
  item_fails (rust.Syntax us) h = no_item named_item rest_at (Syntax us.now) h
  item_fails (rust.Deep us) h = no_item named_item rest_at (Deep us.now) h

  pub rest_fails : (item : Option Token) (vs : List Token) → form_in d (spec.some spec.item_name) names ts ≡ Ok (item, place names vs) → (r : Stop) → Fails r (form_in d spec.function_rest names vs) → Fails r (form_in d spec.function_end names ts)
  unfolding read
  rest_fails item vs e rust.Memory h = tt
  rest_fails item vs e (rust.Syntax us) h = no_rest named_item rest_at item (place names vs) (Syntax us.now) e h
  rest_fails item vs e (rust.Deep us) h = no_rest named_item rest_at item (place names vs) (Deep us.now) e h

  -- ---- tokens that nothing goes on with

  pub no_header_end : (x : Sort) → (x ≡ s.LParen → ⊥) → (x ≡ s.Dot → ⊥) → form_in d (spec.header_end_of x) names ts ≡ Err (Syntax ts)
  unfolding read
  no_header_end s.LParen h k = absurd (h refl)
  no_header_end s.Dot h k = absurd (k refl)
  no_header_end s.End h k = refl
  no_header_end _ h k = refl

  pub no_end : (x : Sort) → (x ≡ s.LParen → ⊥) → (x ≡ s.Dot → ⊥) → (x ≡ s.LBracket → ⊥) → (x ≡ s.At → ⊥) → (x ≡ s.Assign → ⊥) → (x ≡ s.Comma → ⊥) → (x ≡ s.Semi → ⊥) → form_in d (spec.end_of x) names ts ≡ Err (Syntax ts)
  unfolding read
  no_end s.LParen a b c e f g h = absurd (a refl)
  no_end s.Dot a b c e f g h = absurd (b refl)
  no_end s.LBracket a b c e f g h = absurd (c refl)
  no_end s.At a b c e f g h = absurd (e refl)
  no_end s.Assign a b c e f g h = absurd (f refl)
  no_end s.Comma a b c e f g h = absurd (g refl)
  no_end s.Semi a b c e f g h = absurd (h refl)
  no_end s.End a b c e f g h = refl
  no_end _ a b c e f g h = refl

  pub no_typed : (t : CastType) (m : Site) (x : Sort) → (x ≡ s.Semi → ⊥) → (x ≡ s.Star → ⊥) → (x ≡ s.Word → ⊥) → (x ≡ s.TypeName → ⊥) → form_in d (grammar.applied t (spec.typed_of m x)) names ts ≡ Err (Syntax ts)
  unfolding read
  no_typed t m s.Semi a b c e = absurd (a refl)
  no_typed t m s.Star a b c e = absurd (b refl)
  no_typed t m s.Word a b c e = absurd (c refl)
  no_typed t m s.TypeName a b c e = absurd (e refl)
  no_typed t m s.End a b c e = refl
  no_typed t m _ a b c e = refl

  no_norace : (m : Site) → has_variables m ≡ false → form_in d (spec.declaring m s.Norace) names ts ≡ Err (Syntax ts)
  unfolding read
  no_norace site.Header h = refl
  no_norace site.Module h = absurd cc

  pub norace_case : (m : Site) (x : Sort) → x ≡ s.Norace → has_variables m ≡ false → form_in d (spec.declaring m x) names ts ≡ Err (Syntax ts)
  norace_case m x e h = subst (λ (y : Sort). form_in d (spec.declaring m y) names ts ≡ Err (Syntax ts)) (sym e) (no_norace m h)
