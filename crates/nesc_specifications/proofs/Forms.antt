-- Forms of heads of components, read part by part.
use Rattle.std.proofs.Common.{◌≡◌, ◌<◌, ◌-◌, ℕ, zero, suc, Bool, true, false, cond, List, [], ◌∷◌, length, Option, None, Ok, Err, refl, sym, ap, subst, ◌∙◌, arith}
use Rattle.std.specs.Prelude.{map as each, nat_le}
use Rattle.std.proofs.lemmas.Bool.{le-leb}
use Rattle.nm_base.specs.declared.token.Token.{Token}
use Rattle.nesc_tree.specs.declared.sorts.Sort.{Sort}
use Rattle.nesc_tree.specs.declared.sorts.Sort.TheVariants as s
use Rattle.nesc_tree.specs.declared.operand.CastType.{CastType}
use Rattle.nesc_tree.specs.declared.tree.TypeSpec.{TypeSpec}
use Rattle.nesc_tree.specs.declared.declarations.Attr.{Attr}
use Rattle.nesc_tree.specs.declared.components.Elem.{Elem}
use Rattle.nesc_tree.specs.declared.components.GenericParam.{GenericParam}
use Rattle.nesc_tree.specs.declared.components.Head.{Head}
use Rattle.nesc_tree.specs.Sorts.{Names, ahead}
use Rattle.nesc_tree.specs.Phrase.{Phrase, begins_type}
use Rattle.nesc_tree.specs.Form.{Form, Place, next, starts}
use Rattle.nesc_tree.specs.Reading.{Syntax, Deep, Answer, read, phrase, guarded, ◌>>=◌}
use Rattle.nesc_grammar.specs.Grammar as grammar
use Rattle.nesc_grammar.specs.Declarations as inner
use Rattle.nesc_grammar.specs.Components as spec
use Rattle.nesc_tree.proofs.Checked.{checked}
use Rattle.nesc_tree.proofs.Fine.{Fine}
use Rattle.nesc_parse_types.specs.Gives.{Found, Gives, form_in, place}
use Rattle.nesc_parse_types.proofs.Guards.{open_guard}
use Rattle.nesc_declarators.proofs.Turns.{read_at, turns_at}
use Rattle.nesc_specifications.specs.Parts as parts
use Rattle.nesc_specifications.specs.Reads as reads
use Rattle.nesc_specifications.specs.Reads.{at, spec_in, generics_in}
use Rattle.nesc_specifications.proofs.Mapped.{put, changed, listed_is, repeated_is}

pub by_is : {A : Type 0} (d : ℕ) (f : Sort → Form A) (p : Place) → 0 < d → read_at d (Form.by f) p ≡ read_at d (f (next p)) p
unfolding read
by_is d f p l = open_guard d (f (next p)) p (read_at d (f (next p)) p) l

pub maybe_is : {A : Type 0} (d : ℕ) (g : Form A) (a : A) (p : Place) → 0 < d → read_at d (Form.maybe g a) p ≡ cond (starts g (next p)) (read_at d g p) (put a p)
unfolding read
maybe_is {A = A} d g a p l = ap (λ (x : Answer A). cond (starts g (next p)) x (put a p)) (open_guard d g p (read_at d g p) l)

-- ---- elements

abbrev pub types_of : List CastType → List TypeSpec
types_of l = each (λ (t : CastType). t.ty) l

last : (b : Bool) (t : Token) (l : List CastType) (u : Option Token) (p : Option CastType) (r : Answer Token)
    → ((r >>= λ y. put (spec.element_of u p l t) y.1) >>= λ e. put (e.0 b) e.1)
    ≡ (((r >>= λ y. put p y.1) >>= λ p. put (spec.type_in p.0) p.1) >>= λ p. put (parts.element_of b t (types_of l) (spec.either_name t u) p.0) p.1)
last b t l u p (Ok y) = refl
last b t l u p (Err e) = refl

bracketed : (b : Bool) (t : Token) (l : List CastType) (u : Option Token) (r : Answer (Option CastType)) (z : Place → Answer Token)
    → ((((r >>= λ p. put (spec.element_of u p.0) p.1) >>= λ k. put (k.0 l) k.1) >>= λ k. put (k.0 t) k.1) >>= λ e. z e.1 >>= λ y. put e.0 y.1) >>= (λ e. put (e.0 b) e.1)
    ≡ (((r >>= λ p. z p.1 >>= λ y. put p.0 y.1) >>= λ p. put (spec.type_in p.0) p.1) >>= λ p. put (parts.element_of b t (types_of l) (spec.either_name t u) p.0) p.1)
bracketed b t l u (Ok p) z = last b t l u p.0 (z p.1)
bracketed b t l u (Err e) z = refl

abbrev either_with : Option Token → Token → Token
either_with u t = spec.either_name t u

aliased : (b : Bool) (t : Token) (l : List CastType) (r : Answer (Option Token)) (w : Place → Answer (Option CastType)) (z : Place → Answer Token)
    → (((((r >>= λ u. w u.1 >>= λ p. put (spec.element_of u.0 p.0) p.1) >>= λ k. put (k.0 l) k.1) >>= λ k. put (k.0 t) k.1) >>= λ e. z e.1 >>= λ y. put e.0 y.1) >>= λ e. put (e.0 b) e.1)
    ≡ (((r >>= λ u. put (either_with u.0) u.1) >>= λ k. put (k.0 t) k.1) >>= λ u. ((w u.1 >>= λ p. z p.1 >>= λ y. put p.0 y.1) >>= λ p. put (spec.type_in p.0) p.1) >>= λ p. put (parts.element_of b t (types_of l) u.0 p.0) p.1)
aliased b t l (Ok u) w z = bracketed b t l u.0 (w u.1) z
aliased b t l (Err e) w z = refl

argued : (b : Bool) (t : Token) (r : Answer (List CastType)) (v : Place → Answer (Option Token)) (w : Place → Answer (Option CastType)) (z : Place → Answer Token)
    → ((((r >>= λ l. (v l.1 >>= λ u. w u.1 >>= λ p. put (spec.element_of u.0 p.0) p.1) >>= λ k. put (k.0 l.0) k.1) >>= λ k. put (k.0 t) k.1) >>= λ e. z e.1 >>= λ y. put e.0 y.1) >>= λ e. put (e.0 b) e.1)
    ≡ (changed types_of r >>= λ l. ((v l.1 >>= λ u. put (either_with u.0) u.1) >>= λ k. put (k.0 t) k.1) >>= λ u. ((w u.1 >>= λ p. z p.1 >>= λ y. put p.0 y.1) >>= λ p. put (spec.type_in p.0) p.1) >>= λ p. put (parts.element_of b t l.0 u.0 p.0) p.1)
argued b t (Ok l) v w z = aliased b t l.0 (v l.1) w z
argued b t (Err e) v w z = refl

named : (b : Bool) (r : Answer Token) (g : Place → Answer (List CastType)) (h : Place → Answer (List TypeSpec)) (same : (q : Place) → changed types_of (g q) ≡ h q)
    (v : Place → Answer (Option Token)) (w : Place → Answer (Option CastType)) (z : Place → Answer Token)
    → (((r >>= λ t. (g t.1 >>= λ l. (v l.1 >>= λ u. w u.1 >>= λ p. put (spec.element_of u.0 p.0) p.1) >>= λ k. put (k.0 l.0) k.1) >>= λ k. put (k.0 t.0) k.1) >>= λ e. z e.1 >>= λ y. put e.0 y.1) >>= λ e. put (e.0 b) e.1)
    ≡ (r >>= λ t. h t.1 >>= λ l. ((v l.1 >>= λ u. put (either_with u.0) u.1) >>= λ k. put (k.0 t.0) k.1) >>= λ u. ((w u.1 >>= λ p. z p.1 >>= λ y. put p.0 y.1) >>= λ p. put (spec.type_in p.0) p.1) >>= λ p. put (parts.element_of b t.0 l.0 u.0 p.0) p.1)
named b (Ok t) g h same v w z =
    argued b t.0 (g t.1) v w z
    ∙ ap (λ (x : Answer (List TypeSpec)). x >>= λ l. ((v l.1 >>= λ u. put (either_with u.0) u.1) >>= λ k. put (k.0 t.0) k.1) >>= λ u. ((w u.1 >>= λ p. z p.1 >>= λ y. put p.0 y.1) >>= λ p. put (spec.type_in p.0) p.1) >>= λ p. put (parts.element_of b t.0 l.0 u.0 p.0) p.1) (same t.1)
named b (Err e) g h same v w z = refl

-- between two signs
module _ {A B : Type 0} (f : A → B) (d : ℕ) (x y : Sort) (g : Form A) (h : Form B) (same : (q : Place) → changed f (read_at d g q) ≡ read_at d h q) where
  ended : (a : A) (r : Answer Token) → changed f ((r >>= λ c. put a c.1) >>= λ w. put w.0 w.1) ≡ ((r >>= λ c. put (f a) c.1) >>= λ w. put w.0 w.1)
  ended a (Ok c) = refl
  ended a (Err e) = refl

  inside : (r : Answer A) (z : Place → Answer Token) → changed f ((r >>= λ a. z a.1 >>= λ c. put a.0 c.1) >>= λ w. put w.0 w.1) ≡ ((changed f r >>= λ a. z a.1 >>= λ c. put a.0 c.1) >>= λ w. put w.0 w.1)
  inside (Ok a) z = ended a.0 (z a.1)
  inside (Err e) z = refl

  enclosed : (r : Answer Token) (u : Place → Answer A) (v : Place → Answer B) (alike : (q : Place) → changed f (u q) ≡ v q) (z : Place → Answer Token)
      → changed f (r >>= λ o. (u o.1 >>= λ a. z a.1 >>= λ c. put a.0 c.1) >>= λ w. put w.0 w.1) ≡ (r >>= λ o. (v o.1 >>= λ a. z a.1 >>= λ c. put a.0 c.1) >>= λ w. put w.0 w.1)
  enclosed (Ok o) u v alike z = inside (u o.1) z ∙ ap (λ (k : Answer B). (k >>= λ a. z a.1 >>= λ c. put a.0 c.1) >>= λ w. put w.0 w.1) (alike o.1)
  enclosed (Err e) u v alike z = refl

  pub between_is : (p : Place) → changed f (read_at d (inner.between x y g) p) ≡ read_at d (inner.between x y h) p
  unfolding read
  between_is p = enclosed (read_at d (grammar.one x) p) (λ q. read_at d g q) (λ q. read_at d h q) same (λ q. read_at d (grammar.one y) q)

module _ (d : ℕ) (room : 0 < d) where
  arguments_inside : (p : Place) → changed types_of (read_at d (inner.between s.Less s.Greater (inner.listed grammar.type_form)) p) ≡ read_at d (inner.between s.Less s.Greater parts.some_arguments) p
  arguments_inside p = between_is types_of d s.Less s.Greater (inner.listed grammar.type_form) parts.some_arguments (λ q. listed_is (λ (t : CastType). t.ty) grammar.type_form d room q) p

  pub arguments_is : (p : Place) → changed types_of (read_at d spec.type_arguments p) ≡ read_at d parts.type_arguments p
  arguments_is p =
      let by : (c : Bool) → changed types_of (cond c (read_at d (inner.between s.Less s.Greater (inner.listed grammar.type_form)) p) (put [] p)) ≡ cond c (read_at d (inner.between s.Less s.Greater parts.some_arguments) p) (put [] p)
      = elim [ true ↦ arguments_inside p | false ↦ refl ] in
      ap (changed types_of) (maybe_is d (inner.between s.Less s.Greater (inner.listed grammar.type_form)) [] p room)
      ∙ (by (starts (inner.between s.Less s.Greater parts.some_arguments) (next p)) ∙ sym (maybe_is d (inner.between s.Less s.Greater parts.some_arguments) [] p room))

  pub element_is : (b : Bool) (names : Names) (ts : List Token) → form_in d (grammar.applied b spec.closed_element) names ts ≡ reads.element d b names ts
  unfolding read
  element_is b names ts =
      named b (form_in d parts.interface_name names ts) (λ q. read_at d spec.type_arguments q) (λ q. read_at d parts.type_arguments q) arguments_is (λ q. read_at d spec.alias q)
      (λ q. read_at d (grammar.before spec.element_bracket inner.attributes) q) (λ q. read_at d (grammar.one s.Semi) q)

  -- ---- specifications

  abbrev given : (b : Bool) → (Bool → Elem) → Elem
  given b f = f b

  single_is : (b : Bool) (r : Answer (Bool → Elem)) → changed (each (given b)) (r >>= λ u. put (u.0 ∷ []) u.1) ≡ ((r >>= λ u. put (u.0 b) u.1) >>= λ u. put (u.0 ∷ []) u.1)
  single_is b (Ok u) = refl
  single_is b (Err e) = refl

  elements_is : (b : Bool) (x : Sort) (p : Place) → changed (each (given b)) (read_at d (spec.elements_of x) p) ≡ read_at d (parts.elements_of b x) p
  unfolding read
  elements_is b s.LBrace p = between_is (each (given b)) d s.LBrace s.RBrace (inner.repeated spec.is_interface spec.closed_element) (parts.some_elements b) (λ q. repeated_is (given b) spec.closed_element d room spec.is_interface q) p
  elements_is b s.Interface p = single_is b (read_at d spec.closed_element p)
  elements_is b s.End p = refl
  elements_is b _ p = refl

  specified : (r : Answer Token) → (r >>= λ t. read_at d (Form.by spec.elements_of) t.1 >>= λ fs. put (each (given (spec.provides t.0)) fs.0) fs.1) ≡ (r >>= λ t. read_at d (parts.elements_of (spec.provides t.0) (next t.1)) t.1)
  specified (Ok t) = ap (changed (each (given (spec.provides t.0)))) (by_is d spec.elements_of t.1 room) ∙ elements_is (spec.provides t.0) (next t.1) t.1
  specified (Err e) = refl

  specification_is : (names : Names) (ts : List Token) → form_in d spec.specification names ts ≡ reads.specification d names ts
  unfolding read
  specification_is names ts = specified (form_in d (grammar.one s.Specify) names ts)

a_spec : (n : ℕ) (names : Names) (ts : List Token) → spec_in (suc n) names ts ≡ form_in n spec.specification names ts
unfolding phrase
a_spec n names ts = refl

pub spec_gives : (d : ℕ) (names : Names) (ts : List Token) (r : Found (List Elem)) → 1 < d → Gives names r (reads.specification (d - 1) names ts) → Gives names r (spec_in d names ts)
spec_gives zero names ts r l g = absurd (omega arith)
spec_gives (suc n) names ts r l g =
    let e : suc n - 1 ≡ n = omega arith in
    subst (Gives names r) (sym (a_spec n names ts ∙ specification_is n (omega arith) names ts)) (subst (λ (k : ℕ). Gives names r (reads.specification k names ts)) e g)

-- ---- attributes, each of which is a phrase

again : (l : List Attr) (r : Answer Attr) → ((r >>= λ x. put x.0 x.1) >>= λ u. put (inner.added u.0) u.1) ≡ (r >>= λ u. put (inner.added u.0) u.1)
again l (Ok u) = refl
again l (Err e) = refl

abbrev outer_turn : Sort → Form (List Attr → List Attr)
outer_turn x = grammar.when (inner.is_at x) (grammar.map inner.added (Form.sub Phrase.attribute (λ a. a)))

abbrev inner_turn : Sort → Form (List Attr → List Attr)
inner_turn x = grammar.when (inner.is_at x) (grammar.map inner.added inner.attribute)

no_weight : (n : ℕ) → nat_le 0 n ≡ true
no_weight n = le-leb 0 n (omega arith)

module _ (n : ℕ) where
  by_turn : (c : Bool) (q : Place)
      → guarded (suc n) (grammar.when c (grammar.map inner.added (Form.sub Phrase.attribute (λ a. a)))) q (read_at (suc n) (grammar.when c (grammar.map inner.added (Form.sub Phrase.attribute (λ a. a)))) q)
      ≡ guarded n (grammar.when c (grammar.map inner.added inner.attribute)) q (read_at n (grammar.when c (grammar.map inner.added inner.attribute)) q)
  unfolding read phrase
  by_turn true q = again [] (read_at n inner.attribute q)
  by_turn false q = shut n q where
    shut : (k : ℕ) (q : Place) → ◌≡◌ {A = Answer (List Attr → List Attr)} (Err (Syntax q.rest)) (guarded k Form.none q (Err (Syntax q.rest)))
    shut zero q = refl
    shut (suc k) q = refl

  turns_alike : (k : ℕ) (l : List Attr) (p : Place) → turns_at (suc n) (λ _ x. inner.is_at x) outer_turn k l p ≡ turns_at n (λ _ x. inner.is_at x) inner_turn k l p
  turns_alike zero l p = refl
  turns_alike (suc k) l p =
      let g = guarded (suc n) (outer_turn (next p)) p (read_at (suc n) (outer_turn (next p)) p) in
      let h = guarded n (inner_turn (next p)) p (read_at n (inner_turn (next p)) p) in
      let on : (x : Answer (List Attr → List Attr)) → (x >>= λ u. turns_at (suc n) (λ _ y. inner.is_at y) outer_turn k (u.0 l) u.1) ≡ (x >>= λ u. turns_at n (λ _ y. inner.is_at y) inner_turn k (u.0 l) u.1)
      = elim [ Ok u ↦ turns_alike k (u.0 l) u.1 | Err e ↦ refl ] in
      let by : (c : Bool)
      → cond c (cond (nat_le 0 (suc n)) (g >>= λ u. turns_at (suc n) (λ _ y. inner.is_at y) outer_turn k (u.0 l) u.1) (Err (Deep p.rest))) (put l p)
      ≡ cond c (cond (nat_le 0 n) (h >>= λ u. turns_at n (λ _ y. inner.is_at y) inner_turn k (u.0 l) u.1) (Err (Deep p.rest))) (put l p)
      = elim [
        | true ↦ rw (no_weight (suc n), no_weight n) (on g ∙ ap (λ (x : Answer (List Attr → List Attr)). x >>= λ u. turns_at n (λ _ y. inner.is_at y) inner_turn k (u.0 l) u.1) (by_turn (inner.is_at (next p)) p))
        | false ↦ refl
      ] in
      by (inner.is_at (next p))

  attributes_is : (p : Place) → read_at (suc n) spec.attributes p ≡ read_at n inner.attributes p
  unfolding read
  attributes_is p = turns_alike (suc (length p.rest)) [] p

pub attributes_give : (d : ℕ) (names : Names) (ts : List Token) (r : Found (List Attr)) → 0 < d → Gives names r (form_in (d - 1) inner.attributes names ts) → Gives names r (form_in d spec.attributes names ts)
attributes_give zero names ts r l g = absurd (omega arith)
attributes_give (suc n) names ts r l g =
    let e : suc n - 1 ≡ n = omega arith in
    subst (Gives names r) (sym (attributes_is n (place names ts))) (subst (λ (k : ℕ). Gives names r (form_in k inner.attributes names ts)) e g)

-- ---- parameters

module _ (d : ℕ) (names : Names) (ts : List Token) where
  pub type_case : (x : Sort) → x ≡ s.Typedef → form_in d (spec.generic_parameter_of x) names ts ≡ form_in d parts.type_parameter names ts
  type_case x h = rw h refl

  pub value_case : (x : Sort) → begins_type x ≡ true → form_in d (spec.generic_parameter_of x) names ts ≡ form_in d parts.value_parameter names ts
  value_case s.Qualifier h = refl
  value_case s.Void h = refl
  value_case s.Signedness h = refl
  value_case s.CharType h = refl
  value_case s.Length h = refl
  value_case s.Int h = refl
  value_case s.TypeName h = refl
  value_case s.Struct h = refl
  value_case s.Enum h = refl
  value_case s.End h = absurd cc
  value_case _ h = absurd cc

  pub no_case : (x : Sort) → begins_type x ≡ false → (x ≡ s.Typedef → ⊥) → form_in d (spec.generic_parameter_of x) names ts ≡ Err (Syntax ts)
  unfolding read
  no_case s.Typedef h k = absurd (k refl)
  no_case s.Qualifier h k = absurd cc
  no_case s.Void h k = absurd cc
  no_case s.Signedness h k = absurd cc
  no_case s.CharType h k = absurd cc
  no_case s.Length h k = absurd cc
  no_case s.Int h k = absurd cc
  no_case s.TypeName h k = absurd cc
  no_case s.Struct h k = absurd cc
  no_case s.Enum h k = absurd cc
  no_case _ h k = refl

  parameters_begin : (x : Sort) → starts parts.some_parameters x ≡ parts.begins_parameter x
  parameters_begin s.Typedef = refl
  parameters_begin s.End = refl
  parameters_begin _ = refl

  pub parameters_case : parts.begins_parameter (ahead names ts) ≡ true → 0 < d → form_in d parts.maybe_parameters names ts ≡ form_in d parts.some_parameters names ts
  parameters_case h l = maybe_is d parts.some_parameters [] (place names ts) l ∙ rw (parameters_begin (ahead names ts) ∙ h) refl

  pub no_parameters : parts.begins_parameter (ahead names ts) ≡ false → 0 < d → form_in d parts.maybe_parameters names ts ≡ Ok ([], place names ts)
  no_parameters h l = maybe_is d parts.some_parameters [] (place names ts) l ∙ rw (parameters_begin (ahead names ts) ∙ h) refl

a_generics : (n : ℕ) (names : Names) (ts : List Token) → generics_in (suc n) names ts ≡ form_in n spec.generics names ts
unfolding phrase
a_generics n names ts = refl

pub generics_give : (d : ℕ) (names after : Names) (ts : List Token) (r : Found (List GenericParam)) → 1 < d → Gives after r (form_in (d - 1) spec.generics names ts) → Gives after r (generics_in d names ts)
generics_give zero names after ts r l g = absurd (omega arith)
generics_give (suc n) names after ts r l g =
    let e : suc n - 1 ≡ n = omega arith in
    subst (Gives after r) (sym (a_generics n names ts)) (subst (λ (k : ℕ). Gives after r (form_in k spec.generics names ts)) e g)

module _ (d : ℕ) (room : 0 < d) (names : Names) (ts : List Token) where
  generics_begin : (x : Sort) → (x ≡ s.LParen → ⊥) → starts parts.found_generics x ≡ false
  generics_begin s.LParen h = absurd (h refl)
  generics_begin s.End h = refl
  generics_begin _ h = refl

  pub generics_case : ahead names ts ≡ s.LParen → form_in d parts.some_generics names ts ≡ form_in d parts.found_generics names ts
  generics_case h = maybe_is d parts.found_generics None (place names ts) room ∙ rw h refl

  pub no_generics : (ahead names ts ≡ s.LParen → ⊥) → form_in d parts.some_generics names ts ≡ Ok (None, place names ts)
  no_generics h = maybe_is d parts.found_generics None (place names ts) room ∙ rw (generics_begin (ahead names ts) h) refl

-- ---- heads

abbrev shown : List Attr → List Elem → Token → Option (List GenericParam) → Head
shown l es t ps = parts.head_of t ps l es

abbrev made : Option (List GenericParam) → (Token → Option (List GenericParam) → Head) → Token → Bool → Head
made ps f t g = f t (spec.generic_of g ps)

head_elements : (g : Bool) (t : Token) (ps : Option (List GenericParam)) (l : List Attr) (r : Answer (List Elem))
    → ((((r >>= λ es. put (shown l es.0) es.1) >>= λ f. put (made ps f.0) f.1) >>= λ f. put (f.0 t) f.1) >>= λ f. put (f.0 g) f.1)
    ≡ (r >>= λ es. put (parts.head_of t (spec.generic_of g ps) l es.0) es.1)
head_elements g t ps l (Ok es) = refl
head_elements g t ps l (Err e) = refl

head_attributes : (g : Bool) (t : Token) (ps : Option (List GenericParam)) (r : Answer (List Attr)) (y : Place → Answer (List Elem))
    → ((((r >>= λ l. y l.1 >>= λ es. put (shown l.0 es.0) es.1) >>= λ f. put (made ps f.0) f.1) >>= λ f. put (f.0 t) f.1) >>= λ f. put (f.0 g) f.1)
    ≡ (r >>= λ l. y l.1 >>= λ es. put (parts.head_of t (spec.generic_of g ps) l.0 es.0) es.1)
head_attributes g t ps (Ok l) y = head_elements g t ps l.0 (y l.1)
head_attributes g t ps (Err e) y = refl

head_generics : (g : Bool) (t : Token) (r : Answer (Option (List GenericParam))) (x : Place → Answer (List Attr)) (y : Place → Answer (List Elem))
    → (((r >>= λ ps. (x ps.1 >>= λ l. y l.1 >>= λ es. put (shown l.0 es.0) es.1) >>= λ f. put (made ps.0 f.0) f.1) >>= λ f. put (f.0 t) f.1) >>= λ f. put (f.0 g) f.1)
    ≡ (r >>= λ ps. x ps.1 >>= λ l. y l.1 >>= λ es. put (parts.head_of t (spec.generic_of g ps.0) l.0 es.0) es.1)
head_generics g t (Ok ps) x y = head_attributes g t ps.0 (x ps.1) y
head_generics g t (Err e) x y = refl

head_named : (g : Bool) (r : Answer Token) (w : Place → Answer (Option (List GenericParam))) (x : Place → Answer (List Attr)) (y : Place → Answer (List Elem))
    → ((r >>= λ t. (w t.1 >>= λ ps. (x ps.1 >>= λ l. y l.1 >>= λ es. put (shown l.0 es.0) es.1) >>= λ f. put (made ps.0 f.0) f.1) >>= λ f. put (f.0 t.0) f.1) >>= λ f. put (f.0 g) f.1)
    ≡ (r >>= λ t. w t.1 >>= λ ps. x ps.1 >>= λ l. y l.1 >>= λ es. put (parts.head_of t.0 (spec.generic_of g ps.0) l.0 es.0) es.1)
head_named g (Ok t) w x y = head_generics g t.0 (w t.1) x y
head_named g (Err e) w x y = refl

pub head_is : (d : ℕ) (g : Bool) (names : Names) (ts : List Token) → form_in d (grammar.applied g spec.head) names ts ≡ reads.head d g names ts
unfolding read
head_is d g names ts = head_named g (form_in d grammar.name names ts) (λ q. read_at d parts.some_generics q) (λ q. read_at d spec.attributes q) (λ q. read_at d spec.elements q)

-- ---- lists whose parts are read one by one

pub arguments_fine : Fine parts.some_arguments
arguments_fine = checked parts.some_arguments refl

pub parameters_fine : Fine parts.some_parameters
parameters_fine = checked parts.some_parameters refl

pub elements_fine : (b : Bool) → Fine (parts.some_elements b)
elements_fine b = checked (parts.some_elements b) refl

pub specifications_fine : Fine parts.specifications
specifications_fine = checked parts.specifications refl
