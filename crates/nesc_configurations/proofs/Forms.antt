-- Forms of a configuration's lines, read part by part, and the form that a line begins.
use Rattle.std.proofs.Common.{◌≡◌, ◌<◌, ◌-◌, ℕ, zero, suc, Bool, true, false, cond, List, [], ◌∷◌, Option, Some, None, Ok, Err, refl, sym, ap, subst, ◌∙◌, arith}
use Rattle.nm_base.specs.declared.pos.Pos.{Pos}
use Rattle.nm_base.specs.declared.token.Token.{Token}
use Rattle.nesc_tree.specs.declared.sorts.Sort.{Sort}
use Rattle.nesc_tree.specs.declared.sorts.Sort.TheVariants as s
use Rattle.nesc_tree.specs.declared.operand.CastType.{CastType}
use Rattle.nesc_tree.specs.declared.operand.Operand.{Operand}
use Rattle.nesc_tree.specs.declared.operand.Qualifiers.{Qualifiers}
use Rattle.nesc_tree.specs.declared.tree.Base.TheVariants as b
use Rattle.nesc_tree.specs.declared.components.ConfLine.{ConfLine}
use Rattle.nesc_tree.specs.declared.components.GenericArg.{GenericArg}
use Rattle.nesc_tree.specs.declared.components.WireEnd.{WireEnd}
use Rattle.nesc_tree.specs.Sorts.{Names, ahead, sort, same_sort}
use Rattle.nesc_tree.specs.Phrase.{begins_type}
use Rattle.nesc_tree.specs.Form.{Form, Place, next, starts}
use Rattle.nesc_tree.specs.Reading.{Syntax, Answer, read, phrase, pass, ◌>>=◌}
use Rattle.nesc_grammar.specs.Grammar as grammar
use Rattle.nesc_grammar.specs.Components as spec
use Rattle.nesc_tree.proofs.Checked.{checked}
use Rattle.nesc_tree.proofs.Fine.{Fine}
use Rattle.nesc_tree.proofs.Same.{same_is}
use Rattle.nesc_parse_types.specs.Gives.{Found, Gives, form_in, place}
use Rattle.nesc_declarators.proofs.Turns.{read_at}
use Rattle.nesc_specifications.proofs.Mapped.{put, changed}
use Rattle.nesc_specifications.proofs.Forms.{by_is, maybe_is}
use Rattle.nesc_configurations.specs.Parts as parts
use Rattle.nesc_configurations.specs.Reads as reads
use Rattle.nesc_configurations.specs.Reads.{line_in}

-- ---- arguments

arguments_begin : (x : Sort) → starts parts.some_arguments x ≡ parts.begins_argument x
arguments_begin s.End = refl
arguments_begin _ = refl

module _ (d : ℕ) (names : Names) (ts : List Token) where
  pub arguments_case : parts.begins_argument (ahead names ts) ≡ true → 0 < d → form_in d parts.maybe_arguments names ts ≡ form_in d parts.some_arguments names ts
  arguments_case h l = maybe_is d parts.some_arguments [] (place names ts) l ∙ rw (arguments_begin (ahead names ts) ∙ h) refl

  pub no_arguments : parts.begins_argument (ahead names ts) ≡ false → 0 < d → form_in d parts.maybe_arguments names ts ≡ Ok ([], place names ts)
  no_arguments h l = maybe_is d parts.some_arguments [] (place names ts) l ∙ rw (arguments_begin (ahead names ts) ∙ h) refl

-- ---- components

abbrev either_with : Option Token → Token → Token
either_with u t = spec.either_name t u

aliased : (t : Token) (l : Option (List GenericArg)) (r : Answer (Option Token))
    → ((r >>= λ u. put (spec.component_line l u.0) u.1) >>= λ f. put (f.0 t) f.1) ≡ (((r >>= λ u. put (either_with u.0) u.1) >>= λ k. put (k.0 t) k.1) >>= λ u. put (parts.component_of t l u.0) u.1)
aliased t l (Ok u) = refl
aliased t l (Err e) = refl

pub component_end_is : (d : ℕ) (t : Token) (l : Option (List GenericArg)) (names : Names) (ts : List Token) → form_in d (grammar.applied t (parts.component_end l)) names ts ≡ reads.component_end d t l names ts
unfolding read
component_end_is d t l names ts = aliased t l (form_in d spec.alias names ts)

with_arguments : (t : Token) (r : Answer (List GenericArg)) (y : Place → Answer (Option Token))
    → ((r >>= λ l. y l.1 >>= λ u. put (spec.component_line (Some l.0) u.0) u.1) >>= λ f. put (f.0 t) f.1) ≡ (r >>= λ l. (y l.1 >>= λ u. put (spec.component_line (Some l.0) u.0) u.1) >>= λ f. put (f.0 t) f.1)
with_arguments t (Ok l) y = refl
with_arguments t (Err e) y = refl

new_read : (r : Answer Token) (x : Place → Answer (List GenericArg)) (y : Place → Answer (Option Token))
    → (r >>= λ t. (x t.1 >>= λ l. y l.1 >>= λ u. put (spec.component_line (Some l.0) u.0) u.1) >>= λ f. put (f.0 t.0) f.1)
    ≡ (r >>= λ t. x t.1 >>= λ l. (y l.1 >>= λ u. put (spec.component_line (Some l.0) u.0) u.1) >>= λ f. put (f.0 t.0) f.1)
new_read (Ok t) x y = with_arguments t.0 (x t.1) y
new_read (Err e) x y = refl

pub new_component_is : (d : ℕ) (names : Names) (ts : List Token) → form_in d spec.new_component names ts ≡ reads.new_component d names ts
unfolding read
new_component_is d names ts = new_read (form_in d parts.new_name names ts) (λ q. read_at d spec.generic_arguments q) (λ q. read_at d spec.alias q)

-- ---- wires

module _ (d : ℕ) (room : 0 < d) (names : Names) (ts : List Token) where
  bracket_begins : (x : Sort) → (x ≡ s.LBracket → ⊥) → starts parts.found_bracket x ≡ false
  bracket_begins s.LBracket h = absurd (h refl)
  bracket_begins s.End h = refl
  bracket_begins _ h = refl

  pub bracket_case : ahead names ts ≡ s.LBracket → form_in d parts.end_bracket names ts ≡ form_in d parts.found_bracket names ts
  bracket_case h = maybe_is d parts.found_bracket None (place names ts) room ∙ rw h refl

  pub no_bracket : (ahead names ts ≡ s.LBracket → ⊥) → form_in d parts.end_bracket names ts ≡ Ok (None, place names ts)
  no_bracket h = maybe_is d parts.found_bracket None (place names ts) room ∙ rw (bracket_begins (ahead names ts) h) refl

ended : (t : Token) (r : Answer (Option Token)) (y : Place → Answer (Option Operand))
    → ((r >>= λ u. y u.1 >>= λ p. put (spec.end_of u.0 p.0) p.1) >>= λ f. put (f.0 t) f.1) ≡ (r >>= λ u. y u.1 >>= λ p. put (spec.end_of u.0 p.0 t) p.1)
ended t (Err e) y = refl
ended t (Ok u) y = with_bracket t u.0 (y u.1) where
  with_bracket : (t : Token) (u : Option Token) (r : Answer (Option Operand)) → ((r >>= λ p. put (spec.end_of u p.0) p.1) >>= λ f. put (f.0 t) f.1) ≡ (r >>= λ p. put (spec.end_of u p.0 t) p.1)
  with_bracket t u (Ok p) = refl
  with_bracket t u (Err e) = refl

pub end_rest_is : (d : ℕ) (t : Token) (names : Names) (ts : List Token) → form_in d (grammar.applied t spec.end_rest) names ts ≡ reads.end_rest d t names ts
unfolding read
end_rest_is d t names ts = ended t (form_in d parts.second_name names ts) (λ q. read_at d parts.end_bracket q)

abbrev made : Sort → WireEnd → WireEnd → Pos → ConfLine
made z y x at = spec.joined z x y at

second_read : (z : Sort) (r : Answer WireEnd) → (r >>= λ y. put (made z y.0) y.1) ≡ ((r >>= λ y. put y.0 y.1) >>= λ y. put (made z y.0) y.1)
second_read z (Ok y) = refl
second_read z (Err e) = refl

joint_read : (z : Sort) (r : Answer Token) (y : Place → Answer WireEnd) → (r >>= λ o. y o.1 >>= λ y. put (made z y.0) y.1) ≡ ((r >>= λ o. y o.1 >>= λ y. put y.0 y.1) >>= λ y. put (made z y.0) y.1)
joint_read z (Ok o) y = second_read z (y o.1)
joint_read z (Err e) y = refl

joints : (d : ℕ) (z : Sort) (q : Place) (c : Bool)
    → read_at d (grammar.when c (Form.seq (λ _ y x at. spec.joined z x y at) (grammar.one z) parts.last_end)) q ≡ changed (made z) (read_at d (grammar.when c (grammar.behind (grammar.one z) parts.last_end)) q)
unfolding read
joints d z q true = joint_read z (read_at d (grammar.one z) q) (λ p. read_at d parts.last_end p)
joints d z q false = refl

joint_is : (d : ℕ) (z : Sort) (q : Place) → read_at d (spec.joint_of z) q ≡ changed (made z) (read_at d (parts.behind_joint z) q)
joint_is d z q = joints d z q (spec.is_joint z)

abbrev wired : (Token → WireEnd) → (WireEnd → Pos → ConfLine) → Token → List ConfLine
wired f g t = g (f t) t.pos ∷ []

both_read : (t : Token) (f : Token → WireEnd) (z : Sort) (r : Answer WireEnd)
    → ((changed (made z) r >>= λ g. put (wired f g.0) g.1) >>= λ k. put (k.0 t) k.1) ≡ (r >>= λ y. put (spec.joined z (f t) y.0 t.pos ∷ []) y.1)
both_read t f z (Ok y) = refl
both_read t f z (Err e) = refl

first_read : (t : Token) (r : Answer (Token → WireEnd)) (j : Place → Answer (WireEnd → Pos → ConfLine)) (y : Place → Answer WireEnd) (same : (q : Place) → j q ≡ changed (made (next q)) (y q))
    → ((r >>= λ f. j f.1 >>= λ g. put (wired f.0 g.0) g.1) >>= λ k. put (k.0 t) k.1) ≡ ((r >>= λ f. put (f.0 t) f.1) >>= λ x. y x.1 >>= λ y. put (spec.joined (next x.1) x.0 y.0 t.pos ∷ []) y.1)
first_read t (Ok f) j y same = ap (λ (x : Answer (WireEnd → Pos → ConfLine)). (x >>= λ g. put (wired f.0 g.0) g.1) >>= λ k. put (k.0 t) k.1) (same f.1) ∙ both_read t f.0 (next f.1) (y f.1)
first_read t (Err e) j y same = refl

pub wire_is : (d : ℕ) → 0 < d → (t : Token) (names : Names) (ts : List Token) → form_in d (grammar.applied t spec.wire_rest) names ts ≡ reads.wire d t names ts
unfolding read
wire_is d room t names ts =
    first_read t (form_in d spec.end_rest names ts) (λ q. read_at d (Form.by spec.joint_of) q) (λ q. read_at d (parts.behind_joint (next q)) q)
    (λ q. by_is d spec.joint_of q room ∙ joint_is d (next q) q)

-- ---- lines that begin with a type name

abbrev plain_named : Token → CastType
plain_named t = grammar.plain (b.Named t.text) 0 t.pos

abbrev qualified_by : Token → Qualifiers → CastType
qualified_by t q = grammar.type_of grammar.no_qualifiers (plain_named t) q

begins_named : (names : Names) (ts : List Token) (t : Token) (q : Place) → pass s.TypeName (λ u. u) names ts ≡ Ok (t, q) → ahead names ts ≡ s.TypeName
begins_named names [] t q e = absurd cc
begins_named names (u ∷ us) t q e = by (same_sort s.TypeName (sort names u)) refl e where
  by : (c : Bool) → same_sort s.TypeName (sort names u) ≡ c → ◌≡◌ {A = Answer Token} (cond c (put u (place names us)) (Err (Syntax (u ∷ us)))) (Ok (t, q)) → sort names u ≡ s.TypeName
  by true h k = sym (same_is s.TypeName (sort names u) h)
  by false h k = absurd cc

unqualified : (d : ℕ) (p : Place) → next p ≡ s.TypeName → read_at d grammar.qualifiers p ≡ put grammar.no_qualifiers p
unfolding read
unqualified d p h = rw h refl

abbrev typed_with : CastType → Qualifiers → Qualifiers → CastType
typed_with t second first = grammar.type_of first t second

behind_base : (t : Token) (r : Answer Qualifiers) → ((r >>= λ q. put (typed_with (plain_named t) q.0) q.1) >>= λ f. put (f.0 grammar.no_qualifiers) f.1) ≡ (r >>= λ q. put (qualified_by t q.0) q.1)
behind_base t (Ok q) = refl
behind_base t (Err e) = refl

with_base : (t : Token) (q : Place) (r : Answer Token) (y : Place → Answer Qualifiers) → r ≡ Ok (t, q)
    → (((r >>= λ u. put (plain_named u.0) u.1) >>= λ k. y k.1 >>= λ q. put (typed_with k.0 q.0) q.1) >>= λ f. put (f.0 grammar.no_qualifiers) f.1) ≡ (y q >>= λ q. put (qualified_by t q.0) q.1)
with_base t q r y e = rw e (behind_base t (y q))

abbrev ended_line : Qualifiers → Token → List ConfLine
ended_line q u = spec.type_line (qualified_by u q)

closed : (t : Token) (r : Answer Qualifiers) (y : Place → Answer Token)
    → ((r >>= λ q. y q.1 >>= λ o. put (ended_line q.0) o.1) >>= λ f. put (f.0 t) f.1) ≡ ((r >>= λ q. put (qualified_by t q.0) q.1) >>= λ x. y x.1 >>= λ o. put (spec.type_line x.0) o.1)
closed t (Err e) y = refl
closed t (Ok q) y = by (y q.1) where
  by : (r : Answer Token) → ((r >>= λ o. put (ended_line q.0) o.1) >>= λ f. put (f.0 t) f.1) ≡ (r >>= λ o. put (spec.type_line (qualified_by t q.0)) o.1)
  by (Ok o) = refl
  by (Err e) = refl

begun : {A : Type 0} (t : Token) (q : Place) (r : Answer Token) (y : Place → Answer (Token → A)) → r ≡ Ok (t, q) → (r >>= λ u. y u.1 >>= λ f. put (f.0 u.0) f.1) ≡ (y q >>= λ f. put (f.0 t) f.1)
begun t q r y e = rw e refl

module _ (d : ℕ) (room : 0 < d) (names : Names) (ts : List Token) (t : Token) (us : List Token) (first : pass s.TypeName (λ u. u) names ts ≡ Ok (t, place names us)) where
  named_ahead : ahead names ts ≡ s.TypeName
  named_ahead = begins_named names ts t (place names us) first

  e : form_in d (grammar.one s.TypeName) names ts ≡ Ok (t, place names us)
  unfolding read
  e = first

  base_is : read_at d grammar.base (place names ts) ≡ read_at d grammar.named_base (place names ts)
  base_is = by_is d grammar.base_of (place names ts) room ∙ ap (λ (x : Sort). read_at d (grammar.base_of x) (place names ts)) named_ahead

  type_is : form_in d grammar.type_form names ts ≡ (read_at d grammar.qualifiers (place names us) >>= λ q. put (qualified_by t q.0) q.1)
  unfolding read
  type_is =
      ap (λ (r : Answer Qualifiers). r >>= λ a. read_at d grammar.qualified a.1 >>= λ f. put (f.0 a.0) f.1) (unqualified d (place names ts) named_ahead)
      ∙ (ap (λ (r : Answer CastType). (r >>= λ k. read_at d grammar.qualifiers k.1 >>= λ q. put (typed_with k.0 q.0) q.1) >>= λ f. put (f.0 grammar.no_qualifiers) f.1) base_is
      ∙ with_base t (place names us) (form_in d (grammar.one s.TypeName) names ts) (λ q. read_at d grammar.qualifiers q) e)

  behind_name : form_in d parts.type_name_line names ts ≡ (read_at d (spec.behind_type_name (ahead names us)) (place names us) >>= λ f. put (f.0 t) f.1)
  unfolding read
  behind_name =
      begun t (place names us) (form_in d (grammar.one s.TypeName) names ts) (λ q. read_at d (Form.by spec.behind_type_name) q) e
      ∙ ap (λ (r : Answer (Token → List ConfLine)). r >>= λ f. put (f.0 t) f.1) (by_is d spec.behind_type_name (place names us) room)

  closes : (x : Sort) → parts.ends_type x ≡ true → (read_at d (spec.behind_type_name x) (place names us) >>= λ f. put (f.0 t) f.1) ≡ (read_at d spec.named_type (place names us) >>= λ f. put (f.0 t) f.1)
  closes s.Semi h = refl
  closes s.Qualifier h = refl
  closes _ h = absurd cc

  type_alone_is : (read_at d spec.named_type (place names us) >>= λ f. put (f.0 t) f.1) ≡ form_in d parts.type_alone names ts
  unfolding read
  type_alone_is =
      closed t (read_at d grammar.qualifiers (place names us)) (λ q. read_at d (grammar.one s.Semi) q)
      ∙ ap (λ (r : Answer CastType). r >>= λ x. read_at d (grammar.one s.Semi) x.1 >>= λ o. put (spec.type_line x.0) o.1) (sym type_is)

  pub type_case : parts.ends_type (ahead names us) ≡ true → form_in d parts.type_name_line names ts ≡ form_in d parts.type_alone names ts
  type_case h = behind_name ∙ (closes (ahead names us) h ∙ type_alone_is)

  went_on : (x : Sort) → parts.goes_on_wire x ≡ true → (read_at d (spec.behind_type_name x) (place names us) >>= λ f. put (f.0 t) f.1) ≡ form_in d (grammar.applied t spec.wire_rest) names us
  unfolding read
  went_on s.Dot h = refl
  went_on s.LBracket h = refl
  went_on s.Arrow h = refl
  went_on s.BackArrow h = refl
  went_on s.Assign h = refl
  went_on _ h = absurd cc

  pub wire_case : parts.goes_on_wire (ahead names us) ≡ true → form_in d parts.type_name_line names ts ≡ form_in d (grammar.applied t spec.wire_rest) names us
  wire_case h = behind_name ∙ went_on (ahead names us) h

  refused : (x : Sort) → parts.ends_type x ≡ false → parts.goes_on_wire x ≡ false → (read_at d (spec.behind_type_name x) (place names us) >>= λ f. put (f.0 t) f.1) ≡ Err (Syntax us)
  unfolding read
  refused s.Semi h k = absurd cc
  refused s.Qualifier h k = absurd cc
  refused s.Dot h k = absurd cc
  refused s.LBracket h k = absurd cc
  refused s.Arrow h k = absurd cc
  refused s.BackArrow h k = absurd cc
  refused s.Assign h k = absurd cc
  refused _ h k = refl

  pub neither_case : parts.ends_type (ahead names us) ≡ false → parts.goes_on_wire (ahead names us) ≡ false → form_in d parts.type_name_line names ts ≡ Err (Syntax us)
  neither_case h k = behind_name ∙ refused (ahead names us) h k

-- ---- lines

module _ (d : ℕ) (names : Names) (ts : List Token) where
  pub components_case : (x : Sort) → x ≡ s.Components → form_in d (spec.line_of x) names ts ≡ form_in d spec.components_line names ts
  components_case x h = rw h refl

  pub word_case : (x : Sort) → x ≡ s.Word → form_in d (spec.line_of x) names ts ≡ form_in d parts.word_line names ts
  word_case x h = rw h refl

  pub type_name_case : (x : Sort) → x ≡ s.TypeName → form_in d (spec.line_of x) names ts ≡ form_in d parts.type_name_line names ts
  type_name_case x h = rw h refl

  pub typedef_case : (x : Sort) → x ≡ s.Typedef → form_in d (spec.line_of x) names ts ≡ form_in d parts.typedef_line names ts
  typedef_case x h = rw h refl

  pub type_line_case : (x : Sort) → begins_type x ≡ true → (x ≡ s.TypeName → ⊥) → form_in d (spec.line_of x) names ts ≡ form_in d parts.type_alone names ts
  type_line_case s.TypeName h k = absurd (k refl)
  type_line_case s.Qualifier h k = refl
  type_line_case s.Void h k = refl
  type_line_case s.Signedness h k = refl
  type_line_case s.CharType h k = refl
  type_line_case s.Length h k = refl
  type_line_case s.Int h k = refl
  type_line_case s.Struct h k = refl
  type_line_case s.Enum h k = refl
  type_line_case _ h k = absurd cc

  pub no_case : (x : Sort) → begins_type x ≡ false → (x ≡ s.Components → ⊥) → (x ≡ s.Word → ⊥) → (x ≡ s.Typedef → ⊥) → form_in d (spec.line_of x) names ts ≡ Err (Syntax ts)
  unfolding read
  no_case s.Components h i j k = absurd (i refl)
  no_case s.Word h i j k = absurd (j refl)
  no_case s.Typedef h i j k = absurd (k refl)
  no_case s.TypeName h i j k = absurd cc
  no_case s.Qualifier h i j k = absurd cc
  no_case s.Void h i j k = absurd cc
  no_case s.Signedness h i j k = absurd cc
  no_case s.CharType h i j k = absurd cc
  no_case s.Length h i j k = absurd cc
  no_case s.Int h i j k = absurd cc
  no_case s.Struct h i j k = absurd cc
  no_case s.Enum h i j k = absurd cc
  no_case _ h i j k = refl

a_line : (n : ℕ) (names : Names) (ts : List Token) → line_in (suc n) names ts ≡ form_in n (Form.by spec.line_of) names ts
unfolding phrase
a_line n names ts = refl

pub line_gives : (d : ℕ) (before after : Names) (ts : List Token) (r : Found (List ConfLine)) (x : Sort) → x ≡ ahead before ts → 1 < d → Gives after r (form_in (d - 1) (spec.line_of x) before ts) → Gives after r (line_in d before ts)
line_gives zero before after ts r x h l g = absurd (omega arith)
line_gives (suc n) before after ts r x h l g =
    let e : suc n - 1 ≡ n = omega arith in
    let k : Gives after r (form_in n (spec.line_of x) before ts) = subst (λ (m : ℕ). Gives after r (form_in m (spec.line_of x) before ts)) e g in
    subst (Gives after r) (sym (a_line n before ts ∙ by_is n spec.line_of (place before ts) (omega arith))) (subst (λ (y : Sort). Gives after r (form_in n (spec.line_of y) before ts)) h k)

-- ---- lists whose parts are read one by one

pub arguments_fine : Fine parts.some_arguments
arguments_fine = checked parts.some_arguments refl

pub components_fine : Fine parts.some_components
components_fine = checked parts.some_components refl

pub lines_fine : Fine parts.some_lines
lines_fine = checked parts.some_lines refl
