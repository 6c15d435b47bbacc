-- Structs and enums by the token behind their keyword.
use Rattle.std.proofs.Common.{◌≡◌, ℕ, zero, suc, Bool, true, false, List, Option, Some, Ok, Err, refl, ap, ◌∙◌}
use Rattle.nm_base.specs.declared.token.Token.{Token}
use Rattle.nesc_tree.specs.declared.sorts.Sort.{Sort}
use Rattle.nesc_tree.specs.declared.sorts.Sort.TheVariants as s
use Rattle.nesc_tree.specs.declared.operand.CastType.{CastType}
use Rattle.nesc_tree.specs.declared.operand.Fields.{Fields}
use Rattle.nesc_tree.specs.Sorts.{Names, ahead, same_sort}
use Rattle.nesc_tree.specs.Phrase.{Phrase, begins}
use Rattle.nesc_tree.specs.Form.{Form, Place, next, either, starts}
use Rattle.nesc_tree.specs.Reading.{Fault, Syntax, Deep, Answer, read, phrase, pass, stop, short, guarded, ◌>>=◌}
use Rattle.nesc_grammar.specs.Grammar.{applied, one, with, some_fields, struct_of, untagged_struct, tagged_struct, struct_base, enum_of, untagged_enum, tagged_enum, enum_base}
use Rattle.nesc_grammar.specs.Production.{production}
use Rattle.nesc_parse_types.specs.declared.stop.Stop.{Stop}
use Rattle.nesc_parse_types.specs.declared.stop.Stop.TheVariants as rust
use Rattle.nesc_parse_types.specs.Gives.{Fails, form_in, fields_in, place}

brace_begins : (x : Sort) → begins Phrase.fields x ≡ same_sort s.LBrace x
brace_begins s.LBrace = refl
brace_begins _ = refl

or_none : (b : Bool) → either b false ≡ b
or_none true = refl
or_none false = refl

-- ---- the fields behind a tag

once : (x : Answer Fields) → ◌≡◌ {A = Answer (Option Fields)} (◌>>=◌ {B = Option Fields × Place} (◌>>=◌ {B = Fields × Place} x (λ u. Ok (u.0, u.1))) (λ u. Ok (Some u.0, u.1))) (◌>>=◌ {B = Option Fields × Place} x (λ u. Ok (Some u.0, u.1)))
once (Ok u) = refl
once (Err e) = refl

some_fields_in : (d : ℕ) (names : Names) (ts : List Token) → same_sort s.LBrace (ahead names ts) ≡ true
    → form_in d some_fields names ts ≡ ◌>>=◌ {B = Option Fields × Place} (fields_in d names ts) (λ u. Ok (Some u.0, u.1))
unfolding phrase read
some_fields_in zero names ts h = rw (brace_begins (ahead names ts) ∙ h) refl
some_fields_in (suc d) names ts h = rw (brace_begins (ahead names ts) ∙ h) (once (fields_in (suc d) names ts))

is_some : (f : Fields) (p : Place) (x : Answer Fields) → x ≡ Ok (f, p) → ◌≡◌ {A = Answer (Option Fields)} (◌>>=◌ {B = Option Fields × Place} x (λ u. Ok (Some u.0, u.1))) (Ok (Some f, p))
is_some f p x h = rw h refl

is_none : (e : Fault) (x : Answer Fields) → x ≡ Err e → ◌≡◌ {A = Answer (Option Fields)} (◌>>=◌ {B = Option Fields × Place} x (λ u. Ok (Some u.0, u.1))) (Err e)
is_none e x h = rw h refl

pub some_read : (d : ℕ) (names : Names) (ts : List Token) → same_sort s.LBrace (ahead names ts) ≡ true → (f : Fields) (rest : List Token) → fields_in d names ts ≡ Ok (f, place names rest)
    → form_in d some_fields names ts ≡ Ok (Some f, place names rest)
some_read d names ts h f rest e = some_fields_in d names ts h ∙ is_some f (place names rest) (fields_in d names ts) e

pub some_fail : (d : ℕ) (names : Names) (ts : List Token) → same_sort s.LBrace (ahead names ts) ≡ true → (r : Stop) → Fails r (fields_in d names ts) → Fails r (form_in d some_fields names ts)
some_fail d names ts h rust.Memory e = tt
some_fail d names ts h (rust.Syntax us) e = some_fields_in d names ts h ∙ is_none (Syntax us.now) (fields_in d names ts) e
some_fail d names ts h (rust.Deep us) e = some_fields_in d names ts h ∙ is_none (Deep us.now) (fields_in d names ts) e

-- ---- behind the keyword

-- where nothing may nest, the brace is too deep, with a guard before it or without
at_brace : (names : Names) (rest : List Token) (n : ℕ) → guarded n untagged_struct (place names rest) (form_in n untagged_struct names rest) ≡ form_in n untagged_struct names rest
unfolding phrase read
at_brace names rest zero = ap (λ (b : Bool). Err (stop b rest)) (or_none (begins Phrase.fields (ahead names rest)))
at_brace names rest (suc n) = refl

module _ (d : ℕ) (names : Names) (ts rest : List Token) (o : Token) where
  behind_keyword : (x : Sort) (f : Sort → Form (Token → CastType)) → pass x (λ t. t) names ts ≡ Ok (o, place names rest)
      → form_in d (with (one x) (Form.by f)) names ts ≡ (guarded d (f (ahead names rest)) (place names rest) (form_in d (f (ahead names rest)) names rest) >>= λ y. Ok (y.0 o, y.1))
  unfolding read
  behind_keyword x f e = ap (λ (u : Answer Token). u >>= λ v. guarded d (f (next v.1)) v.1 (read d (phrase production d) (f (next v.1)) v.1) >>= λ y. Ok (y.0 v.0, y.1)) e

  deeper : (x : Sort) → guarded d (struct_of x) (place names rest) (form_in d (struct_of x) names rest) ≡ form_in d (struct_of x) names rest
  deeper s.LBrace = at_brace names rest d
  deeper _ = refl

  by_struct : pass s.Struct (λ t. t) names ts ≡ Ok (o, place names rest) → form_in d struct_base names ts ≡ (form_in d (struct_of (ahead names rest)) names rest >>= λ y. Ok (y.0 o, y.1))
  by_struct e = behind_keyword s.Struct struct_of e ∙ ap (λ (x : Answer (Token → CastType)). x >>= λ y. Ok (y.0 o, y.1)) (deeper (ahead names rest))

  braced : (x : Sort) → x ≡ s.LBrace → (form_in d (struct_of x) names rest >>= λ y. Ok (y.0 o, y.1)) ≡ form_in d (applied o untagged_struct) names rest
  unfolding read
  braced x h = rw h refl

  tagged : (x : Sort) → (x ≡ s.LBrace → ⊥) → (form_in d (struct_of x) names rest >>= λ y. Ok (y.0 o, y.1)) ≡ form_in d (applied o tagged_struct) names rest
  unfolding read
  tagged s.LBrace h = absurd (h refl)
  tagged _ h = refl

  pub untagged_case : pass s.Struct (λ t. t) names ts ≡ Ok (o, place names rest) → ahead names rest ≡ s.LBrace → form_in d struct_base names ts ≡ form_in d (applied o untagged_struct) names rest
  untagged_case e h = by_struct e ∙ braced (ahead names rest) h

  pub tagged_case : pass s.Struct (λ t. t) names ts ≡ Ok (o, place names rest) → (ahead names rest ≡ s.LBrace → ⊥) → form_in d struct_base names ts ≡ form_in d (applied o tagged_struct) names rest
  tagged_case e h = by_struct e ∙ tagged (ahead names rest) h

  as_deep : (x : Sort) → guarded d (enum_of x) (place names rest) (form_in d (enum_of x) names rest) ≡ form_in d (enum_of x) names rest
  as_deep s.LBrace = refl
  as_deep _ = refl

  by_enum : pass s.Enum (λ t. t) names ts ≡ Ok (o, place names rest) → form_in d enum_base names ts ≡ (form_in d (enum_of (ahead names rest)) names rest >>= λ y. Ok (y.0 o, y.1))
  by_enum e = behind_keyword s.Enum enum_of e ∙ ap (λ (x : Answer (Token → CastType)). x >>= λ y. Ok (y.0 o, y.1)) (as_deep (ahead names rest))

  braced_enum : (x : Sort) → x ≡ s.LBrace → (form_in d (enum_of x) names rest >>= λ y. Ok (y.0 o, y.1)) ≡ form_in d (applied o untagged_enum) names rest
  unfolding read
  braced_enum x h = rw h refl

  other_enum : (x : Sort) → (x ≡ s.LBrace → ⊥) → (form_in d (enum_of x) names rest >>= λ y. Ok (y.0 o, y.1)) ≡ form_in d (applied o tagged_enum) names rest
  unfolding read
  other_enum s.LBrace h = absurd (h refl)
  other_enum _ h = refl

  pub untagged_enum_case : pass s.Enum (λ t. t) names ts ≡ Ok (o, place names rest) → ahead names rest ≡ s.LBrace → form_in d enum_base names ts ≡ form_in d (applied o untagged_enum) names rest
  untagged_enum_case e h = by_enum e ∙ braced_enum (ahead names rest) h

  pub tagged_enum_case : pass s.Enum (λ t. t) names ts ≡ Ok (o, place names rest) → (ahead names rest ≡ s.LBrace → ⊥) → form_in d enum_base names ts ≡ form_in d (applied o tagged_enum) names rest
  tagged_enum_case e h = by_enum e ∙ other_enum (ahead names rest) h
