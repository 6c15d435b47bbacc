-- Forms read part by part, and the form that a parameter begins.
use Rattle.std.proofs.Common.{◌≡◌, ◌<◌, ℕ, zero, suc, Bool, true, false, cond, List, [], ◌∷◌, length, Option, Some, None, Ok, Err, refl, sym, ap, subst, ◌∙◌, arith}
use Rattle.nm_base.specs.declared.token.Token.{Token}
use Rattle.nesc_tree.specs.declared.sorts.Sort.{Sort}
use Rattle.nesc_tree.specs.declared.sorts.Sort.TheVariants as s
use Rattle.nesc_tree.specs.declared.operand.CastType.{CastType}
use Rattle.nesc_tree.specs.declared.tree.Expr.{Expr}
use Rattle.nesc_tree.specs.declared.tree.Param.{Param}
use Rattle.nesc_tree.specs.Sorts.{Names, ahead}
use Rattle.nesc_tree.specs.Phrase.{begins_type}
use Rattle.nesc_tree.specs.Plain as plain
use Rattle.nesc_tree.specs.Form.{Form, Place, next, starts}
use Rattle.nesc_tree.specs.Reading.{Fault, Syntax, Deep, Answer, read, phrase, stop, guarded, nests, ◌>>=◌}
use Rattle.nesc_grammar.specs.Grammar as grammar
use Rattle.nesc_grammar.specs.Declarations as spec
use Rattle.nesc_grammar.specs.Production.{production}
use Rattle.std.specs.Result.{IsErr, IsErrAnd}
use Rattle.nesc_parse_types.specs.declared.stop.Stop.{Stop}
use Rattle.nesc_parse_types.specs.Gives.{Fails, Found, form_in, place}
use Rattle.nesc_heads.specs.Gives.{GivesAs}
use Rattle.nesc_parse_types.proofs.Guards.{open_guard}
use Rattle.nesc_heads.specs.Parts as parts

-- ---- a parameter in its parts

abbrev put : {A : Type 0} → A → Place → Answer A
put a p = Ok (a, p)

abbrev plain_param : ℕ → spec.Parameter → CastType → Param
plain_param n p t = spec.param_of t n p

abbrev text_param : ℕ → parts.Parameter → CastType → Param
text_param n p t = parts.param_of t n p

param_parts : (x : Answer CastType) (y : Place → Answer ℕ) (z : Place → Answer spec.Parameter)
    → (x >>= λ u. (y u.1 >>= λ v. z v.1 >>= λ w. put (plain_param v.0 w.0) w.1) >>= λ f. put (f.0 u.0) f.1) ≡ (x >>= λ u. (y u.1 >>= λ v. (z v.1 >>= λ w. put (parts.texts w.0) w.1) >>= λ w. put (text_param v.0 w.0) w.1) >>= λ f. put (f.0 u.0) f.1)
param_parts (Err e) y z = refl
param_parts (Ok u) y z = stars (y u.1) where
  last : (n : ℕ) (r : Answer spec.Parameter)
      → ((r >>= λ w. put (plain_param n w.0) w.1) >>= λ f. put (f.0 u.0) f.1) ≡ (((r >>= λ w. put (parts.texts w.0) w.1) >>= λ w. put (text_param n w.0) w.1) >>= λ f. put (f.0 u.0) f.1)
  last n (Ok w) = refl
  last n (Err e) = refl

  stars : (r : Answer ℕ)
      → ((r >>= λ v. z v.1 >>= λ w. put (plain_param v.0 w.0) w.1) >>= λ f. put (f.0 u.0) f.1) ≡ ((r >>= λ v. (z v.1 >>= λ w. put (parts.texts w.0) w.1) >>= λ w. put (text_param v.0 w.0) w.1) >>= λ f. put (f.0 u.0) f.1)
  stars (Ok v) = last v.0 (z v.1)
  stars (Err e) = refl

pub param_is : (d : ℕ) (names : Names) (ts : List Token) → form_in d spec.param names ts ≡ form_in d parts.joined_param names ts
unfolding read
param_is d names ts = param_parts (form_in d grammar.type_form names ts) (λ p. read d (phrase production d) grammar.stars p) (λ p. read d (phrase production d) parts.either_parameter p)

-- ---- what is behind its stars

module _ (d : ℕ) (names : Names) (ts : List Token) where
  abbrev no_parameter : spec.Parameter
  no_parameter = (None, [])

  abbrev either : Sort → Answer spec.Parameter
  either x = cond (starts (spec.parameter_of x) x) (guarded d (spec.parameter_of x) (place names ts) (form_in d (spec.parameter_of x) names ts)) (put no_parameter (place names ts))

  worded : (x : Sort) → x ≡ s.Word → either x ≡ form_in d (spec.parameter_of s.Word) names ts
  worded x h = rw h refl

  typed : (x : Sort) → x ≡ s.TypeName → either x ≡ form_in d (spec.parameter_of s.TypeName) names ts
  typed x h = rw h refl

  abbrev with_texts : Answer spec.Parameter → Answer parts.Parameter
  with_texts r = r >>= λ w. put (parts.texts w.0) w.1

  pub word_case : ahead names ts ≡ s.Word → form_in d parts.parameter names ts ≡ form_in d (parts.named_parameter s.Word) names ts
  unfolding read
  word_case h = ap with_texts (worded (ahead names ts) h)

  pub type_name_case : ahead names ts ≡ s.TypeName → form_in d parts.parameter names ts ≡ form_in d (parts.named_parameter s.TypeName) names ts
  unfolding read
  type_name_case h = ap with_texts (typed (ahead names ts) h)

abbrev alone : Expr → spec.Parameter
alone e = (None, e ∷ [])

sized : (r : Answer Expr) → ((r >>= λ u. put (alone u.0) u.1) >>= λ w. put (parts.texts w.0) w.1) ≡ ((r >>= λ u. put (Some u.0) u.1) >>= λ u. put (parts.unnamed u.0) u.1)
sized (Ok u) = refl
sized (Err e) = refl

module _ (names : Names) (ts : List Token) where
  pub unnamed_case : (d : ℕ) (x : Sort) → ahead names ts ≡ x → (x ≡ s.Word → ⊥) → (x ≡ s.TypeName → ⊥) → form_in d parts.parameter names ts ≡ form_in d parts.unnamed_parameter names ts
  unfolding read
  unnamed_case d s.Word e h k = absurd (h refl)
  unnamed_case d s.TypeName e h k = absurd (k refl)
  unnamed_case zero s.LBracket e h k = rw e refl
  unnamed_case (suc d) s.LBracket e h k = rw e (sized (form_in (suc d) spec.dimension names ts))
  unnamed_case d s.End e h k = rw e refl
  unnamed_case d _ e h k = rw e refl

-- ---- lists of parameters

params_begin : (x : Sort) → starts parts.some_params x ≡ begins_type x
params_begin s.End = refl
params_begin _ = refl

module _ (d : ℕ) (names : Names) (ts : List Token) where
  pub params_case : begins_type (ahead names ts) ≡ true → form_in d parts.maybe_params names ts ≡ form_in d parts.some_params names ts
  unfolding read
  params_case h = rw (params_begin (ahead names ts) ∙ h) refl

  pub no_params : begins_type (ahead names ts) ≡ false → form_in d parts.maybe_params names ts ≡ Ok ([], place names ts)
  unfolding read
  no_params h = rw (params_begin (ahead names ts) ∙ h) refl

-- ---- the form that the next token tells, where something may nest
pub by_is : {A : Type 0} (d : ℕ) (f : Sort → Form A) (names : Names) (ts : List Token) → 0 < d → form_in d (Form.by f) names ts ≡ form_in d (f (ahead names ts)) names ts
unfolding read
by_is d f names ts l = open_guard d (f (ahead names ts)) (place names ts) (form_in d (f (ahead names ts)) names ts) l

-- ---- `void` alone

module _ (word : Option (List ℕ)) (base : plain.Base) where
  pub with_stars : (n : ℕ) (l : List Expr) (c : Bool) → 0 < n → spec.is_nothing n l c word base ≡ false
  with_stars zero l c h = absurd (omega arith)
  with_stars (suc n) l c h = refl

  pub with_dims : (l : List Expr) (c : Bool) → 0 < length l → spec.is_nothing zero l c word base ≡ false
  with_dims [] c h = absurd (omega arith)
  with_dims (e ∷ l) c h = refl

pub plainly : (base : plain.Base) → spec.is_nothing zero [] false None base ≡ parts.is_void_base base
plainly plain.void = refl
plainly (plain.int t) = refl
plainly _ = refl

-- what `?` gives back is the callee's refusal
pub through_as : {X Y : Type 0} (shown : X → Y) (names : Names) (r : Found X) (x : Stop) (y : Answer Y) → IsErr r × IsErrAnd r (λ e. e ≡ x) → Fails x y → GivesAs shown names r y
through_as shown names (Ok u) x y k f = let w = k.0 in absurd cc
through_as shown names (Err e) x y k f = subst (λ (v : Stop). Fails v y) (sym k.1) f
