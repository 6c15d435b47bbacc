-- The equations of `defined`.
use Rattle.std.proofs.Common.{◌≡◌, Bool, true, false, cond, List, [], ◌∷◌, ◌++◌, codes, refl, ap, ◌∙◌, inl, inr, Option, Some, None}
use Rattle.std.proofs.lemmas.Bool.{cases_Bool}
use Rattle.std.specs.Option.{option_map}
use Rattle.nm_base.specs.declared.token.Kind.{Kind}
use Rattle.nm_base.specs.declared.token.Kind.TheVariants.{Word, Number, Char, Text, Sign}
use Rattle.nm_base.specs.declared.pos.Pos.{Pos}
use Rattle.nm_base.specs.declared.token.Token.{Token}
use Rattle.nesc_macros.specs.declared.definition.Macro.{Macro}
use Rattle.nesc_macros.specs.Invocation.{Name, same_name, is_word, is_sign}
use Rattle.nesc_conditions.specs.declared.defined.Seen.TheVariants.{Defined, Opened, Named}
use Rattle.nesc_conditions.specs.declared.defined.Step.{Step}
use Rattle.nesc_conditions.specs.Resolved.{told, names_macro, is_defined, silent, plain, put_out, resolved, resolved_behind}
use Rattle.nesc_conditions.specs.Resolution.{before, Resolution}

kind_is_no_word : (k : Kind) (b : Bool) → elim k [ Sign ↦ b | _ ↦ false ] ≡ true → elim k [ Word ↦ true | _ ↦ false ] ≡ false
kind_is_no_word Word b e = absurd (cc)
kind_is_no_word Number b e = refl
kind_is_no_word Char b e = refl
kind_is_no_word Text b e = refl
kind_is_no_word Sign b e = refl

sign_is_no_word : (text : Name) (t : Token) → is_sign text t ≡ true → is_word t ≡ false
sign_is_no_word text t e = kind_is_no_word t.kind (same_name t.text text) e

nothing_out : (answer : Option (List Token)) → option_map (λ (ts : List Token). [] ++ ts) answer ≡ answer
nothing_out None = refl
nothing_out (Some ts) = refl

-- ---- one token

-- what comes of a step, with the tokens behind it
step_on : List Macro → List Token → Option Step → Option (List Token)
step_on macros ts step = put_out step (λ seen. resolved_behind macros seen ts)

begins : (macros : List Macro) (d : Token) (ts : List Token) → is_defined d ≡ true → resolved macros (d ∷ ts) ≡ resolved_behind macros (Defined d.pos) ts
unfolding step_on
begins macros d ts e = ap (λ b. step_on macros ts (cond b (silent (Defined d.pos)) (plain d))) e ∙ nothing_out (resolved_behind macros (Defined d.pos) ts)

is_named : (macros : List Macro) (pos : Pos) (x : Token) (ts : List Token) → is_word x ≡ true → resolved_behind macros (Defined pos) (x ∷ ts) ≡ before (told pos (names_macro macros x)) (resolved macros ts)
unfolding step_on
is_named macros pos x ts e = ap (λ b. step_on macros ts (cond b (plain (told pos (names_macro macros x))) (cond (is_sign (codes "(") x) (silent (Opened pos)) None))) e

is_opened : (macros : List Macro) (pos : Pos) (x : Token) (ts : List Token) → is_sign (codes "(") x ≡ true → resolved_behind macros (Defined pos) (x ∷ ts) ≡ resolved_behind macros (Opened pos) ts
unfolding step_on
is_opened macros pos x ts e =
    ap (λ b. step_on macros ts (cond b (plain (told pos (names_macro macros x))) (cond (is_sign (codes "(") x) (silent (Opened pos)) None))) (sign_is_no_word (codes "(") x e)
    ∙ ap (λ b. step_on macros ts (cond b (silent (Opened pos)) None)) e
    ∙ nothing_out (resolved_behind macros (Opened pos) ts)

is_neither : (macros : List Macro) (pos : Pos) (x : Token) (ts : List Token) → is_word x ≡ false → is_sign (codes "(") x ≡ false → resolved_behind macros (Defined pos) (x ∷ ts) ≡ None
unfolding step_on
is_neither macros pos x ts e f =
    ap (λ b. step_on macros ts (cond b (plain (told pos (names_macro macros x))) (cond (is_sign (codes "(") x) (silent (Opened pos)) None))) e
    ∙ ap (λ b. step_on macros ts (cond b (silent (Opened pos)) None)) f

named_inside : (macros : List Macro) (pos : Pos) (x : Token) (ts : List Token) (b : Bool) → is_word x ≡ b → resolved_behind macros (Opened pos) (x ∷ ts) ≡ step_on macros ts (cond b (silent (Named pos (names_macro macros x))) None)
unfolding step_on
named_inside macros pos x ts b e = ap (λ b. step_on macros ts (cond b (silent (Named pos (names_macro macros x))) None)) e

is_closed : (macros : List Macro) (pos : Pos) (named : Bool) (x : Token) (ts : List Token) (b : Bool) → is_sign (codes ")") x ≡ b → resolved_behind macros (Named pos named) (x ∷ ts) ≡ step_on macros ts (cond b (plain (told pos named)) None)
unfolding step_on
is_closed macros pos named x ts b e = ap (λ b. step_on macros ts (cond b (plain (told pos named)) None)) e

inside : (macros : List Macro) (pos : Pos) (x close : Token) (ts : List Token) (b : Bool) → is_word x ≡ true → is_sign (codes ")") close ≡ b → resolved_behind macros (Opened pos) (x ∷ close ∷ ts) ≡ step_on macros ts (cond b (plain (told pos (names_macro macros x))) None)
unfolding step_on
inside macros pos x close ts b e f =
    named_inside macros pos x (close ∷ ts) true e
    ∙ nothing_out (resolved_behind macros (Named pos (names_macro macros x)) (close ∷ ts))
    ∙ is_closed macros pos (names_macro macros x) close ts b f

unclosed : (macros : List Macro) (pos : Pos) (x close : Token) (ts : List Token) → is_sign (codes ")") close ≡ false → resolved_behind macros (Opened pos) (x ∷ close ∷ ts) ≡ None
unfolding step_on
unclosed macros pos x close ts f = elim (cases_Bool (is_word x)) [
  | inl word ↦ inside macros pos x close ts false word f
  | inr other ↦ named_inside macros pos x (close ∷ ts) false other
]

-- ---- the equations

pub resolution_holds : (macros : List Macro) → Resolution macros
unfolding step_on
resolution_holds macros = record {
  nothing = refl;
  other_token = λ t ts e. ap (λ b. step_on macros ts (cond b (silent (Defined t.pos)) (plain t))) e;
  name = λ d x ts e f. begins macros d (x ∷ ts) e ∙ is_named macros d.pos x ts f;
  name_in_parentheses = λ d o x c ts e f g h. begins macros d (o ∷ x ∷ c ∷ ts) e ∙ is_opened macros d.pos o (x ∷ c ∷ ts) f ∙ inside macros d.pos x c ts true g h;
  no_token = λ d e. begins macros d [] e;
  no_name = λ d x ts e f g. begins macros d (x ∷ ts) e ∙ is_neither macros d.pos x ts f g;
  no_name_in_parentheses = λ d o x ts e f g. begins macros d (o ∷ x ∷ ts) e ∙ is_opened macros d.pos o (x ∷ ts) f ∙ named_inside macros d.pos x ts false g;
  not_closed = λ d o x c ts e f g. begins macros d (o ∷ x ∷ c ∷ ts) e ∙ is_opened macros d.pos o (x ∷ c ∷ ts) f ∙ unclosed macros d.pos x c ts g;
}
