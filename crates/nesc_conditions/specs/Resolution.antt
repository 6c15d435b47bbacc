-- What becomes of each `defined` of a line (C99 6.10.1), as equations.
use Rattle.std.specs.Prelude.{◌≡◌, true, false, List, [], ◌∷◌, codes, Option, Some, None}
use Rattle.std.specs.Option.{option_map}
use Rattle.nm_base.specs.declared.token.Token.{Token}
use Rattle.nesc_macros.specs.declared.definition.Macro.{Macro}
use Rattle.nesc_macros.specs.Invocation.{is_word, is_sign}
use Rattle.nesc_conditions.specs.Resolved.{told, names_macro, is_defined, resolved}

abbrev pub before : Token → Option (List Token) → Option (List Token)
before t = option_map (λ ts. t ∷ ts)

pub record Resolution (macros : List Macro) : Type 0 where
  pub nothing : resolved macros [] ≡ Some []
  pub other_token : (t : Token) (ts : List Token) → is_defined t ≡ false → resolved macros (t ∷ ts) ≡ before t (resolved macros ts)
  pub name : (d x : Token) (ts : List Token) → is_defined d ≡ true → is_word x ≡ true → resolved macros (d ∷ x ∷ ts) ≡ before (told d.pos (names_macro macros x)) (resolved macros ts)
  pub name_in_parentheses :
      (d open-sign x close : Token) (ts : List Token) →
      is_defined d ≡ true →
      is_sign (codes "(") open-sign ≡ true →
      is_word x ≡ true →
      is_sign (codes ")") close ≡ true →
      resolved macros (d ∷ open-sign ∷ x ∷ close ∷ ts) ≡ before (told d.pos (names_macro macros x)) (resolved macros ts)
  pub no_token : (d : Token) → is_defined d ≡ true → resolved macros (d ∷ []) ≡ None
  pub no_name : (d x : Token) (ts : List Token) → is_defined d ≡ true → is_word x ≡ false → is_sign (codes "(") x ≡ false → resolved macros (d ∷ x ∷ ts) ≡ None
  pub no_name_in_parentheses :
      (d open-sign x : Token) (ts : List Token) → is_defined d ≡ true → is_sign (codes "(") open-sign ≡ true → is_word x ≡ false → resolved macros (d ∷ open-sign ∷ x ∷ ts) ≡ None
  pub not_closed :
      (d open-sign x close : Token) (ts : List Token) → is_defined d ≡ true → is_sign (codes "(") open-sign ≡ true → is_sign (codes ")") close ≡ false → resolved macros (d ∷ open-sign ∷ x ∷ close ∷ ts) ≡ None
