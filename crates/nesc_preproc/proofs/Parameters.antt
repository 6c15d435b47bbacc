-- Steps through a parameter list.
use Rattle.std.specs.Prelude.{◌≡◌, List, [], ◌∷◌, ◌++◌}
use Rattle.nm_base.specs.declared.token.Token.{Token}
use Rattle.nesc_macros.specs.Invocation.{Name}
use Rattle.nesc_preproc.specs.declared.definitions.NextParameter.TheVariants.{More}
use Rattle.nesc_preproc.specs.Definitions.{next_parameter, parameters_of}

pub step : (name : Name) (before after seen : List Name) (text : Name) (xs bs ts : List Token) (p s : Token) → xs ≡ p ∷ bs → bs ≡ s ∷ ts → seen ≡ before → next_parameter seen p s ≡ More → text ≡ p.text → after ≡ before ++ text ∷ [] → parameters_of name after ts ≡ parameters_of name before xs
step name before after seen text xs bs ts p s at-p at-s is-seen is-more is-text is-after =
    let m = rw is-seen at is-more in rw (is-after, is-text, at-p, at-s, m)
