-- What a token is under other type names.
use Rattle.std.proofs.Common.{◌≡◌, Bool, true, false, List, [], ◌∷◌, refl, sym, ap, ◌∙◌, ◌⊎◌, inl, inr}
use Rattle.nm_base.specs.declared.token.Token.{Token}
use Rattle.nesc_tree.specs.declared.sorts.Sort.{Sort}
use Rattle.nesc_tree.specs.declared.sorts.Sort.TheVariants as s
use Rattle.nesc_tree.specs.Sorts.{Names, is_type, class, named, sort, ahead}

-- a name, or what is the same under all names
data Kept (x : Sort) : Type 0 where
  word : x ≡ s.Word → Kept x
  same : ((c : Bool) → named x c ≡ x) → Kept x

kept : (x : Sort) → Kept x
kept s.Word = Kept.word refl
kept _ = Kept.same (λ c. refl)

abbrev kind : List Token → Sort
kind [] = s.End
kind (t ∷ ts) = class t

abbrev flag : Names → List Token → Bool
flag ns [] = false
flag ns (t ∷ ts) = is_type ns t.text

told : (ns : Names) (ts : List Token) → ahead ns ts ≡ named (kind ts) (flag ns ts)
unfolding sort
told ns [] = refl
told ns (t ∷ ts) = refl

name_no : (f : Sort → Bool) → f s.Word ≡ false → f s.TypeName ≡ false → (c : Bool) → f (named s.Word c) ≡ false
name_no f w v true = v
name_no f w v false = w

module _ (f : Sort → Bool) (w : f s.Word ≡ false) (v : f s.TypeName ≡ false) (ns ms : Names) where
  word_no : (ts : List Token) → kind ts ≡ s.Word → f (ahead ms ts) ≡ false
  word_no ts h = ap f (told ms ts) ∙ (ap (λ (x : Sort). f (named x (flag ms ts))) h ∙ name_no f w v (flag ms ts))

  -- a token that does not go on under some names does not under others
  pub across : (ts : List Token) → f (ahead ns ts) ≡ false → f (ahead ms ts) ≡ false
  across ts h =
      let by : Kept (kind ts) → f (ahead ms ts) ≡ false = elim [
        | Kept.word e ↦ word_no ts e
        | Kept.same e ↦ ap f (told ms ts ∙ (e (flag ms ts) ∙ sym (told ns ts ∙ e (flag ns ts)))) ∙ h
      ] in
      by (kept (kind ts))

  -- tokens that are alike under some names are so under others, or are names
  pub alike : (ts us : List Token) → ahead ns ts ≡ ahead ns us → (ahead ms ts ≡ ahead ms us) ⊎ (f (ahead ms ts) ≡ false)
  alike ts us h =
      let by : Kept (kind ts) → Kept (kind us) → (ahead ms ts ≡ ahead ms us) ⊎ (f (ahead ms ts) ≡ false) = elim [
        | Kept.word e ↦ λ _. inr (word_no ts e)
        | Kept.same e ↦ elim [
          | Kept.word g ↦ inr (ap f (told ms ts ∙ (e (flag ms ts) ∙ (sym (told ns ts ∙ e (flag ns ts)) ∙ (h ∙ (told ns us ∙ ap (λ (x : Sort). named x (flag ns us)) g))))) ∙ name_no f w v (flag ns us))
          | Kept.same g ↦ inl (told ms ts ∙ (e (flag ms ts) ∙ (sym (told ns ts ∙ e (flag ns ts)) ∙ (h ∙ (told ns us ∙ (g (flag ns us) ∙ sym (told ms us ∙ g (flag ms us))))))))
        ]
      ] in
      by (kept (kind ts)) (kept (kind us))
