-- Work that only added is cut back to what was there before.
use Rattle.std.proofs.Common.{◌≡◌, Bool, true, ℕ, List, [], ◌∷◌, ◌++◌, length, take, Option, Some, None, Ok, ap, sym, subst, refl, ◌∙◌}
use Rattle.std.specs.Prelude.{is_some}
use Rattle.std.proofs.lemmas.List.{length-map, take-map}
use Rattle.nesc_types.specs.Rule.{Rule}
use Rattle.elab_meaning.specs.Elab.{Elab, State}
use Rattle.elab_kept.specs.Grows.{Grows, IsPrefix, OnlyAdds}
use Rattle.elab_attempts.specs.Given.{Says}
use Rattle.elab_attempts.specs.Parts.{cut_to}

pub ruleset lengths = (length-map, take-map)

front : {A : Type 0} (xs more : List A) → take (length xs) (xs ++ more) ≡ xs
front [] more = refl
front {A} (x ∷ xs) more = ap (λ (l : List A). x ∷ l) (front xs more)

prefixed : {A : Type 0} (xs ys : List A) → IsPrefix xs ys → take (length xs) ys ≡ xs
prefixed {A} xs ys h = ap (λ (l : List A). take (length xs) l) h.1 ∙ front xs h.0

pub cut_back : (s t : State) → Grows s t → cut_to s t ≡ s
cut_back s t g =
    rw (prefixed s.names t.names g.names, prefixed s.tags t.tags g.tags, prefixed s.structs t.structs g.structs, prefixed s.locals t.locals g.locals, prefixed s.taken t.taken g.taken, prefixed s.asked t.asked g.asked, g.first_name, g.first_tag) refl

-- behind work that only adds, and is not refused
pub cut_same : {X Y : Type 0} (view : X → Y) (work : Elab Y) (found : Option X) (s t0 t1 : State) → OnlyAdds work → t0 ≡ s → Says view found t1 (work t0) → is_some found ≡ true → cut_to s t1 ≡ s
cut_same view work (Some x) s t0 t1 adds same says h = cut_back s t1 (adds s t1 (view x) (subst (λ (u : State). work u ≡ Ok (view x, t1)) same says))
cut_same view work None s t0 t1 adds same says h = absurd cc
