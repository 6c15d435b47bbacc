-- Ways to parts, step by step.
use Rattle.std.proofs.Common.{◌≡◌, ℕ, ◌+◌, ◌<◌, List, [], ◌∷◌, ◌++◌, length, take, fold, get_or, ap, ◌∙◌, refl}
use Rattle.std.proofs.lemmas.List.{take_more}
use Rattle.std.proofs.lemmas.Option.{slice_get-map}
use Rattle.nesc_core.specs.Plain.{Ty}
use Rattle.elab_pieces.specs.declared.parts.Step.{Step}
use Rattle.elab_pieces.specs.Ways.{Way, aim, step_from, stepped}

way-end : (w : Way) (steps : List Step) (s : Step) → fold step_from w (steps ++ (s ∷ [])) ≡ step_from (fold step_from w steps) s
way-end w [] s = refl
way-end w (x ∷ xs) s = way-end (step_from w x) xs s

way-more : (w : Way) (steps : List Step) (i : ℕ) (d : Step) → i < length steps
    → fold step_from w (take (i + 1) steps) ≡ step_from (fold step_from w (take i steps)) (get_or steps i d)
way-more w steps i d h = ap (λ (xs : List Step). fold step_from w xs) (take_more steps i d h) ∙ way-end w (take i steps) (get_or steps i d)

pub aim-more : (w : Way) (t : Ty) (steps : List Step) (i : ℕ) (d : Step) → i < length steps
    → aim (fold step_from w (take (i + 1) steps)) t ≡ stepped (aim (fold step_from w (take i steps)) t) (get_or steps i d)
aim-more w t steps i d h = ap (λ (v : Way). aim v t) (way-more w steps i d h)

-- one step more
pub aim-end : (w : Way) (t : Ty) (steps all : List Step) (s : Step) → all ≡ steps ++ (s ∷ []) → aim (fold step_from w all) t ≡ aim (step_from (fold step_from w steps) s) t
aim-end w t steps all s is = ap (λ (xs : List Step). aim (fold step_from w xs) t) is ∙ ap (λ (v : Way). aim v t) (way-end w steps s)

pub ruleset whole = (aim-more)

pub ruleset tables = (slice_get-map)
