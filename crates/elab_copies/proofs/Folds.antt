-- Frozen places that grow by a step.
use Rattle.std.proofs.Common.{◌≡◌, ℕ, ◌+◌, ◌<◌, List, [], ◌∷◌, ◌++◌, length, take, fold, get_or, ap, ◌∙◌, refl}
use Rattle.std.proofs.lemmas.List.{take_more}
use Rattle.nesc_core.specs.Plain.{Place}
use Rattle.elab_meaning.specs.declared.found.Step.{Step}
use Rattle.elab_meaning.specs.View.{step_from}

pub fold-end : (p : Place) (steps : List Step) (s : Step) → fold step_from p (steps ++ (s ∷ [])) ≡ step_from (fold step_from p steps) s
fold-end p [] s = refl
fold-end p (x ∷ xs) s = fold-end (step_from p x) xs s

pub fold-more : (p : Place) (steps : List Step) (i : ℕ) (d : Step) → i < length steps
    → fold step_from p (take (i + 1) steps) ≡ step_from (fold step_from p (take i steps)) (get_or steps i d)
fold-more p steps i d h = ap (λ (xs : List Step). fold step_from p xs) (take_more steps i d h) ∙ fold-end p (take i steps) (get_or steps i d)

pub ruleset folds = (fold-end, fold-more)
