-- Chains from their last body back are chains from their root on.
use Rattle.std.proofs.Common.{◌≡◌, ℕ, ◌++◌, List, [], ◌∷◌, reverse, refl, sym, ap, ◌∙◌, append_assoc}
use Rattle.std.proofs.lemmas.List.{reverse-append}
use Rattle.call_graph.specs.Paths.{IsIn, Leads, IsPath}
use Rattle.least_paths.specs.Backward.{IsBack, EndsAt, turned}

module _ (roots : List ℕ) (steps : ℕ → List ℕ) where
  pub forward : (f : ℕ) (before rest : List ℕ) (g : ℕ) → IsBack roots steps (f ∷ before) → Leads steps f rest g → IsPath roots steps (turned (f ∷ before) rest) g
  forward f [] rest g back leads = (back.0, leads)
  forward f (e ∷ before) rest g back leads = forward e before (f ∷ rest) g back.1 (back.0, leads)

  -- a path as a chain from its last body back
  pub record Back (path : List ℕ) (g : ℕ) : Type 0 where
    pub from : List ℕ
    pub back : IsBack roots steps from
    pub ends : EndsAt g from
    pub is : turned from [] ≡ path

  pub backward : (f : ℕ) (before rest : List ℕ) (g : ℕ) → IsBack roots steps (f ∷ before) → Leads steps f rest g → Back (turned (f ∷ before) rest) g
  backward f before [] g back leads = record { from = f ∷ before; back = back; ends = leads; is = refl }
  backward f before (h ∷ rest) g back leads = backward h (f ∷ before) rest g (leads.0, back) leads.1

  pub back_of : (path : List ℕ) (g : ℕ) → IsPath roots steps path g → Back path g
  back_of [] g h = absurd h
  back_of (f ∷ rest) g h = backward f [] rest g (h.0, tt) h.1

pub turned_is : (xs us : List ℕ) → turned xs us ≡ reverse xs ++ us
turned_is [] us = refl
turned_is (x ∷ xs) us = turned_is xs (x ∷ us) ∙ sym (append_assoc (reverse xs) (x ∷ []) us) ∙ ap (λ l. l ++ us) (sym (reverse-append (x ∷ []) xs))
