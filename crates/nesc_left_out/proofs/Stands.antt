-- Whether a token could stand behind what was read, from how reading it ends.
use Rattle.std.proofs.Common.{◌≡◌, ℕ, suc, Bool, true, List, [], ◌∷◌, ◌++◌, Option, Some, None, Result, Ok, Err, IfOk, ap, ◌∙◌, inl, inr, false}
use Rattle.nm_base.specs.declared.token.Token.{Token}
use Rattle.nm_base.specs.declared.no_memory.NoMemory.{NoMemory}
use Rattle.nesc_tree.specs.Sorts.{Names}
use Rattle.nesc_tree.specs.Phrase.{Phrase, fits_one_level}
use Rattle.nesc_tree.specs.Reading.{Answer}
use Rattle.nesc_grammar.specs.Laws.{answer}
use Rattle.nesc_grammar.specs.Reach.{Begins, BeginsIn}
use Rattle.nesc_parse_types.specs.Gives.{Found, Gives}
use Rattle.nm_base.specs.declared.refusal.Left.{Left}
use Rattle.nesc_left_out.specs.Left.{row, comma_row, IsListed}
use Rattle.nesc_left_out.specs.Probes.{is_ended, Tells, TellsRow, TellsForm}
use Rattle.nesc_left_out.proofs.Told.{tells}

pub ended : {T : Type 0} (names : Names) (found : Found T) (y : Answer T) (r : Result Bool NoMemory) → IfOk r (λ b. (ns : Names) (z : Answer T) → Gives ns found z → b ≡ is_ended z) → Gives names found y → IfOk r (λ b. b ≡ is_ended y)
ended names found y (Ok b) h g = h names y g
ended names found y (Err e) h g = tt

module _ (d : ℕ) (k : Phrase) (one : fits_one_level k ≡ true) where
  pub stands : (names : Names) (before us : List Token) (probe t : Token) (r : Result Bool NoMemory) → BeginsIn (suc d) k names before
      → us ≡ before ++ (probe ∷ []) → probe ≡ t → IfOk r (λ b. b ≡ is_ended (answer (suc d) k names us)) → IfOk r (Tells (Begins k names (before ++ (t ∷ []))))
  stands names before us probe t (Ok b) g e p h = tells d k one names before t g b (h ∙ ap (λ (vs : List Token). is_ended (answer (suc d) k names vs)) (e ∙ ap (λ (u : Token). before ++ (u ∷ [])) p))
  stands names before us probe t (Err x) g e p h = tt

-- the last two of three, where the first is so
pub last_two : (A B C : Type 0) (b : Bool) (r : Result Bool NoMemory) → b ≡ true → Tells A b → IfOk r (Tells (B × C)) → IfOk r (Tells (A × B × C))
last_two A B C true (Ok true) e a h = (a, h.0, h.1)
last_two A B C true (Ok false) e a h = λ x. h (x.1, x.2)
last_two A B C true (Err x) e a h = tt
last_two A B C false r e a h = absurd cc

-- which of the two rows of a token is meant
module _ (k : Phrase) (names : Names) (before : List Token) (t : Token) where
  pub by_second : (x : Option Left) → TellsRow k names before (row t) None → TellsRow k names before (comma_row t) x → TellsForm k names before t x
  by_second (Some word) first h = (h.0, inr h.1, h.2)
  by_second None first h =
      λ word place listed meant.
      let by : IsListed t word place → ⊥ = elim [ inl e ↦ first word place e meant | inr e ↦ h word place e meant ] in
      by listed

  pub by_second_answer : (r : Result (Option Left) NoMemory) → TellsRow k names before (row t) None → IfOk r (TellsRow k names before (comma_row t)) → IfOk r (TellsForm k names before t)
  by_second_answer (Ok x) first h = by_second x first h
  by_second_answer (Err e) first h = tt
