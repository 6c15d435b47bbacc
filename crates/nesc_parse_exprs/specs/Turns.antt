-- Turns of repetitions, and what goes on an expression.
use Rattle.std.specs.Prelude.{◌≡◌, ℕ, Bool, List, Ok, Err}
use Rattle.nm_base.specs.declared.token.Token.{Token}
use Rattle.nesc_tree.specs.declared.operand.Operand.{Operand}
use Rattle.nesc_tree.specs.declared.sorts.Sort.{Sort}
use Rattle.nesc_tree.specs.Sorts.{Names}
use Rattle.nesc_tree.specs.Form.{Form, goes}
use Rattle.nesc_tree.specs.Reading.{Deep, Answer, read, phrase, turns, guarded, ◌>>=◌}
use Rattle.nesc_grammar.specs.Grammar.{map, grown, operation, may, fits}
use Rattle.nesc_grammar.specs.Production.{production}
use Rattle.nesc_parse_types.specs.Gives.{Found, Gives, form_in, place}

-- a turn that goes on from the value
abbrev pub turn_in : {A : Type 0} → ℕ → Form (A → A) → A → Names → List Token → Answer A
turn_in spare g a names ts = guarded spare g (place names ts) (form_in spare g names ts) >>= λ x. Ok (x.0 a, x.1)

-- turns from the value on
abbrev pub turns_in : {A : Type 0} → ℕ → (A → Sort → Bool) → (A → ℕ) → (Sort → Form (A → A)) → ℕ → A → Names → List Token → Answer A
turns_in spare go weight body n a names ts = turns spare go weight (λ x q. guarded spare (body x) q (read spare (phrase production spare) (body x) q)) n a (place names ts)

-- what goes on an expression of at least this level
abbrev pub climb_in : ℕ → ℕ → ℕ → Names → Operand → List Token → Answer Operand
climb_in spare least n names left ts = turns_in spare (goes (may least) fits) (λ a. a.height) (λ x. map grown (operation x)) n left names ts
