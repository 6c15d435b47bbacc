-- Tokens of which none names a macro expand to themselves.
use Rattle.std.proofs.Common.{◌≡◌, ◌∙◌, ℕ, zero, suc, ◌≤◌, Bool, true, false, List, [], ◌∷◌, length, Option, Some, None, Ok, refl, sym, ap, arith}
use Rattle.std.specs.Prelude.{◌&&◌, ◌||◌, is_some}
use Rattle.std.specs.List.{list_any}
use Rattle.nm_base.specs.declared.token.Token.{Token}
use Rattle.nesc_macros.specs.declared.definition.Macro.{Macro}
use Rattle.nesc_macros.specs.Invocation.{PreprocessingToken, Passes, is_word, macro_of, use_of, used}
use Rattle.nesc_macros.specs.Expansion.{Answer, ExpandsTo, and_then, by_use, expanded, gives, tokens_of, unhidden}
use Rattle.nesc_macros.specs.Code.{is_macro_name}
use Rattle.nesc_macros.proofs.Turns.{expands_to}

abbrev Tokens : Type 0
Tokens = List PreprocessingToken

-- ---- one token

abbrev plain : Token → PreprocessingToken
plain t = record { token = t; hide_set = [] }

unused : (word : Bool) (found : Option Macro) (rest : Tokens) → (word && is_some found) ≡ false → used (word && true) found rest ≡ Passes
unused false found rest none = refl
unused true None rest none = refl
unused true (Some m) rest none = absurd cc

passes : (macros : List Macro) (t : Token) (rest : Tokens) → is_macro_name macros t ≡ false → use_of macros (plain t) rest ≡ Passes
passes macros t rest none = unused (is_word t) (macro_of macros t.text) rest none

-- ---- all tokens

neither : (a b : Bool) → (a || b) ≡ false → (a ≡ false) × (b ≡ false)
neither false b none = (refl, none)
neither true b none = absurd cc

all_pass : (macros : List Macro) (count : ℕ) (ts : List Token) → list_any (is_macro_name macros) ts ≡ false → (steps : ℕ) → suc (length ts) ≤ steps → expanded steps macros count (unhidden ts) ≡ Some (record { value = Ok (unhidden ts); count = count })
all_pass macros count ts none zero le = absurd (omega arith)
all_pass macros count [] none (suc steps) le = refl
all_pass macros count (t ∷ ts) none (suc steps) le =
    let both = neither (is_macro_name macros t) (list_any (is_macro_name macros) ts) none in
    ap (by_use (expanded steps macros) count (plain t) (unhidden ts)) (passes macros t (unhidden ts) both.0)
    ∙ ap (λ (o : Option (Answer Tokens)). and_then o (λ others count. gives (plain t ∷ others) count)) (all_pass macros count ts both.1 steps (omega (arith, le)))

shown_again : (ts : List Token) → tokens_of (unhidden ts) ≡ ts
shown_again [] = refl
shown_again (t ∷ ts) = ap (λ (l : List Token). t ∷ l) (shown_again ts)

pub expands_to_itself : (macros : List Macro) (count : ℕ) (ts : List Token) → list_any (is_macro_name macros) ts ≡ false → ExpandsTo macros count ts (record { value = Ok ts; count = count })
expands_to_itself macros count ts none = expands_to macros count count ts (unhidden ts) ts (sym (shown_again ts)) (suc (length ts), all_pass macros count ts none)
