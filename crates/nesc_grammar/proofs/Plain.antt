-- The longest reading chooses at an `else` alone, by computing for each token.
use Rattle.std.proofs.Common.{◌≡◌, ℕ, Bool, true, false, refl}
use Rattle.nesc_tree.specs.declared.sorts.Sort.{Sort}
use Rattle.nesc_tree.specs.declared.sorts.Sort.TheVariants as s
use Rattle.nesc_tree.specs.declared.contexts.Jumps.TheVariants as jumps
use Rattle.nesc_tree.specs.Phrase.{Phrase}
use Rattle.nesc_tree.specs.Sorts.{same_sort}
use Rattle.nesc_tree.specs.Choices.{decides}
use Rattle.nesc_grammar.specs.Grammar.{expression, admits_cast}
use Rattle.nesc_grammar.specs.Production.{production}
use Rattle.nesc_grammar.specs.Laws.{LongestChoosesElse}

expr_chosen : (b : Bool) (least : ℕ) (y : Sort) → decides (expression b least) y ≡ false
expr_chosen true least s.End = refl
expr_chosen true least _ = refl
expr_chosen false least s.End = refl
expr_chosen false least _ = refl

-- what holds at every token but an `else`
abbrev Chosen : Phrase → Type 0
Chosen k = (y : Sort) → same_sort y s.Else ≡ false → decides (production k) y ≡ false

opened_chosen : Chosen Phrase.opened
opened_chosen s.End h = refl
opened_chosen _ h = refl

fields_chosen : Chosen Phrase.fields
fields_chosen s.End h = refl
fields_chosen _ h = refl

pointers_chosen : Chosen Phrase.pointers
pointers_chosen s.End h = refl
pointers_chosen _ h = refl

type_chosen : Chosen Phrase.type
type_chosen s.End h = refl
type_chosen _ h = refl

braces_chosen : Chosen Phrase.braces
braces_chosen s.End h = refl
braces_chosen _ h = refl

local_chosen : Chosen Phrase.local
local_chosen s.End h = refl
local_chosen _ h = refl

stmt_neither_chosen : Chosen (Phrase.stmt jumps.Neither)
stmt_neither_chosen s.Else h = absurd cc
stmt_neither_chosen _ h = refl

stmt_break_chosen : Chosen (Phrase.stmt jumps.Break)
stmt_break_chosen s.Else h = absurd cc
stmt_break_chosen _ h = refl

stmt_both_chosen : Chosen (Phrase.stmt jumps.BreakAndContinue)
stmt_both_chosen s.Else h = absurd cc
stmt_both_chosen _ h = refl

label_neither_chosen : Chosen (Phrase.label jumps.Neither)
label_neither_chosen s.Else h = absurd cc
label_neither_chosen _ h = refl

label_break_chosen : Chosen (Phrase.label jumps.Break)
label_break_chosen s.Else h = absurd cc
label_break_chosen _ h = refl

label_both_chosen : Chosen (Phrase.label jumps.BreakAndContinue)
label_both_chosen s.Else h = absurd cc
label_both_chosen _ h = refl

cases_neither_chosen : Chosen (Phrase.cases jumps.Neither)
cases_neither_chosen s.Else h = absurd cc
cases_neither_chosen _ h = refl

cases_break_chosen : Chosen (Phrase.cases jumps.Break)
cases_break_chosen s.Else h = absurd cc
cases_break_chosen _ h = refl

cases_both_chosen : Chosen (Phrase.cases jumps.BreakAndContinue)
cases_both_chosen s.Else h = absurd cc
cases_both_chosen _ h = refl

pub else_chosen : LongestChoosesElse
else_chosen (Phrase.expr least) o y h = expr_chosen (admits_cast least) least y
else_chosen Phrase.opened o y h = opened_chosen y h
else_chosen Phrase.fields o y h = fields_chosen y h
else_chosen Phrase.pointers o y h = pointers_chosen y h
else_chosen Phrase.type o y h = type_chosen y h
else_chosen Phrase.braces o y h = braces_chosen y h
else_chosen Phrase.local o y h = local_chosen y h
else_chosen (Phrase.stmt jumps.Neither) o y h = stmt_neither_chosen y h
else_chosen (Phrase.stmt jumps.Break) o y h = stmt_break_chosen y h
else_chosen (Phrase.stmt jumps.BreakAndContinue) o y h = stmt_both_chosen y h
else_chosen (Phrase.label jumps.Neither) o y h = label_neither_chosen y h
else_chosen (Phrase.label jumps.Break) o y h = label_break_chosen y h
else_chosen (Phrase.label jumps.BreakAndContinue) o y h = label_both_chosen y h
else_chosen (Phrase.cases jumps.Neither) o y h = cases_neither_chosen y h
else_chosen (Phrase.cases jumps.Break) o y h = cases_break_chosen y h
else_chosen (Phrase.cases jumps.BreakAndContinue) o y h = cases_both_chosen y h
else_chosen _ o y h = absurd cc
