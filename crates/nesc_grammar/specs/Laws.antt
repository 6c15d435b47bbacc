-- What is proved of the grammar and of reading by it.
use Rattle.std.specs.Prelude.{◌≡◌, ℕ, suc, Bool, List, [], ◌∷◌, ◌++◌, Ok, Err, true, false}
use Rattle.nm_base.specs.declared.token.Token.{Token}
use Rattle.nesc_tree.specs.declared.sorts.Sort.{Sort}
use Rattle.nesc_tree.specs.declared.sorts.Sort.TheVariants as s
use Rattle.nesc_tree.specs.Sorts.{Names, same_sort}
use Rattle.nesc_tree.specs.Choices.{decides}
use Rattle.nesc_tree.specs.Phrase.{Phrase, Of, fits_one_level}
pub use Rattle.nesc_tree.specs.Reading.{left_by}
use Rattle.nesc_tree.specs.Reading.{Syntax, Deep, Answer, phrase}
use Rattle.nesc_grammar.specs.Production.{production}
use Rattle.nesc_grammar.specs.Reach.{SpelledIn, Spelled, BeginsIn, Begins, IsReach, IsTooDeep}

abbrev pub answer : ℕ → (k : Phrase) → Names → List Token → Answer (Of k)
answer levels k names ts = phrase production levels k (record { names = names; rest = ts })

-- what an answer says of the tokens before the place where reading stops
abbrev pub Reached : ℕ → (k : Phrase) → Names → List Token → Answer (Of k) → Type 0
Reached levels k names before (Ok x) = IsReach k names before x.1.rest × SpelledIn levels k names x.0 before
Reached levels k names before (Err (Syntax rest)) = IsReach k names before rest × BeginsIn levels k names before × ((tree : Of k) → Spelled k names tree before → ⊥)
Reached levels k names before (Err (Deep rest)) = IsTooDeep levels k names before rest

abbrev pub ReadsTheReach : Type 0
ReadsTheReach = (d : ℕ) (k : Phrase) → fits_one_level k ≡ true → (names : Names) (ts : List Token) → (before : List Token) × (ts ≡ before ++ left_by (answer (suc d) k names ts)) × Reached (suc d) k names before (answer (suc d) k names ts)

abbrev pub OneTree : Type 0
OneTree = (k : Phrase) (names : Names) (ts : List Token) (a b : Of k) → Spelled k names a ts → Spelled k names b ts → a ≡ b

-- reading once more, with a probe behind what was read, tells whether this token could stand there, however deep
abbrev pub ProbeTells : Type 0
ProbeTells = (probe : Token) (d : ℕ) (k : Phrase) → fits_one_level k ≡ true → (names : Names) (before : List Token)
    → (left_by (answer (suc d) k names (before ++ (probe ∷ []))) ≡ [] → Begins k names (before ++ (probe ∷ [])))
    × (answer (suc d) k names (before ++ (probe ∷ [])) ≡ Err (Deep (probe ∷ [])) → Begins k names (before ++ (probe ∷ [])))
    × ((t : Token) (ts : List Token) → left_by (answer (suc d) k names (before ++ (probe ∷ []))) ≡ t ∷ ts → ((us : List Token) → answer (suc d) k names (before ++ (probe ∷ [])) ≡ Err (Deep us) → ⊥) → Begins k names (before ++ (probe ∷ [])) → ⊥)

-- expressions, types, initialisers, statements and declarations in blocks
abbrev pub stands_in_body : Phrase → Bool
stands_in_body (Phrase.decl site) = false
stands_in_body (Phrase.decls site) = false
stands_in_body Phrase.attribute = false
stands_in_body Phrase.generics = false
stands_in_body Phrase.spec = false
stands_in_body Phrase.line = false
stands_in_body Phrase.item = false
stands_in_body Phrase.interface = false
stands_in_body Phrase.component = false
stands_in_body _ = true

-- in them the longest reading chooses between two texts at an `else` alone
abbrev pub LongestChoosesElse : Type 0
LongestChoosesElse = (k : Phrase) → stands_in_body k ≡ true → (y : Sort) → same_sort y s.Else ≡ false → decides (production k) y ≡ false
