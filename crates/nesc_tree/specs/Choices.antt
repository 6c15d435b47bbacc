-- Where the longest reading of optional parts and repetitions decides between two texts of a plain grammar (levels of operators left out).
use Rattle.std.specs.Prelude.{ℕ, Bool, true, false, ◌&&◌, nat_le, List, [], ◌∷◌}
use Rattle.nesc_tree.specs.declared.sorts.Sort.{Sort}
use Rattle.nesc_tree.specs.declared.sorts.Sort.TheVariants as s
use Rattle.nesc_tree.specs.Sorts.{sorts}
use Rattle.nesc_tree.specs.Phrase.{Phrase, begins, is_operator}
use Rattle.nesc_tree.specs.Form.{Form, nullable, starts, either}

abbrev pub any_of : (Sort → Bool) → List Sort → Bool
any_of f [] = false
any_of f (x ∷ xs) = either (f x) (any_of f xs)

abbrev pub stay_expr : ℕ → Sort → Bool
stay_expr least s.Comma = nat_le least 0
stay_expr least x = is_operator x

abbrev pub stay_type : Sort → Bool
stay_type s.Qualifier = true
stay_type s.CharType = true
stay_type s.Length = true
stay_type s.Int = true
stay_type s.LBrace = true
stay_type _ = false

-- behind a statement
abbrev pub is_else : Sort → Bool
is_else s.Else = true
is_else _ = false

-- tokens that a text of the phrase would go on with
abbrev pub stay : Phrase → Sort → Bool
stay (Phrase.expr least) x = stay_expr least x
stay Phrase.opened x = stay_expr 1 x
stay Phrase.fields x = false
stay Phrase.pointers x = begins Phrase.pointers x
stay Phrase.type x = stay_type x
stay (Phrase.stmt jumps) x = is_else x
stay (Phrase.label jumps) x = is_else x
stay (Phrase.decl site) x = is_else x
stay _ x = false

-- tokens that a text of the form would go on with
abbrev pub bars : {A : Type 0} → Form A → Sort → Bool
bars (Form.empty a) y = false
bars Form.none y = false
bars (Form.token x f) y = false
bars (Form.seq f g h) y = either (bars h y) (nullable h && bars g y)
bars (Form.by f) y = any_of (λ x. bars (f x) y) sorts
bars (Form.sub p f) y = stay p y
bars (Form.maybe g a) y = either (starts g y) (bars g y)
bars (Form.many go a body) y = either (go y) (any_of (λ x. bars (body x) y) sorts)
bars (Form.loop may fits weight g body) y = either (may y) (either (bars g y) (any_of (λ x. bars (body x) y) sorts))
bars (Form.declare f g) y = bars g y
bars (Form.scope g) y = bars g y

-- whether some text of the form may end before the token, and another go on with it
abbrev pub decides : {A : Type 0} → Form A → Sort → Bool
decides (Form.empty a) y = false
decides Form.none y = false
decides (Form.token x f) y = false
decides (Form.seq f g h) y = either (decides g y) (either (decides h y) (bars g y && starts h y))
decides (Form.by f) y = any_of (λ x. decides (f x) y) sorts
decides (Form.sub p f) y = false
decides (Form.maybe g a) y = decides g y
decides (Form.many go a body) y = any_of (λ x. either (decides (body x) y) (bars (body x) y && go y)) sorts
decides (Form.loop may fits weight g body) y = either (decides g y) (any_of (λ x. decides (body x) y) sorts)
decides (Form.declare f g) y = decides g y
decides (Form.scope g) y = decides g y
