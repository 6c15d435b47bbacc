-- What may follow a form, and what its shortest text begins with.
use Rattle.std.proofs.Common.{◌≡◌, Bool, true, false, cond, ◌&&◌, List, [], ◌∷◌}
use Rattle.nesc_tree.specs.declared.sorts.Sort.{Sort}
use Rattle.nesc_tree.specs.declared.sorts.Sort.TheVariants as s
use Rattle.nesc_tree.specs.Sorts.{same_sort, sorts}
use Rattle.nesc_tree.specs.Phrase.{Phrase, fits_one_level}
use Rattle.nesc_tree.specs.Form.{Form}
use Rattle.nesc_tree.specs.Reading.{nests}
pub use Rattle.nesc_tree.specs.Choices.{any_of, stay_expr, stay, bars}

pub data Seed : Type 0 where
  dead : Seed
  quiet : Seed
  at : Sort → Seed

abbrev pub lives : Seed → Bool
lives Seed.dead = false
lives Seed.quiet = true
lives (Seed.at x) = true

abbrev pub is_at : Sort → Seed → Bool
is_at x Seed.dead = false
is_at x Seed.quiet = false
is_at x (Seed.at y) = same_sort x y

abbrev pub seed_then : Seed → Seed → Seed
seed_then Seed.dead t = Seed.dead
seed_then Seed.quiet t = t
seed_then (Seed.at x) Seed.dead = Seed.dead
seed_then (Seed.at x) Seed.quiet = Seed.at x
seed_then (Seed.at x) (Seed.at y) = Seed.at x

abbrev pub first_seed : (Sort → Seed) → List Sort → Seed
first_seed f [] = Seed.dead
first_seed f (x ∷ xs) = cond (is_at x (f x)) (Seed.at x) (first_seed f xs)

-- whether a token of the sort can be made up whatever names are in force
abbrev pub made : Sort → Bool
made s.End = false
made s.TypeName = false
made s.Other = false
made _ = true

abbrev pub seed_of : Phrase → Sort
seed_of (Phrase.expr least) = s.Word
seed_of Phrase.opened = s.Word
seed_of Phrase.fields = s.LBrace
seed_of Phrase.pointers = s.Star
seed_of Phrase.type = s.Void
seed_of Phrase.braces = s.LBrace
seed_of Phrase.local = s.Void
seed_of (Phrase.stmt jumps) = s.LBrace
seed_of (Phrase.label jumps) = s.Case
seed_of (Phrase.cases jumps) = s.LBrace
seed_of (Phrase.decl site) = s.Void
seed_of (Phrase.decls site) = s.RBrace
seed_of Phrase.attribute = s.At
seed_of Phrase.generics = s.LParen
seed_of Phrase.spec = s.Specify
seed_of Phrase.line = s.Word
seed_of Phrase.item = s.Item
seed_of Phrase.interface = s.Interface
seed_of Phrase.component = s.Generic

-- how the shortest text begins, with phrases in it or without
abbrev pub seed : Bool → {A : Type 0} → Form A → Seed
seed r (Form.empty a) = Seed.quiet
seed r Form.none = Seed.dead
seed r (Form.token x f) = cond (made x) (Seed.at x) Seed.dead
seed r (Form.seq f g h) = seed_then (seed r g) (seed r h)
seed r (Form.by f) = first_seed (λ x. seed r (f x)) sorts
seed r (Form.sub p f) = cond (r && fits_one_level p) (Seed.at (seed_of p)) Seed.dead
seed r (Form.maybe g a) = Seed.quiet
seed r (Form.many go a body) = Seed.quiet
seed r (Form.loop may fits weight g body) = seed r g
seed r (Form.declare f g) = seed r g
seed r (Form.scope g) = seed r g

abbrev pub clash : (Sort → Bool) → Seed → Bool
clash f Seed.dead = false
clash f Seed.quiet = false
clash f (Seed.at x) = f x

-- what is read can be gone on with
abbrev pub Open : {A : Type 0} → Form A → Type 0
Open (Form.empty a) = Unit {0}
Open Form.none = Unit {0}
Open (Form.token x f) = Unit {0}
Open (Form.seq f g h) = Open g × Open h × (lives (seed true h) ≡ true) × (nests h ≡ false → lives (seed false h) ≡ true) × ((r : Bool) → clash (bars g) (seed r h) ≡ false)
Open (Form.by f) = (x : Sort) → Open (f x)
Open (Form.sub p f) = Unit {0}
Open (Form.maybe g a) = Open g
Open (Form.many go a body) = (x : Sort) → Open (body x)
Open (Form.loop may fits weight g body) = Open g × ((x : Sort) → Open (body x))
Open (Form.declare f g) = Open g × (bars g s.Word ≡ false) × (bars g s.TypeName ≡ false)
Open (Form.scope g) = Open g × (bars g s.Word ≡ false) × (bars g s.TypeName ≡ false)
