-- Why reading a phrase of the grammar gives no tree (own), and where.
use Rattle.std.specs.Prelude.{◌≡◌, ℕ, List, [], ◌∷◌, ◌++◌, drop}
use Rattle.nm_base.specs.declared.pos.Pos.{Pos}
use Rattle.nm_base.specs.declared.token.Token.{Token}
use Rattle.nm_base.specs.declared.fault.Fault.{Fault}
use Rattle.nm_base.specs.declared.fault.Fault.TheVariants as f
use Rattle.nm_base.specs.declared.refusal.Left.{Left}
use Rattle.nm_base.specs.declared.refusal.Refusal.TheVariants as r
use Rattle.nm_base.specs.declared.limit.Which.TheVariants as w
use Rattle.nesc_tree.specs.Sorts.{Names}
use Rattle.nesc_tree.specs.Phrase.{Phrase, Of}
use Rattle.nesc_grammar.specs.Reach.{Spelled, BeginsIn, IsReach, IsTooDeep}
use Rattle.nesc_left_out.specs.declared.left.Place.{Place}
use Rattle.nesc_left_out.specs.Left.{IsListed, IsMeant}

-- the last token, or the beginning of the file where there is none
abbrev pub end_of : Pos → List Token → Pos
end_of before [] = before
end_of before (t ∷ ts) = end_of t.pos ts

-- the first of the tokens that are left, or else the end of all
abbrev pub place : ℕ → List Token → List Token → Pos
place file all [] = end_of (record { file = file; line = 1; col = 1 }) all
place file all (t ∷ rest) = t.pos

-- the token behind the reach begins a form that is left out
pub record IsLeft (k : Phrase) (names : Names) (before rest : List Token) (word : Left) : Type 0 where
  pub first : Token
  pub others : List Token
  pub is : rest ≡ first ∷ others
  pub at : Place
  pub listed : IsListed first word at
  pub meant : IsMeant k names before at

module _ (levels : ℕ) (k : Phrase) (file : ℕ) (all : List Token) (at : ℕ) (names : Names) where
  -- no tree spells the reach, and no token of it is too deep
  pub record IsRefused (pos : Pos) : Type 0 where
    pub before : List Token
    pub rest : List Token
    pub cut : drop at all ≡ before ++ rest
    pub reach : IsReach k names before rest
    pub begins : BeginsIn levels k names before
    pub unspelled : (tree : Of k) → Spelled k names tree before → ⊥
    pub stands : pos ≡ place file all rest

  -- a text goes on with the first of the tokens in rest, but none of few enough levels
  pub record IsDeep : Type 0 where
    pub before : List Token
    pub rest : List Token
    pub cut : drop at all ≡ before ++ rest
    pub deep : IsTooDeep levels k names before rest

  abbrev pub Fails : Fault → Type 0
  Fails (f.Refused (r.Syntax pos)) = (x : IsRefused pos) × ((word : Left) → IsLeft k names x.before x.rest word → ⊥)
  Fails (f.Refused (r.LeftOut pos word)) = (x : IsRefused pos) × IsLeft k names x.before x.rest word
  Fails (f.Limit l) = IsDeep × (l ≡ record { which = w.Depth; have = 201 })
  Fails f.NoMemory = Unit {0}
  Fails _ = ⊥
