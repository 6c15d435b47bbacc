-- What reading a statement answers: the tree that spells the reach, or why there is none and where.
use Rattle.std.specs.Prelude.{◌≡◌, ℕ, ◌+◌, List, ◌++◌, length, drop, Result, Ok, Err}
use Rattle.nm_base.specs.declared.token.Token.{Token}
use Rattle.nm_base.specs.declared.fault.Fault.{Fault}
use Rattle.nesc_tree.specs.declared.contexts.Jumps.TheVariants as jumps
use Rattle.nesc_tree.specs.declared.declarations.Stmt.{Stmt}
use Rattle.nesc_tree.specs.Sorts.{Names}
use Rattle.nesc_tree.specs.Phrase.{Phrase}
use Rattle.nesc_grammar.specs.Reach.{SpelledIn, IsReach}
use Rattle.nesc_left_out.specs.Refusals.{Fails}

-- a statement has at most 200 levels
abbrev pub most : ℕ
most = 200

abbrev pub spare : ℕ
spare = 199

-- a statement that stands in no loop and no `switch`
abbrev pub body : Phrase
body = Phrase.stmt jumps.Neither

module _ (file : ℕ) (all : List Token) (at : ℕ) (names : Names) where
  -- the tree spells the reach, which ends before the place
  pub record IsParsed (tree : Stmt) (end : ℕ) : Type 0 where
    pub before : List Token
    pub rest : List Token
    pub cut : drop at all ≡ before ++ rest
    pub reach : IsReach body names before rest
    pub spelled : SpelledIn most body names tree before
    pub ends : end ≡ at + length before

  abbrev pub Parses : Result (Stmt × ℕ) Fault → Type 0
  Parses (Ok x) = IsParsed x.0 x.1
  Parses (Err e) = Fails most body file all at names e
