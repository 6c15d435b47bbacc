-- What reading the file of a component or an interface answers (nesC 1.3 Reference): its tree, or why there is none and where.
use Rattle.std.specs.Prelude.{◌≡◌, ℕ, if◌then◌else◌, List, [], ◌++◌, Option, Some, None, Result, Ok, Err, bytes_eq}
use Rattle.nm_base.specs.declared.pos.Pos.{Pos}
use Rattle.nm_base.specs.declared.token.Token.{Token}
use Rattle.nm_base.specs.declared.fault.Fault.{Fault}
use Rattle.nm_base.specs.declared.fault.Fault.TheVariants as f
use Rattle.nm_base.specs.declared.refusal.Left.{Left}
use Rattle.nm_base.specs.declared.refusal.Refusal.TheVariants as r
use Rattle.nm_base.specs.declared.limit.Which.TheVariants as w
use Rattle.nesc_tree.specs.declared.components.Unit as unit
use Rattle.nesc_tree.specs.Sorts.{Names}
use Rattle.nesc_tree.specs.Phrase.{Phrase, Of}
use Rattle.nesc_tree.specs.Form.{Place, SpellsIn}
use Rattle.nesc_grammar.specs.Production.{production}
use Rattle.nesc_grammar.specs.Reach.{Spelled, BeginsIn, IsReach, IsTooDeep}
use Rattle.nesc_parse_types.specs.Gives.{place}
use Rattle.nesc_left_out.specs.Refusals as refusals
use Rattle.nesc_left_out.specs.Refusals.{IsLeft}
use Rattle.nesc_parse_comp.specs.declared.kinds.UnitKind.{UnitKind}
use Rattle.nesc_parse_comp.specs.declared.kinds.UnitKind.TheVariants as kind
use Rattle.nesc_parse_comp.specs.Named.{named, name_of}

-- the 200 levels of a tree, and two that are none of a tree: that of a declaration or of another part of a file, and that of the file
abbrev pub most : ℕ
most = 202

abbrev pub spare : ℕ
spare = 201

abbrev pub phrase_of : UnitKind → Phrase
phrase_of kind.Interface = Phrase.interface
phrase_of kind.Component = Phrase.component

-- the tokens from one place up to the other spell this
abbrev pub SpellsUnit : UnitKind → Place → unit.Unit → Place → Type 0
SpellsUnit kind.Interface p u q = SpellsIn production most Phrase.interface p u q
SpellsUnit kind.Component p u q = SpellsIn production most Phrase.component p u q

-- ---- the name

abbrev pub differs : List ℕ → Option Token → Option Pos
differs name None = None
differs name (Some t) = if bytes_eq t.text name then None else Some t.pos

-- the place of the name in the tokens, where it is another one
abbrev pub other_name : List ℕ → List Token → Option Pos
other_name name ts = differs name (named ts)

-- ---- what is answered

module _ (k : UnitKind) (file : ℕ) (all : List Token) (name : List ℕ) (names : Names) where
  -- all the tokens spell the tree, which has that name; behind them the other names are in force
  pub record IsUnit (tree : unit.Unit) (after : Names) : Type 0 where
    pub spelled : SpellsUnit k (place names all) tree (place after [])
    pub own : name_of tree.part ≡ Some name

  -- another name stands in the tokens before, and none of these is too deep
  pub record IsOther (pos : Pos) : Type 0 where
    pub before : List Token
    pub rest : List Token
    pub cut : all ≡ before ++ rest
    pub begins : BeginsIn most (phrase_of k) names before
    pub other : other_name name before ≡ Some pos

  -- no tree spells all the tokens; no token of the reach is too deep, and none is another name
  pub record IsRefused (pos : Pos) : Type 0 where
    pub before : List Token
    pub rest : List Token
    pub cut : all ≡ before ++ rest
    pub reach : IsReach (phrase_of k) names before rest
    pub begins : BeginsIn most (phrase_of k) names before
    pub own : other_name name before ≡ None
    pub unspelled : (tree : Of (phrase_of k)) → Spelled (phrase_of k) names tree all → ⊥
    pub stands : pos ≡ refusals.place file all rest

  -- a text goes on with the first of the tokens in rest, but none of few enough levels; none before it is another name
  pub record IsDeep : Type 0 where
    pub before : List Token
    pub rest : List Token
    pub cut : all ≡ before ++ rest
    pub deep : IsTooDeep most (phrase_of k) names before rest
    pub own : other_name name before ≡ None

  abbrev pub Fails : Fault → Type 0
  Fails (f.Refused (r.Syntax pos)) = (x : IsRefused pos) × ((word : Left) → IsLeft (phrase_of k) names x.before x.rest word → ⊥)
  Fails (f.Refused (r.LeftOut pos word)) = (x : IsRefused pos) × IsLeft (phrase_of k) names x.before x.rest word
  Fails (f.Refused (r.WrongName pos)) = IsOther pos
  Fails (f.Limit l) = IsDeep × (l ≡ record { which = w.Depth; have = 201 })
  Fails f.NoMemory = Unit {0}
  Fails _ = ⊥

  abbrev pub Parses : Names → Result unit.Unit Fault → Type 0
  Parses after (Ok u) = IsUnit u after
  Parses after (Err e) = Fails e
