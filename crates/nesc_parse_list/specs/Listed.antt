-- What reading the declarations of a header or a module answers (nesC 1.3 Reference): their trees, or why there are none and where.
use Rattle.std.specs.Prelude.{◌≡◌, ℕ, ◌+◌, true, Bool, List, ◌++◌, [], length, drop, Result, Ok, Err}
use Rattle.nm_base.specs.declared.token.Token.{Token}
use Rattle.nm_base.specs.declared.fault.Fault.{Fault}
use Rattle.nm_base.specs.declared.fault.Fault.TheVariants as f
use Rattle.nesc_tree.specs.declared.sorts.Sort.{Sort}
use Rattle.nesc_tree.specs.declared.sorts.Sort.TheVariants as s
use Rattle.nesc_tree.specs.declared.contexts.Site.{Site}
use Rattle.nesc_tree.specs.declared.declarations.Decl.{Decl}
use Rattle.nesc_tree.specs.Sorts.{Names, ahead}
use Rattle.nesc_tree.specs.Phrase.{Phrase, ends_decls}
use Rattle.nesc_tree.specs.Form.{Spells, SpellsIn}
use Rattle.nesc_grammar.specs.Production.{production}
use Rattle.nesc_grammar.specs.Declarations.{decls_before}
use Rattle.nesc_grammar.specs.Laws.{answer}
use Rattle.nesc_parse_types.specs.declared.stop.Stop.{Stop}
use Rattle.nesc_parse_types.specs.declared.stop.Stop.TheVariants as rust
use Rattle.nesc_parse_types.specs.Gives.{Found, form_in, place}
use Rattle.nesc_parse_types.specs.Gives as gives
use Rattle.nesc_left_out.specs.Refusals as refusals

-- the 200 levels of a tree, and the two of a declaration and of what holds it, which are none of a tree
abbrev pub most : ℕ
most = 202

abbrev pub spare : ℕ
spare = 201

-- the tokens spell these declarations, and behind them the other names are in force
abbrev pub Lists : Site → Names → List Decl → List Token → Names → Type 0
Lists m names decls ts after = Spells spare (SpellsIn production spare) (decls_before m) (place names ts) decls (place after [])

-- the end, or a token that ends declarations
abbrev pub follows : Sort → Bool
follows s.End = true
follows x = ends_decls x

module _ (m : Site) (file : ℕ) (all : List Token) (at : ℕ) (names : Names) where
  -- the declarations spell the tokens up to the place, where such a token follows
  pub record IsListed (decls : List Decl) (end : ℕ) (after : Names) : Type 0 where
    pub before : List Token
    pub rest : List Token
    pub cut : drop at all ≡ before ++ rest
    pub spelled : Lists m names decls before after
    pub followed : follows (ahead after rest) ≡ true
    pub ends : end ≡ at + length before

  -- no declarations spell the tokens up to the end
  abbrev pub IsNoList : Type 0
  IsNoList = (decls : List Decl) (after : Names) → Lists m names decls (drop at all) after → ⊥

  abbrev pub Fails : Fault → Type 0
  Fails (f.Refused r) = refusals.Fails most (Phrase.decls m) file all at names (f.Refused r) × IsNoList
  Fails e = refusals.Fails most (Phrase.decls m) file all at names e

  abbrev pub Parses : Names → Result (List Decl × ℕ) Fault → Type 0
  Parses after (Ok x) = IsListed x.0 x.1 after
  Parses after (Err e) = Fails e

-- ---- what the reader gives

-- no declarations spell the tokens up to the end, unless memory ran out
abbrev pub Stops : Site → Names → List Token → Stop → Type 0
Stops m names ts rust.Memory = Unit {0}
Stops m names ts (rust.Deep us) = (decls : List Decl) (after : Names) → Lists m names decls ts after → ⊥
Stops m names ts (rust.Syntax us) = (decls : List Decl) (after : Names) → Lists m names decls ts after → ⊥

abbrev pub Ends : Site → Names → List Token → Names → Found (List Decl) → Type 0
Ends m names ts after (Ok x) = (form_in spare (decls_before m) names ts ≡ Ok (x.0, place after x.1.now)) × (follows (ahead after x.1.now) ≡ true)
Ends m names ts after (Err e) = gives.Fails e (answer most (Phrase.decls m) names ts) × Stops m names ts e
