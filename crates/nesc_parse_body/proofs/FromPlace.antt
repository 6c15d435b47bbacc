-- What reading a statement from a place of a list answers.
use Rattle.std.proofs.Common.{◌≡◌, ℕ, ◌+◌, ◌-◌, ◌≤◌, List, length, drop, Ok, refl, arith}
use Rattle.nm_base.specs.declared.token.Token.{Token}
use Rattle.nesc_tree.specs.declared.declarations.Stmt.{Stmt}
use Rattle.nesc_tree.specs.Sorts.{Names}
use Rattle.nesc_tree.specs.Reading.{Answer}
use Rattle.nesc_grammar.specs.Laws.{answer}
use Rattle.nesc_parse_types.specs.Gives.{place}
use Rattle.nesc_left_out.proofs.FromPlace as from
use Rattle.nesc_parse_body.specs.Parsed.{IsParsed, body, most, spare}

module _ (file : ℕ) (all : List Token) (at : ℕ) (names : Names) (l : at ≤ length all) (tree : Stmt) (rest : List Token) (q : answer most body names (drop at all) ≡ Ok (tree, place names rest)) where
  abbrev read : Answer Stmt
  read = Ok (tree, place names rest)

  abbrev before : List Token
  before = (from.reached spare body refl file all at names).0

  lengths : at + length before + length rest ≡ length all
  lengths = from.cut_length spare body refl file all at names before rest (from.cut_by spare body refl file all at names read q) l

  pub inside : length rest ≤ length all
  inside = let n = lengths in omega arith

  pub parses : IsParsed file all at names tree (length all - length rest)
  parses =
      let h = from.reached_by spare body refl file all at names read q in
      let n = lengths in
      record { before = before; rest = rest; cut = from.cut_by spare body refl file all at names read q; reach = h.0; spelled = h.1; ends = omega arith }
