-- The functions that a module declares by name (own).
use Rattle.std.specs.Prelude.{◌≡◌, ℕ, List}
use Rattle.std.specs.List.{filter_map, list_any}
use Rattle.body_meaning.specs.Tree.{Decl, Head}
use Rattle.program_meaning.specs.Modules.{head_of}
use Rattle.program_meaning.specs.Numbers.{is_function}
use Rattle.wire_names.specs.Texts.{same_text}

-- the heads of the functions among these declarations
abbrev pub heads_in : List Decl → List Head
heads_in ds = filter_map head_of ds

-- the table has the names of the functions and tasks among these heads
pub record AreOwn (heads : List Head) (names : List (List ℕ)) : Type 0 where
  pub has : (name : List ℕ) → list_any (same_text name) names ≡ list_any (is_function name) heads
