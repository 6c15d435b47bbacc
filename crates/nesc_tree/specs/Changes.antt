-- How what a declaration changed in the declared names is taken back.
use Rattle.std.specs.Prelude.{ℕ, zero, suc, Bool, List, [], ◌∷◌, Option, Some, None, take}
use Rattle.nesc_tree.specs.declared.names.Change.{Change}
use Rattle.nesc_tree.specs.Sorts.{Names}

abbrev pub with_flag : ℕ → Bool → Names → Names
with_flag k flag [] = []
with_flag zero flag (n ∷ ns) = (n.0, flag) ∷ ns
with_flag (suc k) flag (n ∷ ns) = n ∷ with_flag k flag ns

-- a name that was not declared before stands last
abbrev pub taken_by : ℕ → Option Bool → Names → Names
taken_by at None ns = take at ns
taken_by at (Some flag) ns = with_flag at flag ns

abbrev pub taken_back : Change → Names → Names
taken_back c ns = taken_by c.at c.was ns

-- the last one first
abbrev pub all_taken_back : List Change → Names → Names
all_taken_back [] ns = ns
all_taken_back (c ∷ cs) ns = taken_back c (all_taken_back cs ns)
