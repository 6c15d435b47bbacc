-- Names as texts.
use Rattle.std.specs.Prelude.{ℕ, Bool, List, map, nat_eq, Vec}
use Rattle.std.specs.declared.alloc.Global.{Global}
use Rattle.std.specs.Cmp.Lexicographic.{pointwise}

abbrev pub same_text : List ℕ → List ℕ → Bool
same_text = pointwise nat_eq

abbrev pub text : Vec ℕ Global → List ℕ
text v = v.items

-- the texts of a table's keys
abbrev pub texts : List (Vec ℕ Global) → List (List ℕ)
texts keys = map text keys
