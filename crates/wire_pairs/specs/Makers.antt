-- Lines of instances as keys of a table (own).
use Rattle.std.specs.Prelude.{ℕ, Bool, ◌&&◌, nat_eq}

abbrev pub LineOf : Type 0
LineOf = ℕ × ℕ

abbrev pub same_line : LineOf → LineOf → Bool
same_line p q = nat_eq p.0 q.0 && nat_eq p.1 q.1
