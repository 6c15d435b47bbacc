-- Constants in the brackets of a wire (nesC 1.3 Reference, section 9): an element with a parameter takes a constant, or passes its
-- parameter on where the other end does.
use Rattle.std.specs.Prelude.{ℕ, ℤ, pos, negsuc, Bool, true, cond, ◌&&◌, ◌||◌, not, ◌==◌, nat_lt, is_some, is_none, Option, Some, None, Ok, Err, Result}
use Rattle.nm_base.specs.declared.pos.Pos.{Pos}
use Rattle.wire_pairs.specs.declared.facts.Bracket.{Bracket}
use Rattle.wire_pairs.specs.declared.facts.Unlinked.{Unlinked}
use Rattle.wire_pairs.specs.declared.facts.Unlinked.TheVariants as unlinked
use Rattle.wire_pairs.specs.Ends.{Linked, ◌>>=◌}

-- the parameter is neither absent nor fixed
abbrev pub is_free : (greatest : Option ℕ) → Option Bracket → Bool
is_free greatest bracket = is_some greatest && is_none bracket

abbrev pub may_stand : (greatest : Option ℕ) → Option Bracket → Bool
may_stand greatest bracket = is_some greatest || is_none bracket

abbrev pub same : Bool → Bool → Bool
same a b = cond a b (not b)

-- of two ends with these parameters
abbrev pub matches : (g h : Option ℕ) → (a b : Option Bracket) → Bool
matches g h a b = may_stand g a && may_stand h b && same (is_free g a) (is_free h b)

abbrev pub at_most : Pos → (greatest n : ℕ) → Linked (Option ℕ)
at_most at g n = cond (nat_lt g n) (Err (unlinked.NotConstant at)) (Ok (Some n))

-- a number of 16 bits that the parameter can have
abbrev pub within : Pos → (greatest : Option ℕ) → ℤ → Linked (Option ℕ)
within at None z = Ok None
within at (Some g) (pos n) = cond (nat_lt n 65536) (at_most at g n) (Err (unlinked.NotConstant at))
within at (Some g) (negsuc n) = Err (unlinked.NotConstant at)

abbrev pub value_of : Pos → (greatest : Option ℕ) → Result ℤ Unlinked → Linked (Option ℕ)
value_of at greatest (Ok z) = within at greatest z
value_of at greatest (Err e) = Err e

abbrev pub value_at : (greatest : Option ℕ) → Option Bracket → Linked (Option ℕ)
value_at greatest None = Ok None
value_at greatest (Some b) = value_of b.at greatest b.value

-- in one file
abbrev pub is_before : Pos → Pos → Bool
is_before a b = nat_lt a.line b.line || ((a.line == b.line) && nat_lt a.col b.col)

abbrev pub begins_before : Option Bracket → Option Bracket → Bool
begins_before None b = true
begins_before (Some a) None = true
begins_before (Some a) (Some b) = not (is_before b.at a.at)

-- the values at both ends
abbrev pub Values : Type 0
Values = Option ℕ × Option ℕ

abbrev pub values : Option ℕ → Option ℕ → Linked Values
values x y = Ok (x, y)

-- the bracket that begins first in the text is looked at first
abbrev pub both_values : (g h : Option ℕ) → (a b : Option Bracket) → Linked Values
both_values g h a b =
    cond (begins_before a b)
    (value_at g a >>= λ x. value_at h b >>= λ y. values x y)
    (value_at h b >>= λ y. value_at g a >>= λ x. values x y)

abbrev pub bracketed : Pos → (g h : Option ℕ) → (a b : Option Bracket) → Linked Values
bracketed at g h a b = cond (matches g h a b) (both_values g h a b) (Err (unlinked.WireMismatch at))
