-- Groups of conditionals (C99 6.10.1).
use Rattle.std.specs.Prelude.{◌≡◌, ◌-◌, Result, Ok, Err, Bool, true, false, not, ◌||◌, List, [], ◌∷◌, length, slice_get, Option, Some, None}
use Rattle.std.specs.Option.{option_map}
use Rattle.nm_base.specs.declared.no_memory.NoMemory.{NoMemory}
use Rattle.nm_base.specs.declared.pos.Pos.{Pos}
use Rattle.nm_base.specs.declared.token.Token.{Token}
use Rattle.nesc_preproc.specs.declared.conditional.Conditional.{Conditional}

-- whether tokens are taken: the innermost group is
abbrev pub is_live : List Conditional → Bool
is_live [] = true
is_live (c ∷ cs) = c.live

-- a conditional of which the first group is taken or not
abbrev pub begun : Pos → Bool → Conditional
begun pos taken = record { pos = pos; taken = taken; live = taken; last = false }

-- a conditional in a part that is skipped: no group of it is taken
abbrev pub skipped : Pos → Conditional
skipped pos = record { pos = pos; taken = true; live = false; last = false }

abbrev pub is_empty : List Token → Bool
is_empty [] = true
is_empty (_ ∷ _) = false

-- at the next group, which is taken or not
abbrev pub at_group : Conditional → Bool → Conditional
at_group c taken = record { pos = c.pos; taken = c.taken || taken; live = taken; last = false }

abbrev pub at_last_group : Conditional → Conditional
at_last_group c = record { pos = c.pos; taken = true; live = not c.taken; last = true }

-- whether these tokens may stand behind `#else` or `#endif`: none in a part that is taken; in a part that is skipped only
-- the names of conditionals are looked at (C99 6.10.1, paragraph 6). `outer` are the conditionals around this one
abbrev pub may_follow : List Conditional → List Token → Bool
may_follow outer line = is_empty line || not (is_live outer)

-- behind `#else`; None where there is no conditional, or its last group is behind, or something follows that may not
abbrev pub else_at : List Conditional → List Token → Option (List Conditional)
else_at [] line = None
else_at (c ∷ cs) line = elim (c.last || not (may_follow cs line)) [ true ↦ None | false ↦ Some (at_last_group c ∷ cs) ]

-- behind `#endif`; None where there is no conditional, or something follows that may not
abbrev pub end_at : List Conditional → List Token → Option (List Conditional)
end_at [] line = None
end_at (c ∷ cs) line = elim (may_follow cs line) [ true ↦ Some cs | false ↦ None ]

-- the place of the outermost
abbrev pub outermost : List Conditional → Option Pos
outermost cs = option_map (λ (c : Conditional). c.pos) (slice_get cs (length cs - 1))

-- whether the conditionals could go to another group, which they then did
abbrev pub Regroups : Result Bool NoMemory → Option (List Conditional) → List Conditional → List Conditional → Type 0
Regroups (Ok true) found old new = found ≡ Some new
Regroups (Ok false) found old new = (found ≡ None) × (new ≡ old)
Regroups (Err e) found old new = Unit {0}
