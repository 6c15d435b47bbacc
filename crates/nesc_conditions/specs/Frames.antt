-- What the innermost answer leads to through the frames that wait for it (own).
use Rattle.std.specs.Prelude.{◌≡◌, ℕ, suc, ◌+◌, ◌*◌, ℤ, true, false, List, [], ◌∷◌, length, codes, Option, Some, None}
use Rattle.nm_base.specs.declared.token.Token.{Token}
use denote.Ref.{Bor}
use Rattle.nesc_macros.specs.Invocation.{Name, is_sign}
use Rattle.nesc_macros.specs.Expansion.{Settles}
use Rattle.nesc_conditions.specs.declared.frames.Frame.{Frame}
use Rattle.nesc_conditions.specs.declared.frames.Frame.TheVariants.{Prefix, Infix, Group, Middle, Otherwise}
use Rattle.nesc_conditions.specs.declared.condition.State.{State}
use Rattle.nesc_conditions.specs.declared.condition.State.TheVariants as state
use Rattle.nesc_conditions.specs.Signs.{level_of, conditional_level, prefix_level}
use Rattle.nesc_conditions.specs.Arithmetic.{applied, prefixed, chosen}
use Rattle.nesc_conditions.specs.Conditions.{Reading, Parsed, Part, following_at, From, Behind, parsed, and_then, unless_malformed, past, whole}

-- the level from which on a frame takes operators into its operand
abbrev pub frame_level : Frame → ℕ
frame_level (Prefix operator) = prefix_level
frame_level (Infix operator left) = level_of operator + 1
frame_level Group = 0
frame_level (Middle condition) = 0
frame_level (Otherwise condition value) = conditional_level

abbrev pub level : List Frame → ℕ
level [] = 0
level (f ∷ fs) = frame_level f

-- how a frame in an expression of this level goes on with its operand
abbrev pub onward : (Part → List Token → Parsed) → Frame → ℕ → Reading → Parsed
onward go (Prefix operator) level r = go (Behind level (prefixed operator r.value)) r.rest
onward go (Infix operator left) level r = go (Behind level (applied operator left r.value)) r.rest
onward go Group level r = past (codes ")") r.value r.rest (λ r. go (Behind level r.value) r.rest)
onward go (Middle condition) level r = past (codes ":") r.value r.rest (λ r. and_then (go (From conditional_level) r.rest) (λ z. go (Behind level (chosen condition r.value z.value)) z.rest))
onward go (Otherwise condition value) level r = go (Behind level (chosen condition value r.value)) r.rest

-- the answer that the innermost frame waits for gives the line this value
abbrev pub LeadsTo : List Frame → Option Reading → Option ℤ → Type 0
LeadsTo [] answer value = value ≡ whole answer
LeadsTo (f ∷ fs) answer value = (next : Option Reading) × Settles (λ n. unless_malformed answer (onward (parsed n) f (level fs))) next × LeadsTo fs next value

-- a part before these tokens, under these frames, gives the line this value
pub record EndsIn (frames : List Frame) (part : Part) (ts : List Token) (value : Option ℤ) : Type 0 where
  pub answer : Option Reading
  pub settles : Settles (λ n. parsed n part ts) answer
  pub leads : LeadsTo frames answer value

-- a state of the reading gives the line this value
abbrev pub StateEndsIn : List Frame → State → Option ℤ → Type 0
StateEndsIn frames (state.Operand rest) value = EndsIn frames (From (level frames)) rest.now value
StateEndsIn frames (state.Behind x rest) value = EndsIn frames (Behind (level frames) x) rest.now value
StateEndsIn frames (state.Ended answer) value = value ≡ answer

-- no operator of this level stands at the front
abbrev pub EndsHere : ℕ → List Token → Type 0
EndsHere level [] = Unit {0}
EndsHere level (t ∷ ts) = following_at level t ≡ None

-- what stands behind a sign at the front
abbrev pub IsPast : Name → List Token → Option (Bor (List Token)) → Type 0
IsPast sign [] rest = rest ≡ None
IsPast sign (t ∷ ts) None = is_sign sign t ≡ false
IsPast sign (t ∷ ts) (Some rest) = (is_sign sign t ≡ true) × (rest.now ≡ ts)

-- what the later state gives the line, the earlier one gives it
abbrev pub StepsTo : List Frame → State → List Frame → State → Type 0
StepsTo frames earlier frames-later later = (value : Option ℤ) → StateEndsIn frames-later later value → StateEndsIn frames earlier value

-- how many steps are left at most
abbrev pub work : List Frame → State → ℕ
work frames (state.Operand rest) = suc (2 * length rest.now + length frames)
work frames (state.Behind x rest) = suc (2 * length rest.now + length frames)
work frames (state.Ended answer) = 0
