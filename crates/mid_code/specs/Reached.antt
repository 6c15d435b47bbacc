-- The rules that middle code keeps in each state that the machine reaches from the start of a function without parameters (own).
use Rattle.std.specs.Prelude.{◌≡◌, ℕ, zero, suc, ◌+◌, ◌/◌, ◌%◌, ◌^◌, ◌<◌, ◌≤◌, ◌⊎◌, Bool, true, false, if◌then◌else◌, List, [], ◌∷◌, map, length, Option, Some, None, Contains, drop}
use Rattle.std.specs.List.{All}
use Rattle.nm_base.specs.declared.memory_map.TheConstants.{RAM_START}
use Rattle.nm_base.specs.declared.int_type.IntType.{IntType}
use Rattle.mid_code.specs.declared.help.HelpOp.{HelpOp}
use Rattle.mid_code.specs.declared.help.HelpOp.TheVariants.{Div, Rem}
use Rattle.mid_code.specs.declared.instr.Mid.{Mid}
use Rattle.mid_code.specs.declared.instr.Mid.TheVariants.{Load, Store, Peek, Poke, In, Out, Call, Help, Ret, Begin, End}
use Rattle.mid_code.specs.declared.code.MidFn.{MidFn}
use Rattle.mid_code.specs.declared.code.MidCode.{MidCode}
use Rattle.mid_code.specs.Words.{joined}
use Rattle.mid_code.specs.Help.{type_at, operation_at, places}
use Rattle.mid_code.specs.Machine.{Activation, fn_of, instruction, started, step, moved}

-- the calls after so many steps, where the action of step i, if it asks, is answered by answer i
abbrev pub state_at : MidCode → ℕ → (answers : ℕ → ℕ) → ℕ → List Activation
state_at c f answers zero = started c f
state_at c f answers (suc n) = moved (step c (state_at c f answers n)) (answers n)

-- the places of the Begins that are open, of each call, innermost first
abbrev pub opens_behind : Option Mid → List (List ℕ) → List (List ℕ)
opens_behind (Some (Begin o)) (opens ∷ outer) = (o ∷ opens) ∷ outer
opens_behind (Some (End o)) (opens ∷ outer) = drop 1 opens ∷ outer
opens_behind (Some (Call g ins outs)) all = [] ∷ all
opens_behind (Some (Ret vs)) (opens ∷ outer) = outer
opens_behind _ all = all

abbrev pub innermost_instruction : MidCode → List Activation → Option Mid
innermost_instruction c [] = None
innermost_instruction c (a ∷ rest) = instruction c a

abbrev pub opens_at : MidCode → ℕ → (answers : ℕ → ℕ) → ℕ → List (List ℕ)
opens_at c f answers zero = [] ∷ []
opens_at c f answers (suc n) = opens_behind (innermost_instruction c (state_at c f answers n)) (opens_at c f answers n)

-- ---- what holds before an instruction

-- a word is at an even place
abbrev pub IsAligned : (is_word : Bool) → ℕ → Type 0
IsAligned true x = x % 2 ≡ 0
IsAligned false x = Unit {0}

abbrev pub bytes : (is_word : Bool) → ℕ
bytes is_word = if is_word then 2 else 1

-- so many bytes from the first place on, and two from the second
abbrev pub AreApart : (size : ℕ) → ℕ → ℕ → Type 0
AreApart size x o = (x + size ≤ o) ⊎ (o + 2 ≤ x)

-- a byte or word of the frame, which no Begin of the function uses
pub record IsInFrame (fn : MidFn) (is_word : Bool) (x : ℕ) : Type 0 where
  pub inside : x + bytes is_word ≤ fn.frame
  pub aligned : IsAligned is_word x
  pub apart : (o : ℕ) → Contains fn.code (Begin o) → AreApart (bytes is_word) x o

pub record MayBegin (fn : MidFn) (opens : List ℕ) (o : ℕ) : Type 0 where
  pub inside : o + 2 ≤ fn.frame
  pub aligned : o % 2 ≡ 0
  pub apart : All (AreApart 2 o) opens

abbrev pub LastIs : ℕ → List ℕ → Type 0
LastIs o [] = ⊥
LastIs o (last ∷ others) = last ≡ o

-- where data lies
abbrev pub IsData : (is_word : Bool) → ℕ → Type 0
IsData is_word x = (RAM_START ≤ x) × IsAligned is_word x

-- ENABLE, PENDING, or a word port of a device
abbrev pub IsPort : ℕ → Type 0
IsPort port = (port ≡ 0x0100) ⊎ (port ≡ 0x0102) ⊎ ((port % 2 ≡ 0) × (0x0120 ≤ port) × (port ≤ 0x015E))

abbrev pub DividesByOther : Option IntType → Option HelpOp → List ℕ → Type 0
DividesByOther (Some t) (Some Div) vs = 0 < joined (drop (places t) vs)
DividesByOther (Some t) (Some Rem) vs = 0 < joined (drop (places t) vs)
DividesByOther _ _ vs = Unit {0}

abbrev pub MayGoOn : MidCode → Activation → (opens : List ℕ) → Option Mid → Type 0
MayGoOn c a opens (Some (Load is_word v x)) = IsData is_word (a.values x)
MayGoOn c a opens (Some (Store is_word v x)) = IsData is_word (a.values x)
MayGoOn c a opens (Some (Peek is_word v x)) = IsInFrame (fn_of c a.f) is_word (a.values x)
MayGoOn c a opens (Some (Poke is_word v x)) = IsInFrame (fn_of c a.f) is_word (a.values x)
MayGoOn c a opens (Some (In v port)) = IsPort port
MayGoOn c a opens (Some (Out port v)) = IsPort port
MayGoOn c a opens (Some (Begin o)) = MayBegin (fn_of c a.f) opens o
MayGoOn c a opens (Some (End o)) = LastIs o opens
MayGoOn c a opens (Some (Ret vs)) = opens ≡ []
MayGoOn c a opens (Some (Help h ins outs)) = DividesByOther (type_at (h / 8)) (operation_at (h % 8)) (map a.values ins)
MayGoOn c a opens _ = Unit {0}

abbrev pub AllMayGoOn : MidCode → List Activation → List (List ℕ) → Type 0
AllMayGoOn c (a ∷ rest) (opens ∷ outer) = MayGoOn c a opens (instruction c a)
AllMayGoOn c _ _ = Unit {0}

pub record KeepsForm (c : MidCode) : Type 0 where
  pub always : (f : ℕ) → f < length c.fns → (fn_of c f).params ≡ [] →
      (answers : ℕ → ℕ) → ((i : ℕ) → answers i < 2 ^ 16) → (n : ℕ) →
      AllMayGoOn c (state_at c f answers n) (opens_at c f answers n)
