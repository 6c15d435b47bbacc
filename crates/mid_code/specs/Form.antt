-- The rules of form that middle code keeps (own).
use Rattle.std.specs.Prelude.{◌≡◌, ℕ, suc, ◌+◌, ◌-◌, ◌/◌, ◌%◌, ◌^◌, ◌<◌, ◌≤◌, Bool, true, false, ◌||◌, ◌&&◌, ◌==◌, nat_lt, List, [], ◌∷◌, ◌++◌, length, Option, Some, None, is_some, if◌then◌else◌}
use Rattle.std.specs.List.{All}
use Rattle.nm_base.specs.declared.int_type.IntType.{IntType}
use Rattle.mid_code.specs.declared.help.HelpOp.{HelpOp}
use Rattle.mid_code.specs.declared.instr.Mid.{Mid}
use Rattle.mid_code.specs.declared.instr.Mid.TheVariants.{Set, Move, Bin, Carry, Load, Store, Peek, Poke, In, Out, Label, Jump, Branch, Call, Help, Ret, Begin, End, Post, Tick, Fault}
use Rattle.mid_code.specs.declared.code.MidFn.{MidFn}
use Rattle.mid_code.specs.declared.code.MidCode.{MidCode}
use Rattle.mid_code.specs.Help.{first_check, is_shift, operation_at, places, type_at}
use Rattle.mid_code.specs.Machine.{fn_of, is_label}

-- ---- what an instruction names

abbrev pub values_written : Mid → List ℕ
values_written (Set v n) = v ∷ []
values_written (Move v x) = v ∷ []
values_written (Bin op v x y) = v ∷ []
values_written (Carry op v x y) = v ∷ []
values_written (Load is_word v x) = v ∷ []
values_written (Peek is_word v x) = v ∷ []
values_written (In v port) = v ∷ []
values_written (Call g ins outs) = outs
values_written (Help h ins outs) = outs
values_written (Post k v) = v ∷ []
values_written _ = []

abbrev pub values_read : Mid → List ℕ
values_read (Move v x) = x ∷ []
values_read (Bin op v x y) = x ∷ y ∷ []
values_read (Carry op v x y) = x ∷ y ∷ []
values_read (Load is_word v x) = x ∷ []
values_read (Store is_word v x) = v ∷ x ∷ []
values_read (Peek is_word v x) = x ∷ []
values_read (Poke is_word v x) = v ∷ x ∷ []
values_read (Out port v) = v ∷ []
values_read (Branch test x y l) = x ∷ y ∷ []
values_read (Call g ins outs) = ins
values_read (Help h ins outs) = ins
values_read (Ret vs) = vs
values_read _ = []

abbrev pub labels_named : Mid → List ℕ
labels_named (Jump l) = l ∷ []
labels_named (Branch test x y l) = l ∷ []
labels_named _ = []

-- ---- a function

abbrev pub one_more : Bool → ℕ → ℕ
one_more true n = suc n
one_more false n = n

-- how often a label stands in code
abbrev pub times : ℕ → List Mid → ℕ
times l [] = 0
times l (i ∷ is) = one_more (is_label i l) (times l is)

abbrev pub AreBelow : ℕ → List ℕ → Type 0
AreBelow n vs = All (λ v. v < n) vs

-- the instruction names values and labels of its function
pub record NamesOwn (fn : MidFn) (i : Mid) : Type 0 where
  pub written : AreBelow fn.values (values_written i)
  pub read : AreBelow fn.values (values_read i)
  pub labels : All (λ l. 1 ≤ times l fn.code) (labels_named i)

pub record IsMidFn (fn : MidFn) : Type 0 where
  pub names : All (NamesOwn fn) fn.code
  pub params : AreBelow fn.values fn.params
  -- no label stands twice
  pub once : (l : ℕ) → times l fn.code ≤ 1

-- ---- a program

abbrev pub goes_elsewhere : Mid → Bool
goes_elsewhere (Jump l) = true
goes_elsewhere (Ret vs) = true
goes_elsewhere (Fault code) = true
goes_elsewhere _ = false

-- the last instruction is a Jump, a Ret or a Fault
abbrev pub EndsElsewhere : List Mid → Type 0
EndsElsewhere [] = ⊥
EndsElsewhere (i ∷ []) = goes_elsewhere i ≡ true
EndsElsewhere (i ∷ j ∷ is) = EndsElsewhere (j ∷ is)

-- what an operation takes and gives
abbrev pub passed_to : HelpOp → IntType → ℕ
passed_to o t = places t + (if is_shift o then 1 else places t)

abbrev pub OperationFits : Option IntType → Option HelpOp → (ins outs : ℕ) → Type 0
OperationFits (Some t) (Some o) ins outs = (ins ≡ passed_to o t) × (outs ≡ places t)
OperationFits _ _ ins outs = ⊥

abbrev pub KindFits : (is_operation : Bool) → (checks h ins outs : ℕ) → Type 0
KindFits true checks h ins outs = OperationFits (type_at (h / 8)) (operation_at (h % 8)) ins outs
KindFits false checks h ins outs = (h - first_check < checks) × (ins ≡ 1) × (outs ≡ 0)

-- a Help names an operation or a check, and has as many values as that takes and gives
abbrev pub HelpFits : (checks h ins outs : ℕ) → Type 0
HelpFits checks h ins outs = KindFits (nat_lt h first_check) checks h ins outs

-- functions and checks that are there, called as they are; each function gives back as many values at each of its Rets
abbrev pub FitsProgram : MidCode → (gives : ℕ → ℕ) → (f : ℕ) → Mid → Type 0
FitsProgram c gives f (Call g ins outs) =
    (g < length c.fns) × (length ins ≡ length (fn_of c g).params) × (length outs ≡ gives g)
FitsProgram c gives f (Help h ins outs) = HelpFits (length c.checks) h (length ins) (length outs)
FitsProgram c gives f (Ret vs) = length vs ≡ gives f
FitsProgram c gives f _ = Unit {0}

pub record IsMidCode (c : MidCode) : Type 0 where
  pub fns : All IsMidFn c.fns
  pub gives : ℕ → ℕ
  pub at_most_two : (f : ℕ) → gives f ≤ 2
  pub fits : (f : ℕ) → All (FitsProgram c gives f) (fn_of c f).code
  pub ends : All (λ fn. EndsElsewhere fn.code) c.fns
  -- a place in code is a number of 32 bits
  pub room : All (λ fn. length fn.code < 2 ^ 32) c.fns
