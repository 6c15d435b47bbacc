-- Worked examples: what dispatch functions do, gone through by hand.
use Rattle.std.specs.Prelude.{◌≡◌, ℕ, Bool, true, false, List, [], ◌∷◌, codes, Option, Some, None}
use Rattle.nm_base.specs.declared.action.Action.{Action}
use Rattle.nm_base.specs.declared.action.Action.TheVariants.{Out, Tick}
use Rattle.nm_base.specs.declared.int_type.IntType.TheVariants.{U8, I16, U16}
use Rattle.nesc_core.specs.declared.tree.BinOp.TheVariants.{Add}
use Rattle.nesc_core.specs.Plain.{Ty, void, int, Exprs, no_exprs, more_exprs, local, read, bin, convert, call, Body, eval, return}
use Rattle.core_meaning.specs.Rows.{at, number, out, ends, does, function, program}
use Rattle.core_meaning.specs.BootBody.{ecombine}
use Rattle.combine_fanout.specs.declared.case.Case.{Case}
use Rattle.combine_fanout.specs.Dispatch.{dispatch, item, loses}

abbrev pub case : Option ℕ → List ℕ → Case
case value bodies = record { value = value; bodies = bodies }

abbrev pub function_of : Ty → List Ty → Option ℕ → List Case → Body
function_of gives params combine cases = dispatch (codes "wire C.I.f") params gives (item params gives combine at) cases

abbrev pub is_lost : Ty → List Ty → Option ℕ → List Case → Bool
is_lost gives params combine cases = loses (item params gives combine at) cases

-- booted writes what the call gives, or only calls
abbrev pub writes : ℕ → Exprs → Body
writes body arguments = function [] void (out (convert U16 (call body arguments at)) ∷ [])

abbrev pub calls : ℕ → Exprs → Body
calls body arguments = function [] void (eval (call body arguments at) ∷ [])

-- a function without parameters that writes this number and gives that one, and one that gives nothing
abbrev pub writes_and_gives : ℕ → ℕ → Body
writes_and_gives written given = function [] (int U8) (out (convert U16 (number written)) ∷ return (Some (convert U8 (number given))) ∷ [])

abbrev pub only_writes : ℕ → Body
only_writes written = function [] void (out (convert U16 (number written)) ∷ [])

-- ---- three wires of one command: 1 and SUCCESS, again, 2 and FAIL

abbrev pub fan : (combine : Option ℕ) → List Body
fan combine = writes 1 no_exprs ∷ function_of (int U8) [] combine (case None (3 ∷ 3 ∷ 4 ∷ []) ∷ []) ∷ ecombine ∷ writes_and_gives 1 0 ∷ writes_and_gives 2 1 ∷ []

-- ---- a parameter of a byte: 1 has a wire, and the default gives its parameter and 6

abbrev pub byte : ℕ → Exprs
byte n = more_exprs (convert U8 (number n)) no_exprs

abbrev pub default_get : Body
default_get = record {
  name = codes "get";
  params = 1;
  locals = int U8 ∷ [];
  result = int U8;
  code = return (Some (convert U8 (bin Add I16 (convert I16 (read (local 0) at)) (number 6))));
  is_async = false;
  is_item = true;
}

abbrev pub four : Body
four = record {
  name = codes "four";
  params = 1;
  locals = int U8 ∷ [];
  result = int U8;
  code = return (Some (convert U8 (number 4)));
  is_async = false;
  is_item = true;
}

abbrev pub get : (parameter : ℕ) → List Case → List Body
get parameter cases = writes 1 (byte parameter) ∷ function_of (int U8) (int U8 ∷ []) None cases ∷ default_get ∷ four ∷ []

abbrev pub wired : List Case
wired = case (Some 1) (3 ∷ []) ∷ case None (2 ∷ []) ∷ []

-- ---- events: 1 goes to two functions, and nothing to any other value

abbrev pub signals : (parameter : ℕ) → List Body
signals parameter = calls 1 (byte parameter) ∷ function_of void (int U8 ∷ []) None (case (Some 1) (2 ∷ 3 ∷ []) ∷ case (Some 2) (3 ∷ []) ∷ []) ∷ noted 7 ∷ noted 8 ∷ []
  where
    noted : ℕ → Body
    noted n = record {
      name = codes "fired";
      params = 1;
      locals = int U8 ∷ [];
      result = void;
      code = out (convert U16 (number n));
      is_async = false;
      is_item = true;
    }

abbrev pub Does : List Body → List Action → Type 0
Does bodies actions = does (program [] [] bodies) [] 0 ≡ ends actions

pub record WorkedRows : Type 0 where
  -- combined from the left: SUCCESS and SUCCESS, then with FAIL
  pub combined : Does (fan (Some 2)) (Tick ∷ Tick ∷ Out 0x0130 1 ∷ Tick ∷ Tick ∷ Out 0x0130 1 ∷ Tick ∷ Tick ∷ Tick ∷ Tick ∷ Out 0x0130 2 ∷ Tick ∷ Tick ∷ Tick ∷ Tick ∷ Out 0x0130 1 ∷ [])
  -- no function combines, so the last result stands, and the others are lost
  pub last : Does (fan None) (Tick ∷ Tick ∷ Out 0x0130 1 ∷ Tick ∷ Tick ∷ Out 0x0130 1 ∷ Tick ∷ Tick ∷ Out 0x0130 2 ∷ Tick ∷ Tick ∷ Out 0x0130 1 ∷ [])
  pub lost : is_lost (int U8) [] None (case None (3 ∷ 3 ∷ 4 ∷ []) ∷ []) ≡ true
  pub kept : is_lost (int U8) [] (Some 2) (case None (3 ∷ 3 ∷ 4 ∷ []) ∷ []) ≡ false
  pub nothing_to_lose : is_lost void [] None (case None (3 ∷ 3 ∷ 4 ∷ []) ∷ []) ≡ false
  pub one_each : is_lost (int U8) (int U8 ∷ []) None wired ≡ false
  -- the parameter is passed on
  pub by_default : Does (get 3 wired) (Tick ∷ Tick ∷ Tick ∷ Tick ∷ Out 0x0130 9 ∷ [])
  pub by_wire : Does (get 1 wired) (Tick ∷ Tick ∷ Tick ∷ Tick ∷ Out 0x0130 4 ∷ [])
  -- without a case for all other values nothing is called, and 0 is given
  pub unwired : Does (get 3 (case (Some 1) (3 ∷ []) ∷ [])) (Tick ∷ Tick ∷ Out 0x0130 0 ∷ [])
  -- a case ends where its calls end
  pub both : Does (signals 1) (Tick ∷ Tick ∷ Out 0x0130 7 ∷ Tick ∷ Tick ∷ Out 0x0130 8 ∷ Tick ∷ Tick ∷ [])
  pub one : Does (signals 2) (Tick ∷ Tick ∷ Out 0x0130 8 ∷ Tick ∷ Tick ∷ [])
  pub none : Does (signals 3) (Tick ∷ Tick ∷ [])
