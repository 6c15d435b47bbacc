-- The routine of a check takes at most 24 bytes for each run, and 62.
use Rattle.std.proofs.Common.{ℕ, suc, ◌+◌, ◌*◌, ◌%◌, ◌≤◌, ◌==◌, Bool, true, false, cond, List, [], ◌∷◌, ◌++◌, length, arith}
use Rattle.msp_isa.specs.declared.code.Item.{Item}
use Rattle.msp_isa.specs.declared.code.Item.TheVariants as item
use Rattle.msp_isa.specs.declared.instr.Cond.TheVariants.{Jeq}
use Rattle.msp_isa.specs.declared.instr.Op2.{Op2}
use Rattle.msp_isa.specs.declared.instr.Op2.TheVariants.{Mov, Cmp}
use Rattle.mid_code.specs.declared.code.Check.{Check}
use Rattle.open_law.specs.Homes.{InFrame, InRegister, Made, Number, Of, Source, StackPointer, literal}
use Rattle.msp_layout.specs.Rounds.{short_bytes}
use Rattle.msp_runtime.specs.Code.{Code, Nothing, Do, Keeping, Then, items_from, labels, operation_item, return}
use Rattle.msp_runtime.specs.Routines.{divide, set}
use Rattle.msp_checks.specs.Checks.{check_code, check_items, found, last_of, match_code, raise, run_code, runs_code, runs_of}
use Rattle.msp_checks.proofs.Laid.{fewer}
use Rattle.check_bytes.specs.Laws.{ChecksAreSmall}
use Rattle.check_bytes.proofs.Bytes.{bytes, bytes-append}
use Rattle.check_bytes.proofs.Near.{AreBetween, IsNear, both_near, few_near, shortest_within}
use Rattle.check_bytes.proofs.Codes.{IsNearCode, Takes, code_between, few_code_near, then_near, then_takes}

-- ---- runs

operation_bytes : (op : Op2) (s : Source) (r : ℕ) → short_bytes (operation_item op s r) ≤ 4
operation_bytes op (Of (InRegister q)) r = omega arith
operation_bytes op (Of (InFrame x)) r = omega arith
operation_bytes op (Number n) r = omega arith
operation_bytes op (Made n) r = omega arith
operation_bytes op StackPointer r = omega arith

match_takes : (size : ℕ) (run : ℕ × ℕ) → Takes 24 (match_code size run)
match_takes size run l =
    let a = operation_bytes Cmp (literal run.0) 12 in
    let b = operation_bytes Mov (literal (last_of size run)) 15 in
    let c = operation_bytes Cmp (literal (run.0 % size)) 14 in
    omega (arith, a, b, c)

run_takes : (size : ℕ) (run : ℕ × ℕ) → Takes 24 (run_code size run)
run_takes size run = by (run.1 == 0)
  where
    by : (b : Bool) → Takes 24 (cond b Nothing (match_code size run))
    by true l = omega arith
    by false l = match_takes size run l

runs_take : (size : ℕ) (runs : List (ℕ × ℕ)) → Takes (24 * length runs) (runs_code size runs)
runs_take size [] l = omega arith
runs_take size (run ∷ runs) l =
    let e = then_takes (run_code size run) (runs_code size runs) 24 (24 * length runs) (run_takes size run) (runs_take size runs) l in omega (arith, e)

runs_near : (size : ℕ) (runs : List (ℕ × ℕ)) → IsNearCode (runs_code size runs)
runs_near size [] = few_code_near Nothing 0 (omega arith) (λ l. omega arith)
runs_near size (run ∷ runs) =
    then_near (run_code size run) (runs_code size runs) (few_code_near (run_code size run) 24 (omega arith) (run_takes size run)) (runs_near size runs)

-- ---- what stands around them

set_takes : (n r : ℕ) → Takes 4 (set n r)
set_takes n r l = let a = operation_bytes Mov (literal n) r in omega (arith, a)

division_takes : Takes 44 (Keeping 12 divide)
division_takes l = omega arith

abbrev tells : Code
tells = Then (Do Cmp (literal found) 14) Nothing

tells_takes : Takes 2 tells
tells_takes l = omega arith

module _ (check : Check) where
  abbrev runs : Code
  runs = runs_code check.size (runs_of check)

  runs_all : Takes (24 * length (runs_of check)) runs
  runs_all = runs_take check.size (runs_of check)

  code_takes : Takes (4 + (44 + (24 * length (runs_of check) + 2))) (check_code check)
  code_takes =
      then_takes (set check.size 13) (Then (Keeping 12 divide) (Then runs tells)) 4 (44 + (24 * length (runs_of check) + 2)) (set_takes check.size 13)
      (then_takes (Keeping 12 divide) (Then runs tells) 44 (24 * length (runs_of check) + 2) division_takes
      (then_takes runs tells (24 * length (runs_of check)) 2 runs_all tells_takes))

  code_near : IsNearCode (check_code check)
  code_near =
      then_near (set check.size 13) (Then (Keeping 12 divide) (Then runs tells)) (few_code_near (set check.size 13) 4 (omega arith) (set_takes check.size 13))
      (then_near (Keeping 12 divide) (Then runs tells) (few_code_near (Keeping 12 divide) 44 (omega arith) division_takes)
      (then_near runs tells (runs_near check.size (runs_of check)) (few_code_near tells 2 (omega arith) tells_takes)))

-- ---- with what is behind the code

abbrev behind : ℕ → List Item
behind l = item.Jump Jeq l ∷ item.Is raise ∷ item.Label l ∷ return ∷ []

behind_takes : (l : ℕ) → bytes (behind l) ≤ 10
behind_takes l = omega arith

behind_between : (l : ℕ) → AreBetween l (suc l) (behind l)
behind_between l = ((omega arith, omega arith), (tt, ((omega arith, omega arith), (tt, tt))))

checked_near : (c : Code) → IsNearCode c → IsNear (items_from c 0 ++ behind (labels c))
checked_near c near =
    both_near (items_from c 0) (behind (labels c)) 0 (labels c) (suc (labels c))
    (code_between 0 (labels c) c 0 (omega arith) (omega arith)) (behind_between (labels c)) (near 0)
    (few_near (behind (labels c)) (let t = behind_takes (labels c) in omega (arith, t)))

checked_takes : (c : Code) (n : ℕ) → Takes n c → bytes (items_from c 0 ++ behind (labels c)) ≤ n + 10
checked_takes c n takes = let e = bytes-append (items_from c 0) (behind (labels c)) in let a = takes 0 in let b = behind_takes (labels c) in omega (arith, e, a, b)

within : (a b n m : ℕ) → a ≤ b → b ≤ 4 + (44 + (24 * n + 2)) + 10 → n ≤ m → a ≤ 24 * m + 62
within a b n m below few le = omega (arith, below, few, le)

pub checks_are_small : ChecksAreSmall
checks_are_small check sizes shortest =
    within _ (bytes (check_items check)) (length (runs_of check)) (length check.runs)
    (shortest_within (check_items check) sizes (checked_near (check_code check) (code_near check)) shortest)
    (checked_takes (check_code check) _ (code_takes check)) (fewer check)
