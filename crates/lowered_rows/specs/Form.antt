-- The rules of form of middle code, decided for a function that stands alone (own).
use Rattle.std.specs.Prelude.{◌≡◌, ℕ, ◌/◌, ◌%◌, ◌^◌, Bool, true, false, ◌&&◌, ◌==◌, nat_lt, List, [], ◌∷◌, length, Option, Some, None}
use Rattle.std.specs.List.{list_all}
use Rattle.nm_base.specs.declared.int_type.IntType.{IntType}
use Rattle.mid_code.specs.declared.help.HelpOp.{HelpOp}
use Rattle.mid_code.specs.declared.instr.Mid.{Mid}
use Rattle.mid_code.specs.declared.instr.Mid.TheVariants.{Call, Help, Label, Ret}
use Rattle.mid_code.specs.declared.code.MidFn.{MidFn}
use Rattle.mid_code.specs.declared.code.MidCode.{MidCode}
use Rattle.mid_code.specs.Help.{first_check, operation_at, places, type_at}
use Rattle.mid_code.specs.Form.{IsMidCode, goes_elsewhere, labels_named, passed_to, times, values_read, values_written}

abbrev pub are_below : ℕ → List ℕ → Bool
are_below n vs = list_all (λ v. nat_lt v n) vs

-- it names values and labels of its function
abbrev pub names_own : MidFn → Mid → Bool
names_own fn i = are_below fn.values (values_written i) && (are_below fn.values (values_read i) && list_all (λ l. nat_lt 0 (times l fn.code)) (labels_named i))

-- if it is a label, it stands once
abbrev pub stands_once : List Mid → Mid → Bool
stands_once code (Label l) = times l code == 1
stands_once code i = true

abbrev pub operation_fits : Option IntType → Option HelpOp → (ins outs : ℕ) → Bool
operation_fits None o ins outs = false
operation_fits (Some t) None ins outs = false
operation_fits (Some t) (Some o) ins outs = (ins == passed_to o t) && (outs == places t)

-- it calls no function and no check, and gives back nothing
abbrev pub stands_alone : Mid → Bool
stands_alone (Call g ins outs) = false
stands_alone (Help h ins outs) = nat_lt h first_check && operation_fits (type_at (h / 8)) (operation_at (h % 8)) (length ins) (length outs)
stands_alone (Ret vs) = length vs == 0
stands_alone i = true

abbrev pub ends_elsewhere : List Mid → Bool
ends_elsewhere [] = false
ends_elsewhere (i ∷ []) = goes_elsewhere i
ends_elsewhere (i ∷ j ∷ is) = ends_elsewhere (j ∷ is)

abbrev pub has_form : MidFn → Bool
has_form fn =
    list_all (names_own fn) fn.code && (list_all (stands_once fn.code) fn.code && (list_all stands_alone fn.code && (ends_elsewhere fn.code && nat_lt (length fn.code) (2 ^ 32))))

-- a program of one function
abbrev pub alone : MidFn → MidCode
alone fn = record { fns = fn ∷ []; checks = [] }

abbrev pub FormIsDecided : Type 0
FormIsDecided = (fn : MidFn) → fn.params ≡ [] → has_form fn ≡ true → IsMidCode (alone fn)
