-- The code of reset and of the lines can be laid out: its instructions are written forms, and it has no labels.
use Rattle.std.proofs.Common.{◌≡◌, ℕ, ◌+◌, ◌<◌, ◌≤◌, Bool, true, false, List, [], ◌∷◌, ◌++◌, map, Option, Some, None, refl, arith}
use Rattle.std.specs.Prelude.{◌&&◌}
use Rattle.std.specs.List.{AllByRecursion}
use Rattle.msp_isa.specs.declared.code.Item.{Item}
use Rattle.msp_isa.specs.declared.code.Item.TheVariants as item
use Rattle.msp_isa.specs.declared.instr.Instr.{Instr}
use Rattle.msp_isa.specs.declared.instr.Instr.TheVariants.{Reti}
use Rattle.msp_isa.specs.declared.instr.Op1.TheVariants.{Push}
use Rattle.msp_isa.specs.Decode.{is_forbidden}
use Rattle.msp_isa.specs.Encode.{IsWritten}
use Rattle.code_pieces.specs.Pieces.{awake, entry, exit, functions, handler_of, pop, push, reset_of, restored, saved}
use Rattle.msp_layout.specs.Laid.{IsGoodItem}
use Rattle.select_emitter.proofs.Written.{eight_source, sp_base}
use Rattle.image_code.proofs.Labels.{IsStraight, all_on, no_jump}
use Rattle.image_code.proofs.Selected.{IsLaidWell}

straight_well : (fns : ℕ) (is : List Item) → AllByRecursion (IsGoodItem fns) is → AllByRecursion IsStraight is → IsLaidWell fns is
straight_well fns is good straight = record { each = good; labels = λ k l c at. absurd (no_jump is straight k l c at) }

instructions_straight : (is : List Instr) → AllByRecursion IsStraight (map item.Is is)
instructions_straight [] = tt
instructions_straight (i ∷ is) = (tt, instructions_straight is)

calls_straight : (fs : List ℕ) → AllByRecursion IsStraight (map item.CallFn fs)
calls_straight [] = tt
calls_straight (f ∷ fs) = (tt, calls_straight fs)

instructions_good : (fns : ℕ) (is : List Instr) → AllByRecursion IsWritten is → AllByRecursion (IsGoodItem fns) (map item.Is is)
instructions_good fns [] h = tt
instructions_good fns (i ∷ is) h = (h.0, instructions_good fns is h.1)

calls_good : (fns : ℕ) (fs : List ℕ) → AllByRecursion (λ f. f < fns) fs → AllByRecursion (IsGoodItem fns) (map item.CallFn fs)
calls_good fns [] h = tt
calls_good fns (f ∷ fs) h = (h.0, calls_good fns fs h.1)

-- ---- pushes and pops

never : (b : Bool) → (b && false) ≡ false
never true = refl
never false = refl

push_allowed : (r : ℕ) → is_forbidden Push false 0 r ≡ false
push_allowed r = never _

entry_written : AllByRecursion IsWritten entry
entry_written = (
  at 15 (omega arith) (omega arith),
  (
    at 14 (omega arith) (omega arith),
    (
      at 13 (omega arith) (omega arith),
      (
        at 12 (omega arith) (omega arith),
        (
          at 11 (omega arith) (omega arith),
          (
            at 10 (omega arith) (omega arith),
            (at 9 (omega arith) (omega arith), (at 8 (omega arith) (omega arith), (at 7 (omega arith) (omega arith), (at 6 (omega arith) (omega arith), (at 5 (omega arith) (omega arith), (at 4 (omega arith) (omega arith), tt)))))),
          ),
        ),
      ),
    ),
  ),
)
  where
    at : (r : ℕ) → 4 ≤ r → r < 16 → IsWritten (push r)
    at r le lt = ((lt, λ e. omega (arith, e, le)), push_allowed r)

pops_written : (rs : List ℕ) → AllByRecursion (λ r. r < 16) rs → AllByRecursion IsWritten (map pop rs)
pops_written [] h = tt
pops_written (r ∷ rs) h = (((sp_base, λ e. omega (arith, e)), h.0), pops_written rs h.1)

restored_small : AllByRecursion (λ r. r < 16) restored
restored_small = (omega arith, (omega arith, (omega arith, (omega arith, (omega arith, (omega arith, (omega arith, (omega arith, (omega arith, (omega arith, (omega arith, (omega arith, tt))))))))))))

exit_written : AllByRecursion IsWritten exit
exit_written = all_on IsWritten (map pop restored) (awake ∷ Reti ∷ []) (pops_written restored restored_small) ((tt, sp_base), (tt, tt))

-- ---- functions

functions_small : (fns : ℕ) (body : Option ℕ) → ((f : ℕ) → body ≡ Some f → f < fns) → AllByRecursion (λ f. f < fns) (functions body)
functions_small fns None h = tt
functions_small fns (Some f) h = (h f refl, tt)

pub handler_well : (fns : ℕ) (body : Option ℕ) → ((f : ℕ) → body ≡ Some f → f < fns) → IsLaidWell fns (handler_of body).items
handler_well fns body h =
    straight_well fns (handler_of body).items
    (all_on (IsGoodItem fns) (map item.Is entry) _ (instructions_good fns entry entry_written)
    (all_on (IsGoodItem fns) (map item.CallFn (functions body)) _ (calls_good fns (functions body) (functions_small fns body h)) (instructions_good fns exit exit_written)))
    (all_on IsStraight (map item.Is entry) _ (instructions_straight entry) (all_on IsStraight (map item.CallFn (functions body)) _ (calls_straight (functions body)) (instructions_straight exit)))

pub reset_well : (fns boot : ℕ) → boot < fns → IsLaidWell fns (reset_of boot).items
reset_well fns boot lt =
    straight_well fns (reset_of boot).items ((tt, omega arith), ((eight_source, omega arith), (lt, ((tt, omega arith), ((omega arith, omega arith), tt)))))
    (tt, (tt, (tt, (tt, (tt, tt)))))
