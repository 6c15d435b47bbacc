-- What each row's task does for some answers and turns of its loops, as gone through by hand.
use Rattle.std.specs.Prelude.{◌≡◌, ℕ, true, false, List, [], ◌∷◌, map}
use Rattle.nm_base.specs.declared.action.Action.{Action}
use Rattle.nm_base.specs.declared.action.Action.TheVariants.{Load, Store, In, Out, Post, Begin, End, Tick, Fault}
use Rattle.core_act.specs.Actions.{actions_of}
use Rattle.act_rows.specs.declared.row.Row.{Row}
use Rattle.act_rows.specs.declared.row.Row.TheVariants.{LostUpdate, LongStored, Local, Pointed, Element, SecondField, Branch, While, DoWhile, Continued, Broken, Switch, Returned, Inlined, Cleared, Shown}
use Rattle.act_rows.specs.declared.row.Value.TheVariants as value
use Rattle.act_rows.specs.Bodies.{program, statement_of}
use Rattle.act_rows.specs.FirstRun.{first_run}

-- a row, what its Loads, Ins and Posts are answered, how often each loop may turn, and the actions
pub record Done : Type 0 where
  pub row : Row
  pub answers : List ℕ
  pub turns : ℕ
  pub actions : List Action

abbrev pub done : Row → (answers : List ℕ) → (turns : ℕ) → List Action → Done
done row answers turns actions = record { row = row; answers = answers; turns = turns; actions = actions }

abbrev pub found : Done → List Action
found d = actions_of (program (statement_of d.row)) 2 d.answers d.turns

abbrev pub AreDone : List Done → Type 0
AreDone rows = map found rows ≡ map (λ d. d.actions) rows

abbrev pub x : ℕ
x = 0x1100

abbrev pub asked : Action
asked = In 0x0132

abbrev pub asked_next : Action
asked_next = In 0x0134

abbrev pub step : Action
step = Out 0x0136 0

abbrev pub shown : ℕ → Action
shown v = Out 0x0130 v

pub record WorkedRows : Type 0 where
  pub lost_update : AreDone (
      done LostUpdate (41 ∷ []) 0 (Load x true ∷ Store x true 42 ∷ [])
      ∷ done LostUpdate [] 0 (Load x true ∷ [])
      ∷ [])
  pub accesses : AreDone (
      done (Shown value.OldValue) (41 ∷ []) 0 (Load x true ∷ Store x true 42 ∷ shown 41 ∷ [])
      ∷ done (Shown value.NewValue) (255 ∷ []) 0 (Load 0x110A false ∷ Store 0x110A false 0 ∷ shown 0 ∷ [])
      ∷ done LongStored [] 0 (Store 0x110C true 4464 ∷ Store 0x110E true 1 ∷ [])
      ∷ done (Shown value.LongRead) (9 ∷ 7 ∷ []) 0 (Load 0x110C true ∷ Load 0x110E true ∷ shown 7 ∷ [])
      ∷ done (Shown value.LongRead) (9 ∷ []) 0 (Load 0x110C true ∷ Load 0x110E true ∷ [])
      ∷ done (Shown value.ByteRead) (300 ∷ []) 0 (Load 0x110A false ∷ shown 44 ∷ [])
      ∷ done Local (258 ∷ []) 0 (asked ∷ shown 2 ∷ [])
      ∷ [])
  pub places : AreDone (
      done Pointed (0x1103 ∷ []) 0 (Load 0x1104 true ∷ Store 0x1103 false 1 ∷ [])
      ∷ done Pointed (0x1101 ∷ []) 0 (Load 0x1104 true ∷ Fault 2 ∷ [])
      ∷ done Element (1 ∷ 300 ∷ []) 0 (asked ∷ asked_next ∷ Store 0x1103 false 44 ∷ [])
      ∷ done Element (2 ∷ 300 ∷ []) 0 (asked ∷ Fault 1 ∷ [])
      ∷ done Element (65535 ∷ 300 ∷ []) 0 (asked ∷ Fault 1 ∷ [])
      ∷ done SecondField [] 0 (Store 0x1108 true 6 ∷ [])
      ∷ [])
  pub operators : AreDone (
      done (Shown value.Moved) (3 ∷ []) 0 (asked ∷ shown 0x1106 ∷ [])
      ∷ done (Shown value.Moved) (65535 ∷ []) 0 (asked ∷ shown 0x10FE ∷ [])
      ∷ done (Shown value.Apart) (3 ∷ []) 0 (asked ∷ shown 3 ∷ [])
      ∷ done (Shown value.Apart) (65535 ∷ []) 0 (asked ∷ shown 65535 ∷ [])
      ∷ done (Shown value.Negative) (1 ∷ []) 0 (asked ∷ shown 65535 ∷ [])
      ∷ done (Shown value.Complement) (5 ∷ []) 0 (asked ∷ shown 65530 ∷ [])
      ∷ done (Shown value.Zero) (0 ∷ []) 0 (asked ∷ shown 1 ∷ [])
      ∷ done (Shown value.Zero) (5 ∷ []) 0 (asked ∷ shown 0 ∷ [])
      ∷ done (Shown value.Quotient) (65534 ∷ []) 0 (asked ∷ shown 65533 ∷ [])
      ∷ done (Shown value.Quotient) (0 ∷ []) 0 (asked ∷ Fault 3 ∷ [])
      ∷ done (Shown value.Narrowed) (200 ∷ []) 0 (asked ∷ shown 65480 ∷ [])
      ∷ done (Shown value.Null) [] 0 (shown 0 ∷ [])
      ∷ [])
  pub parts_in_order : AreDone (
      done (Shown value.Both) (0 ∷ 7 ∷ []) 0 (asked ∷ shown 0 ∷ [])
      ∷ done (Shown value.Both) (5 ∷ 7 ∷ []) 0 (asked ∷ asked_next ∷ shown 1 ∷ [])
      ∷ done (Shown value.Either) (5 ∷ 7 ∷ []) 0 (asked ∷ shown 1 ∷ [])
      ∷ done (Shown value.Either) (0 ∷ 7 ∷ []) 0 (asked ∷ asked_next ∷ shown 1 ∷ [])
      ∷ done (Shown value.Chosen) (0 ∷ []) 0 (asked ∷ shown 9 ∷ [])
      ∷ done (Shown value.Chosen) (1 ∷ 3 ∷ []) 0 (asked ∷ asked_next ∷ shown 3 ∷ [])
      ∷ done (Shown value.InOrder) (7 ∷ 3 ∷ []) 0 (asked ∷ asked_next ∷ shown 3 ∷ [])
      ∷ [])
  pub calls_and_posts : AreDone (
      done (Shown value.Called) (9 ∷ []) 0 (asked ∷ Tick ∷ Tick ∷ shown 9 ∷ [])
      ∷ done (Shown value.Called) [] 0 (asked ∷ [])
      ∷ done (Shown value.Posted) (261 ∷ []) 0 (Post 0 ∷ shown 5 ∷ [])
      ∷ done (Shown value.Posted) [] 0 (Post 0 ∷ [])
      ∷ done Inlined (200 ∷ 59 ∷ []) 0 (asked ∷ Tick ∷ Begin ∷ asked_next ∷ End ∷ Tick ∷ shown 3 ∷ [])
      ∷ done Cleared [] 0 (shown 0 ∷ [])
      ∷ [])
  pub loops : AreDone (
      done While (1 ∷ 0 ∷ []) 2 (Tick ∷ asked ∷ shown 1 ∷ step ∷ Tick ∷ asked ∷ [])
      ∷ done While (1 ∷ 1 ∷ []) 1 (Tick ∷ asked ∷ shown 1 ∷ step ∷ [])
      ∷ done While (1 ∷ 1 ∷ []) 0 []
      ∷ done DoWhile (0 ∷ []) 1 (Tick ∷ shown 1 ∷ asked ∷ [])
      ∷ done Continued (1 ∷ 0 ∷ []) 2 (Tick ∷ asked ∷ step ∷ Tick ∷ asked ∷ [])
      ∷ done Broken [] 1 (Tick ∷ Begin ∷ End ∷ shown 2 ∷ [])
      ∷ [])
  pub choices : AreDone (
      done Branch (1 ∷ []) 0 (asked ∷ shown 1 ∷ [])
      ∷ done Branch (0 ∷ []) 0 (asked ∷ shown 2 ∷ [])
      ∷ done Switch (1 ∷ []) 0 (asked ∷ shown 1 ∷ shown 2 ∷ [])
      ∷ done Switch (9 ∷ []) 0 (asked ∷ shown 2 ∷ [])
      ∷ done Returned (7 ∷ []) 0 (Begin ∷ asked ∷ End ∷ [])
      ∷ done Returned (0 ∷ []) 0 (Begin ∷ asked ∷ End ∷ shown 1 ∷ [])
      ∷ [])
  -- the module that writes 5 and then 2 when the mote has booted
  pub boot : actions_of first_run first_run.boot [] 0
      ≡ Begin ∷ Tick ∷ Tick ∷ Tick ∷ Tick ∷ End ∷ Tick ∷ Out 0x0120 5 ∷ Out 0x0120 2 ∷ Tick ∷ []
