-- The one line of each answer that has one (own).
use Rattle.std.specs.Prelude.{ℕ, ◌/◌, ◌%◌, List, [], ◌∷◌, ◌++◌, Option, Some, None, codes, decimal}
use Rattle.nm_base.specs.declared.refusal.Refusal.{Refusal}
use Rattle.nm_base.specs.declared.refusal.Refusal.TheVariants.{LeftOut, Recursion, NotAsync}
use Rattle.nm_base.specs.declared.limit.Limit.{Limit as LimitOf}
use Rattle.nm_base.specs.declared.limit.Room.{Room}
use Rattle.nm_base.specs.declared.limit.Room.TheVariants as room
use Rattle.nm_base.specs.Words.{left_word, refusal_number, refusal_pos, which_name}
use Rattle.nesc_core.specs.Plain.{Program}
use Rattle.race_text.specs.Text.{path_text}
use Rattle.nm_driver.specs.declared.status.Status.{Status}
use Rattle.nm_driver.specs.declared.status.Status.TheVariants.{Refused, Usage, Missing, ReadFault, BadSchedule, Limit, TooLarge, BadImage}

-- the number has two digits
abbrev pub number_text : Refusal → List ℕ
number_text r = codes "refused E" ++ (decimal (refusal_number r / 10) ++ (decimal (refusal_number r % 10) ++ codes " "))

abbrev pub place_text : Refusal → List ℕ
place_text r = codes ":" ++ (decimal (refusal_pos r).line ++ (codes ":" ++ decimal (refusal_pos r).col))

-- a chain of calls in a program
abbrev pub chain_text : Option Program → List ℕ → List ℕ
chain_text None path = []
chain_text (Some p) path = codes " " ++ path_text p path

-- what stands behind a place: the word of a form that is left out, the bodies of a chain of calls
abbrev pub detail : Option Program → Refusal → List ℕ
detail program (LeftOut pos left) = codes " " ++ left_word left
detail program (Recursion pos path) = chain_text program path
detail program (NotAsync pos path) = chain_text program path
detail program _ = []

abbrev pub refusal_text : (file detail : List ℕ) → Refusal → List ℕ
refusal_text file detail r = number_text r ++ (file ++ (place_text r ++ detail))

abbrev pub limit_text : LimitOf → List ℕ
limit_text l = codes "limit " ++ (which_name l.which ++ (codes " " ++ (decimal l.have ++ 10 ∷ [])))

abbrev pub room_text : Room → ℕ → List ℕ
room_text room.Code need = codes "too large code " ++ (decimal need ++ (codes " of 49120" ++ 10 ∷ []))
room_text room.Ram need = codes "too large ram " ++ (decimal need ++ (codes " of 10240" ++ 10 ∷ []))

-- of an answer, where a refusal stands in this file and has this detail
abbrev pub answer_line : (file detail : List ℕ) → Status → List ℕ
answer_line file detail (Refused r) = refusal_text file detail r ++ 10 ∷ []
answer_line file detail Usage = codes "usage: nescmote MODE APP [SCHEDULE] [--budget N]" ++ 10 ∷ []
answer_line file detail (Missing name) = codes "missing " ++ (name ++ 10 ∷ [])
answer_line file detail ReadFault = codes "read fault" ++ 10 ∷ []
answer_line file detail (BadSchedule line) = codes "schedule line " ++ (decimal line ++ 10 ∷ [])
answer_line file detail (BadImage line) = codes "image line " ++ (decimal line ++ 10 ∷ [])
answer_line file detail (Limit l) = limit_text l
answer_line file detail (TooLarge r need) = room_text r need
answer_line file detail _ = []

-- an answer that has no place in a file
abbrev pub plain_line : Status → List ℕ
plain_line status = answer_line [] [] status
