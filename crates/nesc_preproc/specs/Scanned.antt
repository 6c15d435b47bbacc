-- The scan: directives are obeyed, and the runs of ordinary tokens between them are expanded (C99 5.1.1.2, phase 4).
use Rattle.std.specs.Prelude.{ℕ, zero, suc, Bool, true, false, List, [], ◌∷◌, ◌++◌, length, map, Option, Some, None, Result, Ok, Err}
use Rattle.nm_base.specs.declared.token.Token.{Token}
use Rattle.nm_base.specs.declared.pos.Pos.{Pos}
use Rattle.nm_base.specs.declared.fault.Fault.{Fault}
use Rattle.nesc_macros.specs.declared.definition.Macro.{Macro}
use Rattle.nesc_macros.specs.Invocation.{Name}
use Rattle.nesc_macros.specs.Expansion.{Answer, expanded_tokens}
use Rattle.nesc_preproc.specs.declared.conditional.Conditional.{Conditional}
use Rattle.nesc_preproc.specs.Lines.{Item, Read, End, begins_directive, line_of, behind_line, run_of, behind_run, file_front, behind_file}
use Rattle.nesc_preproc.specs.Sources.{Known, World, opened}
use Rattle.nesc_preproc.specs.Conditionals.{is_live, outermost}
use Rattle.nesc_preproc.specs.Obeyed.{Situation, Outcome, with_tokens, malformed, obeyed}

-- what is kept, the macros, and the open conditionals of each open file, the innermost first
pub record State : Type 0 where
  pub known : Known
  pub macros : List Macro
  pub files : List (List Conditional)

-- the tokens, or the refusal, and what is kept by then
pub record Scanned : Type 0 where
  pub value : Result (List Token) Fault
  pub known : Known

abbrev pub ends_with : Result (List Token) Fault → Known → Option Scanned
ends_with value known = Some (record { value = value; known = known })

-- of the innermost file
abbrev pub conditionals_of : List (List Conditional) → List Conditional
conditionals_of [] = []
conditionals_of (cs ∷ files) = cs

abbrev pub outer_of : List (List Conditional) → List (List Conditional)
outer_of [] = []
outer_of (cs ∷ files) = files

abbrev pub situation : State → Situation
situation st = record { known = st.known; macros = st.macros; conditionals = conditionals_of st.files }

abbrev pub state_at : Situation → List (List Conditional) → State
state_at s outer = record { known = s.known; macros = s.macros; files = s.conditionals ∷ outer }

-- all tokens of a file, and its end, before what there is
abbrev pub put_file : List Token → List Item → List Item
put_file ts items = map Read ts ++ End ∷ items

abbrev pub put_tokens : List Token → List Item → List Item
put_tokens ts items = map Read ts ++ items

abbrev pub go_on_with : (State → List Item → Option Scanned) → List (List Conditional) → List Item → Situation → Option (List Token) → Option Scanned
go_on_with go outer items now None = go (state_at now outer) items
go_on_with go outer items now (Some header) = go (record { known = now.known; macros = now.macros; files = [] ∷ now.conditionals ∷ outer }) (put_file header items)

-- after a directive
abbrev pub by_outcome : (State → List Item → Option Scanned) → List (List Conditional) → List Item → Situation → Result (Option (List Token)) Fault → Option Scanned
by_outcome go outer items now (Err e) = ends_with (Err e) now.known
by_outcome go outer items now (Ok header) = go_on_with go outer items now header

abbrev pub behind_directive : (State → List Item → Option Scanned) → List (List Conditional) → List Item → Option Outcome → Option Scanned
behind_directive go outer items None = None
behind_directive go outer items (Some o) = by_outcome go outer items o.now o.value

abbrev pub prefixed : List Token → Result (List Token) Fault → Known → Option Scanned
prefixed front (Ok ts) known = ends_with (Ok (front ++ ts)) known
prefixed front (Err e) known = ends_with (Err e) known

abbrev pub before : List Token → Option Scanned → Option Scanned
before front None = None
before front (Some r) = prefixed front r.value r.known

-- after the expansion of a run
abbrev pub by_expansion : (State → List Item → Option Scanned) → List (List Conditional) → List Item → Situation → Result (List Token) Fault → Option Scanned
by_expansion go outer items now (Err e) = ends_with (Err e) now.known
by_expansion go outer items now (Ok ts) = before ts (go (state_at now outer) items)

abbrev pub behind_expansion : (State → List Item → Option Scanned) → List (List Conditional) → List Item → Situation → Option (Answer (List Token)) → Option Scanned
behind_expansion go outer items s None = None
behind_expansion go outer items s (Some a) = by_expansion go outer items (with_tokens s a.count) a.value

-- the run that begins with t is expanded, or skipped
abbrev pub behind_run_of : Bool → ℕ → (State → List Item → Option Scanned) → State → List Token → List Item → Option Scanned
behind_run_of false steps go st run items = go st items
behind_run_of true steps go st run items = behind_expansion go (outer_of st.files) items (situation st) (expanded_tokens steps st.macros st.known.tokens run)

-- the end of the innermost file, in which no conditional is left open
abbrev pub behind_end : (State → List Item → Option Scanned) → State → List Item → Option Pos → Option Scanned
behind_end go st items None = go (record { known = st.known; macros = st.macros; files = outer_of st.files }) items
behind_end go st items (Some unclosed) = ends_with (Err (malformed unclosed)) st.known

-- at the token t, before the tokens of its file and what is behind these
abbrev pub at_token : Bool → ℕ → (State → List Item → Option Scanned) → World → State → Token → List Token → List Item → Option Scanned
at_token true steps go world st t ts items = behind_directive go (outer_of st.files) (put_tokens (behind_line ts) items) (obeyed steps world (length st.files) t.pos (line_of ts) (situation st))
at_token false steps go world st t ts items = behind_run_of (is_live (conditionals_of st.files)) steps go st (t ∷ run_of ts) (put_tokens (behind_run ts) items)

-- what is before the scan, read in at most so many steps
abbrev pub scanned : ℕ → World → State → List Item → Option Scanned
scanned zero world st items = None
scanned (suc steps) world st [] = ends_with (Ok []) st.known
scanned (suc steps) world st (End ∷ items) = behind_end (scanned steps world) st items (outermost (conditionals_of st.files))
scanned (suc steps) world st (Read t ∷ items) = at_token (begins_directive t) steps (scanned steps world) world st t (file_front items) (behind_file items)

abbrev pub scanned_from : ℕ → World → Known → Result (List Token) Fault → Option Scanned
scanned_from steps world known (Err e) = ends_with (Err e) known
scanned_from steps world known (Ok ts) = scanned steps world (record { known = known; macros = []; files = [] ∷ [] }) (put_file ts [])

-- the expansion of a file, in at most so many steps; macros are new in each
abbrev pub file_expanded : ℕ → World → Known → Name → Option Scanned
file_expanded steps world known name = scanned_from steps world (opened world known name).known (opened world known name).value
