-- What is printed of an application: the report, the bytes of data and of stack, the image, and the trace of its run or a line of its totals (own).
use Rattle.std.specs.Prelude.{◌≡◌, ℕ, List, [], ◌∷◌, ◌++◌, Option, codes, decimal}
use Rattle.mote_devices.specs.declared.state.BoardState.{BoardState}
use Rattle.mote_devices.specs.declared.shown.Due.{Due}
use Rattle.nesc_core.specs.Plain.{Program}
use Rattle.race_checker.specs.declared.row.Row.{Row}
use Rattle.race_checker.specs.Report.{IsReport}
use Rattle.race_text.specs.Text.{report_text}
use Rattle.msp_isa.specs.Image.{image_map}
use Rattle.mote_text.specs.ImageText.{image_text}
use Rattle.mote_run.specs.RunText.{mote_text}
use Rattle.nm_driver.specs.Generated.{totals_line}

-- the text of a program's race report, given the names of the files
pub record IsReportText (names : ℕ → Option (List ℕ)) (program : Program) (text : List ℕ) : Type 0 where
  pub rows : List Row
  pub report : IsReport program rows
  pub printed : text ≡ report_text names program rows

-- the bytes of data and stack
abbrev pub sizes_text : ℕ → ℕ → List ℕ
sizes_text ram stack = codes "data " ++ (decimal ram ++ (10 ∷ (codes "stack " ++ (decimal stack ++ 10 ∷ []))))

-- a report, sizes, and an image
abbrev pub build_text : (report : List ℕ) → List ℕ → List ℕ → ℕ → ℕ → List ℕ
build_text report code vectors ram stack = report ++ (sizes_text ram stack ++ image_text code vectors)

-- the line before a trace
abbrev pub trace_line : List ℕ
trace_line = codes "trace" ++ 10 ∷ []

-- with the trace of the image in n slots, on a board, with the rows of a schedule
abbrev pub run_text : (report : List ℕ) → List ℕ → List ℕ → ℕ → ℕ → BoardState → List Due → ℕ → List ℕ
run_text report code vectors ram stack board rows n =
    build_text report code vectors ram stack ++ (trace_line ++ mote_text (image_map code vectors) board rows n)

-- with the totals of the run of the image of n modules, on a board
abbrev pub gen_text : (report : List ℕ) → List ℕ → List ℕ → ℕ → ℕ → BoardState → ℕ → List ℕ
gen_text report code vectors ram stack board n = build_text report code vectors ram stack ++ totals_line n (image_map code vectors) board
