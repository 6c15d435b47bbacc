-- The files of one module and of two, and the schedule, written out; and a name and a line at the most modules (own).
use Rattle.std.specs.Prelude.{◌≡◌, ℕ, List, [], ◌∷◌, Option, Some, slice_get, codes}
use Rattle.std.specs.Option.{option_map, option_and_then}
use Rattle.std.specs.Str.Lines.{lines}
use Rattle.mote_devices.specs.declared.shown.Given.TheVariants.{Arrive}
use Rattle.generated_files.specs.Generated.{File, generated}
use Rattle.generated_files.specs.Schedule.{generated_rows}

-- the same in each application
abbrev pub interrupt_file : File
interrupt_file = (codes "GenIrqC.nc", codes "module GenIrqC { uses interface Boot; }\nimplementation {\n  uint16_t c;\n  task void r() { uint16_t v; atomic v = c; port_write(0x0130, v); }\n  void rx() @atomic_hwevent() @vector(2) { c++; post r(); }\n  event void Boot.booted() { port_write(0x0100, 4); }\n}\n")

abbrev pub first_module : File
first_module = (codes "G0C.nc", codes "module G0C { uses interface Boot; }\nimplementation {\n  uint16_t n;\n  task void t() { n += 1; port_write(0x0120, n); if (n < 3 * 1) post t(); }\n  event void Boot.booted() { post t(); }\n}\n")

abbrev pub second_module : File
second_module = (codes "G1C.nc", codes "module G1C { uses interface Boot; }\nimplementation {\n  uint16_t n;\n  task void t() { n += 2; port_write(0x0120, n); if (n < 3 * 2) post t(); }\n  event void Boot.booted() { post t(); }\n}\n")

abbrev pub one_module : List File
one_module =
    (codes "GenAppC.nc", codes "configuration GenAppC { }\nimplementation {\n  components MainC, G0C, GenIrqC;\n  G0C.Boot -> MainC;\n  GenIrqC.Boot -> MainC;\n}\n")
    ∷ first_module ∷ interrupt_file ∷ []

abbrev pub two_modules : List File
two_modules =
    (codes "GenAppC.nc", codes "configuration GenAppC { }\nimplementation {\n  components MainC, G0C, G1C, GenIrqC;\n  G0C.Boot -> MainC;\n  G1C.Boot -> MainC;\n  GenIrqC.Boot -> MainC;\n}\n")
    ∷ first_module ∷ second_module ∷ interrupt_file ∷ []

-- the name of a file, and a line of its text
abbrev pub name_at : List File → ℕ → Option (List ℕ)
name_at files i = option_map (λ (file : File). file.0) (slice_get files i)

abbrev pub line_at : List File → (i line : ℕ) → Option (List ℕ)
line_at files i line = option_and_then (λ (file : File). slice_get (lines file.1) line) (slice_get files i)

pub record FileRows : Type 0 where
  pub one : generated 1 ≡ one_module
  pub two : generated 2 ≡ two_modules
  pub last_name : name_at (generated 60) 60 ≡ Some (codes "G59C.nc")
  pub last_task : line_at (generated 60) 60 3 ≡ Some (codes "  task void t() { n += 60; port_write(0x0120, n); if (n < 3 * 60) post t(); }")
  pub last_wire : line_at (generated 60) 0 62 ≡ Some (codes "  G59C.Boot -> MainC;")

pub record ScheduleRows : Type 0 where
  pub all : generated_rows ≡
      record { slot = 900000; given = Arrive 2 0 } ∷ record { slot = 901000; given = Arrive 2 1 }
      ∷ record { slot = 902000; given = Arrive 2 2 } ∷ record { slot = 903000; given = Arrive 2 3 }
      ∷ record { slot = 904000; given = Arrive 2 4 } ∷ record { slot = 905000; given = Arrive 2 5 }
      ∷ record { slot = 906000; given = Arrive 2 6 } ∷ record { slot = 907000; given = Arrive 2 7 }
      ∷ record { slot = 908000; given = Arrive 2 8 } ∷ record { slot = 909000; given = Arrive 2 9 } ∷ []
