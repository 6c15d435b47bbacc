-- A program behind what is wired.
use Rattle.std.proofs.Common.{inl, inr, refl, Ok, Err}
use Rattle.nm_base.specs.declared.fault.Fault.{Fault}
use Rattle.nesc_core.specs.Plain.{Program}
use Rattle.wire_reading.specs.Order.{Name}
use Rattle.wire_reading.specs.Told.{Told}
use Rattle.unit_parsing.specs.Parsing.{Declares, Parses}
use Rattle.wire_loading.specs.declared.stopped.Stopped.{Stopped}
use Rattle.nesc_wiring.specs.Loads.{Loads, Wiring}
use Rattle.nesc_programs.specs.Programs.{ElaboratesTo, HasWiring, IsProgram, IsStopped}

module _ (told : Told) (app : Name) where
  pub is_program : (w : Wiring) (p : Program) → HasWiring told app w → ElaboratesTo w (Ok p) → IsProgram told app p w.known
  is_program w p loads elaborates = record { wiring = w; loads = loads; elaborates = elaborates; is_known = refl }

  pub stopped_in_loading : (s : Stopped) → Loads Declares Parses told app (Err s) → IsStopped told app s.fault s.reading
  stopped_in_loading s h = inl h

  pub stopped_behind : (w : Wiring) (e : Fault) → HasWiring told app w → ElaboratesTo w (Err e) → IsStopped told app e w.known
  stopped_behind w e loads none = inr (record { wiring = w; loads = loads; refused = none; is_known = refl })

pub ruleset applications = (is_program, stopped_in_loading, stopped_behind)
