-- The state in which a run begins.
use Rattle.std.proofs.Common.{◌≡◌, ℕ, false, List, [], Some, None, ap, ◌∙◌}
use Rattle.mote_devices.specs.declared.state.BoardState.{BoardState}
use Rattle.mote_devices.specs.Board.{with_closed_mask}
use Rattle.nesc_core.specs.Plain.{Program}
use Rattle.core_meaning.specs.SourceOf.{source_of}
use Rattle.run_meaning.specs.State.{Context, new_context, start}

pub starts : (p : Program) (b : BoardState) (store : ℕ → ℕ) (tasks : List ℕ) (base : Context) → store ≡ (λ a. 0) → tasks ≡ [] → base ≡ new_context (Some p.boot)
    → record { store = store; board = with_closed_mask b; tasks = tasks; base = Some base; handler = None; stopped = false } ≡ start (source_of p) b
starts p b store tasks base zeros none begun =
    ap (λ f. record { store = f; board = with_closed_mask b; tasks = tasks; base = Some base; handler = None; stopped = false }) zeros
    ∙ ap (λ ts. record { store = λ a. 0; board = with_closed_mask b; tasks = ts; base = Some base; handler = None; stopped = false }) none
    ∙ ap (λ c. record { store = λ a. 0; board = with_closed_mask b; tasks = []; base = Some c; handler = None; stopped = false }) begun
