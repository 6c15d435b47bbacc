-- One step of the mote that is kept, behind what is due, is one slot of the mote that it stands for.
use Rattle.std.proofs.Common.{◌≡◌, ℕ, ◌+◌, Bool, true, false, cond, min, List, [], ◌∷◌, ◌++◌, drop, length, refl, sym, ap, subst, ◌∙◌, append_assoc, append-nil}
use Rattle.mote_devices.specs.declared.shown.Due.{Due}
use Rattle.mote_devices.specs.declared.shown.Shown.{Shown}
use Rattle.mote_devices.specs.declared.shown.Shown.TheVariants as shown
use Rattle.mote_devices.specs.Outside.{Outside, board_ports, outside_given}
use Rattle.msp430_cpu.specs.declared.cpu.Stepped.{Stepped}
use Rattle.msp430_cpu.specs.Cpu.{Cpu}
use Rattle.msp430_cpu.specs.Memory.{Memory, memory_bus}
use Rattle.msp430_cpu.specs.Exec.{Joined, exec}
use Rattle.msp430_cpu.specs.Slots.{Running, slot, counted, counts, is_stopped, is_illegal, in_ports}
use Rattle.mote_bus.specs.declared.access.Access.{Access}
use Rattle.mote_bus.specs.Accesses.{events_of}
use Rattle.mote_bus.specs.Laws.{entry_of}
use Rattle.mote_bus.proofs.Shows.{shows}
use Rattle.mote_text.specs.TraceText.{trace_lines}
use Rattle.mote_run.specs.Rows.{happen, board_after, arrivals}
use Rattle.mote_run.specs.Held.{Held, Follows, all_given, step_of, after_step, forgotten}
use Rattle.mote_run.specs.RunText.{shown_behind, in_slot, slot_events}
use Rattle.mote_run.proofs.Writing.{lines_of, lines-append}
use Rattle.mote_run.proofs.Told.{told, told_cpu, told_ram, told_code, told_board, told_stopped}

happen_board : (rows : List Due) (o : Outside) → (happen rows o).board ≡ board_after o.board rows
happen_board [] o = refl
happen_board (row ∷ rows) o = happen_board rows (outside_given o row.given)

happen_stopped : (rows : List Due) (o : Outside) → (happen rows o).stopped ≡ o.stopped
happen_stopped [] o = refl
happen_stopped (row ∷ rows) o = happen_stopped rows (outside_given o row.given)

happen_shown : (rows : List Due) (o : Outside) → (happen rows o).shown ≡ o.shown ++ arrivals rows
happen_shown [] o = sym (append-nil o.shown)
happen_shown (row ∷ rows) o = happen_shown rows (outside_given o row.given) ∙ append_assoc o.shown (shown.Given row.given ∷ []) (arrivals rows)

drop_front : {A : Type 0} (a b : List A) → drop (length a) (a ++ b) ≡ b
drop_front [] b = refl
drop_front (x ∷ a) b = drop_front a b

-- the event of a word that is no instruction stands last
last_event : (t : Bool) (before given accessed entry all : List Shown) (e : Shown) → all ≡ (before ++ given) ++ (accessed ++ entry)
    → cond t (all ++ e ∷ []) all ≡ before ++ (given ++ (accessed ++ (entry ++ cond t (e ∷ []) [])))
last_event true before given accessed entry all e is =
    ap (λ l. l ++ e ∷ []) is
    ∙ append_assoc (before ++ given) (accessed ++ entry) (e ∷ [])
    ∙ append_assoc before given ((accessed ++ entry) ++ e ∷ [])
    ∙ ap (λ l. before ++ (given ++ l)) (append_assoc accessed entry (e ∷ []))
last_event false before given accessed entry all e is =
    is ∙ append_assoc before given (accessed ++ entry) ∙ ap (λ l. before ++ (given ++ (accessed ++ l))) (sym (append-nil entry))

-- a word that is no instruction is shown
told_shown : (s : Stepped) (j : Joined (Memory Outside)) → (told s j).bus.ports.shown ≡ cond (is_illegal s) (j.bus.ports.shown ++ shown.Fault 256 ∷ []) j.bus.ports.shown
told_shown s j = by_test (is_illegal s)
  where
    by_test : (t : Bool) → (cond t (in_ports board_ports.illegal j) j).bus.ports.shown ≡ cond t (j.bus.ports.shown ++ shown.Fault 256 ∷ []) j.bus.ports.shown
    by_test true = refl
    by_test false = refl

-- the same mote after a slot, and what the slot showed
pub record IsSlot (m : Held) (before after : Running Outside) (events : List Shown) : Type 0 where
  pub follows : Follows m after
  pub shown : after.joined.bus.ports.shown ≡ before.joined.bus.ports.shown ++ events

module _ (rows : List Due) where
  abbrev pub next : Running Outside → Running Outside
  next running = slot board_ports (happen rows) running

  abbrev pub stepped_after : Held → Held
  stepped_after m = after_step (all_given m rows) (step_of (all_given m rows))

  abbrev pub step_events : Held → List Shown
  step_events m = let s = step_of (all_given m rows) in arrivals rows ++ (events_of s.after.bus.accesses ++ shown_behind s.stepped)

  pub takes_slot : (m : Held) (running : Running Outside) → Follows m running → m.stopped ≡ false → IsSlot (stepped_after m) running (next running) (step_events m)
  takes_slot m running f on =
      let before = running.joined.bus.ports.shown in
      let j = forgotten (all_given m rows).joined in
      let k = in_ports (happen rows) running.joined in
      let o = running.joined.bus.ports in
      let both = shows j k (record {
        cpu = f.cpu;
        ram = f.ram;
        code = f.code;
        board = ap (λ b. board_after b rows) f.board ∙ sym (happen_board rows o);
        stopped = f.code_written on ∙ sym (happen_stopped rows o);
      }) refl in
      let s = step_of (all_given m rows) in
      let after = exec (memory_bus board_ports) k in
      let here : next running ≡ counted board_ports running after = ap (λ t. cond t running (counted board_ports running after)) (sym f.stopped ∙ on) in
      let r : Running Outside = counted board_ports running after in
      let m' = stepped_after m in
      let follows : Follows m' r = record {
        cpu = both.agree.cpu ∙ sym (told_cpu after.stepped after.after);
        ram = both.agree.ram ∙ sym (told_ram after.stepped after.after);
        code = both.agree.code ∙ sym (told_code after.stepped after.after);
        board = both.agree.board ∙ sym (told_board after.stepped after.after);
        code_written = λ on'. both.agree.stopped ∙ sym (told_stopped after.stepped after.after (ap is_stopped (sym both.stepped) ∙ on'));
        slots = ap (λ n. n + 1) f.slots;
        ran = ap (λ n. n + counts s.stepped) f.ran ∙ ap (λ x. running.ran + counts x) both.stepped;
        least = ap (λ n. min n s.after.cpu.sp) f.least ∙ ap (λ (c : Cpu). min running.least c.sp) both.agree.cpu;
        stopped = ap is_stopped both.stepped;
      } in
      let shown : r.joined.bus.ports.shown ≡ before ++ step_events m =
      ap (λ x. (told x after.after).bus.ports.shown) (sym both.stepped)
      ∙ told_shown s.stepped after.after
      ∙ last_event (is_illegal s.stepped) before (arrivals rows) (events_of s.after.bus.accesses) (entry_of s.stepped) after.after.bus.ports.shown (shown.Fault 256)
      (both.shown ∙ ap (λ l. l ++ (events_of s.after.bus.accesses ++ entry_of s.stepped)) (happen_shown rows o)) in
      record { follows = subst (Follows m') (sym here) follows; shown = ap (λ (x : Running Outside). x.joined.bus.ports.shown) here ∙ shown }

  -- the events of the slot
  pub shows_slot : (number : ℕ) (m : Held) (running : Running Outside) → Follows m running → m.stopped ≡ false → slot_events number (happen rows) running ≡ in_slot number (step_events m)
  shows_slot number m running f on =
      let before = running.joined.bus.ports.shown in
      ap (λ l. in_slot number (drop (length before) l)) (takes_slot m running f on).shown
      ∙ ap (in_slot number) (drop_front before (step_events m))

-- the mote behind its rows and its step, and the events of the step
pub record IsStepped (rows : List Due) (m m2 : Held) (events : List Shown) : Type 0 where
  pub same : m2 ≡ stepped_after rows m
  pub shows : arrivals rows ++ events ≡ step_events rows m

pub is_stepped : (rows : List Due) (m m1 m2 : Held) (stepped : Stepped) (accesses : List Access)
    → m1 ≡ all_given m rows → m2 ≡ after_step m1 (step_of m1) → stepped ≡ (step_of m1).stepped → accesses ≡ m2.joined.bus.accesses
    → IsStepped rows m m2 (events_of accesses ++ shown_behind stepped)
is_stepped rows m m1 m2 stepped accesses given after was kept =
    let same : m2 ≡ stepped_after rows m = after ∙ ap (λ (x : Held). after_step x (step_of x)) given in
    let s = step_of (all_given m rows) in
    record {
      same = same;
      shows = ap (λ (a : List Access). arrivals rows ++ (events_of a ++ shown_behind stepped)) (kept ∙ ap (λ (x : Held). x.joined.bus.accesses) same)
          ∙ ap (λ (x : Stepped). arrivals rows ++ (events_of s.after.bus.accesses ++ shown_behind x)) (was ∙ ap (λ (x : Held). (step_of x).stepped) given);
    }

-- the mote after a slot, and the lines of its events
pub record SlotDone (number : ℕ) (rows : List Due) (m : Held) (running : Running Outside) (events : List Shown) : Type 0 where
  pub follows : Follows m (next rows running)
  pub text : lines_of number (arrivals rows) ++ lines_of number events ≡ trace_lines (slot_events number (happen rows) running)

pub slot_done : (number : ℕ) (rows : List Due) (m m1 m2 : Held) (stepped : Stepped) (accesses : List Access) (running : Running Outside)
    → m1 ≡ all_given m rows → m2 ≡ after_step m1 (step_of m1) → stepped ≡ (step_of m1).stepped → accesses ≡ m2.joined.bus.accesses
    → Follows m running → m.stopped ≡ false → SlotDone number rows m2 running (events_of accesses ++ shown_behind stepped)
slot_done number rows m m1 m2 stepped accesses running given after was kept f on =
    let done = is_stepped rows m m1 m2 stepped accesses given after was kept in
    record {
      follows = subst (λ (x : Held). Follows x (next rows running)) (sym done.same) (takes_slot rows m running f on).follows;
      text = sym (lines-append number (arrivals rows) (events_of accesses ++ shown_behind stepped))
          ∙ ap (lines_of number) done.shows
          ∙ sym (ap trace_lines (shows_slot rows number m running f on));
    }
