-- The trace of a mote on its board, slot by slot.
use Rattle.std.proofs.Common.{◌≡◌, ℕ, zero, suc, ◌+◌, ◌-◌, ◌≤◌, true, cond, List, [], ◌∷◌, ◌++◌, map, take, drop, length, arith, refl, sym, ap, subst, ◌∙◌, append_assoc, append-nil}
use Rattle.std.proofs.lemmas.Grind.{flat_map-append}
use Rattle.mote_devices.specs.declared.state.BoardState.{BoardState}
use Rattle.mote_devices.specs.declared.shown.Due.{Due}
use Rattle.mote_devices.specs.declared.shown.Shown.{Shown}
use Rattle.mote_devices.specs.Outside.{Outside, board_ports}
use Rattle.msp430_cpu.specs.Cpu.{Cpu, cpuoff}
use Rattle.msp430_cpu.specs.Memory.{memory_bus, with_ports}
use Rattle.msp430_cpu.specs.Exec.{exec}
use Rattle.msp430_cpu.specs.Slots.{Running, slot, counted}
use Rattle.mote_bus.specs.Mote.{Result, result_of, due_at, mote_after, events}
use Rattle.mote_text.specs.declared.trace.End.{End}
use Rattle.mote_text.specs.TraceText.{trace_lines, event_line, end_text}
use Rattle.mote_run.specs.Rows.{DoNotFallFrom, due_count, happen}
use Rattle.mote_run.specs.Held.{Held, Follows}
use Rattle.mote_run.specs.RunText.{slot_events, EndsAs}
use Rattle.mote_run.proofs.DueRows.{due_now, due_later, order_later}

-- what is due counts where it happens
same_slot : (f h : Outside → Outside) (m : Running Outside) → f m.joined.bus.ports ≡ h m.joined.bus.ports → slot board_ports f m ≡ slot board_ports h m
same_slot f h m same =
    ap (λ (o : Outside). cond m.stopped m (counted board_ports m (exec (memory_bus board_ports) (record { cpu = m.joined.cpu; bus = with_ports m.joined.bus o })))) same

drop_all : {A : Type 0} (a : List A) → drop (length a) a ≡ []
drop_all [] = refl
drop_all (x ∷ a) = drop_all a

module _ (image : ℕ → ℕ) (b : BoardState) (rows : List Due) where
  abbrev pub after : ℕ → Running Outside
  after s = mote_after image b rows s

  -- a slot in which these rows are due
  pub record NextSlot (s : ℕ) (due : List Due) : Type 0 where
    pub after : slot board_ports (happen due) (mote_after image b rows s) ≡ mote_after image b rows (s + 1)
    pub lines : trace_lines (events image b rows (s + 1)) ≡ trace_lines (events image b rows s) ++ trace_lines (slot_events s (happen due) (mote_after image b rows s))

  next_by : (s n : ℕ) (due : List Due) → n ≡ suc s → ((o : Outside) → due_at rows s o ≡ happen due o)
      → (slot board_ports (happen due) (after s) ≡ after n) × (trace_lines (events image b rows n) ≡ trace_lines (events image b rows s) ++ trace_lines (slot_events s (happen due) (after s)))
  next_by s n due is same =
      let m = after s in
      let step : slot board_ports (due_at rows s) m ≡ slot board_ports (happen due) m = same_slot (due_at rows s) (happen due) m (same m.joined.bus.ports) in (
        sym step ∙ ap after (sym is),
        ap (λ k. trace_lines (events image b rows k)) is
            ∙ flat_map-append event_line (events image b rows s) (slot_events s (due_at rows s) m)
            ∙ ap (λ (x : Running Outside). trace_lines (events image b rows s) ++ trace_lines (map (λ (e : Shown). (s, e)) (drop (length m.joined.bus.ports.shown) x.joined.bus.ports.shown))) step,
      )

  pub next_slot : (s : ℕ) (due : List Due) → ((o : Outside) → due_at rows s o ≡ happen due o) → NextSlot s due
  next_slot s due same = let both = next_by s (s + 1) due (omega arith) same in record { after = both.0; lines = both.1 }

  -- a mote that has stopped stays as it is
  abbrev past : ℕ → ℕ → ℕ
  past s zero = s
  past s (suc k) = suc (past s k)

  past-add : (s k : ℕ) → past s k ≡ s + k
  past-add s zero = omega arith
  past-add s (suc k) = let h = past-add s k in omega arith

  stays : (s k : ℕ) → (after s).stopped ≡ true → after (past s k) ≡ after s
  stays s zero on = refl
  stays s (suc k) on =
      let same = stays s k on in
      let m = after (past s k) in
      let still : m.stopped ≡ true = ap (λ (x : Running Outside). x.stopped) same ∙ on in
      ap (λ t. cond t m (counted board_ports m (exec (memory_bus board_ports) (record { cpu = m.joined.cpu; bus = with_ports m.joined.bus (due_at rows (past s k) m.joined.bus.ports) })))) still ∙ same

  shows_none : (s k : ℕ) → (after s).stopped ≡ true → events image b rows (past s k) ≡ events image b rows s
  shows_none s zero on = refl
  shows_none s (suc k) on =
      let n = past s k in
      let same : after (suc n) ≡ after n = stays s (suc k) on ∙ sym (stays s k on) in
      ap (λ (x : Running Outside). events image b rows n ++ map (λ (e : Shown). (n, e)) (drop (length (after n).joined.bus.ports.shown) x.joined.bus.ports.shown)) same
      ∙ ap (λ (l : List Shown). events image b rows n ++ map (λ (e : Shown). (n, e)) l) (drop_all (after n).joined.bus.ports.shown)
      ∙ append-nil (events image b rows n)
      ∙ shows_none s k on

  pub record Stopped (s n : ℕ) : Type 0 where
    pub after : mote_after image b rows n ≡ mote_after image b rows s
    pub events : events image b rows n ≡ events image b rows s

  pub stopped : (s n : ℕ) → s ≤ n → (mote_after image b rows s).stopped ≡ true → Stopped s n
  stopped s n le on =
      let k = n - s in
      let is : past s k ≡ n = past-add s k ∙ omega arith in
      record {
        after = ap after (sym is) ∙ stays s k on;
        events = ap (events image b rows) (sym is) ∙ shows_none s k on;
      }

  -- the events of more slots stand behind
  more : (s k : ℕ) → (rest : List ℕ) × (trace_lines (events image b rows (past s k)) ≡ trace_lines (events image b rows s) ++ rest)
  more s zero = ([], sym (append-nil (trace_lines (events image b rows s))))
  more s (suc k) =
      let h = more s k in
      let n = past s k in
      let new = trace_lines (slot_events n (due_at rows n) (after n)) in (
        h.0 ++ new,
        flat_map-append event_line (events image b rows n) (slot_events n (due_at rows n) (after n))
            ∙ ap (λ (l : List ℕ). l ++ new) h.1
            ∙ append_assoc (trace_lines (events image b rows s)) h.0 new,
      )

  pub record IsBegun (s n : ℕ) : Type 0 where
    pub rest : List ℕ
    pub lines : trace_lines (events image b rows n) ≡ trace_lines (events image b rows s) ++ rest

  pub begun : (s n : ℕ) → s ≤ n → IsBegun s n
  begun s n le =
      let k = n - s in
      let is : past s k ≡ n = past-add s k ∙ omega arith in
      let h = more s k in
      record { rest = h.0; lines = ap (λ t. trace_lines (events image b rows t)) (sym is) ∙ h.1 }

-- the rows that are left, at the beginning of a slot
pub record IsRest (rows rest : List Due) (s : ℕ) : Type 0 where
  pub order : DoNotFallFrom s rest
  pub later : (t : ℕ) → s ≤ t → (o : Outside) → due_at rows t o ≡ due_at rest t o

-- what is due, and what is left then
pub due_of_rest : (rows rest : List Due) (s : ℕ) → IsRest rows rest s → (o : Outside) → due_at rows s o ≡ happen (take (due_count rest s) rest) o
due_of_rest rows rest s r o = r.later s (omega arith) o ∙ due_now s rest o r.order

pub rest_of_rest : (rows rest : List Due) (s : ℕ) → IsRest rows rest s → IsRest rows (drop (due_count rest s) rest) (s + 1)
rest_of_rest rows rest s r =
    let is : suc s ≡ s + 1 = omega arith in
    record {
      order = subst (λ n. DoNotFallFrom n (drop (due_count rest s) rest)) is (order_later s rest r.order);
      later = λ t le o. r.later t (omega arith) o ∙ due_later s t rest o (omega arith);
    }

-- a slot, and the rows behind those that are due in it
pub record IsTurn (image : ℕ → ℕ) (b : BoardState) (rows : List Due) (s : ℕ) (due later : List Due) : Type 0 where
  pub next : NextSlot image b rows s due
  pub rest : IsRest rows later (s + 1)

pub turn : (image : ℕ → ℕ) (b : BoardState) (rows rest due later : List Due) (s count : ℕ) → IsRest rows rest s
    → count ≡ due_count rest s → due ≡ take count rest → later ≡ drop count rest → IsTurn image b rows s due later
turn image b rows rest due later s count r counted front back =
    let is_due : take (due_count rest s) rest ≡ due = ap (λ n. take n rest) (sym counted) ∙ sym front in
    let is_later : drop (due_count rest s) rest ≡ later = ap (λ n. drop n rest) (sym counted) ∙ sym back in
    record {
      next = next_slot image b rows s due (λ o. due_of_rest rows rest s r o ∙ ap (λ (l : List Due). happen l o) is_due);
      rest = subst (λ (l : List Due). IsRest rows l (s + 1)) is_later (rest_of_rest rows rest s r);
    }

-- the numbers at the end, and their line
pub ended : (m : Held) (running : Running Outside) (end : End) → Follows m running → end ≡ record { slots = m.slots; ran = m.ran; least = m.least; off = cpuoff m.joined.cpu } → EndsAs end (result_of running)
ended m running end f is = record {
  slots = ap (λ (e : End). e.slots) is ∙ f.slots;
  ran = ap (λ (e : End). e.ran) is ∙ f.ran;
  least = ap (λ (e : End). e.least) is ∙ f.least;
  off = ap (λ (e : End). e.off) is ∙ ap (λ (c : Cpu). cpuoff c) f.cpu;
}

pub end_lines : (end : End) (r : Result) → EndsAs end r → end_text r.slots r.ran r.least r.off ++ 10 ∷ [] ≡ end_text end.slots end.ran end.least end.off ++ 10 ∷ []
end_lines end r e =
    ap (λ l. l ++ 10 ∷ [])
    (ap (λ x. end_text x r.ran r.least r.off) (sym e.slots) ∙ ap (λ x. end_text end.slots x r.least r.off) (sym e.ran)
    ∙ ap (λ x. end_text end.slots end.ran x r.off) (sym e.least) ∙ ap (λ x. end_text end.slots end.ran end.least x) (sym e.off))
