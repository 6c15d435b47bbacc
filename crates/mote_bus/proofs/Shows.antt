-- A step on a bus that notes accesses shows what a step on ports that show events does.
use Rattle.std.proofs.Common.{◌≡◌, ℕ, suc, ◌%◌, ◌<◌, ◌≤◌, ◌==◌, Bool, true, false, cond, ◌&&◌, nat_lt, List, [], ◌∷◌, ◌++◌, length, Option, arith, refl, sym, ap, subst, ◌∙◌, append_assoc, append-nil, length-append}
use Rattle.std.proofs.lemmas.Bool.Decides.{nat_tests}
use Rattle.nm_base.specs.Ports.{Ports}
use Rattle.mote_devices.specs.declared.state.BoardState.{BoardState}
use Rattle.mote_devices.specs.declared.shown.Shown.{Shown}
use Rattle.mote_devices.specs.declared.shown.Shown.TheVariants as shown
use Rattle.mote_devices.specs.Board.{board_answer, board_write}
use Rattle.mote_devices.specs.Outside.{Outside, board_ports, first_code}
use Rattle.msp430_cpu.specs.declared.cpu.Stepped.{Stepped}
use Rattle.msp430_cpu.specs.declared.cpu.Stepped.TheVariants.{Ran, Idle, Entered, Stopped}
use Rattle.msp430_cpu.specs.Cpu.{Cpu, even, changed_at}
use Rattle.msp430_cpu.specs.Bus.{Bus}
use Rattle.msp430_cpu.specs.Memory.{Memory, is_ram, is_port, byte_at, word_at, with_word_at, with_ram, with_ports, memory_bus}
use Rattle.msp430_cpu.specs.Exec.{Joined, exec}
use Rattle.msp430_cpu.specs.Alike.{AreRelated}
use Rattle.msp430_cpu.proofs.Related.{same_step}
use Rattle.mote_bus.specs.declared.access.Access.{Access}
use Rattle.mote_bus.specs.declared.access.Access.TheVariants.{Read, Write}
use Rattle.mote_bus.specs.Slots.{Bare, bare_ports}
use Rattle.mote_bus.specs.Accesses.{Noted, noted, noting, shown_of, events_of}
use Rattle.mote_bus.specs.Laws.{Agree, entry_of, StepsShowAccesses}
use Rattle.mote_bus.proofs.Accepting.{unaccepting, accepted, accepts_last}

abbrev bare_bus : Bus (Noted (Memory Bare))
bare_bus = noting (memory_bus bare_ports)

abbrev board_bus : Bus (Memory Outside)
board_bus = memory_bus board_ports

-- one access more
one_more : (l : List Access) (x : Access) → length l < 4 → noted l x ≡ l ++ x ∷ []
one_more l x few = let t : nat_lt (length l) 4 ≡ true = grind (arith, nat_tests) in ap (λ t. cond t (l ++ x ∷ []) l) t

events-append : (l : List Access) (x : Access) → events_of (l ++ x ∷ []) ≡ events_of l ++ shown_of x
events-append [] x = append-nil (shown_of x)
events-append (y ∷ l) x = ap (λ e. shown_of y ++ e) (events-append l x) ∙ sym (append_assoc (shown_of y) (events_of l) (shown_of x))

-- and its events, behind what was shown before
more_events : (before : List Shown) (l : List Access) (x : Access) (e : List Shown) → length l < 4 → shown_of x ≡ e
    → (before ++ events_of l) ++ e ≡ before ++ events_of (noted l x)
more_events before l x e few is =
    append_assoc before (events_of l) e
    ∙ ap (λ s. before ++ (events_of l ++ s)) (sym is)
    ∙ ap (λ s. before ++ s) (sym (ap events_of (one_more l x few) ∙ events-append l x))

no_more_events : (before : List Shown) (l : List Access) (x : Access) → length l < 4 → shown_of x ≡ [] → before ++ events_of l ≡ before ++ events_of (noted l x)
no_more_events before l x few is = sym (append-nil (before ++ events_of l)) ∙ more_events before l x [] few is

longer : (n : ℕ) → n < 3 → (l : List Access) (x : Access) → length l ≤ n → length (noted l x) ≤ suc n
longer n lt l x h = let s = ap length (one_more l x (omega arith)) in omega (arith, s, length-append l (x ∷ []))

module _ (before : List Shown) where
  abbrev with_shown : Memory Bare → List Shown → Memory Outside
  with_shown m events =
      record { ram = m.ram; code = m.code; ports = record { board = m.ports.board; stopped = m.ports.stopped; shown = events } }

  abbrev full : Noted (Memory Bare) → Memory Outside
  full b = with_shown b.memory (before ++ events_of b.accesses)

  -- the same but for the events, which are those of at most n accesses
  pub record IsShown (n : ℕ) (b : Noted (Memory Bare)) (d : Memory Outside) : Type 0 where
    pub same : d ≡ full b
    pub few : length b.accesses ≤ n

  -- what a read gives
  abbrev read_by : {F : Type 0} → Ports F → Bool → Bool → Memory F → ℕ → ℕ × Memory F
  read_by ports is_one wide m a =
      cond is_one (cond wide (let g = ports.get m.ports (even a) in (g.0, with_ports m g.1)) (0, m)) (cond wide (word_at m a) (byte_at m a), m)

  abbrev after_read : Noted (Memory Bare) → ℕ → Bool → ℕ × Memory Bare → Noted (Memory Bare)
  after_read b a wide r = record { memory = r.1; accesses = noted b.accesses (Read a wide r.0) }

  reads : (n : ℕ) → n < 3 → (b : Noted (Memory Bare)) (a : ℕ) (wide : Bool) → length b.accesses ≤ n → (t : Bool) → is_port a ≡ t
      → ((read_by bare_ports t wide b.memory a).0 ≡ (read_by board_ports t wide (full b) a).0)
      × IsShown (suc n) (after_read b a wide (read_by bare_ports t wide b.memory a)) (read_by board_ports t wide (full b) a).1
  reads n lt b a true h true test =
      let v = board_answer b.memory.ports.board (even a) in
      let m = (read_by bare_ports true true b.memory a).1 in (
        refl,
        record {
          same = ap (with_shown m) (more_events before b.accesses (Read a true v) (shown.In (even a) v ∷ []) (omega arith) (ap (λ t. cond (t && true) (shown.In (even a) v ∷ []) []) test));
          few = longer n lt b.accesses (Read a true v) h;
        },
      )
  reads n lt b a false h true test = (
    refl,
    record {
      same = ap (with_shown b.memory) (no_more_events before b.accesses (Read a false 0) (omega arith) (ap (λ t. cond (t && false) (shown.In (even a) 0 ∷ []) []) test));
      few = longer n lt b.accesses (Read a false 0) h;
    },
  )
  reads n lt b a wide h false test =
      let v = cond wide (word_at b.memory a) (byte_at b.memory a) in (
        refl,
        record {
          same = ap (with_shown b.memory) (no_more_events before b.accesses (Read a wide v) (omega arith) (ap (λ t. cond (t && wide) (shown.In (even a) v ∷ []) []) test));
          few = longer n lt b.accesses (Read a wide v) h;
        },
      )

  -- what a write leaves
  abbrev write_by : {F : Type 0} → Ports F → Bool → Bool → Bool → Memory F → ℕ → ℕ → Memory F
  write_by ports is_one in_ram wide m a v =
      cond is_one (cond wide (with_ports m (ports.put m.ports (even a) v)) m) (cond in_ram (with_ram m (cond wide (with_word_at m.ram (even a) v) (changed_at m.ram a (v % 256)))) m)

  abbrev after_write : Noted (Memory Bare) → ℕ → Bool → ℕ → Memory Bare → Noted (Memory Bare)
  after_write b a wide v m = record { memory = m; accesses = noted b.accesses (Write a wide v) }

  abbrev write_events : ℕ → ℕ → Bool → Bool → List Shown
  write_events a v is_one is_fault = cond is_one (cond is_fault (shown.Fault (v % 256)) (shown.Out (even a) v) ∷ []) []

  puts : (n : ℕ) → n < 3 → (b : Noted (Memory Bare)) (a v : ℕ) → length b.accesses ≤ n → is_port a ≡ true → (t : Bool) → (even a == 0x0104) ≡ t
      → IsShown (suc n)
      (after_write b a true v (with_ports b.memory (cond t (record { board = b.memory.ports.board; stopped = first_code b.memory.ports.stopped (v % 256) }) (record { board = board_write b.memory.ports.board (even a) v; stopped = b.memory.ports.stopped }))))
      (with_ports (full b) (cond t
      (record { board = b.memory.ports.board; stopped = first_code b.memory.ports.stopped (v % 256); shown = (before ++ events_of b.accesses) ++ shown.Fault (v % 256) ∷ [] })
      (record { board = board_write b.memory.ports.board (even a) v; stopped = b.memory.ports.stopped; shown = (before ++ events_of b.accesses) ++ shown.Out (even a) v ∷ [] })))
  puts n lt b a v h port true test =
      let is : shown_of (Write a true v) ≡ shown.Fault (v % 256) ∷ [] = ap (λ t. write_events a v (t && true) (even a == 0x0104)) port ∙ ap (write_events a v true) test in
      let m : Memory Bare = with_ports b.memory (record { board = b.memory.ports.board; stopped = first_code b.memory.ports.stopped (v % 256) }) in
      record {
        same = ap (with_shown m) (more_events before b.accesses (Write a true v) (shown.Fault (v % 256) ∷ []) (omega arith) is);
        few = longer n lt b.accesses (Write a true v) h;
      }
  puts n lt b a v h port false test =
      let is : shown_of (Write a true v) ≡ shown.Out (even a) v ∷ [] = ap (λ t. write_events a v (t && true) (even a == 0x0104)) port ∙ ap (write_events a v true) test in
      let m : Memory Bare = with_ports b.memory (record { board = board_write b.memory.ports.board (even a) v; stopped = b.memory.ports.stopped }) in
      record {
        same = ap (with_shown m) (more_events before b.accesses (Write a true v) (shown.Out (even a) v ∷ []) (omega arith) is);
        few = longer n lt b.accesses (Write a true v) h;
      }

  -- a write that is not shown
  unseen : (n : ℕ) → n < 3 → (b : Noted (Memory Bare)) (a v : ℕ) (wide : Bool) (m : Memory Bare) → length b.accesses ≤ n → (is_port a && wide) ≡ false
      → IsShown (suc n) (after_write b a wide v m) (with_shown m (before ++ events_of b.accesses))
  unseen n lt b a v wide m h test = record {
    same = ap (with_shown m) (no_more_events before b.accesses (Write a wide v) (omega arith) (ap (λ t. write_events a v t (even a == 0x0104)) test));
    few = longer n lt b.accesses (Write a wide v) h;
  }

  writes : (n : ℕ) → n < 3 → (b : Noted (Memory Bare)) (a : ℕ) (wide : Bool) (v : ℕ) → length b.accesses ≤ n → (t u : Bool) → is_port a ≡ t
      → IsShown (suc n) (after_write b a wide v (write_by bare_ports t u wide b.memory a v)) (write_by board_ports t u wide (full b) a v)
  writes n lt b a true v h true u test = puts n lt b a v h test (even a == 0x0104) refl
  writes n lt b a false v h true u test = unseen n lt b a v false b.memory h (ap (λ t. t && false) test)
  writes n lt b a wide v h false true test =
      unseen n lt b a v wide (with_ram b.memory (cond wide (with_word_at b.memory.ram (even a) v) (changed_at b.memory.ram a (v % 256)))) h (ap (λ t. t && wide) test)
  writes n lt b a wide v h false false test = unseen n lt b a v wide b.memory h (ap (λ t. t && wide) test)

  abbrev bare' : Bus (Noted (Memory Bare))
  bare' = unaccepting bare_bus

  abbrev board' : Bus (Memory Outside)
  board' = unaccepting board_bus

  related : AreRelated bare' board' IsShown
  related = record {
    read = λ n lt b d a wide r.
        subst (λ x. ((bare'.read b a wide).0 ≡ (board'.read x a wide).0) × IsShown (suc n) (bare'.read b a wide).1 (board'.read x a wide).1) (sym r.same) (reads n lt b a wide r.few (is_port a) refl);
    write = λ n lt b d a wide v r.
        subst (λ x. IsShown (suc n) (bare'.write b a wide v) (board'.write x a wide v)) (sym r.same) (writes n lt b a wide v r.few (is_port a) (is_ram a) refl);
    accept = λ n lt b d v r. record { same = r.same; few = let h = r.few in omega arith };
    none = λ n lt b d r. record { same = r.same; few = let h = r.few in omega arith };
    fetch = λ n b d a r. subst (λ x. bare'.fetch b a ≡ board'.fetch x a) (sym r.same) refl;
    line = λ n b d r. subst (λ x. bare'.line b ≡ board'.line x) (sym r.same) refl;
    stopped = λ n b d r. subst (λ x. bare'.stopped b ≡ board'.stopped x) (sym r.same) refl;
  }

  -- what a step leaves
  record Ends (s : Stepped) (j : Joined (Noted (Memory Bare))) (k : Joined (Memory Outside)) : Type 0 where
    agree : Agree j k
    events : k.bus.ports.shown ≡ before ++ (events_of j.bus.accesses ++ entry_of s)

  plain : (s : Stepped) → entry_of s ≡ [] → (j : Joined (Noted (Memory Bare))) → Ends s j (record { cpu = j.cpu; bus = full j.bus })
  plain s none j = record {
    agree = record { cpu = refl; ram = refl; code = refl; board = refl; stopped = refl };
    events = ap (λ e. before ++ e) (sym (append-nil (events_of j.bus.accesses)) ∙ ap (λ e. events_of j.bus.accesses ++ e) (sym none));
  }

  ends : (s : Stepped) (j : Joined (Noted (Memory Bare))) → Ends s (accepted bare_bus s j) (accepted board_bus s (record { cpu = j.cpu; bus = full j.bus }))
  ends Ran j = plain Ran refl j
  ends Idle j = plain Idle refl j
  ends (Entered v) j = record {
    agree = record { cpu = refl; ram = refl; code = refl; board = refl; stopped = refl };
    events = append_assoc before (events_of j.bus.accesses) (shown.Enter v ∷ []);
  }
  ends (Stopped code) j = plain (Stopped code) refl j

-- an acceptance is no access
accepted_few : (s : Stepped) (j : Joined (Noted (Memory Bare))) → length j.bus.accesses ≤ 3 → length (accepted bare_bus s j).bus.accesses ≤ 3
accepted_few Ran j few = few
accepted_few Idle j few = few
accepted_few (Entered v) j few = few
accepted_few (Stopped code) j few = few

pub shows : StepsShowAccesses
shows j k agree none =
    let before = k.bus.ports.shown in
    let start : k.bus ≡ full before j.bus =
    ap (λ (f : ℕ → ℕ). record { ram = f; code = k.bus.code; ports = k.bus.ports }) (sym agree.ram)
    ∙ ap (λ (f : ℕ → ℕ). record { ram = j.bus.memory.ram; code = f; ports = k.bus.ports }) (sym agree.code)
    ∙ ap (λ (b : BoardState). with_shown before (record { ram = j.bus.memory.ram; code = j.bus.memory.code; ports = record { board = b; stopped = k.bus.ports.stopped } }) before) (sym agree.board)
    ∙ ap (λ (o : Option ℕ). with_shown before (record { ram = j.bus.memory.ram; code = j.bus.memory.code; ports = record { board = j.bus.memory.ports.board; stopped = o } }) before) (sym agree.stopped)
    ∙ ap (with_shown before j.bus.memory) (sym (append-nil before) ∙ ap (λ l. before ++ events_of l) (sym none)) in
    let s = exec (bare' before) j in
    let t = exec (board' before) k in
    let both = same_step (bare' before) (board' before) (IsShown before) (related before) j k agree.cpu (record { same = start; few = omega (arith, ap length none) }) in
    let left = accepts_last bare_bus j in
    let right = accepts_last board_bus k in
    let e = ends before s.stepped s.after in
    let same : t.after ≡ record { cpu = s.after.cpu; bus = full before s.after.bus } =
    ap (λ (c : Cpu). record { cpu = c; bus = t.after.bus }) (sym both.cpu) ∙ ap (λ (m : Memory Outside). record { cpu = s.after.cpu; bus = m }) both.bus.same in
    let after : (exec board_bus k).after ≡ accepted board_bus s.stepped (record { cpu = s.after.cpu; bus = full before s.after.bus }) =
    right.after ∙ ap (λ (x : Stepped). accepted board_bus x t.after) (sym both.stepped) ∙ ap (accepted board_bus s.stepped) same in
    record {
      agree = subst (λ x. Agree x (exec board_bus k).after) (sym left.after) (subst (λ y. Agree (accepted bare_bus s.stepped s.after) y) (sym after) e.agree);
      stepped = left.stepped ∙ both.stepped ∙ sym right.stepped;
      few = subst (λ (x : Joined (Noted (Memory Bare))). length x.bus.accesses ≤ 3) (sym left.after) (accepted_few s.stepped s.after both.bus.few);
      shown = ap (λ (x : Joined (Memory Outside)). x.bus.ports.shown) after ∙ e.events
          ∙ ap (λ (x : Joined (Noted (Memory Bare))). before ++ (events_of x.bus.accesses ++ entry_of s.stepped)) (sym left.after)
          ∙ ap (λ (x : Stepped). before ++ (events_of (exec bare_bus j).after.bus.accesses ++ entry_of x)) (sym left.stepped);
    }
