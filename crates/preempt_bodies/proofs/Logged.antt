-- The bus of open code and the mote's bus answer alike, where what the code notes is what the run does.
use Rattle.std.proofs.Common.{◌≡◌, ℕ, suc, ◌+◌, ◌*◌, ◌/◌, ◌%◌, ◌<◌, ◌≤◌, ◌==◌, Bool, true, false, cond, List, [], ◌∷◌, ◌++◌, Option, Some, None, refl, sym, ap, subst, ◌∙◌, arith, append_assoc, append-nil}
use Rattle.std.proofs.lemmas.Bool.Decides.{nat_tests}
use Rattle.std.specs.Prelude.{is_some}
use Rattle.std.specs.List.{AllByRecursion}
use Rattle.nm_base.specs.declared.action.Action.{Action}
use Rattle.nm_base.specs.declared.action.Action.TheVariants as action
use Rattle.mote_devices.specs.declared.state.BoardState.{BoardState}
use Rattle.mote_devices.specs.declared.shown.Given.{Given}
use Rattle.mote_devices.specs.declared.shown.Shown.{Shown}
use Rattle.mote_devices.specs.declared.shown.Shown.TheVariants as shown
use Rattle.mote_devices.specs.Board.{board_answer, board_read, board_write}
use Rattle.mote_devices.specs.Outside.{Outside, board_ports, outside_get, outside_put, first_code}
use Rattle.core_meaning.specs.Source.{Source}
use Rattle.run_meaning.specs.declared.Move.{Move}
use Rattle.run_meaning.specs.declared.Move.TheVariants.{Do}
use Rattle.run_meaning.specs.State.{State, loaded, stored}
use Rattle.nm_base.specs.Behaviour.{is_begin, is_end}
use Rattle.run_meaning.specs.Runs.{after, after_all, shown_of, shown_by, answers_to}
use Rattle.msp430_cpu.specs.Cpu.{even, changed_at}
use Rattle.msp430_cpu.specs.Memory.{Memory, is_ram, is_code, is_port, byte_at, word_at, with_word_at, with_ram, with_ports, memory_bus}
use Rattle.preempt_bodies.proofs.Alike.{AnswerAlike}
use Rattle.open_law.specs.Open.{Done, Moment, Logged, doing, fault_in, fault_of, is_data, address_of, logged_bus}
use Rattle.preempt_bodies.specs.Boards.{AnswersWords}

-- what was done, as moves of the run
abbrev pub moves_of : List Done → List Move
moves_of [] = []
moves_of (d ∷ ds) = Do d.action ∷ moves_of ds

-- it was answered as the run answers
abbrev pub AreAnswered : Source → State → List Done → Type 0
AreAnswered P r [] = Unit {0}
AreAnswered P r (d ∷ ds) = (d.answers ≡ answers_to r d.action) × AreAnswered P (after P r (Do d.action)) ds

module _ (P : Source) where
  pub state_of_one : (r : State) (ds : List Done) (a : Action) (xs : List ℕ) → after_all P r (moves_of (doing ds a xs)) ≡ after P (after_all P r (moves_of ds)) (Do a)
  state_of_one r [] a xs = refl
  state_of_one r (d ∷ ds) a xs = state_of_one (after P r (Do d.action)) ds a xs

  pub shown_of_one : (r : State) (ds : List Done) (a : Action) (xs : List ℕ) → shown_by P r (moves_of (doing ds a xs)) ≡ shown_by P r (moves_of ds) ++ shown_of (after_all P r (moves_of ds)) (Do a)
  shown_of_one r [] a xs = append-nil (shown_of r (Do a))
  shown_of_one r (d ∷ ds) a xs = ap (λ l. shown_of r (Do d.action) ++ l) (shown_of_one (after P r (Do d.action)) ds a xs) ∙ sym (append_assoc (shown_of r (Do d.action)) (shown_by P (after P r (Do d.action)) (moves_of ds)) (shown_of (after_all P (after P r (Do d.action)) (moves_of ds)) (Do a)))

  pub answered_one : (r : State) (ds : List Done) (a : Action) (xs : List ℕ) → AreAnswered P r ds → xs ≡ answers_to (after_all P r (moves_of ds)) a → AreAnswered P r (doing ds a xs)
  answered_one r [] a xs h e = (e, tt)
  answered_one r (d ∷ ds) a xs h e = (h.0, answered_one (after P r (Do d.action)) ds a xs h.1 e)

-- the first of two codes
abbrev pub either : Option ℕ → Option ℕ → Option ℕ
either None y = y
either (Some x) y = Some x

fault_in_either : (a : Action) (x y : Option ℕ) → fault_in a (either x y) ≡ either (fault_in a x) y
fault_in_either (action.Load b w) x y = refl
fault_in_either (action.Store b w v) x y = refl
fault_in_either (action.In p) x y = refl
fault_in_either (action.Out p v) x y = refl
fault_in_either (action.Post k) x y = refl
fault_in_either action.Begin x y = refl
fault_in_either action.End x y = refl
fault_in_either action.Tick x y = refl
fault_in_either (action.Fault c) x y = refl

pub fault_of_one : (ds : List Done) (a : Action) (xs : List ℕ) → fault_of (doing ds a xs) ≡ either (fault_of ds) (fault_in a None)
fault_of_one [] a xs = refl
fault_of_one (d ∷ ds) a xs = ap (fault_in d.action) (fault_of_one ds a xs) ∙ fault_in_either d.action (fault_of ds) (fault_in a None)

either_none : (x : Option ℕ) → either x None ≡ x
either_none None = refl
either_none (Some c) = refl

either_some : (x : Option ℕ) (c : ℕ) → either x (Some c) ≡ first_code x c
either_some None c = refl
either_some (Some x) c = refl

-- codes of faults are bytes
abbrev pub IsLowCode : Option ℕ → Type 0
IsLowCode None = Unit {0}
IsLowCode (Some c) = c < 0x100

low_either : (x y : Option ℕ) → IsLowCode x → IsLowCode y → IsLowCode (either x y)
low_either None y h k = k
low_either (Some c) y h k = h

-- no Begin and no End
abbrev pub IsPlain : Done → Type 0
IsPlain d = (is_begin d.action ≡ false) × (is_end d.action ≡ false)

plain_one : (ds : List Done) (a : Action) (xs : List ℕ) → AllByRecursion IsPlain ds → (is_begin a ≡ false) × (is_end a ≡ false) → AllByRecursion IsPlain (doing ds a xs)
plain_one [] a xs h p = (p, tt)
plain_one (d ∷ ds) a xs h p = (h.0, plain_one ds a xs h.1 p)

-- an action that posts nothing, and stops where it is a fault
pub record IsCalmOrFault (P : Source) (a : Action) : Type 0 where
  pub tasks : (s : State) → (after P s (Do a)).tasks ≡ s.tasks
  pub halted : (s : State) (x : Option ℕ) → s.stopped ≡ is_some x → (after P s (Do a)).stopped ≡ is_some (either x (fault_in a None))
  pub plain : (is_begin a ≡ false) × (is_end a ≡ false)
  pub low : IsLowCode (fault_in a None)

calm : (P : Source) (a : Action) → ((s : State) → (after P s (Do a)).tasks ≡ s.tasks) → ((s : State) → (after P s (Do a)).stopped ≡ s.stopped) → fault_in a None ≡ None → is_begin a ≡ false → is_end a ≡ false → IsCalmOrFault P a
calm P a tasks halted none b e = record { plain = (b, e); low = subst IsLowCode (sym none) tt; tasks = tasks; halted = λ s x h. halted s ∙ h ∙ ap is_some (sym (ap (either x) none ∙ either_none x)) }

faults : (P : Source) (c : ℕ) → c < 0x100 → IsCalmOrFault P (action.Fault c)
faults P c low = record { plain = (refl, refl); low = low; tasks = λ s. refl; halted = λ s x e. by_code x }
  where
    by_code : (x : Option ℕ) → true ≡ is_some (either x (Some c))
    by_code None = refl
    by_code (Some y) = refl

small : (f : ℕ → ℕ) (a v x : ℕ) → ((y : ℕ) → f y < 0x100) → v < 0x100 → changed_at f a v x < 0x100
small f a v x h k = by_test (x == a)
  where
    by_test : (t : Bool) → cond t v (f x) < 0x100
    by_test true = k
    by_test false = h x

module _ (end : ℕ) (even_end : even end ≡ end) (low_end : end ≤ 0x3900) where
  pub data_low : (a : ℕ) → is_data end a ≡ true → 0x1100 ≤ a
  data_low a h = grind (arith, nat_tests)

  pub data_high : (a : ℕ) → is_data end a ≡ true → a < end
  data_high a h = grind (arith, nat_tests)

  pub in_data : (a : ℕ) → 0x1100 ≤ a → a < end → is_data end a ≡ true
  in_data a h k = grind (arith, nat_tests)

  pub data_ram : (a : ℕ) → is_data end a ≡ true → is_ram a ≡ true
  data_ram a h = let l = data_low a h in let k = data_high a h in grind (arith, nat_tests)

  pub data_no_port : (a : ℕ) → is_data end a ≡ true → is_port a ≡ false
  data_no_port a h = let l = data_low a h in let k = data_high a h in grind (arith, nat_tests)

  pub even_data : (a : ℕ) → is_data end a ≡ true → is_data end (even a) ≡ true
  even_data a h = let l = data_low a h in let k = data_high a h in in_data (even a) (omega (arith, l)) (omega (arith, k))

  pub next_data : (a : ℕ) → is_data end a ≡ true → is_data end (even a + 1) ≡ true
  next_data a h = let l = data_low a h in let k = data_high a h in in_data (even a + 1) (omega (arith, l)) (omega (arith, k, even_end))

module _ (P : Source) (end : ℕ) (even_end : even end ≡ end) (low_end : end ≤ 0x3900) (Sound : BoardState → Type 0) (IsWord : Given → Type 0) (sound : AnswersWords Sound IsWord) (r : State) (told : List Shown) (image : ℕ → ℕ) where
  -- the run's state where this much was done from r on
  abbrev pub state_now : List Done → State
  state_now ds = after_all P r (moves_of ds)

  -- what ports answer from r on
  abbrev pub answer_now : List Done → ℕ → ℕ
  answer_now ds p = board_answer (state_now ds).board p

  -- an instruction in the middle, of the open code and of the mote
  pub record IsNoted (n : ℕ) (w : Logged) (m : Memory Outside) : Type 0 where
    pub ram : w.ram ≡ m.ram
    pub code : w.code ≡ m.code
    pub kept : m.code ≡ image
    pub board : m.ports.board ≡ (state_now w.ports).board
    pub shown : m.ports.shown ≡ told ++ shown_by P r (moves_of w.ports)
    pub stopped : m.ports.stopped ≡ fault_of w.ports
    pub store : (a : ℕ) → is_data end a ≡ true → (state_now w.ports).store a ≡ m.ram a
    pub answered : AreAnswered P r w.ports
    pub tasks : (state_now w.ports).tasks ≡ r.tasks
    pub halted : (state_now w.ports).stopped ≡ is_some (fault_of w.ports)
    pub plain : AllByRecursion IsPlain w.ports
    pub low : IsLowCode (fault_of w.ports)
    pub bytes : (a : ℕ) → m.ram a < 0x100

  -- one action more
  noted : (n : ℕ) (w : Logged) (m : Memory Outside) (a : Action) (xs : List ℕ) (own ram : ℕ → ℕ) (o : Outside) → IsNoted n w m → own ≡ ram →
      o.board ≡ (after P (state_now w.ports) (Do a)).board → o.shown ≡ m.ports.shown ++ shown_of (state_now w.ports) (Do a) → o.stopped ≡ either m.ports.stopped (fault_in a None) →
      ((x : ℕ) → is_data end x ≡ true → (after P (state_now w.ports) (Do a)).store x ≡ ram x) → xs ≡ answers_to (state_now w.ports) a → ((x : ℕ) → ram x < 0x100) → IsCalmOrFault P a →
      IsNoted (suc n) (record { ram = own; code = w.code; ports = doing w.ports a xs }) (record { ram = ram; code = m.code; ports = o })
  noted n w m a xs own ram o h same board shown stopped store answers bytes calm =
      let one : state_now (doing w.ports a xs) ≡ after P (state_now w.ports) (Do a) = state_of_one P r w.ports a xs in
      record {
        ram = same;
        code = h.code;
        kept = h.kept;
        board = board ∙ ap (λ (s : State). s.board) (sym one);
        shown = shown ∙ ap (λ l. l ++ shown_of (state_now w.ports) (Do a)) h.shown ∙ append_assoc told (shown_by P r (moves_of w.ports)) (shown_of (state_now w.ports) (Do a)) ∙ ap (λ l. told ++ l) (sym (shown_of_one P r w.ports a xs));
        stopped = stopped ∙ ap (λ x. either x (fault_in a None)) h.stopped ∙ sym (fault_of_one w.ports a xs);
        store = λ x d. ap (λ (s : State). s.store x) one ∙ store x d;
        answered = answered_one P r w.ports a xs h.answered answers;
        tasks = ap (λ (s : State). s.tasks) one ∙ calm.tasks (state_now w.ports) ∙ h.tasks;
        halted = ap (λ (s : State). s.stopped) one ∙ calm.halted (state_now w.ports) (fault_of w.ports) h.halted ∙ ap is_some (sym (fault_of_one w.ports a xs));
        plain = plain_one w.ports a xs h.plain calm.plain;
        low = subst IsLowCode (sym (fault_of_one w.ports a xs)) (low_either (fault_of w.ports) (fault_in a None) h.low calm.low);
        bytes = bytes;
      }

  later : (n : ℕ) (w : Logged) (m : Memory Outside) → IsNoted n w m → IsNoted (suc n) w m
  later n w m h = record { ram = h.ram; code = h.code; kept = h.kept; board = h.board; shown = h.shown; stopped = h.stopped; store = h.store; answered = h.answered; tasks = h.tasks; halted = h.halted; plain = h.plain; low = h.low; bytes = h.bytes }

  same_byte : (n : ℕ) (w : Logged) (m : Memory Outside) (a : ℕ) → IsNoted n w m → byte_at w a ≡ byte_at m a
  same_byte n w m a s =
      ap (λ (f : ℕ → ℕ). cond (is_ram a) (f a) (cond (is_code a) (w.code a) 0)) s.ram
      ∙ ap (λ (f : ℕ → ℕ). cond (is_ram a) (m.ram a) (cond (is_code a) (f a) 0)) s.code

  same_word : (n : ℕ) (w : Logged) (m : Memory Outside) (a : ℕ) → IsNoted n w m → word_at w a ≡ word_at m a
  same_word n w m a s =
      ap (λ x. x + 256 * byte_at w (even a + 1)) (same_byte n w m (even a) s)
      ∙ ap (λ x. byte_at m (even a) + 256 * x) (same_byte n w m (even a + 1) s)

  module _ (bytes : ℕ → ℕ) (interrupted : Bool) where
    abbrev pub moment_now : Moment
    moment_now = record { bytes = bytes; answer = answer_now; interrupted = interrupted }

    -- a read, by where the address lies
    abbrev ports_read : Bool → Bool → Logged → ℕ → ℕ × Logged
    ports_read t wide w a = cond t (cond wide (answer_now w.ports (even a), with_ports w (doing w.ports (action.In (even a)) (answer_now w.ports (even a) ∷ []))) (0, w)) (cond wide (word_at w a) (byte_at w a), w)

    abbrev read_by : Bool → Bool → Bool → Logged → ℕ → ℕ × Logged
    read_by d t wide w a = cond d ((ports_read t wide w a).0, with_ports w (doing w.ports (action.Load (address_of a wide) wide) ((ports_read t wide w a).0 ∷ []))) (ports_read t wide w a)

    abbrev mote_read_by : Bool → Bool → Memory Outside → ℕ → ℕ × Memory Outside
    mote_read_by t wide m a = cond t (cond wide ((outside_get m.ports (even a)).0, with_ports m (outside_get m.ports (even a)).1) (0, m)) (cond wide (word_at m a) (byte_at m a), m)

    abbrev SameRead : ℕ → ℕ × Logged → ℕ × Memory Outside → Type 0
    SameRead n x y = (x.0 ≡ y.0) × IsNoted n x.1 y.1

    not_so : false ≡ true → ⊥
    not_so h = cc

    -- a byte of the data is what the run's store has
    byte_stored : (n : ℕ) (w : Logged) (m : Memory Outside) (a : ℕ) → IsNoted n w m → is_data end a ≡ true → byte_at w a ≡ (state_now w.ports).store a
    byte_stored n w m a h d = same_byte n w m a h ∙ ap (λ t. cond t (m.ram a) (cond (is_code a) (m.code a) 0)) (data_ram end even_end low_end a d) ∙ sym (h.store a d)

    word_stored : (n : ℕ) (w : Logged) (m : Memory Outside) (a : ℕ) → IsNoted n w m → is_data end a ≡ true → word_at w a ≡ loaded (state_now w.ports).store (even a) true
    word_stored n w m a h d =
        ap (λ x. x + 256 * byte_at w (even a + 1)) (byte_stored n w m (even a) h (even_data end even_end low_end a d))
        ∙ ap (λ x. (state_now w.ports).store (even a) + 256 * x) (byte_stored n w m (even a + 1) h (next_data end even_end low_end a d))

    reads : (n : ℕ) (d t wide : Bool) (w : Logged) (m : Memory Outside) (a : ℕ) → is_data end a ≡ d → is_port a ≡ t → IsNoted n w m → SameRead (suc n) (read_by d t wide w a) (mote_read_by t wide m a)
    reads n true true wide w m a d t h = absurd (not_so (sym (data_no_port end even_end low_end a d) ∙ t))
    reads n true false true w m a d t h =
        (same_word n w m a h, noted n w m (action.Load (even a) true) (word_at w a ∷ []) w.ram m.ram m.ports h h.ram h.board (sym (append-nil m.ports.shown)) (sym (either_none m.ports.stopped)) h.store (ap (λ x. x ∷ []) (word_stored n w m a h d)) h.bytes (calm P (action.Load (even a) true) (λ s. refl) (λ s. refl) refl refl refl))
    reads n true false false w m a d t h =
        (same_byte n w m a h, noted n w m (action.Load a false) (byte_at w a ∷ []) w.ram m.ram m.ports h h.ram h.board (sym (append-nil m.ports.shown)) (sym (either_none m.ports.stopped)) h.store (ap (λ x. x ∷ []) (byte_stored n w m a h d)) h.bytes (calm P (action.Load a false) (λ s. refl) (λ s. refl) refl refl refl))
    reads n false true true w m a d t h =
        let p = even a in
        let e : answer_now w.ports p ≡ board_answer m.ports.board p = ap (λ (b : BoardState). board_answer b p) (sym h.board) in
        let f : answer_now w.ports p ≡ board_answer (state_now w.ports).board p = e ∙ ap (λ (b : BoardState). board_answer b p) h.board in
        (e, noted n w m (action.In p) (answer_now w.ports p ∷ []) w.ram m.ram (outside_get m.ports p).1 h h.ram (ap (λ (b : BoardState). board_read b p) h.board) (ap (λ (b : BoardState). m.ports.shown ++ shown.In p (board_answer b p) ∷ []) h.board) (sym (either_none m.ports.stopped)) h.store (ap (λ x. x ∷ []) f) h.bytes (calm P (action.In p) (λ s. refl) (λ s. refl) refl refl refl))
    reads n false true false w m a d t h = (refl, later n w m h)
    reads n false false true w m a d t h = (same_word n w m a h, later n w m h)
    reads n false false false w m a d t h = (same_byte n w m a h, later n w m h)

    -- a write, by where the address lies
    abbrev ports_write : Bool → Bool → Bool → Logged → ℕ → ℕ → Logged
    ports_write t u wide w a v =
        cond t (cond wide (with_ports w (doing w.ports (cond (even a == 0x0104) (action.Fault (v % 256)) (action.Out (even a) v)) [])) w)
        (cond u (with_ram w (cond wide (with_word_at w.ram (even a) v) (changed_at w.ram a (v % 256)))) w)

    abbrev write_by : Bool → Bool → Bool → Bool → Logged → ℕ → ℕ → Logged
    write_by d t u wide w a v = cond d (with_ports (ports_write t u wide w a v) (doing w.ports (action.Store (address_of a wide) wide v) [])) (ports_write t u wide w a v)

    abbrev mote_write_by : Bool → Bool → Bool → Memory Outside → ℕ → ℕ → Memory Outside
    mote_write_by t u wide m a v =
        cond t (cond wide (with_ports m (outside_put m.ports (even a) v)) m)
        (cond u (with_ram m (cond wide (with_word_at m.ram (even a) v) (changed_at m.ram a (v % 256)))) m)

    word_small : (f : ℕ → ℕ) (a v : ℕ) → ((y : ℕ) → f y < 0x100) → (x : ℕ) → with_word_at f a v x < 0x100
    word_small f a v h x = small (changed_at f a (v % 256)) (a + 1) (v / 256 % 256) x (λ y. small f a (v % 256) y h (omega arith)) (omega arith)

    byte_small : (f : ℕ → ℕ) (a v : ℕ) → ((y : ℕ) → f y < 0x100) → (x : ℕ) → changed_at f a (v % 256) x < 0x100
    byte_small f a v h x = small f a (v % 256) x h (omega arith)

    -- the run's store and RAM after a store
    word_kept : (f g : ℕ → ℕ) (a v x : ℕ) → f x ≡ g x → stored f a true v x ≡ with_word_at g a v x
    word_kept f g a v x e = by_tests (x == a) (x == a + 1) refl refl
      where
        apart : x ≡ a → x ≡ a + 1 → ⊥
        apart h k = omega (arith, h, k)

        by_tests : (s t : Bool) → (x == a) ≡ s → (x == a + 1) ≡ t → cond s (v % 256) (cond t (v / 256 % 256) (f x)) ≡ cond t (v / 256 % 256) (cond s (v % 256) (g x))
        by_tests true true h k = absurd (apart (grind (arith, nat_tests)) (grind (arith, nat_tests)))
        by_tests true false h k = refl
        by_tests false true h k = refl
        by_tests false false h k = e

    byte_kept : (f g : ℕ → ℕ) (a v x : ℕ) → f x ≡ g x → stored f a false v x ≡ changed_at g a (v % 256) x
    byte_kept f g a v x e = by_test (x == a)
      where
        by_test : (t : Bool) → cond t (v % 256) (f x) ≡ cond t (v % 256) (g x)
        by_test true = refl
        by_test false = e

    -- a write outside the data leaves the data
    data_apart : (f : ℕ → ℕ) (a v x : ℕ) → is_data end a ≡ false → is_data end x ≡ true → changed_at f a v x ≡ f x
    data_apart f a v x h k = by_test (x == a) refl
      where
        by_test : (t : Bool) → (x == a) ≡ t → cond t v (f x) ≡ f x
        by_test true e = let same : x ≡ a = grind (arith, nat_tests) in absurd (not_so (sym h ∙ ap (is_data end) (sym same) ∙ k))
        by_test false e = refl

    -- the word at an address that is no data has no data in it
    even_apart : (a : ℕ) → is_data end a ≡ false → is_data end (even a) ≡ false
    even_apart a h = by_test (is_data end (even a)) refl
      where
        by_test : (t : Bool) → is_data end (even a) ≡ t → t ≡ false
        by_test false e = refl
        by_test true e = let l = data_low end even_end low_end (even a) e in let k = data_high end even_end low_end (even a) e in absurd (not_so (sym h ∙ in_data end even_end low_end a (omega (arith, l)) (omega (arith, k, even_end))))

    next_apart : (a : ℕ) → is_data end a ≡ false → is_data end (even a + 1) ≡ false
    next_apart a h = by_test (is_data end (even a + 1)) refl
      where
        by_test : (t : Bool) → is_data end (even a + 1) ≡ t → t ≡ false
        by_test false e = refl
        by_test true e = let l = data_low end even_end low_end (even a + 1) e in let k = data_high end even_end low_end (even a + 1) e in absurd (not_so (sym h ∙ in_data end even_end low_end a (omega (arith, l)) (omega (arith, k, even_end))))

    with_fault : (n : ℕ) (w : Logged) (m : Memory Outside) (p v : ℕ) (t : Bool) → (p == 0x0104) ≡ t → IsNoted n w m →
        IsNoted (suc n) (with_ports w (doing w.ports (cond t (action.Fault (v % 256)) (action.Out p v)) [])) (with_ports m (cond t (record { board = m.ports.board; stopped = first_code m.ports.stopped (v % 256); shown = m.ports.shown ++ shown.Fault (v % 256) ∷ [] }) (record { board = board_write m.ports.board p v; stopped = m.ports.stopped; shown = m.ports.shown ++ shown.Out p v ∷ [] })))
    with_fault n w m p v true e h = noted n w m (action.Fault (v % 256)) [] w.ram m.ram (record { board = m.ports.board; stopped = first_code m.ports.stopped (v % 256); shown = m.ports.shown ++ shown.Fault (v % 256) ∷ [] }) h h.ram h.board refl (sym (either_some m.ports.stopped (v % 256))) h.store refl h.bytes (faults P (v % 256) (omega arith))
    with_fault n w m p v false e h = noted n w m (action.Out p v) [] w.ram m.ram (record { board = board_write m.ports.board p v; stopped = m.ports.stopped; shown = m.ports.shown ++ shown.Out p v ∷ [] }) h h.ram (ap (λ (b : BoardState). board_write b p v) h.board) refl (sym (either_none m.ports.stopped)) h.store refl h.bytes (calm P (action.Out p v) (λ s. refl) (λ s. refl) refl refl refl)

    in_ram : (n : ℕ) (w : Logged) (m : Memory Outside) (f g : ℕ → ℕ) → IsNoted n w m → f ≡ g → ((x : ℕ) → is_data end x ≡ true → (state_now w.ports).store x ≡ g x) → ((x : ℕ) → g x < 0x100) → IsNoted (suc n) (with_ram w f) (with_ram m g)
    in_ram n w m f g h e store bytes = record { ram = e; code = h.code; kept = h.kept; board = h.board; shown = h.shown; stopped = h.stopped; store = store; answered = h.answered; tasks = h.tasks; halted = h.halted; plain = h.plain; low = h.low; bytes = bytes }

    writes : (n : ℕ) (d t u wide : Bool) (w : Logged) (m : Memory Outside) (a v : ℕ) → is_data end a ≡ d → is_port a ≡ t → is_ram a ≡ u → IsNoted n w m → IsNoted (suc n) (write_by d t u wide w a v) (mote_write_by t u wide m a v)
    writes n true true u wide w m a v d t i h = absurd (not_so (sym (data_no_port end even_end low_end a d) ∙ t))
    writes n true false false wide w m a v d t i h = absurd (not_so (sym i ∙ data_ram end even_end low_end a d))
    writes n true false true true w m a v d t i h =
        noted n w m (action.Store (even a) true v) [] (with_word_at w.ram (even a) v) (with_word_at m.ram (even a) v) m.ports h (ap (λ f. with_word_at f (even a) v) h.ram) h.board (sym (append-nil m.ports.shown)) (sym (either_none m.ports.stopped)) (λ x k. word_kept (state_now w.ports).store m.ram (even a) v x (h.store x k)) refl (word_small m.ram (even a) v h.bytes) (calm P (action.Store (even a) true v) (λ s. refl) (λ s. refl) refl refl refl)
    writes n true false true false w m a v d t i h =
        noted n w m (action.Store a false v) [] (changed_at w.ram a (v % 256)) (changed_at m.ram a (v % 256)) m.ports h (ap (λ f. changed_at f a (v % 256)) h.ram) h.board (sym (append-nil m.ports.shown)) (sym (either_none m.ports.stopped)) (λ x k. byte_kept (state_now w.ports).store m.ram a v x (h.store x k)) refl (byte_small m.ram a v h.bytes) (calm P (action.Store a false v) (λ s. refl) (λ s. refl) refl refl refl)
    writes n false true u true w m a v d t i h = with_fault n w m (even a) v (even a == 0x0104) refl h
    writes n false true u false w m a v d t i h = later n w m h
    writes n false false true true w m a v d t i h =
        in_ram n w m (with_word_at w.ram (even a) v) (with_word_at m.ram (even a) v) h (ap (λ f. with_word_at f (even a) v) h.ram)
        (λ x k. h.store x k ∙ sym (data_apart m.ram (even a) (v % 256) x (even_apart a d) k) ∙ sym (data_apart (changed_at m.ram (even a) (v % 256)) (even a + 1) (v / 256 % 256) x (next_apart a d) k))
        (word_small m.ram (even a) v h.bytes)
    writes n false false true false w m a v d t i h =
        in_ram n w m (changed_at w.ram a (v % 256)) (changed_at m.ram a (v % 256)) h (ap (λ f. changed_at f a (v % 256)) h.ram)
        (λ x k. h.store x k ∙ sym (data_apart m.ram a (v % 256) x d k))
        (byte_small m.ram a v h.bytes)
    writes n false false false wide w m a v d t i h = later n w m h

    -- the two buses answer alike
    pub answer_alike : AnswerAlike (logged_bus end answer_now) (memory_bus board_ports) IsNoted
    answer_alike = record {
      read = λ n few w m a wide h. reads n (is_data end a) (is_port a) wide w m a refl refl h;
      write = λ n few w m a wide v h. writes n (is_data end a) (is_port a) (is_ram a) wide w m a v refl refl refl h;
      none = λ n few w m h. later n w m h;
      fetch = λ n w m a h. same_word n w m a h;
      stopped = λ n w m h. sym h.stopped;
    }
