-- One instruction of open code, on the mote.
use Rattle.std.proofs.Common.{◌≡◌, ◌*◌, ◌+◌, ℕ, ◌<◌, ◌≤◌, Bool, true, false, ◌&&◌, nat_lt, nat_le, cond, List, [], ◌∷◌, ◌++◌, length, Option, None, refl, sym, ap, subst, ◌∙◌, arith, append-nil}
use Rattle.std.proofs.Math.Path.{fun_ext}
use Rattle.std.proofs.lemmas.Bool.Decides.{nat_tests}
use Rattle.std.specs.Prelude.{is_some}
use Rattle.std.specs.List.{AllByRecursion}
use Rattle.nm_base.specs.declared.action.Action.{Action}
use Rattle.nm_base.specs.declared.action.Action.TheVariants as action
use Rattle.mote_devices.specs.declared.state.BoardState.{BoardState}
use Rattle.mote_devices.specs.declared.shown.Given.{Given}
use Rattle.mote_devices.specs.declared.shown.Shown.{Shown}
use Rattle.mote_devices.specs.Outside.{Outside, board_ports}
use Rattle.core_meaning.specs.Source.{Source, act_of}
use Rattle.run_meaning.specs.declared.Move.{Move}
use Rattle.run_meaning.specs.declared.Move.TheVariants.{Do}
use Rattle.run_meaning.specs.State.{State}
use Rattle.run_meaning.specs.Runs.{AreLegal, after, after_all, shown_by}
use Rattle.msp430_cpu.specs.Cpu.{even}
use Rattle.msp430_cpu.specs.Bus.{Bus}
use Rattle.msp430_cpu.specs.Exec.{Joined, run_or_idle, stepped_of}
use Rattle.msp430_cpu.specs.Memory.{Memory, memory_bus, is_ram, is_code, byte_at, word_at}
use Rattle.msp430_cpu.specs.Alike.{AreSteps}
use Rattle.preempt_bodies.proofs.Alike.{same_instruction}
use Rattle.preempt_core.proofs.Follow.{after_all-append, shown_by-append}
use Rattle.open_law.specs.Open.{IsWordOut, AreWordOuts, Done, Moment, IsMoment, Open, Code, Logged, silent, fault_in, fault_of, is_data, disturbed, settled, joined_now, instruction, went, logged_bus, AreNext, AreMarks, IsSilent, IsFair}
use Rattle.preempt_bodies.specs.Boards.{AnswersWords}
use Rattle.preempt_bodies.proofs.Words.{StandsAt}
use Rattle.preempt_bodies.proofs.Logged.{moves_of, AreAnswered, IsPlain, IsLowCode, IsNoted, moment_now, answer_alike}
use Rattle.preempt_bodies.proofs.Acting.{Actor, HasDone, AreCalm, done_all, legal_all}
use Rattle.preempt_bodies.proofs.Effects.{marks_answered}

abbrev pub ops : Bus (Memory Outside)
ops = memory_bus board_ports

-- a word of the image, as it is fetched
pub stands : {D : Type 0} {image : ℕ → ℕ} {a w : ℕ} → StandsAt image a w → (m : Memory D) → m.code ≡ image → word_at m a ≡ w
stands {image = image} {a = a} s m e =
    ap (λ x. byte_at m x + 256 * byte_at m (x + 1)) s.is_even
    ∙ ap (λ x. x + 256 * byte_at m (a + 1)) (in_code m a e s.low (let h = s.high in omega (arith, h)))
    ∙ ap (λ x. image a + 256 * x) (in_code m (a + 1) e (let l = s.low in omega (arith, l)) (let h = s.high in omega (arith, h)))
    ∙ s.word
  where
    in_code : {D : Type 0} {image : ℕ → ℕ} (m : Memory D) (a : ℕ) → m.code ≡ image → 0x4000 ≤ a → a < 0x10000 → byte_at m a ≡ image a
    in_code m a e l h =
        let r : is_ram a ≡ false = grind (arith, nat_tests) in
        let c : is_code a ≡ true = grind (arith, nat_tests) in
        ap (λ t. cond t (m.ram a) (cond (is_code a) (m.code a) 0)) r ∙ ap (λ t. cond t (m.code a) 0) c ∙ ap (λ (f : ℕ → ℕ). f a) e

-- what the run's state and the mote have in common
pub record IsCommon (Sound : BoardState → Type 0) (image : ℕ → ℕ) (end : ℕ) (r : State) (m : Memory Outside) : Type 0 where
  pub code : m.code ≡ image
  pub board : m.ports.board ≡ r.board
  pub store : (a : ℕ) → is_data end a ≡ true → r.store a ≡ m.ram a
  pub words : Sound m.ports.board
  pub bytes : (a : ℕ) → m.ram a < 0x100
  pub no_task : r.tasks ≡ []
  pub going : r.stopped ≡ false
  pub runs : m.ports.stopped ≡ None

-- marks change nothing but the list of what was done
pub record IsSame (r r' : State) : Type 0 where
  pub board : r'.board ≡ r.board
  pub store : r'.store ≡ r.store
  pub tasks : r'.tasks ≡ r.tasks
  pub stopped : r'.stopped ≡ r.stopped

same_of : (P : Source) (r : State) (a : Action) → IsSilent a → IsSame r (after P r (Do a))
same_of P r (action.Load x w) h = absurd h
same_of P r (action.Store x w v) h = absurd h
same_of P r (action.In p) h = absurd h
same_of P r (action.Out p v) h = absurd h
same_of P r (action.Post k) h = absurd h
same_of P r action.Begin h = record { board = refl; store = refl; tasks = refl; stopped = refl }
same_of P r action.End h = record { board = refl; store = refl; tasks = refl; stopped = refl }
same_of P r action.Tick h = record { board = refl; store = refl; tasks = refl; stopped = refl }
same_of P r (action.Fault c) h = absurd h

pub marks_same : (P : Source) (r : State) (marks : List Action) → AllByRecursion IsSilent marks → IsSame r (after_all P r (moves_of (silent marks)))
marks_same P r [] h = record { board = refl; store = refl; tasks = refl; stopped = refl }
marks_same P r (a ∷ more) h =
    let x = same_of P r a h.0 in
    let y = marks_same P (after P r (Do a)) more h.1 in
    record { board = y.board ∙ x.board; store = y.store ∙ x.store; tasks = y.tasks ∙ x.tasks; stopped = y.stopped ∙ x.stopped }

-- marks show nothing
silent_shown : (P : Source) (r : State) (a : Action) (l : List Shown) → IsSilent a → shown_by P r (Do a ∷ []) ++ l ≡ l
silent_shown P r (action.Load x w) l h = absurd h
silent_shown P r (action.Store x w v) l h = absurd h
silent_shown P r (action.In p) l h = absurd h
silent_shown P r (action.Out p v) l h = absurd h
silent_shown P r (action.Post k) l h = absurd h
silent_shown P r action.Begin l h = refl
silent_shown P r action.End l h = refl
silent_shown P r action.Tick l h = refl
silent_shown P r (action.Fault c) l h = absurd h

none_shown : (P : Source) (r : State) (a : Action) → IsSilent a → shown_by P r (Do a ∷ []) ≡ []
none_shown P r a h = sym (append-nil (shown_by P r (Do a ∷ []))) ∙ silent_shown P r a [] h

pub marks_shown : (P : Source) (r : State) (marks : List Action) → AllByRecursion IsSilent marks → shown_by P r (moves_of (silent marks)) ≡ []
marks_shown P r [] h = refl
marks_shown P r (a ∷ more) h =
    shown_by-append P r (Do a ∷ []) (moves_of (silent more))
    ∙ ap (λ l. l ++ shown_by P (after P r (Do a)) (moves_of (silent more))) (none_shown P r a h.0)
    ∙ marks_shown P (after P r (Do a)) more h.1

pub moves-append : (a b : List Done) → moves_of (a ++ b) ≡ moves_of a ++ moves_of b
moves-append [] b = refl
moves-append (d ∷ a) b = ap (λ l. Do d.action ∷ l) (moves-append a b)

pub answered-append : (P : Source) (r : State) (a b : List Done) → AreAnswered P r a → AreAnswered P (after_all P r (moves_of a)) b → AreAnswered P r (a ++ b)
answered-append P r [] b h k = k
answered-append P r (d ∷ a) b h k = (h.0, answered-append P (after P r (Do d.action)) a b h.1 k)

calm_mark : (a : Action) → IsSilent a → fault_in a None ≡ None
calm_mark (action.Load x w) h = refl
calm_mark (action.Store x w v) h = refl
calm_mark (action.In p) h = refl
calm_mark (action.Out p v) h = refl
calm_mark (action.Post k) h = refl
calm_mark action.Begin h = refl
calm_mark action.End h = refl
calm_mark action.Tick h = refl
calm_mark (action.Fault c) h = absurd h

-- marks and one action more: none but the last is a fault
pub marks_calm : (P : Source) (marks : List Action) (new : List Done) → AllByRecursion IsSilent marks → length new ≤ 1 → AreCalm P (silent marks ++ new)
marks_calm P [] [] h few = tt
marks_calm P [] (d ∷ []) h few = tt
marks_calm P [] (d ∷ e ∷ new) h few = absurd (omega (arith, few))
marks_calm P (a ∷ []) [] h few = tt
marks_calm P (a ∷ []) (d ∷ []) h few = (calm_mark a h.0, tt)
marks_calm P (a ∷ []) (d ∷ e ∷ new) h few = absurd (omega (arith, few))
marks_calm P (a ∷ b ∷ more) new h few = (calm_mark a h.0, marks_calm P (b ∷ more) new h.1 few)

module _ (P : Source) (Sound : BoardState → Type 0) (IsWord : Given → Type 0) (sound : AnswersWords Sound IsWord) (code : Code) (even_end : even code.data_end ≡ code.data_end) (low_end : code.data_end ≤ 0x3900) where
  -- the moment of this instruction: memory as the mote has it, and ports as they answer behind the marks
  abbrev pub now_of : Open → State → Joined (Memory Outside) → Bool → Moment
  now_of o r j interrupted = moment_now P code.data_end even_end low_end Sound IsWord sound (after_all P r (moves_of (silent (code.marks o.cpu.pc)))) j.bus.ports.shown code.image j.bus.ram interrupted

  -- what open code and the mote have in common before an instruction
  pub record IsJoined (w : Actor) (body : Option ℕ) (o : Open) (interrupted : Bool) (r : State) (j : Joined (Memory Outside)) : Type 0 where
    pub common : IsCommon Sound code.image code.data_end r j.bus
    pub done : HasDone w body o.done r
    pub cpu : j.cpu ≡ settled interrupted o.cpu
    pub stack : (a : ℕ) → o.cpu.sp ≤ a → a < code.top → j.bus.ram a ≡ o.ram a

  -- a board stays sound where words are written
  sound_one : (t : State) (a : Action) → IsWordOut a → Sound t.board → Sound (after P t (Do a)).board
  sound_one t (action.Load x wide) h k = k
  sound_one t (action.Store x wide v) h k = k
  sound_one t (action.In p) h k = sound.read t.board p k
  sound_one t (action.Out p v) h k = sound.write t.board p v h k
  sound_one t (action.Post n) h k = k
  sound_one t action.Begin h k = k
  sound_one t action.End h k = k
  sound_one t action.Tick h k = k
  sound_one t (action.Fault n) h k = k

  sound_all : (ds : List Done) (t : State) → AreWordOuts ds → Sound t.board → Sound (after_all P t (moves_of ds)).board
  sound_all [] t h k = k
  sound_all (d ∷ ds) t h k = sound_all ds (after P t (Do d.action)) h.1 (sound_one t d.action h.0 k)

  pub is_moment : (o : Open) (r : State) (j : Joined (Memory Outside)) (i : Bool) → ((a : ℕ) → j.bus.ram a < 0x100) → Sound (after_all P r (moves_of (silent (code.marks o.cpu.pc)))).board → IsMoment (now_of o r j i)
  is_moment o r j i h k = record { bytes = h; answer = λ done p outs. sound.answer (after_all P (after_all P r (moves_of (silent (code.marks o.cpu.pc)))) (moves_of done)).board p (sound_all done (after_all P r (moves_of (silent (code.marks o.cpu.pc)))) outs k) }

  -- behind the marks the board is what it was
  pub sound_marked : (r : State) (m : Memory Outside) (l : List Action) → IsCommon Sound code.image code.data_end r m → AllByRecursion IsSilent l → Sound (after_all P r (moves_of (silent l))).board
  sound_marked r m l h silent_l = subst Sound (h.board ∙ sym (marks_same P r l silent_l).board) h.words

  module _ (w : Actor) (body : Option ℕ) (o : Open) (i : Bool) (r : State) (j : Joined (Memory Outside)) (h : IsJoined w body o i r j) (marks : AreMarks (code.marks o.cpu.pc)) where
    abbrev now : Moment
    now = now_of o r j i

    abbrev marked : List Done
    marked = silent (code.marks o.cpu.pc)

    abbrev behind : State
    behind = after_all P r (moves_of marked)

    abbrev Noted : ℕ → Logged → Memory Outside → Type 0
    Noted = IsNoted P code.data_end even_end low_end Sound IsWord sound behind j.bus.ports.shown code.image

    -- the stack is where the code left it, and all else is as the mote has it
    same_ram : disturbed j.bus.ram o.cpu.sp code.top o.ram ≡ j.bus.ram
    same_ram = fun_ext (λ a. by_test a (nat_le o.cpu.sp a && nat_lt a code.top) refl)
      where
        by_test : (a : ℕ) (t : Bool) → (nat_le o.cpu.sp a && nat_lt a code.top) ≡ t → cond t (o.ram a) (j.bus.ram a) ≡ j.bus.ram a
        by_test a true e = sym (h.stack a (grind (arith, nat_tests)) (grind (arith, nat_tests)))
        by_test a false e = refl

    starts : Noted 0 (joined_now code now o).bus j.bus
    starts =
        let s = marks_same P r (code.marks o.cpu.pc) marks.silent in
        record {
          ram = same_ram;
          code = sym h.common.code;
          kept = h.common.code;
          board = h.common.board ∙ sym s.board;
          shown = sym (append-nil j.bus.ports.shown);
          stopped = h.common.runs;
          store = λ a d. ap (λ (f : ℕ → ℕ). f a) s.store ∙ h.common.store a d;
          answered = tt;
          tasks = refl;
          halted = s.stopped ∙ h.common.going;
          plain = tt;
          low = tt;
          bytes = h.common.bytes;
        }

    -- one instruction of both
    pub steps : AreSteps (logged_bus code.data_end now.answer) ops Noted (instruction code now o) (run_or_idle ops j)
    steps = same_instruction (logged_bus code.data_end now.answer) ops Noted (answer_alike P code.data_end even_end low_end Sound IsWord sound behind j.bus.ports.shown code.image j.bus.ram i) (joined_now code now o) j (sym h.cpu) starts

    abbrev pub new_of : List Done
    new_of = (instruction code now o).after.bus.ports

    abbrev pub acts_of : List Move
    acts_of = moves_of (marked ++ new_of)

    -- what it leaves
    pub record IsCarried : Type 0 where
      pub cpu : (run_or_idle ops j).after.cpu ≡ (went code now o).cpu
      pub ram : (run_or_idle ops j).after.bus.ram ≡ (went code now o).ram
      pub shown : (run_or_idle ops j).after.bus.ports.shown ≡ j.bus.ports.shown ++ shown_by P r acts_of
      pub done : HasDone w body (went code now o).done (after_all P r acts_of)
      pub legal : AreLegal P r acts_of
      pub code_kept : (run_or_idle ops j).after.bus.code ≡ code.image
      pub board : (run_or_idle ops j).after.bus.ports.board ≡ (after_all P r acts_of).board
      pub store : (a : ℕ) → is_data code.data_end a ≡ true → (after_all P r acts_of).store a ≡ (run_or_idle ops j).after.bus.ram a
      pub words : Sound (run_or_idle ops j).after.bus.ports.board
      pub bytes : (a : ℕ) → (run_or_idle ops j).after.bus.ram a < 0x100
      pub no_task : (after_all P r acts_of).tasks ≡ []
      pub halted : (after_all P r acts_of).stopped ≡ is_some (fault_of new_of)
      pub stopped : (run_or_idle ops j).after.bus.ports.stopped ≡ fault_of new_of
      pub stepped : (run_or_idle ops j).stepped ≡ stepped_of ops (fault_of new_of)
      pub plain : AllByRecursion IsPlain new_of
      pub low : IsLowCode (fault_of new_of)
      pub answered : AreAnswered P behind new_of

    pub carried : IsFair code now o → AreNext (act_of P body) (went code now o).done → IsCarried
    carried fair next =
        let s = steps in
        let b = s.bus in
        let split : acts_of ≡ moves_of marked ++ moves_of new_of = moves-append marked new_of in
        let behind_is : after_all P behind (moves_of new_of) ≡ after_all P r acts_of = sym (ap (after_all P r) split ∙ after_all-append P r (moves_of marked) (moves_of new_of)) in
        let answers = answered-append P r marked new_of (marks_answered P body (code.marks o.cpu.pc) r marks.silent) b.answered in
        let m = marks_same P r (code.marks o.cpu.pc) marks.silent in
        record {
          cpu = sym s.cpu;
          ram = sym b.ram;
          shown =
              b.shown
              ∙ ap (λ l. j.bus.ports.shown ++ l)
              (sym (ap (shown_by P r) split ∙ shown_by-append P r (moves_of marked) (moves_of new_of) ∙ ap (λ l. l ++ shown_by P behind (moves_of new_of)) (marks_shown P r (code.marks o.cpu.pc) marks.silent)));
          done = done_all P w body o.done (marked ++ new_of) r h.done answers;
          legal = legal_all P w body o.done (marked ++ new_of) r h.done h.common.going answers next (marks_calm P (code.marks o.cpu.pc) new_of marks.silent fair.alone);
          code_kept = b.kept;
          board = b.board ∙ ap (λ (t : State). t.board) behind_is;
          store = λ a d. ap (λ (t : State). t.store a) (sym behind_is) ∙ b.store a d;
          words = subst Sound (sym b.board) (sound_all new_of behind fair.outs (sound_marked r j.bus (code.marks o.cpu.pc) h.common marks.silent));
          bytes = b.bytes;
          no_task = ap (λ (t : State). t.tasks) (sym behind_is) ∙ b.tasks ∙ m.tasks ∙ h.common.no_task;
          halted = ap (λ (t : State). t.stopped) (sym behind_is) ∙ b.halted;
          stopped = b.stopped;
          stepped = sym s.stepped ∙ fair.runs;
          plain = b.plain;
          low = b.low;
          answered = b.answered;
        }
