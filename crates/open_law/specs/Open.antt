-- The open law of code: it performs actions, whatever happens between its instructions (own).
use Rattle.std.specs.Prelude.{◌≡◌, ℕ, ◌+◌, ◌<◌, ◌≤◌, ◌%◌, ◌==◌, Bool, true, false, ◌&&◌, nat_lt, nat_le, if◌then◌else◌, List, [], ◌∷◌, ◌++◌, length, slice_index, Option, Some, None, is_some, count_by}
use Rattle.std.specs.List.{AllByRecursion}
use Rattle.nm_base.specs.declared.memory_map.TheConstants.{FAULT, RAM_START}
use Rattle.nm_base.specs.Lists.{IsPrefixOf}
use Rattle.nm_base.specs.Ports.{Ports}
use Rattle.nm_base.specs.declared.action.Action.{Action}
use Rattle.nm_base.specs.declared.action.Action.TheVariants.{Load, Store, In, Out, Begin, End, Tick, Fault}
use Rattle.nm_base.specs.Behaviour.{Performed, is_begin, is_end}
use Rattle.msp430_cpu.specs.Bus.{Bus}
use Rattle.msp430_cpu.specs.Cpu.{Cpu, even, gie, cpuoff}
use Rattle.msp430_cpu.specs.Exec.{Joined, Step, run_or_idle, stepped_of}
use Rattle.msp430_cpu.specs.Memory.{Memory, memory_bus, memory_read, memory_write, with_ports}

-- an action, and how it was answered: by one number, or by none
pub record Done : Type 0 where
  pub action : Action
  pub answers : List ℕ

abbrev pub actions_of : List Done → List Action
actions_of [] = []
actions_of (d ∷ ds) = d.action ∷ actions_of ds

abbrev pub answers_of : List Done → List ℕ
answers_of [] = []
answers_of (d ∷ ds) = d.answers ++ answers_of ds

-- actions that nobody answers
abbrev pub silent : List Action → List Done
silent [] = []
silent (a ∷ more) = record { action = a; answers = [] } ∷ silent more

-- whether an atomic statement is open behind these actions
abbrev pub is_within : List Done → Bool
is_within ds = nat_lt (count_by is_end (actions_of ds)) (count_by is_begin (actions_of ds))

-- the code of a fault, where one was raised
abbrev pub fault_in : Action → Option ℕ → Option ℕ
fault_in (Fault code) later = Some code
fault_in _ later = later

abbrev pub fault_of : List Done → Option ℕ
fault_of [] = None
fault_of (d ∷ ds) = fault_in d.action (fault_of ds)

-- What happens at one instruction of open code: all bytes but those that it keeps on its stack, the answers of its port
-- reads, given what the instruction has done before, and whether a handler came in front of it
pub record Moment : Type 0 where
  pub bytes : ℕ → ℕ
  pub answer : List Done → ℕ → ℕ
  pub interrupted : Bool

-- words are written to ports
abbrev pub IsWordOut : Action → Type 0
IsWordOut (Out p v) = v < 0x10000
IsWordOut _ = Unit {0}

abbrev pub AreWordOuts : List Done → Type 0
AreWordOuts ds = AllByRecursion (λ (d : Done). IsWordOut d.action) ds

-- bytes are bytes, and ports answer words
pub record IsMoment (now : Moment) : Type 0 where
  pub bytes : (a : ℕ) → now.bytes a < 0x100
  pub answer : (done : List Done) (p : ℕ) → AreWordOuts done → now.answer done p < 0x10000

-- open code: its processor, its memory, and all that it has done
pub record Open : Type 0 where
  pub cpu : Cpu
  pub ram : ℕ → ℕ
  pub done : List Done

-- The memory that an instruction is joined to. Its ports are the list of what the instruction has done
abbrev pub Logged : Type 0
Logged = Memory (List Done)

abbrev pub doing : List Done → Action → List ℕ → List Done
doing done a answers = done ++ record { action = a; answers = answers } ∷ []

-- ports that note what is done with them
abbrev pub noted_ports : (List Done → ℕ → ℕ) → Ports (List Done)
noted_ports answer = record {
  get = λ done p. (answer done p, doing done (In p) (answer done p ∷ []));
  put = λ done p v. doing done (if p == FAULT then Fault (v % 256) else Out p v) [];
  line = λ done. None;
  accept = λ done v. done;
  stopped = fault_of;
  illegal = λ done. done;
}

-- an address of an object, up to the end of the data
abbrev pub is_data : ℕ → ℕ → Bool
is_data data_end a = nat_le RAM_START a && nat_lt a data_end

-- a word lies at an even address
abbrev pub address_of : ℕ → Bool → ℕ
address_of a wide = if wide then even a else a

module _ (data_end : ℕ) (answer : List Done → ℕ → ℕ) where
  -- accesses to objects are noted too
  abbrev pub logged_read : Logged → ℕ → Bool → ℕ × Logged
  logged_read m a wide =
      let r = memory_read (noted_ports answer) m a wide in
      if is_data data_end a then (r.0, with_ports m (doing m.ports (Load (address_of a wide) wide) (r.0 ∷ []))) else r

  abbrev pub logged_write : Logged → ℕ → Bool → ℕ → Logged
  logged_write m a wide v =
      let k = memory_write (noted_ports answer) m a wide v in
      if is_data data_end a then with_ports k (doing m.ports (Store (address_of a wide) wide v) []) else k

  abbrev pub logged_bus : Bus Logged
  logged_bus = record {
    read = logged_read;
    write = logged_write;
    fetch = (memory_bus (noted_ports answer)).fetch;
    line = (memory_bus (noted_ports answer)).line;
    accept = (memory_bus (noted_ports answer)).accept;
    stopped = (memory_bus (noted_ports answer)).stopped;
  }

-- The code keeps what lies from SP up to the top of its stack. All else may change between two instructions
abbrev pub disturbed : (ℕ → ℕ) → ℕ → ℕ → (ℕ → ℕ) → ℕ → ℕ
disturbed bytes sp top ram a = if nat_le sp a && nat_lt a top then ram a else bytes a

-- behind a handler the gate is as GIE was saved
abbrev pub settled : Bool → Cpu → Cpu
settled interrupted c = record c { gate = if interrupted then c.gate && gie c else c.gate }

-- it has taken all that it had on its stack, or it has raised a fault
abbrev pub is_back : ℕ → Open → Bool
is_back top o = nat_le top o.cpu.sp

abbrev pub is_over : ℕ → Open → Bool
is_over top o = if is_back top o then true else is_some (fault_of o.done)

-- The code in its image: the image, the end of the data, the actions that stand in front of the instruction at an address,
-- and the top of the code's stack
pub record Code : Type 0 where
  pub image : ℕ → ℕ
  pub data_end : ℕ
  pub marks : ℕ → List Action
  pub top : ℕ

-- before an instruction
abbrev pub joined_now : Code → Moment → Open → Joined Logged
joined_now code now o = record {
  cpu = settled now.interrupted o.cpu;
  bus = record { ram = disturbed now.bytes o.cpu.sp code.top o.ram; code = code.image; ports = [] };
}

abbrev pub instruction : (code : Code) (now : Moment) → Open → Step (logged_bus code.data_end now.answer)
instruction code now o = run_or_idle (logged_bus code.data_end now.answer) (joined_now code now o)

abbrev pub went : (code : Code) (now : Moment) → Open → Open
went code now o =
    let s = instruction code now o in
    record { cpu = s.after.cpu; ram = s.after.bus.ram; done = o.done ++ (silent (code.marks o.cpu.pc) ++ s.after.bus.ports) }

-- one instruction, and some
abbrev pub open_step : Code → Moment → Open → Open
open_step code now o = if is_over code.top o then o else went code now o

abbrev pub open_all : Code → List Moment → Open → Open
open_all code [] o = o
open_all code (now ∷ more) o = open_all code more (open_step code now o)

abbrev pub open_start : Cpu → (ℕ → ℕ) → Open
open_start c ram = record { cpu = c; ram = ram; done = [] }

-- each action is the next that the body does, given the answers before it
abbrev pub AreNext : (List ℕ → ℕ → Performed) → List Done → Type 0
AreNext act ds = (front : List Done) (d : Done) (back : List Done) → ds ≡ front ++ (d ∷ back) → (n : ℕ) × IsPrefixOf (actions_of front ++ d.action ∷ []) (act (answers_of front) n).actions

-- and they are all that it does
pub record AreAll (act : List ℕ → ℕ → Performed) (ds : List Done) : Type 0 where
  pub turns : ℕ
  pub all : (act (answers_of ds) turns).actions ≡ actions_of ds
  pub ended : (act (answers_of ds) turns).ended ≡ true

-- marks are silent, and at most one of them begins or ends an atomic statement
abbrev pub IsSilent : Action → Type 0
IsSilent Tick = Unit {0}
IsSilent Begin = Unit {0}
IsSilent End = Unit {0}
IsSilent _ = ⊥

pub record AreMarks (actions : List Action) : Type 0 where
  pub silent : AllByRecursion IsSilent actions
  pub few : count_by is_begin actions + count_by is_end actions ≤ 1

-- a processor whose registers hold words
pub record HoldsWords (c : Cpu) : Type 0 where
  pub pc : c.pc < 0x10000
  pub even_pc : even c.pc ≡ c.pc
  pub even_sp : even c.sp ≡ c.sp
  pub sr : c.sr < 0x10000
  pub twelve : length c.others ≡ 12
  pub others : (i : ℕ) → slice_index c.others i < 0x10000

-- what is so between two instructions
pub record IsBetween (act : List ℕ → ℕ → Performed) (code : Code) (lowest : ℕ) (Gate Back : Open → Type 0) (o : Open) : Type 0 where
  pub next : AreNext act o.done
  pub low : lowest ≤ o.cpu.sp
  pub high : o.cpu.sp ≤ code.top
  pub words : HoldsWords o.cpu
  pub bytes : (a : ℕ) → o.ram a < 0x100
  pub marks : is_over code.top o ≡ false → AreMarks (code.marks o.cpu.pc)
  pub gate : is_over code.top o ≡ false → Gate o
  -- in the code the processor never sleeps
  pub awake : is_back code.top o ≡ false → cpuoff o.cpu ≡ false
  pub back : is_back code.top o ≡ true → Back o

-- what is so of an instruction
pub record IsFair (code : Code) (now : Moment) (o : Open) : Type 0 where
  -- its word is an instruction
  pub runs : (instruction code now o).stepped ≡ stepped_of (logged_bus code.data_end now.answer) (fault_of (instruction code now o).after.bus.ports)
  -- it writes words to ports
  pub outs : AreWordOuts (instruction code now o).after.bus.ports
  -- it does one action at most, besides its marks
  pub alone : length (instruction code now o).after.bus.ports ≤ 1
  -- it writes nothing above its stack but objects
  pub leaves : (a : ℕ) → code.top ≤ a → is_data code.data_end a ≡ false → (instruction code now o).after.bus.ram a ≡ now.bytes a
  -- and is no RETI, unless the code is back behind it
  pub gate : is_back code.top (went code now o) ≡ false → (went code now o).cpu.gate ≡ gie o.cpu

-- The law of code that begins with this processor and memory: whatever happens at each instruction, and of `bound`
-- instructions one does an action or is the last
pub record IsOpenCode (act : List ℕ → ℕ → Performed) (code : Code) (lowest bound : ℕ) (Gate Back : Open → Type 0) (c : Cpu) (ram : ℕ → ℕ) : Type 0 where
  pub between : (moments : List Moment) → AllByRecursion IsMoment moments → IsBetween act code lowest Gate Back (open_all code moments (open_start c ram))
  pub fair : (moments : List Moment) (now : Moment) → AllByRecursion IsMoment moments → IsMoment now → is_over code.top (open_all code moments (open_start c ram)) ≡ false → IsFair code now (open_all code moments (open_start c ram))
  pub soon : (moments more : List Moment) → AllByRecursion IsMoment moments → AllByRecursion IsMoment more → length more ≡ bound → length (open_all code (moments ++ more) (open_start c ram)).done ≡ length (open_all code moments (open_start c ram)).done →
      is_over code.top (open_all code (moments ++ more) (open_start c ram)) ≡ true

-- Interrupts, of a body that was called with the gate open: it is shut inside atomic statements; and outside, where GIE
-- is clear, the gate is still open and the next instruction begins one
pub record IsGated (code : Code) (o : Open) : Type 0 where
  pub shut : is_within o.done ≡ true → o.cpu.gate ≡ false
  pub begins : is_within o.done ≡ false → gie o.cpu ≡ false → (o.cpu.gate ≡ true) × (is_within (o.done ++ silent (code.marks o.cpu.pc)) ≡ true)

-- and of code that was called with the gate closed
pub record IsShut (o : Open) : Type 0 where
  pub gate : o.cpu.gate ≡ false
  pub gie : gie o.cpu ≡ false
