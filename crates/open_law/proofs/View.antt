-- What the open machine's state is for code that relies on its frame alone, and one instruction of it.
use Rattle.std.proofs.Common.{Option, ◌≡◌, ℕ, ◌+◌, ◌-◌, ◌*◌, ◌/◌, ◌%◌, ◌==◌, ◌<◌, ◌≤◌, Bool, true, false, cond, List, [], ◌∷◌, ◌++◌, length, refl, ap, ◌∙◌, arith}
use Rattle.std.specs.Prelude.{slice_index}
use Rattle.std.proofs.lemmas.Bool.Decides.{nat_tests}
use Rattle.nm_base.specs.Lists.{bit}
use Rattle.nm_base.specs.declared.action.Action.{Action}
use Rattle.msp_isa.specs.declared.instr.Instr.{Instr}
use Rattle.msp_isa.specs.declared.decoder.Decoded.TheVariants.{Is}
use Rattle.msp_isa.specs.Decode.{decode}
use Rattle.msp_isa.specs.Encode.{encoded}
use Rattle.msp_isa.proofs.Spelled.{spelled}
use Rattle.msp430_cpu.specs.declared.cpu.Stepped.TheVariants.{Idle}
use Rattle.msp430_cpu.specs.Cpu.{Cpu, even, wrap16}
use Rattle.msp430_cpu.specs.Bus.{Bus}
use Rattle.msp430_cpu.specs.Exec.{Joined, run_or_idle, told, gated, ran, run_decoded, words_at}
use Rattle.msp430_cpu.specs.Memory.{is_ram, is_code, byte_at, word_at, with_word_at}
use Rattle.open_law.specs.Open.{Done, actions_of, answers_of, fault_of, Moment, Open, Logged, logged_bus}
use Rattle.msp_isa.specs.Stands.{word_in, IsAt}

-- what code can rely on: registers, the stack from SP up, what was done
pub record View : Type 0 where
  pub pc : ℕ
  pub sp : ℕ
  pub sr : ℕ
  pub gate : Bool
  pub regs : ℕ → ℕ
  pub stack : ℕ → ℕ
  pub made : List Action
  pub answers : List ℕ
  pub faulted : Option ℕ
  -- what this instruction has done
  pub noted : List Done

abbrev pub cpu_of : View → List ℕ → Cpu
cpu_of v others = record { pc = v.pc; sp = v.sp; sr = v.sr; others = others; gate = v.gate }

abbrev pub memory_of : (ℕ → ℕ) → View → (ℕ → ℕ) → Logged
memory_of image v ram = record { ram = ram; code = image; ports = v.noted }

abbrev pub state_of : (ℕ → ℕ) → View → List ℕ → (ℕ → ℕ) → Joined Logged
state_of image v others ram = record { cpu = cpu_of v others; bus = memory_of image v ram }

-- the processor behind the first word
abbrev pub behind : View → View
behind v = record v { pc = v.pc + 2 }

-- the lists and bytes of a state are those of the view
pub record FitsAt (top sp : ℕ) (regs' stack' : ℕ → ℕ) (others : List ℕ) (ram : ℕ → ℕ) : Type 0 where
  pub long : length others ≡ 12
  pub regs : (r : ℕ) → 4 ≤ r → r < 16 → slice_index others (r - 4) ≡ regs' r
  pub words : (r : ℕ) → 4 ≤ r → r < 16 → regs' r < 0x10000
  pub stack : (a : ℕ) → sp ≤ a → a < top → ram a ≡ stack' a

abbrev pub Fits : ℕ → View → List ℕ → (ℕ → ℕ) → Type 0
Fits top v others ram = FitsAt top v.sp v.regs v.stack others ram

-- the lists of a view are those of what was done
pub record IsLog (acts : List Action) (got : List ℕ) (faulted : Option ℕ) (done : List Done) : Type 0 where
  pub made : actions_of done ≡ acts
  pub answers : answers_of done ≡ got
  pub fault : fault_of done ≡ faulted

abbrev pub open_of : View → List ℕ → (ℕ → ℕ) → List Done → Open
open_of v others ram done = record { cpu = cpu_of v others; ram = ram; done = done }

pub record Shows (top : ℕ) (v : View) (o : Open) : Type 0 where
  pub others : List ℕ
  pub ram : ℕ → ℕ
  pub done : List Done
  pub same : o ≡ open_of v others ram done
  pub fits : Fits top v others ram
  pub bytes : (a : ℕ) → ram a < 0x100
  pub log : IsLog v.made v.answers v.faulted done

-- one instruction leads from every state of a view to a state of the other
pub record Leads (image : ℕ → ℕ) (data_end top : ℕ) (now : Moment) (v w : View) (others : List ℕ) (ram : ℕ → ℕ) : Type 0 where
  pub others' : List ℕ
  pub ram' : ℕ → ℕ
  pub same : run_or_idle (logged_bus data_end now.answer) (state_of image v others ram) ≡ told (logged_bus data_end now.answer) (state_of image w others' ram')
  pub fits : Fits top w others' ram'
  -- nothing from `top` on is written, bytes are written, and the gate follows GIE
  pub above : (a : ℕ) → top ≤ a → ram' a ≡ ram a
  pub bytes : ((a : ℕ) → ram a < 0x100) → (a : ℕ) → ram' a < 0x100
  pub gate : w.gate ≡ bit v.sr 3
  pub even_pc : even v.pc ≡ v.pc
  pub small_pc : v.pc < 0x10000

pub even_at : (n : ℕ) → n % 2 ≡ 0 → even n ≡ n
even_at n h = omega (arith, h)

-- a word's bytes are bytes
pub word_bytes : (ram : ℕ → ℕ) (b n : ℕ) → ((a : ℕ) → ram a < 0x100) → (a : ℕ) → with_word_at ram b n a < 0x100
word_bytes ram b n small a = by (a == b + 1) (a == b)
  where
    by : (s t : Bool) → cond s (n / 256 % 256) (cond t (n % 256) (ram a)) < 0x100
    by true t = omega arith
    by false true = omega arith
    by false false = small a

-- the stack lies above the data and in RAM
pub record IsRoomAt (data_end top sp : ℕ) : Type 0 where
  pub objects : 0x1100 ≤ data_end
  pub low : data_end ≤ sp
  pub inside : sp ≤ top
  pub high : top ≤ 0x3900
  pub even_sp : even sp ≡ sp

abbrev pub IsRoom : ℕ → ℕ → View → Type 0
IsRoom data_end top v = IsRoomAt data_end top v.sp

byte_of_code : (m : Logged) (a : ℕ) → 0x4000 ≤ a → a < 0x10000 → byte_at m a ≡ m.code a
byte_of_code m a h k =
    let r : is_ram a ≡ false = grind (arith, nat_tests) in
    let c : is_code a ≡ true = grind (arith, nat_tests) in
    rw (r, c) refl

word_of_code : (m : Logged) (a : ℕ) → even a ≡ a → 0x4000 ≤ a → a + 1 < 0x10000 → word_at m a ≡ word_in m.code a
word_of_code m a e h k =
    ap (λ x. byte_at m x + 256 * byte_at m (x + 1)) e
    ∙ ap (λ x. x + 256 * byte_at m (a + 1)) (byte_of_code m a h (omega arith))
    ∙ ap (λ x. m.code a + 256 * x) (byte_of_code m (a + 1) (omega arith) k)

module _ (image : ℕ → ℕ) (data_end : ℕ) where
  module _ (now : Moment) where
    abbrev ops : Bus Logged
    ops = logged_bus data_end now.answer

    fetched : (v : View) (others : List ℕ) (ram : ℕ → ℕ) (i : Instr) → (at : IsAt image v.pc i) → words_at ops (state_of image v others ram) ≡ encoded i ++ at.rest
    fetched v others ram i at =
        let m = memory_of image v ram in
        let lo = at.low in let hi = at.high in let ev = even_at v.pc at.even in
        let e2 : wrap16 (v.pc + 2) ≡ v.pc + 2 = omega arith in
        let e4 : wrap16 (v.pc + 4) ≡ v.pc + 4 = omega arith in
        let v2 : even (v.pc + 2) ≡ v.pc + 2 = omega arith in
        let v4 : even (v.pc + 4) ≡ v.pc + 4 = omega arith in
        let f0 = word_of_code m v.pc ev lo (omega arith) in
        let f2 = ap (λ a. word_at m a) e2 ∙ word_of_code m (v.pc + 2) v2 (omega arith) (omega arith) in
        let f4 = ap (λ a. word_at m a) e4 ∙ word_of_code m (v.pc + 4) v4 (omega arith) (omega arith) in
        ap (λ x. x ∷ word_at m (wrap16 (v.pc + 2)) ∷ word_at m (wrap16 (v.pc + 4)) ∷ []) f0
        ∙ ap (λ x. word_in image v.pc ∷ x ∷ word_at m (wrap16 (v.pc + 4)) ∷ []) f2
        ∙ ap (λ x. word_in image v.pc ∷ word_in image (v.pc + 2) ∷ x ∷ []) f4
        ∙ at.words

    -- the instruction that stands at PC is run
    pub runs : (v : View) (others : List ℕ) (ram : ℕ → ℕ) (i : Instr) → IsAt image v.pc i → bit v.sr 4 ≡ false →
        run_or_idle ops (state_of image v others ram) ≡ told ops (gated ops (bit v.sr 3) i (ran ops i (state_of image (behind v) others ram)))
    runs v others ram i at awake =
        let lo = at.low in let hi = at.high in
        let j = state_of image v others ram in
        let e2 : wrap16 (v.pc + 2) ≡ v.pc + 2 = omega arith in
        let d : decode (words_at ops j) ≡ Is i (length (encoded i)) = ap decode (fetched v others ram i at) ∙ spelled i at.rest at.written in
        ap (λ b. cond b (record { after = j; stepped = Idle }) (run_decoded ops j (decode (words_at ops j)))) awake
        ∙ ap (run_decoded ops j) d
        ∙ ap (λ p. told ops (gated ops (bit v.sr 3) i (ran ops i (state_of image (record v { pc = p }) others ram)))) e2
