-- Code that sets Z, and behind it RET where Z is set, else a fault: a chain from its start to one of both.
use Rattle.std.proofs.Common.{None, Some, ◌≡◌, Option, ℕ, ◌+◌, ◌-◌, ◌<◌, ◌≤◌, Bool, true, false, cond, List, [], ◌∷◌, ◌++◌, length, append-nil, refl, sym, ap, ◌∙◌, subst, arith}
use Rattle.std.specs.Prelude.{slice_index}
use Rattle.nm_base.specs.Lists.{bit}
use Rattle.nm_base.specs.declared.action.Action.{Action}
use Rattle.nm_base.specs.declared.action.Action.TheVariants as action
use Rattle.msp_isa.specs.declared.instr.Cond.TheVariants.{Jeq}
use Rattle.msp_isa.specs.declared.instr.Instr.TheVariants.{Two}
use Rattle.msp_isa.specs.declared.instr.Op2.TheVariants.{Mov}
use Rattle.msp_isa.specs.declared.instr.Operand.TheVariants.{Reg, Increment}
use Rattle.msp430_cpu.specs.Cpu.{Cpu, cpuoff, gie}
use Rattle.msp430_cpu.specs.Operate.{is_taken}
use Rattle.open_law.specs.Body.{code_below}
use Rattle.open_law.specs.Open.{Code as OpenCode, Done, HoldsWords, Moment, IsMoment, Open, actions_of, answers_of, instruction, open_start, silent, went}
use Rattle.open_law.specs.Stands.{IsMarked}
use Rattle.open_law.proofs.Acting.{doing}
use Rattle.open_law.proofs.Chain.{Goes, fault}
use Rattle.open_law.proofs.Log.{actions_on, answers_on}
use Rattle.open_law.proofs.Quiet.{passed}
use Rattle.open_law.proofs.View.{IsLog, IsRoom, Shows, View}
use Rattle.msp_select.specs.Routine.{Does, Ends, IsGoing, IsInside, Turns}
use Rattle.msp_select.proofs.Turning.{turns_of}
use Rattle.msp_runtime.specs.Code.{Code, Registers, IsBounded, depth, is_formed, leaves_others, meaning, weight}
use Rattle.msp_runtime.proofs.Returning.{IsCalm, IsEnd, is_back, is_going, is_inside, returns, settled_behind, settled_first, shows_start}
use Rattle.msp_runtime.proofs.Running.{Good, IsSettled, Jumps, Reach, SameFrom, Stand, at, leaps, ready, run, sp_on, wider}
use Rattle.msp_checks.specs.Checks.{raise}

-- what a check gives
abbrev pub given_where : Bool → Option (List ℕ)
given_where b = cond b (Some []) None

one_done : (a : Action) (ds : List Done) → actions_of ds ≡ a ∷ [] → answers_of ds ≡ [] → ds ≡ record { action = a; answers = [] } ∷ []
one_done a [] e f = absurd (let l = ap length e in omega (arith, l))
one_done a (d ∷ []) e f =
    let g : d.action ≡ a = cc in
    ap (λ x. record { action = x; answers = d.answers } ∷ []) g ∙ ap (λ ys. record { action = a; answers = ys } ∷ []) (sym (append-nil d.answers) ∙ f)
one_done a (d ∷ b ∷ ds) e f = absurd (let l = ap length e in omega (arith, l))

module _ (image : ℕ → ℕ) (data_end : ℕ) (marks : ℕ → List Action) (sp0 : ℕ) (start : Cpu) (ram : ℕ → ℕ) (objects : 0x1100 ≤ data_end) (room : data_end + 60 ≤ start.sp + 2) (within : start.sp + 2 ≤ sp0 + 2) (high : sp0 + 2 ≤ 0x3900)
    (words : HoldsWords start) (awake : cpuoff start ≡ false) (level : start.gate ≡ gie start) (bytes : (a : ℕ) → ram a < 0x100) where
  abbrev code : OpenCode
  code = code_below image data_end marks (sp0 + 2)

  abbrev first : Registers
  first = record { regs = λ r. slice_index start.others (r - 4); sr = start.sr; sp = start.sp }

  abbrev Calm : View → Type 0
  Calm = IsCalm image data_end marks sp0 start ram objects room within high words awake level bytes

  -- in front of the fault
  pub record IsFaulting (v : View) : Type 0 where
    pub calm : Calm v
    pub ready : IsRoom data_end (sp0 + 2) v × (bit v.sr 4 ≡ false) × (v.faulted ≡ None)
    pub stands : IsMarked image marks v.pc [] raise
    pub made : v.made ≡ []
    pub answers : v.answers ≡ []

  abbrev pub IsAfter : Bool → View → Type 0
  IsAfter true v = IsEnd image data_end marks sp0 start ram objects room within high words awake level bytes [] v
  IsAfter false v = IsFaulting v

  log_of : (v : View) (o : Open) → Shows (sp0 + 2) v o → IsLog v.made v.answers v.faulted o.done
  log_of v o s = subst (λ (x : Open). IsLog v.made v.answers v.faulted x.done) (sym s.same) s.log

  inside : (v : View) (o : Open) → Shows (sp0 + 2) v o → Calm v → IsInside code start ram o
  inside = is_inside image data_end marks sp0 start ram objects room within high words awake level bytes

  -- the fault is raised, and nothing else is done
  raises : (v : View) (o : Open) → Shows (sp0 + 2) v o → IsFaulting v → (now : Moment) → IsMoment now → Does code now o (record { action = action.Fault 2; answers = [] } ∷ []) × IsInside code start ram (went code now o)
  raises v o s f now moment = (record { fair = goes.fair; noted = one_done (action.Fault 2) ports acted answered }, inside w (went code now o) goes.shows calm)
    where
      w : View
      w = passed (doing v (action.Fault 2) (Some 2)) 6

      goes : Goes image data_end marks sp0 now v w o
      goes = fault image data_end marks sp0 v 2 f.ready f.stands (omega arith) now o moment s

      ports : List Done
      ports = (instruction code now o).after.bus.ports

      pc : marks o.cpu.pc ≡ []
      pc = ap (λ (x : Open). marks x.cpu.pc) s.same ∙ f.stands.table

      grown : (went code now o).done ≡ o.done ++ ports
      grown = ap (λ l. o.done ++ (silent l ++ ports)) pc

      before : IsLog v.made v.answers v.faulted o.done
      before = log_of v o s

      behind : IsLog w.made w.answers w.faulted (went code now o).done
      behind = log_of w (went code now o) goes.shows

      acted : actions_of ports ≡ action.Fault 2 ∷ []
      acted =
          ap (λ l. l ++ actions_of ports) (sym (before.made ∙ f.made)) ∙ sym (actions_on o.done ports) ∙ ap actions_of (sym grown) ∙ behind.made ∙ ap (λ l. l ++ action.Fault 2 ∷ []) f.made

      answered : answers_of ports ≡ []
      answered = ap (λ l. l ++ answers_of ports) (sym (before.answers ∙ f.answers)) ∙ sym (answers_on o.done ports) ∙ ap answers_of (sym grown) ∙ behind.answers ∙ f.answers

      calm : Calm w
      calm =
          let c = f.calm in let e = c.even_pc in let h = f.stands.at.high in let ev = f.stands.at.even in
          record { even_pc = omega (arith, ev); small_pc = omega (arith, h); small = c.small; even_sp = c.even_sp; low = c.low; below = c.below; is_awake = c.is_awake; gate = c.gie; gie = c.gie }

  ends : (b : Bool) (v : View) (o : Open) → Shows (sp0 + 2) v o → IsAfter b v → Ends code start ram (given_where b) o
  ends true v o s e = is_back image data_end marks sp0 start ram objects room within high words awake level bytes [] v o s e
  ends false v o s f = ((inside v o s f.calm, ap (λ (x : Open). marks x.cpu.pc) s.same ∙ f.stands.table), raises v o s f)

  module _ (b : Bool) (c : Code) (jump_at ret_at raise_at : ℕ) (formed : is_formed c ≡ true) (shallow : depth c ≤ 58) (others : leaves_others c ≡ true) (stands : Stand image data_end marks sp0 c start.pc jump_at) (jumps : Jumps image data_end marks sp0 jump_at ret_at raise_at Jeq)
      (raise_stands : IsMarked image marks raise_at [] raise) (ret_stands : IsMarked image marks ret_at [] (Two Mov false (Increment 1) (Reg 0))) (bounded : IsBounded c first) (tells : is_taken Jeq (meaning c first).sr ≡ b) where
    abbrev Post : View → Type 0
    Post = IsAfter b

    abbrev Settled : ℕ → Registers → Type 0
    Settled = IsSettled image data_end marks sp0 start objects room within high Post

    abbrev GoodHere : View → Type 0
    GoodHere = Good image data_end marks sp0 start objects room within high Post

    abbrev Next : View → View → Type 0
    Next v w = w.made ≡ v.made

    abbrev Reaches : ℕ → View → Type 0
    Reaches = Reach image data_end marks sp0 start objects room within high Post

    abbrev here : ℕ → Registers → (ℕ → ℕ) → View
    here = at image data_end marks sp0 start objects room within high Post

    abbrev after : Registers
    after = meaning c first

    s : Settled (depth c) after
    s = settled_behind image data_end marks sp0 start ram objects room within high words awake level bytes Post c formed shallow

    sp : after.sp ≡ start.sp
    sp = sp_on c first

    returned : (stack : ℕ → ℕ) → SameFrom start.sp ram stack → b ≡ true → Reaches 1 (here ret_at after stack)
    returned stack same e =
        returns image data_end marks sp0 start ram objects room within high words awake level bytes Post c formed shallow ret_at others ret_stands [] (omega arith) tt (λ v end. subst (λ t. IsAfter t v) (sym e) end) stack same

    faults : (stack : ℕ → ℕ) → b ≡ false → Reaches 0 (here raise_at after stack)
    faults stack e =
        let v = here raise_at after stack in let ev = raise_stands.at.even in let hi = raise_stands.at.high in
        let f : IsFaulting v = record {
          calm = record { even_pc = omega (arith, ev); small_pc = omega (arith, hi); small = s.small; even_sp = s.even_sp; low = omega (arith, sp); below = omega (arith, sp); is_awake = s.awake; gate = refl; gie = s.gie };
          ready = ready image data_end marks sp0 start objects room within high Post (depth c) raise_at after stack s;
          stands = raise_stands;
          made = refl;
          answers = refl;
        } in
        (0, omega arith, subst (λ t. IsAfter t v) (sym e) f)

    -- over the fault, or to it
    decides : (stack : ℕ → ℕ) → SameFrom start.sp ram stack → Reaches 3 (here jump_at after stack)
    decides stack same = leaps image data_end marks sp0 start objects room within high Post 1 (depth c) jump_at ret_at raise_at Jeq after stack b refl jumps s tells (by b refl)
      where
        by : (t : Bool) → b ≡ t → Reaches 1 (here (cond t ret_at raise_at) after stack)
        by true e = returned stack same e
        by false e = wider image data_end marks sp0 start objects room within high Post 0 1 (here raise_at after stack) (omega arith) (faults stack e)

    goes : Reaches (weight c + 3) (here start.pc first ram)
    goes =
        run image data_end marks sp0 start objects room within high Post c start.pc jump_at (depth c) first ram 3 formed bounded stands (omega arith)
        (settled_first image data_end marks sp0 start ram objects room within high words awake level bytes Post c formed shallow) decides

    pub turns : (n : ℕ) × (n < weight c + 4) × Turns code (IsGoing code start ram) (Ends code start ram (given_where b)) n (open_start start ram)
    turns =
        let n = goes.0 in let l = goes.1 in (
          n,
          omega (arith, l),
          turns_of image data_end marks sp0 GoodHere Next Post (IsGoing code start ram) (Ends code start ram (given_where b)) (is_going image data_end marks sp0 start ram objects room within high words awake level bytes Post) (ends b) (λ v w x. x) (λ v g. g.unmarked)
              n (here start.pc first ram) (open_start start ram) (shows_start image data_end marks sp0 start ram objects room within high words awake level bytes) goes.2,
        )
