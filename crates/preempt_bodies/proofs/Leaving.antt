-- What an instruction of entry and exit leaves, and what others leave of the stack.
use Rattle.std.proofs.Common.{◌≡◌, ℕ, suc, ◌<◌, ◌≤◌, Bool, true, false, ◌&&◌, cond, List, [], ◌∷◌, ◌++◌, length, sym, ap, subst, ◌∙◌, arith, append-nil, length-append}
use Rattle.std.proofs.lemmas.Bool.Decides.{nat_tests}
use Rattle.std.specs.Prelude.{nat_le, nat_lt}
use Rattle.nm_base.specs.declared.action.Action.{Action}
use Rattle.nm_base.specs.Behaviour.{Performed}
use Rattle.msp430_cpu.specs.declared.cpu.Stepped.TheVariants.{Ran}
use Rattle.msp430_cpu.specs.Cpu.{Cpu, gie}
use Rattle.msp430_cpu.specs.Exec.{Step, stepped_of}
use Rattle.open_law.specs.Open.{AreWordOuts, Done, Moment, Open, Code, AreNext, AreMarks, IsFair, fault_of, silent, disturbed, instruction, went, logged_bus}

-- nothing was done
pub next_none : (act : List ℕ → ℕ → Performed) (ds : List Done) → ds ≡ [] → AreNext act ds
next_none act ds e front d back s = absurd (none front (sym e ∙ s))
  where
    none : (front : List Done) → [] ≡ front ++ (d ∷ back) → ⊥
    none [] h = let k : 0 ≡ suc (length back) = ap length h in omega (arith, k)
    none (x ∷ front) h = let k : 0 ≡ suc (length (front ++ (d ∷ back))) = ap length h in omega (arith, k)

pub no_marks : (l : List Action) → l ≡ [] → AreMarks l
no_marks l e = subst AreMarks (sym e) (record { silent = tt; few = omega arith })

-- what a step of entry or exit leaves
module _ (code : Code) (now : Moment) (o : Open) (c' : Cpu) (ram' : ℕ → ℕ) where
  abbrev pub Leaves : Type 0
  Leaves = instruction code now o ≡ record { after = record { cpu = c'; bus = record { ram = ram'; code = code.image; ports = [] } }; stepped = Ran }

  pub piece_went : Leaves → code.marks o.cpu.pc ≡ [] → went code now o ≡ record { cpu = c'; ram = ram'; done = o.done }
  piece_went s m =
      ap (λ (x : Step (logged_bus code.data_end now.answer)). record { cpu = x.after.cpu; ram = x.after.bus.ram; done = o.done ++ (silent (code.marks o.cpu.pc) ++ x.after.bus.ports) }) s
      ∙ ap (λ l. record { cpu = c'; ram = ram'; done = o.done ++ (silent l ++ []) }) m
      ∙ ap (λ l. record { cpu = c'; ram = ram'; done = l }) (append-nil o.done)

  pub piece_fair : Leaves → ((a : ℕ) → code.top ≤ a → ram' a ≡ now.bytes a) → c'.gate ≡ gie o.cpu → IsFair code now o
  piece_fair s far gate = record {
    runs = ap (λ (x : Step (logged_bus code.data_end now.answer)). x.stepped) s ∙ sym (ap (λ (x : Step (logged_bus code.data_end now.answer)). stepped_of (logged_bus code.data_end now.answer) (fault_of x.after.bus.ports)) s);
    outs = subst AreWordOuts (sym (ap (λ (x : Step (logged_bus code.data_end now.answer)). x.after.bus.ports) s)) tt;
    alone = let e : length (instruction code now o).after.bus.ports ≡ 0 = ap (λ (x : Step (logged_bus code.data_end now.answer)). length x.after.bus.ports) s in omega (arith, e);
    leaves = λ a above d. ap (λ (x : Step (logged_bus code.data_end now.answer)). x.after.bus.ram a) s ∙ far a above;
    gate = λ b. ap (λ (x : Step (logged_bus code.data_end now.answer)). x.after.cpu.gate) s ∙ gate;
  }

module _ (bytes : ℕ → ℕ) (sp top : ℕ) (ram : ℕ → ℕ) where
  pub own : (a : ℕ) → sp ≤ a → a < top → disturbed bytes sp top ram a ≡ ram a
  own a le lt = let t : (nat_le sp a && nat_lt a top) ≡ true = grind (arith, nat_tests) in ap (λ s. cond s (ram a) (bytes a)) t

  pub far : (a : ℕ) → top ≤ a → disturbed bytes sp top ram a ≡ bytes a
  far a le = let t : (nat_le sp a && nat_lt a top) ≡ false = grind (arith, nat_tests) in ap (λ s. cond s (ram a) (bytes a)) t

  pub small : ((a : ℕ) → ram a < 0x100) → ((a : ℕ) → bytes a < 0x100) → (a : ℕ) → disturbed bytes sp top ram a < 0x100
  small h k a = by_test (nat_le sp a && nat_lt a top)
    where
      by_test : (t : Bool) → cond t (ram a) (bytes a) < 0x100
      by_test true = h a
      by_test false = k a

-- nothing that was done is lost
pub longer : (a b : List Done) → length a ≤ length (a ++ b)
longer a b = let e = length-append a b in omega (arith, e)
