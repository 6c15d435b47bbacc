-- One instruction over two buses that answer alike, whatever their lines are, does the same to the processor, and keeps what relates them.
use Rattle.std.proofs.Common.{◌≡◌, ℕ, suc, ◌+◌, ◌<◌, ◌==◌, Bool, true, false, cond, not, [], ◌∷◌, Option, refl, ap, subst, ◌∙◌, lit<}
use Rattle.msp_isa.specs.declared.instr.Op2.{Op2}
use Rattle.msp_isa.specs.declared.instr.Op1.{Op1}
use Rattle.msp_isa.specs.declared.instr.Op1.TheVariants.{Rrc, Swpb, Rra, Sxt, Push, Call}
use Rattle.msp_isa.specs.declared.instr.Operand.{Operand}
use Rattle.msp_isa.specs.declared.instr.Instr.{Instr}
use Rattle.msp_isa.specs.declared.instr.Instr.TheVariants.{Two, One, Jump, Reti}
use Rattle.msp_isa.specs.declared.decoder.Decoded.{Decoded}
use Rattle.msp_isa.specs.declared.decoder.Decoded.TheVariants.{Is, Illegal, Short}
use Rattle.msp_isa.specs.Decode.{decode}
use Rattle.msp430_cpu.specs.declared.cpu.Stepped.{Stepped}
use Rattle.msp430_cpu.specs.declared.cpu.Stepped.TheVariants.{Idle}
use Rattle.msp430_cpu.specs.Cpu.{Cpu, cpuoff, gie, even, wrap16}
use Rattle.msp430_cpu.specs.Bus.{Bus}
use Rattle.msp430_cpu.specs.Operate.{Result2, operate, reads_destination, is_taken}
use Rattle.msp430_cpu.specs.Alike.{AreSteps as Steps}
use Rattle.msp430_cpu.specs.Exec.{Joined, Where, InRegister, AtAddress, AsValue, place_of, further, incremented, with_cpu, value_at, put_at, flagged, finished, ran_two, pushed, change, end_one, ran_one, ran, gated, stepped_of, Step, run_decoded, words_at, run_or_idle}

-- The two answer alike where they are related, after n of at most three accesses; their lines may differ
pub record AnswerAlike {B C : Type 0} (ob : Bus B) (oc : Bus C) (R : ℕ → B → C → Type 0) : Type 0 where
  pub read : (n : ℕ) → n < 3 → (b : B) (c : C) (a : ℕ) (wide : Bool) → R n b c → ((ob.read b a wide).0 ≡ (oc.read c a wide).0) × R (suc n) (ob.read b a wide).1 (oc.read c a wide).1
  pub write : (n : ℕ) → n < 3 → (b : B) (c : C) (a : ℕ) (wide : Bool) (v : ℕ) → R n b c → R (suc n) (ob.write b a wide v) (oc.write c a wide v)
  pub none : (n : ℕ) → n < 3 → (b : B) (c : C) → R n b c → R (suc n) b c
  pub fetch : (n : ℕ) (b : B) (c : C) (a : ℕ) → R n b c → ob.fetch b a ≡ oc.fetch c a
  pub stopped : (n : ℕ) (b : B) (c : C) → R n b c → ob.stopped b ≡ oc.stopped c

module _ {B C : Type 0} (ob : Bus B) (oc : Bus C) (R : ℕ → B → C → Type 0) (rel : AnswerAlike ob oc R) where
  -- the same processor, and buses that are related after n accesses
  pub record AreSame (n : ℕ) (j : Joined B) (k : Joined C) : Type 0 where
    pub cpu : j.cpu ≡ k.cpu
    pub bus : R n j.bus k.bus

  abbrev at : {D : Type 0} → Cpu → D → Joined D
  at c d = record { cpu = c; bus = d }

  -- it is enough to look at one processor
  over_one : (n m : ℕ) (F : Joined B → Joined B) (G : Joined C → Joined C) → ((c : Cpu) (b : B) (d : C) → R n b d → AreSame m (F (record { cpu = c; bus = b })) (G (record { cpu = c; bus = d }))) → (j : Joined B) (k : Joined C) → AreSame n j k → AreSame m (F j) (G k)
  over_one n m F G h j k s = subst (λ c. AreSame m (F j) (G (record { cpu = c; bus = k.bus }))) s.cpu (h j.cpu j.bus k.bus s.bus)

  choice : (n : ℕ) (t : Bool) (j j' : Joined B) (k k' : Joined C) → AreSame n j k → AreSame n j' k' → AreSame n (cond t j j') (cond t k k')
  choice n true j j' k k' h h' = h
  choice n false j j' k k' h h' = h'

  -- nothing is accessed
  later : (n : ℕ) → n < 3 → (j : Joined B) (k : Joined C) → AreSame n j k → AreSame (suc n) j k
  later n few j k s = record { cpu = s.cpu; bus = rel.none n few j.bus k.bus s.bus }

  all_later : (b : B) (d : C) → R 0 b d → R 3 b d
  all_later b d h = rel.none 2 (lit< tt) b d (rel.none 1 (lit< tt) b d (rel.none 0 (lit< tt) b d h))

  values : (n : ℕ) → n < 3 → (c : Cpu) (b : B) (d : C) (byte : Bool) (w : Where) → R n b d → ((value_at ob (record { cpu = c; bus = b }) byte w).0 ≡ (value_at oc (record { cpu = c; bus = d }) byte w).0) × R (suc n) (value_at ob (record { cpu = c; bus = b }) byte w).1 (value_at oc (record { cpu = c; bus = d }) byte w).1
  values n few c b d byte (InRegister r) h = (refl, rel.none n few b d h)
  values n few c b d byte (AtAddress a) h = rel.read n few b d a (not byte) h
  values n few c b d byte (AsValue v) h = (refl, rel.none n few b d h)

  puts : (n : ℕ) → n < 3 → (c : Cpu) (b : B) (d : C) (byte : Bool) (w : Where) (v : ℕ) → R n b d → AreSame (suc n) (put_at ob (record { cpu = c; bus = b }) byte w v) (put_at oc (record { cpu = c; bus = d }) byte w v)
  puts n few c b d byte (InRegister r) v h = record { cpu = refl; bus = rel.none n few b d h }
  puts n few c b d byte (AtAddress a) v h = record { cpu = refl; bus = rel.write n few b d a (not byte) v h }
  puts n few c b d byte (AsValue x) v h = record { cpu = refl; bus = rel.none n few b d h }

  flags : (n : ℕ) (j : Joined B) (k : Joined C) (w : Where) (sr : ℕ) → AreSame n j k → AreSame n (flagged ob j w sr) (flagged oc k w sr)
  flags n j k (InRegister r) sr s = over_one n n (λ x. flagged ob x (InRegister r) sr) (λ x. flagged oc x (InRegister r) sr) (λ c b d h. choice n (r == 2) (at c b) (at (record c { sr = sr }) b) (at c d) (at (record c { sr = sr }) d) (record { cpu = refl; bus = h }) (record { cpu = refl; bus = h })) j k s
  flags n j k (AtAddress a) sr s = over_one n n (λ x. flagged ob x (AtAddress a) sr) (λ x. flagged oc x (AtAddress a) sr) (λ c b d h. record { cpu = refl; bus = h }) j k s
  flags n j k (AsValue v) sr s = over_one n n (λ x. flagged ob x (AsValue v) sr) (λ x. flagged oc x (AsValue v) sr) (λ c b d h. record { cpu = refl; bus = h }) j k s

  finishes : (n : ℕ) → n < 3 → (c : Cpu) (b : B) (d : C) (byte : Bool) (w : Where) (r r' : Result2) → r ≡ r' → R n b d → AreSame (suc n) (finished ob (record { cpu = c; bus = b }) byte w r) (finished oc (record { cpu = c; bus = d }) byte w r')
  finishes n few c b d byte w r r' e h =
      subst (λ t. AreSame (suc n) (finished ob (record { cpu = c; bus = b }) byte w r) (finished oc (record { cpu = c; bus = d }) byte w t)) e
      (choice (suc n) r.is_written
      (flagged ob (put_at ob (at c b) byte w r.result) w r.sr) (flagged ob (at c b) w r.sr)
      (flagged oc (put_at oc (at c d) byte w r.result) w r.sr) (flagged oc (at c d) w r.sr)
      (flags (suc n) (put_at ob (at c b) byte w r.result) (put_at oc (at c d) byte w r.result) w r.sr (puts n few c b d byte w r.result h))
      (flags (suc n) (at c b) (at c d) w r.sr (record { cpu = refl; bus = rel.none n few b d h })))

  twos : (op : Op2) (byte : Bool) (source destination : Operand) (c : Cpu) (b : B) (d : C) → R 0 b d → AreSame 3 (ran_two ob op byte source destination (record { cpu = c; bus = b })) (ran_two oc op byte source destination (record { cpu = c; bus = d }))
  twos op byte source destination c b d h =
      let at' = wrap16 (c.pc + further source) in
      let s = values 0 (lit< tt) c b d byte (place_of c c.pc source) h in
      let ci = incremented c byte source in
      let w = place_of ci at' destination in
      let cb = record ci { pc = wrap16 (at' + further destination) } in
      let sv = value_at ob (at c b) byte (place_of c c.pc source) in
      let sv' = value_at oc (at c d) byte (place_of c c.pc source) in
      let v = values 1 (lit< tt) cb sv.1 sv'.1 byte w s.1 in
      let x = value_at ob (at cb sv.1) byte w in
      let x' = value_at oc (at cb sv'.1) byte w in
      choice 3 (reads_destination op)
      (finished ob (at cb x.1) byte w (operate op byte ci.sr sv.0 x.0)) (finished ob (at cb sv.1) byte w (operate op byte ci.sr sv.0 0))
      (finished oc (at cb x'.1) byte w (operate op byte ci.sr sv'.0 x'.0)) (finished oc (at cb sv'.1) byte w (operate op byte ci.sr sv'.0 0))
      (finishes 2 (lit< tt) cb x.1 x'.1 byte w (operate op byte ci.sr sv.0 x.0) (operate op byte ci.sr sv'.0 x'.0) (ap (λ y. operate op byte ci.sr y x.0) s.0 ∙ ap (λ y. operate op byte ci.sr sv'.0 y) v.0) v.1)
      (finishes 2 (lit< tt) cb sv.1 sv'.1 byte w (operate op byte ci.sr sv.0 0) (operate op byte ci.sr sv'.0 0) (ap (λ y. operate op byte ci.sr y 0) s.0) (rel.none 1 (lit< tt) sv.1 sv'.1 s.1))

  pushes : (n : ℕ) → n < 3 → (byte : Bool) (v : ℕ) (j : Joined B) (k : Joined C) → AreSame n j k → AreSame (suc n) (pushed ob j byte v) (pushed oc k byte v)
  pushes n few byte v j k s = over_one n (suc n) (λ x. pushed ob x byte v) (λ x. pushed oc x byte v) (λ c b d h. record { cpu = refl; bus = rel.write n few b d (wrap16 (c.sp + 0xFFFE)) (not byte) v h }) j k s

  -- an operand that is changed where it lies
  changes : (op : Op1) (byte : Bool) (w : Where) (v v' : ℕ) (c : Cpu) (b : B) (d : C) → v ≡ v' → R 1 b d → AreSame 3 (finished ob (at c b) byte w (change op byte c.sr v)) (finished oc (at c d) byte w (change op byte c.sr v'))
  changes op byte w v v' c b d e h = later 2 (lit< tt) _ _ (finishes 1 (lit< tt) c b d byte w _ _ (ap (change op byte c.sr) e) h)

  calls : (n : ℕ) (v : ℕ) (j : Joined B) (k : Joined C) → AreSame n j k → AreSame n (with_cpu j (record j.cpu { pc = even v })) (with_cpu k (record k.cpu { pc = even v }))
  calls n v j k s = over_one n n (λ x. with_cpu x (record x.cpu { pc = even v })) (λ x. with_cpu x (record x.cpu { pc = even v })) (λ c b d h. record { cpu = refl; bus = h }) j k s

  ends : (op : Op1) (byte : Bool) (w : Where) (v v' : ℕ) (c : Cpu) (b : B) (d : C) → v ≡ v' → R 1 b d → AreSame 3 (end_one ob op byte w v (at c b)) (end_one oc op byte w v' (at c d))
  ends Push byte w v v' c b d e h = subst (λ x. AreSame 3 (pushed ob (at c b) byte v) (pushed oc (at c d) byte x)) e (later 2 (lit< tt) _ _ (pushes 1 (lit< tt) byte v (at c b) (at c d) (record { cpu = refl; bus = h })))
  ends Call byte w v v' c b d e h = subst (λ x. AreSame 3 (end_one ob Call byte w v (at c b)) (end_one oc Call byte w x (at c d))) e (later 2 (lit< tt) _ _ (calls 2 v (pushed ob (at c b) false c.pc) (pushed oc (at c d) false c.pc) (pushes 1 (lit< tt) false c.pc (at c b) (at c d) (record { cpu = refl; bus = h }))))
  ends Rrc byte w v v' c b d e h = changes Rrc byte w v v' c b d e h
  ends Rra byte w v v' c b d e h = changes Rra byte w v v' c b d e h
  ends Swpb byte w v v' c b d e h = changes Swpb byte w v v' c b d e h
  ends Sxt byte w v v' c b d e h = changes Sxt byte w v v' c b d e h

  ones : (op : Op1) (byte : Bool) (o : Operand) (c : Cpu) (b : B) (d : C) → R 0 b d → AreSame 3 (ran_one ob op byte o (at c b)) (ran_one oc op byte o (at c d))
  ones op byte o c b d h =
      let s = values 0 (lit< tt) c b d byte (place_of c c.pc o) h in
      let ci = incremented c byte o in
      ends op byte (place_of c c.pc o) (value_at ob (at c b) byte (place_of c c.pc o)).0 (value_at oc (at c d) byte (place_of c c.pc o)).0 (record ci { pc = wrap16 (ci.pc + further o) }) (value_at ob (at c b) byte (place_of c c.pc o)).1 (value_at oc (at c d) byte (place_of c c.pc o)).1 s.0 s.1

  retis : (c : Cpu) (b : B) (d : C) → R 0 b d → AreSame 3 (ran ob Reti (at c b)) (ran oc Reti (at c d))
  retis c b d h =
      let p = rel.read 0 (lit< tt) b d c.sp true h in
      let sp = wrap16 (c.sp + 2) in
      let q = rel.read 1 (lit< tt) (ob.read b c.sp true).1 (oc.read d c.sp true).1 sp true p.1 in
      later 2 (lit< tt) _ _ (record {
        cpu = ap (λ x. record { pc = even (ob.read (ob.read b c.sp true).1 sp true).0; sp = wrap16 (sp + 2); sr = x; others = c.others; gate = c.gate }) p.0
            ∙ ap (λ x. record { pc = even x; sp = wrap16 (sp + 2); sr = (oc.read d c.sp true).0; others = c.others; gate = c.gate }) q.0;
        bus = q.1;
      })

  instructions : (i : Instr) (c : Cpu) (b : B) (d : C) → R 0 b d → AreSame 3 (ran ob i (at c b)) (ran oc i (at c d))
  instructions (Two op byte s t) c b d h = twos op byte s t c b d h
  instructions (One op byte o) c b d h = ones op byte o c b d h
  instructions (Jump k n) c b d h = choice 3 (is_taken k c.sr) _ _ _ _ (record { cpu = refl; bus = all_later b d h }) (record { cpu = refl; bus = all_later b d h })
  instructions Reti c b d h = retis c b d h

  gates : (n : ℕ) (before : Bool) (i : Instr) (j : Joined B) (k : Joined C) → AreSame n j k → AreSame n (gated ob before i j) (gated oc before i k)
  gates n before i j k s = over_one n n (gated ob before i) (gated oc before i) (λ c b d h. record { cpu = refl; bus = h }) j k s

  abbrev AreSteps : Step ob → Step oc → Type 0
  AreSteps s t = Steps ob oc R s t

  -- one instruction
  runs : (c : Cpu) (b : B) (d : C) (x : Decoded) → R 0 b d → AreSteps (run_decoded ob (at c b) x) (run_decoded oc (at c d) x)
  runs c b d (Is i n) h =
      let c' = record c { pc = wrap16 (c.pc + 2) } in
      let s = gates 3 (gie c) i (ran ob i (at c' b)) (ran oc i (at c' d)) (instructions i c' b d h) in
      record { cpu = s.cpu; bus = s.bus; stepped = ap stepped_so (rel.stopped 3 (gated ob (gie c) i (ran ob i (at c' b))).bus (gated oc (gie c) i (ran oc i (at c' d))).bus s.bus) }
    where
      stepped_so : Option ℕ → Stepped
      stepped_so o = stepped_of ob o
  runs c b d Illegal h = record { cpu = refl; bus = all_later b d h; stepped = refl }
  runs c b d Short h = record { cpu = refl; bus = all_later b d h; stepped = refl }

  runs_or_idles : (c : Cpu) (b : B) (d : C) → R 0 b d → AreSteps (run_or_idle ob (at c b)) (run_or_idle oc (at c d))
  runs_or_idles c b d h =
      let w0 = rel.fetch 0 b d c.pc h in
      let w1 = rel.fetch 0 b d (wrap16 (c.pc + 2)) h in
      let w2 = rel.fetch 0 b d (wrap16 (c.pc + 4)) h in
      let same : words_at ob (at c b) ≡ words_at oc (at c d) =
      ap (λ w. w ∷ ob.fetch b (wrap16 (c.pc + 2)) ∷ ob.fetch b (wrap16 (c.pc + 4)) ∷ []) w0
      ∙ ap (λ w. oc.fetch d c.pc ∷ w ∷ ob.fetch b (wrap16 (c.pc + 4)) ∷ []) w1
      ∙ ap (λ w. oc.fetch d c.pc ∷ oc.fetch d (wrap16 (c.pc + 2)) ∷ w ∷ []) w2 in
      let run = subst (λ l. AreSteps (run_decoded ob (at c b) (decode (words_at ob (at c b)))) (run_decoded oc (at c d) (decode l))) same (runs c b d (decode (words_at ob (at c b))) h) in
      by_off (cpuoff c) (record { cpu = refl; bus = all_later b d h; stepped = refl }) run
    where
      by_off : (t : Bool) → AreSteps (record { after = at c b; stepped = Idle }) (record { after = at c d; stepped = Idle }) → AreSteps (run_decoded ob (at c b) (decode (words_at ob (at c b)))) (run_decoded oc (at c d) (decode (words_at oc (at c d)))) → AreSteps (cond t (record { after = at c b; stepped = Idle }) (run_decoded ob (at c b) (decode (words_at ob (at c b))))) (cond t (record { after = at c d; stepped = Idle }) (run_decoded oc (at c d) (decode (words_at oc (at c d)))))
      by_off true x y = x
      by_off false x y = y

  instruction : (j : Joined B) (k : Joined C) → j.cpu ≡ k.cpu → R 0 j.bus k.bus → AreSteps (run_or_idle ob j) (run_or_idle oc k)
  instruction j k e h = subst (λ x. AreSteps (run_or_idle ob j) (run_or_idle oc (at x k.bus))) e (runs_or_idles j.cpu j.bus k.bus h)

pub same_instruction : {B C : Type 0} (ob : Bus B) (oc : Bus C) (R : ℕ → B → C → Type 0) → AnswerAlike ob oc R → (j : Joined B) (k : Joined C) → j.cpu ≡ k.cpu → R 0 j.bus k.bus → Steps ob oc R (run_or_idle ob j) (run_or_idle oc k)
same_instruction ob oc R rel j k e h = instruction ob oc R rel j k e h
