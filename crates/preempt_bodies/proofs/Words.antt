-- The words of the code of reset, sleep, entry and exit, where their instructions stand in an image.
use Rattle.std.proofs.Common.{◌≡◌, ℕ, zero, suc, ◌+◌, ◌-◌, ◌*◌, ◌<◌, ◌≤◌, List, [], ◌∷◌, ◌++◌, Option, Some, None, refl, ap, subst, ◌∙◌, arith}
use Rattle.nm_base.specs.declared.action.Action.{Action}
use Rattle.nm_base.specs.Behaviour.{Performed}
use Rattle.msp_isa.specs.declared.instr.Instr.{Instr}
use Rattle.msp_isa.specs.Stands.{word_in, IsAt, AreAt}
use Rattle.msp_isa.specs.Encode.{encoded}
use Rattle.mote_devices.specs.declared.state.BoardState.{BoardState}
use Rattle.mote_devices.specs.WordBoards.{AreWordRows}
use Rattle.mote_devices.specs.declared.shown.Due.{Due}
use Rattle.mote_devices.specs.declared.shown.Given.{Given}
use Rattle.mote_devices.specs.Board.{with_closed_mask}
use Rattle.core_meaning.specs.Source.{Source}
use Rattle.msp430_cpu.specs.Cpu.{even}
use Rattle.mote_bus.specs.Mote.{mote}
use Rattle.preempt_core.specs.Allowed.{Allowed}
use Rattle.open_law.specs.Open.{AreAll, IsGated, IsShut}
use Rattle.open_law.specs.Body.{IsBodyLaw, StartsOpen, StartsShut}
use Rattle.code_pieces.specs.Pieces.{entry, exit}
use Rattle.preempt_bodies.specs.Boards.{AnswersWords}
use Rattle.preempt_bodies.specs.Bodies.{call, IsLine, Serves, Sizes, stack_of, IsVector, IsBuilt}

-- the word w stands in the image at this address
pub record StandsAt (image : ℕ → ℕ) (a w : ℕ) : Type 0 where
  pub low : 0x4000 ≤ a
  pub high : a < 0xFFFF
  pub is_even : even a ≡ a
  pub word : word_in image a ≡ w

-- Entry: pushes of R15 down to R4. Exit: pops of R4 up to R15, BIC #16, 0(SP), RETI. Their instructions have no marks
pub record IsEntryExit (image : ℕ → ℕ) (marks : ℕ → List Action) (entry exit : ℕ) : Type 0 where
  pub high_entry : entry + 28 < 0x10000
  pub high_exit : exit + 32 < 0x10000
  pub even_entry : even entry ≡ entry
  pub even_exit : even exit ≡ exit
  pub pushes : (i : ℕ) → i < 12 → StandsAt image (entry + 2 * (11 - i)) (0x1204 + i)
  pub pops : (i : ℕ) → i < 12 → StandsAt image (exit + 2 * i) (0x4134 + i)
  pub clears : StandsAt image (exit + 24) 0xC0B1
  pub bit_4 : StandsAt image (exit + 26) 0x0010
  pub at_sp : StandsAt image (exit + 28) 0x0000
  pub returns : StandsAt image (exit + 30) 0x1300
  pub no_marks : (k : ℕ) → k < 12 → marks (entry + 2 * k) ≡ []
  pub no_exit_marks : (k : ℕ) → k < 16 → marks (exit + 2 * k) ≡ []

-- a call of the body between them
pub record IsCall (image : ℕ → ℕ) (marks : ℕ → List Action) (entry exit body : ℕ) : Type 0 where
  pub behind : exit ≡ entry + 28
  pub low_body : body < 0x10000
  pub even_body : even body ≡ body
  pub calls : StandsAt image (entry + 24) 0x12B0
  pub body_at : StandsAt image (entry + 26) body
  pub no_marks : marks (entry + 24) ≡ []

-- what stands between entry and exit: a call of a body that meets the law with the gate closed, or nothing
pub data Middle (image : ℕ → ℕ) (marks : ℕ → List Action) (data_end entry exit depth bound : ℕ) (act : List ℕ → ℕ → Performed) : Type 0 where
  Through : (body : ℕ) → IsCall image marks entry exit body → IsBodyLaw image data_end marks (λ code o. IsShut o) act body depth bound StartsShut → Middle image marks data_end entry exit depth bound act
  Straight : exit ≡ entry + 24 → AreAll act [] → Middle image marks data_end entry exit depth bound act

-- an image whose code of reset and sleep is given by its words
pub record IsSpelled (P : Source) (image : ℕ → ℕ) (marks : ℕ → List Action) (z : Sizes) : Type 0 where
  pub low_end : 0x1100 ≤ z.data_end
  pub even_end : even z.data_end ≡ z.data_end
  pub room : z.data_end + stack_of z ≤ 0x3900
  pub some : 1 ≤ z.bound
  pub reset_at : ℕ
  pub high_reset : reset_at + 20 < 0x10000
  pub even_reset : even reset_at ≡ reset_at
  pub vector : StandsAt image 0xFFFE reset_at
  pub sets_sp : StandsAt image reset_at 0x4031
  pub top : StandsAt image (reset_at + 2) 0x3900
  pub opens : StandsAt image (reset_at + 4) 0xD232
  pub calls : StandsAt image (reset_at + 6) 0x12B0
  pub boot_at : StandsAt image (reset_at + 8) z.boot
  pub sleeps : StandsAt image (reset_at + 10) 0xD032
  pub bits : StandsAt image (reset_at + 12) 0x0018
  pub loops : StandsAt image (reset_at + 14) 0x3FFD
  pub even_boot : even z.boot ≡ z.boot
  pub low_boot : z.boot < 0x10000
  pub body : IsBodyLaw image z.data_end marks IsGated (P.act P.boot) z.boot z.boot_depth z.bound StartsOpen
  pub handlers : (v : ℕ) → v < 8 → IsVector P image marks z v

-- What is promised of it, on boards and with events of these kinds
abbrev pub RunsOn : (Sound : BoardState → Type 0) (IsWord : Given → Type 0) → Type 0
RunsOn Sound IsWord =
    (P : Source) (image : ℕ → ℕ) (marks : ℕ → List Action) (z : Sizes) (b : BoardState) (rows : List Due) (pace n : ℕ) →
    AnswersWords Sound IsWord → Sound (with_closed_mask b) → AreWordRows IsWord rows → IsSpelled P image marks z → z.bound + 3 ≤ pace →
    Allowed P pace b (mote image b rows) n × (0x3900 ≤ (mote image b rows n).least + stack_of z)

head : (x y : ℕ) (xs ys : List ℕ) → x ∷ xs ≡ y ∷ ys → x ≡ y
head x y xs ys e = cc

tail : (x y : ℕ) (xs ys : List ℕ) → x ∷ xs ≡ y ∷ ys → xs ≡ ys
tail x y xs ys e = cc

module _ (image : ℕ → ℕ) where
  -- the first, the second and the third word of an instruction
  first : (pc : ℕ) (i : Instr) (w : ℕ) (more : List ℕ) → IsAt image pc i → encoded i ≡ w ∷ more → StandsAt image pc w
  first pc i w more at e =
      let lo = at.low in let hi = at.high in let ev = at.even in
      record {
        low = lo;
        high = omega (arith, hi);
        is_even = omega (arith, ev);
        word = head (word_in image pc) w _ (more ++ at.rest) (at.words ∙ ap (λ l. l ++ at.rest) e);
      }

  second : (pc : ℕ) (i : Instr) (v w : ℕ) (more : List ℕ) → IsAt image pc i → encoded i ≡ v ∷ w ∷ more → StandsAt image (pc + 2) w
  second pc i v w more at e =
      let lo = at.low in let hi = at.high in let ev = at.even in
      let l = tail (word_in image pc) v (word_in image (pc + 2) ∷ word_in image (pc + 4) ∷ []) (w ∷ (more ++ at.rest)) (at.words ∙ ap (λ l. l ++ at.rest) e) in
      record {
        low = omega (arith, lo);
        high = omega (arith, hi);
        is_even = omega (arith, ev);
        word = head (word_in image (pc + 2)) w (word_in image (pc + 4) ∷ []) (more ++ at.rest) l;
      }

  third : (pc : ℕ) (i : Instr) (u v w : ℕ) (more : List ℕ) → IsAt image pc i → encoded i ≡ u ∷ v ∷ w ∷ more → StandsAt image (pc + 4) w
  third pc i u v w more at e =
      let lo = at.low in let hi = at.high in let ev = at.even in
      let l = tail (word_in image pc) u (word_in image (pc + 2) ∷ word_in image (pc + 4) ∷ []) (v ∷ w ∷ (more ++ at.rest)) (at.words ∙ ap (λ l. l ++ at.rest) e) in
      let k = tail (word_in image (pc + 2)) v (word_in image (pc + 4) ∷ []) (w ∷ (more ++ at.rest)) l in
      record {
        low = omega (arith, lo);
        high = omega (arith, hi);
        is_even = omega (arith, ev);
        word = head (word_in image (pc + 4)) w [] (more ++ at.rest) k;
      }

  -- the word of a line's vector
  pub vector_at : (v w : ℕ) → v < 8 → word_in image (0xFFE0 + 2 * v) ≡ w → StandsAt image (0xFFE0 + 2 * v) w
  vector_at v w few e = record { low = omega arith; high = omega (arith, few); is_even = omega arith; word = e }

  moved : (a b w : ℕ) → a ≡ b → StandsAt image a w → StandsAt image b w
  moved a b w e s = subst (λ x. StandsAt image x w) e s

  -- what entry is as words, and what stands behind it
  record EntryWords (start : ℕ) (more : List Instr) (end : ℕ) : Type 0 where
    pushes : (i : ℕ) → i < 12 → StandsAt image (start + 2 * (11 - i)) (0x1204 + i)
    even_start : even start ≡ start
    high : start + 28 < 0x10000
    behind : AreAt image (start + 24) more end

  pushed : (start : ℕ) (more : List Instr) (end : ℕ) → AreAt image start (entry ++ more) end → (i : ℕ) → i < 12 → StandsAt image (start + 2 * (11 - i)) (0x1204 + i)
  pushed start more end s zero lt = moved _ _ _ (omega arith) (first _ _ _ [] s.1.1.1.1.1.1.1.1.1.1.1.0 refl)
  pushed start more end s (suc zero) lt = moved _ _ _ (omega arith) (first _ _ _ [] s.1.1.1.1.1.1.1.1.1.1.0 refl)
  pushed start more end s (suc (suc zero)) lt = moved _ _ _ (omega arith) (first _ _ _ [] s.1.1.1.1.1.1.1.1.1.0 refl)
  pushed start more end s (suc (suc (suc zero))) lt = moved _ _ _ (omega arith) (first _ _ _ [] s.1.1.1.1.1.1.1.1.0 refl)
  pushed start more end s (suc (suc (suc (suc zero)))) lt = moved _ _ _ (omega arith) (first _ _ _ [] s.1.1.1.1.1.1.1.0 refl)
  pushed start more end s (suc (suc (suc (suc (suc zero))))) lt = moved _ _ _ (omega arith) (first _ _ _ [] s.1.1.1.1.1.1.0 refl)
  pushed start more end s (suc (suc (suc (suc (suc (suc zero)))))) lt = moved _ _ _ (omega arith) (first _ _ _ [] s.1.1.1.1.1.0 refl)
  pushed start more end s (suc (suc (suc (suc (suc (suc (suc zero))))))) lt = moved _ _ _ (omega arith) (first _ _ _ [] s.1.1.1.1.0 refl)
  pushed start more end s (suc (suc (suc (suc (suc (suc (suc (suc zero)))))))) lt = moved _ _ _ (omega arith) (first _ _ _ [] s.1.1.1.0 refl)
  pushed start more end s (suc (suc (suc (suc (suc (suc (suc (suc (suc zero))))))))) lt = moved _ _ _ (omega arith) (first _ _ _ [] s.1.1.0 refl)
  pushed start more end s (suc (suc (suc (suc (suc (suc (suc (suc (suc (suc zero)))))))))) lt = moved _ _ _ (omega arith) (first _ _ _ [] s.1.0 refl)
  pushed start more end s (suc (suc (suc (suc (suc (suc (suc (suc (suc (suc (suc zero))))))))))) lt = moved _ _ _ (omega arith) (first _ _ _ [] s.0 refl)
  pushed start more end s (suc (suc (suc (suc (suc (suc (suc (suc (suc (suc (suc (suc i)))))))))))) lt = absurd (omega (arith, lt))

  entry_words : (start : ℕ) (more : List Instr) (end : ℕ) → AreAt image start (entry ++ more) end → EntryWords start more end
  entry_words start more end s = record {
    pushes = pushed start more end s;
    even_start = let e = s.0.even in omega (arith, e);
    high = let h = s.1.1.1.1.1.1.1.1.1.1.1.0.high in omega (arith, h);
    behind = subst (λ x. AreAt image x more end) (omega arith) s.1.1.1.1.1.1.1.1.1.1.1.1;
  }

  record ExitWords (start end : ℕ) : Type 0 where
    pops : (i : ℕ) → i < 12 → StandsAt image (start + 2 * i) (0x4134 + i)
    clears : StandsAt image (start + 24) 0xC0B1
    bit_4 : StandsAt image (start + 26) 0x0010
    at_sp : StandsAt image (start + 28) 0x0000
    returns : StandsAt image (start + 30) 0x1300
    even_start : even start ≡ start
    high : start + 32 < 0x10000
    ends : start + 32 ≡ end

  popped : (start end : ℕ) → AreAt image start exit end → (i : ℕ) → i < 12 → StandsAt image (start + 2 * i) (0x4134 + i)
  popped start end s zero lt = moved _ _ _ (omega arith) (first _ _ _ [] s.0 refl)
  popped start end s (suc zero) lt = moved _ _ _ (omega arith) (first _ _ _ [] s.1.0 refl)
  popped start end s (suc (suc zero)) lt = moved _ _ _ (omega arith) (first _ _ _ [] s.1.1.0 refl)
  popped start end s (suc (suc (suc zero))) lt = moved _ _ _ (omega arith) (first _ _ _ [] s.1.1.1.0 refl)
  popped start end s (suc (suc (suc (suc zero)))) lt = moved _ _ _ (omega arith) (first _ _ _ [] s.1.1.1.1.0 refl)
  popped start end s (suc (suc (suc (suc (suc zero))))) lt = moved _ _ _ (omega arith) (first _ _ _ [] s.1.1.1.1.1.0 refl)
  popped start end s (suc (suc (suc (suc (suc (suc zero)))))) lt = moved _ _ _ (omega arith) (first _ _ _ [] s.1.1.1.1.1.1.0 refl)
  popped start end s (suc (suc (suc (suc (suc (suc (suc zero))))))) lt = moved _ _ _ (omega arith) (first _ _ _ [] s.1.1.1.1.1.1.1.0 refl)
  popped start end s (suc (suc (suc (suc (suc (suc (suc (suc zero)))))))) lt = moved _ _ _ (omega arith) (first _ _ _ [] s.1.1.1.1.1.1.1.1.0 refl)
  popped start end s (suc (suc (suc (suc (suc (suc (suc (suc (suc zero))))))))) lt = moved _ _ _ (omega arith) (first _ _ _ [] s.1.1.1.1.1.1.1.1.1.0 refl)
  popped start end s (suc (suc (suc (suc (suc (suc (suc (suc (suc (suc zero)))))))))) lt = moved _ _ _ (omega arith) (first _ _ _ [] s.1.1.1.1.1.1.1.1.1.1.0 refl)
  popped start end s (suc (suc (suc (suc (suc (suc (suc (suc (suc (suc (suc zero))))))))))) lt = moved _ _ _ (omega arith) (first _ _ _ [] s.1.1.1.1.1.1.1.1.1.1.1.0 refl)
  popped start end s (suc (suc (suc (suc (suc (suc (suc (suc (suc (suc (suc (suc i)))))))))))) lt = absurd (omega (arith, lt))

  exit_words : (start end : ℕ) → AreAt image start exit end → ExitWords start end
  exit_words start end s =
      let clear = s.1.1.1.1.1.1.1.1.1.1.1.1.0 in
      let last = s.1.1.1.1.1.1.1.1.1.1.1.1.1.0 in
      record {
        pops = popped start end s;
        clears = moved _ _ _ (omega arith) (first _ _ _ (0x0010 ∷ 0 ∷ []) clear refl);
        bit_4 = moved _ _ _ (omega arith) (second _ _ _ _ (0 ∷ []) clear refl);
        at_sp = moved _ _ _ (omega arith) (third _ _ _ _ _ [] clear refl);
        returns = moved _ _ _ (omega arith) (first _ _ _ [] last refl);
        even_start = let e = s.0.even in omega (arith, e);
        high = let h = last.high in omega (arith, h);
        ends = let e = s.1.1.1.1.1.1.1.1.1.1.1.1.1.1 in omega (arith, e);
      }

  module _ (marks : ℕ → List Action) (data_end depth bound : ℕ) (act : List ℕ → ℕ → Performed) where
    -- a line's code by its words
    pub record LineWords (start : ℕ) : Type 0 where
      pub behind : ℕ
      pub code : IsEntryExit image marks start behind
      pub middle : Middle image marks data_end start behind depth bound act

    join : (start behind end : ℕ) (more : List Instr) → ((a : ℕ) → start ≤ a → a < end → marks a ≡ []) → start + 24 ≤ behind → EntryWords start more end → ExitWords behind end → IsEntryExit image marks start behind
    join start behind end more none le e x =
        let last = x.ends in
        record {
          high_entry = e.high;
          high_exit = x.high;
          even_entry = e.even_start;
          even_exit = x.even_start;
          pushes = e.pushes;
          pops = x.pops;
          clears = x.clears;
          bit_4 = x.bit_4;
          at_sp = x.at_sp;
          returns = x.returns;
          no_marks = λ k lt. none (start + 2 * k) (omega arith) (omega (arith, lt, le, last));
          no_exit_marks = λ k lt. none (behind + 2 * k) (omega (arith, le)) (omega (arith, lt, last));
        }

    pub line_words : (start : ℕ) (body : Option ℕ) → IsLine image marks start body → Serves image data_end marks act depth bound body → LineWords start
    line_words start None l serves =
        let e = entry_words start exit l.end l.code in
        let x = exit_words (start + 24) l.end e.behind in
        record { behind = start + 24; code = join start (start + 24) l.end exit l.no_marks (omega arith) e x; middle = Straight refl serves }
    line_words start (Some body) l serves =
        let e = entry_words start (call body ∷ exit) l.end l.code in
        let at = e.behind.0 in
        let x = exit_words (start + 28) l.end (subst (λ a. AreAt image a exit l.end) (omega arith) e.behind.1) in
        let last = x.ends in
        record {
          behind = start + 28;
          code = join start (start + 28) l.end (call body ∷ exit) l.no_marks (omega arith) e x;
          middle = Through body
              (record {
                behind = refl;
                low_body = serves.0;
                even_body = serves.1;
                calls = first (start + 24) _ _ (body ∷ []) at refl;
                body_at = moved _ _ _ (omega arith) (second (start + 24) _ _ _ [] at refl);
                no_marks = l.no_marks (start + 24) (omega arith) (omega (arith, last));
              }) serves.2;
        }

-- an image by its words
pub spelled : (P : Source) (image : ℕ → ℕ) (marks : ℕ → List Action) (z : Sizes) → IsBuilt P image marks z → IsSpelled P image marks z
spelled P image marks z b =
    let r = b.reset in
    let sets = r.0 in
    let opens = r.1.0 in
    let calls = r.1.1.0 in
    let sleeps = r.1.1.1.0 in
    let loops = r.1.1.1.1.0 in
    record {
      low_end = b.low_end;
      even_end = b.even_end;
      room = b.room;
      some = b.some;
      reset_at = b.reset_at;
      high_reset = let h = loops.high in omega (arith, h);
      even_reset = let e = sets.even in omega (arith, e);
      vector = record { low = omega arith; high = omega arith; is_even = refl; word = b.vector };
      sets_sp = first image b.reset_at _ _ (0x3900 ∷ []) sets refl;
      top = second image b.reset_at _ _ _ [] sets refl;
      opens = moved image _ (b.reset_at + 4) _ (omega arith) (first image _ _ _ [] opens refl);
      calls = moved image _ (b.reset_at + 6) _ (omega arith) (first image _ _ _ (z.boot ∷ []) calls refl);
      boot_at = moved image _ (b.reset_at + 8) _ (omega arith) (second image _ _ _ _ [] calls refl);
      sleeps = moved image _ (b.reset_at + 10) _ (omega arith) (first image _ _ _ (0x0018 ∷ []) sleeps refl);
      bits = moved image _ (b.reset_at + 12) _ (omega arith) (second image _ _ _ _ [] sleeps refl);
      loops = moved image _ (b.reset_at + 14) _ (omega arith) (first image _ _ _ [] loops refl);
      even_boot = b.even_boot;
      low_boot = b.low_boot;
      body = b.body;
      handlers = b.handlers;
    }
