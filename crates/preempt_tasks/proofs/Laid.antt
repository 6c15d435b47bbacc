-- The items of the loop, laid out, stand as its instructions.
use Rattle.std.proofs.Common.{◌≡◌, ℕ, pos, negsuc, suc, ◌+◌, ◌*◌, ◌<◌, Bool, true, false, List, [], ◌∷◌, ◌++◌, length, map, refl, sym, ap, subst, ◌∙◌, arith, append_assoc}
use Rattle.std.specs.Prelude.{⊤}
use Rattle.std.specs.Option.{option_map}
use Rattle.std.specs.List.{AllByRecursion}
use Rattle.core_meaning.specs.Source.{act_of}
use Rattle.msp_isa.specs.declared.code.CodeFn.{CodeFn}
use Rattle.msp_isa.specs.declared.code.Item.{Item}
use Rattle.msp_isa.specs.declared.code.Item.TheVariants as item
use Rattle.msp_isa.specs.declared.instr.Cond.TheVariants.{Jmp, Jne}
use Rattle.msp_isa.specs.declared.instr.Instr.{Instr}
use Rattle.msp_isa.specs.declared.instr.Instr.TheVariants.{Two, One, Jump}
use Rattle.msp_isa.specs.declared.instr.Op1.TheVariants.{Call}
use Rattle.msp_isa.specs.declared.instr.Op2.TheVariants.{Mov}
use Rattle.msp_isa.specs.declared.instr.Operand.TheVariants.{Reg, Immediate}
use Rattle.msp_isa.specs.Encode.{encoded}
use Rattle.msp_isa.specs.Stands.{IsAt, AreAt, IsLaid, LeadsTo, goto, instructions, item_at, items_of, words_to}
use Rattle.code_pieces.specs.Pieces.{nop, open_gate}
use Rattle.preempt_bodies.specs.Bodies.{IsHandlerLaw, IsVector, call}
use Rattle.preempt_bodies.proofs.Eased.{eased}
use Rattle.preempt_bodies.proofs.Laid.{first_at, line_stands}
use Rattle.preempt_bodies.proofs.Survival.{survives}
use Rattle.loop_runs.specs.Bodies.{source}
use Rattle.preempt_tasks.specs.Bodies.{close_gate, compare, take, fall_asleep, ret, choices, back_to_loop, sizes_of}
use Rattle.preempt_tasks.specs.Laid.{choice_items, loop_items, LaidLoopsAreBuilt}
use Rattle.preempt_tasks.proofs.Standing.{choices_stand}

-- items that are no jumps
abbrev IsSteady : Item → Type 0
IsSteady (item.Is i) = ⊤
IsSteady (item.CallFn f) = ⊤
IsSteady (item.Label l) = ⊤
IsSteady (item.AddrOf f r) = ⊤
IsSteady (item.Jump c l) = ⊥

last_item : (front : List Item) (x : Item) → item_at (front ++ x ∷ []) (length front) ≡ x
last_item [] x = refl
last_item (y ∷ front) x = last_item front x

behind_last : (front : List Item) (x : Item) → length front < length (front ++ x ∷ [])
behind_last [] x = omega arith
behind_last (y ∷ front) x = let h = behind_last front x in omega (arith, h)

module _ (image : ℕ → ℕ) (entries : ℕ → ℕ) where
  abbrev one : Item → List Instr
  one (item.Is i) = i ∷ []
  one (item.CallFn f) = call (entries f) ∷ []
  one (item.AddrOf f r) = Two Mov false (Immediate (entries f)) (Reg r) ∷ []
  one _ = []

  abbrev steady : List Item → List Instr
  steady [] = []
  steady (x ∷ xs) = one x ++ steady xs

  leads : (items : List Item) (x : Item) (t : ℕ) → IsSteady x → LeadsTo items x t
  leads items (item.Is i) t s = tt
  leads items (item.CallFn f) t s = tt
  leads items (item.Label l) t s = tt
  leads items (item.AddrOf f r) t s = tt
  leads items (item.Jump c l) t s = absurd s

  as_one : (x : Item) (long : Bool) (pc target a b : ℕ) → IsSteady x → AreAt image a (instructions entries long pc target x) b → AreAt image a (one x) b
  as_one (item.Is i) true pc target a b s h = h
  as_one (item.Is i) false pc target a b s h = h
  as_one (item.CallFn f) true pc target a b s h = h
  as_one (item.CallFn f) false pc target a b s h = h
  as_one (item.Label l) true pc target a b s h = h
  as_one (item.Label l) false pc target a b s h = h
  as_one (item.AddrOf f r) true pc target a b s h = h
  as_one (item.AddrOf f r) false pc target a b s h = h
  as_one (item.Jump c l) long pc target a b s h = absurd s

  both : (is js : List Instr) (a b c : ℕ) → AreAt image a is b → AreAt image b js c → AreAt image a (is ++ js) c
  both [] js a b c h k = subst (λ x. AreAt image x js c) (sym h) k
  both (i ∷ is) js a b c h k = (h.0, both is js (a + 2 * length (encoded i)) b c h.1 k)

  -- so far as there is no jump, the items' instructions stand one behind the other
  behind : (front last : List Item) (p : ℕ → ℕ) → AllByRecursion IsSteady front → ((k : ℕ) → k < length (front ++ last) → IsSteady (item_at (front ++ last) k) → AreAt image (p k) (one (item_at (front ++ last) k)) (p (suc k))) → AreAt image (p 0) (steady front) (p (length front))
  behind [] last p s h = refl
  behind (x ∷ front) last p s h = both (one x) (steady front) (p 0) (p 1) (p (suc (length front))) (h 0 (omega arith) s.0) (behind front last (λ k. p (suc k)) s.1 (λ k lt ok. h (suc k) (omega (arith, lt)) ok))

  choices_steady : (tasks : List ℕ) (k : ℕ) (more : List Item) → AllByRecursion IsSteady more → AllByRecursion IsSteady (choice_items k tasks ++ more)
  choices_steady [] k more s = s
  choices_steady (f ∷ tasks) k more s = (tt, (tt, (tt, choices_steady tasks (suc k) more s)))

  choices_are : (tasks : List ℕ) (k : ℕ) (more : List Item) → steady (choice_items k tasks ++ more) ≡ choices k (map entries tasks) ++ steady more
  choices_are [] k more = refl
  choices_are (f ∷ tasks) k more = ap (λ l. compare k ∷ Jump Jne (pos 2) ∷ take (entries f) ∷ l) (choices_are tasks (suc k) more)

  -- a jump's instructions look at no entry
  same_jump : (long : Bool) (pc pc' target target' : ℕ) → pc ≡ pc' → target ≡ target' → instructions entries long pc target (item.Jump Jmp 0) ≡ instructions (λ f. f) long pc' target' (item.Jump Jmp 0)
  same_jump true pc pc' target target' e f = ap (λ x. goto x ∷ []) f
  same_jump false pc pc' target target' e f = ap (λ x. Jump Jmp (words_to (x + 2) target) ∷ []) e ∙ ap (λ x. Jump Jmp (words_to (pc' + 2) x) ∷ []) f

module _ (image : ℕ → ℕ) (code : List CodeFn) (entries : ℕ → ℕ) (laid : IsLaid image code entries) where
  -- a function whose items are these, and a jump behind them
  module _ (f : ℕ) (front : List Item) (x : Item) (is : f < length code) (e : items_of code f ≡ front ++ x ∷ []) where
    stands : (k t : ℕ) → k < length (front ++ x ∷ []) → LeadsTo (front ++ x ∷ []) (item_at (front ++ x ∷ []) k) t → AreAt image (laid.places f k) (instructions entries (laid.long f k) (laid.places f k) (laid.places f t) (item_at (front ++ x ∷ []) k)) (laid.places f (k + 1))
    stands = subst (λ l. (k t : ℕ) → k < length l → LeadsTo l (item_at l k) t → AreAt image (laid.places f k) (instructions entries (laid.long f k) (laid.places f k) (laid.places f t) (item_at l k)) (laid.places f (k + 1))) e (λ k t lt to. laid.stands f k t is lt to)

    pub item_stands : (k : ℕ) → k < length (front ++ x ∷ []) → IsSteady (item_at (front ++ x ∷ []) k) → AreAt image (laid.places f k) (one image entries (item_at (front ++ x ∷ []) k)) (laid.places f (suc k))
    item_stands k lt ok =
        let y = item_at (front ++ x ∷ []) k in
        let next : k + 1 ≡ suc k = omega arith in
        subst (λ n. AreAt image (laid.places f k) (one image entries y) (laid.places f n)) next
        (as_one image entries y (laid.long f k) (laid.places f k) (laid.places f 0) (laid.places f k) (laid.places f (k + 1)) ok (stands k 0 lt (leads image entries (front ++ x ∷ []) y 0 ok)))

    pub front_stands : AllByRecursion IsSteady front → AreAt image (entries f) (steady image entries front) (laid.places f (length front))
    front_stands s = subst (λ a. AreAt image a (steady image entries front) (laid.places f (length front))) (laid.entry f is) (behind image entries front (x ∷ []) (laid.places f) s item_stands)

    pub last_stands : (t : ℕ) → LeadsTo (front ++ x ∷ []) x t → AreAt image (laid.places f (length front)) (instructions entries (laid.long f (length front)) (laid.places f (length front)) (laid.places f t) x) (laid.places f (length front + 1))
    last_stands t to =
        let k = length front in
        subst (λ y. AreAt image (laid.places f k) (instructions entries (laid.long f k) (laid.places f k) (laid.places f t) y) (laid.places f (k + 1))) (last_item front x)
        (stands k t (behind_last front x) (subst (λ y. LeadsTo (front ++ x ∷ []) y t) (sym (last_item front x)) to))

-- the loop's items in front of the jump back
abbrev front_items : (boot pop none : ℕ) → List ℕ → List Item
front_items boot pop none tasks =
    item.Is (Two Mov false (Immediate 0x3900) (Reg 1)) ∷ item.Is open_gate ∷ item.CallFn boot
    ∷ item.Label 0 ∷ item.Is close_gate ∷ item.Is nop ∷ item.CallFn pop
    ∷ item.Is (compare 255) ∷ item.Is (Jump Jne (pos 3)) ∷ item.Is fall_asleep ∷ item.Is (Jump Jmp (negsuc 9))
    ∷ item.AddrOf none 13
    ∷ (choice_items 0 tasks ++ (item.Is open_gate ∷ item.Is (One Call false (Reg 13)) ∷ []))

-- the first twelve instructions, with others behind them
abbrev headed : (boot pop none : ℕ) → List Instr → List Instr
headed boot pop none more =
    Two Mov false (Immediate 0x3900) (Reg 1) ∷ open_gate ∷ call boot
    ∷ close_gate ∷ nop ∷ call pop
    ∷ compare 255 ∷ Jump Jne (pos 3) ∷ fall_asleep ∷ Jump Jmp (negsuc 9)
    ∷ take none
    ∷ more

abbrev tail : List Instr
tail = open_gate ∷ One Call false (Reg 13) ∷ []

-- where the front ends
front_end : (image : ℕ → ℕ) (boot pop none start end : ℕ) (tasks : List ℕ) → AreAt image start (headed boot pop none (choices 0 tasks ++ tail)) end → end ≡ start + (38 + 10 * length tasks)
front_end image boot pop none start end tasks h =
    let at = h.1.1.1.1.1.1.1.1.1.1.1 in
    let c = choices_stand image tasks 0 (start + 34) end tail (subst (λ a. AreAt image a (choices 0 tasks ++ tail) end) (omega arith) at) in
    let e = c.rest.1.1 in
    omega (arith, e)

module _ (image : ℕ → ℕ) (code : List CodeFn) (entries : ℕ → ℕ) (laid : IsLaid image code entries) (f boot pop none : ℕ) (tasks : List ℕ) (is : f < length code) (e : items_of code f ≡ loop_items boot pop none tasks) where
  abbrev front : List Item
  front = front_items boot pop none tasks

  abbrev jump : Item
  jump = item.Jump Jmp 0

  split : items_of code f ≡ front ++ jump ∷ []
  split = e ∙ ap (λ l. item.Is (Two Mov false (Immediate 0x3900) (Reg 1)) ∷ item.Is open_gate ∷ item.CallFn boot
      ∷ item.Label 0 ∷ item.Is close_gate ∷ item.Is nop ∷ item.CallFn pop
      ∷ item.Is (compare 255) ∷ item.Is (Jump Jne (pos 3)) ∷ item.Is fall_asleep ∷ item.Is (Jump Jmp (negsuc 9))
      ∷ item.AddrOf none 13
      ∷ l) (sym (append_assoc (choice_items 0 tasks) (item.Is open_gate ∷ item.Is (One Call false (Reg 13)) ∷ []) (jump ∷ [])))

  all_steady : AllByRecursion IsSteady front
  all_steady = (tt, (tt, (tt, (tt, (tt, (tt, (tt, (tt, (tt, (tt, (tt, (tt, choices_steady image entries tasks 0 (item.Is open_gate ∷ item.Is (One Call false (Reg 13)) ∷ []) (tt, (tt, tt))))))))))))))

  -- where the label is
  label_at : laid.places f 3 ≡ entries f + 10
  label_at =
      let a = (item_stands image code entries laid f front jump is split 0 (omega arith) tt).1 in
      let b = (item_stands image code entries laid f front jump is split 1 (omega arith) tt).1 in
      let c = (item_stands image code entries laid f front jump is split 2 (omega arith) tt).1 in
      let d = laid.entry f is in
      omega (arith, a, b, c, d)

  abbrev addresses : List ℕ
  addresses = map entries tasks

  front_there : AreAt image (entries f) (headed (entries boot) (entries pop) (entries none) (choices 0 addresses ++ tail)) (laid.places f (length front))
  front_there = subst (λ l. AreAt image (entries f) (headed (entries boot) (entries pop) (entries none) l) (laid.places f (length front))) (choices_are image entries tasks 0 (item.Is open_gate ∷ item.Is (One Call false (Reg 13)) ∷ [])) (front_stands image code entries laid f front jump is split all_steady)

  pub loop_stands : AreAt image (entries f) (headed (entries boot) (entries pop) (entries none) (choices 0 addresses ++ (open_gate ∷ One Call false (Reg 13) ∷ back_to_loop (entries f) (laid.long f (length front)) (length addresses)))) (laid.places f (length front + 1))
  loop_stands =
      let k = length front in
      let pc : laid.places f k ≡ entries f + (38 + 10 * length addresses) = front_end image (entries boot) (entries pop) (entries none) (entries f) (laid.places f k) addresses front_there in
      let last = last_stands image code entries laid f front jump is split 3 refl in
      let jumps = same_jump image entries (laid.long f k) (laid.places f k) (entries f + (38 + 10 * length addresses)) (laid.places f 3) (entries f + 10) pc label_at in
      let last' : AreAt image (laid.places f k) (back_to_loop (entries f) (laid.long f k) (length addresses)) (laid.places f (k + 1)) = subst (λ l. AreAt image (laid.places f k) l (laid.places f (k + 1))) jumps last in
      subst (λ l. AreAt image (entries f) (headed (entries boot) (entries pop) (entries none) l) (laid.places f (k + 1))) (append_assoc (choices 0 addresses) tail (back_to_loop (entries f) (laid.long f k) (length addresses)))
      (both image entries (headed (entries boot) (entries pop) (entries none) (choices 0 addresses ++ tail)) (back_to_loop (entries f) (laid.long f k) (length addresses)) (entries f) (laid.places f k) (laid.places f (k + 1)) front_there last')

-- a function that is one instruction
lone_stands : (image : ℕ → ℕ) (code : List CodeFn) (entries : ℕ → ℕ) (laid : IsLaid image code entries) (f : ℕ) → f < length code → items_of code f ≡ item.Is ret ∷ [] → IsAt image (entries f) ret
lone_stands image code entries laid f is e =
    subst (λ a. IsAt image a ret) (laid.entry f is)
    (item_stands image code entries laid f [] (item.Is ret) is e 0 (omega arith) tt).0

pub laid_loops_are_built : LaidLoopsAreBuilt
laid_loops_are_built K pop image marks z code entries laid h =
    let s = loop_stands image code entries laid h.reset h.boot h.taker h.none h.tasks h.is h.items in
    let long = laid.long h.reset (length (front_items h.boot h.taker h.none h.tasks)) in
    let end = laid.places h.reset (length (front_items h.boot h.taker h.none h.tasks) + 1) in
    let s1 = subst (λ a. AreAt image (entries h.reset) (headed a (entries h.taker) (entries h.none) (choices 0 (map entries h.tasks) ++ (open_gate ∷ One Call false (Reg 13) ∷ back_to_loop (entries h.reset) long (length (map entries h.tasks))))) end) h.boot_at s in
    let s2 = subst (λ a. AreAt image (entries h.reset) (headed z.boot a (entries h.none) (choices 0 (map entries h.tasks) ++ (open_gate ∷ One Call false (Reg 13) ∷ back_to_loop (entries h.reset) long (length (map entries h.tasks))))) end) h.taker_at s1 in
    let s3 = subst (λ a. AreAt image (entries h.reset) (headed z.boot z.pop a (choices 0 (map entries h.tasks) ++ (open_gate ∷ One Call false (Reg 13) ∷ back_to_loop (entries h.reset) long (length (map entries h.tasks))))) end) h.none_at s2 in
    let s4 = subst (λ (l : List ℕ). AreAt image (entries h.reset) (headed z.boot z.pop z.none (choices 0 l ++ (open_gate ∷ One Call false (Reg 13) ∷ back_to_loop (entries h.reset) long (length l)))) end) h.tasks_at s3 in
    record {
      low_end = h.low_end;
      even_end = h.even_end;
      room = h.room;
      some = h.some;
      reset_at = entries h.reset;
      reset_end = end;
      long = long;
      vector = h.vector;
      reset = s4;
      even_boot = h.even_boot;
      low_boot = h.low_boot;
      boots = h.boots;
      even_pop = h.even_pop;
      low_pop = h.low_pop;
      pops = h.pops;
      gives = h.gives;
      tasks = h.bodies;
      no_task = h.no_task;
      lone = subst (λ a. IsAt image a ret) h.none_at (lone_stands image code entries laid h.none h.is_none h.none_items);
      not_boot = h.not_boot;
      not_task = h.not_task;
      handlers = handlers;
    }
  where
    handlers : (v : ℕ) → v < 8 → IsVector (source K) image marks (sizes_of z) v
    handlers v few =
        let l = h.lines v few in
        let line = line_stands image code entries laid marks l.f l.body l.is l.items l.no_marks in
        let a = first_at image (option_map entries l.body) (entries l.f) line.end line.code in
        let law = survives image z.data_end marks (act_of (source K) ((source K).handler v)) (entries l.f) l.depth l.bound (option_map entries l.body) h.low_end l.some line l.serves in
        record {
          entry = entries l.f;
          stands = l.vector;
          word = a.1;
          law = subst (λ x. IsHandlerLaw image z.data_end marks (act_of (source K) ((source K).handler v)) x z.handler_depth z.bound) (sym a.0)
              (eased image z.data_end marks (act_of (source K) ((source K).handler v)) (entries l.f) (26 + l.depth) z.handler_depth (l.bound + 28) z.bound l.deep l.long law);
        }
