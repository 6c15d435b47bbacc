-- Items without labels that are laid out stand as instructions one behind the other.
use Rattle.std.proofs.Common.{◌≡◌, ℕ, zero, suc, ◌+◌, ◌*◌, ◌<◌, ◌≤◌, Bool, true, false, List, [], ◌∷◌, ◌++◌, length, Option, Some, None, refl, sym, subst, arith}
use Rattle.std.specs.Option.{option_map}
use Rattle.std.specs.List.{AllByRecursion}
use Rattle.nm_base.specs.declared.action.Action.{Action}
use Rattle.core_meaning.specs.Source.{act_of}
use Rattle.msp_isa.specs.declared.code.CodeFn.{CodeFn}
use Rattle.msp_isa.specs.declared.code.Item.{Item}
use Rattle.msp_isa.specs.declared.code.Item.TheVariants as item
use Rattle.msp_isa.specs.declared.instr.Instr.{Instr}
use Rattle.msp_isa.specs.Encode.{encoded}
use Rattle.msp_isa.specs.Stands.{AreAt, IsLaid, LeadsTo, instructions, item_at, items_of}
use Rattle.msp430_cpu.specs.Cpu.{even}
use Rattle.code_pieces.specs.Pieces.{handler_of, reset_of}
use Rattle.preempt_bodies.specs.Bodies.{IsHandlerLaw, IsLine, IsVector, call, line_code, reset_code}
use Rattle.preempt_bodies.specs.Laid.{LaidImagesAreBuilt}
use Rattle.preempt_bodies.proofs.Eased.{eased}
use Rattle.preempt_bodies.proofs.Survival.{survives}

-- instructions and calls
abbrev IsStraight : Item → Type 0
IsStraight (item.Is i) = Unit {0}
IsStraight (item.CallFn f) = Unit {0}
IsStraight _ = ⊥

module _ (image : ℕ → ℕ) (entries : ℕ → ℕ) where
  abbrev one : Item → List Instr
  one (item.Is i) = i ∷ []
  one (item.CallFn f) = call (entries f) ∷ []
  one _ = []

  abbrev straight : List Item → List Instr
  straight [] = []
  straight (x ∷ xs) = one x ++ straight xs

  leads : (items : List Item) (x : Item) (t : ℕ) → IsStraight x → LeadsTo items x t
  leads items (item.Is i) t s = tt
  leads items (item.CallFn f) t s = tt
  leads items (item.Label l) t s = absurd s
  leads items (item.Jump c l) t s = absurd s
  leads items (item.AddrOf f r) t s = absurd s

  as_one : (x : Item) (long : Bool) (pc target a b : ℕ) → IsStraight x → AreAt image a (instructions entries long pc target x) b → AreAt image a (one x) b
  as_one (item.Is i) true pc target a b s h = h
  as_one (item.Is i) false pc target a b s h = h
  as_one (item.CallFn f) true pc target a b s h = h
  as_one (item.CallFn f) false pc target a b s h = h
  as_one (item.Label l) long pc target a b s h = absurd s
  as_one (item.Jump c l) long pc target a b s h = absurd s
  as_one (item.AddrOf f r) long pc target a b s h = absurd s

  both : (is js : List Instr) (a b c : ℕ) → AreAt image a is b → AreAt image b js c → AreAt image a (is ++ js) c
  both [] js a b c h k = subst (λ x. AreAt image x js c) (sym h) k
  both (i ∷ is) js a b c h k = (h.0, both is js (a + 2 * length (encoded i)) b c h.1 k)

  all_at : (items : List Item) → AllByRecursion IsStraight items → (k : ℕ) → k < length items → IsStraight (item_at items k)
  all_at [] s k lt = absurd (omega (arith, lt))
  all_at (x ∷ xs) s zero lt = s.0
  all_at (x ∷ xs) s (suc k) lt = all_at xs s.1 k (omega (arith, lt))

  behind : (items : List Item) (p : ℕ → ℕ) → ((k : ℕ) → k < length items → AreAt image (p k) (one (item_at items k)) (p (suc k))) → AreAt image (p 0) (straight items) (p (length items))
  behind [] p h = refl
  behind (x ∷ xs) p h = both (one x) (straight xs) (p 0) (p 1) (p (suc (length xs))) (h 0 (omega arith)) (behind xs (λ k. p (suc k)) (λ k lt. h (suc k) (omega (arith, lt))))

module _ (image : ℕ → ℕ) (code : List CodeFn) (entries : ℕ → ℕ) (laid : IsLaid image code entries) where
  -- a function of such items
  function_stands : (f : ℕ) (items : List Item) → f < length code → items_of code f ≡ items → AllByRecursion IsStraight items → AreAt image (entries f) (straight image entries items) (laid.places f (length items))
  function_stands f items is e s =
      subst (λ a. AreAt image a (straight image entries items) (laid.places f (length items))) (laid.entry f is)
      (behind image entries items (laid.places f) at)
    where
      stands : (k t : ℕ) → k < length items → LeadsTo items (item_at items k) t → AreAt image (laid.places f k) (instructions entries (laid.long f k) (laid.places f k) (laid.places f t) (item_at items k)) (laid.places f (k + 1))
      stands = subst (λ l. (k t : ℕ) → k < length l → LeadsTo l (item_at l k) t → AreAt image (laid.places f k) (instructions entries (laid.long f k) (laid.places f k) (laid.places f t) (item_at l k)) (laid.places f (k + 1))) e (λ k t lt to. laid.stands f k t is lt to)

      at : (k : ℕ) → k < length items → AreAt image (laid.places f k) (one image entries (item_at items k)) (laid.places f (suc k))
      at k lt =
          let x = item_at items k in
          let ok = all_at image entries items s k lt in
          let next : k + 1 ≡ suc k = omega arith in
          subst (λ n. AreAt image (laid.places f k) (one image entries x) (laid.places f n)) next
          (as_one image entries x (laid.long f k) (laid.places f k) (laid.places f 0) (laid.places f k) (laid.places f (k + 1)) ok (stands k 0 lt (leads image entries items x 0 ok)))

  handler_straight : (body : Option ℕ) → AllByRecursion IsStraight (handler_of body).items
  handler_straight None = (tt, (tt, (tt, (tt, (tt, (tt, (tt, (tt, (tt, (tt, (tt, (tt, (tt, (tt, (tt, (tt, (tt, (tt, (tt, (tt, (tt, (tt, (tt, (tt, (tt, (tt, tt))))))))))))))))))))))))))
  handler_straight (Some g) = (tt, (tt, (tt, (tt, (tt, (tt, (tt, (tt, (tt, (tt, (tt, (tt, (tt, (tt, (tt, (tt, (tt, (tt, (tt, (tt, (tt, (tt, (tt, (tt, (tt, (tt, (tt, tt)))))))))))))))))))))))))))

  pub line_stands : (marks : ℕ → List Action) (f : ℕ) (body : Option ℕ) → f < length code → items_of code f ≡ (handler_of body).items →
      ((a : ℕ) → entries f ≤ a → a < laid.places f (length (handler_of body).items) → marks a ≡ []) → IsLine image marks (entries f) (option_map entries body)
  line_stands marks f None is e none = record { end = laid.places f 26; code = function_stands f (handler_of None).items is e (handler_straight None); no_marks = none }
  line_stands marks f (Some g) is e none = record { end = laid.places f 27; code = function_stands f (handler_of (Some g)).items is e (handler_straight (Some g)); no_marks = none }

  pub reset_stands : (f boot : ℕ) → f < length code → items_of code f ≡ (reset_of boot).items → AreAt image (entries f) (reset_code (entries boot)) (laid.places f 5)
  reset_stands f boot is e = function_stands f (reset_of boot).items is e (tt, (tt, (tt, (tt, (tt, tt)))))

-- the code of a line begins at an even address
pub first_at : (image : ℕ → ℕ) (body : Option ℕ) (a end : ℕ) → AreAt image a (line_code body) end → (even a ≡ a) × (a < 0x10000)
first_at image None a end s = let e = s.0.even in let l = s.0.high in (omega (arith, e), omega (arith, l))
first_at image (Some body) a end s = let e = s.0.even in let l = s.0.high in (omega (arith, e), omega (arith, l))

pub laid_images_are_built : LaidImagesAreBuilt
laid_images_are_built P image marks z code entries laid h = record {
  low_end = h.low_end;
  even_end = h.even_end;
  room = h.room;
  some = h.some;
  reset_at = entries h.reset;
  reset_end = laid.places h.reset 5;
  vector = h.vector;
  reset = subst (λ a. AreAt image (entries h.reset) (reset_code a) (laid.places h.reset 5)) h.boot_at (reset_stands image code entries laid h.reset h.boot h.is h.items);
  even_boot = h.even_boot;
  low_boot = h.low_boot;
  body = h.body;
  handlers = handlers;
}
  where
    handlers : (v : ℕ) → v < 8 → IsVector P image marks z v
    handlers v few =
        let l = h.lines v few in
        let line = line_stands image code entries laid marks l.f l.body l.is l.items l.no_marks in
        let a = first_at image (option_map entries l.body) (entries l.f) line.end line.code in
        let law = survives image z.data_end marks (act_of P (P.handler v)) (entries l.f) l.depth l.bound (option_map entries l.body) h.low_end l.some line l.serves in
        record {
          entry = entries l.f;
          stands = l.vector;
          word = a.1;
          law = subst (λ x. IsHandlerLaw image z.data_end marks (act_of P (P.handler v)) x z.handler_depth z.bound) (sym a.0)
              (eased image z.data_end marks (act_of P (P.handler v)) (entries l.f) (26 + l.depth) z.handler_depth (l.bound + 28) z.bound l.deep l.long law);
        }
