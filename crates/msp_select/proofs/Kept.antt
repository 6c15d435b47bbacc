-- What stays of a call's values and of the calls below it where something is written.
use Rattle.std.proofs.Common.{◌≡◌, ◌≢◌, ◌⊎◌, ℕ, zero, suc, ◌+◌, ◌*◌, ◌<◌, ◌≤◌, ◌==◌, Bool, true, false, List, [], ◌∷◌, ◌++◌, length, Some, None, All, refl, sym, ap, ◌∙◌, subst, arith}
use mathlib.Core.Logic.{inl, inr}
use Rattle.std.specs.Prelude.{slice_get, Contains}
use Rattle.std.proofs.lemmas.Bool.{ne_eqb}
use Rattle.std.proofs.lemmas.Bool.Decides.{eqb_tells}
use Rattle.std.proofs.lemmas.List.Elements.{All-head, All-tail}
use Rattle.nm_base.specs.Lists.{bit}
use Rattle.msp_isa.specs.Stands.{word_in}
use Rattle.msp430_cpu.specs.Cpu.{even}
use Rattle.mid_code.specs.declared.instr.Mid.{Mid}
use Rattle.mid_code.specs.declared.instr.Mid.TheVariants.{Help}
use Rattle.mid_code.specs.Form.{IsMidCode}
use Rattle.mid_code.specs.Machine.{Activation, at_place, fn_of, put}
use Rattle.mid_code.specs.Reached.{KeepsForm}
use Rattle.open_law.specs.Homes.{Home, InRegister, InFrame, Of, IsKept}
use Rattle.open_law.proofs.View.{View, IsRoomAt}
use Rattle.open_law.proofs.Quiet.{HasAt, IsHomeAt, held_at, put_regs, put_stack}
use Rattle.open_law.proofs.Homes.{held_same, held_other, held_scratch}
use Rattle.open_law.proofs.Law.{IsStart}
use Rattle.msp_select.specs.Routine.{IsRoutine}
use Rattle.msp_select.specs.Select.{raised, routine_of, takes}
use Rattle.msp_select.specs.Sound.{IsSelectable, IsDeep, IsFramed, IsPaced, IsPlace, IsStanding, PartsStand, TouchesObjects, parameters}
use Rattle.msp_select.proofs.Relation.{Setting, Callers, IsFree, IsSlot, Placed, Saved, Told, fn, labels}

-- all that selection relies on
pub record Premises (S : Setting) (left : List Activation → ℕ) (most : ℕ) : Type 0 where
  pub form : IsMidCode S.code
  pub keeps : KeepsForm S.code
  pub selectable : (f at : ℕ) (i : Mid) → slice_get (fn_of S.code f).code at ≡ Some i → IsSelectable i
  pub framed : (f : ℕ) → f < length S.code.fns → IsFramed S.code S.homes S.own S.deep f
  pub deep : (f : ℕ) → f < length S.code.fns → IsDeep S.code S.homes S.own S.deep f
  pub standing : IsStanding S.code S.homes S.own S.deep S.image S.marks S.entries S.places
  pub most_help : ℕ
  pub routines : (f at h : ℕ) (ins outs : List ℕ) → slice_get (fn_of S.code f).code at ≡ Some (Help h ins outs) → IsRoutine S.code S.image S.data_end S.marks h (S.entries (routine_of (length S.code.fns) h)) most_help
  pub objects : TouchesObjects S.code S.root S.data_end
  pub paced : IsPaced S.code S.root left most
  pub root : S.root < length S.code.fns
  pub params : (fn_of S.code S.root).params ≡ []
  pub given : S.gives ≡ form.gives S.root
  pub start : IsStart S.data_end (S.entries S.root) (S.deep S.root) S.c S.ram
  pub low_end : 0x1100 ≤ S.data_end

pub all_get : {A : Type 0} (P : A → Type 0) (xs : List A) (k : ℕ) (x : A) → slice_get xs k ≡ Some x → All P xs → P x
all_get P [] k x at all = absurd (cc)
all_get P (y ∷ ys) zero x at all = let e : y ≡ x = cc in subst P e (All-head P y ys all)
all_get P (y ∷ ys) (suc k) x at all = all_get P ys k x at (All-tail P y ys all)

pub there : {A : Type 0} (xs : List A) (k : ℕ) → k < length xs → (x : A) × (slice_get xs k ≡ Some x)
there [] k lt = absurd (omega (arith, lt))
there (x ∷ xs) zero lt = (x, refl)
there (x ∷ xs) (suc k) lt = there xs k (omega (arith, lt))

pub contains : {A : Type 0} (xs : List A) (k : ℕ) (x : A) → slice_get xs k ≡ Some x → Contains xs x
contains [] k x e = absurd (cc)
contains (y ∷ ys) zero x e = let h : y ≡ x = cc in (0, omega arith, h)
contains (y ∷ ys) (suc k) x e = let r = contains ys k x e in (suc r.0, (let l = r.1 in omega (arith, l)), r.2)

pub word_on : (stack stack' : ℕ → ℕ) (a : ℕ) → stack' a ≡ stack a → stack' (a + 1) ≡ stack (a + 1) → word_in stack' a ≡ word_in stack a
word_on stack stack' a low high = ap (λ n. n + 256 * stack' (a + 1)) low ∙ ap (λ n. stack a + 256 * n) high

module _ (S : Setting) where
  abbrev pub words_of : ℕ → ℕ
  words_of f = parameters S.code S.homes S.own S.deep f

  pub kept_of : (f : ℕ) (h : Home) → IsPlace S.code S.homes S.own S.deep f h → IsKept (S.own f + 2 + 2 * words_of f) h
  kept_of f (InRegister r) p = p
  kept_of f (InFrame x) p = (p.0, p.2)

  -- a home of a call's frame
  pub home_in : (sp size : ℕ) (h : Home) → IsKept size h → sp + size ≤ S.c.sp + 2 → IsHomeAt (S.c.sp + 2) sp h
  home_in sp size (InRegister r) kept room = let h = kept.1 in (kept.0, omega arith)
  home_in sp size (InFrame x) kept room = let h = kept.1 in (kept.0, omega arith)

  -- the same from SP on
  abbrev pub SameFrom : ℕ → (ℕ → ℕ) → (ℕ → ℕ) → Type 0
  SameFrom s stack stack' = (b : ℕ) → s ≤ b → stack' b ≡ stack b

  -- the same at a return address, and from behind the parameters on
  abbrev pub SameAbove : (s words : ℕ) → (ℕ → ℕ) → (ℕ → ℕ) → Type 0
  SameAbove s words stack stack' = (b : ℕ) → s ≤ b → (b < s + 2) ⊎ (s + 2 + 2 * words ≤ b) → stack' b ≡ stack b

  pub saved_on : (f : ℕ) (stack stack' : ℕ → ℕ) (sp : ℕ) (now : Bool) (xs : List ℕ) (first : Bool) → ((x : ℕ) → IsSlot S f x → word_in stack' (sp + x) ≡ word_in stack (sp + x)) →
      Saved S f stack sp now xs first → Saved S f stack' sp now xs first
  saved_on f stack stack' sp now [] first same h = h
  saved_on f stack stack' sp now (x ∷ xs) first same h =
      let e = same x h.1 in (
        h.0,
        h.1,
        subst (λ n. n < 0x10000) (sym e) h.2,
        ap (λ n. bit n 4) e ∙ h.3,
        h.4,
        saved_on f stack stack' sp (bit (word_in stack' (sp + x)) 3) xs first same (subst (λ n. Saved S f stack sp (bit n 3) xs first) (sym e) h.5),
      )

  pub saved_as : (f : ℕ) (stack : ℕ → ℕ) (sp : ℕ) (now now' : Bool) (xs : List ℕ) (first : Bool) → now' ≡ now → Saved S f stack sp now xs first → Saved S f stack sp now' xs first
  saved_as f stack sp now now' xs first e h = subst (λ g. Saved S f stack sp g xs first) (sym e) h

  held_on : (h : Home) (sp : ℕ) (regs stack stack' : ℕ → ℕ) → SameFrom sp stack stack' → held_at sp regs stack' h ≡ held_at sp regs stack h
  held_on (InRegister r) sp regs stack stack' same = refl
  held_on (InFrame x) sp regs stack stack' same = word_on stack stack' (sp + x) (same (sp + x) (omega arith)) (same (sp + x + 1) (omega arith))

  pub placed_on : (a : Activation) (opens : List ℕ) (now first : Bool) (sp : ℕ) (regs stack stack' : ℕ → ℕ) → SameFrom sp stack stack' → Placed S a opens now first sp regs stack → Placed S a opens now first sp regs stack'
  placed_on a opens now first sp regs stack stack' same p = record {
    function = p.function;
    values = λ w lt. let old = p.values w lt in (old.0, held_on (S.homes a.f w) sp regs stack stack' same ∙ old.1, old.2);
    bytes = λ o free. (same (sp + o) (omega arith) ∙ (p.bytes o free).0, (p.bytes o free).1);
    saved = saved_on a.f stack stack' sp now opens first (λ x slot. word_on stack stack' (sp + x) (same (sp + x) (omega arith)) (same (sp + x + 1) (omega arith))) p.saved;
    low = p.low;
    room = p.room;
    even_sp = p.even_sp;
  }

  pub callers_on : (stack stack' : ℕ → ℕ) (now : Bool) (s f : ℕ) (rest : List Activation) (outer : List (List ℕ)) → SameAbove s (words_of f) stack stack' → Callers S stack now s f rest outer → Callers S stack' now s f rest outer
  callers_on stack stack' now s f [] [] same h =
      let e = h.0 in (
        h.0,
        h.1,
        h.2,
        subst (λ n. word_in stack' n ≡ word_in S.ram S.c.sp) e
            (word_on stack stack' s (same s (omega arith) (inl (omega arith))) (same (s + 1) (omega arith) (inl (omega arith))) ∙ ap (word_in stack) e ∙ h.3),
      )
  callers_on stack stack' now s f [] (o ∷ outer) same h = absurd h
  callers_on stack stack' now s f (a ∷ rest) [] same h = absurd h
  callers_on stack stack' now s f (a ∷ rest) (opens ∷ outer) same h =
      let k = h.1 in
      let words = words_of f in
      let e : word_in stack' s ≡ word_in stack s = word_on stack stack' s (same s (omega arith) (inl (omega arith))) (same (s + 1) (omega arith) (inl (omega arith))) in
      let from : SameFrom (s + 2 + 2 * words) stack stack' = λ b le. same b (omega arith) (inr le) in (
        h.0,
        record {
          passed = k.passed;
          taken = k.taken;
          call = k.call;
          even_ret = ap even e ∙ k.even_ret ∙ sym e;
          small_ret = subst (λ n. n < 0x10000) (sym e) k.small_ret;
          stands = subst (λ n. PartsStand S.image S.marks S.entries (labels S a.f) n (raised (2 * words) ++ takes S.code (S.homes a.f) (S.own a.f) 12 k.taken) (S.places a.f (a.at + 1))) (sym e) k.stands;
          placed = λ regs. placed_on a opens now h.0 (s + 2 + 2 * words) regs stack stack' from (k.placed regs);
        },
        callers_on stack stack' h.0 (s + 2 + 2 * words + S.own a.f) a.f rest outer (λ b lo where'. from b (omega (arith, lo))) h.2,
      )

  module _ (left : List Activation → ℕ) (most : ℕ) (P : Premises S left most) where
    module _ (a : Activation) (opens : List ℕ) (now first : Bool) (sp : ℕ) (regs stack : ℕ → ℕ) (p : Placed S a opens now first sp regs stack) where
      abbrev framed : IsFramed S.code S.homes S.own S.deep a.f
      framed = P.framed a.f p.function

      pub kept : (v : ℕ) → v < (fn S a).values → IsKept (S.own a.f + 2 + 2 * words_of a.f) (S.homes a.f v)
      kept v lt = kept_of a.f (S.homes a.f v) (framed.kept v lt)

      pub home_of : (v : ℕ) → v < (fn S a).values → IsHomeAt (S.c.sp + 2) sp (S.homes a.f v)
      home_of v lt = home_in sp (S.own a.f + 2 + 2 * words_of a.f) (S.homes a.f v) (kept v lt) (let r = p.room in omega (arith, r))

      -- a value has its home also where only registers from R12 on have changed
      pub has : (regs' : ℕ → ℕ) (v : ℕ) → ((r : ℕ) → r < 12 → regs' r ≡ regs r) → v < (fn S a).values → HasAt (S.c.sp + 2) sp regs' stack (Of (S.homes a.f v)) (a.values v)
      has regs' v same lt =
          let k = p.values v lt in
          (k.0, held_scratch sp regs regs' stack (S.own a.f + 2 + 2 * words_of a.f) (S.homes a.f v) (kept v lt) same ∙ k.1, k.2)

      pub put_value : (x n : ℕ) (regs' : ℕ → ℕ) → x < (fn S a).values → n < 0x10000 → ((r : ℕ) → r < 12 → regs' r ≡ put_regs (S.homes a.f x) n regs r) → (w : ℕ) → w < (fn S a).values →
          (((w == x) ≡ true) × (w ≡ x)) ⊎ (((w == x) ≡ false) × (w ≢ x)) →
          HasAt (S.c.sp + 2) sp regs' (put_stack (S.homes a.f x) n sp stack) (Of (S.homes a.f w)) (put a.values x n w)
      put_value x n regs' lt small same w ltw (inl e) =
          let k = S.homes a.f x in
          let scratch = held_scratch sp (put_regs k n regs) regs' (put_stack k n sp stack) (S.own a.f + 2 + 2 * words_of a.f) k (kept x lt) same in
          rw (e.0) (subst (λ y. HasAt (S.c.sp + 2) sp regs' (put_stack k n sp stack) (Of (S.homes a.f y)) n) (sym e.1) (home_of x lt, scratch ∙ held_same sp regs stack k n small, small))
      put_value x n regs' lt small same w ltw (inr e) =
          let k = S.homes a.f x in
          let q = S.homes a.f w in
          let size = S.own a.f + 2 + 2 * words_of a.f in
          let scratch = held_scratch sp (put_regs k n regs) regs' (put_stack k n sp stack) size q (kept w ltw) same in
          let old = p.values w ltw in
          rw (e.0) (old.0, scratch ∙ held_other sp regs stack size k q n p.even_sp (kept x lt) (kept w ltw) (framed.apart x w lt ltw (λ z. e.1 (sym z))) ∙ old.1, old.2)

      -- what a home's word leaves
      low_kept : (h : Home) (n b : ℕ) → IsPlace S.code S.homes S.own S.deep a.f h → b < sp + (fn S a).frame → put_stack h n sp stack b ≡ stack b
      low_kept (InRegister r) n b place lt = refl
      low_kept (InFrame x) n b place lt =
          let f = place.1 in
          let n0 : (b == sp + x) ≡ false = ne_eqb b (sp + x) (λ e. omega (arith, e, f, lt)) in
          let n1 : (b == sp + x + 1) ≡ false = ne_eqb b (sp + x + 1) (λ e. omega (arith, e, f, lt)) in
          rw (n1, n0) refl

      above_kept : (h : Home) (n : ℕ) → IsPlace S.code S.homes S.own S.deep a.f h → SameAbove (sp + S.own a.f) (words_of a.f) stack (put_stack h n sp stack)
      above_kept (InRegister r) n place b lo far = refl
      above_kept (InFrame x) n place b lo far =
          let end = place.2 in
          let n0 : (b == sp + x) ≡ false = ne_eqb b (sp + x) (λ e. apart b lo far place.3 end (inl e)) in
          let n1 : (b == sp + x + 1) ≡ false = ne_eqb b (sp + x + 1) (λ e. apart b lo far place.3 end (inr e)) in
          rw (n1, n0) refl
        where
          apart : (b : ℕ) → sp + S.own a.f ≤ b → (b < sp + S.own a.f + 2) ⊎ (sp + S.own a.f + 2 + 2 * words_of a.f ≤ b) → (x + 2 ≤ S.own a.f) ⊎ (S.own a.f + 2 ≤ x) → x + 2 ≤ S.own a.f + 2 + 2 * words_of a.f → (b ≡ sp + x) ⊎ (b ≡ sp + x + 1) → ⊥
          apart b lo (inl near) (inl below) end (inl e) = omega (arith, lo, below, e)
          apart b lo (inl near) (inl below) end (inr e) = omega (arith, lo, below, e)
          apart b lo (inl near) (inr over) end (inl e) = omega (arith, near, over, e)
          apart b lo (inl near) (inr over) end (inr e) = omega (arith, near, over, e)
          apart b lo (inr far') side end (inl e) = omega (arith, far', end, e)
          apart b lo (inr far') side end (inr e) = omega (arith, far', end, e)

      -- a value is written
      pub placed_wrote : (x n at : ℕ) (now' : Bool) (regs' : ℕ → ℕ) → x < (fn S a).values → n < 0x10000 → ((r : ℕ) → r < 12 → regs' r ≡ put_regs (S.homes a.f x) n regs r) → now' ≡ now →
          Placed S (record { f = a.f; at = at; values = put a.values x n; frame = a.frame }) opens now' first sp regs' (put_stack (S.homes a.f x) n sp stack)
      placed_wrote x n at now' regs' lt small same gie' =
          let k = S.homes a.f x in
          let place = framed.kept x lt in
          record {
            function = p.function;
            values = λ w ltw. put_value x n regs' lt small same w ltw (eqb_tells w x);
            bytes = λ o free. (low_kept k n (sp + o) place (let i = free.inside in omega (arith, i)) ∙ (p.bytes o free).0, (p.bytes o free).1);
            saved = saved_as a.f (put_stack k n sp stack) sp now now' opens first gie'
                (saved_on a.f stack (put_stack k n sp stack) sp now opens first
                (λ y slot. let r = slot.room in word_on stack (put_stack k n sp stack) (sp + y) (low_kept k n (sp + y) place (omega (arith, r))) (low_kept k n (sp + y + 1) place (omega (arith, r)))) p.saved);
            low = p.low;
            room = p.room;
            even_sp = p.even_sp;
          }

      pub callers_wrote : (x n : ℕ) (rest : List Activation) (outer : List (List ℕ)) → x < (fn S a).values → Callers S stack first (sp + S.own a.f) a.f rest outer → Callers S (put_stack (S.homes a.f x) n sp stack) first (sp + S.own a.f) a.f rest outer
      callers_wrote x n rest outer lt h = callers_on stack (put_stack (S.homes a.f x) n sp stack) first (sp + S.own a.f) a.f rest outer (above_kept (S.homes a.f x) n (framed.kept x lt)) h

      -- no value is written
      pub placed_stayed : (at : ℕ) (now' : Bool) (regs' : ℕ → ℕ) → ((r : ℕ) → r < 12 → regs' r ≡ regs r) → now' ≡ now → Placed S (at_place a at) opens now' first sp regs' stack
      placed_stayed at now' regs' same gie' = record {
        function = p.function;
        values = λ w lt. has regs' w same lt;
        bytes = p.bytes;
        saved = saved_as a.f stack sp now now' opens first gie' p.saved;
        low = p.low;
        room = p.room;
        even_sp = p.even_sp;
      }

      -- a home's word lies behind the frame's bytes
      pub home_behind : (h : Home) (regs' : ℕ → ℕ) (stack' : ℕ → ℕ) → IsPlace S.code S.homes S.own S.deep a.f h → ((r : ℕ) → r < 12 → regs' r ≡ regs r) → SameFrom (sp + (fn S a).frame) stack stack' → held_at sp regs' stack' h ≡ held_at sp regs stack h
      home_behind (InRegister r) regs' stack' place low same = low r place.1
      home_behind (InFrame x) regs' stack' place low same = let f = place.1 in word_on stack stack' (sp + x) (same (sp + x) (omega (arith, f))) (same (sp + x + 1) (omega (arith, f)))

      -- bytes of the frame are written, apart from the places where SR is saved
      pub placed_poked : (at : ℕ) (frame' : ℕ → ℕ) (now' : Bool) (regs' stack' : ℕ → ℕ) → ((r : ℕ) → r < 12 → regs' r ≡ regs r) → now' ≡ now → SameFrom (sp + (fn S a).frame) stack stack' → ((x : ℕ) → IsSlot S a.f x → word_in stack' (sp + x) ≡ word_in stack (sp + x)) →
          ((o : ℕ) → IsFree S a.f o → (stack' (sp + o) ≡ frame' o) × (frame' o < 0x100)) → Placed S (record { f = a.f; at = at; values = a.values; frame = frame' }) opens now' first sp regs' stack'
      placed_poked at frame' now' regs' stack' low gie' same slots bytes = record {
        function = p.function;
        values = λ w lt. let old = p.values w lt in (old.0, home_behind (S.homes a.f w) regs' stack' (framed.kept w lt) low same ∙ old.1, old.2);
        bytes = bytes;
        saved = saved_as a.f stack' sp now now' opens first gie' (saved_on a.f stack stack' sp now opens first slots p.saved);
        low = p.low;
        room = p.room;
        even_sp = p.even_sp;
      }

      pub callers_poked : (stack' : ℕ → ℕ) (rest : List Activation) (outer : List (List ℕ)) → SameFrom (sp + (fn S a).frame) stack stack' → Callers S stack first (sp + S.own a.f) a.f rest outer → Callers S stack' first (sp + S.own a.f) a.f rest outer
      callers_poked stack' rest outer same h = callers_on stack stack' first (sp + S.own a.f) a.f rest outer (λ b lo far. same b (let f = framed.frame in omega (arith, lo, f))) h

    -- what an instruction may rely on
    pub ready : (v : View) → Told S v → IsRoomAt S.data_end (S.c.sp + 2) v.sp × (bit v.sr 4 ≡ false) × (v.faulted ≡ None)
    ready v t =
        let r = P.start.room in let h = P.start.high in let o = P.low_end in let l = t.low in let b = t.below in
        (record { objects = o; low = omega arith; inside = omega arith; high = h; even_sp = t.even_sp }, t.awake, t.going)
