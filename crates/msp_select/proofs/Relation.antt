-- What relates the open machine's calls to what code can rely on.
use Rattle.std.proofs.Common.{None, Option, ◌≡◌, ◌⊎◌, ℕ, suc, ◌+◌, ◌*◌, ◌<◌, ◌≤◌, Bool, true, false, nat_lt, List, [], ◌∷◌, ◌++◌, length, Some, sym, ap, ◌∙◌, arith}
use Rattle.std.specs.Prelude.{Contains}
use Rattle.nm_base.specs.Lists.{bit, IsPrefixOf, number_of}
use Rattle.nm_base.specs.declared.action.Action.{Action}
use Rattle.nm_base.specs.Behaviour.{Trace, is_begin, is_end}
use Rattle.msp_isa.specs.Stands.{word_in}
use Rattle.msp430_cpu.specs.Cpu.{Cpu, even, gie}
use Rattle.mid_code.specs.declared.code.MidFn.{MidFn}
use Rattle.mid_code.specs.declared.code.MidCode.{MidCode}
use Rattle.mid_code.specs.declared.instr.Mid.TheVariants.{Call, Begin}
use Rattle.mid_code.specs.Form.{AreBelow}
use Rattle.mid_code.specs.Machine.{Activation, fn_of, instruction, place_of, put_all}
use Rattle.open_law.specs.Homes.{Home, Of}
use Rattle.open_law.proofs.View.{View}
use Rattle.open_law.proofs.Quiet.{HasAt}
use Rattle.open_law.proofs.Law.{Obeys, Good}
use Rattle.msp_select.specs.Frames.{is_among, pushed_behind}
use Rattle.msp_select.specs.Select.{raised, takes}
use Rattle.msp_select.specs.Sound.{body_of, parameters, PartsStand}
use Rattle.msp_select.proofs.Nest.{nested, is_nested, IsEven, inside_is, even_plain}
use Rattle.msp_select.proofs.Reached.{Reached}

-- all that one start of a function's code hangs on
pub record Setting : Type 0 where
  pub code : MidCode
  pub homes : ℕ → ℕ → Home
  pub own : ℕ → ℕ
  pub deep : ℕ → ℕ
  pub image : ℕ → ℕ
  pub marks : ℕ → List Action
  pub entries : ℕ → ℕ
  pub places : ℕ → ℕ → ℕ
  pub data_end : ℕ
  pub root : ℕ
  pub gives : ℕ
  pub c : Cpu
  pub ram : ℕ → ℕ

module _ (S : Setting) where
  abbrev pub act : List ℕ → ℕ → Trace
  act = body_of S.code S.root

  abbrev pub fn : Activation → MidFn
  fn a = fn_of S.code a.f

  -- from SP to behind the parameters
  abbrev pub extent : Activation → ℕ
  extent a = S.own a.f + 2 + 2 * parameters S.code S.homes S.own S.deep a.f

  -- the addresses of a function's labels
  abbrev pub labels : ℕ → ℕ → ℕ
  labels f l = S.places f (place_of (fn_of S.code f).code l)

  -- a place of the frame where SR may be saved
  pub record IsSlot (f x : ℕ) : Type 0 where
    pub even : even x ≡ x
    pub room : x + 2 ≤ (fn_of S.code f).frame
    pub begins : Contains (fn_of S.code f).code (Begin x)

  abbrev pub AllApart : ℕ → List ℕ → Type 0
  AllApart x [] = Unit {0}
  AllApart x (y ∷ ys) = ((x + 2 ≤ y) ⊎ (y + 2 ≤ x)) × AllApart x ys

  -- GIE now, what stands saved in the frame, and GIE before the first atomic statement that is open
  abbrev pub Saved : ℕ → (ℕ → ℕ) → ℕ → Bool → List ℕ → Bool → Type 0
  Saved f stack sp now [] first = now ≡ first
  Saved f stack sp now (x ∷ xs) first =
      (now ≡ false) × IsSlot f x × (word_in stack (sp + x) < 0x10000) × (bit (word_in stack (sp + x)) 4 ≡ false) × AllApart x xs
      × Saved f stack sp (bit (word_in stack (sp + x)) 3) xs first

  -- a byte of the frame that no Begin of the function uses
  pub record IsFree (f o : ℕ) : Type 0 where
    pub inside : o < (fn_of S.code f).frame
    pub apart : (b : ℕ) → Contains (fn_of S.code f).code (Begin b) → (o < b) ⊎ (b + 2 ≤ o)

  -- a call's values, its frame, what it saved, and where its stack lies
  pub record Placed (a : Activation) (opens : List ℕ) (now first : Bool) (sp : ℕ) (regs stack : ℕ → ℕ) : Type 0 where
    pub function : a.f < length S.code.fns
    pub values : (w : ℕ) → w < (fn a).values → HasAt (S.c.sp + 2) sp regs stack (Of (S.homes a.f w)) (a.values w)
    pub bytes : (o : ℕ) → IsFree a.f o → (stack (sp + o) ≡ a.frame o) × (a.frame o < 0x100)
    pub saved : Saved a.f stack sp now opens first
    pub low : S.c.sp + S.deep a.f ≤ sp + S.own a.f + S.deep S.root
    pub room : sp + extent a ≤ S.c.sp + 2
    pub even_sp : even sp ≡ sp

  -- a call that waits for one of function f, whose return address stands at s
  pub record IsCaller (stack : ℕ → ℕ) (now first : Bool) (s f : ℕ) (a : Activation) (opens : List ℕ) : Type 0 where
    pub passed : List ℕ
    pub taken : List ℕ
    pub call : instruction S.code a ≡ Some (Call f passed taken)
    pub even_ret : even (word_in stack s) ≡ word_in stack s
    pub small_ret : word_in stack s < 0x10000
    pub stands : PartsStand S.image S.marks S.entries (labels a.f) (word_in stack s) (raised (2 * parameters S.code S.homes S.own S.deep f) ++ takes S.code (S.homes a.f) (S.own a.f) 12 taken) (S.places a.f (a.at + 1))
    pub placed : (regs : ℕ → ℕ) → Placed a opens now first (s + 2 + 2 * parameters S.code S.homes S.own S.deep f) regs stack

  -- the calls below one of function f, whose return address stands at s
  abbrev pub Callers : (ℕ → ℕ) → Bool → (s f : ℕ) → List Activation → List (List ℕ) → Type 0
  Callers stack now s f [] [] = (s ≡ S.c.sp) × (f ≡ S.root) × (now ≡ bit S.c.sr 3) × (word_in stack S.c.sp ≡ word_in S.ram S.c.sp)
  Callers stack now s f (a ∷ rest) (opens ∷ outer) =
      (first : Bool) × IsCaller stack now first s f a opens × Callers stack first (s + 2 + 2 * parameters S.code S.homes S.own S.deep f + S.own a.f) a.f rest outer
  Callers stack now s f _ _ = ⊥

  -- registers from R r on hold these words
  abbrev pub AreIn : ℕ → List ℕ → (ℕ → ℕ) → Type 0
  AreIn r [] regs = Unit {0}
  AreIn r (x ∷ xs) regs = (regs r ≡ x) × (x < 0x10000) × AreIn (suc r) xs regs

  -- how many atomic statements are open
  abbrev pub total : List (List ℕ) → ℕ
  total [] = 0
  total (opens ∷ outer) = length opens + total outer

  -- what is so at each instruction
  pub record ToldAt (made : List Action) (answers : List ℕ) (sp sr : ℕ) (gate : Bool) (faulted : Option ℕ) : Type 0 where
    pub told : (n : ℕ) × IsPrefixOf made (act answers n).actions
    pub low : S.c.sp ≤ sp + S.deep S.root
    pub below : sp ≤ S.c.sp
    pub even_sp : even sp ≡ sp
    pub awake : bit sr 4 ≡ false
    pub word : sr < 0x10000
    pub going : faulted ≡ None
    pub closed : gie S.c ≡ false → (bit sr 3 ≡ false) × (gate ≡ false)
    pub depth : IsEven made
    pub inside : is_nested made ≡ true → (bit sr 3 ≡ false) × (gate ≡ false)
    pub outside : gie S.c ≡ true → is_nested made ≡ false → bit sr 3 ≡ true

  abbrev pub Told : View → Type 0
  Told v = ToldAt v.made v.answers v.sp v.sr v.gate v.faulted

  pub clash : (b : Bool) → b ≡ false → b ≡ true → ⊥
  clash b f h = cc

  abbrev pub Sound : View → Type 0
  Sound v = Obeys S.gives act S.image S.data_end (S.deep S.root) S.marks S.c S.ram v

  pub obeys : (v : View) (faulted : Option ℕ) → ToldAt v.made v.answers v.sp v.sr v.gate faulted → Sound v
  obeys v faulted t = record {
    low = t.low;
    high = let b = t.below in omega arith;
    even_sp = t.even_sp;
    word = t.word;
    awake = t.awake;
    closed = t.closed;
    inside = λ h. (t.inside (sym (inside_is v.made t.depth) ∙ h)).1;
    outside = λ o h g. absurd (clash (bit v.sr 3) g (t.outside o (sym (inside_is v.made t.depth) ∙ h)));
    back = λ l. let b = t.below in absurd (omega arith);
  }

  abbrev pub GoodOne : View → Type 0
  GoodOne = Good S.gives act S.image S.data_end (S.deep S.root) S.marks S.c S.ram

  pub good : (v : View) → Told v → GoodOne v
  good v t = (obeys v v.faulted t, t.going, t.below)

  -- the gate is what GIE was before the instruction
  pub settled : {made : List Action} {answers : List ℕ} {sp : ℕ} {sr : ℕ} {gate : Bool} {faulted : Option ℕ} → ToldAt made answers sp sr gate faulted → ToldAt made answers sp sr (bit sr 3) faulted
  settled t = record {
    told = t.told;
    low = t.low;
    below = t.below;
    even_sp = t.even_sp;
    awake = t.awake;
    word = t.word;
    going = t.going;
    closed = λ h. ((t.closed h).0, (t.closed h).0);
    depth = t.depth;
    inside = λ h. ((t.inside h).0, (t.inside h).0);
    outside = t.outside;
  }

  -- flags changed
  pub flagged : {made : List Action} {answers : List ℕ} {sp : ℕ} {sr : ℕ} {gate : Bool} {faulted : Option ℕ} (sr' : ℕ) → bit sr' 3 ≡ bit sr 3 → bit sr' 4 ≡ bit sr 4 → sr' < 0x10000 → ToldAt made answers sp sr gate faulted → ToldAt made answers sp sr' gate faulted
  flagged sr' e e' word t = record {
    told = t.told;
    low = t.low;
    below = t.below;
    even_sp = t.even_sp;
    awake = e' ∙ t.awake;
    word = word;
    going = t.going;
    closed = λ h. (e ∙ (t.closed h).0, (t.closed h).1);
    depth = t.depth;
    inside = λ h. (e ∙ (t.inside h).0, (t.inside h).1);
    outside = λ o h. e ∙ t.outside o h;
  }

  -- SP moved
  pub moved : {made : List Action} {answers : List ℕ} {sp : ℕ} {sr : ℕ} {gate : Bool} {faulted : Option ℕ} (sp' : ℕ) → S.c.sp ≤ sp' + S.deep S.root → sp' ≤ S.c.sp → even sp' ≡ sp' → ToldAt made answers sp sr gate faulted → ToldAt made answers sp' sr gate faulted
  moved sp' lo hi ev t = record {
    told = t.told;
    low = lo;
    below = hi;
    even_sp = ev;
    awake = t.awake;
    word = t.word;
    going = t.going;
    closed = t.closed;
    depth = t.depth;
    inside = t.inside;
    outside = t.outside;
  }

  -- an action that opens and closes no atomic statement
  pub did : {made : List Action} {answers : List ℕ} {sp : ℕ} {sr : ℕ} {gate : Bool} {faulted : Option ℕ} (a : Action) (answers' : List ℕ) → ((n : ℕ) × IsPrefixOf (made ++ (a ∷ [])) (act answers' n).actions) → nested 0 (made ++ (a ∷ [])) ≡ nested 0 made → number_of (is_begin a) ≡ 0 → number_of (is_end a) ≡ 0 →
      ToldAt made answers sp sr gate faulted → ToldAt (made ++ (a ∷ [])) answers' sp sr gate faulted
  did {made = made} a answers' told same b e t = record {
    told = told;
    low = t.low;
    below = t.below;
    even_sp = t.even_sp;
    awake = t.awake;
    word = t.word;
    going = t.going;
    closed = t.closed;
    depth = even_plain made a same b e t.depth;
    inside = λ h. t.inside (sym (ap (λ n. nat_lt 0 n) same) ∙ h);
    outside = λ o h. t.outside o (sym (ap (λ n. nat_lt 0 n) same) ∙ h);
  }

  -- the call a is at an instruction
  pub record Here (a : Activation) (rest : List Activation) (v : View) : Type 0 where
    pub opens : List ℕ
    pub outer : List (List ℕ)
    pub first : Bool
    pub placed : Placed a opens (bit v.sr 3) first v.sp v.regs v.stack
    pub callers : Callers v.stack first (v.sp + S.own a.f) a.f rest outer
    pub place : a.at < length (fn a).code
    pub pc : v.pc ≡ S.places a.f a.at
    pub reached : Reached S.code S.root (a ∷ rest) (opens ∷ outer) v.made v.answers
    pub nest : nested 0 v.made ≡ total (opens ∷ outer)
    pub told : Told v

  -- the call a begins: its return address stands at SP
  pub record Entering (a : Activation) (rest : List Activation) (v : View) : Type 0 where
    pub outer : List (List ℕ)
    pub function : a.f < length S.code.fns
    pub at : a.at ≡ 0
    pub frame : (o : ℕ) → a.frame o ≡ 0
    pub zero : (w : ℕ) → is_among (fn a).params w ≡ false → a.values w ≡ 0
    pub passed : (w : ℕ) → is_among (fn a).params w ≡ true → (word_in v.stack (v.sp + 2 + 2 * pushed_behind (fn a).params w) ≡ a.values w) × (a.values w < 0x10000)
    pub pc : v.pc ≡ S.entries a.f
    pub callers : Callers v.stack (bit v.sr 3) v.sp a.f rest outer
    pub low : S.c.sp + S.deep a.f ≤ v.sp + S.deep S.root
    pub room : v.sp + 2 + 2 * parameters S.code S.homes S.own S.deep a.f ≤ S.c.sp + 2
    pub reached : Reached S.code S.root (a ∷ rest) ([] ∷ outer) v.made v.answers
    pub nest : nested 0 v.made ≡ total outer
    pub told : Told v

  -- the call a has what its callee gave, in R12 and R13, and stands at its return address, below what it pushed
  pub record Resuming (a : Activation) (rest : List Activation) (v : View) : Type 0 where
    pub opens : List ℕ
    pub outer : List (List ℕ)
    pub first : Bool
    pub words : ℕ
    pub taken : List ℕ
    pub given : List ℕ
    pub before : ℕ → ℕ
    pub values : a.values ≡ put_all before taken given
    pub in_registers : AreIn 12 given v.regs
    pub many : length taken ≡ length given
    pub few : length taken ≤ 2
    pub below : AreBelow (fn a).values taken
    pub placed : Placed (record { f = a.f; at = a.at; values = before; frame = a.frame }) opens (bit v.sr 3) first (v.sp + 2 * words) v.regs v.stack
    pub callers : Callers v.stack first (v.sp + 2 * words + S.own a.f) a.f rest outer
    pub place : a.at < length (fn a).code
    pub stands : PartsStand S.image S.marks S.entries (labels a.f) v.pc (raised (2 * words) ++ takes S.code (S.homes a.f) (S.own a.f) 12 taken) (S.places a.f a.at)
    pub reached : Reached S.code S.root (a ∷ rest) (opens ∷ outer) v.made v.answers
    pub nest : nested 0 v.made ≡ total (opens ∷ outer)
    pub told : Told v
