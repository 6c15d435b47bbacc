-- The functions of bodies can be laid out: their instructions are written forms, their labels stand once, and they call functions that
-- are there, of lower ranks.
use Rattle.std.proofs.Common.{◌≡◌, ◌⊎◌, ℕ, zero, suc, ◌+◌, ◌-◌, ◌<◌, ◌≤◌, Bool, true, false, cond, nat_lt, List, [], ◌∷◌, length, Some, All, refl, sym, ap, subst, ◌∙◌, arith}
use mathlib.Core.Logic.{inl, inr}
use Rattle.std.specs.Prelude.{slice_get, ◌==◌}
use Rattle.std.specs.List.{AllByRecursion}
use Rattle.std.proofs.lemmas.Bool.{cases_lt}
use Rattle.std.proofs.lemmas.Bool.Decides.{nat_tests}
use Rattle.std.proofs.lemmas.List.Elements.{All-get_or, recursion_from_All}
use Rattle.msp_isa.specs.declared.code.Item.{Item}
use Rattle.msp_isa.specs.declared.code.Item.TheVariants as item
use Rattle.msp_isa.specs.declared.instr.Cond.{Cond}
use Rattle.msp_isa.specs.Stands.{item_at}
use Rattle.mid_code.specs.declared.code.MidCode.{MidCode}
use Rattle.mid_code.specs.declared.code.MidFn.{MidFn}
use Rattle.mid_code.specs.declared.instr.Mid.{Mid}
use Rattle.mid_code.specs.declared.instr.Mid.TheVariants.{Set, Move, Bin, Carry, Load, Store, Peek, Poke, In, Out, Label, Jump, Branch, Call, Help, Ret, Begin, End, Post, Tick, Fault}
use Rattle.mid_code.specs.Form.{FitsProgram, HelpFits, IsMidCode, IsMidFn, KindFits, NamesOwn, one_more, times}
use Rattle.mid_code.specs.Help.{first_check}
use Rattle.mid_code.specs.Machine.{fn_of, is_label, no_fn}
use Rattle.lower_stmt.specs.Bounds.{calls_in}
use Rattle.msp_select.specs.Select.{routine_of}
use Rattle.msp_layout.specs.Depth.{Names}
use Rattle.msp_layout.specs.Laid.{IsGoodItem, StandsOnce}
use Rattle.select_emitter.specs.Code.{CanBeSelected, called, fn_items}
use Rattle.select_emitter.specs.Laws.{IsWrittenItem, callees, links, links_of}
use Rattle.select_emitter.proofs.Called.{calls_stay, links_stay}
use Rattle.select_emitter.proofs.Written.{items_are_written}
use Rattle.program_image.proofs.Selected.{operation_there}
use Rattle.image_code.proofs.Labels.{is_label_item, stands_once, times_in}

-- ---- labels are those of the middle code

times_links : (l : ℕ) (is : List Item) → times_in l is ≡ times_in l (links is)
times_links l [] = refl
times_links l (item.Is i ∷ is) = times_links l is
times_links l (item.Label k ∷ is) = ap (one_more (k == l)) (times_links l is)
times_links l (item.Jump c k ∷ is) = times_links l is
times_links l (item.CallFn f ∷ is) = times_links l is
times_links l (item.AddrOf f r ∷ is) = times_links l is

times_linked : (l n : ℕ) (is : List Mid) → times_in l (links_of n is) ≡ times l is
times_linked l n [] = refl
times_linked l n (Label k ∷ is) = ap (one_more (k == l)) (times_linked l n is)
times_linked l n (i ∷ is) = times_linked l n is

-- ---- links of code that keeps the rules of form

-- what a link names is there
abbrev IsGoodLink : (fns : ℕ) (code : List Mid) → Item → Type 0
IsGoodLink fns code (item.Jump c l) = 1 ≤ times l code
IsGoodLink fns code (item.CallFn f) = f < fns
IsGoodLink fns code (item.AddrOf f r) = ⊥
IsGoodLink fns code _ = Unit {0}

by_place : (n checks h ins outs : ℕ) → HelpFits checks h ins outs → (nat_lt h first_check ≡ true) ⊎ (nat_lt h first_check ≡ false) → (n ≤ routine_of n h) × (routine_of n h < n + (48 + checks))
by_place n checks h ins outs fits (inl e) =
    let k : KindFits true checks h ins outs = subst (λ b. KindFits b checks h ins outs) e fits in
    let lt = operation_there h ins outs k in
    let at : routine_of n h ≡ n + h = ap (λ b. cond b (n + h) (n + 48 + (h - first_check))) e in
    (omega (arith, at), omega (arith, at, lt))
by_place n checks h ins outs fits (inr e) =
    let k : KindFits false checks h ins outs = subst (λ b. KindFits b checks h ins outs) e fits in
    let lt = k.0 in
    let at : routine_of n h ≡ n + 48 + (h - first_check) = ap (λ b. cond b (n + h) (n + 48 + (h - first_check))) e in
    (omega (arith, at), omega (arith, at, lt))

either : (b : Bool) → (b ≡ true) ⊎ (b ≡ false)
either true = inl refl
either false = inr refl

pub help_place : (n checks h ins outs : ℕ) → HelpFits checks h ins outs → (n ≤ routine_of n h) × (routine_of n h < n + (48 + checks))
help_place n checks h ins outs fits = by_place n checks h ins outs fits (either (nat_lt h first_check))

module _ (c : MidCode) (gives : ℕ → ℕ) (f fns : ℕ) (room : length c.fns + (48 + length c.checks) ≤ fns) (fn : MidFn) where
  good_links : (is : List Mid) → AllByRecursion (NamesOwn fn) is → AllByRecursion (FitsProgram c gives f) is → AllByRecursion (IsGoodLink fns fn.code) (links_of (length c.fns) is)
  good_links [] names fits = tt
  good_links (Label l ∷ is) names fits = (tt, good_links is names.1 fits.1)
  good_links (Jump l ∷ is) names fits = (names.0.labels 0 0 (omega arith), good_links is names.1 fits.1)
  good_links (Branch t x y l ∷ is) names fits = (names.0.labels 0 0 (omega arith), good_links is names.1 fits.1)
  good_links (Call g ins outs ∷ is) names fits = let lt = fits.0.0 in (omega (arith, lt, room), good_links is names.1 fits.1)
  good_links (Help h ins outs ∷ is) names fits = let at = (help_place (length c.fns) (length c.checks) h (length ins) (length outs) fits.0).1 in (omega (arith, at, room), good_links is names.1 fits.1)
  good_links (i ∷ is) names fits = good_links is names.1 fits.1

-- ---- items, by their links

good_items : (fns : ℕ) (code : List Mid) (is : List Item) → AllByRecursion IsWrittenItem is → AllByRecursion (IsGoodLink fns code) (links is) → AllByRecursion (IsGoodItem fns) is
good_items fns code [] w h = tt
good_items fns code (item.Is i ∷ is) w h = (w.0, good_items fns code is w.1 h)
good_items fns code (item.Label l ∷ is) w h = (tt, good_items fns code is w.1 h.1)
good_items fns code (item.Jump c l ∷ is) w h = (tt, good_items fns code is w.1 h.1)
good_items fns code (item.CallFn f ∷ is) w h = (h.0, good_items fns code is w.1 h.1)
good_items fns code (item.AddrOf f r ∷ is) w h = absurd h.0

named_at : (fns : ℕ) (code : List Mid) (is : List Item) → AllByRecursion (IsGoodLink fns code) (links is) → (k l : ℕ) (c : Cond) → item_at is k ≡ item.Jump c l → 1 ≤ times l code
named_at fns code [] h k l c e = absurd (cc)
named_at fns code (item.Jump d m ∷ is) h zero l c e = subst (IsGoodLink fns code) e h.0
named_at fns code (item.Jump d m ∷ is) h (suc k) l c e = named_at fns code is h.1 k l c e
named_at fns code (item.Is i ∷ is) h zero l c e = absurd (cc)
named_at fns code (item.Is i ∷ is) h (suc k) l c e = named_at fns code is h k l c e
named_at fns code (item.Label m ∷ is) h zero l c e = absurd (cc)
named_at fns code (item.Label m ∷ is) h (suc k) l c e = named_at fns code is h.1 k l c e
named_at fns code (item.CallFn g ∷ is) h zero l c e = absurd (cc)
named_at fns code (item.CallFn g ∷ is) h (suc k) l c e = named_at fns code is h.1 k l c e
named_at fns code (item.AddrOf g r ∷ is) h k l c e = absurd h.0

pub called_there : (fns : ℕ) (is : List Item) → AllByRecursion (IsGoodItem fns) is → AllByRecursion (λ g. g < fns) (called is)
called_there fns [] h = tt
called_there fns (item.CallFn f ∷ is) h = (h.0, called_there fns is h.1)
called_there fns (item.Is i ∷ is) h = called_there fns is h.1
called_there fns (item.Label l ∷ is) h = called_there fns is h.1
called_there fns (item.Jump c l ∷ is) h = called_there fns is h.1
called_there fns (item.AddrOf f r ∷ is) h = called_there fns is h.1

-- ---- a function

pub record IsLaidWell (fns : ℕ) (is : List Item) : Type 0 where
  pub each : AllByRecursion (IsGoodItem fns) is
  pub labels : (k l : ℕ) (c : Cond) → item_at is k ≡ item.Jump c l → StandsOnce is l

exactly : (n m : ℕ) → n ≡ m → 1 ≤ m → m ≤ 1 → n ≡ 1
exactly n m e some few = omega (arith, e, some, few)

pub selected_well : (c : MidCode) (can : CanBeSelected c) (fns : ℕ) → length c.fns + (48 + length c.checks) ≤ fns → (f : ℕ) → f < length c.fns → IsLaidWell fns (fn_items c (fn_of c f))
selected_well c can fns room f lt =
    let fn = fn_of c f in
    let form = can.form in
    let own : IsMidFn fn = All-get_or IsMidFn c.fns f no_fn lt form.fns in
    let links_good : AllByRecursion (IsGoodLink fns fn.code) (links (fn_items c fn)) =
    subst (AllByRecursion (IsGoodLink fns fn.code)) (sym (links_stay c fn))
    (good_links c form.gives f fns room fn fn.code (recursion_from_All (NamesOwn fn) fn.code own.names) (recursion_from_All (FitsProgram c form.gives f) fn.code (form.fits f))) in
    record {
      each = good_items fns fn.code (fn_items c fn) (recursion_from_All IsWrittenItem (fn_items c fn) (items_are_written c can f lt)) links_good;
      labels = λ k l j at.
          stands_once l (fn_items c fn)
          (exactly (times_in l (fn_items c fn)) (times l fn.code) (times_links l (fn_items c fn) ∙ ap (times_in l) (links_stay c fn) ∙ times_linked l (length c.fns) fn.code)
          (named_at fns fn.code (fn_items c fn) links_good k l j at) (own.once l));
    }

-- ---- calls

-- a call stands among the functions called
pub call_named : (n : ℕ) (is : List Mid) (at g : ℕ) (ins outs : List ℕ) → slice_get is at ≡ Some (Call g ins outs) → Names (callees n is) g
call_named n [] at g ins outs e = absurd (cc)
call_named n (Call h xs ys ∷ is) zero g ins outs e = (0, omega arith, (let same : h ≡ g = cc in same))
call_named n (Call h xs ys ∷ is) (suc at) g ins outs e = let r = call_named n is at g ins outs e in (suc r.0, (let lt = r.1 in omega (arith, lt)), r.2)
call_named n (Help h xs ys ∷ is) zero g ins outs e = absurd (cc)
call_named n (Help h xs ys ∷ is) (suc at) g ins outs e = let r = call_named n is at g ins outs e in (suc r.0, (let lt = r.1 in omega (arith, lt)), r.2)
call_named n (i ∷ is) zero g ins outs e = absurd (cc)
call_named n (i ∷ is) (suc at) g ins outs e = call_named n is at g ins outs e

pub help_named : (n : ℕ) (is : List Mid) (at h : ℕ) (ins outs : List ℕ) → slice_get is at ≡ Some (Help h ins outs) → Names (callees n is) (routine_of n h)
help_named n [] at h ins outs e = absurd (cc)
help_named n (Help k xs ys ∷ is) zero h ins outs e = (0, omega arith, (let same : k ≡ h = cc in ap (routine_of n) same))
help_named n (Help k xs ys ∷ is) (suc at) h ins outs e = let r = help_named n is at h ins outs e in (suc r.0, (let lt = r.1 in omega (arith, lt)), r.2)
help_named n (Call g xs ys ∷ is) zero h ins outs e = absurd (cc)
help_named n (Call g xs ys ∷ is) (suc at) h ins outs e = let r = help_named n is at h ins outs e in (suc r.0, (let lt = r.1 in omega (arith, lt)), r.2)
help_named n (i ∷ is) zero h ins outs e = absurd (cc)
help_named n (i ∷ is) (suc at) h ins outs e = help_named n is at h ins outs e

-- what holds of the functions that code calls, and of the places of routines, holds of all that is called
pub callees_are : (Q : ℕ → Type 0) (c : MidCode) (gives : ℕ → ℕ) (f : ℕ) → ((r : ℕ) → length c.fns ≤ r → r < length c.fns + (48 + length c.checks) → Q r) →
    (is : List Mid) → AllByRecursion (FitsProgram c gives f) is → AllByRecursion (λ g. g < length c.fns → Q g) (calls_in is) → AllByRecursion Q (callees (length c.fns) is)
callees_are Q c gives f routine [] fits own = tt
callees_are Q c gives f routine (Call g ins outs ∷ is) fits own = (own.0 fits.0.0, callees_are Q c gives f routine is fits.1 own.1)
callees_are Q c gives f routine (Help h ins outs ∷ is) fits own =
    let at = help_place (length c.fns) (length c.checks) h (length ins) (length outs) fits.0 in (routine (routine_of (length c.fns) h) at.0 at.1, callees_are Q c gives f routine is fits.1 own)
callees_are Q c gives f routine (i ∷ is) fits own = callees_are Q c gives f routine is fits.1 own

pub called_are : (Q : ℕ → Type 0) (c : MidCode) (fn : MidFn) → AllByRecursion Q (callees (length c.fns) fn.code) → AllByRecursion Q (called (fn_items c fn))
called_are Q c fn h = subst (AllByRecursion Q) (sym (calls_stay c fn)) h
