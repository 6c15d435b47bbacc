-- Bounds of frames, and the calls of selected functions.
use Rattle.std.proofs.Common.{◌≡◌, ℕ, zero, suc, ◌*◌, ◌/◌, ◌≤◌, ◌==◌, Bool, true, false, cond, nat_lt, List, [], ◌∷◌, ◌++◌, length, refl, sym, ap, ◌∙◌, arith}
use Rattle.std.proofs.lemmas.List.{map-append}
use Rattle.msp_isa.specs.declared.code.Item.{Item}
use Rattle.msp_isa.specs.declared.code.Item.TheVariants as item
use Rattle.msp_isa.specs.declared.instr.Instr.TheVariants as instr
use Rattle.msp_isa.specs.declared.instr.Op2.TheVariants as op2
use Rattle.msp_isa.specs.declared.instr.Operand.TheVariants.{Reg}
use Rattle.mid_code.specs.declared.code.MidCode.{MidCode}
use Rattle.mid_code.specs.declared.instr.Mid.{Mid}
use Rattle.mid_code.specs.declared.instr.Mid.TheVariants.{Set, Move, Bin, Carry, Load, Store, Peek, Poke, In, Out, Label, Jump, Branch, Call, Help, Ret, Begin, End, Post, Tick, Fault}
use Rattle.mid_code.specs.declared.instr.Op.TheVariants as op
use Rattle.mid_code.specs.Machine.{fn_of}
use Rattle.msp_select.proofs.Bounds.{frames_are_small}
use Rattle.open_law.specs.Homes.{Home, Of, literal, operand_of}
use Rattle.msp_select.specs.Frames.{count_pushed, frame_home, is_among, own_bytes, pushed}
use Rattle.msp_select.specs.Select.{Part, entry_of, fetched, gives, is_turned, items_of, parts_of, parts_of_all, moving, operator, plain, pushes, raised, return, routine_of, scratch, stored, taken_by, takes, two, zero_loop, zeros}
use Rattle.select_emitter.specs.Code.{called, fn_items}
use Rattle.select_emitter.specs.Laws.{CallsStay, FramesAreBounded, LinksStay, callees, links, links_of}
use Rattle.select_emitter.proofs.Fitting.{own_params}

few_pushed : (ps : List ℕ) → count_pushed ps ≤ length ps
few_pushed [] = omega arith
few_pushed (p ∷ ps) = by (is_among ps p) (few_pushed ps)
  where
    by : (b : Bool) → count_pushed ps ≤ length ps → cond b (count_pushed ps) (suc (count_pushed ps)) ≤ suc (length ps)
    by true h = omega (arith, h)
    by false h = omega (arith, h)

pub frames_are_bounded : FramesAreBounded
frames_are_bounded c can f lt =
    let fn = fn_of c f in
    let few = few_pushed fn.params in
    record { sum = frames_are_small fn (own_params c can f lt); parts = omega (arith, few) }

-- ---- labels, jumps and calls

links_on : (xs ys : List Item) → links (xs ++ ys) ≡ links xs ++ links ys
links_on [] ys = refl
links_on (item.Is i ∷ xs) ys = links_on xs ys
links_on (item.Label l ∷ xs) ys = ap (λ z. item.Label l ∷ z) (links_on xs ys)
links_on (item.Jump j l ∷ xs) ys = ap (λ z. item.Jump j l ∷ z) (links_on xs ys)
links_on (item.CallFn f ∷ xs) ys = ap (λ z. item.CallFn f ∷ z) (links_on xs ys)
links_on (item.AddrOf f r ∷ xs) ys = ap (λ z. item.AddrOf f r ∷ z) (links_on xs ys)

parts_on : (xs ys : List Part) → links (items_of (xs ++ ys)) ≡ links (items_of xs) ++ links (items_of ys)
parts_on xs ys = ap links (map-append (λ (p : Part). p.item) xs ys) ∙ links_on (items_of xs) (items_of ys)

none_first : (xs ys : List Part) → links (items_of xs) ≡ [] → links (items_of (xs ++ ys)) ≡ links (items_of ys)
none_first xs ys e = parts_on xs ys ∙ ap (λ l. l ++ links (items_of ys)) e

zeros_none : (n : ℕ) → links (items_of (zeros n)) ≡ []
zeros_none zero = refl
zeros_none (suc n) = zeros_none n

entry_none : (own : ℕ) → links (items_of (entry_of own)) ≡ []
entry_none own = by (nat_lt (own / 2) 6)
  where
    by : (b : Bool) → links (items_of (cond b (zeros (own / 2)) (zero_loop (own / 2)))) ≡ []
    by true = zeros_none (own / 2)
    by false = refl

raised_none : (n : ℕ) → links (items_of (raised n)) ≡ []
raised_none n = by (n == 0)
  where
    by : (b : Bool) → links (items_of (cond b [] (plain (instr.Two op2.Add false (operand_of (literal n)) (Reg 1)) ∷ []))) ≡ []
    by true = refl
    by false = refl

module _ (c : MidCode) (home : ℕ → Home) (own : ℕ) where
  pushes_none : (k : ℕ) (xs : List ℕ) → links (items_of (pushes c home own k xs)) ≡ []
  pushes_none k [] = refl
  pushes_none k (x ∷ xs) = pushes_none (suc k) xs

  gives_none : (r : ℕ) (xs : List ℕ) → links (items_of (gives c home own r xs)) ≡ []
  gives_none r [] = refl
  gives_none r (x ∷ xs) = gives_none (suc r) xs

  takes_none : (r : ℕ) (xs : List ℕ) → links (items_of (takes c home own r xs)) ≡ []
  takes_none r [] = refl
  takes_none r (x ∷ xs) = takes_none (suc r) xs

  fetched_none : (w : Bool) (v : ℕ) → links (items_of (fetched c home own w v)) ≡ []
  fetched_none true v = refl
  fetched_none false v = refl

  stored_none : (w : Bool) (v : ℕ) → links (items_of (stored c home own w v)) ≡ []
  stored_none true v = refl
  stored_none false v = refl

  one_calls : (i : Mid) → links (items_of (parts_of c home own i)) ≡ links_of (length c.fns) (i ∷ [])
  one_calls (Set v n) = refl
  one_calls (Move v x) = refl
  one_calls (Bin o v x y) = by (v == x)
    where
      by : (b : Bool) → links (items_of (cond b (two (operator o) (Of (home y)) (home v) ∷ []) (moving (Of (home x)) scratch ∷ two (operator o) (Of (home y)) scratch ∷ moving (Of scratch) (home v) ∷ []))) ≡ []
      by true = refl
      by false = refl
  one_calls (Carry op.Add v x y) = refl
  one_calls (Carry op.Sub v x y) = refl
  one_calls (Carry op.And v x y) = refl
  one_calls (Carry op.Or v x y) = refl
  one_calls (Carry op.Xor v x y) = refl
  one_calls (Load w v x) = fetched_none w v
  one_calls (Store w v x) = stored_none w v
  one_calls (Peek w v x) = fetched_none w v
  one_calls (Poke w v x) = stored_none w v
  one_calls (In v port) = refl
  one_calls (Out port v) = refl
  one_calls (Label l) = refl
  one_calls (Jump l) = refl
  one_calls (Branch t x y l) = by (is_turned t)
    where
      by : (b : Bool) → links ((cond b (two op2.Cmp (Of (home x)) (home y)) (two op2.Cmp (Of (home y)) (home x))).item ∷ item.Jump (taken_by t) l ∷ []) ≡ item.Jump (taken_by t) l ∷ []
      by true = refl
      by false = refl
  one_calls (Call g ins outs) =
      none_first (pushes c home own 0 (pushed (fn_of c g).params ins)) _ (pushes_none 0 (pushed (fn_of c g).params ins))
      ∙ ap (λ l. item.CallFn g ∷ l) (none_first (raised (2 * count_pushed (fn_of c g).params)) (takes c home own 12 outs) (raised_none (2 * count_pushed (fn_of c g).params)) ∙ takes_none 12 outs)
  one_calls (Help h ins outs) = none_first (gives c home own 12 ins) _ (gives_none 12 ins) ∙ ap (λ l. item.CallFn (routine_of (length c.fns) h) ∷ l) (takes_none 12 outs)
  one_calls (Ret vs) = none_first (gives c home own 12 vs) (raised own ++ return ∷ []) (gives_none 12 vs) ∙ none_first (raised own) (return ∷ []) (raised_none own)
  one_calls (Begin o) = refl
  one_calls (End o) = refl
  one_calls (Post k v) = refl
  one_calls Tick = refl
  one_calls (Fault n) = refl

  links_next : (i : Mid) (is : List Mid) → links_of (length c.fns) (i ∷ is) ≡ links_of (length c.fns) (i ∷ []) ++ links_of (length c.fns) is
  links_next (Set v n) is = refl
  links_next (Move v x) is = refl
  links_next (Bin o v x y) is = refl
  links_next (Carry o v x y) is = refl
  links_next (Load w v x) is = refl
  links_next (Store w v x) is = refl
  links_next (Peek w v x) is = refl
  links_next (Poke w v x) is = refl
  links_next (In v port) is = refl
  links_next (Out port v) is = refl
  links_next (Label l) is = refl
  links_next (Jump l) is = refl
  links_next (Branch t x y l) is = refl
  links_next (Call g ins outs) is = refl
  links_next (Help h ins outs) is = refl
  links_next (Ret vs) is = refl
  links_next (Begin o) is = refl
  links_next (End o) is = refl
  links_next (Post k v) is = refl
  links_next Tick is = refl
  links_next (Fault n) is = refl

  all_calls : (is : List Mid) → links (items_of (parts_of_all c home own is)) ≡ links_of (length c.fns) is
  all_calls [] = refl
  all_calls (i ∷ is) =
      parts_on (parts_of c home own i) (parts_of_all c home own is)
      ∙ ap (λ l. l ++ links (items_of (parts_of_all c home own is))) (one_calls i)
      ∙ ap (λ l. links_of (length c.fns) (i ∷ []) ++ l) (all_calls is)
      ∙ sym (links_next i is)

pub links_stay : LinksStay
links_stay c fn =
    none_first (entry_of (own_bytes fn)) (parts_of_all c (frame_home fn) (own_bytes fn) fn.code) (entry_none (own_bytes fn)) ∙ all_calls c (frame_home fn) (own_bytes fn) fn.code

-- ---- calls alone

called_links : (xs : List Item) → called xs ≡ called (links xs)
called_links [] = refl
called_links (item.Is i ∷ xs) = called_links xs
called_links (item.Label l ∷ xs) = called_links xs
called_links (item.Jump j l ∷ xs) = called_links xs
called_links (item.CallFn f ∷ xs) = ap (λ l. f ∷ l) (called_links xs)
called_links (item.AddrOf f r ∷ xs) = called_links xs

callees_links : (fns : ℕ) (is : List Mid) → called (links_of fns is) ≡ callees fns is
callees_links fns [] = refl
callees_links fns (Set v n ∷ is) = callees_links fns is
callees_links fns (Move v x ∷ is) = callees_links fns is
callees_links fns (Bin o v x y ∷ is) = callees_links fns is
callees_links fns (Carry o v x y ∷ is) = callees_links fns is
callees_links fns (Load w v x ∷ is) = callees_links fns is
callees_links fns (Store w v x ∷ is) = callees_links fns is
callees_links fns (Peek w v x ∷ is) = callees_links fns is
callees_links fns (Poke w v x ∷ is) = callees_links fns is
callees_links fns (In v port ∷ is) = callees_links fns is
callees_links fns (Out port v ∷ is) = callees_links fns is
callees_links fns (Label l ∷ is) = callees_links fns is
callees_links fns (Jump l ∷ is) = callees_links fns is
callees_links fns (Branch t x y l ∷ is) = callees_links fns is
callees_links fns (Ret vs ∷ is) = callees_links fns is
callees_links fns (Begin o ∷ is) = callees_links fns is
callees_links fns (End o ∷ is) = callees_links fns is
callees_links fns (Post k v ∷ is) = callees_links fns is
callees_links fns (Tick ∷ is) = callees_links fns is
callees_links fns (Fault n ∷ is) = callees_links fns is
callees_links fns (Call g ins outs ∷ is) = ap (λ l. g ∷ l) (callees_links fns is)
callees_links fns (Help h ins outs ∷ is) = ap (λ l. routine_of fns h ∷ l) (callees_links fns is)

pub calls_stay : CallsStay
calls_stay c fn = called_links (fn_items c fn) ∙ ap called (links_stay c fn) ∙ callees_links (length c.fns) fn.code
