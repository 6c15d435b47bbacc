-- Depths by ranks: of so many calls in a row, the deepest.
use Rattle.std.proofs.Common.{◌≡◌, ◌⊎◌, inl, inr, ℕ, zero, suc, ◌+◌, ◌<◌, ◌≤◌, List, [], ◌∷◌, length, max, get_or, arith, refl, sym}
use Rattle.std.proofs.lemmas.Bool.{cases_lt}
use Rattle.msp_isa.specs.declared.code.CodeFn.{CodeFn}
use Rattle.msp_layout.specs.Depth.{frame_of, calls_of, Names, IsPath, path_bytes, IsStack, HasNoCycle}
use Rattle.msp_layout.specs.Deep.{HoldsDepths, StackHoldsDepths}

-- a frame, and the deepest of what is called
abbrev over : (ℕ → ℕ) → ℕ → List ℕ → ℕ
over below frame [] = frame
over below frame (g ∷ gs) = max (frame + 2 + below g) (over below frame gs)

frame_le : (below : ℕ → ℕ) (frame : ℕ) (gs : List ℕ) → frame ≤ over below frame gs
frame_le below frame [] = omega arith
frame_le below frame (g ∷ gs) = omega (arith, frame_le below frame gs)

call_le : (below : ℕ → ℕ) (frame : ℕ) (gs : List ℕ) (i : ℕ) → i < length gs → frame + 2 + below (get_or gs i 0) ≤ over below frame gs
call_le below frame [] i lt = absurd (omega arith)
call_le below frame (g ∷ gs) zero lt = omega arith
call_le below frame (g ∷ gs) (suc i) lt = omega (arith, call_le below frame gs i (omega arith))

over_up : (below above : ℕ → ℕ) (frame : ℕ) (gs : List ℕ) → ((g : ℕ) → below g ≤ above g) → over below frame gs ≤ over above frame gs
over_up below above frame [] up = omega arith
over_up below above frame (g ∷ gs) up = omega (arith, up g, over_up below above frame gs up)

-- it is the frame, or that with one of the calls
record IsCall (below : ℕ → ℕ) (frame : ℕ) (gs : List ℕ) (n : ℕ) : Type 0 where
  at : ℕ
  is : at < length gs
  deepest : n ≡ frame + 2 + below (get_or gs at 0)

over_met : (below : ℕ → ℕ) (frame : ℕ) (gs : List ℕ) → (over below frame gs ≡ frame) ⊎ IsCall below frame gs (over below frame gs)
over_met below frame [] = inl refl
over_met below frame (g ∷ gs) = go (cases_lt (frame + 2 + below g) (over below frame gs)) (over_met below frame gs)
  where
    go : (frame + 2 + below g < over below frame gs) ⊎ (over below frame gs ≤ frame + 2 + below g) → (over below frame gs ≡ frame) ⊎ IsCall below frame gs (over below frame gs) →
        (max (frame + 2 + below g) (over below frame gs) ≡ frame) ⊎ IsCall below frame (g ∷ gs) (max (frame + 2 + below g) (over below frame gs))
    go (inr above) rest = inr (record { at = 0; is = omega arith; deepest = omega arith })
    go (inl less) (inl own) = absurd (omega arith)
    go (inl less) (inr call) = inr (record { at = suc call.at; is = omega (arith, call.is); deepest = omega (arith, call.deepest) })

module _ (code : List CodeFn) where
  abbrev within : ℕ → ℕ → ℕ
  within zero f = frame_of code f
  within (suc n) f = over (within n) (frame_of code f) (calls_of code f)

  one_more : (n f : ℕ) → within n f ≤ within (suc n) f
  one_more zero f = frame_le (within 0) (frame_of code f) (calls_of code f)
  one_more (suc n) f = over_up (within n) (within (suc n)) (frame_of code f) (calls_of code f) (λ g. one_more n g)

  one_turn : (n m f : ℕ) → (n < suc m) ⊎ (suc m ≤ n) → n ≤ suc m → (n ≤ m → within n f ≤ within m f) → within n f ≤ within (suc m) f
  one_turn n m f (inl less) h so = omega (arith, so (omega arith), one_more m f)
  one_turn n m f (inr above) h so = let same : n ≡ suc m = omega arith in rw same (omega arith)

  more : (n m f : ℕ) → n ≤ m → within n f ≤ within m f
  more n zero f h = let same : n ≡ 0 = omega arith in rw same (omega arith)
  more n (suc m) f h = one_turn n m f (cases_lt n (suc m)) h (λ le. more n m f le)

  own_le : (n f : ℕ) → frame_of code f ≤ within n f
  own_le zero f = omega arith
  own_le (suc n) f = frame_le (within n) (frame_of code f) (calls_of code f)

  called_le : (n m f g : ℕ) → m < n → Names (calls_of code f) g → frame_of code f + 2 + within m g ≤ within n f
  called_le zero m f g lt name = absurd (omega arith)
  called_le (suc n) m f g lt name =
      let at_call : frame_of code f + 2 + within n (get_or (calls_of code f) name.0 0) ≤ within (suc n) f = call_le (within n) (frame_of code f) (calls_of code f) name.0 name.1 in
      let there : frame_of code f + 2 + within n g ≤ within (suc n) f = rw name.2 at at_call in
      omega (arith, more m n g (omega arith), there)

  -- a path has these bytes
  record IsMet (f n : ℕ) : Type 0 where
    path : List ℕ
    is_path : IsPath code f path
    met : path_bytes code f path ≡ n

  over_path : (below : ℕ → ℕ) (f n : ℕ) → ((g : ℕ) → IsMet g (below g)) → (n ≡ frame_of code f) ⊎ IsCall below (frame_of code f) (calls_of code f) n → IsMet f n
  over_path below f n so (inl own) = record { path = []; is_path = tt; met = sym own }
  over_path below f n so (inr call) =
      let rest = so (get_or (calls_of code f) call.at 0) in
      record { path = get_or (calls_of code f) call.at 0 ∷ rest.path; is_path = ((call.at, call.is, refl), rest.is_path); met = omega (arith, rest.met, call.deepest) }

  within_met : (n f : ℕ) → IsMet f (within n f)
  within_met zero f = record { path = []; is_path = tt; met = refl }
  within_met (suc n) f = over_path (within n) f (within (suc n) f) (λ g. within_met n g) (over_met (within n) (frame_of code f) (calls_of code f))

module _ (code : List CodeFn) (lines : List ℕ) (reset stack : ℕ) (none : HasNoCycle code) (is : IsStack code lines reset stack) where
  abbrev deep : ℕ → ℕ
  deep f = within code (none.0 f) f

  from_reset : deep reset ≤ is.base
  from_reset = let m = within_met code (none.0 reset) reset in omega (arith, is.from_reset.bound reset m.path refl m.is_path, m.met)

  from_line : (line : ℕ) → Names lines line → deep line ≤ is.handlers
  from_line line name = let m = within_met code (none.0 line) line in omega (arith, is.from_lines.bound line m.path name m.is_path, m.met)

  holds_depths : HoldsDepths code lines reset stack
  holds_depths = record {
    deep = deep;
    depths = record { least = λ f. own_le code (none.0 f) f; calls = λ f g lt name. called_le code (none.0 f) (none.0 g) f g (none.1 f g lt name) name };
    holds = λ line name. omega (arith, from_reset, from_line line name, is.both);
  }

pub stack_holds_depths : StackHoldsDepths
stack_holds_depths code lines reset stack none is = holds_depths code lines reset stack none is
