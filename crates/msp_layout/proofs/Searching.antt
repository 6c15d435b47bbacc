-- What a step of the search does to what is known.
use Rattle.std.proofs.Common.{◌≡◌, ◌≢◌, ◌⊎◌, inl, inr, ℕ, zero, suc, ◌+◌, ◌-◌, ◌<◌, ◌≤◌, List, [], ◌∷◌, ◌++◌, length, set, take, get_or, arith, sym, ap, ◌∙◌, get_or-set_other, get_or-set_same, length-set, Some}
use Rattle.std.proofs.lemmas.Bool.{cases_lt, cases_eq}
use Rattle.std.proofs.lemmas.Option.{get_or_from_slice_get, slice_get_within}
use Rattle.std.specs.List.{slice_get}
use Rattle.std.proofs.lemmas.List.{get_or_default, get_or_append_left, get_or-append-add, length-append, get_or-take, length-take-le}
use Rattle.msp_isa.specs.declared.code.CodeFn.{CodeFn}
use Rattle.msp_isa.specs.Stands.{no_code}
use Rattle.msp_layout.specs.Depth.{calls_of, Names, IsRank}
use Rattle.msp_layout.specs.declared.depth.Visit.{Visit}
use Rattle.msp_layout.specs.declared.depth.Visit.TheVariants.{New, Open, Done}
use Rattle.msp_layout.specs.Search.{HasDepth, IsSearch, IsNew, IsDone, IsBegun, visit_at, depth_of, call_at, steps_of, steps_left}

-- the visits after one is written
at_same : (visits : List Visit) (f : ℕ) (v : Visit) → f < length visits → visit_at (set visits f v) f ≡ v
at_same visits f v lt = get_or-set_same visits f v New lt

at_other : (visits : List Visit) (f : ℕ) (v : Visit) (g : ℕ) → g ≢ f → visit_at (set visits f v) g ≡ visit_at visits g
at_other visits f v g ne = get_or-set_other visits f g v New ne

-- what was done stays done, where no function that was done is written, or where what is written is done
still_done : (visits : List Visit) (f : ℕ) (v : Visit) (g : ℕ) → f < length visits → (IsDone (visit_at visits f) → IsDone v) → IsDone (visit_at visits g) → IsDone (visit_at (set visits f v) g)
still_done visits f v g lt back d = go (cases_eq g f)
  where
    go : (g ≡ f) ⊎ (g ≢ f) → IsDone (visit_at (set visits f v) g)
    go (inl e) = rw (e, at_same visits f v lt) (back (rw e at d))
    go (inr ne) = rw (at_other visits f v g ne) d

last_read : (trail : List ℕ) (f : ℕ) → get_or (trail ++ f ∷ []) (length trail) 0 ≡ f
last_read trail f = ap (λ (k : ℕ). get_or (trail ++ f ∷ []) k 0) (plus_zero (length trail)) ∙ get_or-append-add trail (f ∷ []) 0 0
  where
    plus_zero : (n : ℕ) → n ≡ n + 0
    plus_zero n = omega arith

new_is_not_done : (v : Visit) → IsNew v → IsDone v → ⊥
new_is_not_done New n d = d
new_is_not_done (Open k) n d = n
new_is_not_done (Done k) n d = n

open_is_not_done : (v : Visit) (k : ℕ) → v ≡ Open k → IsDone v → ⊥
open_is_not_done v k e d = rw e at d

-- a function is begun
module _ (code : List CodeFn) (visits : List Visit) (trail : List ℕ) (f : ℕ) (s : IsSearch code visits trail) (lt : f < length code) (new : IsNew (visit_at visits f))
    (called : (rank : ℕ → ℕ) → IsRank code rank → (i : ℕ) → i < length trail → rank f < rank (get_or trail i 0)) where
  fits : f < length visits
  fits = omega (arith, s.len)

  done_begin : (g : ℕ) → IsDone (visit_at (set visits f (Open 0)) g) → HasDepth code (λ h. h ≡ g) (depth_of (visit_at (set visits f (Open 0)) g))
  done_begin g d = go (cases_eq g f)
    where
      go : (g ≡ f) ⊎ (g ≢ f) → HasDepth code (λ h. h ≡ g) (depth_of (visit_at (set visits f (Open 0)) g))
      go (inl e) = absurd (rw (e, at_same visits f (Open 0) (omega (arith, s.len))) at d)
      go (inr ne) = let o = at_other visits f (Open 0) g ne in rw o (s.done g (rw o at d))

  looked_begin : (g next : ℕ) → visit_at (set visits f (Open 0)) g ≡ Open next → (next ≤ length (calls_of code g)) × ((i : ℕ) → i < next → IsDone (visit_at (set visits f (Open 0)) (call_at code g i)))
  looked_begin g next e = go (cases_eq g f)
    where
      go : (g ≡ f) ⊎ (g ≢ f) → (next ≤ length (calls_of code g)) × ((i : ℕ) → i < next → IsDone (visit_at (set visits f (Open 0)) (call_at code g i)))
      go (inl h) =
          let k = rw (h, at_same visits f (Open 0) (omega (arith, s.len))) at e in
          let zero_next : 0 ≡ next = cc in
          (omega arith, λ i below. absurd (omega arith))
      go (inr ne) =
          let l = s.looked g next (sym (at_other visits f (Open 0) g ne) ∙ e) in
          (l.0, λ i below. still_done visits f (Open 0) (call_at code g i) (omega (arith, s.len)) (λ d. absurd (new_is_not_done (visit_at visits f) new d)) (l.1 i below))

  open_begin : (g : ℕ) → ((next : ℕ) × (visit_at visits g ≡ Open next)) → (next : ℕ) × (visit_at (set visits f (Open 0)) g ≡ Open next)
  open_begin g was = go (cases_eq g f)
    where
      go : (g ≡ f) ⊎ (g ≢ f) → (next : ℕ) × (visit_at (set visits f (Open 0)) g ≡ Open next)
      go (inl h) = (0, rw h (at_same visits f (Open 0) (omega (arith, s.len))))
      go (inr ne) = (was.0, at_other visits f (Open 0) g ne ∙ was.1)

  begun_begin : (j : ℕ) → j < length (trail ++ f ∷ []) → (get_or (trail ++ f ∷ []) j 0 < length code) × ((next : ℕ) × (visit_at (set visits f (Open 0)) (get_or (trail ++ f ∷ []) j 0) ≡ Open next))
  begun_begin j below = go (cases_lt j (length trail))
    where
      go : (j < length trail) ⊎ (length trail ≤ j) → (get_or (trail ++ f ∷ []) j 0 < length code) × ((next : ℕ) × (visit_at (set visits f (Open 0)) (get_or (trail ++ f ∷ []) j 0) ≡ Open next))
      go (inl h) = rw (get_or_append_left trail (f ∷ []) 0 j h) ((s.begun j h).0, open_begin (get_or trail j 0) (s.begun j h).1)
      go (inr h) =
          let e : j ≡ length trail = omega (arith, length-append trail (f ∷ [])) in
          rw (e, last_read trail f) (lt, (0, at_same visits f (Open 0) (omega (arith, s.len))))

  stacked_begin : (g next : ℕ) → visit_at (set visits f (Open 0)) g ≡ Open next → (j : ℕ) × (j < length (trail ++ f ∷ [])) × (get_or (trail ++ f ∷ []) j 0 ≡ g)
  stacked_begin g next e = go (cases_eq g f)
    where
      go : (g ≡ f) ⊎ (g ≢ f) → (j : ℕ) × (j < length (trail ++ f ∷ [])) × (get_or (trail ++ f ∷ []) j 0 ≡ g)
      go (inl h) = (length trail, omega (arith, length-append trail (f ∷ [])), last_read trail f ∙ sym h)
      go (inr ne) =
          let at = s.stacked g next (sym (at_other visits f (Open 0) g ne) ∙ e) in
          (at.0, omega (arith, length-append trail (f ∷ []), at.1), get_or_append_left trail (f ∷ []) 0 at.0 at.1 ∙ at.2)

  falls_begin : (rank : ℕ → ℕ) → IsRank code rank → (i j : ℕ) → i < j → j < length (trail ++ f ∷ []) → rank (get_or (trail ++ f ∷ []) j 0) < rank (get_or (trail ++ f ∷ []) i 0)
  falls_begin rank r i j less below = go (cases_lt j (length trail))
    where
      go : (j < length trail) ⊎ (length trail ≤ j) → rank (get_or (trail ++ f ∷ []) j 0) < rank (get_or (trail ++ f ∷ []) i 0)
      go (inl h) = rw (get_or_append_left trail (f ∷ []) 0 j h, get_or_append_left trail (f ∷ []) 0 i (omega arith)) (s.falls rank r i j less h)
      go (inr h) =
          let e : j ≡ length trail = omega (arith, length-append trail (f ∷ [])) in
          rw (e, last_read trail f, get_or_append_left trail (f ∷ []) 0 i (omega arith)) (called rank r i (omega arith))

  pub begins : IsSearch code (set visits f (Open 0)) (trail ++ f ∷ [])
  begins = record {
    len = rw length-set s.len;
    done = done_begin;
    looked = looked_begin;
    begun = begun_begin;
    stacked = stacked_begin;
    falls = falls_begin;
  }

-- the function begun last is behind its calls
module _ (code : List CodeFn) (visits : List Visit) (trail : List ℕ) (top k n : ℕ) (s : IsSearch code visits trail) (some : 0 < length trail) (is_top : top ≡ get_or trail (length trail - 1) 0) (is_open : visit_at visits top ≡ Open k)
    (depth : HasDepth code (λ h. h ≡ top) n) (rank : ℕ → ℕ) (ranks : IsRank code rank) where
  top_fits : top < length visits
  top_fits = rw (is_top, s.len) ((s.begun (length trail - 1) (omega arith)).0)

  done_leave : (g : ℕ) → IsDone (visit_at (set visits top (Done n)) g) → HasDepth code (λ h. h ≡ g) (depth_of (visit_at (set visits top (Done n)) g))
  done_leave g d = go (cases_eq g top)
    where
      go : (g ≡ top) ⊎ (g ≢ top) → HasDepth code (λ h. h ≡ g) (depth_of (visit_at (set visits top (Done n)) g))
      go (inl e) = rw (e, at_same visits top (Done n) top_fits) depth
      go (inr ne) = let o = at_other visits top (Done n) g ne in rw o (s.done g (rw o at d))

  not_top : (g next : ℕ) → visit_at (set visits top (Done n)) g ≡ Open next → g ≢ top
  not_top g next e h = let w = rw (h, at_same visits top (Done n) top_fits) at e in cc

  looked_leave : (g next : ℕ) → visit_at (set visits top (Done n)) g ≡ Open next → (next ≤ length (calls_of code g)) × ((i : ℕ) → i < next → IsDone (visit_at (set visits top (Done n)) (call_at code g i)))
  looked_leave g next e =
      let l = s.looked g next (sym (at_other visits top (Done n) g (not_top g next e)) ∙ e) in
      (l.0, λ i below. still_done visits top (Done n) (call_at code g i) top_fits (λ d. tt) (l.1 i below))

  kept : (j : ℕ) → j < length trail - 1 → get_or (take (length trail - 1) trail) j 0 ≡ get_or trail j 0
  kept j h = get_or-take (length trail - 1) trail j 0 h

  shorter : length (take (length trail - 1) trail) ≡ length trail - 1
  shorter = length-take-le (length trail - 1) trail (omega arith)

  begun_leave : (j : ℕ) → j < length (take (length trail - 1) trail) → (get_or (take (length trail - 1) trail) j 0 < length code) × ((next : ℕ) × (visit_at (set visits top (Done n)) (get_or (take (length trail - 1) trail) j 0) ≡ Open next))
  begun_leave j below =
      let h : j < length trail - 1 = omega (arith, shorter) in
      let b = s.begun j (omega arith) in
      let apart : get_or trail j 0 ≢ top = λ e. let f : rank (get_or trail (length trail - 1) 0) < rank (get_or trail j 0) = s.falls rank ranks j (length trail - 1) h (omega arith) in let a : rank top ≡ rank (get_or trail (length trail - 1) 0) = ap rank is_top in let g : rank (get_or trail j 0) ≡ rank top = ap rank e in omega arith in
      rw (kept j h) (b.0, (b.1.0, at_other visits top (Done n) (get_or trail j 0) apart ∙ b.1.1))

  stacked_leave : (g next : ℕ) → visit_at (set visits top (Done n)) g ≡ Open next → (j : ℕ) × (j < length (take (length trail - 1) trail)) × (get_or (take (length trail - 1) trail) j 0 ≡ g)
  stacked_leave g next e =
      let ne : g ≢ top = not_top g next e in
      let at = s.stacked g next (sym (at_other visits top (Done n) g ne) ∙ e) in
      let apart : at.0 ≢ length trail - 1 = λ h. ne (sym at.2 ∙ ap (λ (i : ℕ). get_or trail i 0) h ∙ sym is_top) in
      let h : at.0 < length trail - 1 = omega (arith, at.1) in
      (at.0, omega (arith, shorter), kept at.0 h ∙ at.2)

  falls_leave : (r : ℕ → ℕ) → IsRank code r → (i j : ℕ) → i < j → j < length (take (length trail - 1) trail) → r (get_or (take (length trail - 1) trail) j 0) < r (get_or (take (length trail - 1) trail) i 0)
  falls_leave r is i j less below =
      let h : j < length trail - 1 = omega (arith, shorter) in
      rw (kept j h, kept i (omega arith)) (s.falls r is i j less (omega arith))

  pub leaves : IsSearch code (set visits top (Done n)) (take (length trail - 1) trail)
  leaves = record {
    len = rw length-set s.len;
    done = done_leave;
    looked = looked_leave;
    begun = begun_leave;
    stacked = stacked_leave;
    falls = falls_leave;
  }

-- the function begun last is behind one call more, which is done
module _ (code : List CodeFn) (visits : List Visit) (trail : List ℕ) (top k : ℕ) (s : IsSearch code visits trail) (within : top < length code) (is_open : visit_at visits top ≡ Open k)
    (less : k < length (calls_of code top)) (called : IsDone (visit_at visits (call_at code top k))) where
  keeps : (g : ℕ) → IsDone (visit_at visits g) → IsDone (visit_at (set visits top (Open (k + 1))) g)
  keeps g d = still_done visits top (Open (k + 1)) g (omega (arith, s.len)) (λ e. absurd (open_is_not_done (visit_at visits top) k is_open e)) d

  done_next : (g : ℕ) → IsDone (visit_at (set visits top (Open (k + 1))) g) → HasDepth code (λ h. h ≡ g) (depth_of (visit_at (set visits top (Open (k + 1))) g))
  done_next g d = go (cases_eq g top)
    where
      go : (g ≡ top) ⊎ (g ≢ top) → HasDepth code (λ h. h ≡ g) (depth_of (visit_at (set visits top (Open (k + 1))) g))
      go (inl e) = absurd (rw (e, at_same visits top (Open (k + 1)) (omega (arith, s.len))) at d)
      go (inr ne) = let o = at_other visits top (Open (k + 1)) g ne in rw o (s.done g (rw o at d))

  looked_next : (g next : ℕ) → visit_at (set visits top (Open (k + 1))) g ≡ Open next → (next ≤ length (calls_of code g)) × ((i : ℕ) → i < next → IsDone (visit_at (set visits top (Open (k + 1))) (call_at code g i)))
  looked_next g next e = go (cases_eq g top)
    where
      go : (g ≡ top) ⊎ (g ≢ top) → (next ≤ length (calls_of code g)) × ((i : ℕ) → i < next → IsDone (visit_at (set visits top (Open (k + 1))) (call_at code g i)))
      go (inl h) =
          let w = rw (h, at_same visits top (Open (k + 1)) (omega (arith, s.len))) at e in
          let n : k + 1 ≡ next = cc in
          rw h (omega arith, λ i below. each i (cases_lt i k) (omega arith))
        where
          each : (i : ℕ) → (i < k) ⊎ (k ≤ i) → i < k + 1 → IsDone (visit_at (set visits top (Open (k + 1))) (call_at code top i))
          each i (inl h) below = keeps (call_at code top i) ((s.looked top k is_open).1 i h)
          each i (inr h) below = let e : i ≡ k = omega arith in rw e (keeps (call_at code top k) called)
      go (inr ne) =
          let l = s.looked g next (sym (at_other visits top (Open (k + 1)) g ne) ∙ e) in
          (l.0, λ i below. keeps (call_at code g i) (l.1 i below))

  open_next : (g : ℕ) → ((next : ℕ) × (visit_at visits g ≡ Open next)) → (next : ℕ) × (visit_at (set visits top (Open (k + 1))) g ≡ Open next)
  open_next g was = go (cases_eq g top)
    where
      go : (g ≡ top) ⊎ (g ≢ top) → (next : ℕ) × (visit_at (set visits top (Open (k + 1))) g ≡ Open next)
      go (inl h) = (k + 1, rw h (at_same visits top (Open (k + 1)) (omega (arith, s.len))))
      go (inr ne) = (was.0, at_other visits top (Open (k + 1)) g ne ∙ was.1)

  was_open : (g next : ℕ) → visit_at (set visits top (Open (k + 1))) g ≡ Open next → (n : ℕ) × (visit_at visits g ≡ Open n)
  was_open g next e = go (cases_eq g top)
    where
      go : (g ≡ top) ⊎ (g ≢ top) → (n : ℕ) × (visit_at visits g ≡ Open n)
      go (inl h) = (k, rw h is_open)
      go (inr ne) = (next, sym (at_other visits top (Open (k + 1)) g ne) ∙ e)

  pub advances : IsSearch code (set visits top (Open (k + 1))) trail
  advances = record {
    len = rw length-set s.len;
    done = done_next;
    looked = looked_next;
    begun = λ j below. ((s.begun j below).0, open_next (get_or trail j 0) (s.begun j below).1);
    stacked = λ g next e. let w = was_open g next e in s.stacked g w.0 w.1;
    falls = s.falls;
  }

-- the steps that are left
pub steps_set : (code : List CodeFn) (visits : List Visit) (f : ℕ) (v : Visit) → f < length code → length visits ≡ length code →
    steps_left code (set visits f v) + steps_of (get_or code f no_code) (visit_at visits f) ≡ steps_left code visits + steps_of (get_or code f no_code) v
steps_set [] visits f v lt len = absurd (omega arith)
steps_set (x ∷ code) [] f v lt len = absurd (omega arith)
steps_set (x ∷ code) (w ∷ visits) zero v lt len = swapped (steps_of x v) (steps_of x w) (steps_left code visits)
  where
    swapped : (a b n : ℕ) → (a + n) + b ≡ (b + n) + a
    swapped a b n = omega arith
steps_set (x ∷ code) (w ∷ visits) (suc f) v lt len = behind (steps_of x w) _ _ _ _ (steps_set code visits f v (omega arith) (omega arith))
  where
    behind : (x a b c d : ℕ) → a + b ≡ c + d → (x + a) + b ≡ (x + c) + d
    behind x a b c d h = omega arith

new_steps : (x : CodeFn) (v : Visit) → IsNew v → steps_of x (Open 0) < steps_of x v
new_steps x New n = omega arith
new_steps x (Open k) n = absurd n
new_steps x (Done k) n = absurd n

less_by : (a b c d : ℕ) → a + b ≡ c + d → d < b → a < c
less_by a b c d e h = omega arith

pub fewer_begun : (code : List CodeFn) (visits : List Visit) (f : ℕ) → f < length code → length visits ≡ length code → IsNew (visit_at visits f) → steps_left code (set visits f (Open 0)) < steps_left code visits
fewer_begun code visits f lt len new = less_by _ _ _ _ (steps_set code visits f (Open 0) lt len) (new_steps (get_or code f no_code) (visit_at visits f) new)

pub fewer_next : (code : List CodeFn) (visits : List Visit) (f k : ℕ) → f < length code → length visits ≡ length code → visit_at visits f ≡ Open k → k < length (calls_of code f) → steps_left code (set visits f (Open (k + 1))) < steps_left code visits
fewer_next code visits f k lt len e h =
    let s = rw e at (steps_set code visits f (Open (k + 1)) lt len) in
    less_by _ _ _ _ s (omega arith)

pub fewer_done : (code : List CodeFn) (visits : List Visit) (f k n : ℕ) → f < length code → length visits ≡ length code → visit_at visits f ≡ Open k → k ≤ length (calls_of code f) → steps_left code (set visits f (Done n)) < steps_left code visits
fewer_done code visits f k n lt len e h =
    let s = rw e at (steps_set code visits f (Done n) lt len) in
    less_by _ _ _ _ s (omega arith)

-- the function begun last
pub find_top : (code : List CodeFn) (visits : List Visit) (trail ys : List ℕ) (top : ℕ) → IsSearch code visits trail → ys ≡ trail → slice_get ys (length ys - 1) ≡ Some top → (0 < length trail) × (top ≡ get_or trail (length trail - 1) 0) × (top < length code)
find_top code visits trail ys top s e got =
    let here = rw e at got in
    let lt : length trail - 1 < length trail = slice_get_within trail (length trail - 1) top here in
    let is : get_or trail (length trail - 1) 0 ≡ top = get_or_from_slice_get trail (length trail - 1) top 0 here in
    (omega arith, sym is, rw (← is) ((s.begun (length trail - 1) lt).0))

pub open_read : (visits : List Visit) (top next : ℕ) (v : Visit) → top < length visits → v ≡ get_or visits top v → v ≡ Open next → visit_at visits top ≡ Open next
open_read visits top next v lt e is = get_or_default visits top New v lt ∙ sym e ∙ is

pub calls_read : (code : List CodeFn) (f : ℕ) (x : CodeFn) → f < length code → (get_or code f x).calls ≡ calls_of code f
calls_read code f x lt = ap (λ (g : CodeFn). g.calls) (get_or_default code f x no_code lt)

-- what the function begun last calls has a lower rank than all that are begun
pub below_all : (code : List CodeFn) (visits : List Visit) (trail : List ℕ) (top g : ℕ) (rank : ℕ → ℕ) → IsSearch code visits trail → IsRank code rank → 0 < length trail → top ≡ get_or trail (length trail - 1) 0 → top < length code → Names (calls_of code top) g →
    (i : ℕ) → i < length trail → rank g < rank (get_or trail i 0)
below_all code visits trail top g rank s r some is_top within name i lt = go (cases_lt i (length trail - 1))
  where
    go : (i < length trail - 1) ⊎ (length trail - 1 ≤ i) → rank g < rank (get_or trail i 0)
    go (inl h) =
        let f : rank (get_or trail (length trail - 1) 0) < rank (get_or trail i 0) = s.falls rank r i (length trail - 1) h (omega arith) in
        let e : rank top ≡ rank (get_or trail (length trail - 1) 0) = ap rank is_top in
        let l : rank g < rank top = r top g within name in
        omega arith
    go (inr h) =
        let e : i ≡ length trail - 1 = omega arith in
        let l : rank g < rank top = r top g within name in
        rw (e, ← is_top) l

-- so what it calls is no function that is open
pub done_callee : (code : List CodeFn) (visits : List Visit) (trail : List ℕ) (top g : ℕ) (v : Visit) (rank : ℕ → ℕ) → IsSearch code visits trail → IsRank code rank → 0 < length trail → top ≡ get_or trail (length trail - 1) 0 → top < length code → Names (calls_of code top) g →
    visit_at visits g ≡ v → IsBegun v → IsDone (visit_at visits g)
done_callee code visits trail top g New rank s r some is_top within name e b = absurd b
done_callee code visits trail top g (Done n) rank s r some is_top within name e b = rw e tt
done_callee code visits trail top g (Open next) rank s r some is_top within name e b =
    let at = s.stacked g next e in
    let l : rank g < rank (get_or trail at.0 0) = below_all code visits trail top g rank s r some is_top within name at.0 at.1 in
    let same : rank (get_or trail at.0 0) ≡ rank g = ap rank at.2 in
    absurd (omega arith)
