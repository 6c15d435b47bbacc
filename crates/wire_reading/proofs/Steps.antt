-- Readings, one file on.
use Rattle.std.proofs.Common.{◌≡◌, ℕ, zero, suc, ◌+◌, Bool, true, false, List, [], ◌∷◌, ◌++◌, reverse, Result, Ok, Err, refl, ap, ◌∙◌, subst, arith}
use Rattle.std.proofs.lemmas.List.{reverse-append}
use Rattle.nm_base.specs.declared.fault.Fault.{Fault}
use Rattle.wire_reading.specs.declared.opener.Need.{Need}
use Rattle.wire_reading.specs.Order.{Name, Answer, Reader, Goes, Each, Opening, Follows, Opened, Unless, ReadAt, ReadAll, is_known}

module _ {State : Type 0} where
  abbrev Within : Reader State → Reader State → Type 0
  Within one two = (need : Need) (known : List Name) (s : State) (answer : Answer State) → one need known s answer → two need known s answer

  each_within : (one two : Reader State) → Within one two → (needs : List Need) (known : List Name) (s : State) (answer : Answer State) → Each one needs known s answer → Each two needs known s answer
  each_within one two w [] known s answer e = e
  each_within one two w (need ∷ needs) known s answer e = (e.0, w need known s e.0 e.1, goes e.0 (λ k t a. each_within one two w needs k t a) e.2)
    where
      goes : (first : Answer State) → ((k : List Name) (t : State) (a : Answer State) → Each one needs k t a → Each two needs k t a) → Goes (Each one needs) first answer → Goes (Each two needs) first answer
      goes (Ok p) next g = next p.0 p.1 answer g
      goes (Err f) next g = g

  each_split : (one : Reader State) (xs ys : List Need) (known : List Name) (s : State) (answer : Answer State) → Each one (xs ++ ys) known s answer → (first : Answer State) × Each one xs known s first × Goes (Each one ys) first answer
  each_split one [] ys known s answer e = (Ok (known, s), refl, e)
  each_split one (x ∷ xs) ys known s answer e = by e.0 (λ k t a. each_split one xs ys k t a) e.1 e.2
    where
      by : (o : Answer State) → ((k : List Name) (t : State) (a : Answer State) → Each one (xs ++ ys) k t a → (first : Answer State) × Each one xs k t first × Goes (Each one ys) first a) → one x known s o → Goes (Each one (xs ++ ys)) o answer → (first : Answer State) × Each one (x ∷ xs) known s first × Goes (Each one ys) first answer
      by (Ok p) next r g = let h = next p.0 p.1 answer g in (h.0, (Ok p, r, h.1), h.2)
      by (Err f) next r g = (Err f, (Err f, r, refl), g)

  module _ (Opens : Opening State) where
    -- what is read so many levels deep is read one level deeper
    follows_within : (one two : Reader State) → Within one two → (known : List Name) (s : State) (found : Result (List Need) Fault) (answer : Answer State) → Follows one known s found answer → Follows two known s found answer
    follows_within one two w known s (Ok needs) answer f = each_within one two w needs known s answer f
    follows_within one two w known s (Err e) answer f = f

    level_more : (l : ℕ) → Within (ReadAt Opens l) (ReadAt Opens (suc l))
    level_more zero need known s answer r = by (is_known known need.name) r
      where
        by : (t : Bool) → Unless t known s answer ⊥ → Unless t known s answer (Opened Opens (ReadAt Opens zero) need known s answer)
        by true h = h
        by false h = absurd h
    level_more (suc l) need known s answer r = by (is_known known need.name) (level_more l) r
      where
        by : (t : Bool) → Within (ReadAt Opens l) (ReadAt Opens (suc l)) → Unless t known s answer (Opened Opens (ReadAt Opens l) need known s answer) → Unless t known s answer (Opened Opens (ReadAt Opens (suc l)) need known s answer)
        by true w h = h
        by false w h = (h.0, h.1, h.2, follows_within (ReadAt Opens l) (ReadAt Opens (suc l)) w (known ++ need.name ∷ []) h.1 h.0 answer h.3)

    pub ended : (known : List Name) (s : State) → ReadAll Opens [] known s (Ok (known, s))
    ended known s = (zero, refl)

    unless_known : (t : Bool) (known : List Name) (s : State) (Else : Type 0) → t ≡ true → Unless t known s (Ok (known, s)) Else
    unless_known true known s Else e = refl
    unless_known false known s Else e = absurd cc

    unless_new : (t : Bool) (known : List Name) (s : State) (answer : Answer State) (Else : Type 0) → t ≡ false → Else → Unless t known s answer Else
    unless_new true known s answer Else e h = absurd cc
    unless_new false known s answer Else e h = h

    known_at : (l : ℕ) (need : Need) (known : List Name) (s : State) → is_known known need.name ≡ true → ReadAt Opens l need known s (Ok (known, s))
    known_at zero need known s e = unless_known (is_known known need.name) known s ⊥ e
    known_at (suc l) need known s e = unless_known (is_known known need.name) known s (Opened Opens (ReadAt Opens l) need known s (Ok (known, s))) e

    pub passed : (need : Need) (rest : List Need) (known : List Name) (s : State) (answer : Answer State) → is_known known need.name ≡ true → ReadAll Opens rest known s answer → ReadAll Opens (need ∷ rest) known s answer
    passed need rest known s answer e r = (r.0, (Ok (known, s), known_at r.0 need known s e, r.1))

    pub refused : (need : Need) (rest : List Need) (known : List Name) (s after : State) (f : Fault) → is_known known need.name ≡ false → Opens s need (Err f) after → ReadAll Opens (need ∷ rest) known s (Err (f, after))
    refused need rest known s after f e o =
        (suc zero, (Err (f, after), unless_new (is_known known need.name) known s (Err (f, after)) (Opened Opens (ReadAt Opens zero) need known s (Err (f, after))) e (Err f, after, o, refl), refl))

    goes_more : (l : ℕ) (rest : List Need) (first answer : Answer State) → Goes (Each (ReadAt Opens l) rest) first answer → Goes (Each (ReadAt Opens (suc l)) rest) first answer
    goes_more l rest (Ok p) answer g = each_within (ReadAt Opens l) (ReadAt Opens (suc l)) (level_more l) rest p.0 p.1 answer g
    goes_more l rest (Err f) answer g = g

    pub opened : (need : Need) (needs rest : List Need) (known : List Name) (s after : State) (answer : Answer State) → is_known known need.name ≡ false → Opens s need (Ok needs) after → ReadAll Opens (needs ++ rest) (known ++ need.name ∷ []) after answer → ReadAll Opens (need ∷ rest) known s answer
    opened need needs rest known s after answer e o r =
        let h = each_split (ReadAt Opens r.0) needs rest (known ++ need.name ∷ []) after answer r.1 in
        (suc r.0, (h.0, unless_new (is_known known need.name) known s h.0 (Opened Opens (ReadAt Opens r.0) need known s h.0) e (Ok needs, after, o, h.1), goes_more r.0 rest h.0 answer h.2))

-- the file on top of the stack
pub top : (waiting rest : List Need) (need : Need) → waiting ≡ rest ++ need ∷ [] → reverse waiting ≡ need ∷ reverse rest
top waiting rest need e = ap reverse e ∙ reverse-append rest (need ∷ [])

-- so many levels deeper
module _ {State : Type 0} (Opens : Opening State) where
  pub all_deeper : (more l : ℕ) (needs : List Need) (known : List Name) (s : State) (answer : Answer State) → Each (ReadAt Opens l) needs known s answer → Each (ReadAt Opens (more + l)) needs known s answer
  all_deeper zero l needs known s answer e =
      let same : l ≡ zero + l = omega arith in
      subst (λ (k : ℕ). Each (ReadAt Opens k) needs known s answer) same e
  all_deeper (suc more) l needs known s answer e =
      let same : suc (more + l) ≡ suc more + l = omega arith in
      subst (λ (k : ℕ). Each (ReadAt Opens k) needs known s answer) same
      (each_within (ReadAt Opens (more + l)) (ReadAt Opens (suc (more + l))) (level_more Opens (more + l)) needs known s answer (all_deeper more l needs known s answer e))
