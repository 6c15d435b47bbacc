-- Texts that are written to a sink one after the other, and counts that rose earlier.
use Rattle.std.proofs.Common.{◌≡◌, ℕ, ◌++◌, ◌≤◌, inl, inr, true, false, List, [], Option, Some, None, IsErr, arith, refl, sym, ap, subst, ◌∙◌, append_assoc, append-nil}
use Rattle.std.specs.declared.result.Result.{Result}
use Rattle.std.specs.declared.result.Result.TheVariants.{Ok, Err}
use Rattle.nm_base.specs.declared.sink.WriteFault.{WriteFault}
use Rattle.nm_base.specs.Outside.{AppendsPart, Rose, SinkSeen, Writes, appended}

pub appended-append : (o : Option (List ℕ)) (a b : List ℕ) → appended (appended o a) b ≡ appended o (a ++ b)
appended-append None a b = refl
appended-append (Some t) a b = ap Some (append_assoc t a b)

pub appended-nil : (o : Option (List ℕ)) → o ≡ appended o []
appended-nil None = refl
appended-nil (Some t) = ap Some (sym (append-nil t))

-- a count that rose behind a later value rose behind an earlier one
pub rose_earlier : (first before now : ℕ) → first ≤ before → Rose before now → Rose first now
rose_earlier first before now le (inl rose) = inl (omega arith)
rose_earlier first before now le (inr most) = inr most

module _ (start mid end : SinkSeen) (a b : List ℕ) where
  -- a part of the second of two texts
  pub second_part : mid.taken ≡ appended start.taken a → AppendsPart mid.taken end.taken b → AppendsPart start.taken end.taken (a ++ b)
  second_part h (part, (rest, is), taken) = (
    a ++ part,
    (rest, append_assoc a part rest ∙ ap (λ l. a ++ l) is),
    taken ∙ ap (λ o. appended o part) h ∙ appended-append start.taken a part,
  )

  -- a part of the first one
  pub first_part : AppendsPart start.taken mid.taken a → AppendsPart start.taken mid.taken (a ++ b)
  first_part (part, (rest, is), taken) = (part, (rest ++ b, sym (append_assoc part rest b) ∙ ap (λ l. l ++ b) is), taken)

-- nothing was to be written
pub writes_nothing : {A : Type 0} (x : A) (s : SinkSeen) → Writes (Ok x) s s []
writes_nothing x s = record { ok = appended-nil s.taken; err = tt; cause = tt; kept = omega arith }

-- a text behind one that was taken
pub writes_more : {A B : Type 0} (x : A) (r : Result B WriteFault) (start mid end : SinkSeen) (a b : List ℕ)
    → Writes (Ok x) start mid a → Writes r mid end b → Writes r start end (a ++ b)
writes_more x (Ok y) start mid end a b v w = record {
  ok = w.ok ∙ ap (λ o. appended o b) v.ok ∙ appended-append start.taken a b;
  err = tt;
  cause = tt;
  kept = let h = v.kept in let k = w.kept in omega arith;
}
writes_more x (Err e) start mid end a b v w = record {
  ok = tt;
  err = second_part start mid end a b v.ok w.err;
  cause = rose_earlier start.faults mid.faults end.faults v.kept w.cause;
  kept = let h = v.kept in let k = w.kept in omega arith;
}

-- a part of a text is a part of a longer one
pub fails_before : {A B : Type 0} (e d : WriteFault) (start end : SinkSeen) (a b : List ℕ)
    → Writes {A = A} (Err e) start end a → Writes {A = B} (Err d) start end (a ++ b)
fails_before e d start end a b w = record { ok = tt; err = first_part start end end a b w.err; cause = w.cause; kept = w.kept }

-- another answer to what was taken whole
pub answers : {A B : Type 0} (x : A) (y : B) (start end : SinkSeen) (text : List ℕ) → Writes (Ok x) start end text → Writes (Ok y) start end text
answers x y start end text w = record { ok = w.ok; err = tt; cause = tt; kept = w.kept }

-- a text of which the beginning was taken, and a part of what follows
pub stops : {A B C : Type 0} (x : A) (e : WriteFault) (s : Result C WriteFault) (start mid end : SinkSeen) (a b rest whole : List ℕ)
    → IsErr s → whole ≡ (a ++ b) ++ rest → Writes (Ok x) start mid a → Writes {A = B} (Err e) mid end b → Writes s start end whole
stops x e (Ok y) start mid end a b rest whole fault is v w = absurd (apart fault)
  where
    apart : false ≡ true → ⊥
    apart h = cc
stops {B = B} {C = C} x e (Err d) start mid end a b rest whole fault is v w =
    subst (λ (l : List ℕ). Writes {A = C} (Err d) start end l) (sym is) (fails_before {A = B} e d start end (a ++ b) rest (writes_more x (Err e) start mid end a b v w))

-- the first text failed
pub fails : {A B : Type 0} (e : WriteFault) (s : Result B WriteFault) (start end : SinkSeen) (a rest whole : List ℕ)
    → IsErr s → whole ≡ a ++ rest → Writes {A = A} (Err e) start end a → Writes s start end whole
fails e (Ok y) start end a rest whole fault is w = absurd (apart fault)
  where
    apart : false ≡ true → ⊥
    apart h = cc
fails {B = B} e (Err d) start end a rest whole fault is w =
    subst (λ (l : List ℕ). Writes {A = B} (Err d) start end l) (sym is) (fails_before e d start end a rest w)

-- the last text
pub goes_on : {A B : Type 0} (x : A) (r : Result B WriteFault) (start mid end : SinkSeen) (a b whole : List ℕ)
    → whole ≡ a ++ b → Writes (Ok x) start mid a → Writes r mid end b → Writes r start end whole
goes_on x r start mid end a b whole is v w = subst (λ (l : List ℕ). Writes r start end l) (sym is) (writes_more x r start mid end a b v w)
