-- Texts that are gathered one after the other, and written at last.
use Rattle.std.proofs.Common.{◌≡◌, ℕ, ◌++◌, ◌≤◌, true, false, List, [], Option, IsErr, arith, refl, sym, ap, subst, ◌∙◌, append_assoc, append-nil}
use Rattle.std.specs.declared.result.Result.{Result}
use Rattle.std.specs.declared.result.Result.TheVariants.{Ok, Err}
use Rattle.nm_base.specs.declared.sink.WriteFault.{WriteFault}
use Rattle.nm_base.specs.Outside.{SinkSeen, Writes, appended}
use Rattle.nm_base.proofs.Writing.{appended-append, appended-nil, rose_earlier}
use Rattle.mote_run.specs.Gathers.{Gathering, Gathers, gathering}

-- nothing was to be written
pub gathers_nothing : {A : Type 0} (x : A) (s : Gathering) → Gathers (Ok x) s s []
gathers_nothing x s = record { ok = ([], appended-nil s.seen.taken, sym (append-nil s.waiting)); err = tt; cause = tt; kept = omega arith }

-- what was put behind what waits
pub puts : {A : Type 0} (x : A) (s : Gathering) (text : List ℕ) → Gathers (Ok x) s (gathering s.seen (s.waiting ++ text)) text
puts x s text = record { ok = ([], appended-nil s.seen.taken, refl); err = tt; cause = tt; kept = omega arith }

-- a part of the text that waited, and all of it and a part of the next one
module _ (waited waiting part rest a b : List ℕ) where
  both : (p : List ℕ) → p ++ waiting ≡ waited ++ a → part ++ rest ≡ waiting ++ b → (p ++ part) ++ rest ≡ waited ++ (a ++ b)
  both p first second =
      append_assoc p part rest ∙ ap (λ l. p ++ l) second ∙ sym (append_assoc p waiting b) ∙ ap (λ l. l ++ b) first ∙ append_assoc waited a b

-- a text behind one that was gathered
pub gathers_more : {A B : Type 0} (x : A) (r : Result B WriteFault) (start mid end : Gathering) (a b : List ℕ)
    → Gathers (Ok x) start mid a → Gathers r mid end b → Gathers r start end (a ++ b)
gathers_more x (Ok y) start mid end a b v w = let p = v.ok in let q = w.ok in record {
  ok = (
    p.0 ++ q.0,
    q.1 ∙ ap (λ o. appended o q.0) p.1 ∙ appended-append start.seen.taken p.0 q.0,
    both start.waiting mid.waiting q.0 end.waiting a b p.0 p.2 q.2,
  );
  err = tt;
  cause = tt;
  kept = let h = v.kept in let k = w.kept in omega arith;
}
gathers_more x (Err e) start mid end a b v w = let p = v.ok in let q = w.err in record {
  ok = tt;
  err = (
    p.0 ++ q.0,
    (q.1.0, both start.waiting mid.waiting q.0 q.1.0 a b p.0 p.2 q.1.1),
    q.2 ∙ ap (λ o. appended o q.0) p.1 ∙ appended-append start.seen.taken p.0 q.0,
  );
  cause = rose_earlier start.seen.faults mid.seen.faults end.seen.faults v.kept w.cause;
  kept = let h = v.kept in let k = w.kept in omega arith;
}

-- a part of a text is a part of a longer one
pub fails_before : {A B : Type 0} (e d : WriteFault) (start end : Gathering) (a b : List ℕ)
    → Gathers {A = A} (Err e) start end a → Gathers {A = B} (Err d) start end (a ++ b)
fails_before e d start end a b w = let p = w.err in record {
  ok = tt;
  err = (p.0, (p.1.0 ++ b, sym (append_assoc p.0 p.1.0 b) ∙ ap (λ l. l ++ b) p.1.1 ∙ append_assoc start.waiting a b), p.2);
  cause = w.cause;
  kept = w.kept;
}

-- another answer to what was gathered
pub answers : {A B : Type 0} (x : A) (y : B) (start end : Gathering) (text : List ℕ) → Gathers (Ok x) start end text → Gathers (Ok y) start end text
answers x y start end text w = record { ok = w.ok; err = tt; cause = tt; kept = w.kept }

-- a text of which the beginning was gathered, and a part of what follows
pub stops : {A B C : Type 0} (x : A) (e : WriteFault) (s : Result C WriteFault) (start mid end : Gathering) (a b rest whole : List ℕ)
    → IsErr s → whole ≡ (a ++ b) ++ rest → Gathers (Ok x) start mid a → Gathers {A = B} (Err e) mid end b → Gathers s start end whole
stops x e (Ok y) start mid end a b rest whole fault is v w = absurd (apart fault)
  where
    apart : false ≡ true → ⊥
    apart h = cc
stops {B = B} {C = C} x e (Err d) start mid end a b rest whole fault is v w =
    subst (λ (l : List ℕ). Gathers {A = C} (Err d) start end l) (sym is) (fails_before {A = B} e d start end (a ++ b) rest (gathers_more x (Err e) start mid end a b v w))

-- the first text failed
pub fails : {A B : Type 0} (e : WriteFault) (s : Result B WriteFault) (start end : Gathering) (a rest whole : List ℕ)
    → IsErr s → whole ≡ a ++ rest → Gathers {A = A} (Err e) start end a → Gathers s start end whole
fails e (Ok y) start end a rest whole fault is w = absurd (apart fault)
  where
    apart : false ≡ true → ⊥
    apart h = cc
fails {B = B} e (Err d) start end a rest whole fault is w =
    subst (λ (l : List ℕ). Gathers {A = B} (Err d) start end l) (sym is) (fails_before e d start end a rest w)

-- the last text
pub goes_on : {A B : Type 0} (x : A) (r : Result B WriteFault) (start mid end : Gathering) (a b whole : List ℕ)
    → whole ≡ a ++ b → Gathers (Ok x) start mid a → Gathers r mid end b → Gathers r start end whole
goes_on x r start mid end a b whole is v w = subst (λ (l : List ℕ). Gathers r start end l) (sym is) (gathers_more x r start mid end a b v w)

-- what waited was written
pub written : {A B : Type 0} (x : A) (y : B) (start end : SinkSeen) (waited : List ℕ)
    → Writes (Ok x) start end waited → Gathers (Ok y) (gathering start waited) (gathering end []) []
written x y start end waited w = record { ok = (waited, w.ok, refl); err = tt; cause = tt; kept = w.kept }

-- or a part of it
pub partly_written : {A B : Type 0} (e : WriteFault) (s : Result B WriteFault) (start end : SinkSeen) (waited waiting : List ℕ)
    → IsErr s → Writes {A = A} (Err e) start end waited → Gathers s (gathering start waited) (gathering end waiting) []
partly_written e (Ok y) start end waited waiting fault w = absurd (apart fault)
  where
    apart : false ≡ true → ⊥
    apart h = cc
partly_written e (Err d) start end waited waiting fault w = let p = w.err in record {
  ok = tt;
  err = (p.0, (p.1.0, p.1.1 ∙ sym (append-nil waited)), p.2);
  cause = w.cause;
  kept = w.kept;
}

-- a text for which nothing waited, and behind which nothing waits, was written
pub all_written : {A B : Type 0} (x : A) (y : B) (start end : SinkSeen) (waited waiting text : List ℕ) → waited ≡ [] → waiting ≡ []
    → Gathers (Ok x) (gathering start waited) (gathering end waiting) text → Writes (Ok y) start end text
all_written x y start end waited waiting text before behind w = let p = w.ok in record {
  ok = p.1 ∙ ap (λ l. appended start.taken l) (sym (append-nil p.0) ∙ ap (λ l. p.0 ++ l) (sym behind) ∙ p.2 ∙ ap (λ l. l ++ text) before);
  err = tt;
  cause = tt;
  kept = w.kept;
}

-- or a part of it
pub partly : {A : Type 0} (s : Result A WriteFault) (start end : SinkSeen) (waited waiting text : List ℕ)
    → IsErr s → waited ≡ [] → Gathers s (gathering start waited) (gathering end waiting) text → Writes s start end text
partly (Ok y) start end waited waiting text fault before w = absurd (apart fault)
  where
    apart : false ≡ true → ⊥
    apart h = cc
partly (Err d) start end waited waiting text fault before w = let p = w.err in record {
  ok = tt;
  err = (p.0, (p.1.0, p.1.1 ∙ ap (λ l. l ++ text) before), p.2);
  cause = w.cause;
  kept = w.kept;
}
