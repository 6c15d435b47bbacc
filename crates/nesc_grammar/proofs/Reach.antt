-- What reading a phrase answers is the reach.
use Rattle.std.proofs.Common.{◌≡◌, ℕ, suc, ◌≤◌, ◌+◌, Bool, true, false, List, [], ◌∷◌, ◌++◌, length, Ok, Err, refl, sym, ap, subst, ◌∙◌, inl, inr, arith, append_assoc, append-nil, ◌<◌}
use Rattle.std.proofs.lemmas.List.{length-append}
use Rattle.nm_base.specs.declared.token.Token.{Token}
use Rattle.nesc_tree.specs.declared.sorts.Sort.TheVariants as s
use Rattle.nesc_tree.specs.Sorts.{Names}
use Rattle.nesc_tree.specs.Phrase.{Phrase, Of, fits_one_level}
use Rattle.nesc_tree.specs.Form.{Place, SpellsIn}
use Rattle.nesc_tree.specs.Reading.{Fault, Syntax, Deep, Answer, phrase, rest_of}
use Rattle.nesc_grammar.specs.Production.{production}
use Rattle.nesc_grammar.specs.Reach.{SpelledIn, Spelled, BeginsIn, Begins, IsReach}
use Rattle.nesc_grammar.specs.Laws.{left_by, Reached, ReadsTheReach, OneTree, ProbeTells}
use Rattle.nesc_tree.proofs.Open.{stay}
use Rattle.nesc_tree.proofs.Some.{with}
use Rattle.nesc_tree.proofs.Moved.{Cut, Free}
use Rattle.nesc_tree.proofs.Told.{Told}
use Rattle.nesc_tree.proofs.Sound.{Sound}
use Rattle.nesc_tree.proofs.Meets.{Same, Meets}
use Rattle.nesc_tree.proofs.Grown.{Grown}
use Rattle.nesc_grammar.proofs.Instance.{reads_spelled, reads_beside, stops_told, may_stand, has_text, grows}

parts : {ts rest us tail : List Token} → Cut ts rest us tail → (before : List Token) × (ts ≡ before ++ rest) × (us ≡ before ++ tail)
parts Cut.here = ([], refl, refl)
parts (Cut.there {t = t} c) = let p = parts c in (t ∷ p.0, ap (λ (xs : List Token). t ∷ xs) p.1, ap (λ (xs : List Token). t ∷ xs) p.2)

same_behind : {n : ℕ} {ended : Bool} {xs ys : List Token} (before : List Token) → Same n ended xs ys → Same n ended (before ++ xs) (before ++ ys)
same_behind [] h = h
same_behind (t ∷ before) h = Same.there (same_behind before h)

-- nothing is behind the end of a text
over : {n : ℕ} {t : Token} {xs ys zs : List Token} → xs ≡ t ∷ zs → ys ≡ [] → Same n false xs ys → ⊥
over w e (Same.at l) = cc
over w e (Same.end z l) = cc
over w e Same.none = cc
over w e (Same.there h) = cc

module _ (d : ℕ) (k : Phrase) (names : Names) where
  -- a text that goes on with the next token is met by no answer that stands before that token
  beyond : {e : ℕ} {a : Of k} {r : Place} {x : Answer (Of k)} {t : Token} {ys : List Token} → Meets (length (left_by x)) false d e a r x → left_by x ≡ t ∷ ys → r.rest ≡ [] → ((ts : List Token) → x ≡ Err (Deep ts) → e ≤ d) → ⊥
  beyond (Meets.ok h) y z w = over y z h.same
  beyond (Meets.behind l) y z w = omega arith
  beyond (Meets.syntax l) y z w = omega arith
  beyond (Meets.deep {ts = ts} f) y z w = let l = f refl (w ts refl) in omega arith

  -- a text that ends where reading refuses is met by no refusal
  refused : {e n : ℕ} {a : Of k} {r : Place} {x : Answer (Of k)} {ts : List Token} → Meets n true d e a r x → x ≡ Err (Syntax ts) → n ≤ length ts → ⊥
  refused (Meets.ok h) z w = cc
  refused (Meets.behind l) z w = cc
  refused {ts = ts} (Meets.syntax {ts = us} l) z w = let v : us ≡ ts = cc in let y : length us ≡ length ts = ap (λ (u : List Token). length u) v in omega arith
  refused (Meets.deep f) z w = cc

  goes_on : (before : List Token) (t : Token) (ys : List Token) (x : Answer (Of k)) → phrase production d k (with names (before ++ (t ∷ ys))) ≡ x → left_by x ≡ t ∷ ys → (e : ℕ) → ((ts : List Token) → x ≡ Err (Deep ts) → e ≤ d)
      → BeginsIn e k names (before ++ (t ∷ [])) → ⊥
  goes_on before t ys x q l e w b =
      let p = b.spelled in
      let same : Same (length (left_by x)) false (before ++ (t ∷ ys)) (before ++ (t ∷ b.more)) = same_behind before (rw l (Same.at {ys = ys} (omega arith))) in
      let text : SpellsIn production e k (with names (before ++ (t ∷ b.more))) b.tree (with p.after []) =
      subst (λ (us : List Token). SpellsIn production e k (with names us) b.tree (with p.after [])) (append_assoc before (t ∷ []) b.more) p.spells in
      let m : Meets (length (left_by x)) false d e b.tree (with p.after []) x = subst (Meets (length (left_by x)) false d e b.tree (with p.after [])) q
      (reads_beside (length (left_by x)) false d e k (with names (before ++ (t ∷ ys))) (with names (before ++ (t ∷ b.more))) (with p.after []) b.tree (record { names = refl; same = same }) text) in
      beyond m l refl w

  not_spelled : (before rest : List Token) → phrase production d k (with names (before ++ rest)) ≡ Err (Syntax rest) → (tree : Of k) → Spelled k names tree before → ⊥
  not_spelled before rest q tree h =
      let p = h.spelled in
      let same : Same (length rest) true (before ++ rest) before = subst (Same (length rest) true (before ++ rest)) (append-nil before) (same_behind before (Same.end refl (omega arith))) in
      refused (reads_beside (length rest) true d h.levels k (with names (before ++ rest)) (with names before) (with p.after []) tree (record { names = refl; same = same }) p.spells) q (omega arith)

nothing : (k : Phrase) → stay k s.End ≡ false
nothing (Phrase.expr least) = refl
nothing Phrase.opened = refl
nothing Phrase.fields = refl
nothing Phrase.pointers = refl
nothing Phrase.type = refl
nothing _ = refl

module _ (d : ℕ) (k : Phrase) (one : fits_one_level k ≡ true) (names : Names) (ts : List Token) where
  abbrev answer : Answer (Of k)
  answer = phrase production (suc d) k (with names ts)

  is_reach : (before rest : List Token) (x : Answer (Of k)) → Begins k names before → answer ≡ x → ts ≡ before ++ rest → left_by x ≡ rest → ((us : List Token) → x ≡ Err (Deep us) → ⊥) → IsReach k names before rest
  is_reach before rest x b q e l w = record {
    begins = b;
    longest = λ t ys z g. goes_on (suc d) k names before t ys x (subst (λ (us : List Token). phrase production (suc d) k (with names us) ≡ x) (e ∙ ap (λ (us : List Token). before ++ us) z) q) (l ∙ z) g.levels (λ us v. absurd (w us v)) g.begins;
  }

  begun : (e : Fault) → Told {A = Of k} (SpellsIn production (suc d) k) (stay k) (with names ts) (Err e) → (before : List Token) × (ts ≡ before ++ rest_of e) × BeginsIn (suc d) k names before
  begun e (inl z) =
      let t = has_text d k one names (λ _ _. []) (λ a ms. nothing k) in
      ([], sym z, record { more = t.0.us; tree = t.0.value; spelled = record { after = t.0.names; spells = t.0.spelled } })
  begun e (inr b) =
      let P = b (λ _ _. []) (λ a ms. nothing k) in
      let p = parts P.cut in
      (p.0, p.1, record { more = P.tail; tree = P.value; spelled = record { after = P.names; spells = subst (λ (us : List Token). SpellsIn production (suc d) k (with names us) P.value (with P.names [])) p.2 P.spelled } })

  -- some text begins with what was read
  begun_by : (x : Answer (Of k)) → answer ≡ x → Sound (λ a q. SpellsIn production (suc d) k (with names ts) a q) x → Told (SpellsIn production (suc d) k) (stay k) (with names ts) x
      → (before : List Token) × (ts ≡ before ++ left_by x) × BeginsIn (suc d) k names before
  begun_by (Ok x) q h w =
      let m = may_stand (suc d) k (with names ts) x.1 x.0 h [] (Free.free (nothing k)) in
      let p = parts m.cut in
      (p.0, p.1, record { more = []; tree = x.0; spelled = record { after = x.1.names; spells = subst (λ (us : List Token). SpellsIn production (suc d) k (with names us) x.0 (with x.1.names [])) p.2 m.spelled } })
  begun_by (Err e) q h w = begun e w

-- a shorter run has a text too
shorten : (k : Phrase) (names : Names) (before us : List Token) → Begins k names (before ++ us) → Begins k names before
shorten k names before us b =
    let g = b.begins in
    record { levels = b.levels; begins = record { more = us ++ g.more; tree = g.tree; spelled = subst (SpelledIn b.levels k names g.tree) (append_assoc before us g.more) g.spelled } }

-- of two beginnings of a list the one behind which fewer tokens stand is longer
longer : (before rest wide left : List Token) → before ++ rest ≡ wide ++ left → length left < length rest → (t : Token) × (us : List Token) × (ws : List Token) × (rest ≡ t ∷ us) × (wide ≡ before ++ (t ∷ ws))
longer [] rest [] left e l = let z = ap (λ (u : List Token). length u) e in absurd (omega arith)
longer [] rest (t ∷ ws) left e l = (t, ws ++ left, ws, e, refl)
longer (b ∷ before) rest [] left e l =
    let z : length ((b ∷ before) ++ rest) ≡ length left = ap (λ (u : List Token). length u) e in
    let y : length ((b ∷ before) ++ rest) ≡ suc (length before + length rest) = ap suc (length-append before rest) in absurd (omega arith)
longer (b ∷ before) rest (c ∷ wide) left e l =
    let r = longer before rest wide left (cc) l in
    let z : c ≡ b = cc in
    (r.0, r.1, r.2, r.3, ap (λ (u : Token). u ∷ wide) z ∙ ap (λ (us : List Token). b ∷ us) r.4)

module _ (d : ℕ) (k : Phrase) (one : fits_one_level k ≡ true) (names : Names) (ts : List Token) where
  -- where there were too few levels, a text of more goes on with the next token
  deeper : (before rest : List Token) → phrase production (suc d) k (with names ts) ≡ Err (Deep rest) → ts ≡ before ++ rest → (t : Token) × (us : List Token) × (rest ≡ t ∷ us) × Begins k names (before ++ (t ∷ []))
  deeper before rest q e =
      let g : Grown (suc d) (Err (Deep rest)) (λ n. phrase production n k (with names ts)) = subst (λ (x : Answer (Of k)). Grown (suc d) x (λ n. phrase production n k (with names ts))) q (grows (suc d) k (with names ts)) in
      let n : ℕ = g.0 in
      let x : Answer (Of k) = phrase production (suc n) k (with names ts) in
      let w = begun_by n k one names ts x refl (reads_spelled (suc n) k (with names ts)) (stops_told (suc n) k (with names ts)) in
      let r = longer before rest w.0 (left_by x) (sym e ∙ w.1) (g.1 (suc n) (omega arith)) in
      let b : Begins k names (before ++ (r.0 ∷ r.2)) = record { levels = suc n; begins = subst (BeginsIn (suc n) k names) r.4 w.2 } in
      (r.0, r.1, r.3, shorten k names (before ++ (r.0 ∷ [])) r.2 (subst (Begins k names) (sym (append_assoc before (r.0 ∷ []) r.2)) b))

  reached : (x : Answer (Of k)) → phrase production (suc d) k (with names ts) ≡ x → Sound (λ a q. SpellsIn production (suc d) k (with names ts) a q) x → Told (SpellsIn production (suc d) k) (stay k) (with names ts) x
      → (before : List Token) × (ts ≡ before ++ left_by x) × Reached (suc d) k names before x
  reached (Ok x) q h w =
      let m = may_stand (suc d) k (with names ts) x.1 x.0 h [] (Free.free (nothing k)) in
      let p = parts m.cut in
      let text : SpellsIn production (suc d) k (with names (p.0 ++ [])) x.0 (with x.1.names []) = subst (λ (us : List Token). SpellsIn production (suc d) k (with names us) x.0 (with x.1.names [])) p.2 m.spelled in
      let b : Begins k names p.0 = record { levels = suc d; begins = record { more = []; tree = x.0; spelled = record { after = x.1.names; spells = text } } } in
      (p.0, p.1, (is_reach d k one names ts p.0 x.1.rest (Ok x) b q p.1 refl (λ us v. cc), record { after = x.1.names; spells = subst (λ (us : List Token). SpellsIn production (suc d) k (with names us) x.0 (with x.1.names [])) (append-nil p.0) text }))
  reached (Err (Syntax rest)) q h w =
      let b = begun d k one names ts (Syntax rest) w in
      (b.0, b.1, (is_reach d k one names ts b.0 rest (Err (Syntax rest)) (record { levels = suc d; begins = b.2 }) q b.1 refl (λ us v. cc), b.2, not_spelled (suc d) k names b.0 rest (subst (λ (us : List Token). phrase production (suc d) k (with names us) ≡ Err (Syntax rest)) b.1 q)))
  reached (Err (Deep rest)) q h w =
      let b = begun d k one names ts (Deep rest) w in
      let g = deeper b.0 rest q b.1 in (
        b.0,
        b.1,
        record {
          begins = b.2;
          first = g.0;
          others = g.1;
          is = g.2;
          goes_on = g.3;
          too_deep = λ h. goes_on (suc d) k names b.0 g.0 g.1 (Err (Deep rest)) (subst (λ (us : List Token). phrase production (suc d) k (with names us) ≡ Err (Deep rest)) (b.1 ∙ ap (λ (us : List Token). b.0 ++ us) g.2) q) g.2 (suc d) (λ us v. omega arith) h;
        },
      )

-- reading stops behind the longest run of tokens with which some text begins, or at the first that is too deep
pub reach : ReadsTheReach
reach d k one names ts = reached d k one names ts (phrase production (suc d) k (with names ts)) refl (reads_spelled (suc d) k (with names ts)) (stops_told (suc d) k (with names ts))

-- two trees that the same tokens spell are one
same_all : (us : List Token) → Same 0 false us us
same_all [] = Same.none
same_all (t ∷ us) = Same.there (same_all us)

whole : {A : Type 0} {d e : ℕ} {c : A} {r : Place} {x : Answer A} → Meets 0 false d e c r x → e ≤ d → (q : Place) × (x ≡ Ok (c, q))
whole (Meets.ok {q = q} h) l = (q, refl)
whole (Meets.behind m) l = absurd (omega arith)
whole (Meets.syntax m) l = absurd (omega arith)
whole (Meets.deep f) l = let m = f refl l in absurd (omega arith)

alone : (k : Phrase) (names : Names) (ts : List Token) (c : Of k) (s : Spelled k names c ts) (n : ℕ) → s.levels ≤ n → (q : Place) × (phrase production n k (with names ts) ≡ Ok (c, q))
alone k names ts c s n l =
    let p = s.spelled in
    whole (reads_beside 0 false n s.levels k (with names ts) (with names ts) (with p.after []) c (record { names = refl; same = same_all ts }) p.spells) l

one_value : {A : Type 0} (x : Answer A) (a b : A) (q r : Place) → x ≡ Ok (a, q) → x ≡ Ok (b, r) → a ≡ b
one_value {A = A} x a b q r g h = let z : ◌≡◌ {A = A × Place} (a, q) (b, r) = cc in ap (λ (y : A × Place). y.0) z

pub one_tree : OneTree
one_tree k names ts a b g h =
    let n : ℕ = g.levels + h.levels in
    let u = alone k names ts a g n (omega arith) in
    let v = alone k names ts b h n (omega arith) in
    one_value (phrase production n k (with names ts)) a b u.0 v.0 u.1 v.1

begins_of : (d : ℕ) (k : Phrase) (names : Names) (before : List Token) (x : Answer (Of k)) → Reached d k names before x → Begins k names before
begins_of d k names before (Ok x) h = h.0.begins
begins_of d k names before (Err (Syntax rest)) h = h.0.begins
begins_of d k names before (Err (Deep rest)) h = record { levels = d; begins = h.begins }

no_more : (d : ℕ) (k : Phrase) (names : Names) (before : List Token) (x : Answer (Of k)) (t : Token) (ts : List Token) → Reached d k names before x → left_by x ≡ t ∷ ts → ((us : List Token) → x ≡ Err (Deep us) → ⊥) → Begins k names (before ++ (t ∷ ts)) → ⊥
no_more d k names before (Ok x) t ts h e w b = h.0.longest t ts e (shorten k names (before ++ (t ∷ [])) ts (subst (Begins k names) (sym (append_assoc before (t ∷ []) ts)) b))
no_more d k names before (Err (Syntax rest)) t ts h e w b = h.0.longest t ts e (shorten k names (before ++ (t ∷ [])) ts (subst (Begins k names) (sym (append_assoc before (t ∷ []) ts)) b))
no_more d k names before (Err (Deep rest)) t ts h e w b = w rest refl

deep_more : (d : ℕ) (k : Phrase) (names : Names) (before : List Token) (x : Answer (Of k)) (t : Token) → Reached d k names before x → x ≡ Err (Deep (t ∷ [])) → Begins k names (before ++ (t ∷ []))
deep_more d k names before (Ok x) t h e = absurd cc
deep_more d k names before (Err (Syntax rest)) t h e = absurd cc
deep_more d k names before (Err (Deep rest)) t h e =
    let z : rest ≡ t ∷ [] = cc in
    let w : rest ≡ h.first ∷ h.others = h.is in
    let y : h.first ≡ t = cc in
    subst (λ (u : Token). Begins k names (before ++ (u ∷ []))) y h.goes_on

pub probe_tells : ProbeTells
probe_tells probe d k one names before =
    let all : List Token = before ++ (probe ∷ []) in
    let x : Answer (Of k) = phrase production (suc d) k (with names all) in
    let r = reach d k one names all in (
      (λ e. subst (Begins k names) (sym (r.1 ∙ (ap (λ (us : List Token). r.0 ++ us) e ∙ append-nil r.0))) (begins_of (suc d) k names r.0 x r.2)),
      (λ e. subst (Begins k names) (sym (r.1 ∙ ap (λ (y : Answer (Of k)). r.0 ++ left_by y) e)) (deep_more (suc d) k names r.0 x probe r.2 e)),
      (λ t ts e w b. no_more (suc d) k names r.0 x t ts r.2 e w (subst (Begins k names) (r.1 ∙ ap (λ (us : List Token). r.0 ++ us) e) b)),
    )
