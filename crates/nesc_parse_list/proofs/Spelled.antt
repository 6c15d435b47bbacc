-- Reading declarations outside of blocks, and which tokens spell them.
use Rattle.std.proofs.Common.{◌≡◌, ℕ, suc, ◌+◌, ◌-◌, ◌<◌, ◌≤◌, Bool, true, false, List, [], ◌∷◌, ◌++◌, length, take, drop, Ok, Err, refl, sym, ap, subst, ◌∙◌, arith, append-nil}
use Rattle.nm_base.specs.declared.token.Token.{Token}
use Rattle.nm_base.specs.declared.fault.Fault.TheVariants as f
use Rattle.nm_base.specs.declared.fault.Fault as nm
use Rattle.std.proofs.lemmas.List.{take_rest}
use Rattle.nesc_tree.specs.declared.sorts.Sort.{Sort}
use Rattle.nesc_tree.specs.declared.sorts.Sort.TheVariants as s
use Rattle.nesc_tree.specs.declared.contexts.Site.{Site}
use Rattle.nesc_tree.specs.declared.contexts.Site.TheVariants as site
use Rattle.nesc_tree.specs.declared.declarations.Decl.{Decl}
use Rattle.nesc_tree.specs.Sorts.{Names, ahead}
use Rattle.nesc_tree.specs.Phrase.{Phrase, Of, begins, ends_decls}
use Rattle.nesc_tree.specs.Form.{Form, Place, next, Spells, SpellsIn}
use Rattle.nesc_tree.specs.Reading.{Fault, Syntax, Deep, Answer, read, phrase, pass, stop, ◌>>=◌}
use Rattle.nesc_grammar.specs.Grammar as grammar
use Rattle.nesc_grammar.specs.Declarations.{decls_before, ended_decls, end_token}
use Rattle.nesc_grammar.specs.Production.{production}
use Rattle.nesc_grammar.specs.Laws.{answer}
use Rattle.nesc_tree.proofs.Checked.{opened}
use Rattle.nesc_tree.proofs.Moved.{Cut, Free, moved}
use Rattle.nesc_tree.proofs.Open.{Open, bars}
use Rattle.nesc_tree.proofs.Sound.{Sound, sound}
use Rattle.nesc_tree.proofs.Meets.{Same, Near, Meets, meets}
use Rattle.nesc_grammar.proofs.Instance.{reads_on, reads_spelled, reads_beside, may_stand}
use Rattle.nesc_parse_types.specs.declared.stop.Stop.{Stop}
use Rattle.nesc_parse_types.specs.declared.stop.Stop.TheVariants as rust
use Rattle.nesc_parse_types.specs.Gives.{Fails, form_in, place}
use Rattle.nesc_declarations.proofs.Forms.{decls_fine, by_at}
use Rattle.nesc_left_out.specs.Refusals as refusals
use Rattle.nesc_left_out.proofs.FromPlace.{cut_length}
use Rattle.nesc_parse_list.specs.Listed as listed
use Rattle.nesc_parse_list.specs.Listed.{Lists, Ends, Stops, IsListed, IsNoList, follows, most, spare}

abbrev put : {A : Type 0} → A → Place → Answer A
put a p = Ok (a, p)

abbrev failed_by : {A : Type 0} → Fault → Answer A
failed_by e = Err e

-- ---- the declarations, and the token that ends them

nothing : {A : Type 0} (d : ℕ) (ns : Names) (us : List Token) → form_in {A = A} d Form.none ns us ≡ Err (Syntax us)
unfolding read
nothing d ns us = refl

one_is : (d : ℕ) (x : Sort) (ns : Names) (us : List Token) → form_in d (grammar.one x) ns us ≡ pass x (λ t. t) ns us
unfolding read
one_is d x ns us = refl

pub end_stands : (d : ℕ) (ns : Names) (us : List Token) → 0 < d → (x : Sort) → x ≡ ahead ns us → ends_decls x ≡ true → form_in d (Form.by end_token) ns us ≡ pass x (λ t. t) ns us
end_stands d ns us l x e h = by_at d end_token ns us l x e ∙ (ap (λ (c : Bool). form_in d (grammar.when c (grammar.one x)) ns us) h ∙ one_is d x ns us)

pub no_end : (d : ℕ) (ns : Names) (us : List Token) → 0 < d → (x : Sort) → x ≡ ahead ns us → ends_decls x ≡ false → form_in d (Form.by end_token) ns us ≡ Err (Syntax us)
no_end d ns us l x e h = by_at d end_token ns us l x e ∙ (ap (λ (c : Bool). form_in d (grammar.when c (grammar.one x)) ns us) h ∙ nothing d ns us)

unfinished : (x : Sort) → follows x ≡ false → ends_decls x ≡ false
unfinished s.End h = refl
unfinished _ h = h

module _ (d : ℕ) (m : Site) (names : Names) (ts : List Token) where
  pub list_form : answer (suc d) (Phrase.decls m) names ts ≡ form_in d (ended_decls m) names ts
  unfolding phrase
  list_form = refl

  abbrev end_at : Place → Answer Token
  end_at p = read d (phrase production d) (Form.by end_token) p

  abbrev closed : Answer (List Decl) → Answer (List Decl)
  closed y = y >>= λ x. end_at x.1 >>= λ t. put x.0 t.1

  closed_is : form_in d (ended_decls m) names ts ≡ closed (form_in d (decls_before m) names ts)
  unfolding read
  closed_is = refl

  pub stops_at : (l : List Decl) (ns : Names) (us : List Token) → form_in d (decls_before m) names ts ≡ Ok (l, place ns us) → 0 < d → follows (ahead ns us) ≡ false → answer (suc d) (Phrase.decls m) names ts ≡ Err (Syntax us)
  stops_at l ns us e w h =
      list_form
      ∙ (closed_is
      ∙ (ap closed e
      ∙ ap (λ (y : Answer Token). y >>= λ t. put l t.1) (no_end d ns us w (ahead ns us) refl (unfinished (ahead ns us) h))))

  pub fails_so : (r : Stop) → Fails r (form_in d (decls_before m) names ts) → Fails r (answer (suc d) (Phrase.decls m) names ts)
  fails_so rust.Memory h = tt
  fails_so (rust.Syntax us) h = list_form ∙ (closed_is ∙ ap closed h)
  fails_so (rust.Deep us) h = list_form ∙ (closed_is ∙ ap closed h)

-- ---- what declarations spell is read so

refuted : {A : Type 0} {e : ℕ} {a : A} {q : Place} {x : Answer A} {us : List Token} → Meets 0 false 0 e a q x → x ≡ Err (Syntax us) → ⊥
refuted (Meets.ok h) z = cc
refuted (Meets.behind l) z = cc
refuted (Meets.syntax l) z = omega arith
refuted (Meets.deep w) z = cc

same_all : (us : List Token) → Same 0 false us us
same_all [] = Same.none
same_all (t ∷ us) = Same.there (same_all us)

at_none : (k : Phrase) (p : Place) → phrase production 0 k p ≡ Err (stop (begins k (next p)) p.rest)
unfolding phrase
at_none k p = refl

text_begins : (e : ℕ) (k : Phrase) (p q : Place) (a : Of k) → SpellsIn production e k p a q → begins k (next p) ≡ true
text_begins e k p q a t =
    let met : Meets 0 false 0 e a q (phrase production 0 k p) = reads_beside 0 false 0 e k p p q a (record { names = refl; same = same_all p.rest }) t in
    let by : (b : Bool) → begins k (next p) ≡ b → begins k (next p) ≡ true = elim [
      | true ↦ λ h. h
      | false ↦ λ h. absurd (refuted met (at_none k p ∙ ap (λ (c : Bool). failed_by {A = Of k} (stop c p.rest)) h))
    ] in
    by (begins k (next p)) refl

none_left : {us vs : List Token} → Same 0 false us vs → vs ≡ [] → us ≡ []
none_left (Same.at l) w = absurd (omega arith)
none_left (Same.end e l) w = absurd cc
none_left Same.none w = refl
none_left (Same.there h) w = absurd cc

at_end : (q : Place) (after : Names) → Near 0 false q (place after []) → q ≡ place after []
at_end q after h =
    let e : place q.names q.rest ≡ place after q.rest = ap (λ (ns : Names). place ns q.rest) h.names in
    e ∙ ap (λ (us : List Token). place after us) (none_left h.same refl)

whole : {A : Type 0} (d : ℕ) (a : A) (after : Names) {x : Answer A} → Meets 0 false d d a (place after []) x → x ≡ put a (place after [])
whole d a after (Meets.ok {q = q} h) = ap (λ (p : Place). put a p) (at_end q after h)
whole d a after (Meets.behind l) = absurd (omega arith)
whole d a after (Meets.syntax l) = absurd (omega arith)
whole d a after (Meets.deep w) = let l = w refl (omega arith) in absurd (omega arith)

one_rest : {A : Type 0} (y : Answer A) (a b : A) (p q : Place) → y ≡ put a p → y ≡ put b q → p.rest ≡ q.rest
one_rest {A = A} y a b p q g h = let z : ◌≡◌ {A = A × Place} (a, p) (b, q) = cc in ap (λ (u : A × Place). u.1.rest) z

no_answer : {A : Type 0} (y : Answer A) (b : A) (e : Fault) (q : Place) → y ≡ failed_by e → y ≡ put b q → ⊥
no_answer {A = A} y b e q g h = let z : ◌≡◌ {A = Answer A} (failed_by e) (put b q) = sym g ∙ h in cc

not_over : (ns : Names) (us : List Token) → us ≡ [] → follows (ahead ns us) ≡ false → ⊥
not_over ns [] e h = cc
not_over ns (t ∷ us) e h = cc

module _ (d : ℕ) (some : 0 < d) (m : Site) (names : Names) (ts : List Token) where
  reads_so : (l : List Decl) (after : Names) → Spells d (SpellsIn production d) (decls_before m) (place names ts) l (place after []) → form_in d (decls_before m) names ts ≡ Ok (l, place after [])
  reads_so l after t = whole d l after (
      meets 0 false d d (phrase production d) (SpellsIn production d) (reads_on d) (text_begins d) (λ z w k p q a u. absurd (omega arith)) (λ k p q r a near u. reads_beside 0 false d d k p q r a near u)
      (decls_before m) (decls_fine m) (place names ts) (place names ts) (place after []) l (record { names = refl; same = same_all ts }) t)

  no_list : (l : List Decl) (ns : Names) (us : List Token) → form_in d (decls_before m) names ts ≡ Ok (l, place ns us) → follows (ahead ns us) ≡ false
      → (decls : List Decl) (after : Names) → Spells d (SpellsIn production d) (decls_before m) (place names ts) decls (place after []) → ⊥
  no_list l ns us e h decls after t = not_over ns us (one_rest (form_in d (decls_before m) names ts) l decls (place ns us) (place after []) e (reads_so decls after t)) h

  no_list_by : (e : Fault) → form_in d (decls_before m) names ts ≡ Err e → (decls : List Decl) (after : Names) → Spells d (SpellsIn production d) (decls_before m) (place names ts) decls (place after []) → ⊥
  no_list_by e h decls after t = no_answer (form_in d (decls_before m) names ts) decls e (place after []) h (reads_so decls after t)

-- ---- what is read is spelled so

parts : {ts rest us tail : List Token} → Cut ts rest us tail → (before : List Token) × (ts ≡ before ++ rest) × (us ≡ before ++ tail)
parts Cut.here = ([], refl, refl)
parts (Cut.there {t = t} c) = let p = parts c in (t ∷ p.0, ap (λ (xs : List Token). t ∷ xs) p.1, ap (λ (xs : List Token). t ∷ xs) p.2)

decls_open : (m : Site) → Open (decls_before m)
decls_open site.Header = opened (decls_before site.Header) refl
decls_open site.Module = opened (decls_before site.Module) refl

no_bar : (m : Site) → bars (decls_before m) s.End ≡ false
no_bar site.Header = refl
no_bar site.Module = refl

spelled_so : (d : ℕ) (m : Site) (names ns : Names) (ts us : List Token) (l : List Decl) → form_in d (decls_before m) names ts ≡ Ok (l, place ns us)
    → (before : List Token) × (ts ≡ before ++ us) × Spells d (SpellsIn production d) (decls_before m) (place names before) l (place ns [])
spelled_so d m names ns ts us l e =
    let t : Spells d (SpellsIn production d) (decls_before m) (place names ts) l (place ns us) = subst (Sound (λ a q. Spells d (SpellsIn production d) (decls_before m) (place names ts) a q)) e (sound d (phrase production d) (SpellsIn production d) (reads_on d) (reads_spelled d) (decls_before m) (decls_fine m) (place names ts)) in
    let v = moved d (SpellsIn production d) (may_stand d) (decls_before m) (decls_fine m) (decls_open m) (place names ts) (place ns us) l t [] (Free.free (no_bar m)) in
    let p = parts v.cut in
    (p.0, p.1, subst (λ (vs : List Token). Spells d (SpellsIn production d) (decls_before m) (place names vs) l (place ns [])) (p.2 ∙ append-nil p.0) v.spelled)

-- ---- with as many levels as a list has

pub refused_at : (m : Site) (names ns : Names) (ts us : List Token) (l : List Decl) → form_in spare (decls_before m) names ts ≡ Ok (l, place ns us) → follows (ahead ns us) ≡ false
    → (answer most (Phrase.decls m) names ts ≡ Err (Syntax us)) × ((decls : List Decl) (after : Names) → Lists m names decls ts after → ⊥)
refused_at m names ns ts us l e h = (stops_at spare m names ts l ns us e (omega arith) h, no_list spare (omega arith) m names ts l ns us e h)

pub stopped : (m : Site) (names : Names) (ts : List Token) (r : Stop) → Fails r (form_in spare (decls_before m) names ts) → Fails r (answer most (Phrase.decls m) names ts) × Stops m names ts r
stopped m names ts rust.Memory h = (tt, tt)
stopped m names ts (rust.Syntax us) h = (fails_so spare m names ts (rust.Syntax us) h, no_list_by spare (omega arith) m names ts (Syntax us.now) h)
stopped m names ts (rust.Deep us) h = (fails_so spare m names ts (rust.Deep us) h, no_list_by spare (omega arith) m names ts (Deep us.now) h)

-- ---- from a place of a list

module _ (m : Site) (file : ℕ) (all : List Token) (at : ℕ) (names : Names) (l : at ≤ length all) where
  abbrev ts : List Token
  ts = drop at all

  cut_so : (before rest : List Token) → ts ≡ before ++ rest → at + length before + length rest ≡ length all
  cut_so before rest e = cut_length spare (Phrase.decls m) refl file all at names before rest e l

  pub inside : (ns : Names) (us : List Token) (decls : List Decl) → form_in spare (decls_before m) names ts ≡ Ok (decls, place ns us) → length us ≤ length all
  inside ns us decls e =
      let p = spelled_so spare m names ns ts us decls e in
      let n = cut_so p.0 us p.1 in
      omega arith

  pub lists : (ns : Names) (us : List Token) (decls : List Decl) → form_in spare (decls_before m) names ts ≡ Ok (decls, place ns us) → follows (ahead ns us) ≡ true → IsListed m file all at names decls (length all - length us) ns
  lists ns us decls e h =
      let p = spelled_so spare m names ns ts us decls e in
      let n = cut_so p.0 us p.1 in
      record { before = p.0; rest = us; cut = p.1; spelled = p.2; followed = h; ends = omega arith }

  pub fails : (e : nm.Fault) → refusals.Fails most (Phrase.decls m) file all at names e → IsNoList m file all at names → listed.Fails m file all at names e
  fails (f.Refused r) h n = (h, n)
  fails _ h n = h

  pub fails_by : (ns : Names) (e : nm.Fault) → ns ≡ names → refusals.Fails most (Phrase.decls m) file all at ns e → ((decls : List Decl) (after : Names) → Lists m names decls (take (length all - at) (drop at all)) after → ⊥) → listed.Fails m file all at names e
  fails_by ns e k h n =
      fails e (subst (λ (x : Names). refusals.Fails most (Phrase.decls m) file all at x e) k h)
      (subst (λ (us : List Token). (decls : List Decl) (after : Names) → Lists m names decls us after → ⊥) (take_rest all at) n)
