-- A text that is a list of declarations gives one list and leaves one set of names, and is not refused.
use Rattle.std.proofs.Common.{◌≡◌, ℕ, suc, ◌+◌, ◌<◌, ◌≤◌, true, false, List, [], ◌∷◌, ◌++◌, length, slice_get, get_or, Some, None, Err, refl, sym, ap, subst, ◌∙◌, arith, append-nil}
use Rattle.std.proofs.lemmas.List.{append_assoc, length-append}
use Rattle.std.proofs.lemmas.Option.{slice_get-get_or, slice_get_past}
use Rattle.nm_base.specs.declared.token.Token.{Token}
use Rattle.nm_base.specs.declared.fault.Fault.{Fault}
use Rattle.nm_base.specs.declared.fault.Fault.TheVariants as fault
use Rattle.nesc_tree.specs.declared.contexts.Site.TheVariants as site
use Rattle.nesc_tree.specs.declared.declarations.Decl.{Decl}
use Rattle.nesc_tree.specs.declared.sorts.Sort.{Sort}
use Rattle.nesc_tree.specs.declared.sorts.Sort.TheVariants as s
use Rattle.nesc_tree.specs.Sorts.{Names, ahead}
use Rattle.nesc_tree.specs.Phrase.{Phrase, Of}
use Rattle.nesc_tree.specs.Form.{Form, Place, SpellsIn}
use Rattle.nesc_tree.specs.Reading.{Syntax, Answer, read, phrase, ◌>>=◌}
use Rattle.nesc_grammar.specs.Declarations.{decls_before, end_token}
use Rattle.nesc_grammar.specs.Laws.{Reached, answer, left_by}
use Rattle.nesc_grammar.specs.Production.{production}
use Rattle.nesc_grammar.specs.Reach.{BeginsIn, SpelledIn}
use Rattle.nesc_tree.proofs.Checked.{opened}
use Rattle.nesc_tree.proofs.Entered.{guard_open}
use Rattle.nesc_tree.proofs.Moved.{Cut, Free, moved}
use Rattle.nesc_tree.proofs.Open.{Open, bars}
use Rattle.nesc_grammar.proofs.Instance.{may_stand}
use Rattle.nesc_grammar.proofs.Reach.{reach}
use Rattle.nesc_left_out.specs.Refusals as refusals
use Rattle.nesc_parse_types.specs.Gives.{place}
use Rattle.nesc_parse_list.specs.Listed as listed
use Rattle.nesc_parse_list.specs.Listed.{Lists, IsListed, follows, most, spare}
use Rattle.unit_parsing.specs.Parsing.{Declare, Fails, IsBehind}
use Rattle.wire_reading.specs.Told.{IsOfFiles}
use Rattle.application_laws.proofs.Once.{put, decls_read, header_fine, one_place, one_value}

-- ---- the tokens behind a place

-- behind the last place there is none
nothing_behind : (ts before rest : List Token) (end : ℕ) → ts ≡ before ++ rest → end ≡ 0 + length before → slice_get ts end ≡ None → rest ≡ []
nothing_behind ts before [] end c e h = refl
nothing_behind ts before (t ∷ us) end c e h =
    let n : length ts ≡ length (before ++ (t ∷ us)) = ap length c in
    let m : length (before ++ (t ∷ us)) ≡ length before + length (t ∷ us) = length-append before (t ∷ us) in
    let k : length (t ∷ us) ≡ suc (length us) = refl in
    let l : end < length ts = omega arith in
    let z : slice_get ts end ≡ Some (get_or ts end t) = slice_get-get_or ts end t l in
    absurd cc

something_behind : (ts before rest : List Token) (end : ℕ) (t : Token) → ts ≡ before ++ rest → end ≡ 0 + length before → slice_get ts end ≡ Some t → rest ≡ [] → ⊥
something_behind ts before [] end t c e h z =
    let n : length ts ≡ length (before ++ []) = ap length c in
    let m : length (before ++ []) ≡ length before = ap length (append-nil before) in
    let l : length ts ≤ end = omega arith in
    let y : slice_get ts end ≡ None = slice_get_past ts end l in
    cc
something_behind ts before (u ∷ us) end t c e h z = cc

parts : {ts rest us tail : List Token} → Cut ts rest us tail → (before : List Token) × (ts ≡ before ++ rest) × (us ≡ before ++ tail)
parts Cut.here = ([], refl, refl)
parts (Cut.there {t = t} c) = let p = parts c in (t ∷ p.0, ap (λ (xs : List Token). t ∷ xs) p.1, ap (λ (xs : List Token). t ∷ xs) p.2)

moved_all : {ts us tail : List Token} → Cut ts [] us tail → us ≡ ts ++ tail
moved_all {ts = ts} {us = us} {tail = tail} c =
    let p = parts c in
    let e : p.0 ≡ ts = sym (p.1 ∙ append-nil p.0) in
    p.2 ∙ ap (λ (xs : List Token). xs ++ tail) e

-- ---- the token that ends declarations goes on none of them

ends_by : (P : Sort → Type 0) → P s.End → P s.RBrace → P s.Module → P s.Configuration → P s.Generic → P s.Interface → (x : Sort) → follows x ≡ true → P x
ends_by P a b c d e f s.End h = a
ends_by P a b c d e f s.RBrace h = b
ends_by P a b c d e f s.Module h = c
ends_by P a b c d e f s.Configuration h = d
ends_by P a b c d e f s.Generic h = e
ends_by P a b c d e f s.Interface h = f
ends_by P a b c d e f _ h = absurd cc

no_bar : (x : Sort) → follows x ≡ true → bars (decls_before site.Header) x ≡ false
no_bar x h = ends_by (λ (y : Sort). bars (decls_before site.Header) y ≡ false) refl refl refl refl refl refl x h

header_open : Open (decls_before site.Header)
header_open = opened (decls_before site.Header) refl

-- ---- declarations behind which a token has to stand

nothing_ends : (d : ℕ) (after : Names) → 0 < d → read d (phrase production d) (Form.by end_token) (place after []) ≡ Err (Syntax [])
unfolding read
nothing_ends d after l = guard_open d (end_token s.End) (place after []) (Err (Syntax [])) l

module _ (d : ℕ) (names : Names) (ts : List Token) where
  abbrev ended : Answer (List Decl) → Answer (List Decl)
  ended y = y >>= λ x. read d (phrase production d) (Form.by end_token) x.1 >>= λ t. put x.0 t.1

  ended_is : answer (suc d) (Phrase.decls site.Header) names ts ≡ ended (read d (phrase production d) (decls_before site.Header) (place names ts))
  unfolding phrase read
  ended_is = refl

module _ (file : ℕ) (ts : List Token) (names : Names) where
  header_read : (decls : List Decl) (after : Names) → Lists site.Header names decls ts after → read spare (phrase production spare) (decls_before site.Header) (place names ts) ≡ put decls (place after [])
  header_read decls after t = decls_read spare (omega arith) (place names ts) (place after []) decls t

  -- all of them are declarations
  all_spelled : (decls : List Decl) (after : Names) → Declare file ts names decls after → Lists site.Header names decls ts after
  all_spelled decls after x =
      let is = x.listed in
      let none : is.rest ≡ [] = nothing_behind ts is.before is.rest x.end is.cut is.ends x.whole in
      let all : is.before ≡ ts = sym (is.cut ∙ (ap (λ (us : List Token). is.before ++ us) none ∙ append-nil is.before)) in
      subst (λ (us : List Token). Lists site.Header names decls us after) all is.spelled

  -- ---- one list, and one set of names

  pub one_list : (l m : List Decl) (after behind : Names) → Declare file ts names l after → Declare file ts names m behind → l ≡ m
  one_list l m after behind a b =
      one_value (read spare (phrase production spare) (decls_before site.Header) (place names ts)) l m (place after []) (place behind []) (header_read l after (all_spelled l after a)) (header_read m behind (all_spelled m behind b))

  pub one_set : (l m : List Decl) (after behind : Names) → Declare file ts names l after → Declare file ts names m behind → after ≡ behind
  one_set l m after behind a b =
      let e : place after [] ≡ place behind [] = one_place (read spare (phrase production spare) (decls_before site.Header) (place names ts)) l m (place after []) (place behind []) (header_read l after (all_spelled l after a)) (header_read m behind (all_spelled m behind b)) in
      ap (λ (p : Place). p.names) e

  -- ---- they are not refused

  module _ (decls : List Decl) (after : Names) (t : Lists site.Header names decls ts after) where
    abbrev Begun : List Token → Type 0
    Begun us = BeginsIn most (Phrase.decls site.Header) names us

    no_end : answer most (Phrase.decls site.Header) names ts ≡ Err (Syntax [])
    no_end =
        ended_is spare names ts
        ∙ (ap (ended spare names ts) (header_read decls after t)
        ∙ ap (λ (y : Answer Token). y >>= λ u. put decls u.1) (nothing_ends spare after (omega arith)))

    begun : Begun ts
    begun =
        let k : Phrase = Phrase.decls site.Header in
        let x : (before : List Token) × (ts ≡ before ++ []) × Reached most k names before (Err (Syntax [])) =
        subst (λ (y : Answer (Of k)). (before : List Token) × (ts ≡ before ++ left_by y) × Reached most k names before y) no_end (reach spare k refl names ts) in
        subst Begun (sym (x.1 ∙ append-nil x.0)) x.2.1

    shorter : (us more : List Token) → Begun (us ++ more) → Begun us
    shorter us more b = record { more = more ++ b.more; tree = b.tree; spelled = subst (SpelledIn most (Phrase.decls site.Header) names b.tree) (append_assoc us more b.more) b.spelled }

    not_deep : refusals.IsDeep most (Phrase.decls site.Header) file ts 0 names → ⊥
    not_deep x =
        let d = x.deep in
        let e : ts ≡ (x.before ++ (d.first ∷ [])) ++ d.others = x.cut ∙ (ap (λ (us : List Token). x.before ++ us) d.is ∙ sym (append_assoc x.before (d.first ∷ []) d.others)) in
        d.too_deep (shorter (x.before ++ (d.first ∷ [])) d.others (subst Begun e begun))

    in_one : (e : Fault) → listed.Fails site.Header file ts 0 names e → IsOfFiles e → ⊥
    in_one (fault.Refused x) f a = f.1 decls after t
    in_one (fault.Limit l) f a = not_deep f.0
    in_one (fault.Missing n) f a = absurd f
    in_one (fault.TooLarge m n) f a = absurd f
    in_one fault.ReadFault f a = absurd a
    in_one fault.NoMemory f a = absurd a

    -- other declarations, that end before a token, are read too
    others_read : (l : List Decl) (end : ℕ) (behind : Names) → (x : IsListed site.Header file ts 0 names l end behind) → read spare (phrase production spare) (decls_before site.Header) (place names ts) ≡ put l (place behind x.rest)
    others_read l end behind x =
        let m = moved spare (SpellsIn production spare) (may_stand spare) (decls_before site.Header) header_fine header_open (place names x.before) (place behind []) l x.spelled x.rest (Free.free (no_bar (ahead behind x.rest) x.followed)) in
        let e : m.us ≡ ts = moved_all m.cut ∙ sym x.cut in
        subst (λ (us : List Token). read spare (phrase production spare) (decls_before site.Header) (place names us) ≡ put l (place behind x.rest)) e
        (decls_read spare (omega arith) (place names m.us) (place behind x.rest) l m.spelled)

    not_behind : (e : Fault) → IsBehind file ts names e → ⊥
    not_behind e x =
        let is = x.listed in
        let same : place x.after is.rest ≡ place after [] =
        one_place (read spare (phrase production spare) (decls_before site.Header) (place names ts)) x.decls decls (place x.after is.rest) (place after []) (others_read x.decls x.end x.after is) (header_read decls after t) in
        something_behind ts is.before is.rest x.end x.token is.cut is.ends x.stands (ap (λ (p : Place). p.rest) same)

    fails : (e : Fault) → Fails file ts names e → IsOfFiles e → ⊥
    fails e (Fails.in_one f) a = in_one e f a
    fails e (Fails.behind x) a = not_behind e x

  pub not_refused : (decls : List Decl) (after : Names) → Declare file ts names decls after → (e : Fault) → Fails file ts names e → IsOfFiles e → ⊥
  not_refused decls after x e f a = fails decls after (all_spelled decls after x) e f a
