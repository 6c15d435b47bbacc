-- What the file of a component or an interface is answered by, from where reading it ends.
use Rattle.std.proofs.Common.{◌≡◌, ℕ, ◌-◌, ◌+◌, ◌≤◌, ◌<◌, Bool, true, false, cond, List, [], ◌∷◌, ◌++◌, length, take, Option, Some, None, Ok, Err, refl, sym, ap, subst, ◌∙◌, arith, append_assoc, append-nil}
use Rattle.std.specs.Prelude.{bytes_eq}
use Rattle.std.proofs.lemmas.List.{length-append}
use Rattle.std.proofs.lemmas.Slice.Eq.{bytes_eq-Decides}
use Rattle.nm_base.specs.declared.pos.Pos.{Pos}
use Rattle.nm_base.specs.declared.token.Token.{Token}
use Rattle.nm_base.specs.declared.fault.Fault as nm
use Rattle.nm_base.specs.declared.fault.Fault.TheVariants as f
use Rattle.nm_base.specs.declared.refusal.Left.{Left}
use Rattle.nm_base.specs.declared.refusal.Refusal.TheVariants as r
use Rattle.nm_base.specs.declared.limit.Which.TheVariants as w
use Rattle.nesc_tree.specs.declared.components.Unit as unit
use Rattle.nesc_tree.specs.Sorts.{Names}
use Rattle.nesc_tree.specs.Phrase.{Phrase, Of, fits_one_level}
use Rattle.nesc_tree.specs.Form.{Place, SpellsIn}
use Rattle.nesc_tree.specs.Reading.{Syntax, Deep, Answer}
use Rattle.nesc_tree.proofs.Sound.{Sound}
use Rattle.nesc_grammar.specs.Production.{production}
use Rattle.nesc_grammar.specs.Laws.{answer, left_by, Reached}
use Rattle.nesc_grammar.specs.Reach.{SpelledIn, Spelled, BeginsIn, Begins, IsReach, IsTooDeep}
use Rattle.nesc_grammar.proofs.Instance.{reads_spelled}
use Rattle.nesc_grammar.proofs.Reach.{reach}
use Rattle.nesc_parse_types.specs.Gives.{form_in, place}
use Rattle.nesc_left_out.specs.Refusals as refusals
use Rattle.nesc_left_out.specs.Refusals.{IsLeft}
use Rattle.nesc_left_out.specs.Left.{IsListed}
use Rattle.nesc_left_out.specs.Probes.{TellsForm}
use Rattle.nesc_parse_comp.specs.declared.kinds.UnitKind.{UnitKind}
use Rattle.nesc_parse_comp.specs.declared.kinds.UnitKind.TheVariants as kind
use Rattle.nesc_parse_comp.specs.Named.{name_of}
use Rattle.nesc_parse_comp.specs.Reads as reads
use Rattle.nesc_parse_comp.specs.Units as units
use Rattle.nesc_parse_comp.specs.Units.{most, spare, phrase_of, differs, other_name, IsUnit, IsOther, IsRefused, IsDeep}
use Rattle.nesc_parse_comp.specs.Behind.{IsBehind}
use Rattle.nesc_parse_comp.proofs.Forms.{interface_unit, component_unit}
use Rattle.nesc_parse_comp.proofs.Words.{IsNamed, interface_is_named, component_is_named}

-- ---- the tokens before the rest

take_front : (xs ys : List Token) → take (length xs) (xs ++ ys) ≡ xs
take_front [] ys = refl
take_front (x ∷ xs) ys = ap (λ (us : List Token). x ∷ us) (take_front xs ys)

module _ (ts before rest : List Token) (e : ts ≡ before ++ rest) where
  lengths : length before + length rest ≡ length ts
  lengths =
      let n : length ts ≡ length (before ++ rest) = ap length e in
      let m = length-append before rest in
      omega arith

  pub fits : length rest ≤ length ts
  fits = let n = lengths in omega arith

  pub front : take (length ts - length rest) ts ≡ before
  front =
      let n = lengths in
      let z : length ts - length rest ≡ length before = omega arith in
      ap (λ (m : ℕ). take m ts) z ∙ (ap (λ (us : List Token). take (length before) us) e ∙ take_front before rest)

-- ---- texts of a phrase

module _ (k : Phrase) (names : Names) where
  abbrev again : (before : List Token) (t : Token) (us more : List Token) → (before ++ (t ∷ us)) ++ more ≡ (before ++ (t ∷ [])) ++ (us ++ more)
  again before t us more = append_assoc before (t ∷ us) more ∙ sym (append_assoc before (t ∷ []) (us ++ more))

  shorter_in : (levels : ℕ) (before : List Token) (t : Token) (us : List Token) → BeginsIn levels k names (before ++ (t ∷ us)) → BeginsIn levels k names (before ++ (t ∷ []))
  shorter_in levels before t us b = record { more = us ++ b.more; tree = b.tree; spelled = subst (SpelledIn levels k names b.tree) (again before t us b.more) b.spelled }

  shorter : (before : List Token) (t : Token) (us : List Token) → Begins k names (before ++ (t ∷ us)) → Begins k names (before ++ (t ∷ []))
  shorter before t us b = record { levels = b.levels; begins = shorter_in b.levels before t us b.begins }

  whole : (ts : List Token) (tree : Of k) (levels : ℕ) → SpelledIn levels k names tree ts → BeginsIn levels k names ts
  whole ts tree levels h = record { more = []; tree = tree; spelled = subst (SpelledIn levels k names tree) (sym (append-nil ts)) h }

  -- the reach is not all the tokens
  not_all : (before rest : List Token) → IsReach k names before rest → (t : Token) (us : List Token) → rest ≡ t ∷ us → (tree : Of k) → Spelled k names tree (before ++ rest) → ⊥
  not_all before rest h t us e tree s =
      let b : Begins k names (before ++ (t ∷ us)) = record { levels = s.levels; begins = whole (before ++ (t ∷ us)) tree s.levels (subst (λ (vs : List Token). SpelledIn s.levels k names tree (before ++ vs)) e s.spelled) } in
      h.longest t us e (shorter before t us b)

  not_spelled : (before rest : List Token) → IsReach k names before rest → ((tree : Of k) → Spelled k names tree before → ⊥) → (tree : Of k) → Spelled k names tree (before ++ rest) → ⊥
  not_spelled before [] h n tree s = n tree (subst (Spelled k names tree) (append-nil before) s)
  not_spelled before (t ∷ us) h n tree s = not_all before (t ∷ us) h t us refl tree s

  -- there is one reach
  longer : (start us : List Token) (rest tail : List Token) → IsReach k names start rest → Begins k names (start ++ us) → rest ≡ us ++ tail → us ≡ []
  longer start [] rest tail h b e = refl
  longer start (t ∷ us) rest tail h b e = absurd (h.longest t (us ++ tail) e (shorter start t us b))

  one_reach : (start xs ys rest tail : List Token) → xs ++ rest ≡ ys ++ tail → IsReach k names (start ++ xs) rest → IsReach k names (start ++ ys) tail → xs ≡ ys
  one_reach start [] ys rest tail e h g = sym (longer start ys rest tail (subst (λ (us : List Token). IsReach k names us rest) (append-nil start) h) g.begins e)
  one_reach start (x ∷ xs) [] rest tail e h g = longer start (x ∷ xs) tail rest (subst (λ (us : List Token). IsReach k names us tail) (append-nil start) g) h.begins (sym e)
  one_reach start (x ∷ xs) (y ∷ ys) rest tail e h g =
      let head : x ≡ y = cc in
      let more : xs ++ rest ≡ ys ++ tail = cc in
      let left : IsReach k names ((start ++ (x ∷ [])) ++ xs) rest = subst (λ (us : List Token). IsReach k names us rest) (sym (append_assoc start (x ∷ []) xs)) h in
      let right : IsReach k names ((start ++ (x ∷ [])) ++ ys) tail = subst (λ (us : List Token). IsReach k names us tail) (ap (λ (t : Token). start ++ (t ∷ ys)) (sym head) ∙ sym (append_assoc start (x ∷ []) ys)) g in
      ap (λ (us : List Token). x ∷ us) (one_reach (start ++ (x ∷ [])) xs ys rest tail more left right) ∙ ap (λ (t : Token). t ∷ ys) head

  -- where reading ends at the reach no token of it is too deep
  not_deep : (levels : ℕ) (start xs ys rest tail : List Token) → xs ++ rest ≡ ys ++ tail → IsReach k names (start ++ xs) rest → BeginsIn levels k names (start ++ xs) → IsTooDeep levels k names (start ++ ys) tail → ⊥
  not_deep levels start [] [] rest tail e h b g = h.longest g.first g.others (e ∙ g.is) g.goes_on
  not_deep levels start [] (y ∷ ys) rest tail e h b g =
      let short : IsReach k names start rest = subst (λ (us : List Token). IsReach k names us rest) (append-nil start) h in
      short.longest y (ys ++ tail) e (shorter start y ys (record { levels = levels; begins = g.begins }))
  not_deep levels start (x ∷ xs) [] rest tail e h b g =
      let first : ◌≡◌ {A = List Token} (x ∷ (xs ++ rest)) (g.first ∷ g.others) = e ∙ g.is in
      let same : x ≡ g.first = cc in
      let deep : BeginsIn levels k names (start ++ (x ∷ [])) = shorter_in levels start x xs b in
      g.too_deep (subst (BeginsIn levels k names) (ap (λ (t : Token). start ++ (t ∷ [])) same ∙ ap (λ (us : List Token). us ++ (g.first ∷ [])) (sym (append-nil start))) deep)
  not_deep levels start (x ∷ xs) (y ∷ ys) rest tail e h b g =
      let head : x ≡ y = cc in
      let more : xs ++ rest ≡ ys ++ tail = cc in
      let left : start ++ (x ∷ xs) ≡ (start ++ (x ∷ [])) ++ xs = sym (append_assoc start (x ∷ []) xs) in
      let right : start ++ (y ∷ ys) ≡ (start ++ (x ∷ [])) ++ ys = ap (λ (t : Token). start ++ (t ∷ ys)) (sym head) ∙ sym (append_assoc start (x ∷ []) ys) in
      not_deep levels (start ++ (x ∷ [])) xs ys rest tail more (subst (λ (us : List Token). IsReach k names us rest) left h) (subst (BeginsIn levels k names) left b) (subst (λ (us : List Token). IsTooDeep levels k names us tail) right g)

-- ---- where reading ends

fits_one : (k : UnitKind) → fits_one_level (phrase_of k) ≡ true
fits_one kind.Interface = refl
fits_one kind.Component = refl

-- behind a unit, or where none goes on
pub record IsStop (k : UnitKind) (names : Names) (all rest : List Token) : Type 0 where
  pub before : List Token
  pub cut : all ≡ before ++ rest
  pub reach : IsReach (phrase_of k) names before rest
  pub begins : BeginsIn most (phrase_of k) names before

module _ (p : Phrase) (one : fits_one_level p ≡ true) (names : Names) (all : List Token) where
  stop_of : (x : Answer (Of p)) → answer most p names all ≡ x → (before : List Token) × (all ≡ before ++ left_by x) × Reached most p names before x
  stop_of x e = subst (λ (y : Answer (Of p)). (before : List Token) × (all ≡ before ++ left_by y) × Reached most p names before y) e (reach spare p one names all)

module _ (names : Names) (all : List Token) where
  pub behind_unit : (k : UnitKind) (after : Names) (rest : List Token) (u : unit.Unit) → form_in spare (reads.unit_form k) names all ≡ Ok (u, place after rest) → IsStop k names all rest
  behind_unit kind.Interface after rest u e =
      let s = stop_of Phrase.interface refl names all (Ok (u, place after rest)) (interface_unit names all ∙ e) in
      record { before = s.0; cut = s.1; reach = s.2.0; begins = whole Phrase.interface names s.0 u most s.2.1 }
  behind_unit kind.Component after rest u e =
      let s = stop_of Phrase.component refl names all (Ok (u, place after rest)) (component_unit names all ∙ e) in
      record { before = s.0; cut = s.1; reach = s.2.0; begins = whole Phrase.component names s.0 u most s.2.1 }

  pub where_refused : (k : UnitKind) (rest : List Token) → answer most (phrase_of k) names all ≡ Err (Syntax rest) → IsStop k names all rest
  where_refused k rest e =
      let s = stop_of (phrase_of k) (fits_one k) names all (Err (Syntax rest)) e in
      record { before = s.0; cut = s.1; reach = s.2.0; begins = s.2.1 }

  pub where_deep : (k : UnitKind) (rest : List Token) → answer most (phrase_of k) names all ≡ Err (Deep rest) → (before : List Token) × (all ≡ before ++ rest) × IsTooDeep most (phrase_of k) names before rest
  where_deep k rest e = stop_of (phrase_of k) (fits_one k) names all (Err (Deep rest)) e

-- ---- the name

same_text : (t : Token) (name : List ℕ) → differs name (Some t) ≡ None → t.text ≡ name
same_text t name h =
    let by : (b : Bool) → bytes_eq t.text name ≡ b → ◌≡◌ {A = Option Pos} (cond b None (Some t.pos)) None → t.text ≡ name = elim [
      | true ↦ λ e k. (bytes_eq-Decides t.text name).0 e
      | false ↦ λ e k. absurd cc
    ] in
    by (bytes_eq t.text name) refl h

named_so : (ts : List Token) (name : List ℕ) (u : unit.Unit) → IsNamed ts u → other_name name ts ≡ None → name_of u.part ≡ Some name
named_so ts name u n h = n.2 ∙ ap Some (same_text n.0 name (ap (differs name) (sym n.1) ∙ h))

is_named : (k : UnitKind) (p q : Place) (u : unit.Unit) → units.SpellsUnit k p u q → IsNamed p.rest u
is_named kind.Interface p q u t = interface_is_named most p q u t
is_named kind.Component p q u t = component_is_named most p q u t

spelled_so : (k : UnitKind) (names after : Names) (ts rest : List Token) (u : unit.Unit) → form_in spare (reads.unit_form k) names ts ≡ Ok (u, place after rest) → units.SpellsUnit k (place names ts) u (place after rest)
spelled_so kind.Interface names after ts rest u e = subst (Sound (λ a q. SpellsIn production most Phrase.interface (place names ts) a q)) (interface_unit names ts ∙ e) (reads_spelled most Phrase.interface (place names ts))
spelled_so kind.Component names after ts rest u e = subst (Sound (λ a q. SpellsIn production most Phrase.component (place names ts) a q)) (component_unit names ts ∙ e) (reads_spelled most Phrase.component (place names ts))

none_left : (ts : List Token) → length ts < 1 → ts ≡ []
none_left [] l = refl
none_left (t ∷ ts) l = absurd (omega arith)

-- ---- what is answered

module _ (k : UnitKind) (file : ℕ) (all : List Token) (name : List ℕ) (names : Names) where
  abbrev read_front : List Token → List Token
  read_front rest = take (length all - length rest) all

  abbrev Fails : nm.Fault → Type 0
  Fails e = units.Fails k file all name names e

  -- what was found in the tokens before
  pub told_name : (rest us : List Token) (x y : Option Pos) → us ≡ read_front rest → x ≡ other_name name us → x ≡ y → other_name name (read_front rest) ≡ y
  told_name rest us x y e g h = ap (other_name name) (sym e) ∙ (sym g ∙ h)

  own_name : (before rest : List Token) → all ≡ before ++ rest → other_name name (read_front rest) ≡ None → other_name name before ≡ None
  own_name before rest cut h = ap (other_name name) (sym (front all before rest cut)) ∙ h

  a_unit : (u : unit.Unit) (after : Names) → form_in spare (reads.unit_form k) names all ≡ Ok (u, place after []) → other_name name (read_front []) ≡ None → IsUnit k file all name names u after
  a_unit u after e h =
      let s = spelled_so k names after all [] u e in
      record { spelled = s; own = named_so all name u (is_named k (place names all) (place after []) u s) (own_name all [] (sym (append-nil all)) h) }

  pub whole_unit : (rest : List Token) (u : unit.Unit) (after : Names) → length rest < 1 → form_in spare (reads.unit_form k) names all ≡ Ok (u, place after rest) → other_name name (read_front rest) ≡ None → IsUnit k file all name names u after
  whole_unit rest u after l e h =
      let z : rest ≡ [] = none_left rest l in
      a_unit u after (subst (λ (us : List Token). form_in spare (reads.unit_form k) names all ≡ Ok (u, place after us)) z e) (subst (λ (us : List Token). other_name name (read_front us) ≡ None) z h)

  -- another name among the tokens that were read
  wrong_name : (before rest : List Token) → all ≡ before ++ rest → BeginsIn most (phrase_of k) names before → (pos : Pos) → other_name name (read_front rest) ≡ Some pos → Fails (f.Refused (r.WrongName pos))
  wrong_name before rest cut b pos h = record { before = before; rest = rest; cut = cut; begins = b; other = ap (other_name name) (sym (front all before rest cut)) ∙ h }

  -- tokens behind a whole unit
  pub behind : (rest : List Token) (s : IsStop k names all rest) → other_name name (read_front rest) ≡ None → (t : Token) (others : List Token) → rest ≡ t ∷ others → (e : nm.Fault) → IsBehind k names (read_front rest) t e → Fails e
  behind rest s h t others is e g = by e g
    where
      refused : (pos : Pos) → pos ≡ t.pos → IsRefused k file all name names pos
      refused pos p = record {
        before = s.before;
        rest = rest;
        cut = s.cut;
        reach = s.reach;
        begins = s.begins;
        own = own_name s.before rest s.cut h;
        unspelled = λ tree u. not_all (phrase_of k) names s.before rest s.reach t others is tree (subst (Spelled (phrase_of k) names tree) s.cut u);
        stands = p ∙ ap (λ (us : List Token). refusals.place file all us) (sym is);
      }

      first_is : (u : Token) (us : List Token) → rest ≡ u ∷ us → u ≡ t
      first_is u us q = let z : u ∷ us ≡ t ∷ others = sym q ∙ is in cc

      plain : TellsForm (phrase_of k) names (read_front rest) t None → (word : Left) → IsLeft (phrase_of k) names s.before rest word → ⊥
      plain tells word x = subst (λ (us : List Token). TellsForm (phrase_of k) names us t None) (front all s.before rest s.cut) tells word x.at (subst (λ (y : Token). IsListed y word x.at) (first_is x.first x.others x.is) x.listed) x.meant

      left : (word : Left) → TellsForm (phrase_of k) names (read_front rest) t (Some word) → IsLeft (phrase_of k) names s.before rest word
      left word tells =
          let w : TellsForm (phrase_of k) names s.before t (Some word) = subst (λ (us : List Token). TellsForm (phrase_of k) names us t (Some word)) (front all s.before rest s.cut) tells in
          record { first = t; others = others; is = is; at = w.0; listed = w.1; meant = w.2 }

      by : (e : nm.Fault) → IsBehind k names (read_front rest) t e → Fails e
      by (f.Refused (r.Syntax pos)) g = (refused pos g.0, plain g.1)
      by (f.Refused (r.LeftOut pos word)) g = (refused pos g.0, left word g.1)
      by f.NoMemory g = tt
      by _ g = absurd g

  -- no text goes on with the first token of the rest
  pub refused_so : (rest : List Token) (s : IsStop k names all rest) → other_name name (read_front rest) ≡ None → (e : nm.Fault) → refusals.Fails most (phrase_of k) file all 0 names e → Fails e
  refused_so rest s h e g = by e g
    where
      refused : (pos : Pos) → refusals.IsRefused most (phrase_of k) file all 0 names pos → IsRefused k file all name names pos
      refused pos x =
          let same : s.before ≡ x.before = one_reach (phrase_of k) names [] s.before x.before rest x.rest (sym s.cut ∙ x.cut) s.reach x.reach in
          record {
            before = x.before;
            rest = x.rest;
            cut = x.cut;
            reach = x.reach;
            begins = x.begins;
            own = ap (other_name name) (sym same) ∙ own_name s.before rest s.cut h;
            unspelled = λ tree u. not_spelled (phrase_of k) names x.before x.rest x.reach x.unspelled tree (subst (Spelled (phrase_of k) names tree) x.cut u);
            stands = x.stands;
          }

      by : (e : nm.Fault) → refusals.Fails most (phrase_of k) file all 0 names e → Fails e
      by (f.Refused (r.Syntax pos)) g = (refused pos g.0, g.1)
      by (f.Refused (r.LeftOut pos word)) g = (refused pos g.0, g.1)
      by (f.Limit l) g = absurd (not_deep (phrase_of k) names most [] s.before g.0.before rest g.0.rest (sym s.cut ∙ g.0.cut) s.reach s.begins g.0.deep)
      by f.NoMemory g = tt
      by _ g = absurd g

  pub deep_fits : (rest : List Token) → answer most (phrase_of k) names all ≡ Err (Deep rest) → length rest ≤ length all
  deep_fits rest e = let s = where_deep names all k rest e in fits all s.0 rest s.1

  pub wrong_deep : (rest : List Token) → answer most (phrase_of k) names all ≡ Err (Deep rest) → (pos : Pos) → other_name name (read_front rest) ≡ Some pos → Fails (f.Refused (r.WrongName pos))
  wrong_deep rest e pos h = let s = where_deep names all k rest e in wrong_name s.0 rest s.1 s.2.begins pos h

  pub wrong_stop : (rest : List Token) (s : IsStop k names all rest) (pos : Pos) → other_name name (read_front rest) ≡ Some pos → Fails (f.Refused (r.WrongName pos))
  wrong_stop rest s pos h = wrong_name s.before rest s.cut s.begins pos h

  pub stop_fits : (rest : List Token) → IsStop k names all rest → length rest ≤ length all
  stop_fits rest s = fits all s.before rest s.cut

  -- what was read begins a text
  pub front_begins : (rest : List Token) → IsStop k names all rest → BeginsIn most (phrase_of k) names (read_front rest)
  front_begins rest s = subst (BeginsIn most (phrase_of k) names) (sym (front all s.before rest s.cut)) s.begins

  pub deep_so : (rest : List Token) → answer most (phrase_of k) names all ≡ Err (Deep rest) → other_name name (read_front rest) ≡ None → Fails (f.Limit (record { which = w.Depth; have = 201 }))
  deep_so rest e h =
      let s = where_deep names all k rest e in
      (record { before = s.0; rest = rest; cut = s.1; deep = s.2; own = own_name s.0 rest s.1 h }, refl)

  -- ---- where the names were given back

  pub begins_at : (ns : Names) (us rest : List Token) → ns ≡ names → us ≡ read_front rest → IsStop k names all rest → BeginsIn most (phrase_of k) ns us
  begins_at ns us rest e g s = subst (λ (ms : Names). BeginsIn most (phrase_of k) ms us) (sym e) (subst (BeginsIn most (phrase_of k) names) (sym g) (front_begins rest s))

  pub behind_at : (ns : Names) (us rest : List Token) → ns ≡ names → us ≡ read_front rest → IsStop k names all rest → other_name name (read_front rest) ≡ None
      → (t : Token) (others : List Token) → rest ≡ t ∷ others → (e : nm.Fault) → IsBehind k ns us t e → Fails e
  behind_at ns us rest n g s h t others is e b = behind rest s h t others is e (subst (λ (vs : List Token). IsBehind k names vs t e) g (subst (λ (ms : Names). IsBehind k ms us t e) n b))

  pub fails_at : (ns : Names) (e : nm.Fault) → ns ≡ names → units.Fails k file all name ns e → Fails e
  fails_at ns e n h = subst (λ (ms : Names). units.Fails k file all name ms e) n h
