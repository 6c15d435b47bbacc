-- The size of an expression is printed, and read again as the same up to places.
use Rattle.std.proofs.Common.{◌≡◌, ℕ, zero, suc, ◌≤◌, Bool, true, false, ◌&&◌, cond, List, [], ◌∷◌, ◌++◌, refl, sym, ap, subst, ◌∙◌, arith}
use Rattle.std.specs.Prelude.{nat_le, codes}
use Rattle.nm_base.specs.declared.pos.Pos.{Pos}
use Rattle.nm_base.specs.declared.token.Token.{Token}
use Rattle.nesc_tree.proofs.Same.{same_is}
use Rattle.nesc_tree.specs.declared.sorts.Sort.{Sort}
use Rattle.nesc_tree.specs.declared.sorts.Sort.TheVariants as s
use Rattle.nesc_tree.specs.declared.tree.PreOp.{PreOp}
use Rattle.nesc_tree.specs.declared.tree.PreOp.TheVariants as pre
use Rattle.nesc_tree.specs.declared.operand.Operand.{Operand}
use Rattle.nesc_tree.specs.Plain as p
use Rattle.nesc_tree.specs.View.{expr_of}
use Rattle.nesc_tree.specs.Sorts.{Names, ahead, same_sort}
use Rattle.nesc_tree.specs.Phrase.{Phrase, begins_type, is_operator}
use Rattle.nesc_tree.specs.Form.{Form, Place, next, goes, Chain, Spells, SpellsIn}
use Rattle.nesc_grammar.specs.Production.{production}
use Rattle.nesc_grammar.specs.Grammar as gr
use Rattle.nesc_grammar.specs.Grammar.{Growth, grown, operation, primary, may, fits, binds, needs, somewhere}
use Rattle.nesc_print_words.specs.Lexemes.{sign, in_parentheses}
use Rattle.nesc_print_words.specs.Expressions.{level_of, expr_words, words_at}
use Rattle.nesc_print_laws.specs.Placeless.{nowhere, placeless}
use Rattle.nesc_print_laws.proofs.Texts.{Read, at, Has, Prints, Any, lead, lead_any, leads_of, has_token, has_seq, has_map, has_by, has_by_some, has_phrase}
use Rattle.nesc_print_laws.proofs.Signs
use Rattle.nesc_print_laws.proofs.Signs.{prefix_sorted, prefix_sort}
use Rattle.nesc_print_laws.proofs.Follows.{may_up, infix_low, not_both, no_type, right_follows, le_trans}
use Rattle.nesc_print_laws.proofs.Runs.{Bare, Is, Same, Turns, Opened, Runs, leaf, whole, operand, sub_begins}
use Rattle.nesc_print_laws.proofs.More.{phrase_more}
use Rattle.nesc_print_laws.proofs.Views as view

-- level and height do not hang on where it starts
abbrev pub Steady : (Token → Operand) → Type 0
Steady f = (x y : Token) → ((f x).level ≡ (f y).level) × ((f x).height ≡ (f y).height)

abbrev pub body_of : ℕ → Sort → Place → ((Token → Operand) → Token → Operand) → Place → Type 0
body_of spare x = Spells spare (SpellsIn production spare) (gr.map (λ (g : Growth) (f : Token → Operand) (o : Token). grown g (f o)) (operation x))

abbrev pub Behind : ℕ → (Token → Operand) → Place → (Token → Operand) → Place → Type 0
Behind spare b r a p = Chain spare (goes (may 15) (λ (f : Token → Operand). fits (f somewhere))) (λ f. (f somewhere).height) (body_of spare) b r a p

-- the same turns, whatever the opened expression starts at
pub record Unopened (spare : ℕ) (t : Token) (first : Token → Operand) (p : Place) (a : Operand) (q : Place) : Type 0 where
  pub value : Token → Operand
  pub is : value t ≡ a
  pub steady : Steady value
  pub turns : {b : Token → Operand} {r : Place} → Behind spare b r value q → Behind spare b r first p

pub unopened : (spare : ℕ) (t : Token) (first : Token → Operand) {p : Place} {f : Operand} {a : Operand} {q : Place} → first t ≡ f → Steady first → Turns spare 15 f p a q → Unopened spare t first p a q
unfolding Spells
unopened spare t first h k Turns.none = record { value = first; is = h; steady = k; turns = λ c. c }
unopened spare t first {p = p} h k (Turns.more {a = a} {q = q} {r = r} f u g w s) = by (unopened spare t first h k u)
  where
    by : Unopened spare t first p a q → Unopened spare t first p (f a) r
    by v = record {
      value = λ o. grown s.0 (v.value o);
      is = ap (grown s.0) v.is ∙ sym (ap (λ (z : Operand → Operand). z a) s.5);
      steady = λ x y. (refl, ap (λ (n : ℕ). suc (Rattle.std.specs.Prelude.max n s.0.height)) (v.steady x y).1);
      turns = λ c. v.turns (Chain.turn (subst (λ (n : ℕ). (may 15 (next q) && nat_le (needs (next q)) n) ≡ true) (sym level) g) (subst (λ (n : ℕ). n ≤ spare) (sym height) w) (s.0, tt, s.2, s.3, s.4, refl) c);
    }
      where
        level : (v.value somewhere).level ≡ a.level
        level = (v.steady somewhere t).0 ∙ ap (λ (z : Operand). z.level) v.is

        height : (v.value somewhere).height ≡ a.height
        height = (v.steady somewhere t).1 ∙ ap (λ (z : Operand). z.height) v.is

-- what the expression of level 15 spells from a parenthesis on is spelled behind it as an opened one
and_no : (b : Bool) → (b && false) ≡ false
and_no true = refl
and_no false = refl

record Bracketed (e : p.Expr) (from to : Place) : Type 0 where
  value : Token → Operand
  paren : Token
  middle : Place
  opens : from ≡ record { names = middle.names; rest = paren ∷ middle.rest }
  is_paren : Rattle.nesc_tree.specs.Sorts.sort middle.names paren ≡ s.LParen
  same : Same e (value paren)
  levels : ℕ
  spelled : SpellsIn production levels Phrase.opened middle value to

module _ (spare : ℕ) (from to : Place) (a : Operand) where
  behind_paren : (o : Opened spare 15 from a to) → next from ≡ s.LParen → may 15 (next to) ≡ false → (e : p.Expr) → Same e a → Bracketed e from to
  unfolding Spells SpellsIn
  behind_paren o x c e same = by (subst (λ (y : Sort). Spells spare (SpellsIn production spare) (primary false y) from o.first o.behind) x o.begins)
    where
      last : (f : Token → Operand) → goes (may 15) (λ (g : Token → Operand). fits (g somewhere)) f (next to) ≡ false
      last f = not_both (is_operator (next to)) (nat_le 15 (binds (next to))) (fits (f somewhere) (next to)) c

      by : Spells spare (SpellsIn production spare) (gr.bracketed_expr false) from o.first o.behind → Bracketed e from to
      by t = parens_of t.0 t.2 t.1 t.3 t.4 t.5
        where
          parens_of : (paren : Token) (middle : Place) (f : Token → Operand) → Spells spare (SpellsIn production spare) (gr.one s.LParen) from paren middle → Spells spare (SpellsIn production spare) (Form.by (gr.bracketed false)) middle f o.behind → o.first ≡ f paren
              → Bracketed e from to
          parens_of paren middle f w h z = opened_by (subst (λ (b : Bool). Spells spare (SpellsIn production spare) (gr.if_type b gr.cast gr.parens) middle f o.behind) (and_no (begins_type (next middle))) h)
            where
              opened_by : Spells spare (SpellsIn production spare) gr.parens middle f o.behind → Bracketed e from to
              opened_by i =
                  let k : Steady f = subst Steady (sym i.5) (λ x y. (refl, refl)) in
                  let u = unopened spare paren f (sym z) k o.turns in record {
                    value = u.value;
                    paren = paren;
                    middle = middle;
                    opens = subst (λ (v : Token). from ≡ record { names = middle.names; rest = v ∷ middle.rest }) (sym w.3) w.1;
                    is_paren = subst (λ (v : Token). Rattle.nesc_tree.specs.Sorts.sort middle.names v ≡ s.LParen) (sym w.3) w.2;
                    same = ap (λ (v : Operand). placeless (expr_of v.expr)) u.is ∙ same;
                    levels = suc spare;
                    spelled = (f, o.behind, i, u.turns (Chain.done (last u.value)));
                  }

opened_begins : (spare : ℕ) (u v : Place) (f : Token → Operand) → SpellsIn production spare Phrase.opened u f v → begins_type (next u) ≡ false
unfolding Spells SpellsIn
opened_begins zero u v f h = absurd h
opened_begins (suc spare) u v f h = no_type (next u) (sub_begins 0 (λ a. a) spare u h.2.2 h.2.0 h.2.3)

opened_of : (spare : ℕ) (u v : Place) (f : Token → Token → Operand) → Spells spare (SpellsIn production spare) gr.size_opened u f v → begins_type (next u) ≡ false
unfolding Spells
opened_of spare u v f t = opened_begins spare u v t.0 t.1

sized_at : (y : Sort) → same_sort y s.LParen ≡ false → (spare : ℕ) (u v : Place) (f : Token → Operand) → Spells spare (SpellsIn production spare) (gr.map gr.size_of_expr (gr.expr 14)) u f v → Spells spare (SpellsIn production spare) (gr.sized y) u f v
sized_at s.LParen h spare u v f t = absurd cc
sized_at _ h spare u v f t = t

prefix_closed : (o : PreOp) → same_sort (prefix_sort o) s.LParen ≡ false
prefix_closed pre.Inc = refl
prefix_closed _ = refl

no : {A : Type 0} {b : Bool} → b ≡ true → b ≡ false → A
no g h = absurd cc

-- an expression of the level of a prefix begins with none
not_opened : (ns : Names) (e : p.Expr) → nat_le 14 (level_of e) ≡ true → nat_le 15 (level_of e) ≡ false → (ts us : List Token) → Read (expr_words e) ts us → same_sort (ahead ns ts) s.LParen ≡ false
not_opened ns (p.unary o e at) g h [] us r = elim r [ ]
not_opened ns (p.unary o e at) g h (t ∷ ts) us (Read.reads _ w r) = subst (λ (y : Sort). same_sort y s.LParen ≡ false) (sym ((prefix_sorted o).is t w)) (prefix_closed o)
not_opened ns (p.size_of_expr e at) g h [] us r = elim r [ ]
not_opened ns (p.size_of_expr e at) g h (t ∷ ts) us (Read.reads _ w r) = subst (λ (y : Sort). same_sort y s.LParen ≡ false) (sym (Signs.sizeof_sorted.is t w)) refl
not_opened ns (p.size_of_type e at) g h [] us r = elim r [ ]
not_opened ns (p.size_of_type e at) g h (t ∷ ts) us (Read.reads _ w r) = subst (λ (y : Sort). same_sort y s.LParen ≡ false) (sym (Signs.sizeof_sorted.is t w)) refl
not_opened ns (p.binary o a b at) g h ts us r = no g (infix_low o)
not_opened ns (p.assign o a b at) g h ts us r = absurd cc
not_opened ns (p.choice a b c at) g h ts us r = absurd cc
not_opened ns (p.comma a b at) g h ts us r = absurd cc
not_opened ns (p.cast t e at) g h ts us r = absurd cc
not_opened ns _ g h ts us r = absurd cc

module _ {ns : Names} (at' : Pos) {e : p.Expr} (b : Bare ns e) where
  abbrev Sized : (Token → Operand) → Type 0
  Sized f = (o : Token) → Is (p.size_of_expr e at') (f o)

  sized_is : (a : Operand) → Same e a → Sized (gr.size_of_expr a)
  sized_is a h o = record { same = ap placeless (view.size_of_expr_view o.pos a.expr) ∙ ap (λ u. p.size_of_expr u nowhere) h; level = refl }

  parens_form : Prints ns ns gr.parens (expr_words e ++ (sign (codes ")") ∷ [])) Any (λ f. (t : Token) → Same e (f t))
  parens_form = has_seq (whole b (λ a h. h)) (lead s.RParen Signs.closing_sorted refl) (has_token Signs.closing_sorted (λ t w. w)) (λ a t h w o. h)

  opened_form : Prints ns ns (production Phrase.opened) (expr_words e ++ (sign (codes ")") ∷ [])) (λ x. may 14 x ≡ false) (λ f. (t : Token) → Same e (f t))
  unfolding Spells
  opened_form = record { run = λ ts us r c. by ts us (may_up 14 15 (ahead ns us) refl c) (parens_form.run ts us r tt) }
    where
      by : (ts us : List Token) → may 15 (ahead ns us) ≡ false → Has gr.parens (at ns ts) (at ns us) (λ f. (t : Token) → Same e (f t)) → Has (production Phrase.opened) (at ns ts) (at ns us) (λ f. (t : Token) → Same e (f t))
      by ts us c u = record {
        value = u.value;
        ok = u.ok;
        least = u.least;
        spells = λ spare l. (u.value, at ns us, u.spells spare l, Chain.done (not_both (is_operator (ahead ns us)) (nat_le 15 (binds (ahead ns us))) (fits (u.value somewhere) (ahead ns us)) c));
      }

  size_opened_form : Prints ns ns gr.size_opened (expr_words e ++ (sign (codes ")") ∷ [])) (λ x. may 14 x ≡ false) (λ f. (t : Token) → Sized (f t))
  size_opened_form = has_phrase {k = Phrase.opened} opened_form (λ f h t. sized_is (f t) (h t))

  enclosed_form : Prints ns ns (gr.sized s.LParen) (in_parentheses (expr_words e)) (λ x. may 14 x ≡ false) Sized
  enclosed_form = has_seq (has_token Signs.opening_sorted (λ t w. w)) lead_any
      (has_by_some (λ y. begins_type y ≡ false) (leads_of size_opened_form begun) (λ y h spare u v f t. typed y h spare u v f t) size_opened_form) (λ t f w h. h t)
    where
      begun : (spare : ℕ) (u v : Place) (f : Token → Token → Operand) → Spells spare (SpellsIn production spare) gr.size_opened u f v → begins_type (next u) ≡ false
      begun spare u v f t = opened_of spare u v f t

      typed : (y : Sort) → begins_type y ≡ false → (spare : ℕ) (u v : Place) (f : Token → Token → Operand) → Spells spare (SpellsIn production spare) gr.size_opened u f v → Spells spare (SpellsIn production spare) (gr.size_bracketed y) u f v
      typed y h spare u v f t = rw h t

  sized_form : Prints ns ns (Form.by gr.sized) (words_at 14 e) (λ x. may 14 x ≡ false) Sized
  unfolding Spells
  sized_form = record { run = λ ts us r c. by ts us r c (same_sort (ahead ns ts) s.LParen) refl }
    where
      closed_at : (ts us : List Token) → same_sort (ahead ns ts) s.LParen ≡ false → Has (gr.map gr.size_of_expr (gr.expr 14)) (at ns ts) (at ns us) Sized → Has (Form.by gr.sized) (at ns ts) (at ns us) Sized
      closed_at ts us h u = record { value = u.value; ok = u.ok; least = u.least; spells = λ spare l. sized_at (ahead ns ts) h spare (at ns ts) (at ns us) u.value (u.spells spare l) }

      paren_at : (ts us : List Token) → ahead ns ts ≡ s.LParen → Has (gr.sized s.LParen) (at ns ts) (at ns us) Sized → Has (Form.by gr.sized) (at ns ts) (at ns us) Sized
      paren_at ts us h u = record { value = u.value; ok = u.ok; least = u.least; spells = λ spare l. subst (λ (y : Sort). Spells spare (SpellsIn production spare) (gr.sized y) (at ns ts) u.value (at ns us)) (sym h) (u.spells spare l) }

      bracketed_at : (ts us : List Token) → Bracketed e (at ns ts) (at ns us) → Has (gr.sized s.LParen) (at ns ts) (at ns us) Sized
      bracketed_at ts us z = record {
        value = gr.size_of_expr (z.value z.paren);
        ok = sized_is (z.value z.paren) z.same;
        least = z.levels;
        spells = λ spare l. (z.paren, (λ t. gr.size_of_expr (z.value t)), z.middle, (z.paren, z.opens, z.is_paren, refl), inner spare l, refl);
      }
        where
          inner : (spare : ℕ) → z.levels ≤ spare → Spells spare (SpellsIn production spare) (Form.by gr.size_bracketed) z.middle (λ t. gr.size_of_expr (z.value t)) (at ns us)
          inner spare l = subst (λ (x : Bool). Spells spare (SpellsIn production spare) (gr.if_type x gr.size_type gr.size_opened) z.middle (λ t. gr.size_of_expr (z.value t)) (at ns us)) (sym (opened_begins z.levels z.middle (at ns us) z.value z.spelled)) (z.value, phrase_more z.levels spare l Phrase.opened z.middle (at ns us) z.value z.spelled, refl)

      postfix_at : (ts us : List Token) → may 14 (ahead ns us) ≡ false → ahead ns ts ≡ s.LParen → Runs 15 (at ns ts) (at ns us) (Is e) → Has (gr.sized s.LParen) (at ns ts) (at ns us) Sized
      postfix_at ts us c h u = bracketed_at ts us (behind_paren u.enough (at ns ts) (at ns us) u.value (u.opened u.enough (omega arith)) h (may_up 14 15 (ahead ns us) refl c) e u.ok.same)

      opening : (ts us : List Token) → may 14 (ahead ns us) ≡ false → ahead ns ts ≡ s.LParen → (k : Bool) → nat_le 15 (level_of e) ≡ k → (m : Bool) → nat_le 14 (level_of e) ≡ m → Read (cond m (expr_words e) (in_parentheses (expr_words e))) ts us → Has (gr.sized s.LParen) (at ns ts) (at ns us) Sized
      opening ts us c h true k true m r = postfix_at ts us c h (b.runs 15 k ts us r (right_follows e 14 (ahead ns us) m c))
      opening ts us c h true k false m r = no (le_trans 14 15 (level_of e) refl k) m
      opening ts us c h false k true m r = no (ap (λ (y : Sort). same_sort y s.LParen) h) (not_opened ns e m k ts us r)
      opening ts us c h false k false m r = enclosed_form.run ts us r c

      by : (ts us : List Token) → Read (words_at 14 e) ts us → may 14 (ahead ns us) ≡ false → (k : Bool) → same_sort (ahead ns ts) s.LParen ≡ k → Has (Form.by gr.sized) (at ns ts) (at ns us) Sized
      by ts us r c true h = paren_at ts us (same_is (ahead ns ts) s.LParen h) (opening ts us c (same_is (ahead ns ts) s.LParen h) (nat_le 15 (level_of e)) refl (nat_le 14 (level_of e)) refl r)
      by ts us r c false h = closed_at ts us h ((has_map (operand b 14 (λ a h. h)) sized_is).run ts us r c)

  pub bare_size_of_expr : Bare ns (p.size_of_expr e at')
  bare_size_of_expr = leaf {F = λ x. may 14 x ≡ false} (λ x h. h) (λ c. has_by s.SizeOf (lead s.SizeOf Signs.sizeof_sorted refl) (has_seq (has_token Signs.sizeof_sorted (λ t w. w)) lead_any sized_form (λ o f w h. h o)))
