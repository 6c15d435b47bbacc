-- Expressions without parentheses of their own, which more may go on.
use Rattle.std.proofs.Common.{◌≡◌, ℕ, zero, suc, ◌≤◌, ◌+◌, Bool, true, false, cond, List, [], ◌∷◌, ◌++◌, refl, sym, ap, subst, ◌∙◌, arith}
use Rattle.std.specs.Prelude.{nat_le, codes}
use Rattle.nm_base.specs.declared.pos.Pos.{Pos}
use Rattle.nm_base.specs.declared.token.Token.{Token}
use Rattle.nesc_tree.specs.declared.sorts.Sort.{Sort}
use Rattle.nesc_tree.specs.declared.sorts.Sort.TheVariants as s
use Rattle.nesc_tree.specs.declared.tree.Expr as tree
use Rattle.nesc_tree.specs.declared.operand.Operand.{Operand}
use Rattle.nesc_tree.specs.Plain as p
use Rattle.nesc_tree.specs.View.{expr_of}
use Rattle.nesc_tree.specs.Sorts.{Names, ahead}
use Rattle.nesc_tree.specs.Phrase.{Phrase, begins_expr, begins_type, is_operator}
use Rattle.nesc_tree.specs.Form.{Form, Place, next, goes, Chain, Spells, SpellsIn}
use Rattle.nesc_grammar.specs.Production.{production}
use Rattle.nesc_grammar.specs.Grammar as gr
use Rattle.nesc_grammar.specs.Grammar.{Growth, grown, operation, primary, expression, admits_cast, may, fits, binds, needs, parens, bracketed}
use Rattle.nesc_print_words.specs.Lexemes.{Words, sign, in_parentheses}
use Rattle.nesc_print_words.specs.Expressions.{level_of, expr_words, words_at}
use Rattle.nesc_print_laws.specs.Placeless.{placeless}
use Rattle.nesc_print_laws.proofs.Texts.{Read, Cut, cut, at, Has, Prints, Leads, Any, lead, lead_any, leads_of, lead_before, has_token, has_seq, has_by, has_by_some, has_phrase}
use Rattle.nesc_print_laws.proofs.Signs.{opening_sorted, closing_sorted}
use Rattle.nesc_print_laws.proofs.Follows.{edge_of, le_trans, le_zero, and_true, not_both, left_follows, right_follows, no_type}

-- what goes on the first value, up to this one
pub data Turns (spare least : ℕ) (first : Operand) (p : Place) : Operand → Place → Type 0 where
  none : Turns spare least first p first p
  more : {a : Operand} {q r : Place} (f : Operand → Operand) → Turns spare least first p a q → goes (may least) fits a (next q) ≡ true → a.height ≤ spare
      → Spells spare (SpellsIn production spare) (gr.map grown (operation (next q))) q f r → Turns spare least first p (f a) r

abbrev pub Behind : ℕ → ℕ → Operand → Place → Operand → Place → Type 0
Behind spare least b r a p = Chain spare (goes (may least) fits) (λ a. a.height) (λ x. Spells spare (SpellsIn production spare) (gr.map grown (operation x))) b r a p

ended : {spare least : ℕ} {first : Operand} {p : Place} {b : Operand} {r : Place} {a : Operand} {q : Place} → Turns spare least first p a q → Behind spare least b r a q → Behind spare least b r first p
ended Turns.none c = c
ended (Turns.more f t g w s) c = ended t (Chain.turn g w s c)

pub record Opened (spare least : ℕ) (p : Place) (a : Operand) (q : Place) : Type 0 where
  pub first : Operand
  pub behind : Place
  pub begins : Spells spare (SpellsIn production spare) (Form.by (primary (admits_cast least))) p first behind
  pub turns : Turns spare least first behind a q

-- a text of such an expression, wherever there are levels enough
pub record Runs (least : ℕ) (p q : Place) (P : Operand → Type 0) : Type 0 where
  pub value : Operand
  pub ok : P value
  pub enough : ℕ
  pub opened : (spare : ℕ) → enough ≤ spare → Opened spare least p value q

pub first_run : {least : ℕ} {p q : Place} {P : Operand → Type 0} → Has (Form.by (primary (admits_cast least))) p q P → Runs least p q P
first_run {q = q} h = record { value = h.value; ok = h.ok; enough = h.least; opened = λ spare l. record { first = h.value; behind = q; begins = h.spells spare l; turns = Turns.none } }

pub turn : {least : ℕ} {p q r : Place} {P : Operand → Type 0} {Q : Growth → Type 0} {R : Operand → Type 0} (x : Sort)
    → Runs least p q P → next q ≡ x → may least x ≡ true → ((a : Operand) → P a → fits a x ≡ true) → Has (operation x) q r Q → ((a : Operand) (g : Growth) → P a → Q g → R (grown g a)) → Runs least p r R
unfolding Spells
turn {least = least} {p = p} {q = q} {r = r} x u e m f h k = record {
  value = grown h.value u.value;
  ok = k u.value h.value u.ok h.ok;
  enough = u.enough + (h.least + u.value.height);
  opened = λ spare l. (let o = u.opened spare (omega arith) in record {
    first = o.first;
    behind = o.behind;
    begins = o.begins;
    turns = Turns.more (grown h.value) o.turns (subst (λ (y : Sort). goes (may least) fits u.value y ≡ true) (sym e) (and_true (may least x) (fits u.value x) m (f u.value u.ok))) (omega arith) (body spare (h.spells spare (omega arith)));
  });
}
  where
    body : (spare : ℕ) → Spells spare (SpellsIn production spare) (operation x) q h.value r → Spells spare (SpellsIn production spare) (gr.map grown (operation (next q))) q (grown h.value) r
    body spare t = subst (λ (y : Sort). Spells spare (SpellsIn production spare) (gr.map grown (operation y)) q (grown h.value) r) (sym e) (h.value, tt, r, t, (refl, refl), refl)

pub closed : {least : ℕ} {p q : Place} {P : Operand → Type 0} → Runs least p q P → may least (next q) ≡ false → Has (production (Phrase.expr least)) p q P
unfolding Spells
closed {least = least} {p = p} {q = q} u h = record {
  value = u.value;
  ok = u.ok;
  least = u.enough;
  spells = λ spare l. (let o = u.opened spare l in (o.first, o.behind, o.begins, ended o.turns (Chain.done (not_both (is_operator (next q)) (nat_le least (binds (next q))) (fits u.value (next q)) h))));
}

-- the same expression, of the same level
pub record Is (e : p.Expr) (a : Operand) : Type 0 where
  pub same : placeless (expr_of a.expr) ≡ placeless e
  pub level : a.level ≡ level_of e

-- the same, and operators of this level may go on it
pub record Holds (n : ℕ) (e : p.Expr) (a : Operand) : Type 0 where
  pub same : placeless (expr_of a.expr) ≡ placeless e
  pub level : nat_le n a.level ≡ true

abbrev pub Same : p.Expr → Operand → Type 0
Same e a = placeless (expr_of a.expr) ≡ placeless e

-- its words, with no parentheses around them, are read as it wherever what stands behind them goes on nothing at their right end
pub record Bare (ns : Names) (e : p.Expr) : Type 0 where
  pub runs : (least : ℕ) → nat_le least (level_of e) ≡ true → (ts us : List Token) → Read (expr_words e) ts us → may (edge_of e) (ahead ns us) ≡ false → Runs least (at ns ts) (at ns us) (Is e)

primary_begins : (b : Bool) (x : Sort) (spare : ℕ) (p q : Place) (a : Operand) → Spells spare (SpellsIn production spare) (primary b x) p a q → begins_expr x ≡ true
unfolding Spells
primary_begins b s.Word spare p q a h = refl
primary_begins b s.Number spare p q a h = refl
primary_begins b s.Char spare p q a h = refl
primary_begins b s.Null spare p q a h = refl
primary_begins b s.LParen spare p q a h = refl
primary_begins b s.Plus spare p q a h = refl
primary_begins b s.Minus spare p q a h = refl
primary_begins b s.Star spare p q a h = refl
primary_begins b s.Amp spare p q a h = refl
primary_begins b s.Complement spare p q a h = refl
primary_begins b s.Step spare p q a h = refl
primary_begins b s.SizeOf spare p q a h = refl
primary_begins b s.Unique spare p q a h = refl
primary_begins b s.PortRead spare p q a h = refl
primary_begins b s.PortWrite spare p q a h = refl
primary_begins b s.Post spare p q a h = refl
primary_begins b s.Call spare p q a h = refl
primary_begins b _ spare p q a h = absurd h

expr_begins : (m spare : ℕ) (p q : Place) (a : Operand) → SpellsIn production spare (Phrase.expr m) p a q → begins_expr (next p) ≡ true
unfolding Spells SpellsIn
expr_begins m zero p q a h = absurd h
expr_begins m (suc spare) p q a h = primary_begins (admits_cast m) (next p) spare p h.1 h.0 h.2

-- an expression is ahead of its words
pub sub_begins : {B : Type 0} (m : ℕ) (f : Operand → B) (spare : ℕ) (p q : Place) (b : B) → Spells spare (SpellsIn production spare) (Form.sub (Phrase.expr m) f) p b q → begins_expr (next p) ≡ true
unfolding Spells
sub_begins m f spare p q b h = expr_begins m spare p q h.0 h.1

module _ {ns : Names} {e : p.Expr} (b : Bare ns e) where
  -- where no operator is too weak for it
  pub whole_form : Prints ns ns (production (Phrase.expr 0)) (expr_words e) (λ x. may 0 x ≡ false) (Same e)
  whole_form = record { run = λ ts us r c. by ts us c (b.runs 0 (le_zero (level_of e)) ts us r (right_follows e 0 (ahead ns us) (le_zero (level_of e)) c)) }
    where
      by : (ts us : List Token) → may 0 (ahead ns us) ≡ false → Runs 0 (at ns ts) (at ns us) (Is e) → Has (production (Phrase.expr 0)) (at ns ts) (at ns us) (Same e)
      by ts us c u = (let h = closed u c in record { value = h.value; ok = h.ok.same; least = h.least; spells = h.spells })

  pub whole : {B : Type 0} {f : Operand → B} {Q : B → Type 0} → ((a : Operand) → Same e a → Q (f a)) → Prints ns ns (Form.sub (Phrase.expr 0) f) (expr_words e) (λ x. may 0 x ≡ false) Q
  whole k = has_phrase {k = Phrase.expr 0} whole_form k

  pub whole_leads : Leads ns ns (expr_words e) (λ x. may 0 x ≡ false) (λ x. begins_expr x ≡ true)
  whole_leads = leads_of (whole {f = λ a. a} {Q = Same e} (λ a h. h)) (sub_begins 0 (λ a. a))

  abbrev Enclosed : Operand → Type 0
  Enclosed a = (placeless (expr_of a.expr) ≡ placeless e) × (a.level ≡ 15)

  -- in parentheses of its own
  in_brackets_of : (c : Bool) → Prints ns ns (Form.by (bracketed c)) (expr_words e ++ (sign (codes ")") ∷ [])) Any (λ f. (t : Token) → Enclosed (f t))
  unfolding Spells
  in_brackets_of c = has_by_some (λ y. begins_type y ≡ false) (lead_before (leads_of (whole {f = λ a. a} {Q = Same e} (λ a h. h)) (λ spare p q a h. no_type (next p) (sub_begins 0 (λ a. a) spare p q a h))) (lead s.RParen closing_sorted refl))
      (λ y h spare p q f t. rw h t)
      (has_seq (whole (λ a h. h)) (lead s.RParen closing_sorted refl) (has_token closing_sorted (λ t w. w)) (λ a t h w o. (h, refl)))

  pub enclosed_first : (c : Bool) → Prints ns ns (Form.by (primary c)) (in_parentheses (expr_words e)) Any Enclosed
  enclosed_first c = has_by s.LParen (lead s.LParen opening_sorted refl) (has_seq (has_token opening_sorted (λ t w. w)) lead_any (in_brackets_of c) (λ t f w h. h t))

  -- as an operand of at least this level
  pub expr_form : (m : ℕ) → Prints ns ns (production (Phrase.expr m)) (words_at m e) (λ x. may m x ≡ false) (Same e)
  expr_form m = by (nat_le m (level_of e)) refl
    where
      plain : (ts us : List Token) → may m (ahead ns us) ≡ false → Runs m (at ns ts) (at ns us) (Is e) → Has (production (Phrase.expr m)) (at ns ts) (at ns us) (Same e)
      plain ts us c u = (let h = closed u c in record { value = h.value; ok = h.ok.same; least = h.least; spells = h.spells })

      boxed : (ts us : List Token) → may m (ahead ns us) ≡ false → Has (Form.by (primary (admits_cast m))) (at ns ts) (at ns us) Enclosed → Has (production (Phrase.expr m)) (at ns ts) (at ns us) (Same e)
      boxed ts us c u = (let h = closed (first_run {least = m} u) c in record { value = h.value; ok = h.ok.0; least = h.least; spells = h.spells })

      by : (t : Bool) → nat_le m (level_of e) ≡ t → Prints ns ns (production (Phrase.expr m)) (cond t (expr_words e) (in_parentheses (expr_words e))) (λ x. may m x ≡ false) (Same e)
      by true l = record { run = λ ts us r c. plain ts us c (b.runs m l ts us r (right_follows e m (ahead ns us) l c)) }
      by false l = record { run = λ ts us r c. boxed ts us c ((enclosed_first (admits_cast m)).run ts us r tt) }

  pub operand : (m : ℕ) {B : Type 0} {f : Operand → B} {Q : B → Type 0} → ((a : Operand) → Same e a → Q (f a)) → Prints ns ns (Form.sub (Phrase.expr m) f) (words_at m e) (λ x. may m x ≡ false) Q
  operand m k = has_phrase {k = Phrase.expr m} (expr_form m) k

  pub operand_leads : (m : ℕ) → Leads ns ns (words_at m e) (λ x. may m x ≡ false) (λ x. begins_expr x ≡ true)
  operand_leads m = leads_of (operand m {f = λ a. a} {Q = Same e} (λ a h. h)) (sub_begins m (λ a. a))

  -- before an operator of that level
  pub left : (least n : ℕ) → nat_le least n ≡ true → nat_le n 15 ≡ true → (ts us : List Token) → Read (words_at n e) ts us → nat_le (needs (ahead ns us)) n ≡ true → Runs least (at ns ts) (at ns us) (Holds n e)
  left least n l m ts us r c = by (nat_le n (level_of e)) refl r
    where
      plain : nat_le n (level_of e) ≡ true → Runs least (at ns ts) (at ns us) (Is e) → Runs least (at ns ts) (at ns us) (Holds n e)
      plain h u = record { value = u.value; ok = record { same = u.ok.same; level = ap (λ (k : ℕ). nat_le n k) u.ok.level ∙ h }; enough = u.enough; opened = u.opened }

      boxed : Runs least (at ns ts) (at ns us) Enclosed → Runs least (at ns ts) (at ns us) (Holds n e)
      boxed u = record { value = u.value; ok = record { same = u.ok.0; level = ap (λ (k : ℕ). nat_le n k) u.ok.1 ∙ m }; enough = u.enough; opened = u.opened }

      by : (t : Bool) → nat_le n (level_of e) ≡ t → Read (cond t (expr_words e) (in_parentheses (expr_words e))) ts us → Runs least (at ns ts) (at ns us) (Holds n e)
      by true h r = plain h (b.runs least (le_trans least n (level_of e) l h) ts us r (left_follows e (ahead ns us) (le_trans (needs (ahead ns us)) n (level_of e) c h)))
      by false h r = boxed (first_run {least = least} ((enclosed_first (admits_cast least)).run ts us r tt))

-- what is read first, and nothing goes on it
pub leaf : {ns : Names} {e : p.Expr} {F : Sort → Type 0} → ((x : Sort) → may (edge_of e) x ≡ false → F x) → ((c : Bool) → Prints ns ns (Form.by (primary c)) (expr_words e) F (Is e)) → Bare ns e
leaf k u = record { runs = λ least l ts us r c. first_run {least = least} ((u (admits_cast least)).run ts us r (k _ c)) }

-- what an operator makes of what stands before it
pub record Grows (a e : p.Expr) (g : Growth) : Type 0 where
  pub level : g.level ≡ level_of e
  pub node : (b : tree.Expr) (from : Pos) → placeless (expr_of b) ≡ placeless a → placeless (expr_of (g.node b from)) ≡ placeless e

pub grows : {ns : Names} (a e : p.Expr) {vs : Words} {F : Sort → Type 0} (x : Sort) (n : ℕ)
    → Bare ns a → expr_words e ≡ words_at n a ++ vs → ((y : Sort) → may (edge_of e) y ≡ false → F y)
    → nat_le n 15 ≡ true → nat_le (needs x) n ≡ true → nat_le (level_of e) n ≡ true → nat_le (level_of e) (binds x) ≡ true → is_operator x ≡ true
    → Leads ns ns vs F (λ y. y ≡ x) → Prints ns ns (operation x) vs F (Grows a e) → Bare ns e
grows {ns = ns} a e {vs = vs} {F = F} x n b words ends small need low bind is j u = record { runs = λ least l ts us r c. by least l ts us (cut (words_at n a) vs (subst (λ (ws : Words). Read ws ts us) words r)) (ends (ahead ns us) c) }
  where
    by : (least : ℕ) → nat_le least (level_of e) ≡ true → (ts us : List Token) → Cut (words_at n a) vs ts us → F (ahead ns us) → Runs least (at ns ts) (at ns us) (Is e)
    by least l ts us z c =
        let y = j.leads z.middle us z.back c in
        let o = left b least n (le_trans least (level_of e) n l low) small ts z.middle z.front (subst (λ (w : Sort). nat_le (needs w) n ≡ true) (sym y) need) in
        turn x o y (and_true (is_operator x) (nat_le least (binds x)) is (le_trans least (level_of e) (binds x) l bind)) (λ v h. le_trans (needs x) n v.level need h.level) (u.run z.middle us z.back c)
        (λ v g h w. record { same = w.node v.expr v.from h.same; level = w.level })
