-- Which form the next token begins, and what it needs room for.
use Rattle.std.proofs.Common.{◌≡◌, ◌<◌, ◌≤◌, ℕ, zero, suc, Bool, true, false, ◌&&◌, cond, List, Ok, Err, refl, sym, ap, subst, ◌∙◌, arith}
use Rattle.std.proofs.lemmas.Bool.{le-leb, lt-leb}
use Rattle.std.specs.Prelude.{nat_le}
use Rattle.nm_base.specs.declared.token.Token.{Token}
use Rattle.nesc_tree.specs.declared.sorts.Sort.{Sort}
use Rattle.nesc_tree.specs.declared.sorts.Sort.TheVariants as s
use Rattle.nesc_tree.specs.declared.operand.Operand.{Operand}
use Rattle.nesc_tree.specs.declared.operand.Arguments.{Arguments}
use Rattle.nesc_tree.specs.Level as level
use Rattle.nesc_tree.specs.Sorts.{Names, ahead}
use Rattle.nesc_tree.specs.Phrase.{Phrase, begins, begins_expr, begins_type}
use Rattle.nesc_tree.specs.Form.{Form, Place, next, either, starts}
use Rattle.nesc_tree.specs.Reading.{Fault, Syntax, Deep, Answer, read, phrase, pass, stop, short, nests, guarded, ◌>>=◌}
use Rattle.nesc_grammar.specs.Grammar as grammar
use Rattle.nesc_grammar.specs.Grammar.{applied, one, with, map, grown, operation, is_operator, if_type}
use Rattle.nesc_grammar.specs.Production.{production}
use Rattle.nesc_parse_types.specs.declared.stop.Stop.{Stop}
use Rattle.nesc_parse_types.specs.declared.stop.Stop.TheVariants as rust
use Rattle.nesc_parse_types.specs.Gives.{Fails, form_in, expr_in, opened_in, place}
use Rattle.nesc_operands.specs.Guards.{nests_first, nests_behind}
use Rattle.nesc_parse_exprs.specs.Parts as parts
use Rattle.nesc_parse_exprs.specs.Turns.{turn_in}
use Rattle.nesc_parse_exprs.specs.Climbing.{grown_by, step_in}
use Rattle.nesc_parse_types.proofs.Guards.{open_guard, shut_guard}

-- where nothing may nest, a form that begins with what nests is refused by itself
pub same_guard : {A : Type 0} (d : ℕ) (g : Form A) (p : Place) → read 0 (phrase production 0) g p ≡ Err (stop (starts g (next p)) p.rest) → guarded d g p (read d (phrase production d) g p) ≡ read d (phrase production d) g p
same_guard {A = A} zero g p h =
    let by : (b : Bool) → ◌≡◌ {A = Answer A} (cond b (Err (stop (starts g (next p)) p.rest)) (read 0 (phrase production 0) g p)) (read 0 (phrase production 0) g p) = elim [ true ↦ sym h | false ↦ refl ] in
    by (nests g)
same_guard (suc d) g p h = open_guard (suc d) g p (read (suc d) (phrase production (suc d)) g p) (omega arith)

same_again : {A : Type 0} (x : Answer A) → ◌≡◌ {A = Answer A} (x >>= λ u. Ok (u.0, u.1)) x
same_again (Ok u) = refl
same_again (Err e) = refl

or_none : (b : Bool) → either b false ≡ b
or_none true = refl
or_none false = refl

-- ---- the operand that an expression begins with

primary_table : (m : Bool) (x : Sort) → nests_first x ≡ true → (nests (grammar.primary m x) ≡ true) × (starts (grammar.primary m x) x ≡ true)
primary_table true s.LParen h = (refl, refl)
primary_table false s.LParen h = (refl, refl)
primary_table m s.Plus h = (refl, refl)
primary_table m s.Minus h = (refl, refl)
primary_table m s.Star h = (refl, refl)
primary_table m s.Amp h = (refl, refl)
primary_table m s.Complement h = (refl, refl)
primary_table m s.Step h = (refl, refl)
primary_table m s.PortRead h = (refl, refl)
primary_table m s.PortWrite h = (refl, refl)
primary_table m _ h = absurd cc

operation_table : (x : Sort) → nests_behind x ≡ true → (nests (map grown (operation x)) ≡ true) × (starts (map grown (operation x)) x ≡ true)
operation_table s.Comma h = (refl, refl)
operation_table s.Assign h = (refl, refl)
operation_table s.OpAssign h = (refl, refl)
operation_table s.Question h = (refl, refl)
operation_table s.OrOr h = (refl, refl)
operation_table s.AndAnd h = (refl, refl)
operation_table s.Bar h = (refl, refl)
operation_table s.Caret h = (refl, refl)
operation_table s.Amp h = (refl, refl)
operation_table s.Equality h = (refl, refl)
operation_table s.Less h = (refl, refl)
operation_table s.Greater h = (refl, refl)
operation_table s.OrEqual h = (refl, refl)
operation_table s.Shift h = (refl, refl)
operation_table s.Plus h = (refl, refl)
operation_table s.Minus h = (refl, refl)
operation_table s.Star h = (refl, refl)
operation_table s.Divide h = (refl, refl)
operation_table s.LBracket h = (refl, refl)
operation_table _ h = absurd cc

shut_free : (x : Sort) → is_operator x ≡ true → nests_behind x ≡ false → nests (map grown (operation x)) ≡ false
shut_free s.LParen h k = refl
shut_free s.Dot h k = refl
shut_free s.Arrow h k = refl
shut_free s.Step h k = refl
shut_free s.Comma h k = absurd cc
shut_free s.Assign h k = absurd cc
shut_free s.OpAssign h k = absurd cc
shut_free s.Question h k = absurd cc
shut_free s.OrOr h k = absurd cc
shut_free s.AndAnd h k = absurd cc
shut_free s.Bar h k = absurd cc
shut_free s.Caret h k = absurd cc
shut_free s.Amp h k = absurd cc
shut_free s.Equality h k = absurd cc
shut_free s.Less h k = absurd cc
shut_free s.Greater h k = absurd cc
shut_free s.OrEqual h k = absurd cc
shut_free s.Shift h k = absurd cc
shut_free s.Plus h k = absurd cc
shut_free s.Minus h k = absurd cc
shut_free s.Star h k = absurd cc
shut_free s.Divide h k = absurd cc
shut_free s.LBracket h k = absurd cc
shut_free _ h k = absurd cc

module _ (d : ℕ) (m : Bool) (names : Names) (ts : List Token) where
  pub primary_full : (x : Sort) → x ≡ ahead names ts → d ≡ 0 → nests_first x ≡ true → form_in d (parts.primary m) names ts ≡ Err (Deep ts)
  unfolding read
  primary_full x e z h =
      let t = primary_table m (ahead names ts) (rw e at h) in
      shut_guard d (grammar.primary m (ahead names ts)) (place names ts) (form_in d (grammar.primary m (ahead names ts)) names ts) z t.0 ∙ ap (λ (b : Bool). Err (stop b ts)) t.1

  primary_shut : (x : Sort) → (nests_first x ≡ true → ⊥) → guarded 0 (grammar.primary m x) (place names ts) (form_in 0 (grammar.primary m x) names ts) ≡ form_in 0 (grammar.primary m x) names ts
  unfolding read
  primary_shut s.LParen h = absurd (h refl)
  primary_shut s.Plus h = absurd (h refl)
  primary_shut s.Minus h = absurd (h refl)
  primary_shut s.Star h = absurd (h refl)
  primary_shut s.Amp h = absurd (h refl)
  primary_shut s.Complement h = absurd (h refl)
  primary_shut s.Step h = absurd (h refl)
  primary_shut s.PortRead h = absurd (h refl)
  primary_shut s.PortWrite h = absurd (h refl)
  primary_shut _ h = refl

  primary_room : (k : ℕ) (x : Sort) → (nests_first x ≡ true → 0 < k) → guarded k (grammar.primary m x) (place names ts) (form_in k (grammar.primary m x) names ts) ≡ form_in k (grammar.primary m x) names ts
  primary_room zero x h = primary_shut x (λ e. let l = h e in omega arith)
  primary_room (suc k) x h = open_guard (suc k) (grammar.primary m x) (place names ts) (form_in (suc k) (grammar.primary m x) names ts) (omega arith)

  pub primary_open : (x : Sort) → x ≡ ahead names ts → (nests_first x ≡ true → 0 < d) → form_in d (parts.primary m) names ts ≡ form_in d (grammar.primary m x) names ts
  unfolding read
  primary_open x e h = primary_room d (ahead names ts) (λ k. h (subst (λ (z : Sort). nests_first z ≡ true) (sym e) k)) ∙ ap (λ (z : Sort). form_in d (grammar.primary m z) names ts) (sym e)

module _ (d : ℕ) (names : Names) (ts : List Token) where
  -- ---- what goes on an expression

  module _ (left : Operand) where
    pub too_high : d < left.height → step_in d left names ts ≡ Err (Deep ts)
    too_high l = let z : nat_le left.height d ≡ false = lt-leb left.height d l in rw z refl

    low : left.height ≤ d → step_in d left names ts ≡ turn_in d (map grown (operation (ahead names ts))) left names ts
    low l = let z : nat_le left.height d ≡ true = le-leb left.height d l in rw z refl

    pub growth_full : (x : Sort) → x ≡ ahead names ts → left.height ≤ d → d ≡ 0 → nests_behind x ≡ true → step_in d left names ts ≡ Err (Deep ts)
    growth_full x e l z h =
        let t = operation_table (ahead names ts) (rw e at h) in
        low l
        ∙ ap (λ (y : Answer (Operand → Operand)). y >>= λ v. Ok (v.0 left, v.1))
        (shut_guard d (map grown (operation (ahead names ts))) (place names ts) (form_in d (map grown (operation (ahead names ts))) names ts) z t.0 ∙ ap (λ (b : Bool). Err (stop b ts)) t.1)

    free : (k : ℕ) (x : Sort) → is_operator x ≡ true → (nests_behind x ≡ true → 0 < k)
        → guarded k (map grown (operation x)) (place names ts) (form_in k (map grown (operation x)) names ts) ≡ form_in k (map grown (operation x)) names ts
    free zero x o h =
        let f : (b : Bool) → nests_behind x ≡ b → nests (map grown (operation x)) ≡ false = elim [ true ↦ λ e. let l = h e in absurd (omega arith) | false ↦ λ e. shut_free x o e ] in
        rw (f (nests_behind x) refl) refl
    free (suc k) x o h = open_guard (suc k) (map grown (operation x)) (place names ts) (form_in (suc k) (map grown (operation x)) names ts) (omega arith)

    pub growth_open : (x : Sort) → x ≡ ahead names ts → left.height ≤ d → is_operator (ahead names ts) ≡ true → (nests_behind x ≡ true → 0 < d) → step_in d left names ts ≡ form_in d (grown_by left (operation x)) names ts
    unfolding read
    growth_open x e l o h =
        low l
        ∙ (ap (λ (y : Answer (Operand → Operand)). y >>= λ v. Ok (v.0 left, v.1)) (free d (ahead names ts) o (λ k. h (subst (λ (z : Sort). nests_behind z ≡ true) (sym e) k)))
        ∙ ap (λ (z : Sort). form_in d (grown_by left (operation z)) names ts) (sym e))

-- ---- behind the first token of a form

module _ (d : ℕ) (names : Names) (ts rest : List Token) (o : Token) where
  pub behind_word : {A : Type 0} (x : Sort) (f : Sort → Form (Token → A)) → pass x (λ t. t) names ts ≡ Ok (o, place names rest)
      → form_in d (with (one x) (Form.by f)) names ts ≡ (guarded d (f (ahead names rest)) (place names rest) (form_in d (f (ahead names rest)) names rest) >>= λ y. Ok (y.0 o, y.1))
  unfolding read
  behind_word x f e = ap (λ (u : Answer Token). u >>= λ v. guarded d (f (next v.1)) v.1 (read d (phrase production d) (f (next v.1)) v.1) >>= λ y. Ok (y.0 v.0, y.1)) e

  -- a form behind the token, where its guard changes nothing
  goes_to : {A : Type 0} (x : Sort) (f : Sort → Form (Token → A)) (g : Form (Token → A)) → pass x (λ t. t) names ts ≡ Ok (o, place names rest)
      → guarded d (f (ahead names rest)) (place names rest) (form_in d (f (ahead names rest)) names rest) ≡ form_in d g names rest → form_in d (with (one x) (Form.by f)) names ts ≡ form_in d (applied o g) names rest
  unfolding read
  goes_to {A = A} x f g e h = behind_word x f e ∙ ap (λ (y : Answer (Token → A)). y >>= λ v. Ok (v.0 o, v.1)) h

  -- casts and parentheses

  bracketed_as : (m b : Bool) → 0 < d → pass s.LParen (λ t. t) names ts ≡ Ok (o, place names rest) → (begins_type (ahead names rest) && m) ≡ b
      → form_in d (grammar.bracketed_expr m) names ts ≡ form_in d (applied o (if_type b grammar.cast grammar.parens)) names rest
  bracketed_as m b l e h =
      goes_to s.LParen (grammar.bracketed m) (if_type b grammar.cast grammar.parens) e
      (open_guard d (grammar.bracketed m (ahead names rest)) (place names rest) (form_in d (grammar.bracketed m (ahead names rest)) names rest) l ∙ ap (λ (b : Bool). form_in d (if_type b grammar.cast grammar.parens) names rest) h)

  pub cast_case : (m : Bool) → 0 < d → pass s.LParen (λ t. t) names ts ≡ Ok (o, place names rest) → (begins_type (ahead names rest) && m) ≡ true → form_in d (grammar.bracketed_expr m) names ts ≡ form_in d (applied o grammar.cast) names rest
  cast_case m = bracketed_as m true

  pub paren_case : (m : Bool) → 0 < d → pass s.LParen (λ t. t) names ts ≡ Ok (o, place names rest) → (begins_type (ahead names rest) && m) ≡ false → form_in d (grammar.bracketed_expr m) names ts ≡ form_in d (applied o grammar.parens) names rest
  paren_case m = bracketed_as m false

  -- what `sizeof` measures

  free_type : guarded d grammar.size_type (place names rest) (form_in d grammar.size_type names rest) ≡ form_in d grammar.size_type names rest
  free_type = refl

  free_opened : guarded d grammar.size_opened (place names rest) (form_in d grammar.size_opened names rest) ≡ form_in d grammar.size_opened names rest
  unfolding read phrase
  free_opened = same_guard d grammar.size_opened (place names rest) refl

  module _ (w : Token) where
    sized_as : (b : Bool) → begins_type (ahead names rest) ≡ b → pass s.LParen (λ t. t) names ts ≡ Ok (o, place names rest)
        → guarded d (if_type b grammar.size_type grammar.size_opened) (place names rest) (form_in d (if_type b grammar.size_type grammar.size_opened) names rest) ≡ form_in d (if_type b grammar.size_type grammar.size_opened) names rest
        → form_in d (parts.size_bracketed w) names ts ≡ form_in d (applied w (applied o (if_type b grammar.size_type grammar.size_opened))) names rest
    unfolding read
    sized_as b h e k =
        ap (λ (y : Answer (Token → Operand)). y >>= λ v. Ok (v.0 w, v.1))
        (goes_to s.LParen grammar.size_bracketed (if_type b grammar.size_type grammar.size_opened) e (rw h k))

    pub size_type_case : pass s.LParen (λ t. t) names ts ≡ Ok (o, place names rest) → begins_type (ahead names rest) ≡ true → form_in d (parts.size_bracketed w) names ts ≡ form_in d (parts.size_type w o) names rest
    size_type_case e h = sized_as true h e free_type

    pub size_opened_case : pass s.LParen (λ t. t) names ts ≡ Ok (o, place names rest) → begins_type (ahead names rest) ≡ false → form_in d (parts.size_bracketed w) names ts ≡ form_in d (parts.size_opened w o) names rest
    size_opened_case e h = sized_as false h e free_opened

  sized_unary : (x : Sort) → (x ≡ s.LParen → ⊥) → guarded d (grammar.sized x) (place names rest) (form_in d (grammar.sized x) names rest) ≡ form_in d (map grammar.size_of_expr (grammar.expr level.unary)) names rest
  unfolding read phrase
  sized_unary s.LParen h = absurd (h refl)
  sized_unary _ h = same_guard d (map grammar.size_of_expr (grammar.expr level.unary)) (place names rest) (ap (λ (b : Bool). Err (stop b rest)) (sym (or_none (begins_expr (ahead names rest)))))

  pub size_unary_case : pass s.SizeOf (λ t. t) names ts ≡ Ok (o, place names rest) → (ahead names rest ≡ s.LParen → ⊥) → form_in d grammar.size_of names ts ≡ form_in d (parts.size_unary o) names rest
  size_unary_case e h = goes_to s.SizeOf grammar.sized (map grammar.size_of_expr (grammar.expr level.unary)) e (sized_unary (ahead names rest) h)

  sized_bracketed : (x : Sort) → x ≡ s.LParen → guarded d (grammar.sized x) (place names rest) (form_in d (grammar.sized x) names rest) ≡ form_in d (grammar.sized s.LParen) names rest
  sized_bracketed x h = rw h refl

  pub size_bracketed_case : pass s.SizeOf (λ t. t) names ts ≡ Ok (o, place names rest) → ahead names rest ≡ s.LParen → form_in d grammar.size_of names ts ≡ form_in d (parts.size_bracketed o) names rest
  size_bracketed_case e h = goes_to s.SizeOf grammar.sized (grammar.sized s.LParen) e (sized_bracketed (ahead names rest) h)

  -- arguments

  listed : pass s.LParen (λ t. t) names ts ≡ Ok (o, place names rest)
      → form_in d grammar.arguments names ts ≡ guarded d (grammar.arguments_of (ahead names rest)) (place names rest) (form_in d (grammar.arguments_of (ahead names rest)) names rest)
  unfolding read
  listed e =
      ap (λ (u : Answer Token). u >>= λ v. guarded d (grammar.arguments_of (next v.1)) v.1 (read d (phrase production d) (grammar.arguments_of (next v.1)) v.1) >>= λ y. Ok (y.0, y.1)) e
      ∙ same_again (guarded d (grammar.arguments_of (ahead names rest)) (place names rest) (form_in d (grammar.arguments_of (ahead names rest)) names rest))

  closed : (x : Sort) → x ≡ s.RParen → guarded d (grammar.arguments_of x) (place names rest) (form_in d (grammar.arguments_of x) names rest) ≡ form_in d parts.closed_arguments names rest
  closed x h = rw h refl

  pub closed_case : pass s.LParen (λ t. t) names ts ≡ Ok (o, place names rest) → ahead names rest ≡ s.RParen → form_in d grammar.arguments names ts ≡ form_in d parts.closed_arguments names rest
  closed_case e h = listed e ∙ closed (ahead names rest) h

  refused_list : read 0 (phrase production 0) parts.open_arguments (place names rest) ≡ Err (stop (starts parts.open_arguments (ahead names rest)) rest)
  unfolding read phrase
  refused_list = ap (λ (b : Bool). Err (stop b rest)) (sym (or_none (either (begins_expr (ahead names rest)) false) ∙ or_none (begins_expr (ahead names rest))))

  opened : (x : Sort) → (x ≡ s.RParen → ⊥) → guarded d (grammar.arguments_of x) (place names rest) (form_in d (grammar.arguments_of x) names rest) ≡ form_in d parts.open_arguments names rest
  opened s.RParen h = absurd (h refl)
  opened _ h = same_guard d parts.open_arguments (place names rest) refused_list

  pub open_case : pass s.LParen (λ t. t) names ts ≡ Ok (o, place names rest) → (ahead names rest ≡ s.RParen → ⊥) → form_in d grammar.arguments names ts ≡ form_in d parts.open_arguments names rest
  open_case e h = listed e ∙ opened (ahead names rest) h

-- ---- an expression that starts at its `(`

module _ (d : ℕ) (names : Names) (ts : List Token) (w o : Token) where
  opened_value : (x : Answer (Token → Operand)) (a : Operand) (q : Place) → ◌≡◌ {A = Answer Operand} (x >>= λ y. Ok (y.0 o, y.1)) (Ok (a, q))
      → ◌≡◌ {A = Answer Operand} (x >>= λ y. Ok (grammar.size_of_expr (y.0 o) w, y.1)) (Ok (grammar.size_of_expr a w, q))
  opened_value (Ok y) a q h = let z : ◌≡◌ {A = Operand × Place} (y.0 o, y.1) (a, q) = cc in ap (λ (u : Operand × Place). Ok (grammar.size_of_expr u.0 w, u.1)) z
  opened_value (Err e) a q h = absurd cc

  opened_fault : (x : Answer (Token → Operand)) (f : Fault) → ◌≡◌ {A = Answer Operand} (x >>= λ y. Ok (y.0 o, y.1)) (Err f)
      → ◌≡◌ {A = Answer Operand} (x >>= λ y. Ok (grammar.size_of_expr (y.0 o) w, y.1)) (Err f)
  opened_fault (Ok y) f h = absurd cc
  opened_fault (Err e) f h = let z : e ≡ f = cc in ap Err z

  measured : (x : Answer (Token → Operand)) → ◌≡◌ {A = Answer Operand}
      (◌>>=◌ {B = Operand × Place} (◌>>=◌ {B = (Token → Operand) × Place} (◌>>=◌ {B = (Token → Token → Operand) × Place} x (λ y. Ok ((λ p. grammar.size_of_expr (y.0 p)), y.1))) (λ y. Ok (y.0 o, y.1))) (λ y. Ok (y.0 w, y.1)))
      (x >>= λ y. Ok (grammar.size_of_expr (y.0 o) w, y.1))
  measured (Ok y) = refl
  measured (Err e) = refl

  size_is : form_in d (parts.size_opened w o) names ts ≡ (phrase production d Phrase.opened (place names ts) >>= λ y. Ok (grammar.size_of_expr (y.0 o) w, y.1))
  unfolding read
  size_is = measured (phrase production d Phrase.opened (place names ts))

  pub size_read : (a : Operand) (rest : List Token) → opened_in d o names ts ≡ Ok (a, place names rest) → form_in d (parts.size_opened w o) names ts ≡ Ok (grammar.size_of_expr a w, place names rest)
  size_read a rest h = size_is ∙ opened_value (phrase production d Phrase.opened (place names ts)) a (place names rest) h

  pub size_fails : (r : Stop) → Fails r (opened_in d o names ts) → Fails r (form_in d (parts.size_opened w o) names ts)
  size_fails rust.Memory h = tt
  size_fails (rust.Syntax us) h = size_is ∙ opened_fault (phrase production d Phrase.opened (place names ts)) (Syntax us.now) h
  size_fails (rust.Deep us) h = size_is ∙ opened_fault (phrase production d Phrase.opened (place names ts)) (Deep us.now) h

-- ---- a phrase as a form

module _ (d least : ℕ) (names : Names) (ts : List Token) where
  pub expr_read : (a : Operand) (rest : List Token) → expr_in d least names ts ≡ Ok (a, place names rest) → form_in d (grammar.expr least) names ts ≡ Ok (a, place names rest)
  unfolding read
  expr_read a rest h = ap (λ (x : Answer Operand). x >>= λ u. Ok (u.0, u.1)) h

  not_read : (f : Fault) → expr_in d least names ts ≡ Err f → form_in d (grammar.expr least) names ts ≡ Err f
  unfolding read
  not_read f h = ap (λ (x : Answer Operand). x >>= λ u. Ok (u.0, u.1)) h

  pub expr_fails : (r : Stop) → Fails r (expr_in d least names ts) → Fails r (form_in d (grammar.expr least) names ts)
  expr_fails rust.Memory h = tt
  expr_fails (rust.Syntax us) h = not_read (Syntax us.now) h
  expr_fails (rust.Deep us) h = not_read (Deep us.now) h

by_levels : (k least : ℕ) (names : Names) (ts rest : List Token) (a : Operand) → expr_in k least names ts ≡ Ok (a, place names rest) → 0 < k
unfolding phrase
by_levels zero least names ts rest a h = absurd cc
by_levels (suc k) least names ts rest a h = omega arith

-- with no level nothing is read
pub has_room : (d least : ℕ) (names : Names) (ts : List Token) (a : Operand) (rest : List Token) → expr_in d least names ts ≡ Ok (a, place names rest) → 0 < d
has_room d least names ts a rest h = by_levels d least names ts rest a h
