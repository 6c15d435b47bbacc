-- Reading an expression, and the token behind it that closes it.
use Rattle.std.proofs.Common.{◌≡◌, ℕ, List, Ok, Err, refl, ap, subst, sym, ◌∙◌}
use denote.Ref.{Bor}
use Rattle.nm_base.specs.declared.token.Token.{Token}
use Rattle.nesc_tree.specs.declared.operand.Operand.{Operand}
use Rattle.nesc_tree.specs.declared.sorts.Sort.{Sort}
use Rattle.nesc_tree.specs.Sorts.{Names}
use Rattle.nesc_tree.specs.Form.{Form, Place}
use Rattle.nesc_tree.specs.Reading.{Fault, Syntax, Deep, Answer, read, pass, ◌>>=◌}
use Rattle.nesc_grammar.specs.Grammar.{expr, one, map}
use Rattle.nesc_parse_types.specs.declared.stop.Stop.{Stop}
use Rattle.nesc_parse_types.specs.declared.stop.Stop.TheVariants as rust
use Rattle.nesc_parse_types.specs.Gives.{Fails, Found, GivesToken, form_in, expr_in, place}
use Rattle.nesc_parse_exprs.specs.Closed.{closed_form}

module _ {A : Type 0} (d : ℕ) (names : Names) (ts : List Token) (f : Operand → Token → A) (least : ℕ) (x : Sort) where
  abbrev closing : Answer Operand → Answer A
  closing y = ◌>>=◌ {B = Operand × Place} y (λ u. Ok (u.0, u.1)) >>= λ v. pass x (λ t. t) v.1.names v.1.rest >>= λ w. Ok (f v.0 w.0, w.1)

  is_closing : form_in d (Form.seq f (expr least) (one x)) names ts ≡ closing (expr_in d least names ts)
  unfolding read
  is_closing = refl

  not_read : (e : Fault) → expr_in d least names ts ≡ Err e → form_in d (Form.seq f (expr least) (one x)) names ts ≡ Err e
  not_read e h = is_closing ∙ ap closing h

  -- the expression is refused
  pub unread : (r : Stop) → Fails r (expr_in d least names ts) → Fails r (form_in d (Form.seq f (expr least) (one x)) names ts)
  unread rust.Memory h = tt
  unread (rust.Syntax us) h = not_read (Syntax us.now) h
  unread (rust.Deep us) h = not_read (Deep us.now) h

  module _ (a : Operand) (rest : List Token) (is : expr_in d least names ts ≡ Ok (a, place names rest)) where
    abbrev behind : Answer Token → Answer A
    behind y = y >>= λ w. Ok (f a w.0, w.1)

    read_on : form_in d (Form.seq f (expr least) (one x)) names ts ≡ behind (pass x (λ t. t) names rest)
    read_on = is_closing ∙ ap closing is

    not_there : (e : Fault) → pass x (λ t. t) names rest ≡ Err e → form_in d (Form.seq f (expr least) (one x)) names ts ≡ Err e
    not_there e h = read_on ∙ ap behind h

    -- the token is another one
    pub unclosed : (r : Stop) → Fails r (pass x (λ t. t) names rest) → Fails r (form_in d (Form.seq f (expr least) (one x)) names ts)
    unclosed rust.Memory h = tt
    unclosed (rust.Syntax us) h = not_there (Syntax us.now) h
    unclosed (rust.Deep us) h = not_there (Deep us.now) h

    pub closed : (t : Token) (us : List Token) → pass x (λ t. t) names rest ≡ Ok (t, place names us) → form_in d (Form.seq f (expr least) (one x)) names ts ≡ Ok (f a t, place names us)
    closed t us h = read_on ∙ ap behind h

    -- the answer of the code is kept beside the expression
    pub closed_kept : (b : Operand) → b ≡ a → (g : Found (Bor Token)) (y : Bor Token × Bor (List Token)) → GivesToken names g (pass x (λ t. t) names rest) → g ≡ Ok y
        → form_in d (Form.seq f (expr least) (one x)) names ts ≡ Ok (f b y.0.now, place names y.1.now)
    closed_kept b e g y h k =
        subst (λ (c : Operand). form_in d (Form.seq f (expr least) (one x)) names ts ≡ Ok (f c y.0.now, place names y.1.now)) (sym e)
        (closed y.0.now y.1.now (subst (λ (v : Found (Bor Token)). GivesToken names v (pass x (λ t. t) names rest)) k h))

-- what was not kept is what was refused
pub unkept : (names : Names) (g : Found (Bor Token)) (y : Answer Token) (r : Stop) → GivesToken names g y → g ≡ Err r → Fails r y
unkept names g y r h k = subst (λ (v : Found (Bor Token)). GivesToken names v y) k h

module _ {A : Type 0} (d : ℕ) (names : Names) (ts : List Token) (f : Operand → A) (least : ℕ) (x : Sort) where
  passed : (a : Operand) (y : Answer Token) → ◌≡◌ {A = Answer A} (◌>>=◌ {B = A × Place} y (λ w. Ok (f a, w.1))) (◌>>=◌ {B = A × Place} (◌>>=◌ {B = Operand × Place} y (λ w. Ok (a, w.1))) (λ u. Ok (f u.0, u.1)))
  passed a (Ok w) = refl
  passed a (Err e) = refl

  by_expr : (y : Answer Operand)
      → ◌≡◌ {A = Answer A} (closing d names ts (λ a _. f a) least x y) (◌>>=◌ {B = A × Place} (closing d names ts (λ a _. a) least x y) (λ u. Ok (f u.0, u.1)))
  by_expr (Ok v) = passed v.0 (pass x (λ t. t) v.1.names v.1.rest)
  by_expr (Err e) = refl

  -- what is made of an expression is made of it behind the token that closes it
  pub made_behind : form_in d (Form.seq (λ a _. f a) (expr least) (one x)) names ts ≡ form_in d (map f (closed_form least x)) names ts
  unfolding read
  made_behind = by_expr (expr_in d least names ts)
