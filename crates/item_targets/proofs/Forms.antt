-- Expressions by their parts.
use Rattle.std.proofs.Common.{◌≡◌, ℕ, ◌+◌, ◌<◌, ◌≤◌, Bool, List, [], ◌∷◌, ◌++◌, drop, length, get_or, Option, Some, None, ap, sym, ◌∙◌, refl, rules, append-nil}
use Rattle.std.proofs.Math.ListN.{drop_of_length-le}
use Rattle.nm_base.specs.declared.pos.Pos.{Pos}
use Rattle.nesc_tree.specs.declared.tree.InOp.{InOp}
use Rattle.nesc_tree.specs.declared.tree.PreOp.{PreOp}
use Rattle.nesc_tree.specs.declared.tree.PostOp.{PostOp}
use Rattle.nesc_tree.specs.declared.tree.TypeSpec as type_spec
use Rattle.nesc_tree.specs.declared.tree.Expr as tree
use Rattle.nesc_tree.specs.Plain as s
use Rattle.nesc_tree.specs.View.{expr_of, exprs_of, spec_of}
use Rattle.elab_meaning.specs.Elab.{Elab, State, give}
use Rattle.body_meaning.specs.Scopes.{in_turn}
use Rattle.body_meaning.specs.View.{maybe_of}
use Rattle.nesc_unwired.specs.Told.{Reach}
use Rattle.item_targets.specs.Walk.{call_at, expr_at, exprs_at, maybe_at}
use Rattle.item_targets.specs.declared.walk.Walk.{Walk}
use Rattle.item_targets.proofs.ItemLists.{next_of}
use Rattle.item_targets.proofs.Turns.{Alike}

module _ {R : Type 0} (reach : R → Reach) (w : Walk R) where
  abbrev pub Is : tree.Expr → Elab (List Pos) → Type 0
  Is whole b = Alike (expr_at reach w (expr_of whole)) b

  abbrev pub expr_in : tree.Expr → Elab (List Pos)
  expr_in e = expr_at reach w (expr_of e)

  -- ---- what has no parts

  leaf : (whole : tree.Expr) (e : s.Expr) → expr_of whole ≡ e → Alike (expr_at reach w e) (give []) → Is whole (give [])
  leaf whole e is form = λ st. ap (λ (d : s.Expr). expr_at reach w d st) is ∙ form st

  pub name_leaf : (whole : tree.Expr) (n : List ℕ) (at : Pos) → whole ≡ tree.Name n at → Is whole (give [])
  unfolding expr_at
  name_leaf whole n at is = leaf whole (s.name n at) (ap expr_of is ∙ search (rules, tree.the_lemmas)) (λ st. refl)

  pub number_leaf : (whole : tree.Expr) (n : List ℕ) (at : Pos) → whole ≡ tree.Number n at → Is whole (give [])
  unfolding expr_at
  number_leaf whole n at is = leaf whole (s.number n at) (ap expr_of is ∙ search (rules, tree.the_lemmas)) (λ st. refl)

  pub char_leaf : (whole : tree.Expr) (n : List ℕ) (at : Pos) → whole ≡ tree.Char n at → Is whole (give [])
  unfolding expr_at
  char_leaf whole n at is = leaf whole (s.char n at) (ap expr_of is ∙ search (rules, tree.the_lemmas)) (λ st. refl)

  pub null_leaf : (whole : tree.Expr) (at : Pos) → whole ≡ tree.Null at → Is whole (give [])
  unfolding expr_at
  null_leaf whole at is = leaf whole (s.null at) (ap expr_of is ∙ search (rules, tree.the_lemmas)) (λ st. refl)

  pub unique_leaf : (whole : tree.Expr) (n : List ℕ) (at : Pos) → whole ≡ tree.Unique n at → Is whole (give [])
  unfolding expr_at
  unique_leaf whole n at is = leaf whole (s.unique n at) (ap expr_of is ∙ search (rules, tree.the_lemmas)) (λ st. refl)

  pub count_leaf : (whole : tree.Expr) (n : List ℕ) (at : Pos) → whole ≡ tree.UniqueCount n at → Is whole (give [])
  unfolding expr_at
  count_leaf whole n at is = leaf whole (s.unique_count n at) (ap expr_of is ∙ search (rules, tree.the_lemmas)) (λ st. refl)

  pub post_leaf : (whole : tree.Expr) (n : List ℕ) (at : Pos) → whole ≡ tree.Post n at → Is whole (give [])
  unfolding expr_at
  post_leaf whole n at is = leaf whole (s.post n at) (ap expr_of is ∙ search (rules, tree.the_lemmas)) (λ st. refl)

  pub size_leaf : (whole : tree.Expr) (t : type_spec.TypeSpec) (at : Pos) → whole ≡ tree.SizeOfType t at → Is whole (give [])
  unfolding expr_at
  size_leaf whole t at is = leaf whole (s.size_of_type (spec_of t) at) (ap expr_of is ∙ search (rules, tree.the_lemmas)) (λ st. refl)

  -- ---- one part, two and three

  one_part : (whole a x : tree.Expr) (e : s.Expr) → expr_of whole ≡ e → x ≡ a → Alike (expr_at reach w e) (expr_in a) → Is whole (expr_in x)
  one_part whole a x e is p form = λ st. ap (λ (d : s.Expr). expr_at reach w d st) is ∙ form st ∙ ap (λ (d : tree.Expr). expr_in d st) (sym p)

  two_parts : (whole a b x y : tree.Expr) (e : s.Expr) → expr_of whole ≡ e → x ≡ a → y ≡ b → Alike (expr_at reach w e) (in_turn (expr_in a) (expr_in b)) → Is whole (in_turn (expr_in x) (expr_in y))
  two_parts whole a b x y e is p q form = λ st. ap (λ (d : s.Expr). expr_at reach w d st) is ∙ form st
      ∙ ap (λ (d : tree.Expr). in_turn (expr_in d) (expr_in b) st) (sym p) ∙ ap (λ (d : tree.Expr). in_turn (expr_in x) (expr_in d) st) (sym q)

  module _ (whole a x : tree.Expr) where
    pub unary_part : (o : PreOp) (at : Pos) → whole ≡ tree.Unary o a at → x ≡ a → Is whole (expr_in x)
    unfolding expr_at
    unary_part o at is p = one_part whole a x (s.unary o (expr_of a) at) (ap expr_of is ∙ search (rules, tree.the_lemmas)) p (λ st. refl)

    pub postfix_part : (o : PostOp) (at : Pos) → whole ≡ tree.Postfix o a at → x ≡ a → Is whole (expr_in x)
    unfolding expr_at
    postfix_part o at is p = one_part whole a x (s.postfix o (expr_of a) at) (ap expr_of is ∙ search (rules, tree.the_lemmas)) p (λ st. refl)

    pub cast_part : (t : type_spec.TypeSpec) (at : Pos) → whole ≡ tree.Cast t a at → x ≡ a → Is whole (expr_in x)
    unfolding expr_at
    cast_part t at is p = one_part whole a x (s.cast (spec_of t) (expr_of a) at) (ap expr_of is ∙ search (rules, tree.the_lemmas)) p (λ st. refl)

    pub size_part : (at : Pos) → whole ≡ tree.SizeOfExpr a at → x ≡ a → Is whole (expr_in x)
    unfolding expr_at
    size_part at is p = one_part whole a x (s.size_of_expr (expr_of a) at) (ap expr_of is ∙ search (rules, tree.the_lemmas)) p (λ st. refl)

    pub member_part : (n : List ℕ) (at : Pos) → whole ≡ tree.Member a n at → x ≡ a → Is whole (expr_in x)
    unfolding expr_at
    member_part n at is p = one_part whole a x (s.member (expr_of a) n at) (ap expr_of is ∙ search (rules, tree.the_lemmas)) p (λ st. refl)

    pub arrow_part : (n : List ℕ) (at : Pos) → whole ≡ tree.Arrow a n at → x ≡ a → Is whole (expr_in x)
    unfolding expr_at
    arrow_part n at is p = one_part whole a x (s.arrow (expr_of a) n at) (ap expr_of is ∙ search (rules, tree.the_lemmas)) p (λ st. refl)

    pub read_part : (at : Pos) → whole ≡ tree.PortRead a at → x ≡ a → Is whole (expr_in x)
    unfolding expr_at
    read_part at is p = one_part whole a x (s.port_read (expr_of a) at) (ap expr_of is ∙ search (rules, tree.the_lemmas)) p (λ st. refl)

  module _ (whole a b x y : tree.Expr) where
    pub binary_parts : (o : InOp) (at : Pos) → whole ≡ tree.Binary o a b at → x ≡ a → y ≡ b → Is whole (in_turn (expr_in x) (expr_in y))
    unfolding expr_at
    binary_parts o at is p q = two_parts whole a b x y (s.binary o (expr_of a) (expr_of b) at) (ap expr_of is ∙ search (rules, tree.the_lemmas)) p q (λ st. refl)

    pub assign_parts : (o : Option InOp) (at : Pos) → whole ≡ tree.Assign o a b at → x ≡ a → y ≡ b → Is whole (in_turn (expr_in x) (expr_in y))
    unfolding expr_at
    assign_parts o at is p q = two_parts whole a b x y (s.assign o (expr_of a) (expr_of b) at) (ap expr_of is ∙ search (rules, tree.the_lemmas)) p q (λ st. refl)

    pub comma_parts : (at : Pos) → whole ≡ tree.Comma a b at → x ≡ a → y ≡ b → Is whole (in_turn (expr_in x) (expr_in y))
    unfolding expr_at
    comma_parts at is p q = two_parts whole a b x y (s.comma (expr_of a) (expr_of b) at) (ap expr_of is ∙ search (rules, tree.the_lemmas)) p q (λ st. refl)

    pub index_parts : (at : Pos) → whole ≡ tree.Index a b at → x ≡ a → y ≡ b → Is whole (in_turn (expr_in x) (expr_in y))
    unfolding expr_at
    index_parts at is p q = two_parts whole a b x y (s.index (expr_of a) (expr_of b) at) (ap expr_of is ∙ search (rules, tree.the_lemmas)) p q (λ st. refl)

    pub write_parts : (at : Pos) → whole ≡ tree.PortWrite a b at → x ≡ a → y ≡ b → Is whole (in_turn (expr_in x) (expr_in y))
    unfolding expr_at
    write_parts at is p q = two_parts whole a b x y (s.port_write (expr_of a) (expr_of b) at) (ap expr_of is ∙ search (rules, tree.the_lemmas)) p q (λ st. refl)

  pub choice_parts : (whole a b c x y z : tree.Expr) (at : Pos) → whole ≡ tree.Cond a b c at → x ≡ a → y ≡ b → z ≡ c → Is whole (in_turn (expr_in x) (in_turn (expr_in y) (expr_in z)))
  unfolding expr_at
  choice_parts whole a b c x y z at is p q r = λ st. ap (λ (d : tree.Expr). expr_in d st) is ∙ ap (λ (d : s.Expr). expr_at reach w d st) form
      ∙ ap (λ (d : tree.Expr). in_turn (expr_in d) (in_turn (expr_in b) (expr_in c)) st) (sym p) ∙ ap (λ (d : tree.Expr). in_turn (expr_in x) (in_turn (expr_in d) (expr_in c)) st) (sym q)
      ∙ ap (λ (d : tree.Expr). in_turn (expr_in x) (in_turn (expr_in y) (expr_in d)) st) (sym r) where
        form : expr_of (tree.Cond a b c at) ≡ s.choice (expr_of a) (expr_of b) (expr_of c) at
        form = search (rules, tree.the_lemmas)

  pub call_parts : (whole f x : tree.Expr) (args : List tree.Expr) (at : Pos) → whole ≡ tree.CallFn f args at → x ≡ f → Is whole (in_turn (expr_in x) (exprs_at reach w (exprs_of args)))
  unfolding expr_at exprs_at
  call_parts whole f x args at is p = λ st. ap (λ (d : tree.Expr). expr_in d st) is ∙ ap (λ (d : s.Expr). expr_at reach w d st) form
      ∙ ap (λ (d : tree.Expr). in_turn (expr_in d) (exprs_at reach w (exprs_of args)) st) (sym p) where
        form : expr_of (tree.CallFn f args at) ≡ s.call_fn (expr_of f) (exprs_of args) at
        form = search (rules, tree.the_lemmas)

  pub item_parts : (whole : tree.Expr) (signal : Bool) (element item : List ℕ) (param : Option tree.Expr) (args : List tree.Expr) (at : Pos) → whole ≡ tree.CallItem signal element item param args at
      → Is whole (in_turn (call_at reach w signal element item (maybe_of param) at) (in_turn (maybe_at reach w (maybe_of param)) (exprs_at reach w (exprs_of args))))
  unfolding call_at expr_at exprs_at maybe_at
  item_parts whole signal element item param args at is = λ st. ap (λ (d : tree.Expr). expr_in d st) is ∙ ap (λ (d : s.Expr). expr_at reach w d st) form where
    form : expr_of (tree.CallItem signal element item param args at) ≡ s.call_item signal element item (maybe_of param) (exprs_of args) at
    form = search (rules, tree.the_lemmas)

  -- ---- lists

  pub exprs_next : (xs : List tree.Expr) (k : ℕ) (x : tree.Expr) → k < length xs → x ≡ get_or xs k x
      → Alike (exprs_at reach w (exprs_of (drop k xs))) (in_turn (expr_in x) (exprs_at reach w (exprs_of (drop (k + 1) xs))))
  unfolding expr_at exprs_at
  exprs_next xs k x below is = λ st. ap (λ (ys : List tree.Expr). exprs_at reach w (exprs_of ys) st) (next_of xs k x below is)

  pub exprs_end : (xs : List tree.Expr) (k : ℕ) → length xs ≤ k → Alike (exprs_at reach w (exprs_of (drop k xs))) (give [])
  unfolding exprs_at
  exprs_end xs k h = λ st. ap (λ (ys : List tree.Expr). exprs_at reach w (exprs_of ys) st) (drop_of_length-le xs h)
