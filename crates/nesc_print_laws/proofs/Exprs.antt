-- Each form of an expression is printed, and read again as the same up to places.
use Rattle.std.proofs.Common.{◌≡◌, ℕ, suc, Bool, true, false, List, ◌∷◌, ◌++◌, Option, Some, None, refl, sym, ap, ◌∙◌}
use Rattle.std.specs.Prelude.{nat_le, codes}
use Rattle.nm_base.specs.declared.pos.Pos.{Pos}
use Rattle.nm_base.specs.declared.token.Token.{Token}
use Rattle.nesc_tree.specs.declared.sorts.Sort.{Sort}
use Rattle.nesc_tree.specs.declared.sorts.Sort.TheVariants as s
use Rattle.nesc_tree.specs.declared.tree.PreOp.{PreOp}
use Rattle.nesc_tree.specs.declared.tree.PreOp.TheVariants as pre
use Rattle.nesc_tree.specs.declared.tree.PostOp.{PostOp}
use Rattle.nesc_tree.specs.declared.tree.PostOp.TheVariants as post
use Rattle.nesc_tree.specs.declared.tree.InOp.{InOp}
use Rattle.nesc_tree.specs.declared.tree.InOp.TheVariants as op
use Rattle.nesc_tree.specs.declared.tree.Expr as tree
use Rattle.nesc_tree.specs.declared.operand.Operand.{Operand}
use Rattle.nesc_tree.specs.Plain as p
use Rattle.nesc_tree.specs.View.{expr_of}
use Rattle.nesc_tree.specs.Sorts.{Names, is_type}
use Rattle.nesc_tree.specs.Phrase.{Phrase, begins_expr}
use Rattle.nesc_grammar.specs.Grammar as gr
use Rattle.nesc_grammar.specs.Grammar.{Growth, primary, operation, may, binds, needs}
use Rattle.nesc_print_words.specs.Lexemes.{Words, comma}
use Rattle.nesc_print_words.specs.Operators.{infix_text, infix_level, assignment_text, prefix_text, prefix_needs, suffix_text}
use Rattle.nesc_print_words.specs.Expressions.{level_of, expr_words, words_at}
use Rattle.nesc_print_laws.specs.Placeless.{nowhere, placeless}
use Rattle.nesc_print_laws.proofs.Texts.{Prints, Any, lead, lead_any, has_token, has_seq, has_map, has_behind, has_before, has_by}
use Rattle.nesc_print_laws.proofs.Signs
use Rattle.nesc_print_laws.proofs.Signs.{infix_sort, infix_sorted, assignment_sort, assignment_sorted, prefix_sort, prefix_sorted, suffix_sorted, call_sorted}
use Rattle.nesc_print_laws.proofs.Names.{text_is, IsName, number_sorted, char_sorted, text_sorted, word_sorted, has_name}
use Rattle.nesc_print_laws.proofs.Follows.{le_refl, le_zero, infix_is, infix_needs, infix_binds, infix_small}
use Rattle.nesc_print_laws.proofs.Runs.{Bare, leaf, grows, whole, operand}
use Rattle.nesc_print_laws.proofs.Views as view

pub two : {A B C : Type 0} (f : A → B → C) {a x : A} {b y : B} → a ≡ x → b ≡ y → f a b ≡ f x y
two f {x = x} {b = b} g h = ap (λ a. f a b) g ∙ ap (λ b. f x b) h

-- ---- leaves

is_unique : (o t : Token) → o.text ≡ codes "unique" → gr.unique_expr o t ≡ tree.Unique t.text o.pos
unfolding gr.unique_expr
is_unique o t h = rw h refl

is_count : (o t : Token) → o.text ≡ codes "uniqueCount" → gr.unique_expr o t ≡ tree.UniqueCount t.text o.pos
unfolding gr.unique_expr
is_count o t h = rw h refl

module _ {ns : Names} (at : Pos) (n : List ℕ) where
  pub bare_name : IsName n → is_type ns n ≡ false → Bare ns (p.name n at)
  bare_name k i = leaf {F = Any} (λ x h. tt) (λ c. has_by s.Word (lead s.Word (word_sorted ns n false k i) refl) (has_map (has_token (word_sorted ns n false k i) (λ t w. text_is t w))
      (λ t w. record { same = ap placeless (view.name_view t.pos t.text) ∙ ap (λ m. p.name m nowhere) w; level = refl })))

  pub bare_number : Bare ns (p.number n at)
  bare_number = leaf {F = Any} (λ x h. tt) (λ c. has_by s.Number (lead s.Number (number_sorted n) refl) (has_map (has_token (number_sorted n) (λ t w. text_is t w))
      (λ t w. record { same = ap placeless (view.number_view t.pos t.text) ∙ ap (λ m. p.number m nowhere) w; level = refl })))

  pub bare_char : Bare ns (p.char n at)
  bare_char = leaf {F = Any} (λ x h. tt) (λ c. has_by s.Char (lead s.Char (char_sorted n) refl) (has_map (has_token (char_sorted n) (λ t w. text_is t w))
      (λ t w. record { same = ap placeless (view.char_view t.pos t.text) ∙ ap (λ m. p.char m nowhere) w; level = refl })))

  pub bare_unique : Bare ns (p.unique n at)
  bare_unique = leaf {F = Any} (λ x h. tt) (λ c. has_by s.Unique (lead s.Unique Signs.unique_sorted refl) (has_seq (has_token Signs.unique_sorted (λ t w. text_is t w)) lead_any
      (has_behind (has_token Signs.opening_sorted (λ t w. w)) lead_any (has_before (has_token (text_sorted n) (λ t w. text_is t w)) lead_any (has_token Signs.closing_sorted (λ t w. w))))
      (λ o t h w. record { same = ap (λ x. placeless (expr_of x)) (is_unique o t h) ∙ (ap placeless (view.unique_view o.pos t.text) ∙ ap (λ m. p.unique m nowhere) w); level = refl })))

  pub bare_unique_count : Bare ns (p.unique_count n at)
  bare_unique_count = leaf {F = Any} (λ x h. tt) (λ c. has_by s.Unique (lead s.Unique Signs.unique_count_sorted refl) (has_seq (has_token Signs.unique_count_sorted (λ t w. text_is t w)) lead_any
      (has_behind (has_token Signs.opening_sorted (λ t w. w)) lead_any (has_before (has_token (text_sorted n) (λ t w. text_is t w)) lead_any (has_token Signs.closing_sorted (λ t w. w))))
      (λ o t h w. record { same = ap (λ x. placeless (expr_of x)) (is_count o t h) ∙ (ap placeless (view.unique_count_view o.pos t.text) ∙ ap (λ m. p.unique_count m nowhere) w); level = refl })))

  pub bare_post : IsName n → Bare ns (p.post n at)
  bare_post k = leaf {F = Any} (λ x h. tt) (λ c. has_by s.Post (lead s.Post Signs.post_sorted refl) (has_seq (has_token Signs.post_sorted (λ t w. w)) lead_any
      (has_before (has_name ns n k) lead_any (has_behind (has_token Signs.opening_sorted (λ t w. w)) lead_any (has_token Signs.closing_sorted (λ t w. w))))
      (λ o t h w. record { same = ap placeless (view.post_view o.pos t.text) ∙ ap (λ m. p.post m nowhere) w; level = refl })))

pub bare_null : {ns : Names} (at : Pos) → Bare ns (p.null at)
bare_null at = leaf {F = Any} (λ x h. tt) (λ c. has_by s.Null (lead s.Null Signs.null_sorted refl) (has_map (has_token Signs.null_sorted (λ t w. w))
    (λ t w. record { same = ap placeless (view.null_view t.pos); level = refl })))

-- ---- prefixes

prefix_back : (o : PreOp) (t : Token) → t.text ≡ prefix_text o → gr.prefix_of t ≡ o
unfolding gr.prefix_of
prefix_back pre.Inc t h = rw h refl
prefix_back pre.Dec t h = rw h refl
prefix_back pre.Addr t h = rw h refl
prefix_back pre.Deref t h = rw h refl
prefix_back pre.Plus t h = rw h refl
prefix_back pre.Neg t h = rw h refl
prefix_back pre.Not t h = rw h refl
prefix_back pre.IsZero t h = rw h refl

prefix_form : {ns : Names} {ws : Words} {F : Sort → Type 0} {P : Operand → Type 0} (c : Bool) (o : PreOp) → Prints ns ns (gr.signed (prefix_sort o) (prefix_needs o)) ws F P → Prints ns ns (primary c (prefix_sort o)) ws F P
prefix_form c pre.Inc u = u
prefix_form c pre.Dec u = u
prefix_form c pre.Addr u = u
prefix_form c pre.Deref u = u
prefix_form c pre.Plus u = u
prefix_form c pre.Neg u = u
prefix_form c pre.Not u = u
prefix_form c pre.IsZero u = u

pub bare_unary : {ns : Names} (at : Pos) (o : PreOp) {e : p.Expr} → Bare ns e → Bare ns (p.unary o e at)
bare_unary at o {e = e} b = leaf {F = λ x. may (prefix_needs o) x ≡ false} (λ x h. h) (λ c. has_by (prefix_sort o) (lead (prefix_sort o) (prefix_sorted o) refl) (prefix_form c o (has_seq (has_token (prefix_sorted o) (λ t w. prefix_back o t (text_is t w))) lead_any
    (operand b (prefix_needs o) (λ a h. h)) (λ t a h w. record { same = ap placeless (view.unary_view t.pos (gr.prefix_of t) a.expr) ∙ two (λ x y. p.unary x y nowhere) h w; level = refl }))))

-- ---- what goes on an expression

suffix_back : (o : PostOp) (t : Token) → t.text ≡ suffix_text o → gr.suffix_of t ≡ o
unfolding gr.suffix_of
suffix_back post.Inc t h = rw h refl
suffix_back post.Dec t h = rw h refl

infix_back : (o : InOp) (t : Token) → t.text ≡ infix_text o → gr.infix_of t ≡ o
unfolding gr.infix_of
infix_back op.Mul t h = rw h refl
infix_back op.Div t h = rw h refl
infix_back op.Rem t h = rw h refl
infix_back op.Add t h = rw h refl
infix_back op.Sub t h = rw h refl
infix_back op.Shl t h = rw h refl
infix_back op.Shr t h = rw h refl
infix_back op.Lt t h = rw h refl
infix_back op.Gt t h = rw h refl
infix_back op.Le t h = rw h refl
infix_back op.Ge t h = rw h refl
infix_back op.Eq t h = rw h refl
infix_back op.Ne t h = rw h refl
infix_back op.And t h = rw h refl
infix_back op.Xor t h = rw h refl
infix_back op.Or t h = rw h refl
infix_back op.AndAnd t h = rw h refl
infix_back op.OrOr t h = rw h refl

infix_form : {ns : Names} {ws : Words} {F : Sort → Type 0} {P : Growth → Type 0} (o : InOp) → Prints ns ns (gr.binary (infix_sort o) (infix_level o)) ws F P → Prints ns ns (operation (infix_sort o)) ws F P
infix_form op.Mul u = u
infix_form op.Div u = u
infix_form op.Rem u = u
infix_form op.Add u = u
infix_form op.Sub u = u
infix_form op.Shl u = u
infix_form op.Shr u = u
infix_form op.Lt u = u
infix_form op.Gt u = u
infix_form op.Le u = u
infix_form op.Ge u = u
infix_form op.Eq u = u
infix_form op.Ne u = u
infix_form op.And u = u
infix_form op.Xor u = u
infix_form op.Or u = u
infix_form op.AndAnd u = u
infix_form op.OrOr u = u

-- the token of the operator gives it
abbrev pub IsAssignment : Option InOp → Type 0
IsAssignment o = (t : Token) → t.text ≡ assignment_text o → gr.assignment_of t ≡ o

assignment_form : {ns : Names} {ws : Words} {F : Sort → Type 0} {P : Growth → Type 0} (o : Option InOp) → Prints ns ns (gr.assign (assignment_sort o)) ws F P → Prints ns ns (operation (assignment_sort o)) ws F P
assignment_form None u = u
assignment_form (Some o) u = u

assignment_needs : (o : Option InOp) → nat_le (needs (assignment_sort o)) 14 ≡ true
assignment_needs None = refl
assignment_needs (Some o) = refl

assignment_binds : (o : Option InOp) → nat_le 1 (binds (assignment_sort o)) ≡ true
assignment_binds None = refl
assignment_binds (Some o) = refl

assignment_is : (o : Option InOp) → Rattle.nesc_tree.specs.Phrase.is_operator (assignment_sort o) ≡ true
assignment_is None = refl
assignment_is (Some o) = refl

pub whole_words : (e : p.Expr) → words_at 0 e ≡ expr_words e
whole_words e = rw (le_zero (level_of e)) refl

module _ {ns : Names} (at : Pos) {a : p.Expr} (x : Bare ns a) where
  pub bare_postfix : (o : PostOp) → Bare ns (p.postfix o a at)
  bare_postfix o = grows a (p.postfix o a at) {F = Any} s.Step 15 x refl (λ y h. tt) refl refl refl refl refl (lead s.Step (suffix_sorted o) refl)
      (has_map (has_token (suffix_sorted o) (λ t w. suffix_back o t (text_is t w)))
      (λ t w. record { level = refl; node = λ b from h. ap placeless (view.postfix_view from (gr.suffix_of t) b) ∙ two (λ u v. p.postfix u v nowhere) w h }))

  pub bare_member : (n : List ℕ) → IsName n → Bare ns (p.member a n at)
  bare_member n k = grows a (p.member a n at) {F = Any} s.Dot 15 x refl (λ y h. tt) refl refl refl refl refl (lead s.Dot Signs.dot_sorted refl)
      (has_seq (has_token Signs.dot_sorted (λ t w. w)) lead_any (has_name ns n k)
      (λ o t v w. record { level = refl; node = λ b from h. ap placeless (view.member_view from b t.text) ∙ two (λ u v. p.member u v nowhere) h w }))

  pub bare_arrow : (n : List ℕ) → IsName n → Bare ns (p.arrow a n at)
  bare_arrow n k = grows a (p.arrow a n at) {F = Any} s.Arrow 15 x refl (λ y h. tt) refl refl refl refl refl (lead s.Arrow Signs.arrow_sorted refl)
      (has_seq (has_token Signs.arrow_sorted (λ t w. w)) lead_any (has_name ns n k)
      (λ o t v w. record { level = refl; node = λ b from h. ap placeless (view.arrow_view from b t.text) ∙ two (λ u v. p.arrow u v nowhere) h w }))

  module _ {b : p.Expr} (y : Bare ns b) where
    pub bare_binary : (o : InOp) → Bare ns (p.binary o a b at)
    bare_binary o = grows a (p.binary o a b at) {F = λ z. may (suc (infix_level o)) z ≡ false} (infix_sort o) (infix_level o) x refl (λ z h. h) (infix_small o)
        (rw (infix_needs o) (le_refl (infix_level o))) (le_refl (infix_level o)) (rw (infix_binds o) (le_refl (infix_level o))) (infix_is o) (lead (infix_sort o) (infix_sorted o) refl)
        (infix_form o (has_seq (has_token (infix_sorted o) (λ t w. infix_back o t (text_is t w))) lead_any (operand y (suc (infix_level o)) (λ v h. h))
        (λ t v w h. record { level = refl; node = λ l from g. ap placeless (view.binary_view from (gr.infix_of t) l v.expr) ∙ (two (λ i u. p.binary i u (placeless (expr_of v.expr)) nowhere) w g ∙ ap (λ u. p.binary o (placeless a) u nowhere) h) })))

    pub bare_assign : (o : Option InOp) → IsAssignment o → Bare ns (p.assign o a b at)
    bare_assign o k = grows a (p.assign o a b at) {F = λ z. may 1 z ≡ false} (assignment_sort o) 14 x refl (λ z h. h) refl
        (assignment_needs o) refl (assignment_binds o) (assignment_is o) (lead (assignment_sort o) (assignment_sorted o) refl)
        (assignment_form o (has_seq (has_token (assignment_sorted o) (λ t w. k t (text_is t w))) lead_any (operand y 1 (λ v h. h))
        (λ t v w h. record { level = refl; node = λ l from g. ap placeless (view.assign_view from (gr.assignment_of t) l v.expr) ∙ (two (λ i u. p.assign i u (placeless (expr_of v.expr)) nowhere) w g ∙ ap (λ u. p.assign o (placeless a) u nowhere) h) })))

    pub bare_comma : Bare ns (p.comma a b at)
    bare_comma = grows a (p.comma a b at) {F = λ z. may 1 z ≡ false} s.Comma 0 x (ap (λ ws. ws ++ (comma ∷ words_at 1 b)) (sym (whole_words a))) (λ z h. h) refl refl refl refl refl (lead s.Comma Signs.comma_sorted refl)
        (has_seq (has_token Signs.comma_sorted (λ t w. w)) lead_any (operand y 1 (λ v h. h))
        (λ t v w h. record { level = refl; node = λ l from g. ap placeless (view.comma_view from l v.expr) ∙ two (λ u v. p.comma u v nowhere) g h }))

    pub bare_index : Bare ns (p.index a b at)
    bare_index = grows a (p.index a b at) {F = Any} s.LBracket 15 x refl (λ z h. tt) refl refl refl refl refl (lead s.LBracket Signs.left_bracket_sorted refl)
        (has_behind (has_token Signs.left_bracket_sorted (λ t w. w)) lead_any (has_seq (whole y (λ v h. h)) (lead s.RBracket Signs.right_bracket_sorted refl) (has_token Signs.right_bracket_sorted (λ t w. w))
        (λ v t h w. record { level = refl; node = λ l from g. ap placeless (view.index_view from l v.expr) ∙ two (λ u v. p.index u v nowhere) g h })))

    pub bare_choice : {c : p.Expr} → Bare ns c → Bare ns (p.choice a b c at)
    bare_choice {c = c} z = grows a (p.choice a b c at) {F = λ z. may 2 z ≡ false} s.Question 3 x refl (λ z h. h) refl refl refl refl refl (lead s.Question Signs.question_sorted refl)
        (has_seq (has_behind (has_token Signs.question_sorted (λ t w. w)) lead_any (whole y (λ v h. h))) (lead s.Colon Signs.colon_sorted refl) (has_behind (has_token Signs.colon_sorted (λ t w. w)) lead_any (operand z 2 (λ v h. h)))
        (λ v d h w. record { level = refl; node = λ l from g. ap placeless (view.choice_view from l v.expr d.expr) ∙ (two (λ u v. p.choice u v (placeless (expr_of d.expr)) nowhere) g h ∙ ap (λ u. p.choice (placeless a) (placeless b) u nowhere) w) }))
