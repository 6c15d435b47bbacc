-- Functions, tasks, commands and events are printed, and read again as the same up to places.
use Rattle.std.proofs.Common.{◌≡◌, ℕ, Bool, true, false, List, [], ◌∷◌, ◌++◌, map, Option, Some, None, refl, sym, ap, subst, ◌∙◌, append_assoc}
use Rattle.std.specs.Prelude.{codes, option_map}
use Rattle.nm_base.specs.declared.token.Token.{Token}
use Rattle.nesc_tree.specs.declared.sorts.Sort.{Sort}
use Rattle.nesc_tree.specs.declared.sorts.Sort.TheVariants as s
use Rattle.nesc_tree.specs.declared.contexts.Site.{Site}
use Rattle.nesc_tree.specs.declared.contexts.Site.TheVariants as site
use Rattle.nesc_tree.specs.declared.contexts.Jumps.TheVariants as jumps
use Rattle.nesc_tree.specs.declared.tree.Param.{Param}
use Rattle.nesc_tree.specs.declared.declarations.Attr.{Attr}
use Rattle.nesc_tree.specs.declared.declarations.Decl as decl
use Rattle.nesc_tree.specs.declared.declarations.FuncHead.{FuncHead}
use Rattle.nesc_tree.specs.declared.declarations.FuncKind.{FuncKind}
use Rattle.nesc_tree.specs.declared.declarations.FuncKind.TheVariants as kind
use Rattle.nesc_tree.specs.declared.declarations.Stmt.{Stmt}
use Rattle.nesc_tree.specs.declared.operand.CastType.{CastType}
use Rattle.nesc_tree.specs.Plain as p
use Rattle.nesc_tree.specs.View.{expr_of, spec_of, base_of}
use Rattle.nesc_tree.specs.Sorts.{Names}
use Rattle.nesc_tree.specs.Phrase.{Phrase}
use Rattle.nesc_tree.specs.Form.{Form, starts}
use Rattle.nesc_grammar.specs.Production.{production}
use Rattle.nesc_grammar.specs.Grammar as gr
use Rattle.nesc_grammar.specs.Declarations as inner
use Rattle.nesc_print_words.specs.Lexemes.{Words, word, flagged, stars}
use Rattle.nesc_print_words.specs.Expressions.{base_words, before_name}
use Rattle.nesc_print_words.specs.Declarations.{attrs_words, params_words, bracket_words, item_words, call_words, function_words, wants_word}
use Rattle.nesc_print_words.specs.Statements.{stmt_words, decl_words, body_words}
use Rattle.nesc_print_laws.specs.Placeless.{placeless, placeless_type}
use Rattle.nesc_print_laws.specs.Shapes as shape
use Rattle.nesc_print_laws.specs.Shapes.{stmt_shape, decl_shape, head_shape, param_shape, attr_shape, maybe_stmt}
use Rattle.nesc_print_laws.proofs.Texts.{Prints, Leads, Any, lead, lead_any, has_token, has_seq, has_map, has_behind, has_by, has_some, has_nothing, has_words, has_less}
use Rattle.nesc_print_laws.proofs.Signs
use Rattle.nesc_print_laws.proofs.Names.{IsName, has_name}
use Rattle.nesc_print_laws.proofs.Calls.{All, SameAll}
use Rattle.nesc_print_laws.proofs.Types.{Basic, IsType, has_type}
use Rattle.nesc_print_laws.proofs.Fields.{Matched, declarator_leads}
use Rattle.nesc_print_laws.proofs.Changed.{has_scope, matched_map}
use Rattle.nesc_print_laws.proofs.Inits.{SameAttr, Attribute, has_attributes}
use Rattle.nesc_print_laws.proofs.Stmts.{SameStmt, part}
use Rattle.nesc_print_laws.proofs.Variables.{spread, before_is}
use Rattle.nesc_print_decl_laws.proofs.DeclViews as view
use Rattle.nesc_print_decl_laws.proofs.Params.{MaybeName, declared_same, AllParams, Kept, SameParam, has_parameters, MaybeBracket, after_bracket, SameMaybeParam, has_bracket, any_carries}
use Rattle.nesc_print_decl_laws.proofs.Heads.{IsWords, has_function_words, has_word, words_lead, Wordless, wordless, has_named, has_typed, typed_ahead, name_ends, Made, Decled, decled_typed, decled_function}

-- ---- bodies

-- a block
pub record Body (ns : Names) (x : Stmt) : Type 0 where
  pub prints : Prints ns ns (production (Phrase.stmt jumps.Neither)) (stmt_words x) Any (SameStmt x)
  pub leads : Leads ns ns (stmt_words x) Any (λ y. y ≡ s.LBrace)

abbrev pub MaybeBody : Names → Option Stmt → Type 0
MaybeBody ns None = Unit {0}
MaybeBody ns (Some x) = Body ns x

abbrev SameBody : Option Stmt → Option Stmt → Type 0
SameBody x y = maybe_stmt (option_map stmt_shape y) ≡ maybe_stmt (option_map stmt_shape x)

abbrev written : Option Stmt → Words
written b = body_words (option_map stmt_words b)

has_body : {ns : Names} (b : Option Stmt) → MaybeBody ns b → Prints ns ns (Form.by inner.body_of) (written b) Any (SameBody b)
has_body None k = has_by s.Semi (lead s.Semi Signs.semicolon_sorted refl) (has_map (has_token Signs.semicolon_sorted (λ t w. w)) (λ t w. refl))
has_body (Some x) k = has_by s.LBrace k.leads (has_map (part {k = Phrase.stmt jumps.Neither} k.prints) (λ y h. ap shape.MaybeStmt.some_stmt h))

body_lead : {ns : Names} (b : Option Stmt) → MaybeBody ns b → Leads ns ns (written b) Any (λ y. inner.is_at y ≡ false)
body_lead None k = lead s.Semi Signs.semicolon_sorted refl
body_lead (Some x) k = record { leads = λ ts us r f. ap inner.is_at (k.leads.leads ts us r f) }

-- ---- what is behind the name

-- names that the function hides
abbrev pub hidden_by : Option (List ℕ) → List ℕ → List (List ℕ)
hidden_by None n = n ∷ []
hidden_by (Some i) n = []

pub own_is : (item : Option Token) (t : Token) → inner.own_name item t ≡ hidden_by (inner.text_of item) t.text
own_is None t = refl
own_is (Some i) t = refl

-- with the words before it, its type and its name
record Begun (h : FuncHead) (w : inner.Words) (x : inner.Start) : Type 0 where
  words : IsWords h w
  name : x.name.text ≡ h.name
  result : placeless_type (spec_of (inner.declared_type x.ty x.stars [])) ≡ placeless_type (spec_of h.result)

module _ (h : FuncHead) (body : Option Stmt) where
  abbrev Func : decl.Decl
  Func = decl.Func h body

  abbrev pub Function_made : inner.Declaring → Type 0
  Function_made d = Made Func (hidden_by h.item h.name) d

  abbrev End : inner.Behind → Type 0
  End f = (w : inner.Words) (x : inner.Start) → Begun h w x → Function_made (f w x)

  abbrev Rest : (Option Token → inner.Behind) → Type 0
  Rest f = (item : Option Token) (w : inner.Words) (x : inner.Start) → Begun h w x → inner.text_of item ≡ h.item → Function_made (f item w x)

  abbrev Call : inner.Called → Type 0
  Call f = (item : Option Token) (b : Option Param) (w : inner.Words) (x : inner.Start) → Begun h w x → inner.text_of item ≡ h.item → SameMaybeParam h.bracket b → Function_made (f item b w x)

  call_made : (ps : List Param) (l : List Attr) (b : Option Stmt) → Matched SameParam h.params ps → Matched SameAttr h.attrs l → SameBody body b → Call (inner.called ps l b)
  call_made ps l b e f g item o w x k i j = record {
    same = view.function_shape (inner.head_of item o ps l w x) b ∙ (two (nine k.words.kind k.name i j k.words.is_async k.words.is_default k.result (matched_map param_shape h.params ps e) (matched_map attr_shape h.attrs l f)) g ∙ sym (view.function_shape h body));
    hidden = own_is item x.name ∙ hides i k.name;
  }
    where
      two : {a b : shape.Head} {m n : shape.MaybeStmt} → a ≡ b → m ≡ n → shape.Decl.function a m ≡ shape.Decl.function b n
      two f g = rw (f, g) refl

      hides : {a b : Option (List ℕ)} {m n : List ℕ} → a ≡ b → m ≡ n → hidden_by a m ≡ hidden_by b n
      hides f g = rw (f, g) refl

      nine : {k1 k2 : FuncKind} {n1 n2 : List ℕ} {i1 i2 : Option (List ℕ)} {b1 b2 : Option shape.Param} {a1 a2 d1 d2 : Bool} {r1 r2 : p.TypeSpec} {p1 p2 : List shape.Param} {l1 l2 : List shape.Attr}
          → k1 ≡ k2 → n1 ≡ n2 → i1 ≡ i2 → b1 ≡ b2 → a1 ≡ a2 → d1 ≡ d2 → r1 ≡ r2 → p1 ≡ p2 → l1 ≡ l2
          → ◌≡◌ {A = shape.Head} (record { kind = k1; name = n1; item = i1; bracket = b1; is_async = a1; is_default = d1; result = r1; params = p1; attrs = l1 }) (record { kind = k2; name = n2; item = i2; bracket = b2; is_async = a2; is_default = d2; result = r2; params = p2; attrs = l2 })
      nine a b c d e f g h i = rw (a, b, c, d, e, f, g, h, i) refl

  -- ---- words

  tail_words : Words
  tail_words = params_words h.params ++ (attrs_words h.attrs ++ written body)

  rest_words : Words
  rest_words = bracket_words h.bracket ++ tail_words

  end_words : Words
  end_words = item_words h.item ++ rest_words

  name_end_words : Words
  name_end_words = (flagged h.result.is_const (codes "const") ++ base_words (base_of h.result.base)) ++ (stars h.result.stars ++ (word h.name ∷ end_words))

  function_is : function_words h ++ name_end_words ≡ decl_words Func
  unfolding tail_words rest_words end_words name_end_words
  function_is = ap (λ ws. function_words h ++ ws) (typed ∙ ap (λ ws. before_name (spec_of h.result) ++ (word h.name ∷ ws)) calls) ∙ (sym (outer (function_words h) (before_name (spec_of h.result)) (call_words h) (written body)) ∙ sym (view.words_of_function h body))
    where
      typed : (flagged h.result.is_const (codes "const") ++ base_words (base_of h.result.base)) ++ (stars h.result.stars ++ (word h.name ∷ end_words)) ≡ before_name (spec_of h.result) ++ (word h.name ∷ end_words)
      typed = spread (flagged h.result.is_const (codes "const")) (base_words (base_of h.result.base)) (stars h.result.stars) (word h.name ∷ end_words) ∙ ap (λ ws. ws ++ (word h.name ∷ end_words)) (sym (before_is h.result))

      calls : end_words ≡ call_words h ++ written body
      calls = sym (append_assoc (item_words h.item) (bracket_words h.bracket ++ (params_words h.params ++ attrs_words h.attrs)) (written body)
          ∙ ap (λ ws. item_words h.item ++ ws) (append_assoc (bracket_words h.bracket) (params_words h.params ++ attrs_words h.attrs) (written body) ∙ ap (λ ws. bracket_words h.bracket ++ ws) (append_assoc (params_words h.params) (attrs_words h.attrs) (written body))))

      outer : (a b c d : Words) → (a ++ (b ++ (word h.name ∷ c))) ++ d ≡ a ++ (b ++ (word h.name ∷ (c ++ d)))
      outer a b c d = append_assoc a (b ++ (word h.name ∷ c)) d ∙ ap (λ ws. a ++ ws) (append_assoc b (word h.name ∷ c) d)

-- ---- a function

pub record Function (ns : Names) (h : FuncHead) (b : Option Stmt) : Type 0 where
  pub inside : Names
  pub result : Basic ns (base_of h.result.base)
  pub no_dims : h.result.dims ≡ []
  pub is_name : IsName h.name
  pub item : MaybeName h.item
  pub bracket : MaybeBracket ns h.bracket
  pub params : AllParams h.params (after_bracket ns h.bracket) inside
  pub kept : Kept h.params
  pub attrs : All (Attribute inside) h.attrs
  pub body : MaybeBody inside b

no_dot : (y : Sort) → starts (gr.map (λ (t : Token). Some t) inner.item_name) y ≡ false → starts (gr.map (λ (t : Token). Some t) inner.item_name) y ≡ false
no_dot y h = h

pub has_item : {ns : Names} (i : Option (List ℕ)) → MaybeName i → Prints ns ns (inner.some inner.item_name) (item_words i) (λ y. starts (gr.map (λ (t : Token). Some t) inner.item_name) y ≡ false) (λ t. inner.text_of t ≡ i)
has_item None k = has_less no_dot (λ a h. h) (has_nothing refl)
has_item {ns = ns} (Some n) k = has_less (λ y h. tt) (λ a h. h) (has_some (lead s.Dot Signs.dot_sorted refl) (has_map (has_behind (has_token Signs.dot_sorted (λ t w. w)) lead_any (has_name ns n k)) (λ t h. ap (λ m. Some m) h)))

-- a bracket wants such a word
all_wanted : (h : FuncHead) (b : Param) → h.bracket ≡ Some b → h.item ≡ None → h.kind ≡ kind.Plain → h.is_async ≡ false → h.is_default ≡ false → wants_word h ≡ true
all_wanted h b f e k a d = rw (f, e, k, a, d) refl

ending_dot : {ns : Names} {F : Sort → Type 0} {P : inner.Behind → Type 0} {ws : Words} (m : Site) → Prints ns ns inner.function_end ws F P → Prints ns ns (inner.ending m s.Dot) ws F P
ending_dot site.Header u = u
ending_dot site.Module u = u

ending_paren : {ns : Names} {F : Sort → Type 0} {P : inner.Behind → Type 0} {ws : Words} (m : Site) → Prints ns ns (gr.map (λ f. f None) inner.function_rest) ws F P → Prints ns ns (inner.ending m s.LParen) ws F P
ending_paren site.Header u = u
ending_paren site.Module u = u

module _ {ns : Names} (h : FuncHead) (body : Option Stmt) (k : Function ns h body) where
  has_call : Prints (after_bracket ns h.bracket) k.inside inner.call_form (tail_words h body) Any (Call h body)
  unfolding tail_words
  has_call = has_seq {Q = λ f. (ps : List Param) → Matched SameParam h.params ps → Call h body (f ps)} (has_parameters h.params k.params k.kept) lead_any
      (has_seq (has_attributes h.attrs k.attrs) (body_lead body k.body) (has_body body k.body) (λ l b f g ps e. call_made h body ps l b e f g)) (λ ps f e g. g ps e)

  has_rest : Prints ns ns inner.function_rest (rest_words h body) Any (Rest h body)
  unfolding rest_words tail_words
  has_rest = has_scope (has_seq (has_bracket h.bracket k.bracket) (lead s.LParen Signs.opening_sorted refl) has_call (λ o f j g item w x b i. g item o w x b i j)) any_carries

  rest_lead : Leads ns ns (rest_words h body) Any (λ y. starts (gr.map (λ (t : Token). Some t) inner.item_name) y ≡ false)
  unfolding rest_words tail_words
  rest_lead = by h.bracket
    where
      by : (o : Option Param) → Leads ns ns (bracket_words o ++ (params_words h.params ++ (attrs_words h.attrs ++ written body))) Any (λ y. starts (gr.map (λ (t : Token). Some t) inner.item_name) y ≡ false)
      by None = lead s.LParen Signs.opening_sorted refl
      by (Some x) = lead s.LBracket Signs.left_bracket_sorted refl

  has_end : Prints ns ns inner.function_end (end_words h body) Any (End h body)
  unfolding end_words
  has_end = has_seq (has_item h.item k.item) rest_lead has_rest (λ item f i g w x b. g item w x b i)

  dims_same : SameAll (map expr_of h.result.dims) []
  dims_same = ap (λ l. map placeless (map expr_of l)) (sym k.no_dims)

  begun : (w : inner.Words) (x : inner.Start) → IsWords h w → IsType h.result.is_const (base_of h.result.base) x.ty → x.stars ≡ h.result.stars → x.name.text ≡ h.name → Begun h w x
  begun w x g i e n = record { words = g; name = n; result = declared_same h.result x.ty x.stars [] i e dims_same }

  -- behind words that tell it
  has_worded : Prints ns ns inner.function (function_words h ++ name_end_words h body) Any (Function_made h body)
  unfolding name_end_words
  has_worded = has_seq (has_function_words h) (typed_ahead h.result.is_const h.result.stars h.name (end_words h body) k.result k.is_name)
      (has_seq {Q = λ f. (t : CastType) (w : inner.Words) → IsType h.result.is_const (base_of h.result.base) t → IsWords h w → Function_made h body (f t w)} {R = λ f. (w : inner.Words) → IsWords h w → Function_made h body (f w)} (has_type k.result h.result.is_const)
      (declarator_leads (end_words h body) h.result.stars h.name k.is_name refl name_ends)
      (has_less (λ y e. e) (λ f g t w i e. subst (Function_made h body) (sym (g.made t w)) (g.ok w (record { ty = t; stars = g.stars; name = g.token }) (begun w (record { ty = t; stars = g.stars; name = g.token }) e i g.are_stars g.is_name))) (has_named h.result.stars h.name k.is_name has_end))
      (λ t f i g w e. g t w i e)) (λ w f e g. g w e)

  -- ---- where nothing tells it

  has_plain_end : (m : Site) → Wordless h → Prints ns ns (Form.by (inner.ending m)) (end_words h body) Any (End h body)
  unfolding end_words rest_words tail_words
  has_plain_end m z = by h.item h.bracket refl refl
    where
      by : (i : Option (List ℕ)) (o : Option Param) → h.item ≡ i → h.bracket ≡ o → Prints ns ns (Form.by (inner.ending m)) (end_words h body) Any (End h body)
      by (Some n) o e f = has_by s.Dot (subst (λ (i : Option (List ℕ)). Leads ns ns (item_words i ++ rest_words h body) Any (λ y. y ≡ s.Dot)) (sym e) (lead s.Dot Signs.dot_sorted refl)) (ending_dot m has_end)
      by None None e f = has_by s.LParen (subst (λ (i : Option (List ℕ)). Leads ns ns (item_words i ++ rest_words h body) Any (λ y. y ≡ s.LParen)) (sym e) (subst (λ (b : Option Param). Leads ns ns (bracket_words b ++ tail_words h body) Any (λ y. y ≡ s.LParen)) (sym f) (lead s.LParen Signs.opening_sorted refl)))
          (ending_paren m (has_words (ap (λ (i : Option (List ℕ)). item_words i ++ rest_words h body) (sym e)) (has_map has_rest (λ g l w x b. l None w x b (sym e)))))
      by None (Some b) e f = (let y : true ≡ false = sym (all_wanted h b f e (sym z.is_words.kind) (sym z.is_words.is_async) (sym z.is_words.is_default)) ∙ z.wants in absurd cc)

  pub decled_func : (m : Site) → Decled m ns (inner.all_hidden (hidden_by h.item h.name) ns) (decl.Func h body)
  unfolding name_end_words
  decled_func m = by (has_word h) refl
    where
      by : (b : Bool) → has_word h ≡ b → Decled m ns (inner.all_hidden (hidden_by h.item h.name) ns) (decl.Func h body)
      by true e = decled_function m (decl.Func h body) (hidden_by h.item h.name) (sym (function_is h body)) (words_lead h (name_end_words h body) e) has_worded
      by false e = (let z = wordless h e in decled_typed m (decl.Func h body) (hidden_by h.item h.name) (sym (ap (λ ws. ws ++ name_end_words h body) (sym z.words) ∙ function_is h body))
          (typed_ahead h.result.is_const h.result.stars h.name (end_words h body) k.result k.is_name)
          (has_typed m (base_of h.result.base) h.result.is_const h.result.stars h.name k.result k.is_name (has_plain_end m z) (λ x f i e n g. g inner.no_words x (begun inner.no_words x z.is_words i e n))))
