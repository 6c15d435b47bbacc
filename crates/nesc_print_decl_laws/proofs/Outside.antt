-- Variables outside of blocks, types alone and type names are printed, and read again as the same up to places.
use Rattle.std.proofs.Common.{◌≡◌, ℕ, Bool, true, false, List, [], ◌∷◌, ◌++◌, map, Option, Some, None, refl, sym, ap, subst, ◌∙◌, append_assoc}
use Rattle.std.specs.Prelude.{codes, option_map}
use Rattle.nm_base.specs.declared.pos.Pos.{Pos}
use Rattle.nm_base.specs.declared.token.Token.{Token}
use Rattle.nesc_tree.specs.declared.sorts.Sort.{Sort}
use Rattle.nesc_tree.specs.declared.sorts.Sort.TheVariants as s
use Rattle.nesc_tree.specs.declared.contexts.Site.{Site}
use Rattle.nesc_tree.specs.declared.contexts.Site.TheVariants as site
use Rattle.nesc_tree.specs.declared.tree.Expr as tree
use Rattle.nesc_tree.specs.declared.tree.TypeSpec.{TypeSpec}
use Rattle.nesc_tree.specs.declared.operand.CastType.{CastType}
use Rattle.nesc_tree.specs.declared.declarations.Attr.{Attr}
use Rattle.nesc_tree.specs.declared.declarations.Decl as decl
use Rattle.nesc_tree.specs.declared.declarations.Init.{Init}
use Rattle.nesc_tree.specs.declared.declarations.Variable.{Variable}
use Rattle.nesc_tree.specs.declared.declarations.VarGroup.{VarGroup}
use Rattle.nesc_tree.specs.View.{expr_of, spec_of, base_of, exprs}
use Rattle.nesc_tree.specs.Sorts.{Names}
use Rattle.nesc_tree.specs.Sorts as sorts
use Rattle.nesc_tree.specs.Phrase.{begins_type, begins_expr}
use Rattle.nesc_tree.specs.Form.{Form, Place, Spells, SpellsIn}
use Rattle.nesc_grammar.specs.Production.{production}
use Rattle.nesc_grammar.specs.Grammar as gr
use Rattle.nesc_grammar.specs.Declarations as inner
use Rattle.nesc_print_words.specs.Lexemes.{Words, word, sign, comma, semicolon, flagged, stars, joined, listed, or_nothing, behind_commas}
use Rattle.nesc_print_words.specs.Expressions.{words_at, type_words, base_words, dim_words}
use Rattle.nesc_print_words.specs.Declarations.{initialised, variable_words}
use Rattle.nesc_print_words.specs.Statements.{decl_words}
use Rattle.nesc_print_laws.specs.Placeless.{placeless, placeless_type}
use Rattle.nesc_print_laws.specs.Shapes as shape
use Rattle.nesc_print_laws.specs.Shapes.{decl_shape, group_shape, variable_shape}
use Rattle.nesc_print_laws.proofs.Texts.{Prints, Leads, Any, lead, lead_any, lead_before, has_token, has_seq, has_map, has_behind, has_before, has_by, has_by_some, has_words, has_less}
use Rattle.nesc_print_laws.proofs.Signs
use Rattle.nesc_print_laws.proofs.Follows.{no_type}
use Rattle.nesc_print_laws.proofs.Runs.{Bare, operand, operand_leads}
use Rattle.nesc_print_laws.proofs.Lists.{Row}
use Rattle.nesc_print_laws.proofs.Exprs.{two}
use Rattle.nesc_print_laws.proofs.Calls.{All, SameAll}
use Rattle.nesc_print_laws.proofs.Types.{Ends, IsType, has_dims}
use Rattle.nesc_print_laws.proofs.Fields.{Matched, plain_words, spec_same}
use Rattle.nesc_print_laws.proofs.Changed.{has_repeated, Pushes, matched_map}
use Rattle.nesc_print_laws.proofs.Inits.{has_attributes}
use Rattle.nesc_print_laws.proofs.StmtViews as view
use Rattle.nesc_print_laws.proofs.Stmts.{lead_words}
use Rattle.nesc_print_laws.proofs.Variables.{Declarator, VarEnd, comma_ends, semi_ends, MaybeInitial, has_some_init, variable_same, Shaped, AllDeclared, has_variable, has_variables, SameDecl, TypeNamed, has_typedef, typedef_is, Plain, plain_type, plain_leads, plain_spec, spelled_out, variables_lead}
use Rattle.nesc_print_decl_laws.proofs.Keywords.{norace_sorted}
use Rattle.nesc_print_decl_laws.proofs.Heads.{has_typed, typed_ahead, name_ends, Made, Decled, decled_typed, has_hiding}

-- ---- the first variable; its name is not yet in force in its own declaration

pub record Outside (ns ms : Names) (t : TypeSpec) (v : Variable) (vs : List Variable) : Type 0 where
  pub ty : Plain ns t
  pub first : Declarator ns v.declarator.stars v.declarator.name v.declarator.dims
  pub init : MaybeInitial ns v.init
  pub others : AllDeclared vs ns ms

init_words : Variable → Words
init_words v = or_nothing (option_map initialised v.init)

-- the other variables, and the sign behind them
others_words : List Variable → Words
others_words vs = behind_commas (map variable_words vs) ++ (semicolon ∷ [])

comma_joined : (vs : List Variable) → joined (map (λ v. comma ∷ variable_words v) vs) ≡ behind_commas (map variable_words vs)
comma_joined [] = refl
comma_joined (v ∷ vs) = ap (λ ws. comma ∷ (variable_words v ++ ws)) (comma_joined vs)

abbrev more_body : Sort → Form (List Variable → List Variable)
more_body x = gr.when (gr.is_comma x) (gr.map inner.added (gr.behind (gr.one s.Comma) inner.variable))

each_more : (vs : List Variable) {ns ms : Names} → AllDeclared vs ns ms → Row more_body (λ v. comma ∷ variable_words v) VarEnd (Pushes Shaped) gr.is_comma vs ns ms
each_more [] AllDeclared.none = Row.none
each_more (v ∷ vs) (AllDeclared.more d a) = Row.more (has_by s.Comma (lead s.Comma Signs.comma_sorted refl) (has_map (has_behind (has_token Signs.comma_sorted (λ t w. w)) lead_any (has_variable v d)) (λ u h l. (u, h, refl)))) (lead s.Comma Signs.comma_sorted refl) (each_more vs a)

comma_is : (y : Sort) → gr.is_comma y ≡ true → VarEnd y
comma_is s.Comma h = comma_ends
comma_is _ h = absurd cc

has_others : {ns ms : Names} (vs : List Variable) → AllDeclared vs ns ms → Prints ns ms (gr.before inner.more_variables (gr.one s.Semi)) (others_words vs) Any (Matched Shaped vs)
unfolding others_words
has_others vs a = has_before (has_words (comma_joined vs) (has_repeated gr.is_comma more_body (λ v. comma ∷ variable_words v) VarEnd Shaped comma_is vs (each_more vs a))) (lead s.Semi Signs.semicolon_sorted (semi_ends, refl)) (has_token Signs.semicolon_sorted (λ t w. w))

-- behind the dimensions of the first variable
after_dims : Sort → Bool
after_dims s.Assign = true
after_dims s.Comma = true
after_dims s.Semi = true
after_dims _ = false

abbrev AfterDims : Sort → Type 0
AfterDims y = after_dims y ≡ true

after_no_at : (y : Sort) → AfterDims y → inner.is_at y ≡ false
unfolding after_dims
after_no_at s.Assign h = refl
after_no_at s.Comma h = refl
after_no_at s.Semi h = refl
after_no_at _ h = absurd cc

after_no_bracket : (y : Sort) → AfterDims y → gr.is_bracket y ≡ false
unfolding after_dims
after_no_bracket s.Assign h = refl
after_no_bracket s.Comma h = refl
after_no_bracket s.Semi h = refl
after_no_bracket _ h = absurd cc

others_lead : {ns ms : Names} {G : Sort → Type 0} (vs : List Variable) → AllDeclared vs ns ms → G s.Comma → G s.Semi → Leads ns ms (others_words vs) Any G
unfolding others_words
others_lead [] a g h = lead s.Semi Signs.semicolon_sorted h
others_lead (v ∷ vs) a g h = lead s.Comma Signs.comma_sorted g

inits_lead : {ns ms : Names} (v : Variable) (vs : List Variable) → AllDeclared vs ns ms → Leads ns ms (init_words v ++ others_words vs) Any AfterDims
unfolding init_words after_dims
inits_lead {ns = ns} {ms = ms} v vs a = by v.init
  where
    by : (x : Option Init) → Leads ns ms (or_nothing (option_map initialised x) ++ others_words vs) Any AfterDims
    by None = others_lead vs a refl refl
    by (Some x) = lead s.Assign Signs.gets_sorted refl

-- the declaration, and the names that it hides
abbrev group_of : TypeSpec → List Variable → VarGroup
group_of t vs = record { ty = t; norace = false; vars = vs }

texts_same : (vs l : List Variable) → Matched Shaped vs l → inner.texts l ≡ inner.texts vs
texts_same [] [] h = refl
texts_same [] (a ∷ l) h = absurd h
texts_same (v ∷ vs) [] h = absurd h
texts_same (v ∷ vs) (a ∷ l) h = two (λ n ns. n ∷ ns) (ap (λ (z : shape.Variable). z.name) h.0) (texts_same vs l h.1)

grouped_made : (b : Bool) (t : TypeSpec) (vs : List Variable) (u : CastType) (l : List Variable) → placeless_type (spec_of u.ty) ≡ placeless_type (spec_of t) → Matched Shaped vs l
    → Made (decl.Vars (record { ty = t; norace = b; vars = vs })) (inner.texts vs) (inner.grouped b u l)
grouped_made b t vs u l h g = record {
  same = view.vars_shape (inner.group b u l) ∙ (ap shape.Decl.variables (two (λ x y. record { ty = x; norace = b; variables = y }) h (matched_map variable_shape vs l g)) ∙ sym (view.vars_shape (record { ty = t; norace = b; vars = vs })));
  hidden = texts_same vs l g;
}

at_plain : (y : Sort) → AfterDims y → (spare : ℕ) (a b : Place) (f : inner.Behind) → Spells spare (SpellsIn production spare) (gr.map (λ f. f []) inner.first_variable) a f b → Spells spare (SpellsIn production spare) (inner.ending site.Module y) a f b
unfolding after_dims
at_plain s.Assign c spare a b f h = h
at_plain s.Comma c spare a b f h = h
at_plain s.Semi c spare a b f h = h
at_plain _ c spare a b f h = absurd cc

at_expr : (y : Sort) → begins_expr y ≡ true → (spare : ℕ) (a b : Place) (f : inner.Behind) → Spells spare (SpellsIn production spare) inner.dimensioned a f b → Spells spare (SpellsIn production spare) (inner.bracketed_of y) a f b
at_expr y c spare a b f h = rw (no_type y c, c) h

module _ {ns ms : Names} (t : TypeSpec) (v : Variable) (vs : List Variable) (k : Outside ns ms t v vs) where
  abbrev Vars : decl.Decl
  Vars = decl.Vars (group_of t (v ∷ vs))

  -- made with its dimensions
  abbrev First : (List tree.Expr → inner.Behind) → Type 0
  First f = (l : List tree.Expr) (w : inner.Words) (x : inner.Start) → SameAll (map expr_of v.declarator.dims) l → x.stars ≡ v.declarator.stars → x.name.text ≡ v.declarator.name → IsType t.is_const (base_of t.base) x.ty → Made Vars (inner.texts (v ∷ vs)) (f l w x)

  abbrev Made_of : inner.Behind → Type 0
  Made_of f = (w : inner.Words) (x : inner.Start) → x.stars ≡ v.declarator.stars → x.name.text ≡ v.declarator.name → IsType t.is_const (base_of t.base) x.ty → Made Vars (inner.texts (v ∷ vs)) (f w x)

  plain_same : (u : CastType) → IsType t.is_const (base_of t.base) u → placeless_type (spec_of u.ty) ≡ placeless_type (spec_of t)
  plain_same u i = spec_same (base_of t.base) t.is_const u i ∙ ap placeless_type (sym (plain_spec ns t k.ty))

  has_first : Prints ns ms inner.first_variable (init_words v ++ others_words vs) Any First
  unfolding init_words
  has_first = has_behind (has_less after_no_at (λ l h. h) (has_attributes [] tt)) (inits_lead v vs k.others)
      (has_seq (has_some_init v.init k.init) (others_lead vs k.others comma_ends semi_ends) (has_others vs k.others)
      (λ z l h g d w x s e n i. grouped_made false t (v ∷ vs) x.ty (inner.with_init (inner.variable_at x d) z ∷ l) (plain_same x.ty i)
      (variable_same v (inner.variable_at x d) z (record { stars = e; name = n; dims = s }) h, g)))

  ends_words : Words
  ends_words = dim_words (exprs (map expr_of v.declarator.dims)) ++ (init_words v ++ others_words vs)

  has_ends : Prints ns ms (Form.by (inner.ending site.Module)) ends_words Any Made_of
  unfolding ends_words
  has_ends = by v.declarator.dims refl
    where
      plain : v.declarator.dims ≡ [] → Prints ns ms (Form.by (inner.ending site.Module)) (init_words v ++ others_words vs) Any Made_of
      plain e = has_by_some AfterDims (inits_lead v vs k.others) at_plain (has_map has_first (λ f h w x s n i. h [] w x (ap (λ l. map placeless (map expr_of l)) (sym e)) s n i))

      bracketed : (e : tree.Expr) (es : List tree.Expr) → All (Bare ns) (map expr_of (e ∷ es)) → v.declarator.dims ≡ e ∷ es
          → Prints ns ms (Form.by (inner.ending site.Module)) (sign (codes "[") ∷ (((words_at 2 (expr_of e) ++ (sign (codes "]") ∷ [])) ++ dim_words (exprs (map expr_of es))) ++ (init_words v ++ others_words vs))) Any Made_of
      bracketed e es b i = has_by s.LBracket (lead s.LBracket Signs.left_bracket_sorted refl) (has_behind (has_token Signs.left_bracket_sorted (λ t w. w)) lead_any (has_by_some (λ y. begins_expr y ≡ true) ahead at_expr
          (has_seq (has_seq {R = λ l. SameAll (map expr_of (e ∷ es)) l.exprs} (has_before (operand b.0 2 (λ a h. h)) (lead s.RBracket Signs.right_bracket_sorted refl) (has_token Signs.right_bracket_sorted (λ t w. w))) lead_any
          (has_less after_no_bracket (λ l h. h) (has_dims (map expr_of es) b.1)) (λ a l h g. two (λ x xs. x ∷ xs) h g)) (inits_lead v vs k.others) has_first
          (λ l f h g w x s n j. g l.exprs w x (h ∙ ap (λ z. map placeless (map expr_of z)) (sym i)) s n j))))
        where
          ahead : Leads ns ms (((words_at 2 (expr_of e) ++ (sign (codes "]") ∷ [])) ++ dim_words (exprs (map expr_of es))) ++ (init_words v ++ others_words vs)) Any (λ y. begins_expr y ≡ true)
          ahead = subst (λ ws. Leads ns ms ws Any (λ y. begins_expr y ≡ true)) (sym (append_assoc (words_at 2 (expr_of e) ++ (sign (codes "]") ∷ [])) (dim_words (exprs (map expr_of es))) (init_words v ++ others_words vs) ∙ append_assoc (words_at 2 (expr_of e)) (sign (codes "]") ∷ []) (dim_words (exprs (map expr_of es)) ++ (init_words v ++ others_words vs)))) (lead_before (operand_leads b.0 2) (lead s.RBracket Signs.right_bracket_sorted refl))

      by : (es : List tree.Expr) → v.declarator.dims ≡ es → Prints ns ms (Form.by (inner.ending site.Module)) ends_words Any Made_of
      by [] e = has_words (ap (λ l. dim_words (exprs (map expr_of l)) ++ (init_words v ++ others_words vs)) (sym e)) (plain e)
      by (e ∷ es) i = has_words (ap (λ l. dim_words (exprs (map expr_of l)) ++ (init_words v ++ others_words vs)) (sym i)) (bracketed e es (subst (λ l. All (Bare ns) (map expr_of l)) i k.first.dims) i)

  vars_is : (flagged t.is_const (codes "const") ++ base_words (base_of t.base)) ++ (stars v.declarator.stars ++ (word v.declarator.name ∷ ends_words)) ≡ decl_words Vars
  unfolding ends_words init_words others_words
  vars_is = two (λ a b. a ++ b) (plain_words (base_of t.base) t.is_const ∙ ap type_words (sym (plain_spec ns t k.ty))) tail ∙ sym (view.words_of_group (group_of t (v ∷ vs)))
    where
      tail : stars v.declarator.stars ++ (word v.declarator.name ∷ (dim_words (exprs (map expr_of v.declarator.dims)) ++ (init_words v ++ others_words vs))) ≡ listed (map variable_words (v ∷ vs)) ++ (semicolon ∷ [])
      tail = ap (λ ws. stars v.declarator.stars ++ (word v.declarator.name ∷ ws)) (sym (append_assoc (dim_words (exprs (map expr_of v.declarator.dims))) (init_words v) (others_words vs)))
          ∙ (sym (spelled_out v (others_words vs)) ∙ sym (append_assoc (variable_words v) (behind_commas (map variable_words vs)) (semicolon ∷ [])))

  pub decled_vars : Decled site.Module ns (inner.all_hidden (inner.texts (v ∷ vs)) ms) Vars
  decled_vars = decled_typed site.Module Vars (inner.texts (v ∷ vs)) (sym vars_is) (typed_ahead t.is_const v.declarator.stars v.declarator.name ends_words k.ty.basic k.first.is_name)
      (has_typed site.Module (base_of t.base) t.is_const v.declarator.stars v.declarator.name k.ty.basic k.first.is_name has_ends (λ x f i e n g. g inner.no_words x e n i))

-- ---- variables with `norace`

no_storage : (y : Sort) → begins_type y ≡ true → inner.is_storage y ≡ false
no_storage s.Norace h = absurd cc
no_storage s.Static h = absurd cc
no_storage _ h = refl

abbrev storage_body : Sort → Form (List Token → List Token)
storage_body x = gr.when (inner.is_storage x) (gr.map inner.added (gr.one x))

module _ {ns ms : Names} (t : TypeSpec) (v : Variable) (vs : List Variable) (k : Plain ns t) (a : AllDeclared (v ∷ vs) ns ms) where
  abbrev Norace : decl.Decl
  Norace = decl.Vars (record { ty = t; norace = true; vars = v ∷ vs })

  has_storages : Prints ns ns inner.storages [] (λ y. begins_type y ≡ true) (λ l. Unit {0})
  has_storages = has_less (λ y h. (tt, no_storage y h)) (λ l h. tt) (has_repeated {X = Unit {0}} inner.is_storage storage_body (λ _. []) Any (λ x t. Unit {0}) (λ y h. tt) [] Row.none)

  norace_tail : Words
  norace_tail = listed (map variable_words (v ∷ vs)) ++ (semicolon ∷ [])

  has_norace : Prints ns ms inner.norace_variables (word (codes "norace") ∷ (type_words (spec_of t) ++ norace_tail)) Any (Made Norace (inner.texts (v ∷ vs)))
  unfolding norace_tail
  has_norace = has_behind (has_token norace_sorted (λ t w. w)) lead_any (has_behind has_storages (plain_leads t norace_tail k names_ahead)
      (has_seq (plain_type t k) names_ahead (has_before (has_variables v vs a) (lead s.Semi Signs.semicolon_sorted refl) (has_token Signs.semicolon_sorted (λ t w. w))) (λ u l h g. grouped_made true t (v ∷ vs) u l h g)))
    where
      names_ahead : Leads ns ms (listed (map variable_words (v ∷ vs)) ++ (semicolon ∷ [])) Any Ends
      names_ahead = variables_lead v vs a (semicolon ∷ []) refl name_ends

  pub decled_norace : Decled site.Module ns (inner.all_hidden (inner.texts (v ∷ vs)) ms) Norace
  unfolding norace_tail
  decled_norace = record {
    prints = has_words (sym (view.words_of_group (record { ty = t; norace = true; vars = v ∷ vs }))) (has_by s.Norace (lead s.Norace norace_sorted refl) (has_hiding Norace (inner.texts (v ∷ vs)) has_norace));
    leads = lead_words (view.words_of_group (record { ty = t; norace = true; vars = v ∷ vs })) (lead s.Norace norace_sorted refl);
  }

-- ---- a type alone

alone_at : (m : Site) (y : Sort) → y ≡ s.Semi → (spare : ℕ) (a b : Place) (f : CastType → inner.Declaring) → Spells spare (SpellsIn production spare) inner.type_alone a f b → Spells spare (SpellsIn production spare) (inner.typed_of m y) a f b
alone_at m s.Semi e spare a b f h = h
alone_at m _ e spare a b f h = absurd cc

pub decled_type : {ns : Names} (m : Site) (t : TypeSpec) (at : Pos) → Plain ns t → Decled m ns ns (decl.TypeOnly t at)
decled_type {ns = ns} m t at k = decled_typed m (decl.TypeOnly t at) [] (view.words_of_type_only at t) (plain_leads t (semicolon ∷ []) k (lead s.Semi Signs.semicolon_sorted refl))
    (has_seq {Q = λ f. (u : CastType) → placeless_type (spec_of u.ty) ≡ placeless_type (spec_of t) → Made (decl.TypeOnly t at) [] (f u)} (plain_type t k) (lead s.Semi Signs.semicolon_sorted refl)
    (has_by_some (λ y. y ≡ s.Semi) (lead s.Semi Signs.semicolon_sorted refl) (alone_at m) (has_map (has_token Signs.semicolon_sorted (λ t w. w)) (λ x w u h. record { same = view.type_only_shape u.from u.ty ∙ (ap shape.Decl.type_only h ∙ sym (view.type_only_shape at t)); hidden = refl })))
    (λ u f h g. g u h))

-- ---- type names

pub has_typedef_decl : {ns : Names} (name : List ℕ) (t : TypeSpec) (l : List Attr) (at : Pos) → TypeNamed ns name t l → Prints ns (sorts.declared name true ns) inner.typedef_decl (decl_words (decl.Typedef name t l at)) Any (SameDecl (decl.Typedef name t l at))
has_typedef_decl name t l at k = has_words (typedef_is name t l at ∙ sym (view.words_of_typedef at name t l)) (has_seq {Q = λ f. (o : Token) → SameDecl (decl.Typedef name t l at) (f o)} (has_token Signs.typedef_sorted (λ t w. w)) lead_any (has_typedef name t l at k) (λ o f w h. h o))

pub typedef_ahead : {ns ms : Names} {F G : Sort → Type 0} (name : List ℕ) (t : TypeSpec) (l : List Attr) (at : Pos) → G s.Typedef → Leads ns ms (decl_words (decl.Typedef name t l at)) F G
typedef_ahead name t l at g = lead_words (view.words_of_typedef at name t l) (lead s.Typedef Signs.typedef_sorted g)

pub decled_typedef : {ns : Names} (m : Site) (name : List ℕ) (t : TypeSpec) (l : List Attr) (at : Pos) → TypeNamed ns name t l → Decled m ns (sorts.declared name true ns) (decl.Typedef name t l at)
decled_typedef m name t l at k = record { prints = has_by s.Typedef (typedef_ahead name t l at refl) (has_typedef_decl name t l at k); leads = typedef_ahead name t l at refl }
