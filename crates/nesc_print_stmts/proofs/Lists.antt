-- Lists of parts, one element after the other.
use Rattle.std.proofs.Common.{◌≡◌, ℕ, ◌+◌, ◌<◌, List, ◌∷◌, ◌++◌, drop, length, get_or, map, ap}
use Rattle.std.proofs.Math.ListN.{drop_of_length-le}
use Rattle.nesc_tree.specs.declared.tree.Param.{Param}
use Rattle.nesc_tree.specs.declared.declarations.Attr.{Attr}
use Rattle.nesc_tree.specs.declared.declarations.AttrArg.{AttrArg}
use Rattle.nesc_tree.specs.declared.declarations.Decl.{Decl}
use Rattle.nesc_tree.specs.declared.declarations.Init.{Init}
use Rattle.nesc_tree.specs.declared.declarations.Stmt.{Stmt}
use Rattle.nesc_tree.specs.declared.declarations.Variable.{Variable}
use Rattle.nesc_print_words.specs.Lexemes.{Words, comma, joined, behind_commas}
use Rattle.nesc_print_words.specs.Declarations.{init_words, attr_words, attrs_words, attr_arg_words, variable_words, param_words}
use Rattle.nesc_print_words.specs.Statements.{decl_words, decls_words, stmt_words, stmts_words}
use Rattle.nesc_print_exprs.proofs.Lists.{next_of}

pub joined_next : {A : Type 0} (f : A → Words) (xs : List A) (k : ℕ) (x : A) → k < length xs → x ≡ get_or xs k x
    → joined (map f (drop k xs)) ≡ f x ++ joined (map f (drop (k + 1) xs))
joined_next f xs k x below is = ap (λ ys. joined (map f ys)) (next_of xs k x below is)

pub commas_next : {A : Type 0} (f : A → Words) (xs : List A) (k : ℕ) (x : A) → k < length xs → x ≡ get_or xs k x
    → behind_commas (map f (drop k xs)) ≡ comma ∷ (f x ++ behind_commas (map f (drop (k + 1) xs)))
commas_next f xs k x below is = ap (λ ys. behind_commas (map f ys)) (next_of xs k x below is)

pub inits_next : (xs : List Init) (k : ℕ) (x : Init) → k < length xs → x ≡ get_or xs k x
    → behind_commas (map init_words (drop k xs)) ≡ comma ∷ (init_words x ++ behind_commas (map init_words (drop (k + 1) xs)))
inits_next xs k x below is = commas_next init_words xs k x below is

pub attr_args_next : (xs : List AttrArg) (k : ℕ) (x : AttrArg) → k < length xs → x ≡ get_or xs k x
    → behind_commas (map attr_arg_words (drop k xs)) ≡ comma ∷ (attr_arg_words x ++ behind_commas (map attr_arg_words (drop (k + 1) xs)))
attr_args_next xs k x below is = commas_next attr_arg_words xs k x below is

pub attrs_next : (xs : List Attr) (k : ℕ) (x : Attr) → k < length xs → x ≡ get_or xs k x
    → attrs_words (drop k xs) ≡ attr_words x ++ attrs_words (drop (k + 1) xs)
attrs_next xs k x below is = joined_next attr_words xs k x below is

pub variables_next : (xs : List Variable) (k : ℕ) (x : Variable) → k < length xs → x ≡ get_or xs k x
    → behind_commas (map variable_words (drop k xs)) ≡ comma ∷ (variable_words x ++ behind_commas (map variable_words (drop (k + 1) xs)))
variables_next xs k x below is = commas_next variable_words xs k x below is

pub params_next : (xs : List Param) (k : ℕ) (x : Param) → k < length xs → x ≡ get_or xs k x
    → behind_commas (map param_words (drop k xs)) ≡ comma ∷ (param_words x ++ behind_commas (map param_words (drop (k + 1) xs)))
params_next xs k x below is = commas_next param_words xs k x below is

pub stmts_next : (xs : List Stmt) (k : ℕ) (x : Stmt) → k < length xs → x ≡ get_or xs k x
    → stmts_words (drop k xs) ≡ stmt_words x ++ stmts_words (drop (k + 1) xs)
stmts_next xs k x below is = joined_next stmt_words xs k x below is

pub decls_next : (xs : List Decl) (k : ℕ) (x : Decl) → k < length xs → x ≡ get_or xs k x
    → decls_words (drop k xs) ≡ decl_words x ++ decls_words (drop (k + 1) xs)
decls_next xs k x below is = joined_next decl_words xs k x below is

pub ruleset lists = (inits_next, attr_args_next, attrs_next, variables_next, params_next, stmts_next, decls_next, drop_of_length-le)
