-- The words of declarations: initialisers, attributes, variables, parameters and heads of functions (C99 6.7, 6.9.1; nesC 1.3 Reference).
use Rattle.std.specs.Prelude.{ℕ, Bool, true, false, not, ◌&&◌, List, [], ◌∷◌, ◌++◌, map, codes, Option, Some, None, option_map, is_none, is_some}
use Rattle.nesc_tree.specs.Level as level
use Rattle.nesc_tree.specs.View.{expr_of, spec_of}
use Rattle.nesc_tree.specs.declared.tree.Param.{Param}
use Rattle.nesc_tree.specs.declared.tree.Declarator.{Declarator}
use Rattle.nesc_tree.specs.declared.tree.TypeSpec.{TypeSpec}
use Rattle.nesc_tree.specs.declared.declarations.Init.{Init, Init-F, fold-Init}
use Rattle.nesc_tree.specs.declared.declarations.Init.TheOpen as I
use Rattle.nesc_tree.specs.declared.declarations.Variable.{Variable}
use Rattle.nesc_tree.specs.declared.declarations.VarGroup.{VarGroup}
use Rattle.nesc_tree.specs.declared.declarations.FuncHead.{FuncHead}
use Rattle.nesc_tree.specs.declared.declarations.FuncKind.{FuncKind}
use Rattle.nesc_tree.specs.declared.declarations.FuncKind.TheVariants as kind
use Rattle.nesc_tree.specs.declared.declarations.Attr.{Attr}
use Rattle.nesc_tree.specs.declared.declarations.AttrArg.{AttrArg}
use Rattle.nesc_tree.specs.declared.declarations.AttrArg.TheVariants as arg
use Rattle.nesc_print_words.specs.Lexemes.{Words, word, sign, literal, semicolon, in_parentheses, in_brackets, in_braces, joined, listed, or_nothing, flagged}
use Rattle.nesc_print_words.specs.Expressions.{words_at, type_words, before_name, behind_name, declarator_words, dim_words}
use Rattle.nesc_print_words.specs.Trees.{declarator_of}

-- ---- initialisers (C99 6.7.8)

abbrev pub init_layer : Init-F Words → Words
init_layer (I.One e) = words_at level.assignment (expr_of e)
init_layer (I.Many inits) = in_braces (listed inits)

abbrev pub init_words : Init → Words
init_words i = fold-Init Words init_layer i

abbrev pub inits_words : List Init → Words
inits_words is = listed (map init_words is)

-- ---- attributes

abbrev pub attr_arg_words : AttrArg → Words
attr_arg_words (arg.Text text) = literal text ∷ []
attr_arg_words (arg.Value e) = words_at level.conditional (expr_of e)

abbrev pub attr_words : Attr → Words
attr_words a = sign (codes "@") ∷ word a.name ∷ in_parentheses (listed (map attr_arg_words a.args))

abbrev pub attrs_words : List Attr → Words
attrs_words xs = joined (map attr_words xs)

-- ---- variables

abbrev pub named_words : Declarator → Words
named_words x = declarator_words (declarator_of x).0 (declarator_of x).1 (dim_words (declarator_of x).2)

abbrev pub initialised : Init → Words
initialised i = sign (codes "=") ∷ init_words i

abbrev pub variable_words : Variable → Words
variable_words v = named_words v.declarator ++ or_nothing (option_map initialised v.init)

-- several variables stand in one declaration, as in the tree
abbrev pub vars_words : VarGroup → Words
vars_words g = flagged g.norace (codes "norace") ++ (type_words (spec_of g.ty) ++ (listed (map variable_words g.vars) ++ semicolon ∷ []))

-- ---- type names

abbrev pub typedef_words : List ℕ → TypeSpec → List Attr → Words
typedef_words name ty attrs =
    word (codes "typedef") ∷ (before_name (spec_of ty) ++ word name ∷ (behind_name (spec_of ty) ++ (attrs_words attrs ++ semicolon ∷ [])))

abbrev pub type_only_words : TypeSpec → Words
type_only_words ty = type_words (spec_of ty) ++ semicolon ∷ []

-- ---- heads of functions

abbrev pub name_words : Option (List ℕ) → Words
name_words None = []
name_words (Some n) = word n ∷ []

abbrev pub param_words : Param → Words
param_words x = before_name (spec_of x.ty) ++ (name_words x.name ++ behind_name (spec_of x.ty))

abbrev pub params_words : List Param → Words
params_words xs = in_parentheses (listed (map param_words xs))

abbrev pub bracket_words : Option Param → Words
bracket_words None = []
bracket_words (Some x) = in_brackets (param_words x)

abbrev pub item_words : Option (List ℕ) → Words
item_words None = []
item_words (Some n) = sign (codes ".") ∷ word n ∷ []

abbrev pub kind_words : FuncKind → Words
kind_words kind.Plain = []
kind_words kind.Task = word (codes "task") ∷ []
kind_words kind.Command = word (codes "command") ∷ []
kind_words kind.Event = word (codes "event") ∷ []

abbrev pub is_plain : FuncKind → Bool
is_plain kind.Plain = true
is_plain _ = false

-- in a header a bracket behind a name begins a dimension where no word before the type makes the declaration one of a function
abbrev pub wants_word : FuncHead → Bool
wants_word h = is_some h.bracket && is_none h.item && is_plain h.kind && not h.is_async && not h.is_default

-- the words before the type
abbrev pub function_words : FuncHead → Words
function_words h = flagged (wants_word h) (codes "inline") ++ (flagged h.is_default (codes "default") ++ (flagged h.is_async (codes "async") ++ kind_words h.kind))

-- what stands behind the name
abbrev pub call_words : FuncHead → Words
call_words h = item_words h.item ++ (bracket_words h.bracket ++ (params_words h.params ++ attrs_words h.attrs))

abbrev pub head_words : FuncHead → Words
head_words h = function_words h ++ (before_name (spec_of h.result) ++ word h.name ∷ call_words h)
