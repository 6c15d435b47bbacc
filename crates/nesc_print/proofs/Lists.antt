-- Lists of parts, one element after the other.
use Rattle.std.proofs.Common.{◌≡◌, ℕ, ◌+◌, ◌<◌, List, ◌∷◌, ◌++◌, drop, length, get_or, map}
use Rattle.std.proofs.Math.ListN.{drop_of_length-le}
use Rattle.nesc_tree.specs.declared.tree.TypeSpec.{TypeSpec}
use Rattle.nesc_tree.specs.declared.components.ConfLine.{ConfLine}
use Rattle.nesc_tree.specs.declared.components.Elem.{Elem}
use Rattle.nesc_tree.specs.declared.components.GenericArg.{GenericArg}
use Rattle.nesc_tree.specs.declared.components.GenericParam.{GenericParam}
use Rattle.nesc_tree.specs.declared.components.Sig.{Sig}
use Rattle.nesc_print_words.specs.Lexemes.{comma, joined, behind_commas}
use Rattle.nesc_print_words.specs.Components.{type_parameter_words, sig_words, generic_param_words, type_argument_words, elem_words, generic_arg_words, line_words}
use Rattle.nesc_print_stmts.proofs.Lists.{joined_next, commas_next}

pub type_parameters_next : (xs : List (List ℕ)) (k : ℕ) (x : List ℕ) → k < length xs → x ≡ get_or xs k x
    → behind_commas (map type_parameter_words (drop k xs)) ≡ comma ∷ (type_parameter_words x ++ behind_commas (map type_parameter_words (drop (k + 1) xs)))
type_parameters_next xs k x below is = commas_next type_parameter_words xs k x below is

pub sigs_next : (xs : List Sig) (k : ℕ) (x : Sig) → k < length xs → x ≡ get_or xs k x
    → joined (map sig_words (drop k xs)) ≡ sig_words x ++ joined (map sig_words (drop (k + 1) xs))
sigs_next xs k x below is = joined_next sig_words xs k x below is

pub generic_params_next : (xs : List GenericParam) (k : ℕ) (x : GenericParam) → k < length xs → x ≡ get_or xs k x
    → behind_commas (map generic_param_words (drop k xs)) ≡ comma ∷ (generic_param_words x ++ behind_commas (map generic_param_words (drop (k + 1) xs)))
generic_params_next xs k x below is = commas_next generic_param_words xs k x below is

pub type_arguments_next : (xs : List TypeSpec) (k : ℕ) (x : TypeSpec) → k < length xs → x ≡ get_or xs k x
    → behind_commas (map type_argument_words (drop k xs)) ≡ comma ∷ (type_argument_words x ++ behind_commas (map type_argument_words (drop (k + 1) xs)))
type_arguments_next xs k x below is = commas_next type_argument_words xs k x below is

pub elems_next : (xs : List Elem) (k : ℕ) (x : Elem) → k < length xs → x ≡ get_or xs k x
    → joined (map elem_words (drop k xs)) ≡ elem_words x ++ joined (map elem_words (drop (k + 1) xs))
elems_next xs k x below is = joined_next elem_words xs k x below is

pub generic_args_next : (xs : List GenericArg) (k : ℕ) (x : GenericArg) → k < length xs → x ≡ get_or xs k x
    → behind_commas (map generic_arg_words (drop k xs)) ≡ comma ∷ (generic_arg_words x ++ behind_commas (map generic_arg_words (drop (k + 1) xs)))
generic_args_next xs k x below is = commas_next generic_arg_words xs k x below is

pub lines_next : (xs : List ConfLine) (k : ℕ) (x : ConfLine) → k < length xs → x ≡ get_or xs k x
    → joined (map line_words (drop k xs)) ≡ line_words x ++ joined (map line_words (drop (k + 1) xs))
lines_next xs k x below is = joined_next line_words xs k x below is

pub ruleset lists = (type_parameters_next, sigs_next, generic_params_next, type_arguments_next, elems_next, generic_args_next, lines_next, drop_of_length-le)
