-- What is told to a module is what the meaning tells it, inside parts that look at names alone.
use Rattle.std.proofs.Common.{◌≡◌, ℕ, Bool, Option, List, Result, ap, sym, subst, ◌∙◌, rules}
use Rattle.std.specs.Option.{option_map}
use Rattle.nesc_tree.specs.declared.declarations.Decl as rust_decl
use Rattle.nesc_tree.specs.declared.declarations.FuncHead as rust_head
use Rattle.nesc_tree.specs.declared.declarations.Stmt as rust_stmt
use Rattle.nesc_types.specs.Rule.{Rule}
use Rattle.nesc_types.specs.Values.{Constant}
use Rattle.body_meaning.specs.Tree as tree
use Rattle.body_meaning.specs.Tree.{Head}
use Rattle.body_meaning.specs.View.{decl_of, head_of, maybe_stmt, stmt_of}
use Rattle.elab_meaning.specs.Elab.{State}
use Rattle.elab_meaning.specs.Scope.{Env}
use Rattle.program_meaning.specs.Heads.{Form, line}

pub line_told : (env env1 : Env) (values values1 : List (Option Constant)) (inside inside1 : Bool) (h : Head) (f : Form) (st : State)
    → env1 ≡ env → values1 ≡ values → inside ≡ inside1 → line env values inside h f st ≡ line env1 values1 inside1 h f st
line_told env env1 values values1 inside inside1 h f st e v i =
    ap (λ (x : Env). line x values inside h f st) (sym e)
    ∙ ap (λ (x : List (Option Constant)). line env1 x inside h f st) (sym v)
    ∙ ap (λ (x : Bool). line env1 values1 x h f st) i

pub function_shape : (d : rust_decl.Decl) (h : rust_head.FuncHead) (x : Option rust_stmt.Stmt) → d ≡ rust_decl.Func h x
    → decl_of d ≡ tree.function (head_of h) (maybe_stmt (option_map stmt_of x))
function_shape d h x is = ap decl_of is ∙ search (rules, rust_decl.the_lemmas)

-- work on what is told is work on what the meaning tells
pub told_same : {A : Type 0} (work : Env → List (Option Constant) → A) (env env1 : Env) (values values1 : List (Option Constant)) → env1 ≡ env → values1 ≡ values
    → work env values ≡ work env1 values1
told_same work env env1 values values1 e v = ap (λ (x : Env). work x values) (sym e) ∙ ap (λ (x : List (Option Constant)). work env1 x) (sym v)
