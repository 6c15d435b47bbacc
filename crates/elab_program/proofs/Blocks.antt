-- Statements at the front of blocks.
use Rattle.std.proofs.Common.{◌≡◌, List, [], ◌∷◌, ◌++◌, map, Option, Some, None, ap, sym, ◌∙◌, refl}
use Rattle.std.specs.Option.{unwrap_or}
use Rattle.nesc_core.specs.Plain as core
use Rattle.nesc_core.specs.View.{stmt_of, stmts, stmts_of}
use Rattle.nesc_core.specs.declared.tree.CoreStmt.{CoreStmt}
use Rattle.elab_program.specs.Initial as parts
use Rattle.program_meaning.specs.Program as spec

joined_are : (xs ys : List CoreStmt) → stmts_of (xs ++ ys) ≡ spec.before (map stmt_of xs) (stmts_of ys)
joined_are [] ys = refl
joined_are (x ∷ xs) ys = ap (core.more_stmts (stmt_of x)) (joined_are xs ys)

pub joined_by : (xs ys all : List CoreStmt) → all ≡ xs ++ ys → stmts_of all ≡ spec.before (map stmt_of xs) (stmts_of ys)
joined_by xs ys all is = ap stmts_of is ∙ joined_are xs ys

pub in_atomic_is : (initial : List core.Stmt) (x : core.Stmt) → spec.in_atomic initial (core.atomic x) ≡ core.atomic (parts.in_block initial x)
in_atomic_is initial (core.eval e) = refl
in_atomic_is initial (core.block xs) = refl
in_atomic_is initial (core.branch e a b) = refl
in_atomic_is initial (core.loop f t s b) = refl
in_atomic_is initial (core.switch e cs xs) = refl
in_atomic_is initial core.break = refl
in_atomic_is initial core.continue = refl
in_atomic_is initial (core.return e) = refl
in_atomic_is initial (core.atomic x) = refl
in_atomic_is initial (core.clear k) = refl
in_atomic_is initial (core.here a f n b) = refl

-- ---- what is a block, and what is none

block_of : (x : core.Stmt) (xs : core.Stmts) → Some xs ≡ parts.statements_of x → x ≡ core.block xs
block_of (core.block ys) xs is = ap (λ (o : Option core.Stmts). core.block (unwrap_or o core.no_stmts)) (sym is)
block_of x xs is = absurd (cc)

pub in_a_block : (initial : List core.Stmt) (x : core.Stmt) (xs : core.Stmts) → Some xs ≡ parts.statements_of x
    → core.block (spec.before initial xs) ≡ parts.in_block initial x
in_a_block initial x xs is = ap (parts.in_block initial) (sym (block_of x xs is))

pub in_no_block : (initial : List core.Stmt) (x : core.Stmt) → None ≡ parts.statements_of x → x ≡ parts.in_block initial x
in_no_block initial (core.block xs) is = absurd (cc)
in_no_block initial x is = refl

pub with_initial_is : (initial xs : List core.Stmt) → spec.with_initial initial (core.block (stmts xs)) ≡ core.block (stmts (parts.in_first initial xs))
with_initial_is initial [] = refl
with_initial_is initial (x ∷ xs) = refl

pub first_in_a_block : (initial xs : List core.Stmt) (x : core.Stmt) → Some (stmts xs) ≡ parts.statements_of x
    → core.block (stmts (parts.in_first initial xs)) ≡ spec.with_initial initial x
first_in_a_block initial xs x is = sym (with_initial_is initial xs) ∙ ap (spec.with_initial initial) (sym (block_of x (stmts xs) is))

pub first_in_no_block : (initial : List core.Stmt) (x : core.Stmt) → None ≡ parts.statements_of x → x ≡ spec.with_initial initial x
first_in_no_block initial (core.block xs) is = absurd (cc)
first_in_no_block initial x is = refl

pub ruleset atomics = (in_atomic_is)

pub ruleset blocks = (in_a_block, in_no_block)

pub ruleset firsts = (first_in_a_block, first_in_no_block)
