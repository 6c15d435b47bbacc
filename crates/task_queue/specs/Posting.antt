-- A program whose posts are calls: a post of a task calls the function that queues its place (TEP 106: a post answers whether the task was put into the list; that it is a call is own).
use Rattle.std.specs.Prelude.{ℕ, pos, Option, Some, None}
use Rattle.nm_base.specs.declared.pos.Pos.{Pos}
use Rattle.nm_base.specs.declared.int_type.IntType.TheVariants.{U8}
use Rattle.nesc_core.specs.Plain.{Expr, const, null, read, addr, un, bin, convert, offset, distance, both, either, choice, assign, update, call, post, port_in, port_out, comma, Exprs, no_exprs, more_exprs, Place, object, local, deref, index, field, Stmt, eval, block, branch, loop, switch, break, continue, return, atomic, clear, here, Stmts, no_stmts, more_stmts}

-- the kernel's own code has no place in a text
abbrev pub nowhere : Pos
nowhere = record { file = 0; line = 0; col = 0 }

-- `queue` is the number of the function
module _ (queue : ℕ) where
  abbrev pub post_call : ℕ → Expr
  post_call k = call queue (more_exprs (const U8 (pos k)) no_exprs) nowhere

  abbrev mutual
    pub posting_expr : Expr → Expr
    posting_expr (const t x) = const t x
    posting_expr null = null
    posting_expr (read place at) = read (posting_place place) at
    posting_expr (addr place) = addr (posting_place place)
    posting_expr (un op t e) = un op t (posting_expr e)
    posting_expr (bin op t a b) = bin op t (posting_expr a) (posting_expr b)
    posting_expr (convert t e) = convert t (posting_expr e)
    posting_expr (offset a b n) = offset (posting_expr a) (posting_expr b) n
    posting_expr (distance a b n) = distance (posting_expr a) (posting_expr b) n
    posting_expr (both a b) = both (posting_expr a) (posting_expr b)
    posting_expr (either a b) = either (posting_expr a) (posting_expr b)
    posting_expr (choice a b c) = choice (posting_expr a) (posting_expr b) (posting_expr c)
    posting_expr (assign place e at) = assign (posting_place place) (posting_expr e) at
    posting_expr (update place op t e gives_old at) = update (posting_place place) op t (posting_expr e) gives_old at
    posting_expr (call f arguments at) = call f (posting_exprs arguments) at
    posting_expr (post k) = post_call k
    posting_expr (port_in port) = port_in port
    posting_expr (port_out port e) = port_out port (posting_expr e)
    posting_expr (comma a b) = comma (posting_expr a) (posting_expr b)

    pub posting_exprs : Exprs → Exprs
    posting_exprs no_exprs = no_exprs
    posting_exprs (more_exprs e rest) = more_exprs (posting_expr e) (posting_exprs rest)

    pub posting_place : Place → Place
    posting_place (object k) = object k
    posting_place (local x) = local x
    posting_place (deref e t) = deref (posting_expr e) t
    posting_place (index place e) = index (posting_place place) (posting_expr e)
    posting_place (field place k) = field (posting_place place) k

  abbrev pub posting_maybe : Option Expr → Option Expr
  posting_maybe None = None
  posting_maybe (Some e) = Some (posting_expr e)

  abbrev mutual
    pub posting_stmt : Stmt → Stmt
    posting_stmt (eval e) = eval (posting_expr e)
    posting_stmt (block list) = block (posting_stmts list)
    posting_stmt (branch test a b) = branch (posting_expr test) (posting_stmt a) (posting_stmt b)
    posting_stmt (loop first test step body) = loop first (posting_expr test) (posting_maybe step) (posting_stmt body)
    posting_stmt (switch e cases list) = switch (posting_expr e) cases (posting_stmts list)
    posting_stmt break = break
    posting_stmt continue = continue
    posting_stmt (return e) = return (posting_maybe e)
    posting_stmt (atomic s) = atomic (posting_stmt s)
    posting_stmt (clear x) = clear x
    posting_stmt (here arguments first count body) = here (posting_exprs arguments) first count (posting_stmt body)

    pub posting_stmts : Stmts → Stmts
    posting_stmts no_stmts = no_stmts
    posting_stmts (more_stmts s rest) = more_stmts (posting_stmt s) (posting_stmts rest)
