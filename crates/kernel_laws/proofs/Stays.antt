-- Without tasks nothing is posted, so bodies stay as they are.
use Rattle.std.proofs.Common.{◌≡◌, ℕ, zero, suc, List, [], ◌∷◌, length, Option, Some, None, refl, subst, ap, ◌∙◌, arith}
use Rattle.std.specs.Prelude.{slice_get}
use Rattle.std.specs.List.{All}
use Rattle.std.proofs.lemmas.List.Elements.{All-head, All-tail}
use Rattle.std.proofs.lemmas.Option.{none-some, same_Some}
use Rattle.nesc_core.specs.declared.tree.BinOp.{BinOp}
use Rattle.nesc_core.specs.declared.tree.BinOp.TheVariants as op_
use Rattle.nm_base.specs.declared.int_type.IntType.{IntType}
use Rattle.nesc_core.specs.Plain.{Ty, int, pointer, Expr, Exprs, Place, Stmt, Stmts, Body, Program, no_exprs, more_exprs, no_stmts, more_stmts}
use Rattle.nesc_core.specs.Plain as plain
use Rattle.nesc_core.specs.Typing.{AllHave, Has, IsCallable, IsPlace, IsSecond, IsSome}
use Rattle.nesc_core.specs.WellFormed.{AreStmts, Exits, IsBody, IsDone, IsGiven, IsStmt, by_result, by_return, in_loop, in_switch}
use Rattle.kernel_laws.specs.Laws.{TasklessBodiesStay}
use Rattle.kernel_laws.proofs.Frames.{body_is}
use Rattle.task_queue.specs.Posting.{posting_expr, posting_exprs, posting_maybe, posting_place, posting_stmt, posting_stmts}

two : {A B C : Type 0} (f : A → B → C) {a a' : A} {b b' : B} → a ≡ a' → b ≡ b' → f a b ≡ f a' b'
two f {a = a} {a' = a'} {b = b} {b' = b'} e g = ap (λ x. f x b) e ∙ ap (f a') g

second_some : (op : BinOp) (t : IntType) (H : Ty → Type 0) → IsSecond op t H → IsSome H
second_some op_.Shl t H h = (int h.0, h.2)
second_some op_.Shr t H h = (int h.0, h.2)
second_some op_.Add t H h = (int t, h)
second_some op_.Sub t H h = (int t, h)
second_some op_.Mul t H h = (int t, h)
second_some op_.Div t H h = (int t, h)
second_some op_.Rem t H h = (int t, h)
second_some op_.And t H h = (int t, h)
second_some op_.Or t H h = (int t, h)
second_some op_.Xor t H h = (int t, h)
second_some op_.Eq t H h = (int t, h)
second_some op_.Ne t H h = (int t, h)
second_some op_.Lt t H h = (int t, h)
second_some op_.Le t H h = (int t, h)

called_with : (o : Option Body) (A : List Ty → Type 0) (ty : Ty) → IsCallable o A ty → (ts : List Ty) × A ts
called_with None A ty h = absurd h
called_with (Some b) A ty h = (_, h.1)

module _ (p : Program) (none : length p.tasks ≡ 0) (q : ℕ) (types : List Ty) where
  mutual
    place_same : (place : Place) → IsPlace p types place → posting_place q place ≡ place
    place_same (plain.object k) h = refl
    place_same (plain.local x) h = refl
    place_same (plain.deref e t) h = ap (λ x. plain.deref x t) (expr_same e (pointer t) h.1)
    place_same (plain.index place e) h = two plain.index (place_same place h.1) (expr_same e (int h.2.0) h.2.1)
    place_same (plain.field place k) h = ap (λ x. plain.field x k) (place_same place h.1)

    expr_same : (e : Expr) (ty : Ty) → Has p types e ty → posting_expr q e ≡ e
    expr_same (plain.const t x) ty h = refl
    expr_same plain.null ty h = refl
    expr_same (plain.read place at) ty h = ap (λ x. plain.read x at) (place_same place h.2)
    expr_same (plain.addr place) ty h = ap plain.addr (place_same place h.2)
    expr_same (plain.un op t e) ty h = ap (plain.un op t) (expr_same e (int t) h.2)
    expr_same (plain.bin op t a b) ty h = let s = second_some op t (Has p types b) h.3 in two (plain.bin op t) (expr_same a (int t) h.2) (expr_same b s.0 s.1)
    expr_same (plain.convert t e) ty h = ap (plain.convert t) (expr_same e h.1.0 h.1.1.1)
    expr_same (plain.offset a b size) ty h = two (λ x y. plain.offset x y size) (expr_same a ty h.1) (expr_same b (int h.2.0) h.2.1)
    expr_same (plain.distance a b size) ty h = two (λ x y. plain.distance x y size) (expr_same a h.1.0 h.1.1.1) (expr_same b h.1.0 h.1.1.2)
    expr_same (plain.both a b) ty h = two plain.both (expr_same a h.1.0 h.1.2) (expr_same b h.2.0 h.2.2)
    expr_same (plain.either a b) ty h = two plain.either (expr_same a h.1.0 h.1.2) (expr_same b h.2.0 h.2.2)
    expr_same (plain.choice test a b) ty h =
        two (λ x y. plain.choice x y (posting_expr q b)) (expr_same test h.0.0 h.0.2) (expr_same a ty h.1) ∙ ap (plain.choice test a) (expr_same b ty h.2)
    expr_same (plain.assign place e at) ty h = two (λ x y. plain.assign x y at) (place_same place h.2) (expr_same e ty h.3)
    expr_same (plain.update place op t e old at) ty h =
        let s = second_some op t (Has p types e) h.3 in two (λ x y. plain.update x op t y old at) (place_same place h.2) (expr_same e s.0 s.1)
    expr_same (plain.call f arguments at) ty h =
        let a = called_with (slice_get p.bodies f) (AllHave p types arguments) ty h in ap (λ x. plain.call f x at) (exprs_same arguments a.0 a.1)
    expr_same (plain.post k) ty h = let low = h.1 in absurd (omega (arith, low, none))
    expr_same (plain.port_in port) ty h = refl
    expr_same (plain.port_out port e) ty h = ap (plain.port_out port) (expr_same e _ h.2)
    expr_same (plain.comma a b) ty h = two plain.comma (expr_same a h.0.0 h.0.1) (expr_same b ty h.1)

    exprs_same : (es : Exprs) (ts : List Ty) → AllHave p types es ts → posting_exprs q es ≡ es
    exprs_same no_exprs ts h = refl
    exprs_same (more_exprs e rest) [] h = absurd h
    exprs_same (more_exprs e rest) (t ∷ ts) h = two more_exprs (expr_same e t h.0) (exprs_same rest ts h.1)

  done_same : (e : Option Expr) → IsDone p types e → posting_maybe q e ≡ e
  done_same None h = refl
  done_same (Some e) h = ap (λ (x : Expr). Some x) (expr_same e h.0 h.1)

  given_same : (e : Option Expr) (t : Ty) → IsGiven p types e t → posting_maybe q e ≡ e
  given_same None t h = refl
  given_same (Some e) t h = ap (λ (x : Expr). Some x) (expr_same e t h.1)

  mutual
    pub stmt_same : (s : Stmt) (x : Exits) → IsStmt p types s x → posting_stmt q s ≡ s
    stmt_same (plain.eval e) x h = ap plain.eval (expr_same e h.0 h.1)
    stmt_same (plain.block list) x h = ap plain.block (stmts_same list x h)
    stmt_same (plain.branch test a b) x h =
        two (λ y z. plain.branch y z (posting_stmt q b)) (expr_same test h.0.0 h.0.2) (stmt_same a x h.1) ∙ ap (plain.branch test a) (stmt_same b x h.2)
    stmt_same (plain.loop first test step body) x h =
        two (λ y z. plain.loop first y z (posting_stmt q body)) (expr_same test h.0.0 h.0.2) (done_same step h.1) ∙ ap (plain.loop first test step) (stmt_same body (in_loop x) h.2)
    stmt_same (plain.switch e cases list) x h = two (λ y z. plain.switch y cases z) (expr_same e (int h.0.0) h.0.1) (stmts_same list (in_switch x) h.2)
    stmt_same plain.break x h = refl
    stmt_same plain.continue x h = refl
    stmt_same (plain.return e) x h = ap plain.return (given_same e x.gives h)
    stmt_same (plain.atomic s) x h = ap plain.atomic (stmt_same s x h)
    stmt_same (plain.clear k) x h = refl
    stmt_same (plain.here arguments first count body) x h =
        two (λ y z. plain.here y first count z) (exprs_same arguments _ h.0.passed) (stmt_same body (by_result p types first count) h.1)

    stmts_same : (ss : Stmts) (x : Exits) → AreStmts p types ss x → posting_stmts q ss ≡ ss
    stmts_same no_stmts x h = refl
    stmts_same (more_stmts s rest) x h = two more_stmts (stmt_same s x h.0) (stmts_same rest x h.1)

at : {A : Type 0} (P : A → Type 0) (xs : List A) (k : ℕ) (x : A) → slice_get xs k ≡ Some x → All P xs → P x
at P [] k x is all = absurd (none-some _ is)
at P (y ∷ xs) zero x is all = subst P (same_Some _ _ is) (All-head P y xs all)
at P (y ∷ xs) (suc k) x is all = at P xs k x is (All-tail P y xs all)

pub bodies_stay : TasklessBodiesStay
bodies_stay p formed empty f b c old new =
    let body = at (IsBody p) p.bodies f b old formed.bodies in
    let same : posting_stmt (length p.bodies) b.code ≡ b.code = stmt_same p (ap length empty) (length p.bodies) b.locals b.code (by_return b.result) body.code in
    body_is p f b c old new ∙ ap (λ s. record b { code = s }) same
