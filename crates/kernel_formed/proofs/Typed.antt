-- Expressions, places and statements have the same types in the kernel's program, where posts are calls.
use Rattle.std.proofs.Common.{◌≡◌, ℕ, zero, suc, ◌%◌, ◌<◌, ◌≤◌, List, [], ◌∷◌, ◌++◌, length, take, drop, Option, Some, None, refl, sym, subst, ap, ◌∙◌, arith, length-append}
use Rattle.std.specs.Prelude.{pos, slice_get}
use Rattle.std.specs.List.{All}
use Rattle.nm_base.specs.declared.int_type.IntType.{IntType}
use Rattle.nm_base.specs.declared.int_type.IntType.TheVariants.{U8, U16}
use Rattle.nesc_core.specs.declared.tree.BinOp.{BinOp}
use Rattle.nesc_core.specs.declared.tree.BinOp.TheVariants as op_
use Rattle.nesc_core.specs.Plain.{Ty, int, pointer, Expr, Exprs, Place, Stmt, Stmts, Case, Body, Program, no_exprs, more_exprs, no_stmts, more_stmts}
use Rattle.nesc_core.specs.Plain as plain
use Rattle.nesc_core.specs.PlaceTypes.{element_of, field_type, fields_of, object_type, place_type}
use Rattle.nesc_core.specs.Typing.{AllHave, Has, IsArray, IsCallable, IsOf, IsPlace, IsSecond, PointsWell}
use Rattle.nesc_core.specs.WellFormed.{AreStmts, Enters, Exits, IsDone, IsGiven, IsStmt, by_result, count_exprs, count_stmts, in_loop, in_switch}
use Rattle.task_queue.specs.Kernel.{bytes_object, kernel_program}
use Rattle.task_queue.specs.Posting.{post_call, posting_expr, posting_exprs, posting_maybe, posting_place, posting_stmt, posting_stmts}
use Rattle.task_queue.proofs.Bodies.{old_body, queue_is}

-- ---- lists

pub get_left : {X : Type 0} (xs ys : List X) (k : ℕ) → k < length xs → slice_get (xs ++ ys) k ≡ slice_get xs k
get_left [] ys k lt = absurd (omega (arith, lt))
get_left (x ∷ xs) ys zero lt = refl
get_left (x ∷ xs) ys (suc k) lt = get_left xs ys k (omega (arith, lt))

pub get_seam : {X : Type 0} (xs : List X) (y : X) → slice_get (xs ++ y ∷ []) (length xs) ≡ Some y
get_seam [] y = refl
get_seam (x ∷ xs) y = get_seam xs y

-- ---- operators

second_kept : (op : BinOp) (t : IntType) (H G : Ty → Type 0) → ((ty : Ty) → H ty → G ty) → IsSecond op t H → IsSecond op t G
second_kept op_.Shl t H G go h = (h.0, h.1, go (int h.0) h.2)
second_kept op_.Shr t H G go h = (h.0, h.1, go (int h.0) h.2)
second_kept op_.Add t H G go h = go (int t) h
second_kept op_.Sub t H G go h = go (int t) h
second_kept op_.Mul t H G go h = go (int t) h
second_kept op_.Div t H G go h = go (int t) h
second_kept op_.Rem t H G go h = go (int t) h
second_kept op_.And t H G go h = go (int t) h
second_kept op_.Or t H G go h = go (int t) h
second_kept op_.Xor t H G go h = go (int t) h
second_kept op_.Eq t H G go h = go (int t) h
second_kept op_.Ne t H G go h = go (int t) h
second_kept op_.Lt t H G go h = go (int t) h
second_kept op_.Le t H G go h = go (int t) h

pub byte_is : (k : ℕ) → k < 256 → IsOf U8 (pos k)
byte_is k lt = let e : k % 256 ≡ k = omega (arith, lt) in ap pos e

pub word_is : (k : ℕ) → k < 65536 → IsOf U16 (pos k)
word_is k lt = let e : k % 65536 ≡ k = omega (arith, lt) in ap pos e

-- ---- how many arguments and statements there are

module _ (q : ℕ) where
  pub exprs_counted : (es : Exprs) → count_exprs (posting_exprs q es) ≡ count_exprs es
  exprs_counted no_exprs = refl
  exprs_counted (more_exprs e rest) = ap suc (exprs_counted rest)

  pub stmts_counted : (ss : Stmts) → count_stmts (posting_stmts q ss) ≡ count_stmts ss
  stmts_counted no_stmts = refl
  stmts_counted (more_stmts s rest) = ap suc (stmts_counted rest)

-- ---- expressions and places

module _ (p : Program) (few : length p.tasks ≤ 254) (types : List Ty) where
  abbrev q : ℕ
  q = length p.bodies

  abbrev K : Program
  K = kernel_program p

  record Kept (place : Place) : Type 0 where
    there : IsPlace K types (posting_place q place)
    same : place_type K types (posting_place q place) ≡ place_type p types place

  callable_kept : (f : ℕ) (A B : List Ty → Type 0) → ((ts : List Ty) → A ts → B ts) → (ty : Ty) → IsCallable (slice_get p.bodies f) A ty → IsCallable (slice_get K.bodies f) B ty
  callable_kept f A B go ty h = by_body (slice_get p.bodies f) refl h
    where
      by_body : (o : Option Body) → slice_get p.bodies f ≡ o → IsCallable o A ty → IsCallable (slice_get K.bodies f) B ty
      by_body None is h = absurd h
      by_body (Some b) is h = subst (λ (o : Option Body). IsCallable o B ty) (sym (old_body p f b is)) (h.0, go (take b.params b.locals) h.1)

  posted : (k : ℕ) (ty : Ty) → ty ≡ int U8 → k < length p.tasks → Has K types (post_call q k) ty
  posted k ty is lt =
      subst (λ (o : Option Body). IsCallable o (AllHave K types (more_exprs (plain.const U8 (pos k)) no_exprs)) ty) (sym (queue_is p))
      (is, ((refl, byte_is k (omega (arith, few, lt))), tt))

  mutual
    place_kept : (place : Place) → IsPlace p types place → Kept place
    place_kept (plain.object k) h = record {
      there = omega (arith, h, length-append p.objects (bytes_object p ∷ []));
      same = ap object_type (get_left p.objects (bytes_object p ∷ []) k h);
    }
    place_kept (plain.local x) h = record { there = h; same = refl }
    place_kept (plain.deref e t) h = record { there = (h.0, expr_kept e (pointer t) h.1); same = refl }
    place_kept (plain.index place e) h =
        let base = place_kept place h.1 in
        record { there = (subst IsArray (sym base.same) h.0, base.there, (h.2.0, expr_kept e (int h.2.0) h.2.1)); same = ap element_of base.same }
    place_kept (plain.field place k) h =
        let base = place_kept place h.1 in
        record {
          there = (subst (λ (t : Ty). k < length (fields_of p.structs t)) (sym base.same) h.0, base.there);
          same = ap (λ (t : Ty). field_type (slice_get (fields_of p.structs t) k)) base.same;
        }

    pub expr_kept : (e : Expr) (ty : Ty) → Has p types e ty → Has K types (posting_expr q e) ty
    expr_kept (plain.const t x) ty h = h
    expr_kept plain.null ty h = h
    expr_kept (plain.read place at) ty h = let k = place_kept place h.2 in (h.0 ∙ sym k.same, h.1, k.there)
    expr_kept (plain.addr place) ty h =
        let k = place_kept place h.2 in
        (h.0 ∙ ap pointer (sym k.same), subst (λ (t : Ty). PointsWell p.structs (pointer t)) (sym k.same) h.1, k.there)
    expr_kept (plain.un op t e) ty h = (h.0, h.1, expr_kept e (int t) h.2)
    expr_kept (plain.bin op t a b) ty h =
        (h.0, h.1, expr_kept a (int t) h.2, second_kept op t (Has p types b) (Has K types (posting_expr q b)) (λ s g. expr_kept b s g) h.3)
    expr_kept (plain.convert t e) ty h = (h.0, (h.1.0, (h.1.1.0, expr_kept e h.1.0 h.1.1.1)))
    expr_kept (plain.offset a b size) ty h = (h.0, expr_kept a ty h.1, (h.2.0, expr_kept b (int h.2.0) h.2.1))
    expr_kept (plain.distance a b size) ty h = (h.0, (h.1.0, (h.1.1.0, expr_kept a h.1.0 h.1.1.1, expr_kept b h.1.0 h.1.1.2)))
    expr_kept (plain.both a b) ty h = (h.0, (h.1.0, h.1.1, expr_kept a h.1.0 h.1.2), (h.2.0, h.2.1, expr_kept b h.2.0 h.2.2))
    expr_kept (plain.either a b) ty h = (h.0, (h.1.0, h.1.1, expr_kept a h.1.0 h.1.2), (h.2.0, h.2.1, expr_kept b h.2.0 h.2.2))
    expr_kept (plain.choice test a b) ty h = ((h.0.0, h.0.1, expr_kept test h.0.0 h.0.2), expr_kept a ty h.1, expr_kept b ty h.2)
    expr_kept (plain.assign place e at) ty h = let k = place_kept place h.2 in (h.0 ∙ sym k.same, h.1, k.there, expr_kept e ty h.3)
    expr_kept (plain.update place op t e old at) ty h =
        let k = place_kept place h.2 in
        (h.0 ∙ sym k.same, h.1, k.there, second_kept op t (Has p types e) (Has K types (posting_expr q e)) (λ s g. expr_kept e s g) h.3)
    expr_kept (plain.call f arguments at) ty h =
        callable_kept f (AllHave p types arguments) (AllHave K types (posting_exprs q arguments)) (λ ts g. exprs_kept arguments ts g) ty h
    expr_kept (plain.post k) ty h = posted k ty h.0 h.1
    expr_kept (plain.port_in port) ty h = h
    expr_kept (plain.port_out port e) ty h = (h.0, h.1, expr_kept e (int U16) h.2)
    expr_kept (plain.comma a b) ty h = ((h.0.0, expr_kept a h.0.0 h.0.1), expr_kept b ty h.1)

    exprs_kept : (es : Exprs) (ts : List Ty) → AllHave p types es ts → AllHave K types (posting_exprs q es) ts
    exprs_kept no_exprs ts h = h
    exprs_kept (more_exprs e rest) [] h = absurd h
    exprs_kept (more_exprs e rest) (t ∷ ts) h = (expr_kept e t h.0, exprs_kept rest ts h.1)

  -- ---- statements

  done_kept : (e : Option Expr) → IsDone p types e → IsDone K types (posting_maybe q e)
  done_kept None h = h
  done_kept (Some e) h = (h.0, expr_kept e h.0 h.1)

  given_kept : (e : Option Expr) (t : Ty) → IsGiven p types e t → IsGiven K types (posting_maybe q e) t
  given_kept None t h = h
  given_kept (Some e) t h = (h.0, expr_kept e t h.1)

  enters_kept : (arguments : Exprs) (first count : ℕ) → Enters p types arguments first count → Enters K types (posting_exprs q arguments) first count
  enters_kept arguments first count h =
      let room = h.room in
      let n : ℕ = count_exprs arguments in
      let counted = exprs_counted q arguments in
      record {
        inside = h.inside;
        room = omega (arith, room, counted);
        passed = subst (λ m. AllHave K types (posting_exprs q arguments) (take m (drop first types))) (sym counted) (exprs_kept arguments (take n (drop first types)) h.passed);
      }

  mutual
    pub stmt_kept : (s : Stmt) (x : Exits) → IsStmt p types s x → IsStmt K types (posting_stmt q s) x
    stmt_kept (plain.eval e) x h = (h.0, expr_kept e h.0 h.1)
    stmt_kept (plain.block list) x h = stmts_kept list x h
    stmt_kept (plain.branch test s t) x h = ((h.0.0, h.0.1, expr_kept test h.0.0 h.0.2), stmt_kept s x h.1, stmt_kept t x h.2)
    stmt_kept (plain.loop first test step body) x h = ((h.0.0, h.0.1, expr_kept test h.0.0 h.0.2), done_kept step h.1, stmt_kept body (in_loop x) h.2)
    stmt_kept (plain.switch e cases list) x h = (
      (h.0.0, expr_kept e (int h.0.0) h.0.1),
      subst (λ n. All (λ (c : Case). c.start < n) cases) (sym (stmts_counted q list)) h.1,
      stmts_kept list (in_switch x) h.2,
    )
    stmt_kept plain.break x h = h
    stmt_kept plain.continue x h = h
    stmt_kept (plain.return e) x h = given_kept e x.gives h
    stmt_kept (plain.atomic s) x h = stmt_kept s x h
    stmt_kept (plain.clear k) x h = h
    stmt_kept (plain.here arguments first count body) x h = (enters_kept arguments first count h.0, stmt_kept body (by_result p types first count) h.1)

    stmts_kept : (ss : Stmts) (x : Exits) → AreStmts p types ss x → AreStmts K types (posting_stmts q ss) x
    stmts_kept no_stmts x h = h
    stmts_kept (more_stmts s rest) x h = (stmt_kept s x h.0, stmts_kept rest x h.1)
