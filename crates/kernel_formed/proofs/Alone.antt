-- The locals that the kernel's bodies name, and their inlined calls.
use Rattle.std.proofs.Common.{◌≡◌, ℕ, ◌+◌, true, List, [], ◌∷◌, ◌++◌, map, Option, Some, None, refl, sym, subst, ap, ◌∙◌, arith}
use Rattle.std.specs.Prelude.{◌||◌}
use Rattle.std.specs.List.{All, AllByRecursion}
use Rattle.std.proofs.lemmas.List.{map-append}
use Rattle.std.proofs.lemmas.List.Elements.{All-from_recursion, recursion_from_All}
use Rattle.nesc_core.specs.Plain.{Expr, Exprs, Place, Stmt, Stmts, no_exprs, more_exprs, no_stmts, more_stmts}
use Rattle.nesc_core.specs.Plain as plain
use Rattle.nesc_core.specs.Heres.{Inlined, IsAlone, all_heres, expr_locals, exprs_locals, first_locals, gives_value, heres, maybe_locals, place_locals, some_gives_value, stmt_locals, stmts_locals, times}
use Rattle.task_queue.specs.Posting.{posting_expr, posting_exprs, posting_maybe, posting_place, posting_stmt, posting_stmts}

joined : {a a' b b' : List ℕ} → a ≡ a' → b ≡ b' → a ++ b ≡ a' ++ b'
joined {a' = a'} {b = b} e f = ap (λ (xs : List ℕ). xs ++ b) e ∙ ap (λ (xs : List ℕ). a' ++ xs) f

-- ---- a statement whose posts are calls names the same locals, and has the same inlined calls

module _ (q : ℕ) where
  mutual
    expr_named : (e : Expr) → expr_locals (posting_expr q e) ≡ expr_locals e
    expr_named (plain.const t x) = refl
    expr_named plain.null = refl
    expr_named (plain.read place at) = place_named place
    expr_named (plain.addr place) = place_named place
    expr_named (plain.un op t e) = expr_named e
    expr_named (plain.bin op t a b) = joined (expr_named a) (expr_named b)
    expr_named (plain.convert t e) = expr_named e
    expr_named (plain.offset a b n) = joined (expr_named a) (expr_named b)
    expr_named (plain.distance a b n) = joined (expr_named a) (expr_named b)
    expr_named (plain.both a b) = joined (expr_named a) (expr_named b)
    expr_named (plain.either a b) = joined (expr_named a) (expr_named b)
    expr_named (plain.choice a b c) = joined (joined (expr_named a) (expr_named b)) (expr_named c)
    expr_named (plain.assign place e at) = joined (place_named place) (expr_named e)
    expr_named (plain.update place op t e old at) = joined (place_named place) (expr_named e)
    expr_named (plain.call f arguments at) = exprs_named arguments
    expr_named (plain.post k) = refl
    expr_named (plain.port_in port) = refl
    expr_named (plain.port_out port e) = expr_named e
    expr_named (plain.comma a b) = joined (expr_named a) (expr_named b)

    exprs_named : (es : Exprs) → exprs_locals (posting_exprs q es) ≡ exprs_locals es
    exprs_named no_exprs = refl
    exprs_named (more_exprs e rest) = joined (expr_named e) (exprs_named rest)

    place_named : (place : Place) → place_locals (posting_place q place) ≡ place_locals place
    place_named (plain.object k) = refl
    place_named (plain.local x) = refl
    place_named (plain.deref e t) = expr_named e
    place_named (plain.index place e) = joined (place_named place) (expr_named e)
    place_named (plain.field place k) = place_named place

  maybe_named : (e : Option Expr) → maybe_locals (posting_maybe q e) ≡ maybe_locals e
  maybe_named None = refl
  maybe_named (Some e) = expr_named e

  mutual
    stmt_named : (s : Stmt) → stmt_locals (posting_stmt q s) ≡ stmt_locals s
    stmt_named (plain.eval e) = expr_named e
    stmt_named (plain.block list) = stmts_named list
    stmt_named (plain.branch e a b) = joined (joined (expr_named e) (stmt_named a)) (stmt_named b)
    stmt_named (plain.loop first test step body) = joined (joined (expr_named test) (maybe_named step)) (stmt_named body)
    stmt_named (plain.switch e cases list) = joined (expr_named e) (stmts_named list)
    stmt_named plain.break = refl
    stmt_named plain.continue = refl
    stmt_named (plain.return e) = maybe_named e
    stmt_named (plain.atomic s) = stmt_named s
    stmt_named (plain.clear k) = refl
    stmt_named (plain.here arguments first count body) = joined (exprs_named arguments) (stmt_named body)

    stmts_named : (ss : Stmts) → stmts_locals (posting_stmts q ss) ≡ stmts_locals ss
    stmts_named no_stmts = refl
    stmts_named (more_stmts s rest) = joined (stmt_named s) (stmts_named rest)

  first_named : (ss : Stmts) → first_locals (posting_stmts q ss) ≡ first_locals ss
  first_named no_stmts = refl
  first_named (more_stmts s rest) = stmt_named s

  mutual
    stmt_gives : (s : Stmt) → gives_value (posting_stmt q s) ≡ gives_value s
    stmt_gives (plain.eval e) = refl
    stmt_gives (plain.block list) = stmts_give list
    stmt_gives (plain.branch e a b) = ap (λ x. x || gives_value (posting_stmt q b)) (stmt_gives a) ∙ ap (λ x. gives_value a || x) (stmt_gives b)
    stmt_gives (plain.loop first test step body) = stmt_gives body
    stmt_gives (plain.switch e cases list) = stmts_give list
    stmt_gives plain.break = refl
    stmt_gives plain.continue = refl
    stmt_gives (plain.return None) = refl
    stmt_gives (plain.return (Some e)) = refl
    stmt_gives (plain.atomic s) = stmt_gives s
    stmt_gives (plain.clear k) = refl
    stmt_gives (plain.here arguments first count body) = refl

    stmts_give : (ss : Stmts) → some_gives_value (posting_stmts q ss) ≡ some_gives_value ss
    stmts_give no_stmts = refl
    stmts_give (more_stmts s rest) = ap (λ x. x || some_gives_value (posting_stmts q rest)) (stmt_gives s) ∙ ap (λ x. gives_value s || x) (stmts_give rest)

  abbrev posted : Inlined → Inlined
  posted h = record h { code = posting_stmt q h.code }

  both : (a a' b b' : List Inlined) → a' ≡ map posted a → b' ≡ map posted b → a' ++ b' ≡ map posted (a ++ b)
  both a a' b b' e f =
      ap (λ (xs : List Inlined). xs ++ b') e ∙ ap (λ (xs : List Inlined). map posted a ++ xs) f ∙ sym (map-append posted a b)

  mutual
    heres_are : (s : Stmt) (behind : List ℕ) → heres (posting_stmt q s) behind ≡ map posted (heres s behind)
    heres_are (plain.eval e) behind = refl
    heres_are (plain.block list) behind = all_heres_are list
    heres_are (plain.branch e a b) behind = both (heres a []) (heres (posting_stmt q a) []) (heres b []) (heres (posting_stmt q b) []) (heres_are a []) (heres_are b [])
    heres_are (plain.loop first test step body) behind = heres_are body []
    heres_are (plain.switch e cases list) behind = all_heres_are list
    heres_are plain.break behind = refl
    heres_are plain.continue behind = refl
    heres_are (plain.return e) behind = refl
    heres_are (plain.atomic s) behind = heres_are s []
    heres_are (plain.clear k) behind = refl
    heres_are (plain.here arguments first count body) behind =
        ap (λ (hs : List Inlined). record { first = first; count = count; code = posting_stmt q body; behind = behind } ∷ hs) (heres_are body [])

    all_heres_are : (ss : Stmts) → all_heres (posting_stmts q ss) ≡ map posted (all_heres ss)
    all_heres_are no_stmts = refl
    all_heres_are (more_stmts s rest) =
        both (heres s (first_locals rest)) (heres (posting_stmt q s) (first_locals (posting_stmts q rest))) (all_heres rest) (all_heres (posting_stmts q rest))
        (ap (heres (posting_stmt q s)) (first_named rest) ∙ heres_are s (first_locals rest)) (all_heres_are rest)

  -- ---- a whole whose posts are calls names the locals of its inlined calls as often

  named_as : (s : Stmt) (x : ℕ) → times x (stmt_locals (posting_stmt q s)) ≡ times x (stmt_locals s)
  named_as s x = ap (times x) (stmt_named s)

  alone_one : (whole : Stmt) (h : Inlined) → IsAlone whole h → IsAlone (posting_stmt q whole) (posted h)
  alone_one whole h alone = record {
    locals = λ x from to. named_as whole x ∙ alone.locals x from to ∙ sym (named_as h.code x);
    result = λ gives.
        let before : gives_value h.code ≡ true = sym (stmt_gives h.code) ∙ gives in
        omega (arith, alone.result before, named_as whole (h.first + h.count), named_as h.code (h.first + h.count));
  }

  alone_each : (whole : Stmt) (hs : List Inlined) → AllByRecursion (IsAlone whole) hs → AllByRecursion (IsAlone (posting_stmt q whole)) (map posted hs)
  alone_each whole [] alone = tt
  alone_each whole (h ∷ hs) alone = (alone_one whole h alone.0, alone_each whole hs alone.1)

  pub alone_kept : (s : Stmt) → All (IsAlone s) (heres s []) → All (IsAlone (posting_stmt q s)) (heres (posting_stmt q s) [])
  alone_kept s alone =
      subst (All (IsAlone (posting_stmt q s))) (sym (heres_are s []))
      (All-from_recursion (IsAlone (posting_stmt q s)) (map posted (heres s [])) (alone_each s (heres s []) (recursion_from_All (IsAlone s) (heres s []) alone)))
