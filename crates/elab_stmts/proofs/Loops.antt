-- Statements one after the other.
use Rattle.std.proofs.Common.{◌≡◌, ℕ, ◌+◌, ◌<◌, ◌≤◌, List, [], ◌∷◌, ◌++◌, map, drop, length, get_or, Option, Ok, Err, ap, sym, ◌∙◌, refl, arith, append_assoc, append-nil}
use Rattle.std.proofs.lemmas.List.{length-append}
use Rattle.nm_base.specs.declared.fault.Fault.{Fault}
use Rattle.nm_base.specs.declared.int_type.IntType.{IntType}
use Rattle.nesc_core.specs.Plain as core
use Rattle.nesc_core.specs.Plain.{Ty}
use Rattle.nesc_tree.specs.declared.declarations.Stmt as rust_stmt
use Rattle.nesc_types.specs.Rule.{Rule}
use Rattle.nesc_types.specs.Values.{Constant}
use Rattle.elab_meaning.specs.Answers.{FaultIs}
use Rattle.elab_meaning.specs.Elab.{State, after, give}
use Rattle.elab_meaning.specs.Scope.{Env}
use Rattle.elab_exprs.proofs.Faults.{passes}
use Rattle.elab_exprs.proofs.Steps.{drop-past}
use Rattle.elab_forms.proofs.Lists.{next_of}
use Rattle.elab_locals.proofs.Turns as turns
use Rattle.elab_locals.proofs.Turns.{behind, then_rest}
use Rattle.body_meaning.specs.Tree.{Stmt, Stmts, more_stmts}
use Rattle.body_meaning.specs.View.{stmt_of, stmts}
use Rattle.body_meaning.specs.Stmts.{Labelled, followed_by, items, labelled, labelled_items, stmt, unlabelled}
use Rattle.elab_stmts.specs.Parts.{item, labelled_behind, labelled_block}
use Rattle.elab_stmts.proofs.Cuts.{same_labelled}
use Rattle.elab_stmts.proofs.Sizes.{sizes_next}

-- ---- statements of a switch

followed-assoc : (out l more : Labelled) → followed_by out (followed_by l more) ≡ followed_by (followed_by out l) more
followed-assoc out l more =
    same_labelled (out.cases ++ (l.cases ++ more.cases)) ((out.cases ++ l.cases) ++ more.cases) (out.code ++ (l.code ++ more.code)) ((out.code ++ l.code) ++ more.code)
    (sym (append_assoc out.cases l.cases more.cases)) (sym (append_assoc out.code l.code more.code))

followed-none : (out : Labelled) → followed_by out (unlabelled []) ≡ out
followed-none out = same_labelled (out.cases ++ []) out.cases (out.code ++ []) out.code (append-nil out.cases) (append-nil out.code)

joins : (out l : Labelled) (r : Rule (Labelled × State)) → after (after r (λ more. give (followed_by l more))) (λ m. give (followed_by out m)) ≡ after r (λ more. give (followed_by (followed_by out l) more))
joins out l (Ok p) = ap (λ (q : Labelled). Ok (q, p.1)) (followed-assoc out l p.0)
joins out l (Err e) = refl

starts : (r : Rule (Labelled × State)) → r ≡ after r (λ more. give (followed_by (unlabelled []) more))
starts (Ok p) = refl
starts (Err e) = refl

module _ (env : Env) (given : List (Option Constant)) (due : Ty) where
  abbrev pub rest_behind : IntType → Labelled → Stmts → State → Rule (Labelled × State)
  rest_behind t out xs st = after (labelled_items env given due t (length out.code) xs st) (λ more. give (followed_by out more))

  more_by : (t : IntType) (out : Labelled) (xs : Stmts) (r : Rule (Labelled × State))
      → after (after r (λ l. λ s1. after (labelled_items env given due t (length out.code + length l.code) xs s1) (λ more. give (followed_by l more)))) (λ m. give (followed_by out m))
      ≡ after (after r (λ l. give (followed_by out l))) (λ o. rest_behind t o xs)
  more_by t out xs (Ok p) =
      joins out p.0 (labelled_items env given due t (length out.code + length p.0.code) xs p.1)
      ∙ ap (λ (n : ℕ). after (labelled_items env given due t n xs p.1) (λ more. give (followed_by (followed_by out p.0) more))) (sym (length-append out.code p.0.code))
  more_by t out xs (Err e) = refl

  next_labelled : (t : IntType) (out : Labelled) (list : List rust_stmt.Stmt) (i : ℕ) (x : rust_stmt.Stmt) (st : State) (whole : Rule (Labelled × State))
      → whole ≡ rest_behind t out (stmts (map stmt_of (drop i list))) st → i < length list → x ≡ get_or list i x
      → whole ≡ after (labelled_behind env given due t out (stmt_of x) st) (λ o. rest_behind t o (stmts (map stmt_of (drop (i + 1) list))))
  next_labelled t out list i x st whole is h isx =
      is
      ∙ ap (λ (ys : List rust_stmt.Stmt). rest_behind t out (stmts (map stmt_of ys)) st) (next_of list i x h isx)
      ∙ more_by t out (stmts (map stmt_of (drop (i + 1) list))) (labelled env given due t (length out.code) (stmt_of x) (stmt env given due (stmt_of x)) st)

  pub labelled_begins : (t : IntType) (list : List rust_stmt.Stmt) (st : State)
      → labelled_block env given due t (stmts (map stmt_of list)) st ≡ rest_behind t (unlabelled []) (stmts (map stmt_of (drop 0 list))) st
  labelled_begins t list st = starts (labelled_items env given due t 0 (stmts (map stmt_of list)) st)

  pub labelled_passed : (t : IntType) (out out1 : Labelled) (list : List rust_stmt.Stmt) (i : ℕ) (x : rust_stmt.Stmt) (st st1 : State) (whole : Rule (Labelled × State))
      → whole ≡ rest_behind t out (stmts (map stmt_of (drop i list))) st → i < length list → x ≡ get_or list i x
      → labelled_behind env given due t out (stmt_of x) st ≡ Ok (out1, st1)
      → whole ≡ rest_behind t out1 (stmts (map stmt_of (drop (i + 1) list))) st1
  labelled_passed t out out1 list i x st st1 whole is h isx e =
      next_labelled t out list i x st whole is h isx
      ∙ ap (λ (r : Rule (Labelled × State)). after r (λ o. rest_behind t o (stmts (map stmt_of (drop (i + 1) list))))) e

  pub labelled_failed : (t : IntType) (out : Labelled) (list : List rust_stmt.Stmt) (i : ℕ) (x : rust_stmt.Stmt) (st : State) (whole : Rule (Labelled × State)) (e : Fault)
      → whole ≡ rest_behind t out (stmts (map stmt_of (drop i list))) st → i < length list → x ≡ get_or list i x
      → FaultIs e (labelled_behind env given due t out (stmt_of x) st) → FaultIs e whole
  labelled_failed t out list i x st whole e is h isx f =
      let same = next_labelled t out list i x st whole is h isx in
      rw same (passes e _ _ f)

  pub labelled_ended : (t : IntType) (out : Labelled) (list : List rust_stmt.Stmt) (i : ℕ) (st : State) (whole : Rule (Labelled × State))
      → whole ≡ rest_behind t out (stmts (map stmt_of (drop i list))) st → length list ≤ i → whole ≡ Ok (out, st)
  labelled_ended t out list i st whole is h =
      is
      ∙ ap (λ (ys : List rust_stmt.Stmt). rest_behind t out (stmts (map stmt_of ys)) st) (drop-past list i h)
      ∙ ap (λ (l : Labelled). Ok (l, st)) (followed-none out)

  -- ---- statements of a block

  pub items_begin : (list : List rust_stmt.Stmt) (st : State)
      → items env given due (stmts (map stmt_of list)) st ≡ after (items env given due (stmts (map stmt_of (drop 0 list))) st) (behind [])
  items_begin list st = turns.begins (items env given due (stmts (map stmt_of list)) st)

  next_item : (list : List rust_stmt.Stmt) (i : ℕ) (x : rust_stmt.Stmt) (st : State) (whole : Rule (List core.Stmt × State)) (done : List core.Stmt)
      → whole ≡ after (items env given due (stmts (map stmt_of (drop i list))) st) (behind done) → i < length list → x ≡ get_or list i x
      → whole ≡ after (after (item env given due (stmt_of x) st) (then_rest (items env given due (stmts (map stmt_of (drop (i + 1) list)))))) (behind done)
  next_item list i x st whole done is h isx =
      is ∙ ap (λ (ys : List rust_stmt.Stmt). after (items env given due (stmts (map stmt_of ys)) st) (behind done)) (next_of list i x h isx)

  pub item_passed : (list : List rust_stmt.Stmt) (i : ℕ) (x : rust_stmt.Stmt) (st st1 : State) (whole : Rule (List core.Stmt × State)) (done xs more : List core.Stmt)
      → whole ≡ after (items env given due (stmts (map stmt_of (drop i list))) st) (behind done) → i < length list → x ≡ get_or list i x
      → item env given due (stmt_of x) st ≡ Ok (xs, st1) → more ≡ done ++ xs
      → whole ≡ after (items env given due (stmts (map stmt_of (drop (i + 1) list))) st1) (behind more)
  item_passed list i x st st1 whole done xs more is h isx e m =
      turns.passed whole (item env given due (stmt_of x) st) (items env given due (stmts (map stmt_of (drop (i + 1) list)))) done xs more st1
      (next_item list i x st whole done is h isx) e m

  pub item_failed : (list : List rust_stmt.Stmt) (i : ℕ) (x : rust_stmt.Stmt) (st : State) (whole : Rule (List core.Stmt × State)) (done : List core.Stmt) (e : Fault)
      → whole ≡ after (items env given due (stmts (map stmt_of (drop i list))) st) (behind done) → i < length list → x ≡ get_or list i x
      → FaultIs e (item env given due (stmt_of x) st) → FaultIs e whole
  item_failed list i x st whole done e is h isx f =
      turns.failed whole (item env given due (stmt_of x) st) (items env given due (stmts (map stmt_of (drop (i + 1) list)))) done e
      (next_item list i x st whole done is h isx) f

  pub items_end : (list : List rust_stmt.Stmt) (i : ℕ) (st : State) (whole : Rule (List core.Stmt × State)) (done : List core.Stmt)
      → whole ≡ after (items env given due (stmts (map stmt_of (drop i list))) st) (behind done) → length list ≤ i → whole ≡ Ok (done, st)
  items_end list i st whole done is h =
      turns.ended whole done st (is ∙ ap (λ (ys : List rust_stmt.Stmt). after (items env given due (stmts (map stmt_of ys)) st) (behind done)) (drop-past list i h))

pub ruleset item_lists = (items_begin, items_end, sizes_next)

pub ruleset labelled_lists = (labelled_begins, labelled_ended, sizes_next)
