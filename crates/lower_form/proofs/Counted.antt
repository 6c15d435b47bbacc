-- How many labels and checks a program has: seven labels a node at most, two for each local of an inlined call, and one check a node.
use Rattle.std.proofs.Common.{◌≡◌, ℕ, ◌+◌, ◌*◌, ◌<◌, ◌≤◌, ◌^◌, Bool, true, false, List, [], ◌∷◌, ◌++◌, length, Option, Some, None, All, sum_by, arith, length-append}
use Rattle.std.specs.Prelude.{if◌then◌else◌}
use Rattle.std.specs.List.{flat_map, list_any}
use Rattle.std.proofs.lemmas.List.Elements.{All-cons, All-nil}
use Rattle.std.proofs.lemmas.List.Sums.{sum_by-cons}
use Rattle.nesc_core.specs.Plain.{Ty, Expr, Exprs, no_exprs, more_exprs, Place, Stmt, Stmts, no_stmts, more_stmts, Body, Program}
use Rattle.nesc_core.specs.Plain as plain
use Rattle.nesc_core.specs.Derefs.{derefs, expr_derefs, exprs_derefs, maybe_derefs, place_derefs, stmt_derefs, stmts_derefs}
use Rattle.nesc_core.specs.Nodes.{body_nodes_of, expr_nodes_of, exprs_nodes_of, maybe_nodes_of, place_nodes_of, stmt_nodes_of, stmts_nodes_of}
use Rattle.nesc_core.specs.Parts.{same_type}
use Rattle.nesc_core.specs.WellFormed.{count_stmts}
use Rattle.lower_expr.specs.Code.{all_labels, labels, place_labels}
use Rattle.lower_stmt.specs.Code.{maybe_labels, stmt_labels, stmts_labels}
use Rattle.lower_stmt.specs.Bodies.{in_order}
use Rattle.lower_form.specs.declared.short.TheConstants.{MOST_EXTRAS, MOST_NODES}
use Rattle.lower_form.specs.Short.{body_extras, IsNumbered, IsShort, stmt_extras, stmts_extras}

-- ---- labels

mutual
  place_few : (place : Place) → place_labels place ≤ 6 * place_nodes_of place
  place_few (plain.object k) = omega arith
  place_few (plain.local x) = omega arith
  place_few (plain.deref e t) = let h = expr_few e in omega (arith, h)
  place_few (plain.index place e) = let h = place_few place in let g = expr_few e in omega (arith, h, g)
  place_few (plain.field place k) = let h = place_few place in omega (arith, h)

  expr_few : (e : Expr) → labels e ≤ 6 * expr_nodes_of e
  expr_few (plain.const t x) = omega arith
  expr_few plain.null = omega arith
  expr_few (plain.read place at) = let h = place_few place in omega (arith, h)
  expr_few (plain.addr place) = let h = place_few place in omega (arith, h)
  expr_few (plain.un op t e) = let h = expr_few e in omega (arith, h)
  expr_few (plain.bin op t a b) = let h = expr_few a in let g = expr_few b in omega (arith, h, g)
  expr_few (plain.convert t e) = let h = expr_few e in omega (arith, h)
  expr_few (plain.offset a b size) = let h = expr_few a in let g = expr_few b in omega (arith, h, g)
  expr_few (plain.distance a b size) = let h = expr_few a in let g = expr_few b in omega (arith, h, g)
  expr_few (plain.both a b) = let h = expr_few a in let g = expr_few b in omega (arith, h, g)
  expr_few (plain.either a b) = let h = expr_few a in let g = expr_few b in omega (arith, h, g)
  expr_few (plain.choice test a b) = let h = expr_few test in let g = expr_few a in let f = expr_few b in omega (arith, h, g, f)
  expr_few (plain.assign place e at) = let h = place_few place in let g = expr_few e in omega (arith, h, g)
  expr_few (plain.update place op t e gives_old at) = let h = place_few place in let g = expr_few e in omega (arith, h, g)
  expr_few (plain.call f arguments at) = let h = all_few arguments in omega (arith, h)
  expr_few (plain.post k) = omega arith
  expr_few (plain.port_in port) = omega arith
  expr_few (plain.port_out port e) = let h = expr_few e in omega (arith, h)
  expr_few (plain.comma a b) = let h = expr_few a in let g = expr_few b in omega (arith, h, g)

  all_few : (es : Exprs) → all_labels es ≤ 6 * exprs_nodes_of es
  all_few no_exprs = omega arith
  all_few (more_exprs e rest) = let h = expr_few e in let g = all_few rest in omega (arith, h, g)

maybe_few : (e : Option Expr) → maybe_labels e ≤ 6 * maybe_nodes_of e
maybe_few None = omega arith
maybe_few (Some e) = expr_few e

mutual
  stmt_few : (s : Stmt) → stmt_labels s + 1 ≤ 7 * stmt_nodes_of s + 2 * stmt_extras s
  stmt_few (plain.eval e) = let h = expr_few e in omega (arith, h)
  stmt_few (plain.block list) = let h = stmts_few list in omega (arith, h)
  stmt_few (plain.branch test a b) = let h = expr_few test in let g = stmt_few a in let f = stmt_few b in omega (arith, h, g, f)
  stmt_few (plain.loop first test step body) = let h = expr_few test in let g = maybe_few step in let f = stmt_few body in omega (arith, h, g, f)
  stmt_few (plain.switch e cases list) = let h = expr_few e in let g = stmts_few list in omega (arith, h, g)
  stmt_few plain.break = omega arith
  stmt_few plain.continue = omega arith
  stmt_few (plain.return e) = let h = maybe_few e in omega (arith, h)
  stmt_few (plain.atomic s) = let h = stmt_few s in omega (arith, h)
  stmt_few (plain.clear x) = omega arith
  stmt_few (plain.here arguments first count body) = let h = all_few arguments in let g = stmt_few body in omega (arith, h, g)

  -- a statement of a switch has a label more
  stmts_few : (list : Stmts) → stmts_labels list + count_stmts list ≤ 7 * stmts_nodes_of list + 2 * stmts_extras list
  stmts_few no_stmts = omega arith
  stmts_few (more_stmts s rest) = let h = stmt_few s in let g = stmts_few rest in omega (arith, h, g)

-- ---- dereferences

module _ {A : Type 0} where
  two : (a b : List A) → length (a ++ b) ≡ length a + length b
  two a b = length-append a b

mutual
  place_checks : (place : Place) → length (place_derefs place) ≤ place_nodes_of place
  place_checks (plain.object k) = omega arith
  place_checks (plain.local x) = omega arith
  place_checks (plain.deref e t) = let h = expr_checks e in omega (arith, h)
  place_checks (plain.index place e) = let c = two (place_derefs place) (expr_derefs e) in let h = place_checks place in let g = expr_checks e in omega (arith, c, h, g)
  place_checks (plain.field place k) = let h = place_checks place in omega (arith, h)

  expr_checks : (e : Expr) → length (expr_derefs e) ≤ expr_nodes_of e
  expr_checks (plain.const t x) = omega arith
  expr_checks plain.null = omega arith
  expr_checks (plain.read place at) = let h = place_checks place in omega (arith, h)
  expr_checks (plain.addr place) = let h = place_checks place in omega (arith, h)
  expr_checks (plain.un op t e) = let h = expr_checks e in omega (arith, h)
  expr_checks (plain.bin op t a b) = let c = two (expr_derefs a) (expr_derefs b) in let h = expr_checks a in let g = expr_checks b in omega (arith, c, h, g)
  expr_checks (plain.convert t e) = let h = expr_checks e in omega (arith, h)
  expr_checks (plain.offset a b size) = let c = two (expr_derefs a) (expr_derefs b) in let h = expr_checks a in let g = expr_checks b in omega (arith, c, h, g)
  expr_checks (plain.distance a b size) = let c = two (expr_derefs a) (expr_derefs b) in let h = expr_checks a in let g = expr_checks b in omega (arith, c, h, g)
  expr_checks (plain.both a b) = let c = two (expr_derefs a) (expr_derefs b) in let h = expr_checks a in let g = expr_checks b in omega (arith, c, h, g)
  expr_checks (plain.either a b) = let c = two (expr_derefs a) (expr_derefs b) in let h = expr_checks a in let g = expr_checks b in omega (arith, c, h, g)
  expr_checks (plain.choice test a b) =
      let c = two (expr_derefs test ++ expr_derefs a) (expr_derefs b) in
      let d = two (expr_derefs test) (expr_derefs a) in
      let h = expr_checks test in
      let g = expr_checks a in
      let f = expr_checks b in
      omega (arith, c, d, h, g, f)
  expr_checks (plain.assign place e at) = let c = two (place_derefs place) (expr_derefs e) in let h = place_checks place in let g = expr_checks e in omega (arith, c, h, g)
  expr_checks (plain.update place op t e gives_old at) = let c = two (place_derefs place) (expr_derefs e) in let h = place_checks place in let g = expr_checks e in omega (arith, c, h, g)
  expr_checks (plain.call f arguments at) = let h = args_checks arguments in omega (arith, h)
  expr_checks (plain.post k) = omega arith
  expr_checks (plain.port_in port) = omega arith
  expr_checks (plain.port_out port e) = let h = expr_checks e in omega (arith, h)
  expr_checks (plain.comma a b) = let c = two (expr_derefs a) (expr_derefs b) in let h = expr_checks a in let g = expr_checks b in omega (arith, c, h, g)

  args_checks : (es : Exprs) → length (exprs_derefs es) ≤ exprs_nodes_of es
  args_checks no_exprs = omega arith
  args_checks (more_exprs e rest) = let c = two (expr_derefs e) (exprs_derefs rest) in let h = expr_checks e in let g = args_checks rest in omega (arith, c, h, g)

maybe_checks : (e : Option Expr) → length (maybe_derefs e) ≤ maybe_nodes_of e
maybe_checks None = omega arith
maybe_checks (Some e) = expr_checks e

mutual
  stmt_checks : (s : Stmt) → length (stmt_derefs s) ≤ stmt_nodes_of s
  stmt_checks (plain.eval e) = let h = expr_checks e in omega (arith, h)
  stmt_checks (plain.block list) = let h = stmts_checks list in omega (arith, h)
  stmt_checks (plain.branch test a b) =
      let c = two (expr_derefs test ++ stmt_derefs a) (stmt_derefs b) in
      let d = two (expr_derefs test) (stmt_derefs a) in
      let h = expr_checks test in
      let g = stmt_checks a in
      let f = stmt_checks b in
      omega (arith, c, d, h, g, f)
  stmt_checks (plain.loop first test step body) =
      let c = two (expr_derefs test ++ maybe_derefs step) (stmt_derefs body) in
      let d = two (expr_derefs test) (maybe_derefs step) in
      let h = expr_checks test in
      let g = maybe_checks step in
      let f = stmt_checks body in
      omega (arith, c, d, h, g, f)
  stmt_checks (plain.switch e cases list) = let c = two (expr_derefs e) (stmts_derefs list) in let h = expr_checks e in let g = stmts_checks list in omega (arith, c, h, g)
  stmt_checks plain.break = omega arith
  stmt_checks plain.continue = omega arith
  stmt_checks (plain.return e) = let h = maybe_checks e in omega (arith, h)
  stmt_checks (plain.atomic s) = let h = stmt_checks s in omega (arith, h)
  stmt_checks (plain.clear x) = omega arith
  stmt_checks (plain.here arguments first count body) = let c = two (exprs_derefs arguments) (stmt_derefs body) in let h = args_checks arguments in let g = stmt_checks body in omega (arith, c, h, g)

  stmts_checks : (list : Stmts) → length (stmts_derefs list) ≤ stmts_nodes_of list
  stmts_checks no_stmts = omega arith
  stmts_checks (more_stmts s rest) = let c = two (stmt_derefs s) (stmts_derefs rest) in let h = stmt_checks s in let g = stmts_checks rest in omega (arith, c, h, g)

with_one : (b : Bool) (seen : List Ty) (t : Ty) → length (if b then seen else seen ++ t ∷ []) ≤ length seen + 1
with_one true seen t = omega arith
with_one false seen t = let c = two seen (t ∷ []) in omega (arith, c)

in_order_few : (ts seen : List Ty) → length (in_order seen ts) ≤ length seen + length ts
in_order_few [] seen = omega arith
in_order_few (t ∷ ts) seen =
    let h = with_one (list_any (λ u. same_type u t) seen) seen t in
    let g = in_order_few ts (if list_any (λ u. same_type u t) seen then seen else seen ++ t ∷ []) in
    omega (arith, h, g)

-- ---- programs

bodies_checks : (bs : List Body) → length (flat_map (λ b. stmt_derefs b.code) bs) ≤ sum_by body_nodes_of bs
bodies_checks [] = omega arith
bodies_checks (b ∷ bs) =
    let c = two (stmt_derefs b.code) (flat_map (λ (x : Body). stmt_derefs x.code) bs) in
    let e = sum_by-cons body_nodes_of b bs in
    let h = stmt_checks b.code in
    let g = bodies_checks bs in
    omega (arith, c, e, h, g)

-- what holds of each body that has at most so many nodes and extras
pub of_bodies : (P : Body → Type 0) (n m : ℕ) → ((b : Body) → stmt_nodes_of b.code ≤ n → stmt_extras b.code ≤ m → P b) → (bs : List Body) → sum_by body_nodes_of bs ≤ n → sum_by body_extras bs ≤ m → All P bs
of_bodies P n m go [] h g = All-nil P
of_bodies P n m go (b ∷ bs) h g =
    let e = sum_by-cons body_nodes_of b bs in
    let f = sum_by-cons body_extras b bs in
    All-cons P b bs (go b (omega (arith, e, h)) (omega (arith, f, g))) (of_bodies P n m go bs (omega (arith, e, h)) (omega (arith, f, g)))

pub is_numbered : (p : Program) → IsShort p → IsNumbered p
is_numbered p short = record {
  labels = of_bodies (λ b. stmt_labels b.code < 2 ^ 32) MOST_NODES MOST_EXTRAS (λ b h g. let few = stmt_few b.code in omega (arith, few, h, g)) p.bodies short.nodes short.extras;
  checks = let h = in_order_few (derefs p) [] in let g = bodies_checks p.bodies in let n = short.nodes in omega (arith, h, g, n);
}
