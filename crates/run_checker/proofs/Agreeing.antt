-- What a body does is the same for as many actions as its loops may make turns, whatever more turns they may make.
use Rattle.std.proofs.Common.{ℕ, ℤ, zero, suc, ◌+◌, ◌≤◌, List, [], ◌∷◌, length, take, drop, Option, Some, None, arith}
use Rattle.std.specs.Prelude.{slice_get, unsigned_abs}
use Rattle.nm_base.specs.declared.action.Action.TheVariants.{In, Out, Post, Begin, End, Tick}
use Rattle.nesc_core.specs.Plain.{Ty, Expr, Exprs, Place, Stmt, Stmts, Body, Program, no_exprs, more_exprs, no_stmts, more_stmts}
use Rattle.nesc_core.specs.Plain as plain
use Rattle.core_meaning.specs.Numbers.{is_zero}
use Rattle.nesc_core.specs.PlaceTypes.{place_type}
use Rattle.nesc_core.specs.Parts.{is_part}
use Rattle.nesc_core.specs.Heres.{gives_value}
use Rattle.core_meaning.specs.declared.flow.Flow.TheVariants.{On}
use Rattle.core_meaning.specs.Flow.{result, start_of_value, start_of_default}
use Rattle.core_meaning.specs.Act.{Calls, find, value, values, holding, fill, done, returned, run, run_from, enter, calls_of, root}
use Rattle.run_checker.proofs.Alike.{Alike, Agree, CallsAgree, cut_alike, returns_alike, then_agrees, give_agrees, act_agrees, ask_agrees, fault_agrees, or_fault_agrees, set_locals_agrees, if_agrees, tested_agrees, call_agrees, load_agrees, store_agrees, element_agrees, on_agrees, turns_agree, from_case_agrees}

module _ (k : ℕ) (p : Program) (types : List Ty) (c d : Calls) (calls : CallsAgree k c d) where
  mutual
    find_agrees : (place : Place) → Agree k (find p types c place) (find p types d place)
    find_agrees (plain.object i) = give_agrees _
    find_agrees (plain.local x) = give_agrees _
    find_agrees (plain.deref e t) = then_agrees (value_agrees e) (λ a. if_agrees (is_part p t (unsigned_abs a)) (give_agrees _) (fault_agrees 2))
    find_agrees (plain.index place e) = then_agrees (find_agrees place) (λ w. then_agrees (value_agrees e) (λ i. element_agrees _ _ w i))
    find_agrees (plain.field place i) = then_agrees (find_agrees place) (λ w. give_agrees _)

    value_agrees : (e : Expr) → Agree k (value p types c e) (value p types d e)
    value_agrees (plain.const t n) = give_agrees _
    value_agrees plain.null = give_agrees _
    value_agrees (plain.read place at) = then_agrees (find_agrees place) (λ w. load_agrees (place_type p types place) w)
    value_agrees (plain.addr place) = then_agrees (find_agrees place) (λ w. give_agrees _)
    value_agrees (plain.un op t e) = then_agrees (value_agrees e) (λ x. give_agrees _)
    value_agrees (plain.bin op t a b) = then_agrees (value_agrees a) (λ x. then_agrees (value_agrees b) (λ y. or_fault_agrees 3 _))
    value_agrees (plain.convert t e) = then_agrees (value_agrees e) (λ x. give_agrees _)
    value_agrees (plain.offset a b size) = then_agrees (value_agrees a) (λ x. then_agrees (value_agrees b) (λ y. give_agrees _))
    value_agrees (plain.distance a b size) = then_agrees (value_agrees a) (λ x. then_agrees (value_agrees b) (λ y. give_agrees _))
    value_agrees (plain.both a b) = then_agrees (value_agrees a) (λ x. if_agrees (is_zero x) (give_agrees _) (tested_agrees (value_agrees b)))
    value_agrees (plain.either a b) = then_agrees (value_agrees a) (λ x. if_agrees (is_zero x) (tested_agrees (value_agrees b)) (give_agrees _))
    value_agrees (plain.choice test a b) = then_agrees (value_agrees test) (λ x. if_agrees (is_zero x) (value_agrees b) (value_agrees a))
    value_agrees (plain.assign place e at) =
        then_agrees (find_agrees place) (λ w. then_agrees (value_agrees e) (λ v. then_agrees (store_agrees (place_type p types place) w v) (λ _. give_agrees v)))
    value_agrees (plain.update place op t e gives_old at) =
        then_agrees (find_agrees place) (λ w. then_agrees (load_agrees (place_type p types place) w) (λ old. then_agrees (value_agrees e) (λ y.
        then_agrees (or_fault_agrees 3 _) (λ z. then_agrees (store_agrees (place_type p types place) w _) (λ _. give_agrees _)))))
    value_agrees (plain.call f arguments at) =
        then_agrees (values_agree arguments) (λ vs. then_agrees (act_agrees Tick) (λ _. then_agrees (call_agrees calls f vs) (λ v. then_agrees (act_agrees Tick) (λ _. give_agrees v))))
    value_agrees (plain.post i) = then_agrees (ask_agrees (Post i)) (λ x. give_agrees _)
    value_agrees (plain.port_in port) = then_agrees (ask_agrees (In port)) (λ x. give_agrees _)
    value_agrees (plain.port_out port e) = then_agrees (value_agrees e) (λ v. then_agrees (act_agrees (Out port _)) (λ _. give_agrees v))
    value_agrees (plain.comma a b) = then_agrees (value_agrees a) (λ _. value_agrees b)

    values_agree : (es : Exprs) → Agree k (values p types c es) (values p types d es)
    values_agree no_exprs = give_agrees []
    values_agree (more_exprs e rest) = then_agrees (value_agrees e) (λ v. then_agrees (values_agree rest) (λ vs. give_agrees _))

module _ (k : ℕ) (p : Program) (types : List Ty) (c d : Calls) (calls : CallsAgree k c d) (m n : ℕ) (low : k ≤ m) (high : k ≤ n) where
  done_agrees : (step : Option Expr) → Agree k (done p types c m step) (done p types d n step)
  done_agrees None = give_agrees tt
  done_agrees (Some e) = then_agrees (value_agrees k p types c d calls e) (λ _. give_agrees tt)

  returned_agrees : (e : Option Expr) → Agree k (returned p types c m e) (returned p types d n e)
  returned_agrees None = give_agrees _
  returned_agrees (Some e) = value_agrees k p types c d calls e

  fill_agrees : (first count : ℕ) (vs : List ℤ) → Agree k (fill p types c m first count vs) (fill p types d n first count vs)
  fill_agrees first count vs = set_locals_agrees first (holding p.structs (take count (drop first types)) vs)

  mutual
    run_agrees : (s : Stmt) → Agree k (run p types c m s) (run p types d n s)
    run_agrees (plain.eval e) = then_agrees (value_agrees k p types c d calls e) (λ _. give_agrees _)
    run_agrees (plain.block all) = run_from_agrees all zero
    run_agrees (plain.branch test a b) = then_agrees (value_agrees k p types c d calls test) (λ x. if_agrees (is_zero x) (run_agrees b) (run_agrees a))
    run_agrees (plain.loop first test step body) = turns_agree k m n low high first (value_agrees k p types c d calls test) (run_agrees body) (done_agrees step)
    run_agrees (plain.switch e cases all) =
        then_agrees (value_agrees k p types c d calls e) (λ v. then_agrees (from_case_agrees (start_of_value cases v) (start_of_default cases) (run_from_agrees all)) (λ flow. give_agrees _))
    run_agrees plain.break = give_agrees _
    run_agrees plain.continue = give_agrees _
    run_agrees (plain.return e) = then_agrees (returned_agrees e) (λ v. give_agrees _)
    run_agrees (plain.atomic s) = then_agrees (act_agrees Begin) (λ _. then_agrees (run_agrees s) (λ flow. then_agrees (act_agrees End) (λ _. give_agrees flow)))
    run_agrees (plain.clear x) = then_agrees (fill_agrees x 1 []) (λ _. give_agrees On)
    run_agrees (plain.here arguments first count body) =
        then_agrees (values_agree k p types c d calls arguments) (λ vs. then_agrees (fill_agrees first count vs) (λ _. then_agrees (act_agrees Tick) (λ _.
        then_agrees (run_agrees body) (λ flow. then_agrees (act_agrees Tick) (λ _.
        then_agrees (if_agrees (gives_value body) (fill_agrees (first + count) 1 (result flow ∷ [])) (give_agrees tt)) (λ _. give_agrees On))))))

    run_from_agrees : (all : Stmts) (i : ℕ) → Agree k (run_from p types c m all i) (run_from p types d n all i)
    run_from_agrees no_stmts i = give_agrees _
    run_from_agrees (more_stmts s rest) zero = then_agrees (run_agrees s) (λ flow. on_agrees flow (run_from_agrees rest zero))
    run_from_agrees (more_stmts s rest) (suc i) = run_from_agrees rest i

enter_agrees : (k : ℕ) (p : Program) (b : Option Body) (c d : Calls) → CallsAgree k c d → (m n : ℕ) → k ≤ m → k ≤ n → (j : ℕ) → j ≤ k → (arguments : List ℤ) (after after' : ℤ → _)
    → ((i : ℕ) → i ≤ j → (v : ℤ) → Alike i (after v) (after' v)) → Alike j (enter p b c m arguments after) (enter p b d n arguments after')
enter_agrees k p None c d calls m n low high j le arguments after after' h = cut_alike j
enter_agrees k p (Some b) c d calls m n low high j le arguments after after' h =
    (run_agrees k p b.locals c d calls m n low high b.code).by j le _ _ (λ i le_i flow locals. h i le_i _) _

calls_agree : (k : ℕ) (p : Program) (depth m n : ℕ) → k ≤ m → k ≤ n → CallsAgree k (calls_of p depth m) (calls_of p depth n)
calls_agree k p zero m n low high = record { by = λ j le f arguments after after' h. cut_alike j }
calls_agree k p (suc depth) m n low high = record {
  by = λ j le f arguments after after' h.
      enter_agrees k p (slice_get p.bodies f) (calls_of p depth m) (calls_of p depth n) (calls_agree k p depth m n low high) m n low high j le arguments after after' h;
}

pub root_alike : (k : ℕ) (p : Program) (body m n : ℕ) → k ≤ m → k ≤ n → Alike k (root p body m) (root p body n)
root_alike k p body m n low high = (calls_agree k p (length p.bodies) m n low high).by k (omega arith) body [] _ _ (λ i le v. returns_alike i _)
