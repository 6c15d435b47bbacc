-- Each access of a body outside atomic comes from a site of it or of a body that bare calls reach.
use Rattle.std.proofs.Common.{◌≡◌, ℕ, ℤ, zero, suc, ◌+◌, ◌<◌, ◌≤◌, Bool, true, false, List, [], ◌∷◌, ◌++◌, take, drop, Option, Some, None, refl, arith}
use Rattle.std.specs.Prelude.{unsigned_abs, if◌then◌else◌}
use Rattle.nm_base.specs.IntType.{wrapped}
use Rattle.core_meaning.specs.Work.{number_of, give, store, ◌>>◌}
use Rattle.nesc_core.specs.Plain.{Ty, Expr, Exprs, Place, Stmt, Stmts, Body, Program, no_exprs, more_exprs, no_stmts, more_stmts}
use Rattle.nesc_core.specs.Plain as plain
use Rattle.core_meaning.specs.Numbers.{is_zero, binary}
use Rattle.nesc_core.specs.PlaceTypes.{place_type}
use Rattle.nesc_core.specs.Heres.{gives_value}
use Rattle.core_meaning.specs.declared.flow.Flow.TheVariants.{On}
use Rattle.core_meaning.specs.Flow.{result, start_of_value, start_of_default}
use Rattle.core_meaning.specs.Act.{Calls, find, value, values, holding, fill, done, returned, run, run_from}
use Rattle.call_graph.specs.Uses.{Use, Access, expr_uses, exprs_uses, place_uses, maybe_uses, stmt_uses, stmts_uses}
use Rattle.call_graph.specs.Uses as uses
use Rattle.race_checker.specs.Bare.{bytes, IsScalar}
use Rattle.race_checker.proofs.Keeps.{Goes, CallGoes, Any, then_goes, give_goes, or_fault_goes, tick_goes, out_goes, begin_goes, end_goes, in_goes, post_goes, set_locals_goes, if_goes, tested_goes, call_goes, on_goes, turns_go, from_case_goes}
use Rattle.race_checker.proofs.Places.{LiesIn, Layouts, Placed, object_lies, field_lies, load_goes, store_goes, element_goes, deref_goes}

-- each of the list
abbrev pub Each : (Use → Type 0) → List Use → Type 0
Each P [] = Unit {0}
Each P (u ∷ us) = P u × Each P us

-- in a body that began with b statements open, d are open where the flag says whether the node lies in an atomic statement of it
pub record Deep (b : ℕ) (i : Bool) (d : ℕ) : Type 0 where
  pub at_least : b ≤ d
  pub more : i ≡ true → b < d

pub outside : (b : ℕ) (i : Bool) (d : ℕ) → Deep b i d → d ≡ 0 → (b ≡ 0) × (i ≡ false)
outside b true d deep none = absurd (omega (arith, deep.more refl, none))
outside b false d deep none = (omega (arith, deep.at_least, none), refl)

pub front : (P : Use → Type 0) (xs ys : List Use) → Each P (xs ++ ys) → Each P xs
front P [] ys h = tt
front P (x ∷ xs) ys h = (h.0, front P xs ys h.1)

pub back : (P : Use → Type 0) (xs ys : List Use) → Each P (xs ++ ys) → Each P ys
back P [] ys h = h
back P (x ∷ xs) ys h = back P xs ys h.1

module _ (p : Program) (layouts : Layouts p) (types : List Ty) (calls : Calls) (Fine : ℕ → Bool → Type 0) (b : ℕ) where
  -- what is so of a site and of a call of the body
  abbrev pub Allows : Use → Type 0
  Allows (Access n i place pos) =
      IsScalar (place_type p types place) × (b ≡ 0 → i ≡ false → (a : ℕ) (is_word : Bool) → LiesIn p place a (bytes is_word) → Fine a is_word)
  Allows (uses.Calls n i f pos) = (d : ℕ) → Deep b i d → CallGoes Fine calls f d

  module _ (i : Bool) (d : ℕ) (deep : Deep b i d) where
    fine : (n : ℕ) (place : Place) (pos : _) → Allows (Access n i place pos) → d ≡ 0 → (a : ℕ) (is_word : Bool) → LiesIn p place a (bytes is_word) → Fine a is_word
    fine n place pos h none = let out = outside b i d deep none in h.1 out.0 out.1

    mutual
      find_goes : (place : Place) (n : ℕ) → Each Allows (place_uses n i place) → Goes Fine d d (Placed p layouts types place) (find p types calls place)
      find_goes (plain.object k) n h = give_goes _ (object_lies p layouts k _ refl)
      find_goes (plain.local x) n h = give_goes _ (λ there. tt)
      find_goes (plain.deref e t) n h = then_goes (value_goes e _ h) (λ a _. deref_goes p layouts Fine d types e t (unsigned_abs a) _ refl)
      find_goes (plain.index place e) n h =
          then_goes (find_goes place _ (front _ (place_uses _ i place) _ h)) (λ w lies. then_goes (value_goes e _ (back _ (place_uses _ i place) _ h))
          (λ x _. element_goes p layouts Fine d types place e w x lies))
      find_goes (plain.field place k) n h = then_goes (find_goes place _ h) (λ w lies. give_goes _ (field_lies p layouts (place_type p types place) place k w lies))

      value_goes : (e : Expr) (n : ℕ) → Each Allows (expr_uses n i e) → Goes Fine d d Any (value p types calls e)
      value_goes (plain.const t x) n h = give_goes _ tt
      value_goes plain.null n h = give_goes _ tt
      value_goes (plain.read place at) n h =
          then_goes (find_goes place _ h.1) (λ w lies. load_goes p layouts Fine d place (fine n place at h.0) (place_type p types place) w h.0.0 lies)
      value_goes (plain.addr place) n h = then_goes (find_goes place _ h) (λ w _. give_goes _ tt)
      value_goes (plain.un op t e) n h = then_goes (value_goes e _ h) (λ x _. give_goes _ tt)
      value_goes (plain.bin op t a c) n h = then_goes (value_goes a _ (front _ (expr_uses _ i a) _ h)) (λ x _. then_goes (value_goes c _ (back _ (expr_uses _ i a) _ h)) (λ y _. or_fault_goes 3 _))
      value_goes (plain.convert t e) n h = then_goes (value_goes e _ h) (λ x _. give_goes _ tt)
      value_goes (plain.offset a c size) n h = then_goes (value_goes a _ (front _ (expr_uses _ i a) _ h)) (λ x _. then_goes (value_goes c _ (back _ (expr_uses _ i a) _ h)) (λ y _. give_goes _ tt))
      value_goes (plain.distance a c size) n h = then_goes (value_goes a _ (front _ (expr_uses _ i a) _ h)) (λ x _. then_goes (value_goes c _ (back _ (expr_uses _ i a) _ h)) (λ y _. give_goes _ tt))
      value_goes (plain.both a c) n h =
          then_goes (value_goes a _ (front _ (expr_uses _ i a) _ h)) (λ x _. if_goes (is_zero x) (give_goes _ tt) (tested_goes (value_goes c _ (back _ (expr_uses _ i a) _ h))))
      value_goes (plain.either a c) n h =
          then_goes (value_goes a _ (front _ (expr_uses _ i a) _ h)) (λ x _. if_goes (is_zero x) (tested_goes (value_goes c _ (back _ (expr_uses _ i a) _ h))) (give_goes _ tt))
      value_goes (plain.choice test a c) n h =
          let rest = back _ (expr_uses _ i test) _ h in
          then_goes (value_goes test _ (front _ (expr_uses _ i test) _ h)) (λ x _. if_goes (is_zero x) (value_goes c _ (back _ (expr_uses _ i a) _ rest)) (value_goes a _ (front _ (expr_uses _ i a) _ rest)))
      value_goes (plain.assign place e at) n h =
          then_goes (find_goes place _ (front _ (place_uses _ i place) _ h.1)) (λ w lies. then_goes (value_goes e _ (back _ (place_uses _ i place) _ h.1)) (λ v _.
          then_goes (store_goes p layouts Fine d place (fine n place at h.0) (place_type p types place) w v h.0.0 lies) (λ _ _. give_goes v tt)))
      value_goes (plain.update place op t e gives_old at) n h =
          then_goes (find_goes place _ (front _ (place_uses _ i place) _ h.1)) (λ w lies.
          then_goes (load_goes p layouts Fine d place (fine n place at h.0) (place_type p types place) w h.0.0 lies) (λ old _.
          then_goes (value_goes e _ (back _ (place_uses _ i place) _ h.1)) (λ y _.
          then_goes {g = λ z. let new = wrapped (number_of (place_type p types place)) z in ◌>>◌ (store (place_type p types place) w new) (give (if gives_old then old else new))}
          (or_fault_goes 3 (binary op t (wrapped t old) y)) (λ z _. let new = wrapped (number_of (place_type p types place)) z in
          then_goes (store_goes p layouts Fine d place (fine n place at h.0) (place_type p types place) w new h.0.0 lies) (λ _ _. give_goes (if gives_old then old else new) tt)))))
      value_goes (plain.call f arguments at) n h =
          then_goes (values_go arguments _ h.1) (λ vs _. then_goes tick_goes (λ _ _. then_goes (call_goes vs (h.0 d deep)) (λ v _. then_goes tick_goes (λ _ _. give_goes v tt))))
      value_goes (plain.post k) n h = then_goes (post_goes k) (λ x _. give_goes _ tt)
      value_goes (plain.port_in port) n h = then_goes (in_goes port) (λ x _. give_goes _ tt)
      value_goes (plain.port_out port e) n h = then_goes (value_goes e _ h) (λ v _. then_goes (out_goes port _) (λ _ _. give_goes v tt))
      value_goes (plain.comma a c) n h = then_goes (value_goes a _ (front _ (expr_uses _ i a) _ h)) (λ _ _. value_goes c _ (back _ (expr_uses _ i a) _ h))

      values_go : (es : Exprs) (n : ℕ) → Each Allows (exprs_uses n i es) → Goes Fine d d Any (values p types calls es)
      values_go no_exprs n h = give_goes _ tt
      values_go (more_exprs e rest) n h = then_goes (value_goes e _ (front _ (expr_uses _ i e) _ h)) (λ v _. then_goes (values_go rest _ (back _ (expr_uses _ i e) _ h)) (λ vs _. give_goes _ tt))

  module _ (n : ℕ) where
    fill_goes : (d first count : ℕ) (vs : List ℤ) → Goes Fine d d Any (fill p types calls n first count vs)
    fill_goes d first count vs = set_locals_goes first (holding p.structs (take count (drop first types)) vs)

    done_goes : (i : Bool) (d : ℕ) → Deep b i d → (step : Option Expr) (m : ℕ) → Each Allows (maybe_uses m i step) → Goes Fine d d Any (done p types calls n step)
    done_goes i d deep None m h = give_goes tt tt
    done_goes i d deep (Some e) m h = then_goes (value_goes i d deep e _ h) (λ _ _. give_goes tt tt)

    returned_goes : (i : Bool) (d : ℕ) → Deep b i d → (e : Option Expr) (m : ℕ) → Each Allows (maybe_uses m i e) → Goes Fine d d Any (returned p types calls n e)
    returned_goes i d deep None m h = give_goes _ tt
    returned_goes i d deep (Some e) m h = value_goes i d deep e _ h

    deeper : (i : Bool) (d : ℕ) → Deep b i d → Deep b true (suc d)
    deeper i d deep = record { at_least = omega (arith, deep.at_least); more = λ _. omega (arith, deep.at_least) }

    mutual
      pub run_goes : (s : Stmt) (i : Bool) (d : ℕ) → Deep b i d → (m : ℕ) → Each Allows (stmt_uses m i s) → Goes Fine d d Any (run p types calls n s)
      run_goes (plain.eval e) i d deep m h = then_goes (value_goes i d deep e _ h) (λ _ _. give_goes _ tt)
      run_goes (plain.block all) i d deep m h = run_from_goes all i d deep _ h zero
      run_goes (plain.branch test x y) i d deep m h =
          let rest = back _ (expr_uses _ i test) _ h in
          then_goes (value_goes i d deep test _ (front _ (expr_uses _ i test) _ h)) (λ v _. if_goes (is_zero v) (run_goes y i d deep _ (back _ (stmt_uses _ i x) _ rest)) (run_goes x i d deep _ (front _ (stmt_uses _ i x) _ rest)))
      run_goes (plain.loop first test step body) i d deep m h =
          let rest = back _ (expr_uses _ i test) _ h in
          turns_go n first (value_goes i d deep test _ (front _ (expr_uses _ i test) _ h)) (run_goes body i d deep _ (back _ (maybe_uses _ i step) _ rest)) (done_goes i d deep step _ (front _ (maybe_uses _ i step) _ rest))
      run_goes (plain.switch e cases all) i d deep m h =
          then_goes (value_goes i d deep e _ (front _ (expr_uses _ i e) _ h)) (λ v _.
          then_goes (from_case_goes (start_of_value cases v) (start_of_default cases) (run_from_goes all i d deep _ (back _ (expr_uses _ i e) _ h))) (λ flow _. give_goes _ tt))
      run_goes plain.break i d deep m h = give_goes _ tt
      run_goes plain.continue i d deep m h = give_goes _ tt
      run_goes (plain.return e) i d deep m h = then_goes (returned_goes i d deep e _ h) (λ v _. give_goes _ tt)
      run_goes (plain.atomic s) i d deep m h =
          then_goes begin_goes (λ _ _. then_goes (run_goes s true (suc d) (deeper i d deep) _ h) (λ flow _. then_goes end_goes (λ _ _. give_goes flow tt)))
      run_goes (plain.clear x) i d deep m h = then_goes (fill_goes d x 1 []) (λ _ _. give_goes On tt)
      run_goes (plain.here arguments first count body) i d deep m h =
          then_goes (values_go i d deep arguments _ (front _ (exprs_uses _ i arguments) _ h)) (λ vs _. then_goes (fill_goes d first count vs) (λ _ _. then_goes tick_goes (λ _ _.
          then_goes (run_goes body i d deep _ (back _ (exprs_uses _ i arguments) _ h)) (λ flow _. then_goes tick_goes (λ _ _.
          then_goes (if_goes (gives_value body) (fill_goes d (first + count) 1 (result flow ∷ [])) (give_goes tt tt)) (λ _ _. give_goes On tt))))))

      run_from_goes : (all : Stmts) (i : Bool) (d : ℕ) → Deep b i d → (m : ℕ) → Each Allows (stmts_uses m i all) → (k : ℕ) → Goes Fine d d Any (run_from p types calls n all k)
      run_from_goes no_stmts i d deep m h k = give_goes _ tt
      run_from_goes (more_stmts s rest) i d deep m h zero =
          then_goes (run_goes s i d deep _ (front _ (stmt_uses _ i s) _ h)) (λ flow _. on_goes flow (run_from_goes rest i d deep _ (back _ (stmt_uses _ i s) _ h) zero))
      run_from_goes (more_stmts s rest) i d deep m h (suc k) = run_from_goes rest i d deep _ (back _ (stmt_uses _ i s) _ h) k
