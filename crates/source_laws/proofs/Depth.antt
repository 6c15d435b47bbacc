-- Calls that do the same in each body that a body calls, do the same in it.
use Rattle.std.proofs.Common.{◌≡◌, ℕ, ℤ, pos, zero, suc, ◌+◌, ◌<◌, ◌≤◌, List, [], ◌∷◌, ◌++◌, length, Option, Some, None, refl, sym, subst, ap, ◌∙◌, arith}
use Rattle.std.proofs.Math.Path.{fun_ext}
use Rattle.std.specs.Prelude.{if◌then◌else◌, slice_get, unsigned_abs, int_div, ◌+ℤ◌, ◌-ℤ◌, ◌*ℤ◌}
use Rattle.std.specs.List.{AllByRecursion}
use Rattle.std.proofs.lemmas.List.Elements.{recursion_from_All}
use Rattle.nm_base.specs.declared.action.Action.TheVariants.{Tick, Out, Begin, End}
use Rattle.nm_base.specs.Behaviour.{Behaviour, Cut}
use Rattle.nm_base.specs.declared.int_type.IntType.TheVariants.{I16, U16}
use Rattle.nm_base.specs.IntType.{wrapped}
use Rattle.nesc_core.specs.Plain.{Ty, Expr, Exprs, Place, Stmt, Stmts, Body, Program, no_exprs, more_exprs, no_stmts, more_stmts}
use Rattle.nesc_core.specs.Plain as plain
use Rattle.nesc_core.specs.PlaceTypes.{place_type, element_of, count_of, field_offset}
use Rattle.nesc_core.specs.Parts.{is_part}
use Rattle.nesc_core.specs.Heres.{gives_value}
use Rattle.nesc_core.specs.Calls.{expr_calls, exprs_calls, place_calls, maybe_calls, stmt_calls, stmts_calls, HasNoCycle}
use Rattle.core_meaning.specs.Layout.{size_of}
use Rattle.core_meaning.specs.Numbers.{is_zero, binary, unary, residue}
use Rattle.core_meaning.specs.declared.access.Where.{Where}
use Rattle.core_meaning.specs.declared.access.Where.TheVariants.{At}
use Rattle.core_meaning.specs.declared.flow.Flow.{Flow}
use Rattle.core_meaning.specs.declared.flow.Flow.TheVariants.{On, Gave}
use Rattle.core_meaning.specs.Flow.{on, turns, from_case, result, out_of_switch, start_of_value, start_of_default}
use Rattle.core_meaning.specs.Work.{Work, give, ◌>>=◌, ◌>>◌, act, fault, or_fault, moved, address_of, number_of, load, store}
use Rattle.core_meaning.specs.Act.{Calls, tested, element, find, value, values, fill, done, returned, run, run_from, holding, enter, calls_of}
use Rattle.source_laws.specs.Depth.{DepthCutsNothing}

two : {A B C : Type 0} (f : A → B → C) {a a' : A} {b b' : B} → a ≡ a' → b ≡ b' → f a b ≡ f a' b'
two f {a = a} {a' = a'} {b = b} {b' = b'} e g = ap (λ x. f x b) e ∙ ap (f a') g

-- what one body does when it is called
abbrev Called : Type 0
Called = List ℤ → (ℤ → Behaviour) → Behaviour

abbrev calling : Called → List ℤ → Work ℤ
calling g vs = λ after locals. g vs (λ v. after v locals)

front : (P : ℕ → Type 0) (xs ys : List ℕ) → AllByRecursion P (xs ++ ys) → AllByRecursion P xs
front P [] ys h = tt
front P (x ∷ xs) ys h = (h.0, front P xs ys h.1)

back : (P : ℕ → Type 0) (xs ys : List ℕ) → AllByRecursion P (xs ++ ys) → AllByRecursion P ys
back P [] ys h = h
back P (x ∷ xs) ys h = back P xs ys h.1

module _ (p : Program) (types : List Ty) (c d : Calls) where
  abbrev Same : List ℕ → Type 0
  Same fs = AllByRecursion (λ f. c f ≡ d f) fs

  f1 : (xs ys : List ℕ) → Same (xs ++ ys) → Same xs
  f1 = front (λ f. c f ≡ d f)

  f2 : (xs ys : List ℕ) → Same (xs ++ ys) → Same ys
  f2 = back (λ f. c f ≡ d f)

  mutual
    find_same : (place : Place) → Same (place_calls place) → find p types c place ≡ find p types d place
    find_same (plain.object k) h = refl
    find_same (plain.local x) h = refl
    find_same (plain.deref e t) h = ap (λ (w : Work ℤ). ◌>>=◌ w (λ a. if is_part p t (unsigned_abs a) then give (At (unsigned_abs a)) else fault 2)) (value_same e h)
    find_same (plain.index place e) h =
        two (λ (v : Work Where) (w : Work ℤ). ◌>>=◌ v (λ x. ◌>>=◌ w (λ i. element (count_of (place_type p types place)) (size_of p (element_of (place_type p types place))) x i)))
        (find_same place (f1 (place_calls place) (expr_calls e) h)) (value_same e (f2 (place_calls place) (expr_calls e) h))
    find_same (plain.field place k) h = ap (λ (w : Work Where). ◌>>=◌ w (λ x. give (moved x (field_offset p.structs (place_type p types place) k)))) (find_same place h)

    value_same : (e : Expr) → Same (expr_calls e) → value p types c e ≡ value p types d e
    value_same (plain.const t x) h = refl
    value_same plain.null h = refl
    value_same (plain.read place at) h = ap (λ (w : Work Where). ◌>>=◌ w (λ x. load (place_type p types place) x)) (find_same place h)
    value_same (plain.addr place) h = ap (λ (w : Work Where). ◌>>=◌ w (λ x. give (pos (address_of x)))) (find_same place h)
    value_same (plain.un op t e) h = ap (λ (w : Work ℤ). ◌>>=◌ w (λ x. give (unary op t x))) (value_same e h)
    value_same (plain.bin op t a b) h =
        two (λ (v w : Work ℤ). ◌>>=◌ v (λ x. ◌>>=◌ w (λ y. or_fault 3 (binary op t x y)))) (value_same a (f1 (expr_calls a) (expr_calls b) h)) (value_same b (f2 (expr_calls a) (expr_calls b) h))
    value_same (plain.convert t e) h = ap (λ (w : Work ℤ). ◌>>=◌ w (λ x. give (wrapped t x))) (value_same e h)
    value_same (plain.offset a b size) h =
        two (λ (v w : Work ℤ). ◌>>=◌ v (λ x. ◌>>=◌ w (λ y. give (wrapped U16 (x +ℤ y *ℤ pos size))))) (value_same a (f1 (expr_calls a) (expr_calls b) h)) (value_same b (f2 (expr_calls a) (expr_calls b) h))
    value_same (plain.distance a b size) h =
        two (λ (v w : Work ℤ). ◌>>=◌ v (λ x. ◌>>=◌ w (λ y. give (int_div (wrapped I16 (x -ℤ y)) (pos size))))) (value_same a (f1 (expr_calls a) (expr_calls b) h)) (value_same b (f2 (expr_calls a) (expr_calls b) h))
    value_same (plain.both a b) h =
        two (λ (v w : Work ℤ). ◌>>=◌ v (λ x. if is_zero x then give (pos 0) else tested w)) (value_same a (f1 (expr_calls a) (expr_calls b) h)) (value_same b (f2 (expr_calls a) (expr_calls b) h))
    value_same (plain.either a b) h =
        two (λ (v w : Work ℤ). ◌>>=◌ v (λ x. if is_zero x then tested w else give (pos 1))) (value_same a (f1 (expr_calls a) (expr_calls b) h)) (value_same b (f2 (expr_calls a) (expr_calls b) h))
    value_same (plain.choice test a b) h =
        let both = f1 (expr_calls test ++ expr_calls a) (expr_calls b) h in
        two (λ (u v : Work ℤ). ◌>>=◌ u (λ x. if is_zero x then value p types c b else v)) (value_same test (f1 (expr_calls test) (expr_calls a) both)) (value_same a (f2 (expr_calls test) (expr_calls a) both))
        ∙ ap (λ (w : Work ℤ). ◌>>=◌ (value p types d test) (λ x. if is_zero x then w else value p types d a)) (value_same b (f2 (expr_calls test ++ expr_calls a) (expr_calls b) h))
    value_same (plain.assign place e at) h =
        two (λ (v : Work Where) (w : Work ℤ). ◌>>=◌ v (λ x. ◌>>=◌ w (λ y. ◌>>◌ (store (place_type p types place) x y) (give y))))
        (find_same place (f1 (place_calls place) (expr_calls e) h)) (value_same e (f2 (place_calls place) (expr_calls e) h))
    value_same (plain.update place op t e gives_old at) h =
        two (λ (v : Work Where) (w : Work ℤ). ◌>>=◌ v (λ x. ◌>>=◌ (load (place_type p types place) x) (λ old. ◌>>=◌ w (λ y. ◌>>=◌ (or_fault 3 (binary op t (wrapped t old) y)) (λ z.
        let new = wrapped (number_of (place_type p types place)) z in ◌>>◌ (store (place_type p types place) x new) (give (if gives_old then old else new)))))))
        (find_same place (f1 (place_calls place) (expr_calls e) h)) (value_same e (f2 (place_calls place) (expr_calls e) h))
    value_same (plain.call f arguments at) h =
        two (λ (w : Work (List ℤ)) (g : Called). ◌>>=◌ w (λ vs. ◌>>◌ (act Tick) (◌>>=◌ (calling g vs) (λ v. ◌>>◌ (act Tick) (give v))))) (values_same arguments h.1) h.0
    value_same (plain.post k) h = refl
    value_same (plain.port_in port) h = refl
    value_same (plain.port_out port e) h = ap (λ (w : Work ℤ). ◌>>=◌ w (λ v. ◌>>◌ (act (Out port (residue 16 v))) (give v))) (value_same e h)
    value_same (plain.comma a b) h = two (λ (v w : Work ℤ). ◌>>◌ v w) (value_same a (f1 (expr_calls a) (expr_calls b) h)) (value_same b (f2 (expr_calls a) (expr_calls b) h))

    values_same : (es : Exprs) → Same (exprs_calls es) → values p types c es ≡ values p types d es
    values_same no_exprs h = refl
    values_same (more_exprs e rest) h =
        two (λ (v : Work ℤ) (w : Work (List ℤ)). ◌>>=◌ v (λ x. ◌>>=◌ w (λ xs. give (x ∷ xs)))) (value_same e (f1 (expr_calls e) (exprs_calls rest) h)) (values_same rest (f2 (expr_calls e) (exprs_calls rest) h))

  module _ (n : ℕ) where
    done_same : (e : Option Expr) → Same (maybe_calls e) → done p types c n e ≡ done p types d n e
    done_same None h = refl
    done_same (Some e) h = ap (λ (w : Work ℤ). ◌>>◌ w (give tt)) (value_same e h)

    returned_same : (e : Option Expr) → Same (maybe_calls e) → returned p types c n e ≡ returned p types d n e
    returned_same None h = refl
    returned_same (Some e) h = value_same e h

    mutual
      run_same : (s : Stmt) → Same (stmt_calls s) → run p types c n s ≡ run p types d n s
      run_same (plain.eval e) h = ap (λ (w : Work ℤ). ◌>>◌ w (give On)) (value_same e h)
      run_same (plain.block all) h = run_from_same all h zero
      run_same (plain.branch test x y) h =
          let both = f1 (expr_calls test ++ stmt_calls x) (stmt_calls y) h in
          two (λ (u : Work ℤ) (v : Work Flow). ◌>>=◌ u (λ z. if is_zero z then run p types c n y else v)) (value_same test (f1 (expr_calls test) (stmt_calls x) both)) (run_same x (f2 (expr_calls test) (stmt_calls x) both))
          ∙ ap (λ (w : Work Flow). ◌>>=◌ (value p types d test) (λ z. if is_zero z then w else run p types d n x)) (run_same y (f2 (expr_calls test ++ stmt_calls x) (stmt_calls y) h))
      run_same (plain.loop first test step body) h =
          let both = f1 (expr_calls test ++ maybe_calls step) (stmt_calls body) h in
          two (λ (u : Work ℤ) (v : Work (Unit {0})). turns n first u (run p types c n body) v) (value_same test (f1 (expr_calls test) (maybe_calls step) both)) (done_same step (f2 (expr_calls test) (maybe_calls step) both))
          ∙ ap (λ (w : Work Flow). turns n first (value p types d test) w (done p types d n step)) (run_same body (f2 (expr_calls test ++ maybe_calls step) (stmt_calls body) h))
      run_same (plain.switch e cases all) h =
          two (λ (v : Work ℤ) (from : ℕ → Work Flow). ◌>>=◌ v (λ x. ◌>>=◌ (from_case (start_of_value cases x) (start_of_default cases) from) (λ flow. give (out_of_switch flow))))
          (value_same e (f1 (expr_calls e) (stmts_calls all) h)) (fun_ext (run_from_same all (f2 (expr_calls e) (stmts_calls all) h)))
      run_same plain.break h = refl
      run_same plain.continue h = refl
      run_same (plain.return e) h = ap (λ (w : Work ℤ). ◌>>=◌ w (λ v. give (Gave v))) (returned_same e h)
      run_same (plain.atomic s) h = ap (λ (w : Work Flow). ◌>>◌ (act Begin) (◌>>=◌ w (λ flow. ◌>>◌ (act End) (give flow)))) (run_same s h)
      run_same (plain.clear x) h = refl
      run_same (plain.here arguments first count body) h =
          two (λ (v : Work (List ℤ)) (w : Work Flow). ◌>>=◌ v (λ vs. ◌>>◌ (fill p types c n first count vs) (◌>>◌ (act Tick) (◌>>=◌ w (λ flow. ◌>>◌ (act Tick)
          (◌>>◌ (if gives_value body then fill p types c n (first + count) 1 (result flow ∷ []) else give tt) (give On)))))))
          (values_same arguments (f1 (exprs_calls arguments) (stmt_calls body) h)) (run_same body (f2 (exprs_calls arguments) (stmt_calls body) h))

      run_from_same : (all : Stmts) → Same (stmts_calls all) → (k : ℕ) → run_from p types c n all k ≡ run_from p types d n all k
      run_from_same no_stmts h k = refl
      run_from_same (more_stmts s rest) h zero =
          two (λ (v w : Work Flow). ◌>>=◌ v (λ flow. on flow w)) (run_same s (f1 (stmt_calls s) (stmts_calls rest) h)) (run_from_same rest (f2 (stmt_calls s) (stmts_calls rest) h) zero)
      run_from_same (more_stmts s rest) h (suc k) = run_from_same rest (f2 (stmt_calls s) (stmts_calls rest) h) k

-- ---- depths above a body's rank do the same

module _ (p : Program) (h : HasNoCycle p) (n : ℕ) where
  -- what is no body is cut off, however deep calls may be
  cut_off : (x f : ℕ) → slice_get p.bodies f ≡ None → (arguments : List ℤ) (after : ℤ → Behaviour) → calls_of p x n f arguments after ≡ Cut
  cut_off zero f is arguments after = refl
  cut_off (suc x) f is arguments after = ap (λ (o : Option Body). enter p o (calls_of p x n) n arguments after) is

  abbrev Deep : ℕ → ℕ → Type 0
  Deep x y = (g : ℕ) (b : Body) → slice_get p.bodies g ≡ Some b → h.rank g < x → h.rank g < y → calls_of p x n g ≡ calls_of p y n g

  each : (x y r : ℕ) → r ≤ x → r ≤ y → Deep x y → (gs : List ℕ) → AllByRecursion (λ g. h.rank g < r) gs → AllByRecursion (λ g. calls_of p x n g ≡ calls_of p y n g) gs
  each x y r low high deep [] below = tt
  each x y r low high deep (g ∷ gs) below = (by_body (slice_get p.bodies g) refl, each x y r low high deep gs below.1)
    where
      by_body : (o : Option Body) → slice_get p.bodies g ≡ o → calls_of p x n g ≡ calls_of p y n g
      by_body None is = fun_ext (λ arguments. fun_ext (λ after. cut_off x g is arguments after ∙ sym (cut_off y g is arguments after)))
      by_body (Some b) is = let less = below.0 in deep g b is (omega (arith, less, low)) (omega (arith, less, high))

  deep_enough : (x y : ℕ) → Deep x y
  deep_enough zero y f b is low high = absurd (omega (arith, low))
  deep_enough (suc x) zero f b is low high = absurd (omega (arith, high))
  deep_enough (suc x) (suc y) f b is low high =
      let same = run_same p b.locals (calls_of p x n) (calls_of p y n) n b.code
      (each x y (h.rank f) (omega (arith, low)) (omega (arith, high)) (deep_enough x y) (stmt_calls b.code) (recursion_from_All _ _ (h.falls f b is))) in
      fun_ext (λ arguments. fun_ext (λ after.
      subst (λ (o : Option Body). enter p o (calls_of p x n) n arguments after ≡ enter p o (calls_of p y n) n arguments after) (sym is)
      (ap (λ (w : Work Flow). w (λ flow locals. after (result flow)) (holding p.structs b.locals arguments)) same)))

pub depth_cuts_nothing : DepthCutsNothing
depth_cuts_nothing p h more n f arguments after = by_body (slice_get p.bodies f) refl
  where
    by_body : (o : Option Body) → slice_get p.bodies f ≡ o → calls_of p (length p.bodies + more) n f arguments after ≡ calls_of p (length p.bodies) n f arguments after
    by_body None is = cut_off p h n (length p.bodies + more) f is arguments after ∙ sym (cut_off p h n (length p.bodies) f is arguments after)
    by_body (Some b) is =
        let low = h.low f b is in
        ap (λ (g : Called). g arguments after) (deep_enough p h n (length p.bodies + more) (length p.bodies) f b is (omega (arith, low)) low)
