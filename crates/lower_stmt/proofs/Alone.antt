-- Where an inlined call alone names its locals, its arguments do not.
use Rattle.std.proofs.Common.{◌≡◌, ◌⊎◌, inl, inr, ⊎_elim, ℕ, ◌+◌, ◌<◌, ◌≤◌, cond, List, [], ◌∷◌, ◌++◌, All, refl, ap, arith}
use Rattle.std.specs.Prelude.{◌==◌}
use Rattle.std.proofs.lemmas.Bool.{cases_lt}
use Rattle.std.proofs.lemmas.Bool.Decides.{Decides-eqb}
use Rattle.std.proofs.lemmas.List.Elements.{All-cons, All-head, All-nil, All-tail}
use Rattle.std.proofs.lemmas.List.Sums.{sum_by-append, sum_by-cons}
use Rattle.nesc_core.specs.Plain.{Expr, Exprs, Stmt, Stmts, no_stmts, more_stmts}
use Rattle.nesc_core.specs.Plain as plain
use Rattle.nesc_core.specs.Heres.{IsAlone, all_heres, expr_locals, exprs_locals, first_locals, heres, maybe_locals, stmt_locals, stmts_locals, times}
use Rattle.lower_stmt.specs.Runs.{AllHeresApart, HeresApart}
use Rattle.lower_stmt.proofs.Common.{both_of}

times_both : (x : ℕ) (xs ys : List ℕ) → times x (xs ++ ys) ≡ times x xs + times x ys
times_both x xs ys = sum_by-append (λ y. cond (y == x) 1 0) xs ys

-- what is named is named once at least
times_self : (x : ℕ) (xs : List ℕ) → 1 ≤ times x (x ∷ xs)
times_self x xs =
    let e : times x (x ∷ xs) ≡ cond (x == x) 1 0 + times x xs = sum_by-cons (λ y. cond (y == x) 1 0) x xs in
    let one : ◌≡◌ {A = ℕ} (cond (x == x) 1 0) 1 = ap (λ b. cond b 1 0) ((Decides-eqb x x).1 refl) in
    omega (arith, e, one)

times_more : (x y : ℕ) (xs : List ℕ) → times x xs ≤ times x (y ∷ xs)
times_more x y xs = let e : times x (y ∷ xs) ≡ cond (y == x) 1 0 + times x xs = sum_by-cons (λ z. cond (z == x) 1 0) y xs in omega (arith, e)

-- of locals that none of these is named, each is another
outside : (first count : ℕ) (xs : List ℕ) → ((x : ℕ) → first ≤ x → x < first + count → times x xs ≡ 0) → All (λ x. (x < first) ⊎ (first + count ≤ x)) xs
outside first count [] h = All-nil (λ x. (x < first) ⊎ (first + count ≤ x))
outside first count (x ∷ xs) h =
    All-cons (λ x. (x < first) ⊎ (first + count ≤ x)) x xs
    (⊎_elim (λ (lt : x < first). inl lt)
    (λ (ge : first ≤ x). ⊎_elim (λ (lt : x < first + count). absurd (let none = h x ge lt in let one = times_self x xs in omega (arith, none, one))) (λ (le : first + count ≤ x). inr le) (cases_lt x (first + count)))
    (cases_lt x first))
    (outside first count xs (λ y from below. let none = h y from below in let more = times_more y x xs in omega (arith, none, more)))

module _ (whole : Stmt) where
  -- the statement names locals no more often than the whole
  abbrev Within : List ℕ → Type 0
  Within xs = (x : ℕ) → times x xs ≤ times x (stmt_locals whole)

  within_both : (xs ys : List ℕ) → Within (xs ++ ys) → Within xs × Within ys
  within_both xs ys h =
      ((λ x. let e = times_both x xs ys in let le = h x in omega (arith, e, le)), (λ x. let e = times_both x xs ys in let le = h x in omega (arith, e, le)))

  mutual
    pub alone : (s : Stmt) (behind : List ℕ) → All (IsAlone whole) (heres s behind) → Within (stmt_locals s) → HeresApart s
    alone (plain.eval e) behind h w = tt
    alone (plain.block list) behind h w = all_alone list h w
    alone (plain.branch e a b) behind h w =
        let both = both_of (IsAlone whole) (heres a []) (heres b []) h in
        let two = within_both (expr_locals e ++ stmt_locals a) (stmt_locals b) w in
        let one = within_both (expr_locals e) (stmt_locals a) two.0 in
        (alone a [] both.0 one.1, alone b [] both.1 two.1)
    alone (plain.loop first test step body) behind h w = alone body [] h (within_both (expr_locals test ++ maybe_locals step) (stmt_locals body) w).1
    alone (plain.switch e cases list) behind h w = all_alone list h (within_both (expr_locals e) (stmts_locals list) w).1
    alone plain.break behind h w = tt
    alone plain.continue behind h w = tt
    alone (plain.return e) behind h w = tt
    alone (plain.atomic s) behind h w = alone s [] h w
    alone (plain.clear x) behind h w = tt
    alone (plain.here arguments first count body) behind h w =
        let own = All-head (IsAlone whole) (record { first = first; count = count; code = body; behind = behind }) (heres body []) h in
        let both = within_both (exprs_locals arguments) (stmt_locals body) w in (
          outside first count (exprs_locals arguments)
              (λ x from below.
              let all = own.locals x from below in
              let e = times_both x (exprs_locals arguments) (stmt_locals body) in
              let le = w x in
              omega (arith, all, e, le)),
          alone body [] (All-tail (IsAlone whole) (record { first = first; count = count; code = body; behind = behind }) (heres body []) h) both.1,
        )

    all_alone : (list : Stmts) → All (IsAlone whole) (all_heres list) → Within (stmts_locals list) → AllHeresApart list
    all_alone no_stmts h w = tt
    all_alone (more_stmts s rest) h w =
        let both = both_of (IsAlone whole) (heres s (first_locals rest)) (all_heres rest) h in
        let two = within_both (stmt_locals s) (stmts_locals rest) w in
        (alone s (first_locals rest) both.0 two.0, all_alone rest both.1 two.1)

pub heres_apart : (s : Stmt) → All (IsAlone s) (heres s []) → HeresApart s
heres_apart s h = alone s s [] h (λ x. omega arith)
