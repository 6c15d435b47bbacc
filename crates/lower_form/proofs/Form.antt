-- The middle code of a short well-formed program keeps the rules of form.
use Rattle.std.proofs.Common.{◌≡◌, ℕ, zero, suc, ◌+◌, ◌^◌, ◌<◌, ◌≤◌, Bool, true, false, List, [], ◌∷◌, ◌++◌, length, map, Option, Some, None, All, refl, sym, ap, ◌∙◌, subst, arith}
use Rattle.std.specs.Prelude.{slice_get, slice_index_or, if◌then◌else◌}
use Rattle.std.proofs.lemmas.List.{length-map}
use Rattle.std.proofs.lemmas.List.Elements.{All-cons, All-head, All-nil, All-tail}
use Rattle.nesc_core.specs.Plain.{Ty, Body, Program}
use Rattle.nesc_core.specs.Derefs.{stmt_derefs}
use Rattle.nesc_core.specs.WellFormed.{IsBody, IsWellFormed, by_return}
use Rattle.core_meaning.specs.Work.{number_of}
use Rattle.mid_code.specs.declared.instr.Mid.{Mid}
use Rattle.mid_code.specs.declared.instr.Mid.TheVariants.{Ret}
use Rattle.mid_code.specs.declared.code.MidFn.{MidFn}
use Rattle.mid_code.specs.Form.{EndsElsewhere, FitsProgram, IsMidCode, IsMidFn}
use Rattle.mid_code.specs.Help.{is_wide}
use Rattle.mid_code.specs.Machine.{fn_of, no_fn}
use Rattle.lower_expr.specs.Held.{result_of}
use Rattle.lower_expr.specs.Code.{check_for, check_of, is_void, taken_at}
use Rattle.lower_expr.specs.Pieces.{values_at}
use Rattle.lower_expr.proofs.Called.{body_formed}
use Rattle.lower_stmt.specs.Code.{nothing_code, stmt_code}
use Rattle.lower_stmt.specs.Bodies.{base_of, body_code, checks_of, lowered, mid_fn_of, spots_of, ways_of}
use Rattle.lower_stmt.proofs.Dereferenced.{checks_there}
use Rattle.lower_stmt.proofs.Formed.{is_mid_fn}
use Rattle.lower_form.specs.declared.short.TheConstants.{MOST_EXTRAS, MOST_NODES}
use Rattle.lower_form.specs.Short.{IsShort}
use Rattle.lower_form.proofs.Counted.{of_bodies}
use Rattle.lower_form.proofs.Fits.{CallsFit, Fits, fits_all, fits_both, fits_quiet, stmt_fits, taken_length}
use Rattle.lower_form.proofs.Lengths.{body_long}
use Rattle.lower_form.proofs.Quiet.{nothing_quiet}

-- ---- functions

fn_is : (p : Program) (checks : List Ty) (bodies : List Body) (g : ℕ) (b : Body) → slice_get bodies g ≡ Some b → slice_index_or (map (mid_fn_of p checks) bodies) g no_fn ≡ mid_fn_of p checks b
fn_is p checks [] g b is = absurd (cc)
fn_is p checks (x ∷ bodies) zero b is = let e : x ≡ b = cc in ap (mid_fn_of p checks) e
fn_is p checks (x ∷ bodies) (suc g) b is = fn_is p checks bodies g b is

fn_is_none : (p : Program) (checks : List Ty) (bodies : List Body) (g : ℕ) → slice_get bodies g ≡ None → slice_index_or (map (mid_fn_of p checks) bodies) g no_fn ≡ no_fn
fn_is_none p checks [] g is = refl
fn_is_none p checks (x ∷ bodies) zero is = absurd (cc)
fn_is_none p checks (x ∷ bodies) (suc g) is = fn_is_none p checks bodies g is

body_there : (p : Program) (checks : List Ty) (bodies : List Body) (g : ℕ) (b : Body) → slice_get bodies g ≡ Some b → g < length (map (mid_fn_of p checks) bodies)
body_there p checks [] g b is = absurd (cc)
body_there p checks (x ∷ bodies) zero b is = omega arith
body_there p checks (x ∷ bodies) (suc g) b is = let h = body_there p checks bodies g b is in omega (arith, h)

-- how many values a function gives back
abbrev gives : Program → ℕ → ℕ
gives p g = length (taken_at (result_of (slice_get p.bodies g)) 0)

gives_few : (p : Program) (g : ℕ) → gives p g ≤ 2
gives_few p g = by (is_void (result_of (slice_get p.bodies g))) (is_wide (number_of (result_of (slice_get p.bodies g))))
  where
    by : (b wide : Bool) → length (if b then [] else values_at wide 0) ≤ 2
    by true wide = omega arith
    by false true = omega arith
    by false false = omega arith

given_of : (p : Program) (g r : ℕ) (b : Body) → slice_get p.bodies g ≡ Some b → length (taken_at b.result r) ≡ gives p g
given_of p g r b is = taken_length b.result r 0 ∙ ap (λ o. length (taken_at (result_of o) 0)) (sym is)

calls_fit : (p : Program) → CallsFit (lowered p) (gives p) p
calls_fit p = record {
  there = λ g b is. body_there p (checks_of p) p.bodies g b is;
  params = λ g b is. ap (λ (fn : MidFn). fn.params) (fn_is p (checks_of p) p.bodies g b is);
  given = λ g r b is. given_of p g r b is;
}

-- ---- instructions

module _ (p : Program) (formed : IsWellFormed p) where
  abbrev FitsAt : ℕ → List Mid → Type 0
  FitsAt f code = Fits (lowered p) (gives p) f code

  -- the check of each type that the body dereferences is there
  derefs_there : (f : ℕ) (b : Body) → slice_get p.bodies f ≡ Some b → All (λ t. check_of (checks_of p) t < length (lowered p).checks) (stmt_derefs b.code)
  derefs_there f b is = subst (λ n. All (λ t. check_of (checks_of p) t < n) (stmt_derefs b.code)) (sym (length-map (checks_of p) (check_for p))) (checks_there p f b is)

  body_fits : (f : ℕ) (b : Body) → slice_get p.bodies f ≡ Some b → FitsAt f (body_code p (checks_of p) b)
  body_fits f b is =
      let own : IsBody p b = body_formed p f b formed is in
      let base : ℕ = base_of b in
      let c : List Mid = stmt_code p b.locals (checks_of p) (spots_of p b) base b.code (ways_of p b) 0 in
      let n : List Mid = nothing_code b.result (base + 2) in
      fits_both (lowered p) (gives p) f c (n ++ Ret (taken_at b.result (base + 2)) ∷ [])
      (stmt_fits (lowered p) (gives p) f p b.locals (checks_of p) (spots_of p b) base (calls_fit p) b.code (by_return b.result) (ways_of p b) 0 own.code (derefs_there f b is) (record { told = λ e r. given_of p f r b is }))
      (fits_both (lowered p) (gives p) f n (Ret (taken_at b.result (base + 2)) ∷ []) (fits_quiet (lowered p) (gives p) f n (nothing_quiet b.result (base + 2)))
      (record { each = (given_of p f (base + 2) b is, tt) }))

  fn_fits : (f : ℕ) → All (FitsProgram (lowered p) (gives p) f) (fn_of (lowered p) f).code
  fn_fits f = by (slice_get p.bodies f) refl
    where
      by : (o : Option Body) → slice_get p.bodies f ≡ o → All (FitsProgram (lowered p) (gives p) f) (fn_of (lowered p) f).code
      by None is = subst (λ (fn : MidFn). All (FitsProgram (lowered p) (gives p) f) fn.code) (sym (fn_is_none p (checks_of p) p.bodies f is)) (All-nil (FitsProgram (lowered p) (gives p) f))
      by (Some b) is =
          subst (λ (fn : MidFn). All (FitsProgram (lowered p) (gives p) f) fn.code) (sym (fn_is p (checks_of p) p.bodies f b is))
          (fits_all (lowered p) (gives p) f (body_code p (checks_of p) b) (body_fits f b is).each)

-- ---- ends

behind_too : (a b : List Mid) → EndsElsewhere b → EndsElsewhere (a ++ b)
behind_too [] b h = h
behind_too (i ∷ []) [] h = absurd h
behind_too (i ∷ []) (j ∷ b) h = h
behind_too (i ∷ j ∷ a) b h = behind_too (j ∷ a) b h

body_ends : (p : Program) (checks : List Ty) (b : Body) → EndsElsewhere (body_code p checks b)
body_ends p checks b =
    behind_too (stmt_code p b.locals checks (spots_of p b) (base_of b) b.code (ways_of p b) 0) (nothing_code b.result (base_of b + 2) ++ Ret (taken_at b.result (base_of b + 2)) ∷ [])
    (behind_too (nothing_code b.result (base_of b + 2)) (Ret (taken_at b.result (base_of b + 2)) ∷ []) refl)

-- ---- programs

each_fn : (P : MidFn → Type 0) (Q : Body → Type 0) (p : Program) (checks : List Ty) → ((b : Body) → Q b → P (mid_fn_of p checks b)) → (bs : List Body) → All Q bs → All P (map (mid_fn_of p checks) bs)
each_fn P Q p checks go [] h = All-nil P
each_fn P Q p checks go (b ∷ bs) h = All-cons P (mid_fn_of p checks b) (map (mid_fn_of p checks) bs) (go b (All-head Q b bs h)) (each_fn P Q p checks go bs (All-tail Q b bs h))

each_body : (Q : Body → Type 0) → ((b : Body) → Q b) → (bs : List Body) → All Q bs
each_body Q go [] = All-nil Q
each_body Q go (b ∷ bs) = All-cons Q b bs (go b) (each_body Q go bs)

pub keeps_form : (p : Program) → IsWellFormed p → IsShort p → IsMidCode (lowered p)
keeps_form p formed short = record {
  fns = each_fn IsMidFn (IsBody p) p (checks_of p) (λ b own. is_mid_fn p (checks_of p) b own) p.bodies formed.bodies;
  gives = gives p;
  at_most_two = gives_few p;
  fits = fn_fits p formed;
  ends = each_fn (λ fn. EndsElsewhere fn.code) (λ b. EndsElsewhere (body_code p (checks_of p) b)) p (checks_of p) (λ b h. h) p.bodies
      (each_body (λ b. EndsElsewhere (body_code p (checks_of p) b)) (λ b. body_ends p (checks_of p) b) p.bodies);
  room = each_fn (λ fn. length fn.code < 2 ^ 32) (λ b. length (body_code p (checks_of p) b) < 2 ^ 32) p (checks_of p) (λ b h. h) p.bodies
      (of_bodies (λ b. length (body_code p (checks_of p) b) < 2 ^ 32) MOST_NODES MOST_EXTRAS (λ b h g. let long = body_long p (checks_of p) b in omega (arith, long, h, g)) p.bodies short.nodes short.extras);
}
