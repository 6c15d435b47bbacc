-- The program of the worked rows can be selected.
use Rattle.std.proofs.Common.{◌≡◌, ℕ, zero, suc, ◌^◌, ◌<◌, ◌≤◌, ◌==◌, ◌&&◌, Bool, true, false, nat_lt, List, [], ◌∷◌, length, refl, arith}
use Rattle.std.specs.List.{AllByRecursion}
use Rattle.std.proofs.lemmas.Bool.Decides.{nat_tests}
use Rattle.std.proofs.lemmas.List.Elements.{All-from_recursion}
use Rattle.mid_code.specs.declared.code.MidFn.{MidFn}
use Rattle.mid_code.specs.declared.instr.Mid.{Mid}
use Rattle.mid_code.specs.Form.{EndsElsewhere, FitsProgram, IsMidCode, IsMidFn, NamesOwn, labels_named, one_more, times, values_read, values_written}
use Rattle.mid_code.specs.Machine.{fn_of}
use Rattle.select_emitter.specs.Code.{CanBeSelected, IsSmall}
use Rattle.select_emitter.specs.Rows.{callee, main, program}

-- ---- names, by a test of lists

both : (x y : Bool) → (x && y) ≡ true → (x ≡ true) × (y ≡ true)
both true true e = (refl, refl)
both true false e = absurd (let z : ⊥ = cc in z)
both false y e = absurd (let z : ⊥ = cc in z)

abbrev all_below : ℕ → List ℕ → Bool
all_below n [] = true
all_below n (v ∷ vs) = nat_lt v n && all_below n vs

below : (n : ℕ) (vs : List ℕ) → all_below n vs ≡ true → AllByRecursion (λ v. v < n) vs
below n [] e = tt
below n (v ∷ vs) e = let h = both (nat_lt v n) (all_below n vs) e in (let l = h.0 in grind (arith, nat_tests), below n vs h.1)

abbrev all_there : List Mid → List ℕ → Bool
all_there code [] = true
all_there code (l ∷ ls) = nat_lt 0 (times l code) && all_there code ls

there : (code : List Mid) (ls : List ℕ) → all_there code ls ≡ true → AllByRecursion (λ l. 1 ≤ times l code) ls
there code [] e = tt
there code (l ∷ ls) e = let h = both (nat_lt 0 (times l code)) (all_there code ls) e in (positive (times l code) h.0, there code ls h.1)
  where
    positive : (n : ℕ) → nat_lt 0 n ≡ true → 1 ≤ n
    positive zero e = absurd (let z : ⊥ = cc in z)
    positive (suc n) e = omega arith

abbrev names_test : MidFn → Mid → Bool
names_test fn i = all_below fn.values (values_written i) && (all_below fn.values (values_read i) && all_there fn.code (labels_named i))

abbrev all_named : MidFn → List Mid → Bool
all_named fn [] = true
all_named fn (i ∷ is) = names_test fn i && all_named fn is

named : (fn : MidFn) (is : List Mid) → all_named fn is ≡ true → AllByRecursion (NamesOwn fn) is
named fn [] e = tt
named fn (i ∷ is) e =
    let h = both (names_test fn i) (all_named fn is) e in
    let w = both (all_below fn.values (values_written i)) (all_below fn.values (values_read i) && all_there fn.code (labels_named i)) h.0 in
    let r = both (all_below fn.values (values_read i)) (all_there fn.code (labels_named i)) w.1 in
    (record { written = All-from_recursion (λ v. v < fn.values) (values_written i) (below fn.values (values_written i) w.0); read = All-from_recursion (λ v. v < fn.values) (values_read i) (below fn.values (values_read i) r.0); labels = All-from_recursion (λ l. 1 ≤ times l fn.code) (labels_named i) (there fn.code (labels_named i) r.1) }, named fn is h.1)

few : (b : Bool) → one_more b 0 ≤ 1
few true = omega arith
few false = omega arith

main_form : IsMidFn main
main_form = record { names = All-from_recursion (NamesOwn main) main.code (named main main.code refl); params = All-from_recursion (λ v. v < 3) [] tt; once = λ l. few (7 == l) }

callee_form : IsMidFn callee
callee_form = record { names = All-from_recursion (NamesOwn callee) callee.code (named callee callee.code refl); params = All-from_recursion (λ v. v < 2) (0 ∷ 1 ∷ []) (below 2 (0 ∷ 1 ∷ []) refl); once = λ l. omega arith }

-- ---- what is called, and what is given

abbrev gives : ℕ → ℕ
gives zero = 0
gives (suc zero) = 1
gives (suc (suc f)) = 0

few_given : (f : ℕ) → gives f ≤ 2
few_given zero = omega arith
few_given (suc zero) = omega arith
few_given (suc (suc f)) = omega arith

fits : (f : ℕ) → AllByRecursion (FitsProgram program gives f) (fn_of program f).code
fits zero =
    (tt, (tt, (tt, (tt, (tt, (tt, (tt, (tt, (tt, (tt, (tt, (tt, (tt, (tt, (tt, (tt, (tt, (tt, (tt, (tt, (tt, (tt, ((omega arith, refl, refl), ((refl, refl), ((omega arith, refl, refl), (tt, (refl, tt)))))))))))))))))))))))))))
fits (suc zero) = (refl, tt)
fits (suc (suc f)) = tt

form : IsMidCode program
form = record {
  fns = All-from_recursion IsMidFn program.fns (main_form, (callee_form, tt));
  gives = gives;
  at_most_two = few_given;
  fits = λ f. All-from_recursion (FitsProgram program gives f) (fn_of program f).code (fits f);
  ends = All-from_recursion (λ (fn : MidFn). EndsElsewhere fn.code) program.fns (refl, (refl, tt));
  room = All-from_recursion (λ (fn : MidFn). length fn.code < 2 ^ 32) program.fns (omega arith, (omega arith, tt));
}

pub can_be_selected : CanBeSelected program
can_be_selected = record { form = form; small = All-from_recursion IsSmall program.fns (omega arith, (omega arith, tt)); places = omega arith }
