-- A function with the rules of form is middle code.
use Rattle.std.proofs.Common.{◌≡◌, ℕ, zero, suc, ◌/◌, ◌%◌, ◌^◌, ◌<◌, ◌≤◌, ◌⊎◌, inl, inr, Bool, true, false, ◌&&◌, ◌==◌, nat_lt, List, [], ◌∷◌, length, Option, Some, None, All, refl, sym, ap, ◌∙◌, subst, arith}
use Rattle.std.specs.List.{list_all}
use Rattle.std.proofs.lemmas.List.Elements.{All-cons, All-nil}
use Rattle.std.proofs.lemmas.Bool.{eqb-true, ltb-true}
use Rattle.nm_base.specs.declared.int_type.IntType.{IntType}
use Rattle.mid_code.specs.declared.help.HelpOp.{HelpOp}
use Rattle.mid_code.specs.declared.instr.Mid.{Mid}
use Rattle.mid_code.specs.declared.instr.Mid.TheVariants as mid
use Rattle.mid_code.specs.declared.code.MidFn.{MidFn}
use Rattle.mid_code.specs.Help.{first_check, operation_at, places, type_at}
use Rattle.mid_code.specs.Machine.{fn_of, is_label}
use Rattle.mid_code.specs.Form.{AreBelow, EndsElsewhere, FitsProgram, IsMidFn, KindFits, NamesOwn, OperationFits, labels_named, one_more, passed_to, times, values_read, values_written}
use Rattle.lowered_rows.specs.Form.{FormIsDecided, alone, are_below, ends_elsewhere, names_own, operation_fits, stands_alone, stands_once}

and_left : (a b : Bool) → (a && b) ≡ true → a ≡ true
and_left true b h = refl
and_left false b h = absurd (cc)

and_right : (a b : Bool) → (a && b) ≡ true → b ≡ true
and_right true b h = h
and_right false b h = absurd (cc)

all_from : {X : Type 0} (test : X → Bool) (P : X → Type 0) → ((x : X) → test x ≡ true → P x) → (xs : List X) → list_all test xs ≡ true → All P xs
all_from test P each [] h = All-nil P
all_from test P each (x ∷ xs) h =
    All-cons P x xs (each x (and_left (test x) (list_all test xs) h)) (all_from test P each xs (and_right (test x) (list_all test xs) h))

below : (n v : ℕ) → nat_lt v n ≡ true → v < n
below n v h = ltb-true v n h

are : (n : ℕ) (vs : List ℕ) → are_below n vs ≡ true → AreBelow n vs
are n vs h = all_from (λ v. nat_lt v n) (λ v. v < n) (below n) vs h

own : (fn : MidFn) (i : Mid) → names_own fn i ≡ true → NamesOwn fn i
own fn i h =
    let rest : (are_below fn.values (values_read i) && list_all (λ l. nat_lt 0 (times l fn.code)) (labels_named i)) ≡ true = and_right (are_below fn.values (values_written i)) _ h in
    record {
      written = are fn.values (values_written i) (and_left (are_below fn.values (values_written i)) _ h);
      read = are fn.values (values_read i) (and_left (are_below fn.values (values_read i)) _ rest);
      labels = all_from (λ l. nat_lt 0 (times l fn.code)) (λ l. 1 ≤ times l fn.code) (λ l e. below (times l fn.code) 0 e) (labels_named i) (and_right (are_below fn.values (values_read i)) _ rest);
    }

-- a label stands nowhere in a part, or once in the whole
module _ (code : List Mid) (l : ℕ) where
  of_one : (i : Mid) → stands_once code i ≡ true → (is_label i l ≡ false) ⊎ (times l code ≡ 1)
  of_one (mid.Label k) h = by_test (k == l) refl
    where
      by_test : (t : Bool) → (k == l) ≡ t → (is_label (mid.Label k) l ≡ false) ⊎ (times l code ≡ 1)
      by_test true e = inr (subst (λ x. times x code ≡ 1) (eqb-true k l e) (eqb-true (times k code) 1 h))
      by_test false e = inl e
  of_one i h = inl refl

  of_part : (part : List Mid) → list_all (stands_once code) part ≡ true → (times l part ≡ 0) ⊎ (times l code ≡ 1)
  of_part [] h = inl refl
  of_part (i ∷ is) h = joined (of_one i (and_left (stands_once code i) (list_all (stands_once code) is) h)) (of_part is (and_right (stands_once code i) (list_all (stands_once code) is) h))
    where
      joined : (is_label i l ≡ false) ⊎ (times l code ≡ 1) → (times l is ≡ 0) ⊎ (times l code ≡ 1) → (times l (i ∷ is) ≡ 0) ⊎ (times l code ≡ 1)
      joined (inr e) rest = inr e
      joined (inl e) (inr f) = inr f
      joined (inl e) (inl f) = inl (ap (λ b. one_more b (times l is)) e ∙ f)

  once : list_all (stands_once code) code ≡ true → times l code ≤ 1
  once h = by_part (of_part code h)
    where
      by_part : (times l code ≡ 0) ⊎ (times l code ≡ 1) → times l code ≤ 1
      by_part (inl e) = omega (arith, e)
      by_part (inr e) = omega (arith, e)

gives_none : ℕ → ℕ
gives_none f = 0

operation : (t : Option IntType) (o : Option HelpOp) (ins outs : ℕ) → operation_fits t o ins outs ≡ true → OperationFits t o ins outs
operation None o ins outs h = absurd (cc)
operation (Some t) None ins outs h = absurd (cc)
operation (Some t) (Some o) ins outs h =
    let a : (ins == passed_to o t) ≡ true = and_left (ins == passed_to o t) _ h in
    let b : (outs == places t) ≡ true = and_right (ins == passed_to o t) _ h in
    (eqb-true ins (passed_to o t) a, eqb-true outs (places t) b)

module _ (fn : MidFn) where
  fits : (f : ℕ) (i : Mid) → stands_alone i ≡ true → FitsProgram (alone fn) gives_none f i
  unfolding gives_none
  fits f (mid.Call g ins outs) h = absurd (cc)
  fits f (mid.Help k ins outs) h =
      let kind : nat_lt k first_check ≡ true = and_left (nat_lt k first_check) _ h in
      subst (λ b. KindFits b 0 k (length ins) (length outs)) (sym kind) (operation (type_at (k / 8)) (operation_at (k % 8)) (length ins) (length outs) (and_right (nat_lt k first_check) _ h))
  fits f (mid.Ret vs) h = eqb-true (length vs) 0 h
  fits f (mid.Set v n) h = tt
  fits f (mid.Move v x) h = tt
  fits f (mid.Bin op v x y) h = tt
  fits f (mid.Carry op v x y) h = tt
  fits f (mid.Load w v x) h = tt
  fits f (mid.Store w v x) h = tt
  fits f (mid.Peek w v x) h = tt
  fits f (mid.Poke w v x) h = tt
  fits f (mid.In v port) h = tt
  fits f (mid.Out port v) h = tt
  fits f (mid.Label l) h = tt
  fits f (mid.Jump l) h = tt
  fits f (mid.Branch test x y l) h = tt
  fits f (mid.Begin o) h = tt
  fits f (mid.End o) h = tt
  fits f (mid.Post k v) h = tt
  fits f mid.Tick h = tt
  fits f (mid.Fault code) h = tt

ends : (code : List Mid) → ends_elsewhere code ≡ true → EndsElsewhere code
ends [] h = absurd (cc)
ends (i ∷ []) h = h
ends (i ∷ j ∷ is) h = ends (j ∷ is) h

only : {X : Type 0} (P : X → Type 0) (x : X) → P x → All P (x ∷ [])
only P x h = All-cons P x [] h (All-nil P)

pub formed : FormIsDecided
unfolding gives_none
formed fn none h = record {
  fns = only IsMidFn fn is_fn;
  gives = gives_none;
  at_most_two = few;
  fits = all_fit;
  ends = only (λ (f : MidFn). EndsElsewhere f.code) fn (ends fn.code (and_left (ends_elsewhere fn.code) _ third));
  room = only (λ (f : MidFn). length f.code < 2 ^ 32) fn (below (2 ^ 32) (length fn.code) (and_right (ends_elsewhere fn.code) _ third));
}
  where
    first : (list_all (stands_once fn.code) fn.code && (list_all stands_alone fn.code && (ends_elsewhere fn.code && nat_lt (length fn.code) (2 ^ 32)))) ≡ true
    first = and_right (list_all (names_own fn) fn.code) _ h

    second : (list_all stands_alone fn.code && (ends_elsewhere fn.code && nat_lt (length fn.code) (2 ^ 32))) ≡ true
    second = and_right (list_all (stands_once fn.code) fn.code) _ first

    third : (ends_elsewhere fn.code && nat_lt (length fn.code) (2 ^ 32)) ≡ true
    third = and_right (list_all stands_alone fn.code) _ second

    is_fn : IsMidFn fn
    is_fn = record {
      names = all_from (names_own fn) (NamesOwn fn) (own fn) fn.code (and_left (list_all (names_own fn) fn.code) _ h);
      params = subst (λ vs. AreBelow fn.values vs) (sym none) (All-nil (λ v. v < fn.values));
      once = λ l. once fn.code l (and_left (list_all (stands_once fn.code) fn.code) _ first);
    }

    few : (f : ℕ) → gives_none f ≤ 2
    few f = omega arith

    all_fit : (f : ℕ) → All (FitsProgram (alone fn) gives_none f) (fn_of (alone fn) f).code
    all_fit zero = all_from stands_alone (FitsProgram (alone fn) gives_none 0) (fits fn 0) fn.code (and_left (list_all stands_alone fn.code) _ second)
    all_fit (suc f) = All-nil _
