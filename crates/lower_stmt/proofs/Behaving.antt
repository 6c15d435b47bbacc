-- Bodies without parameters, from the start of their functions: in both directions, and one translation behind another.
use Rattle.std.proofs.Common.{◌≡◌, inl, inr, ⊎_elim, ℕ, zero, suc, ◌+◌, ◌*◌, ◌≤◌, true, List, [], ◌∷◌, ◌++◌, length, take, Some, refl, sym, ap, ◌∙◌, subst, arith, append_assoc}
use Rattle.std.specs.Prelude.{ℤ, pos, slice_get}
use Rattle.nm_base.specs.declared.action.Action.{Action}
use Rattle.nm_base.specs.declared.int_type.IntType.{IntType}
use Rattle.nm_base.specs.declared.int_type.IntType.TheVariants.{I8, U8, I16, U16, I32, U32}
use Rattle.nm_base.specs.Behaviour.{Behaviour, Returns, Trace, also, play}
use Rattle.nesc_core.specs.Plain.{Ty, void, int, pointer, array, struct, Body, Program}
use Rattle.nesc_core.specs.Typing.{IsOf}
use Rattle.nesc_core.specs.Calls.{HasNoCycle}
use Rattle.nesc_core.specs.WellFormed.{IsWellFormed}
use Rattle.core_meaning.specs.Numbers.{residue}
use Rattle.core_meaning.specs.Work.{number_of}
use Rattle.core_meaning.specs.Act.{root}
use Rattle.mid_code.specs.declared.code.MidCode.{MidCode}
use Rattle.mid_code.specs.Words.{joined}
use Rattle.mid_code.specs.Machine.{Activation, Next, Goes, Acts, Wants, Ends, Stops, entry, follow, started, step, steps}
use Rattle.mid_code.specs.Runs.{Runs}
use Rattle.mid_code.proofs.Runs.{ends_with}
use Rattle.lower_expr.specs.Held.{high, low}
use Rattle.lower_expr.specs.Code.{is_void}
use Rattle.lower_expr.specs.Runs.{AreOf, given, passed}
use Rattle.lower_expr.proofs.Numbers.{IsShortUnsigned, low_of_rest, no_high_of}
use Rattle.lower_stmt.specs.Bodies.{lowered}
use Rattle.lower_stmt.specs.Correct.{AreLabelled, Behaves, Doing, GoesOn, IsTold, source, target}
use Rattle.lower_stmt.proofs.Program.{call_runs}

-- ---- what is given back

short_told : (t : IntType) → IsShortUnsigned t → (v : ℤ) → IsOf t v → low v ≡ residue 32 v
short_told t ok v of =
    let none : high v ≡ 0 = no_high_of t ok v of in
    let e = low_of_rest v in
    omega (arith, none, e)

long_told : (v : ℤ) → low v + 65536 * high v ≡ residue 32 v
long_told v = let e = low_of_rest v in omega (arith, e)

told : (ty : Ty) (v : ℤ) → IsTold ty → IsOf (number_of ty) v → (is_void ty ≡ true → v ≡ pos 0) → joined (given ty v) ≡ residue 32 v
told void v ok of nothing = ap (residue 32) (sym (nothing refl))
told (int I8) v ok of nothing = absurd ok
told (int U8) v ok of nothing = short_told U8 tt v of
told (int I16) v ok of nothing = absurd ok
told (int U16) v ok of nothing = short_told U16 tt v of
told (int I32) v ok of nothing = long_told v
told (int U32) v ok of nothing = long_told v
told (pointer t) v ok of nothing = short_told U16 tt v of
told (array t n) v ok of nothing = absurd ok
told (struct k) v ok of nothing = absurd ok

pub root_runs : (p : Program) → IsWellFormed p → HasNoCycle p → AreLabelled (lowered p) → (f : ℕ) (b : Body) → slice_get p.bodies f ≡ Some b → b.params ≡ 0 → IsTold b.result → (n : ℕ) →
    Runs (lowered p) n (root p f n) (started (lowered p) f)
root_runs p formed ranked labelled f b is none ok n =
    subst (λ xs. Runs (lowered p) n (root p f n) (entry (lowered p) f xs ∷ [])) (ap (λ k. passed (take k b.locals) []) none)
    (call_runs p formed ranked labelled n (length p.bodies) n (omega arith) f b [] (λ v. Returns (residue 32 v)) [] is (ranked.low f b is) (subst (λ k. AreOf (take k b.locals) []) (sym none) tt)
    (λ v s number nothing e. subst (λ m. Runs (lowered p) n (Returns m) s) (told b.result v ok number nothing) (ends_with (lowered p) n (given b.result v) s e)))

-- ---- more steps

also_goes_on : (a : Action) (t u : Trace) → GoesOn t u → GoesOn (also a t) (also a u)
also_goes_on a t u h = ⊎_elim (λ e. inl (ap (also a) e)) (λ r. inr (r.0, (r.1.0, ap (λ l. a ∷ l) r.1.1))) h

follow_goes_on : (next : Next) (f g : List Activation → Behaviour) → ((s : List Activation) (answers : List ℕ) → GoesOn (play (f s) answers) (play (g s) answers)) →
    (answers : List ℕ) → GoesOn (play (follow next f) answers) (play (follow next g) answers)
follow_goes_on (Goes s) f g h answers = h s answers
follow_goes_on (Acts a s) f g h answers = also_goes_on a _ _ (h s answers)
follow_goes_on (Wants a s) f g h [] = inl refl
follow_goes_on (Wants a s) f g h (x ∷ answers) = also_goes_on a _ _ (h (s x) answers)
follow_goes_on (Ends xs) f g h answers = inl refl
follow_goes_on (Stops code) f g h answers = inl refl

steps_go_on : (codes : MidCode) (m k : ℕ) → m ≤ k → (s : List Activation) (answers : List ℕ) → GoesOn (play (steps codes m s) answers) (play (steps codes k s) answers)
steps_go_on codes zero k le s answers = inr (refl, (_, refl))
steps_go_on codes (suc m) zero le s answers = absurd (omega (arith, le))
steps_go_on codes (suc m) (suc k) le s answers = follow_goes_on (step codes s) (steps codes m) (steps codes k) (steps_go_on codes m k (omega (arith, le))) answers

pub roots_behave : (p : Program) → HasNoCycle p → IsWellFormed p → AreLabelled (lowered p) → (f : ℕ) (b : Body) → slice_get p.bodies f ≡ Some b → b.params ≡ 0 → IsTold b.result →
    Behaves (source p f) (target (lowered p) f)
roots_behave p ranked formed labelled f b is none ok = record {
  covers = λ answers words n. let r = (root_runs p formed ranked labelled f b is none ok n).by answers words in (r.0, r.2);
  only = λ answers words m.
      let r = (root_runs p formed ranked labelled f b is none ok m).by answers words in
      (m, subst (GoesOn (target (lowered p) f answers m)) r.2 (steps_go_on (lowered p) m r.0 r.1 (started (lowered p) f) answers));
}

-- ---- one translation behind another

goes_on_still : (t u v : Trace) → GoesOn t u → GoesOn u v → GoesOn t v
goes_on_still t u v h k =
    ⊎_elim (λ e. subst (λ w. GoesOn w v) (sym e) k)
    (λ r. ⊎_elim (λ e. inr (r.0, (r.1.0, ap (λ w. w.actions) (sym e) ∙ r.1.1)))
    (λ q. inr (r.0, (r.1.0 ++ q.1.0, q.1.1 ∙ ap (λ l. l ++ q.1.0) r.1.1 ∙ append_assoc t.actions r.1.0 q.1.0))) k) h

pub behaves_still : (a b c : Doing) → Behaves a b → Behaves b c → Behaves a c
behaves_still a b c h k = record {
  covers = λ answers words n. let r = h.covers answers words n in let q = k.covers answers words r.0 in (q.0, q.1 ∙ r.1);
  only = λ answers words m.
      let q = k.only answers words m in
      let r = h.only answers words q.0 in
      (r.0, goes_on_still (c answers m) (b answers q.0) (a answers r.0) q.1 r.1);
}
