-- All routines may be laid out, with one of them at reset.
use Rattle.std.proofs.Common.{◌≡◌, ℕ, zero, suc, ◌+◌, ◌<◌, List, [], length, get_or, refl, sym, subst, arith}
use Rattle.msp_isa.specs.declared.code.CodeFn.{CodeFn}
use Rattle.mid_code.specs.declared.code.Check.{Check}
use Rattle.msp_layout.specs.Depth.{Names, calls_of}
use Rattle.msp_layout.specs.Laid.{IsGoodCode}
use Rattle.msp_layout.proofs.Onward.{eight}
use Rattle.msp_checks.specs.Written.{AreOfWords, HaveFewRuns}
use Rattle.msp_routines.specs.Routines.{routine_fns}
use Rattle.msp_routines.proofs.Good.{many_routines, routines_call_nothing, routines_can_be_laid_out}

all_zero : (i : ℕ) → i < 8 → get_or (eight 0) i 0 ≡ 0
all_zero zero lt = refl
all_zero (suc zero) lt = refl
all_zero (suc (suc zero)) lt = refl
all_zero (suc (suc (suc zero))) lt = refl
all_zero (suc (suc (suc (suc zero)))) lt = refl
all_zero (suc (suc (suc (suc (suc zero))))) lt = refl
all_zero (suc (suc (suc (suc (suc (suc zero)))))) lt = refl
all_zero (suc (suc (suc (suc (suc (suc (suc zero))))))) lt = refl
all_zero (suc (suc (suc (suc (suc (suc (suc (suc i)))))))) lt = absurd (omega (arith, lt))

no_callee : (calls : List ℕ) (g : ℕ) → calls ≡ [] → Names calls g → ⊥
no_callee calls g e name = absurd (let l = subst (λ (xs : List ℕ). name.0 < length xs) e name.1 in omega (arith, l))

good : (checks : List Check) (place : ℕ) → HaveFewRuns checks → AreOfWords checks → place < 48 + length checks → IsGoodCode (routine_fns checks) (eight 0) place
good checks place few ok lt =
    let many = many_routines checks in record {
      fns = λ f below. routines_can_be_laid_out checks (length (routine_fns checks)) f few ok below;
      no_cycle = (λ f. 0, λ f g below name. absurd (no_callee (calls_of (routine_fns checks) f) g (routines_call_nothing checks f below) name));
      line_fns = λ f name. let z = all_zero name.0 name.1 in let e = name.2 in omega (arith, many, z, e);
      reset_fn = omega (arith, many, lt);
    }

pub code_good : (code : List CodeFn) (checks : List Check) (place : ℕ) → code ≡ routine_fns checks → HaveFewRuns checks → AreOfWords checks → place < 48 + length checks → IsGoodCode code (eight 0) place
code_good code checks place e few ok lt = subst (λ fns. IsGoodCode fns (eight 0) place) (sym e) (good checks place few ok lt)
