-- Lists of functions put together, and results of layout.
use Rattle.std.proofs.Common.{◌≡◌, ℕ, List, [], ◌∷◌, ◌++◌, Result, Ok, Err, IfOk, IfErr, refl, ap, subst}
use Rattle.nm_base.specs.declared.fault.Fault.{Fault}
use Rattle.msp_isa.specs.declared.code.CodeFn.{CodeFn}
use Rattle.msp_isa.specs.declared.image.Image.{Image}

pub grouped : (a b c : List CodeFn) → (a ++ b) ++ c ≡ a ++ (b ++ c)
grouped [] b c = refl
grouped (x ∷ a) b c = ap (λ l. x ∷ l) (grouped a b c)

-- what is so of code, lines and reset is so of the same ones
pub of_same : (X : List CodeFn → List ℕ → ℕ → Type 0) (code other : List CodeFn) (lines others : List ℕ) (reset place : ℕ) → code ≡ other → lines ≡ others → reset ≡ place → X code lines reset → X other others place
of_same X code other lines others reset place a b c h =
    subst (λ r. X other others r) c (subst (λ l. X other l reset) b (subst (λ f. X f lines reset) a h))

pub both_ok : (A B C : Image → Type 0) (r : Result Image Fault) → IfOk r A → IfOk r B → ((i : Image) → A i → B i → C i) → IfOk r C
both_ok A B C (Ok i) a b f = f i a b
both_ok A B C (Err e) a b f = tt

pub of_err : (A C : Fault → Type 0) (r : Result Image Fault) → IfErr r A → ((e : Fault) → A e → C e) → IfErr r C
of_err A C (Ok i) a f = tt
of_err A C (Err e) a f = f e a
