-- What a rule gives, and what a step of elaboration gives and leaves.
use Rattle.std.proofs.Common.{◌≡◌, Bool, true, false, Option, Some, None, Ok, Err, subst, refl}
use Rattle.std.specs.Prelude.{if◌then◌else◌}
use Rattle.nm_base.specs.declared.fault.Fault.{Fault}
use Rattle.nm_base.specs.declared.refusal.Refusal.{Refusal}
use Rattle.nesc_types.specs.Rule as rule
use Rattle.nesc_types.specs.Rule.{Rule, refuse, or_refuse}
use Rattle.elab_meaning.specs.Elab.{State, after, by}

-- ---- rules

pub record Says {A : Type 0} (r : Rule A) (P : A → Type 0) : Type 0 where
  pub by : (x : A) → r ≡ Ok x → P x

pub says : {A : Type 0} {P : A → Type 0} (x : A) → P x → Says (Ok x) P
says {P = P} x h = record { by = λ y e. let s : x ≡ y = cc in subst P s h }

pub refuses : {A : Type 0} {P : A → Type 0} (r : Refusal) → Says {A = A} (refuse r) P
refuses r = record { by = λ y e. absurd cc }

pub stopped : {A : Type 0} {P : A → Type 0} (e : Fault) → Says {A = A} (Err e) P
stopped e = record { by = λ y h. absurd cc }

pub says_then : {A B : Type 0} {P : A → Type 0} {Q : B → Type 0} (r : Rule A) (next : A → Rule B) → Says r P → ((x : A) → P x → Says (next x) Q) → Says (rule.◌>>=◌ r next) Q
says_then (Ok x) next h f = f x (h.by x refl)
says_then (Err e) next h f = stopped e

pub says_kept : {A : Type 0} {P Q : A → Type 0} (r : Rule A) → Says r P → ((x : A) → P x → Q x) → Says r Q
says_kept r h f = record { by = λ x e. f x (h.by x e) }

pub says_under : {A H : Type 0} {P : A → Type 0} (r : Rule A) → (H → Says r P) → Says r (λ x. H → P x)
says_under r f = record { by = λ x e h. (f h).by x e }

pub says_any : {A : Type 0} (r : Rule A) → Says r (λ x. Unit {0})
says_any r = record { by = λ x e. tt }

pub says_found : {A : Type 0} (r : Refusal) (o : Option A) → Says (or_refuse r o) (λ x. o ≡ Some x)
says_found r None = refuses r
says_found r (Some x) = says x refl

pub says_if : {A : Type 0} {P : A → Type 0} (b : Bool) (x y : Rule A) → (b ≡ true → Says x P) → (b ≡ false → Says y P) → Says (if b then x else y) P
says_if true x y f g = f refl
says_if false x y f g = g refl

-- ---- steps

pub record Gets {A : Type 0} (r : Rule (A × State)) (P : A → State → Type 0) : Type 0 where
  pub by : (x : A) (s : State) → r ≡ Ok (x, s) → P x s

pub gets : {A : Type 0} {P : A → State → Type 0} (x : A) (s : State) → P x s → Gets (Ok (x, s)) P
gets {A = A} {P = P} x s h = record { by = λ y t e. subst (λ (z : A × State). P z.0 z.1) (paired e) h }
  where
    made : A × State → Rule (A × State)
    made a = Ok a

    paired : {a b : A × State} → made a ≡ made b → a ≡ b
    paired e = cc

pub gets_stopped : {A : Type 0} {P : A → State → Type 0} (e : Fault) → Gets {A = A} (Err e) P
gets_stopped e = record { by = λ y t h. absurd cc }

pub gets_then : {A B : Type 0} {P : A → State → Type 0} {Q : B → State → Type 0} (r : Rule (A × State)) (next : A → State → Rule (B × State))
    → Gets r P → ((x : A) (s : State) → P x s → Gets (next x s) Q) → Gets (after r next) Q
gets_then (Ok x) next h f = f x.0 x.1 (h.by x.0 x.1 refl)
gets_then (Err e) next h f = gets_stopped e

pub gets_kept : {A : Type 0} {P Q : A → State → Type 0} (r : Rule (A × State)) → Gets r P → ((x : A) (s : State) → P x s → Q x s) → Gets r Q
gets_kept r h f = record { by = λ x s e. f x s (h.by x s e) }

pub gets_by : {A : Type 0} {P : A → Type 0} {Q : A → State → Type 0} (r : Rule A) (s : State) → Says r P → ((x : A) → P x → Q x s) → Gets (by r s) Q
gets_by (Ok x) s h f = gets x s (f x (h.by x refl))
gets_by (Err e) s h f = gets_stopped e

pub gets_if : {A : Type 0} {P : A → State → Type 0} (b : Bool) (x y : State → Rule (A × State)) (s : State) → (b ≡ true → Gets (x s) P) → (b ≡ false → Gets (y s) P) → Gets ((if b then x else y) s) P
gets_if true x y s f g = f refl
gets_if false x y s f g = g refl
