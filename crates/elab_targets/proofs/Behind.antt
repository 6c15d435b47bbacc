-- What holds behind a call, from what it ensures.
use Rattle.std.proofs.Common.{◌≡◌, Result, Ok, Err, OnOk, IfOk, sym, subst}

pub on_ok : {T E P Q : Type 0} (r : Result T E) → (P → Q) → OnOk r P → OnOk r Q
on_ok (Ok x) f p = f p
on_ok (Err e) f p = tt

pub if_ok : {T E : Type 0} {P Q : T → Type 0} (r : Result T E) → ((x : T) → P x → Q x) → IfOk r P → IfOk r Q
if_ok (Ok x) f p = f x p
if_ok (Err e) f p = tt

-- what is so of what was made, where the work on it was done
pub where_done : {T E P : Type 0} (Q : T → Type 0) (made : T) (done : Result (Unit {0}) E) (r : Result T E) → OnOk done P → (P → Q made) → IfOk r (λ x. (x ≡ made) × (done ≡ Ok tt)) → IfOk r Q
where_done {T} {E} {P} Q made done (Ok x) says f kept = subst Q (sym kept.0) (f (subst (λ (d : Result (Unit {0}) E). OnOk d P) kept.1 says))
where_done Q made done (Err e) says f kept = tt
