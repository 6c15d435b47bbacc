-- Two lists, of which one element is made after the other.
use Rattle.std.proofs.Common.{◌≡◌, ℕ, suc, ◌+◌, ◌<◌, ◌≤◌, List, [], ◌∷◌, ◌++◌, map, drop, length, get_or, sym, subst, ap, ◌∙◌, arith, append_assoc, append-nil}
use Rattle.std.proofs.Math.Seq.{drop-cons}
use Rattle.std.proofs.Math.ListN.{drop_of_length-le}
use Rattle.std.proofs.lemmas.List.{map-append}
use Rattle.elab_application.specs.Instances.{Each}

-- element k stands at the front of what is left
pub next_of : {A : Type 0} (xs : List A) (k : ℕ) (x : A) → k < length xs → x ≡ get_or xs k x → drop k xs ≡ x ∷ drop (k + 1) xs
next_of xs k x below is = let more : suc k ≡ k + 1 = omega arith in
    drop-cons xs k x below ∙ ap (λ y. y ∷ drop (suc k) xs) (sym is) ∙ ap (λ j. x ∷ drop j xs) more

-- what is made of the rest, behind what is made, is made of the whole
abbrev pub Leads : {A B S : Type 0} → (ℕ → A → B → Type 0) → (S → B) → List A → ℕ → List S → Type 0
Leads {A} {B} {S} P view xs k made = (more : List B) → Each P k (drop k xs) more → Each P 0 xs (map view made ++ more)

pub made_more : {A B S : Type 0} (P : ℕ → A → B → Type 0) (view : S → B) (xs : List A) (k : ℕ) (x : A) (made new : List S) (y : S)
    → k < length xs → x ≡ get_or xs k x → P k x (view y) → new ≡ made ++ y ∷ [] → Leads P view xs k made → Leads P view xs (k + 1) new
made_more {A} {B} {S} P view xs k x made new y below is one m leads = λ more rest.
    let whole : Each P 0 xs (map view made ++ (view y ∷ more)) = leads (view y ∷ more) (subst (λ (zs : List A). Each P k zs (view y ∷ more)) (sym (next_of xs k x below is)) (one, rest)) in
    let same : map view made ++ (view y ∷ more) ≡ map view new ++ more =
    sym (append_assoc (map view made) (view y ∷ []) more) ∙ ap (λ (zs : List B). zs ++ more) (sym (map-append view made (y ∷ []))) ∙ ap (λ (zs : List S). map view zs ++ more) (sym m) in
    subst (Each P 0 xs) same whole

pub made_all : {A B S : Type 0} (P : ℕ → A → B → Type 0) (view : S → B) (xs : List A) (k : ℕ) (made : List S) → length xs ≤ k → Leads P view xs k made → Each P 0 xs (map view made)
made_all {A} {B} {S} P view xs k made past leads =
    let whole : Each P 0 xs (map view made ++ []) = leads [] (subst (λ (zs : List A). Each P k zs []) (sym (drop_of_length-le xs past)) tt) in
    subst (Each P 0 xs) (append-nil (map view made)) whole

-- ---- the same, with what is left as a list of its own

abbrev pub LeadsFrom : {A B S : Type 0} → (ℕ → A → B → Type 0) → (S → B) → List A → ℕ → List A → List S → Type 0
LeadsFrom {A} {B} {S} P view xs k rest made = (more : List B) → Each P k rest more → Each P 0 xs (map view made ++ more)

pub made_next : {A B S : Type 0} (P : ℕ → A → B → Type 0) (view : S → B) (xs : List A) (k : ℕ) (rest : List A) (x : A) (left : List A) (made new : List S) (y : S)
    → rest ≡ x ∷ left → P k x (view y) → new ≡ made ++ y ∷ [] → LeadsFrom P view xs k rest made → LeadsFrom P view xs (k + 1) left new
made_next {A} {B} {S} P view xs k rest x left made new y is one m leads = λ more others.
    let whole : Each P 0 xs (map view made ++ (view y ∷ more)) = leads (view y ∷ more) (subst (λ (zs : List A). Each P k zs (view y ∷ more)) (sym is) (one, others)) in
    let same : map view made ++ (view y ∷ more) ≡ map view new ++ more =
    sym (append_assoc (map view made) (view y ∷ []) more) ∙ ap (λ (zs : List B). zs ++ more) (sym (map-append view made (y ∷ []))) ∙ ap (λ (zs : List S). map view zs ++ more) (sym m) in
    subst (Each P 0 xs) same whole

pub made_whole : {A B S : Type 0} (P : ℕ → A → B → Type 0) (view : S → B) (xs : List A) (k : ℕ) (rest : List A) (made : List S) → rest ≡ [] → LeadsFrom P view xs k rest made → Each P 0 xs (map view made)
made_whole {A} {B} {S} P view xs k rest made is leads =
    let whole : Each P 0 xs (map view made ++ []) = leads [] (subst (λ (zs : List A). Each P k zs []) (sym is) tt) in
    subst (Each P 0 xs) (append-nil (map view made)) whole

pub counted_next : {A : Type 0} (k n : ℕ) (rest : List A) (x : A) (left : List A) → rest ≡ x ∷ left → k + length rest ≡ n → (k + 1) + length left ≡ n
counted_next k n rest x left is all = let more : length rest ≡ suc (length left) = ap length is in omega (arith, more, all)
