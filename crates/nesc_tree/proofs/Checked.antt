-- The same by computing.
use Rattle.std.proofs.Common.{◌≡◌, ℕ, zero, suc, Bool, true, false, ◌&&◌, List, [], ◌∷◌, refl, subst}
use Rattle.nesc_tree.specs.declared.sorts.Sort.{Sort}
use Rattle.nesc_tree.specs.declared.sorts.Sort.TheVariants as s
use Rattle.nesc_tree.specs.Sorts.{same_sort, code, sorts}
use Rattle.nesc_tree.specs.Form.{Form, nullable, starts, either}
use Rattle.nesc_tree.specs.Reading.{all_of, nests}
use Rattle.nesc_tree.proofs.Fine.{Fine}
use Rattle.nesc_tree.proofs.Open.{bars, seed, lives, clash, Open}
use Rattle.nesc_tree.proofs.Same.{pick, picked}

abbrev pub no : Bool → Bool
no true = false
no false = true

abbrev pub implies : Bool → Bool → Bool
implies a true = true
implies a false = no a

abbrev pub fine : {A : Type 0} → Form A → Bool
fine (Form.empty a) = true
fine Form.none = true
fine (Form.token x f) = no (same_sort x s.End)
fine (Form.seq f g h) = fine g && fine h
fine (Form.by f) = all_of (λ x. fine (f x) && no (nullable (f x))) sorts && no (starts (f s.End) s.End)
fine (Form.sub p f) = true
fine (Form.maybe g a) = fine g && (no (nullable g) && no (starts g s.End))
fine (Form.many go a body) = all_of (λ x. fine (body x) && (no (nullable (body x)) && implies (go x) (starts (body x) x))) sorts && no (go s.End)
fine (Form.loop may fits weight g body) = (fine g && no (nullable g)) && (all_of (λ x. fine (body x) && (no (nullable (body x)) && implies (may x) (starts (body x) x))) sorts && no (may s.End))
fine (Form.declare f g) = fine g && no (nullable g)
fine (Form.scope g) = fine g

left_of : (a b : Bool) → (a && b) ≡ true → a ≡ true
left_of true b h = refl
left_of false b h = h

right_of : (a b : Bool) → (a && b) ≡ true → b ≡ true
right_of true b h = h
right_of false b h = absurd cc

not_so : (a : Bool) → no a ≡ true → a ≡ false
not_so true h = absurd cc
not_so false h = refl

so : (a b : Bool) → implies a b ≡ true → a ≡ true → b ≡ true
so a true h k = refl
so true false h k = absurd cc
so false false h k = absurd cc

all_pick : (f : Sort → Bool) → f s.End ≡ true → (k : ℕ) (xs : List Sort) → all_of f xs ≡ true → f (pick k xs) ≡ true
all_pick f e k [] h = e
all_pick f e zero (x ∷ xs) h = left_of (f x) (all_of f xs) h
all_pick f e (suc k) (x ∷ xs) h = all_pick f e k xs (right_of (f x) (all_of f xs) h)

pub all_at : (f : Sort → Bool) → all_of f sorts ≡ true → (x : Sort) → f x ≡ true
all_at f h x = subst (λ (y : Sort). f y ≡ true) (picked x) (all_pick f (left_of _ _ h) (code x) sorts h)

pub checked : {A : Type 0} (g : Form A) → fine g ≡ true → Fine g
checked (Form.empty a) h = tt
checked Form.none h = tt
checked (Form.token x f) h = not_so _ h
checked (Form.seq f g k) h = (checked g (left_of _ _ h), checked k (right_of _ _ h))
checked (Form.by f) h =
    let each : (x : Sort) → (fine (f x) && no (nullable (f x))) ≡ true = all_at (λ x. fine (f x) && no (nullable (f x))) (left_of _ _ h) in
    ((λ x. checked (f x) (left_of _ _ (each x))), (λ x. not_so _ (right_of (fine (f x)) _ (each x))), not_so _ (right_of (all_of (λ x. fine (f x) && no (nullable (f x))) sorts) _ h))
checked (Form.sub p f) h = tt
checked (Form.maybe g a) h = let k = right_of (fine g) _ h in (checked g (left_of _ _ h), not_so _ (left_of _ _ k), not_so _ (right_of (no (nullable g)) _ k))
checked (Form.many {A = A} go a body) h =
    let one : Sort → Bool = λ x. fine (body x) && (no (nullable (body x)) && implies (go x) (starts (body x) x)) in
    let each : (x : Sort) → one x ≡ true = all_at one (left_of _ _ h) in
    let rest : (x : Sort) → (no (nullable (body x)) && implies (go x) (starts (body x) x)) ≡ true = λ x. right_of (fine (body x)) _ (each x) in
    ((λ x. checked (body x) (left_of _ _ (each x))), (λ x. not_so _ (left_of _ _ (rest x))), (λ x k. so (go x) _ (right_of (no (nullable (body x))) _ (rest x)) k), not_so _ (right_of (all_of one sorts) _ h))
checked (Form.loop {A = A} may fits weight g body) h =
    let one : Sort → Bool = λ x. fine (body x) && (no (nullable (body x)) && implies (may x) (starts (body x) x)) in
    let first : (fine g && no (nullable g)) ≡ true = left_of _ _ h in
    let turns : (all_of one sorts && no (may s.End)) ≡ true = right_of (fine g && no (nullable g)) _ h in
    let each : (x : Sort) → one x ≡ true = all_at one (left_of _ _ turns) in
    let rest : (x : Sort) → (no (nullable (body x)) && implies (may x) (starts (body x) x)) ≡ true = λ x. right_of (fine (body x)) _ (each x) in
    (checked g (left_of _ _ first), not_so _ (right_of (fine g) _ first), (λ x. checked (body x) (left_of _ _ (each x))), (λ x. not_so _ (left_of _ _ (rest x))), (λ x k. so (may x) _ (right_of (no (nullable (body x))) _ (rest x)) k), not_so _ (right_of (all_of one sorts) _ turns))
checked (Form.declare f g) h = (checked g (left_of _ _ h), not_so _ (right_of (fine g) _ h))
checked (Form.scope g) h = checked g h

abbrev pub opens : {A : Type 0} → Form A → Bool
opens (Form.empty a) = true
opens Form.none = true
opens (Form.token x f) = true
opens (Form.seq f g h) = (opens g && opens h) && ((lives (seed true h) && either (nests h) (lives (seed false h))) && (no (clash (bars g) (seed true h)) && no (clash (bars g) (seed false h))))
opens (Form.by f) = all_of (λ x. opens (f x)) sorts
opens (Form.sub p f) = true
opens (Form.maybe g a) = opens g
opens (Form.many go a body) = all_of (λ x. opens (body x)) sorts
opens (Form.loop may fits weight g body) = opens g && all_of (λ x. opens (body x)) sorts
opens (Form.declare f g) = opens g && (no (bars g s.Word) && no (bars g s.TypeName))
opens (Form.scope g) = opens g && (no (bars g s.Word) && no (bars g s.TypeName))

or_else : (a b : Bool) → either a b ≡ true → a ≡ false → b ≡ true
or_else true b h k = absurd cc
or_else false b h k = h

pub opened : {A : Type 0} (g : Form A) → opens g ≡ true → Open g
opened (Form.empty a) h = tt
opened Form.none h = tt
opened (Form.token x f) h = tt
opened (Form.seq f g k) h =
    let a : (opens g && opens k) ≡ true = left_of _ _ h in
    let b = right_of (opens g && opens k) _ h in
    let c : (lives (seed true k) && either (nests k) (lives (seed false k))) ≡ true = left_of _ _ b in
    let e : (no (clash (bars g) (seed true k)) && no (clash (bars g) (seed false k))) ≡ true = right_of (lives (seed true k) && either (nests k) (lives (seed false k))) _ b in
    let each : (r : Bool) → clash (bars g) (seed r k) ≡ false = elim [ true ↦ not_so _ (left_of _ _ e) | false ↦ not_so _ (right_of (no (clash (bars g) (seed true k))) _ e) ] in
    (opened g (left_of _ _ a), opened k (right_of (opens g) _ a), left_of _ _ c, or_else (nests k) _ (right_of (lives (seed true k)) _ c), each)
opened (Form.by f) h = λ x. opened (f x) (all_at (λ x. opens (f x)) h x)
opened (Form.sub p f) h = tt
opened (Form.maybe g a) h = opened g h
opened (Form.many go a body) h = λ x. opened (body x) (all_at (λ x. opens (body x)) h x)
opened (Form.loop may fits weight g body) h = (opened g (left_of _ _ h), (λ x. opened (body x) (all_at (λ x. opens (body x)) (right_of (opens g) _ h) x)))
opened (Form.declare f g) h = let k = right_of (opens g) _ h in (opened g (left_of _ _ h), not_so _ (left_of _ _ k), not_so _ (right_of (no (bars g s.Word)) _ k))
opened (Form.scope g) h = let k = right_of (opens g) _ h in (opened g (left_of _ _ h), not_so _ (left_of _ _ k), not_so _ (right_of (no (bars g s.Word)) _ k))
