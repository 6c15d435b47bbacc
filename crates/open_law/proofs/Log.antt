-- What was done, as lists of actions and of answers.
use Rattle.std.proofs.Common.{◌≡◌, ℕ, ◌≤◌, List, [], ◌∷◌, ◌++◌, length, Option, None, refl, sym, ap, ◌∙◌, append_assoc, append-nil, subst, arith}
use Rattle.std.specs.List.{AllByRecursion}
use Rattle.nm_base.specs.Lists.{IsPrefixOf}
use Rattle.nm_base.specs.declared.action.Action.{Action}
use Rattle.nm_base.specs.declared.action.Action.TheVariants as action
use Rattle.nm_base.specs.Behaviour.{Performed}
use Rattle.open_law.specs.Open.{Done, actions_of, answers_of, silent, fault_in, fault_of, IsSilent, AreNext}

pub actions_on : (a b : List Done) → actions_of (a ++ b) ≡ actions_of a ++ actions_of b
actions_on [] b = refl
actions_on (d ∷ a) b = ap (λ l. d.action ∷ l) (actions_on a b)

pub answers_on : (a b : List Done) → answers_of (a ++ b) ≡ answers_of a ++ answers_of b
answers_on [] b = refl
answers_on (d ∷ a) b = ap (λ l. d.answers ++ l) (answers_on a b) ∙ sym (append_assoc d.answers (answers_of a) (answers_of b))

pub actions_silent : (marks : List Action) → actions_of (silent marks) ≡ marks
actions_silent [] = refl
actions_silent (a ∷ marks) = ap (λ l. a ∷ l) (actions_silent marks)

pub answers_silent : (marks : List Action) → answers_of (silent marks) ≡ []
answers_silent [] = refl
answers_silent (a ∷ marks) = answers_silent marks

fault_by : (a : Action) (x : Option ℕ) → fault_in a x ≡ None → (y : Option ℕ) → (x ≡ None → y ≡ None) → fault_in a y ≡ None
fault_by (action.Load p w) x h y f = f h
fault_by (action.Store p w v) x h y f = f h
fault_by (action.In p) x h y f = f h
fault_by (action.Out p v) x h y f = f h
fault_by (action.Post k) x h y f = f h
fault_by action.Begin x h y f = f h
fault_by action.End x h y f = f h
fault_by action.Tick x h y f = f h
fault_by (action.Fault c) x h y f = absurd (let e : ⊥ = cc in e)

fault_one : (a : Action) (x y : Option ℕ) → fault_in a x ≡ None → fault_in a y ≡ y
fault_one (action.Load p w) x y h = refl
fault_one (action.Store p w v) x y h = refl
fault_one (action.In p) x y h = refl
fault_one (action.Out p v) x y h = refl
fault_one (action.Post k) x y h = refl
fault_one action.Begin x y h = refl
fault_one action.End x y h = refl
fault_one action.Tick x y h = refl
fault_one (action.Fault c) x y h = absurd (let e : ⊥ = cc in e)

pub fault_on : (a b : List Done) → fault_of a ≡ None → fault_of (a ++ b) ≡ fault_of b
fault_on [] b h = refl
fault_on (d ∷ a) b h =
    let rest : fault_of a ≡ None = sym (fault_one d.action (fault_of a) (fault_of a) h) ∙ h in
    fault_one d.action (fault_of a) (fault_of (a ++ b)) h ∙ fault_on a b rest

pub fault_silent : (marks : List Action) → AllByRecursion IsSilent marks → fault_of (silent marks) ≡ None
fault_silent [] h = refl
fault_silent (action.Load p w ∷ marks) h = absurd h.0
fault_silent (action.Store p w v ∷ marks) h = absurd h.0
fault_silent (action.In p ∷ marks) h = absurd h.0
fault_silent (action.Out p v ∷ marks) h = absurd h.0
fault_silent (action.Post k ∷ marks) h = absurd h.0
fault_silent (action.Begin ∷ marks) h = fault_silent marks h.1
fault_silent (action.End ∷ marks) h = fault_silent marks h.1
fault_silent (action.Tick ∷ marks) h = fault_silent marks h.1
fault_silent (action.Fault c ∷ marks) h = absurd h.0

-- the list behind which a given action stands is within the first, or goes on into the second
pub data Cut (a b front : List Done) (d : Done) (back : List Done) : Type 0 where
  Before : (mid : List Done) → a ≡ front ++ (d ∷ mid) → Cut a b front d back
  Behind : (mid : List Done) → front ≡ a ++ mid → b ≡ mid ++ (d ∷ back) → Cut a b front d back

pub cut : (a b front : List Done) (d : Done) (back : List Done) → a ++ b ≡ front ++ (d ∷ back) → Cut a b front d back
cut [] b front d back e = Behind front refl e
cut (x ∷ a) b [] d back e =
    let head : x ≡ d = cc in
    Before a (ap (λ y. y ∷ a) head)
cut (x ∷ a) b (y ∷ front) d back e =
    let head : x ≡ y = cc in
    let rest : a ++ b ≡ front ++ (d ∷ back) = cc in
    on head (cut a b front d back rest)
  where
    on : x ≡ y → Cut a b front d back → Cut (x ∷ a) b (y ∷ front) d back
    on h (Before mid s) = Before mid (ap (λ z. z ∷ a) h ∙ ap (λ l. y ∷ l) s)
    on h (Behind mid s t) = Behind mid (ap (λ l. y ∷ l) s ∙ ap (λ z. z ∷ (a ++ mid)) (sym h)) t

-- a front of marks and at most one thing noted has no answers, where something follows it
pub few_answers : (marks : List Action) (noted mid : List Done) (d : Done) (back : List Done) → length noted ≤ 1 → silent marks ++ noted ≡ mid ++ (d ∷ back) → answers_of mid ≡ []
few_answers marks noted [] d back few e = refl
few_answers [] [] (m ∷ mid) d back few e = absurd (let z : ⊥ = cc in z)
few_answers [] (n ∷ []) (m ∷ []) d back few e = absurd (let z : ⊥ = cc in z)
few_answers [] (n ∷ []) (m ∷ k ∷ mid) d back few e = absurd (let z : ⊥ = cc in z)
few_answers [] (n ∷ o ∷ more) (m ∷ mid) d back few e = absurd (omega (arith, few))
few_answers (a ∷ marks) noted (m ∷ mid) d back few e =
    let head : record { action = a; answers = [] } ≡ m = cc in
    let rest : silent marks ++ noted ≡ mid ++ (d ∷ back) = cc in
    ap (λ (x : Done). x.answers ++ answers_of mid) (sym head) ∙ few_answers marks noted mid d back few rest

prefix_before : (xs ys zs : List Action) → IsPrefixOf (xs ++ ys) zs → IsPrefixOf xs zs
prefix_before xs ys zs p = (ys ++ p.0, sym (append_assoc xs ys p.0) ∙ p.1)

-- what comes next, with one instruction more
pub next_on : (act : List ℕ → ℕ → Performed) (done : List Done) (marks : List Action) (noted : List Done) (n : ℕ) → AreNext act done → length noted ≤ 1 →
    IsPrefixOf (actions_of (done ++ (silent marks ++ noted))) (act (answers_of done) n).actions → AreNext act (done ++ (silent marks ++ noted))
next_on act done marks noted n old few p front d back e = by (cut done (silent marks ++ noted) front d back e)
  where
    by : Cut done (silent marks ++ noted) front d back → (n : ℕ) × IsPrefixOf (actions_of front ++ d.action ∷ []) (act (answers_of front) n).actions
    by (Before mid s) = old front d mid s
    by (Behind mid s t) =
        let none = few_answers marks noted mid d back few t in
        let same : answers_of front ≡ answers_of done = ap answers_of s ∙ answers_on done mid ∙ ap (λ l. answers_of done ++ l) none ∙ append-nil (answers_of done) in
        let all : actions_of (done ++ (silent marks ++ noted)) ≡ (actions_of front ++ d.action ∷ []) ++ actions_of back =
        ap actions_of e ∙ actions_on front (d ∷ back) ∙ sym (append_assoc (actions_of front) (d.action ∷ []) (actions_of back)) in
        let q = prefix_before (actions_of front ++ d.action ∷ []) (actions_of back) _ (subst (λ l. IsPrefixOf l (act (answers_of done) n).actions) all p) in
        (n, subst (λ l. IsPrefixOf (actions_of front ++ d.action ∷ []) (act l n).actions) (sym same) q)
