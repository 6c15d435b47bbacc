-- What a body does with as many turns as it has actions tells what it does with any number of turns.
use Rattle.std.proofs.Common.{◌≡◌, ℕ, zero, suc, ◌+◌, ◌<◌, ◌≤◌, true, List, [], ◌∷◌, ◌++◌, length, length-append, Option, Some, None, refl, sym, ap, subst, arith, ◌∙◌, append-nil, append_assoc}
use Rattle.std.specs.Prelude.{slice_get}
use Rattle.std.proofs.lemmas.Bool.{false≢true}
use Rattle.std.proofs.lemmas.Option.{none-some, same_Some}
use Rattle.nm_base.specs.declared.action.Action.{Action}
use Rattle.nm_base.specs.Lists.{IsPrefixOf}
use Rattle.nm_base.specs.Behaviour.{Behaviour, Returns, Does, Asks, Faults, Cut, Performed, performed}
use Rattle.nesc_core.specs.Plain.{Program}
use Rattle.core_meaning.specs.Source.{act_of}
use Rattle.core_meaning.specs.SourceOf.{source_of}
use Rattle.core_meaning.specs.Act.{root}
use Rattle.core_meaning.proofs.Grows.{source_grows}
use Rattle.run_checker.proofs.Alike.{Alike}
use Rattle.run_checker.proofs.Agreeing.{root_alike}

-- ---- prefixes

abbrev first_of : Action → List Action → Action
first_of d [] = d
first_of d (x ∷ xs) = x

abbrev rest_of : List Action → List Action
rest_of [] = []
rest_of (x ∷ xs) = xs

pub prefix_trans : (xs ys zs : List Action) → IsPrefixOf xs ys → IsPrefixOf ys zs → IsPrefixOf xs zs
prefix_trans xs ys zs h k = (h.0 ++ k.0, sym (append_assoc xs h.0 k.0) ∙ ap (λ all. all ++ k.0) h.1 ∙ k.1)

behind : (a : Action) (xs ys : List Action) → IsPrefixOf xs ys → IsPrefixOf (a ∷ xs) (a ∷ ys)
behind a xs ys h = (h.0, ap (λ all. a ∷ all) h.1)

before : (x a : Action) (xs ys : List Action) → IsPrefixOf (x ∷ xs) (a ∷ ys) → IsPrefixOf xs ys
before x a xs ys h = (h.0, ap rest_of h.1)

first_is : (x a : Action) (xs ys : List Action) → IsPrefixOf (x ∷ xs) (a ∷ ys) → x ≡ a
first_is x a xs ys h = ap (first_of x) h.1

prefix_kept : (k : ℕ) (b c : Behaviour) → Alike k b c → (answers : List ℕ) (xs : List Action) → length xs ≤ k → IsPrefixOf xs (performed b answers).actions → IsPrefixOf xs (performed c answers).actions
prefix_kept k b c h answers [] few begins = (_, refl)
prefix_kept zero b c h answers (x ∷ xs) few begins = absurd (omega (arith, few))
prefix_kept (suc k) Cut c h answers (x ∷ xs) few begins = subst (λ d. IsPrefixOf (x ∷ xs) (performed d answers).actions) (sym h) begins
prefix_kept (suc k) (Returns v) c h answers (x ∷ xs) few begins = subst (λ d. IsPrefixOf (x ∷ xs) (performed d answers).actions) (sym h) begins
prefix_kept (suc k) (Faults code) c h answers (x ∷ xs) few begins = subst (λ d. IsPrefixOf (x ∷ xs) (performed d answers).actions) (sym h) begins
prefix_kept (suc k) (Does a b) c h answers (x ∷ xs) few begins =
    subst (λ d. IsPrefixOf (x ∷ xs) (performed d answers).actions) (sym h.1.0)
    (subst (λ y. IsPrefixOf (y ∷ xs) (a ∷ (performed h.0 answers).actions)) (sym (first_is x a xs _ begins))
    (behind a _ _ (prefix_kept k b h.0 h.1.1 answers xs (omega (arith, few)) (before x a _ _ begins))))
prefix_kept (suc k) (Asks a b) c h [] (x ∷ xs) few begins = subst (λ d. IsPrefixOf (x ∷ xs) (performed d []).actions) (sym h.1.0) begins
prefix_kept (suc k) (Asks a b) c h (y ∷ answers) (x ∷ xs) few begins =
    subst (λ d. IsPrefixOf (x ∷ xs) (performed d (y ∷ answers)).actions) (sym h.1.0)
    (subst (λ z. IsPrefixOf (z ∷ xs) (a ∷ (performed (h.0 y) answers).actions)) (sym (first_is x a xs _ begins))
    (behind a _ _ (prefix_kept k (b y) (h.0 y) (h.1.1 y) answers xs (omega (arith, few)) (before x a _ _ begins))))

-- one more action in front
abbrev with_action : Action → Performed → Performed
with_action a p = record { actions = a ∷ p.actions; ended = p.ended }

ended_kept : (k : ℕ) (b c : Behaviour) → Alike k b c → (answers : List ℕ) → (performed b answers).ended ≡ true → length (performed b answers).actions < k → performed c answers ≡ performed b answers
ended_kept zero b c h answers e few = absurd (omega (arith, few))
ended_kept (suc k) Cut c h answers e few = absurd (false≢true e)
ended_kept (suc k) (Returns v) c h answers e few = ap (λ d. performed d answers) h
ended_kept (suc k) (Faults code) c h answers e few = absurd (false≢true e)
ended_kept (suc k) (Does a b) c h answers e few = ap (λ d. performed d answers) h.1.0 ∙ ap (with_action a) (ended_kept k b h.0 h.1.1 answers e (omega (arith, few)))
ended_kept (suc k) (Asks a b) c h [] e few = absurd (false≢true e)
ended_kept (suc k) (Asks a b) c h (x ∷ answers) e few =
    ap (λ d. performed d (x ∷ answers)) h.1.0 ∙ ap (with_action a) (ended_kept k (b x) (h.0 x) (h.1.1 x) answers e (omega (arith, few)))

-- ---- bodies of a program

module _ (p : Program) where
  pub can_at : (body : Option ℕ) (made : List Action) (a : Action) (answers : List ℕ) (n m : ℕ) → length made < n
      → IsPrefixOf (made ++ a ∷ []) (act_of (source_of p) body answers m).actions → IsPrefixOf (made ++ a ∷ []) (act_of (source_of p) body answers n).actions
  can_at None made a answers n m few h = h
  can_at (Some f) made a answers n m few h =
      prefix_kept n (root p f (m + n)) (root p f n) (root_alike n p f (m + n) n (omega arith) (omega arith)) answers (made ++ a ∷ []) (omega (arith, few, length-append made (a ∷ [])))
      (prefix_trans (made ++ a ∷ []) (performed (root p f m) answers).actions (performed (root p f (m + n)) answers).actions h ((source_grows p).with_turns f answers m (m + n) (omega arith)))

  same_performed : (x : Performed) (made : List Action) → x.actions ≡ made → x.ended ≡ true → x ≡ record { actions = made; ended = true }
  same_performed x made is e = ap (λ xs. record { actions = xs; ended = x.ended }) is ∙ ap (λ t. record { actions = made; ended = t }) e

  pub ended_at : (body : Option ℕ) (made : List Action) (answers : List ℕ) (n m : ℕ) → length made < n
      → (act_of (source_of p) body answers m).actions ≡ made → (act_of (source_of p) body answers m).ended ≡ true → act_of (source_of p) body answers n ≡ record { actions = made; ended = true }
  ended_at None made answers n m few is e = ap (λ xs. record { actions = xs; ended = true }) is
  ended_at (Some f) made answers n m few is e =
      let grown : performed (root p f (m + n)) answers ≡ performed (root p f m) answers = (source_grows p).ended_turns f answers m (m + n) (omega arith) e in
      let long : length (performed (root p f (m + n)) answers).actions ≡ length made = ap (λ (x : Performed). length x.actions) grown ∙ ap length is in
      ended_kept n (root p f (m + n)) (root p f n) (root_alike n p f (m + n) n (omega arith) (omega arith)) answers (ap (λ (x : Performed). x.ended) grown ∙ e) (omega (arith, few, long))
      ∙ grown ∙ same_performed (performed (root p f m) answers) made is e

  pub more_answers : (body : Option ℕ) (answers more : List ℕ) (n : ℕ) → IsPrefixOf (act_of (source_of p) body answers n).actions (act_of (source_of p) body (answers ++ more) n).actions
  more_answers None answers more n = ([], refl)
  more_answers (Some f) answers more n = (source_grows p).with_answers f answers more n

-- ---- the next action of a list

next_at : (made rest : List Action) (a : Action) → slice_get ((made ++ a ∷ []) ++ rest) (length made) ≡ Some a
next_at [] rest a = refl
next_at (x ∷ made) rest a = next_at made rest a

pub is_next : (made ahead : List Action) (a : Action) → IsPrefixOf (made ++ a ∷ []) ahead → slice_get ahead (length made) ≡ Some a
is_next made ahead a h = subst (λ all. slice_get all (length made) ≡ Some a) h.1 (next_at made h.0 a)

past_end : (made : List Action) → slice_get (made ++ []) (length made) ≡ None
past_end [] = refl
past_end (x ∷ made) = past_end made

first_behind : (made rest : List Action) (b : Action) → slice_get (made ++ b ∷ rest) (length made) ≡ Some b
first_behind [] rest b = refl
first_behind (x ∷ made) rest b = first_behind made rest b

pub goes_on : (made ahead : List Action) (a : Action) → IsPrefixOf made ahead → slice_get ahead (length made) ≡ Some a → IsPrefixOf (made ++ a ∷ []) ahead
goes_on made ahead a h is = by_rest h.0 h.1
  where
    by_rest : (rest : List Action) → made ++ rest ≡ ahead → IsPrefixOf (made ++ a ∷ []) ahead
    by_rest [] e = absurd (none-some a (sym (past_end made) ∙ ap (λ all. slice_get all (length made)) e ∙ is))
    by_rest (b ∷ rest) e =
        let same : b ≡ a = same_Some b a (sym (first_behind made rest b) ∙ ap (λ all. slice_get all (length made)) e ∙ is) in
        (rest, append_assoc made (a ∷ []) rest ∙ ap (λ x. made ++ x ∷ rest) (sym same) ∙ e)

pub all_made : (made ahead : List Action) → IsPrefixOf made ahead → length made ≡ length ahead → ahead ≡ made
all_made made ahead h long = by_rest h.0 h.1
  where
    by_rest : (rest : List Action) → made ++ rest ≡ ahead → ahead ≡ made
    by_rest [] e = sym e ∙ append-nil made
    by_rest (b ∷ rest) e = absurd (omega (arith, ap length e, length-append made (b ∷ rest), long))
