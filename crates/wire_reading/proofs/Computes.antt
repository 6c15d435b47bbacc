-- What is computed is what the relation says.
use Rattle.std.proofs.Common.{◌≡◌, ℕ, zero, suc, Bool, true, false, List, [], ◌∷◌, ◌++◌, Option, Some, None, Result, Ok, Err, refl, sym}
use Rattle.std.proofs.lemmas.Option.{same_Some}
use Rattle.nm_base.specs.declared.fault.Fault.{Fault}
use Rattle.wire_reading.specs.declared.opener.Need.{Need}
use Rattle.wire_reading.specs.Order.{Name, Answer, Reader, Each, Follows, Opened, Unless, ReadAt, Answers, is_known, component}
use Rattle.wire_reading.specs.Computed.{Opens, opening, Reading, go_on, each, follow, unless, read, files_of}

module _ {State : Type 0} where
  abbrev Computes : Reading State → Reader State → Type 0
  Computes f R = (need : Need) (known : List Name) (s : State) (answer : Answer State) → f need known s ≡ Some answer → R need known s answer

  each_computes : (f : Reading State) (R : Reader State) → Computes f R → (needs : List Need) (known : List Name) (s : State) (answer : Answer State) → each f needs known s ≡ Some answer → Each R needs known s answer
  each_computes f R h [] known s answer e = sym (same_Some (Ok (known, s)) answer e)
  each_computes f R h (need ∷ needs) known s answer e = by (f need known s) refl (λ k t a. each_computes f R h needs k t a) e
    where
      by : (o : Option (Answer State)) → f need known s ≡ o → ((k : List Name) (t : State) (a : Answer State) → each f needs k t ≡ Some a → Each R needs k t a) → go_on o (each f needs) ≡ Some answer → Each R (need ∷ needs) known s answer
      by None w next g = absurd cc
      by (Some (Ok p)) w next g = (Ok p, h need known s (Ok p) w, next p.0 p.1 answer g)
      by (Some (Err x)) w next g = (Err x, h need known s (Err x) w, sym (same_Some (Err x) answer g))

  module _ (opens : Opens State) where
    by_test : (t : Bool) (known : List Name) (s : State) (answer : Answer State) (o : Option (Answer State)) (Else : Type 0) → (o ≡ Some answer → Else) → unless t known s o ≡ Some answer → Unless t known s answer Else
    by_test true known s answer o Else h e = sym (same_Some (Ok (known, s)) answer e)
    by_test false known s answer o Else h e = h e

    follow_computes : (f : Reading State) (R : Reader State) → Computes f R → (known : List Name) (found : Result (List Need) Fault) (after : State) (answer : Answer State) → follow f known (found, after) ≡ Some answer → Follows R known after found answer
    follow_computes f R h known (Ok needs) after answer e = each_computes f R h needs known after answer e
    follow_computes f R h known (Err x) after answer e = sym (same_Some (Err (x, after)) answer e)

    read_computes : (levels : ℕ) → Computes (read opens levels) (ReadAt (opening opens) levels)
    read_computes zero need known s answer e = by_test (is_known known need.name) known s answer None ⊥ (λ x. absurd cc) e
    read_computes (suc levels) need known s answer e =
        let inner = read_computes levels in
        by_test (is_known known need.name) known s answer (follow (read opens levels) (known ++ need.name ∷ []) (opens s need)) (Opened (opening opens) (ReadAt (opening opens) levels) need known s answer)
        (λ x. ((opens s need).0, (opens s need).1, refl, follow_computes (read opens levels) (ReadAt (opening opens) levels) inner (known ++ need.name ∷ []) (opens s need).0 (opens s need).1 answer x))
        e

    pub files_computed : (levels : ℕ) (app main : Name) (s : State) (answer : Answer State) → files_of opens levels app main s ≡ Some answer → Answers (opening opens) app main s answer
    files_computed levels app main s answer e =
        (levels, each_computes (read opens levels) (ReadAt (opening opens) levels) (read_computes levels) (component app ∷ component main ∷ []) [] s answer e)
