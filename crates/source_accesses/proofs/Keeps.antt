-- What holds of each access of a behaviour, form by form.
use Rattle.std.proofs.Common.{ℕ, ℤ, zero, suc, ◌+◌, Bool, true, false, List, [], ◌∷◌, Option, Some, None, if◌then◌else◌}
use Rattle.nm_base.specs.declared.action.Action.{Action}
use Rattle.nm_base.specs.declared.action.Action.TheVariants.{Load, Store, Begin, End, In, Out, Post, Tick}
use Rattle.nm_base.specs.Behaviour.{Behaviour, Returns, Does, Asks, Faults, Cut}
use Rattle.core_meaning.specs.Numbers.{is_zero}
use Rattle.core_meaning.specs.declared.flow.Flow.{Flow}
use Rattle.core_meaning.specs.declared.flow.Flow.TheVariants.{On, Broke, Continued, Gave}
use Rattle.core_meaning.specs.Flow.{on, again, turn, turns, from_case}
use Rattle.core_meaning.specs.Work.{Locals, Work, give, ◌>>=◌, act, ask, fault, or_fault, set_local, set_locals}
use Rattle.core_meaning.specs.Act.{Calls, call, tested}

abbrev pub Owes : (Fine : ℕ → Bool → Type 0) → Action → Type 0
Owes Fine (Load a is_word) = Fine a is_word
Owes Fine (Store a is_word v) = Fine a is_word
Owes Fine _ = Unit {0}

abbrev pub Keeps : (Fine : ℕ → Bool → Type 0) → Behaviour → Type 0
Keeps Fine (Returns v) = Unit {0}
Keeps Fine (Does a b) = Owes Fine a × Keeps Fine b
Keeps Fine (Asks a b) = Owes Fine a × ((x : ℕ) → Keeps Fine (b x))
Keeps Fine (Faults code) = Unit {0}
Keeps Fine Cut = Unit {0}

-- the work keeps it, and gives a Q, whatever comes after it
pub record Goes (Fine : ℕ → Bool → Type 0) {A : Type 0} (Q : A → Type 0) (w : Work A) : Type 0 where
  pub by : (after : A → Locals → Behaviour) → ((x : A) → Q x → (locals : Locals) → Keeps Fine (after x locals)) → (locals : Locals) → Keeps Fine (w after locals)

abbrev pub Any : {A : Type 0} → A → Type 0
Any x = Unit {0}

pub record CallGoes (Fine : ℕ → Bool → Type 0) (calls : Calls) (f : ℕ) : Type 0 where
  pub by : (arguments : List ℤ) (after : ℤ → Behaviour) → ((v : ℤ) → Keeps Fine (after v)) → Keeps Fine (calls f arguments after)

-- ---- pieces

pub then_goes : {Fine : ℕ → Bool → Type 0} {A B : Type 0} {P : A → Type 0} {Q : B → Type 0} {w : Work A} {g : A → Work B}
    → Goes Fine P w → ((x : A) → P x → Goes Fine Q (g x)) → Goes Fine Q (◌>>=◌ w g)
then_goes h k = record { by = λ after r. h.by _ (λ x fact. (k x fact).by after r) }

module _ {Fine : ℕ → Bool → Type 0} where
  pub give_goes : {A : Type 0} {Q : A → Type 0} (x : A) → Q x → Goes Fine Q (give x)
  give_goes x fact = record { by = λ after r locals. r _ fact locals }

  pub fault_goes : {A : Type 0} {Q : A → Type 0} (code : ℕ) → Goes Fine Q (fault code)
  fault_goes code = record { by = λ after r locals. tt }

  pub or_fault_goes : (code : ℕ) (z : Option ℤ) → Goes Fine Any (or_fault code z)
  or_fault_goes code None = fault_goes code
  or_fault_goes code (Some z) = give_goes z tt

  pub tick_goes : Goes Fine Any (act Tick)
  tick_goes = record { by = λ after r locals. (tt, r tt tt locals) }

  pub out_goes : (port v : ℕ) → Goes Fine Any (act (Out port v))
  out_goes port v = record { by = λ after r locals. (tt, r tt tt locals) }

  pub begin_goes : Goes Fine Any (act Begin)
  begin_goes = record { by = λ after r locals. (tt, r tt tt locals) }

  pub end_goes : Goes Fine Any (act End)
  end_goes = record { by = λ after r locals. (tt, r tt tt locals) }

  pub in_goes : (port : ℕ) → Goes Fine Any (ask (In port))
  in_goes port = record { by = λ after r locals. (tt, λ x. r x tt locals) }

  pub post_goes : (k : ℕ) → Goes Fine Any (ask (Post k))
  post_goes k = record { by = λ after r locals. (tt, λ x. r x tt locals) }

  pub set_local_goes : (x : ℕ) (bytes : List ℕ) → Goes Fine Any (set_local x bytes)
  set_local_goes x bytes = record { by = λ after r locals. r tt tt _ }

  pub set_locals_goes : (first : ℕ) (all : List (List ℕ)) → Goes Fine Any (set_locals first all)
  set_locals_goes first [] = give_goes tt tt
  set_locals_goes first (bytes ∷ rest) = then_goes (set_local_goes first bytes) (λ _ _. set_locals_goes (first + 1) rest)

  pub if_goes : {A : Type 0} {Q : A → Type 0} {v w : Work A} (b : Bool) → Goes Fine Q v → Goes Fine Q w → Goes Fine Q (if b then v else w)
  if_goes true h k = h
  if_goes false h k = k

  pub tested_goes : {w : Work ℤ} → Goes Fine Any w → Goes Fine Any (tested w)
  tested_goes h = then_goes h (λ v _. give_goes _ tt)

  pub call_goes : {calls : Calls} {f : ℕ} (arguments : List ℤ) → CallGoes Fine calls f → Goes Fine Any (call calls f arguments)
  call_goes arguments h = record { by = λ after r locals. h.by arguments _ (λ v. r v tt locals) }

  -- ---- statements

  pub on_goes : (flow : Flow) {w : Work Flow} → Goes Fine Any w → Goes Fine Any (on flow w)
  on_goes On h = h
  on_goes Broke h = give_goes Broke tt
  on_goes Continued h = give_goes Continued tt
  on_goes (Gave v) h = give_goes (Gave v) tt

  again_goes : (flow : Flow) {w : Work Flow} → Goes Fine Any w → Goes Fine Any (again flow w)
  again_goes On h = h
  again_goes Broke h = give_goes On tt
  again_goes Continued h = h
  again_goes (Gave v) h = give_goes (Gave v) tt

  turn_goes : (first : Bool) {test : Work ℤ} {body : Work Flow} {step : Work (Unit {0})} {more : Work Flow}
      → Goes Fine Any test → Goes Fine Any body → Goes Fine Any step → Goes Fine Any more → Goes Fine Any (turn first test body step more)
  turn_goes true test body step more =
      then_goes tick_goes (λ _ _. then_goes test (λ x _. if_goes (is_zero x) (give_goes On tt)
      (then_goes body (λ flow _. again_goes flow (then_goes step (λ _ _. more))))))
  turn_goes false test body step more =
      then_goes tick_goes (λ _ _. then_goes body (λ flow _. again_goes flow
      (then_goes test (λ x _. if_goes (is_zero x) (give_goes On tt) more))))

  pub turns_go : (n : ℕ) (first : Bool) {test : Work ℤ} {body : Work Flow} {step : Work (Unit {0})}
      → Goes Fine Any test → Goes Fine Any body → Goes Fine Any step → Goes Fine Any (turns n first test body step)
  turns_go zero first test body step = record { by = λ after r locals. tt }
  turns_go (suc n) first test body step = turn_goes first test body step (turns_go n first test body step)

  pub from_case_goes : (case default : Option ℕ) {from : ℕ → Work Flow} → ((k : ℕ) → Goes Fine Any (from k)) → Goes Fine Any (from_case case default from)
  from_case_goes (Some k) default h = h k
  from_case_goes None (Some k) h = h k
  from_case_goes None None h = give_goes On tt
