-- Work of a kernel's bodies against that of the source's.
use Rattle.std.proofs.Common.{ℕ, ℤ, zero, suc, ◌+◌, Bool, true, false, List, [], ◌∷◌, Option, Some, None, refl, if◌then◌else◌}
use Rattle.nm_base.specs.declared.action.Action.{Action}
use Rattle.nm_base.specs.declared.action.Action.TheVariants.{Begin, End, In, Out, Tick}
use Rattle.nm_base.specs.Behaviour.{Behaviour}
use Rattle.core_meaning.specs.Numbers.{is_zero}
use Rattle.core_meaning.specs.declared.flow.Flow.{Flow}
use Rattle.core_meaning.specs.declared.flow.Flow.TheVariants.{On, Broke, Continued, Gave}
use Rattle.core_meaning.specs.Flow.{on, again, turn, turns, from_case}
use Rattle.core_meaning.specs.Work.{Locals, Work, give, ◌>>=◌, act, ask, fault, or_fault, set_local, set_locals}
use Rattle.core_meaning.specs.Act.{Calls, call, tested}
use Rattle.source_accesses.proofs.Keeps.{Keeps, Owes}
use Rattle.loop_runs.specs.Kernel.{Queue, IsPlain, Expands}

-- where accesses of the source are fine, the kernel's behaviour expands it
abbrev pub Expanded : (Q : Queue) (Fine : ℕ → Bool → Type 0) → Behaviour → Behaviour → Type 0
Expanded Q Fine t u = Keeps Fine u → Expands Q t u

pub record Expanding (Q : Queue) (Fine : ℕ → Bool → Type 0) {A : Type 0} (w2 w : Work A) : Type 0 where
  pub by : (after2 after : A → Locals → Behaviour) → ((x : A) (l : Locals) → Expanded Q Fine (after2 x l) (after x l)) → (l : Locals) → Expanded Q Fine (w2 after2 l) (w after l)

pub record CallExpands (Q : Queue) (Fine : ℕ → Bool → Type 0) (c2 c : Calls) (f : ℕ) : Type 0 where
  pub by : (arguments : List ℤ) (after2 after : ℤ → Behaviour) → ((v : ℤ) → Expanded Q Fine (after2 v) (after v)) → Expanded Q Fine (c2 f arguments after2) (c f arguments after)

-- ---- pieces

pub then_expands : {Q : Queue} {Fine : ℕ → Bool → Type 0} {A B : Type 0} {w2 w : Work A} {g2 g : A → Work B}
    → Expanding Q Fine w2 w → ((x : A) → Expanding Q Fine (g2 x) (g x)) → Expanding Q Fine (◌>>=◌ w2 g2) (◌>>=◌ w g)
then_expands h k = record { by = λ after2 after r. h.by _ _ (λ x. (k x).by after2 after r) }

module _ {Q : Queue} {Fine : ℕ → Bool → Type 0} where
  pub give_expands : {A : Type 0} (x : A) → Expanding Q Fine (give x) (give x)
  give_expands x = record { by = λ after2 after r l. r x l }

  pub fault_expands : {A : Type 0} (code : ℕ) → Expanding Q Fine (fault {A = A} code) (fault {A = A} code)
  fault_expands code = record { by = λ after2 after r l keep. refl }

  pub or_fault_expands : (code : ℕ) (z : Option ℤ) → Expanding Q Fine (or_fault code z) (or_fault code z)
  or_fault_expands code None = fault_expands code
  or_fault_expands code (Some z) = give_expands z

  pub act_expands : (a : Action) → (Owes Fine a → IsPlain Q a) → Expanding Q Fine (act a) (act a)
  act_expands a plain = record { by = λ after2 after r l keep. (refl, plain keep.0, r tt l keep.1) }

  pub ask_expands : (a : Action) → (Owes Fine a → IsPlain Q a) → Expanding Q Fine (ask a) (ask a)
  ask_expands a plain = record { by = λ after2 after r l keep. (refl, plain keep.0, λ x. r x l (keep.1 x)) }

  pub tick_expands : Expanding Q Fine (act Tick) (act Tick)
  tick_expands = act_expands Tick (λ _. tt)

  pub out_expands : (port v : ℕ) → Expanding Q Fine (act (Out port v)) (act (Out port v))
  out_expands port v = act_expands (Out port v) (λ _. tt)

  pub in_expands : (port : ℕ) → Expanding Q Fine (ask (In port)) (ask (In port))
  in_expands port = ask_expands (In port) (λ _. tt)

  pub begin_expands : Expanding Q Fine (act Begin) (act Begin)
  begin_expands = act_expands Begin (λ _. tt)

  pub end_expands : Expanding Q Fine (act End) (act End)
  end_expands = act_expands End (λ _. tt)

  pub set_local_expands : (x : ℕ) (bytes : List ℕ) → Expanding Q Fine (set_local x bytes) (set_local x bytes)
  set_local_expands x bytes = record { by = λ after2 after r l. r tt _ }

  pub set_locals_expand : (first : ℕ) (all : List (List ℕ)) → Expanding Q Fine (set_locals first all) (set_locals first all)
  set_locals_expand first [] = give_expands tt
  set_locals_expand first (bytes ∷ rest) = then_expands (set_local_expands first bytes) (λ _. set_locals_expand (first + 1) rest)

  pub if_expands : {A : Type 0} {v2 v w2 w : Work A} (t : Bool) → Expanding Q Fine v2 v → Expanding Q Fine w2 w → Expanding Q Fine (if t then v2 else w2) (if t then v else w)
  if_expands true h k = h
  if_expands false h k = k

  pub tested_expands : {w2 w : Work ℤ} → Expanding Q Fine w2 w → Expanding Q Fine (tested w2) (tested w)
  tested_expands h = then_expands h (λ v. give_expands _)

  pub call_expands : {c2 c : Calls} {f : ℕ} (arguments : List ℤ) → CallExpands Q Fine c2 c f → Expanding Q Fine (call c2 f arguments) (call c f arguments)
  call_expands arguments h = record { by = λ after2 after r l. h.by arguments _ _ (λ v. r v l) }

  -- ---- statements

  pub on_expands : (flow : Flow) {w2 w : Work Flow} → Expanding Q Fine w2 w → Expanding Q Fine (on flow w2) (on flow w)
  on_expands On h = h
  on_expands Broke h = give_expands Broke
  on_expands Continued h = give_expands Continued
  on_expands (Gave v) h = give_expands (Gave v)

  again_expands : (flow : Flow) {w2 w : Work Flow} → Expanding Q Fine w2 w → Expanding Q Fine (again flow w2) (again flow w)
  again_expands On h = h
  again_expands Broke h = give_expands On
  again_expands Continued h = h
  again_expands (Gave v) h = give_expands (Gave v)

  turn_expands : (first : Bool) {test2 test : Work ℤ} {body2 body : Work Flow} {step2 step : Work (Unit {0})} {more2 more : Work Flow}
      → Expanding Q Fine test2 test → Expanding Q Fine body2 body → Expanding Q Fine step2 step → Expanding Q Fine more2 more
      → Expanding Q Fine (turn first test2 body2 step2 more2) (turn first test body step more)
  turn_expands true test body step more =
      then_expands tick_expands (λ _. then_expands test (λ x. if_expands (is_zero x) (give_expands On)
      (then_expands body (λ flow. again_expands flow (then_expands step (λ _. more))))))
  turn_expands false test body step more =
      then_expands tick_expands (λ _. then_expands body (λ flow. again_expands flow
      (then_expands test (λ x. if_expands (is_zero x) (give_expands On) more))))

  pub turns_expand : (n : ℕ) (first : Bool) {test2 test : Work ℤ} {body2 body : Work Flow} {step2 step : Work (Unit {0})}
      → Expanding Q Fine test2 test → Expanding Q Fine body2 body → Expanding Q Fine step2 step
      → Expanding Q Fine (turns n first test2 body2 step2) (turns n first test body step)
  turns_expand zero first test body step = record { by = λ after2 after r l keep. tt }
  turns_expand (suc n) first test body step = turn_expands first test body step (turns_expand n first test body step)

  pub from_case_expands : (case default : Option ℕ) {from2 from : ℕ → Work Flow} → ((k : ℕ) → Expanding Q Fine (from2 k) (from k)) → Expanding Q Fine (from_case case default from2) (from_case case default from)
  from_case_expands (Some k) default h = h k
  from_case_expands None (Some k) h = h k
  from_case_expands None None h = give_expands On
