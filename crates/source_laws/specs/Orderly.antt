-- What is asked and what is done, and that atomic statements end as they began (own, after the nesC 1.3 Language Reference, 9: a return, a break or a continue out of an atomic statement ends it).
use Rattle.std.specs.Prelude.{⊤, ℕ, zero, suc, ◌≡◌}
use Rattle.nm_base.specs.declared.action.Action.{Action}
use Rattle.nm_base.specs.declared.action.Action.TheVariants.{Load, Store, In, Out, Post, Begin, End, Tick}
use Rattle.nm_base.specs.Behaviour.{Behaviour, Returns, Does, Asks, Faults, Cut}
use Rattle.nesc_core.specs.Plain.{Program}
use Rattle.core_meaning.specs.Act.{root}

-- a Load, an In or a Post has an answer
abbrev pub IsAsked : Action → Type 0
IsAsked (Load x wide) = ⊤
IsAsked (In port) = ⊤
IsAsked (Post k) = ⊤
IsAsked _ = ⊥

-- so many atomic statements are open behind this action; None where an End closes none, or where the action has an answer or stops the mote
abbrev pub Goes : Action → (count : ℕ) → (ℕ → Type 0) → Type 0
Goes Begin count Then = Then (suc count)
Goes End zero Then = ⊥
Goes End (suc count) Then = Then count
Goes (Store x wide v) count Then = Then count
Goes (Out port v) count Then = Then count
Goes Tick count Then = Then count
Goes _ count Then = ⊥

-- where so many atomic statements are open: what has an answer is asked, all else is done, an End closes an open statement, and a return leaves none open
abbrev pub IsOrderly : Behaviour → (count : ℕ) → Type 0
IsOrderly (Returns v) = λ count. count ≡ 0
IsOrderly (Does a rest) = λ count. Goes a count (IsOrderly rest)
IsOrderly (Asks a rest) = λ count. IsAsked a × ((x : ℕ) → IsOrderly (rest x) count)
IsOrderly (Faults code) = λ count. ⊤
IsOrderly Cut = λ count. ⊤

abbrev pub BodiesAreOrderly : Type 0
BodiesAreOrderly = (p : Program) (f n : ℕ) → IsOrderly (root p f n) 0
