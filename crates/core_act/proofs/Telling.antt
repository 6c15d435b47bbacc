-- What pieces of work come to, put together.
use Rattle.std.proofs.Common.{◌≡◌, ◌∙◌, sym, subst, refl, ℕ, ℤ, Bool}
use Rattle.std.specs.Prelude.{pos}
use Rattle.nm_base.specs.declared.int_type.IntType.{IntType}
use Rattle.nm_base.specs.IntType.{wrapped}
use Rattle.nm_base.specs.declared.action.Action.TheVariants.{Load}
use Rattle.nm_base.specs.Behaviour.{Behaviour, Asks}
use Rattle.nesc_core.specs.Plain.{int}
use Rattle.core_meaning.specs.declared.access.Where.{Where}
use Rattle.core_meaning.specs.declared.access.Where.TheVariants.{At}
use Rattle.core_act.specs.declared.log.Log.{Log}
use Rattle.core_meaning.specs.Work.{Locals, Work, give, get, get_int, load}
use Rattle.core_act.specs.Told.{all_actions, Comes}

pub gives_comes : {A : Type 0} (x : A) (log : Log) (locals : Locals) → Comes (give x) log locals x log locals
gives_comes x log locals = record { by = λ after. refl }

pub then_comes : {A B : Type 0} {work : Work A} {next : A → Work B} {l m n : Log} {s t u : Locals} {x : A} {y : B}
    → Comes work l s x m t → Comes (next x) m t y n u → Comes (λ after. work (λ z. next z after)) l s y n u
then_comes h k = record { by = λ after. h.by _ ∙ k.by after }

pub gets_at : (w : Where) (a : ℕ) (is_word : Bool) (l m : Log) (s : Locals) (n : ℕ) → w ≡ At a
    → ((b : ℕ → Behaviour) → all_actions l (Asks (Load a is_word) b) ≡ all_actions m (b n)) → Comes (get w is_word) l s n m s
gets_at w a is_word l m s n is h =
    subst (λ v. Comes (get v is_word) l s n m s) (sym is) (record { by = λ after. h (λ x. after x s) })

pub loads_int : (t : IntType) (w : Where) (l m : Log) (s u : Locals) (n : ℕ) (v : ℤ) → Comes (get_int t w) l s n m u → v ≡ wrapped t (pos n) → Comes (load (int t) w) l s v m u
loads_int t w l m s u n v h is =
    subst (λ x. Comes (load (int t) w) l s x m u) (sym is) (record { by = λ after. h.by (λ k. after (wrapped t (pos k))) })
