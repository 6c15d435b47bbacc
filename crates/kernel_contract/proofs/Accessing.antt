-- Accesses of the source's objects and locals, in the kernel's bodies as in the source's.
use Rattle.std.proofs.Common.{ℕ, ℤ, pos, negsuc, ◌*◌, nat_lt, Bool, true, false}
use Rattle.nm_base.specs.declared.action.Action.TheVariants.{Load, Store}
use Rattle.nm_base.specs.declared.int_type.IntType.{IntType}
use Rattle.nm_base.specs.declared.int_type.IntType.TheVariants.{I8, U8, I16, U16, I32, U32}
use Rattle.nesc_core.specs.Plain.{Ty, void, int, pointer, array, struct}
use Rattle.core_meaning.specs.declared.access.Where.{Where}
use Rattle.core_meaning.specs.declared.access.Where.TheVariants.{At, Within}
use Rattle.core_meaning.specs.Work.{moved, get, set, get_long, set_long, get_int, set_int, number_of, load, store}
use Rattle.core_meaning.specs.Act.{element}
use Rattle.loop_runs.specs.Kernel.{Queue, IsApart}
use Rattle.kernel_contract.proofs.Expanding.{Expanding, then_expands, give_expands, fault_expands, ask_expands, act_expands, if_expands}

module _ {Q : Queue} {Fine : ℕ → Bool → Type 0} (apart : (x : ℕ) (wide : Bool) → Fine x wide → IsApart Q x wide) where
  get_expands : (w : Where) (is_word : Bool) → Expanding Q Fine (get w is_word) (get w is_word)
  get_expands (At a) is_word = ask_expands (Load a is_word) (apart a is_word)
  get_expands (Within x o) false = record { by = λ after2 after r l. r _ l }
  get_expands (Within x o) true = record { by = λ after2 after r l. r _ l }

  set_expands : (w : Where) (is_word : Bool) (n : ℕ) → Expanding Q Fine (set w is_word n) (set w is_word n)
  set_expands (At a) is_word n = act_expands (Store a is_word n) (apart a is_word)
  set_expands (Within x o) false n = record { by = λ after2 after r l. r tt _ }
  set_expands (Within x o) true n = record { by = λ after2 after r l. r tt _ }

  get_long_expands : (w : Where) → Expanding Q Fine (get_long w) (get_long w)
  get_long_expands w = then_expands (get_expands w true) (λ x. then_expands (get_expands (moved w 2) true) (λ y. give_expands _))

  set_long_expands : (w : Where) (n : ℕ) → Expanding Q Fine (set_long w n) (set_long w n)
  set_long_expands w n = then_expands (set_expands w true _) (λ _. set_expands (moved w 2) true _)

  get_int_expands : (t : IntType) (w : Where) → Expanding Q Fine (get_int t w) (get_int t w)
  get_int_expands I8 w = get_expands w false
  get_int_expands U8 w = get_expands w false
  get_int_expands I16 w = get_expands w true
  get_int_expands U16 w = get_expands w true
  get_int_expands I32 w = get_long_expands w
  get_int_expands U32 w = get_long_expands w

  set_int_expands : (t : IntType) (w : Where) (n : ℕ) → Expanding Q Fine (set_int t w n) (set_int t w n)
  set_int_expands I8 w n = set_expands w false n
  set_int_expands U8 w n = set_expands w false n
  set_int_expands I16 w n = set_expands w true n
  set_int_expands U16 w n = set_expands w true n
  set_int_expands I32 w n = set_long_expands w n
  set_int_expands U32 w n = set_long_expands w n

  pub load_expands : (t : Ty) (w : Where) → Expanding Q Fine (load t w) (load t w)
  load_expands void w = then_expands (get_expands w true) (λ n. give_expands _)
  load_expands (int t) w = then_expands (get_int_expands t w) (λ n. give_expands _)
  load_expands (pointer t) w = then_expands (get_expands w true) (λ n. give_expands _)
  load_expands (array t k) w = then_expands (get_expands w true) (λ n. give_expands _)
  load_expands (struct k) w = then_expands (get_expands w true) (λ n. give_expands _)

  pub store_expands : (t : Ty) (w : Where) (v : ℤ) → Expanding Q Fine (store t w v) (store t w v)
  store_expands t w v = set_int_expands (number_of t) w _

module _ {Q : Queue} {Fine : ℕ → Bool → Type 0} where
  pub element_expands : (many size : ℕ) (w : Where) (i : ℤ) → Expanding Q Fine (element many size w i) (element many size w i)
  element_expands many size w (pos i) = if_expands (nat_lt i many) (give_expands (moved w (i * size))) (fault_expands 1)
  element_expands many size w (negsuc i) = fault_expands 1
