-- Pieces of the kernel's two functions, each inside an atomic statement: what is read and what is written.
use Rattle.std.proofs.Common.{◌≡◌, ◌≢◌, ℕ, ℤ, pos, ◌+◌, ◌*◌, ◌%◌, ◌^◌, ◌<◌, ◌≤◌, Bool, true, false, List, [], ◌∷◌, ◌++◌, length, Option, Some, refl, sym, subst, ap, ◌∙◌, arith}
use Rattle.std.specs.Prelude.{suc, ◌==◌, ◌&&◌, nat_le, nat_lt, if◌then◌else◌, slice_get, slice_set, slice_index_or, ◌-ℤ◌, unsigned_abs}
use Rattle.std.specs.Int.{int_rem_euclid}
use Rattle.std.specs.Ordering.{int_eq}
use Rattle.std.proofs.Math.Nat.{mod-eq_of_lt}
use Rattle.std.proofs.lemmas.Bool.Decides.{nat_tests, Decides-eqb, Decides-int_eq, same_from_decides}
use Rattle.std.proofs.lemmas.Int.{ints}
use Rattle.nm_base.specs.Behaviour.{Behaviour, Does, Asks}
use Rattle.nm_base.specs.declared.action.Action.TheVariants.{Load, Store}
use Rattle.nm_base.specs.declared.int_type.IntType.TheVariants.{U8, U16}
use Rattle.nm_base.specs.IntType.{wrapped}
use Rattle.nesc_core.specs.Plain.{Ty, int, Expr, Object, Program, convert, assign, local}
use Rattle.nesc_core.specs.PlaceTypes.{element_of, count_of, object_type}
use Rattle.nesc_core.specs.Weights.{even, objects_end}
use Rattle.core_meaning.specs.Layout.{size_of, object_address}
use Rattle.core_meaning.specs.Numbers.{residue}
use Rattle.core_meaning.specs.Work.{Locals, give, fault, moved, load, store}
use Rattle.core_meaning.specs.declared.access.Where.{Where}
use Rattle.core_meaning.specs.declared.access.Where.TheVariants.{At}
use Rattle.core_meaning.specs.Act.{Calls, value, element}
use Rattle.run_meaning.specs.State.{stored}
use Rattle.task_queue.specs.Posting.{nowhere}
use Rattle.task_queue.specs.Kernel.{Fits, bytes_object, kernel_program, byte_of, value_at, word_at, word, task, the_task, other, the_other, sum, less}
use Rattle.queue_law.specs.Contract.{IsQueued, Inside}
use Rattle.queue_law.specs.Bytes.{address_in, is_byte_in}
use Rattle.queue_law.proofs.Lists.{is_same, is_other}

-- ---- numbers

pub int_same : (a b : ℕ) → int_eq (pos a) (pos b) ≡ (a == b)
int_same a b =
    let d = Decides-eqb a b in
    same_from_decides (int_eq (pos a) (pos b)) (a == b) (Decides-int_eq (pos a) (pos b)) ((λ e. ap pos (d.0 e)), (λ e. d.1 (ap unsigned_abs e)))

pub kept_byte : (n : ℕ) → n < 256 → int_rem_euclid (pos n) (pos 256) ≡ pos n
kept_byte n small = ap pos (mod-eq_of_lt small)

pub kept_word : (n : ℕ) → n < 65536 → int_rem_euclid (pos n) (pos 65536) ≡ pos n
kept_word n small = ap pos (mod-eq_of_lt small)

one_less : (n : ℕ) → pos (n + 1) -ℤ pos 1 ≡ pos n
one_less n = omega (arith, ints)

pub residue_is : (n : ℕ) → n < 256 → residue 8 (pos n) ≡ n
residue_is n small = mod-eq_of_lt small

pub wrote : (st : ℕ → ℕ) (x v a : ℕ) → a ≡ x → v < 256 → stored st x false v a ≡ v
wrote st x v a same small = ap (λ t. if t then v % 256 else st a) (ap (λ y. y == x) same ∙ is_same x) ∙ mod-eq_of_lt small

pub left_alone : (st : ℕ → ℕ) (x v a : ℕ) → a ≢ x → stored st x false v a ≡ st a
left_alone st x v a other = ap (λ t. if t then v % 256 else st a) (is_other a x other)

below : (a b : ℕ) → a < b → nat_lt a b ≡ true
below a b lt = by_test (nat_lt a b) refl
  where
    by_test : (t : Bool) → nat_lt a b ≡ t → nat_lt a b ≡ true
    by_test true is = is
    by_test false is = absurd (grind (arith, nat_tests))

at_most : (a b : ℕ) → a ≤ b → nat_le a b ≡ true
at_most a b le = by_test (nat_le a b) refl
  where
    by_test : (t : Bool) → nat_le a b ≡ t → nat_le a b ≡ true
    by_test true is = is
    by_test false is = absurd (grind (arith, nat_tests))

last_object : (os : List Object) (o : Object) → slice_get (os ++ o ∷ []) (length os) ≡ Some o
last_object [] o = refl
last_object (x ∷ os) o = last_object os o

even_most : (n : ℕ) → even n ≤ n + 1
even_most n = omega arith

-- ---- both functions have two locals, of a byte each

abbrev pub types : List Ty
types = int U8 ∷ int U8 ∷ []

abbrev pub holds : (first second : ℕ) → Locals
holds k j = (k ∷ []) ∷ (j ∷ []) ∷ []

module _ (p : Program) (fits : Fits p) (calls : Calls) where
  abbrev pub K : Program
  K = kernel_program p

  abbrev pub bytes : ℕ
  bytes = length p.objects

  abbrev pub A : ℕ
  A = address_in p

  abbrev pub N : ℕ
  N = length p.tasks

  object_is : slice_get K.objects bytes ≡ Some (bytes_object p)
  object_is = last_object p.objects (bytes_object p)

  pub few : N ≤ 254
  few = fits.tasks

  low : A + 256 ≤ 65535
  low = let room = fits.room in omega (arith, even_most (objects_end p), room)

  -- ---- element i of the bytes

  abbrev spot : Option Object → ℤ → (Where → Locals → Behaviour) → Locals → Behaviour
  spot o i = element (count_of (object_type o)) (size_of K (element_of (object_type o))) (At (object_address o)) i

  at_place : (i : ℕ) → i < N + 2 → (f : Where → Locals → Behaviour) (locals : Locals) → spot (Some (bytes_object p)) (pos i) f locals ≡ f (At (A + i)) locals
  at_place i lt f locals =
      let same : (A + i * 1) % 2 ^ 16 ≡ A + i = omega (arith, low, few, lt) in
      ap (λ t. (if t then give (moved (At A) (i * 1)) else fault 1) f locals) (below i (N + 2) lt) ∙ ap (λ a. f (At a) locals) same

  abbrev reading : Option Object → (ℤ → Locals → Behaviour) → ℤ → Locals → Behaviour
  reading o after i = spot o i (λ w. load (element_of (object_type o)) w after)

  reading_is : (i : ℕ) → i < N + 2 → (after : ℤ → Locals → Behaviour) (locals : Locals)
      → reading (slice_get K.objects bytes) after (pos i) locals ≡ Asks (Load (A + i) false) (λ x. after (wrapped U8 (pos x)) locals)
  reading_is i lt after locals = ap (λ o. reading o after (pos i) locals) object_is ∙ at_place i lt (λ w. load (int U8) w after) locals

  abbrev writing : Option Object → Expr → (ℤ → Locals → Behaviour) → ℤ → Locals → Behaviour
  writing o v after i = spot o i (λ w. value K types calls v (λ x. store (element_of (object_type o)) w x (λ _. after x)))

  writing_is : (i : ℕ) → i < N + 2 → (v : Expr) (after : ℤ → Locals → Behaviour) (locals : Locals)
      → writing (slice_get K.objects bytes) v after (pos i) locals ≡ value K types calls v (λ x l. Does (Store (A + i) false (residue 8 x)) (after x l)) locals
  writing_is i lt v after locals =
      ap (λ o. writing o v after (pos i) locals) object_is ∙ at_place i lt (λ w. value K types calls v (λ x. store (int U8) w x (λ _. after x))) locals

  -- ---- expressions without actions

  abbrev pub Gives : Expr → Locals → ℕ → Type 0
  Gives e locals i = (after : ℤ → Locals → Behaviour) → value K types calls e after locals ≡ after (pos i) locals

  pub as_byte : (e : Expr) (locals : Locals) (i : ℕ) → i < 256 → Gives e locals i → Gives (convert U8 e) locals i
  as_byte e locals i small gives after = gives (λ x. after (wrapped U8 x)) ∙ ap (λ v. after v locals) (kept_byte i small)

  as_word : (e : Expr) (locals : Locals) (i : ℕ) → i < 256 → Gives e locals i → Gives (convert U16 e) locals i
  as_word e locals i small gives after = gives (λ x. after (wrapped U16 x)) ∙ ap (λ v. after v locals) (kept_word i (omega (arith, small)))

  pub task_gives : (k j : ℕ) → k < 256 → Gives task (holds k j) k
  task_gives k j small after = ap (λ v. after v (holds k j)) (kept_byte k small)

  pub the_task_gives : (k j : ℕ) → k < 256 → Gives the_task (holds k j) k
  the_task_gives k j small = as_word task (holds k j) k small (task_gives k j small)

  pub other_gives : (k j : ℕ) → j < 256 → Gives other (holds k j) j
  other_gives k j small after = ap (λ v. after v (holds k j)) (kept_byte j small)

  pub the_other_gives : (k j : ℕ) → j < 256 → Gives the_other (holds k j) j
  the_other_gives k j small = as_word other (holds k j) j small (other_gives k j small)

  pub one_more_gives : (e : Expr) (locals : Locals) (k : ℕ) → k < 256 → Gives e locals k → Gives (sum e (word 1)) locals (k + 1)
  one_more_gives e locals k small gives after = gives _ ∙ ap (λ v. after v locals) (kept_word (k + 1) (omega (arith, small)))

  pub one_less_gives : (e : Expr) (locals : Locals) (k : ℕ) → k < 256 → Gives e locals (k + 1) → Gives (less e (word 1)) locals k
  one_less_gives e locals k small gives after = gives _ ∙ ap (λ v. after (wrapped U16 v) locals) (one_less k) ∙ ap (λ v. after v locals) (kept_word k (omega (arith, small)))

  -- ---- inside a statement

  module _ (Behind : (ℕ → ℕ) → Behaviour → Type 0) where
    abbrev pub In : Behaviour → (most : ℕ) → (ℕ → ℕ) → Type 0
    In b most st = Inside (is_byte_in p) b most st Behind

    queued : (i : ℕ) → i < N + 2 → IsQueued (is_byte_in p) (A + i) false
    queued i lt = (ap (λ t. t && nat_lt (A + i) (A + (N + 2))) (at_most A (A + i) (omega arith)) ∙ below (A + i) (A + (N + 2)) (omega (arith, lt)), λ wide. absurd (cc))

    -- a byte, as it is and as a word
    byte_in : (e : Expr) (i m most : ℕ) (st : ℕ → ℕ) (after : ℤ → Locals → Behaviour) (locals : Locals) → Gives e locals i → i < N + 2 → st (A + i) ≡ m → m < 256
        → In (after (pos m) locals) most st → In (value K types calls (value_at (byte_of bytes e)) after locals) (suc most) st
    byte_in e i m most st after locals gives lt is small h =
        subst (λ b. In b (suc most) st) (sym (gives _ ∙ reading_is i lt after locals))
        (queued i lt, subst (λ v. In (after v locals) most st) (sym (ap (λ x. wrapped U8 (pos x)) is ∙ kept_byte m small)) h)

    pub word_in : (e : Expr) (i m most : ℕ) (st : ℕ → ℕ) (after : ℤ → Locals → Behaviour) (locals : Locals) → Gives e locals i → i < N + 2 → st (A + i) ≡ m → m < 256
        → In (after (pos m) locals) most st → In (value K types calls (word_at (byte_of bytes e)) after locals) (suc most) st
    word_in e i m most st after locals gives lt is small h =
        byte_in e i m most st (λ x. after (wrapped U16 x)) locals gives lt is small (subst (λ v. In (after v locals) most st) (sym (kept_word m (omega (arith, small)))) h)

    -- a local gets a value, or a byte that is read
    pub first_gets_in : (e : Expr) (k j i most : ℕ) (st : ℕ → ℕ) (after : ℤ → Locals → Behaviour) → Gives e (holds k j) i → i < 256
        → In (after (pos i) (holds i j)) most st → In (value K types calls (assign (local 0) e nowhere) after (holds k j)) most st
    first_gets_in e k j i most st after gives small h =
        subst (λ b. In b most st) (sym (gives (λ v l. after v (slice_set l 0 (slice_set (slice_index_or l 0 []) 0 (residue 8 v))))))
        (subst (λ x. In (after (pos i) (holds x j)) most st) (sym (residue_is i small)) h)

    pub first_reads_in : (e : Expr) (k j i m most : ℕ) (st : ℕ → ℕ) (after : ℤ → Locals → Behaviour) → Gives e (holds k j) i → i < N + 2 → st (A + i) ≡ m → m < 256
        → In (after (pos m) (holds m j)) most st → In (value K types calls (assign (local 0) (value_at (byte_of bytes e)) nowhere) after (holds k j)) (suc most) st
    first_reads_in e k j i m most st after gives lt is small h =
        byte_in e i m most st (λ v l. after v (slice_set l 0 (slice_set (slice_index_or l 0 []) 0 (residue 8 v)))) (holds k j) gives lt is small
        (subst (λ x. In (after (pos m) (holds x j)) most st) (sym (residue_is m small)) h)

    pub second_reads_in : (e : Expr) (k j i m most : ℕ) (st : ℕ → ℕ) (after : ℤ → Locals → Behaviour) → Gives e (holds k j) i → i < N + 2 → st (A + i) ≡ m → m < 256
        → In (after (pos m) (holds k m)) most st → In (value K types calls (assign (local 1) (value_at (byte_of bytes e)) nowhere) after (holds k j)) (suc most) st
    second_reads_in e k j i m most st after gives lt is small h =
        byte_in e i m most st (λ v l. after v (slice_set l 1 (slice_set (slice_index_or l 1 []) 0 (residue 8 v)))) (holds k j) gives lt is small
        (subst (λ x. In (after (pos m) (holds k x)) most st) (sym (residue_is m small)) h)

    -- a byte gets a value
    pub put_in : (e v : Expr) (i j most : ℕ) (st : ℕ → ℕ) (after : ℤ → Locals → Behaviour) (locals : Locals) → Gives e locals i → i < N + 2 → Gives v locals j → j < 256
        → In (after (pos j) locals) most (stored st (A + i) false j) → In (value K types calls (assign (byte_of bytes e) v nowhere) after locals) (suc most) st
    put_in e v i j most st after locals gives lt given small h =
        subst (λ b. In b (suc most) st) (sym (gives _ ∙ writing_is i lt v after locals ∙ given _))
        (queued i lt, subst (λ w. In (after (pos j) locals) most (stored st (A + i) false w)) (sym (residue_is j small)) h)
