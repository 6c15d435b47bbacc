-- The kernel's own code has its types.
use Rattle.std.proofs.Common.{◌≡◌, ℕ, ◌+◌, ◌<◌, ◌≤◌, List, [], ◌∷◌, length, refl, sym, subst, ap, arith, length-append}
use Rattle.std.specs.Prelude.{slice_get}
use Rattle.nm_base.specs.declared.int_type.IntType.TheVariants.{I16, U8, U16}
use Rattle.nesc_core.specs.Plain.{Ty, int, array, convert, Expr, Place, local, Program}
use Rattle.nesc_core.specs.PlaceTypes.{element_of, object_type, place_type}
use Rattle.nesc_core.specs.Typing.{Has, IsArray, IsPlace, IsTest, IsType}
use Rattle.nesc_core.specs.WellFormed.{Exits, IsStmt, by_return}
use Rattle.task_queue.specs.Kernel.{busy, byte, byte_of, bytes_object, differs, head, is_equal, kernel_program, less, link, next, other, pop_code, put, queue_code, success, sum, tail, task, the_other, the_task, unlink, value_at, waits, word, word_at}
use Rattle.kernel_formed.proofs.Typed.{byte_is, get_seam, word_is}

-- ---- in a body with two bytes, the first of which holds a task

module _ (p : Program) where
  abbrev K : Program
  K = kernel_program p

  abbrev bytes : ℕ
  bytes = length p.objects

  abbrev types : List Ty
  types = int U8 ∷ int U8 ∷ []

  there : bytes < length K.objects
  there = omega (arith, length-append p.objects (bytes_object p ∷ []))

  bytes_are : object_type (slice_get K.objects bytes) ≡ array (int U8) (length p.tasks + 2)
  bytes_are = ap object_type (get_seam p.objects (bytes_object p))

  -- ---- a place that holds a byte

  record IsByte (place : Place) : Type 0 where
    is : IsPlace K types place
    holds : place_type K types place ≡ int U8

  first_there : IsByte (local 0)
  first_there = record { is = omega arith; holds = refl }

  second_there : IsByte (local 1)
  second_there = record { is = omega arith; holds = refl }

  value_has : (place : Place) → IsByte place → Has K types (value_at place) (int U8)
  value_has place b = (sym b.holds, tt, b.is)

  word_has : (place : Place) → IsByte place → Has K types (word_at place) (int U16)
  word_has place b = (refl, (int U8, (tt, value_has place b)))

  put_is : (place : Place) (e : Expr) (x : Exits) → IsByte place → Has K types e (int U8) → IsStmt K types (put place e) x
  put_is place e x b h = (int U8, (sym b.holds, tt, b.is, h))

  -- ---- numbers

  literal_word : (n : ℕ) → n < 65536 → Has K types (word n) (int U16)
  literal_word n lt = (refl, word_is n lt)

  literal_byte : (n : ℕ) → n < 256 → Has K types (byte n) (int U8)
  literal_byte n lt = (refl, byte_is n lt)

  zero_has : Has K types (word 0) (int U16)
  zero_has = literal_word 0 (omega arith)

  one_has : Has K types (word 1) (int U16)
  one_has = literal_word 1 (omega arith)

  no_task_has : Has K types (byte 0) (int U8)
  no_task_has = literal_byte 0 (omega arith)

  task_has : Has K types task (int U8)
  task_has = value_has (local 0) first_there

  the_task_has : Has K types the_task (int U16)
  the_task_has = word_has (local 0) first_there

  other_has : Has K types other (int U8)
  other_has = value_has (local 1) second_there

  the_other_has : Has K types the_other (int U16)
  the_other_has = word_has (local 1) second_there

  sum_has : (a b : Expr) → Has K types a (int U16) → Has K types b (int U16) → Has K types (sum a b) (int U16)
  sum_has a b f g = (refl, tt, f, g)

  less_has : (a b : Expr) → Has K types a (int U16) → Has K types b (int U16) → Has K types (less a b) (int U16)
  less_has a b f g = (refl, tt, f, g)

  as_byte : (e : Expr) → Has K types e (int U16) → Has K types (convert U8 e) (int U8)
  as_byte e h = (refl, (int U16, (tt, h)))

  is_equal_test : (a b : Expr) → Has K types a (int U16) → Has K types b (int U16) → IsTest (Has K types (is_equal a b))
  is_equal_test a b f g = (int I16, tt, (refl, tt, f, g))

  differs_test : (a b : Expr) → Has K types a (int U16) → Has K types b (int U16) → IsTest (Has K types (differs a b))
  differs_test a b f g = (int I16, tt, (refl, tt, f, g))

  -- ---- the kernel's bytes

  byte_there : (e : Expr) → Has K types e (int U16) → IsByte (byte_of bytes e)
  byte_there e h = record {
    is = (subst IsArray (sym bytes_are) tt, there, (U16, h));
    holds = ap element_of bytes_are;
  }

  head_there : IsByte (head bytes)
  head_there = byte_there (word 0) zero_has

  tail_there : IsByte (tail bytes)
  tail_there = byte_there (word 1) one_has

  next_there : (e : Expr) → Has K types e (int U16) → IsByte (next bytes e)
  next_there e h = byte_there (sum e (word 1)) (sum_has e (word 1) h one_has)

  next_of_task : IsByte (next bytes the_task)
  next_of_task = next_there the_task the_task_has

  -- ---- queue

  waits_is : IsTest (Has K types (waits bytes))
  waits_is = (
    int I16,
    tt,
    (
      refl,
      differs_test (word_at (next bytes the_task)) (word 0) (word_has (next bytes the_task) next_of_task) zero_has,
      is_equal_test the_other the_task the_other_has the_task_has,
    ),
  )

  link_is : (x : Exits) → IsStmt K types (link bytes) x
  link_is x = (
    is_equal_test the_other (word 0) the_other_has zero_has,
    put_is (head bytes) task x head_there task_has,
    put_is (next bytes the_other) task x (next_there the_other the_other_has) task_has,
  )

  pub queue_code_is : IsStmt K types (queue_code bytes) (by_return (int U8))
  queue_code_is =
      let x : Exits = by_return (int U8) in (
        put_is (local 0) (convert U8 (sum the_task (word 1))) x first_there (as_byte (sum the_task (word 1)) (sum_has the_task (word 1) the_task_has one_has)),
        (
          put_is (local 1) (value_at (tail bytes)) x second_there (value_has (tail bytes) tail_there),
          (
            (waits_is, (tt, literal_byte busy (omega arith)), tt),
            (
              link_is x,
              (
                put_is (tail bytes) task x tail_there task_has,
                (
                  (tt, literal_byte success (omega arith)),
                  tt,
                ),
              ),
            ),
          ),
        ),
      )

  -- ---- pop

  unlink_is : (x : Exits) → IsStmt K types (unlink bytes) x
  unlink_is x = (
    put_is (local 1) (value_at (next bytes the_task)) x second_there (value_has (next bytes the_task) next_of_task),
    (
      put_is (head bytes) other x head_there other_has,
      (
        put_is (next bytes the_task) (byte 0) x next_of_task no_task_has,
        (
          (
            is_equal_test the_other (word 0) the_other_has zero_has,
            put_is (tail bytes) (byte 0) x tail_there no_task_has,
            tt,
          ),
          tt,
        ),
      ),
    ),
  )

  pub pop_code_is : IsStmt K types (pop_code bytes) (by_return (int U8))
  pop_code_is =
      let x : Exits = by_return (int U8) in (
        put_is (local 0) (value_at (head bytes)) x first_there (value_has (head bytes) head_there),
        (
          (differs_test the_task (word 0) the_task_has zero_has, unlink_is x, tt),
          (
            (tt, as_byte (less the_task (word 1)) (less_has the_task (word 1) the_task_has one_has)),
            tt,
          ),
        ),
      )

-- ---- the bytes

pub bytes_type_is : (p : Program) → length p.tasks ≤ 254 → IsType p.structs (array (int U8) (length p.tasks + 2))
bytes_type_is p few = record { sized = record { names = tt; small = (tt, omega (arith, few)) }; points = tt }
