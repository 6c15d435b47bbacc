-- What null pointers, and what lies behind them, have of types.
use Rattle.std.proofs.Common.{◌≡◌, ℕ, ◌*◌, ◌<◌, ◌≤◌, List, subst, arith}
use Rattle.nm_base.specs.declared.int_type.IntType.{IntType}
use Rattle.nm_base.specs.declared.int_type.IntType.TheVariants.{U8, U16}
use Rattle.nesc_core.specs.Plain.{Ty, Expr, Field, int, pointer, array}
use Rattle.nesc_core.specs.Plain as plain
use Rattle.nesc_core.specs.Size.{IsSized, layout_of}
use Rattle.nesc_core.specs.Typing.{IsConverted, IsNumber, IsScalar, IsSome, IsStepped, IsTest, PointsWell}
use Rattle.well_formed.specs.declared.found.Found.{Found}
use Rattle.well_formed.specs.declared.found.Found.TheVariants.{Of, Null, Behind}
use Rattle.well_formed.specs.declared.scope.Scope.{Scope}
use Rattle.well_formed.specs.Kinds.{type_of_kind}
use Rattle.well_formed.specs.Scopes.{Has, HasFound, IsBehind, program_in}

-- ---- in each program there is a type of a pointer, and one of a pointer to values of so many bytes

to_byte : (structs : List (List Field)) → PointsWell structs (pointer (int U8))
to_byte structs = (record { names = tt; small = tt }, omega arith, tt)

bytes_are : (n : ℕ) → n ≡ 1 * n
bytes_are n = omega arith

to_bytes : (structs : List (List Field)) (n : ℕ) → 0 < n → n ≤ 32767 → IsStepped structs n (pointer (array (int U8) n))
to_bytes structs n some small = (
  (record { names = tt; small = (tt, subst (λ k. k ≤ 32767) (bytes_are n) small) }, subst (λ k. 0 < k) (bytes_are n) some, tt),
  bytes_are n,
)

module _ (s : Scope) (e : Expr) where
  byte_has : HasFound s e Null → Has s e (pointer (int U8))
  byte_has h = h (int U8) (to_byte (program_in s).structs)

  bytes_has : (n : ℕ) → IsBehind s e n → Has s e (pointer (array (int U8) n))
  bytes_has n h = h.has (array (int U8) n) (to_bytes (program_in s).structs n h.some h.small)

  pub some_found : (f : Found) → HasFound s e f → IsSome (Has s e)
  some_found (Of k) h = (type_of_kind k, h)
  some_found Null h = (pointer (int U8), byte_has h)
  some_found (Behind n) h = (pointer (array (int U8) n), bytes_has n h)

  pub test_null : HasFound s e Null → IsTest (Has s e)
  test_null h = (pointer (int U8), tt, byte_has h)

  pub test_behind : (n : ℕ) → HasFound s e (Behind n) → IsTest (Has s e)
  test_behind n h = (pointer (array (int U8) n), tt, bytes_has n h)

  pub convert_null : (t : IntType) → HasFound s e Null → t ≡ U16 → IsSome (λ from. IsConverted t from × Has s e from)
  convert_null t h is = (pointer (int U8), (is, byte_has h))

  pub convert_behind : (t : IntType) (n : ℕ) → HasFound s e (Behind n) → t ≡ U16 → IsSome (λ from. IsConverted t from × Has s e from)
  convert_behind t n h is = (pointer (array (int U8) n), (is, bytes_has n h))

  pub null_behind : (n : ℕ) → HasFound s e Null → 0 < n → n ≤ 32767 → IsBehind s e n
  null_behind n h some small = record { some = some; small = small; has = λ t stepped. h t stepped.0 }

  -- moved over values of so many bytes
  pub moved_of : (k : Ty) (n : ℕ) (b : Expr) → IsStepped (program_in s).structs n k → Has s e k → IsNumber (Has s b) → Has s (plain.offset e b n) k
  moved_of k n b stepped h number = (stepped, h, number)

  pub moved_behind : (n : ℕ) (b : Expr) → IsBehind s e n → IsNumber (Has s b) → IsBehind s (plain.offset e b n) n
  moved_behind n b h number = record { some = h.some; small = h.small; has = λ t stepped. (stepped, h.has t stepped, number) }

pub bytes_apart : (s : Scope) (a b : Expr) (n : ℕ) → IsBehind s a n → IsBehind s b n
    → IsSome (λ of. IsStepped (program_in s).structs n of × Has s a of × Has s b of)
bytes_apart s a b n first second =
    (pointer (array (int U8) n), (to_bytes (program_in s).structs n first.some first.small, bytes_has s a n first, bytes_has s b n second))

pub types_apart : (s : Scope) (a b : Expr) (n : ℕ) (t : Ty) → IsStepped (program_in s).structs n t → Has s a t → Has s b t
    → IsSome (λ of. IsStepped (program_in s).structs n of × Has s a of × Has s b of)
types_apart s a b n t stepped first second = (t, (stepped, first, second))

-- ---- what is chosen, and what stands behind a comma

pub choice_found : (s : Scope) (test a b : Expr) (f : Found) → IsTest (Has s test) → HasFound s a f → HasFound s b f → HasFound s (plain.choice test a b) f
choice_found s test a b (Of k) tested first second = (tested, first, second)
choice_found s test a b Null tested first second = λ t points. (tested, first t points, second t points)
choice_found s test a b (Behind n) tested first second =
    record { some = first.some; small = first.small; has = λ t stepped. (tested, first.has t stepped, second.has t stepped) }

pub comma_found : (s : Scope) (a b : Expr) (f : Found) → IsSome (Has s a) → HasFound s b f → HasFound s (plain.comma a b) f
comma_found s a b (Of k) some h = (some, h)
comma_found s a b Null some h = λ t points. (some, h t points)
comma_found s a b (Behind n) some h = record { some = h.some; small = h.small; has = λ t stepped. (some, h.has t stepped) }

pub ruleset parts = (choice_found, comma_found)
