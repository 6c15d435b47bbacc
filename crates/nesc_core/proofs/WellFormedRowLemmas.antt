-- The well-formed program of the worked rows.
use Rattle.std.specs.Prelude.{pos, true, slice_get}
use Rattle.std.proofs.Common.{◌≡◌, ℕ, take, zero, suc, ◌<◌, ◌≤◌, length, get_or, [], ◌∷◌, arith, All, Some, None, refl, subst}
use Rattle.nm_base.specs.declared.int_type.IntType.TheVariants.{U8, I16, U16}
use Rattle.nesc_core.specs.declared.tree.BinOp.TheVariants as op
use Rattle.nesc_core.specs.Plain.{Field, Object, Body, Case, void, int, pointer, struct, read, local, bin, update}
use Rattle.nesc_core.specs.Size.{NamesBelow, IsSmall, IsSized, struct_at}
use Rattle.nesc_core.specs.Rows.{start}
use Rattle.nesc_core.specs.Typing.{PointsWell, IsType, IsScalar, IsSome, IsTest, Has}
use Rattle.nesc_core.specs.Calls.{HasNoCycle, stmt_calls}
use Rattle.nesc_core.specs.WellFormed.{IsStmt, by_return, in_loop, IsBody, IsRoot, IsWellFormed}
use Rattle.nesc_core.specs.WellFormedRows.{number, same, boot, choosing, counting, good}

-- ---- the struct, whose size is 4

lower : (k : ℕ) → k < length good.structs → All (λ (f : Field). NamesBelow k f.ty) (get_or good.structs k [])
lower zero inside zero d below = tt
lower zero inside (suc zero) d below = tt
lower zero inside (suc (suc i)) d below = absurd (omega arith)
lower (suc k) inside i d below = absurd (omega arith)

small : (k : ℕ) → k < length good.structs → All (λ (f : Field). IsSmall (struct_at good.structs (length good.structs)) f.ty) (get_or good.structs k [])
small zero inside zero d below = tt
small zero inside (suc zero) d below = tt
small zero inside (suc (suc i)) d below = absurd (omega arith)
small (suc k) inside i d below = absurd (omega arith)

small_whole : (k : ℕ) → k < length good.structs → (struct_at good.structs (length good.structs) k).size ≤ 32767
small_whole zero inside = omega arith
small_whole (suc k) inside = absurd (omega arith)

struct_sized : IsSized good.structs (struct 0)
struct_sized = record { names = omega arith; small = omega arith }

fields_point : All (All (λ (f : Field). PointsWell good.structs f.ty)) good.structs
fields_point zero d inside zero e below = tt
fields_point zero d inside (suc zero) e below = (struct_sized, omega arith, tt)
fields_point zero d inside (suc (suc i)) e below = absurd (omega arith)
fields_point (suc k) d inside i e below = absurd (omega arith)

int_is : (t : _) → IsType good.structs (int t)
int_is t = record { sized = record { names = tt; small = tt }; points = tt }

void_is : IsType good.structs void
void_is = record { sized = record { names = tt; small = tt }; points = tt }

objects_are : All (λ (o : Object). IsType good.structs o.ty) good.objects
objects_are zero d inside = int_is _
objects_are (suc zero) d inside = record { sized = struct_sized; points = tt }
objects_are (suc (suc k)) d inside = absurd (omega arith)

-- ---- bodies

same_is : IsBody good same
same_is = record {
  params = omega arith;
  passed = scalars;
  locals = locals;
  result = int_is _;
  given = tt;
  code = ((tt, (refl, tt, omega arith)), tt);
  frame = omega arith;
  heres = λ k d inside. absurd (omega arith);
}
  where
    scalars : All IsScalar (take 1 same.locals)
    scalars zero d inside = tt
    scalars (suc k) d inside = absurd (omega arith)

    locals : All (IsType good.structs) same.locals
    locals zero d inside = int_is _
    locals (suc k) d inside = absurd (omega arith)

boot_is : IsBody good boot
boot_is = record {
  params = omega arith;
  passed = λ k d inside. absurd (omega arith);
  locals = λ k d inside. absurd (omega arith);
  result = void_is;
  given = tt;
  code = ((int U16, (refl, tt, omega arith, (refl, ((refl, refl), tt)))), ((int U8, (refl, omega arith)), tt));
  frame = omega arith;
  heres = λ k d inside. absurd (omega arith);
}

test : IsTest (Has good counting.locals (bin op.Lt U16 (read (local 0) start) (number 3)))
test = (int I16, tt, (refl, tt, (refl, tt, omega arith), (refl, refl)))

step : IsSome (Has good counting.locals (update (local 0) op.Add U16 (number 1) true start))
step = (int U16, (refl, (tt, tt), omega arith, (refl, refl)))

cases : All (λ (c : Case). c.start < 2) (record { value = Some (pos 1); start = 0 } ∷ record { value = None; start = 1 } ∷ [])
cases zero d inside = omega arith
cases (suc zero) d inside = omega arith
cases (suc (suc k)) d inside = absurd (omega arith)

to_struct : PointsWell good.structs (pointer (struct 0))
to_struct = (struct_sized, omega arith, tt)

choosing_is : IsStmt good counting.locals choosing (in_loop (by_return void))
choosing_is = (
  (U16, (refl, tt, omega arith)),
  cases,
  (
    refl,
    (
      (
        int U8,
        (
          refl,
          tt,
          (omega arith, (to_struct, (refl, to_struct, omega arith))),
          (refl, (int U16, (tt, (refl, refl)))),
        ),
      ),
      tt,
    ),
  ),
)

counting_is : IsBody good counting
counting_is = record {
  params = omega arith;
  passed = λ k d inside. absurd (omega arith);
  locals = locals;
  result = void_is;
  given = tt;
  code = (omega arith, ((test, step, choosing_is), tt));
  frame = omega arith;
  heres = λ k d inside. absurd (omega arith);
}
  where
    locals : All (IsType good.structs) counting.locals
    locals zero d inside = int_is _
    locals (suc k) d inside = absurd (omega arith)

bodies_are : All (IsBody good) good.bodies
bodies_are zero d inside = same_is
bodies_are (suc zero) d inside = boot_is
bodies_are (suc (suc zero)) d inside = counting_is
bodies_are (suc (suc (suc k))) d inside = absurd (omega arith)

tasks_are : All (λ f. IsRoot (slice_get good.bodies f)) good.tasks
tasks_are zero d inside = (refl, refl)
tasks_are (suc k) d inside = absurd (omega arith)

handlers_are : All (λ (h : ℕ × ℕ). IsRoot (slice_get good.bodies h.1)) good.handlers
handlers_are zero d inside = (refl, refl)
handlers_are (suc k) d inside = absurd (omega arith)

lines_are : All (λ (h : ℕ × ℕ). h.0 < 8) good.handlers
lines_are zero d inside = omega arith
lines_are (suc k) d inside = absurd (omega arith)

pub good_is_well_formed : IsWellFormed good
good_is_well_formed = record {
  structs = record { lower = lower; small = small; small_whole = small_whole };
  fields = fields_point;
  objects = objects_are;
  addresses = (omega arith, refl, (omega arith, refl, omega arith));
  bodies = bodies_are;
  tasks = tasks_are;
  handlers = handlers_are;
  lines = lines_are;
  differ = λ i j d lt inside. absurd (omega arith);
  boot = (refl, refl);
  boot_atomic = tt;
}

-- ---- calls

rank : ℕ → ℕ
rank zero = 0
rank (suc zero) = 1
rank (suc (suc f)) = 0

low : (f : ℕ) → rank f < length good.bodies
unfolding rank
low zero = omega arith
low (suc zero) = omega arith
low (suc (suc f)) = omega arith

boot_falls : All (λ g. rank g < 1) (stmt_calls boot.code)
unfolding rank
boot_falls zero d inside = omega arith
boot_falls (suc k) d inside = absurd (omega arith)

falls : (f : ℕ) (b : Body) → slice_get good.bodies f ≡ Some b → All (λ g. rank g < rank f) (stmt_calls b.code)
unfolding rank
falls zero b is = let e : same ≡ b = cc in subst (λ (c : Body). All (λ g. rank g < 0) (stmt_calls c.code)) e (λ k d inside. absurd (omega arith))
falls (suc zero) b is = let e : boot ≡ b = cc in subst (λ (c : Body). All (λ g. rank g < 1) (stmt_calls c.code)) e boot_falls
falls (suc (suc zero)) b is = let e : counting ≡ b = cc in subst (λ (c : Body). All (λ g. rank g < 0) (stmt_calls c.code)) e (λ k d inside. absurd (omega arith))
falls (suc (suc (suc f))) b is = absurd (cc)

pub good_has_no_cycle : HasNoCycle good
good_has_no_cycle = record { rank = rank; low = λ f b is. low f; falls = falls }
