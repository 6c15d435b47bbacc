-- The programs of the rows are well formed.
use Rattle.std.specs.Prelude.{slice_get}
use Rattle.std.proofs.Common.{◌≡◌, ℕ, take, zero, suc, ◌<◌, ◌≤◌, length, get_or, [], arith, All, refl}
use Rattle.nm_base.specs.declared.int_type.IntType.TheVariants.{I8, I16, U8, U16, U32}
use Rattle.nesc_core.specs.Plain.{Ty, Expr, Case, Stmt, Field, Object, void, int, pointer}
use Rattle.nesc_core.specs.Size.{AreSized, NamesBelow, IsSmall, struct_at}
use Rattle.nesc_core.specs.Typing.{PointsWell, IsType, IsScalar, IsConverted, Has}
use Rattle.nesc_core.specs.Heres.{IsAlone, heres, stmt_locals, times}
use Rattle.nesc_core.specs.Weights.{frame_weight}
use Rattle.nesc_core.specs.WellFormed.{IsStmt, by_return, greatest_frame, IsBody, IsRoot, IsWellFormed}
use Rattle.act_rows.specs.declared.row.Row.{Row}
use Rattle.act_rows.specs.declared.row.Row.TheVariants as row
use Rattle.act_rows.specs.declared.row.Value.{Value}
use Rattle.act_rows.specs.declared.row.Value.TheVariants as value
use Rattle.act_rows.specs.Bodies.{structs, objects, boot, same, locals, task, program, shown, returning, cases, value_of, statement_of, lost_update, long_stored, local_kept, through_pointer, into_element, into_field, branching, while_asked, do_while_asked, continued, broken, switching, returned, inlined_shown, cleared}

-- ---- the struct, whose size is 4

lower : (k : ℕ) → k < length structs → All (λ (f : Field). NamesBelow k f.ty) (get_or structs k [])
lower zero inside zero d below = tt
lower zero inside (suc zero) d below = tt
lower zero inside (suc (suc i)) d below = absurd (omega arith)
lower (suc k) inside i d below = absurd (omega arith)

small : (k : ℕ) → k < length structs → All (λ (f : Field). IsSmall (struct_at structs (length structs)) f.ty) (get_or structs k [])
small zero inside zero d below = tt
small zero inside (suc zero) d below = tt
small zero inside (suc (suc i)) d below = absurd (omega arith)
small (suc k) inside i d below = absurd (omega arith)

small_whole : (k : ℕ) → k < length structs → (struct_at structs (length structs) k).size ≤ 32767
small_whole zero inside = omega arith
small_whole (suc k) inside = absurd (omega arith)

are_sized : AreSized structs
are_sized = record { lower = lower; small = small; small_whole = small_whole }

fields_point : All (All (λ (f : Field). PointsWell structs f.ty)) structs
fields_point zero d inside zero e below = tt
fields_point zero d inside (suc zero) e below = tt
fields_point zero d inside (suc (suc i)) e below = absurd (omega arith)
fields_point (suc k) d inside i e below = absurd (omega arith)

-- ---- types

int_is : (t : _) → IsType structs (int t)
int_is t = record { sized = record { names = tt; small = tt }; points = tt }

void_is : IsType structs void
void_is = record { sized = record { names = tt; small = tt }; points = tt }

to_word : PointsWell structs (pointer (int U16))
to_word = (record { names = tt; small = tt }, omega arith, tt)

to_byte : PointsWell structs (pointer (int U8))
to_byte = (record { names = tt; small = tt }, omega arith, tt)

objects_are : All (λ (o : Object). IsType structs o.ty) objects
objects_are zero d inside = int_is _
objects_are (suc zero) d inside = record { sized = record { names = tt; small = (tt, omega arith) }; points = tt }
objects_are (suc (suc zero)) d inside = record { sized = record { names = tt; small = tt }; points = to_byte }
objects_are (suc (suc (suc zero))) d inside = record { sized = record { names = omega arith; small = omega arith }; points = tt }
objects_are (suc (suc (suc (suc zero)))) d inside = int_is _
objects_are (suc (suc (suc (suc (suc zero))))) d inside = int_is _
objects_are (suc (suc (suc (suc (suc (suc k)))))) d inside = absurd (omega arith)

-- ---- rows

record IsRow (s : Stmt) : Type 0 where
  typed : IsStmt (program s) locals s (by_return void)
  frame : frame_weight (program s) (task s) ≤ greatest_frame
  heres : All (IsAlone s) (heres s [])

shown_is : (e : Expr) (t : Ty) → IsConverted U16 t → Has (program (shown e)) locals e t → frame_weight (program (shown e)) (task (shown e)) ≤ greatest_frame → IsRow (shown e)
shown_is e t converts has frame = record { typed = (void, (refl, refl, (refl, (t, (converts, has))))); frame = frame; heres = λ k d inside. absurd (omega arith) }

value_is : (v : Value) → IsRow (shown (value_of v))
value_is value.OldValue = shown_is (value_of value.OldValue) (int U16) tt (refl, (tt, tt), omega arith, (refl, (int I16, (tt, (refl, refl))))) (omega arith)
value_is value.NewValue = shown_is (value_of value.NewValue) (int U8) tt (refl, (tt, tt), omega arith, (refl, refl)) (omega arith)
value_is value.LongRead = shown_is (value_of value.LongRead) (int U32) tt (refl, tt, (refl, tt, omega arith), (I16, tt, (refl, refl))) (omega arith)
value_is value.ByteRead = shown_is (value_of value.ByteRead) (int U8) tt (refl, tt, omega arith) (omega arith)
value_is value.Moved = shown_is (value_of value.Moved) (pointer (int U16)) refl ((to_word, refl), (refl, to_word, omega arith), (I16, (refl, (int U16, (tt, (refl, refl)))))) (omega arith)
value_is value.Apart = shown_is (value_of value.Apart) (int I16) tt (refl, (pointer (int U16), ((to_word, refl), ((to_word, refl), (refl, to_word, omega arith), (I16, (refl, (int U16, (tt, (refl, refl)))))), (refl, to_word, omega arith)))) (omega arith)
value_is value.Negative = shown_is (value_of value.Negative) (int I16) tt (refl, tt, (refl, (int U16, (tt, (refl, refl))))) (omega arith)
value_is value.Complement = shown_is (value_of value.Complement) (int I16) tt (refl, tt, (refl, (int U16, (tt, (refl, refl))))) (omega arith)
value_is value.Zero = shown_is (value_of value.Zero) (int I16) tt (refl, tt, (refl, (int U16, (tt, (refl, refl))))) (omega arith)
value_is value.Quotient = shown_is (value_of value.Quotient) (int I16) tt (refl, tt, (refl, refl), (refl, (int U16, (tt, (refl, refl))))) (omega arith)
value_is value.Narrowed = shown_is (value_of value.Narrowed) (int I8) tt (refl, (int U16, (tt, (refl, refl)))) (omega arith)
value_is value.Null = shown_is (value_of value.Null) (pointer (int U8)) refl to_byte (omega arith)
value_is value.Both = shown_is (value_of value.Both) (int I16) tt (refl, (int U16, tt, (refl, refl)), (int U16, tt, (refl, refl))) (omega arith)
value_is value.Either = shown_is (value_of value.Either) (int I16) tt (refl, (int U16, tt, (refl, refl)), (int U16, tt, (refl, refl))) (omega arith)
value_is value.Chosen = shown_is (value_of value.Chosen) (int U16) tt ((int U16, tt, (refl, refl)), (refl, refl), (refl, (int I16, (tt, (refl, refl))))) (omega arith)
value_is value.InOrder = shown_is (value_of value.InOrder) (int U16) tt ((int U16, (refl, refl)), (refl, refl)) (omega arith)
value_is value.Called = shown_is (value_of value.Called) (int U16) tt (refl, ((refl, refl), tt)) (omega arith)
value_is value.Posted = shown_is (value_of value.Posted) (int U8) tt (refl, omega arith) (omega arith)

cases_are : All (λ (c : Case). c.start < 3) cases
cases_are zero d inside = omega arith
cases_are (suc zero) d inside = omega arith
cases_are (suc (suc zero)) d inside = omega arith
cases_are (suc (suc (suc k))) d inside = absurd (omega arith)

alone : All (IsAlone inlined_shown) (heres inlined_shown [])
alone zero d inside = record { locals = one; result = λ gives. omega arith }
  where
    one : (x : ℕ) → 0 ≤ x → x < 1 → times x (stmt_locals inlined_shown) ≡ times x (stmt_locals returning)
    one zero from below = refl
    one (suc x) from below = absurd (omega arith)
alone (suc k) d inside = absurd (omega arith)

lost_update_is : IsRow lost_update
lost_update_is = record {
  typed = (int U16, (refl, tt, omega arith, (refl, tt, (refl, tt, omega arith), (refl, (int I16, (tt, (refl, refl)))))));
  frame = omega arith;
  heres = λ k d inside. absurd (omega arith);
}

long_stored_is : IsRow long_stored
long_stored_is = record {
  typed = (int U32, (refl, tt, omega arith, (refl, refl)));
  frame = omega arith;
  heres = λ k d inside. absurd (omega arith);
}

local_kept_is : IsRow local_kept
local_kept_is = record {
  typed = ((int U8, (refl, tt, omega arith, (refl, (int U16, (tt, (refl, refl)))))), ((void, (refl, refl, (refl, (int U8, (tt, (refl, tt, omega arith)))))), tt));
  frame = omega arith;
  heres = λ k d inside. absurd (omega arith);
}

through_pointer_is : IsRow through_pointer
through_pointer_is = record {
  typed = (int U8, (refl, tt, (to_byte, (refl, tt, omega arith)), (refl, (int I16, (tt, (refl, refl))))));
  frame = omega arith;
  heres = λ k d inside. absurd (omega arith);
}

into_element_is : IsRow into_element
into_element_is = record {
  typed = (int U8, (refl, tt, (tt, omega arith, (I16, (refl, (int U16, (tt, (refl, refl)))))), (refl, (int U16, (tt, (refl, refl))))));
  frame = omega arith;
  heres = λ k d inside. absurd (omega arith);
}

into_field_is : IsRow into_field
into_field_is = record {
  typed = (int U16, (refl, tt, (omega arith, omega arith), (refl, (int I16, (tt, (refl, refl))))));
  frame = omega arith;
  heres = λ k d inside. absurd (omega arith);
}

branching_is : IsRow branching
branching_is = record {
  typed = ((int U16, tt, (refl, refl)), (void, (refl, refl, (refl, (int I16, (tt, (refl, refl)))))), (void, (refl, refl, (refl, (int I16, (tt, (refl, refl)))))));
  frame = omega arith;
  heres = λ k d inside. absurd (omega arith);
}

while_asked_is : IsRow while_asked
while_asked_is = record {
  typed = ((int U16, tt, (refl, refl)), (void, (refl, refl, (refl, (int I16, (tt, (refl, refl)))))), (void, (refl, refl, (refl, (int I16, (tt, (refl, refl)))))));
  frame = omega arith;
  heres = λ k d inside. absurd (omega arith);
}

do_while_asked_is : IsRow do_while_asked
do_while_asked_is = record {
  typed = ((int U16, tt, (refl, refl)), tt, (void, (refl, refl, (refl, (int I16, (tt, (refl, refl)))))));
  frame = omega arith;
  heres = λ k d inside. absurd (omega arith);
}

continued_is : IsRow continued
continued_is = record {
  typed = ((int U16, tt, (refl, refl)), (void, (refl, refl, (refl, (int I16, (tt, (refl, refl)))))), (refl, ((void, (refl, refl, (refl, (int I16, (tt, (refl, refl)))))), tt)));
  frame = omega arith;
  heres = λ k d inside. absurd (omega arith);
}

broken_is : IsRow broken
broken_is = record {
  typed = (((int I16, tt, (refl, refl)), (void, (refl, refl, (refl, (int I16, (tt, (refl, refl)))))), refl), ((void, (refl, refl, (refl, (int I16, (tt, (refl, refl)))))), tt));
  frame = omega arith;
  heres = λ k d inside. absurd (omega arith);
}

switching_is : IsRow switching
switching_is = record {
  typed = ((U16, (refl, refl)), cases_are, ((void, (refl, refl, (refl, (int I16, (tt, (refl, refl)))))), (((void, (refl, refl, (refl, (int I16, (tt, (refl, refl)))))), (refl, tt)), ((void, (refl, refl, (refl, (int I16, (tt, (refl, refl)))))), tt))));
  frame = omega arith;
  heres = λ k d inside. absurd (omega arith);
}

returned_is : IsRow returned
returned_is = record {
  typed = (((int U16, tt, (refl, refl)), tt, tt), ((void, (refl, refl, (refl, (int I16, (tt, (refl, refl)))))), tt));
  frame = omega arith;
  heres = λ k d inside. absurd (omega arith);
}

inlined_shown_is : IsRow inlined_shown
inlined_shown_is = record {
  typed = ((record { inside = omega arith; room = omega arith; passed = ((refl, refl), tt) }, (tt, (refl, (int U16, (tt, (refl, tt, (refl, tt, omega arith), (refl, refl))))))), ((void, (refl, refl, (refl, (int U8, (tt, (refl, tt, omega arith)))))), tt));
  frame = omega arith;
  heres = alone;
}

cleared_is : IsRow cleared
cleared_is = record {
  typed = ((int U16, (refl, tt, omega arith, (refl, (int I16, (tt, (refl, refl)))))), ((omega arith, ((void, (refl, refl, (refl, (int U16, (tt, (refl, tt, omega arith)))))), tt)), tt));
  frame = omega arith;
  heres = λ k d inside. absurd (omega arith);
}

is_row : (r : Row) → IsRow (statement_of r)
is_row row.LostUpdate = lost_update_is
is_row row.LongStored = long_stored_is
is_row row.Local = local_kept_is
is_row row.Pointed = through_pointer_is
is_row row.Element = into_element_is
is_row row.SecondField = into_field_is
is_row row.Branch = branching_is
is_row row.While = while_asked_is
is_row row.DoWhile = do_while_asked_is
is_row row.Continued = continued_is
is_row row.Broken = broken_is
is_row row.Switch = switching_is
is_row row.Returned = returned_is
is_row row.Inlined = inlined_shown_is
is_row row.Cleared = cleared_is
is_row (row.Shown v) = value_is v

-- ---- the program

module _ (s : Stmt) (r : IsRow s) where
  boot_is : IsBody (program s) boot
  boot_is = record {
    params = omega arith;
    passed = λ k d inside. absurd (omega arith);
    locals = λ k d inside. absurd (omega arith);
    result = void_is;
    given = tt;
    code = tt;
    frame = omega arith;
    heres = λ k d inside. absurd (omega arith);
  }

  same_is : IsBody (program s) same
  same_is = record {
    params = omega arith;
    passed = scalars;
    locals = same_locals;
    result = int_is _;
    given = tt;
    code = (tt, (refl, tt, omega arith));
    frame = omega arith;
    heres = λ k d inside. absurd (omega arith);
  }
    where
      scalars : All IsScalar (take 1 same.locals)
      scalars zero d inside = tt
      scalars (suc k) d inside = absurd (omega arith)

      same_locals : All (IsType structs) same.locals
      same_locals zero d inside = int_is _
      same_locals (suc k) d inside = absurd (omega arith)

  task_is : IsBody (program s) (task s)
  task_is = record {
    params = omega arith;
    passed = λ k d inside. absurd (omega arith);
    locals = task_locals;
    result = void_is;
    given = tt;
    code = r.typed;
    frame = r.frame;
    heres = r.heres;
  }
    where
      task_locals : All (IsType structs) locals
      task_locals zero d inside = int_is _
      task_locals (suc zero) d inside = int_is _
      task_locals (suc (suc zero)) d inside = int_is _
      task_locals (suc (suc (suc k))) d inside = absurd (omega arith)

  bodies_are : All (IsBody (program s)) (program s).bodies
  bodies_are zero d inside = boot_is
  bodies_are (suc zero) d inside = same_is
  bodies_are (suc (suc zero)) d inside = task_is
  bodies_are (suc (suc (suc k))) d inside = absurd (omega arith)

  tasks_are : All (λ f. IsRoot (slice_get (program s).bodies f)) (program s).tasks
  tasks_are zero d inside = (refl, refl)
  tasks_are (suc k) d inside = absurd (omega arith)

  of_row : IsWellFormed (program s)
  of_row = record {
    structs = are_sized;
    fields = fields_point;
    objects = objects_are;
    addresses = (omega arith, refl, (omega arith, refl, (omega arith, refl, (omega arith, refl, (omega arith, refl, (omega arith, refl, omega arith))))));
    bodies = bodies_are;
    tasks = tasks_are;
    handlers = λ k d inside. absurd (omega arith);
    lines = λ k d inside. absurd (omega arith);
    differ = λ i j d lt inside. absurd (omega arith);
    boot = (refl, refl);
    boot_atomic = tt;
  }

pub is_well_formed : (r : Row) → IsWellFormed (program (statement_of r))
is_well_formed r = of_row (statement_of r) (is_row r)
