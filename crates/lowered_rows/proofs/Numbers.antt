-- The programs of the rows are well formed, and their expressions typed.
use Rattle.std.specs.Prelude.{true, false, Bool, if◌then◌else◌}
use Rattle.std.proofs.Common.{◌≡◌, ℕ, ◌==◌, List, [], ◌∷◌, arith, refl, sym, subst}
use Rattle.std.proofs.lemmas.List.Elements.{All-cons, All-nil}
use Rattle.nm_base.specs.declared.int_type.IntType.TheVariants.{U8, I16, U16, I32}
use Rattle.nesc_core.specs.declared.tree.BinOp.TheVariants.{Div, Rem, Shr}
use Rattle.nesc_core.specs.Plain.{Expr, bin, convert, int, void}
use Rattle.nesc_core.specs.Typing.{IsType}
use Rattle.nesc_core.specs.WellFormed.{IsBody, IsWellFormed}
use Rattle.mid_code.specs.declared.code.Check.{Check}
use Rattle.mid_code.specs.declared.code.MidFn.{MidFn}
use Rattle.mid_code.specs.Form.{IsMidCode}
use Rattle.lowered_rows.specs.Form.{alone}
use Rattle.lowered_rows.specs.Numbers.{IsWritable, less, long_sum, lowered, row, minus, number, shifted, sum, value_of_row, writer, writing}
use Rattle.lowered_rows.proofs.Formed.{formed}

-- ---- the rows

abbrev pub Writable : Expr → Type 0
Writable e = IsWritable (convert U16 e)

sum_is : Writable sum
sum_is = record {
  typed = (refl, (int I16, (tt, (refl, tt, (refl, (int U8, (tt, (refl, (int I16, (tt, (refl, refl))))))), (refl, (int U8, (tt, (refl, (int I16, (tt, (refl, refl)))))))))));
  form = refl;
  frame = omega arith;
  labels = omega arith;
  levels = omega arith;
}

low_byte_is : Writable (convert U8 sum)
low_byte_is = record {
  typed = (refl, (int U8, (tt, (refl, (int I16, (tt, (refl, tt, (refl, (int U8, (tt, (refl, (int I16, (tt, (refl, refl))))))), (refl, (int U8, (tt, (refl, (int I16, (tt, (refl, refl))))))))))))));
  form = refl;
  frame = omega arith;
  labels = omega arith;
  levels = omega arith;
}

to_sign_is : Writable (shifted 1 15)
to_sign_is = record {
  typed = (refl, (int I16, (tt, (refl, tt, (refl, refl), (I16, tt, (refl, refl))))));
  form = refl;
  frame = omega arith;
  labels = omega arith;
  levels = omega arith;
}

past_width_is : Writable (shifted 1 16)
past_width_is = record {
  typed = (refl, (int I16, (tt, (refl, tt, (refl, refl), (I16, tt, (refl, refl))))));
  form = refl;
  frame = omega arith;
  labels = omega arith;
  levels = omega arith;
}

signed_shift_is : Writable (bin Shr I16 (minus 1) (number 20))
signed_shift_is = record {
  typed = (refl, (int I16, (tt, (refl, tt, (refl, tt, (refl, refl)), (I16, tt, (refl, refl))))));
  form = refl;
  frame = omega arith;
  labels = omega arith;
  levels = omega arith;
}

less_is : Writable less
less_is = record {
  typed = (refl, (int I16, (tt, (refl, tt, (refl, (int I16, (tt, (refl, tt, (refl, refl))))), (refl, refl)))));
  form = refl;
  frame = omega arith;
  labels = omega arith;
  levels = omega arith;
}

long_sum_is : Writable long_sum
long_sum_is = record {
  typed = (refl, (int I32, (tt, (refl, tt, (refl, refl), (refl, (int I16, (tt, (refl, refl))))))));
  form = refl;
  frame = omega arith;
  labels = omega arith;
  levels = omega arith;
}

quotient_is : Writable (bin Div I16 (minus 7) (number 2))
quotient_is = record {
  typed = (refl, (int I16, (tt, (refl, tt, (refl, tt, (refl, refl)), (refl, refl)))));
  form = refl;
  frame = omega arith;
  labels = omega arith;
  levels = omega arith;
}

remainder_is : Writable (bin Rem I16 (minus 7) (number 2))
remainder_is = record {
  typed = (refl, (int I16, (tt, (refl, tt, (refl, tt, (refl, refl)), (refl, refl)))));
  form = refl;
  frame = omega arith;
  labels = omega arith;
  levels = omega arith;
}

either : (t : Bool) (a b : Expr) → Writable a → Writable b → Writable (if t then a else b)
either true a b x y = x
either false a b x y = y

each_row_is : (row : ℕ) → Writable (value_of_row row)
each_row_is row =
    either (row == 0) _ _ sum_is (either (row == 1) _ _ low_byte_is (either (row == 2) _ _ to_sign_is (either (row == 3) _ _ past_width_is
    (either (row == 4) _ _ signed_shift_is (either (row == 5) _ _ less_is (either (row == 6) _ _ long_sum_is (either (row == 7) _ _ quotient_is remainder_is)))))))

pub row_is_writable : (k : ℕ) (e : Expr) → e ≡ row k → IsWritable e
row_is_writable k e is = subst IsWritable (sym is) (each_row_is k)

-- ---- the program

module _ (e : Expr) (w : IsWritable e) where
  void_is : IsType (writing e).structs void
  void_is = record { sized = record { names = tt; small = tt }; points = tt }

  writer_is : IsBody (writing e) (writer e)
  writer_is = record {
    params = omega arith;
    passed = λ k d inside. absurd (omega arith);
    locals = λ k d inside. absurd (omega arith);
    result = void_is;
    given = tt;
    code = (void, (refl, refl, w.typed));
    frame = w.frame;
    heres = λ k d inside. absurd (omega arith);
  }

  pub writing_is_well_formed : IsWellFormed (writing e)
  writing_is_well_formed = record {
    structs = record { lower = λ k inside. absurd (omega arith); small = λ k inside. absurd (omega arith); small_whole = λ k inside. absurd (omega arith) };
    fields = All-nil _;
    objects = All-nil _;
    addresses = omega arith;
    bodies = All-cons (IsBody (writing e)) (writer e) [] writer_is (All-nil _);
    tasks = All-nil _;
    handlers = All-nil _;
    lines = All-nil _;
    differ = λ i j d lt inside. absurd (omega arith);
    boot = (refl, refl);
    boot_atomic = tt;
  }

  lowered_is_code : IsMidCode (alone (lowered e))
  lowered_is_code = formed (lowered e) refl w.form

  pub code_is : (f : MidFn) (fns : List MidFn) (checks : List Check) → f ≡ lowered e → fns ≡ f ∷ [] → checks ≡ [] → IsMidCode (record { fns = fns; checks = checks })
  code_is f fns checks f_is fns_is none = rw (fns_is, f_is, none) lowered_is_code
