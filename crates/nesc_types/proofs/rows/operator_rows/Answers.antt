use Rattle.std.proofs.Common.{refl}
use Rattle.nesc_types.proofs.rows.operator_rows.Goals as goal

pub returns : goal.returns
returns c = record {
  sums = record {
    products = refl;
    sums = refl;
    differences = refl;
  };
  quotients = record {
    quotients = refl;
    remainders = refl;
    left_shifts = refl;
    right_shifts = refl;
  };
  bits = record {
    ands = refl;
    exclusive_ors = refl;
    ors = refl;
    conjunctions = refl;
    disjunctions = refl;
  };
  comparisons = record {
    less = refl;
    greater = refl;
    at_most = refl;
    at_least = refl;
    equal = refl;
    unequal = refl;
  };
  unary = record {
    promotions = refl;
    negations = refl;
    complements = refl;
    tests = refl;
    casts = refl;
  };
}
