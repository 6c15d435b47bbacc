-- The function of a body keeps the rules of form of middle code.
use Rattle.std.proofs.Common.{List, [], ◌∷◌, All}
use Rattle.std.proofs.lemmas.List.Elements.{All-cons, All-head, All-nil, All-tail}
use Rattle.nesc_core.specs.Plain.{Ty, Body, Program}
use Rattle.nesc_core.specs.WellFormed.{IsBody}
use Rattle.mid_code.specs.declared.instr.Mid.{Mid}
use Rattle.mid_code.specs.Form.{IsMidFn, NamesOwn}
use Rattle.expr_emitter.specs.Laws.{NamesBelow}
use Rattle.lower_stmt.specs.Bodies.{body_code, mid_fn_of}
use Rattle.lower_stmt.proofs.Destinations.{LabelsStand, labels_stand}
use Rattle.lower_stmt.proofs.Labels.{once_each}
use Rattle.lower_stmt.proofs.Named.{names_its_values}

-- what follows for each from two facts of each
each_by_two : (P Q R : Mid → Type 0) → ((i : Mid) → P i → Q i → R i) → (is : List Mid) → All P is → All Q is → All R is
each_by_two P Q R go [] h g = All-nil R
each_by_two P Q R go (i ∷ is) h g = All-cons R i is (go i (All-head P i is h) (All-head Q i is g)) (each_by_two P Q R go is (All-tail P i is h) (All-tail Q i is g))

pub is_mid_fn : (p : Program) (checks : List Ty) (b : Body) → IsBody p b → IsMidFn (mid_fn_of p checks b)
is_mid_fn p checks b own =
    let named = names_its_values p checks b own in
    record {
      names = each_by_two (NamesBelow (mid_fn_of p checks b).values) (LabelsStand (body_code p checks b)) (NamesOwn (mid_fn_of p checks b))
          (λ i values labels. record { written = values.written; read = values.read; labels = labels }) (body_code p checks b) named.code (labels_stand p checks b own);
      params = named.params;
      once = once_each p checks b;
    }
