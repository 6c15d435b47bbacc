-- The wires of an application as paths follow them (nesC 1.3 Reference, section 9): calls of commands go along the pairs, and signals of
-- events the other way.
use Rattle.std.specs.Prelude.{ℕ, cond, nat_eq, List, [], ◌∷◌, ◌++◌, map, Option, Some, None}
use Rattle.std.specs.List.{list_any}
use Rattle.wire_pairs.specs.declared.ends.End as linked
use Rattle.wire_pairs.specs.declared.ends.Pair.{Pair}
use Rattle.wire_targets.specs.declared.end.End.{End}
use Rattle.wire_targets.specs.declared.end.Wire.{Wire}
use Rattle.wire_paths.specs.declared.wires.Way.{Way}
use Rattle.wire_paths.specs.declared.wires.Way.TheVariants as way

abbrev pub end_of : linked.End → End
end_of e = record { instance = e.instance; element = e.element; param = e.param }

abbrev pub wire : End → End → Wire
wire from to = record { from = from; to = to }

abbrev pub wire_of : Way → Pair → Wire
wire_of way.Calls p = wire (end_of p.from) (end_of p.to)
wire_of way.Signals p = wire (end_of p.to) (end_of p.from)

abbrev pub wires_of : Way → List Pair → List Wire
wires_of w [] = []
wires_of w (p ∷ ps) = wire_of w p ∷ wires_of w ps

-- ---- the values that brackets name where wires begin, each once

abbrev pub noted : ℕ → List ℕ → List ℕ
noted v done = cond (list_any (nat_eq v) done) done (done ++ v ∷ [])

abbrev pub with_value : Option ℕ → List ℕ → List ℕ
with_value None done = done
with_value (Some v) done = noted v done

abbrev pub values_behind : List ℕ → List Wire → List ℕ
values_behind done [] = done
values_behind done (w ∷ ws) = values_behind (with_value w.from.param done) ws

abbrev pub values_of : List Wire → List ℕ
values_of ws = values_behind [] ws
