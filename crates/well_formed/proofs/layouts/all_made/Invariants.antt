use Rattle.std.proofs.Common.{◌≡◌, [], drop, map}
use Rattle.nesc_core.specs.View.{field_of, structs_of}
use Rattle.well_formed.specs.Laid.{AreGood, laid}
use Rattle.well_formed.proofs.layouts.all_made.Given as goal

abbrev pub invariant-loop-fields : goal.invariant-loop-fields
invariant-loop-fields l = record {
  good : AreGood l.layouts.items (map (map field_of) (drop l.fields-index l.fields-items)) → AreGood [] (structs_of l.s);
  layouts : laid l.layouts.items (map (map field_of) (drop l.fields-index l.fields-items)) ≡ laid [] (structs_of l.s);
}
