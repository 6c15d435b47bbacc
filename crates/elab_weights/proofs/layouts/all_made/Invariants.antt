use Rattle.std.proofs.Common.{◌≡◌, [], drop, length, map}
use Rattle.elab_meaning.specs.View.{struct_of}
use Rattle.program_meaning.specs.Walk.{fields_of}
use Rattle.elab_weights.specs.Tables.{NameLower, laid}
use Rattle.elab_weights.proofs.layouts.all_made.Given as goal

abbrev pub invariant-loop-one : goal.invariant-loop-one
invariant-loop-one l = record {
  count : length l.layouts.items ≡ l.one-index;
  lower : NameLower l.one-index (fields_of (map struct_of (drop l.one-index l.structs))) → NameLower 0 (fields_of (map struct_of l.structs));
  layouts : laid l.layouts.items (fields_of (map struct_of (drop l.one-index l.structs))) ≡ laid [] (fields_of (map struct_of l.structs));
}
