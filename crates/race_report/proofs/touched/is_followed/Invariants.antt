use Rattle.std.proofs.Common.{◌≡◌, drop}
use Rattle.std.specs.List.{list_any}
use Rattle.nesc_core.specs.Parts.{same_type}
use Rattle.nesc_core.specs.View.{type_of}
use Rattle.race_report.proofs.touched.is_followed.Given as goal

abbrev pub invariant-loop-u : goal.invariant-loop-u
invariant-loop-u l =
    list_any (λ u. same_type (type_of u.now) (type_of l.t)) (drop l.u-index l.followed) ≡ list_any (λ u. same_type (type_of u.now) (type_of l.t)) l.followed
