use Rattle.std.proofs.Common.{◌≡◌, rules, w64, to_z, of_z}
use Rattle.std.specs.Prelude.{if◌then◌else◌}
use Rattle.nm_base.specs.IntType.{wrapped}
use Rattle.nesc_core.specs.View.{place_of}
use Rattle.core_meaning.specs.Numbers.{binary}
use Rattle.core_meaning.specs.Work.{number_of}
use Rattle.core_act.specs.Scopes.{type_at}
use Rattle.core_act.proofs.Changing.{changed_form}
use Rattle.core_act.proofs.changes.change_at.Goals as goal

pub returns-then-change : goal.returns-then-change
returns-then-change c =
    let given : c.binary.result ≡ binary c.args.change.op c.args.change.at (wrapped c.args.change.at c.args.old) c.args.y = search rules in
    let new : to_z w64 (of_z w64 c.wrap-new.result) ≡ wrapped (number_of (type_at c.args.scope.now (place_of c.args.place.now))) c.in_ok-z.z = search rules in
    let v_is : to_z w64 (of_z w64 c.args.old) ≡ (if c.args.change.gives_old then c.args.old else to_z w64 (of_z w64 c.wrap-new.result)) = search rules in
    changed_form (type_at c.args.scope.now (place_of c.args.place.now)) c.args.change.op c.args.change.at c.args.change.gives_old c.args.w c.args.old c.args.y
    (c.in_ok-z.ensures c.args.locals.now) given new c.in_ok-store_at.ensures v_is

pub returns-else-change : goal.returns-else-change
returns-else-change c =
    let given : c.binary.result ≡ binary c.args.change.op c.args.change.at (wrapped c.args.change.at c.args.old) c.args.y = search rules in
    let new : to_z w64 (of_z w64 c.wrap-new.result) ≡ wrapped (number_of (type_at c.args.scope.now (place_of c.args.place.now))) c.in_ok-z.z = search rules in
    let v_is : to_z w64 (of_z w64 c.wrap-new.result) ≡ (if c.args.change.gives_old then c.args.old else to_z w64 (of_z w64 c.wrap-new.result)) = search rules in
    changed_form (type_at c.args.scope.now (place_of c.args.place.now)) c.args.change.op c.args.change.at c.args.change.gives_old c.args.w c.args.old c.args.y
    (c.in_ok-z.ensures c.args.locals.now) given new c.in_ok-store_at.ensures v_is
