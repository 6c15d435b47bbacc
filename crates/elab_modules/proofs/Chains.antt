-- What is done behind a step, and what instances are lent.
use Rattle.std.proofs.Common.{◌≡◌, ◌<◌, List, [], ◌∷◌, map, length, Result, Ok, ap, sym, subst, ◌∙◌, arith}
use Rattle.nm_base.specs.declared.fault.Fault.{Fault}
use Rattle.nesc_types.specs.Rule.{Rule}
use Rattle.body_meaning.specs.Scopes.{back_to}
use Rattle.elab_making.proofs.Faults.{passes}
use Rattle.elab_making.specs.Does.{Does}
use Rattle.elab_meaning.specs.Answers.{FaultIs}
use Rattle.elab_modules.specs.Behind.{AreBehind, without_declared}
use Rattle.elab_modules.specs.Parts as parts
use Rattle.elab_modules.specs.declared.around.Around.{Around}
use Rattle.elab_pieces.specs.Flow.{left, outer, outer_of}
use Rattle.elab_pieces.specs.declared.scopes.Outer as rust_outer
use Rattle.elab_targets.specs.declared.application.Instance as rust
use Rattle.elab_targets.specs.View.{instance_of}
use Rattle.program_meaning.specs.Making.{Whole, after, part}
use Rattle.program_meaning.specs.Modules.{Met, instances_declared}
use Rattle.program_meaning.specs.Parts.{Application}
use Rattle.wire_facts.specs.Scopes as scopes

pub goes_on : {X A B : Type 0} (view : X → B) (total : Rule (B × Whole)) (one : Rule (A × Whole)) (next : A → Whole → Rule (B × Whole)) (x : A) (w new : Whole) (r : Result X Fault)
    → total ≡ after one next → one ≡ Ok (x, w) → Does view r new (next x w) → Does view r new total
goes_on {X} {A} {B} view total one next x w new r is e h =
    subst (λ (o : Rule (B × Whole)). Does view r new o) (sym (is ∙ ap (λ (q : Rule (A × Whole)). after q next) e)) h

pub goes_wrong : {A B : Type 0} (total : Rule (B × Whole)) (one : Rule (A × Whole)) (next : A → Whole → Rule (B × Whole)) (e : Fault) → total ≡ after one next → FaultIs e one → FaultIs e total
goes_wrong total one next e is f = rw is (passes e _ _ f)

-- ---- what headers left

pub base_is : (x : Around) (h : Whole) → AreBehind x h → parts.base_of (outer_of x.outer) ≡ scopes.base_of h.work
base_is x h are = ap parts.base_of (sym are.outer)

pub back_is : (o : rust_outer.Outer) (h w : Whole) → outer h.work ≡ outer_of o → part (back_to h.work) w ≡ Ok (tt, record w { work = left (outer_of o) w.work })
back_is o h w is = ap (λ x. Ok (tt, record w { work = left x w.work })) is

-- ---- where instances begin

-- the first one begins with nothing declared
alone : (app : Application) (h : Whole) (m : Met) (is : List rust.Instance) (w w1 new : Whole) (r : Result (Unit {0}) Fault) → 0 < length is → w1 ≡ without_declared w
    → Does (λ _. tt) r new (instances_declared app h m 0 (map instance_of is) w1) → Does (λ _. tt) r new (instances_declared app h m 0 (map instance_of is) w)
alone app h m [] w w1 new r some same d = absurd (omega arith)
alone app h m (i ∷ is) w w1 new r some same d =
    subst (λ (v : Whole). Does (λ _. tt) r new (instances_declared app h m 0 (map instance_of (i ∷ is)) v)) same d

pub begin_alone : (app : Application) (h : Whole) (m : Met) (list is : List rust.Instance) (w w1 new : Whole) (r : Result (Unit {0}) Fault) → 0 < length list → is ≡ list → w1 ≡ without_declared w
    → Does (λ _. tt) r new (instances_declared app h m 0 (map instance_of is) w1) → Does (λ _. tt) r new (instances_declared app h m 0 (map instance_of list) w)
begin_alone app h m list is w w1 new r some all same d =
    alone app h m list w w1 new r some same (subst (λ l. Does (λ _. tt) r new (instances_declared app h m 0 (map instance_of l) w1)) all d)

pub ruleset premises = (base_is, back_is)
