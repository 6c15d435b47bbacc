-- Declarations cut where the code is cut.
use Rattle.std.proofs.Common.{◌≡◌, ℕ, Bool, true, false, if◌then◌else◌, List, [], ◌∷◌, ◌++◌, length, map, Option, Some, None, Ok, Err, is_some, ap, sym, ◌∙◌, refl}
use Rattle.nm_base.specs.declared.pos.Pos.{Pos}
use Rattle.nesc_core.specs.Plain as core
use Rattle.nesc_core.specs.Plain.{Ty, Body}
use Rattle.nesc_types.specs.Rule.{Rule}
use Rattle.body_meaning.specs.Tree as tree
use Rattle.body_meaning.specs.Tree.{Head, MaybeStmt, Stmt}
use Rattle.body_meaning.specs.Stmts.{initials_of}
use Rattle.elab_meaning.specs.Elab.{State}
use Rattle.elab_meaning.specs.Operators.{Based}
use Rattle.elab_walk.proofs.Shapes.{declared_is}
use Rattle.program_meaning.specs.Dispatch.{dispatch}
use Rattle.program_meaning.specs.Heads.{Form, Heading, heading, line, no_locals}
use Rattle.program_meaning.specs.Items.{Fact}
use Rattle.program_meaning.specs.Making.{Declared, Made, Variable, Whole, add_body, add_declared, add_dispatch, add_initial, after, by, give, in_boot, part, with_work}
use Rattle.program_meaning.specs.Walk as walk
use Rattle.program_meaning.specs.Walk.{Told, agrees, body, boots, called_from_here, combined, dispatch_asked, earlier, handles, in_module, is_definition, is_new, line_before, loses, of_instance, one_line, warned, weighed, well_formed, well_named}
use Rattle.elab_walk.specs.Objects as objects
use Rattle.elab_walk.specs.Parts as parts
use Rattle.elab_walk.specs.Parts.{Before, before_by}

pub after-after : {A B C : Type 0} (r : Rule (A × Whole)) (f : A → Whole → Rule (B × Whole)) (g : B → Whole → Rule (C × Whole))
    → after r (λ x. λ w. after (f x w) g) ≡ after (after r f) g
after-after (Ok x) f g = refl
after-after (Err e) f g = refl

-- where what is behind the first step does the same, both do
pub after-same : {A B : Type 0} (r : Rule (A × Whole)) (f g : A → Whole → Rule (B × Whole)) → ((x : A) (w : Whole) → f x w ≡ g x w) → after r f ≡ after r g
after-same (Ok x) f g h = h x.0 x.1
after-same (Err e) f g h = refl

-- ---- dispatch functions

pub dispatched_is : (name : List ℕ) (told : Told) (at : Pos) (x : Fact) (w : Whole) → walk.dispatched name told at x w ≡ parts.dispatched name told at x w
dispatched_is name told at x w =
    let made : Option ℕ → Body = λ f. dispatch name x.form f at x.cases in
    let end : Option ℕ → Unit {0} → Whole → Rule (Unit {0} × Whole) = λ f. λ u. warned (loses x f) at name in
    let long : Option ℕ → Whole → Rule (Unit {0} × Whole) = λ f. λ w2. after (by (weighed at w2.work.structs (made f)) w2) (λ u. λ w3. after (add_dispatch (made f) w3) (end f)) in
    let short : Option ℕ → Whole → Rule (Unit {0} × Whole) = λ f. parts.made_dispatch name at x f in
    after-same (by (called_from_here at x.comes_out) w) (λ u. λ w1. after (by (combined told at x) w1) long) (λ u. λ w1. after (by (combined told at x) w1) short)
    (λ u. λ w1. after-same (by (combined told at x) w1) long short
    (λ f. λ w2. after-after (by (weighed at w2.work.structs (made f)) w2) (λ u. add_dispatch (made f)) (end f)))

-- ---- variables

pub variable_is : (told : Told) (b : Based) (said norace : Bool) (v : tree.Variable) (w : Whole) → walk.variable told b said norace v w ≡ parts.variable told b said norace v w
variable_is told b said norace v w =
    let with_variable : Ty → Whole → Whole = λ t. λ w1. record w1 { variables = w1.variables ++ (record { name = of_instance told.instance v.name; ty = t; norace = norace } ∷ []) } in
    let end : Unit {0} → Whole → Rule (Unit {0} × Whole) = λ u. dispatch_asked told in
    let stored : Ty → Whole → Rule (List core.Expr × Whole) = λ t. in_boot (initials_of told.env told.values v.at (core.object (length w.variables)) t v.init) in
    let long : Ty → Whole → Rule (Unit {0} × Whole) = λ t. λ w1. after (stored t (with_variable t w1)) (λ es. λ w2. after (add_initial (map core.eval es) w2) end) in
    let short : Ty → Whole → Rule (Unit {0} × Whole) = λ t. λ w1. after (parts.of_type told v norace (length w.variables) t w1) end in
    ap (λ (r : Rule (Ty × State)). after (with_work w r) long) (declared_is told.env told.values b said v (length w.variables) w.work)
    ∙ after-same (part (objects.declared told.env told.values b said v (length w.variables)) w) long short
    (λ t. λ w1. after-after (stored t (with_variable t w1)) (λ es. add_initial (map core.eval es)) end)

-- ---- bodies

pub other_is : (told : Told) (h : Head) (g : Heading) (x : Stmt) (w : Whole) → walk.other_function told h g x w ≡ parts.other_function told h g x w
other_is told h g x w =
    let made : core.Stmt → Whole → Body = λ code. λ w1. body told h g.form w1.work.locals code in
    let end : Unit {0} → Whole → Rule (Unit {0} × Whole) = λ u. dispatch_asked told in
    let long : core.Stmt → Whole → Rule (Unit {0} × Whole) = λ code. λ w1. after (by (weighed h.at w1.work.structs (made code w1)) w1) (λ u. λ w2. after (add_body (made code w1) w2) (λ u. λ w3. after (part no_locals w3) end)) in
    let short : core.Stmt → Whole → Rule (Unit {0} × Whole) = λ code. λ w1. after (parts.finished told h g.form code w1) end in
    after-same (parts.work_code told g x w) long short (λ code. λ w1. weighed_then (weighed h.at w1.work.structs (made code w1)) (made code w1) w1)
  where
    weighed_then : (r : Rule (Unit {0})) (b : Body) (w : Whole)
        → after (by r w) (λ u. λ w2. after (add_body b w2) (λ u. λ w3. after (part no_locals w3) (λ u. dispatch_asked told)))
        ≡ after (after (by r (parts.without_locals w)) (λ u. add_body b)) (λ u. dispatch_asked told)
    weighed_then (Ok u) b w = refl
    weighed_then (Err e) b w = refl

if_same : (t : Bool) (f g h : Made (Unit {0})) (w : Whole) → g w ≡ h w → (if t then f else g) w ≡ (if t then f else h) w
if_same true f g h w e = refl
if_same false f g h w e = e

pub defined_is : (told : Told) (h : Head) (g : Heading) (l : Option ℕ) (x : MaybeStmt) (w : Whole) → walk.defined told h g l x w ≡ parts.defined told h g l x w
defined_is told h g l tree.no_stmt w = refl
defined_is told h g l (tree.some_stmt x) w =
    let long : Unit {0} → Whole → Rule (Unit {0} × Whole) = λ u. λ w1. (if boots told h then walk.boot_function told h g x else walk.other_function told h g x) w1 in
    let short : Unit {0} → Whole → Rule (Unit {0} × Whole) = λ u. λ w1. (if boots told h then walk.boot_function told h g x else parts.other_function told h g x) w1 in
    after-same (handles h.at l w) long short
    (λ u. λ w1. if_same (boots told h) (walk.boot_function told h g x) (walk.other_function told h g x) (parts.other_function told h g x) w1 (other_is told h g x w1))

-- ---- functions

abbrev declared_by : Head → Form → (line : Option ℕ) → (is_defined : Bool) → Declared
declared_by h f l is_defined = record { name = h.name; item = h.item; form = f; line = l; is_defined = is_defined }

entered_then : (told : Told) (h : Head) (f : Form) (o : Option Declared) (l : Option ℕ) (is_defined : Bool) (end : Unit {0} → Whole → Rule (Unit {0} × Whole)) (w : Whole)
    → after (walk.in_force told h f o h.kind w) (λ u. λ w1. after (add_declared (declared_by h f l is_defined) w1) end)
    ≡ after (parts.entered told h f (is_some o) l is_defined w) end
entered_then told h f None l is_defined end w = after-after (walk.in_force told h f None h.kind w) (λ u. add_declared (declared_by h f l is_defined)) end
entered_then told h f (Some d) l is_defined end w = refl

agreed_then : (r1 r2 : Rule (Unit {0})) (b : Before) (end : Before → Whole → Rule (Unit {0} × Whole)) (w : Whole)
    → after (by r1 w) (λ u. λ w1. after (by r2 w1) (λ u. end b)) ≡ after (after (by r1 w) (λ u. λ w1. after (by r2 w1) (λ u. give b))) end
agreed_then (Ok u) (Ok v) b end w = refl
agreed_then (Ok u) (Err e) b end w = refl
agreed_then (Err e) r2 b end w = refl

module _ (told : Told) (h : Head) (x : MaybeStmt) where
  -- behind the line of the function
  abbrev line_rest : Heading → Option Declared → Option ℕ → Whole → Rule (Unit {0} × Whole)
  line_rest g o l w = after (walk.in_force told h g.form o h.kind w) (λ u. λ w1. after (add_declared (declared_by h g.form l (is_definition x)) w1) (λ u. walk.defined told h g l x))

  abbrev own_rest : Heading → Option Declared → Whole → Rule (Unit {0} × Whole)
  own_rest g o w = after (part (line told.env told.values (in_module told.instance) h g.form) w) (λ own. λ w1. after (by (one_line h.at own (line_before o)) w1) (line_rest g o))

  abbrev formed_rest : Heading → Whole → Rule (Unit {0} × Whole)
  formed_rest g w = after (by (agrees h.at (is_definition x) g.form (earlier w.declared h)) w) (λ u. λ w1. after (by (is_new h w.work (earlier w.declared h) h.kind) w1) (λ u. own_rest g (earlier w.declared h)))

  abbrev heading_rest : Heading → Whole → Rule (Unit {0} × Whole)
  heading_rest g w = after (by (well_formed told h g.form h.kind) w) (λ u. formed_rest g)

  line_is : (g : Heading) (o : Option Declared) (l : Option ℕ) (w : Whole)
      → line_rest g o l w ≡ after (parts.entered told h g.form (is_some o) l (is_definition x) w) (λ u. parts.defined told h g l x)
  line_is g o l w =
      entered_then told h g.form o l (is_definition x) (λ u. walk.defined told h g l x) w
      ∙ after-same (parts.entered told h g.form (is_some o) l (is_definition x) w) (λ u. walk.defined told h g l x) (λ u. parts.defined told h g l x) (λ u. λ w1. defined_is told h g l x w1)

  own_is : (g : Heading) (o : Option Declared) (w : Whole) → own_rest g o w ≡ parts.placed told h g (before_by o) x w
  own_is g o w =
      after-after (part (line told.env told.values (in_module told.instance) h g.form) w) (λ own. by (one_line h.at own (line_before o))) (line_rest g o)
      ∙ after-same (parts.lined told h g.form (line_before o) w) (line_rest g o) (λ l. λ w1. after (parts.entered told h g.form (is_some o) l (is_definition x) w1) (λ u. parts.defined told h g l x)) (λ l. λ w1. line_is g o l w1)

  formed_is : (g : Heading) (w : Whole) → formed_rest g w ≡ after (parts.agreed h g.form (is_definition x) w) (λ b. parts.placed told h g b x)
  formed_is g w =
      let o : Option Declared = earlier w.declared h in
      let long : Unit {0} → Whole → Rule (Unit {0} × Whole) = λ u. λ w1. after (by (is_new h w.work o h.kind) w1) (λ u. own_rest g o) in
      let short : Unit {0} → Whole → Rule (Unit {0} × Whole) = λ u. λ w1. after (by (is_new h w.work o h.kind) w1) (λ u. parts.placed told h g (before_by o) x) in
      after-same (by (agrees h.at (is_definition x) g.form o) w) long short
      (λ u. λ w1. after-same (by (is_new h w.work o h.kind) w1) (λ u. own_rest g o) (λ u. parts.placed told h g (before_by o) x) (λ u. λ w2. own_is g o w2))
      ∙ agreed_then (agrees h.at (is_definition x) g.form o) (is_new h w.work o h.kind) (before_by o) (λ b. parts.placed told h g b x) w

  heading_is : (g : Heading) (w : Whole) → heading_rest g w ≡ parts.with_heading told h g x w
  heading_is g w =
      after-same (by (well_formed told h g.form h.kind) w) (λ u. formed_rest g) (λ u. λ w1. after (parts.agreed h g.form (is_definition x) w1) (λ b. parts.placed told h g b x)) (λ u. λ w1. formed_is g w1)

  pub function_is : (w : Whole) → walk.function_declared told h x w ≡ parts.function_declared told h x w
  function_is w =
      let head : Whole → Rule (Heading × Whole) = part (heading told.env told.values h) in
      after-same (by (well_named h h.kind) w) (λ u. λ w1. after (head w1) heading_rest) (λ u. λ w1. after (head w1) (λ g. parts.with_heading told h g x))
      (λ u. λ w1. after-same (head w1) heading_rest (λ g. parts.with_heading told h g x) heading_is)
