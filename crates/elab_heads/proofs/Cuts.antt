-- Heads cut where the code is cut.
use Rattle.std.proofs.Common.{◌≡◌, false, List, [], drop, length, Option, None, Ok, ap, sym, ◌∙◌}
use Rattle.nm_base.specs.declared.fault.Fault.{Fault}
use Rattle.nm_base.specs.declared.int_type.IntType.{IntType}
use Rattle.nm_base.specs.declared.pos.Pos.{Pos}
use Rattle.nesc_core.specs.Plain.{Ty}
use Rattle.nesc_tree.specs.Plain as s
use Rattle.nesc_tree.specs.declared.declarations.FuncKind.{FuncKind}
use Rattle.nesc_types.specs.Rule.{Rule}
use Rattle.nesc_types.specs.Values.{Constant}
use Rattle.elab_meaning.specs.Answers.{FaultIs}
use Rattle.elab_meaning.specs.Elab.{State, after, give}
use Rattle.elab_meaning.specs.Scope.{Env}
use Rattle.elab_exprs.proofs.Faults.{passes}
use Rattle.elab_exprs.proofs.Steps.{after-after, after-same}
use Rattle.elab_pieces.specs.Flow.{entered, left, outer}
use Rattle.body_meaning.specs.Tree.{Head, Param}
use Rattle.program_meaning.specs.Heads.{Form, Heading, no_locals, result, parameters, bracket, heading}
use Rattle.program_meaning.specs.Items.{head_of, kind_of}
use Rattle.program_meaning.specs.Parts.{Sig}
use Rattle.elab_heads.specs.Parts.{Parameters, with_parameters, declared, typed, signature}

abbrev alone : State → State
alone st = record (entered st) { locals = [] }

-- what is given behind the parameters, whose scope ends
abbrev ended : State → Option IntType → List Ty → State → Parameters
ended st t ts x = record { bracket = t; types = ts; names = drop (length st.names) x.names; tags = drop (length st.tags) x.tags }

abbrev pub headed : Heading → State → Rule (Heading × State)
headed g s1 = Ok (g, s1)

abbrev pub form_with : FuncKind → Sig → Ty → Parameters → List Ty → Form
form_with k x t p ts = record { kind = k; is_async = x.is_async; is_default = false; bracket = p.bracket; params = ts; result = t }

abbrev pub formed : Form → State → Rule (Form × State)
formed f s1 = Ok (f, s1)

module _ (env : Env) (given : List (Option Constant)) where
  declared_then : {B : Type 0} (at : Pos) (b : Option Param) (params : List Param) (g : Parameters → State → Rule (B × State)) (st : State)
      → after (bracket env given at b (alone st)) (λ t. λ s1. after (parameters env given at params s1) (λ ts. λ s2. g (ended st t ts s2) (left (outer st) s2)))
      ≡ after (declared env given at b params st) g
  declared_then {B} at b params g st =
      let end : Option IntType → List Ty → State → Rule (Parameters × State) = λ t. λ ts. λ s2. Ok (ended st t ts s2, left (outer st) s2) in
      let short : Option IntType → State → Rule (Parameters × State) = λ t. λ s1. after (parameters env given at params s1) (end t) in
      let long : Option IntType → State → Rule (B × State) = λ t. λ s1. after (parameters env given at params s1) (λ ts. λ s2. after (end t ts s2) g) in
      after-same (bracket env given at b (alone st)) long (λ t. λ s1. after (short t s1) g) (λ t. λ s1. after-after (parameters env given at params s1) (end t) g)
      ∙ after-after (bracket env given at b (alone st)) short g

  typed_then : {B : Type 0} (at : Pos) (spec : s.TypeSpec) (b : Option Param) (params : List Param) (g : Ty → Parameters → State → Rule (B × State)) (st : State)
      → after (result env given at spec st) (λ t. λ s1. after (declared env given at b params s1) (g t)) ≡ after (typed env given at spec b params st) (λ x. g x.0 x.1)
  typed_then {B} at spec b params g st =
      let pair : Ty → State → Rule ((Ty × Parameters) × State) = λ t. λ s1. after (declared env given at b params s1) (λ p. give (t, p)) in
      let both : Ty × Parameters → State → Rule (B × State) = λ x. g x.0 x.1 in
      after-same (result env given at spec st) (λ t. λ s1. after (declared env given at b params s1) (g t)) (λ t. λ s1. after (pair t s1) both)
      (λ t. λ s1. after-after (declared env given at b params s1) (λ p. give (t, p)) both)
      ∙ after-after (result env given at spec st) pair both

  heading_is : (h : Head) (st : State)
      → heading env given h st ≡ after (typed env given h.at h.result h.bracket h.params st) (λ x. give (with_parameters h x.0 x.1))
  heading_is h st =
      let made : Ty → Parameters → State → Rule (Heading × State) = λ t. λ p. give (with_parameters h t p) in
      let long : Ty → State → Rule (Heading × State) = λ t. λ s1. after (bracket env given h.at h.bracket (alone s1)) (λ b. λ s2. after (parameters env given h.at h.params s2) (λ ts. λ s3. made t (ended s1 b ts s3) (left (outer s1) s3))) in
      after-same (result env given h.at h.result st) long (λ t. λ s1. after (declared env given h.at h.bracket h.params s1) (made t))
      (λ t. λ s1. declared_then h.at h.bracket h.params (made t) s1)
      ∙ typed_then h.at h.result h.bracket h.params made st

  abbrev given_behind : Head → Ty × Parameters → State → Rule (Heading × State)
  given_behind h x = give (with_parameters h x.0 x.1)

  heading_by : (h : Head) (b : Option Param) (st : State) → b ≡ h.bracket
      → heading env given h st ≡ after (typed env given h.at h.result b h.params st) (given_behind h)
  heading_by h b st is = heading_is h st ∙ ap (λ (c : Option Param). after (typed env given h.at h.result c h.params st) (given_behind h)) (sym is)

  pub heading_fails : (h : Head) (b : Option Param) (st : State) (e : Fault) → b ≡ h.bracket → FaultIs e (typed env given h.at h.result b h.params st) → FaultIs e (heading env given h st)
  heading_fails h b st e is f = rw (heading_by h b st is) (passes e _ _ f)

  pub heading_given : (h : Head) (b : Option Param) (st st1 : State) (t : Ty) (p : Parameters) (ts : List Ty) → b ≡ h.bracket → ts ≡ p.types
      → typed env given h.at h.result b h.params st ≡ Ok ((t, p), st1) → heading env given h st ≡ headed (with_parameters h t (record p { types = ts })) st1
  heading_given h b st st1 t p ts is same e =
      heading_by h b st is
      ∙ ap (λ (r : Rule ((Ty × Parameters) × State)). after r (given_behind h)) e
      ∙ ap (λ (us : List Ty). headed (with_parameters h t (record p { types = us })) st1) (sym same)

  -- the form alone, and no locals
  abbrev form_alone : Heading → State → Rule (Form × State)
  form_alone g s1 = Ok (g.form, record s1 { locals = [] })

  abbrev form_behind : Sig → Ty × Parameters → State → Rule (Form × State)
  form_behind x y s1 = after (no_locals s1) (λ u. give (form_with (kind_of x.is_event) x y.0 y.1 y.1.types))

  signature_is : (x : Sig) (st : State) → signature env given x st ≡ after (typed env given x.at x.result None x.params st) (form_behind x)
  signature_is x st =
      let made : Ty × Parameters → State → Rule (Heading × State) = λ y. give (with_parameters (head_of x) y.0 y.1) in
      let cleared : Heading → State → Rule (Heading × State) = λ g. λ s1. Ok (g, record s1 { locals = [] }) in
      let form : Heading → State → Rule (Form × State) = λ g. give g.form in
      sym (after-after (heading env given (head_of x) st) cleared form)
      ∙ ap (λ (r : Rule (Heading × State)). after r form_alone) (heading_is (head_of x) st)
      ∙ sym (after-after (typed env given x.at x.result None x.params st) made form_alone)

  pub signature_fails : (x : Sig) (st : State) (e : Fault) → FaultIs e (typed env given x.at x.result None x.params st) → FaultIs e (signature env given x st)
  signature_fails x st e f = rw (signature_is x st) (passes e _ _ f)

  pub signature_given : (x : Sig) (st st1 st2 : State) (t : Ty) (p : Parameters) (k : FuncKind) (ts : List Ty) → k ≡ kind_of x.is_event → ts ≡ p.types
      → typed env given x.at x.result None x.params st ≡ Ok ((t, p), st1) → no_locals st1 ≡ Ok (tt, st2)
      → signature env given x st ≡ formed (form_with k x t p ts) st2
  signature_given x st st1 st2 t p k ts kind same e none =
      signature_is x st
      ∙ ap (λ (r : Rule ((Ty × Parameters) × State)). after r (form_behind x)) e
      ∙ ap (λ (r : Rule (Unit {0} × State)). after r (λ u. give (form_with (kind_of x.is_event) x t p p.types))) none
      ∙ ap (λ (j : FuncKind). formed (form_with j x t p p.types) st2) (sym kind)
      ∙ ap (λ (us : List Ty). formed (form_with k x t p us) st2) (sym same)
