-- Items as they are cut in code are those of the meaning, where the names and tags of headers stand first.
use Rattle.std.proofs.Common.{◌≡◌, ℕ, List, [], ◌∷◌, ◌++◌, length, take, drop, Option, Ok, Err, refl, sym, ap, subst, ◌∙◌, append-nil}
use Rattle.nm_base.specs.declared.pos.Pos.{Pos}
use Rattle.nesc_core.specs.Plain.{Ty}
use Rattle.nesc_tree.specs.Plain as s
use Rattle.nesc_types.specs.Rule.{Rule}
use Rattle.nesc_types.specs.Values.{Constant}
use Rattle.elab_meaning.specs.Scope.{Entry, Env}
use Rattle.elab_meaning.specs.Elab.{Elab, State, after, give}
use Rattle.elab_meaning.specs.Operators.{Based}
use Rattle.elab_meaning.specs.Wired.{base_of, dimensioned, is_const_at, lengths, starred}
use Rattle.elab_exprs.proofs.Steps.{after-after, after-same}
use Rattle.elab_kept.specs.Grows.{IsPrefix}
use Rattle.elab_kept.proofs.Steps.{Kept, kept_same, kept_then, longer_prefix, whole_prefix}
use Rattle.elab_kept.proofs.Parts as kept_parts
use Rattle.elab_kept.proofs.Walk as walk
use Rattle.elab_locals.specs.Parts.{shaped}
use Rattle.wire_facts.specs.Scopes.{Base, declaring, own_in, with_own}
use Rattle.wire_facts.specs.Scopes as scopes
use Rattle.program_meaning.specs.Heads.{Form, Heading, heading_alone}
use Rattle.program_meaning.specs.Items as spec
use Rattle.program_meaning.specs.Items.{Fact, as_before, fact, head_of, interface_state, type_entry}
use Rattle.program_meaning.specs.Parts.{Application, Elem, Sig}
use Rattle.elab_items.specs.Parts as parts
use Rattle.elab_items.proofs.Scoped.{Scoped, again, alone_scoped, scoped_give, scoped_of, scoped_stopped, scoped_then}

-- ---- arguments

shaped_then : {B : Type 0} (env : Env) (given : List (Option Constant)) (at : Pos) (b : Based) (stars : ℕ) (dims : s.Exprs) (g : Ty → State → Rule (B × State)) (st : State)
    → after (shaped env given at b stars dims st) g ≡ after (starred at stars b st) (λ p. λ s1. after (lengths env given dims s1) (λ ns. λ s2. after (dimensioned at p ns s2) g))
shaped_then {B} env given at b stars dims g st =
    let sized : Ty → List ℕ → State → Rule (Ty × State) = λ p. λ ns. dimensioned at p ns in
    let short : Ty → State → Rule (Ty × State) = λ p. λ s1. after (lengths env given dims s1) (sized p) in
    let long : Ty → State → Rule (B × State) = λ p. λ s1. after (lengths env given dims s1) (λ ns. λ s2. after (sized p ns s2) g) in
    sym (after-after (starred at stars b st) short g)
    ∙ after-same (starred at stars b st) (λ p. λ s1. after (short p s1) g) long (λ p. λ s1. sym (after-after (lengths env given dims s1) (sized p) g))

module _ (app : Application) (env : Env) (headers : State) where
  argument_type_is : (at : Pos) (t : s.TypeSpec) (st : State) → parts.argument_type env [] at t st ≡ spec.argument_type app env headers at t st
  argument_type_is at (s.type_spec base stars dims is_const) st =
      let end : Based → Ty → State → Rule (Based × State) = λ b. λ t. give (record { ty = t; is_const = is_const_at stars is_const b.is_const }) in
      after-same (base_of env [] at base st) (λ b. λ s1. after (shaped env [] at b stars dims s1) (end b))
      (λ b. λ s1. after (starred at stars b s1) (λ p. λ s2. after (lengths env [] dims s2) (λ ns. λ s3. after (dimensioned at p ns s3) (end b))))
      (λ b. λ s1. shaped_then env [] at b stars dims (end b) s1)

  arguments_are : (at : Pos) (ns : List (List ℕ)) (ts : List s.TypeSpec) (st : State) → parts.arguments env [] at ns ts st ≡ spec.arguments app env headers at ns ts st
  arguments_are at [] [] st = refl
  arguments_are at [] (t ∷ ts) st = refl
  arguments_are at (n ∷ ns) [] st = refl
  arguments_are at (n ∷ ns) (t ∷ ts) st =
      let entry : Based → State → Rule (Entry × State) = λ b. give (type_entry n b) in
      let rest : Entry → State → Rule (List Entry × State) = λ x. λ s1. after (parts.arguments env [] at ns ts s1) (λ xs. give (x ∷ xs)) in
      sym (after-after (parts.argument_type env [] at t st) entry rest)
      ∙ ap (λ (r : Rule (Based × State)). after r (λ b. λ s1. after (entry b s1) rest)) (argument_type_is at t st)
      ∙ after-same (spec.argument_type app env headers at t st) (λ b. λ s1. after (entry b s1) rest)
      (λ b. λ s1. after (spec.arguments app env headers at ns ts s1) (λ xs. give (type_entry n b ∷ xs)))
      (λ b. λ s1. ap (λ (r : Rule (List Entry × State)). after r (λ xs. give (type_entry n b ∷ xs))) (arguments_are at ns ts s1))

  arguments_kept : (at : Pos) (ns : List (List ℕ)) (ts : List s.TypeSpec) (st : State) → Kept st (spec.arguments app env headers at ns ts st)
  arguments_kept at [] [] st = kept_same _ st
  arguments_kept at [] (t ∷ ts) st = kept_same _ st
  arguments_kept at (n ∷ ns) [] st = kept_same _ st
  arguments_kept at (n ∷ ns) (s.type_spec base stars dims is_const ∷ ts) st =
      kept_then st (spec.argument_type app env headers at (s.type_spec base stars dims is_const) st) (λ b. λ s1. after (spec.arguments app env headers at ns ts s1) (λ xs. give (type_entry n b ∷ xs)))
      (kept_then st _ _ (walk.base_kept env [] at base st) (λ b t. kept_then t _ _ (kept_parts.starred_kept at stars b t)
      (λ p u. kept_then u _ _ (walk.lengths_kept env [] dims u) (λ ns1 v. kept_then v _ _ (kept_parts.dimensioned_kept at p ns1 v) (λ ty w. kept_same _ w)))))
      (λ b t. kept_then t _ _ (arguments_kept at ns ts t) (λ xs u. kept_same _ u))

  -- ---- items

  items_are : (k : ℕ) (x : Elem) (items : List Sig) (st : State) → parts.items_of app env [] k x items st ≡ spec.items_of app env headers k x items st
  items_are k x [] st = refl
  items_are k x (item ∷ rest) st =
      let form : Heading → State → Rule (Form × State) = λ g. give g.form in
      let made : Form → State → Rule (Fact × State) = λ f. give (fact app k x item f) in
      let more : Fact → State → Rule (List Fact × State) = λ f. λ s1. after (parts.items_of app env [] k x rest s1) (λ fs. give (f ∷ fs)) in
      ap (λ (r : Rule (Fact × State)). after r more) (sym (after-after (heading_alone env [] (head_of item) st) form made))
      ∙ sym (after-after (heading_alone env [] (head_of item) st) (λ g. λ s1. after (form g s1) made) more)
      ∙ after-same (heading_alone env [] (head_of item) st) (λ g. λ s1. after (after (form g s1) made) more)
      (λ g. λ s1. after (spec.items_of app env headers k x rest s1) (λ fs. give (fact app k x item g.form ∷ fs)))
      (λ g. λ s1. ap (λ (r : Rule (List Fact × State)). after r (λ fs. give (fact app k x item g.form ∷ fs))) (items_are k x rest s1))

  items_scoped : (k : ℕ) (x : Elem) (items : List Sig) (st : State) → Scoped st (spec.items_of app env headers k x items st)
  items_scoped k x [] st = scoped_give _ st st (whole_prefix st.names) (whole_prefix st.tags)
  items_scoped k x (item ∷ rest) st = scoped_then st _ _ (alone_scoped env [] (head_of item) st)
      (λ (g : Heading) (t : State). scoped_then t _ _ (items_scoped k x rest t) (λ fs u. scoped_give _ u u (whole_prefix u.names) (whole_prefix u.tags)))

  -- ---- the scope of an interface

  abbrev Has : State → Type 0
  Has st = IsPrefix headers.names st.names × IsPrefix headers.tags st.tags

  abbrev b : Base
  b = scopes.base_of headers

  abbrev inner : List Entry → State → State
  inner params st = with_own b (declaring b (parts.interface_scope params)) st

  taken_off : {A : Type 0} (xs ys : List A) → IsPrefix xs ys → xs ++ drop (length xs) ys ≡ ys
  taken_off xs ys p = ap (λ l. xs ++ drop (length xs) l) p.1 ∙ ap (λ l. xs ++ l) (behind xs p.0) ∙ sym p.1
    where
      behind : {A : Type 0} (xs more : List A) → drop (length xs) (xs ++ more) ≡ more
      behind [] more = none more
        where
          none : {A : Type 0} (ys : List A) → drop 0 ys ≡ ys
          none [] = refl
          none (y ∷ ys) = refl
      behind (x ∷ xs) more = behind xs more

  inner_is : (params : List Entry) (st : State) → Has st → inner params st ≡ interface_state headers params st
  inner_is params st h =
      ap (λ ns. record st { names = ns ++ params; tags = take (length headers.tags) st.tags ++ []; first_name = length headers.names; first_tag = length headers.tags }) (again headers.names st.names h.0)
      ∙ ap (λ ts. record st { names = headers.names ++ params; tags = ts; first_name = length headers.names; first_tag = length headers.tags }) (append-nil (take (length headers.tags) st.tags) ∙ again headers.tags st.tags h.1)

  back_is : {A : Type 0} (params : List Entry) (st : State) (r : Rule (A × State)) → Has st → Scoped (interface_state headers params st) r
      → after (scopes.back_in b (own_in b st) r) (λ x. give x.0) ≡ as_before st r
  back_is params st (Err e) h k = refl
  back_is {A} params st (Ok x) h k =
      let kept = k.by x.0 x.1 refl in
      let names : take (length headers.names) x.1.names ++ drop (length headers.names) st.names ≡ st.names =
      ap (λ l. l ++ drop (length headers.names) st.names) (again headers.names x.1.names (longer_prefix headers.names (headers.names ++ params) x.1.names (params, refl) kept.0)) ∙ taken_off headers.names st.names h.0 in
      let tags : take (length headers.tags) x.1.tags ++ drop (length headers.tags) st.tags ≡ st.tags =
      ap (λ l. l ++ drop (length headers.tags) st.tags) (again headers.tags x.1.tags kept.1) ∙ taken_off headers.tags st.tags h.1 in
      ap (λ ns. Ok (x.0, record x.1 { names = ns; tags = take (length headers.tags) x.1.tags ++ drop (length headers.tags) st.tags; first_name = st.first_name; first_tag = st.first_tag })) names
      ∙ ap (λ ts. Ok (x.0, record x.1 { names = st.names; tags = ts; first_name = st.first_name; first_tag = st.first_tag })) tags

  in_interface_is : {A : Type 0} (params : List Entry) (work own : Elab A) (st : State) → Has st → ((t : State) → own t ≡ work t) → Scoped (interface_state headers params st) (work (interface_state headers params st))
      → parts.in_interface b params own st ≡ spec.in_interface headers params work st
  in_interface_is {A} params work own st h same k =
      ap (λ (r : Rule (A × State)). after (scopes.back_in b (own_in b st) r) (λ x. give x.0)) (same (inner params st) ∙ ap work (inner_is params st h))
      ∙ back_is params st (work (interface_state headers params st)) h k

  -- ---- elements

  has_on : (st t : State) → Has st → IsPrefix st.names t.names → IsPrefix st.tags t.tags → Has t
  has_on st t h p q = (longer_prefix headers.names st.names t.names h.0 p, longer_prefix headers.tags st.tags t.tags h.1 q)

  -- where what is behind does the same in each state that has the headers in force
  after-has : {A B : Type 0} (st : State) (r : Rule (A × State)) (f g : A → State → Rule (B × State)) → Has st → Scoped st r → ((x : A) (t : State) → Has t → f x t ≡ g x t) → after r f ≡ after r g
  after-has st (Ok x) f g h k same = same x.0 x.1 (has_on st x.1 h (k.by x.0 x.1 refl).0 (k.by x.0 x.1 refl).1)
  after-has st (Err e) f g h k same = refl

  element_is : (k : ℕ) (x : Elem) (st : State) → Has st → parts.facts_of_element app env [] b k x st ≡ spec.facts_of_element app env headers k x st
  element_is k x st h =
      ap (λ (r : Rule (List Entry × State)). after r (λ params. parts.in_interface b params (parts.items_of app env [] k x x.interface.items))) (arguments_are x.at x.interface.params x.args st)
      ∙ after-has st (spec.arguments app env headers x.at x.interface.params x.args st) (λ params. parts.in_interface b params (parts.items_of app env [] k x x.interface.items))
      (λ params. spec.in_interface headers params (spec.items_of app env headers k x x.interface.items)) h (scoped_of st _ (arguments_kept x.at x.interface.params x.args st))
      (λ params t g. in_interface_is params (spec.items_of app env headers k x x.interface.items) (parts.items_of app env [] k x x.interface.items) t g (λ u. items_are k x x.interface.items u)
      (items_scoped k x x.interface.items (interface_state headers params t)))

  before_scoped : {A : Type 0} (st : State) (r : Rule (A × State)) → Scoped st (as_before st r)
  before_scoped st (Ok x) = scoped_give x.0 st _ (whole_prefix st.names) (whole_prefix st.tags)
  before_scoped st (Err e) = scoped_stopped st e

  element_scoped : (k : ℕ) (x : Elem) (st : State) → Scoped st (spec.facts_of_element app env headers k x st)
  element_scoped k x st = scoped_then st (spec.arguments app env headers x.at x.interface.params x.args st) (λ params. spec.in_interface headers params (spec.items_of app env headers k x x.interface.items))
      (scoped_of st _ (arguments_kept x.at x.interface.params x.args st)) (λ params t. before_scoped t _)

  pub facts_are : (k : ℕ) (xs : List Elem) (st : State) → IsPrefix headers.names st.names → IsPrefix headers.tags st.tags → parts.facts_of app env [] b k xs st ≡ spec.facts_of app env headers k xs st
  facts_are k [] st p q = refl
  facts_are k (x ∷ xs) st p q =
      let own : List Fact → State → Rule (List Fact × State) = λ fs. λ s1. after (parts.facts_of app env [] b k xs s1) (λ more. give (fs ++ more)) in
      let rest : List Fact → State → Rule (List Fact × State) = λ fs. λ s1. after (spec.facts_of app env headers k xs s1) (λ more. give (fs ++ more)) in
      ap (λ (r : Rule (List Fact × State)). after r own) (element_is k x st (p, q))
      ∙ after-has st (spec.facts_of_element app env headers k x st) own rest (p, q) (element_scoped k x st)
      (λ fs t h. ap (λ (r : Rule (List Fact × State)). after r (λ more. give (fs ++ more))) (facts_are k xs t h.0 h.1))

pub ruleset facts = (facts_are)
