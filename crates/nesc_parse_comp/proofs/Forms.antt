-- The forms of components, read part by part.
use Rattle.std.proofs.Common.{◌≡◌, ◌<◌, ℕ, Bool, true, false, List, Result, Ok, Err, IfOk, refl, sym, ap, subst, ◌∙◌, arith}
use Rattle.nm_base.specs.declared.no_memory.NoMemory.{NoMemory}
use Rattle.nm_base.specs.declared.token.Token.{Token}
use Rattle.nesc_tree.specs.declared.sorts.Sort.{Sort}
use Rattle.nesc_tree.specs.declared.sorts.Sort.TheVariants as s
use Rattle.nesc_tree.specs.declared.components.Head.{Head}
use Rattle.nesc_tree.specs.declared.components.Part.{Part}
use Rattle.nesc_tree.specs.declared.components.Unit as unit
use Rattle.nesc_tree.specs.Sorts.{Names, ahead}
use Rattle.nesc_tree.specs.Phrase.{Phrase}
use Rattle.nesc_tree.specs.Form.{Form, Place, next}
use Rattle.nesc_tree.specs.Reading.{Syntax, Answer, read, phrase, ◌>>=◌}
use Rattle.nesc_grammar.specs.Grammar as grammar
use Rattle.nesc_grammar.specs.Components as spec
use Rattle.nesc_grammar.specs.Laws.{answer}
use Rattle.nesc_grammar.specs.Production.{production}
use Rattle.nesc_parse_types.specs.declared.stop.Stop.{Stop}
use Rattle.nesc_parse_types.specs.Gives.{Fails, Found, Gives, form_in, place}
use Rattle.nesc_parse_types.proofs.Guards.{open_guard}
use Rattle.nesc_left_out.specs.Probes.{is_ended}
use Rattle.nesc_left_out.proofs.Stands.{ended}
use Rattle.nesc_parse_comp.specs.declared.kinds.UnitKind.{UnitKind}
use Rattle.nesc_parse_comp.specs.declared.kinds.UnitKind.TheVariants as kind
use Rattle.nesc_parse_comp.specs.Reads as reads
use Rattle.nesc_parse_comp.specs.Units.{most, spare, phrase_of}

abbrev put : {A : Type 0} → A → Place → Answer A
put a p = Ok (a, p)

abbrev read_at : {A : Type 0} → ℕ → Form A → Place → Answer A
read_at d g p = read d (phrase production d) g p

by_is : {A : Type 0} (d : ℕ) (f : Sort → Form A) (p : Place) → 0 < d → read_at d (Form.by f) p ≡ read_at d (f (next p)) p
unfolding read
by_is d f p l = open_guard d (f (next p)) p (read_at d (f (next p)) p) l

pub by_at : {A : Type 0} (d : ℕ) (f : Sort → Form A) (names : Names) (ts : List Token) → 0 < d → (x : Sort) → x ≡ ahead names ts → form_in d (Form.by f) names ts ≡ form_in d (f x) names ts
by_at d f names ts l x e = by_is d f (place names ts) l ∙ ap (λ (y : Sort). form_in d (f y) names ts) (sym e)

pub some_room : (d : ℕ) → 1 < d → 0 < d
some_room d l = omega arith

-- ---- a word, a head and what is behind it

module _ {B : Type 0} (F : Head → B → Part) (g : Bool) where
  abbrev made : (Bool → Head) → B → Bool → Part
  made h b = λ c. F (h c) b

  with_body : (h : Bool → Head) (r : Answer B) → (((r >>= λ b. put (made h b.0) b.1) >>= λ k. put k.0 k.1) >>= λ k. put (k.0 g) k.1) ≡ (r >>= λ b. put (F (h g) b.0) b.1)
  with_body h (Ok b) = refl
  with_body h (Err e) = refl

  with_head : (r : Answer (Bool → Head)) (y : Place → Answer B)
      → (((r >>= λ h. y h.1 >>= λ b. put (made h.0 b.0) b.1) >>= λ k. put k.0 k.1) >>= λ k. put (k.0 g) k.1) ≡ ((r >>= λ h. put (h.0 g) h.1) >>= λ h. y h.1 >>= λ b. put (F h.0 b.0) b.1)
  with_head (Ok h) y = with_body h.0 (y h.1)
  with_head (Err e) y = refl

  with_word : (r : Answer Token) (x : Place → Answer (Bool → Head)) (y : Place → Answer B)
      → ((r >>= λ o. (x o.1 >>= λ h. y h.1 >>= λ b. put (made h.0 b.0) b.1) >>= λ k. put k.0 k.1) >>= λ k. put (k.0 g) k.1) ≡ (r >>= λ o. (x o.1 >>= λ h. put (h.0 g) h.1) >>= λ h. y h.1 >>= λ b. put (F h.0 b.0) b.1)
  with_word (Ok o) x y = with_head (x o.1) y
  with_word (Err e) x y = refl

module _ (d : ℕ) (g : Bool) (names : Names) (ts : List Token) where
  abbrev component_in : Sort → Answer Part
  component_in x = form_in d (grammar.applied g (spec.component_by x)) names ts

  module_is : component_in s.Module ≡ reads.module_part d g names ts
  unfolding read
  module_is = with_word reads.module_of g (form_in d (grammar.one s.Module) names ts) (λ q. read_at d spec.head q) (λ q. read_at d reads.module_body q)

  configuration_is : component_in s.Configuration ≡ reads.configuration_part d g names ts
  unfolding read
  configuration_is = with_word reads.config_of g (form_in d (grammar.one s.Configuration) names ts) (λ q. read_at d spec.head q) (λ q. read_at d reads.configuration_body q)

  pub module_case : (x : Sort) → x ≡ s.Module → component_in x ≡ reads.module_part d g names ts
  module_case x h = ap (λ (y : Sort). component_in y) h ∙ module_is

  pub configuration_case : (x : Sort) → x ≡ s.Configuration → component_in x ≡ reads.configuration_part d g names ts
  configuration_case x h = ap (λ (y : Sort). component_in y) h ∙ configuration_is

  pub no_component : (x : Sort) → (x ≡ s.Module → ⊥) → (x ≡ s.Configuration → ⊥) → component_in x ≡ Err (Syntax ts)
  unfolding read
  no_component s.Module h k = absurd (h refl)
  no_component s.Configuration h k = absurd (k refl)
  no_component s.End h k = refl
  no_component _ h k = refl

-- ---- behind `generic`

abbrev Made : Type 0
Made = Bool → Part

as_generic : (r : Answer Made) → ((r >>= λ k. put k.0 k.1) >>= λ k. put (k.0 true) k.1) ≡ (r >>= λ k. put (k.0 true) k.1)
as_generic (Ok k) = refl
as_generic (Err e) = refl

with_generic : (r : Answer Token) (x y : Place → Answer Made) → ((q : Place) → x q ≡ y q) → ((r >>= λ o. x o.1 >>= λ k. put k.0 k.1) >>= λ k. put (k.0 true) k.1) ≡ (r >>= λ o. y o.1 >>= λ k. put (k.0 true) k.1)
with_generic (Ok o) x y same = as_generic (x o.1) ∙ ap (λ (r : Answer Made). r >>= λ k. put (k.0 true) k.1) (same o.1)
with_generic (Err e) x y same = refl

module _ (d : ℕ) (names : Names) (ts : List Token) where
  generic_is : 0 < d → form_in d (spec.component_part s.Generic) names ts ≡ reads.generic_part d names ts
  unfolding read
  generic_is l = with_generic (form_in d (grammar.one s.Generic) names ts) (λ q. read_at d (Form.by spec.component_by) q) (λ q. read_at d (spec.component_by (next q)) q) (λ q. by_is d spec.component_by q l)

  pub generic_case : 0 < d → (x : Sort) → x ≡ s.Generic → form_in d (spec.component_part x) names ts ≡ reads.generic_part d names ts
  generic_case l x h = ap (λ (y : Sort). form_in d (spec.component_part y) names ts) h ∙ generic_is l

  pub other_case : (x : Sort) → (x ≡ s.Generic → ⊥) → form_in d (spec.component_part x) names ts ≡ form_in d (grammar.applied false (spec.component_by x)) names ts
  other_case s.Generic h = absurd (h refl)
  other_case s.End h = refl
  other_case _ h = refl

  pub interface_case : (x : Sort) → x ≡ s.Interface → form_in d (spec.interface_part x) names ts ≡ form_in d spec.interface_form names ts
  interface_case x h = rw h refl

  pub no_interface : (x : Sort) → (x ≡ s.Interface → ⊥) → form_in d (spec.interface_part x) names ts ≡ Err (Syntax ts)
  unfolding read
  no_interface s.Interface h = absurd (h refl)
  no_interface s.End h = refl
  no_interface _ h = refl

-- ---- units

module _ (d : ℕ) (names : Names) (ts : List Token) (x : Sort) where
  pub of_interface : (k : UnitKind) → k ≡ kind.Interface → form_in d (reads.part_of k x) names ts ≡ form_in d (spec.interface_part x) names ts
  of_interface k h = rw h refl

  pub of_component : (k : UnitKind) → k ≡ kind.Component → form_in d (reads.part_of k x) names ts ≡ form_in d (spec.component_part x) names ts
  of_component k h = rw h refl

pub interface_unit : (names : Names) (ts : List Token) → answer most Phrase.interface names ts ≡ form_in spare (reads.unit_form kind.Interface) names ts
unfolding phrase
interface_unit names ts = refl

pub component_unit : (names : Names) (ts : List Token) → answer most Phrase.component names ts ≡ form_in spare (reads.unit_form kind.Component) names ts
unfolding phrase
component_unit names ts = refl

module _ (names after : Names) (ts : List Token) where
  pub tells_end : (k : UnitKind) (found : Found unit.Unit) (r : Result Bool NoMemory) → IfOk r (λ b. (ns : Names) (y : Answer unit.Unit) → Gives ns found y → b ≡ is_ended y)
      → Gives after found (form_in spare (reads.unit_form k) names ts) → IfOk r (λ b. b ≡ is_ended (answer most (phrase_of k) names ts))
  tells_end kind.Interface found r h g = ended after found (answer most Phrase.interface names ts) r h (subst (Gives after found) (sym (interface_unit names ts)) g)
  tells_end kind.Component found r h g = ended after found (answer most Phrase.component names ts) r h (subst (Gives after found) (sym (component_unit names ts)) g)

pub stops_so : (k : UnitKind) (names : Names) (ts : List Token) (e : Stop) → Fails e (form_in spare (reads.unit_form k) names ts) → Fails e (answer most (phrase_of k) names ts)
stops_so kind.Interface names ts e h = subst (Fails {Y = unit.Unit × Place} e) (sym (interface_unit names ts)) h
stops_so kind.Component names ts e h = subst (Fails {Y = unit.Unit × Place} e) (sym (component_unit names ts)) h

pub stops_at : (k : UnitKind) (names ns : Names) (ts : List Token) (e : Stop) → ns ≡ names → Fails e (form_in spare (reads.unit_form k) names ts) → Fails e (answer most (phrase_of k) ns ts)
stops_at k names ns ts e n h = subst (λ (ms : Names). Fails e (answer most (phrase_of k) ms ts)) (sym n) (stops_so k names ts e h)
