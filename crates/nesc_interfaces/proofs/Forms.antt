-- The form of an interface, read part by part.
use Rattle.std.proofs.Common.{◌≡◌, ◌<◌, ◌-◌, ℕ, zero, suc, Bool, true, false, cond, List, [], Ok, Err, refl, sym, ap, subst, ◌∙◌, arith}
use Rattle.std.specs.Prelude.{map as each}
use Rattle.nm_base.specs.declared.token.Token.{Token}
use Rattle.nesc_tree.specs.declared.sorts.Sort.TheVariants as s
use Rattle.nesc_tree.specs.declared.declarations.Attr.{Attr}
use Rattle.nesc_tree.specs.declared.components.Part.{Part}
use Rattle.nesc_tree.specs.declared.components.Sig.{Sig}
use Rattle.nesc_tree.specs.Sorts.{Names}
use Rattle.nesc_tree.specs.Form.{Form, Place, next, starts}
use Rattle.nesc_tree.specs.Reading.{Fault, Syntax, Deep, Answer, read, phrase, ◌>>=◌}
use Rattle.nesc_grammar.specs.Grammar as grammar
use Rattle.nesc_grammar.specs.Declarations as inner
use Rattle.nesc_grammar.specs.Components as spec
use Rattle.nesc_tree.proofs.Checked.{checked}
use Rattle.nesc_tree.proofs.Fine.{Fine}
use Rattle.nesc_parse_types.specs.declared.stop.Stop.TheVariants as rust
use Rattle.nesc_parse_types.specs.Gives.{Found, Gives, form_in, place}
use Rattle.nesc_declarators.proofs.Turns.{read_at}
use Rattle.nesc_specifications.proofs.Forms.{maybe_is, between_is}
use Rattle.nesc_specifications.proofs.Mapped.{put, changed, listed_is}
use Rattle.nesc_interfaces.specs.Parts as parts
use Rattle.nesc_interfaces.specs.Reads as reads
use Rattle.nesc_interfaces.specs.Reads.{item_in}

-- ---- names that end with a form

module _ {X : Type 0} (d : ℕ) (g : Form X) (before inside : Names) (ts : List Token) where
  closed : (a : X) (rest : List Token) (y : Answer X) → y ≡ put a (place inside rest) → (y >>= λ x. put x.0 (place before x.1.rest)) ≡ put a (place before rest)
  closed a rest y h = rw h refl

  refused : (e : Fault) (y : Answer X) → y ≡ Err e → (y >>= λ x. put x.0 (place before x.1.rest)) ≡ Err e
  refused e y h = rw h refl

  pub scope_gives : (r : Found X) → Gives inside r (form_in d g before ts) → Gives before r (form_in d (Form.scope g) before ts)
  unfolding read
  scope_gives (Ok x) h = closed x.0 x.1.now (form_in d g before ts) h
  scope_gives (Err rust.Memory) h = tt
  scope_gives (Err (rust.Syntax us)) h = refused (Syntax us.now) (form_in d g before ts) h
  scope_gives (Err (rust.Deep us)) h = refused (Deep us.now) (form_in d g before ts) h

-- ---- items

an_item : (n : ℕ) (names : Names) (ts : List Token) → item_in (suc n) names ts ≡ form_in n spec.item names ts
unfolding phrase
an_item n names ts = refl

pub item_gives : (d : ℕ) (names : Names) (ts : List Token) (r : Found Sig) → 0 < d → Gives names r (form_in (d - 1) spec.item names ts) → Gives names r (item_in d names ts)
item_gives zero names ts r l g = absurd (omega arith)
item_gives (suc n) names ts r l g =
    let e : suc n - 1 ≡ n = omega arith in
    subst (Gives names r) (sym (an_item n names ts)) (subst (λ (k : ℕ). Gives names r (form_in k spec.item names ts)) e g)

pub items_fine : Fine parts.some_items
items_fine = checked parts.some_items refl

pub parameters_fine : Fine parts.some_parameters
parameters_fine = checked parts.some_parameters refl

-- ---- interfaces

abbrev pub texts : List Token → List (List ℕ)
texts ts = each (λ (t : Token). t.text) ts

module _ (d : ℕ) (room : 0 < d) where
  parameters_is : (p : Place) → changed texts (read_at d spec.type_parameters p) ≡ read_at d parts.type_parameters p
  parameters_is p =
      let by : (c : Bool) → changed texts (cond c (read_at d (inner.between s.Less s.Greater (inner.listed spec.type_parameter)) p) (put [] p)) ≡ cond c (read_at d (inner.between s.Less s.Greater parts.some_parameters) p) (put [] p)
      = elim [
        | true ↦ between_is texts d s.Less s.Greater (inner.listed spec.type_parameter) parts.some_parameters (λ q. listed_is (λ (t : Token). t.text) spec.type_parameter d room q) p
        | false ↦ refl
      ] in
      ap (changed texts) (maybe_is d (inner.between s.Less s.Greater (inner.listed spec.type_parameter)) [] p room)
      ∙ (by (starts (inner.between s.Less s.Greater parts.some_parameters) (next p)) ∙ sym (maybe_is d (inner.between s.Less s.Greater parts.some_parameters) [] p room))

abbrev made : List Attr → List Sig → List Token → Token → Part
made l is ts x = spec.interface_of x ts l is

with_items : (t : Token) (ps : List Token) (l : List Attr) (r : Answer (List Sig)) → (((r >>= λ is. put (made l is.0) is.1) >>= λ f. put (f.0 ps) f.1) >>= λ f. put (f.0 t) f.1) ≡ (r >>= λ is. put (parts.interface_of t (texts ps) l is.0) is.1)
with_items t ps l (Ok is) = refl
with_items t ps l (Err e) = refl

with_attributes : (t : Token) (ps : List Token) (r : Answer (List Attr)) (y : Place → Answer (List Sig))
    → (((r >>= λ l. y l.1 >>= λ is. put (made l.0 is.0) is.1) >>= λ f. put (f.0 ps) f.1) >>= λ f. put (f.0 t) f.1) ≡ (r >>= λ l. y l.1 >>= λ is. put (parts.interface_of t (texts ps) l.0 is.0) is.1)
with_attributes t ps (Ok l) y = with_items t ps l.0 (y l.1)
with_attributes t ps (Err e) y = refl

with_parameters : (t : Token) (r : Answer (List Token)) (x : Place → Answer (List Attr)) (y : Place → Answer (List Sig))
    → ((r >>= λ ps. (x ps.1 >>= λ l. y l.1 >>= λ is. put (made l.0 is.0) is.1) >>= λ f. put (f.0 ps.0) f.1) >>= λ f. put (f.0 t) f.1)
    ≡ (changed texts r >>= λ ps. x ps.1 >>= λ l. y l.1 >>= λ is. put (parts.interface_of t ps.0 l.0 is.0) is.1)
with_parameters t (Ok ps) x y = with_attributes t ps.0 (x ps.1) y
with_parameters t (Err e) x y = refl

with_name : (r : Answer Token) (g : Place → Answer (List Token)) (h : Place → Answer (List (List ℕ))) (same : (q : Place) → changed texts (g q) ≡ h q) (x : Place → Answer (List Attr)) (y : Place → Answer (List Sig))
    → ((r >>= λ t. put t.0 t.1) >>= λ t. (g t.1 >>= λ ps. (x ps.1 >>= λ l. y l.1 >>= λ is. put (made l.0 is.0) is.1) >>= λ f. put (f.0 ps.0) f.1) >>= λ f. put (f.0 t.0) f.1)
    ≡ (r >>= λ t. h t.1 >>= λ ps. x ps.1 >>= λ l. y l.1 >>= λ is. put (parts.interface_of t.0 ps.0 l.0 is.0) is.1)
with_name (Ok t) g h same x y =
    with_parameters t.0 (g t.1) x y ∙ ap (λ (k : Answer (List (List ℕ))). k >>= λ ps. x ps.1 >>= λ l. y l.1 >>= λ is. put (parts.interface_of t.0 ps.0 l.0 is.0) is.1) (same t.1)
with_name (Err e) g h same x y = refl

with_word : (r : Answer Token) (n : Place → Answer Token) (g : Place → Answer (List Token)) (h : Place → Answer (List (List ℕ))) (same : (q : Place) → changed texts (g q) ≡ h q) (x : Place → Answer (List Attr)) (y : Place → Answer (List Sig))
    → ((r >>= λ o. n o.1 >>= λ t. put t.0 t.1) >>= λ t. (g t.1 >>= λ ps. (x ps.1 >>= λ l. y l.1 >>= λ is. put (made l.0 is.0) is.1) >>= λ f. put (f.0 ps.0) f.1) >>= λ f. put (f.0 t.0) f.1)
    ≡ (r >>= λ o. n o.1 >>= λ t. h t.1 >>= λ ps. x ps.1 >>= λ l. y l.1 >>= λ is. put (parts.interface_of t.0 ps.0 l.0 is.0) is.1)
with_word (Ok o) n g h same x y = with_name (n o.1) g h same x y
with_word (Err e) n g h same x y = refl

pub interface_is : (d : ℕ) → 0 < d → (names : Names) (ts : List Token) → form_in d spec.interface_form names ts ≡ reads.interface d names ts
unfolding read
interface_is d room names ts =
    with_word (form_in d (grammar.one s.Interface) names ts) (λ q. read_at d grammar.name q) (λ q. read_at d spec.type_parameters q) (λ q. read_at d parts.type_parameters q) (parameters_is d room)
    (λ q. read_at d spec.attributes q) (λ q. read_at d spec.items q)
