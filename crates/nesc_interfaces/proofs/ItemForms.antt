-- The form of a command or event, read part by part.
use Rattle.std.proofs.Common.{◌≡◌, ℕ, Bool, List, Ok, Err, refl}
use Rattle.nm_base.specs.declared.token.Token.{Token}
use Rattle.nesc_tree.specs.declared.sorts.Sort.TheVariants as s
use Rattle.nesc_tree.specs.declared.operand.CastType.{CastType}
use Rattle.nesc_tree.specs.declared.components.Sig.{Sig}
use Rattle.nesc_tree.specs.Sorts.{Names}
use Rattle.nesc_tree.specs.Form.{Place}
use Rattle.nesc_tree.specs.Reading.{Answer, read, ◌>>=◌}
use Rattle.nesc_grammar.specs.Grammar as grammar
use Rattle.nesc_grammar.specs.Components as spec
use Rattle.nesc_parse_types.specs.Gives.{form_in}
use Rattle.nesc_declarators.proofs.Turns.{read_at}
use Rattle.nesc_specifications.proofs.Mapped.{put}
use Rattle.nesc_interfaces.specs.Items as steps

abbrev Rest : Type 0
Rest = Place → Answer (CastType → Token → Bool → Sig)

with_type : (a : Bool) (k : Token) (r : Answer CastType) (x : Rest)
    → (((r >>= λ t. x t.1 >>= λ f. put (f.0 t.0) f.1) >>= λ f. put (f.0 k) f.1) >>= λ f. put (f.0 a) f.1) ≡ (r >>= λ t. ((x t.1 >>= λ f. put (f.0 t.0) f.1) >>= λ f. put (f.0 k) f.1) >>= λ f. put (f.0 a) f.1)
with_type a k (Ok t) x = refl
with_type a k (Err e) x = refl

with_word : (a : Bool) (r : Answer Token) (y : Place → Answer CastType) (x : Rest)
    → ((r >>= λ k. (y k.1 >>= λ t. x t.1 >>= λ f. put (f.0 t.0) f.1) >>= λ f. put (f.0 k.0) f.1) >>= λ f. put (f.0 a) f.1)
    ≡ (r >>= λ k. y k.1 >>= λ t. ((x t.1 >>= λ f. put (f.0 t.0) f.1) >>= λ f. put (f.0 k.0) f.1) >>= λ f. put (f.0 a) f.1)
with_word a (Ok k) y x = with_type a k.0 (y k.1) x
with_word a (Err e) y x = refl

with_async : (r : Answer Bool) (w : Place → Answer Token) (y : Place → Answer CastType) (x : Rest)
    → (r >>= λ a. (w a.1 >>= λ k. (y k.1 >>= λ t. x t.1 >>= λ f. put (f.0 t.0) f.1) >>= λ f. put (f.0 k.0) f.1) >>= λ f. put (f.0 a.0) f.1)
    ≡ (r >>= λ a. w a.1 >>= λ k. y k.1 >>= λ t. ((x t.1 >>= λ f. put (f.0 t.0) f.1) >>= λ f. put (f.0 k.0) f.1) >>= λ f. put (f.0 a.0) f.1)
with_async (Ok a) w y x = with_word a.0 (w a.1) y x
with_async (Err e) w y x = refl

pub item_is : (d : ℕ) (names : Names) (ts : List Token) → form_in d spec.item names ts ≡ steps.item d names ts
unfolding read
item_is d names ts = with_async (form_in d (grammar.optional s.Async) names ts) (λ q. read_at d (grammar.one s.Item) q) (λ q. read_at d grammar.type_form q) (λ q. read_at d spec.typed_item q)
