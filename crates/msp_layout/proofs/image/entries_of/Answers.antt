-- The entry of one function more.
use Rattle.std.proofs.Common.{◌≡◌, ℕ, ◌+◌, ◌<◌, ◌≤◌, List, [], ◌∷◌, ◌++◌, length, get_or, arith, sym, ap, ◌∙◌, ◌⊎◌, inl, inr}
use Rattle.std.proofs.lemmas.Bool.{cases_lt}
use Rattle.std.proofs.lemmas.List.{get_or_append_left, get_or-append-add, length-append}
use Rattle.msp_layout.specs.declared.form.Formed.{Formed}
use Rattle.msp_layout.specs.Bytes.{entry_of}
use Rattle.msp_layout.specs.Words.{all_sizes}
use Rattle.msp_layout.proofs.Functions.{entry_read, entry_fits}
use Rattle.msp_layout.proofs.image.entries_of.Goals as goal

one_more : (forms : List Formed) (entries : List ℕ) (n at : ℕ) → length entries ≡ n → at ≡ 0x4000 + entry_of (all_sizes forms) n → ((f : ℕ) → f < n → get_or entries f 0 ≡ 0x4000 + entry_of (all_sizes forms) f) →
    (f : ℕ) → f < n + 1 → get_or (entries ++ at ∷ []) f 0 ≡ 0x4000 + entry_of (all_sizes forms) f
one_more forms entries n at len e so f lt = go (cases_lt f n)
  where
    go : (f < n) ⊎ (n ≤ f) → get_or (entries ++ at ∷ []) f 0 ≡ 0x4000 + entry_of (all_sizes forms) f
    go (inl below) = get_or_append_left entries (at ∷ []) 0 f (omega arith) ∙ so f below
    go (inr above) = let same : f ≡ length entries + 0 = omega arith in let here : f ≡ n = omega arith in rw same (get_or-append-add entries (at ∷ []) 0 0 ∙ e ∙ ap (λ (k : ℕ). 0x4000 + entry_of (all_sizes forms) k) (sym here ∙ same))

pub overflow_cast-at : goal.overflow_cast-at
overflow_cast-at c = omega (arith, entry_fits c.args.forms.now c.loop-form.form-index c.form-item.result c.loop-form-test.true c.form-item.is, c.bytes.ensures, c.requires.room)

pub overflow_add-at : goal.overflow_add-at
overflow_add-at c = omega (arith, entry_fits c.args.forms.now c.loop-form.form-index c.form-item.result c.loop-form-test.true c.form-item.is, c.bytes.ensures, c.requires.room, c.loop-form.invariant.1)

pub loop-form-preserved : goal.loop-form-preserved
loop-form-preserved c = (
  rw c.in_ok-push.ensures.items (omega (arith, length-append c.loop-form.entries.items (c.loop-form.at ∷ []), c.loop-form.invariant.0)),
  omega (arith, entry_read c.args.forms.now c.loop-form.form-index c.form-item.result c.loop-form-test.true c.form-item.is, c.bytes.ensures, c.loop-form.invariant.1),
  rw c.in_ok-push.ensures.items (one_more c.args.forms.now c.loop-form.entries.items c.loop-form.form-index c.loop-form.at c.loop-form.invariant.0 c.loop-form.invariant.1 c.loop-form.invariant.2),
)
