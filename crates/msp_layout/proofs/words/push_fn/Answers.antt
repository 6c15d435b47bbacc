-- One item more, at the address that its place tells.
use Rattle.std.proofs.Common.{◌≡◌, ℕ, ◌+◌, ◌*◌, ◌<◌, ◌++◌, List, length, get_or, arith, sym, ap, ◌∙◌, append_assoc}
use Rattle.std.proofs.lemmas.List.{get_or_default}
use Rattle.std.specs.List.{AllByRecursion}
use Rattle.msp_isa.specs.declared.instr.Instr.{Instr}
use Rattle.msp_isa.specs.Encode.{IsWritten}
use Rattle.msp_isa.specs.declared.code.Item.{Item}
use Rattle.msp_layout.specs.Sizes.{IsCorrect}
use Rattle.msp_layout.specs.Words.{words_of, formed_item}
use Rattle.msp_layout.proofs.Stand.{one_more, more_bytes, formed_written, formed_as_read, place_read}
use Rattle.msp_layout.proofs.words.push_fn.Invariants.{AreSoFar}
use Rattle.msp_layout.proofs.words.push_fn.Goals as goal

pub overflow_cast-target : goal.overflow_cast-target
overflow_cast-target c =
    omega (
      arith,
      place_read c.args.items.now c.args.form.now.sizes.items c.args.form.now.targets.items c.args.form.now.places.items c.loop-k.k c.index-in-loop-k.result.now c.index-in-loop-k-2.result.now
          c.requires.formed.shortest c.requires.formed.targets c.requires.formed.places c.loop-k-test.true c.index-in-loop-k.ensures c.index-in-loop-k-2.ensures,
      c.requires.room,
    )

pub overflow_add-target : goal.overflow_add-target
overflow_add-target c =
    omega (
      arith,
      place_read c.args.items.now c.args.form.now.sizes.items c.args.form.now.targets.items c.args.form.now.places.items c.loop-k.k c.index-in-loop-k.result.now c.index-in-loop-k-2.result.now
          c.requires.formed.shortest c.requires.formed.targets c.requires.formed.places c.loop-k-test.true c.index-in-loop-k.ensures c.index-in-loop-k-2.ensures,
      c.requires.room,
      c.len.ensures,
    )

more_after : (entries : ℕ → ℕ) (fns : ℕ) (items : List Item) (sizes targets old code new : List ℕ) (k : ℕ) → IsCorrect items sizes → k < length items → AllByRecursion IsWritten (formed_item entries items sizes targets (2 * length old) k) →
    new ≡ code ++ words_of (formed_item entries items sizes targets (2 * length old) k) → AreSoFar entries items sizes targets old k code → AreSoFar entries items sizes targets old (k + 1) new
more_after entries fns items sizes targets old code new k is lt all e so = rw e (record {
  grows = (so.grows.0 ++ words_of (formed_item entries items sizes targets (2 * length old) k), sym (append_assoc old so.grows.0 (words_of (formed_item entries items sizes targets (2 * length old) k))) ∙ ap (λ (l : List ℕ). l ++ words_of (formed_item entries items sizes targets (2 * length old) k)) so.grows.1);
  len = more_bytes entries items sizes targets code (2 * length old) k is lt so.len;
  stands = one_more entries items sizes targets code (2 * length old) k is lt all so.len so.stands;
})

pub loop-k-preserved : goal.loop-k-preserved
loop-k-preserved c =
    let entries : ℕ → ℕ = λ f. get_or c.args.entries.now f 0 in
    let e = formed_as_read entries c.args.items.now c.args.form.now.sizes.items c.args.form.now.targets.items c.args.form.now.places.items c.args.code.now.items c.loop-k.k c.index.result.now c.index-in-loop-k.result.now c.index-in-loop-k-2.result.now c.index-in-loop-k-3.result.now c.len.result
    (get_or c.args.items.now c.loop-k.k _) c.requires.formed.shortest c.requires.formed.targets c.requires.formed.places c.loop-k-test.true (get_or_default c.args.items.now c.loop-k.k _ _ c.loop-k-test.true) c.index.ensures c.index-in-loop-k.ensures c.index-in-loop-k-2.ensures c.index-in-loop-k-3.ensures (omega (arith, c.len.ensures)) in
    more_after entries (length c.args.entries.now) c.args.items.now c.args.form.now.sizes.items c.args.form.now.targets.items c.args.code.now.items c.loop-k.code.items c.push_item.new.code.items c.loop-k.k c.requires.formed.shortest.correct c.loop-k-test.true
    (formed_written entries (length c.args.entries.now) c.args.items.now c.args.form.now.sizes.items c.args.form.now.targets.items (2 * length c.args.code.now.items) c.loop-k.k c.requires.formed.shortest.correct (c.requires.formed.targets.lead c.loop-k.k c.loop-k-test.true) (c.requires.good c.loop-k.k c.loop-k-test.true))
    (c.in_ok-push_item.ensures ∙ ap (λ (is : List Instr). c.loop-k.code.items ++ words_of is) e) c.loop-k.invariant

pub returns-clause-stands : goal.returns-clause-stands
returns-clause-stands c = λ k lt. c.loop-k.invariant.stands k (omega arith)
