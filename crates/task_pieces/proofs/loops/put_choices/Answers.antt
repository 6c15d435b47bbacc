-- One choice more.
use Rattle.std.proofs.Common.{◌≡◌, ℕ, suc, ◌+◌, ◌<◌, List, ◌∷◌, [], ◌++◌, length, drop, get_or, sym, ap, ◌∙◌, arith, append_assoc}
use Rattle.std.proofs.Math.Seq.{drop-cons}
use Rattle.msp_isa.specs.declared.code.Item.{Item}
use Rattle.preempt_tasks.specs.Laid.{choice_items}
use Rattle.task_pieces.proofs.loops.put_choices.Goals as goal

-- what is left begins with this task
left : (tasks : List ℕ) (k : ℕ) → k < length tasks → drop k tasks ≡ get_or tasks k 0 ∷ drop (k + 1) tasks
left tasks k lt = drop-cons tasks k 0 lt ∙ ap (λ n. get_or tasks k 0 ∷ drop n tasks) (let e : suc k ≡ k + 1 = omega arith in e)

written : (task k : ℕ) (rest : List ℕ) (old items whole : List Item) → items ≡ old ++ choice_items k (task ∷ []) → old ++ choice_items k (task ∷ rest) ≡ whole → items ++ choice_items (k + 1) rest ≡ whole
written task k rest old items whole put e =
    let next : suc k ≡ k + 1 = omega arith in
    ap (λ l. l ++ choice_items (k + 1) rest) put
    ∙ append_assoc old (choice_items k (task ∷ [])) (choice_items (k + 1) rest)
    ∙ ap (λ n. old ++ (choice_items k (task ∷ []) ++ choice_items n rest)) (let e : k + 1 ≡ suc k = omega arith in e)
    ∙ e

pub loop-k-preserved : goal.loop-k-preserved
loop-k-preserved c =
    let k = c.loop-k.k in
    let tasks = c.args.tasks.now in
    let front = left tasks k c.loop-k-test.true in
    written (get_or tasks k 0) k (drop (k + 1) tasks) c.loop-k.items.items c.put_choice.new.items.items _ c.in_ok-put_choice.ensures
    (ap (λ l. c.loop-k.items.items ++ choice_items k l) (sym front) ∙ c.loop-k.invariant)
