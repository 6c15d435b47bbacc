use Rattle.std.proofs.Common.{◌≡◌, ℕ, suc, ◌+◌, ◌<◌, ◌≤◌, ◌==◌, Bool, true, false, cond, List, ◌∷◌, ◌++◌, length, drop, get_or, sym, ap, ◌∙◌, subst, arith}
use Rattle.std.specs.List.{All}
use Rattle.std.proofs.Math.Seq.{drop-cons}
use Rattle.std.proofs.lemmas.List.{append_assoc, take_all}
use Rattle.std.proofs.lemmas.List.Elements.{All-more}
use Rattle.msp_isa.specs.declared.code.Item.{Item}
use Rattle.msp_runtime.specs.Code.{Nothing, items_from, labels}
use Rattle.msp_checks.specs.Checks.{IsWordRun, match_code, run_code, runs_code}
use Rattle.msp_checks.proofs.checks.put_all_runs.Goals as goal

-- what is left begins with this run
left : (runs : List (ℕ × ℕ)) (i : ℕ) → i < length runs → drop i runs ≡ get_or runs i (0, 0) ∷ drop (i + 1) runs
left runs i lt = drop-cons runs i (0, 0) lt ∙ ap (λ n. get_or runs i (0, 0) ∷ drop n runs) (let e : suc i ≡ i + 1 = omega arith in e)

-- one run more is written
written : (size : ℕ) (run : ℕ × ℕ) (runs : List (ℕ × ℕ)) (label next : ℕ) (old items whole : List Item) → items ≡ old ++ items_from (run_code size run) label → next ≡ label + labels (run_code size run) →
    old ++ items_from (runs_code size (run ∷ runs)) label ≡ whole → items ++ items_from (runs_code size runs) next ≡ whole
written size run runs label next old items whole put up rest =
    ap (λ xs. xs ++ items_from (runs_code size runs) next) put
    ∙ ap (λ n. (old ++ items_from (run_code size run) label) ++ items_from (runs_code size runs) n) up
    ∙ append_assoc old (items_from (run_code size run) label) (items_from (runs_code size runs) (label + labels (run_code size run))) ∙ rest

few_labels : (size : ℕ) (run : ℕ × ℕ) → labels (run_code size run) ≤ 3
few_labels size run = by (run.1 == 0)
  where
    by : (b : Bool) → labels (cond b Nothing (match_code size run)) ≤ 3
    by true = omega arith
    by false = omega arith

pub loop-run-preserved : goal.loop-run-preserved
loop-run-preserved c =
    let h = c.in_ok-label.ensures in
    let inv = c.loop-run.invariant in
    let i = c.loop-run.run-index in
    let runs = c.args.runs.now in
    let size = c.args.size in
    let run = get_or runs i (0, 0) in
    let front = left runs i c.loop-run-test.true in
    let few = few_labels size run in
    let up = h.label in
    let next = c.in_ok-label.label in
    let rest : c.loop-run.label + labels (runs_code size (run ∷ drop (i + 1) runs)) ≡ 5 + labels (runs_code size runs) = ap (λ rs. c.loop-run.label + labels (runs_code size rs)) (sym front) ∙ inv.label in
    let small = inv.small in record {
      items = written size run (drop (i + 1) runs) c.loop-run.label next c.loop-run.items.items c.put_run.new.items.items (c.args.items.now.items ++ items_from (runs_code size runs) 5) h.items up
          (ap (λ rs. c.loop-run.items.items ++ items_from (runs_code size rs) c.loop-run.label) (sym front) ∙ inv.items);
      label = omega (arith, up, rest);
      small = omega (arith, up, few, small);
      words = All-more IsWordRun runs i (0, 0) c.loop-run-test.true inv.words c.put_run.ensures.word;
    }

pub returns-clause-words : goal.returns-clause-words
returns-clause-words c = subst (λ rs. All IsWordRun rs) (take_all c.loop-run.run-index c.args.runs.now c.loop-run-test.false) c.loop-run.invariant.words
