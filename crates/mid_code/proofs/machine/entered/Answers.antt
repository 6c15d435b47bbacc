use Rattle.std.proofs.Common.{◌≡◌, ◌∙◌, ap, sym, subst, length, slice_index, ℕ}
use Rattle.std.proofs.lemmas.List.{length-replicate}
use Rattle.mid_code.specs.Machine.{fn_of, put_all}
use Rattle.mid_code.specs.Form.{AreBelow}
use Rattle.mid_code.proofs.Calls.{made, own_params, zeros}
use Rattle.mid_code.proofs.machine.entered.Goals as goal

pub put_all-requires : goal.put_all-requires
put_all-requires c =
    let params = c.as_slice.ensures ∙ ap (λ fn. fn.params) c.function_of-callee.ensures in
    let long = ap length c.in_ok-values.ensures ∙ length-replicate {A = ℕ} _ _ ∙ ap (λ fn. fn.values) c.function_of-callee.ensures in
    subst (λ vs. AreBelow (length c.in_ok-values.values.items) vs) (sym params)
    (subst (λ n. AreBelow n (fn_of c.args.c.now c.args.g).params) (sym long) (own_params c.args.c.now c.requires.form c.args.g c.requires.function))

pub returns-clause-call : goal.returns-clause-call
returns-clause-call c = made c.args.g _ _ _ _
    (ap slice_index c.new.ensures ∙ c.put_all.ensures.values
    ∙ ap (λ v. put_all v c.as_slice.result.now c.args.passed.now) (ap slice_index c.in_ok-values.ensures ∙ zeros _)
    ∙ ap (λ vs. put_all (λ i. 0) vs c.args.passed.now) (c.as_slice.ensures ∙ ap (λ fn. fn.params) c.function_of-callee.ensures))
    (ap slice_index c.new-2.ensures ∙ ap slice_index c.in_ok-frame.ensures ∙ zeros _)
