-- What is pushed is what the callee's parameters ask for.
use Rattle.std.proofs.Common.{◌≡◌, ◌*◌, List, ◌++◌, OnOk, ap, subst, ◌∙◌}
use Rattle.msp_isa.specs.declared.code.Item.{Item}
use Rattle.msp_isa.specs.declared.code.Item.TheVariants as item
use Rattle.mid_code.specs.Machine.{fn_of}
use Rattle.msp_select.specs.Frames.{frame_home, own_bytes}
use Rattle.msp_select.specs.Select.{items_of, pushes, raised, takes}
use Rattle.select_emitter.specs.Pushes.{chosen}
use Rattle.select_emitter.proofs.Pushing.{call_items, joined_call}
use Rattle.select_emitter.proofs.calls.put_call.Goals as goal

pub returns : goal.returns
returns c =
    let code = c.args.scope.now.code.now in
    let home = frame_home c.args.scope.now.function.now in
    let own = own_bytes c.args.scope.now.function.now in
    let callee = c.frame_of-callee in
    subst (λ (l : List Item). OnOk c.put_takes.result (c.put_takes.new.items.items ≡ l))
    (joined_call c.args.items.now.items _ _ _ (items_of (pushes code home own 0 (chosen c.as_slice.result.now c.args.ins.now))) (items_of (raised (2 * callee.result.now.words))) (items_of (takes code home own 12 c.args.outs.now)) (item.CallFn c.args.g)
    c.in_ok-put_pushes.ensures c.in_ok-put.ensures c.in_ok-put_raised.ensures
    ∙ ap (λ l. c.args.items.now.items ++ l) (call_items code home own c.args.g callee.result.now.words (fn_of code c.args.g).params c.as_slice.result.now c.args.ins.now c.args.outs.now (c.as_slice.ensures ∙ callee.ensures.flags) callee.ensures.words))
    c.put_takes.ensures
