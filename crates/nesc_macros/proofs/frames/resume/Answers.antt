use Rattle.std.proofs.Common.{◌≡◌, ◌∙◌, ◌+◌, ◌-◌, ◌^◌, ◌++◌, [], List, length, map, min, refl, sym, ap, arith}
use Rattle.std.proofs.lemmas.List.{length-append}
use Rattle.std.proofs.lemmas.Result.{err_from_is_err_and}
use Rattle.nesc_macros.specs.declared.definition.NumberedToken.{NumberedToken}
use Rattle.nesc_macros.specs.Expansion.{substituted}
use Rattle.nesc_macros.specs.Numbers.{Scope, macros_at, all_shown, names_of}
use Rattle.nesc_macros.specs.Frames.{all_suspended, replaced, suspended}
use Rattle.nesc_macros.proofs.Linked.{extends_self}
use Rattle.nesc_macros.proofs.Naming.{shown_append, shown_length, weight_front}
use Rattle.nesc_macros.proofs.Turns.{argument_is_next, ends_elsewhere, function_is_replaced, none_left, too_long_unless}
use Rattle.nesc_macros.proofs.frames.resume.Goals as goal

pub returns-in-Some-clause-leads : goal.returns-in-Some-clause-leads
returns-in-Some-clause-leads c scope whole extends ends =
    argument_is_next (macros_at scope) c.args.count.now (all_suspended scope c.args.frames.now.items) (suspended scope c.args.frame) (all_shown scope c.in-Some.argument) (map (all_shown scope) c.pop_front.new.self.items) whole (ap (map (all_shown scope)) c.in-Some.ensures.items)
    (ends_elsewhere (macros_at scope) c.args.count.now _ _ (all_shown scope c.new.result.items) [] (all_shown scope c.in-Some.argument) (all_shown scope c.in-Some.argument) whole (ap (all_suspended scope) c.in_ok-push_front.ensures.items) (ap (all_shown scope) c.new.ensures.items) refl ends)

pub returns-in_err-count_more-clause-refused : goal.returns-in_err-count_more-clause-refused
returns-in_err-count_more-clause-refused c =
    let frame = c.args.frame in
    let p = err_from_is_err_and c.from_residual-in_err-count_more.result c.from_residual-in_err-count_more.ensures.1 in
    let refused = c.in_err-count_more.ensures.refused in
    let waits : frame.waiting.items ≡ [] = none_left frame.waiting.items c.pop_front.new.self.items c.in_default.ensures.items c.pop_front.ensures.rest in
    let len : (scope : Scope) → c.replacement_len.result ≡ min (length (replaced (suspended scope frame) (map (all_shown scope) frame.expanded.items))) (2 ^ 64 - 1) =
    λ scope. c.replacement_len.ensures scope frame.pos (names_of scope frame.hide_set) ∙ ap (λ (arguments : List (List NumberedToken)). min (length (replaced (suspended scope frame) (map (all_shown scope) arguments))) (2 ^ 64 - 1)) c.deref.ensures.value in
    rw (p.1, p.2) (too_long_unless c.in_err-count_more.field-0.0 c.args.count.now c.count_more.new.count (λ scope. all_suspended scope c.args.frames.now.items) (λ scope. suspended scope frame) refused.0 refused.1 (λ scope. ap (map (all_shown scope)) waits) (λ scope. omega (arith, len scope, refused.2)))

pub returns-clause-leads : goal.returns-clause-leads
returns-clause-leads c scope whole extends ends =
    let frame = c.args.frame in
    let waits : frame.waiting.items ≡ [] = none_left frame.waiting.items c.pop_front.new.self.items c.in_default.ensures.items c.pop_front.ensures.rest in
    let len : c.replacement_len.result ≡ min (length (replaced (suspended scope frame) (map (all_shown scope) frame.expanded.items))) (2 ^ 64 - 1) =
    c.replacement_len.ensures scope frame.pos (names_of scope frame.hide_set) ∙ ap (λ (arguments : List (List NumberedToken)). min (length (replaced (suspended scope frame) (map (all_shown scope) arguments))) (2 ^ 64 - 1)) c.deref.ensures.value in
    let list : all_shown scope c.in_ok-list.list.items ≡ replaced (suspended scope frame) (map (all_shown scope) frame.expanded.items) =
    c.in_ok-list.ensures.list scope extends ∙ (λ i. substituted frame.pos (names_of scope frame.hide_set) frame.parameters.now (map (all_shown scope) (c.deref-2.ensures.value i)) (c.as_slice-replacement.ensures i)) in
    let counted : c.count_more.new.count ≡ c.args.count.now + length (all_shown scope c.in_ok-list.list.items) = omega (arith, len, ap length list, c.in_ok-count_more.ensures.counted, c.count_more.ensures.within) in
    let put : all_shown scope c.put_front.new.self ≡ all_shown scope c.in_ok-list.list.items ++ all_shown scope frame.outer.pending = ap (all_shown scope) c.in_ok-put_front.ensures ∙ shown_append scope c.in_ok-list.list.items frame.outer.pending in
    function_is_replaced (macros_at scope) c.args.count.now c.count_more.new.count (all_suspended scope c.args.frames.now.items) (suspended scope frame) (all_shown scope c.in_ok-list.list.items) (all_shown scope c.put_front.new.self) whole (ap (map (all_shown scope)) waits) list counted c.count_more.ensures.within put ends

pub returns-clause-lighter : goal.returns-clause-lighter
returns-clause-lighter c =
    let frame = c.args.frame in
    let here : Scope = record { macros = record { definitions = []; numbers = [] }; links = c.substituted.new.sets.links.items } in
    let len : c.replacement_len.result ≡ min (length (substituted frame.pos (names_of here frame.hide_set) frame.parameters.now (map (all_shown here) c.deref.result.now) frame.definition.now.replacement)) (2 ^ 64 - 1) =
    c.replacement_len.ensures here frame.pos (names_of here frame.hide_set) in
    let same : length (all_shown here c.in_ok-list.list.items) ≡ length (substituted frame.pos (names_of here frame.hide_set) frame.parameters.now (map (all_shown here) c.deref.result.now) frame.definition.now.replacement) =
    ap length (c.in_ok-list.ensures.list here (extends_self here.links)) ∙ (λ i. length (substituted frame.pos (names_of here frame.hide_set) frame.parameters.now (map (all_shown here) ((c.deref-2.ensures.value ∙ sym c.deref.ensures.value) i)) (c.as_slice-replacement.ensures i))) in
    let put : length c.put_front.new.self ≡ length c.in_ok-list.list.items + length frame.outer.pending = ap length c.in_ok-put_front.ensures ∙ length-append c.in_ok-list.list.items frame.outer.pending in
    omega (arith, len, same, shown_length here c.in_ok-list.list.items, put, c.in_ok-count_more.ensures.counted, c.count_more.ensures.within, weight_front frame c.args.frames.now.items)
