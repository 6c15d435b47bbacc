use Rattle.std.proofs.Common.{◌≡◌, ◌∙◌, ◌+◌, ◌++◌, ◌∷◌, Err, List, length, map, refl, sym, ap, arith}
use Rattle.std.proofs.lemmas.List.{length-append}
use Rattle.std.proofs.lemmas.Result.{IfOk-weaker, IfErr-weaker, err_from_is_err_and}
use Rattle.nesc_macros.specs.declared.definition.NumberedToken.{NumberedToken}
use Rattle.nesc_macros.specs.declared.frames.Frame.{Frame}
use Rattle.nesc_macros.specs.Code.{actuals_of}
use Rattle.nesc_macros.specs.Expansion.{object_replacement}
use Rattle.nesc_macros.specs.Numbers.{IsIn, macros_at, scope_of, all_shown, names_of, shown}
use Rattle.nesc_macros.specs.Frames.{EndsIn, all_suspended}
use Rattle.nesc_macros.specs.Tables.{macros_in}
use Rattle.nesc_macros.specs.declared.hide_sets.Link.{Link}
use Rattle.nesc_macros.proofs.Linked.{extends_on, extends_self}
use Rattle.nesc_macros.proofs.Naming.{names_of_replacement, shown_append, shown_length, shown_push, weight_front}
use Rattle.nesc_macros.proofs.Turns.{ends_elsewhere, function_is_used, object_is_replaced, object_is_too_long, object_length, token_is_misused, token_passes, unless_too_many, unless_weaker}
use Rattle.nesc_macros.proofs.frames.expand_token.Goals as goal

pub returns-in_ok-push-in-Passes-clause-leads : goal.returns-in_ok-push-in-Passes-clause-leads
returns-in_ok-push-in-Passes-clause-leads c links whole extends ends =
    let h = rw c.in-Passes.is at (c.in_ok-use_at.ensures links extends) in
    let scope = scope_of c.args.table.now links in
    let macros = macros_at scope in
    token_passes macros c.args.count.now (all_suspended scope c.args.frames.now.items) (all_shown scope c.args.level.out.items) (all_shown scope c.args.level.pending) (all_shown scope c.push.new.self.items) (shown scope c.args.token) whole h.0 (ap (all_shown scope) c.in_ok-push-in-Passes.ensures.items ∙ shown_push scope c.args.level.out.items c.args.token)
    (ends_elsewhere macros c.args.count.now _ _ _ _ _ _ whole refl refl (ap (all_shown scope) h.1) ends)

pub returns-in_ok-put_front-in-ObjectLike-clause-leads : goal.returns-in_ok-put_front-in-ObjectLike-clause-leads
returns-in_ok-put_front-in-ObjectLike-clause-leads c links whole extends ends =
    let h = rw c.in-ObjectLike.is at (c.in_ok-use_at.ensures links (extends_on _ _ _ c.in_ok-list-in-ObjectLike.ensures.grows extends)) in
    let scope = scope_of c.args.table.now links in
    let macros = macros_at scope in
    let m = c.in-ObjectLike.found.definition.now in
    let t = shown scope c.args.token in
    let list = all_shown scope c.in_ok-list-in-ObjectLike.list.items in
    let list-is : list ≡ object_replacement m t = c.in_ok-list-in-ObjectLike.ensures.list scope extends h.1 in
    let counted : c.count_more.new.count ≡ c.args.count.now + length list = omega (arith, c.in_ok-count_more-in-ObjectLike.ensures.counted, ap length c.as_slice.ensures, ap length list-is, object_length m t) in
    let put : all_shown scope c.put_front.new.self ≡ list ++ all_shown scope c.args.level.pending =
    ap (all_shown scope) (c.in_ok-put_front-in-ObjectLike.ensures ∙ ap (λ (l : List NumberedToken). c.in_ok-list-in-ObjectLike.list.items ++ l) h.2) ∙ shown_append scope c.in_ok-list-in-ObjectLike.list.items c.args.level.pending in
    object_is_replaced macros c.args.count.now c.count_more.new.count (all_suspended scope c.args.frames.now.items) (all_shown scope c.args.level.out.items) (all_shown scope c.args.level.pending) list (all_shown scope c.put_front.new.self) t m whole h.0 list-is counted c.count_more.ensures.within put ends

pub returns-in_ok-put_front-in-ObjectLike-clause-lighter : goal.returns-in_ok-put_front-in-ObjectLike-clause-lighter
returns-in_ok-put_front-in-ObjectLike-clause-lighter c =
    let links = c.object_replacement.new.sets.links.items in
    let h = rw c.in-ObjectLike.is at (c.in_ok-use_at.ensures links c.in_ok-list-in-ObjectLike.ensures.grows) in
    let scope = scope_of c.args.table.now links in
    let list = c.in_ok-list-in-ObjectLike.list.items in
    let list-is : all_shown scope list ≡ object_replacement c.in-ObjectLike.found.definition.now (shown scope c.args.token) = c.in_ok-list-in-ObjectLike.ensures.list scope (extends_self links) h.1 in
    let put : length c.put_front.new.self ≡ length list + length c.args.level.pending =
    ap length (c.in_ok-put_front-in-ObjectLike.ensures ∙ ap (λ (l : List NumberedToken). list ++ l) h.2) ∙ length-append list c.args.level.pending in
    omega (arith, put, c.in_ok-count_more-in-ObjectLike.ensures.counted, ap length c.as_slice.ensures, ap length list-is, shown_length scope list, object_length c.in-ObjectLike.found.definition.now (shown scope c.args.token), c.count_more.ensures.within)

pub returns-in_err-count_more-in-ObjectLike-clause-refused : goal.returns-in_err-count_more-in-ObjectLike-clause-refused
returns-in_err-count_more-in-ObjectLike-clause-refused c =
    let m = c.in-ObjectLike.found.definition.now in
    let p = err_from_is_err_and c.from_residual-in_err-count_more-in-ObjectLike.result c.from_residual-in_err-count_more-in-ObjectLike.ensures.1 in
    let refused = c.in_err-count_more-in-ObjectLike.ensures.refused in
    rw (p.1, p.2) (unless_too_many
    (λ e now. (links : List Link) → IsIn c.args.sets.now (scope_of c.args.table.now links) → EndsIn (macros_in c.args.table.now) c.args.count.now (all_suspended (scope_of c.args.table.now links) c.args.frames.now.items) (all_shown (scope_of c.args.table.now links) c.args.level.out.items) (shown (scope_of c.args.table.now links) c.args.token ∷ all_shown (scope_of c.args.table.now links) c.args.level.pending) (record { value = Err e; count = now }))
    c.in_err-count_more-in-ObjectLike.field-0.0 c.args.count.now c.count_more.new.count refused.0 refused.1 (λ links extends.
    let h = rw c.in-ObjectLike.is at (c.in_ok-use_at.ensures links extends) in
    let scope = scope_of c.args.table.now links in
    let t = shown scope c.args.token in
    let more : length c.as_slice.result.now ≡ length (object_replacement m t) = ap length c.as_slice.ensures ∙ sym (object_length m t) in
    object_is_too_long (macros_at scope) c.args.count.now (length c.as_slice.result.now) (all_suspended scope c.args.frames.now.items) (all_shown scope c.args.level.out.items) (all_shown scope c.args.level.pending) t m h.0 more (omega (arith, refused.2))))

pub returns-in_ok-replacement_hide_set-in-FunctionLike-clause-leads : goal.returns-in_ok-replacement_hide_set-in-FunctionLike-clause-leads
returns-in_ok-replacement_hide_set-in-FunctionLike-clause-leads c =
    let m = c.in-FunctionLike.found.definition.now in
    let hide_set = c.in_ok-replacement_hide_set-in-FunctionLike.field-0 in
    IfOk-weaker c.resume.result _ _
    (λ next leads links whole extends ends.
    let scope = scope_of c.args.table.now links in
    let macros = macros_at scope in
    let before = extends_on _ _ _ c.resume.ensures.extends extends in
    let h = rw c.in-FunctionLike.is at (c.in_ok-use_at.ensures links (extends_on _ _ _ c.in_ok-replacement_hide_set-in-FunctionLike.ensures.grows before)) in
    let hides = names_of_replacement scope c.in-FunctionLike.found.number m.name hide_set c.args.token.hide_set c.in-FunctionLike.arguments.close.hide_set (c.in_ok-replacement_hide_set-in-FunctionLike.ensures.set links before) h.1 in
    function_is_used macros c.args.count.now (all_suspended scope c.args.frames.now.items) (all_shown scope c.args.level.out.items) (all_shown scope c.args.level.pending) (map (all_shown scope) c.new.result.items) (names_of scope hide_set) (shown scope c.args.token) m c.in-FunctionLike.parameters.now (actuals_of scope c.in-FunctionLike.arguments c.use_at.new.pending) whole h.0 (ap (map (all_shown scope)) c.new.ensures.items) hides (leads scope whole extends ends))
    c.resume.ensures.leads

pub returns-in_ok-replacement_hide_set-in-FunctionLike-clause-refused : goal.returns-in_ok-replacement_hide_set-in-FunctionLike-clause-refused
returns-in_ok-replacement_hide_set-in-FunctionLike-clause-refused c =
    let m = c.in-FunctionLike.found.definition.now in
    let hide_set = c.in_ok-replacement_hide_set-in-FunctionLike.field-0 in
    IfErr-weaker c.resume.result _ _
    (λ e. unless_weaker e
    (λ leads links extends.
    let scope = scope_of c.args.table.now links in
    let macros = macros_at scope in
    let before = extends_on _ _ _ c.resume.ensures.extends extends in
    let h = rw c.in-FunctionLike.is at (c.in_ok-use_at.ensures links (extends_on _ _ _ c.in_ok-replacement_hide_set-in-FunctionLike.ensures.grows before)) in
    let hides = names_of_replacement scope c.in-FunctionLike.found.number m.name hide_set c.args.token.hide_set c.in-FunctionLike.arguments.close.hide_set (c.in_ok-replacement_hide_set-in-FunctionLike.ensures.set links before) h.1 in
    function_is_used macros c.args.count.now (all_suspended scope c.args.frames.now.items) (all_shown scope c.args.level.out.items) (all_shown scope c.args.level.pending) (map (all_shown scope) c.new.result.items) (names_of scope hide_set) (shown scope c.args.token) m c.in-FunctionLike.parameters.now (actuals_of scope c.in-FunctionLike.arguments c.use_at.new.pending) (record { value = Err e; count = c.resume.new.count }) h.0 (ap (map (all_shown scope)) c.new.ensures.items) hides (leads scope)))
    c.resume.ensures.refused

pub returns-in-Misused-clause-refused : goal.returns-in-Misused-clause-refused
returns-in-Misused-clause-refused c links extends =
    let h = rw c.in-Misused.is at (c.in_ok-use_at.ensures links extends) in
    let scope = scope_of c.args.table.now links in
    token_is_misused (macros_at scope) c.args.count.now (all_suspended scope c.args.frames.now.items) (all_shown scope c.args.level.out.items) (all_shown scope c.args.level.pending) (shown scope c.args.token) h

pub returns-in_ok-push-in-Passes-clause-lighter : goal.returns-in_ok-push-in-Passes-clause-lighter
returns-in_ok-push-in-Passes-clause-lighter c =
    let links = c.args.sets.now.links.items in
    let h = rw c.in-Passes.is at (c.in_ok-use_at.ensures links (extends_self links)) in
    omega (arith, ap length h.1)

pub returns-in_ok-replacement_hide_set-in-FunctionLike-clause-extends : goal.returns-in_ok-replacement_hide_set-in-FunctionLike-clause-extends
returns-in_ok-replacement_hide_set-in-FunctionLike-clause-extends c = extends_on _ _ _ c.in_ok-replacement_hide_set-in-FunctionLike.ensures.grows c.resume.ensures.extends

pub returns-in_ok-replacement_hide_set-in-FunctionLike-clause-lighter : goal.returns-in_ok-replacement_hide_set-in-FunctionLike-clause-lighter
returns-in_ok-replacement_hide_set-in-FunctionLike-clause-lighter c =
    let links = c.args.sets.now.links.items in
    let h = rw c.in-FunctionLike.is at (c.in_ok-use_at.ensures links (extends_self links)) in
    let frame : Frame = record {
      pos = c.args.token.token.pos;
      hide_set = c.in_ok-replacement_hide_set-in-FunctionLike.field-0;
      definition = c.in-FunctionLike.found.definition;
      parameters = c.in-FunctionLike.parameters;
      expanded = c.new.result;
      waiting = c.in-FunctionLike.arguments.lists;
      outer = record { out = c.args.level.out; pending = c.use_at.new.pending };
    } in
    IfOk-weaker c.resume.result _ _ (λ next less. omega (arith, less, weight_front frame c.args.frames.now.items, h.2)) c.resume.ensures.lighter
