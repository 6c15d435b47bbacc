-- Each function of the row calls the next one, the last none.
use Rattle.std.proofs.Common.{◌≡◌, ℕ, ◌+◌, List, [], ◌∷◌, ◌++◌, arith, ◌∙◌}
use Rattle.msp_isa.specs.declared.code.CodeFn.{CodeFn}
use Rattle.msp_layout.specs.Rows.{ret}
use Rattle.msp_layout.proofs.Onward.{AreLinks, no_links, link_more, links_are_onward, return_is_link, call_is_link}
use Rattle.code_tests.proofs.layout.lay_chain.Goals as goal

begun : (fns : ℕ) (code : List CodeFn) → code ≡ [] → AreLinks fns 0 code
begun fns code e = rw e (no_links fns)

-- behind all that call there is the one that returns
ended : (callers f : ℕ) (code whole : List CodeFn) (x : CodeFn) → AreLinks (callers + 1) f code → f ≡ callers → x.items ≡ ret ∷ [] → x.calls ≡ [] → whole ≡ code ++ x ∷ [] → AreLinks (callers + 1) (callers + 1) whole
ended callers f code whole x are e i h w =
    let more : AreLinks (callers + 1) (f + 1) whole = rw w (link_more (callers + 1) f code x are (return_is_link (callers + 1) f x i h)) in
    rw e at more

pub loop-f-init : goal.loop-f-init
loop-f-init c = begun (c.args.callers + 1) c.new-code.result.items c.new-code.ensures.items

pub loop-f-preserved : goal.loop-f-preserved
loop-f-preserved c =
    let s = c.in_ok-caller.ensures in
    let link = call_is_link (c.args.callers + 1) (c.loop-f.f + 1) (omega arith) c.loop-f.f c.in_ok-caller.field-0 (omega arith) s.items s.calls in
    rw c.in_ok-push.ensures.items (link_more (c.args.callers + 1) c.loop-f.f c.loop-f.code.items c.in_ok-caller.field-0 c.loop-f.invariant link)

pub lay-requires-clause-onward : goal.lay-requires-clause-onward
lay-requires-clause-onward c =
    let s = c.in_ok-lone_return.ensures in
    let same : c.loop-f.f ≡ c.args.callers = omega arith in
    let all = ended c.args.callers c.loop-f.f c.loop-f.code.items c.as_slice.result.now c.in_ok-lone_return.field-0 c.loop-f.invariant same s.items s.calls (c.as_slice.ensures.value ∙ c.in_ok-push-2.ensures.items) in
    links_are_onward (c.args.callers + 1) c.as_slice.result.now all

pub lay-requires-clause-line : goal.lay-requires-clause-line
lay-requires-clause-line c =
    let s = c.in_ok-lone_return.ensures in
    let same : c.loop-f.f ≡ c.args.callers = omega arith in
    let all = ended c.args.callers c.loop-f.f c.loop-f.code.items c.as_slice.result.now c.in_ok-lone_return.field-0 c.loop-f.invariant same s.items s.calls (c.as_slice.ensures.value ∙ c.in_ok-push-2.ensures.items) in
    omega (arith, all.len)
