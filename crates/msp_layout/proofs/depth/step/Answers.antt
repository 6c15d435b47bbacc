-- One step of the search.
use Rattle.std.proofs.Common.{◌≡◌, ℕ, ◌-◌, ◌<◌, List, length, take, get_or, arith, refl, sym, ap, ◌∙◌}
use Rattle.std.proofs.lemmas.List.{get_or_default}
use Rattle.msp_layout.specs.Depth.{calls_of}
use Rattle.msp_layout.specs.declared.depth.Visit.TheVariants.{New}
use Rattle.msp_layout.specs.Search.{IsBegun, visit_at, call_at}
use Rattle.msp_layout.proofs.Searching.{find_top, open_read, calls_read, below_all, done_callee, leaves, advances, fewer_done, fewer_next}
use Rattle.msp_layout.proofs.depth.step.Goals as goal

pub depth_over-requires-clause-callees : goal.depth_over-requires-clause-callees
depth_over-requires-clause-callees c =
    let t = find_top c.args.code.now c.args.visits.now.items c.args.trail.now.items c.as_slice.result.now c.in-Some.top c.requires.search c.as_slice.ensures.value (sym c.last.ensures.value ∙ sym c.copied.ensures ∙ c.in-Some.is) in
    let o = open_read c.args.visits.now.items c.in-Some.top c.in-Open.next c.index.result.now (omega (arith, t.2, c.requires.search.len)) c.index.ensures c.in-Open.is in
    let l = (c.requires.search.looked c.in-Some.top c.in-Open.next o).0 in
    λ i lt. rw c.deref.ensures.value (omega (arith, c.requires.callees c.in-Some.top (call_at c.args.code.now c.in-Some.top i) t.2 (i, lt, refl), c.requires.search.len))

pub offset_bounds-calls-next : goal.offset_bounds-calls-next
offset_bounds-calls-next c =
    let t = find_top c.args.code.now c.args.visits.now.items c.args.trail.now.items c.as_slice.result.now c.in-Some.top c.requires.search c.as_slice.ensures.value (sym c.last.ensures.value ∙ sym c.copied.ensures ∙ c.in-Some.is) in
    let o = open_read c.args.visits.now.items c.in-Some.top c.in-Open.next c.index.result.now (omega (arith, t.2, c.requires.search.len)) c.index.ensures c.in-Open.is in
    let l = (c.requires.search.looked c.in-Some.top c.in-Open.next o).0 in
    let calls : c.as_slice-calls.result.now ≡ calls_of c.args.code.now c.in-Some.top = c.as_slice-calls.ensures ∙ calls_read c.args.code.now c.in-Some.top _ t.2 in
    let lt : c.in-Open.next < length (calls_of c.args.code.now c.in-Some.top) = omega (arith, l, ap length calls) in
    let callee : get_or c.as_slice-calls.result.now c.in-Open.next 0 ≡ call_at c.args.code.now c.in-Some.top c.in-Open.next = ap (λ (xs : List ℕ). get_or xs c.in-Open.next 0) calls in
    omega (arith, lt, ap length calls, c.as_slice-calls.type_inv.1)

pub index-requires-else-next-calls : goal.index-requires-else-next-calls
index-requires-else-next-calls c =
    let t = find_top c.args.code.now c.args.visits.now.items c.args.trail.now.items c.as_slice.result.now c.in-Some.top c.requires.search c.as_slice.ensures.value (sym c.last.ensures.value ∙ sym c.copied.ensures ∙ c.in-Some.is) in
    let o = open_read c.args.visits.now.items c.in-Some.top c.in-Open.next c.index.result.now (omega (arith, t.2, c.requires.search.len)) c.index.ensures c.in-Open.is in
    let l = (c.requires.search.looked c.in-Some.top c.in-Open.next o).0 in
    let calls : c.as_slice-calls.result.now ≡ calls_of c.args.code.now c.in-Some.top = c.as_slice-calls.ensures ∙ calls_read c.args.code.now c.in-Some.top _ t.2 in
    let lt : c.in-Open.next < length (calls_of c.args.code.now c.in-Some.top) = omega (arith, l, ap length calls) in
    let callee : get_or c.as_slice-calls.result.now c.in-Open.next 0 ≡ call_at c.args.code.now c.in-Some.top c.in-Open.next = ap (λ (xs : List ℕ). get_or xs c.in-Open.next 0) calls in
    let within : call_at c.args.code.now c.in-Some.top c.in-Open.next < length c.args.code.now = c.requires.callees c.in-Some.top (call_at c.args.code.now c.in-Some.top c.in-Open.next) t.2 (c.in-Open.next, lt, refl) in
    rw callee (omega (arith, within, c.requires.search.len))

pub begin-requires-clause-within : goal.begin-requires-clause-within
begin-requires-clause-within c =
    let t = find_top c.args.code.now c.args.visits.now.items c.args.trail.now.items c.as_slice.result.now c.in-Some.top c.requires.search c.as_slice.ensures.value (sym c.last.ensures.value ∙ sym c.copied.ensures ∙ c.in-Some.is) in
    let o = open_read c.args.visits.now.items c.in-Some.top c.in-Open.next c.index.result.now (omega (arith, t.2, c.requires.search.len)) c.index.ensures c.in-Open.is in
    let l = (c.requires.search.looked c.in-Some.top c.in-Open.next o).0 in
    let calls : c.as_slice-calls.result.now ≡ calls_of c.args.code.now c.in-Some.top = c.as_slice-calls.ensures ∙ calls_read c.args.code.now c.in-Some.top _ t.2 in
    let lt : c.in-Open.next < length (calls_of c.args.code.now c.in-Some.top) = omega (arith, l, ap length calls) in
    let callee : get_or c.as_slice-calls.result.now c.in-Open.next 0 ≡ call_at c.args.code.now c.in-Some.top c.in-Open.next = ap (λ (xs : List ℕ). get_or xs c.in-Open.next 0) calls in
    let within : call_at c.args.code.now c.in-Some.top c.in-Open.next < length c.args.code.now = c.requires.callees c.in-Some.top (call_at c.args.code.now c.in-Some.top c.in-Open.next) t.2 (c.in-Open.next, lt, refl) in
    rw callee within

pub begin-requires-clause-called : goal.begin-requires-clause-called
begin-requires-clause-called c =
    let t = find_top c.args.code.now c.args.visits.now.items c.args.trail.now.items c.as_slice.result.now c.in-Some.top c.requires.search c.as_slice.ensures.value (sym c.last.ensures.value ∙ sym c.copied.ensures ∙ c.in-Some.is) in
    let o = open_read c.args.visits.now.items c.in-Some.top c.in-Open.next c.index.result.now (omega (arith, t.2, c.requires.search.len)) c.index.ensures c.in-Open.is in
    let l = (c.requires.search.looked c.in-Some.top c.in-Open.next o).0 in
    let calls : c.as_slice-calls.result.now ≡ calls_of c.args.code.now c.in-Some.top = c.as_slice-calls.ensures ∙ calls_read c.args.code.now c.in-Some.top _ t.2 in
    let lt : c.in-Open.next < length (calls_of c.args.code.now c.in-Some.top) = omega (arith, l, ap length calls) in
    let callee : get_or c.as_slice-calls.result.now c.in-Open.next 0 ≡ call_at c.args.code.now c.in-Some.top c.in-Open.next = ap (λ (xs : List ℕ). get_or xs c.in-Open.next 0) calls in
    λ rank r i h. rw callee (below_all c.args.code.now c.args.visits.now.items c.args.trail.now.items c.in-Some.top (call_at c.args.code.now c.in-Some.top c.in-Open.next) rank c.requires.search r t.0 t.1 t.2 (c.in-Open.next, lt, refl) i h)

pub overflow_add-next : goal.overflow_add-next
overflow_add-next c =
    let t = find_top c.args.code.now c.args.visits.now.items c.args.trail.now.items c.as_slice.result.now c.in-Some.top c.requires.search c.as_slice.ensures.value (sym c.last.ensures.value ∙ sym c.copied.ensures ∙ c.in-Some.is) in
    let o = open_read c.args.visits.now.items c.in-Some.top c.in-Open.next c.index.result.now (omega (arith, t.2, c.requires.search.len)) c.index.ensures c.in-Open.is in
    let l = (c.requires.search.looked c.in-Some.top c.in-Open.next o).0 in
    let calls : c.as_slice-calls.result.now ≡ calls_of c.args.code.now c.in-Some.top = c.as_slice-calls.ensures ∙ calls_read c.args.code.now c.in-Some.top _ t.2 in
    let lt : c.in-Open.next < length (calls_of c.args.code.now c.in-Some.top) = omega (arith, l, ap length calls) in
    let callee : get_or c.as_slice-calls.result.now c.in-Open.next 0 ≡ call_at c.args.code.now c.in-Some.top c.in-Open.next = ap (λ (xs : List ℕ). get_or xs c.in-Open.next 0) calls in
    omega (arith, lt, ap length calls, c.as_slice-calls.type_inv.0)

pub returns-then-next-calls-clause-search : goal.returns-then-next-calls-clause-search
returns-then-next-calls-clause-search c =
    let t = find_top c.args.code.now c.args.visits.now.items c.args.trail.now.items c.as_slice.result.now c.in-Some.top c.requires.search c.as_slice.ensures.value (sym c.last.ensures.value ∙ sym c.copied.ensures ∙ c.in-Some.is) in
    let o = open_read c.args.visits.now.items c.in-Some.top c.in-Open.next c.index.result.now (omega (arith, t.2, c.requires.search.len)) c.index.ensures c.in-Open.is in
    let l = (c.requires.search.looked c.in-Some.top c.in-Open.next o).0 in
    let e : c.pop.new.self.items ≡ take (length c.args.trail.now.items - 1) c.args.trail.now.items = c.pop.ensures.rest ∙ ap (λ (n : ℕ). take (n - 1) c.args.trail.now.items) (omega (arith, c.as_slice.ensures.len, ap length c.as_slice.ensures.value)) in
    rw e (leaves c.args.code.now c.args.visits.now.items c.args.trail.now.items c.in-Some.top c.in-Open.next c.depth_over.result c.requires.search t.0 t.1 o c.depth_over.ensures c.requires.no_cycle.0 c.requires.no_cycle.1)

pub returns-then-next-calls-clause-fewer : goal.returns-then-next-calls-clause-fewer
returns-then-next-calls-clause-fewer c =
    let t = find_top c.args.code.now c.args.visits.now.items c.args.trail.now.items c.as_slice.result.now c.in-Some.top c.requires.search c.as_slice.ensures.value (sym c.last.ensures.value ∙ sym c.copied.ensures ∙ c.in-Some.is) in
    let o = open_read c.args.visits.now.items c.in-Some.top c.in-Open.next c.index.result.now (omega (arith, t.2, c.requires.search.len)) c.index.ensures c.in-Open.is in
    let l = (c.requires.search.looked c.in-Some.top c.in-Open.next o).0 in
    λ same. fewer_done c.args.code.now c.args.visits.now.items c.in-Some.top c.in-Open.next c.depth_over.result t.2 c.requires.search.len o l

pub returns-else-is_new-clause-search : goal.returns-else-is_new-clause-search
returns-else-is_new-clause-search c =
    let t = find_top c.args.code.now c.args.visits.now.items c.args.trail.now.items c.as_slice.result.now c.in-Some.top c.requires.search c.as_slice.ensures.value (sym c.last.ensures.value ∙ sym c.copied.ensures ∙ c.in-Some.is) in
    let o = open_read c.args.visits.now.items c.in-Some.top c.in-Open.next c.index.result.now (omega (arith, t.2, c.requires.search.len)) c.index.ensures c.in-Open.is in
    let l = (c.requires.search.looked c.in-Some.top c.in-Open.next o).0 in
    let calls : c.as_slice-calls.result.now ≡ calls_of c.args.code.now c.in-Some.top = c.as_slice-calls.ensures ∙ calls_read c.args.code.now c.in-Some.top _ t.2 in
    let lt : c.in-Open.next < length (calls_of c.args.code.now c.in-Some.top) = omega (arith, l, ap length calls) in
    let callee : get_or c.as_slice-calls.result.now c.in-Open.next 0 ≡ call_at c.args.code.now c.in-Some.top c.in-Open.next = ap (λ (xs : List ℕ). get_or xs c.in-Open.next 0) calls in
    let within : call_at c.args.code.now c.in-Some.top c.in-Open.next < length c.args.code.now = c.requires.callees c.in-Some.top (call_at c.args.code.now c.in-Some.top c.in-Open.next) t.2 (c.in-Open.next, lt, refl) in
    let read : visit_at c.args.visits.now.items (call_at c.args.code.now c.in-Some.top c.in-Open.next) ≡ c.index-else-next-calls.result.now =
    get_or_default c.args.visits.now.items (call_at c.args.code.now c.in-Some.top c.in-Open.next) New c.index-else-next-calls.result.now (omega (arith, within, c.requires.search.len))
    ∙ sym (c.index-else-next-calls.ensures ∙ ap (λ (k : ℕ). get_or c.args.visits.now.items k c.index-else-next-calls.result.now) callee) in
    let begun : IsBegun c.index-else-next-calls.result.now = c.is_new.ensures.begun c.if-is_new.false in
    let done = done_callee c.args.code.now c.args.visits.now.items c.args.trail.now.items c.in-Some.top (call_at c.args.code.now c.in-Some.top c.in-Open.next) c.index-else-next-calls.result.now c.requires.no_cycle.0 c.requires.search c.requires.no_cycle.1 t.0 t.1 t.2 (c.in-Open.next, lt, refl) read begun in
    advances c.args.code.now c.args.visits.now.items c.args.trail.now.items c.in-Some.top c.in-Open.next c.requires.search t.2 o lt done

pub returns-else-is_new-clause-fewer : goal.returns-else-is_new-clause-fewer
returns-else-is_new-clause-fewer c =
    let t = find_top c.args.code.now c.args.visits.now.items c.args.trail.now.items c.as_slice.result.now c.in-Some.top c.requires.search c.as_slice.ensures.value (sym c.last.ensures.value ∙ sym c.copied.ensures ∙ c.in-Some.is) in
    let o = open_read c.args.visits.now.items c.in-Some.top c.in-Open.next c.index.result.now (omega (arith, t.2, c.requires.search.len)) c.index.ensures c.in-Open.is in
    let l = (c.requires.search.looked c.in-Some.top c.in-Open.next o).0 in
    let calls : c.as_slice-calls.result.now ≡ calls_of c.args.code.now c.in-Some.top = c.as_slice-calls.ensures ∙ calls_read c.args.code.now c.in-Some.top _ t.2 in
    let lt : c.in-Open.next < length (calls_of c.args.code.now c.in-Some.top) = omega (arith, l, ap length calls) in
    let callee : get_or c.as_slice-calls.result.now c.in-Open.next 0 ≡ call_at c.args.code.now c.in-Some.top c.in-Open.next = ap (λ (xs : List ℕ). get_or xs c.in-Open.next 0) calls in
    λ same. fewer_next c.args.code.now c.args.visits.now.items c.in-Some.top c.in-Open.next t.2 c.requires.search.len o lt
