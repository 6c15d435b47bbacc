-- Sizes stay low, round by round, and at the end they are the shortest.
use Rattle.std.proofs.Common.{◌≡◌, ℕ, ◌-◌, ◌*◌, ◌<◌, ◌≤◌, List, ◌++◌, length, sum, take, drop, map, arith, ◌∙◌}
use Rattle.std.proofs.lemmas.List.{take-append-le, take_all}
use Rattle.msp_isa.specs.declared.code.Item.{Item}
use Rattle.msp_layout.specs.Rounds.{short_bytes, AreWidened}
use Rattle.msp_layout.proofs.Shortest.{starts_low, stays_low, ends_shortest, low_fits, fits, small_places}
use Rattle.msp_layout.proofs.form.form.Goals as goal

-- what a slice of a whole vector leaves
written : (n : ℕ) (new old : List ℕ) → n ≡ length new → take n (new ++ drop (length new) old) ≡ new
written n new old e = take-append-le n new (drop (length new) old) (omega arith) ∙ take_all n new (omega arith)

pub fill_places-requires-clause-fits : goal.fill_places-requires-clause-fits
fill_places-requires-clause-fits c =
    rw (c.deref.ensures.value, c.in_ok-sizes.ensures) (omega (arith, fits c.args.items.now (map short_bytes c.args.items.now) (starts_low c.args.items.now) c.requires.few))

pub widen-requires-clause-small : goal.widen-requires-clause-small
widen-requires-clause-small c =
    rw c.deref-in-loop-sizes-2.ensures.value
    (small_places c.loop-sizes.sizes.items c.loop-sizes.places.items c.loop-sizes.invariant.2 (fits c.args.items.now c.loop-sizes.sizes.items c.loop-sizes.invariant.1 c.requires.few))

same_round : (items : List Item) (targets places old new ts ps os : List ℕ) → ts ≡ targets → ps ≡ places → os ≡ old → AreWidened items ts ps os new → AreWidened items targets places old new
same_round items targets places old new ts ps os e f g w = rw (← e, ← f, ← g) w

pub fill_places-requires-in-loop-sizes-clause-fits : goal.fill_places-requires-in-loop-sizes-clause-fits
fill_places-requires-in-loop-sizes-clause-fits c =
    let e : c.deref-in-loop-sizes-3.result.now ≡ c.widen.new.sizes = c.deref-in-loop-sizes-3.ensures.value ∙ written c.loop-sizes.sizes.len c.widen.new.sizes c.loop-sizes.sizes.items (omega arith) in
    let w = same_round c.args.items.now c.in_ok-targets.targets.items c.loop-sizes.places.items c.loop-sizes.sizes.items c.widen.new.sizes _ _ _ c.deref-in-loop-sizes.ensures.value c.deref-in-loop-sizes-2.ensures.value c.deref_mut-in-loop-sizes.ensures.value c.widen.ensures.widened in
    rw e (omega (arith, fits c.args.items.now c.widen.new.sizes (stays_low c.args.items.now c.in_ok-targets.targets.items c.loop-sizes.places.items c.loop-sizes.sizes.items c.widen.new.sizes c.loop-sizes.invariant.0 c.loop-sizes.invariant.2 c.loop-sizes.invariant.1 c.widen.ensures.len w) c.requires.few))

smaller : (n old new : ℕ) → old < new → new ≤ n → n - new < n - old
smaller n old new h g = omega arith

pub loop-sizes-smaller : goal.loop-sizes-smaller
loop-sizes-smaller c =
    let s : take c.loop-sizes.sizes.len (c.widen.new.sizes ++ drop (length c.widen.new.sizes) c.loop-sizes.sizes.items) ≡ c.widen.new.sizes = written c.loop-sizes.sizes.len c.widen.new.sizes c.loop-sizes.sizes.items (omega arith) in
    let w = same_round c.args.items.now c.in_ok-targets.targets.items c.loop-sizes.places.items c.loop-sizes.sizes.items c.widen.new.sizes _ _ _ c.deref-in-loop-sizes.ensures.value c.deref-in-loop-sizes-2.ensures.value c.deref_mut-in-loop-sizes.ensures.value c.widen.ensures.widened in
    let low = stays_low c.args.items.now c.in_ok-targets.targets.items c.loop-sizes.places.items c.loop-sizes.sizes.items c.widen.new.sizes c.loop-sizes.invariant.0 c.loop-sizes.invariant.2 c.loop-sizes.invariant.1 c.widen.ensures.len w in
    let more = rw c.deref_mut-in-loop-sizes.ensures.value at (c.widen.ensures.more c.loop-sizes-test.true) in
    rw s (smaller (8 * length c.args.items.now) (sum c.loop-sizes.sizes.items) (sum c.widen.new.sizes) more (low_fits c.args.items.now c.widen.new.sizes low))

pub loop-sizes-preserved : goal.loop-sizes-preserved
loop-sizes-preserved c =
    let s : take c.loop-sizes.sizes.len (c.widen.new.sizes ++ drop (length c.widen.new.sizes) c.loop-sizes.sizes.items) ≡ c.widen.new.sizes = written c.loop-sizes.sizes.len c.widen.new.sizes c.loop-sizes.sizes.items (omega arith) in
    let p : take c.loop-sizes.places.len (c.fill_places-in-loop-sizes.new.places ++ drop (length c.fill_places-in-loop-sizes.new.places) c.loop-sizes.places.items) ≡ c.fill_places-in-loop-sizes.new.places =
    written c.loop-sizes.places.len c.fill_places-in-loop-sizes.new.places c.loop-sizes.places.items (omega arith) in
    let w = same_round c.args.items.now c.in_ok-targets.targets.items c.loop-sizes.places.items c.loop-sizes.sizes.items c.widen.new.sizes _ _ _ c.deref-in-loop-sizes.ensures.value c.deref-in-loop-sizes-2.ensures.value c.deref_mut-in-loop-sizes.ensures.value c.widen.ensures.widened in
    let filled = rw (c.deref-in-loop-sizes-3.ensures.value, s) at c.fill_places-in-loop-sizes.ensures in
    rw (s, p) (c.loop-sizes.invariant.0, stays_low c.args.items.now c.in_ok-targets.targets.items c.loop-sizes.places.items c.loop-sizes.sizes.items c.widen.new.sizes c.loop-sizes.invariant.0 c.loop-sizes.invariant.2 c.loop-sizes.invariant.1 c.widen.ensures.len w, filled)

pub returns-clause-sizes : goal.returns-clause-sizes
returns-clause-sizes c =
    let s : take c.loop-sizes.sizes.len (c.widen.new.sizes ++ drop (length c.widen.new.sizes) c.loop-sizes.sizes.items) ≡ c.widen.new.sizes = written c.loop-sizes.sizes.len c.widen.new.sizes c.loop-sizes.sizes.items (omega arith) in
    let w = same_round c.args.items.now c.in_ok-targets.targets.items c.loop-sizes.places.items c.loop-sizes.sizes.items c.widen.new.sizes _ _ _ c.deref-in-loop-sizes.ensures.value c.deref-in-loop-sizes-2.ensures.value c.deref_mut-in-loop-sizes.ensures.value c.widen.ensures.widened in
    let same : c.widen.new.sizes ≡ c.loop-sizes.sizes.items = c.widen.ensures.same c.loop-sizes-test.false ∙ c.deref_mut-in-loop-sizes.ensures.value in
    rw (s, same) (ends_shortest c.args.items.now c.in_ok-targets.targets.items c.loop-sizes.places.items c.loop-sizes.sizes.items c.widen.new.sizes c.loop-sizes.invariant.0 c.loop-sizes.invariant.2 c.loop-sizes.invariant.1 w same c.requires.once)
