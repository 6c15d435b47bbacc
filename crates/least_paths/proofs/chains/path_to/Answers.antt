use Rattle.least_paths.proofs.Reading.{found_by, none_by}
use Rattle.least_paths.proofs.chains.path_to.Goals as goal

pub returns-then-is_found : goal.returns-then-is_found
returns-then-is_found c =
    found_by c.args.s.now c.args.f c.deref.result.now c.deref-then-is_found.result.now c.is_found.result c.in_ok-chain.field-0.items c.deref.ensures.value c.deref-then-is_found.ensures.value c.is_found.ensures
    c.if-is_found.true c.in_ok-chain.ensures

pub returns : goal.returns
returns c = none_by c.args.s.now c.args.f c.deref.result.now c.is_found.result c.deref.ensures.value c.is_found.ensures c.if-is_found.false
