use Rattle.std.proofs.Common.{◌+◌, map, flat_map, drop}
use Rattle.body_meaning.specs.View.{decl_of}
use Rattle.program_meaning.specs.Numbers.{definitions}
use Rattle.elab_targets.proofs.TaskLists.{counted_more, decls_in, header_next, pushed_more}
use Rattle.elab_targets.proofs.tasks.header_tasks.Goals as goal

pub loop-decls-preserved : goal.loop-decls-preserved
loop-decls-preserved c =
    let hs = c.args.headers.now in
    let k = c.loop-decls.decls-index in
    let x = c.decls-item.result in
    let next = header_next hs k x c.loop-decls-test.true c.decls-item.is in
    let here = definitions (map decl_of x.now) in
    let rest = definitions (flat_map decls_in (drop (k + 1) hs)) in
    let all = definitions (flat_map decls_in (drop k hs)) in
    record {
      pushed = pushed_more c.loop-decls.tasks.items c.push_tasks.new.tasks.items _ c.loop-decls.number c.in_ok-number.number 0 all here rest next c.in_ok-number.ensures.number c.in_ok-number.ensures.tasks c.loop-decls.invariant.pushed;
      counted = counted_more c.loop-decls.tasks.items c.push_tasks.new.tasks.items c.loop-decls.tasks.items c.loop-decls.number c.in_ok-number.number _ all here rest next c.in_ok-number.ensures.number c.loop-decls.invariant.counted;
    }
