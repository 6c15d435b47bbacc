use Rattle.kernel_code.proofs.Ends.{end_is}
use Rattle.kernel_code.proofs.room.objects_end.Goals as goal

pub returns : goal.returns
returns c =
    end_is c.args.p.now c.as_slice.result.now c.last-item.result c.as_slice.ensures c.in-len1-up.len_at_least c.last-item.is c.end_behind.result c.in_ok-layout.layout
    c.end_behind.ensures c.in_ok-layout.ensures
