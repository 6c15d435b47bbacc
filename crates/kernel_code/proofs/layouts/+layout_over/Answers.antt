use Rattle.kernel_code.proofs.Cut.{over_array, over_int}
use Rattle.kernel_code.proofs.layouts.+layout_over.Goals as goal

pub returns-in-Int : goal.returns-in-Int
returns-in-Int t c = over_int c.args.inner c.layout_of_int.result c.args.t.now c.in-Int.int c.in-Int.is c.layout_of_int.ensures

pub returns-in-Array : goal.returns-in-Array
returns-in-Array t c =
    over_array c.args.inner c.layout_over.result c.repeated.result c.args.t.now c.in-Array.element c.deref.result.now c.in-Array.count c.in-Array.is c.deref.ensures c.layout_over.ensures c.repeated.ensures
