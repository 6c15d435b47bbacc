use Rattle.nesc_core.specs.View.{program_of}
use Rattle.kernel_code.specs.Making.{kernel_of}
use Rattle.program_builder.proofs.OfKernel.{all_parts, few_tasks}
use Rattle.program_builder.proofs.kernels.parts_of.Goals as goal

pub parts_of_kernel-requires : goal.parts_of_kernel-requires
parts_of_kernel-requires c = few_tasks (program_of c.args.p) (kernel_of c.in_ok-k.k) c.in_ok-k.ensures.made c.in_ok-k.ensures.fits

pub returns : goal.returns
returns c =
    all_parts (program_of c.args.p) (kernel_of c.in_ok-k.k) c.in_ok-k.ensures.made c.in_ok-k.ensures.fits
    c.requires.formed c.requires.no_cycle (c.has_form.ensures.lean c.if-not-has_form.false) (c.has_form.ensures.apart c.if-not-has_form.false)
    c.parts_of_kernel.result c.parts_of_kernel.ensures
