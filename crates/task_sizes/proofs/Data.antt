-- The data of a program with tasks: its objects, and the kernel's bytes behind them.
use Rattle.std.proofs.Common.{◌≡◌, ℕ, ◌+◌, ◌-◌, ◌*◌, ◌≤◌, List, [], ◌∷◌, ◌++◌, fold, length, refl, sym, subst, arith}
use Rattle.nesc_core.specs.Plain.{Field, Object, Program}
use Rattle.nesc_core.specs.Size.{layout_of}
use Rattle.nesc_core.specs.Weights.{even, objects_end, objects_start}
use Rattle.task_queue.specs.Kernel.{bytes_object, kernel}
use Rattle.msp_select.specs.Frames.{rounded}
use Rattle.task_sizes.specs.Laws.{DataIsWithinWeight}

-- the last object's end is that of all
last_end : (structs : List (List Field)) (o : Object) (start : ℕ) (os : List Object) → fold (λ end (x : Object). x.addr + (layout_of structs x.ty).size) start (os ++ o ∷ []) ≡ o.addr + (layout_of structs o.ty).size
last_end structs o start [] = refl
last_end structs o start (x ∷ os) = last_end structs o (x.addr + (layout_of structs x.ty).size) os

kernel_end : (p : Program) → objects_end (kernel p).program ≡ even (objects_end p) + 1 * (length p.tasks + 2)
kernel_end p = last_end p.structs (bytes_object p) objects_start p.objects

-- one byte is lost where the objects end at an odd address, and one where the kernel's bytes do
few_lost : (end tasks start : ℕ) → rounded (even end + 1 * (tasks + 2) - start) ≤ end - start + tasks + 4
few_lost end tasks start = omega arith

pub data_within : DataIsWithinWeight
data_within p = subst (λ end. rounded (end - objects_start) ≤ objects_end p - objects_start + length p.tasks + 4) (sym (kernel_end p)) (few_lost (objects_end p) (length p.tasks) objects_start)
