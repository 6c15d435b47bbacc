-- What is done on the work alone is a step over the whole program.
use Rattle.std.proofs.Common.{[], Result, Ok, Err, ap, append-nil}
use Rattle.std.proofs.lemmas.List.{length-map, map-append}
use Rattle.nm_base.specs.declared.fault.Fault.{Fault}
use Rattle.nm_base.specs.declared.fault.Fault.TheVariants.{Refused, Missing, ReadFault, Limit, TooLarge, NoMemory}
use Rattle.elab_meaning.specs.Answers.{Gives}
use Rattle.elab_meaning.specs.Elab.{Elab, State}
use Rattle.elab_making.specs.Does.{Does}
use Rattle.program_meaning.specs.Making.{Whole, behind_boot, boot_state, in_boot, part, with_work}

module _ {X Y : Type 0} (view : X → Y) where
  -- a part that looks at names, structs and locals alone
  pub part_does : (r : Result X Fault) (w : Whole) (st : State) (work : Elab Y) → Gives view r st (work w.work) → Does view r (record w { work = st }) (part work w)
  part_does (Ok x) w st work h = ap (with_work w) h
  part_does (Err NoMemory) w st work h = tt
  part_does (Err (Refused x)) w st work h = ap (with_work w) h
  part_does (Err (Missing x)) w st work h = ap (with_work w) h
  part_does (Err ReadFault) w st work h = ap (with_work w) h
  part_does (Err (Limit x)) w st work h = ap (with_work w) h
  part_does (Err (TooLarge x y)) w st work h = ap (with_work w) h

  -- a part of the boot function, behind which the locals are its own again
  pub boot_does : (r : Result X Fault) (w : Whole) (st : State) (work : Elab Y) → Gives view r st (work (boot_state w))
      → Does view r (record w { work = record st { locals = [] }; boot_locals = st.locals }) (in_boot work w)
  boot_does (Ok x) w st work h = ap (behind_boot w) h
  boot_does (Err NoMemory) w st work h = tt
  boot_does (Err (Refused x)) w st work h = ap (behind_boot w) h
  boot_does (Err (Missing x)) w st work h = ap (behind_boot w) h
  boot_does (Err ReadFault) w st work h = ap (behind_boot w) h
  boot_does (Err (Limit x)) w st work h = ap (behind_boot w) h
  boot_does (Err (TooLarge x y)) w st work h = ap (behind_boot w) h

pub ruleset makes = (part_does, boot_does)

pub ruleset lists = (append-nil, length-map, map-append)
