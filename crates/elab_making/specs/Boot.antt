-- The whole program while a part of the boot function is looked at, and behind it (own: in_boot of the meaning, cut where the code is cut).
use Rattle.std.specs.Prelude.{[]}
use Rattle.program_meaning.specs.Making.{Whole, boot_state}

abbrev pub entered : Whole → Whole
entered w = record w { work = boot_state w; boot_locals = [] }

abbrev pub left : Whole → Whole
left w = record w { work = record w.work { locals = [] }; boot_locals = w.work.locals }
