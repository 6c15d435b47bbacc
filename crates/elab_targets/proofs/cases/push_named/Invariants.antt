use Rattle.std.proofs.Common.{◌≡◌, ◌++◌, map, drop}
use Rattle.program_meaning.specs.Items.{named_case}
use Rattle.elab_facts.specs.View.{reached_of}
use Rattle.elab_targets.specs.Starts.{AreTables}
use Rattle.elab_targets.specs.View.{application_of, element_of, wired_of}
use Rattle.elab_targets.proofs.cases.push_named.Given as goal

abbrev pub invariant-loop-wired : goal.invariant-loop-wired
invariant-loop-wired l = AreTables (application_of l.app) l.tables
    → map reached_of l.cases.items ++ map (named_case (application_of l.app) l.instance (element_of l.element) l.item) (map wired_of (drop l.wired-index l.wired-items))
    ≡ map reached_of l.fn.cases.items ++ map (named_case (application_of l.app) l.instance (element_of l.element) l.item) (element_of l.element).named
