use Rattle.std.proofs.Common.{◌≡◌, ◌<◌, ◌≤◌, length}
use Rattle.nm_base.specs.declared.limit.TheConstants.{MAX_TOKENS}
use Rattle.nesc_macros.specs.Invocation.{Name}
use Rattle.nesc_preproc.specs.Sources.{World, IsLexing}
use Rattle.nesc_preproc.specs.Obeyed.{max_open}
use Rattle.nesc_preproc.specs.Kept.{BreaksFrom, IsTold}
use Rattle.nesc_preproc.specs.Scan.{Goes, size_of}
use Rattle.nesc_preproc.proofs.scan.Scan.run.Given as goal

abbrev pub invariant-loop : goal.invariant-loop
invariant-loop g l = record {
  within : l.self.context.known.tokens ≤ MAX_TOKENS;
  depth : length l.self.outer.items < max_open;
  same : (g.F.Files.seen l.files).texts ≡ (g.F.Files.seen l.fn.files).texts;
  faults : (g.F.Files.seen l.fn.files).faults ≤ (g.F.Files.seen l.files).faults;
  misses : (n : Name) → (g.F.Files.seen l.fn.files).misses n ≤ (g.F.Files.seen l.files).misses n;
  numbers : length l.fn.self.context.known.files.texts ≤ length l.self.context.known.files.texts;
  goes : (world : World) → IsTold (g.F.Files.seen l.fn.files).texts world → IsLexing world.lexed → BreaksFrom world.broken (length l.self.context.known.files.texts) → Goes world l.fn.self l.self;
}

abbrev pub decreases-loop : goal.decreases-loop
decreases-loop g l = size_of l.self
