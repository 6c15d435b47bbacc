use Rattle.std.proofs.Common.{◌≡◌, ◌<◌, ◌+◌, ℕ, length}
use Rattle.std.specs.Prelude.{slice_index}
use Rattle.msp_isa.specs.Image.{image_map}
use Rattle.msp_isa.proofs.loaded.load_image.Given as goal

-- a byte for each address so far
abbrev pub invariant-loop-offset : goal.invariant-loop-offset
invariant-loop-offset l = record {
  count : length l.bytes.items ≡ l.offset;
  same : (k : ℕ) → k < l.offset → slice_index l.bytes.items k ≡ image_map l.image.code.items l.image.vectors (0x4000 + k);
}
