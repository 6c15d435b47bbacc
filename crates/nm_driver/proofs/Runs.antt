-- What a run prints, by its image, its board and its rows.
use Rattle.std.proofs.Common.{◌≡◌, ◌++◌, ℕ, List, Option, ap, ◌∙◌}
use Rattle.mote_devices.specs.declared.state.BoardState.{BoardState}
use Rattle.mote_devices.specs.declared.shown.Due.{Due}
use Rattle.mote_run.specs.RunText.{mote_text}
use Rattle.nm_driver.specs.declared.subject.Head.{Head}
use Rattle.nm_driver.specs.Prepared.{head_bytes, line_before}

pub same_run : (head : Option Head) (n : ℕ) (i j : ℕ → ℕ) (b d : BoardState) (r s : List Due) → i ≡ j → b ≡ d → r ≡ s
    → head_bytes head ++ (line_before head ++ mote_text i b r n) ≡ head_bytes head ++ (line_before head ++ mote_text j d s n)
same_run head n i j b d r s e f g =
    ap (λ x. head_bytes head ++ (line_before head ++ mote_text x b r n)) e
    ∙ ap (λ x. head_bytes head ++ (line_before head ++ mote_text j x r n)) f
    ∙ ap (λ x. head_bytes head ++ (line_before head ++ mote_text j d x n)) g
