-- Lines by their masks, for inner contracts only.
use Rattle.std.specs.Prelude.{ℕ, List}
use Rattle.layout.specs.Writing.{put_records, lines_up_to}

-- lines with these masks written from record n on, where record `last` is the policy's last line
abbrev pub put_masks : (last n : ℕ) → List ℕ → (before : List ℕ) → List ℕ
put_masks last n masks before = put_records before n (lines_up_to last n masks)
