-- What every sound listing is, and which listings are sound: each is the law of its name.
use Rattle.layout.specs.SoundListings.{SoundListings}
use Rattle.layout.proofs.Soundness.{tree-sound}
use Rattle.layout.proofs.Shape.{sound-listing}
use Rattle.layout.proofs.SoundNodes.{sound-exclusions, sound-tree}

pub sound-listings : SoundListings
sound-listings = record { itself = sound-listing; pairs = sound-exclusions; tree = sound-tree; sound = tree-sound }
