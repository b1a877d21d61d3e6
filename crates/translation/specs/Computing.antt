-- No meaning: an example that computes with the definitions of this crate and those below says `unfolding translation_computes`.
use Rattle.arith.specs.Trees.{map_tree}
use Rattle.layout.specs.Computing.{layout_computes}
use Rattle.peal.specs.Computing.{peal_computes}
use Rattle.translation.specs.Translation.{join_of, quiet, turned, listed, translated, pair_mask, listing_records}

unfoldable pub translation_computes : Unit {0}
unfolding layout_computes peal_computes map_tree join_of quiet turned listed translated pair_mask listing_records
translation_computes = tt
