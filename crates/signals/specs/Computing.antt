-- No meaning: an example that computes with the definitions of this crate says `unfolding signals_compute`.
use Rattle.signals.specs.Sets.{signals, is_set, present, inside, overlap, size, is_pair, set_of}

unfoldable pub signals_compute : Unit {0}
unfolding signals is_set present inside overlap size is_pair set_of
signals_compute = tt
