-- No meaning: an example that computes with the definitions of this crate and those below says `unfolding compiler_computes`.
use Rattle.translation.specs.Computing.{translation_computes}
use Rattle.book.specs.Computing.{book_computes}
use Rattle.compiler.specs.Compiling.{fitting, compiled, returned, lent_after, compiled_listing}

unfoldable pub compiler_computes : Unit {0}
unfolding translation_computes book_computes fitting compiled returned lent_after compiled_listing
compiler_computes = tt
