-- `listing::list_condition`: the records that compiling returns lie in the words.
use native.Mathlib.Omega.{arith}
use Rattle.compiler.proofs.CompiledLaws.{returned-from}
use Rattle.listing.proofs.list_condition.Goals as goal

pub print_listing-requires : goal.print_listing-requires
print_listing-requires g c = omega (arith, (returned-from c.compile.ensures c.in-Ok.is).room)
