-- The lines of the first `n` bundles are written after the header.
use Rattle.text.specs.Put.{Put}
use Rattle.lister.specs.Listing.{bundle_lines}
use Rattle.lister.proofs.write.Given as goal

abbrev pub invariant-loop-n : goal.invariant-loop-n
invariant-loop-n l = Put l.initial.out l.initial.at (bundle_lines l.code l.n) l.out l.at
