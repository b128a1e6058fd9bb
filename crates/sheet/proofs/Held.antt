-- Numbers of 64 bits, by the test and one by one. Assumes nothing.
use mathlib.Core.List.{List, [], ◌∷◌}
use Prim.Native.Nat.{ℕ, ◌^◌}
use lib.Dec.{T, ltb, ltb→lt}
use borrow.Author.Tests.{lt-ltb}
use mir.Facts.{and_yes}
use Rattle.record.specs.Record.{all_fit64}
use Rattle.text.specs.Fields.{Words}

pub words : (ns : List ℕ) → T (all_fit64 ns) → Words ns
words [] t = tt
words (n ∷ ns) t = let a = and_yes (ltb n (2 ^ 64)) (all_fit64 ns) t in (ltb→lt _ _ a.0, words ns a.1)

pub are_words : (ns : List ℕ) → Words ns → T (all_fit64 ns)
are_words [] w = tt
are_words (n ∷ ns) w = rw (lt-ltb _ _ w.0) (are_words ns w.1)
