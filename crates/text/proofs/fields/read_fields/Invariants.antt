-- Reading comes to what the fields left come to, after the numbers so far.
use Rattle.std.proofs.Common.{length, ◌≡◌, drop}
use Rattle.text.specs.Fields.{fields_at, read_to, fields_of}
use Rattle.text.proofs.fields.read_fields.Given as goal

abbrev pub invariant-loop-i : goal.invariant-loop-i
invariant-loop-i l = (length l.of ≡ 8) × (fields_of l.text l.at l.ends ≡ read_to l.of l.i (fields_at l.text l.next (drop l.i l.ends)))
