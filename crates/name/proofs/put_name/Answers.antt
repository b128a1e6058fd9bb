-- A letter and a decimal, or a dash where the family is no letter.
use Rattle.std.proofs.Common.{arith, sym}
use Rattle.text.proofs.Writing.{put_then}
use Rattle.name.proofs.Names.{letter-name, other_name}
use Rattle.name.proofs.put_name.Goals as goal

pub returns-then-not-is_letter : goal.returns-then-not-is_letter
returns-then-not-is_letter c = rw (other_name c.args.form (sym c.if-not-is_letter.ensures)) c.put_byte.ensures

pub returns : goal.returns
returns c = rw (letter-name c.args.form (sym c.if-not-is_letter.ensures)) (put_then (omega arith) c.put_byte-next.ensures c.put_decimal.ensures)
