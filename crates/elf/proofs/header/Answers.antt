-- A case of what the header says at each return.
use Rattle.std.proofs.Common.{ap, sym}
use Rattle.std.specs.Prelude.{Some, Ok, Err}
use Rattle.std.proofs.lemmas.Result.{err_from_is_err_and}
use Rattle.answer.proofs.Laws.{refuses}
use Rattle.elf.specs.Elf.{number_of, tables_of, elf_header}
use Rattle.elf.proofs.Laws.{no-acceptance}
use Rattle.elf.proofs.header.Goals as goal

pub returns-then-not-is_elf : goal.returns-then-not-is_elf
unfolding elf_header
returns-then-not-is_elf c = rw (sym c.if-not-is_elf.ensures)

pub returns-in_err-taken : goal.returns-in_err-taken
unfolding elf_header
returns-in_err-taken c =
    let refusal = err_from_is_err_and c.from_residual.result c.from_residual.ensures.1 in
    let why = c.in_err-taken.field-0.0 in
    rw (refusal.1, refusal.2, sym c.if-not-is_elf.ensures, ← c.in_err-taken.ensures)
    (sym (refuses (number_of why) (Ok (Some (tables_of c.args.bytes.now))) (Err (number_of why)) (no-acceptance why)))

pub returns : goal.returns
unfolding elf_header
returns c = rw (sym c.if-not-is_elf.ensures, ← c.in_ok-taken.ensures) (ap (λ t. Ok (Some t)) c.tables_of.ensures)
