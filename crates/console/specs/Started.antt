-- How a program was started, by its first two arguments. Assumes nothing.
use Rattle.std.specs.Prelude.{ℕ, ◌-◌, Bool, cond, ◌&&◌, List, eqb, Some, None, length, get_or}
use Rattle.table.specs.Ascii.{ascii}
use Rattle.text.specs.Ascii.{within, same_text}
use Rattle.console.specs.declared.start.Started.{Started}

-- whether a word is a descriptor: one digit, from `3` (byte 51) to `9` (57)
abbrev pub is_descriptor : List ℕ → Bool
is_descriptor word = eqb (length word) 1 && within 51 57 (get_or word 0 0)

-- whether the first two arguments tell where the status goes
abbrev pub tells_status : List ℕ → List ℕ → Bool
tells_status word number = same_text word (ascii "--status") && is_descriptor number

-- where they do, the status goes to that digit, and the program's own arguments begin with the third; else it goes nowhere
abbrev pub started_by : List ℕ → List ℕ → Started
started_by word number = cond (tells_status word number) (record { status = Some (get_or number 0 0 - 48); first = 3 }) (record { status = None; first = 1 })
