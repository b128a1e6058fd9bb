-- A record of an edit, and which records may stand in a journal. Assumes nothing.
use Rattle.std.specs.Prelude.{ℕ, ◌^◌, Bool, true, ◌&&◌, ◌||◌, List, [], ◌∷◌, eqb, leb, ltb}
use Rattle.answer.specs.Answer.{accepted}
use Rattle.bundle.specs.Bundle.{halves_of, whole}
use Rattle.bundle.specs.declared.half.Halves.{Halves}
use Rattle.form.specs.Form.{no_form, same_form}
use Rattle.form.specs.declared.Edit.{Edit}
use Rattle.operand.specs.Pattern.{pattern_in}
use Rattle.immediate.specs.Immediate.{changed_number, Changed, changed_of, edit_by_pattern}
use Rattle.record.specs.declared.Record.{Record}

-- the highest number of a bundle
abbrev pub highest : ℕ
highest = 4095

-- the record of a party's edit of bundle n
abbrev pub edit_record : ℕ → ℕ → Edit → Record
edit_record party n e =
    record { party = party; bundle = e.bundle; slot = e.slot; form = e.form; value = pattern_in e.value; old = halves_of n; new = halves_of (changed_number n e) }

-- a record of a whole bundle: slot 0, no form, value 0
abbrev pub whole_record : ℕ → ℕ → Halves → Halves → Record
whole_record party bundle old new = record { party = party; bundle = bundle; slot = 0; form = no_form; value = 0; old = old; new = new }

abbrev pub is_whole : Record → Bool
is_whole r = eqb r.slot 0 && same_form r.form no_form && eqb r.value 0

-- the same two halves
abbrev pub same_halves : Halves → Halves → Bool
same_halves a b = eqb a.low b.low && eqb a.high b.high

-- a free place: all ten numbers are zero
abbrev pub no_halves : Halves
no_halves = record { low = 0; high = 0 }

abbrev pub no_record : Record
no_record = whole_record 0 0 no_halves no_halves

abbrev pub is_free : Record → Bool
is_free r = is_whole r && eqb r.party 0 && eqb r.bundle 0 && same_halves r.old no_halves && same_halves r.new no_halves

-- the edit that a record tells of
abbrev pub recorded_edit : Record → Edit
recorded_edit r = edit_by_pattern r.bundle r.slot r.form r.value

-- a change is taken and gives this bundle
abbrev pub gives : Changed → Halves → Bool
gives changed new = eqb changed.answer accepted && same_halves changed.bundle new

-- a record is one of a whole bundle, or its edit makes its new bundle of its old one
unfoldable pub passes : Record → Bool
passes r = is_whole r || gives (changed_of (whole r.old) (recorded_edit r)) r.new

-- a record that may stand in a party's journal
abbrev pub may_stand : ℕ → Record → Bool
may_stand party r = leb r.bundle highest && (passes r && eqb r.party party)

-- numbers of 64 bits
abbrev pub all_fit64 : List ℕ → Bool
all_fit64 [] = true
all_fit64 (n ∷ ns) = ltb n (2 ^ 64) && all_fit64 ns

-- the numbers of a record's line
abbrev pub line_numbers : Record → List ℕ
line_numbers r = r.bundle ∷ r.slot ∷ r.form.number ∷ r.value ∷ r.old.low ∷ r.old.high ∷ r.new.low ∷ r.new.high ∷ []

-- a record of the code, whose numbers are
abbrev pub fits64 : Record → Bool
fits64 r = all_fit64 (line_numbers r)
