-- The party's journal that a sheet is of: `patches`, a tab, the count, a line for each record, all of one kind, and nothing after it. Assumes nothing.
use Rattle.std.specs.Prelude.{ℕ, zero, suc, cond, List, [], ◌∷◌, eqb, leb, length, get_or, Option, Some, None}
use Rattle.std.proofs.Math.Option.{none, some, map}
use Rattle.std.proofs.Math.Option as maybe
use Rattle.answer.specs.Answer.{accepted, full, bad_journal, bad_sheet}
use Rattle.bundle.specs.declared.half.Halves.{Halves}
use Rattle.form.specs.declared.Form.{Form}
use Rattle.journal.specs.Change.{JournalOutcome}
use Rattle.journal.specs.Edit.{SharedJournalOutcome, journal_by_party}
use Rattle.name.specs.Name.{after_name, named_at}
use Rattle.record.specs.Record.{whole_record, may_stand}
use Rattle.record.specs.declared.Record.{Record}
use Rattle.records.specs.Journal.{Journal, limit, journal_of, valid_of}
use Rattle.records.specs.Shared.{Shared, places_of, served_of}
use Rattle.table.specs.Ascii.{ascii}
use Rattle.text.specs.Ascii.{tab, newline, starts_with}
use Rattle.text.specs.Fields.{after_number, field_at, fields_at}
use Rattle.sheet.specs.declared.line.Kind.{Kind}
use Rattle.sheet.specs.declared.line.Kind.TheVariants.{Full, Old}

-- the bytes that end the fields before a form, and those that end the five numbers of every line's end
abbrev pub front_ends : List ℕ
front_ends = ascii "\t\t"

abbrev pub ends : List ℕ
ends = ascii "\t\t\t\t\n"

-- what comes after fields, or where there are none
abbrev pub after_fields {ℓ} : {A : Type ℓ} → maybe.Option (List ℕ × ℕ) → (List ℕ → ℕ → A) → A → A
after_fields none more other = other
after_fields (some r) more other = more r.0 r.1

-- a party's record of a line: of its bundle, slot and form and then five numbers, or of five numbers alone
abbrev pub old_in : List ℕ → Halves
old_in ns = record { low = get_or ns 1 0; high = get_or ns 2 0 }

abbrev pub new_in : List ℕ → Halves
new_in ns = record { low = get_or ns 3 0; high = get_or ns 4 0 }

abbrev pub full_record : ℕ → List ℕ → Form → List ℕ → Record
full_record party front form ns =
    record { party = party; bundle = get_or front 0 0; slot = get_or front 1 0; form = form; value = get_or ns 0 0; old = old_in ns; new = new_in ns }

abbrev pub old_record : ℕ → List ℕ → Record
old_record party ns = whole_record party (get_or ns 0 0) (old_in ns) (new_in ns)

-- the record whose line stands at a place, and the place after it
unfoldable pub read_as : ℕ → Kind → List ℕ → ℕ → Option (Record × ℕ)
read_as party Full text at =
    after_fields (fields_at text at front_ends)
    (λ front next. after_name (named_at text next tab) (λ form next. after_fields (fields_at text next ends) (λ ns next. Some (full_record party front form ns, next)) None) None)
    None
read_as party Old text at = after_fields (fields_at text at ends) (λ ns next. Some (old_record party ns, next)) None

-- a line whose record may stand
abbrev pub tested : ℕ → Option (Record × ℕ) → Option (Record × ℕ)
tested party (Some (r, next)) = cond (may_stand party r) (Some (r, next)) None
tested party None = None

unfoldable pub line_at : ℕ → Kind → List ℕ → ℕ → Option (Record × ℕ)
line_at party kind text at = tested party (read_as party kind text at)

-- what comes after a line, or where there is none
abbrev pub after_line {ℓ} : {A : Type ℓ} → Option (Record × ℕ) → (Record → ℕ → A) → A → A
after_line (Some r) more other = more r.0 r.1
after_line None more other = other

-- the records of so many lines from a place on; the text ends after them
unfoldable pub records_at : ℕ → Kind → List ℕ → ℕ → ℕ → maybe.Option (List Record)
records_at party kind text at zero = cond (eqb at (length text)) (some []) none
records_at party kind text at (suc left) =
    after_line (line_at party kind text at) (λ r next. map (λ (rs : List Record). r ∷ rs) (records_at party kind text next left)) none

-- the count that the first line gives, and the place after that line
unfoldable pub head_of : List ℕ → Option (ℕ × ℕ)
head_of text = cond (starts_with (ascii "patches\t") text) (field_at text 8 newline) None

-- the records that a sheet of a kind gives, where they are at most so many
unfoldable pub records_as : ℕ → ℕ → Kind → List ℕ → maybe.Option (List Record)
records_as most party kind text = after_number (head_of text) (λ count at. cond (leb count most) (records_at party kind text at count) none) none

-- those of a sheet in full lines, or else of one in old lines
abbrev pub or_else : maybe.Option (List Record) → maybe.Option (List Record) → maybe.Option (List Record)
or_else (some rs) other = some rs
or_else none other = other

abbrev pub records_in : ℕ → ℕ → List ℕ → maybe.Option (List Record)
records_in most party text = or_else (records_as most party Full text) (records_as most party Old text)

-- the journal of the records; or that there aren't as many places, or that the text is no sheet, and the journal as it was given
abbrev pub loaded_with : ℕ → Journal → maybe.Option (List Record) → JournalOutcome
loaded_with places given (some rs) =
    cond (leb (length rs) places) (record { answer = accepted; journal = journal_of places rs }) (record { answer = full; journal = given })
loaded_with places given none = record { answer = bad_sheet; journal = given }

-- what a party's loading comes to with its journal of so many places, where a sheet has at most so many records
unfoldable pub load_of : ℕ → ℕ → ℕ → Journal → List ℕ → JournalOutcome
load_of most party places given text =
    cond (valid_of party places given) (loaded_with places given (records_in most party text)) (record { answer = bad_journal; journal = given })

-- what `load` comes to
abbrev pub load_by : Shared → ℕ → List ℕ → SharedJournalOutcome
load_by s party text = journal_by_party s party (load_of limit party (places_of s.parties party) (served_of s party) text)
