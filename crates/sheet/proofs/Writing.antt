-- Writing a party's sheet or a line of it, of the part that a call is shown: its first refusal is the definition's, and the part, lent, is
-- the party's journal. Assumes nothing.
use mathlib.Core.Path.{◌≡◌, refl, sym, ◌∙◌}
use mathlib.Core.Bool.{true, false}
use mathlib.Core.List.{List, []}
use Prim.Native.Nat.{ℕ, ◌+◌, ◌-◌}
use borrow.Author.Tests.{eqb-false}
use borrow.Rule.Slice.PartMut.{mid_of}
use Rattle.answer.specs.Answer.{accepted, bad_journal}
use Rattle.record.specs.declared.Record.{Record}
use Rattle.records.specs.Journal.{Journal, lent}
use Rattle.records.specs.Shared.{sharing, places_of, served_of}
use Rattle.records.specs.inner.Shows.{OwnView, Shows}
use Rattle.records.specs.declared.Counts.{Counts}
use Rattle.text.specs.Whole.{Written, wrote_of}
use Rattle.text.proofs.Wholes.{whole-refused}
use Rattle.sheet.specs.Sheet.{write_refusals}

module _ {c : Counts} {rs : List Record} {party : ℕ} {o : OwnView} (shows : Shows c rs party o) (out : List ℕ) (text_of : Journal → List ℕ) where
  abbrev wrote : Written × List ℕ
  wrote = let j = served_of (sharing c rs) party in wrote_of (write_refusals party (places_of c.parties party) j) (text_of j) out

  pub wrote-invalid : o.view.valid ≡ false → (record { answer = bad_journal; length = 0 }, out) ≡ wrote
  wrote-invalid v = whole-refused _ _ out bad_journal (rw (sym shows.valid-is ∙ v)) (eqb-false bad_journal accepted refl)

  pub wrote-valid : o.view.valid ≡ true → wrote_of [] (text_of (lent o.view.count (mid_of o.first (o.first + o.places - o.first) rs))) out ≡ wrote
  unfolding wrote_of
  wrote-valid v = rw ((shows.part v).is-lent, sym shows.valid-is ∙ v)
