-- Fold's laws, for any records, also for those of a journal that was loaded, which need not follow one another. What a fold is in a run stands
-- in `Demand3.antt`. Proved in `proofs/Newest.antt` and `proofs/Loaded.antt`. Assumes nothing.
use Rattle.std.specs.Prelude.{ℕ, ◌+◌, ◌*◌, ◌≤◌, ◌≡◌, true, cond, List, [], ◌∷◌, ◌++◌, eqb, length, take}
use Rattle.std.proofs.Math.Option.{Option, none, some}
use Rattle.answer.specs.Answer.{accepted, stale}
use Rattle.bundle.specs.Bytes.{bytes}
use Rattle.bundle.specs.Bundle.{longest_code, number_at, halves_of, whole}
use Rattle.bundle.specs.declared.half.Halves.{Halves}
use Rattle.record.specs.Record.{whole_record}
use Rattle.record.specs.declared.Record.{Record}
use Rattle.records.specs.Journal.{journal_of, valid_of}
use Rattle.journal.specs.Change.{rewritten, with_code}
use Rattle.fold.specs.Fold.{has, bundles_in, folded, fold_of}
use Rattle.demands.specs.Old.{undos}

-- the bundles touched, each once, in order of first touch
abbrev pub touched_on : List ℕ → List Record → List ℕ
touched_on ks [] = ks
touched_on ks (r ∷ rs) = touched_on (cond (has r.bundle ks) ks (ks ++ (r.bundle ∷ []))) rs

-- the old bundle of the first record of bundle k, and the new bundle of the last
abbrev pub else : Option Halves → Option Halves → Option Halves
else none y = y
else (some h) y = some h

abbrev pub of_bundle : ℕ → Record → Halves → Option Halves
of_bundle k r h = cond (eqb r.bundle k) (some h) none

abbrev pub oldest : ℕ → List Record → Option Halves
oldest k [] = none
oldest k (r ∷ rs) = else (of_bundle k r r.old) (oldest k rs)

abbrev pub newest : ℕ → List Record → Option Halves
newest k [] = none
newest k (r ∷ rs) = else (newest k rs) (of_bundle k r r.new)

-- the code with all old bundles written back, the newest record's first
abbrev pub written_back : List ℕ → List Record → List ℕ
written_back code [] = code
written_back code (r ∷ rs) = rewritten (written_back code rs) r.bundle (whole r.old)

-- every record's bundle lies in a code of so many bytes
abbrev pub AllLie : ℕ → List Record → Type 0
AllLie size [] = Unit {0}
AllLie size (r ∷ rs) = (16 * r.bundle + 16 ≤ size) × AllLie size rs

-- what holds of any records, folded
pub record FoldLaws (rs : List Record) : Type 0 where
  -- a second fold changes nothing
  pub twice : folded (folded rs) ≡ folded rs
  -- the bundles are those touched
  pub touches : bundles_in (folded rs) ≡ touched_on [] rs
  -- of each the oldest old one is left
  pub oldest-old : (k : ℕ) → oldest k (folded rs) ≡ oldest k rs
  -- and the newest new one
  pub newest-new : (k : ℕ) → newest k (folded rs) ≡ newest k rs
  -- no more records are left than there were
  pub fewer : length (folded rs) ≤ length rs
  -- and all old bundles written back give the same bytes
  pub writes-back : (code : List ℕ) → length code ≤ longest_code → AllLie (length code) rs → written_back code (folded rs) ≡ written_back code rs

abbrev pub Folds : Type 0
Folds = (rs : List Record) → FoldLaws rs

-- every record's new bundle stands in the code
abbrev pub StandIn : List ℕ → List Record → Type 0
StandIn code [] = Unit {0}
StandIn code (r ∷ rs) = (halves_of (number_at code r.bundle) ≡ r.new) × StandIn code rs

-- of any valid journal: where each bundle touched lies in the code and stands there as its newest record says, a fold is accepted, and so are
-- as many undos after it as there are bundles touched, which write the oldest old bundles back
abbrev pub FoldedUndone : Type 0
FoldedUndone =
    (party places : ℕ) (code : List ℕ) (rs : List Record) → length code ≤ longest_code → valid_of party places (journal_of places rs) ≡ true
    → AllLie (length code) rs → StandIn code (folded rs)
    → undos party places (length (folded rs)) (with_code code (fold_of party places (journal_of places rs))) ≡ record { answer = accepted; journal = journal_of places []; code = written_back code rs }

-- without the fold the undos need not be accepted, since loaded records need not follow one another: of two of bundle 0, from 1 to 2 and from
-- 3 to 4, a code with 4 is undone to 3, where the older record is stale; folded, it is undone to 1
abbrev pub not_following : List Record
not_following = whole_record 0 0 (halves_of 1) (halves_of 2) ∷ whole_record 0 0 (halves_of 3) (halves_of 4) ∷ []

pub record NotUndone : Type 0 where
  -- one by one
  pub steps : undos 0 2 2 (record { answer = accepted; journal = journal_of 2 not_following; code = bytes 16 4 }) ≡ record { answer = stale; journal = journal_of 2 (take 1 not_following); code = bytes 16 3 }
  -- folded
  pub fold : undos 0 2 1 (with_code (bytes 16 4) (fold_of 0 2 (journal_of 2 not_following))) ≡ record { answer = accepted; journal = journal_of 2 []; code = bytes 16 1 }
