-- Demand 3: after any run of a party's calls the code is the first code with exactly the standing changes made in order, and the standing
-- changes are worked out from the first code and the calls alone: an edit that is taken, checked or not, is one more change, an undo takes
-- the last one away, and a fold puts in their place, for each bundle that they touch, in order of first touch, that bundle set to what it now is.
-- It is about `make_of`, `undo_of` and `fold_of`, by which the contracts of the calls say all that they do with a party's journal (`ByContract` in
-- `Parties.antt`): between this statement and the code stand those contracts and nothing else. Assumes nothing.
use Rattle.std.specs.Prelude.{ℕ, ◌+◌, ◌≤◌, ◌<◌, ◌^◌, ◌≡◌, cond, List, [], ◌∷◌, ◌++◌, map, ltb, eqb, length, get_or, drop, replicate}
use Rattle.answer.specs.Answer.{Reason, first, outcome, accepted, empty, full}
use Rattle.bundle.specs.Bundle.{longest_code, number_at}
use Rattle.form.specs.declared.Edit.{Edit}
use Rattle.records.specs.Journal.{Journal, standing, journal_of}
use Rattle.journal.specs.Change.{Change, field, set, bundle_of, made_all, records_of, Outcome, with_code, make_of}
use Rattle.fold.specs.Fold.{has, fold_of}
use Rattle.journal.specs.Edit.{code_refusals, checked_refusals, undo_of}
use Rattle.demands.specs.Sets.{EachSetsItsOwn}

-- the calls that make changes
pub data Making : Type 0 where
  edit : Edit → Making
  checked : Edit → Making

-- when the code refuses one
abbrev pub refusals_of : List ℕ → Making → List Reason
refusals_of code (edit e) = code_refusals code e
refusals_of code (checked e) = checked_refusals code e

-- the changes that it makes; the last stands first
abbrev pub changes_of : Making → List Change
changes_of (edit e) = field e ∷ []
changes_of (checked e) = field e ∷ []

-- and what it comes to
abbrev pub making_of : ℕ → ℕ → List ℕ → Journal → Making → Outcome
making_of party places code journal m = make_of party places code journal (refusals_of code m) (changes_of m)

-- a call of demand 3: one that makes changes, an undo, or a fold
pub data Call : Type 0 where
  make : Making → Call
  undo : Call
  fold : Call

-- one call with a party's journal of this number of places, given the code and the journal that the last handed back
abbrev pub step : ℕ → ℕ → Outcome → Call → Outcome
step party places s (make m) = making_of party places s.code s.journal m
step party places s undo = undo_of party places s.code s.journal
step party places s fold = with_code s.code (fold_of party places s.journal)

-- a run from a first code and an empty journal; the last call stands first, so what is said of every run is said of every prefix
abbrev pub run : ℕ → ℕ → List ℕ → List Call → Outcome
run party places code [] = record { answer = accepted; journal = journal_of places []; code = code }
run party places code (call ∷ calls) = step party places (run party places code calls) call

-- what a call answers while these changes stand; a fold is never refused
abbrev pub answer_to : ℕ → List ℕ → List Change → Call → ℕ
answer_to places code cs (make m) = first (refusals_of (made_all code cs) m ++ (full, ltb places (length cs + length (changes_of m))) ∷ [])
answer_to places code cs undo = first ((empty, eqb (length cs) 0) ∷ [])
answer_to places code cs fold = accepted

-- the bundles that changes touch, each once, in order of first touch; the last stands first
abbrev pub touched : List Change → List ℕ
touched [] = []
touched (c ∷ cs) = cond (has (bundle_of c) (touched cs)) (touched cs) (bundle_of c ∷ touched cs)

-- some bundles, each set to what it is in a code
abbrev pub as_in : List ℕ → List ℕ → List Change
as_in code ks = map (λ (k : ℕ). set k (number_at code k)) ks

-- the standing changes after a call that is taken
abbrev pub taken : List ℕ → List Change → Call → List Change
taken code cs (make m) = changes_of m ++ cs
taken code cs undo = drop 1 cs
taken code cs fold = as_in (made_all code cs) (touched cs)

-- the standing changes after a call
abbrev pub after : ℕ → List ℕ → List Change → Call → List Change
after places code cs call = outcome (answer_to places code cs call) (taken code cs call) cs

-- the changes that stand after a run, worked out from the first code and the calls alone
abbrev pub standing_changes : ℕ → List ℕ → List Call → List Change
standing_changes places code [] = []
standing_changes places code (call ∷ calls) = after places code (standing_changes places code calls) call

-- what there is after a call
abbrev pub expected : ℕ → ℕ → List ℕ → List Change → Call → Outcome
expected party places code cs call =
    record {
      answer = answer_to places code cs call;
      journal = journal_of places (records_of party code (after places code cs call));
      code = made_all code (after places code cs call);
    }

-- the calls, and then n undos
abbrev pub then_undo : ℕ → List Call → List Call
then_undo n calls = replicate n undo ++ calls

-- what demand 3 says after a run
pub record Holds (party places : ℕ) (code : List ℕ) (calls : List Call) : Type 0 where
  -- the code is the first code with the standing changes made in order
  pub code_is : (run party places code calls).code ≡ made_all code (standing_changes places code calls)
  -- the journal has their records and no other
  pub journal-is : (run party places code calls).journal ≡ journal_of places (records_of party code (standing_changes places code calls))
  -- any next call answers and leaves what is expected of it
  pub next-is : (call : Call) → run party places code (call ∷ calls) ≡ expected party places code (standing_changes places code calls) call
  -- a fold leaves the code
  pub fold-keeps : (run party places code (fold ∷ calls)).code ≡ (run party places code calls).code
  -- and as many records as bundles are touched
  pub fold-counts : length (standing (run party places code (fold ∷ calls)).journal) ≡ length (touched (standing_changes places code calls))
  -- and a second one straight after it changes nothing
  pub fold-twice : run party places code (fold ∷ fold ∷ calls) ≡ run party places code (fold ∷ calls)
  -- each standing change sets what is its own and nothing else
  pub own-only : EachSetsItsOwn code (standing_changes places code calls)
  -- a call that is refused leaves code and journal as they were
  pub refused-keeps : (call : Call) → ((run party places code (call ∷ calls)).answer ≡ accepted → ⊥)
      → ((run party places code (call ∷ calls)).code ≡ (run party places code calls).code) × ((run party places code (call ∷ calls)).journal ≡ (run party places code calls).journal)
  -- an undo is refused only where no change stands
  pub undo-refused : ((run party places code (undo ∷ calls)).answer ≡ accepted → ⊥) → standing_changes places code calls ≡ []
  -- and as many undos as changes stand give the first code back
  pub undone : (run party places code (then_undo (length (standing_changes places code calls)) calls)).code ≡ code

-- demand 3: of every party, every number of places, every code of at most `longest_code` bytes and every run
abbrev pub Demand3 : Type 0
Demand3 = (party places : ℕ) (code : List ℕ) → ((i : ℕ) → get_or code i 0 < 2 ^ 8) → length code ≤ longest_code → (calls : List Call) → Holds party places code calls
