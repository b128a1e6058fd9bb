-- After an accepted edit to a wanted target `target` gives it: the code after the edit has the changed bundle, of which `displacement`'s
-- law speaks. Assumes nothing.
use mathlib.Core.Path.{◌≡◌, refl, sym, ap, ◌∙◌}
use mathlib.Core.List.{List, [], ◌∷◌, ◌++◌}
use Prim.Native.Nat.{ℕ, ◌<◌, ◌^◌}
use lib.Dec.{T}
use Rattle.answer.specs.Answer.{Reason, accepted, first}
use Rattle.answer.proofs.Laws.{numbered, accepts, answered}
use Rattle.bundle.specs.Bundle.{number_at}
use Rattle.bundle.proofs.Bytes.{Bytes}
use Rattle.bundle.proofs.Lies.{found-when}
use Rattle.form.specs.declared.Form.{Form}
use Rattle.form.specs.declared.Edit.{Edit}
use Rattle.immediate.specs.Immediate.{target_of}
use Rattle.immediate.proofs.Laws.{changed-answer}
use Rattle.displacement.specs.Displacement.{displacement_of}
use Rattle.displacement.specs.Reached.{reaching_edit}
use Rattle.displacement.proofs.Reached.{reached-in}
use Rattle.records.specs.Journal.{Journal, view_of}
use Rattle.records.specs.Shared.{places_of, served_of}
use Rattle.journal.specs.Change.{Outcome, field, changed, room_refusals, make_of}
use Rattle.journal.specs.Edit.{code_refusals, checked_refusals}
use Rattle.journal.proofs.Laws.{parts-accept, taken-changes, checked-taken}
use Rattle.demands.specs.Reached.{EditsReach}
use Rattle.demands.proofs.Edits.{Fits}
use Rattle.demands.proofs.Changes.{changed-lies, changed-number}

-- a call that makes one edit, where it is accepted: the code had no reason to refuse it, and is changed by it
module _ (party places : ℕ) (code : List ℕ) (journal : Journal) (refusals : List Reason) (n : T (numbered refusals)) (e : Edit) where
  abbrev after : Outcome
  after = make_of party places code journal refusals (field e ∷ [])

  abbrev all : ℕ
  all = first (refusals ++ room_refusals places (view_of party places journal) 1)

  made : after.answer ≡ accepted → (first refusals ≡ accepted) × (after.code ≡ changed code (field e))
  unfolding make_of
  made a =
      let taken : all ≡ accepted = sym (answered (λ (o : Outcome). o.answer) all _ _ refl refl) ∙ a in
      ((parts-accept refusals (room_refusals places (view_of party places journal) 1) n taken).0, ap (λ (o : Outcome). o.code) (accepts all _ _ taken))

-- the target in the code that an edit has changed
module _ (code : List ℕ) (k slot : ℕ) (form : Form) (address wanted : ℕ) (b : Bytes code) (ha : address < 2 ^ 64) (hw : wanted < 2 ^ 64) (d : (displacement_of form address wanted).answer ≡ accepted) where
  abbrev edit : Edit
  edit = reaching_edit k slot form address wanted

  there : Fits code edit → target_of (changed code (field edit)) k slot form address ≡ record { answer = accepted; address = wanted }
  there fits =
      reached-in (changed code (field edit)) (number_at code k) k slot form address wanted ha hw d (changed-answer (number_at code k) edit ∙ taken-changes code edit fits)
      (found-when (changed code (field edit)) k (changed-lies code (field edit) fits)) (changed-number code (field edit) fits b)

  reaches : (party places : ℕ) (journal : Journal) (refusals : List Reason) (n : T (numbered refusals)) → (first refusals ≡ accepted → Fits code edit)
      → let o = make_of party places code journal refusals (field edit ∷ []) in
      o.answer ≡ accepted → target_of o.code k slot form address ≡ record { answer = accepted; address = wanted }
  reaches party places journal refusals n fits a = let m = made party places code journal refusals n edit a in rw m.1 (there (fits m.0))

pub edits-reach : EditsReach
edits-reach = (
  λ code s party k slot form address wanted b ha hw d a.
      reaches code k slot form address wanted b ha hw d party (places_of s.parties party) (served_of s party) (code_refusals code (reaching_edit k slot form address wanted)) tt (λ q. q) a,
  λ code s party k slot form address wanted b ha hw d a.
      reaches code k slot form address wanted b ha hw d party (places_of s.parties party) (served_of s party) (checked_refusals code (reaching_edit k slot form address wanted)) tt
      (checked-taken code (reaching_edit k slot form address wanted)) a,
)
