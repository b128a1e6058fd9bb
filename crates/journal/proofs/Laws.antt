-- A plan carried out is the act: its refusals are the act's, and what it writes is what the act comes to, by the laws of the journal's
-- view. Assumes nothing.
use mathlib.Core.Path.{◌≡◌, refl, sym, ap, ◌∙◌}
use mathlib.Core.Bool.{Bool, true, false, cond, false≢true}
use mathlib.Core.List.{List, [], ◌∷◌, ◌++◌}
use Prim.Native.Nat.{ℕ, ◌+◌, ◌<◌, ◌^◌}
use native.Mathlib.Decide.{ℕ_discrete}
use native.Mathlib.Omega.{arith}
use borrow.Author.Tests.{ltb-false, eqb-true, not-false}
use lib.Dec.{T, eqb}
use Rattle.std.proofs.Common.{Result, Ok, Err}
use Rattle.std.specs.Result.{is_ok}
use Rattle.answer.specs.Answer.{Reason, accepted, first, outcome, number_of}
use Rattle.answer.specs.declared.Refusal.{Refusal}
use Rattle.answer.proofs.Laws.{numbered, NoneApplies, none-applies, first_on, first-stop, first-without, accepts, refuses, no-acceptance}
use Rattle.bundle.specs.Bundle.{find_refusals, find_answer, number_at, units_in, halves_of, whole, Loaded, as_loaded, loaded_of}
use Rattle.bundle.specs.declared.half.Halves.{Halves}
use Rattle.bundle.proofs.Bytes.{Bytes}
use Rattle.bundle.proofs.Whole.{whole-halves}
use Rattle.bundle.proofs.Laws.{loaded_found, number-at-lt}
use Rattle.bundle.proofs.Loading.{loading}
use Rattle.bundle.proofs.Lies.{found-when}
use Rattle.form.specs.declared.Edit.{Edit}
use Rattle.row.specs.Row.{row_of}
use Rattle.immediate.specs.Immediate.{row_refusals, slot_refusals, value_refusals, change_refusals, changed_number}
use Rattle.immediate.proofs.Laws.{changed-lt}
use Rattle.journal.specs.Change.{Outcome, rewritten, field, change_record, room_refusals, make_of}
use Rattle.journal.specs.Edit.{refusals_with, retired_refusal, code_refusals, form_refusal, checked_refusals, undo_refusals, undo_of, by_party, act_by}
use Rattle.journal.specs.inner.Plan.{new_refusals, reading_refusals, look_refusals, field_refusals, word_refusals, edit_answer, edit_plan_of, undo_plan_of, plan_of, carried_out}
use Rattle.journal.specs.declared.Act.{Act}
use Rattle.journal.specs.declared.Act.TheVariants.{Edit as EditAct, Checked, Undo}
use Rattle.journal.specs.declared.plan.Plan.{Plan}
use Rattle.records.specs.Journal.{Journal, Shown, view_of, with_record}
use Rattle.records.specs.Shared.{Shared, places_of, served_of}
use Rattle.records.specs.inner.Shows.{OwnView, own_view}
use Rattle.records.proofs.Standing.{view-pushes, view-pops}

-- a refusal that a list's first part gives is the list's
pub refusal-stops : (refusal : Refusal) (rs qs : List Reason) → number_of refusal ≡ first rs → number_of refusal ≡ first (rs ++ qs)
refusal-stops refusal rs qs e = e ∙ sym (first-stop rs qs (λ q. no-acceptance refusal (e ∙ q)))

-- what is asked of a bundle that is loaded first
module _ (code : List ℕ) (k : ℕ) (bytes : Bytes code) (rest : List Reason) where
  pub load-stops : (refusal : Refusal) → as_loaded (Err refusal) ≡ loaded_of code k → number_of refusal ≡ first (find_refusals code k ++ rest)
  unfolding find_answer
  load-stops refusal is = refusal-stops refusal (find_refusals code k) rest (loading code k bytes is).answer

  -- once it is found, it is asked of the one in the code
  module _ (halves : Halves) (is : as_loaded (Ok halves) ≡ loaded_of code k) where
    pub load-goes-on : first (find_refusals code k ++ rest) ≡ first rest
    unfolding find_answer
    load-goes-on = first_on (find_refusals code k) rest tt (sym (loading code k bytes is).answer)

    pub load-number : whole halves ≡ number_at code k
    load-number = (loading code k bytes is).number refl

    pub load-halves : halves ≡ halves_of (number_at code k)
    load-halves = ap (λ (l : Loaded). l.halves) (is ∙ loaded_found code k (sym (loading code k bytes is).answer))

-- a plan that is refused, whatever would be done
pub refused-is : (done : Result Plan ℕ) (refusal : Refusal) (a : ℕ) → number_of refusal ≡ a → Err (number_of refusal) ≡ outcome a done (Err a)
refused-is done refusal a e = ap (λ (n : ℕ). Err n) e ∙ sym (refuses a done (Err a) (λ q. no-acceptance refusal (e ∙ q)))

-- a list of refusals accepts where its two parts do
pub parts-accept : (rs qs : List Reason) → T (numbered rs) → first (rs ++ qs) ≡ accepted → (first rs ≡ accepted) × (first qs ≡ accepted)
parts-accept rs qs n e = go (ℕ_discrete (first rs) accepted)
  where
    go : Dec (first rs ≡ accepted) → (first rs ≡ accepted) × (first qs ≡ accepted)
    go (yes a) = (a, sym (first_on rs qs n a) ∙ e)
    go (no d) = absurd (d (sym (first-stop rs qs d) ∙ e))

-- and goes on by what its second part answers
pub first_past : (rs qs ps : List Reason) → first qs ≡ first ps → first (rs ++ qs) ≡ first (rs ++ ps)
first_past [] qs ps e = e
first_past (r ∷ rs) qs ps e = ap (λ (n : ℕ). cond r.1 r.0 n) (first_past rs qs ps e)

-- so one that was asked before, and didn't apply, can be left out
first-passed : (rs : List Reason) (r : Reason) (qs : List Reason) → T (numbered rs) → T (numbered (r ∷ [])) → first (rs ++ (r ∷ [])) ≡ accepted → first (rs ++ (r ∷ qs)) ≡ first (rs ++ qs)
first-passed rs r qs n m a =
    let p = parts-accept rs (r ∷ []) n a in
    first_on rs (r ∷ qs) n p.0 ∙ first_on (r ∷ []) qs m p.1 ∙ sym (first_on rs qs n p.0)

abbrev plan_or : Plan → Result Plan ℕ → Plan
plan_or other (Ok plan) = plan
plan_or other (Err answer) = other

-- a plan that is accepted or refused by a
module _ (plan : Plan) (a : ℕ) where
  abbrev Decided : Result Plan ℕ
  Decided = outcome a (Ok plan) (Err a)

  decided : (p : Plan) → Decided ≡ Ok p → (a ≡ accepted) × (plan ≡ p)
  decided p q = go (ℕ_discrete a accepted)
    where
      go : Dec (a ≡ accepted) → (a ≡ accepted) × (plan ≡ p)
      go (yes e) = (e, ap (plan_or plan) (sym (accepts a (Ok plan) (Err a) e) ∙ q))
      go (no d) = absurd (false≢true (ap is_ok (sym (refuses a (Ok plan) (Err a) d) ∙ q)))

  -- what carrying it out comes to, where it leaves this journal and this code
  decided-carried : (code : List ℕ) (j after : Journal) (written : List ℕ)
      → (a ≡ accepted → (with_record j plan.place plan.kept plan.count ≡ after) × (rewritten code plan.bundle (whole plan.halves) ≡ written))
      → carried_out code j Decided ≡ outcome a (record { answer = accepted; journal = after; code = written }) (record { answer = a; journal = j; code = code })
  decided-carried code j after written f = go (eqb a accepted) refl
    where
      done : Outcome
      done = record { answer = accepted; journal = after; code = written }

      go : (t : Bool) → eqb a accepted ≡ t → carried_out code j (cond t (Ok plan) (Err a)) ≡ cond t done (record { answer = a; journal = j; code = code })
      go true q = let p = f (eqb-true a accepted q) in λ i. record { answer = accepted; journal = p.0 i; code = p.1 i }
      go false q = refl

-- what comes before the question after a new edit's form, and what comes after it
abbrev before : List ℕ → Edit → List Reason
before code e = find_refusals code e.bundle ++ row_refusals (units_in (number_at code e.bundle)) (row_of e.form)

abbrev pub behind : List Reason → List ℕ → Edit → List Reason
behind late code e = slot_refusals (units_in (number_at code e.bundle)) e.slot e.form ++ late ++ value_refusals (row_of e.form) e.value

-- an edit that the code takes: its bundle is there, takes it, and stays a number below 2 ^ 128
module _ (code : List ℕ) (e : Edit) (taken : first (code_refusals code e) ≡ accepted) where
  taken-parts : (find_answer code e.bundle ≡ accepted) × (first (change_refusals (number_at code e.bundle) e) ≡ accepted)
  unfolding find_answer
  taken-parts =
      parts-accept (find_refusals code e.bundle) (change_refusals (number_at code e.bundle) e) tt (first-without (before code e) (retired_refusal e) (behind [] code e) tt taken)

  pub taken-found : find_answer code e.bundle ≡ accepted
  taken-found = taken-parts.0

  pub taken-changes : first (change_refusals (number_at code e.bundle) e) ≡ accepted
  taken-changes = taken-parts.1

  pub taken-lt : Bytes code → changed_number (number_at code e.bundle) e < 2 ^ 128
  taken-lt b = changed-lt (number_at code e.bundle) e taken-changes (number-at-lt code e.bundle taken-found b)

-- a checked edit that the code takes is an edit that it takes
pub checked-taken : (code : List ℕ) (e : Edit) → first (checked_refusals code e) ≡ accepted → first (code_refusals code e) ≡ accepted
checked-taken code e =
    first-without (before code e ++ (retired_refusal e ∷ slot_refusals (units_in (number_at code e.bundle)) e.slot e.form)) (form_refusal code e) (value_refusals (row_of e.form) e.value) tt

-- an edit is refused as one that isn't asked after its form, once that is done
pub new : (late : List Reason) (code : List ℕ) (e : Edit) (qs : List Reason) → first (new_refusals code e) ≡ accepted
    → first (refusals_with (retired_refusal e ∷ []) late code e ++ qs) ≡ first (refusals_with [] late code e ++ qs)
new late code e qs a = first-passed (before code e) (retired_refusal e) (behind late code e ++ qs) tt tt a

-- and as one whose word isn't looked at
pub looked : (code : List ℕ) (e : Edit) (qs : List Reason) → first (look_refusals code e) ≡ accepted → first (word_refusals code e ++ qs) ≡ first (field_refusals code e ++ qs)
looked code e qs a = first-passed (reading_refusals code e) (form_refusal code e) (value_refusals (row_of e.form) e.value ++ qs) tt tt a

-- an edit, by what the journal shows, that is refused where the code refuses it, and maybe elsewhere
module _ (party places : ℕ) (code : List ℕ) (e : Edit) (refusals : List Reason) (n : T (numbered refusals)) (takes : first refusals ≡ accepted → first (code_refusals code e) ≡ accepted) where
  -- where it is accepted
  module _ (view : Shown) (a : edit_answer places view refusals ≡ accepted) where
    in_code : first (code_refusals code e) ≡ accepted
    in_code = takes (parts-accept refusals (room_refusals places view 1) n a).0

    room : NoneApplies (room_refusals places view 1)
    room = none-applies (room_refusals places view 1) tt (parts-accept refusals (room_refusals places view 1) n a).1

  edit-taken : (view : Shown) (plan : Plan) → edit_plan_of party code view e (edit_answer places view refusals) ≡ Ok plan → (view.valid ≡ true) × (find_answer code plan.bundle ≡ accepted)
  unfolding edit_plan_of
  edit-taken view plan q =
      let d = decided _ (edit_answer places view refusals) plan q in
      (not-false _ (room view d.0).0, ap (λ (p : Plan). find_answer code p.bundle) (sym d.1) ∙ taken-found code e (in_code view d.0))

  edit-carried : Bytes code → (j : Journal) → let view = view_of party places j in
      carried_out code j (edit_plan_of party code view e (edit_answer places view refusals)) ≡ make_of party places code j refusals (field e ∷ [])
  unfolding edit_plan_of make_of
  edit-carried b j =
      let view = view_of party places j in
      decided-carried _ (edit_answer places view refusals) code j _ _
      (λ a. (
        view-pushes party places j (not-false _ (room view a).0) (change_record party code (field e)) (omega (arith, ltb-false places (view.count + 1) (room view a).1.0)),
        ap (rewritten code e.bundle) (whole-halves _ (taken-lt code e (in_code view a) b)),
      ))

-- an act that is accepted goes by a valid journal, and its bundle is in the code
pub act-taken : (party : ℕ) (code : List ℕ) (own : OwnView) (act : Act) (plan : Plan) → plan_of party code own act ≡ Ok plan
    → (own.view.valid ≡ true) × (find_answer code plan.bundle ≡ accepted)
unfolding undo_plan_of
act-taken party code own (EditAct e) plan q = edit-taken party own.places code e (code_refusals code e) tt (λ a. a) own.view plan q
act-taken party code own (Checked e) plan q = edit-taken party own.places code e (checked_refusals code e) tt (checked-taken code e) own.view plan q
act-taken party code own Undo plan q =
    let d = decided _ (first (undo_refusals code own.view)) plan q in
    let n = none-applies (undo_refusals code own.view) tt d.0 in (
      not-false _ n.1.0,
      ap (λ (p : Plan). find_answer code p.bundle) (sym d.1) ∙ found-when code own.view.last.bundle (record { short = ltb-false _ _ n.0; within = ltb-false _ _ n.1.1.1.0 }),
    )

-- carried out it is the act, by what the party's journal shows
undo-carried : (party places : ℕ) (code : List ℕ) (j : Journal) → carried_out code j (undo_plan_of code (view_of party places j)) ≡ undo_of party places code j
unfolding undo_plan_of undo_of
undo-carried party places code j =
    let view = view_of party places j in
    decided-carried _ (first (undo_refusals code view)) code j _ _ (λ e. (view-pops party places j (not-false _ (none-applies (undo_refusals code view) tt e).1.0), refl))

pub act-carried : (party : ℕ) (code : List ℕ) → Bytes code → (s : Shared) (act : Act)
    → by_party s party (carried_out code (served_of s party) (plan_of party code (own_view s party) act)) ≡ act_by code s party act
act-carried party code b s (EditAct e) = ap (by_party s party) (edit-carried party (places_of s.parties party) code e (code_refusals code e) tt (λ a. a) b (served_of s party))
act-carried party code b s (Checked e) = ap (by_party s party) (edit-carried party (places_of s.parties party) code e (checked_refusals code e) tt (checked-taken code e) b (served_of s party))
act-carried party code b s Undo = ap (by_party s party) (undo-carried party (places_of s.parties party) code (served_of s party))
