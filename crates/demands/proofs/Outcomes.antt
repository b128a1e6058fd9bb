-- Two outcomes that a contract allows for one input are equal, as what a call hands back: the contract makes their views equal, and a view tells
-- the answer and, where that accepts, what was handed back; of a cut it tells the tag too, and no bundle that is missing is refused by 2.
-- Assumes nothing.
use mathlib.Core.Path.{◌≡◌, refl, sym, ap, subst, ◌∙◌}
use mathlib.Core.Bool.{Bool, true, false, false≢true, cond, not}
use mathlib.Core.List.{List}
use Prim.Native.Nat.{ℕ, ◌+◌, ◌*◌}
use lib.Dec.{T, eqb, ltb, eqb→eq}
use lib.ListN.{length}
use mir.Facts.{eqb_no}
use Rattle.std.specs.Prelude.{⊤}
use Rattle.std.specs.declared.result.Result.{Result}
use Rattle.std.specs.declared.result.Result.TheVariants.{Ok, Err}
use Rattle.answer.specs.Answer.{accepted, bad_bundle, too_long, exhausted_input, number_of, answer_of}
use Rattle.answer.specs.declared.Refusal.{Refusal}
use Rattle.answer.proofs.Laws.{no-acceptance}
use Rattle.answer.proofs.Numbers.{same-refusal}
use Rattle.bundle.specs.Bundle.{longest_code, find_answer, Loaded, as_loaded, loaded_of, tag_of, number_at, uncut, Cut, as_cut, cut_number, cut_of, Joined, join_of}
use Rattle.bundle.specs.Template.{reserved, units_of}
use Rattle.bundle.specs.declared.Bundle.{Bundle}
use Rattle.bundle.specs.declared.Uncut.{Uncut}
use Rattle.bundle.specs.declared.Uncut.TheVariants.{Missing, Reserved}
use Rattle.bundle.specs.declared.half.Halves.{Halves}
use Rattle.bundle.proofs.Laws.{cut-not-found, cut-found, cut-reserved, cut-done}
use Rattle.choice.specs.Choice.{Choice, as_choice, choice_of}
use Rattle.choice.specs.declared.Chosen.{Chosen}
use Rattle.form.specs.declared.Edit.{Edit}
use Rattle.form.specs.declared.Form.{Form}
use Rattle.operand.specs.declared.Operand.{Operand}
use Rattle.operand.specs.declared.Reading.{Reading}
use Rattle.readers.specs.Call.{Operands, as_operands, operands_of}
use Rattle.tally.specs.Report.{Added, added_of}
use Rattle.immediate.specs.Immediate.{Immediate, as_immediate, immediate_of, Changed, as_changed, changed_of, Target, as_target, target_of}
use Rattle.displacement.specs.Displacement.{Displacement, as_displacement, displacement_of}
use Rattle.meet.specs.Meet.{Met, as_met, meet_of}
use Rattle.by_sheet.specs.Taking.{TakenOut, as_taken, taken_out_of}
use Rattle.by_sheet.specs.declared.taking.Misfit.{Misfit}
use Rattle.by_sheet.specs.declared.taking.Untaken.{Untaken}
use Rattle.by_sheet.specs.declared.taking.Untaken.TheVariants.{Refused, Unfit}

-- a view that has the answer, and where it accepts the value, is of one Result alone
told : {A B : Type 0} (view : Result A Refusal → B) (answer : B → ℕ) (value : B → A)
    → ((a : A) → answer (view (Ok a)) ≡ accepted) → ((refusal : Refusal) → answer (view (Err refusal)) ≡ number_of refusal)
    → ((a : A) → value (view (Ok a)) ≡ a)
    → (r s : Result A Refusal) → view r ≡ view s → r ≡ s
told view answer value taken not-taken back (Ok a) (Ok b) e = ap Ok (sym (back a) ∙ ap value e ∙ back b)
told view answer value taken not-taken back (Ok a) (Err x) e = absurd (no-acceptance x (sym (not-taken x) ∙ sym (ap answer e) ∙ taken a))
told view answer value taken not-taken back (Err x) (Ok b) e = absurd (no-acceptance x (sym (not-taken x) ∙ ap answer e ∙ taken b))
told view answer value taken not-taken back (Err x) (Err y) e = ap Err (same-refusal x y (sym (not-taken x) ∙ ap answer e ∙ not-taken y))

pub load-handed : (code : List ℕ) (k : ℕ) (r s : Result Halves Refusal) → as_loaded r ≡ loaded_of code k → as_loaded s ≡ loaded_of code k → r ≡ s
load-handed code k r s e f = told as_loaded (λ (l : Loaded). l.answer) (λ (l : Loaded). l.halves) (λ _. refl) (λ _. refl) (λ _. refl) r s (e ∙ sym f)

pub choose-handed : (unit word : ℕ) (r s : Result Chosen Refusal) → as_choice r ≡ choice_of unit word → as_choice s ≡ choice_of unit word → r ≡ s
choose-handed unit word r s e f =
    told as_choice (λ (c : Choice). c.answer) (λ (c : Choice). record { opcode = c.opcode; form = c.form }) (λ _. refl) (λ _. refl) (λ _. refl) r s (e ∙ sym f)

pub immediate-handed : (code : List ℕ) (k slot : ℕ) (form : Form) (r s : Result Operand Refusal)
    → as_immediate r ≡ immediate_of code k slot form → as_immediate s ≡ immediate_of code k slot form → r ≡ s
immediate-handed code k slot form r s e f = told as_immediate (λ (i : Immediate). i.answer) (λ (i : Immediate). i.value) (λ _. refl) (λ _. refl) (λ _. refl) r s (e ∙ sym f)

pub change-handed : (n : ℕ) (edit : Edit) (r s : Result Halves Refusal) → as_changed r ≡ changed_of n edit → as_changed s ≡ changed_of n edit → r ≡ s
change-handed n edit r s e f = told as_changed (λ (c : Changed). c.answer) (λ (c : Changed). c.bundle) (λ _. refl) (λ _. refl) (λ _. refl) r s (e ∙ sym f)

pub target-handed : (code : List ℕ) (k slot : ℕ) (form : Form) (address : ℕ) (r s : Result ℕ Refusal)
    → as_target r ≡ target_of code k slot form address → as_target s ≡ target_of code k slot form address → r ≡ s
target-handed code k slot form address r s e f = told as_target (λ (t : Target). t.answer) (λ (t : Target). t.address) (λ _. refl) (λ _. refl) (λ _. refl) r s (e ∙ sym f)

pub displacement-handed : (form : Form) (address wanted : ℕ) (r s : Result Operand Refusal)
    → as_displacement r ≡ displacement_of form address wanted → as_displacement s ≡ displacement_of form address wanted → r ≡ s
displacement-handed form address wanted r s e f =
    told as_displacement (λ (d : Displacement). d.answer) (λ (d : Displacement). d.value) (λ _. refl) (λ _. refl) (λ _. refl) r s (e ∙ sym f)

pub meet-handed : (one other : Edit) (r s : Result Bool Refusal) → as_met r ≡ meet_of one other → as_met s ≡ meet_of one other → r ≡ s
meet-handed one other r s e f = told as_met (λ (m : Met). m.answer) (λ (m : Met). m.meet) (λ _. refl) (λ _. refl) (λ _. refl) r s (e ∙ sym f)

-- of a call that hands back nothing but whether it was taken
pub answer-handed : (r s : Result ⊤ Refusal) → answer_of r ≡ answer_of s → r ≡ s
answer-handed r s e = told answer_of (λ n. n) (λ _. tt) (λ _. refl) (λ _. refl) (λ _. refl) r s e

pub join-handed : (tag : ℕ) (slots out : List ℕ) (r s : Result ⊤ Refusal) (left other : List ℕ)
    → record { answer = answer_of r; out = left } ≡ join_of tag slots out → record { answer = answer_of s; out = other } ≡ join_of tag slots out
    → (r ≡ s) × (left ≡ other)
join-handed tag slots out r s left other e f =
    let same = e ∙ sym f in
    (answer-handed r s (ap (λ (j : Joined). j.answer) same), ap (λ (j : Joined). j.out) same)

pub add-handed : (report image : List ℕ) (r s : Result ⊤ Refusal) (left other : List ℕ)
    → record { answer = answer_of r; report = left } ≡ added_of report image → record { answer = answer_of s; report = other } ≡ added_of report image
    → (r ≡ s) × (left ≡ other)
add-handed report image r s left other e f =
    let same = e ∙ sym f in
    (answer-handed r s (ap (λ (a : Added). a.answer) same), ap (λ (a : Added). a.report) same)

pub operands-handed : (form : Form) (word l : ℕ) (r s : Result Reading Refusal) → as_operands r ≡ operands_of form word l → as_operands s ≡ operands_of form word l → r ≡ s
operands-handed form word l r s e f = told as_operands (λ (o : Operands). o.answer) (λ (o : Operands). o.reading) (λ _. refl) (λ _. refl) (λ _. refl) r s (e ∙ sym f)

-- a cut that is refused by 2 has the tag of a bundle that was found: it is no missing one
module _ (code : List ℕ) (k : ℕ) where
  finding : (find_answer code k ≡ bad_bundle → ⊥)
  unfolding find_answer
  finding e = go (ltb longest_code (length code)) (ltb (length code) (16 * k + 16)) e
    where
      go : (a b : Bool) → cond a too_long (cond b exhausted_input accepted) ≡ bad_bundle → ⊥
      go true b e = eqb_no tt e
      go false true e = eqb_no tt e
      go false false e = eqb_no tt e

  known-cut : (b : Bool) → reserved (tag_of (number_at code k)) ≡ b → uncut bad_bundle ≡ cut_number (number_at code k) → ⊥
  unfolding units_of
  known-cut true r e =
      let tag = ap (λ (c : Cut). c.template.tag) (e ∙ cut-reserved (number_at code k) r) in
      subst T (sym (ap reserved tag ∙ r)) tt
  known-cut false r e = eqb_no tt (ap (λ (c : Cut). c.answer) (e ∙ cut-done (number_at code k) r))

  missing : (b : Bool) → eqb (find_answer code k) accepted ≡ b → uncut bad_bundle ≡ cut_of code k → ⊥
  missing true q e = known-cut (reserved (tag_of (number_at code k))) refl (e ∙ cut-found code k (eqb→eq _ _ (subst T (sym q) tt)))
  missing false q e = finding (sym (ap (λ (c : Cut). c.answer) (e ∙ cut-not-found code k (λ a. eqb_no (subst (λ (b : Bool). T (not b)) (sym q) tt) a))))

  not-missing : (refusal : Refusal) → as_cut (Err (Missing refusal)) ≡ cut_of code k → number_of refusal ≡ bad_bundle → ⊥
  not-missing refusal e two = missing (eqb (find_answer code k) accepted) refl (ap uncut (sym two) ∙ e)

  pub cut-handed : (r s : Result Bundle Uncut) → as_cut r ≡ cut_of code k → as_cut s ≡ cut_of code k → r ≡ s
  cut-handed (Ok a) (Ok b) e f = ap (λ (c : Cut). Ok (record { template = c.template; slots = c.slots })) (e ∙ sym f)
  cut-handed (Ok a) (Err (Missing x)) e f = absurd (no-acceptance x (sym (ap (λ (c : Cut). c.answer) (e ∙ sym f))))
  cut-handed (Ok a) (Err (Reserved t)) e f = absurd (eqb_no tt (sym (ap (λ (c : Cut). c.answer) (e ∙ sym f))))
  cut-handed (Err (Missing x)) (Ok b) e f = absurd (no-acceptance x (ap (λ (c : Cut). c.answer) (e ∙ sym f)))
  cut-handed (Err (Missing x)) (Err (Missing y)) e f = ap (λ (z : Refusal). Err (Missing z)) (same-refusal x y (ap (λ (c : Cut). c.answer) (e ∙ sym f)))
  cut-handed (Err (Missing x)) (Err (Reserved t)) e f = absurd (not-missing x e (ap (λ (c : Cut). c.answer) (e ∙ sym f)))
  cut-handed (Err (Reserved t)) (Ok b) e f = absurd (eqb_no tt (ap (λ (c : Cut). c.answer) (e ∙ sym f)))
  cut-handed (Err (Reserved t)) (Err (Missing y)) e f = absurd (not-missing y f (sym (ap (λ (c : Cut). c.answer) (e ∙ sym f))))
  cut-handed (Err (Reserved t)) (Err (Reserved u)) e f = ap (λ (c : Cut). Err (Reserved c.template.tag)) (e ∙ sym f)

-- of records taken out it tells whether one is named, which is one that doesn't fit, and all of that one
one-taken : (r s : Result ⊤ Untaken) → as_taken r ≡ as_taken s → r ≡ s
one-taken (Ok a) (Ok b) e = refl
one-taken (Ok a) (Err (Refused x)) e = absurd (no-acceptance x (sym (ap (λ (t : TakenOut). t.answer) e)))
one-taken (Ok a) (Err (Unfit m)) e = absurd (false≢true (ap (λ (t : TakenOut). t.named) e))
one-taken (Err (Refused x)) (Ok b) e = absurd (no-acceptance x (ap (λ (t : TakenOut). t.answer) e))
one-taken (Err (Refused x)) (Err (Refused y)) e = ap (λ (z : Refusal). Err (Refused z)) (same-refusal x y (ap (λ (t : TakenOut). t.answer) e))
one-taken (Err (Refused x)) (Err (Unfit m)) e = absurd (false≢true (ap (λ (t : TakenOut). t.named) e))
one-taken (Err (Unfit m)) (Ok b) e = absurd (false≢true (sym (ap (λ (t : TakenOut). t.named) e)))
one-taken (Err (Unfit m)) (Err (Refused y)) e = absurd (false≢true (sym (ap (λ (t : TakenOut). t.named) e)))
one-taken (Err (Unfit m)) (Err (Unfit n)) e =
    let refusal = same-refusal m.refusal n.refusal (ap (λ (t : TakenOut). t.answer) e) in
    ap (λ (o : Misfit). Err (Unfit o)) (λ i. record { refusal = refusal i; bundle = (e i).bundle; wanted = (e i).wanted; found = (e i).found })

pub take-out-handed : (code sheet : List ℕ) (r s : Result ⊤ Untaken) (left other : List ℕ) → (as_taken r, left) ≡ taken_out_of code sheet → (as_taken s, other) ≡ taken_out_of code sheet
    → (r ≡ s) × (left ≡ other)
take-out-handed code sheet r s left other e f =
    let same = e ∙ sym f in
    (one-taken r s (ap (λ (t : TakenOut × List ℕ). t.0) same), ap (λ (t : TakenOut × List ℕ). t.1) same)
