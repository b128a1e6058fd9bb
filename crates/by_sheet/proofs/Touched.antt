-- Marks set one after the other: what was set stays set, and no other mark changes; and none is set for a sheet that tells nothing.
-- Assumes nothing.
use mathlib.Core.Path.{◌≡◌, refl, sym, ap, ◌∙◌, subst}
use mathlib.Core.Bool.{Bool, true, false, cond, ◌||◌}
use mathlib.Core.List.{List, [], ◌∷◌, ◌++◌}
use Prim.Native.Nat.{ℕ, ◌<◌}
use native.Mathlib.Decide.{ℕ_discrete}
use borrow.Author.Tests.{eq-eqb, ne_eqb}
use lib.ListN.{length, get_or, set, length-set}
use lib.Seq.{get_or-set_same, get_or-set_other}
use Rattle.answer.specs.Answer.{accepted}
use Rattle.answer.proofs.Laws.{refuses}
use Rattle.record.specs.declared.Record.{Record}
use Rattle.fold.specs.Fold.{has, bundles_in}
use Rattle.by_sheet.specs.Mark.{marked_by, marked_of, MarksTouched}
use Rattle.by_sheet.specs.Perform.{told_by}

pub marked_more : (marks : List ℕ) (rs : List Record) (r : Record) → marked_by marks (rs ++ (r ∷ [])) ≡ set (marked_by marks rs) r.bundle 1
marked_more marks [] r = refl
marked_more marks (q ∷ rs) r = marked_more (set marks q.bundle 1) rs r

pub marked-length : (marks : List ℕ) (rs : List Record) → length (marked_by marks rs) ≡ length marks
marked-length marks [] = refl
marked-length marks (r ∷ rs) = marked-length (set marks r.bundle 1) rs ∙ simp length-set

-- a mark that was 1 is 1, whether it is set again or not
either : (t : Bool) → cond {A = ℕ} t 1 1 ≡ 1
either true = refl
either false = refl

pub marks-touched : MarksTouched
marks-touched [] marks k h = refl
marks-touched (r ∷ rs) marks k h =
    let on = marks-touched rs (set marks r.bundle 1) k (subst (λ (n : ℕ). k < n) (sym (length-set marks r.bundle 1)) h) in
    elim (ℕ_discrete r.bundle k) [
      | yes e ↦
          on
          ∙ ap (λ (n : ℕ). cond (has k (bundles_in rs)) 1 n) (ap (λ (j : ℕ). get_or (set marks j 1) k 0) e ∙ get_or-set_same marks k 1 0 h)
          ∙ either (has k (bundles_in rs))
          ∙ sym (ap (λ (t : Bool). cond (t || has k (bundles_in rs)) 1 (get_or marks k 0)) (eq-eqb r.bundle k e))
      | no d ↦
          on
          ∙ ap (λ (n : ℕ). cond (has k (bundles_in rs)) 1 n) (get_or-set_other marks r.bundle k 1 0 (λ e. d (sym e)))
          ∙ sym (ap (λ (t : Bool). cond (t || has k (bundles_in rs)) 1 (get_or marks k 0)) (ne_eqb r.bundle k d))
    ]

-- a sheet that tells nothing
pub mark-untold : (sheet marks : List ℕ) {a : ℕ} → a ≡ (told_by sheet).answer → (a ≡ accepted → ⊥) → (record { answer = a; count = 0 }, marks) ≡ marked_of sheet marks
unfolding marked_of
mark-untold sheet marks e d = ap (λ (n : ℕ). (record { answer = n; count = 0 }, marks)) e ∙ sym (refuses (told_by sheet).answer _ _ (λ t. d (e ∙ t)))
