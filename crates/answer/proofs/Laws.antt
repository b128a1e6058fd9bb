-- The laws of `first` and `outcome`: a list of refusals goes on where none before applies, and ends at the first that does.
-- Each goes through the list, by cases on the test. Assumes nothing.
use mathlib.Core.Path.{◌≡◌, refl, sym, ap, ◌∙◌}
use mathlib.Core.Bool.{Bool, true, false, ◌&&◌, not, cond}
use mathlib.Core.List.{List, [], ◌∷◌, ◌++◌}
use Prim.Native.Nat.{ℕ}
use lib.Dec.{T, eqb}
use borrow.Author.Tests.{eq-eqb, ne_eqb, eqb-true}
use mir.Facts.{and_yes, eqb_no}
use Rattle.answer.specs.Answer.{Reason, first, outcome, accepted, number_of}
use Rattle.answer.specs.declared.Refusal.{Refusal}
use Rattle.answer.specs.declared.Refusal.TheVariants.{ExhaustedInput, BadBundle, BadForm, BadWord, BadSlot, BadValue, Full, Empty, Stale, TooLong, BadJournal, NoRoom, BadSheet, BadOpcode, Retired, BadScript}

-- every number of the list is a refusal's
abbrev pub numbered : List Reason → Bool
numbered [] = true
numbered (r ∷ rs) = not (eqb r.0 accepted) && numbered rs

-- none of the list applies
abbrev pub NoneApplies : List Reason → Type 0
NoneApplies [] = Unit {0}
NoneApplies (r ∷ rs) = (r.1 ≡ false) × NoneApplies rs

passed : (b : Bool) (n m : ℕ) → T (not (eqb n accepted)) → cond b n m ≡ accepted → (b ≡ false) × (m ≡ accepted)
passed true n m h e = absurd (eqb_no h e)
passed false n m h e = (refl, e)

stopped : (b : Bool) (n m k : ℕ) → ((m ≡ accepted → ⊥) → k ≡ m) → (cond b n m ≡ accepted → ⊥) → cond b n k ≡ cond b n m
stopped true n m k f d = refl
stopped false n m k f d = f d

pub none-applies : (rs : List Reason) → T (numbered rs) → first rs ≡ accepted → NoneApplies rs
none-applies [] n e = tt
none-applies (r ∷ rs) n e =
    let h = and_yes (not (eqb r.0 accepted)) (numbered rs) n in
    let p = passed r.1 r.0 (first rs) h.0 e in
    (p.0, none-applies rs h.1 p.1)

pub first_on : (rs qs : List Reason) → T (numbered rs) → first rs ≡ accepted → first (rs ++ qs) ≡ first qs
first_on [] qs n e = refl
first_on (r ∷ rs) qs n e =
    let h = and_yes (not (eqb r.0 accepted)) (numbered rs) n in
    let p = passed r.1 r.0 (first rs) h.0 e in
    ap (λ (b : Bool). cond b r.0 (first (rs ++ qs))) p.0 ∙ first_on rs qs h.1 p.1

pub first-stop : (rs qs : List Reason) → (first rs ≡ accepted → ⊥) → first (rs ++ qs) ≡ first rs
first-stop [] qs d = absurd (d refl)
first-stop (r ∷ rs) qs d = stopped r.1 r.0 (first rs) (first (rs ++ qs)) (first-stop rs qs) d

goes_on_lem : (b : Bool) (n m k : ℕ) → (m ≡ accepted → k ≡ accepted) → cond b n m ≡ accepted → cond b n k ≡ accepted
goes_on_lem true n m k f e = e
goes_on_lem false n m k f e = f e

-- a list with one more refusal inside accepts only where the list does
pub first-without : (rs : List Reason) (r : Reason) (qs : List Reason) → T (not (eqb r.0 accepted)) → first (rs ++ (r ∷ qs)) ≡ accepted → first (rs ++ qs) ≡ accepted
first-without [] r qs n e = (passed r.1 r.0 (first qs) n e).1
first-without (s ∷ rs) r qs n e = goes_on_lem s.1 s.0 (first (rs ++ (r ∷ qs))) (first (rs ++ qs)) (first-without rs r qs n) e

pub accepts {ℓ} : {A : Type ℓ} (a : ℕ) (done refused : A) → a ≡ accepted → outcome a done refused ≡ done
accepts a done refused e = ap (λ (b : Bool). cond b done refused) (eq-eqb a accepted e)

pub refuses {ℓ} : {A : Type ℓ} (a : ℕ) (done refused : A) → (a ≡ accepted → ⊥) → outcome a done refused ≡ refused
refuses a done refused d = ap (λ (b : Bool). cond b done refused) (ne_eqb a accepted d)

-- an outcome that carries its answer carries that answer
pub answered {ℓ} : {A : Type ℓ} (answer : A → ℕ) (a : ℕ) (done refused : A) → answer done ≡ accepted → answer refused ≡ a → answer (outcome a done refused) ≡ a
answered answer a done refused d r = go (eqb a accepted) refl
  where
    go : (b : Bool) → eqb a accepted ≡ b → answer (cond b done refused) ≡ a
    go true q = d ∙ sym (eqb-true a accepted q)
    go false q = r

-- two outcomes that equal one definition are equal
pub one-outcome {ℓ} : {A : Type ℓ} {x r s : A} → r ≡ x → s ≡ x → r ≡ s
one-outcome p q = p ∙ sym q

numbers_a-refusal : (refusal : Refusal) → T (not (eqb (number_of refusal) accepted))
numbers_a-refusal ExhaustedInput = tt
numbers_a-refusal BadBundle = tt
numbers_a-refusal BadForm = tt
numbers_a-refusal BadWord = tt
numbers_a-refusal BadSlot = tt
numbers_a-refusal BadValue = tt
numbers_a-refusal Full = tt
numbers_a-refusal Empty = tt
numbers_a-refusal Stale = tt
numbers_a-refusal TooLong = tt
numbers_a-refusal BadJournal = tt
numbers_a-refusal NoRoom = tt
numbers_a-refusal BadSheet = tt
numbers_a-refusal BadOpcode = tt
numbers_a-refusal Retired = tt
numbers_a-refusal BadScript = tt

-- no refusal has the number of an acceptance
pub no-acceptance : (refusal : Refusal) → number_of refusal ≡ accepted → ⊥
no-acceptance refusal e = eqb_no (numbers_a-refusal refusal) e
