-- A refusal is told by its number. Assumes nothing.
use mathlib.Core.Path.{◌≡◌, refl, sym, ap, ◌∙◌}
use mathlib.Core.List.{[], ◌∷◌}
use Prim.Native.Nat.{ℕ, ◌-◌}
use lib.ListN.{get_or}
use Rattle.answer.specs.Answer.{number_of}
use Rattle.answer.specs.declared.Refusal.{Refusal}
use Rattle.answer.specs.declared.Refusal.TheVariants.{ExhaustedInput, BadBundle, BadForm, BadWord, BadSlot, BadValue, Full, Empty, Stale, TooLong, BadJournal, NoRoom, BadSheet, BadOpcode, Retired, BadScript}

refusal_of : ℕ → Refusal
refusal_of n =
    get_or
    (ExhaustedInput ∷ BadBundle ∷ BadForm ∷ BadWord ∷ BadSlot ∷ BadValue ∷ Full ∷ Empty ∷ Stale ∷ TooLong ∷ BadJournal ∷ NoRoom ∷ BadSheet ∷ BadOpcode ∷ Retired ∷ [])
    (n - 1) BadScript

back : (refusal : Refusal) → refusal_of (number_of refusal) ≡ refusal
unfolding refusal_of
back ExhaustedInput = refl
back BadBundle = refl
back BadForm = refl
back BadWord = refl
back BadSlot = refl
back BadValue = refl
back Full = refl
back Empty = refl
back Stale = refl
back TooLong = refl
back BadJournal = refl
back NoRoom = refl
back BadSheet = refl
back BadOpcode = refl
back Retired = refl
back BadScript = refl

pub same-refusal : (refusal other : Refusal) → number_of refusal ≡ number_of other → refusal ≡ other
same-refusal refusal other e = sym (back refusal) ∙ ap refusal_of e ∙ back other
