-- Fold's laws of the bundles touched and of the old bundles written back, for any records: of those of a bundle the last one written decides,
-- which is the oldest. Assumes nothing.
use mathlib.Core.Path.{◌≡◌, refl, sym, ap, ◌∙◌, subst}
use mathlib.Core.Bool.{Bool, true, ◌||◌}
use mathlib.Core.List.{List, [], ◌∷◌, ◌++◌, append-nil, map}
use Prim.Native.Nat.{ℕ, ◌+◌, ◌*◌, ◌≤◌}
use native.Mathlib.Decide.{ℕ_discrete}
use borrow.Author.Tests.{ne_eqb}
use lib.Dec.{T}
use lib.ListN.{length}
use Rattle.bundle.specs.Bundle.{longest_code, whole}
use Rattle.bundle.proofs.Lies.{Lies}
use Rattle.record.specs.declared.Record.{Record}
use Rattle.journal.specs.Change.{rewritten}
use Rattle.journal.proofs.Rewritten.{rewritten-length, rewritten-twice}
use Rattle.fold.specs.Fold.{has, bundles_in, as_whole, renewed, folded_in, folded_on}
use Rattle.fold.proofs.Laws.{renewed-bundle, renewed-old, bundles-in, by-more}
use Rattle.demands.specs.Folds.{touched_on, written_back, AllLie}
use Rattle.demands.proofs.Two.{rewritten-comm}

-- the bundles, in order of first touch
pub touches : (qs rs : List Record) → bundles_in (folded_on qs rs) ≡ touched_on (bundles_in qs) rs
touches qs [] = refl
touches qs (r ∷ rs) = touches (folded_in qs r) rs ∙ ap (λ (ks : List ℕ). touched_on ks rs) (bundles-in qs r)

-- in a code of so many bytes all that are folded lie where all lay
module _ (size : ℕ) where
  lie-renewed : (r : Record) (qs : List Record) → AllLie size qs → AllLie size (map (renewed r) qs)
  lie-renewed r [] l = tt
  lie-renewed r (q ∷ qs) l = (subst (λ (k : ℕ). 16 * k + 16 ≤ size) (sym (renewed-bundle r q)) l.0, lie-renewed r qs l.1)

  lie-last : (r : Record) → 16 * r.bundle + 16 ≤ size → (qs : List Record) → AllLie size qs → AllLie size (qs ++ (r ∷ []))
  lie-last r h [] l = (h, tt)
  lie-last r h (q ∷ qs) l = (l.0, lie-last r h qs l.1)

  lie-in : (r : Record) → 16 * r.bundle + 16 ≤ size → (qs : List Record) → AllLie size qs → AllLie size (folded_in qs r)
  lie-in r h qs l = by-more (AllLie size) qs r (λ _. lie-renewed r qs l, λ _. lie-last (as_whole r) h qs l)

  pub lie-folded : (qs rs : List Record) → AllLie size qs → AllLie size rs → AllLie size (folded_on qs rs)
  lie-folded qs [] l k = l
  lie-folded qs (r ∷ rs) l k = lie-folded (folded_in qs r) rs (lie-in r k.0 qs l) k.1

pub back-append : (code : List ℕ) (ps qs : List Record) → written_back code (ps ++ qs) ≡ written_back (written_back code qs) ps
back-append code [] qs = refl
back-append code (p ∷ ps) qs = ap (λ (c : List ℕ). rewritten c p.bundle (whole p.old)) (back-append code ps qs)

back-renewed : (code : List ℕ) (r : Record) (qs : List Record) → written_back code (map (renewed r) qs) ≡ written_back code qs
back-renewed code r [] = refl
back-renewed code r (q ∷ qs) = λ i. rewritten (back-renewed code r qs i) (renewed-bundle r q i) (whole (renewed-old r q i))

-- old bundles written back to a code in which all lie
module _ (size : ℕ) (short : size ≤ longest_code) where
  -- a code of so many bytes, in which a bundle lies
  lies_so : (code : List ℕ) (k : ℕ) → length code ≡ size → 16 * k + 16 ≤ size → Lies code k
  lies_so code k e h = record { short = subst (λ (n : ℕ). n ≤ longest_code) (sym e) short; within = subst (λ (n : ℕ). 16 * k + 16 ≤ n) (sym e) h }

  back-length : (code : List ℕ) → length code ≡ size → (rs : List Record) → AllLie size rs → length (written_back code rs) ≡ size
  back-length code e [] l = e
  back-length code e (r ∷ rs) l =
      let d = back-length code e rs l.1 in rewritten-length (written_back code rs) r.bundle (lies_so _ r.bundle d l.0) (whole r.old) ∙ d

  module _ (code : List ℕ) (e : length code ≡ size) (k n : ℕ) (h : 16 * k + 16 ≤ size) where
    -- what was written to bundle k before is gone when it is written again
    written-again : (m : ℕ) (rs : List Record) → AllLie size rs → rewritten (written_back (rewritten code k n) rs) k m ≡ rewritten (written_back code rs) k m
    written-again m [] l = rewritten-twice code k (lies_so code k e h) n m
    written-again m (r ∷ rs) l = go (written-again m rs l.1) (ℕ_discrete r.bundle k)
      where
        a : List ℕ
        a = written_back (rewritten code k n) rs

        b : List ℕ
        b = written_back code rs

        long-a : length a ≡ size
        long-a = back-length (rewritten code k n) (rewritten-length code k (lies_so code k e h) n ∙ e) rs l.1

        long-b : length b ≡ size
        long-b = back-length code e rs l.1

        old : ℕ
        old = whole r.old

        same : (c : List ℕ) → length c ≡ size → r.bundle ≡ k → rewritten (rewritten c r.bundle old) k m ≡ rewritten c k m
        same c long q = ap (λ (j : ℕ). rewritten (rewritten c j old) k m) q ∙ rewritten-twice c k (lies_so c k long h) old m

        other : (c : List ℕ) → length c ≡ size → (r.bundle ≡ k → ⊥) → rewritten (rewritten c r.bundle old) k m ≡ rewritten (rewritten c k m) r.bundle old
        other c long d = rewritten-comm c r.bundle k (lies_so c r.bundle long l.0) (lies_so c k long h) d old m

        go : rewritten a k m ≡ rewritten b k m → Dec (r.bundle ≡ k) → rewritten (rewritten a r.bundle old) k m ≡ rewritten (rewritten b r.bundle old) k m
        go ih (yes q) = same a long-a q ∙ ih ∙ sym (same b long-b q)
        go ih (no d) = other a long-a d ∙ ap (λ (c : List ℕ). rewritten c r.bundle old) ih ∙ sym (other b long-b d)

    -- so it doesn't matter where one of the records is of that bundle
    written-under : (rs : List Record) → AllLie size rs → has k (bundles_in rs) ≡ true → written_back (rewritten code k n) rs ≡ written_back code rs
    written-under [] l t = absurd (subst T (sym t) tt)
    written-under (r ∷ rs) l t = go (written-under rs l.1) (ℕ_discrete r.bundle k)
      where
        old : ℕ
        old = whole r.old

        go : (has k (bundles_in rs) ≡ true → written_back (rewritten code k n) rs ≡ written_back code rs) → Dec (r.bundle ≡ k) → written_back (rewritten code k n) (r ∷ rs) ≡ written_back code (r ∷ rs)
        go ih (yes q) =
            ap (λ (j : ℕ). rewritten (written_back (rewritten code k n) rs) j old) q ∙ written-again old rs l.1 ∙ ap (λ (j : ℕ). rewritten (written_back code rs) j old) (sym q)
        go ih (no d) = ap (λ (c : List ℕ). rewritten c r.bundle old) (ih (ap (λ (b : Bool). b || has k (bundles_in rs)) (sym (ne_eqb r.bundle k d)) ∙ t))

  back_in : (code : List ℕ) → length code ≡ size → (qs : List Record) → AllLie size qs → (r : Record) → 16 * r.bundle + 16 ≤ size
      → written_back code (folded_in qs r) ≡ written_back (rewritten code r.bundle (whole r.old)) qs
  back_in code e qs l r h =
      by-more (λ rs. written_back code rs ≡ written_back (rewritten code r.bundle (whole r.old)) qs) qs r
      (λ t. back-renewed code r qs ∙ sym (written-under code e r.bundle (whole r.old) h qs l t), λ _. back-append code qs (as_whole r ∷ []))

  pub backs : (code : List ℕ) → length code ≡ size → (qs rs : List Record) → AllLie size qs → AllLie size rs → written_back code (folded_on qs rs) ≡ written_back code (qs ++ rs)
  backs code e qs [] l k = ap (written_back code) (sym (append-nil qs))
  backs code e qs (r ∷ rs) l k =
      backs code e (folded_in qs r) rs (lie-in size r k.0 qs l) k.1
      ∙ back-append code (folded_in qs r) rs
      ∙ back_in (written_back code rs) (back-length code e rs k.1) qs l r k.0
      ∙ sym (back-append code qs (r ∷ rs))
