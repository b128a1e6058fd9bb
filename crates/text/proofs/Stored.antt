-- What reading fields answers, from what stands there: nothing, or the numbers in an array of eight, and zeros after them. Assumes nothing.
use mathlib.Core.Path.{◌≡◌, refl, sym, ap, ◌∙◌}
use mathlib.Core.List.{List, [], ◌∷◌, ◌++◌}
use mathlib.Core.Option.{none, some}
use mathlib.Core.Option as maybe
use Prim.Native.Nat.{ℕ, zero, suc, ◌+◌, ◌≤◌}
use native.Mathlib.Omega.{arith}
use lib.ListN.{length, get_or, drop, replicate}
use lib.Seq.{sets, get_or-drop}
use Rattle.text.specs.Fields.{fields_at, read_to, fields_of}
use Rattle.std.specs.Prelude.{Some, None}
use Rattle.text.proofs.Numbers.{no_number, some-parts}
use Rattle.text.proofs.RoundTrip.{FieldsStand, fields_read}
use Rattle.text.proofs.Writing.{written_start}

-- zeros after a list change nothing that is looked up in it
padded : (ns zs : List ℕ) → ((i : ℕ) → get_or zs i 0 ≡ 0) → (i : ℕ) → get_or (ns ++ zs) i 0 ≡ get_or ns i 0
padded [] zs z i = z i
padded (n ∷ ns) zs z zero = refl
padded (n ∷ ns) zs z (suc i) = padded ns zs z i

zeros : (n i : ℕ) → get_or {A = ℕ} (replicate n 0) i 0 ≡ 0
zeros zero i = refl
zeros (suc n) zero = refl
zeros (suc n) (suc i) = zeros n i

stored : (ns : List ℕ) → length ns ≤ 8 → (i : ℕ) → get_or (sets (replicate 8 0) 0 ns) i 0 ≡ get_or ns i 0
stored ns h i =
    ap (λ (l : List ℕ). get_or l i 0) (written_start (replicate 8 0) ns h)
    ∙ padded ns (drop (length ns) (replicate 8 0)) (λ k. get_or-drop (length ns) (replicate 8 0) k 0 ∙ zeros 8 (length ns + k)) i

-- the fields were read: their numbers stand there, and are those of the array
pub record AllRead (text : List ℕ) (at : ℕ) (ends of : List ℕ) (next : ℕ) : Type 0 where
  pub numbers : List ℕ
  pub found : fields_at text at ends ≡ some (numbers, next)
  pub stand : FieldsStand text at ends numbers next
  pub looked : (i : ℕ) → get_or of i 0 ≡ get_or numbers i 0

module _ (text : List ℕ) (at : ℕ) (ends : List ℕ) where
  pub none_read : None ≡ fields_of text at ends → fields_at text at ends ≡ none
  unfolding fields_of
  none_read e = go (fields_at text at ends) e
    where
      go : (o : maybe.Option (List ℕ × ℕ)) → None ≡ read_to (replicate 8 0) 0 o → o ≡ none
      go none q = refl
      go (some p) q = absurd (no_number q)

  pub all_read : (of : List ℕ) (next : ℕ) → length ends ≤ 8 → Some (of, next) ≡ fields_of text at ends → AllRead text at ends of next
  unfolding fields_of
  all_read of next h e = go (fields_at text at ends) refl e
    where
      go : (o : maybe.Option (List ℕ × ℕ)) → fields_at text at ends ≡ o → Some (of, next) ≡ read_to (replicate 8 0) 0 o → AllRead text at ends of next
      go none s q = absurd (no_number (sym q))
      go (some p) s q =
          let parts = some-parts q in
          let found = s ∙ ap (λ (k : ℕ). some (p.0, k)) (sym parts.1) in
          let stand = fields_read text ends at p.0 next found in
          record {
            numbers = p.0;
            found = found;
            stand = stand;
            looked = λ i. ap (λ (g : List ℕ). get_or g i 0) parts.0 ∙ stored p.0 (omega (arith, stand.count, h)) i;
          }
