-- How a fold goes about it: where the record of a bundle stands among those that are left, and what is put there. Assumes nothing.
use Rattle.std.specs.Prelude.{ℕ, suc, cond, List, [], ◌∷◌, Option, None, Some, eqb, ltb, get_or}
use Rattle.record.specs.Record.{no_record, whole_record}
use Rattle.record.specs.declared.Record.{Record}
use Rattle.fold.specs.Fold.{has, as_whole}

-- the first place of a number among some, or the one after them
abbrev pub first_place : List ℕ → ℕ → ℕ
first_place [] k = 0
first_place (j ∷ js) k = cond (eqb j k) 0 (suc (first_place js k))

-- what is kept of a bundle's place while records of these are left: none where it has none
abbrev pub kept_place : List ℕ → ℕ → Option ℕ
kept_place ks k = cond (has k ks) (Some (first_place ks k)) None

-- the record that is left of a bundle, by the one that was, if any, and the record that is folded in
abbrev pub kept_of : Option Record → Record → Record
kept_of (Some first) last = whole_record first.party first.bundle first.old last.new
kept_of None last = as_whole last

-- the record at a place, where it is one of so many that are left
abbrev pub left_at : List Record → ℕ → ℕ → Option Record
left_at records at left = cond (ltb at left) (Some (get_or records at no_record)) None
