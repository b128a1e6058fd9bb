-- What the contract of `run` allows for one input is one result, with the same records, code and output. Assumes nothing.
use Rattle.std.proofs.Common.{◌≡◌, ℕ, List, sym, ap, ◌∙◌}
use Rattle.record.specs.declared.Record.{Record}
use Rattle.records.proofs.Sharing.{sharing-injective}
use Rattle.script.specs.Script.{PartOutcome, ran_of}
use Rattle.script.specs.declared.Ran.{Ran}

pub run-unique : {o : PartOutcome} (r s : Ran) (rs qs : List Record) (code other out put : List ℕ) → ran_of r rs code out ≡ o → ran_of s qs other put ≡ o
    → (r ≡ s) × (rs ≡ qs) × (code ≡ other) × (out ≡ put)
run-unique r s rs qs code other out put e f =
    let same = e ∙ sym f in
    let kept = sharing-injective r.counts s.counts rs qs (ap (λ (o : PartOutcome). o.journal) same) in (
      λ i. record { counts = kept.0 i; next = (same i).next; stopped = (same i).stopped; done = (same i).done; length = (same i).length },
      kept.1,
      ap (λ (o : PartOutcome). o.code) same,
      ap (λ (o : PartOutcome). o.out) same,
    )
