-- What the functions of this crate ask of their callers: no promise to a caller of the readers. Assumes nothing.
use Rattle.std.specs.Prelude.{◌^◌, ◌<◌}
use Rattle.reading.specs.declared.Difference.{Difference}

-- both so small that the difference is an `i64`
abbrev pub Small : Difference → Type 0
Small d = (d.0 < 2 ^ 62) × (d.1 < 2 ^ 62)
