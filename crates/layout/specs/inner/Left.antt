-- The windows that an iterator over a layout's lines has left. Assumes nothing.
use Rattle.std.specs.Prelude.{ℕ, List}
use Rattle.layout.specs.Read.{windows_at}
use Rattle.layout.specs.declared.walk.Windows.{Windows}

abbrev pub windows_left : Windows → List ℕ
windows_left w = windows_at w.text.now w.at w.left
