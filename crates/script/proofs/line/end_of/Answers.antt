-- The line ends after the first newline, or with the text. Assumes nothing.
use Rattle.std.proofs.Common.{ℕ, suc, ◌-◌, List, length, take, drop, subst, arith, length-drop, length-take}
use lib.Seq.{take_all}
use Rattle.memchr.specs.Find.{IsFirstByte, is_byte}
use Rattle.std.specs.Prelude.{Option, Some, None}
use Rattle.text.specs.Ascii.{newline}
use Rattle.script.specs.inner.Going.{index_of}
use Rattle.script.proofs.Lines.{index-found, index-none}
use Rattle.script.proofs.line.end_of.Goals as goal

-- the part that is looked through is what is left of the text
whole-is : (text : List ℕ) (at : ℕ) (r : Option ℕ) → IsFirstByte (is_byte newline) (take (length text - at) (drop at text)) r → IsFirstByte (is_byte newline) (drop at text) r
whole-is text at r = subst (λ (t : List ℕ). IsFirstByte (is_byte newline) t r) (take_all (length text - at) (drop at text) (omega (arith, length-drop at text)))

pub returns-in-Some : goal.returns-in-Some
returns-in-Some c =
    let text = c.args.text.now in
    let at = c.args.at in
    let t = drop at text in
    let found = whole-is text at (Some c.in-Some.last) c.in-Some.ensures in
    let is = index-found newline t c.in-Some.last found.0.high found.1 found.0.before in
    omega (arith, is, found.0.high, length-take (suc (index_of newline t)) t)

pub returns-in-None : goal.returns-in-None
returns-in-None c =
    let text = c.args.text.now in
    let at = c.args.at in
    let t = drop at text in
    let is = index-none newline t (whole-is text at None c.in-None.ensures) in
    omega (arith, is, c.requires, length-take (suc (index_of newline t)) t, length-drop at text)
