-- The chain tests each byte with those of either.
use Rattle.std.proofs.Common.{◌∙◌, rules}
use borrow.Author.Tests.{tests}
use Rattle.std.proofs.lemmas.Iterator.{YieldsList-from_slice, YieldsList-from_zip}
use Rattle.std.proofs.lemmas.Iterator.Search.{all_from_yields_List}
use Rattle.bundle.specs.Bytes.{bytes}
use Rattle.redo.proofs.States.{bytes-are, is_either, mixed-pairs}
use Rattle.redo.proofs.state.is_mixed.Goals as goal

pub returns : goal.returns
returns c =
    let now = bytes-are c.args.now in
    let old = bytes-are c.args.old in
    let new = bytes-are c.args.new in
    all_from_yields_List is_either c.all.new.self _ c.all.result c.all.ensures.ran
    (YieldsList-from_zip (YieldsList-from_slice (bytes 8 c.args.now) (cc)) (YieldsList-from_zip (YieldsList-from_slice (bytes 8 c.args.old) (cc)) (YieldsList-from_slice (bytes 8 c.args.new) (cc))))
    (λ x b q k. search (rules, tests))
    ∙ mixed-pairs 8 c.args.now c.args.old c.args.new
