-- A turn reads a byte, which has room, or ends.
use Rattle.std.proofs.Common.{◌≡◌, refl, sym, ◌∙◌, arith, length-set}
use native.Mathlib.Nat.{sub-zero, zero-add}
use Rattle.std.specs.Slice.Iter.{chunks_rest, chunks_size}
use Rattle.hex_text.specs.Hex.{decoded_of}
use Rattle.hex_text.proofs.Turns.{cut, turn, stopped, ended}
use Rattle.hex_text.proofs.decode.Goals as goal

pub loop-three-init : goal.loop-three-init
unfolding decoded_of
loop-three-init c =
    let size : chunks_size c.into_iter-three-iterator.result ≡ 3 = cc in
    let all : chunks_rest c.into_iter-three-iterator.result ≡ c.args.text.now = cc in
    (size, omega arith, refl, rw (all, sub-zero, zero-add))

pub bounds-out-count : goal.bounds-out-count
bounds-out-count c =
    let l = c.loop-three in
    let s = c.in-Some.ensures.steps in
    let k = cut (chunks_rest l.three-iterator) c.in-Some.three.now (chunks_rest c.next.new.self) s.1.0 (rw l.invariant.0 at s.1.1) in
    (turn c.args.out.now l.out (chunks_rest l.three-iterator) l.count l.invariant.2 c.in-Ok.byte (sym (k.alike _) ∙ sym c.in-Ok.ensures)).room

pub loop-three-preserved : goal.loop-three-preserved
loop-three-preserved c =
    let l = c.loop-three in
    let s = c.in-Some.ensures.steps in
    let k = cut (chunks_rest l.three-iterator) c.in-Some.three.now (chunks_rest c.next.new.self) s.1.0 (rw l.invariant.0 at s.1.1) in
    let t = turn c.args.out.now l.out (chunks_rest l.three-iterator) l.count l.invariant.2 c.in-Ok.byte (sym (k.alike _) ∙ sym c.in-Ok.ensures) in
    (s.0 ∙ l.invariant.0, omega (arith, t.room), length-set l.out l.count _ ∙ l.invariant.2, rw k.others (l.invariant.3 ∙ t.read))

pub returns-in-Err : goal.returns-in-Err
returns-in-Err c =
    let l = c.loop-three in
    let s = c.in-Some.ensures.steps in
    let k = cut (chunks_rest l.three-iterator) c.in-Some.three.now (chunks_rest c.next.new.self) s.1.0 (rw l.invariant.0 at s.1.1) in
    stopped c.args.out.now l.out (chunks_rest l.three-iterator) l.count l.invariant.2 c.in-Err.ending (sym (k.alike _) ∙ sym c.in-Err.ensures) ∙ sym l.invariant.3

pub returns : goal.returns
returns c =
    let l = c.loop-three in
    ended c.args.out.now l.out (chunks_rest l.three-iterator) l.count l.invariant.2 c.in-None.ensures.steps.1.0 ∙ sym l.invariant.3
