-- The line stops the script, or its act is done. Assumes nothing.
use Rattle.std.proofs.Common.{◌^◌, ◌<◌, length, sym, ◌∙◌, rules}
use Rattle.script.proofs.Turns.{stopped-right, gone-right}
use Rattle.script.proofs.run_line.Goals as goal

pub returns-in_default : goal.returns-in_default
returns-in_default c =
    let a = c.args in
    let next-fits : a.state.ran.next < 2 ^ 64 = search rules in
    let short : length a.out.now < 2 ^ 64 = search rules in
    stopped-right a.party a.state a.records.now a.code.now a.out.now _ c.requires.0 c.requires.1 c.requires.3 next-fits short _ _
    (sym c.turn_at-turn.ensures.0 ∙ c.in_default.is) c.stop.ensures.0 c.stop.ensures.1

pub returns-in-Ok : goal.returns-in-Ok
returns-in-Ok c =
    let a = c.args in
    let next-fits : a.state.ran.next < 2 ^ 64 = search rules in
    let short : length a.out.now < 2 ^ 64 = search rules in
    gone-right a.party a.state a.records.now a.code.now a.out.now _ c.requires.0 c.requires.1 c.requires.3 next-fits short _ _ _ _ _ _ _ _ _
    (sym c.turn_at-turn.ensures.0 ∙ c.in-Some.is) c.in-Ok.ensures.0 c.in-Ok.ensures.1 c.turn_at-turn.ensures.1 c.go_on.ensures.0 c.go_on.ensures.1

pub returns-in-Err : goal.returns-in-Err
returns-in-Err c =
    let a = c.args in
    let next-fits : a.state.ran.next < 2 ^ 64 = search rules in
    let short : length a.out.now < 2 ^ 64 = search rules in
    let put = rw c.number.ensures at c.go_on-in-Err.ensures.1 in
    gone-right a.party a.state a.records.now a.code.now a.out.now _ c.requires.0 c.requires.1 c.requires.3 next-fits short _ _ _ _ _ _ _ _ _
    (sym c.turn_at-turn.ensures.0 ∙ c.in-Some.is) c.in-Err.ensures.0 c.in-Err.ensures.1 c.turn_at-turn.ensures.1 c.go_on-in-Err.ensures.0 put
