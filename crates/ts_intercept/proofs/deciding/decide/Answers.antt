-- An answer is no longer than the longest.
use Rattle.std.proofs.Common.{◌≡◌, ◌≤◌, Some, length, ap, arith, length-append, rules}
use Rattle.ts_wire.specs.Check.{plugin_host}
use Rattle.ts_intercept.specs.Deciding.{HasHead}
use Rattle.ts_intercept.specs.Limits.{most_held}
use Rattle.ts_intercept.specs.Served.{host_in, is_for, line_for, room_of}
use Rattle.ts_intercept.proofs.Lengths.{longest_found}
use Rattle.ts_intercept.proofs.deciding.decide.Goals as goal

pub returns-clause-room : goal.returns-clause-room
returns-clause-room c = λ few.
    let lines = c.args.lines.now in
    let head = c.in-Some.head.now in
    let line = c.in-Some-2.line.now in
    let has : HasHead c.args.text.now head = c.in-Some.ensures in
    let short : length head ≤ most_held = omega (
      arith,
      few,
      ap length has.text_is,
      length-append head
          has.rest,
    ) in
    let room : length c.in_ok-answer.answer.items ≤ room_of line.kind = c.in_ok-answer.ensures.room short in
    let found : line_for lines head ≡ Some line = search rules in
    omega (arith, room, longest_found (is_for (plugin_host (host_in head))) lines line found)
