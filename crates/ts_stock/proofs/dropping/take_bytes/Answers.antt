use Rattle.std.proofs.Common.{◌≡◌, ◌≤◌, ◌+◌, ◌-◌, ◌++◌, length, take, drop, length-take-le, length-drop, sym, ap, ◌∙◌, arith}
use Rattle.ts_config.specs.Bodies.{without_byte}
use Rattle.ts_stock.proofs.Runs.{run_stays, front_grows, filled_grows}
use Rattle.ts_stock.proofs.dropping.take_bytes.Goals as goal

pub returns-clause-up_to : goal.returns-clause-up_to
returns-clause-up_to c =
    let input = c.args.input.now in
    let byte = c.args.byte in
    let done = c.args.written.done in
    let start = c.args.start in
    let end = c.args.end in
    let bounds = c.requires.within in
    let before = c.requires.up_to in
    let room = c.write_run-filled.new.room in
    let filled = c.write_run-filled.result in
    let kept = c.drop_bytes-kept.result in
    let run : length (take (start - done) (drop done input)) ≡ start - done =
    length-take-le (start - done) (drop done input)
    (omega (arith, bounds.0, bounds.1, length-drop done input)) in
    let rest : length (take (end - start) (drop start input)) ≡ end - start =
    length-take-le (end - start) (drop start input)
    (omega (arith, bounds.0, bounds.1, length-drop start input)) in
    let sum : filled ≡ c.args.written.filled + (start - done) =
    c.write_run-filled.ensures.count ∙ ap (λ n. c.args.written.filled + n) run in
    let fits : filled ≤ length room =
    omega (
      arith,
      sum,
      before.order,
      bounds.0,
      bounds.1,
      bounds.2,
      before.within,
      c.write_run-filled.auto.room,
    ) in
    let stays : kept ≤ length c.drop_bytes-kept.new.room =
    omega (
      arith,
      c.drop_bytes-kept.ensures.within,
      c.drop_bytes-kept.auto.room,
      rest,
      sum,
      before.order,
      bounds.0,
      bounds.1,
      bounds.2,
      before.within,
      c.write_run-filled.auto.room,
      length-drop filled room,
      length-take-le (length room - filled) (drop filled room),
    ) in
    record {
      order = omega arith;
      free = λ k from until same. absurd (omega (arith, from, until));
      within = omega (
        arith,
        sum,
        before.order,
        bounds.0,
        before.within,
        rest,
        c.drop_bytes-kept.ensures.within,
      );
      bytes = filled_grows filled kept (length room - filled) room c.drop_bytes-kept.new.room fits stays
          ∙ ap (λ t. t ++ take kept c.drop_bytes-kept.new.room) (c.write_run-filled.ensures.bytes
          ∙ ap (λ t. t ++ take (start - done) (drop done input)) before.bytes
          ∙ sym (run_stays byte done start input before.order
          (omega (arith, bounds.0, bounds.1)) before.free))
          ∙ ap (λ t. without_byte byte (take start input) ++ t) c.drop_bytes-kept.ensures.bytes
          ∙ sym (front_grows byte start end input bounds.0);
    }
