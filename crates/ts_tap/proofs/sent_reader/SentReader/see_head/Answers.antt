-- A line of a head was seen.
use Rattle.std.proofs.Common.{List, [], ◌++◌, ℕ, sym, ap, subst, ◌∙◌, arith, take-append-drop}
use Rattle.ts_tap.specs.Sending.{FollowsEnd, IsOneLine, SeesFront, Sent}
use Rattle.ts_tap.proofs.Seeing.{sees_head}
use Rattle.ts_tap.proofs.sent_reader.SentReader.see_head.Goals as goal

pub returns : goal.returns
returns c =
    let s = c.self.inside in
    let line = c.split_at.result.0.now in
    let rest = c.split_at.result.1.now in
    let tail = c.keep_last.new.tail.items in
    let part = c.part_behind-self-inside.result in
    let old : Sent = record { part = s.part; tail = s.tail.items; chunks = s.chunks } in
    let new : Sent = record { part = part; tail = tail; chunks = s.chunks } in
    let one : IsOneLine line = subst IsOneLine (sym c.split_at.ensures.front) c.line_len.ensures.line in
    let follows : FollowsEnd tail part =
    subst (λ (l : List ℕ). FollowsEnd l part) c.deref.ensures.value c.part_behind-self-inside.ensures in
    subst (λ (o : Sent). SeesFront o new c.args.bytes.now [] rest) c.self.view_is (record {
      front = line;
      whole = sym (take-append-drop c.line_len.result c.args.bytes.now)
          ∙ (λ i. sym c.split_at.ensures.front i ++ sym c.split_at.ensures.back i);
      some = omega (arith, c.split_at.ensures.front_len, c.line_len.ensures.some);
      within = omega arith;
      sees = sees_head old line tail one c.keep_last.ensures.tail part follows
          (ap (λ (o : Sent). o.part) c.self.view_is ∙ c.requires.part);
    })
