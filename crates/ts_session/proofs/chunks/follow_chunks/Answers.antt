-- The reader takes the bytes step by step, up to the end of the body.
use Rattle.std.proofs.Common.{ap, arith, drop, length, subst, sym, take, ◌∙◌}
use Rattle.std.specs.List.{slice_range}
use Rattle.std.proofs.lemmas.List.{length-drop}
use Rattle.ts_wire.specs.Place.{GivesBody, GoesOn}
use Rattle.ts_session.proofs.Following.{feeds_some, followed_all, followed_end, followed_never, followed_none}
use Rattle.ts_session.proofs.Following.{followed_on}
use Rattle.ts_session.proofs.chunks.follow_chunks.Goals as goal

pub chunks-init : goal.chunks-init
chunks-init c = record {
  within = omega arith;
  so = followed_none c.args.reader.now c.args.bytes.now;
  room = omega arith;
}

pub chunks-preserved : goal.chunks-preserved
chunks-preserved c =
    let fed = c.feed-fed in
    let n = fed.result.taken in
    let goes = subst (λ b. GoesOn c.chunks.reader fed.new.self (take n b) (slice_range b fed.result.from fed.result.to))
    c.split_at.ensures.back fed.ensures.goes_on in
    record {
      within = omega (
        arith,
        fed.ensures.takes.taken,
        ap length c.split_at.ensures.back,
        length-drop c.chunks.at c.args.bytes.now,
        c.chunks-test.true,
      );
      so = followed_on c.args.reader.now c.chunks.reader fed.new.self c.args.bytes.now
          (slice_range (drop c.chunks.at c.args.bytes.now) fed.result.from fed.result.to) c.chunks.at n
          c.chunks.invariant.so goes (sym fed.ensures.takes.state ∙ c.in-Unfinished.is);
      room = omega (arith, c.chunks.invariant.room, fed.ensures.room);
    }

pub chunks-smaller : goal.chunks-smaller
chunks-smaller c =
    let fed = c.feed-fed in
    let some = feeds_some c.chunks.reader fed.new.self c.split_at.result.1.now fed.result fed.ensures.takes
    fed.ensures.stays c.in-Unfinished.is
    (omega (
      arith,
      ap length c.split_at.ensures.back,
      length-drop c.chunks.at c.args.bytes.now,
      c.chunks-test.true,
    )) in
    omega (arith, some, c.chunks-test.true)

pub returns-in-Ended-clause-follows : goal.returns-in-Ended-clause-follows
returns-in-Ended-clause-follows c =
    let fed = c.feed-fed in
    let n = fed.result.taken in
    let goes = subst (λ b. GoesOn c.chunks.reader fed.new.self (take n b) (slice_range b fed.result.from fed.result.to))
    c.split_at.ensures.back fed.ensures.goes_on in
    followed_end c.args.reader.now c.chunks.reader fed.new.self c.args.bytes.now
    (slice_range (drop c.chunks.at c.args.bytes.now) fed.result.from fed.result.to) c.chunks.at n
    c.chunks.invariant.so goes (sym fed.ensures.takes.state ∙ c.in-Ended.is)

pub returns-in-Ended-clause-within : goal.returns-in-Ended-clause-within
returns-in-Ended-clause-within c =
    omega (
      arith,
      c.feed-fed.ensures.takes.taken,
      ap length c.split_at.ensures.back,
      length-drop c.chunks.at c.args.bytes.now,
      c.chunks-test.true,
    )

pub returns-in-Ended-clause-room : goal.returns-in-Ended-clause-room
returns-in-Ended-clause-room c = omega (arith, c.chunks.invariant.room, c.feed-fed.ensures.room)

pub returns-in-Bad-clause-follows : goal.returns-in-Bad-clause-follows
returns-in-Bad-clause-follows c =
    let fed = c.feed-fed in
    let n = fed.result.taken in
    let goes = subst (λ b. GoesOn c.chunks.reader fed.new.self (take n b) (slice_range b fed.result.from fed.result.to))
    c.split_at.ensures.back fed.ensures.goes_on in
    let gives = subst (λ b. GivesBody c.chunks.reader (take n b) (slice_range b fed.result.from fed.result.to)
    fed.result.state) c.split_at.ensures.back fed.ensures.body in
    followed_never c.args.reader.now c.chunks.reader fed.new.self c.args.bytes.now
    (slice_range (drop c.chunks.at c.args.bytes.now) fed.result.from fed.result.to) c.chunks.at n
    c.chunks.invariant.so goes
    (subst (GivesBody c.chunks.reader (take n (drop c.chunks.at c.args.bytes.now))
    (slice_range (drop c.chunks.at c.args.bytes.now) fed.result.from fed.result.to)) c.in-Bad.is gives)

pub returns-in-Bad-clause-room : goal.returns-in-Bad-clause-room
returns-in-Bad-clause-room c = omega (arith, c.chunks.invariant.room, c.feed-fed.ensures.room)

pub returns-clause-follows : goal.returns-clause-follows
returns-clause-follows c =
    followed_all c.args.reader.now c.chunks.reader c.args.bytes.now c.chunks.at c.chunks.invariant.so
    (omega (arith, c.chunks-test.false))

pub returns-clause-room : goal.returns-clause-room
returns-clause-room c = c.chunks.invariant.room
